-- The loops of packing, over plain numbers and lists: a word is added up cell by cell, stored byte by byte, and the planes are filled place by place.
-- Assumes nothing.
use Prim.Native.Nat.{ℕ, zero, suc, ◌+◌, ◌-◌, ◌*◌, ◌/◌, ◌%◌, ◌^◌, ◌≤◌, ◌<◌, max}
use mathlib.Core.Path.{◌≡◌, refl, sym, ap, subst, ◌∙◌}
use mathlib.Core.Bool.{true, cond}
use mathlib.Core.List.{List, [], ◌∷◌}
use mathlib.Core.Logic.{◌⊎◌, inl, inr}
use native.Mathlib.Nat.{le_of_suc-le-suc, eq-or-lt_of_le, add_assoc, zero-mul, div-one, ne_of_lt, div-add-mod', mod-lt, div-lt_iff_lt-mul}
use native.Mathlib.Numerals.{add-one}
use native.Mathlib.Decide.{dec_lt}
use native.Mathlib.Omega.{arith}
use lib.Arith.{digits_lt}
use lib.Dec.{eqb, ltb, leb}
use lib.ListN.{length, get_or, set, take, drop}
use mir.Syntax.{w64}
use Rattle.std.specs.Int.{to_le_bytes}
use Rattle.std.specs.List.{fold}
use lib.Pow.{shl_exact}
use borrow.Author.Tests.{lt-ltb, le-ltb, le-leb, leb-true}
use Rattle.arith.specs.Sum.{sum_below, indicator}
use Rattle.arith.proofs.EveryLaws.{every_is, every_made, every_passes}
use Rattle.arith.proofs.RunLaws.{upto_is, part_length, part_at}
use Rattle.arith.proofs.SumLaws.{sum_same, sum_front}
use Rattle.plates.specs.Masks.{mask}
use Rattle.plates.specs.Planes.{row_bytes, planes_length, cell_at, in_plane, plane_byte, planes_byte, planes_of, colorants_only}
use Rattle.plates.specs.Places.{byte_of, word_of, stored, Packable, PackedTo}
use Rattle.plates.proofs.MaskLaws.{each, mask_small, mask_repeats}
use Rattle.plates.proofs.PlaceLaws.{row_ends}
use Rattle.plates.proofs.PlaneLaws.{byte_placed, colorant_low}
use Rattle.plates.proofs.WordLaws.{word_below, byte_of_word, stored_length, stored_there, stored_else}

-- ---- the highest cell

-- the highest of some cells and a number
abbrev pub highest_of : ℕ → List ℕ → ℕ
highest_of = fold (λ highest cell. max cell highest)

-- it is within a bound where the number and each cell is, and only there
highest_bound : (bound start : ℕ) (cells : List ℕ) → highest_of start cells ≤ bound → (start ≤ bound) × ((i : ℕ) → i < length cells → get_or cells i 0 ≤ bound)
highest_bound bound start [] h = (h, λ i l. absurd (omega arith))
highest_bound bound start (cell ∷ cells) h =
    let rest = highest_bound bound (max cell start) cells h in
    (omega (arith, rest.0), go rest)
  where
    go : (max cell start ≤ bound) × ((i : ℕ) → i < length cells → get_or cells i 0 ≤ bound)
        → (i : ℕ) → i < length (cell ∷ cells) → get_or (cell ∷ cells) i 0 ≤ bound
    go rest zero l = omega (arith, rest.0)
    go rest (suc i) l = rest.1 i (omega arith)

highest_made : (bound start : ℕ) (cells : List ℕ) → start ≤ bound → ((i : ℕ) → i < length cells → get_or cells i 0 ≤ bound) → highest_of start cells ≤ bound
highest_made bound start [] h each = h
highest_made bound start (cell ∷ cells) h each =
    highest_made bound (max cell start) cells (omega (arith, each 0 (omega arith))) (λ i l. each (suc i) (omega arith))

pub highest_tells : (cells : List ℕ) → leb (highest_of 0 cells) 7 ≡ colorants_only cells
unfolding colorants_only
highest_tells cells =
    every_is (length cells) _ _ (λ e i l. le-leb _ _ ((highest_bound 7 0 cells (leb-true _ _ e)).1 i l))
    (λ all. le-leb _ _ (highest_made 7 0 cells (omega arith) (λ i l. leb-true _ _ (all i l))))

-- ---- the word

-- a colorant's bytes are shifted by eight digits each
byte_shifted : (v : ℕ) → v < 8 → 2 ^ (8 * v) ≡ 256 ^ v
byte_shifted = each (λ v. 2 ^ (8 * v) ≡ 256 ^ v) refl refl refl refl refl refl refl refl

-- a mask, shifted so within 64 digits,
abbrev pub shifted : ℕ → ℕ → ℕ
shifted m v = m * 2 ^ (8 * v) % 18446744073709551616

-- is the mask times 256 to the power of the colorant
mask_at : (m v : ℕ) → m < 256 → v < 8 → shifted m v ≡ m * 256 ^ v
mask_at m v h l = shl_exact {a = m} 8 (8 * v) 64 h (omega arith) ∙ ap (λ (k : ℕ). m * k) (byte_shifted v l)

-- the first t pixels are added
pub record WordAt (cell : ℕ → ℕ) (pixels word t : ℕ) : Type 0 where
  pub within : t ≤ pixels
  pub sum : word ≡ word_of cell t

pub word_start : (cell : ℕ → ℕ) (pixels : ℕ) → WordAt cell pixels 0 0
unfolding word_of sum_below
word_start cell pixels = record { within = omega arith; sum = refl }

module _ {cell : ℕ → ℕ} {pixels word t : ℕ} (s : WordAt cell pixels word t) where
  module _ (low : (i : ℕ) → i < pixels → cell i < 8) (l : t < pixels) (m : ℕ) (e : m ≡ mask t) where
    word_more : word + shifted m (cell t) ≡ word_of cell (t + 1)
    unfolding word_of sum_below
    word_more = rw (add-one t, e, mask_at (mask t) (cell t) (mask_small t) (low t l)) (ap (λ (n : ℕ). n + mask t * 256 ^ cell t) s.sum)

    pub word_fits : pixels ≤ 8 → word + shifted m (cell t) < 18446744073709551616
    word_fits few = rw word_more (word_below cell (t + 1) (λ i k. low i (omega arith)) (omega arith))

    pub word_next : WordAt cell pixels (word + shifted m (cell t)) (t + 1)
    word_next = record { within = omega arith; sum = word_more }

-- ---- a part of the cells

module _ (cells : List ℕ) (first pixels : ℕ) (inside : first + pixels ≤ length cells) where
  abbrev part : List ℕ
  part = take (first + pixels - first) (drop first cells)

  pub part_colorants : colorants_only cells ≡ true → colorants_only part ≡ true
  unfolding colorants_only
  part_colorants only =
      every_made (length part) _
      (λ i l.
      let long = part_length first pixels cells inside in
      rw (part_at first (first + pixels) cells i (omega (arith, long)))
      (every_passes (length cells) _ only (first + i) (omega (arith, long))))

  pub part_word : word_of (λ t. get_or part t 0) (length part) ≡ word_of (λ t. get_or cells (first + t) 0) pixels
  unfolding word_of
  part_word =
      rw (part_length first pixels cells inside)
      (sum_same pixels _ _ (λ t l. ap (λ (cell : ℕ). mask t * 256 ^ cell) (part_at first (first + pixels) cells t (omega arith))))

-- ---- its bytes

-- they are those that the language's method gives
pub byte_stored : (word p : ℕ) → p < 8 → get_or (to_le_bytes w64 word) p 0 ≡ byte_of word p
byte_stored word = each (λ p. get_or (to_le_bytes w64 word) p 0 ≡ byte_of word p) (rw (div-one word) refl) refl refl refl refl refl refl refl

-- the first p bytes are stored
pub record StoringAt (word plane place : ℕ) (planes₀ planes : List ℕ) (p : ℕ) : Type 0 where
  pub within : p ≤ 8
  pub there : planes ≡ stored word plane place planes₀ p

pub storing_start : (word plane place : ℕ) (planes : List ℕ) → StoringAt word plane place planes planes 0
unfolding stored
storing_start word plane place planes = record { within = omega arith; there = refl }

module _ {word plane place : ℕ} {planes₀ planes : List ℕ} {p : ℕ} (s : StoringAt word plane place planes₀ planes p) where
  pub storing_step : p < 8 → {byte : ℕ} → byte ≡ get_or (to_le_bytes w64 word) p 0 → StoringAt word plane place planes₀ (set planes (p * plane + place) byte) (p + 1)
  unfolding stored
  storing_step l e = record { within = omega arith; there = rw (add-one p, e, byte_stored word p l, s.there) }

-- ---- place by place

-- the same place, otherwise written
pub packed_at : {columns rows : ℕ} {cells planes : List ℕ} {i j : ℕ} → PackedTo columns rows cells planes i → i ≡ j → PackedTo columns rows cells planes j
packed_at {columns} {rows} {cells} {planes} s e = subst (PackedTo columns rows cells planes) e s

module _ (columns rows : ℕ) (cells : List ℕ) where
  pub packed_start : (planes : List ℕ) → length planes ≡ planes_length columns rows → PackedTo columns rows cells planes 0
  packed_start planes size = record { size = size; there = λ p i k l. absurd (omega arith) }

  module _ (given : Packable columns rows cells) (y b pixels : ℕ) (row : y < rows) (few : pixels ≤ 8)
      (inside : 8 * b + pixels ≤ columns) (whole : (pixels ≡ 8) ⊎ (8 * b + pixels ≡ columns)) where
    -- the cells of the place
    abbrev cell : ℕ → ℕ
    cell t = get_or cells (y * columns + 8 * b + t) 0

    cells_low : (t : ℕ) → t < pixels → cell t < 8
    cells_low t l = colorant_low cells (y * columns + 8 * b + t) given.only (omega (arith, given.long, row_ends rows columns y row))

    -- byte p of their word is the plane's byte
    packed_byte : (p : ℕ) → p < 8 → byte_of (word_of cell pixels) p ≡ plane_byte columns (cell_at columns cells y) p b
    unfolding plane_byte
    packed_byte p l =
        byte_of_word cell pixels cells_low few p l
        ∙ sym (sum_front 8 pixels (λ t. indicator (eqb (cell t) p) * mask t) few)
        ∙ sum_same 8 _ _ (λ t k. go t k whole (dec_lt t pixels))
      where
        go : (t : ℕ) → t < 8 → (pixels ≡ 8) ⊎ (8 * b + pixels ≡ columns) → Dec (t < pixels)
            → cond (ltb t pixels) (indicator (eqb (cell t) p) * mask t) 0 ≡ indicator (in_plane columns (cell_at columns cells y) p (8 * b + t)) * mask (8 * b + t)
        go t k w (yes h) = rw (lt-ltb t pixels h, lt-ltb (8 * b + t) columns (omega arith), mask_repeats b t, add_assoc (y * columns) (8 * b) t) refl
        go t k (inl e) (no h) = absurd (omega arith)
        go t k (inr e) (no h) = rw (le-ltb t pixels (omega arith), le-ltb (8 * b + t) columns (omega arith)) (sym (zero-mul (mask (8 * b + t))))

    -- where it stands in the planes
    abbrev place : ℕ
    place = y * row_bytes columns + b

    planes_byte_lem : b < row_bytes columns → (p : ℕ) → planes_byte columns rows cells (p * (rows * row_bytes columns) + place) ≡ plane_byte columns (cell_at columns cells y) p b
    planes_byte_lem h p =
        let there : p * (rows * row_bytes columns) + place ≡ (p * rows + y) * row_bytes columns + b = omega arith in
        rw there (byte_placed columns rows cells p y b row h)

    -- ONE PLACE MORE
    pub packed_next : {planes : List ℕ} → b < row_bytes columns → PackedTo columns rows cells planes place
        → PackedTo columns rows cells (stored (word_of cell pixels) (rows * row_bytes columns) place planes 8) (place + 1)
    packed_next {planes} h s =
        record {
          size = stored_length word plane place planes 8 ∙ s.size;
          there = λ p i k l. go p i k (eq-or-lt_of_le (le_of_suc-le-suc (rw (add-one place) at l)));
        }
      where
        plane : ℕ
        plane = rows * row_bytes columns

        word : ℕ
        word = word_of cell pixels

        room : place < plane
        room = digits_lt row h

        go : (p i : ℕ) → p < 8 → (i ≡ place) ⊎ (i < place) → get_or (stored word plane place planes 8) (p * plane + i) 0 ≡ planes_byte columns rows cells (p * plane + i)
        go p i k (inl e) =
            rw e (stored_there word plane place planes 8 p (omega (arith, s.size)) room k ∙ packed_byte p k ∙ sym (planes_byte_lem h p))
        go p i k (inr l) = stored_else word plane place planes 8 p i room (omega (arith, room)) (ne_of_lt l) ∙ s.there p i k l

  -- at the end of the planes
  pub packed_end : {planes : List ℕ} → PackedTo columns rows cells planes (rows * row_bytes columns) → planes ≡ planes_of columns rows cells
  unfolding planes_of
  packed_end {planes} s =
      upto_is _ (planes_length columns rows) planes s.size
      (λ i l.
      let plane : ℕ = rows * row_bytes columns in
      let within : i < 8 * plane = omega arith in
      let some : 0 < plane = omega arith in
      ap (λ (k : ℕ). get_or planes k 0) (sym (div-add-mod' i plane))
      ∙ s.there (i / plane) (i % plane) ((div-lt_iff_lt-mul {k = plane} some).1 within) (mod-lt i some)
      ∙ ap (planes_byte columns rows cells) (div-add-mod' i plane))
