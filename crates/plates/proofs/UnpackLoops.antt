-- The loops of unpacking, over plain numbers and lists: the eight bytes of a place are added up and joined, the places of a row that pass are counted, and cells are written place by place and row by row.
-- Assumes nothing.
use Prim.Native.Nat.{ℕ, zero, suc, ◌+◌, ◌-◌, ◌*◌, ◌/◌, ◌%◌, ◌≤◌, ◌<◌}
use mathlib.Core.Path.{◌≡◌, refl, sym, ap, ◌∙◌}
use mathlib.Core.Bool.{Bool, true, false, ◌&&◌, and-false}
use mathlib.Core.List.{List}
use native.Mathlib.Nat.{add-zero, zero-add}
use native.Mathlib.Decide.{dec_lt}
use native.Mathlib.Omega.{arith}
use lib.Arith.{digits_div, digits_mod}
use lib.Bits.{bit_or}
use lib.Dec.{eqb}
use lib.ListN.{length, get_or, take, drop}
use borrow.Author.Tests.{eqb-true, ne_eqb, lt-ltb, le-ltb}
use borrow.Rule.Slice.PartMut.{put_mid, same_len_mid}
use Rattle.std.specs.Int.{from_bool}
use Rattle.std.specs.List.{fold, list_all, range_with_len, sum_by}
use Rattle.std.proofs.lemmas.List.Sums.{sum_by_from}
use Rattle.arith.proofs.RefusalLaws.{both_pass}
use Rattle.arith.specs.Every.{every}
use Rattle.arith.specs.Run.{upto}
use Rattle.arith.specs.Sum.{sum_below, indicator}
use Rattle.arith.proofs.EveryLaws.{every_is, every_same, every_passes, every_fails}
use Rattle.arith.proofs.RunLaws.{Filling, filling_length, filling_part, part_length, upto_length, upto_at, upto_same, upto_is, put_before, put_within}
use Rattle.arith.proofs.SumLaws.{sum_same, sum_shift}
use Rattle.arith.proofs.TallyLaws.{indicator_le, every_counted}
use Rattle.plates.specs.Planes.{row_bytes, cells_length, colorant_of, cells_of}
use Rattle.plates.specs.Places.{byte_at, planes_at, once_at, row_once, full_mask, Unpackable, Roomy, WrittenTo, colorant_at, row_of}
use Rattle.plates.proofs.PlaceLaws.{row_ends}
use Rattle.plates.proofs.SoundLaws.{pixel_once}
use Rattle.plates.proofs.UnionLaws.{union_below, once_by_sums}
use Rattle.plates.proofs.ColorantLaws.{colorant_at_place}

-- ---- a range

-- a chain that asks whether all numbers below n pass
pub all_numbers : (n : ℕ) (passes : ℕ → Bool) → list_all passes (range_with_len 0 n) ≡ every n passes
all_numbers n passes = every_is n passes _ (λ e i l. ap passes (sym (zero-add i)) ∙ only n 0 e i l) (λ h. made n 0 (λ i l. ap passes (zero-add i) ∙ h i l))
  where
    only : (m a : ℕ) → list_all passes (range_with_len a m) ≡ true → (i : ℕ) → i < m → passes (a + i) ≡ true
    only zero a e i l = absurd (omega arith)
    only (suc m) a e zero l = ap passes (let same : a + 0 ≡ a = omega arith in same) ∙ (both_pass _ _ e).0
    only (suc m) a e (suc i) l = ap passes (let same : a + suc i ≡ a + 1 + i = omega arith in same) ∙ (only m (a + 1) (both_pass _ _ e).1 i (omega arith))

    made : (m a : ℕ) → ((i : ℕ) → i < m → passes (a + i) ≡ true) → list_all passes (range_with_len a m) ≡ true
    made zero a h = refl
    made (suc m) a h = let here : passes a ≡ true = ap passes (let same : a ≡ a + 0 = omega arith in same) ∙ h 0 (omega arith) in rw (here, made m (a + 1) (λ i l. ap passes (let same : a + 1 + i ≡ a + suc i = omega arith in same) ∙ h (suc i) (omega arith))) refl

-- and one that adds up what all numbers below n give
pub sum_numbers : (n : ℕ) (gives : ℕ → ℕ) → sum_by gives (range_with_len 0 n) ≡ sum_below n gives
unfolding sum_below
sum_numbers n gives = go n 0 ∙ sum_same n _ _ (λ i l. ap gives (zero-add i))
  where
    go : (m a : ℕ) → sum_by gives (range_with_len a m) ≡ sum_below m (λ i. gives (a + i))
    go zero a = refl
    go (suc m) a =
        let same : sum_below m (λ i. gives (a + 1 + i)) ≡ sum_below m (λ i. gives (a + suc i)) = sum_same m _ _ (λ i l. ap gives (omega arith)) in
        let here : sum_by gives (range_with_len a (suc m)) ≡ 0 + gives a + sum_by gives (range_with_len (a + 1) m) = sum_by_from gives (0 + gives a) (range_with_len (a + 1) m) in
        omega (arith, here, go m (a + 1), same, sum_shift m (λ i. gives (a + i)), ap gives (add-zero a))

-- ---- a place

-- the bytes of the eight planes are added up and joined by a fold
pub sums_told : (plane : ℕ) (planes : List ℕ) (place pixels : ℕ) → pixels ≤ 8 → ((q : ℕ) → byte_at plane planes place q < 256)
    → eqb (fold {A = ℕ} {B = ℕ × ℕ} (λ a p. (a.0 + byte_at plane planes place p, bit_or a.1 (byte_at plane planes place p))) (0, 0) (range_with_len 0 8)).0 (full_mask pixels)
    && eqb (fold {A = ℕ} {B = ℕ × ℕ} (λ a p. (a.0 + byte_at plane planes place p, bit_or a.1 (byte_at plane planes place p))) (0, 0) (range_with_len 0 8)).1 (full_mask pixels)
    ≡ once_at plane planes place pixels
unfolding once_at planes_at sum_below union_below
sums_told plane planes place pixels few low = once_by_sums (byte_at plane planes place) low pixels few

-- ---- the places of a row

-- past the eighth it does not matter how many pixels a place has
once_full : (plane : ℕ) (planes : List ℕ) (place pixels : ℕ) → 8 ≤ pixels → once_at plane planes place 8 ≡ once_at plane planes place pixels
unfolding once_at
once_full plane planes place pixels h = every_same 8 _ _ (λ t l. rw (lt-ltb t 8 l, lt-ltb t pixels (omega arith)) refl)

-- and one that passes for fewer than eight does not pass for eight
once_fewer : (plane : ℕ) (planes : List ℕ) (place pixels : ℕ) → pixels < 8 → once_at plane planes place pixels ≡ true → once_at plane planes place 8 ≡ false
unfolding once_at
once_fewer plane planes place pixels few e =
    let none : planes_at plane planes place pixels ≡ 0 = eqb-true _ _ (every_passes 8 _ e pixels few) ∙ ap indicator (le-ltb pixels pixels (omega arith)) in
    every_fails 8 _ pixels few (rw (lt-ltb pixels 8 few) (ne_eqb (planes_at plane planes place pixels) 1 (λ one. omega arith)))

-- a test's number
one_or_none : (test : Bool) → from_bool test ≡ indicator test
one_or_none true = refl
one_or_none false = refl

pub one_at_most : (test : Bool) → from_bool test ≤ 1
one_at_most test = rw (one_or_none test) (indicator_le test)

-- so many of the first b places pass for eight pixels
pub record FullAt (columns plane : ℕ) (planes : List ℕ) (start passed b : ℕ) : Type 0 where
  pub within : b ≤ row_bytes columns
  pub tells : passed ≡ sum_below b (λ k. indicator (once_at plane planes (start + k) 8))

module _ {columns plane : ℕ} {planes : List ℕ} {start passed b : ℕ} (s : FullAt columns plane planes start passed b) (h : row_bytes columns ≤ b) where
  -- each place of eight pixels passes exactly where as many of them pass as there are,
  eights : every (columns / 8) (λ k. once_at plane planes (start + k) (columns - 8 * k))
      ≡ eqb (sum_below (columns / 8) (λ k. indicator (once_at plane planes (start + k) 8))) (columns / 8)
  eights =
      every_same (columns / 8) _ _ (λ k l. sym (once_full plane planes (start + k) (columns - 8 * k) (omega arith)))
      ∙ sym (every_counted (columns / 8) (λ k. once_at plane planes (start + k) 8))

  -- and there the row ends, or with one place more
  pub full_end : columns % 8 ≡ 0 → eqb passed (columns / 8) ≡ row_once columns plane planes start
  unfolding row_once
  full_end e =
      let all : b ≡ columns / 8 = omega (arith, s.within) in
      let bytes : row_bytes columns ≡ columns / 8 = omega arith in
      rw (s.tells, bytes, all) (sym eights)

  pub full_last : (columns % 8 ≡ 0 → ⊥) → {r : Bool} → r ≡ once_at plane planes (start + columns / 8) (columns % 8)
      → eqb passed (columns / 8) && r ≡ row_once columns plane planes start
  unfolding sum_below every row_once
  full_last some {r} e =
      let next : row_bytes columns ≡ suc (columns / 8) = omega arith in
      let all : b ≡ suc (columns / 8) = omega (arith, s.within) in
      let left : columns - 8 * (columns / 8) ≡ columns % 8 = omega arith in
      rw (s.tells, next, all, left, ← e, eights)
      (go _ _ r (λ q. ap indicator (once_fewer plane planes (start + columns / 8) (columns % 8) (omega arith) (sym e ∙ q))))
    where
      go : (count more : ℕ) (r : Bool) → (r ≡ true → more ≡ 0) → eqb (count + more) (columns / 8) && r ≡ eqb count (columns / 8) && r
      go count more true none = rw (none refl, add-zero count) refl
      go count more false none = and-false (eqb (count + more) (columns / 8)) ∙ sym (and-false (eqb count (columns / 8)))

-- a chain that counts those of all places comes to the row's end
module _ (columns plane : ℕ) (planes : List ℕ) (start : ℕ) {passed : ℕ}
    (e : passed ≡ sum_by (λ b. from_bool (once_at plane planes (start + b) 8)) (range_with_len 0 (row_bytes columns))) where
  counted : FullAt columns plane planes start passed (row_bytes columns)
  counted =
      record {
        within = omega arith;
        tells = e ∙ sum_numbers (row_bytes columns) _ ∙ sum_same (row_bytes columns) _ _ (λ k l. one_or_none (once_at plane planes (start + k) 8));
      }

  pub counted_end : columns % 8 ≡ 0 → eqb passed (columns / 8) ≡ row_once columns plane planes start
  counted_end none = full_end counted (omega arith) none

  pub counted_last : (columns % 8 ≡ 0 → ⊥) → {r : Bool} → r ≡ once_at plane planes (start + columns / 8) (columns % 8)
      → eqb passed (columns / 8) && r ≡ row_once columns plane planes start
  counted_last some last = full_last counted (omega arith) some last

-- ---- the pixels of a row

-- the pixels of a place are lent and come back written
pub row_part : (plane : ℕ) (planes : List ℕ) (start b : ℕ) {out₀ out : List ℕ} → Filling (row_of plane planes start) out₀ out (8 * b)
    → (pixels : ℕ) (part : List ℕ) → pixels ≤ 8 → 8 * b + pixels ≤ length out₀
    → part ≡ upto (colorant_at plane planes (start + b)) (length (take (8 * b + pixels - 8 * b) (drop (8 * b) out)))
    → Filling (row_of plane planes start) out₀ (put_mid (8 * b) (8 * b + pixels - 8 * b) out part) (8 * b + pixels)
row_part plane planes start b {out₀} {out} s pixels part few room e =
    filling_part s pixels part room
    (e
    ∙ rw (part_length (8 * b) pixels out (omega (arith, filling_length s)))
    (upto_same _ _ pixels
    (λ t l.
    let quotient : (8 * b + t) / 8 ≡ b = omega arith in
    let remainder : (8 * b + t) % 8 ≡ t = omega arith in
    rw (quotient, remainder) refl)))

-- ---- the rows

module _ (columns rows : ℕ) where
  -- all rows but the last have room for eight pixels at their last place, where two rows have it,
  roomy_most : {roomy : ℕ} → 8 * row_bytes columns ≤ 2 * columns → roomy ≡ rows - 1 → Roomy columns rows roomy (8 * row_bytes columns)
  roomy_most wide e =
      record { within = omega arith; least = omega arith; most = omega arith; room = λ y l. omega (arith, row_ends rows columns (y + 1) (omega arith)) }

  roomy_none : {roomy : ℕ} → roomy ≡ 0 → Roomy columns rows roomy (8 * row_bytes columns)
  roomy_none e = record { within = omega arith; least = omega arith; most = omega arith; room = λ y l. absurd (omega arith) }

  -- so that they may be written first, or none of them
  pub roomy_told : (roomy : ℕ) → (0 < roomy → 8 * row_bytes columns ≤ 2 * columns) → (0 < roomy → roomy ≡ rows - 1)
      → Roomy columns rows roomy (8 * row_bytes columns)
  roomy_told roomy wide many = go (dec_lt 0 roomy)
    where
      go : Dec (0 < roomy) → Roomy columns rows roomy (8 * row_bytes columns)
      go (yes some) = roomy_most (wide some) (many some)
      go (no none) = roomy_none (omega arith)

  -- and each has room for its columns
  pub roomy_own : Roomy columns rows rows columns
  roomy_own = record { within = omega arith; least = omega arith; most = omega arith; room = λ y l. omega (arith, row_ends rows columns y l) }

module _ {columns rows : ℕ} {planes : List ℕ} where
  pub written_start : (cells : List ℕ) → length cells ≡ cells_length columns rows → WrittenTo columns rows planes cells 0
  written_start cells size = record { size = size; there = λ i l. absurd (omega arith) }

  module _ {cells : List ℕ} {n : ℕ} (s : WrittenTo columns rows planes cells n) where
    pub written_fewer : (m : ℕ) → m ≤ n → WrittenTo columns rows planes cells m
    written_fewer m h = record { size = s.size; there = λ i l. s.there i (omega arith) }

    pub written_end : cells_length columns rows ≤ n → cells ≡ cells_of columns rows planes
    unfolding cells_of
    written_end h = upto_is _ (cells_length columns rows) cells s.size (λ i l. s.there i (omega arith))

    -- so many pixels of the next row are lent
    pub written_part : {to pixels : ℕ} → Roomy columns rows to pixels → (y : ℕ) → y < to
        → length (take (y * columns + pixels - y * columns) (drop (y * columns) cells)) ≡ pixels
    written_part {to} {pixels} roomy y l = part_length (y * columns) pixels cells (omega (arith, roomy.room y l, s.size))

  -- ONE ROW MORE: so many of its pixels are lent and come back written, of which its columns are the first
  pub written_row : (given : Unpackable columns rows planes) {to pixels : ℕ} → Roomy columns rows to pixels → (y : ℕ) (cells part : List ℕ) → y < to
      → part ≡ upto (row_of (rows * row_bytes columns) planes (y * row_bytes columns)) pixels → WrittenTo columns rows planes cells (y * columns)
      → WrittenTo columns rows planes (put_mid (y * columns) (y * columns + pixels - y * columns) cells part) (y * columns + columns)
  written_row given {to} {pixels} roomy y cells part row e s =
      record {
        size = same_len_mid (y * columns) (y * columns + pixels - y * columns) cells part (long ∙ sym (written_part s roomy y row)) ∙ s.size;
        there = λ i l. go i l (dec_lt i (y * columns));
      }
    where
      long : length part ≡ pixels
      long = rw e (upto_length _ pixels)

      room : y * columns + pixels ≤ length cells
      room = omega (arith, roomy.room y row, s.size)

      go : (i : ℕ) → i < y * columns + columns → Dec (i < y * columns)
          → get_or (put_mid (y * columns) (y * columns + pixels - y * columns) cells part) i 0 ≡ colorant_of (row_bytes columns) rows planes (i / columns) (i % columns)
      go i l (yes b) = put_before (y * columns) (y * columns + pixels - y * columns) cells part (omega (arith, room)) i b ∙ s.there i b
      go i l (no b) =
          let x : ℕ = i - y * columns in
          let within : x < columns = omega arith in
          let here : i ≡ y * columns + x = omega arith in
          rw (here, digits_div y within, digits_mod y within)
          (put_within (y * columns) (y * columns + pixels - y * columns) cells part (omega (arith, room)) x (omega (arith, long, roomy.least))
          ∙ rw e (upto_at _ pixels x (omega (arith, roomy.least)))
          ∙ colorant_at_place columns rows planes y x (pixel_once columns rows planes given y x (omega (arith, roomy.within)) within))
