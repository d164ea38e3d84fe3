-- Planes of cells and cells of planes: each bit of the planes of cells, and that each way undoes the other.
-- Assumes nothing.
use Prim.Native.Nat.{ℕ, ◌+◌, ◌-◌, ◌*◌, ◌/◌, ◌%◌, ◌≤◌, ◌<◌}
use mathlib.Core.Path.{◌≡◌, refl, sym, ap, ap₂, subst, ◌∙◌}
use mathlib.Core.Bool.{true}
use mathlib.Core.List.{List}
use native.Mathlib.Nat.{mul_comm, div-add-mod'}
use native.Mathlib.Decide.{dec_lt}
use native.Mathlib.Omega.{arith}
use lib.Arith.{digits_div, digits_mod, digits_lt}
use lib.Dec.{eqb}
use lib.ListN.{length, get_or}
use lib.Seq.{ext_get_or}
use borrow.Author.Tests.{lt-ltb, le-ltb, le-leb, leb-true, eqb-true, eq-eqb}
use Rattle.arith.specs.Run.{upto}
use Rattle.arith.specs.Sum.{sum_below, indicator}
use Rattle.arith.proofs.FirstLaws.{first_is}
use Rattle.arith.proofs.RunLaws.{upto_length, upto_at}
use Rattle.arith.proofs.SumLaws.{indicator_one, indicator_none, sum_same, sum_constant, sum_split, sum_blocks, sum_met}
use Rattle.arith.proofs.TallyLaws.{indicator_le, tally_places}
use Rattle.plates.specs.Masks.{mask, bit}
use Rattle.plates.specs.Planes.{row_bytes, planes_length, cells_length, cell_at, bit_at, in_plane, plane_byte, planes_byte, planes_of, planes_with, colorant_of, cells_of, colorants_only, pixels_once, padding_clear}
use Rattle.plates.specs.Laws.{PlaneBit, bits_set, PlaneTally, Admitted, CellsBack, PlanesBack, UnpackedTally}
use Rattle.arith.proofs.EveryLaws.{every_passes, every_made}
use Rattle.plates.proofs.MaskLaws.{bit_of_sum, sum_of_bits}
use Rattle.plates.proofs.PlaceLaws.{place_row, place_column, plane_of, row_in_plane}
use Rattle.plates.proofs.BitLaws.{first_below_lem, first_is_it}

-- ---- the bits of the planes of cells

-- byte b of row y of plane p stands where the layout has it
pub byte_placed : (columns rows : ℕ) (cells : List ℕ) (p y b : ℕ) → y < rows → b < row_bytes columns
    → planes_byte columns rows cells ((p * rows + y) * row_bytes columns + b) ≡ plane_byte columns (cell_at columns cells y) p b
unfolding planes_byte
byte_placed columns rows cells p y b row l = rw (digits_div (p * rows + y) l, digits_mod (p * rows + y) l, digits_div p row, digits_mod p row) refl

module _ (columns rows : ℕ) (cells : List ℕ) (p y : ℕ) (plane : p < 8) (row : y < rows) where
  byte_at : (b : ℕ) → b < row_bytes columns
      → get_or (planes_of columns rows cells) ((p * rows + y) * row_bytes columns + b) 0 ≡ plane_byte columns (cell_at columns cells y) p b
  unfolding planes_of
  byte_at b l = upto_at _ (planes_length columns rows) _ (digits_lt (digits_lt plane row) l) ∙ byte_placed columns rows cells p y b row l

  bit_of : (x : ℕ) → x < 8 * row_bytes columns
      → bit_at (row_bytes columns) (planes_of columns rows cells) (p * rows + y) x ≡ indicator (in_plane columns (cell_at columns cells y) p x)
  unfolding bit_at plane_byte
  bit_of x l =
      let whole : 8 * (x / 8) + x % 8 ≡ x = omega arith in
      ap (λ (byte : ℕ). bit byte x) (byte_at (x / 8) (omega arith))
      ∙ subst
      (λ (z : ℕ). bit (sum_below 8 (λ t. indicator (in_plane columns (cell_at columns cells y) p (8 * (x / 8) + t)) * mask (8 * (x / 8) + t))) z
      ≡ indicator (in_plane columns (cell_at columns cells y) p z))
      whole
      (bit_of_sum (x / 8) (λ t. indicator (in_plane columns (cell_at columns cells y) p (8 * (x / 8) + t))) (λ t. indicator_le (in_plane columns (cell_at columns cells y) p (8 * (x / 8) + t))) (x % 8) (omega arith))

  -- of a column, and of the padding
  bit_inside : (x : ℕ) → x < columns → bit_at (row_bytes columns) (planes_of columns rows cells) (p * rows + y) x ≡ indicator (eqb (cell_at columns cells y x) p)
  bit_inside x l = bit_of x (omega arith) ∙ rw (lt-ltb x columns l)

  bit_padding : (t : ℕ) → t < 8 * row_bytes columns - columns → bit_at (row_bytes columns) (planes_of columns rows cells) (p * rows + y) (columns + t) ≡ 0
  bit_padding t l = bit_of (columns + t) (omega arith) ∙ rw (le-ltb (columns + t) columns (omega arith))

pub plane_bit : PlaneBit
plane_bit columns rows cells p y x k l m = bit_of columns rows cells p y k l x m

-- ---- a plane's bits and a colorant's tally

pub plane_tally : PlaneTally
unfolding bits_set
plane_tally columns rows cells size p k =
    sum_same rows _ _
    (λ y l.
    ap (λ (n : ℕ). sum_below n (λ x. bit_at (row_bytes columns) (planes_of columns rows cells) (p * rows + y) x)) (width columns)
    ∙ sum_split columns (8 * row_bytes columns - columns) _
    ∙ omega (
      arith,
      sum_same columns _ (λ x. indicator (eqb (cell_at columns cells y x) p)) (λ x m. bit_inside columns rows cells p y k l x m),
      sum_constant (8 * row_bytes columns - columns) 0 (λ t. bit_at (row_bytes columns) (planes_of columns rows cells) (p * rows + y) (columns + t)) (λ t m. bit_padding columns rows cells p y k l t m),
    ))
    ∙ sym (sum_blocks rows columns (λ i. indicator (eqb (get_or cells i 0) p)))
    ∙ ap (λ (n : ℕ). sum_below n (λ i. indicator (eqb (get_or cells i 0) p))) (mul_comm rows columns ∙ sym size)
    ∙ sym (tally_places p cells)
  where
    width : (columns : ℕ) → 8 * row_bytes columns ≡ columns + (8 * row_bytes columns - columns)
    width columns = omega arith

-- ---- from cells to planes and back

-- where packing is not refused, each cell is the number of a plane
pub colorant_low : (cells : List ℕ) (i : ℕ) → colorants_only cells ≡ true → i < length cells → get_or cells i 0 < 8
unfolding colorants_only
colorant_low cells i only l = omega (arith, leb-true (get_or cells i 0) 7 (every_passes (length cells) _ only i l))

module _ (columns rows : ℕ) (cells : List ℕ) (size : length cells ≡ cells_length columns rows) (only : colorants_only cells ≡ true) where
  colorant_below : (y x : ℕ) → y < rows → x < columns → cell_at columns cells y x < 8
  colorant_below y x k l = colorant_low cells (y * columns + x) only (omega (arith, digits_lt k l))

  -- each pixel is in the one plane of its cell
  in_one_plane : (y x : ℕ) → y < rows → x < columns → planes_with (row_bytes columns) rows (planes_of columns rows cells) y x ≡ 1
  unfolding planes_with
  in_one_plane y x k l =
      sum_same 8 _ (λ p. indicator (eqb (cell_at columns cells y x) p)) (λ p m. bit_inside columns rows cells p y m k x l)
      ∙ sum_met 8 (cell_at columns cells y x) (colorant_below y x k l)

  -- which is the first that it is in
  cell_back : (y x : ℕ) → y < rows → x < columns → colorant_of (row_bytes columns) rows (planes_of columns rows cells) y x ≡ cell_at columns cells y x
  unfolding colorant_of
  cell_back y x k l =
      let v : ℕ = cell_at columns cells y x in
      let low = colorant_below y x k l in
      first_is 8 (λ p. eqb (bit_at (row_bytes columns) (planes_of columns rows cells) (p * rows + y) x) 1) v low
      (eq-eqb _ 1 (bit_inside columns rows cells v y low k x l ∙ indicator_one {a = v} {b = v} refl))
      (λ p m.
      let clear : bit_at (row_bytes columns) (planes_of columns rows cells) (p * rows + y) x ≡ 0 = bit_inside columns rows cells p y (omega arith) k x l ∙ indicator_none {a = v} {b = p} (λ q. omega arith) in
      rw clear)

  cells_once : pixels_once columns rows (planes_of columns rows cells) ≡ true
  unfolding pixels_once
  cells_once = every_made rows _ (λ y k. every_made columns _ (λ x l. eq-eqb _ 1 (in_one_plane y x k l)))

  cells_clear : padding_clear columns rows (planes_of columns rows cells) ≡ true
  unfolding padding_clear
  cells_clear =
      every_made (8 * rows) _
      (λ r k.
      every_made (8 * row_bytes columns - columns) _
      (λ t l.
      eq-eqb _ 0
      (ap (λ (z : ℕ). bit_at (row_bytes columns) (planes_of columns rows cells) z (columns + t)) (sym (div-add-mod' r rows))
      ∙ bit_padding columns rows cells (r / rows) (r % rows) (plane_of rows r k) (row_in_plane rows r k) t l)))

  cells_whole : cells_of columns rows (planes_of columns rows cells) ≡ cells
  unfolding cells_of
  cells_whole =
      let run : ℕ → ℕ = λ i. colorant_of (row_bytes columns) rows (planes_of columns rows cells) (i / columns) (i % columns) in
      let long = upto_length run (cells_length columns rows) in
      ext_get_or 0 (upto run (cells_length columns rows)) cells (long ∙ sym size)
      (λ i l.
      let m : i < columns * rows = omega arith in
      upto_at run (cells_length columns rows) i m
      ∙ cell_back (i / columns) (i % columns) (place_row columns rows i m) (place_column columns rows i m)
      ∙ ap (λ (z : ℕ). get_or cells z 0) (div-add-mod' i columns))

pub cells_back : CellsBack
cells_back columns rows cells size only = (cells_once columns rows cells size only, cells_clear columns rows cells size only, cells_whole columns rows cells size only)

-- ---- from planes to cells and back

pub bit_most : (bytes : ℕ) (planes : List ℕ) (r x : ℕ) → bit_at bytes planes r x ≤ 1
unfolding bit_at
bit_most bytes planes r x = omega arith

module _ (columns rows : ℕ) (planes : List ℕ) (a : Admitted columns rows planes) where
  module _ (y : ℕ) (row : y < rows) where
    in_one : (x : ℕ) → x < columns → sum_below 8 (λ p. bit_at (row_bytes columns) planes (p * rows + y) x) ≡ 1
    unfolding pixels_once planes_with
    in_one x l = eqb-true _ 1 (every_passes columns _ (every_passes rows _ a.once y row) x l)

    cell_of_lem : (x : ℕ) → x < columns → cell_at columns (cells_of columns rows planes) y x ≡ colorant_of (row_bytes columns) rows planes y x
    unfolding cells_of
    cell_of_lem x l =
        upto_at _ (cells_length columns rows) (y * columns + x) (omega (arith, digits_lt row l))
        ∙ ap₂ (colorant_of (row_bytes columns) rows planes) (digits_div y l) (digits_mod y l)

    -- each bit comes back, of a column and of the padding
    bit_back : (p x : ℕ) → p < 8 → x < 8 * row_bytes columns
        → indicator (in_plane columns (cell_at columns (cells_of columns rows planes) y) p x) ≡ bit_at (row_bytes columns) planes (p * rows + y) x
    unfolding colorant_of padding_clear
    bit_back p x k m = go (dec_lt x columns)
      where
        go : Dec (x < columns) → indicator (in_plane columns (cell_at columns (cells_of columns rows planes) y) p x) ≡ bit_at (row_bytes columns) planes (p * rows + y) x
        go (yes l) =
            rw (lt-ltb x columns l, cell_of_lem x l)
            (first_is_it (λ q. bit_at (row_bytes columns) planes (q * rows + y) x) (λ q. bit_most (row_bytes columns) planes (q * rows + y) x) 8 (in_one x l) p k)
        go (no l) =
            let past : columns + (x - columns) ≡ x = omega arith in
            let none : bit_at (row_bytes columns) planes (p * rows + y) (columns + (x - columns)) ≡ 0 = eqb-true _ 0 (every_passes (8 * row_bytes columns - columns) _ (every_passes (8 * rows) _ a.clear (p * rows + y) (digits_lt k row)) (x - columns) (omega arith)) in
            rw (le-ltb x columns (omega arith)) (sym (rw past at none))

    byte_back : (p b : ℕ) → p < 8 → b < row_bytes columns
        → plane_byte columns (cell_at columns (cells_of columns rows planes) y) p b ≡ get_or planes ((p * rows + y) * row_bytes columns + b) 0
    unfolding plane_byte bit_at
    byte_back p b k l =
        let byte : ℕ = get_or planes ((p * rows + y) * row_bytes columns + b) 0 in
        sum_same 8 _ (λ t. bit byte (8 * b + t) * mask (8 * b + t))
        (λ t m.
        let here : (8 * b + t) / 8 ≡ b = omega arith in
        ap (λ (v : ℕ). v * mask (8 * b + t))
        (bit_back p (8 * b + t) k (omega arith)
        ∙ ap (λ (c : ℕ). bit (get_or planes ((p * rows + y) * row_bytes columns + c) 0) (8 * b + t)) here))
        ∙ sum_of_bits b byte (a.bytes ((p * rows + y) * row_bytes columns + b))

  planes_whole : planes_of columns rows (cells_of columns rows planes) ≡ planes
  unfolding planes_of planes_byte
  planes_whole =
      let run : ℕ → ℕ = planes_byte columns rows (cells_of columns rows planes) in
      let long = upto_length run (planes_length columns rows) in
      ext_get_or 0 (upto run (planes_length columns rows)) planes (long ∙ sym a.size)
      (λ i l.
      let m : i < 8 * rows * row_bytes columns = omega arith in
      let r : ℕ = i / row_bytes columns in
      let k : r < 8 * rows = place_row (row_bytes columns) (8 * rows) i (rw mul_comm m) in
      upto_at run (planes_length columns rows) i m
      ∙ byte_back (r % rows) (row_in_plane rows r k) (r / rows) (i % row_bytes columns) (plane_of rows r k) (place_column (row_bytes columns) (8 * rows) i (rw mul_comm m))
      ∙ ap (λ (z : ℕ). get_or planes (z * row_bytes columns + i % row_bytes columns) 0) (div-add-mod' r rows)
      ∙ ap (λ (z : ℕ). get_or planes z 0) (div-add-mod' i (row_bytes columns)))

  -- each cell is the number of a plane
  cells_only : colorants_only (cells_of columns rows planes) ≡ true
  unfolding colorants_only cells_of colorant_of
  cells_only =
      let run : ℕ → ℕ = λ i. colorant_of (row_bytes columns) rows planes (i / columns) (i % columns) in
      let long = upto_length run (cells_length columns rows) in
      every_made (length (upto run (cells_length columns rows))) _
      (λ i l.
      let m : i < columns * rows = omega arith in
      let y : ℕ = i / columns in
      let x : ℕ = i % columns in
      let low = first_below_lem (λ q. bit_at (row_bytes columns) planes (q * rows + y) x) (λ q. bit_most (row_bytes columns) planes (q * rows + y) x) 8 (in_one y (place_row columns rows i m) x (place_column columns rows i m)) in
      le-leb (get_or (upto run (cells_length columns rows)) i 0) 7 (omega (arith, upto_at run (cells_length columns rows) i m, low)))

pub planes_back : PlanesBack
planes_back columns rows planes a = (cells_only columns rows planes a, planes_whole columns rows planes a)

pub unpacked_tally : UnpackedTally
unfolding cells_of
unpacked_tally columns rows planes a p k =
    ap (λ (l : List ℕ). bits_set columns rows l p) (sym (planes_whole columns rows planes a))
    ∙ plane_tally columns rows (cells_of columns rows planes) (upto_length _ (cells_length columns rows)) p k
