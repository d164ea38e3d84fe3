-- Rules 8.1 to 8.6: the eight planes of a window's cells, and the cells of eight planes.
-- Assumes nothing: these are definitions.
use Rattle.std.specs.Prelude.{ℕ, ◌+◌, ◌-◌, ◌*◌, ◌/◌, ◌%◌, Bool, ◌&&◌, List, length, get_or, leb, ltb, eqb}
use Rattle.arith.specs.First.{first_below}
use Rattle.arith.specs.Rounding.{rounded_up}
use Rattle.arith.specs.Run.{upto}
use Rattle.arith.specs.Sum.{sum_below, indicator}
use Rattle.arith.specs.Every.{every}
use Rattle.plates.specs.Masks.{mask, bit}

-- ---- the layout

-- rule 8.1: the bytes of a row
abbrev pub row_bytes : ℕ → ℕ
row_bytes columns = rounded_up columns 8

-- How many bytes the planes and the cells have. The planes are 8 × R rows one after the other; row y of plane p is row p × R + y of these.
abbrev pub planes_length : ℕ → ℕ → ℕ
planes_length columns rows = 8 * rows * row_bytes columns

abbrev pub cells_length : ℕ → ℕ → ℕ
cells_length columns rows = columns * rows

-- the cell of (x, y), the cells standing row by row
abbrev pub cell_at : ℕ → List ℕ → ℕ → ℕ → ℕ
cell_at columns cells y x = get_or cells (y * columns + x) 0

-- the bit of pixel x in a row of the planes, each row having so many bytes
unfoldable pub bit_at : ℕ → List ℕ → ℕ → ℕ → ℕ
bit_at bytes planes row x = bit (get_or planes (row * bytes + x / 8) 0) x

-- ---- packing

-- whether pixel x of a row with so many columns is one of them and has the colorant p
abbrev pub in_plane : ℕ → (ℕ → ℕ) → ℕ → ℕ → Bool
in_plane columns cell p x = ltb x columns && eqb (cell x) p

-- Rules 8.2 and 8.5, byte b of a row of plane p: the masks of those of its eight pixels that have the colorant p.
-- Rule 8.4: a pixel past the row's columns adds no mask.
unfoldable pub plane_byte : ℕ → (ℕ → ℕ) → ℕ → ℕ → ℕ
plane_byte columns cell p b = sum_below 8 (λ t. indicator (in_plane columns cell p (8 * b + t)) * mask (8 * b + t))

-- byte i of the planes is byte i % row_bytes of row i / row_bytes, which is row y of plane p
unfoldable pub planes_byte : ℕ → ℕ → List ℕ → ℕ → ℕ
planes_byte columns rows cells i =
    plane_byte columns (cell_at columns cells (i / row_bytes columns % rows)) (i / row_bytes columns / rows) (i % row_bytes columns)

unfoldable pub planes_of : ℕ → ℕ → List ℕ → List ℕ
planes_of columns rows cells = upto (planes_byte columns rows cells) (planes_length columns rows)

-- ---- unpacking

-- in how many planes pixel (x, y) is
unfoldable pub planes_with : ℕ → ℕ → List ℕ → ℕ → ℕ → ℕ
planes_with bytes rows planes y x = sum_below 8 (λ p. bit_at bytes planes (p * rows + y) x)

-- rule 8.6: the number of the first plane that pixel (x, y) is in, which is its colorant; 8 where it is in none
unfoldable pub colorant_of : ℕ → ℕ → List ℕ → ℕ → ℕ → ℕ
colorant_of bytes rows planes y x = first_below 8 (λ p. eqb (bit_at bytes planes (p * rows + y) x) 1)

unfoldable pub cells_of : ℕ → ℕ → List ℕ → List ℕ
cells_of columns rows planes =
    upto (λ i. colorant_of (row_bytes columns) rows planes (i / columns) (i % columns)) (cells_length columns rows)

-- ---- what may be packed and unpacked

-- no byte is above 7
unfoldable pub colorants_only : List ℕ → Bool
colorants_only cells = every (length cells) (λ i. leb (get_or cells i 0) 7)

-- each pixel is in exactly one plane
unfoldable pub pixels_once : ℕ → ℕ → List ℕ → Bool
pixels_once columns rows planes = every rows (λ y. every columns (λ x. eqb (planes_with (row_bytes columns) rows planes y x) 1))

-- the bits past the last column are 0, in each row of each plane
unfoldable pub padding_clear : ℕ → ℕ → List ℕ → Bool
padding_clear columns rows planes =
    every (8 * rows) (λ r. every (8 * row_bytes columns - columns) (λ t. eqb (bit_at (row_bytes columns) planes r (columns + t)) 0))
