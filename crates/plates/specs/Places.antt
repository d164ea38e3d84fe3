-- Rules 8.1 to 8.6, place by place. A place: a byte of each of the eight planes, which hold the same eight neighbouring pixels, or a row's last. Both calls go from place to place.
-- Assumes nothing: these are definitions.
use Rattle.std.specs.Prelude.{ℕ, zero, suc, ◌+◌, ◌-◌, ◌*◌, ◌/◌, ◌%◌, ◌^◌, ◌≤◌, ◌<◌, ◌≡◌, Bool, true, ◌&&◌, List, ltb, eqb, length, get_or, set}
use Rattle.arith.specs.Every.{every}
use Rattle.arith.specs.Sum.{sum_below, indicator}
use Rattle.plates.specs.Masks.{mask, bit}
use Rattle.plates.specs.Planes.{row_bytes, planes_length, cells_length, planes_byte, colorants_only, colorant_of, pixels_once, padding_clear}

-- the byte of plane p at a place, each plane having so many bytes
abbrev pub byte_at : ℕ → List ℕ → ℕ → ℕ → ℕ
byte_at plane planes place p = get_or planes (p * plane + place) 0

-- ---- packing

-- the first pixels of a place in one number: the mask of each is added to the byte that has its colorant's number
unfoldable pub word_of : (ℕ → ℕ) → ℕ → ℕ
word_of cell pixels = sum_below pixels (λ t. mask t * 256 ^ cell t)

-- byte p of a number
abbrev pub byte_of : ℕ → ℕ → ℕ
byte_of word p = word / 256 ^ p % 256

-- the planes with the first bytes of a number stored, byte p in plane p
unfoldable pub stored : ℕ → ℕ → ℕ → List ℕ → ℕ → List ℕ
stored word plane place planes zero = planes
stored word plane place planes (suc p) = set (stored word plane place planes p) (p * plane + place) (byte_of word p)

-- what may be packed
pub record Packable (columns rows : ℕ) (cells : List ℕ) : Type 0 where
  pub wide : columns ≤ 65536
  pub long : length cells ≡ cells_length columns rows
  pub only : colorants_only cells ≡ true

-- the places before one are packed, in each plane
pub record PackedTo (columns rows : ℕ) (cells planes : List ℕ) (place : ℕ) : Type 0 where
  pub size : length planes ≡ planes_length columns rows
  pub there : (p i : ℕ) → p < 8 → i < place → byte_at (rows * row_bytes columns) planes i p ≡ planes_byte columns rows cells (p * (rows * row_bytes columns) + i)

-- ---- unpacking

-- in how many planes pixel t of a place is
unfoldable pub planes_at : ℕ → List ℕ → ℕ → ℕ → ℕ
planes_at plane planes place t = sum_below 8 (λ p. bit (byte_at plane planes place p) t)

-- whether each of a place's first pixels is in exactly one plane, and each after them in none
unfoldable pub once_at : ℕ → List ℕ → ℕ → ℕ → Bool
once_at plane planes place pixels = every 8 (λ t. eqb (planes_at plane planes place t) (indicator (ltb t pixels)))

-- the same of the places of a row, given where it begins: its columns' pixels are in one plane, and padding in none
unfoldable pub row_once : ℕ → ℕ → List ℕ → ℕ → Bool
row_once columns plane planes start = every (row_bytes columns) (λ b. once_at plane planes (start + b) (columns - 8 * b))

-- the masks of a place's first pixels, added up
unfoldable pub full_mask : ℕ → ℕ
full_mask pixels = sum_below pixels mask

-- what may be unpacked
pub record Unpackable (columns rows : ℕ) (planes : List ℕ) : Type 0 where
  pub wide : columns ≤ 65536
  pub long : length planes ≡ planes_length columns rows
  pub sound : pixels_once columns rows planes && padding_clear columns rows planes ≡ true

-- so many pixels of each row before row `to` have room in the cells: its columns at least, and at most eight at its last place
pub record Roomy (columns rows to pixels : ℕ) : Type 0 where
  pub within : to ≤ rows
  pub least : columns ≤ pixels
  pub most : pixels ≤ 8 * row_bytes columns
  pub room : (y : ℕ) → y < to → y * columns + pixels ≤ cells_length columns rows

-- the first n cells are written; of the others nothing is said
pub record WrittenTo (columns rows : ℕ) (planes cells : List ℕ) (n : ℕ) : Type 0 where
  pub size : length cells ≡ cells_length columns rows
  pub there : (i : ℕ) → i < n → get_or cells i 0 ≡ colorant_of (row_bytes columns) rows planes (i / columns) (i % columns)

-- no pixel, and no bit of padding, is in two planes
abbrev pub Apart : ℕ → List ℕ → Type 0
Apart plane planes = (place t : ℕ) → place < plane → planes_at plane planes place t ≤ 1

-- the numbers of the planes that pixel t of a place is in, added up: its colorant where it is in one plane, and 0 where it is in none
unfoldable pub colorant_at : ℕ → List ℕ → ℕ → ℕ → ℕ
colorant_at plane planes place t = sum_below 8 (λ p. p * bit (byte_at plane planes place p) t)

-- the colorants of a row's pixels; 0 for padding
abbrev pub row_of : ℕ → List ℕ → ℕ → ℕ → ℕ
row_of plane planes start x = colorant_at plane planes (start + x / 8) (x % 8)

-- the bytes of four planes at a place, added up
abbrev pub sum_at : ℕ → List ℕ → ℕ → ℕ → ℕ → ℕ → ℕ → ℕ
sum_at plane planes place p q r s = byte_at plane planes place p + byte_at plane planes place q + byte_at plane planes place r + byte_at plane planes place s
