-- What `plates` promises of its definitions to the crates above. Each is a statement; proofs/Published.antt proves it.
-- Assumes nothing.
use Rattle.std.specs.Prelude.{ℕ, ◌+◌, ◌*◌, ◌%◌, ◌≤◌, ◌<◌, ◌≡◌, true, List, [], ◌∷◌, ◌⊎◌, ◌≢◌, length, get_or}
use Rattle.arith.specs.Sum.{sum_below, indicator}
use Rattle.arith.specs.Tally.{tally}
use Rattle.plates.specs.Masks.{mask}
use Rattle.plates.specs.Planes.{row_bytes, planes_length, cells_length, cell_at, bit_at, in_plane, planes_of, planes_with, cells_of, colorants_only, pixels_once, padding_clear}
use Rattle.plates.specs.Refusals.{pack_size, unpack_size, pack_refusal, unpack_refusal, packed, unpacked}

-- ---- the masks

-- rule 8.3: every pixel has the mask that a table of eight gave it before request 4, so that no call answers or writes anything else than it did with the table
abbrev pub MaskValues : Type 0
MaskValues = (x : ℕ) → mask x ≡ get_or (128 ∷ 64 ∷ 32 ∷ 16 ∷ 8 ∷ 4 ∷ 2 ∷ 1 ∷ []) (x % 8) 0

-- ---- a plane's bits

-- rule 8.2: the bit of pixel x in row y of plane p is set exactly where the pixel is one of the columns and its cell is p
abbrev pub PlaneBit : Type 0
PlaneBit =
    (columns rows : ℕ) (cells : List ℕ) (p y x : ℕ) → p < 8 → y < rows → x < 8 * row_bytes columns
    → bit_at (row_bytes columns) (planes_of columns rows cells) (p * rows + y) x ≡ indicator (in_plane columns (cell_at columns cells y) p x)

-- how many bits are set in plane p, padding included
unfoldable pub bits_set : ℕ → ℕ → List ℕ → ℕ → ℕ
bits_set columns rows planes p = sum_below rows (λ y. sum_below (8 * row_bytes columns) (λ x. bit_at (row_bytes columns) planes (p * rows + y) x))

-- rule 8.7: a plane has as many bits set as its colorant's tally
abbrev pub PlaneTally : Type 0
PlaneTally =
    (columns rows : ℕ) (cells : List ℕ) → length cells ≡ cells_length columns rows → (p : ℕ) → p < 8
    → bits_set columns rows (planes_of columns rows cells) p ≡ tally p cells

-- ---- rule 8.7: each call undoes the other

-- numbers of a slice of bytes
abbrev pub Bytes : List ℕ → Type 0
Bytes l = (i : ℕ) → get_or l i 0 < 256

-- what unpacking admits
pub record Admitted (columns rows : ℕ) (planes : List ℕ) : Type 0 where
  pub bytes : Bytes planes
  pub size : length planes ≡ planes_length columns rows
  pub once : pixels_once columns rows planes ≡ true
  pub clear : padding_clear columns rows planes ≡ true

-- the cells' planes may be unpacked, and give the cells back
abbrev pub CellsBack : Type 0
CellsBack =
    (columns rows : ℕ) (cells : List ℕ) → length cells ≡ cells_length columns rows → colorants_only cells ≡ true
    → (pixels_once columns rows (planes_of columns rows cells) ≡ true) × (padding_clear columns rows (planes_of columns rows cells) ≡ true)
    × (cells_of columns rows (planes_of columns rows cells) ≡ cells)

-- the cells of admitted planes may be packed, and give the planes back
abbrev pub PlanesBack : Type 0
PlanesBack =
    (columns rows : ℕ) (planes : List ℕ) → Admitted columns rows planes
    → (colorants_only (cells_of columns rows planes) ≡ true) × (planes_of columns rows (cells_of columns rows planes) ≡ planes)

-- so a plane of admitted planes has as many bits set as cells are unpacked with its colorant
abbrev pub UnpackedTally : Type 0
UnpackedTally =
    (columns rows : ℕ) (planes : List ℕ) → Admitted columns rows planes → (p : ℕ) → p < 8
    → bits_set columns rows planes p ≡ tally p (cells_of columns rows planes)

-- The same of the calls: where packing is not refused, unpacking what it wrote into memory as long as the cells is not refused
-- either, and writes the cells.
abbrev pub PackThenUnpack : Type 0
PackThenUnpack =
    (columns rows : ℕ) (cells planes memory : List ℕ) → pack_refusal columns rows cells (length planes) ≡ 0 → length memory ≡ length cells
    → (unpack_refusal columns rows (packed columns rows cells planes) (length memory) ≡ 0)
    × (unpacked columns rows (packed columns rows cells planes) memory ≡ cells)

abbrev pub UnpackThenPack : Type 0
UnpackThenPack =
    (columns rows : ℕ) (planes cells memory : List ℕ) → Bytes planes → unpack_refusal columns rows planes (length cells) ≡ 0 → length memory ≡ length planes
    → (pack_refusal columns rows (unpacked columns rows planes cells) (length memory) ≡ 0)
    × (packed columns rows (unpacked columns rows planes cells) memory ≡ planes)

-- the two length rules agree: the sizes that one call takes are those that the other does
abbrev pub SizesAgree : Type 0
SizesAgree =
    (columns rows cells planes : ℕ)
    → (pack_size columns rows cells planes ≡ 0 → unpack_size columns rows planes cells ≡ 0)
    × (unpack_size columns rows planes cells ≡ 0 → pack_size columns rows cells planes ≡ 0)

-- ---- rule 11.13: 9 exactly where the content offends

-- a cell that is no colorant
abbrev pub BadByte : List ℕ → Type 0
BadByte cells = (i : ℕ) × (i < length cells) × (7 < get_or cells i 0)

abbrev pub PackNine : Type 0
PackNine =
    (columns rows : ℕ) (cells : List ℕ) (places : ℕ)
    → (pack_refusal columns rows cells places ≡ 9 → (pack_size columns rows (length cells) places ≡ 0) × BadByte cells)
    × (pack_size columns rows (length cells) places ≡ 0 → BadByte cells → pack_refusal columns rows cells places ≡ 9)

-- a pixel in no plane or in several
abbrev pub BadPixel : ℕ → ℕ → List ℕ → Type 0
BadPixel columns rows planes = (y : ℕ) × (x : ℕ) × (y < rows) × (x < columns) × (planes_with (row_bytes columns) rows planes y x ≢ 1)

-- a bit that is set past the last column, in row y of plane p
abbrev pub BadPadding : ℕ → ℕ → List ℕ → Type 0
BadPadding columns rows planes =
    (p : ℕ) × (y : ℕ) × (x : ℕ) × (p < 8) × (y < rows) × (columns ≤ x) × (x < 8 * row_bytes columns)
    × (bit_at (row_bytes columns) planes (p * rows + y) x ≡ 1)

abbrev pub UnpackNine : Type 0
UnpackNine =
    (columns rows : ℕ) (planes : List ℕ) (places : ℕ)
    → (unpack_refusal columns rows planes places ≡ 9
    → (unpack_size columns rows (length planes) places ≡ 0) × (BadPixel columns rows planes ⊎ BadPadding columns rows planes))
    × (unpack_size columns rows (length planes) places ≡ 0 → BadPixel columns rows planes ⊎ BadPadding columns rows planes
    → unpack_refusal columns rows planes places ≡ 9)
