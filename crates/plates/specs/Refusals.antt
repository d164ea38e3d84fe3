-- Rules 11.4, 11.9 to 11.11 and 11.13 for plates: refusals 5, 6, 7 and 9, and what the two calls leave in lent memory.
-- Assumes nothing: these are definitions.
use Rattle.std.specs.Prelude.{ℕ, ◌&&◌, List, length, eqb}
use Rattle.arith.specs.Refusal.{unless, or_else, written}
use Rattle.arith.specs.Sheet.{on_sheet}
use Rattle.plates.specs.Planes.{planes_length, cells_length, planes_of, cells_of, colorants_only, pixels_once, padding_clear}

-- rules 11.10 and 11.11: 6, the length of the input, then 7, that of the output
unfoldable pub lengths_refusal : ℕ → ℕ → ℕ → ℕ → ℕ
lengths_refusal input inputStated output outputStated = unless (eqb input inputStated) 6 (unless (eqb output outputStated) 7 0)

-- rule 11.9: before them 5, a plate being a window at the sheet's corner
unfoldable pub size_refusal : ℕ → ℕ → ℕ → ℕ → ℕ → ℕ → ℕ
size_refusal columns rows input inputStated output outputStated =
    unless (on_sheet 0 0 columns rows) 5 (lengths_refusal input inputStated output outputStated)

-- 5 to 7 of the two calls: each takes what the other writes
abbrev pub pack_size : ℕ → ℕ → ℕ → ℕ → ℕ
pack_size columns rows cells planes = size_refusal columns rows cells (cells_length columns rows) planes (planes_length columns rows)

abbrev pub unpack_size : ℕ → ℕ → ℕ → ℕ → ℕ
unpack_size columns rows planes cells = size_refusal columns rows planes (planes_length columns rows) cells (cells_length columns rows)

-- rule 11.13: then 9, in packing a byte above 7,
unfoldable pub pack_refusal : ℕ → ℕ → List ℕ → ℕ → ℕ
pack_refusal columns rows cells places = or_else (pack_size columns rows (length cells) places) (unless (colorants_only cells) 9 0)

-- in unpacking a pixel in no plane or in several, or padding that is set
unfoldable pub unpack_refusal : ℕ → ℕ → List ℕ → ℕ → ℕ
unpack_refusal columns rows planes places =
    or_else (unpack_size columns rows (length planes) places)
    (unless (pixels_once columns rows planes && padding_clear columns rows planes) 9 0)

-- the memory that is lent to each call, as it leaves it
unfoldable pub packed : ℕ → ℕ → List ℕ → List ℕ → List ℕ
packed columns rows cells memory = written (pack_refusal columns rows cells (length memory)) (planes_of columns rows cells) memory

unfoldable pub unpacked : ℕ → ℕ → List ℕ → List ℕ → List ℕ
unpacked columns rows planes memory = written (unpack_refusal columns rows planes (length memory)) (cells_of columns rows planes) memory
