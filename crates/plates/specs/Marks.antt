-- Small windows packed and unpacked, and refused. proofs/AllMarks.antt shows them by computing the definitions.
-- Assumes nothing: these are statements.
use Rattle.std.specs.Prelude.{ℕ, ◌≡◌, true, false, List, [], ◌∷◌, get_or}
use Rattle.arith.specs.Run.{upto}
use Rattle.plates.specs.Masks.{mask}
use Rattle.plates.specs.Planes.{bit_at, colorant_of}
use Rattle.plates.specs.Places.{word_of, stored, once_at, colorant_at, full_mask}
use Rattle.plates.specs.Refusals.{pack_refusal, unpack_refusal, packed, unpacked}
use Rattle.plates.specs.Laws.{MaskValues, PlaneBit, bits_set, PlaneTally}

-- rule 12.9, two columns by two rows: cyan and magenta, then magenta and white
abbrev pub cells : List ℕ
cells = 0 ∷ 1 ∷ 1 ∷ 7 ∷ []

-- their planes, two rows of one byte each
abbrev pub planes : List ℕ
planes = 128 ∷ 0 ∷ 64 ∷ 128 ∷ 0 ∷ 0 ∷ 0 ∷ 0 ∷ 0 ∷ 0 ∷ 0 ∷ 0 ∷ 0 ∷ 0 ∷ 0 ∷ 64 ∷ []

-- one pixel's planes: rule 11.13's example, and white with the first padding bit set
abbrev pub twice : List ℕ
twice = 128 ∷ 128 ∷ 0 ∷ 0 ∷ 0 ∷ 0 ∷ 0 ∷ 0 ∷ []

abbrev pub padded : List ℕ
padded = 0 ∷ 0 ∷ 0 ∷ 0 ∷ 0 ∷ 0 ∷ 0 ∷ 192 ∷ []

-- eight pixels' planes: the second pixel in three and the first in none, so that the bytes add up to 255 as if each were in one; and the last in two
abbrev pub carried : List ℕ
carried = 64 ∷ 64 ∷ 127 ∷ 0 ∷ 0 ∷ 0 ∷ 0 ∷ 0 ∷ []

abbrev pub doubled : List ℕ
doubled = 255 ∷ 1 ∷ 0 ∷ 0 ∷ 0 ∷ 0 ∷ 0 ∷ 0 ∷ []

pub record Marks : Type 0 where
  -- rule 8.3: the masks of columns 0 to 8
  pub masks : upto mask 9 ≡ 128 ∷ 64 ∷ 32 ∷ 16 ∷ 8 ∷ 4 ∷ 2 ∷ 1 ∷ 128 ∷ []
  -- off the sheet, then the lengths, input first, then 9
  pub off_the_sheet : pack_refusal 1 65537 [] 0 ≡ 5
  pub cells_missing : pack_refusal 1 1 [] 0 ≡ 6
  pub planes_missing : pack_refusal 1 1 (8 ∷ []) 0 ≡ 7
  pub byte_above_7 : pack_refusal 1 1 (8 ∷ []) 8 ≡ 9
  pub pixel_twice : unpack_refusal 1 1 twice 1 ≡ 9
  pub padding_set : unpack_refusal 1 1 padded 1 ≡ 9
  pub sum_right : unpack_refusal 8 1 carried 8 ≡ 9
  pub union_right : unpack_refusal 8 1 doubled 8 ≡ 9
  -- memory as it was
  pub byte_untouched : packed 1 1 (8 ∷ []) twice ≡ twice
  pub twice_untouched : unpacked 1 1 twice (9 ∷ []) ≡ 9 ∷ []
  pub padded_untouched : unpacked 1 1 padded (9 ∷ []) ≡ 9 ∷ []
  -- memory written
  pub planes_written : packed 2 2 cells (upto (λ i. 9) 16) ≡ planes
  pub white_found : colorant_of 1 2 planes 1 1 ≡ 7
  pub cells_written : unpacked 2 2 planes (9 ∷ 9 ∷ 9 ∷ 9 ∷ []) ≡ cells
  -- the four cells as one place: their word's bytes in eight planes of one byte
  pub word_stored : stored (word_of (λ t. get_or cells t 0) 4) 1 0 (upto (λ i. 9) 8) 8 ≡ 128 ∷ 96 ∷ 0 ∷ 0 ∷ 0 ∷ 0 ∷ 0 ∷ 16 ∷ []
  -- the second row of their planes is a place of two pixels; `padded` is one of one pixel
  pub place_once : once_at 2 planes 1 2 ≡ true
  pub place_padded : once_at 1 padded 0 1 ≡ false
  pub place_white : colorant_at 2 planes 1 1 ≡ 7
  pub place_none : colorant_at 2 planes 1 2 ≡ 0
  -- the masks of no pixel, of the first, of the first two and so on
  pub full_masks : upto full_mask 9 ≡ 0 ∷ 128 ∷ 192 ∷ 224 ∷ 240 ∷ 248 ∷ 252 ∷ 254 ∷ 255 ∷ []
  -- what the laws say of the mask of column 11, of a bit of magenta's padding and of magenta's tally
  pub mask_law : MaskValues → mask 11 ≡ 16
  pub bit_law : PlaneBit → bit_at 1 planes 2 2 ≡ 0
  pub tally_law : PlaneTally → bits_set 2 2 planes 1 ≡ 2
