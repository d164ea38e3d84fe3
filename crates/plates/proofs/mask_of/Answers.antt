-- `plates::mask_of` meets its contract: a shift by so many digits halves so many times. Assumes nothing.
use native.Mathlib.Omega.{arith}
use Rattle.plates.proofs.MaskLaws.{mask_shifted}
use Rattle.plates.proofs.mask_of.Goals as goal

pub returns : goal.returns
returns c = mask_shifted _ _ (omega arith)
