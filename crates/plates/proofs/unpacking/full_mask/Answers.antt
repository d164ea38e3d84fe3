-- `plates::unpacking::full_mask` meets its contract. Assumes nothing.
use native.Mathlib.Nat.{div-le_self}
use Rattle.plates.specs.Places.{full_mask}
use Rattle.plates.proofs.MaskLaws.{first_masks}
use Rattle.plates.proofs.unpacking.full_mask.Goals as goal

pub overflow_sub-result : goal.overflow_sub-result
overflow_sub-result c = div-le_self 256 _

pub returns : goal.returns
unfolding full_mask
returns c = first_masks _ c.requires
