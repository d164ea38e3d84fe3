-- `plates::packing::put_word` meets its contract, by the laws of its loop (PackLoops). Assumes nothing.
use mathlib.Core.Path.{refl}
use Rattle.plates.proofs.PackLoops.{storing_start, storing_step}
use Rattle.plates.proofs.packing.put_word.Goals as goal

pub loop-p-init : goal.loop-p-init
loop-p-init c = storing_start _ _ _ _

pub loop-p-preserved : goal.loop-p-preserved
loop-p-preserved c = storing_step c.loop-p.invariant c.loop-p-test.true (rw c.to_le_bytes.ensures refl)
