-- `plates::packing::word_of` meets its contract, by the laws of its loop (PackLoops). Assumes nothing.
use native.Mathlib.Omega.{arith}
use Rattle.plates.proofs.PlaneLaws.{colorant_low}
use Rattle.plates.proofs.PackLoops.{word_start, word_fits, word_next}
use Rattle.plates.proofs.packing.word_of.Goals as goal

pub loop-t-init : goal.loop-t-init
loop-t-init c = word_start _ _

pub overflow_mul-word : goal.overflow_mul-word
overflow_mul-word c = omega (arith, colorant_low _ c.loop-t.t c.requires.colorants (omega arith))

pub overflow_shl-word : goal.overflow_shl-word
overflow_shl-word c = omega (arith, colorant_low _ c.loop-t.t c.requires.colorants (omega arith))

pub overflow_add-word : goal.overflow_add-word
overflow_add-word c =
    record { fits = rw c.from.ensures (word_fits c.loop-t.invariant (λ i l. colorant_low _ _ c.requires.colorants l) c.loop-t-test.true _ c.mask_of.ensures c.requires.few) }

pub loop-t-preserved : goal.loop-t-preserved
loop-t-preserved c =
    rw c.from.ensures (word_next c.loop-t.invariant (λ i l. colorant_low _ _ c.requires.colorants l) c.loop-t-test.true _ c.mask_of.ensures)
