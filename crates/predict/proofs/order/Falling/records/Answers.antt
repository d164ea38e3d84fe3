-- `records` meets its contract: after k turns the first k records stand, and the set has the first k colorants. Assumes nothing.
use mathlib.Core.Path.{refl, ap, ◌∙◌}
use native.Mathlib.Omega.{arith}
use Rattle.predict.specs.Cellular.{record_of}
use Rattle.predict.proofs.CellularLaws.{listed_below, listed_set, ordering}
use Rattle.predict.proofs.CellularSteps.{alone_is, writing_start, writing_formed, writing_step, writing_end}
use Rattle.predict.proofs.order.Falling.records.Goals as goal

pub loop-k-init : goal.loop-k-init
loop-k-init c = writing_start _ _ _ refl

pub overflow_shl-set : goal.overflow_shl-set
overflow_shl-set c = omega (arith, listed_below _ _ c.args.self.now.in_order c.loop-k.k (omega arith))

pub overflow_add-set : goal.overflow_add-set
overflow_add-set c =
    omega (arith, (writing_formed c.loop-k.invariant (ordering _ _ c.args.self.now.in_order) (omega arith) _ (alone_is _ (listed_below _ _ c.args.self.now.in_order c.loop-k.k (omega arith)))).2)

pub record_of-requires : goal.record_of-requires
record_of-requires c =
    let formed = writing_formed c.loop-k.invariant (ordering _ _ c.args.self.now.in_order) (omega arith) _ (alone_is _ (listed_below _ _ c.args.self.now.in_order c.loop-k.k (omega arith))) in
    (formed.1, formed.2)

pub loop-k-preserved : goal.loop-k-preserved
loop-k-preserved c =
    let formed = writing_formed c.loop-k.invariant (ordering _ _ c.args.self.now.in_order) (omega arith) _ (alone_is _ (listed_below _ _ c.args.self.now.in_order c.loop-k.k (omega arith))) in
    writing_step c.loop-k.invariant (omega arith) _ formed.0 _ c.record_of.ensures

pub returns : goal.returns
returns c k l =
    writing_end c.loop-k.invariant c.loop-k-test.false k l ∙ ap (record_of c.args.sets.now) (listed_set _ _ c.args.self.now.in_order k l)
