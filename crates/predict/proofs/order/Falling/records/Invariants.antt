-- What the loop of `records` keeps.
use lib.ListN.{get_or}
use Rattle.predict.proofs.CellularSteps.{Writing}
use Rattle.predict.proofs.order.Falling.records.Given as goal

abbrev pub invariant-loop-k : goal.invariant-loop-k
invariant-loop-k l = Writing l.sets (λ i. get_or l.self.order i 0) l.records l.set l.k
