-- `predict::cellular::mean_of_sets` meets its contract: weights and records are those of the order. Assumes nothing.
use mathlib.Core.Path.{◌∙◌}
use Rattle.arith.proofs.RunLaws.{upto_at}
use Rattle.predict.proofs.Steps.{mean_same}
use Rattle.predict.proofs.cellular.mean_of_sets.Goals as goal

pub returns : goal.returns
returns c =
    rw (← c.of-falling.ensures)
    (c.mean.ensures ∙ mean_same _ _ _ _ _ (λ k l. rw c.weights.ensures (upto_at _ 8 k l)) c.records.ensures)
