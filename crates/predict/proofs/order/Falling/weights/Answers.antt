-- `weights` meets its contract. Assumes nothing.
use lib.ListN.{get_or}
use Rattle.std.proofs.Common.{rules}
use Rattle.arith.proofs.RunLaws.{upto_is}
use Rattle.predict.specs.Cellular.{weight_at}
use Rattle.predict.proofs.Steps.{made_at}
use Rattle.predict.proofs.order.Falling.weights.Goals as goal

pub returns : goal.returns
returns c =
    let weight = weight_at (λ j. get_or c.args.self.now.counts j 0) in
    upto_is weight 8 c.from_fn.result c.from_fn.ensures.items.long (made_at _ weight _ _ (λ i y q k. search rules) 8 c.from_fn.ensures.items 0)
