-- `predict::total` meets its contract. Assumes nothing.
use mathlib.Core.Path.{◌∙◌}
use lib.Ieee.{of_bits}
use borrow.Author.Tests.{tests}
use Rattle.std.proofs.Common.{rules}
use Rattle.std.proofs.lemmas.Iterator.{YieldsList-from_slice, YieldsList-from_zip}
use Rattle.std.proofs.lemmas.Iterator.Consumers.{YieldsList-at, fold_from_yields_List}
use Rattle.predict.specs.Predicted.{total}
use Rattle.predict.proofs.Steps.{one_more, summed_all}
use Rattle.predict.proofs.total.Goals as goal

pub returns : goal.returns
unfolding total of_bits
returns c =
    fold_from_yields_List _ one_more _ _ c.fold.ensures.ran
    (YieldsList-from_zip (YieldsList-at c.zip.ensures.first (YieldsList-from_slice c.args.times cc)) (YieldsList-from_slice c.args.records c.zip.ensures.second.0))
    (λ a x b q k. search (rules, tests))
    ∙ summed_all c.args.times c.args.records (search rules) (search rules)
