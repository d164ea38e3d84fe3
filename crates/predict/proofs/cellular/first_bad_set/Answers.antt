-- `predict::cellular::first_bad_set` meets its contract. Assumes nothing.
use mathlib.Core.Path.{◌≡◌}
use mathlib.Core.Bool.{true, false}
use borrow.Author.Tests.{tests}
use Rattle.std.proofs.Common.{rules}
use Rattle.std.proofs.lemmas.Iterator.{first_from_Range}
use Rattle.predict.specs.Predicted.{admitted}
use Rattle.predict.specs.Cellular.{record_of}
use Rattle.predict.proofs.CellularSteps.{set_found}
use Rattle.predict.proofs.cellular.first_bad_set.Goals as goal

pub returns : goal.returns
returns c =
    set_found c.args.sets.now _
    (first_from_Range _ _ _ _ (λ t. admitted (record_of c.args.sets.now t) ≡ false) (λ t. admitted (record_of c.args.sets.now t) ≡ true) c.find.ensures.ran (λ x q k. search (rules, tests)) (λ x q k. search (rules, tests)))
