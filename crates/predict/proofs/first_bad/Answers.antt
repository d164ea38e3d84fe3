-- `predict::first_bad` meets its contract. Assumes nothing.
use mathlib.Core.Path.{◌≡◌, ◌∙◌}
use mathlib.Core.Bool.{true, false}
use borrow.Author.Tests.{tests}
use Rattle.std.proofs.Common.{rules}
use Rattle.std.proofs.lemmas.Iterator.{YieldsList-from_slice, IsFirst-from_position}
use Rattle.predict.specs.Predicted.{admitted}
use Rattle.predict.proofs.Steps.{bad_found}
use Rattle.predict.proofs.first_bad.Goals as goal

pub returns : goal.returns
returns c =
    let h = IsFirst-from_position _ _ _ (λ p. admitted p ≡ false) (λ p. admitted p ≡ true) c.position.ensures.ran (YieldsList-from_slice c.args.primaries cc) (λ x q k. search (rules, tests)) (λ x q k. search (rules, tests)) in
    let same : c.map.result ≡ c.position.result = search rules in
    same ∙ bad_found c.args.primaries (search rules) _ h
