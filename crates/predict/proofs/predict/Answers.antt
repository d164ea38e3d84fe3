-- `predict::predict` meets its contract: in each case the answer is that of the definition, and so is what the rules say of it in numbers.
-- Assumes nothing.
use mathlib.Core.Path.{sym}
use Rattle.predict.proofs.Steps.{promised, screen_refused, primary_refused, colour_answered}
use Rattle.predict.proofs.predict.Goals as goal

pub returns-in_err-check : goal.returns-in_err-check
returns-in_err-check c =
    let told = promised c.args.s c.args.sep c.args.inks c.args.primaries _ (screen_refused c.args.s c.args.sep c.args.inks c.args.primaries _ _ c.from_residual.ensures.1 c.in_err-check.ensures) in
    record { answer = told.0; numbered = told.1 }

pub returns-in-Some : goal.returns-in-Some
returns-in-Some c =
    let told = promised c.args.s c.args.sep c.args.inks c.args.primaries _ (primary_refused c.args.s c.args.sep c.args.inks c.args.primaries (sym c.in_ok-check.ensures) _ c.in-Some.ensures) in
    record { answer = told.0; numbered = told.1 }

pub returns : goal.returns
returns c =
    let told = promised c.args.s c.args.sep c.args.inks c.args.primaries _ (colour_answered c.args.s c.args.sep c.args.inks c.args.primaries (sym c.in_ok-check.ensures) c.in_default.ensures _ c.counted.ensures _ c.mean.ensures) in
    record { answer = told.0; numbered = told.1 }
