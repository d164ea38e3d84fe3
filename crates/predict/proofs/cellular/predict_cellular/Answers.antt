-- `predict::cellular::predict_cellular` meets its contract: in each case the answer is that of the definition, and so is what the rules say of it in
-- numbers. Assumes nothing.
use mathlib.Core.Path.{◌≡◌, sym}
use mathlib.Core.List.{List}
use native.Mathlib.Omega.{arith}
use lib.Ieee.{Float}
use denote.Ref.{Bor}
use Rattle.std.specs.Prelude.{Result, Err}
use Rattle.arith.specs.declared.refusals.Refusal.{Refusal}
use Rattle.arith.specs.declared.refusals.Refusal.TheVariants.{PrimariesLength}
use Rattle.separation.specs.Laws.{InkValues}
use Rattle.predict.proofs.CellularSteps.{counts_limit, promised, call_refused, length_refused, set_refused, colour_answered}
use Rattle.predict.proofs.cellular.predict_cellular.Goals as goal

pub returns-in_err-check : goal.returns-in_err-check
returns-in_err-check c =
    let told = promised c.args.s c.args.sep c.args.inks c.args.primaries.now _ (call_refused c.args.s c.args.sep c.args.inks c.args.primaries.now _ _ c.from_residual.ensures.1 c.in_err-check.ensures) in
    record { answer = told.0; numbered = told.1 }

pub mean_of_sets-requires : goal.mean_of_sets-requires
mean_of_sets-requires c =
    let bytes : InkValues c.args.inks = record { c_value = omega (arith, c.well_formed); m_value = omega (arith, c.well_formed); y_value = omega (arith, c.well_formed) } in
    counts_limit _ _ _ (sym c.in_ok-check.ensures) bytes _ c.counted.ensures

pub returns-in_err-sets : goal.returns-in_err-sets
returns-in_err-sets c =
    let none = c.in_err-sets.ensures.ok_part in
    let due : ◌≡◌ {A = Result (Bor (List Float)) Refusal} (Err c.in_err-sets.field-0.0) (Err PrimariesLength) = rw none at c.in_err-sets.ensures.value in
    let told = promised c.args.s c.args.sep c.args.inks c.args.primaries.now _ (length_refused c.args.s c.args.sep c.args.inks c.args.primaries.now (sym c.in_ok-check.ensures) (rw none at c.as_array.ensures.cases) _ _ c.from_residual-in_err-sets.ensures.1 (cc due)) in
    record { answer = told.0; numbered = told.1 }

pub returns-in-Some : goal.returns-in-Some
returns-in-Some c =
    let whole = rw c.in_ok-sets.ensures.ok_part at c.as_array.ensures.cases in
    let told = promised c.args.s c.args.sep c.args.inks c.args.primaries.now _ (set_refused c.args.s c.args.sep c.args.inks c.args.primaries.now (sym c.in_ok-check.ensures) whole.long _ (rw whole.same at c.in-Some.ensures)) in
    record { answer = told.0; numbered = told.1 }

pub returns : goal.returns
returns c =
    let whole = rw c.in_ok-sets.ensures.ok_part at c.as_array.ensures.cases in
    let told = promised c.args.s c.args.sep c.args.inks c.args.primaries.now _ (colour_answered c.args.s c.args.sep c.args.inks c.args.primaries.now (sym c.in_ok-check.ensures) whole.long (rw whole.same at c.in_default.ensures) _ c.counted.ensures _ (rw whole.same at c.mean_of_sets.ensures)) in
    record { answer = told.0; numbered = told.1 }
