-- `render::windows::render` meets its contract: refused or rendered (AnswerLaws, FinishedLaws). Assumes nothing.
use mathlib.Core.Path.{◌≡◌, refl, sym, ◌∙◌}
use lib.ListN.{length}
use Rattle.std.proofs.Common.{rules, Ok}
use Rattle.arith.specs.Refusal.{number_of}
use Rattle.render.specs.Answers.{window_refusal}
use Rattle.screen.proofs.Published.{admitted_words}
use Rattle.render.proofs.RefusalLaws.{window_kept}
use Rattle.render.proofs.AnswerLaws.{answer_none, answer_whole, cells_length_lem}
use Rattle.render.proofs.FinishedLaws.{worked_keeps}
use Rattle.render.proofs.windows.render.Goals as goal

pub returns-in_err-check_window : goal.returns-in_err-check_window
returns-in_err-check_window c =
    let same : number_of c.from_residual.result ≡ window_refusal c.args.s c.args.w (length c.args.input.now) (length c.args.out.now) = search rules in
    let told = worked_keeps c.args.s c.args.sep c.args.w c.args.input.now c.args.out.now _ (answer_none _ _ _ _ c.from_residual.ensures.0 same) in
    record { refused = told.refused; tallies = told.tallies; cells = told.cells; finished = told.finished }

pub nonzero_rem-phases : goal.nonzero_rem-phases
nonzero_rem-phases c = ((admitted_words _).0 (window_kept _ _ _ _ (sym c.in_ok-check_window.ensures)).0).cells_above

pub invariant_of-phases : goal.invariant_of-phases
invariant_of-phases c = record { admitted = (window_kept _ _ _ _ (sym c.in_ok-check_window.ensures)).0; right = refl }

pub returns : goal.returns
returns c =
    let e = c.in_ok-check_window.ensures in
    let stated = (window_kept _ _ _ _ (sym e)).4 in
    let told = worked_keeps c.args.s c.args.sep c.args.w c.args.input.now c.args.out.now (Ok c.paint.result) (answer_whole _ _ _ e (cells_length_lem _ _ _ _ ∙ sym stated) c.paint.ensures.cells c.paint.ensures.counts) in
    record { refused = told.refused; tallies = told.tallies; cells = told.cells; finished = told.finished }
