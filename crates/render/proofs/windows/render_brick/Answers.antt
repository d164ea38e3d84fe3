-- `render::windows::render_brick` meets its contract: refused or rendered (AnswerLaws, FinishedLaws), its phases read from a true brick
-- (BrickRow).
-- Assumes nothing.
use mathlib.Core.Path.{◌≡◌, sym, ◌∙◌}
use native.Mathlib.Omega.{arith}
use lib.ListN.{length}
use Rattle.std.proofs.Common.{rules, Ok}
use Rattle.arith.specs.Refusal.{unless, number_of}
use Rattle.arith.proofs.RefusalLaws.{number_above}
use Rattle.screen.proofs.Published.{admitted_words}
use Rattle.render.specs.Answers.{window_refusal, due_in}
use Rattle.render.proofs.RefusalLaws.{window_kept, due_true, due_passed, brick_window, brick_undue, brick_whole}
use Rattle.render.proofs.AnswerLaws.{answer_none, answer_whole, cells_length_lem}
use Rattle.render.proofs.FinishedLaws.{read_keeps}
use Rattle.render.proofs.BrickRow.{brick_lent, brick_reads}
use Rattle.render.proofs.windows.render_brick.Goals as goal

pub returns-in_err-check_window : goal.returns-in_err-check_window
returns-in_err-check_window c =
    let same : number_of c.from_residual.result ≡ window_refusal c.args.s c.args.w (length c.args.input.now) (length c.args.out.now) = search rules in
    let told = read_keeps c.args.s c.args.sep c.args.w c.args.input.now c.args.brick.now c.args.out.now _ (answer_none _ _ _ _ c.from_residual.ensures.0 (same ∙ brick_window _ _ _ _ _ (λ z. omega (arith, number_above c.in_err-check_window.field-0.0, c.in_err-check_window.ensures, z)))) in
    record { refused = told.refused; tallies = told.tallies; cells = told.cells; finished = told.finished }

pub check_brick-requires : goal.check_brick-requires
check_brick-requires c = (window_kept _ _ _ _ (sym c.in_ok-check_window.ensures)).0

pub returns-in_err-check_brick : goal.returns-in_err-check_brick
returns-in_err-check_brick c =
    let same : number_of c.from_residual-in_err-check_brick.result ≡ unless (due_in c.args.s c.args.brick.now) 8 0 = search rules in
    let told = read_keeps c.args.s c.args.sep c.args.w c.args.input.now c.args.brick.now c.args.out.now _ (answer_none _ _ _ _ c.from_residual-in_err-check_brick.ensures.0 (same ∙ brick_undue _ _ _ _ _ c.in_ok-check_window.ensures)) in
    record { refused = told.refused; tallies = told.tallies; cells = told.cells; finished = told.finished }

pub returns-in_err-brick_of : goal.returns-in_err-brick_of
returns-in_err-brick_of c =
    let ok = (window_kept _ _ _ _ (sym c.in_ok-check_window.ensures)).0 in
    absurd (omega (arith, number_above c.in_err-brick_of.field-0.0, c.in_err-brick_of.ensures.refused, ok))

pub invariant_of-phases : goal.invariant_of-phases
invariant_of-phases c =
    let ok = (window_kept _ _ _ _ (sym c.in_ok-check_window.ensures)).0 in
    let holds = due_true _ _ ok (due_passed _ _ c.in_ok-check_brick.ensures) in
    record { lent = brick_lent _ ok _ holds _ c.in_ok-brick_of.ensures.brick; few = ((admitted_words _).0 ok).cells_limit }

pub paint-requires-clause-phases : goal.paint-requires-clause-phases
paint-requires-clause-phases c =
    let ok = (window_kept _ _ _ _ (sym c.in_ok-check_window.ensures)).0 in
    let holds = due_true _ _ ok (due_passed _ _ c.in_ok-check_brick.ensures) in
    brick_reads _ ok _ holds _ c.in_ok-brick_of.ensures.brick

pub returns : goal.returns
returns c =
    let e = sym c.in_ok-check_window.ensures in
    let tells = due_passed _ _ c.in_ok-check_brick.ensures in
    let told = read_keeps c.args.s c.args.sep c.args.w c.args.input.now c.args.brick.now c.args.out.now (Ok c.paint.result) (answer_whole _ _ _ (brick_whole _ _ _ _ _ e tells) (cells_length_lem _ _ _ _ ∙ sym (window_kept _ _ _ _ e).4) c.paint.ensures.cells c.paint.ensures.counts) in
    record { refused = told.refused; tallies = told.tallies; cells = told.cells; finished = told.finished }
