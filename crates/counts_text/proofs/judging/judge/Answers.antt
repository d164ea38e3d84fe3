-- `counts_text::judging::judge` meets its contract. Assumes nothing.
use mathlib.Core.Path.{◌≡◌, sym}
use Rattle.std.specs.Prelude.{Ok, Err, MatchResult}
use native.Mathlib.Omega.{arith}
use borrow.Author.Tests.{eqb-true, eqb-false}
use borrow.Author.Rules.{rules}
use Rattle.std.proofs.lemmas.Result.{err_from_is_err_and, MatchResult-weaker}
use Rattle.counts_text.specs.Parsers.{ScreenSays}
use Rattle.counts_text.proofs.JudgeLaws.{same_bad, good_screen, bad_screen, patches_bad, patches_end, patches_next, patches_surplus}
use Rattle.counts_text.proofs.judging.judge.Goals as goal

pub returns-in_err-screen : goal.returns-in_err-screen
returns-in_err-screen c =
    let p = err_from_is_err_and c.from_residual.result c.from_residual.ensures.1 in
    let told : MatchResult c.screen_line.result (λ x. Err c.in_err-screen.field-0.0 ≡ Ok x) (λ e. c.in_err-screen.field-0.0 ≡ record { line = 1; refusal = e }) =
    MatchResult-weaker c.screen_line.result c.in_err-screen.ensures.cases (λ x q. q) (λ e q. search rules) in
    rw (p.1, p.2) (bad_screen _ c.screen_line.result _ c.screen_line.ensures told)

pub returns-in_err-patch : goal.returns-in_err-patch
returns-in_err-patch c =
    let p = err_from_is_err_and c.from_residual-in_err-patch.result c.from_residual-in_err-patch.ensures.1 in
    let told = rw c.in_err-patch.ensures.ok_part at c.in_err-patch.ensures.value in
    rw (p.1, p.2, same_bad told) (patches_bad c.loop-line.invariant (omega (arith, c.loop-line-test.true)) (rw c.in_err-patch.ensures.ok_part at c.patch_line.ensures))

pub returns-then-is_empty : goal.returns-then-is_empty
returns-then-is_empty c =
    let says : ScreenSays c.args.input.now (Ok (c.in_ok-screen.screen, c.in_ok-screen.lines)) =
    good_screen _ c.screen_line.result _ c.screen_line.ensures (MatchResult-weaker c.screen_line.result c.in_ok-screen.ensures.cases (λ x q. q) (λ e q. search rules)) in
    let read = rw c.in_ok-patch.ensures.ok_part at c.patch_line.ensures in
    let end = eqb-true _ _ (sym c.if-is_empty.ensures) in
    (patches_end c.loop-line.invariant (omega (arith, c.loop-line-test.true)) read.0 read.3 end, says.1, says.2, says.3)

pub loop-line-preserved : goal.loop-line-preserved
loop-line-preserved c =
    let read = rw c.in_ok-patch.ensures.ok_part at c.patch_line.ensures in
    patches_next c.loop-line.invariant (omega (arith, c.loop-line-test.true)) read.0 read.3 (λ z. omega (arith, z, eqb-false _ _ (sym c.if-is_empty.ensures)))

pub returns : goal.returns
returns c = patches_surplus c.loop-line.invariant c.loop-line-test.false
