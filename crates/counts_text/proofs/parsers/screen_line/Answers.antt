-- `counts_text::parsers::screen_line` meets its contract: what refuses the screen refuses the line. Assumes nothing.
use mathlib.Core.Path.{◌≡◌, sym, ◌∙◌}
use Rattle.std.proofs.lemmas.Result.{err_from_is_err_and}
use Rattle.arith.specs.declared.refusals.Refusal.TheVariants.{Form}
use Rattle.screen.proofs.Published.{made_words, made_admitted}
use Rattle.counts_text.proofs.parsers.screen_line.Goals as goal

pub returns-in_err-a : goal.returns-in_err-a
returns-in_err-a c =
    let p = err_from_is_err_and c.from_residual.result c.from_residual.ensures.1 in
    let told = rw c.in_err-a.ensures.ok_part at c.in_err-a.ensures.value in
    let form : c.in_err-a.field-0.0 ≡ Form = cc in
    rw (p.1, p.2, form) (rw c.in_err-a.ensures.ok_part at c.screen_numbers.ensures)

pub returns-in_err-make : goal.returns-in_err-make
returns-in_err-make c =
    let p = err_from_is_err_and c.from_residual-in_err-make.result c.from_residual-in_err-make.ensures.1 in
    let read = rw c.in_ok-a.ensures.ok_part at c.screen_numbers.ensures in
    rw (p.1, p.2) (read.refusal ∙ sym (made_words _ _ _ _ _).0 ∙ sym c.in_err-make.ensures.refused)

pub returns : goal.returns
returns c =
    let read = rw c.in_ok-a.ensures.ok_part at c.screen_numbers.ensures in
    let made = c.in_ok-make.ensures in (
      read.refusal ∙ sym (made_words _ _ _ _ _).0 ∙ sym made.refused,
      made.screen ∙ (made_words _ _ _ _ _).2 (sym made.refused) ∙ read.screen,
      rw made.screen (made_admitted _ _ _ _ _ (sym made.refused)),
      read.parted,
    )
