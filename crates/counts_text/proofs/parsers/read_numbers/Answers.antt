-- `counts_text::parsers::read_numbers` meets its contract. Assumes nothing.
use mathlib.Core.Path.{sym, ◌∙◌}
use borrow.Author.Rules.{rules}
use Rattle.counts_text.proofs.NumbersLoop.{numbers_start, numbers_short, numbers_stopped, numbers_step, numbers_full}
use Rattle.counts_text.proofs.parsers.read_numbers.Goals as goal

pub loop-number-init : goal.loop-number-init
loop-number-init c = numbers_start _ _ _

pub returns-in_default : goal.returns-in_default
returns-in_default c = numbers_short c.loop-number.invariant c.in_default.is c.loop-number-test.true

pub returns-in_default-number_in : goal.returns-in_default-number_in
returns-in_default-number_in c =
    numbers_stopped c.loop-number.invariant _ c.in-Some.is c.first_field.ensures c.loop-number-test.true (sym c.in_default-number_in.is ∙ c.number_in.ensures)

pub loop-number-preserved : goal.loop-number-preserved
loop-number-preserved c =
    numbers_step c.loop-number.invariant _ c.in-Some.is c.first_field.ensures c.loop-number-test.true _ (sym c.in-Some-number_in.is ∙ c.number_in.ensures)

pub returns : goal.returns
returns c = numbers_full c.loop-number.invariant _ (search rules) c.loop-number-test.false
