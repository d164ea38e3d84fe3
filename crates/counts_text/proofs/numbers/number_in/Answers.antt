-- `counts_text::numbers::number_in` meets its contract. Assumes nothing.
use mathlib.Core.Path.{refl, sym}
use borrow.Author.Tests.{le-leb, lt-leb}
use Rattle.counts_text.specs.Numbers.{is_number_to}
use Rattle.counts_text.proofs.numbers.number_in.Goals as goal

pub returns-then-not-is_number : goal.returns-then-not-is_number
unfolding is_number_to
returns-then-not-is_number c = rw (sym c.is_number.ensures, c.if-not-is_number.true) refl

pub returns-then-value-most : goal.returns-then-value-most
unfolding is_number_to
returns-then-value-most c = rw (sym c.is_number.ensures, c.if-not-is_number.false, sym c.value_of-value.ensures, le-leb _ _ c.if-value-most.true) refl

pub returns-else-value-most : goal.returns-else-value-most
unfolding is_number_to
returns-else-value-most c = rw (sym c.is_number.ensures, c.if-not-is_number.false, sym c.value_of-value.ensures, lt-leb _ _ c.if-value-most.false) refl
