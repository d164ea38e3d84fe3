-- `counts_text::numbers::is_number` meets its contract. Assumes nothing.
use mathlib.Core.Path.{refl, sym}
use borrow.Author.Tests.{eq-eqb, ne_eqb}
use Rattle.counts_text.proofs.NumberLaws.{number_told}
use Rattle.counts_text.proofs.numbers.is_number.Goals as goal

pub returns-else-all_digits : goal.returns-else-all_digits
returns-else-all_digits c = rw (number_told c.args.field.now, sym c.all_digits.ensures, c.if-all_digits.false) refl

pub returns-then-field-eq1 : goal.returns-then-field-eq1
returns-then-field-eq1 c =
    rw (number_told c.args.field.now, sym c.all_digits.ensures, c.if-all_digits.true, eq-eqb _ _ c.if-field-eq1.true) refl

pub returns-else-field-eq1 : goal.returns-else-field-eq1
returns-else-field-eq1 c =
    rw (number_told c.args.field.now, sym c.all_digits.ensures, c.if-all_digits.true, ne_eqb _ _ c.if-field-eq1.false) refl
