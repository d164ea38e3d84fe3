-- `arith::coprime` meets its contract, by the equations of Euclid's rule. Assumes nothing.
use Rattle.std.proofs.Common.{◌∙◌}
use native.Mathlib.Nat.{pos_of_ne-zero}
use Rattle.arith.proofs.GcdLaws.{gcd_zero, gcd_one, gcd_step}
use Rattle.arith.proofs.+coprime.Goals as goal

pub returns-then-b-eq0 : goal.returns-then-b-eq0
returns-then-b-eq0 t c = rw (c.if-b-eq0.true, gcd_zero)

pub returns-then-b-eq1 : goal.returns-then-b-eq1
returns-then-b-eq1 t c = rw (c.if-b-eq1.true, gcd_one)

pub returns : goal.returns
returns t c = c.coprime.ensures ∙ rw (gcd_step _ _ (pos_of_ne-zero c.if-b-eq0.false))
