-- `arith::gcd` meets its contract, by the equations of Euclid's rule. Assumes nothing.
use Rattle.std.proofs.Common.{sym, ◌∙◌}
use native.Mathlib.Nat.{pos_of_ne-zero}
use Rattle.arith.proofs.GcdLaws.{gcd_zero, gcd_step}
use Rattle.arith.proofs.+gcd.Goals as goal

pub returns-then-b-eq0 : goal.returns-then-b-eq0
returns-then-b-eq0 t c = rw (c.if-b-eq0.true, gcd_zero)

pub returns-else-b-eq0 : goal.returns-else-b-eq0
returns-else-b-eq0 t c = c.gcd.ensures ∙ sym (gcd_step _ _ (pos_of_ne-zero c.if-b-eq0.false))
