-- `arith::gcd`: the measure is the second number.
use Rattle.arith.proofs.+gcd.Given as goal

abbrev pub decreases-gcd : goal.decreases-gcd
decreases-gcd l = l.b
