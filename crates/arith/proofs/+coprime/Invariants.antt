-- `arith::coprime`: the measure is the second number.
use Rattle.arith.proofs.+coprime.Given as goal

abbrev pub decreases-coprime : goal.decreases-coprime
decreases-coprime l = l.b
