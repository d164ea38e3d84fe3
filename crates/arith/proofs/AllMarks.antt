-- The marks, shown by computing the definitions.
-- Assumes nothing.
use mathlib.Core.Path.{refl}
use native.Mathlib.Omega.{arith}
use Rattle.arith.specs.First.{first_below}
use Rattle.arith.specs.Gcd.{gcd_of}
use Rattle.arith.specs.Order.{ahead, place_among, ordered}
use Rattle.arith.specs.Remainder.{remainder_of}
use Rattle.arith.specs.Run.{upto}
use Rattle.arith.specs.Sum.{sum_below}
use Rattle.arith.specs.Marks.{counted, Marks}

pub marks : Marks
unfolding first_below gcd_of remainder_of sum_below upto ahead place_among ordered
marks =
    record {
      gcd_6 = refl;
      common = λ law. law 12 18;
      remainder_72 = refl;
      words = λ law. law 7 40 105 (omega arith);
      in_order = refl;
      falls_law = λ law. (law 8 counted).falls 1 (omega arith);
      ties_law = λ law. (law 8 counted).ties 1 (omega arith) refl;
      in_force = refl;
    }
