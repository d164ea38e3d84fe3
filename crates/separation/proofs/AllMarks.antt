-- The marks, shown by computing the definitions.
-- Assumes nothing.
use mathlib.Core.Path.{refl}
use native.Mathlib.Omega.{arith}
use Rattle.arith.specs.Run.{upto}
use Rattle.separation.specs.Weights.{weight, weights_of}
use Rattle.separation.specs.Laws.{c_m_y}
use Rattle.separation.specs.Marks.{rising, Marks}

pub marks : Marks
unfolding upto weight weights_of
marks =
    record {
      demichel = refl;
      kueppers = refl;
      words_law = λ law. (law rising (omega arith) 0 1 2 2 5 c_m_y (omega arith) (omega arith)).two_larger;
    }
