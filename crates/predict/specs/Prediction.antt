-- Rule 9.5: what `predict` answers, as the rules speak of it, and an answer laid out so.
-- Assumes nothing: these are definitions.
use Rattle.std.specs.Prelude.{ℕ, Float, Result, Ok, Err}
use Rattle.arith.specs.Refusal.{number}
use Rattle.predict.specs.declared.Xyz.{Xyz}
use Rattle.predict.specs.declared.PredictionError.{PredictionError}
use Rattle.predict.specs.declared.PredictionError.TheVariants.{Screen, Primary}

-- the predicted X, Y and Z, the first colorant that has a value beyond its limits, or the number of what refuses the screen
pub data Prediction : Type 0 where
  Colour : Float → Float → Float → Prediction
  BadPrimary : ℕ → Prediction
  BadScreen : ℕ → Prediction

abbrev pub prediction_of : Result Xyz PredictionError → Prediction
prediction_of (Ok p) = Colour p.x p.y p.z
prediction_of (Err (Screen refusal)) = BadScreen (number refusal)
prediction_of (Err (Primary colorant)) = BadPrimary colorant
