-- Rule 16.8: what `predict_cellular` answers, as the rules speak of it, and an answer laid out so.
-- Assumes nothing: these are definitions.
use Rattle.std.specs.Prelude.{ℕ, Float, Result, Ok, Err}
use Rattle.arith.specs.Refusal.{number}
use Rattle.predict.specs.declared.Xyz.{Xyz}
use Rattle.predict.specs.declared.cellular.CellularError.{CellularError}
use Rattle.predict.specs.declared.cellular.CellularError.TheVariants as Error

-- the predicted X, Y and Z, the lowest set that has a value beyond its limits, or the number of what refuses the call
pub data Cellular : Type 0 where
  Colour : Float → Float → Float → Cellular
  BadSet : ℕ → Cellular
  Refused : ℕ → Cellular

abbrev pub cellular_of : Result Xyz CellularError → Cellular
cellular_of (Ok p) = Colour p.x p.y p.z
cellular_of (Err (Error.Refused refusal)) = Refused (number refusal)
cellular_of (Err (Error.Set set)) = BadSet set
