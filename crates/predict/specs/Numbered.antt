-- Rules 9.5, 11.2 and 11.3: an answer of `predict` in numbers, by a record that serves cellular prediction too.
-- Assumes nothing: these are definitions.
use Rattle.std.specs.Prelude.{ℕ, cond, List, eqb, ltb, Float}
use Rattle.arith.specs.Refusal.{or_else, answered}
use Rattle.screen.specs.declared.Screen.{Screen}
use Rattle.screen.specs.Screens.{refusal_of}
use Rattle.separation.specs.declared.Separation.{Separation}
use Rattle.separation.specs.declared.Inks.{Inks}
use Rattle.quantiser.specs.Running.{count}
use Rattle.predict.specs.declared.Xyz.{Xyz}
use Rattle.predict.specs.Prediction.{Prediction, Colour, BadPrimary, BadScreen}
use Rattle.predict.specs.Predicted.{plus_zero, primary, first_bad, mean_of}

-- the refusal's number, 0 where there is none; the colorant or the set that 11 carries; and X, Y and Z
pub record Numbered : Type 0 where
  pub refusal : ℕ
  pub carried : ℕ
  pub x : Float
  pub y : Float
  pub z : Float

-- a colour, and a refusal with what it carries
abbrev pub coloured : Float → Float → Float → Numbered
coloured x y z = record { refusal = 0; carried = 0; x = x; y = y; z = z }

abbrev pub refused_as : ℕ → ℕ → Numbered
refused_as refusal carried = record { refusal = refusal; carried = carried; x = plus_zero; y = plus_zero; z = plus_zero }

-- each case of the answer in numbers
abbrev pub numbered_of : Prediction → Numbered
numbered_of (Colour x y z) = coloured x y z
numbered_of (BadPrimary j) = refused_as 11 j
numbered_of (BadScreen number) = refused_as number 0

-- rules 11.4 and 11.15: 11, after the screen's
unfoldable pub predict_refusal : Screen → List Xyz → ℕ
predict_refusal s ps = or_else (refusal_of s) (cond (ltb (first_bad ps) 8) 11 0)

-- a value of the colour, where the call is not refused
abbrev pub valued : ℕ → Float → Float
valued refusal v = cond (eqb refusal 0) v plus_zero

-- a call's numbers, given its refusal, what 11 carries, and the colour that it has where it is not refused
abbrev pub told : ℕ → ℕ → Xyz → Numbered
told refusal carried p = record { refusal = refusal; carried = carried; x = valued refusal p.x; y = valued refusal p.y; z = valued refusal p.z }

-- what the rules say of a call of `predict`
unfoldable pub ruled : Screen → Separation → Inks → List Xyz → Numbered
ruled s sep inks ps =
    told (predict_refusal s ps) (answered (refusal_of s) (cond (ltb (first_bad ps) 8) (first_bad ps) 0)) (mean_of (count s sep inks) s.n (primary ps))
