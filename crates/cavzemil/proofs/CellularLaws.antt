-- What `cavzemil_predict_cellular` answers: 100 is told first, and the rest is the library's answer.
-- Assumes nothing.
use Prim.Native.Nat.{ℕ}
use mathlib.Core.Path.{◌≡◌, ap}
use mathlib.Core.Bool.{true, false}
use mathlib.Core.List.{List}
use lib.Ieee.{Float}
use Rattle.separation.specs.declared.Inks.{Inks}
use Rattle.predict.specs.Cellular.{ruled}
use Rattle.cavzemil.specs.declared.screens.Screen.{Screen}
use Rattle.cavzemil.specs.Separations.{known, separation_of}
use Rattle.cavzemil.specs.Screens.{screen_of}
use Rattle.cavzemil.specs.Cellular.{cellular_laid, uncoloured, cellular_given, cellular_answer}

module _ (s : Screen) (separation : ℕ) (inks : Inks) (values : List Float) where
  pub cellular_unknown : known separation ≡ false → uncoloured 100 0 ≡ cellular_answer s separation inks values
  unfolding cellular_given
  cellular_unknown e = rw e

  pub cellular_known : known separation ≡ true → cellular_laid (ruled (screen_of s) (separation_of separation) inks values) ≡ cellular_answer s separation inks values
  unfolding cellular_given
  cellular_known e = rw e
