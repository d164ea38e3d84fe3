-- What `cavzemil_predict` answers, by its tests in their order.
-- Assumes nothing.
use Prim.Native.Nat.{ℕ}
use mathlib.Core.Path.{◌≡◌, ap, ◌∙◌}
use mathlib.Core.Bool.{true, false}
use mathlib.Core.List.{List}
use lib.Ieee.{Float}
use lib.ListN.{length}
use native.Mathlib.Decide.{ℕ_discrete}
use borrow.Author.Tests.{eq-eqb, ne_eqb}
use Rattle.screen.specs.Screens.{refusal_of, Admitted}
use Rattle.separation.specs.declared.Inks.{Inks}
use Rattle.predict.specs.Numbered.{Numbered, ruled}
use Rattle.predict.proofs.Published.{ruled_refused}
use Rattle.cavzemil.specs.declared.screens.Screen.{Screen}
use Rattle.cavzemil.specs.declared.colours.Prediction.{Prediction}
use Rattle.cavzemil.specs.Separations.{known, separation_of}
use Rattle.cavzemil.specs.Screens.{screen_of}
use Rattle.cavzemil.specs.Colours.{primaries_in, values_refusal, numbered_laid, colourless, prediction_given, predict_answer}

module _ (s : Screen) (separation : ℕ) (inks : Inks) (values : List Float) where
  pub prediction_unknown : {v : Prediction} → known separation ≡ false → v ≡ colourless 100 0 → v ≡ predict_answer s separation inks values
  unfolding prediction_given
  prediction_unknown e q = q ∙ rw e

  module _ (e : known separation ≡ true) where
    pub prediction_screen : {v : Prediction} → (refusal_of (screen_of s) ≡ 0 → ⊥) → v ≡ colourless (refusal_of (screen_of s)) 0 → v ≡ predict_answer s separation inks values
    unfolding values_refusal prediction_given
    prediction_screen h q = q ∙ rw (e, ne_eqb (refusal_of (screen_of s)) 0 h, ne_eqb (refusal_of (screen_of s)) 0 h)

    module _ (ok : Admitted (screen_of s)) where
      pub prediction_length : {v : Prediction} → (length values ≡ 24 → ⊥) → v ≡ colourless 6 0 → v ≡ predict_answer s separation inks values
      unfolding values_refusal prediction_given
      prediction_length h q = q ∙ rw (e, eq-eqb (refusal_of (screen_of s)) 0 ok, ne_eqb (length values) 24 h)

    ruled_given : length values ≡ 24 → Admitted (screen_of s)
        → numbered_laid (ruled (screen_of s) (separation_of separation) inks (primaries_in values)) ≡ predict_answer s separation inks values
    unfolding values_refusal prediction_given
    ruled_given l ok = rw (e, eq-eqb (refusal_of (screen_of s)) 0 ok, eq-eqb (length values) 24 l)

    pub prediction_ruled : {v : Prediction} {p : Numbered} → length values ≡ 24 → v ≡ numbered_laid p
        → p ≡ ruled (screen_of s) (separation_of separation) inks (primaries_in values) → v ≡ predict_answer s separation inks values
    prediction_ruled l q f = q ∙ ap numbered_laid f ∙ go (ℕ_discrete (refusal_of (screen_of s)) 0)
      where
        go : Dec (refusal_of (screen_of s) ≡ 0) → numbered_laid (ruled (screen_of s) (separation_of separation) inks (primaries_in values)) ≡ predict_answer s separation inks values
        go (yes ok) = ruled_given l ok
        go (no h) = prediction_screen h (ap numbered_laid (ruled_refused (screen_of s) (separation_of separation) inks (primaries_in values) h))
