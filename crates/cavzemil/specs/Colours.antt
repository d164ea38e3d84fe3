-- What the calls on colours answer, and the primaries as they are passed.
-- Assumes nothing: these are definitions.
use Rattle.std.specs.Prelude.{ℕ, cond, List, [], ◌∷◌, eqb, Float, length}
use Rattle.arith.specs.Run.{upto}
use Rattle.arith.specs.Refusal.{unless, or_else, answered}
use Rattle.screen.specs.declared.Screen as Screens
use Rattle.screen.specs.Screens.{refusal_of}
use Rattle.separation.specs.declared.Separation.{Separation}
use Rattle.separation.specs.declared.Inks.{Inks}
use Rattle.quantiser.specs.Running.{count}
use Rattle.predict.specs.declared.Xyz.{Xyz}
use Rattle.predict.specs.Predicted.{plus_zero, triple_at}
use Rattle.predict.specs.Numbered.{Numbered, ruled}
use Rattle.cavzemil.specs.declared.screens.Screen.{Screen}
use Rattle.cavzemil.specs.declared.colours.Counts.{Counts}
use Rattle.cavzemil.specs.declared.colours.Prediction.{Prediction}
use Rattle.cavzemil.specs.Separations.{separation_of, refused_for}
use Rattle.cavzemil.specs.Screens.{screen_of}

-- ---- `cavzemil_counts_of`: 100, then the screen's

-- the counts of the eight colorants, given the refusal: 0 where there is one (rule 11.3)
unfoldable pub counts_given : ℕ → Screens.Screen → Separation → Inks → Counts
counts_given refusal s sep inks = record { refusal = refusal; of = upto (λ j. answered refusal (count s sep inks j)) 8 }

abbrev pub counts_answer : Screen → ℕ → Inks → Counts
counts_answer s separation inks = counts_given (refused_for separation (refusal_of (screen_of s))) (screen_of s) (separation_of separation) inks

-- ---- `cavzemil_predict`

-- rule 14.4: the primaries of a run of values
unfoldable pub primaries_in : List Float → List Xyz
primaries_in values =
    triple_at values 0
    ∷ triple_at values 1
    ∷ triple_at values 2
    ∷ triple_at values 3
    ∷ triple_at values 4
    ∷ triple_at values 5
    ∷ triple_at values 6
    ∷ triple_at values 7
    ∷ []

-- rule 14.4, what is refused before the primaries are read: the screen's, then 6 for another length
unfoldable pub values_refusal : Screens.Screen → List Float → ℕ
values_refusal s values = or_else (refusal_of s) (unless (eqb (length values) 24) 6 0)

-- an answer in numbers, field by field
abbrev pub numbered_laid : Numbered → Prediction
numbered_laid p = record { refusal = p.refusal; colorant = p.carried; x = p.x; y = p.y; z = p.z }

-- a refusal, and the colorant that it carries, with no colour
abbrev pub colourless : ℕ → ℕ → Prediction
colourless refusal colorant = record { refusal = refusal; colorant = colorant; x = plus_zero; y = plus_zero; z = plus_zero }

-- the answer, given that refusal: no colour, or what the rules say of the primaries
unfoldable pub prediction_given : ℕ → Screens.Screen → Separation → Inks → List Xyz → Prediction
prediction_given refusal s sep inks primaries = cond (eqb refusal 0) (numbered_laid (ruled s sep inks primaries)) (colourless refusal 0)

abbrev pub predict_answer : Screen → ℕ → Inks → List Float → Prediction
predict_answer s separation inks values =
    prediction_given (refused_for separation (values_refusal (screen_of s) values)) (screen_of s) (separation_of separation) inks (primaries_in values)
