-- What the call on sets of colorants answers.
-- Assumes nothing: these are definitions.
use Rattle.std.specs.Prelude.{ℕ, cond, List, eqb, Float}
use Rattle.screen.specs.declared.Screen as Screens
use Rattle.separation.specs.declared.Separation.{Separation}
use Rattle.separation.specs.declared.Inks.{Inks}
use Rattle.predict.specs.Numbered.{Numbered, refused_as}
use Rattle.predict.specs.Cellular.{ruled}
use Rattle.cavzemil.specs.declared.screens.Screen.{Screen}
use Rattle.cavzemil.specs.declared.cellular.Cellular.{Cellular}
use Rattle.cavzemil.specs.Separations.{separation_of, refused_for}
use Rattle.cavzemil.specs.Screens.{screen_of}

-- rule 14.2: an answer in numbers, field by field
abbrev pub cellular_laid : Numbered → Cellular
cellular_laid p = record { refusal = p.refusal; set = p.carried; x = p.x; y = p.y; z = p.z }

-- a refusal, and the set that it carries, with no colour
abbrev pub uncoloured : ℕ → ℕ → Cellular
uncoloured refusal set = cellular_laid (refused_as refusal set)

-- `cavzemil_predict_cellular`: 100, and else what the rules say
unfoldable pub cellular_given : ℕ → Screens.Screen → Separation → Inks → List Float → Cellular
cellular_given refusal s sep inks values = cond (eqb refusal 0) (cellular_laid (ruled s sep inks values)) (uncoloured refusal 0)

abbrev pub cellular_answer : Screen → ℕ → Inks → List Float → Cellular
cellular_answer s separation inks values = cellular_given (refused_for separation 0) (screen_of s) (separation_of separation) inks values
