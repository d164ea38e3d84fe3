-- Rules 12.1 to 12.6, 12.12 and 12.18 to 12.21, the worked examples up to here in one statement, and two small cases of the laws.
-- proofs/AllMarks.antt shows them by computing the definitions.
-- Assumes nothing: these are statements.
use Rattle.std.specs.Prelude.{◌≡◌, [], ◌∷◌}
use Rattle.arith.specs.Run.{upto}
use Rattle.screen.specs.Screens.{screen_of}
use Rattle.screen.specs.Marks as Screens
use Rattle.screen.specs.Marks.{listed, tworowed}
use Rattle.separation.specs.declared.Separation.TheVariants.{Demichel, Kueppers}
use Rattle.separation.specs.Weights.{inks_of}
use Rattle.separation.specs.Marks.{half, rising}
use Rattle.quantiser.specs.Running.{count}
use Rattle.quantiser.specs.Subscreens.{subscreen_size, colorant_of, phases_in}
use Rattle.quantiser.specs.Leaves.{lone_threshold}
use Rattle.quantiser.specs.Laws.{ShareRounded, SplitEvenly}

pub record Marks : Type 0 where
  -- rules 12.1, 12.2, 12.12 and 12.18 to 12.21: the bricks of three screens, the phases 7, 26 and 72, stored numbers, and the phases of motifs
  pub screens : Screens.Marks
  -- rule 12.3
  pub first_p : upto (count listed Demichel half) 8 ≡ 26 ∷ 26 ∷ 0 ∷ 27 ∷ 0 ∷ 0 ∷ 0 ∷ 26 ∷ []
  -- rule 12.4: the sizes of the subscreens, and how many phases of each colorant they have
  pub sizes : (subscreen_size listed 0 ≡ 52) × (subscreen_size listed 1 ≡ 53)
  pub in_subscreen_0 : upto (phases_in listed Demichel half 0) 8 ≡ 13 ∷ 13 ∷ 0 ∷ 13 ∷ 0 ∷ 0 ∷ 0 ∷ 13 ∷ []
  pub in_subscreen_1 : upto (phases_in listed Demichel half 1) 8 ≡ 13 ∷ 13 ∷ 0 ∷ 14 ∷ 0 ∷ 0 ∷ 0 ∷ 13 ∷ []
  -- blue's 27 are its share of 26.46 rounded up, and 14 of them in a subscreen are half of 27 rounded up
  pub share_blue : ShareRounded listed Demichel half 3
  pub split_blue : SplitEvenly listed Demichel half 3 14
  -- rule 12.4: the colorants of two phases
  pub phase_39 : colorant_of listed Demichel half 39 ≡ 7
  pub phase_91 : colorant_of listed Demichel half 91 ≡ 3
  -- rule 6.5: the thresholds of these phases, each the 40th of its subscreen, of one that there is not, and of a screen that is refused
  pub threshold_39 : lone_threshold listed 39 ≡ 80
  pub threshold_91 : lone_threshold listed 91 ≡ 79
  pub threshold_106 : lone_threshold listed 106 ≡ 0
  pub threshold_refused : lone_threshold (screen_of 2 4 105 2 0) 39 ≡ 0
  -- rule 12.5
  pub kueppers_70 : upto (count tworowed Kueppers rising) 8 ≡ 0 ∷ 0 ∷ 28 ∷ 0 ∷ 0 ∷ 14 ∷ 14 ∷ 14 ∷ []
  -- rule 12.6
  pub kueppers_cyan : colorant_of (screen_of 1 2 1 1 0) Kueppers (inks_of 128 0 0) 0 ≡ 0
  pub kueppers_white : colorant_of (screen_of 1 2 1 1 0) Kueppers (inks_of 127 0 0) 0 ≡ 7
