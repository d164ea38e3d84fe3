-- What `separation` promises of its definitions to the crates above. Each is a statement; proofs/Published.antt proves it.
-- Assumes nothing.
use Rattle.std.specs.Prelude.{ℕ, ◌-◌, ◌%◌, ◌≤◌, ◌<◌, ◌≡◌, ◌≢◌, [], ◌∷◌, get_or, ltb}
use Rattle.arith.specs.Sum.{sum_below, indicator}
use Rattle.separation.specs.declared.Separation.{Separation}
use Rattle.separation.specs.declared.Separation.TheVariants.{Kueppers}
use Rattle.separation.specs.declared.Inks.{Inks}
use Rattle.separation.specs.Weights.{full, weight, scale_of}

-- rule 4.1: what the type of the three fields says
pub record InkValues (inks : Inks) : Type 0 where
  pub c_value : inks.c ≤ full
  pub m_value : inks.m ≤ full
  pub y_value : inks.y ≤ full

-- rule 4.5: the eight weights add up to the scale
abbrev pub WeightsAddUp : Type 0
WeightsAddUp = (sep : Separation) (inks : Inks) → InkValues inks → sum_below 8 (weight sep inks) ≡ scale_of sep

-- rule 5.3: the scale is odd
abbrev pub ScaleOdd : Type 0
ScaleOdd = (sep : Separation) → (0 < scale_of sep) × (scale_of sep % 2 ≡ 1)

-- ---- Kueppers, by the order of the three values

-- the value of ink 0 (cyan), 1 (magenta) or 2 (yellow)
abbrev pub value : Inks → ℕ → ℕ
value inks i = get_or (inks.c ∷ inks.m ∷ inks.y ∷ []) i 0

-- The six orders of the inks, the one of the least value first, each with the colorant that holds the last ink alone and the one that
-- holds the last two.
pub data Order : ℕ → ℕ → ℕ → ℕ → ℕ → Type 0 where
  c_m_y : Order 0 1 2 2 5
  c_y_m : Order 0 2 1 1 5
  m_c_y : Order 1 0 2 2 4
  m_y_c : Order 1 2 0 0 4
  y_c_m : Order 2 0 1 1 3
  y_m_c : Order 2 1 0 0 3

-- Rule 4.4 for values in an order: what black, the colorant of the last two inks, that of the last alone and white have, and that the
-- other four have 0.
pub record KueppersSentence (inks : Inks) (least middle largest single double : ℕ) : Type 0 where
  pub black : weight Kueppers inks 6 ≡ value inks least
  pub two_larger : weight Kueppers inks double ≡ value inks middle - value inks least
  pub of_largest : weight Kueppers inks single ≡ value inks largest - value inks middle
  pub white : weight Kueppers inks 7 ≡ full - value inks largest
  pub no_other : (j : ℕ) → j < 8 → j ≢ 6 → j ≢ double → j ≢ single → j ≢ 7 → weight Kueppers inks j ≡ 0

-- and this for every order that the values have, equal ones either way
abbrev pub KueppersWords : Type 0
KueppersWords =
    (inks : Inks) → InkValues inks → (least middle largest single double : ℕ) → Order least middle largest single double
    → value inks least ≤ value inks middle → value inks middle ≤ value inks largest → KueppersSentence inks least middle largest single double

-- so that at most four colorants get anything
abbrev pub KueppersFour : Type 0
KueppersFour = (inks : Inks) → InkValues inks → sum_below 8 (λ j. indicator (ltb 0 (weight Kueppers inks j))) ≤ 4
