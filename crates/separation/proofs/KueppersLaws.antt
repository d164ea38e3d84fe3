-- The eight Kueppers weights: that they add up to 255, what each is by the order of the three values, and that at most four are above 0.
-- The sum: the value of an ink cuts a distance in two, one part for the colorant that holds the ink and one for the colorant that is the same
-- without it. So the eight weights join to four distances, these to two, and these to the whole of 255.
-- The order: once it is known, each weight is plain arithmetic.
-- At most four: of two colorants that each hold an ink which the other lacks, one gets nothing. So at most one colorant of a single ink gets
-- anything, and at most one of two inks.
-- Assumes nothing.
use Prim.Native.Nat.{ℕ, zero, suc, ◌+◌, ◌-◌, ◌≤◌, ◌<◌, min, max}
use mathlib.Core.Path.{◌≡◌}
use mathlib.Core.Bool.{Bool, true, false, cond, ◌||◌}
use mathlib.Core.Logic.{◌≢◌}
use native.Mathlib.Nat.{min-eq_right, zero-max}
use native.Mathlib.Omega.{arith}
use lib.Dec.{eqb, ltb}
use borrow.Author.Tests.{ne_eqb}
use Rattle.arith.specs.Sum.{sum_below, indicator}
use Rattle.arith.proofs.TallyLaws.{indicator_le}
use Rattle.separation.specs.declared.Separation.TheVariants.{Kueppers}
use Rattle.separation.specs.declared.Inks.{Inks}
use Rattle.separation.specs.Weights.{full, weight, scale_of}
use Rattle.separation.specs.Laws.{InkValues, KueppersWords, KueppersFour, c_m_y, c_y_m, m_c_y, m_y_c, y_c_m, y_m_c}

-- the weight of colorant j
abbrev w : Inks → ℕ → ℕ
w inks j = weight Kueppers inks j

-- ---- the sum

-- a value v cuts the distance from low to high: the part below v is for the colorant that holds the ink, the part above it for the other
cut : (v high low : ℕ) → high ≤ full → (min v high - max 0 low) + (min full high - max v low) ≡ high - low
cut v high low h = rw (zero-max, min-eq_right h) (omega arith)

-- the weights that there would be without cyan, by whether magenta and yellow are held
two : Inks → Bool → Bool → ℕ
two inks m_held y_held = min (cond m_held inks.m full) (cond y_held inks.y full) - max (cond m_held 0 inks.m) (cond y_held 0 inks.y)

module _ (inks : Inks) (v : InkValues inks) where
  -- two colorants that differ by cyan
  over_cyan :
      (w inks 6 + w inks 5 ≡ two inks true true)
      × (w inks 3 + w inks 1 ≡ two inks true false)
      × (w inks 4 + w inks 2 ≡ two inks false true)
      × (w inks 0 + w inks 7 ≡ two inks false false)
  unfolding two weight
  over_cyan = (cut _ _ _ (omega arith), cut _ _ _ (omega arith), cut _ _ _ (omega arith), cut _ _ _ (omega arith))

  -- and without cyan, two that differ by magenta
  over_magenta : (two inks true true + two inks false true ≡ inks.y - 0) × (two inks true false + two inks false false ≡ full - inks.y)
  unfolding two
  over_magenta = (cut _ _ _ (omega arith), cut _ _ _ (omega arith))

  -- THE EIGHT ADD UP to 255
  pub kueppers_adds_up : sum_below 8 (weight Kueppers inks) ≡ scale_of Kueppers
  unfolding sum_below scale_of
  kueppers_adds_up = omega (arith, over_cyan, over_magenta)

-- ---- the rule by the order of the values

-- a statement of the six colorants of one ink and of two
abbrev EachOfSix : (ℕ → Type 0) → Type 0
EachOfSix P = P 0 × P 1 × P 2 × P 3 × P 4 × P 5

-- and so of any number below 6
below_six : (P : ℕ → Type 0) → EachOfSix P → (j : ℕ) → j < 6 → P j
below_six P p zero h = p.0
below_six P p (suc zero) h = p.1
below_six P p (suc (suc zero)) h = p.2
below_six P p (suc (suc (suc zero))) h = p.3
below_six P p (suc (suc (suc (suc zero)))) h = p.4
below_six P p (suc (suc (suc (suc (suc zero))))) h = p.5
below_six P p (suc (suc (suc (suc (suc (suc j)))))) h = absurd (omega arith)

-- colorant j gets nothing, unless it is one of the two
abbrev Other : Inks → ℕ → ℕ → ℕ → Type 0
Other inks single double j = w inks j ≡ cond (eqb j double || eqb j single) (w inks j) 0

-- in the words of `KueppersSentence`
no_others : (inks : Inks) (single double : ℕ) → EachOfSix (Other inks single double)
    → (j : ℕ) → j < 8 → j ≢ 6 → j ≢ double → j ≢ single → j ≢ 7 → w inks j ≡ 0
no_others inks s d p j h n6 nd ns n7 = rw (ne_eqb j d nd, ne_eqb j s ns) at (below_six (Other inks s d) p j (omega arith))

-- rule 4.4 by the order of the values, for each of the six orders
pub kueppers_words : KueppersWords
unfolding weight
kueppers_words inks v _ _ _ _ _ c_m_y p q = search (arith, no_others inks 2 5 (omega arith))
kueppers_words inks v _ _ _ _ _ c_y_m p q = search (arith, no_others inks 1 5 (omega arith))
kueppers_words inks v _ _ _ _ _ m_c_y p q = search (arith, no_others inks 2 4 (omega arith))
kueppers_words inks v _ _ _ _ _ m_y_c p q = search (arith, no_others inks 0 4 (omega arith))
kueppers_words inks v _ _ _ _ _ y_c_m p q = search (arith, no_others inks 1 3 (omega arith))
kueppers_words inks v _ _ _ _ _ y_m_c p q = search (arith, no_others inks 0 3 (omega arith))

-- ---- at most four

-- of two numbers, one at most a - b and the other at most b - a, only one is above 0
apart : (u v a b : ℕ) → (u ≤ a - b) × (v ≤ b - a) → indicator (ltb 0 u) + indicator (ltb 0 v) ≤ 1
apart zero v a b h = omega (arith, indicator_le (ltb 0 v))
apart (suc u) zero a b h = omega (arith, indicator_le (ltb 0 (suc u)))
apart (suc u) (suc v) a b h = absurd (omega arith)

-- AT MOST FOUR are above 0: one of a single ink, one of two inks, black and white
pub kueppers_four : KueppersFour
unfolding sum_below weight
kueppers_four inks v =
    omega (
      arith,
      apart (w inks 0) (w inks 1) inks.c inks.m (omega arith),
      apart (w inks 0) (w inks 2) inks.c inks.y (omega arith),
      apart (w inks 1) (w inks 2) inks.m inks.y (omega arith),
      apart (w inks 3) (w inks 4) inks.m inks.y (omega arith),
      apart (w inks 3) (w inks 5) inks.c inks.y (omega arith),
      apart (w inks 4) (w inks 5) inks.c inks.m (omega arith),
      indicator_le (ltb 0 (w inks 6)),
      indicator_le (ltb 0 (w inks 7)),
    )
