-- Running sums and counts: C never falls and ends at N, and a count is its share rounded down or up.
-- A level is the level before it and 2 × N × weight, so the law of rounding a sum gives the share; no half is ever met or needed.
-- Assumes nothing.
use Prim.Native.Nat.{ℕ, zero, suc, ◌+◌, ◌*◌, ◌/◌, ◌≤◌, ◌<◌}
use mathlib.Core.Path.{◌≡◌, refl, ap, ◌∙◌}
use native.Mathlib.Nat.{mul-div-mul_left, add-mul-div_left, div-eq_of_lt}
use native.Mathlib.Omega.{arith}
use Rattle.arith.specs.Sum.{sum_below}
use Rattle.arith.specs.Rounding.{rounded_up, before}
use Rattle.arith.specs.Refusal.{answered}
use Rattle.arith.proofs.RefusalLaws.{answered_whole}
use Rattle.arith.proofs.RunLaws.{upto_same}
use Rattle.arith.proofs.RoundingLaws.{floor_plus, floor_plus_up, floor_mono, rounded_scaled}
use Rattle.arith.proofs.StepLaws.{steps_add_up}
use Rattle.screen.specs.declared.Screen.{Screen}
use Rattle.screen.specs.Screens.{refusal_of}
use Rattle.separation.specs.declared.Separation.{Separation}
use Rattle.separation.specs.declared.Inks.{Inks}
use Rattle.separation.specs.Weights.{weight, scale_of}
use Rattle.separation.proofs.Published.{scale_odd}
use Rattle.quantiser.specs.Running.{weight_up_to, level, running, count, counts_of}
use Rattle.quantiser.specs.Laws.{CountsAnswered}

module _ (s : Screen) (sep : Separation) (inks : Inks) where
  D_pos : 0 < scale_of sep
  D_pos = (scale_odd sep).0

  pub unit_pos : 0 < 2 * scale_of sep
  unit_pos = omega (arith, D_pos)

  -- the level before that of j; before the first it is D alone
  lower : ℕ → ℕ
  lower zero = scale_of sep
  lower (suc j) = level s.n sep inks j

  level_step : (j : ℕ) → level s.n sep inks j ≡ lower j + 2 * (s.n * weight sep inks j)
  unfolding lower level weight_up_to sum_below
  level_step zero = omega arith
  level_step (suc j) = omega arith

  pub level_rises : (j : ℕ) → level s.n sep inks j ≤ level s.n sep inks (suc j)
  unfolding lower
  level_rises j = omega (arith, level_step (suc j))

  pub running_rises : (j : ℕ) → running s sep inks j ≤ running s sep inks (suc j)
  unfolding running
  running_rises j = floor_mono _ _ (2 * scale_of sep) (level_rises j)

  half_none : scale_of sep / (2 * scale_of sep) ≡ 0
  half_none = div-eq_of_lt (omega (arith, D_pos))

  -- C(7) = N, and the counts add up to it
  pub running_ends : sum_below 8 (weight sep inks) ≡ scale_of sep → running s sep inks 7 ≡ s.n
  unfolding running level weight_up_to
  running_ends all =
      let q : 2 * s.n * sum_below 8 (weight sep inks) + scale_of sep ≡ scale_of sep + 2 * scale_of sep * s.n = rw all (omega arith) in
      ap (λ (e : ℕ). e / (2 * scale_of sep)) q ∙ add-mul-div_left (scale_of sep) s.n unit_pos ∙ omega (arith, half_none)

  pub counts_add_up : sum_below 8 (weight sep inks) ≡ scale_of sep → sum_below 8 (count s sep inks) ≡ s.n
  unfolding count
  counts_add_up all = steps_add_up (running s sep inks) running_rises 7 ∙ running_ends all

  lower_running : (j : ℕ) → lower j / (2 * scale_of sep) ≡ before (running s sep inks) j
  unfolding lower running
  lower_running zero = half_none
  lower_running (suc j) = refl

  -- A COUNT is its share rounded down or up
  pub count_low : (j : ℕ) → s.n * weight sep inks j / scale_of sep ≤ count s sep inks j
  unfolding count running
  count_low j =
      let share : ℕ = s.n * weight sep inks j in
      let step = floor_plus (lower j) (2 * share) (2 * scale_of sep) unit_pos in
      omega (arith, step, ap (λ (e : ℕ). e / (2 * scale_of sep)) (level_step j), lower_running j, mul-div-mul_left {m = 2} share (scale_of sep) (omega arith))

  pub count_high : (j : ℕ) → count s sep inks j ≤ rounded_up (s.n * weight sep inks j) (scale_of sep)
  unfolding count running
  count_high j =
      let share : ℕ = s.n * weight sep inks j in
      let step = floor_plus_up (lower j) (2 * share) (2 * scale_of sep) unit_pos in
      omega (arith, step, ap (λ (e : ℕ). e / (2 * scale_of sep)) (level_step j), lower_running j, rounded_scaled 2 share (scale_of sep) (omega arith) D_pos)

-- what `counts` answers
pub counts_answered : CountsAnswered
unfolding counts_of
counts_answered s sep inks = (
  refl,
  λ ok. upto_same (λ i. answered (refusal_of s) (count s sep inks i)) (count s sep inks) 8 (λ j l. answered_whole (refusal_of s) (count s sep inks j) ok),
)
