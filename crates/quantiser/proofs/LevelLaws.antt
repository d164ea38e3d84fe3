-- The levels as `levels` works them out, their quotients as `counted` takes them, and what the calls answer and write.
-- Assumes nothing.
use Prim.Native.Nat.{ℕ, zero, suc, ◌+◌, ◌-◌, ◌*◌, ◌/◌, ◌≤◌, ◌<◌}
use mathlib.Core.Path.{◌≡◌, refl, sym, ap, ap₂, ◌∙◌}
use native.Mathlib.Omega.{arith}
use mathlib.Core.Bool.{cond, true}
use mathlib.Core.List.{List, [], ◌∷◌, ◌++◌}
use lib.ListN.{length, get_or, drop, get_or-append}
use lib.Dec.{ltb}
use borrow.Author.Tests.{lt-ltb, le-ltb}
use Rattle.arith.specs.Sum.{sum_below}
use Rattle.arith.specs.Run.{upto}
use Rattle.arith.specs.Rounding.{before}
use Rattle.std.specs.Prelude.{Result, Ok, Err}
use Rattle.std.specs.Result.{is_err}
use Rattle.arith.specs.Refusal.{number, number_of, answered}
use Rattle.arith.specs.declared.refusals.Refusal.{Refusal}
use Rattle.arith.proofs.RefusalLaws.{number_above, answered_none, answered_whole, refused_answered, refused_written, written_whole}
use Rattle.arith.proofs.RunLaws.{upto_length, upto_at, upto_same, upto_over}
use Rattle.arith.proofs.SumLaws.{sum_same, sum_fewer}
use Rattle.arith.proofs.StepLaws.{rises_to, before_most}
use Rattle.screen.specs.declared.Screen.{Screen}
use Rattle.screen.specs.Screens.{refusal_of, Admitted}
use Rattle.screen.specs.Brick.{buffer_refusal}
use Rattle.screen.proofs.Published.{buffer_tests}
use Rattle.separation.specs.declared.Separation.{Separation}
use Rattle.separation.specs.declared.Separation.TheVariants.{Demichel, Kueppers}
use Rattle.separation.specs.declared.Inks.{Inks}
use Rattle.separation.specs.Weights.{weight, weights_of, scale_of}
use Rattle.quantiser.specs.Running.{weight_up_to, level, running, count, Counts, counts_of}
use Rattle.quantiser.specs.Leaves.{levels_of, threshold_of, thresholds_in, lone_threshold}
use Rattle.quantiser.proofs.RunningLaws.{running_rises}

-- D is at most 255 × 255 × 255
pub scale_limit : (sep : Separation) → scale_of sep ≤ 16581375
unfolding scale_of
scale_limit Demichel = omega arith
scale_limit Kueppers = omega arith

module _ (sep : Separation) (inks : Inks) where
  -- sums of the listed weights are sums of the weights
  listed : (j : ℕ) → j ≤ 8 → sum_below j (λ i. get_or (weights_of sep inks) i 0) ≡ sum_below j (weight sep inks)
  unfolding weights_of
  listed j h = sum_same j _ _ (λ i l. upto_at (weight sep inks) 8 i (omega arith))

  pub weights_within : sum_below 8 (weight sep inks) ≡ scale_of sep → (j : ℕ) → j ≤ 8 → sum_below j (λ i. get_or (weights_of sep inks) i 0) ≤ scale_of sep
  weights_within all j h = omega (arith, listed j h, sum_fewer j 8 (weight sep inks) h)

  pub levels_are : (n : ℕ) → upto (λ j. 2 * n * sum_below (suc j) (λ i. get_or (weights_of sep inks) i 0) + scale_of sep) 8 ≡ levels_of n sep inks
  unfolding levels_of level weight_up_to
  levels_are n = upto_same _ (level n sep inks) 8 (λ j l. ap (λ (a : ℕ). 2 * n * a + scale_of sep) (listed (suc j) l))

module _ (s : Screen) (sep : Separation) (inks : Inks) where
  -- the quotients of the listed levels are the running sums
  quotient_is : (j : ℕ) → j < 8 → get_or (levels_of s.n sep inks) j 0 / (2 * scale_of sep) ≡ running s sep inks j
  unfolding levels_of running
  quotient_is j l = ap (λ (e : ℕ). e / (2 * scale_of sep)) (upto_at (level s.n sep inks) 8 j l)

  quotient_before : (j : ℕ) → j < 8 → before (λ i. get_or (levels_of s.n sep inks) i 0 / (2 * scale_of sep)) j ≡ before (running s sep inks) j
  quotient_before zero l = refl
  quotient_before (suc j) l = quotient_is j (omega arith)

  pub quotient_within : running s sep inks 7 ≡ s.n → (j : ℕ) → j < 8 → get_or (levels_of s.n sep inks) j 0 / (2 * scale_of sep) ≤ s.n
  quotient_within ends j l = omega (arith, quotient_is j l, rises_to (running s sep inks) (running_rises s sep inks) j 7 (omega arith))

  pub quotient_rises : (j : ℕ) → j < 8
      → before (λ i. get_or (levels_of s.n sep inks) i 0 / (2 * scale_of sep)) j ≤ get_or (levels_of s.n sep inks) j 0 / (2 * scale_of sep)
  quotient_rises j l = omega (arith, quotient_is j l, quotient_before j l, before_most (running s sep inks) (running_rises s sep inks) j)

  pub counts_are : upto (λ j. get_or (levels_of s.n sep inks) j 0 / (2 * scale_of sep) - before (λ i. get_or (levels_of s.n sep inks) i 0 / (2 * scale_of sep)) j) 8 ≡ upto (count s sep inks) 8
  unfolding count
  counts_are = upto_same _ (count s sep inks) 8 (λ j l. ap₂ ◌-◌ (quotient_is j l) (quotient_before j l))

-- ---- what is answered and written, refused or not

module _ (s : Screen) (sep : Separation) (inks : Inks) where
  pub counts_none : (refusal_of s ≡ 0 → ⊥) → ◌≡◌ {A = Counts} (record { refusal = refusal_of s; of = 0 ∷ 0 ∷ 0 ∷ 0 ∷ 0 ∷ 0 ∷ 0 ∷ 0 ∷ [] }) (counts_of s sep inks)
  unfolding counts_of upto
  counts_none h =
      let none : (j : ℕ) → answered (refusal_of s) (count s sep inks j) ≡ 0 = λ j. answered_none (refusal_of s) (count s sep inks j) h in
      rw (none 0, none 1, none 2, none 3, none 4, none 5, none 6, none 7)

  pub counts_whole : 0 ≡ refusal_of s → upto (count s sep inks) 8 ≡ (counts_of s sep inks).of
  unfolding counts_of
  counts_whole e =
      sym (upto_same (λ j. answered (refusal_of s) (count s sep inks j)) (count s sep inks) 8 (λ j l. answered_whole (refusal_of s) (count s sep inks j) (sym e)))

module _ (s : Screen) (table : List ℕ) where
  -- the refusal of a table, by the tests that it is put to
  pub table_error : (e : Refusal) → number e ≡ refusal_of s → number e ≡ buffer_refusal s (length table)
  table_error e same = same ∙ (buffer_tests s (length table)).0 (λ z. omega (arith, number_above e, same, z))

  pub table_short : refusal_of s ≡ 0 → length table < s.n → 8 ≡ buffer_refusal s (length table)
  table_short e short = (buffer_tests s (length table)).1 e short

  pub table_fits : refusal_of s ≡ 0 → s.n ≤ length table → 0 ≡ buffer_refusal s (length table)
  table_fits e room = (buffer_tests s (length table)).2 e room

  -- and what is left in it
  pub thresholds_none : 0 < buffer_refusal s (length table) → table ≡ thresholds_in s table
  unfolding thresholds_in
  thresholds_none above = refused_written (buffer_refusal s (length table)) (upto (threshold_of s) s.n) table above

  pub thresholds_refused : 0 < refusal_of s → table ≡ thresholds_in s table
  thresholds_refused above = thresholds_none (omega (arith, above, (buffer_tests s (length table)).0 (λ z. omega (arith, above, z))))

  pub thresholds_short : refusal_of s ≡ 0 → length table < s.n → table ≡ thresholds_in s table
  thresholds_short e short = thresholds_none (omega (arith, table_short e short))

  pub thresholds_served : refusal_of s ≡ 0 → s.n ≤ length table → upto (threshold_of s) s.n ++ drop s.n table ≡ thresholds_in s table
  unfolding thresholds_in
  thresholds_served e room =
      sym (written_whole (buffer_refusal s (length table)) (upto (threshold_of s) s.n) table s.n (sym (table_fits e room)) (upto_length (threshold_of s) s.n))

-- a call that answers an error has a number above 0
pub err_above : (r : Result (Unit {0}) Refusal) → is_err r ≡ true → 0 < number_of r
err_above (Ok x) h = cc
err_above (Err e) h = number_above e

module _ (s : Screen) (p : ℕ) where
  pub lone_refused : 0 < refusal_of s → 0 ≡ lone_threshold s p
  unfolding lone_threshold
  lone_refused above = sym (refused_answered (refusal_of s) (cond (ltb p s.n) (threshold_of s p) 0) above)

  pub lone_beyond : refusal_of s ≡ 0 → s.n ≤ p → 0 ≡ lone_threshold s p
  unfolding lone_threshold
  lone_beyond e h = sym (answered_whole (refusal_of s) (cond (ltb p s.n) (threshold_of s p) 0) e ∙ rw (le-ltb p s.n h))

  pub lone_whole : refusal_of s ≡ 0 → p < s.n → threshold_of s p ≡ lone_threshold s p
  unfolding lone_threshold
  lone_whole e l = sym (answered_whole (refusal_of s) (cond (ltb p s.n) (threshold_of s p) 0) e ∙ rw (lt-ltb p s.n l))

pub thresholds_listed : (s : Screen) → Admitted s → (table : List ℕ) → s.n ≤ length table
    → (length (thresholds_in s table) ≡ length table) × ((p : ℕ) → p < s.n → get_or (thresholds_in s table) p 0 ≡ threshold_of s p)
thresholds_listed s ok table room =
    rw (← thresholds_served s table ok room) (
      upto_over (threshold_of s) table s.n room,
      λ p l. get_or-append (upto (threshold_of s) s.n) (drop s.n table) 0 p (rw (upto_length (threshold_of s) s.n) l) ∙ upto_at (threshold_of s) s.n p l,
    )
