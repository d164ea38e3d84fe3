-- Subscreens: their sizes add up to N, each phase has its place in one of them, and in each the phases of a colorant are those
-- between two neighbouring values of (C(j) + k) / K.
-- Assumes nothing.
use Prim.Native.Nat.{ℕ, zero, suc, pred, ◌+◌, ◌-◌, ◌/◌, ◌≤◌, ◌<◌}
use mathlib.Core.Path.{◌≡◌, refl, sym, ap, ap₂, ◌∙◌}
use mathlib.Core.Bool.{◌&&◌}
use mathlib.Core.Logic.{◌≢◌}
use native.Mathlib.Nat.{le_refl, suc-pred-eq_of_pos, zero-add, div-eq_of_lt}
use native.Mathlib.Omega.{arith}
use lib.Dec.{eqb}
use borrow.Author.Tests.{lt-ltb, le-ltb, ltb-true, ltb-false, eq-eqb, ne_eqb}
use Rattle.arith.specs.Sum.{sum_below, indicator}
use Rattle.arith.specs.Rounding.{rounded_up, before}
use Rattle.arith.proofs.RoundingLaws.{floor_plus, floor_plus_up, floor_mono, floors_add_up}
use Rattle.arith.proofs.SumLaws.{sum_same, sum_constant, sum_single, sum_minus, sum_runs}
use Rattle.arith.proofs.StepLaws.{rises_to, before_most, step_count}
use Rattle.arith.proofs.FirstLaws.{first_is, first_found, first_passes, none_before}
use Rattle.screen.specs.declared.Screen.{Screen}
use Rattle.screen.specs.Screens.{Admitted, Limits}
use Rattle.screen.proofs.Published.{admitted_words}
use Rattle.separation.specs.declared.Separation.{Separation}
use Rattle.separation.specs.declared.Inks.{Inks}
use Rattle.quantiser.specs.Running.{running, count}
use Rattle.quantiser.specs.Subscreens.{subscreen_size, subscreen_start, subscreen_of, distance_of, fill_up_to, colorant_at, colorant_of, phases_in, phases_of}
use Rattle.quantiser.proofs.RunningLaws.{running_rises}

module _ (s : Screen) (ok : Admitted s) where
  limits : Limits s
  limits = (admitted_words s).0 ok

  -- ---- places

  pub start_step : (k : ℕ) → subscreen_start s (suc k) ≡ subscreen_start s k + subscreen_size s k
  unfolding subscreen_start sum_below
  start_step k = refl

  pub start_rises : (k : ℕ) → subscreen_start s k ≤ subscreen_start s (suc k)
  start_rises k = omega (arith, start_step k)

  pub sizes_add_up : subscreen_start s s.k ≡ s.n
  unfolding subscreen_start subscreen_size
  sizes_add_up = floors_add_up s.n s.k limits.subscreens_above

  -- the subscreen in which p lies
  pub subscreen_is : (k p : ℕ) → k < s.k → subscreen_start s k ≤ p → p < subscreen_start s (suc k) → subscreen_of s p ≡ k
  unfolding subscreen_of
  subscreen_is k p l low high =
      first_is s.k _ k l (lt-ltb _ _ high)
      (λ i h. le-ltb p (subscreen_start s (suc i)) (omega (arith, rises_to (subscreen_start s) start_rises (suc i) k h)))

  pub place_of : (k q : ℕ) → k < s.k → q < subscreen_size s k
      → (subscreen_of s (subscreen_start s k + q) ≡ k) × (distance_of s (subscreen_start s k + q) ≡ q)
  unfolding distance_of
  place_of k q l h =
      let e : subscreen_of s (subscreen_start s k + q) ≡ k = subscreen_is k (subscreen_start s k + q) l (omega arith) (omega (arith, start_step k)) in
      (e, omega (arith, ap (subscreen_start s) e))

  -- a phase below N lies in some subscreen, from its start on and before its end
  subscreen_below : (p : ℕ) → p < s.n → subscreen_of s p < s.k
  unfolding subscreen_of
  subscreen_below p l =
      let whole : suc (pred s.k) ≡ s.k = suc-pred-eq_of_pos limits.subscreens_above in
      first_found s.k _ (pred s.k) (omega (arith, whole)) (lt-ltb p (subscreen_start s (suc (pred s.k))) (omega (arith, ap (subscreen_start s) whole, sizes_add_up)))

  before_end : (p : ℕ) → p < s.n → p < subscreen_start s (suc (subscreen_of s p))
  unfolding subscreen_of
  before_end p l = ltb-true _ _ (first_passes s.k _ (subscreen_below p l))

  from_start : (p k : ℕ) → k ≤ subscreen_of s p → subscreen_start s k ≤ p
  unfolding subscreen_of subscreen_start sum_below
  from_start p zero h = omega arith
  from_start p (suc k) h = ltb-false p (subscreen_start s (suc k)) (none_before s.k _ k h)

  pub phase_place : (p : ℕ) → p < s.n
      → (subscreen_of s p < s.k) × (distance_of s p < subscreen_size s (subscreen_of s p)) × (subscreen_start s (subscreen_of s p) + distance_of s p ≡ p)
  unfolding distance_of
  phase_place p l =
      let low : subscreen_start s (subscreen_of s p) ≤ p = from_start p (subscreen_of s p) (le_refl (subscreen_of s p)) in
      let high = before_end p l in
      (subscreen_below p l, omega (arith, start_step (subscreen_of s p)), omega arith)

  -- a sum over the phases is one over the subscreens and the distances in them
  pub sum_over_phases : (f : ℕ → ℕ) → sum_below s.n f ≡ sum_below s.k (λ k. sum_below (subscreen_size s k) (λ q. f (subscreen_start s k + q)))
  unfolding subscreen_start
  sum_over_phases f = ap (λ (n : ℕ). sum_below n f) (sym sizes_add_up) ∙ sum_runs s.k (subscreen_size s) f

-- ---- the colorants in a subscreen

module _ (s : Screen) (ok : Admitted s) (sep : Separation) (inks : Inks) (ends : running s sep inks 7 ≡ s.n) where
  K_pos : 0 < s.k
  K_pos = (limits s ok).subscreens_above

  fill_rises : (k j : ℕ) → fill_up_to s sep inks k j ≤ fill_up_to s sep inks k (suc j)
  unfolding fill_up_to
  fill_rises k j = floor_mono _ _ s.k (omega (arith, running_rises s sep inks j))

  -- the last colorant fills the subscreen
  fill_ends : (k : ℕ) → fill_up_to s sep inks k 7 ≡ subscreen_size s k
  unfolding fill_up_to subscreen_size
  fill_ends k = ap (λ (c : ℕ). (c + k) / s.k) ends

  fill_before : (k j : ℕ) → k < s.k → before (fill_up_to s sep inks k) j ≡ (before (running s sep inks) j + k) / s.k
  unfolding fill_up_to
  fill_before k zero l = sym (rw zero-add (div-eq_of_lt l))
  fill_before k (suc j) l = refl

  -- how many distances in subscreen k have colorant j
  in_subscreen : (k j : ℕ) → j < 8 → sum_below (subscreen_size s k) (λ q. indicator (eqb (colorant_at s sep inks k q) j)) ≡ fill_up_to s sep inks k j - before (fill_up_to s sep inks k) j
  unfolding colorant_at
  in_subscreen k j l =
      ap (λ (n : ℕ). sum_below n (λ q. indicator (eqb (colorant_at s sep inks k q) j))) (sym (fill_ends k))
      ∙ step_count (fill_up_to s sep inks k) (fill_rises k) 7 j (omega arith)

  -- the colorant of the phase at distance q in subscreen k
  colorant_there : (k q : ℕ) → k < s.k → q < subscreen_size s k → colorant_of s sep inks (subscreen_start s k + q) ≡ colorant_at s sep inks k q
  unfolding colorant_of
  colorant_there k q l h =
      let place = place_of s ok k q l h in
      ap₂ (λ (i d : ℕ). colorant_at s sep inks i d) place.0 place.1

  pub colorant_below : (p : ℕ) → p < s.n → colorant_of s sep inks p < 8
  unfolding colorant_of colorant_at
  colorant_below p l =
      let place = phase_place s ok p l in
      first_found 8 _ 7 (omega arith) (lt-ltb (distance_of s p) (fill_up_to s sep inks (subscreen_of s p) 7) (omega (arith, place.1, fill_ends (subscreen_of s p))))

  -- IN SUBSCREEN k
  pub phases_in_lem : (k j : ℕ) → k < s.k → j < 8 → phases_in s sep inks k j ≡ fill_up_to s sep inks k j - before (fill_up_to s sep inks k) j
  unfolding phases_in
  phases_in_lem k j l h =
      sum_over_phases s ok _
      ∙ sum_single s.k k _ l other
      ∙ sum_same (subscreen_size s k) _ _ (λ q d. there k q l d ∙ rw (eq-eqb k k refl))
      ∙ in_subscreen k j h
    where
      there : (i q : ℕ) → i < s.k → q < subscreen_size s i
          → indicator (eqb (subscreen_of s (subscreen_start s i + q)) k && eqb (colorant_of s sep inks (subscreen_start s i + q)) j) ≡ indicator (eqb i k && eqb (colorant_at s sep inks i q) j)
      there i q m d = ap₂ (λ (i' c : ℕ). indicator (eqb i' k && eqb c j)) (place_of s ok i q m d).0 (colorant_there i q m d)

      other : (i : ℕ) → i < s.k → i ≢ k
          → sum_below (subscreen_size s i) (λ q. indicator (eqb (subscreen_of s (subscreen_start s i + q)) k && eqb (colorant_of s sep inks (subscreen_start s i + q)) j)) ≡ 0
      other i m n = sum_constant (subscreen_size s i) 0 _ (λ q d. there i q m d ∙ rw (ne_eqb i k n)) ∙ omega arith

  -- which is the count shared evenly
  pub share_low : (k j : ℕ) → k < s.k → j < 8 → count s sep inks j / s.k ≤ phases_in s sep inks k j
  unfolding fill_up_to count
  share_low k j l h =
      let c : ℕ = count s sep inks j in
      let b : ℕ = before (running s sep inks) j in
      let whole : running s sep inks j + k ≡ b + k + c = omega (arith, before_most (running s sep inks) (running_rises s sep inks) j) in
      omega (arith, floor_plus (b + k) c s.k K_pos, phases_in_lem k j l h, fill_before k j l, ap (λ (e : ℕ). e / s.k) whole)

  pub share_high : (k j : ℕ) → k < s.k → j < 8 → phases_in s sep inks k j ≤ rounded_up (count s sep inks j) s.k
  unfolding fill_up_to count
  share_high k j l h =
      let c : ℕ = count s sep inks j in
      let b : ℕ = before (running s sep inks) j in
      let whole : running s sep inks j + k ≡ b + k + c = omega (arith, before_most (running s sep inks) (running_rises s sep inks) j) in
      omega (arith, floor_plus_up (b + k) c s.k K_pos, phases_in_lem k j l h, fill_before k j l, ap (λ (e : ℕ). e / s.k) whole)

  -- OVER ALL PHASES
  pub phases_in_all : (j : ℕ) → j < 8 → phases_of s sep inks j ≡ count s sep inks j
  unfolding phases_of count fill_up_to
  phases_in_all j h =
      let b : ℕ = before (running s sep inks) j in
      let c : ℕ = running s sep inks j in
      sum_over_phases s ok _
      ∙ sum_same s.k _ (λ k. (c + k) / s.k - (b + k) / s.k) subscreen
      ∙ sum_minus s.k (λ k. (c + k) / s.k) (λ k. (b + k) / s.k) (λ k l. floor_mono _ _ s.k (omega (arith, before_most (running s sep inks) (running_rises s sep inks) j)))
      ∙ ap₂ ◌-◌ (floors_add_up c s.k K_pos) (floors_add_up b s.k K_pos)
    where
      subscreen : (k : ℕ) → k < s.k
          → sum_below (subscreen_size s k) (λ q. indicator (eqb (colorant_of s sep inks (subscreen_start s k + q)) j)) ≡ (running s sep inks j + k) / s.k - (before (running s sep inks) j + k) / s.k
      subscreen k l =
          sum_same (subscreen_size s k) _ _ (λ q d. ap (λ (c : ℕ). indicator (eqb c j)) (colorant_there k q l d))
          ∙ in_subscreen k j h
          ∙ ap (λ (b : ℕ). fill_up_to s sep inks k j - b) (fill_before k j l)
