-- Laws of `every`, and of a loop that answers false at the first number that fails and true at the end.
-- Assumes nothing.
use Prim.Native.Nat.{ℕ, zero, suc, ◌+◌, ◌≤◌, ◌<◌}
use mathlib.Core.Path.{◌≡◌, refl, sym, ap, ap₂, ◌∙◌}
use mathlib.Core.Bool.{Bool, true, false, ◌&&◌, true≢false}
use mathlib.Core.Logic.{◌⊎◌, inl, inr}
use native.Mathlib.Nat.{le_refl, le_step, le_of_suc-le-suc, not-suc-le-zero, eq-or-lt_of_le}
use native.Mathlib.Numerals.{add-one}
use native.Mathlib.Omega.{arith}
use Rattle.arith.proofs.RefusalLaws.{both_pass}
use Rattle.arith.specs.Every.{every}

-- where all pass, each does
pub every_passes : (n : ℕ) (passes : ℕ → Bool) → every n passes ≡ true → (i : ℕ) → i < n → passes i ≡ true
unfolding every
every_passes zero passes e i l = absurd (not-suc-le-zero l)
every_passes (suc n) passes e i l = go (both_pass _ _ e) (every_passes n passes) (eq-or-lt_of_le (le_of_suc-le-suc l))
  where
    go : (every n passes ≡ true) × (passes n ≡ true) → (every n passes ≡ true → (i : ℕ) → i < n → passes i ≡ true) → (i ≡ n) ⊎ (i < n) → passes i ≡ true
    go parts ih (inl q) = ap passes q ∙ parts.1
    go parts ih (inr h) = ih parts.0 i h

-- and where each does, all do
pub every_made : (n : ℕ) (passes : ℕ → Bool) → ((i : ℕ) → i < n → passes i ≡ true) → every n passes ≡ true
unfolding every
every_made zero passes h = refl
every_made (suc n) passes h = rw (every_made n passes (λ i l. h i (le_step l)), h n (le_refl (suc n)))

-- tests that agree
pub every_same : (n : ℕ) (f g : ℕ → Bool) → ((i : ℕ) → i < n → f i ≡ g i) → every n f ≡ every n g
unfolding every
every_same zero f g same = refl
every_same (suc n) f g same = ap₂ (λ (t u : Bool). t && u) (every_same n f g (λ i l. same i (le_step l))) (same n (le_refl (suc n)))

-- one that fails decides
pub every_fails : (n : ℕ) (passes : ℕ → Bool) (i : ℕ) → i < n → passes i ≡ false → every n passes ≡ false
every_fails n passes i l e = go (every n passes) refl
  where
    go : (t : Bool) → every n passes ≡ t → every n passes ≡ false
    go true q = absurd (true≢false (sym (every_passes n passes q i l) ∙ e))
    go false q = q

-- and where not all pass, there is one that fails
pub every_offender : (n : ℕ) (passes : ℕ → Bool) → every n passes ≡ false → (i : ℕ) × (i < n) × (passes i ≡ false)
unfolding every
every_offender zero passes e = absurd (true≢false e)
every_offender (suc n) passes e = go (every n passes) refl (every_offender n passes)
  where
    go : (t : Bool) → every n passes ≡ t → (every n passes ≡ false → (i : ℕ) × (i < n) × (passes i ≡ false)) → (i : ℕ) × (i < suc n) × (passes i ≡ false)
    go true q ih = (n, le_refl (suc n), sym (ap (λ (t : Bool). t && passes n) q) ∙ e)
    go false q ih = let found = ih q in (found.0, le_step found.1, found.2)

-- ---- a loop over the numbers below n

-- the first i numbers have passed
pub record Passed (n : ℕ) (passes : ℕ → Bool) (i : ℕ) : Type 0 where
  pub within : i ≤ n
  pub all : every i passes ≡ true

pub passed_start : (n : ℕ) (passes : ℕ → Bool) → Passed n passes 0
unfolding every
passed_start n passes = record { within = omega arith; all = refl }

module _ {n : ℕ} {passes : ℕ → Bool} {i : ℕ} (p : Passed n passes i) where
  pub passed_step : i < n → passes i ≡ true → Passed n passes (i + 1)
  unfolding every
  passed_step l e = record { within = omega arith; all = rw (add-one i, p.all, e) }

  pub passed_fails : i < n → passes i ≡ false → false ≡ every n passes
  passed_fails l e = sym (every_fails n passes i l e)

  pub passed_end : n ≤ i → true ≡ every n passes
  passed_end h =
      let q : i ≡ n = omega (arith, p.within) in
      sym p.all ∙ ap (λ (k : ℕ). every k passes) q

-- ---- a test that says the same

-- A TEST THAT PASSES WHERE EACH NUMBER DOES, and only there, is the test that all pass
pub every_is : (n : ℕ) (passes : ℕ → Bool) (t : Bool) → (t ≡ true → (i : ℕ) → i < n → passes i ≡ true)
    → (((i : ℕ) → i < n → passes i ≡ true) → t ≡ true) → t ≡ every n passes
every_is n passes true only there = sym (every_made n passes (only refl))
every_is n passes false only there = go (every n passes) refl
  where
    go : (u : Bool) → every n passes ≡ u → false ≡ every n passes
    go true q = there (every_passes n passes q) ∙ sym q
    go false q = sym q
