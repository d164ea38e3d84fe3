-- Laws of `first_below`: where some number below n passes, it is the first that does.
-- Tests that agree have the same first number, and that of a test that goes on passing is the count of the numbers that fail.
-- Assumes nothing.
use Prim.Native.Nat.{ℕ, zero, suc, ◌+◌, ◌≤◌, ◌<◌}
use mathlib.Core.Path.{◌≡◌, refl, sym, ap, ◌∙◌, subst}
use mathlib.Core.Bool.{Bool, true, false, cond, not, true≢false}
use mathlib.Core.Logic.{◌⊎◌, inl, inr}
use native.Mathlib.Nat.{eq-or-lt_of_le, add-zero, add-suc}
use native.Mathlib.Decide.{dec_le}
use native.Mathlib.Omega.{arith}
use Rattle.arith.specs.First.{first_from, first_below}
use Rattle.arith.specs.Sum.{sum_below, indicator}
use Rattle.arith.proofs.SumLaws.{sum_constant, sum_ones}

-- What the search says of its answer r: it lies within the numbers searched or directly after them, none before it passes, and it passes if it is one of them.
record Found (k i : ℕ) (passes : ℕ → Bool) (r : ℕ) : Type 0 where
  from : i ≤ r
  within : r ≤ i + k
  before : (j : ℕ) → i ≤ j → j < r → passes j ≡ false
  here : r < i + k → passes r ≡ true

found : (k i : ℕ) (passes : ℕ → Bool) → Found k i passes (first_from k i passes)
unfolding first_from
found zero i passes =
    record { from = omega arith; within = omega arith; before = λ j g l. absurd (omega arith); here = λ l. absurd (omega arith) }
found (suc k) i passes = go (passes i) refl (found k (suc i) passes)
  where
    go : (b : Bool) → passes i ≡ b → Found k (suc i) passes (first_from k (suc i) passes) → Found (suc k) i passes (cond (passes i) i (first_from k (suc i) passes))
    go true e later =
        rw e record { from = omega arith; within = omega arith; before = λ j g l. absurd (omega arith); here = λ l. e }
    go false e later =
        rw e
        record {
          from = omega (arith, later.from);
          within = omega (arith, later.within);
          before = λ j g l. ahead j l (eq-or-lt_of_le g);
          here = λ l. later.here (omega arith);
        }
      where
        ahead : (j : ℕ) → j < first_from k (suc i) passes → (i ≡ j) ⊎ (i < j) → passes j ≡ false
        ahead j l (inl q) = subst (λ (m : ℕ). passes m ≡ false) q e
        ahead j l (inr g) = later.before j g l

module _ (n : ℕ) (passes : ℕ → Bool) where
  pub first_within : first_below n passes ≤ n
  unfolding first_below
  first_within = omega (arith, (found n 0 passes).within)

  pub first_passes : first_below n passes < n → passes (first_below n passes) ≡ true
  unfolding first_below
  first_passes l = (found n 0 passes).here (omega arith)

  pub none_before : (j : ℕ) → j < first_below n passes → passes j ≡ false
  unfolding first_below
  none_before j l = (found n 0 passes).before j (omega arith) l

  -- it is below n where some number below n passes
  pub first_found : (i : ℕ) → i < n → passes i ≡ true → first_below n passes < n
  first_found i l e = go (eq-or-lt_of_le first_within)
    where
      go : (first_below n passes ≡ n) ⊎ (first_below n passes < n) → first_below n passes < n
      go (inl q) = absurd (true≢false (sym e ∙ none_before i (rw q l)))
      go (inr h) = h

  -- as where some are counted
  pub first_counted : 0 < sum_below n (λ i. indicator (passes i)) → first_below n passes < n
  first_counted some = go (eq-or-lt_of_le first_within)
    where
      go : (first_below n passes ≡ n) ⊎ (first_below n passes < n) → first_below n passes < n
      go (inl q) = absurd (omega (arith, sum_constant n 0 (λ i. indicator (passes i)) (λ i l. ap indicator (none_before i (rw q l)))))
      go (inr h) = h

-- A loop that counts up to the first number: it has not passed it, and goes on exactly while the test fails.
module _ (n : ℕ) (passes : ℕ → Bool) (i : ℕ) (up_to : i ≤ first_below n passes) where
  first_ahead : i < n → passes i ≡ false → i < first_below n passes
  first_ahead l e = go (eq-or-lt_of_le up_to)
    where
      go : (i ≡ first_below n passes) ⊎ (i < first_below n passes) → i < first_below n passes
      go (inl q) = absurd (true≢false (sym (first_passes n passes (omega arith)) ∙ ap passes (sym q) ∙ e))
      go (inr h) = h

  first_reached : passes i ≡ true → i ≡ first_below n passes
  first_reached e = go (eq-or-lt_of_le up_to)
    where
      go : (i ≡ first_below n passes) ⊎ (i < first_below n passes) → i ≡ first_below n passes
      go (inl q) = q
      go (inr h) = absurd (true≢false (sym e ∙ none_before n passes i h))

-- A loop that looks at one number after the other and answers at the first that passes.
pub record Searching (n : ℕ) (passes : ℕ → Bool) (i : ℕ) : Type 0 where
  pub within : i ≤ n
  pub up_to : i ≤ first_below n passes

pub searching_start : (n : ℕ) (passes : ℕ → Bool) → Searching n passes 0
searching_start n passes = record { within = omega arith; up_to = omega arith }

module _ {n : ℕ} {passes : ℕ → Bool} {i : ℕ} (s : Searching n passes i) where
  pub searching_on : i < n → passes i ≡ false → Searching n passes (i + 1)
  searching_on l e = record { within = omega arith; up_to = omega (arith, first_ahead n passes i s.up_to l e) }

  pub searching_found : passes i ≡ true → i ≡ first_below n passes
  searching_found e = first_reached n passes i s.up_to e

  pub searching_end : n ≤ i → n ≡ first_below n passes
  searching_end h = omega (arith, s.up_to, first_within n passes)

-- where none passes, the search comes to its end
pub first_none : (n : ℕ) (passes : ℕ → Bool) → ((i : ℕ) → i < n → passes i ≡ false) → first_below n passes ≡ n
first_none n passes fails = go (eq-or-lt_of_le (first_within n passes))
  where
    go : (first_below n passes ≡ n) ⊎ (first_below n passes < n) → first_below n passes ≡ n
    go (inl q) = q
    go (inr l) = absurd (true≢false (sym (first_passes n passes l) ∙ fails _ l))

-- THE NUMBER THAT PASSES WHILE NONE BEFORE IT DOES is the first
pub first_is : (n : ℕ) (passes : ℕ → Bool) (j : ℕ) → j < n → passes j ≡ true → ((i : ℕ) → i < j → passes i ≡ false) → first_below n passes ≡ j
first_is n passes j l e fails = go (dec_le j (first_below n passes))
  where
    go : Dec (j ≤ first_below n passes) → first_below n passes ≡ j
    go (yes up_to) = sym (first_reached n passes j up_to e)
    go (no past) = absurd (true≢false (sym (first_passes n passes (first_found n passes j l e)) ∙ fails (first_below n passes) (omega arith)))

-- a test that passes wherever another does has its first number no later
no_later : (n : ℕ) (p q : ℕ → Bool) → ((i : ℕ) → i < n → q i ≡ true → p i ≡ true) → first_below n p ≤ first_below n q
no_later n p q too = go (dec_le (first_below n p) (first_below n q))
  where
    go : Dec (first_below n p ≤ first_below n q) → first_below n p ≤ first_below n q
    go (yes h) = h
    go (no h) =
        let l : first_below n q < n = omega (arith, first_within n p) in
        absurd (true≢false (sym (too (first_below n q) l (first_passes n q l)) ∙ none_before n p (first_below n q) (omega arith)))

-- tests that agree below n have the same first number
pub first_same : (n : ℕ) (p q : ℕ → Bool) → ((i : ℕ) → i < n → p i ≡ q i) → first_below n p ≡ first_below n q
first_same n p q same = omega (arith, no_later n p q (λ i l e. same i l ∙ e), no_later n q p (λ i l e. sym (same i l) ∙ e))

-- where a test that passes goes on passing, the first to pass is as far as there are numbers that fail
pub first_counts : (n : ℕ) (passes : ℕ → Bool) → ((i : ℕ) → passes i ≡ true → passes (suc i) ≡ true) → first_below n passes ≡ sum_below n (λ i. indicator (not (passes i)))
first_counts n passes lasts =
    sym
    (sum_ones n (first_below n passes) (λ i. indicator (not (passes i))) (first_within n passes)
    (λ i l. ap (λ (b : Bool). indicator (not b)) (none_before n passes i l))
    (λ i l. ap (λ (b : Bool). indicator (not b)) (onwards (first_below n passes) (first_passes n passes (omega arith)) i)))
  where
    onwards : (a : ℕ) → passes a ≡ true → (k : ℕ) → passes (a + k) ≡ true
    onwards a e zero = rw add-zero e
    onwards a e (suc k) = rw add-suc (lasts (a + k) (onwards a e k))
