-- Bits added up: where a pixel is in exactly one plane, the first plane that has it is that plane.
-- Assumes nothing.
use Prim.Native.Nat.{ℕ, suc, ◌+◌, ◌≤◌, ◌<◌}
use mathlib.Core.Path.{◌≡◌, sym, ap, ◌∙◌}
use native.Mathlib.Decide.{ℕ_discrete, dec_lt}
use native.Mathlib.Omega.{arith}
use lib.Dec.{eqb}
use borrow.Author.Tests.{eqb-true}
use Rattle.arith.specs.First.{first_below}
use Rattle.arith.specs.Sum.{sum_below, indicator}
use Rattle.arith.proofs.FirstLaws.{first_passes, first_counted}
use Rattle.arith.proofs.SumLaws.{indicator_one, indicator_none, sum_same, sum_fewer}

module _ (f : ℕ → ℕ) where
  -- one term, and two terms, come to no more than the sum
  one_within : (n u : ℕ) → u < n → f u ≤ sum_below n f
  unfolding sum_below
  one_within n u l = omega (arith, sum_fewer (suc u) n f l)

  two_within : (n u v : ℕ) → u < v → v < n → f u + f v ≤ sum_below n f
  unfolding sum_below
  two_within n u v k l = omega (arith, sum_fewer (suc v) n f l, one_within v u k)

  module _ (ones : (p : ℕ) → f p ≤ 1) where
    bit_test : (p : ℕ) → indicator (eqb (f p) 1) ≡ f p
    bit_test p = go (ℕ_discrete (f p) 1)
      where
        go : Dec (f p ≡ 1) → indicator (eqb (f p) 1) ≡ f p
        go (yes e) = indicator_one e ∙ sym e
        go (no h) = indicator_none h ∙ omega (arith, ones p)

    module _ (n : ℕ) (once : sum_below n f ≡ 1) where
      pub first_below_lem : first_below n (λ p. eqb (f p) 1) < n
      first_below_lem = first_counted n (λ p. eqb (f p) 1) (omega (arith, sum_same n _ f (λ p l. bit_test p)))

      pub first_is_it : (p : ℕ) → p < n → indicator (eqb (first_below n (λ q. eqb (f q) 1)) p) ≡ f p
      first_is_it p l = go (ℕ_discrete v p)
        where
          v : ℕ
          v = first_below n (λ q. eqb (f q) 1)

          set : f v ≡ 1
          set = eqb-true (f v) 1 (first_passes n (λ q. eqb (f q) 1) first_below_lem)

          other : (v ≡ p → ⊥) → Dec (v < p) → f p ≡ 0
          other h (yes k) = omega (arith, two_within n v p k l, set, once)
          other h (no k) = omega (arith, two_within n p v (omega arith) first_below_lem, set, once)

          go : Dec (v ≡ p) → indicator (eqb v p) ≡ f p
          go (yes e) = indicator_one e ∙ sym set ∙ ap f e
          go (no h) = indicator_none h ∙ sym (other h (dec_lt v p))
