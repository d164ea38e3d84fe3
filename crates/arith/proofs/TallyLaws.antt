-- Laws of counting the numbers that pass a test, and of `tally`: of a list joined of two, of a list given by places, and of a table of tallies that a loop keeps.
-- Assumes nothing.
use Prim.Native.Nat.{ℕ, zero, suc, ◌+◌, ◌≤◌, ◌<◌}
use mathlib.Core.Path.{◌≡◌, refl, sym, ap, ◌∙◌}
use mathlib.Core.Bool.{Bool, true, false}
use mathlib.Core.List.{List, [], ◌∷◌, ◌++◌}
use native.Mathlib.Nat.{le_of_eq, mul-zero, mul-one}
use native.Mathlib.Decide.{ℕ_discrete, dec_lt}
use native.Mathlib.Omega.{arith}
use lib.ListN.{length, get_or, set, length-set}
use lib.Seq.{get_or-set_same, get_or-set_other}
use lib.Dec.{eqb}
use borrow.Author.Tests.{eqb-true, eq-eqb, ne_eqb}
use Rattle.arith.specs.Every.{every}
use Rattle.arith.specs.Sum.{sum_below, indicator}
use Rattle.arith.specs.Run.{upto}
use Rattle.arith.specs.Tally.{tally}
use Rattle.arith.proofs.RunLaws.{upto_length, upto_at, upto_same, upto_is}
use Rattle.arith.proofs.EveryLaws.{every_is}
use Rattle.arith.proofs.SumLaws.{indicator_none, sum_constant, sum_met, sum_plus, sum_full}

pub indicator_le : (t : Bool) → indicator t ≤ 1
indicator_le true = omega arith
indicator_le false = omega arith

-- AS MANY NUMBERS PASS AS THERE ARE exactly where each does
pub every_counted : (n : ℕ) (passes : ℕ → Bool) → eqb (sum_below n (λ i. indicator (passes i))) n ≡ every n passes
every_counted n passes =
    every_is n passes _ (λ e i l. passed (passes i) (sum_full n _ (λ k m. indicator_le (passes k)) (eqb-true _ _ e) i l))
    (λ h. eq-eqb _ _ (sum_constant n 1 _ (λ i l. ap indicator (h i l)) ∙ mul-one n))
  where
    passed : (t : Bool) → indicator t ≡ 1 → t ≡ true
    passed true e = refl
    passed false e = absurd (omega arith)

pub tally_append : (v : ℕ) (l m : List ℕ) → tally v (l ++ m) ≡ tally v l + tally v m
unfolding tally
tally_append v [] m = omega arith
tally_append v (x ∷ l) m = omega (arith, tally_append v l m)

pub tally_one : (v x : ℕ) → tally v (x ∷ []) ≡ indicator (eqb x v)
unfolding tally
tally_one v x = omega arith

pub tally_most : (v : ℕ) (l : List ℕ) → tally v l ≤ length l
unfolding tally
tally_most v [] = omega arith
tally_most v (x ∷ l) = omega (arith, tally_most v l, indicator_le (eqb x v))

-- the tallies of n numbers count no element twice
pub tallies_most : (n : ℕ) (l : List ℕ) → sum_below n (λ v. tally v l) ≤ length l
unfolding tally
tallies_most n [] = le_of_eq (sum_constant n 0 _ (λ v h. refl) ∙ mul-zero n)
tallies_most n (x ∷ l) = omega (arith, sum_plus n (λ v. indicator (eqb x v)) (λ v. tally v l), tallies_most n l, once (dec_lt x n))
  where
    once : Dec (x < n) → sum_below n (λ v. indicator (eqb x v)) ≤ 1
    once (yes h) = le_of_eq (sum_met n x h)
    once (no h) = omega (arith, sum_constant n 0 (λ v. indicator (eqb x v)) (λ v k. indicator_none {a = x} {b = v} (λ e. omega arith)))

-- a tally of a list given by its places is a sum of tests
pub tally_upto : (v : ℕ) (f : ℕ → ℕ) (n : ℕ) → tally v (upto f n) ≡ sum_below n (λ i. indicator (eqb (f i) v))
unfolding upto sum_below tally
tally_upto v f zero = refl
tally_upto v f (suc n) = tally_append v (upto f n) (f n ∷ []) ∙ omega (arith, tally_upto v f n, tally_one v (f n))

-- and so is any list's
pub tally_places : (v : ℕ) (l : List ℕ) → tally v l ≡ sum_below (length l) (λ i. indicator (eqb (get_or l i 0) v))
tally_places v l = ap (tally v) by_places ∙ tally_upto v (λ i. get_or l i 0) (length l)
  where
    by_places : l ≡ upto (λ i. get_or l i 0) (length l)
    by_places = upto_is _ (length l) l refl (λ i h. refl)

-- A TABLE of numbers with one more at place v
pub table_bump : (g : ℕ → ℕ) (n v : ℕ) → v < n → set (upto g n) v (g v + 1) ≡ upto (λ j. g j + indicator (eqb v j)) n
table_bump g n v l =
    upto_is _ n (set (upto g n) v (g v + 1)) (length-set (upto g n) v (g v + 1) ∙ upto_length g n) (λ j h. go j h (ℕ_discrete j v))
  where
    go : (j : ℕ) → j < n → Dec (j ≡ v) → get_or (set (upto g n) v (g v + 1)) j 0 ≡ g j + indicator (eqb v j)
    go j h (yes e) = rw (eq-eqb v j (sym e), e) (get_or-set_same (upto g n) v (g v + 1) 0 (rw (upto_length g n) l))
    go j h (no f) = rw (ne_eqb v j (λ q. f (sym q)), get_or-set_other (upto g n) v j (g v + 1) 0 f) (upto_at g n j h ∙ omega arith)

-- a table that holds the tallies of a list, after one element more
pub tallies_bump : (t : ℕ → ℕ) (l : List ℕ) (n v : ℕ) → v < n
    → set (upto (λ j. t j + tally j l) n) v (get_or (upto (λ j. t j + tally j l) n) v 0 + 1) ≡ upto (λ j. t j + tally j (l ++ v ∷ [])) n
tallies_bump t l n v h =
    rw (upto_at (λ j. t j + tally j l) n v h)
    (table_bump (λ j. t j + tally j l) n v h
    ∙ upto_same _ _ n (λ j k. omega (arith, tally_append j l (v ∷ []), tally_one j v)))

-- and at the start, where no element is counted yet
pub tallies_none : (t : List ℕ) (n : ℕ) → length t ≡ n → t ≡ upto (λ j. get_or t j 0 + tally j []) n
unfolding tally
tallies_none t n e = upto_is _ n t e (λ j h. omega arith)
