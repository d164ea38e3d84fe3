-- Laws of `joined`. Assumes nothing.
use Prim.Native.Nat.{ℕ, zero, suc, ◌+◌, ◌*◌, ◌≤◌, ◌<◌}
use mathlib.Core.Path.{◌≡◌, refl}
use mathlib.Core.Logic.{◌⊎◌, inl, inr}
use mathlib.Core.List.{List, ◌++◌}
use native.Mathlib.Nat.{le_refl, eq-or-lt_of_le}
use native.Mathlib.Numerals.{add-one}
use native.Mathlib.Omega.{arith}
use lib.ListN.{length, length-append}
use Rattle.counts_text.specs.Text.{joined}

-- one run more
pub joined_next : (n : ℕ) (run : ℕ → List ℕ) → joined (n + 1) run ≡ joined n run ++ run n
unfolding joined
joined_next n run = rw add-one

-- the runs decide it
pub joined_same : (n : ℕ) (run other : ℕ → List ℕ) → ((i : ℕ) → i < n → run i ≡ other i) → joined n run ≡ joined n other
unfolding joined
joined_same zero run other same = refl
joined_same (suc n) run other same = rw (joined_same n run other (λ i l. same i (omega arith)), same n (omega arith))

-- runs of at most so many bytes
pub joined_limit : (n most : ℕ) (run : ℕ → List ℕ) → ((i : ℕ) → i < n → length (run i) ≤ most) → length (joined n run) ≤ most * n
unfolding joined
joined_limit zero most run h = omega arith
joined_limit (suc n) most run h =
    rw length-append (omega (arith, joined_limit n most run (λ i l. h i (omega arith)), h n (omega arith)))

-- the first runs are no longer than all
pub joined_within : (n i : ℕ) (run : ℕ → List ℕ) → i ≤ n → length (joined i run) ≤ length (joined n run)
unfolding joined
joined_within zero i run l =
    let e : i ≡ 0 = omega arith in
    rw e (le_refl 0)
joined_within (suc n) i run l = go (eq-or-lt_of_le l) (joined_within n i run)
  where
    go : (i ≡ suc n) ⊎ (i < suc n) → (i ≤ n → length (joined i run) ≤ length (joined n run)) → length (joined i run) ≤ length (joined (suc n) run)
    go (inl e) ih = rw e (le_refl (length (joined (suc n) run)))
    go (inr h) ih = rw length-append (omega (arith, ih (omega arith)))
