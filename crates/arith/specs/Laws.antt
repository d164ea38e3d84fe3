-- What `arith` promises of its definitions where their words are not the rule's. Each is a statement; proofs/Published.antt proves it.
-- Assumes nothing.
use Rattle.std.specs.Prelude.{ℕ, suc, ◌+◌, ◌%◌, ◌≤◌, ◌<◌, ◌≡◌, eqb}
use Rattle.std.specs.Int.{◌∣◌}
use Rattle.arith.specs.Gcd.{gcd_of}
use Rattle.arith.specs.Order.{ordered}
use Rattle.arith.specs.Remainder.{remainder_of}
use Rattle.arith.specs.Sum.{sum_below, indicator}

-- ---- Euclid's rule

-- what it ends on is a common divisor,
abbrev pub GcdCommon : Type 0
GcdCommon = (a b : ℕ) → (gcd_of a b ∣ a) × (gcd_of a b ∣ b)

-- and the greatest: every common divisor divides it, and so, where b is above 0, is at most that
abbrev pub GcdGreatest : Type 0
GcdGreatest = (a b d : ℕ) → d ∣ a → d ∣ b → (d ∣ gcd_of a b) × (0 < b → d ≤ gcd_of a b)

-- ---- the remainder of a difference

-- it is below n, and with v added back it leaves the remainder of u,
abbrev pub RemainderWords : Type 0
RemainderWords = (u v n : ℕ) → 0 < n → (remainder_of u v n < n) × ((remainder_of u v n + v) % n ≡ u % n)

-- which no other number below n does
abbrev pub RemainderOnly : Type 0
RemainderOnly = (u v n p : ℕ) → p < n → (p + v) % n ≡ u % n → p ≡ remainder_of u v n

-- ---- the order by falling values

-- o lists the numbers below n, each at exactly one place; from place to place no value rises, and of equal neighbours the lower number comes first
pub record Falling (n : ℕ) (f o : ℕ → ℕ) : Type 0 where
  pub below : (k : ℕ) → k < n → o k < n
  pub once : (j : ℕ) → j < n → sum_below n (λ k. indicator (eqb (o k) j)) ≡ 1
  pub falls : (k : ℕ) → suc k < n → f (o (suc k)) ≤ f (o k)
  pub ties : (k : ℕ) → suc k < n → f (o k) ≡ f (o (suc k)) → o k < o (suc k)

-- the order is such a list,
abbrev pub OrderFalls : Type 0
OrderFalls = (n : ℕ) (f : ℕ → ℕ) → Falling n f (ordered n f)

-- and there is no other
abbrev pub OrderOnly : Type 0
OrderOnly = (n : ℕ) (f o : ℕ → ℕ) → Falling n f o → (k : ℕ) → k < n → o k ≡ ordered n f k
