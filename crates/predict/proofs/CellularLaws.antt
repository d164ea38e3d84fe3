-- Weights and sets of the cellular mean. The counts in their order fall to 0, the ninth; the weights are their steps, each counted with its place, and
-- so add up to the counts. A set's number in base 2 has a 1 for each colorant whose place it reaches; so a colorant is held from its own place on, and the steps
-- from there add up to its count. Where one colorant has all cells it stands first, and has all the weight.
-- Assumes nothing.
use Prim.Native.Nat.{ℕ, zero, suc, ◌+◌, ◌-◌, ◌*◌, ◌/◌, ◌%◌, ◌^◌, ◌≤◌, ◌<◌, ◌∣◌}
use mathlib.Core.Path.{◌≡◌, refl, sym, ap, ◌∙◌}
use mathlib.Core.Bool.{Bool, true, false, cond}
use mathlib.Core.List.{List}
use native.Mathlib.Nat.{zero-lt-suc, mul-div_cancel_left, dvd-mul_right, mul-le-mul}
use native.Mathlib.Numerals.{add-one}
use native.Mathlib.Decide.{ℕ_discrete, dec_lt, dec_le}
use native.Mathlib.Omega.{arith}
use lib.Dec.{eqb, leb, ltb}
use lib.ListN.{get_or}
use lib.Pow.{pow_pos}
use borrow.Author.Tests.{lt-ltb, le-ltb, le-leb, lt-leb}
use Rattle.arith.specs.Order.{place_among}
use Rattle.arith.specs.Run.{upto}
use Rattle.arith.specs.Sum.{sum_below, indicator}
use Rattle.arith.proofs.DigitLaws.{digits_below, digit_of_lem}
use Rattle.arith.proofs.OrderLaws.{place_below, ordered_below, ordered_place, place_ordered, order_falls, order_sum, order_same}
use Rattle.arith.proofs.RunLaws.{upto_at}
use Rattle.arith.proofs.SumLaws.{sum_same, sum_term, sum_front, steps_from, steps_counted}
use Rattle.arith.proofs.TallyLaws.{indicator_le}
use Rattle.predict.specs.Cellular.{holds, order_of, falling_count, weight_at, set_along, set_at, Ordering}
use Rattle.predict.specs.Laws.{held_by}

module _ (c : ℕ → ℕ) where
  -- ---- the counts in their order

  pub falling_at : (k : ℕ) → k < 8 → falling_count c k ≡ c (order_of c k)
  unfolding falling_count
  falling_at k l = rw (lt-ltb k 8 l)

  pub falling_ninth : (k : ℕ) → 8 ≤ k → falling_count c k ≡ 0
  unfolding falling_count
  falling_ninth k l = rw (le-ltb k 8 l)

  falls : (k : ℕ) → falling_count c (suc k) ≤ falling_count c k
  falls k = go (dec_lt (suc k) 8)
    where
      go : Dec (suc k < 8) → falling_count c (suc k) ≤ falling_count c k
      go (yes l) = omega (arith, falling_at k (omega arith), falling_at (suc k) l, (order_falls 8 c).falls k l)
      go (no l) = omega (arith, falling_ninth (suc k) (omega arith))

  falls_from : (k : ℕ) → falling_count c k ≤ falling_count c 0
  falls_from zero = omega arith
  falls_from (suc k) = omega (arith, falls_from k, falls k)

  falling_limit : (m : ℕ) → ((j : ℕ) → j < 8 → c j ≤ m) → (k : ℕ) → falling_count c k ≤ m
  falling_limit m most k = go (dec_lt k 8)
    where
      go : Dec (k < 8) → falling_count c k ≤ m
      go (yes l) = omega (arith, falling_at k l, most (order_of c k) (ordered_below 8 c k l))
      go (no l) = omega (arith, falling_ninth k (omega arith))

  -- ---- weights

  pub weights_sum : sum_below 8 (weight_at c) ≡ sum_below 8 c
  unfolding weight_at
  weights_sum =
      omega (
        arith,
        steps_counted (falling_count c) falls 8,
        falling_ninth 8 (omega arith),
        sum_same 8 (falling_count c) (λ k. c (order_of c k)) falling_at,
        order_sum 8 c c,
      )

  pub weight_divides : (k : ℕ) → suc k ∣ weight_at c k
  unfolding weight_at
  weight_divides k = dvd-mul_right (suc k) _

  -- as the code works it out, where no count is above m
  pub falls_next : (k : ℕ) → falling_count c (k + 1) ≤ falling_count c k
  falls_next k = rw (add-one k) (falls k)

  pub weight_next : (k : ℕ) → (k + 1) * (falling_count c k - falling_count c (k + 1)) ≡ weight_at c k
  unfolding weight_at
  weight_next k = rw (add-one k)

  pub weight_limit : (m : ℕ) → ((j : ℕ) → j < 8 → c j ≤ m) → (k : ℕ) → k < 8 → weight_at c k ≤ 8 * m
  unfolding weight_at
  weight_limit m most k l = mul-le-mul (omega arith) (omega (arith, falling_limit m most k))

  pub weight_fits : ((j : ℕ) → j < 8 → c j ≤ 4096) → (k : ℕ) → k < 8 → (k + 1) * (falling_count c k - falling_count c (k + 1)) ≤ 32768
  weight_fits most k l = rw weight_next (omega (arith, weight_limit 4096 most k l))

  weight_quotient : (k : ℕ) → weight_at c k / suc k ≡ falling_count c k - falling_count c (suc k)
  unfolding weight_at
  weight_quotient k = mul-div_cancel_left _ (zero-lt-suc k)

  -- ---- sets

  -- 1 for a colorant whose place is no later than k
  reached : ℕ → ℕ → ℕ
  reached k j = indicator (leb (place_among 8 c j) k)

  set_digits : (k : ℕ) → k < 8 → set_at c k ≡ sum_below 8 (λ j. reached k j * 2 ^ j)
  unfolding set_along reached
  set_digits k l =
      sym (sum_front 8 (suc k) (λ i. 2 ^ order_of c i) (omega arith))
      ∙ sum_same 8 _ (λ i. reached k (order_of c i) * 2 ^ order_of c i) (λ i m. rw (ordered_place 8 c i m) (go i (2 ^ order_of c i) (dec_le i k)))
      ∙ order_sum 8 c (λ j. reached k j * 2 ^ j)
    where
      go : (i power : ℕ) → Dec (i ≤ k) → cond (ltb i (suc k)) power 0 ≡ indicator (leb i k) * power
      go i power (yes h) = rw (lt-ltb i (suc k) (omega arith), le-leb i k h) (omega arith)
      go i power (no h) = rw (le-ltb i (suc k) (omega arith), lt-leb i k (omega arith)) (omega arith)

  pub set_below : (k : ℕ) → k < 8 → set_at c k ≤ 255
  unfolding reached
  set_below k l = omega (arith, set_digits k l, digits_below 2 (reached k) (λ j. omega (arith, indicator_le (leb (place_among 8 c j) k))) 8)

  pub set_above : (k : ℕ) → 1 ≤ set_at c k
  unfolding set_along
  set_above k = omega (arith, sum_term (suc k) (λ i. 2 ^ order_of c i) 0 (omega arith), pow_pos (order_of c 0))

  set_holds : (k j : ℕ) → k < 8 → j < 8 → holds (set_at c k) j ≡ leb (place_among 8 c j) k
  unfolding reached
  set_holds k j l m =
      ap (λ (t : ℕ). eqb (t / 2 ^ j % 2) 1) (set_digits k l)
      ∙ ap (λ (d : ℕ). eqb d 1) (digit_of_lem 2 (reached k) (λ i. omega (arith, indicator_le (leb (place_among 8 c i) k))) 8 j m)
      ∙ told (leb (place_among 8 c j) k)
    where
      told : (b : Bool) → eqb (indicator b) 1 ≡ b
      told true = refl
      told false = refl

  pub sets_hold : (k i : ℕ) → k < 8 → i < 8 → holds (set_at c k) (order_of c i) ≡ leb i k
  sets_hold k i l m = set_holds k (order_of c i) l (ordered_below 8 c i m) ∙ ap (λ (p : ℕ). leb p k) (ordered_place 8 c i m)

  -- the steps over the sets that hold a colorant are those from its place on
  pub held : (j : ℕ) → j < 8 → held_by c j ≡ c j
  held j l =
      let p = place_below 8 c j l in
      sum_same 8 _ (λ k. cond (leb (place_among 8 c j) k) (falling_count c k - falling_count c (suc k)) 0) (λ k m. rw (set_holds k j m l, weight_quotient k))
      ∙ omega (
        arith,
        steps_from (falling_count c) falls (place_among 8 c j) 8 (omega arith),
        falling_ninth 8 (omega arith),
        falling_at (place_among 8 c j) p,
        ap c (place_ordered 8 c j l),
      )

  -- ---- the order as a list

  module _ (order : List ℕ) (e : order ≡ upto (order_of c) 8) where
    pub listed : (k : ℕ) → k < 8 → get_or order k 0 ≡ order_of c k
    listed k l = rw e (upto_at (order_of c) 8 k l)

    pub count_listed : (k : ℕ) → k < 8 → c (get_or order k 0) ≡ falling_count c k
    count_listed k l = ap c (listed k l) ∙ sym (falling_at k l)

    pub listed_below : (k : ℕ) → k < 8 → get_or order k 0 < 8
    listed_below k l = rw (listed k l) (ordered_below 8 c k l)

    pub listed_set : (k : ℕ) → k < 8 → set_along (λ i. get_or order i 0) k ≡ set_at c k
    unfolding set_along
    listed_set k l = sum_same (suc k) _ _ (λ i m. ap (λ (j : ℕ). 2 ^ j) (listed i (omega arith)))

    pub ordering : Ordering (λ i. get_or order i 0)
    ordering = record { colorants = listed_below; sets = λ k l. rw (listed_set k l) (set_below k l) }

  -- ---- one colorant has all cells

  module _ (n h : ℕ) (some : 0 < n) (l : h < 8) (all : c h ≡ n) (none : (k : ℕ) → k < 8 → (k ≡ h → ⊥) → c k ≡ 0) where
    -- it stands first,
    alone_first : order_of c 0 ≡ h
    alone_first = go (ℕ_discrete (order_of c 0) h)
      where
        go : Dec (order_of c 0 ≡ h) → order_of c 0 ≡ h
        go (yes e) = e
        go (no e) =
            absurd
            (omega (
              arith,
              none (order_of c 0) (ordered_below 8 c 0 (omega arith)) e,
              falling_at 0 (omega arith),
              falls_from (place_among 8 c h),
              falling_at (place_among 8 c h) (place_below 8 c h l),
              ap c (place_ordered 8 c h l),
            ))

    alone_place : place_among 8 c h ≡ 0
    alone_place = ap (place_among 8 c) (sym alone_first) ∙ ordered_place 8 c 0 (omega arith)

    alone_falling : falling_count c 0 ≡ n
    alone_falling = falling_at 0 (omega arith) ∙ ap c alone_first ∙ all

    alone_others : (k : ℕ) → falling_count c (suc k) ≡ 0
    alone_others k = go (dec_lt (suc k) 8)
      where
        go : Dec (suc k < 8) → falling_count c (suc k) ≡ 0
        go (yes m) =
            falling_at (suc k) m
            ∙ none (order_of c (suc k)) (ordered_below 8 c (suc k) m) (λ e. omega (arith, ordered_place 8 c (suc k) m, ap (place_among 8 c) e, alone_place))
        go (no m) = falling_ninth (suc k) (omega arith)

    -- has all the weight,
    pub alone_weight : weight_at c 0 ≡ n
    unfolding weight_at
    alone_weight = omega (arith, alone_falling, alone_others 0)

    pub alone_weightless : (k : ℕ) → k < 8 → (k ≡ 0 → ⊥) → weight_at c k ≡ 0
    unfolding weight_at
    alone_weightless zero m apart = absurd (apart refl)
    alone_weightless (suc k) m apart = rw (alone_others k, alone_others (suc k)) (omega arith)

    -- and is the first set by itself
    pub alone_set : set_at c 0 ≡ 2 ^ h
    unfolding set_along sum_below
    alone_set = rw alone_first (omega arith)

-- ---- counts that agree have the same weights and sets

module _ (c d : ℕ → ℕ) (same : (j : ℕ) → j < 8 → c j ≡ d j) where
  falling_same : (k : ℕ) → falling_count c k ≡ falling_count d k
  falling_same k = go (dec_lt k 8)
    where
      go : Dec (k < 8) → falling_count c k ≡ falling_count d k
      go (yes l) = falling_at c k l ∙ rw (order_same 8 c d same k) (same (order_of d k) (ordered_below 8 d k l)) ∙ sym (falling_at d k l)
      go (no l) = falling_ninth c k (omega arith) ∙ sym (falling_ninth d k (omega arith))

  pub weight_same : (k : ℕ) → weight_at c k ≡ weight_at d k
  unfolding weight_at
  weight_same k = rw (falling_same k, falling_same (suc k))

  pub set_same : (k : ℕ) → set_at c k ≡ set_at d k
  unfolding set_along
  set_same k = sum_same (suc k) _ _ (λ i l. ap (λ (j : ℕ). 2 ^ j) (order_same 8 c d same i))
