-- What the loops carry, and the answer in each of its cases.
-- Assumes nothing.
use Prim.Native.Nat.{ℕ, zero, suc, ◌+◌, ◌≤◌, ◌<◌}
use mathlib.Core.Path.{◌≡◌, refl, sym, ap, subst, ◌∙◌}
use mathlib.Core.Bool.{Bool, true, false, not, ◌&&◌, ◌||◌, true≢false}
use mathlib.Core.List.{List, [], ◌∷◌}
use mathlib.Core.Logic.{inl, inr}
use native.Mathlib.Nat.{add-zero, zero-add, suc-ne-zero}
use native.Mathlib.Numerals.{add-one}
use native.Mathlib.Decide.{ℕ_discrete, dec_lt}
use native.Mathlib.Omega.{arith}
use lib.Dec.{T, eqb, ltb}
use lib.IntN.{pos}
use lib.ListN.{length, get_or}
use lib.Ieee.{Float, binary64, div, of_int, of_bits, le, lt, eq}
use denote.Param.Members.{Mut, Called}
use borrow.Author.Tests.{eq-eqb, ne_eqb, lt-ltb, le-ltb}
use Rattle.std.specs.Prelude.{Option, Some, None, MatchOption, Result, Ok, Err, IsErrAnd}
use Rattle.std.specs.Array.{IsFromFnResult, IsFromFnResultFrom}
use Rattle.std.specs.List.{AllWithin, HoldsAt, filter, fold, range_with_len, zip}
use Rattle.std.specs.Range.{range_inclusive_start, range_inclusive_end, range_inclusive_exhausted, range_inclusive_contains}
use Rattle.std.specs.declared.ops.RangeInclusive.{RangeInclusive}
use Rattle.std.specs.Ordering.{float_partial_cmp, nat_cmp, partial_lt, partial_le, partial_ordering_then}
use Rattle.std.proofs.lemmas.Float.{le_of_lt, le_of_eq, lt-or-eq, T_from_true}
use Rattle.arith.specs.declared.refusals.Refusal.{Refusal}
use Rattle.arith.specs.First.{first_below}
use Rattle.arith.specs.Order.{ahead}
use Rattle.arith.specs.Refusal.{number}
use Rattle.arith.specs.Run.{upto}
use Rattle.arith.specs.Sum.{sum_below, indicator}
use Rattle.arith.proofs.FirstLaws.{first_none, first_is}
use Rattle.arith.proofs.RefusalLaws.{number_above}
use Rattle.arith.proofs.RunLaws.{upto_at}
use Rattle.arith.proofs.SumLaws.{sum_same, sum_shift}
use Rattle.screen.specs.declared.Screen.{Screen}
use Rattle.screen.specs.Screens.{refusal_of, Admitted}
use Rattle.separation.specs.declared.Separation.{Separation}
use Rattle.separation.specs.declared.Inks.{Inks}
use Rattle.quantiser.specs.Running.{count}
use Rattle.predict.specs.declared.Xyz.{Xyz}
use Rattle.predict.specs.declared.PredictionError.{PredictionError}
use Rattle.predict.specs.declared.PredictionError.TheVariants as Error
use Rattle.predict.specs.Prediction.{Prediction, BadPrimary, BadScreen, prediction_of}
use Rattle.predict.specs.Predicted.{plus_zero, limit, primary, within, admitted, first_bad, found_below, more, total, totals, channel, mean_of, colour_of, predicted}
use Rattle.predict.specs.Numbered.{numbered_of, predict_refusal, ruled}
use Rattle.predict.specs.Laws.{AllAdmitted}

-- ---- sums

-- one product more
total_next : (i : ℕ) (c : ℕ → ℕ) (v : ℕ → Float) → total (i + 1) c v ≡ more (total i c v) (c i) (v i)
unfolding total
total_next i c v = ap (λ (k : ℕ). total k c v) (add-one i)

pub totals_next : (i : ℕ) (c : ℕ → ℕ) (p : ℕ → Xyz)
    → ◌≡◌ {A = Xyz}
    (record { x = more (totals i c p).x (c i) (p i).x; y = more (totals i c p).y (c i) (p i).y; z = more (totals i c p).z (c i) (p i).z })
    (totals (i + 1) c p)
totals_next i c p = rw (total_next i c (λ j. (p j).x), total_next i c (λ j. (p j).y), total_next i c (λ j. (p j).z))

-- a sum with one record more, so many times
abbrev pub one_more : Xyz → ℕ × Xyz → Xyz
one_more sum r = record { x = more sum.x r.0 r.1.x; y = more sum.y r.0 r.1.y; z = more sum.z r.0 r.1.z }

-- the division comes after the sum
pub channel_is : (c : ℕ → ℕ) (n : ℕ) (v : ℕ → Float) → channel c n v ≡ div binary64 (total 8 c v) (of_int binary64 (pos n))
unfolding channel
channel_is c n v = refl

-- counts and values that agree give the same sum
total_same : (k : ℕ) (c d : ℕ → ℕ) (v w : ℕ → Float) → ((j : ℕ) → j < k → c j ≡ d j) → ((j : ℕ) → j < k → v j ≡ w j) → total k c v ≡ total k d w
unfolding total
total_same zero c d v w e q = refl
total_same (suc k) c d v w e q = rw (total_same k c d v w (λ j l. e j (omega arith)) (λ j l. q j (omega arith)), e k (omega arith), q k (omega arith))

channel_same : (c d : ℕ → ℕ) (n : ℕ) (v w : ℕ → Float) → ((j : ℕ) → j < 8 → c j ≡ d j) → ((j : ℕ) → j < 8 → v j ≡ w j) → channel c n v ≡ channel d n w
channel_same c d n v w e q = channel_is c n v ∙ rw (total_same 8 c d v w e q) (sym (channel_is d n w))

pub mean_same : (c d : ℕ → ℕ) (n : ℕ) (p q : ℕ → Xyz) → ((j : ℕ) → j < 8 → c j ≡ d j) → ((j : ℕ) → j < 8 → p j ≡ q j) → mean_of c n p ≡ mean_of d n q
mean_same c d n p q e f =
    rw (
      channel_same c d n (λ j. (p j).x) (λ j. (q j).x) e (λ j l. ap (λ (r : Xyz). r.x) (f j l)),
      channel_same c d n (λ j. (p j).y) (λ j. (q j).y) e (λ j l. ap (λ (r : Xyz). r.y) (f j l)),
      channel_same c d n (λ j. (p j).z) (λ j. (q j).z) e (λ j l. ap (λ (r : Xyz). r.z) (f j l)),
    )

-- the sum of as many records as counts, from the first on
summed : (c : ℕ → ℕ) (p : ℕ → Xyz) (counts : List ℕ) (records : List Xyz) (i : ℕ) → length counts ≡ length records
    → ((k : ℕ) → k < length counts → get_or counts k 0 ≡ c (i + k)) → ((k : ℕ) → k < length counts → primary records k ≡ p (i + k))
    → fold one_more (totals i c p) (zip counts records) ≡ totals (i + length counts) c p
summed c p [] records i e f g = rw (add-zero i) refl
summed c p (n ∷ counts) [] i e f g = absurd (suc-ne-zero _ e)
summed c p (n ∷ counts) (r ∷ records) i e f g =
    let next : one_more (totals i c p) (n, r) ≡ totals (i + 1) c p = first_next n r (f 0 (omega arith)) (g 0 (omega arith)) in
    let later : i + 1 + length counts ≡ i + suc (length counts) = omega arith in
    ap (λ (s : Xyz). fold one_more s (zip counts records)) next
    ∙ summed c p counts records (i + 1) (omega arith) (λ k l. f (suc k) (omega arith) ∙ ap c (omega arith)) (λ k l. g (suc k) (omega arith) ∙ ap p (omega arith))
    ∙ ap (λ (k : ℕ). totals k c p) later
  where
    first_next : (n : ℕ) (r : Xyz) → n ≡ c (i + 0) → r ≡ p (i + 0) → one_more (totals i c p) (n, r) ≡ totals (i + 1) c p
    first_next n r a b =
        let here : i + 0 ≡ i = add-zero i in
        rw (a, b, here) (totals_next i c p)

pub summed_all : (counts : List ℕ) (records : List Xyz) → length counts ≡ 8 → length records ≡ 8
    → fold one_more (totals 0 (λ j. get_or counts j 0) (primary records)) (zip counts records) ≡ totals 8 (λ j. get_or counts j 0) (primary records)
summed_all counts records e f =
    let all : 0 + length counts ≡ 8 = omega arith in
    summed (λ j. get_or counts j 0) (primary records) counts records 0 (e ∙ sym f)
    (λ k l. ap (λ (i : ℕ). get_or counts i 0) (sym (zero-add k)))
    (λ k l. ap (primary records) (sym (zero-add k)))
    ∙ ap (λ (k : ℕ). totals k (λ j. get_or counts j 0) (primary records)) all

-- ---- tests

-- the limits of a value as a range has them
true_of : (b : Bool) → T b → b ≡ true
true_of true t = refl
true_of false t = absurd t

at_most_is : (x y : Float) → partial_le float_partial_cmp x y ≡ le x y
at_most_is x y = go (lt x y) refl (eq x y) refl (lt y x) refl (le x y) refl
  where
    go : (a : Bool) → lt x y ≡ a → (b : Bool) → eq x y ≡ b → (d : Bool) → lt y x ≡ d → (e : Bool) → le x y ≡ e → partial_le float_partial_cmp x y ≡ le x y
    go true p b q d r true t = rw (p, t) refl
    go true p b q d r false t = absurd (true≢false (sym (true_of (le x y) (le_of_lt x y (T_from_true _ p))) ∙ t))
    go false p true q d r true t = rw (p, q, t) refl
    go false p true q d r false t = absurd (true≢false (sym (true_of (le x y) (le_of_eq x y (T_from_true _ q))) ∙ t))
    go false p false q d r true t = elim (lt-or-eq x y (T_from_true _ t)) [
      | inl h ↦ absurd (true≢false (sym (true_of (lt x y) h) ∙ p))
      | inr h ↦ absurd (true≢false (sym (true_of (eq x y) h) ∙ q))
    ]
    go false p false q true r false t = rw (p, q, r, t) refl
    go false p false q false r false t = rw (p, q, r, t) refl

pub in_limits : (v : Float) (answer : Bool) (range : RangeInclusive Float) → answer ≡ range_inclusive_contains float_partial_cmp range v
    → range_inclusive_start range ≡ of_bits binary64 0 → range_inclusive_end range ≡ of_bits binary64 4641240890982006784 → range_inclusive_exhausted range ≡ false
    → answer ≡ within v
unfolding of_bits
in_limits v answer range a e f g = a ∙ rw (e, f, g, at_most_is plus_zero v, at_most_is v limit) refl

-- going ahead, as pairs compare
pub ahead_is : (v u i j : ℕ) → partial_lt (λ (x y : ℕ × ℕ). partial_ordering_then (Some (nat_cmp x.0 y.0)) (Some (nat_cmp x.1 y.1))) (v, i) (u, j) ≡ ahead u i v j
unfolding ahead
ahead_is v u i j = go (dec_lt v u) (ℕ_discrete v u) (dec_lt i j) (ℕ_discrete i j)
  where
    go : Dec (v < u) → Dec (v ≡ u) → Dec (i < j) → Dec (i ≡ j) → partial_lt (λ (x y : ℕ × ℕ). partial_ordering_then (Some (nat_cmp x.0 y.0)) (Some (nat_cmp x.1 y.1))) (v, i) (u, j) ≡ (ltb v u || (eqb u v && ltb i j))
    go (yes l) e h k = rw (lt-ltb v u l) refl
    go (no l) (yes e) (yes h) k = rw (le-ltb v u (omega arith), eq-eqb v u e, eq-eqb u v (sym e), lt-ltb i j h) refl
    go (no l) (yes e) (no h) (yes k) = rw (le-ltb v u (omega arith), eq-eqb v u e, eq-eqb u v (sym e), le-ltb i j (omega arith), eq-eqb i j k) refl
    go (no l) (yes e) (no h) (no k) = rw (le-ltb v u (omega arith), eq-eqb v u e, eq-eqb u v (sym e), le-ltb i j (omega arith), ne_eqb i j k) refl
    go (no l) (no e) h k = rw (le-ltb v u (omega arith), ne_eqb v u e, ne_eqb u v (λ q. e (sym q))) refl

-- how many of n numbers from a on pass
counted_from : (p : ℕ → Bool) (n a : ℕ) → length (filter p (range_with_len a n)) ≡ sum_below n (λ i. indicator (p (a + i)))
unfolding sum_below
counted_from p zero a = refl
counted_from p (suc n) a =
    let same : sum_below n (λ i. indicator (p (a + 1 + i))) ≡ sum_below n (λ i. indicator (p (a + suc i))) = sum_same n _ _ (λ i l. ap (λ (k : ℕ). indicator (p k)) (omega arith)) in
    omega (arith, one_more_counted (p a) refl, counted_from p n (a + 1), same, sum_shift n (λ i. indicator (p (a + i))), ap (λ (k : ℕ). indicator (p k)) (add-zero a))
  where
    one_more_counted : (b : Bool) → p a ≡ b → length (filter p (a ∷ range_with_len (a + 1) n)) ≡ length (filter p (range_with_len (a + 1) n)) + indicator (p a)
    one_more_counted true e = rw e (sym (add-one _))
    one_more_counted false e = rw e (sym (add-zero _))

pub counted_below : (p : ℕ → Bool) (n : ℕ) → length (filter p (range_with_len 0 n)) ≡ sum_below n (λ i. indicator (p i))
counted_below p n = counted_from p n 0 ∙ sum_same n _ _ (λ i l. ap (λ (k : ℕ). indicator (p k)) (zero-add i))

-- ---- what is looked for

-- the first number that passes, from a search that says what it found
found : (n : ℕ) (passes : ℕ → Bool) (r : Option ℕ)
    → MatchOption r ((k : ℕ) → k < n → passes k ≡ false) (λ i. (i < n) × (passes i ≡ true) × ((k : ℕ) → k < i → passes k ≡ false))
    → r ≡ found_below n (first_below n passes)
found n passes None h = rw (first_none n passes h, le-ltb n n (omega arith)) refl
found n passes (Some i) h = rw (first_is n passes i h.0 h.1 h.2, lt-ltb i n h.0) refl

-- and what such an answer says
pub found_some : (n i j : ℕ) → Some j ≡ found_below n i → (i < n) × (j ≡ i)
found_some n i j e = go (dec_lt i n)
  where
    go : Dec (i < n) → (i < n) × (j ≡ i)
    go (yes l) =
        let same : Some j ≡ Some i = e ∙ rw (lt-ltb i n l) refl in
        (l, cc)
    go (no l) =
        let none : ◌≡◌ {A = Option ℕ} (Some j) None = e ∙ rw (le-ltb i n (omega arith)) refl in
        absurd (cc)

pub found_none : (n i : ℕ) → ◌≡◌ {A = Option ℕ} None (found_below n i) → n ≤ i
found_none n i e = go (dec_lt i n)
  where
    go : Dec (i < n) → n ≤ i
    go (yes l) =
        let some : ◌≡◌ {A = Option ℕ} None (Some i) = e ∙ rw (lt-ltb i n l) refl in
        absurd (cc)
    go (no l) = omega arith

-- ---- arrays that are made place by place

module _ {F B : Type 0} (g : Mut F (ℕ × Unit {0}) B) (h : ℕ → B) (f : F) (ys : List B)
    (called : (i : ℕ) (y : B) (q : F) → Called g f (i, tt) y q → (q ≡ f) × (y ≡ h i)) where
  made_from : (n i : ℕ) (q : F) → q ≡ f → IsFromFnResultFrom g q ys i n → (d : B) (k : ℕ) → i ≤ k → k < i + n → get_or ys k d ≡ h k
  made_from zero i q e m d k a b = absurd (omega arith)
  made_from (suc n) i q e m d k a b =
      let here : (m.0 ≡ f) × (m.1 ≡ h i) = called i m.1 m.0 (subst (λ (x : F). Called g x (i, tt) m.1 m.0) e m.3) in
      go (m.2.1 d ∙ here.1) (λ a b. made_from n (i + 1) m.0 here.0 m.4 d k a b) (ℕ_discrete i k)
    where
      go : get_or ys i d ≡ h i → (i + 1 ≤ k → k < i + 1 + n → get_or ys k d ≡ h k) → Dec (i ≡ k) → get_or ys k d ≡ h k
      go here later (yes s) = subst (λ (x : ℕ). get_or ys x d ≡ h x) s here
      go here later (no s) = later (omega arith) (omega arith)

  pub made_at : (n : ℕ) → IsFromFnResult g f ys n → (d : B) (k : ℕ) → k < n → get_or ys k d ≡ h k
  made_at n m d k l = made_from n 0 f refl m.each d k (omega arith) (omega arith)

-- ---- the first bad colorant

-- whether the primary of a colorant has a bad value
abbrev pub bad : List Xyz → ℕ → Bool
bad ps j = not (admitted (primary ps j))

-- the first that has one, from a search that says what it found
pub bad_found : (ps : List Xyz) → length ps ≡ 8 → (r : Option ℕ)
    → MatchOption r (AllWithin (λ p. admitted p ≡ true) ps 0 (length ps))
    (λ i. (i < length ps) × HoldsAt (λ p. admitted p ≡ false) ps i × AllWithin (λ p. admitted p ≡ true) ps 0 i)
    → r ≡ found_below 8 (first_bad ps)
unfolding first_bad
bad_found ps e None h = found 8 (bad ps) None (λ k l. ap not (h k _ (omega arith) (omega arith)))
bad_found ps e (Some i) h = found 8 (bad ps) (Some i) (omega (arith, h.0), ap not (h.1 _), λ k l. ap not (h.2 k _ (omega arith) l))

pub bad_none : (ps : List Xyz) → AllAdmitted ps → first_bad ps ≡ 8
unfolding first_bad
bad_none ps good = first_none 8 (bad ps) (λ j l. ap not (good j l))

-- ---- the answer

module _ (s : Screen) (sep : Separation) (inks : Inks) (ps : List Xyz) where
  predicted_screen : (refusal_of s ≡ 0 → ⊥) → predicted s sep inks ps ≡ BadScreen (refusal_of s)
  unfolding predicted
  predicted_screen h = rw (ne_eqb (refusal_of s) 0 h)

  predicted_primary : Admitted s → first_bad ps < 8 → predicted s sep inks ps ≡ BadPrimary (first_bad ps)
  unfolding predicted
  predicted_primary ok l = rw (eq-eqb (refusal_of s) 0 ok, lt-ltb (first_bad ps) 8 l)

  pub predicted_mean : Admitted s → 8 ≤ first_bad ps → predicted s sep inks ps ≡ colour_of (mean_of (count s sep inks) s.n (primary ps))
  unfolding predicted
  predicted_mean ok l = rw (eq-eqb (refusal_of s) 0 ok, le-ltb (first_bad ps) 8 l)

  -- in numbers
  numbered_ruled : numbered_of (predicted s sep inks ps) ≡ ruled s sep inks ps
  unfolding ruled predict_refusal
  numbered_ruled = go (ℕ_discrete (refusal_of s) 0) (dec_lt (first_bad ps) 8)
    where
      go : Dec (refusal_of s ≡ 0) → Dec (first_bad ps < 8) → numbered_of (predicted s sep inks ps) ≡ ruled s sep inks ps
      go (no h) d = rw (predicted_screen h, ne_eqb (refusal_of s) 0 h, ne_eqb (refusal_of s) 0 h)
      go (yes ok) (yes l) = rw (predicted_primary ok l, eq-eqb (refusal_of s) 0 ok, lt-ltb (first_bad ps) 8 l)
      go (yes ok) (no l) = rw (predicted_mean ok (omega arith), eq-eqb (refusal_of s) 0 ok, le-ltb (first_bad ps) 8 (omega arith))

  -- an answer that is the definition's keeps both promises
  pub promised : (r : Prediction) → r ≡ predicted s sep inks ps → (r ≡ predicted s sep inks ps) × (numbered_of r ≡ ruled s sep inks ps)
  promised r e = (e, ap numbered_of e ∙ numbered_ruled)

  -- from the screen's refusal, and the counts
  pub screen_refused : (answer : Result Xyz PredictionError) (refusal : Refusal) → IsErrAnd answer (λ e. e ≡ Error.Screen refusal) → number refusal ≡ refusal_of s
      → prediction_of answer ≡ predicted s sep inks ps
  screen_refused (Ok p) refusal h e = absurd h
  screen_refused (Err r) refusal h e =
      rw h (ap BadScreen e ∙ sym (predicted_screen (λ z. omega (arith, number_above refusal, e, z))))

  pub primary_refused : Admitted s → (colorant : ℕ) → Some colorant ≡ found_below 8 (first_bad ps) → BadPrimary colorant ≡ predicted s sep inks ps
  primary_refused ok colorant e =
      let some = found_some 8 (first_bad ps) colorant e in
      ap BadPrimary some.1 ∙ sym (predicted_primary ok some.0)

  pub colour_answered : Admitted s → ◌≡◌ {A = Option ℕ} None (found_below 8 (first_bad ps)) → (counts : List ℕ) → counts ≡ upto (count s sep inks) 8
      → (colour : Xyz) → colour ≡ mean_of (λ j. get_or counts j 0) s.n (primary ps) → colour_of colour ≡ predicted s sep inks ps
  colour_answered ok e counts f colour mean =
      ap colour_of (mean ∙ mean_same _ (count s sep inks) s.n _ _ (λ j m. ap (λ (k : List ℕ). get_or k j 0) f ∙ upto_at (count s sep inks) 8 j m) (λ j m. refl))
      ∙ sym (predicted_mean ok (found_none 8 (first_bad ps) e))
