-- Laws of numbers as text. The numeral of a number up to 99,999 is a number as the program reads it, of 1 to 5 digits, and its value
-- is the number it was written from; the numeral of the value of a number that is read is the field it was read in.
-- The numeral's steps are bounded by the number itself, and more of them change nothing. So two equations say all of it, that of
-- a number below 10 and that of a number from 10 on, and the laws follow by induction along the tenth part.
-- Assumes nothing.
use Prim.Native.Nat.{ℕ, zero, suc, ◌+◌, ◌-◌, ◌*◌, ◌/◌, ◌%◌, ◌^◌, ◌≤◌, ◌<◌}
use mathlib.Core.Path.{◌≡◌, refl, sym, ap, ◌∙◌}
use mathlib.Core.Bool.{true, false, not, ◌&&◌, ◌||◌}
use mathlib.Core.List.{List, [], ◌∷◌, ◌++◌}
use native.Mathlib.Nat.{le_refl, pow-suc, pow-le-pow_right}
use native.Mathlib.Numerals.{add-one}
use native.Mathlib.Decide.{dec_lt}
use native.Mathlib.Omega.{arith}
use lib.Dec.{eqb, leb}
use lib.ListN.{length, get_or, take, length-append, get_or-append}
use lib.Seq.{length-take-le, get_or-take, get_or-append_seam, get_or_at, take-suc, take-length}
use borrow.Author.Tests.{lt-ltb, le-ltb, le-leb, leb-true, eq-eqb, ne_eqb, eqb-false, not-true}
use Rattle.std.specs.List.{list_all}
use Rattle.std.specs.Char.{is_ascii_digit}
use Rattle.std.proofs.lemmas.List.Folds.{list_all_more}
use Rattle.arith.specs.Every.{every}
use Rattle.arith.proofs.RefusalLaws.{both_pass}
use Rattle.arith.proofs.EveryLaws.{every_passes, every_made}
use Rattle.counts_text.specs.Numbers.{is_digit, is_number, value_up_to, value_of, numeral_in, numeral}

-- ---- the two equations of the numeral

-- one step at a number below 10
step_below : (k v : ℕ) → v < 10 → numeral_in (suc k) v ≡ (48 + v) ∷ []
unfolding numeral_in
step_below k v h =
    let e : v % 10 ≡ v = omega arith in
    rw (lt-ltb v 10 h, e)

-- and at one from 10 on
step_from : (k v : ℕ) → 10 ≤ v → numeral_in (suc k) v ≡ numeral_in k (v / 10) ++ (48 + v % 10) ∷ []
unfolding numeral_in
step_from k v h = rw (le-ltb v 10 h)

-- beyond the number, more steps change nothing
steps_same : (k j v : ℕ) → v < k → v < j → numeral_in k v ≡ numeral_in j v
steps_same zero j v h l = absurd (omega arith)
steps_same (suc k) zero v h l = absurd (omega arith)
steps_same (suc k) (suc j) v h l = go (dec_lt v 10) (steps_same k j (v / 10))
  where
    go : Dec (v < 10) → (v / 10 < k → v / 10 < j → numeral_in k (v / 10) ≡ numeral_in j (v / 10)) → numeral_in (suc k) v ≡ numeral_in (suc j) v
    go (yes p) ih = step_below k v p ∙ sym (step_below j v p)
    go (no p) ih = rw (step_from k v (omega arith), step_from j v (omega arith), ih (omega arith) (omega arith))

-- the numeral of a number below 10 is its digit
pub numeral_below : (v : ℕ) → v < 10 → numeral v ≡ (48 + v) ∷ []
unfolding numeral
numeral_below v h = step_below v v h

-- and that of one from 10 on is that of its tenth part, then its last digit
pub numeral_from : (v : ℕ) → 10 ≤ v → numeral v ≡ numeral (v / 10) ++ (48 + v % 10) ∷ []
unfolding numeral
numeral_from v h = rw (step_from v v h, steps_same v (suc (v / 10)) (v / 10) (omega arith) (omega arith))

-- induction along the tenth part
along : (P : ℕ → Type 0) → ((v : ℕ) → v < 10 → P v) → ((v : ℕ) → 10 ≤ v → P (v / 10) → P v) → (v : ℕ) → P v
along P below from v = go (suc v) v (le_refl (suc v))
  where
    go : (k v : ℕ) → v < k → P v
    go zero v h = absurd (omega arith)
    go (suc k) v h = pick (dec_lt v 10) (go k (v / 10))
      where
        pick : Dec (v < 10) → (v / 10 < k → P (v / 10)) → P v
        pick (yes p) ih = below v p
        pick (no p) ih = from v (omega arith) (ih (omega arith))

-- ---- how long a numeral is

-- one digit below 10
length_below : (v : ℕ) → v < 10 → length (numeral v) ≡ 1
length_below v h = rw (numeral_below v h)

-- and one more than the tenth part's from 10 on
pub length_from : (v : ℕ) → 10 ≤ v → length (numeral v) ≡ suc (length (numeral (v / 10)))
length_from v h = rw (numeral_from v h, length-append) (add-one (length (numeral (v / 10))))

-- at least one digit
pub numeral_some : (v : ℕ) → 1 ≤ length (numeral v)
numeral_some = along (λ v. 1 ≤ length (numeral v)) (λ v h. omega (arith, length_below v h)) (λ v h ih. omega (arith, length_from v h))

-- at most k + 1 digits below the power k + 1 of 10
pub numeral_short : (k v : ℕ) → v < 10 ^ suc k → length (numeral v) ≤ suc k
numeral_short zero v h = omega (arith, length_below v h)
numeral_short (suc k) v h = go (dec_lt v 10) (numeral_short k (v / 10))
  where
    go : Dec (v < 10) → (v / 10 < 10 ^ suc k → length (numeral (v / 10)) ≤ suc k) → length (numeral v) ≤ suc (suc k)
    go (yes p) ih = omega (arith, length_below v p)
    go (no p) ih = omega (arith, length_from v (omega arith), ih (omega (arith, pow-suc 10 (suc k))))

-- at most 5 digits up to 99,999
pub numeral_five : (v : ℕ) → v ≤ 99999 → length (numeral v) ≤ 5
numeral_five v h = numeral_short 4 v (omega arith)

-- ---- whether all bytes are digits

-- the first bytes
every_told : (field : List ℕ) (n : ℕ) → n ≤ length field → list_all is_ascii_digit (take n field) ≡ every n (λ i. is_digit (get_or field i 0))
unfolding every
every_told field zero h = refl
every_told field (suc n) h =
    sym (ap (λ (k : ℕ). list_all is_ascii_digit (take k field)) (add-one n)) ∙ list_all_more is_ascii_digit field n 0 h ∙ rw (every_told field n (omega arith))

-- and all of them
pub digits_told : (field : List ℕ) → list_all is_ascii_digit field ≡ every (length field) (λ i. is_digit (get_or field i 0))
digits_told field = sym (ap (list_all is_ascii_digit) (take-length field)) ∙ every_told field (length field) (le_refl (length field))

-- so a field is a number where it is 1 to 5 digits, and alone or not led by 0
pub number_told : (field : List ℕ)
    → is_number field ≡ (((leb 1 (length field) && leb (length field) 5) && list_all is_ascii_digit field) && (eqb (length field) 1 || not (eqb (get_or field 0 0) 48)))
unfolding is_number
number_told field = rw (digits_told field) refl

-- ---- the value of a numeral

-- what the first digits stand for depends on those digits only
pub value_upto : (xs ys : List ℕ) (i : ℕ) → ((j : ℕ) → j < i → get_or xs j 0 ≡ get_or ys j 0) → value_up_to xs i ≡ value_up_to ys i
unfolding value_up_to
value_upto xs ys zero h = refl
value_upto xs ys (suc i) h = rw (value_upto xs ys i (λ j l. h j (omega arith)), h i (omega arith))

-- the value of the first digits
pub value_front : (xs : List ℕ) (i : ℕ) → i < length xs → value_of (take i xs) ≡ value_up_to xs i
unfolding value_of
value_front xs i h = rw (length-take-le i xs (omega arith)) (value_upto (take i xs) xs i (λ j l. get_or-take i xs j 0 l))

-- the value of one digit
value_one : (x : ℕ) → value_of (x ∷ []) ≡ x - 48
unfolding value_of value_up_to
value_one x = omega arith

-- and of digits and one more
pub value_snoc : (xs : List ℕ) (x : ℕ) → value_of (xs ++ x ∷ []) ≡ 10 * value_of xs + (x - 48)
unfolding value_of value_up_to
value_snoc xs x =
    rw (length-append, add-one, get_or-append_seam, value_upto (xs ++ x ∷ []) xs (length xs) (λ j l. get_or-append xs (x ∷ []) 0 j l))

-- READING WHAT IS WRITTEN GIVES THE NUMBER
pub value_back : (v : ℕ) → value_of (numeral v) ≡ v
value_back =
    along (λ v. value_of (numeral v) ≡ v)
    (λ v h. rw (numeral_below v h, value_one) (omega arith))
    (λ v h ih. rw (numeral_from v h, value_snoc, ih) (omega arith))

-- ---- a numeral is a number

-- all bytes are digits
abbrev Digits : List ℕ → Type 0
Digits xs = (i : ℕ) → i < length xs → is_digit (get_or xs i 0) ≡ true

-- and so with one more digit
digits_snoc : (xs : List ℕ) (digit : ℕ) → digit < 10 → Digits xs → Digits (xs ++ (48 + digit) ∷ [])
digits_snoc xs digit h all i l = go (dec_lt i (length xs))
  where
    go : Dec (i < length xs) → is_digit (get_or (xs ++ (48 + digit) ∷ []) i 0) ≡ true
    go (yes p) = rw (get_or-append xs ((48 + digit) ∷ []) 0 i p) (all i p)
    go (no p) =
        let e : length xs ≡ i = omega (arith, simp length-append at l) in
        rw (get_or_at xs (48 + digit) [] 0 i e, le-leb 48 (48 + digit) (omega arith), le-leb (48 + digit) 57 (omega arith))

-- a numeral's bytes are digits
numeral_digits : (v : ℕ) → Digits (numeral v)
numeral_digits =
    along (λ v. Digits (numeral v))
    (λ v h. rw (numeral_below v h) (digits_snoc [] v h (λ i l. absurd (omega arith))))
    (λ v h ih. rw (numeral_from v h) (digits_snoc (numeral (v / 10)) (v % 10) (omega arith) ih))

-- and the first of them is 0 for 0 only
numeral_first : (v : ℕ) → 1 ≤ v → 49 ≤ get_or (numeral v) 0 0
numeral_first =
    along (λ v. 1 ≤ v → 49 ≤ get_or (numeral v) 0 0)
    (λ v h l. rw (numeral_below v h) (omega arith))
    (λ v h ih l. rw (numeral_from v h, get_or-append (numeral (v / 10)) ((48 + v % 10) ∷ []) 0 0 (numeral_some (v / 10))) (ih (omega arith)))

-- WHAT IS WRITTEN IS A NUMBER
pub number_written : (v : ℕ) → v ≤ 99999 → is_number (numeral v) ≡ true
unfolding is_number
number_written v h =
    let few : length (numeral v) ≤ 5 = numeral_five v h in
    rw (le-leb 1 _ (numeral_some v), le-leb _ 5 few, every_made _ _ (numeral_digits v)) (go (dec_lt v 10))
  where
    go : Dec (v < 10) → eqb (length (numeral v)) 1 || not (eqb (get_or (numeral v) 0 0) 48) ≡ true
    go (yes p) = rw (eq-eqb (length (numeral v)) 1 (length_below v p))
    go (no p) =
        rw (
          ne_eqb (length (numeral v)) 1 (λ e. omega (arith, length_from v (omega arith), numeral_some (v / 10))),
          ne_eqb (get_or (numeral v) 0 0) 48 (λ e. omega (arith, numeral_first v (omega arith))),
        )

-- ---- the value of a number

-- where a digit's byte lies
digit_within : (byte : ℕ) → is_digit byte ≡ true → (48 ≤ byte) × (byte ≤ 57)
digit_within byte e = let both = both_pass _ _ e in (leb-true 48 byte both.0, leb-true byte 57 both.1)

-- the first i digits stand for a number below the i-th power of 10
pub value_small : (field : List ℕ) (i : ℕ) → ((j : ℕ) → j < i → is_digit (get_or field j 0) ≡ true) → value_up_to field i < 10 ^ i
unfolding value_up_to
value_small field zero h = omega arith
value_small field (suc i) h =
    omega (arith, pow-suc 10 i, value_small field i (λ j l. h j (omega arith)), digit_within (get_or field i 0) (h i (omega arith)))

-- what makes a field a number
record Parts (field : List ℕ) : Type 0 where
  some : 1 ≤ length field
  few : length field ≤ 5
  digits : Digits field
  first : 1 < length field → 49 ≤ get_or field 0 0

-- a number has them
parts : (field : List ℕ) → is_number field ≡ true → Parts field
unfolding is_number
parts field e =
    let four = both_pass _ _ e in
    let three = both_pass _ _ four.0 in
    let two = both_pass _ _ three.0 in
    let digits : Digits field = every_passes _ _ three.1 in
    record {
      some = leb-true 1 (length field) two.0;
      few = leb-true (length field) 5 two.1;
      digits = digits;
      first = λ l.
          let other : eqb (get_or field 0 0) 48 ≡ false = not-true _ (rw (ne_eqb (length field) 1 (λ q. omega arith)) at four.1) in
          omega (arith, digit_within (get_or field 0 0) (digits 0 (omega arith)), eqb-false (get_or field 0 0) 48 other);
    }

-- the numeral of what one digit stands for
written_one : (byte : ℕ) → 48 ≤ byte → byte ≤ 57 → numeral (byte - 48) ≡ byte ∷ []
written_one byte h l =
    let last : 48 + (byte - 48) ≡ byte = omega arith in
    rw (numeral_below (byte - 48) (omega arith), last)

-- and of what a digit more makes of a number that is not 0
written_more : (w byte : ℕ) → 1 ≤ w → 48 ≤ byte → byte ≤ 57 → numeral (10 * w + (byte - 48)) ≡ numeral w ++ byte ∷ []
written_more w byte m h l =
    let tenth : (10 * w + (byte - 48)) / 10 ≡ w = omega arith in
    let last : 48 + (10 * w + (byte - 48)) % 10 ≡ byte = omega arith in
    rw (numeral_from (10 * w + (byte - 48)) (omega arith), tenth, last)

-- A number that is read: its digits' bytes, its value, and its numeral.
module _ (field : List ℕ) (e : is_number field ≡ true) where
  -- no byte is below that of the digit 0
  pub digit_from : (i : ℕ) → i < length field → 48 ≤ get_or field i 0
  digit_from i h = (digit_within (get_or field i 0) ((parts field e).digits i h)).0

  -- and none above that of the digit 9
  pub digit_to : (i : ℕ) → i < length field → get_or field i 0 ≤ 57
  digit_to i h = (digit_within (get_or field i 0) ((parts field e).digits i h)).1

  -- before its last digit it is at most 9,999
  pub value_four : (i : ℕ) → i < length field → value_up_to field i ≤ 9999
  value_four i h =
      let few : i ≤ 4 = omega (arith, (parts field e).few) in
      let small : 10 ^ i ≤ 10 ^ 4 = pow-le-pow_right (omega arith) few in
      omega (arith, value_small field i (λ j m. (parts field e).digits j (omega arith)))

  -- and not 0
  value_some : (i : ℕ) → suc i < length field → 1 ≤ value_up_to field (suc i)
  unfolding value_up_to
  value_some zero h = omega (arith, (parts field e).first h)
  value_some (suc i) h = omega (arith, value_some i (omega arith))

  -- the first digits are the numeral of the number that they stand for
  numeral_upto : (i : ℕ) → 1 ≤ i → i ≤ length field → numeral (value_up_to field i) ≡ take i field
  unfolding value_up_to
  numeral_upto zero l h = absurd (omega arith)
  numeral_upto (suc zero) l h =
      let v : value_up_to field 1 ≡ get_or field 0 0 - 48 = omega arith in
      ap numeral v ∙ written_one (get_or field 0 0) (digit_from 0 h) (digit_to 0 h) ∙ sym (take-suc field 0 0 h)
  numeral_upto (suc (suc i)) l h =
      written_more (value_up_to field (suc i)) (get_or field (suc i) 0) (value_some i h) (digit_from (suc i) h) (digit_to (suc i) h)
      ∙ rw (numeral_upto (suc i) (omega arith) (omega arith)) (sym (take-suc field (suc i) 0 h))

  -- WRITING WHAT IS READ GIVES THE FIELD
  pub numeral_again : numeral (value_of field) ≡ field
  unfolding value_of
  numeral_again = numeral_upto (length field) (parts field e).some (le_refl (length field)) ∙ take-length field
