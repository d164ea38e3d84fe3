-- Rule 10.5: numbers as text.
-- Assumes nothing: these are definitions.
use Rattle.std.specs.Prelude.{ℕ, zero, suc, ◌+◌, ◌-◌, ◌*◌, ◌/◌, ◌%◌, Bool, not, cond, ◌&&◌, ◌||◌, List, [], ◌∷◌, ◌++◌, leb, ltb, eqb, length, get_or}
use Rattle.arith.specs.Every.{every}

-- the byte of the digit 0; those of 1 to 9 follow it
abbrev pub zero_digit : ℕ
zero_digit = 48

abbrev pub is_digit : ℕ → Bool
is_digit byte = leb zero_digit byte && leb byte (zero_digit + 9)

-- 1 to 5 digits, the first of them 0 only where it is alone
unfoldable pub is_number : List ℕ → Bool
is_number field =
    leb 1 (length field) && leb (length field) 5 && every (length field) (λ i. is_digit (get_or field i 0))
    && (eqb (length field) 1 || not (eqb (get_or field 0 0) zero_digit))

-- the greatest number of 5 digits
abbrev pub greatest : ℕ
greatest = 99999

-- the number that the first i digits of a field stand for
unfoldable pub value_up_to : List ℕ → ℕ → ℕ
value_up_to field zero = 0
value_up_to field (suc i) = 10 * value_up_to field i + (get_or field i 0 - zero_digit)

unfoldable pub value_of : List ℕ → ℕ
unfolding value_up_to
value_of field = value_up_to field (length field)

-- a number that is at most so much
unfoldable pub is_number_to : ℕ → List ℕ → Bool
is_number_to most field = is_number field && leb (value_of field) most

-- The decimal numeral of a number: its last digit, and before it, from 10 on, the numeral of the tenth part. (The first number
-- bounds the steps, so that the definition computes; a number has fewer digits than one more than itself.)
unfoldable pub numeral_in : ℕ → ℕ → List ℕ
numeral_in zero v = []
numeral_in (suc steps) v = let front = numeral_in steps (v / 10) in cond (ltb v 10) [] front ++ (zero_digit + v % 10) ∷ []

unfoldable pub numeral : ℕ → List ℕ
unfolding numeral_in
numeral v = numeral_in (suc v) v
