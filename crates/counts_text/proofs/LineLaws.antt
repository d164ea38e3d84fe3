-- What the form of a line says of its fields: numbers keep their limit, a line of several words begins with them.
-- Assumes nothing.
use Prim.Native.Nat.{ℕ, ◌≤◌, ◌<◌}
use mathlib.Core.Path.{◌≡◌, refl, ap, ◌∙◌}
use mathlib.Core.Bool.{true, false≢true}
use mathlib.Core.List.{List, [], ◌∷◌, ◌++◌}
use lib.ListN.{length, get_or, drop}
use lib.Dec.{eqb, leb}
use borrow.Author.Tests.{eqb-true, leb-true}
use Rattle.arith.specs.Every.{every}
use Rattle.arith.proofs.RefusalLaws.{both_pass}
use Rattle.arith.proofs.EveryLaws.{every_passes}
use Rattle.counts_text.specs.Text.{tab, fields, field_at, same}
use Rattle.counts_text.specs.Numbers.{is_number, is_number_to, value_of}
use Rattle.counts_text.specs.Lines.{are_numbers, number_at}
use Rattle.counts_text.proofs.SplitLaws.{split_front}

-- the two halves of each test
count_and_each : (many most : ℕ) (numbers : List (List ℕ)) → are_numbers many most numbers ≡ true
    → (eqb (length numbers) many ≡ true) × (every many (λ i. is_number_to most (get_or numbers i [])) ≡ true)
unfolding are_numbers
count_and_each many most numbers e = both_pass (eqb (length numbers) many) (every many (λ i. is_number_to most (get_or numbers i []))) e

form_and_limit : (most : ℕ) (field : List ℕ) → is_number_to most field ≡ true → (is_number field ≡ true) × (leb (value_of field) most ≡ true)
unfolding is_number_to
form_and_limit most field e = both_pass (is_number field) (leb (value_of field) most) e

module _ (many most : ℕ) (numbers : List (List ℕ)) (e : are_numbers many most numbers ≡ true) where
  pub number_count : length numbers ≡ many
  number_count = eqb-true (length numbers) many (count_and_each many most numbers e).0

  pub number_form : (j : ℕ) → j < many → is_number_to most (get_or numbers j []) ≡ true
  number_form j l = every_passes many (λ i. is_number_to most (get_or numbers i [])) (count_and_each many most numbers e).1 j l

  pub number_limit : (j : ℕ) → j < many → number_at numbers j ≤ most
  number_limit j l = leb-true (number_at numbers j) most (form_and_limit most (get_or numbers j []) (number_form j l)).1

-- ---- how a line begins

pub same_true : (xs ys : List ℕ) → same xs ys ≡ true → xs ≡ ys
unfolding same
same_true [] [] e = refl
same_true [] (y ∷ ys) e = absurd (false≢true e)
same_true (x ∷ xs) [] e = absurd (false≢true e)
same_true (x ∷ xs) (y ∷ ys) e =
    let both = both_pass (eqb x y) (same xs ys) e in
    rw (eqb-true x y both.0, same_true xs ys both.1)

-- a line of several fields begins with the first of them and a tab
pub first_word : (line word : List ℕ) → 1 < length (fields line) → field_at line 0 ≡ word
    → (rest : List ℕ) × (line ≡ word ++ tab ∷ rest) × (drop 1 (fields line) ≡ fields rest)
first_word line word h e =
    let front = split_front tab line h in
    (front.0, front.1 ∙ ap (λ (l : List ℕ). l ++ tab ∷ front.0) e, front.2)
