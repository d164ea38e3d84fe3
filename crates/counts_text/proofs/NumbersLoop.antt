-- The loop that reads the numbers of a line into memory: the first fields are numbers, and their values are stored. It ends at a field
-- that is no number, where no field is left, or where there is no more room.
-- Assumes nothing.
use Prim.Native.Nat.{ℕ, ◌+◌, ◌≤◌, ◌<◌}
use mathlib.Core.Path.{◌≡◌, refl, sym, ap, ◌∙◌}
use mathlib.Core.Bool.{Bool, true, false, cond, not, ◌&&◌}
use mathlib.Core.List.{List, [], ◌∷◌, ◌++◌}
use native.Mathlib.Omega.{arith}
use lib.Dec.{eqb}
use lib.ListN.{length, get_or, set, drop, replicate, length-drop, length-replicate, get_or-eq_default}
use borrow.Author.Tests.{ne_eqb, eq-eqb, not-false}
use denote.Ref.{Bor}
use Rattle.std.specs.Prelude.{Option, Some, None, is_none}
use Rattle.std.proofs.lemmas.List.{set-get_or}
use Rattle.arith.specs.Run.{upto}
use Rattle.arith.proofs.EveryLaws.{every_made, every_fails}
use Rattle.arith.proofs.FirstLaws.{Searching, searching_start, searching_on, searching_found, searching_end, first_within, none_before}
use Rattle.arith.proofs.RunLaws.{upto_over, Filling, filling_start, filling_store}
use Rattle.counts_text.specs.Text.{fields, tab}
use Rattle.counts_text.specs.Numbers.{is_number, is_number_to, value_of}
use Rattle.counts_text.specs.Lines.{are_numbers, number_at, leading, numbers_over}
use Rattle.counts_text.specs.Parsers.{fields_left, NumbersRead}
use Rattle.counts_text.proofs.SplitLaws.{some_piece, left_some, left_first, left_next}
use Rattle.counts_text.proofs.ReadLaws.{line_failed, line_passed}

-- whether field j is no number, or is above the limit
abbrev no_number : ℕ → List ℕ → ℕ → Bool
no_number most line j = not (is_number_to most (get_or (fields line) j []))

pub record NumbersAt (most : ℕ) (line of₀ of : List ℕ) (left : Option (Bor (List ℕ))) (i : ℕ) : Type 0 where
  pub within : i ≤ length (fields line)
  pub rest : drop i (fields line) ≡ fields_left left
  pub read : Searching (length of₀) (no_number most line) i
  pub stored : Filling (number_at (fields line)) of₀ of i

pub numbers_start : (most : ℕ) (line : Bor (List ℕ)) (of : List ℕ) → NumbersAt most line.now of of (Some line) 0
numbers_start most line of =
    record { within = omega arith; rest = refl; read = searching_start _ _; stored = filling_start _ of }

-- as much memory is left as was lent
pub numbers_kept : {most : ℕ} {line before after : List ℕ} {r : Bool} → NumbersRead most line before after r → length after ≡ length before
unfolding numbers_over leading
numbers_kept {most} {line} {before} w = rw w.memory (upto_over (number_at (fields line)) before _ (first_within (length before) (no_number most line)))

-- there is no number after the last field
none_beyond : (most : ℕ) (line : List ℕ) (j : ℕ) → length (fields line) ≤ j → no_number most line j ≡ true
unfolding is_number_to is_number
none_beyond most line j h = rw (get_or-eq_default (fields line) [] {n = j} h) refl

-- what `number_in` answered
told_none : (t : Bool) (v : ℕ) → None ≡ cond t (Some v) None → t ≡ false
told_none true v e = cc
told_none false v e = refl

told_some : (t : Bool) (v w : ℕ) → Some w ≡ cond t (Some v) None → (t ≡ true) × (w ≡ v)
told_some true v w e = (refl, cc)
told_some false v w e = cc

-- where so many fields are read and each is a number, these are all where none is left
all_read : (left : Option (Bor (List ℕ))) (count many : ℕ) (each : Bool) → count ≡ many + length (fields_left left) → each ≡ true → is_none left ≡ (eqb count many && each)
all_read None count many each e t = rw (eq-eqb count many (omega (arith, e)), t) refl
all_read (Some rest) count many each e t = rw (ne_eqb count many (λ q. omega (arith, q, e, some_piece tab rest.now))) refl

both_false : (t : Bool) → (t && false) ≡ false
both_false true = refl
both_false false = refl

module _ {most : ℕ} {line of₀ of : List ℕ} {left : Option (Bor (List ℕ))} {i : ℕ} (n : NumbersAt most line of₀ of left i) where
  count_left : length (fields line) ≡ i + length (fields_left left)
  count_left = omega (arith, n.within, length-drop i (fields line), ap (λ (l : List (List ℕ)). length l) n.rest)

  -- the memory, once all leading numbers are stored
  all_stored : i ≡ leading (length of₀) most (fields line) → of ≡ numbers_over most (fields line) of₀
  unfolding numbers_over
  all_stored e = n.stored.cells ∙ ap (λ (k : ℕ). upto (number_at (fields line)) k ++ drop k of₀) e

  -- no field is left, and there is room for some number: its place is given back as it was
  pub numbers_short : left ≡ None → i < length of₀ → NumbersRead most line of₀ (set of i (get_or of i 0)) false
  unfolding are_numbers leading
  numbers_short e l =
      let count : length (fields line) ≡ i + 0 = count_left ∙ rw e refl in
      record {
        form = rw (ne_eqb (length (fields line)) (length of₀) (λ q. omega (arith, count, q))) refl;
        memory = set-get_or of i 0 ∙ all_stored (searching_found n.read (none_beyond most line i (omega (arith, count))));
      }

  -- there is no more room
  pub numbers_full : (answer : Bool) → answer ≡ is_none left → length of₀ ≤ i → NumbersRead most line of₀ of answer
  unfolding are_numbers leading
  numbers_full answer e h =
      let whole : i ≡ length of₀ = omega (arith, n.read.within) in
      let each = every_made (length of₀) (λ k. is_number_to most (get_or (fields line) k [])) (λ k l. not-false _ (none_before (length of₀) (no_number most line) k (omega (arith, n.read.up_to)))) in
      record {
        form = e ∙ all_read left (length (fields line)) (length of₀) _ (omega (arith, count_left, whole)) each;
        memory = all_stored (omega (arith, whole, searching_end n.read h));
      }

  module _ {field : List ℕ} (next : Option (Bor (List ℕ))) {rest : Bor (List ℕ)} (e : left ≡ Some rest) (f : fields rest.now ≡ field ∷ fields_left next) (l : i < length of₀) where
    here : drop i (fields line) ≡ field ∷ fields_left next
    here = n.rest ∙ ap fields_left e ∙ f

    -- a field that is no number: its place is given back as it was
    pub numbers_stopped : None ≡ cond (is_number_to most field) (Some (value_of field)) None → NumbersRead most line of₀ (set of i (get_or of i 0)) false
    unfolding are_numbers leading
    numbers_stopped q =
        let none : is_number_to most (get_or (fields line) i []) ≡ false = rw (left_first (fields line) i here []) (told_none _ _ q) in
        record {
          form = sym (rw (every_fails (length of₀) (λ k. is_number_to most (get_or (fields line) k [])) i l none) (both_false (eqb (length (fields line)) (length of₀))));
          memory = set-get_or of i 0 ∙ all_stored (searching_found n.read (ap not none));
        }

    -- a number
    pub numbers_step : (v : ℕ) → Some v ≡ cond (is_number_to most field) (Some (value_of field)) None → NumbersAt most line of₀ (set of i v) next (i + 1)
    numbers_step v q =
        let told = told_some (is_number_to most field) (value_of field) v q in
        record {
          within = omega (arith, left_some (fields line) i here);
          rest = left_next (fields line) i here;
          read = searching_on n.read l (rw (left_first (fields line) i here []) (ap not told.0));
          stored = filling_store n.stored v l (told.1 ∙ sym (ap value_of (left_first (fields line) i here [])));
        }

-- ---- what `numbers` answers of so many zeros that were lent

module _ {most : ℕ} {line of : List ℕ} {answer : Bool} (many : ℕ) (read : NumbersRead most line (replicate many 0) of answer) where
  room : length (replicate {A = ℕ} many 0) ≡ many
  room = length-replicate {A = ℕ} many 0

  pub numbers_none : answer ≡ false → None ≡ cond (are_numbers many most (fields line)) (Some (upto (number_at (fields line)) many)) None
  numbers_none n = rw (ap (λ (k : ℕ). are_numbers k most (fields line)) (sym room) ∙ line_failed read n) refl

  pub numbers_some : answer ≡ true → Some of ≡ cond (are_numbers many most (fields line)) (Some (upto (number_at (fields line)) many)) None
  numbers_some n =
      let passed = line_passed read n in
      rw (ap (λ (k : ℕ). are_numbers k most (fields line)) (sym room) ∙ passed.0) (ap Some (passed.1 ∙ ap (upto (number_at (fields line))) room))
