-- THE OUTPUT FITS: an error line has at most 14 bytes, a line of counts at most 50, and a good text has at most 256 P lines.
-- Assumes nothing.
use Prim.Native.Nat.{ℕ, zero, suc, ◌+◌, ◌-◌, ◌*◌, ◌≤◌, ◌<◌}
use mathlib.Core.Path.{◌≡◌, refl, sym, ap, ◌∙◌}
use mathlib.Core.Bool.{Bool, true, false, not, cond, ◌&&◌}
use mathlib.Core.List.{List, [], ◌∷◌}
use native.Mathlib.Decide.{dec_le}
use native.Mathlib.Omega.{arith}
use lib.Dec.{eqb, leb, ltb, lit≤}
use lib.ListN.{length, get_or, drop}
use borrow.Author.Tests.{lt-ltb, le-leb, eq-eqb, ne_eqb, ltb-true, ltb-false, eqb-true, not-false}
use Rattle.arith.specs.Run.{upto}
use Rattle.arith.proofs.FirstLaws as First
use Rattle.arith.proofs.RefusalLaws.{unless_none}
use Rattle.arith.proofs.RunLaws.{upto_length, upto_at}
use Rattle.screen.specs.declared.Screen.{Screen}
use Rattle.screen.specs.Screens.{screen_of, refusal_of, Admitted}
use Rattle.screen.proofs.Published.{admitted_words, made_words}
use Rattle.separation.specs.Laws.{InkValues}
use Rattle.quantiser.specs.Running.{count}
use Rattle.quantiser.proofs.Published.{count_within}
use Rattle.counts_text.specs.Text.{tab, split, prepend, lines, line_at, fields}
use Rattle.counts_text.specs.Numbers.{numeral}
use Rattle.counts_text.specs.Lines.{letter_c, is_screen, screen_in, screen_refusal, is_patch, separation_in, inks_in, patch_refusal, line_of, counts_line, error_line}
use Rattle.counts_text.specs.Program.{ended, line_refusal, first_bad, counts_lines, judged, counts_text}
use Rattle.counts_text.proofs.SplitLaws.{some_piece}
use Rattle.counts_text.proofs.NumberLaws.{numeral_five}
use Rattle.counts_text.proofs.JoinedLaws.{joined_limit}
use Rattle.counts_text.proofs.LineLaws.{number_limit}
use Rattle.counts_text.proofs.HeadLaws.{patch_numbers}
use Rattle.counts_text.proofs.JudgeLaws.{first_unended, first_other, first_screen}
use Rattle.counts_text.proofs.LineLoop.{line_length}

-- ---- one line
line_limit : (letter : ℕ) (numbers : List ℕ) → ((i : ℕ) → i < length numbers → get_or numbers i 0 ≤ 99999) → length (line_of letter numbers) ≤ 6 * length numbers + 2
line_limit letter numbers h =
    omega (arith, line_length letter numbers, joined_limit (length numbers) 6 (λ i. tab ∷ numeral (get_or numbers i 0)) (λ i l. omega (arith, numeral_five (get_or numbers i 0) (h i l))))

error_limit : (number refusal : ℕ) → number ≤ 99999 → refusal ≤ 99999 → length (error_line number refusal) ≤ 14
unfolding error_line
error_limit number refusal n r = line_limit _ (number ∷ refusal ∷ []) each
  where
    each : (i : ℕ) → i < 2 → get_or (number ∷ refusal ∷ []) i 0 ≤ 99999
    each zero l = n
    each (suc zero) l = r
    each (suc (suc i)) l = absurd (omega arith)

-- ink values of a P line are at most 255
ink_values : (line : List ℕ) → is_patch line ≡ true → InkValues (inks_in line)
unfolding inks_in
ink_values line e =
    let limit = number_limit 3 255 (drop 2 (fields line)) (patch_numbers line e) in
    record { c_value = limit 0 (omega arith); m_value = limit 1 (omega arith); y_value = limit 2 (omega arith) }

counts_limit : (s : Screen) → Admitted s → (line : List ℕ) → is_patch line ≡ true → length (counts_line s line) ≤ 50
unfolding counts_line
counts_limit s ok line e =
    let counts = count s (separation_in line) (inks_in line) in
    let eight = upto_length counts 8 in
    omega (
      arith,
      eight,
      line_limit letter_c (upto counts 8)
          (λ i l. rw (upto_at counts 8 i (omega (arith, eight, l))) (omega (arith, count_within s ok (separation_in line) (inks_in line) (ink_values line e) i (omega (arith, eight, l)), ((admitted_words s).0 ok).cells_limit))),
    )

-- ---- a good text
module _ (text : List ℕ) (good : (i : ℕ) → i < length (lines text) → line_refusal text i ≡ 0) (some : 1 ≤ length (lines text)) where
  several : 1 < length (lines text)
  several = go (dec_le (length (lines text)) 1)
    where
      go : Dec (length (lines text) ≤ 1) → 1 < length (lines text)
      go (yes l) = absurd (omega (arith, good 0 some, first_unended text (omega arith)))
      go (no h) = omega arith

  screen_admitted : Admitted (screen_in (line_at text 0))
  screen_admitted = go (is_screen (line_at text 0)) refl
    where
      go : (t : Bool) → is_screen (line_at text 0) ≡ t → Admitted (screen_in (line_at text 0))
      go true e = sym (first_screen text several e) ∙ good 0 some
      go false e = absurd (omega (arith, good 0 some, first_other text several e))

  few : length (lines text) ≤ 258
  unfolding line_refusal
  few = go (dec_le (length (lines text)) 258)
    where
      go : Dec (length (lines text) ≤ 258) → length (lines text) ≤ 258
      go (yes l) = l
      go (no h) = absurd (omega (arith, rw (lt-ltb 258 (length (lines text)) (omega arith)) at (good 257 (omega arith))))

  pub patches : (i : ℕ) → i < length (lines text) - 2 → is_patch (line_at text (suc i)) ≡ true
  unfolding line_refusal patch_refusal
  patches i l =
      (unless_none (is_patch (line_at text (suc i))) 9 0
      (rw (lt-ltb (suc (suc i)) (length (lines text)) (omega arith), ne_eqb (suc i) 0 (λ z. omega arith), le-leb (suc i) 256 (omega (arith, few))) at (good (suc i) (omega arith)))
      ).0

  lines_limit : length (counts_lines text) ≤ 12800
  unfolding counts_lines
  lines_limit =
      omega (
        arith,
        joined_limit (length (lines text) - 2) 50 (λ i. counts_line (screen_in (line_at text 0)) (line_at text (suc i)))
            (λ i l. counts_limit (screen_in (line_at text 0)) screen_admitted (line_at text (suc i)) (patches i l)),
        few,
      )

-- ---- any text

-- a text has at most one piece more than bytes
prepend_limit : (x : ℕ) (pieces : List (List ℕ)) → length (prepend x pieces) ≤ suc (length pieces)
prepend_limit x [] = omega arith
prepend_limit x (piece ∷ pieces) = omega arith

split_limit : (b : ℕ) (text : List ℕ) → length (split b text) ≤ suc (length text)
unfolding split
split_limit b [] = omega arith
split_limit b (x ∷ text) = go (eqb x b) (split_limit b text)
  where
    go : (t : Bool) → length (split b text) ≤ suc (length text) → length (cond t ([] ∷ split b text) (prepend x (split b text))) ≤ suc (suc (length text))
    go true ih = omega arith
    go false ih = omega (arith, prepend_limit x (split b text))

-- no refusal of a line is above 10
either_limit : (t : Bool) (a b : ℕ) → a ≤ 10 → b ≤ 10 → cond t a b ≤ 10
either_limit true a b p q = p
either_limit false a b p q = q

-- that of a screen is 1 to 4, since the screen is made
screen_limit : (a b n k g : ℕ) → refusal_of (screen_of a b n k g) ≤ 10
screen_limit a b n k g = omega (arith, made_words a b n k g)

first_limit : (line : List ℕ) → screen_refusal line ≤ 10
unfolding screen_refusal screen_in
first_limit line = either_limit (is_screen line) (refusal_of (screen_in line)) 10 (screen_limit _ _ _ _ _) (lit≤ tt)

later_limit : (line : List ℕ) → patch_refusal line ≤ 10
unfolding patch_refusal
later_limit line = either_limit (is_patch line) 0 10 (lit≤ tt) (lit≤ tt)

refusal_limit : (text : List ℕ) (i : ℕ) → line_refusal text i ≤ 10
unfolding line_refusal
refusal_limit text i =
    let line = line_at text i in
    either_limit (ended text i) _ _
    (either_limit (eqb i 0) (screen_refusal line) _ (first_limit line) (either_limit (leb i 256) (patch_refusal line) 10 (later_limit line) (lit≤ tt)))
    (either_limit (leb 2 i && eqb (length line) 0) 0 10 (lit≤ tt) (lit≤ tt))

-- where no line is bad, all are good
none_bad : (text : List ℕ) → length (lines text) ≤ first_bad text → (i : ℕ) → i < length (lines text) → line_refusal text i ≡ 0
unfolding first_bad
none_bad text h i l =
    eqb-true (line_refusal text i) 0 (not-false _ (First.none_before (length (lines text)) (λ k. not (eqb (line_refusal text k) 0)) i (omega arith)))

-- and where all are good, none is bad
pub none_first : (text : List ℕ) → ((i : ℕ) → i < length (lines text) → line_refusal text i ≡ 0) → first_bad text ≡ length (lines text)
unfolding first_bad
none_first text good =
    First.first_none (length (lines text)) (λ k. not (eqb (line_refusal text k) 0)) (λ i l. ap not (eq-eqb (line_refusal text i) 0 (good i l)))

good_fits : (text : List ℕ) → ((i : ℕ) → i < length (lines text) → line_refusal text i ≡ 0) → length (counts_lines text) ≤ 16384
good_fits text good = omega (arith, lines_limit text good (some_piece 10 text))

-- of two texts, each where its test says
either_fits : (t : Bool) (a b : List ℕ) → (t ≡ true → length a ≤ 16384) → (t ≡ false → length b ≤ 16384) → length (cond t a b) ≤ 16384
either_fits true a b p q = p refl
either_fits false a b p q = q refl

judged_fits : (text : List ℕ) → length text ≤ 65536 → length (judged text) ≤ 16384
unfolding judged
judged_fits text short =
    either_fits (ltb (first_bad text) (length (lines text))) _ _
    (λ e. omega (
      arith,
      error_limit (suc (first_bad text)) (line_refusal text (first_bad text))
          (omega (arith, ltb-true (first_bad text) (length (lines text)) e, split_limit 10 text))
          (omega (arith, refusal_limit text (first_bad text))),
    ))
    (λ e. good_fits text (none_bad text (ltb-false (first_bad text) (length (lines text)) e)))

pub output_fits : (text : List ℕ) → length (counts_text text) ≤ 16384
unfolding counts_text
output_fits text =
    either_fits (ltb 65536 (length text)) (error_line 0 10) (judged text)
    (λ e. omega (arith, error_limit 0 10 (lit≤ tt) (lit≤ tt)))
    (λ e. judged_fits text (ltb-false 65536 (length text) e))
