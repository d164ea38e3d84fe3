-- Refusals from the tests that a call makes, one law a number; and what a call that is not refused has passed.
-- Assumes nothing.
use Prim.Native.Nat.{ℕ, ◌+◌, ◌*◌, ◌/◌, ◌%◌, ◌≤◌, ◌<◌, ◌∣◌}
use mathlib.Core.Path.{◌≡◌, refl, sym, ap₂, ◌∙◌}
use mathlib.Core.Bool.{Bool, true, false}
use mathlib.Core.List.{List, ◌++◌}
use native.Mathlib.Nat.{mul-div_cancel_left}
use native.Mathlib.Omega.{arith}
use lib.Dec.{eqb}
use lib.ListN.{length, drop}
use borrow.Author.Tests.{leb-true, ltb-true, eqb-true, eqb-false, le-leb, lt-leb, lt-ltb, eq-eqb}
use Rattle.arith.specs.Refusal.{unless, number}
use Rattle.arith.specs.declared.refusals.Refusal.{Refusal}
use Rattle.arith.specs.Sheet.{on_sheet}
use Rattle.arith.proofs.RefusalLaws.{both_pass, unless_none, refused_first, refused_later, error_first, refused_written, answered_none, answered_whole, written_whole, or_none}
use Rattle.arith.proofs.RunLaws.{upto_length}
use Rattle.arith.proofs.SheetLaws.{off_right, off_below, on_sheet_lem, sheet_kept}
use Rattle.screen.specs.declared.Screen.{Screen}
use Rattle.screen.specs.Sizes.{rows_of, columns_of}
use Rattle.screen.specs.Screens.{screen_of, slope_admitted, cells_admitted, subscreens_admitted, offset_admitted, numbers_refusal, stored_true, refusal_of, Admitted, Limits, Stored}
use Rattle.screen.specs.Phase.{Place, phase, place_refusal, place_of}
use Rattle.screen.specs.Brick.{BrickAnswer, brick_of, brick_phases, buffer_refusal, filled}
use Rattle.screen.specs.Laws.{AdmittedWords}
use Rattle.screen.proofs.BrickLaws.{rows_pos, rows_only, shift_words, shift_only}

-- ---- 1 to 4: the five numbers

module _ (a b n k g : ℕ) where
  pub refused_1 : slope_admitted a b ≡ false → 1 ≡ numbers_refusal a b n k g
  unfolding numbers_refusal
  refused_1 e = rw e

  module _ (slope : slope_admitted a b ≡ true) where
    pub refused_2 : cells_admitted n ≡ false → 2 ≡ numbers_refusal a b n k g
    unfolding numbers_refusal
    refused_2 e = rw (slope, e)

    module _ (cells : cells_admitted n ≡ true) where
      pub refused_3 : subscreens_admitted n k ≡ false → 3 ≡ numbers_refusal a b n k g
      unfolding numbers_refusal
      refused_3 e = rw (slope, cells, e)

      module _ (subscreens : subscreens_admitted n k ≡ true) where
        pub refused_4 : offset_admitted n g ≡ false → 4 ≡ numbers_refusal a b n k g
        unfolding numbers_refusal
        refused_4 e = rw (slope, cells, subscreens, e)

        pub admitted : offset_admitted n g ≡ true → 0 ≡ numbers_refusal a b n k g
        unfolding numbers_refusal
        admitted e = rw (slope, cells, subscreens, e)

-- none of the four is above 4
pub numbers_most : (a b n k g : ℕ) → numbers_refusal a b n k g ≤ 4
unfolding numbers_refusal
numbers_most a b n k g = go (slope_admitted a b) (cells_admitted n) (subscreens_admitted n k) (offset_admitted n g)
  where
    go : (one two three four : Bool) → unless one 1 (unless two 2 (unless three 3 (unless four 4 0))) ≤ 4
    go false two three four = omega arith
    go true false three four = omega arith
    go true true false four = omega arith
    go true true true false = omega arith
    go true true true true = omega arith

module _ (s : Screen) where
  -- the refusal of a screen's five numbers
  abbrev numbers : ℕ
  numbers = numbers_refusal s.a s.b s.n s.k s.g

  -- the limits of its numbers, from the tests, and the tests from the limits
  pub limits_of : 0 ≡ numbers → Limits s
  unfolding numbers_refusal slope_admitted cells_admitted subscreens_admitted offset_admitted
  limits_of e =
      let one = unless_none (slope_admitted s.a s.b) 0 _ (sym e) in
      let two = unless_none (cells_admitted s.n) 1 _ one.1 in
      let three = unless_none (subscreens_admitted s.n s.k) 2 _ two.1 in
      let four = unless_none (offset_admitted s.n s.g) 3 _ three.1 in
      let lowest = both_pass _ _ one.0 in
      let limit = both_pass _ _ lowest.0 in
      let order = both_pass _ _ limit.0 in
      let count = both_pass _ _ two.0 in
      let within = both_pass _ _ three.0 in
      let split = both_pass _ _ within.0 in
      record {
        slope_above = leb-true _ _ order.0;
        slope_below = ltb-true _ _ order.1;
        slope_limit = leb-true _ _ limit.1;
        slope_lowest = eqb-true _ _ lowest.1;
        cells_above = leb-true _ _ count.0;
        cells_limit = leb-true _ _ count.1;
        subscreens_above = leb-true _ _ split.0;
        subscreens_limit = leb-true _ _ split.1;
        subscreens_cells = leb-true _ _ within.1;
        offset_below = ltb-true _ _ four.0;
      }

  pub limits_suffice : Limits s → numbers ≡ 0
  unfolding slope_admitted cells_admitted subscreens_admitted offset_admitted
  limits_suffice l =
      sym
      (admitted _ _ _ _ _
      (rw (le-leb _ _ l.slope_above, lt-ltb _ _ l.slope_below, le-leb _ _ l.slope_limit, eq-eqb _ _ l.slope_lowest))
      (rw (le-leb _ _ l.cells_above, le-leb _ _ l.cells_limit))
      (rw (le-leb _ _ l.subscreens_above, le-leb _ _ l.subscreens_limit, le-leb _ _ l.subscreens_cells))
      (lt-ltb _ _ l.offset_below))

  -- ---- 15: the stored numbers

  stored_of : stored_true s ≡ true → Stored s
  unfolding stored_true
  stored_of e =
      let shift = both_pass _ _ e in
      let size = both_pass _ _ shift.0 in
      record {
        columns_true = eqb-true _ _ size.0;
        rows_true = eqb-true _ _ size.1;
        shift_true = eqb-true _ _ shift.1;
      }

  pub stored_suffice : Stored s → stored_true s ≡ true
  unfolding stored_true
  stored_suffice t = rw (eq-eqb _ _ t.columns_true, eq-eqb _ _ t.rows_true, eq-eqb _ _ t.shift_true)

  pub stored_failed : (Stored s → ⊥) → false ≡ stored_true s
  stored_failed h = go (stored_true s) refl
    where
      go : (t : Bool) → stored_true s ≡ t → false ≡ t
      go true e = absurd (h (stored_of e))
      go false e = refl

  -- of rows that divide a and N, and a shift below the columns, whether the equation holds says whether they are the brick's
  pub stored_told : Limits s → s.rows ∣ s.a → s.rows * s.columns ≡ s.n → s.shift < s.columns
      → eqb ((s.a * s.shift + s.b * s.rows) % s.n) 0 ≡ stored_true s
  stored_told l divides whole below = go (eqb ((s.a * s.shift + s.b * s.rows) % s.n) 0) refl
    where
      fitting : (s.a * s.shift + s.b * s.rows) % s.n ≡ 0 → Stored s
      fitting e =
          let high : s.rows ≡ rows_of s.a s.n = rows_only s.a s.b s.n s.rows s.columns s.shift l.slope_lowest divides whole e in
          let pos : 0 < s.rows = rw high (rows_pos s.a s.n l.cells_above) in
          let wide : s.columns ≡ columns_of s.a s.n = sym (mul-div_cancel_left s.columns pos) ∙ ap₂ (λ (n h : ℕ). n / h) whole high in
          record {
            columns_true = wide;
            rows_true = high;
            shift_true = shift_only s.a s.b s.n l.cells_above s.shift (rw (← wide) below) (rw high at e);
          }

      fitted : Stored s → (s.a * s.shift + s.b * s.rows) % s.n ≡ 0
      fitted t = rw (t.shift_true, t.rows_true) (shift_words s.a s.b s.n l.cells_above)

      go : (t : Bool) → eqb ((s.a * s.shift + s.b * s.rows) % s.n) 0 ≡ t → t ≡ stored_true s
      go true e = sym (stored_suffice (fitting (eqb-true _ _ e)))
      go false e = stored_failed (λ t. eqb-false _ _ e (fitted t))

  -- ---- the screen: 1 to 4, then 15

  pub refused_numbers : (numbers ≡ 0 → ⊥) → numbers ≡ refusal_of s
  unfolding refusal_of
  refused_numbers h = sym (refused_first numbers _ h)

  pub error_numbers : (e : Refusal) → number e ≡ numbers → number e ≡ refusal_of s
  unfolding refusal_of
  error_numbers e same = error_first e numbers _ same

  module _ (e : numbers ≡ 0) where
    pub refused_15 : stored_true s ≡ false → 15 ≡ refusal_of s
    unfolding refusal_of
    refused_15 h = sym (refused_later numbers _ e ∙ rw h)

    pub stored_admitted : stored_true s ≡ true → 0 ≡ refusal_of s
    unfolding refusal_of
    stored_admitted h = sym (refused_later numbers _ e ∙ rw h)

  -- what an admitted screen has passed
  admitted_parts : Admitted s → (numbers ≡ 0) × (stored_true s ≡ true)
  unfolding refusal_of
  admitted_parts e =
      let parts = or_none numbers _ e in
      (parts.0, (unless_none (stored_true s) 14 0 parts.1).0)

  pub limits_kept : Admitted s → Limits s
  limits_kept e = limits_of (sym (admitted_parts e).0)

  pub stored_kept : Admitted s → Stored s
  stored_kept e = stored_of (admitted_parts e).1

pub admitted_words : AdmittedWords
admitted_words s = (limits_kept s, stored_kept s, λ l t. sym (stored_admitted s (limits_suffice s l) (stored_suffice s t)))

-- ---- 5: a place off the sheet

module _ (s : Screen) (x y : ℕ) where
  pub place_refused : (e : Refusal) → number e ≡ refusal_of s → number e ≡ place_refusal s x y
  unfolding place_refusal
  place_refused e same = error_first e (refusal_of s) _ same

  module _ (e : refusal_of s ≡ 0) where
    pub column_off : 65536 ≤ x → 5 ≡ place_refusal s x y
    unfolding place_refusal
    column_off h = sym (refused_later (refusal_of s) _ e ∙ rw (off_right x y 1 1 (omega arith)))

    pub row_off : x < 65536 → 65536 ≤ y → 5 ≡ place_refusal s x y
    unfolding place_refusal
    row_off l h = sym (refused_later (refusal_of s) _ e ∙ rw (off_below x y 1 1 (omega arith) (omega arith)))

    pub place_on : x < 65536 → y < 65536 → 0 ≡ place_refusal s x y
    unfolding place_refusal
    place_on l h = sym (refused_later (refusal_of s) _ e ∙ rw (on_sheet_lem x y 1 1 (omega arith) (omega arith)))

  -- what a place that is not refused has passed
  pub place_passed : place_refusal s x y ≡ 0 → Admitted s × (x < 65536) × (y < 65536)
  unfolding place_refusal
  place_passed e =
      let parts = or_none (refusal_of s) _ e in
      let sheet = sheet_kept x y 1 1 (unless_none (on_sheet x y 1 1) 4 0 parts.1).0 in
      (parts.0, omega (arith, sheet.0), omega (arith, sheet.1))

-- ---- 8: a buffer that is too short

module _ (s : Screen) (places : ℕ) where
  pub buffer_refused : (refusal_of s ≡ 0 → ⊥) → refusal_of s ≡ buffer_refusal s places
  unfolding buffer_refusal
  buffer_refused h = sym (refused_first (refusal_of s) _ h)

  pub buffer_error : (e : Refusal) → number e ≡ refusal_of s → number e ≡ buffer_refusal s places
  unfolding buffer_refusal
  buffer_error e same = error_first e (refusal_of s) _ same

  pub buffer_short : refusal_of s ≡ 0 → places < s.n → 8 ≡ buffer_refusal s places
  unfolding buffer_refusal
  buffer_short e h = sym (refused_later (refusal_of s) _ e ∙ rw (lt-leb _ _ h))

  pub buffer_fits : refusal_of s ≡ 0 → s.n ≤ places → 0 ≡ buffer_refusal s places
  unfolding buffer_refusal
  buffer_fits e h = sym (refused_later (refusal_of s) _ e ∙ rw (le-leb _ _ h))

-- ---- what is answered and written, refused or not

module _ (s : Screen) (x y : ℕ) where
  pub place_none : (place_refusal s x y ≡ 0 → ⊥) → ◌≡◌ {A = Place} (record { refusal = place_refusal s x y; phase = 0 }) (place_of s x y)
  unfolding place_of
  place_none h = rw (answered_none (place_refusal s x y) (phase s x y) h)

  pub place_whole : place_refusal s x y ≡ 0 → ◌≡◌ {A = Place} (record { refusal = 0; phase = phase s x y }) (place_of s x y)
  unfolding place_of
  place_whole e = rw (answered_whole (place_refusal s x y) (phase s x y) e, e)

  pub place_answered : ((place_of s x y).refusal ≡ place_refusal s x y) × (place_refusal s x y ≡ 0 → Admitted s × ((place_of s x y).phase ≡ phase s x y))
  unfolding place_of place_refusal
  place_answered = (refl, λ e. ((or_none _ _ e).0, answered_whole (place_refusal s x y) (phase s x y) e))

module _ (s : Screen) where
  pub brick_none : (refusal_of s ≡ 0 → ⊥) → ◌≡◌ {A = BrickAnswer} (record { refusal = refusal_of s; columns = 0; rows = 0; shift = 0 }) (brick_of s)
  unfolding brick_of
  brick_none h = rw (answered_none (refusal_of s) s.columns h, answered_none (refusal_of s) s.rows h, answered_none (refusal_of s) s.shift h)

  pub brick_whole : refusal_of s ≡ 0 → ◌≡◌ {A = BrickAnswer} (record { refusal = 0; columns = s.columns; rows = s.rows; shift = s.shift }) (brick_of s)
  unfolding brick_of
  brick_whole e = rw (answered_whole (refusal_of s) s.columns e, answered_whole (refusal_of s) s.rows e, answered_whole (refusal_of s) s.shift e, e)

module _ (s : Screen) (buffer : List ℕ) where
  pub filled_whole : buffer_refusal s (length buffer) ≡ 0 → filled s buffer ≡ brick_phases s ++ drop s.n buffer
  unfolding filled brick_phases
  filled_whole e = written_whole (buffer_refusal s (length buffer)) (brick_phases s) buffer s.n e (upto_length _ s.n)

  pub filled_none : 0 < buffer_refusal s (length buffer) → buffer ≡ filled s buffer
  unfolding filled
  filled_none above = refused_written (buffer_refusal s (length buffer)) (brick_phases s) buffer above

  pub filled_refused : 0 < refusal_of s → buffer ≡ filled s buffer
  filled_refused above = filled_none (omega (arith, above, buffer_refused s (length buffer) (λ z. omega (arith, above, z))))

  pub filled_short : refusal_of s ≡ 0 → length buffer < s.n → buffer ≡ filled s buffer
  filled_short e short = filled_none (omega (arith, buffer_short s (length buffer) e short))

  pub filled_served : refusal_of s ≡ 0 → s.n ≤ length buffer → brick_phases s ++ drop s.n buffer ≡ filled s buffer
  filled_served e room = sym (filled_whole (sym (buffer_fits s (length buffer) e room)))

-- ---- the limits that the functions below a call ask for, by what the call has tested

-- of five numbers that are not refused, those that make a brick
pub brick_limits : (a b n k g : ℕ) → 0 ≡ numbers_refusal a b n k g → (0 < a) × (a < b) × (b ≤ 64) × (0 < n) × (n ≤ 4096)
brick_limits a b n k g e =
    let limits = limits_of (screen_of a b n k g) e in
    (limits.slope_above, limits.slope_below, limits.slope_limit, limits.cells_above, limits.cells_limit)

-- an admitted screen's a is small
pub slope_few : (s : Screen) → Admitted s → s.a ≤ 64
slope_few s ok = let limits = limits_kept s ok in omega (arith, limits.slope_below, limits.slope_limit)
