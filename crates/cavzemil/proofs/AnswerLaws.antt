-- The library's answers, laid out for C; and what the calls for a separation answer: 100 where its number is not known, and else what the
-- library answers.
-- Assumes nothing.
use Prim.Native.Nat.{ℕ}
use mathlib.Core.Path.{◌≡◌, refl, sym, ap, ap₂, fun_ext, ◌∙◌}
use mathlib.Core.Bool.{true, false}
use mathlib.Core.List.{List}
use native.Mathlib.Nat.{suc-ne-zero}
use native.Mathlib.Omega.{arith}
use lib.ListN.{length}
use Rattle.std.specs.Prelude.{Result, Ok, Err, IfOk}
use Rattle.std.specs.Result.{result_unwrap_or}
use Rattle.arith.specs.Run.{upto, zeros}
use Rattle.arith.specs.declared.refusals.Refusal.{Refusal}
use Rattle.arith.specs.Refusal.{answered, number, number_of}
use Rattle.arith.proofs.RefusalLaws.{number_above, refused_answered, answered_whole}
use Rattle.screen.specs.declared.Screen as Screens
use Rattle.screen.specs.declared.bricks.Brick as Bricks
use Rattle.screen.specs.Screens.{refusal_of}
use Rattle.screen.specs.Phase.{phase, place_refusal, place_of}
use Rattle.screen.specs.Brick.{stored_brick, brick_of}
use Rattle.separation.specs.declared.Inks.{Inks}
use Rattle.separation.specs.declared.Separation.{Separation}
use Rattle.quantiser.specs.Running.{count, counts_of}
use Rattle.render.specs.Answers.{told, window_refusal, brick_refusal, answer_of, rendering, rendered, brick_rendering, brick_rendered, lone_cell}
use Rattle.render.proofs.Published.{answer_refused}
use Rattle.bill.specs.Charges.{charged}
use Rattle.cavzemil.specs.declared.screens.Screen.{Screen}
use Rattle.cavzemil.specs.declared.windows.Window.{Window}
use Rattle.cavzemil.specs.declared.windows.Cell.{Cell}
use Rattle.cavzemil.specs.declared.windows.Rendering.{Rendering}
use Rattle.cavzemil.specs.declared.colours.Counts.{Counts}
use Rattle.cavzemil.specs.Separations.{known, separation_of, refused_for}
use Rattle.cavzemil.specs.Screens.{screen_of}
use Rattle.cavzemil.specs.Windows.{window_of, rendering_laid, unrendered, cell_given, rendering_given, output_given, cell_answer, render_answer, render_output, brick_answer, brick_output}
use Rattle.cavzemil.specs.Colours.{counts_given, counts_answer}

-- ---- what is laid out beside a refusal: 0

module _ (refusal value : ℕ) where
  -- of a value that is answered where the call is served
  value_laid : (answer : Result ℕ Refusal) → number_of answer ≡ refusal → IfOk answer (λ v. v ≡ value) → result_unwrap_or answer 0 ≡ answered refusal value
  value_laid (Ok v) e h = h ∙ sym (answered_whole refusal value (sym e))
  value_laid (Err x) e h = sym (refused_answered refusal value (omega (arith, e, number_above x)))

  -- of one that the papers state with its 0
  answered_laid : (answer : Result ℕ Refusal) → number_of answer ≡ refusal → IfOk answer (λ v. v ≡ answered refusal value)
      → result_unwrap_or answer 0 ≡ answered refusal value
  answered_laid (Ok v) e h = h
  answered_laid (Err x) e h = sym (refused_answered refusal value (omega (arith, e, number_above x)))

-- ---- screens, and the bill

module _ (s : Screens.Screen) where
  module _ (x y : ℕ) where
    pub place_number : place_refusal s x y ≡ (place_of s x y).refusal
    unfolding place_of
    place_number = refl

    pub place_phase : (answer : Result ℕ Refusal) → number_of answer ≡ place_refusal s x y → IfOk answer (λ p. p ≡ phase s x y)
        → result_unwrap_or answer 0 ≡ (place_of s x y).phase
    unfolding place_of
    place_phase answer e h = value_laid (place_refusal s x y) (phase s x y) answer e h

  pub brick_number : refusal_of s ≡ (brick_of s).refusal
  unfolding brick_of
  brick_number = refl

  abbrev no_brick : Bricks.Brick
  no_brick = record { columns = 0; rows = 0; shift = 0 }

  -- a brick's numbers
  brick_part : (part : Bricks.Brick → ℕ) → part no_brick ≡ 0 → (answer : Result Bricks.Brick Refusal) → number_of answer ≡ refusal_of s
      → IfOk answer (λ b. b ≡ stored_brick s) → part (result_unwrap_or answer no_brick) ≡ answered (refusal_of s) (part (stored_brick s))
  brick_part part z (Ok b) e h = ap part h ∙ sym (answered_whole (refusal_of s) (part (stored_brick s)) (sym e))
  brick_part part z (Err x) e h = z ∙ sym (refused_answered (refusal_of s) (part (stored_brick s)) (omega (arith, e, number_above x)))

  module _ (answer : Result Bricks.Brick Refusal) (e : number_of answer ≡ refusal_of s) (h : IfOk answer (λ b. b ≡ stored_brick s)) where
    pub brick_columns : (result_unwrap_or answer no_brick).columns ≡ (brick_of s).columns
    unfolding brick_of
    brick_columns = brick_part (λ b. b.columns) refl answer e h

    pub brick_rows : (result_unwrap_or answer no_brick).rows ≡ (brick_of s).rows
    unfolding brick_of
    brick_rows = brick_part (λ b. b.rows) refl answer e h

    pub brick_shift : (result_unwrap_or answer no_brick).shift ≡ (brick_of s).shift
    unfolding brick_of
    brick_shift = brick_part (λ b. b.shift) refl answer e h

pub charge_cents : (prices run : List ℕ) (answer : Result ℕ Refusal) → number_of answer ≡ (charged prices run).refusal → IfOk answer (λ c. c ≡ (charged prices run).cents)
    → result_unwrap_or answer 0 ≡ (charged prices run).cents
unfolding charged
charge_cents prices run answer e h = answered_laid _ _ answer e h

-- ---- the refusal of a call for a separation

module _ (separation refusal : ℕ) where
  refused_unknown : known separation ≡ false → refused_for separation refusal ≡ 100
  refused_unknown e = rw e

  refused_known : known separation ≡ true → refused_for separation refusal ≡ refusal
  refused_known e = rw e

-- ---- counts

module _ (s : Screen) (separation : ℕ) (inks : Inks) where
  -- the answer follows the refusal
  counts_by : {r : ℕ} → refused_for separation (refusal_of (screen_of s)) ≡ r → counts_given r (screen_of s) (separation_of separation) inks ≡ counts_answer s separation inks
  counts_by e = sym (ap (λ (r : ℕ). counts_given r (screen_of s) (separation_of separation) inks) e)

  pub counts_unknown : known separation ≡ false → ◌≡◌ {A = Counts} (record { refusal = 100; of = upto (λ j. 0) 8 }) (counts_answer s separation inks)
  unfolding counts_given
  counts_unknown e = counts_by (refused_unknown separation (refusal_of (screen_of s)) e)

  counts_laid : (answer : Result (List ℕ) Refusal) → number_of answer ≡ refusal_of (screen_of s)
      → IfOk answer (λ of. of ≡ upto (count (screen_of s) (separation_of separation) inks) 8)
      → result_unwrap_or answer (upto (λ j. 0) 8) ≡ upto (λ j. answered (refusal_of (screen_of s)) (count (screen_of s) (separation_of separation) inks j)) 8
  counts_laid (Ok of) e h =
      h ∙ ap (λ (f : ℕ → ℕ). upto f 8) (fun_ext (λ j. sym (answered_whole (refusal_of (screen_of s)) _ (sym e))))
  counts_laid (Err x) e h = ap (λ (f : ℕ → ℕ). upto f 8) (fun_ext (λ j. sym (refused_answered (refusal_of (screen_of s)) _ (omega (arith, e, number_above x)))))

  module _ (k : known separation ≡ true) where
    answer_known : counts_given (refusal_of (screen_of s)) (screen_of s) (separation_of separation) inks ≡ counts_answer s separation inks
    answer_known = counts_by (refused_known separation (refusal_of (screen_of s)) k)

    pub counts_number : (counts_of (screen_of s) (separation_of separation) inks).refusal ≡ (counts_answer s separation inks).refusal
    unfolding counts_given counts_of
    counts_number = ap (λ (c : Counts). c.refusal) answer_known

    pub counts_known : (answer : Result (List ℕ) Refusal)
        → number_of answer ≡ (counts_of (screen_of s) (separation_of separation) inks).refusal
        → IfOk answer (λ of. of ≡ upto (count (screen_of s) (separation_of separation) inks) 8)
        → result_unwrap_or answer (upto (λ j. 0) 8) ≡ (counts_answer s separation inks).of
    unfolding counts_given counts_of
    counts_known answer e h = counts_laid answer e h ∙ ap (λ (c : Counts). c.of) answer_known

-- ---- a lone cell

module _ (s : Screen) (separation x y : ℕ) (inks : Inks) where
  cell_by_lem : {r : ℕ} → refused_for separation (place_refusal (screen_of s) x y) ≡ r → cell_given r (screen_of s) (separation_of separation) x y inks ≡ cell_answer s separation x y inks
  cell_by_lem e = sym (ap (λ (r : ℕ). cell_given r (screen_of s) (separation_of separation) x y inks) e)

  pub cell_unknown : known separation ≡ false → ◌≡◌ {A = Cell} (record { refusal = 100; colorant = 0 }) (cell_answer s separation x y inks)
  unfolding cell_given
  cell_unknown e = cell_by_lem (refused_unknown separation (place_refusal (screen_of s) x y) e)

  module _ (k : known separation ≡ true) where
    cell_answer_known : cell_given (place_refusal (screen_of s) x y) (screen_of s) (separation_of separation) x y inks ≡ cell_answer s separation x y inks
    cell_answer_known = cell_by_lem (refused_known separation (place_refusal (screen_of s) x y) k)

    pub cell_number : (lone_cell (screen_of s) (separation_of separation) x y inks).refusal ≡ (cell_answer s separation x y inks).refusal
    unfolding cell_given lone_cell
    cell_number = ap (λ (c : Cell). c.refusal) cell_answer_known

    pub cell_known : (answer : Result ℕ Refusal)
        → number_of answer ≡ (lone_cell (screen_of s) (separation_of separation) x y inks).refusal
        → IfOk answer (λ colorant. colorant ≡ (lone_cell (screen_of s) (separation_of separation) x y inks).colorant)
        → result_unwrap_or answer 0 ≡ (cell_answer s separation x y inks).colorant
    unfolding cell_given lone_cell
    cell_known answer e h = answered_laid _ _ answer e h ∙ ap (λ (c : Cell). c.colorant) cell_answer_known

-- ---- a window, by either renderer, whose refusal is the given one

module _ (refusal : ℕ) (s : Screen) (separation : ℕ) (w : Window) (input out : List ℕ) where
  -- its answer and its output
  abbrev answer_at : ℕ → Rendering
  answer_at r = rendering_given r (screen_of s) (separation_of separation) (window_of w) input

  abbrev output_at : ℕ → List ℕ
  output_at r = output_given r (screen_of s) (separation_of separation) (window_of w) input out

  unknown_answer : known separation ≡ false → unrendered ≡ answer_at (refused_for separation refusal)
  unfolding rendering_given
  unknown_answer e = sym (ap rendering_laid (answer_refused 100 _ (suc-ne-zero 99))) ∙ sym (ap answer_at (refused_unknown separation refusal e))

  unknown_output : known separation ≡ false → out ≡ output_at (refused_for separation refusal)
  unfolding output_given
  unknown_output e = sym (ap output_at (refused_unknown separation refusal e))

  known_answer : known separation ≡ true → answer_at refusal ≡ answer_at (refused_for separation refusal)
  known_answer e = sym (ap answer_at (refused_known separation refusal e))

  known_output : known separation ≡ true → output_at refusal ≡ output_at (refused_for separation refusal)
  known_output e = sym (ap output_at (refused_known separation refusal e))

-- the two clauses of a renderer's answer say what the answer is, laid out
told_whole : (answer : Result (List ℕ) Refusal) (r : ℕ) (cells : List ℕ) → number_of answer ≡ (answer_of r cells).refusal
    → IfOk answer (λ tallies. tallies ≡ (answer_of r cells).tallies) → told answer ≡ answer_of r cells
unfolding answer_of
told_whole (Ok tallies) r cells e h = ap₂ (λ (n : ℕ) (t : List ℕ). record { refusal = n; tallies = t }) e h
told_whole (Err x) r cells e h = ap (λ (n : ℕ). record { refusal = n; tallies = zeros 8 }) e ∙ sym (answer_refused r cells (λ z. omega (arith, e, z, number_above x)))

-- the eight zeros beside a refusal
pub told_tallies : (answer : Result (List ℕ) Refusal) → result_unwrap_or answer (zeros 8) ≡ (told answer).tallies
told_tallies (Ok tallies) = refl
told_tallies (Err x) = refl

pub told_number : (answer : Result (List ℕ) Refusal) → number_of answer ≡ (told answer).refusal
told_number (Ok tallies) = refl
told_number (Err x) = refl

module _ (s : Screen) (separation : ℕ) (w : Window) (input out : List ℕ) where
  abbrev worked : ℕ
  worked = window_refusal (screen_of s) (window_of w) (length input) (length out)

  pub render_unknown : known separation ≡ false → unrendered ≡ render_answer s separation w input out
  render_unknown e = unknown_answer worked s separation w input out e

  pub output_unknown : known separation ≡ false → out ≡ render_output s separation w input out
  output_unknown e = unknown_output worked s separation w input out e

  pub render_known : (answer : Result (List ℕ) Refusal) → known separation ≡ true
      → number_of answer ≡ (rendering (screen_of s) (separation_of separation) (window_of w) input out).refusal
      → IfOk answer (λ tallies. tallies ≡ (rendering (screen_of s) (separation_of separation) (window_of w) input out).tallies)
      → rendering_laid (told answer) ≡ render_answer s separation w input out
  unfolding rendering rendering_given
  render_known answer e r t = ap rendering_laid (told_whole answer _ _ r t) ∙ known_answer worked s separation w input out e

  pub output_known : known separation ≡ true → rendered (screen_of s) (separation_of separation) (window_of w) input out ≡ render_output s separation w input out
  unfolding rendered output_given
  output_known e = known_output worked s separation w input out e

  module _ (brick : List ℕ) where
    abbrev read : ℕ
    read = brick_refusal (screen_of s) (window_of w) (length input) (length out) brick

    pub brick_unknown : known separation ≡ false → unrendered ≡ brick_answer s separation w input brick out
    brick_unknown e = unknown_answer read s separation w input out e

    pub brick_output_unknown : known separation ≡ false → out ≡ brick_output s separation w input brick out
    brick_output_unknown e = unknown_output read s separation w input out e

    pub brick_known : (answer : Result (List ℕ) Refusal) → known separation ≡ true
        → number_of answer ≡ (brick_rendering (screen_of s) (separation_of separation) (window_of w) input brick out).refusal
        → IfOk answer (λ tallies. tallies ≡ (brick_rendering (screen_of s) (separation_of separation) (window_of w) input brick out).tallies)
        → rendering_laid (told answer) ≡ brick_answer s separation w input brick out
    unfolding brick_rendering rendering_given
    brick_known answer e r t = ap rendering_laid (told_whole answer _ _ r t) ∙ known_answer read s separation w input out e

    pub brick_output_known : known separation ≡ true
        → brick_rendered (screen_of s) (separation_of separation) (window_of w) input brick out ≡ brick_output s separation w input brick out
    unfolding brick_rendered output_given
    brick_output_known e = known_output read s separation w input out e
