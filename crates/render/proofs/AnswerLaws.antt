-- What the renderers answer and leave in the output, refused, empty or rendered; and what the functions below them ask.
-- Assumes nothing.
use Prim.Native.Nat.{ℕ, ◌+◌, ◌*◌, ◌/◌, ◌%◌, ◌≤◌, ◌<◌}
use mathlib.Core.Path.{◌≡◌, refl, sym, ap, ap₂, ◌∙◌}
use mathlib.Core.Logic.{◌⊎◌, inl, inr}
use mathlib.Core.Bool.{false≢true}
use mathlib.Core.List.{List, [], ◌∷◌}
use native.Mathlib.Nat.{pos_of_ne-zero, add-zero, zero-mul, mul_comm}
use native.Mathlib.Decide.{ℕ_discrete}
use native.Mathlib.Omega.{arith}
use lib.Arith.{digits_lt, digits_div, digits_mod}
use lib.ListN.{length, get_or}
use borrow.Author.Tests.{eq-eqb, ne_eqb}
use Rattle.arith.specs.Run.{upto, zeros}
use Rattle.std.specs.Prelude.{Result, Ok, Err, IsErr, IfOk}
use Rattle.arith.specs.Sum.{sum_below}
use Rattle.arith.specs.Tally.{tally}
use Rattle.arith.specs.declared.refusals.Refusal.{Refusal}
use Rattle.arith.specs.Refusal.{answered, written, number_of}
use Rattle.arith.proofs.SumLaws.{sum_same}
use Rattle.arith.proofs.TallyLaws.{tallies_most}
use Rattle.arith.proofs.RefusalLaws.{or_none, number_above, answered_none, answered_whole, written_none, written_all, written_refused}
use Rattle.arith.proofs.RunLaws.{upto_length, upto_at, upto_same}
use Rattle.screen.specs.declared.Screen.{Screen}
use Rattle.screen.specs.Screens.{Admitted}
use Rattle.screen.specs.Phase.{Place, phase, place_refusal, place_of}
use Rattle.screen.proofs.Published.{admitted_words, phase_below, place_answered}
use Rattle.separation.specs.declared.Separation.{Separation}
use Rattle.separation.specs.declared.Inks.{Inks}
use Rattle.separation.specs.Weights.{scale_of}
use Rattle.separation.specs.Laws.{InkValues}
use Rattle.quantiser.specs.Subscreens.{colorant_of}
use Rattle.quantiser.specs.Leaves.{threshold_of, thresholds_in, lone_threshold, levels_of, rank}
use Rattle.quantiser.proofs.Published.{threshold_within, threshold_listed, threshold_answered, colorant_rank}
use Rattle.render.specs.declared.Window.{Window}
use Rattle.render.specs.Windows.{area, inks_at, cell_of, window_cell, window_cells, tallies_of}
use Rattle.render.specs.Answers.{Rendering, Cell, told, window_refusal, brick_refusal, answer_of, rendering, rendered, brick_rendering, lone_cell}
use Rattle.render.specs.Laws.{TalliesOnSheet, lone_window, lone_input, LoneCellRendered}
use Rattle.render.specs.Rows.{TableOf, cells_by, RowsLent}
use Rattle.render.proofs.RefusalLaws.{area_limit, window_kept, places_enough}

-- ---- answers

-- a refusal with no cell in any colorant
abbrev nothing : ℕ → Rendering
nothing r = record { refusal = r; tallies = zeros 8 }

no_cells : (l : List ℕ) → length l ≡ 0 → l ≡ []
no_cells [] e = refl
no_cells (x ∷ l) e = absurd (omega arith)

pub answer_refused : (r : ℕ) (cells : List ℕ) → (r ≡ 0 → ⊥) → answer_of r cells ≡ nothing r
unfolding answer_of
answer_refused r cells h = rw (ne_eqb r 0 h)

-- what an answer says, laid out, it says of its parts
pub told_parts : (answer : Result (List ℕ) Refusal) (r : Rendering) → told answer ≡ r → (number_of answer ≡ r.refusal) × IfOk answer (λ tallies. tallies ≡ r.tallies)
told_parts (Ok tallies) r e = (ap (λ (v : Rendering). v.refusal) e, ap (λ (v : Rendering). v.tallies) e)
told_parts (Err refusal) r e = (ap (λ (v : Rendering). v.refusal) e, tt)

module _ (r : ℕ) (cells out : List ℕ) where
  -- a refused call
  pub answer_none : (answer : Result (List ℕ) Refusal) → IsErr answer → number_of answer ≡ r → (told answer ≡ answer_of r cells) × (out ≡ written r cells out)
  answer_none (Ok tallies) is same = absurd (false≢true is)
  answer_none (Err e) is same =
      let some : r ≡ 0 → ⊥ = λ z. omega (arith, number_above e, same, z) in
      (ap nothing same ∙ sym (answer_refused r cells some), (written_refused r cells out same (λ z. some (sym same ∙ z))).1)

  -- a rendered window
  pub answer_whole : {t out₁ : List ℕ} → 0 ≡ r → length cells ≡ length out → out₁ ≡ cells → t ≡ tallies_of out₁
      → (told (Ok t) ≡ answer_of r cells) × (out₁ ≡ written r cells out)
  unfolding answer_of
  answer_whole e l p q = (rw (← e, q, p), p ∙ sym (written_all r cells out (sym e) l))

  -- a window without cells
  pub answer_empty : {v : Rendering} → r ≡ 0 → length cells ≡ 0 → length out ≡ 0 → v ≡ record { refusal = 0; tallies = zeros 8 } → (v ≡ answer_of r cells) × (out ≡ written r cells out)
  unfolding tallies_of upto tally zeros
  answer_empty e n m q =
      let none : out ≡ [] = no_cells out m in
      let whole = answer_whole {t = zeros 8} {out₁ = out} (sym e) (n ∙ sym m) (none ∙ sym (no_cells cells n)) (sym (ap tallies_of none)) in
      (q ∙ whole.0, whole.1)

-- the tallies of an answer count each of its cells at most once
abbrev Within : ℕ → List ℕ → Type 0
Within most tallies = (length tallies ≡ 8) × (sum_below 8 (λ j. get_or tallies j 0) ≤ most)

answer_within : (r : ℕ) (cells : List ℕ) (most : ℕ) → (r ≡ 0 → length cells ≤ most) → Within most (answer_of r cells).tallies
unfolding answer_of tallies_of zeros sum_below
answer_within r cells most fits = go (ℕ_discrete r 0)
  where
    go : Dec (r ≡ 0) → Within most (answer_of r cells).tallies
    go (yes z) =
        rw (eq-eqb r 0 z) (
          upto_length _ 8,
          omega (arith, sum_same 8 _ _ (λ j l. upto_at (λ j. tally j cells) 8 j l), tallies_most 8 cells, fits z),
        )
    go (no h) = rw (ne_eqb r 0 h) (refl, omega arith)

-- ---- cells

-- where there are none, none are left and none counted
pub none_painted : {cells out : List ℕ} → length cells ≡ 0 → length out ≡ 0 → (out ≡ cells) × (0 ∷ 0 ∷ 0 ∷ 0 ∷ 0 ∷ 0 ∷ 0 ∷ 0 ∷ [] ≡ tallies_of out)
unfolding tallies_of upto tally
none_painted {cells} {out} n m =
    let none : out ≡ [] = no_cells out m in
    (none ∙ sym (no_cells cells n), sym (ap tallies_of none))

module _ (s : Screen) (sep : Separation) (w : Window) (input : List ℕ) where
  pub cells_length_lem : length (window_cells s sep w input) ≡ area w
  unfolding window_cells
  cells_length_lem = upto_length _ (area w)

  -- the cell in column c and row r of the window
  pub cells_at : (c r : ℕ) → c < w.columns → r < w.rows
      → get_or (window_cells s sep w input) (r * w.columns + c) 0 ≡ cell_of s sep (w.x + c) (w.y + r) (inks_at input (r * w.columns + c))
  unfolding window_cells window_cell
  cells_at c r across down =
      upto_at (window_cell s sep w input) (area w) (r * w.columns + c) (rw (mul_comm w.columns w.rows) (digits_lt down across))
      ∙ ap₂ (λ (i j : ℕ). cell_of s sep (w.x + i) (w.y + j) (inks_at input (r * w.columns + c))) (digits_mod r across) (digits_div r across)

  -- cells by the phases of their places are the window's
  pub cells_are : (f : ℕ → ℕ) → ((i : ℕ) → f i ≡ phase s (w.x + i % w.columns) (w.y + i / w.columns)) → (cells : ℕ) {out : List ℕ}
      → out ≡ cells_by s sep input f cells → cells ≡ area w → out ≡ window_cells s sep w input
  unfolding cells_by window_cells window_cell cell_of
  cells_are f reads cells e stated =
      e
      ∙ ap (λ (k : ℕ). cells_by s sep input f k) stated
      ∙ upto_same _ _ (area w) (λ i l. ap (colorant_of s sep (inks_at input i)) (reads i))

-- a window that is not refused has no more cells than the sheet
window_within : (s : Screen) (sep : Separation) (w : Window) (input : List ℕ) (inputs outputs : ℕ) → window_refusal s w inputs outputs ≡ 0
    → length (window_cells s sep w input) ≤ 65536 * 65536
window_within s sep w input inputs outputs e =
    let kept = window_kept s w inputs outputs e in
    rw (cells_length_lem s sep w input) (area_limit w.x w.y w.columns w.rows kept.1 kept.2)

pub tallies_on_sheet : TalliesOnSheet
unfolding rendering brick_rendering brick_refusal
tallies_on_sheet r (s, sep, w, input, brick, out, call) = go call
  where
    go : (r ≡ rendering s sep w input out) ⊎ (r ≡ brick_rendering s sep w input brick out) → Within (65536 * 65536) r.tallies
    go (inl e) = rw e (answer_within _ (window_cells s sep w input) (65536 * 65536) (λ z. window_within s sep w input _ _ z))
    go (inr e) = rw e (answer_within _ (window_cells s sep w input) (65536 * 65536) (λ z. window_within s sep w input _ _ (or_none _ _ z).0))

-- ---- what the functions below ask

pub rows_lent : (s : Screen) (w : Window) (inputs outputs : ℕ) → window_refusal s w inputs outputs ≡ 0 → (outputs ≡ 0 → ⊥)
    → RowsLent w.x w.y w.columns w.rows inputs outputs
rows_lent s w inputs outputs e some =
    let kept = window_kept s w inputs outputs e in
    record {
      across = pos_of_ne-zero (λ z. some (kept.4 ∙ ap (λ (k : ℕ). k * w.rows) z ∙ zero-mul w.rows));
      wide = kept.1;
      high = kept.2;
      bytes = kept.3;
      cells = kept.4;
    }

pub table_of : (s : Screen) (memory table : List ℕ) → Admitted s → memory ≡ zeros 4096 → table ≡ thresholds_in s memory → TableOf s s.n table
table_of s memory table ok room e =
    let enough = places_enough s ok memory room in
    let law = threshold_listed s ok memory enough in
    rw e (record { admitted = ok; cells = refl; long = rw law.0 enough; listed = law.1 })

-- ---- a lone place

module _ (s : Screen) (x y : ℕ) (none : 0 ≡ place_refusal s x y) {p : ℕ} (e : p ≡ phase s x y) {t : ℕ} (f : t ≡ lone_threshold s p) where
  ok : Admitted s
  ok = ((place_answered s x y).1 (sym none)).0

  lone_threshold_lem : t ≡ threshold_of s (phase s x y)
  lone_threshold_lem = f ∙ ap (lone_threshold s) e ∙ threshold_answered s ok (phase s x y) (phase_below s ok x y)

  -- its rank among the levels is the colorant
  pub lone_coloured : (sep : Separation) (inks : Inks) → InkValues inks → {colorant : ℕ} → colorant ≡ rank (levels_of s.n sep inks) (2 * scale_of sep * t)
      → colorant ≡ (lone_cell s sep x y inks).colorant
  unfolding lone_cell cell_of
  lone_coloured sep inks v q =
      rw (q, lone_threshold_lem, colorant_rank s ok sep inks v (phase s x y) (phase_below s ok x y), answered_whole (place_refusal s x y) (colorant_of s sep inks (phase s x y)) (sym none))

-- of a place as it is answered by rule 2.4, refused or not
module _ (s : Screen) (x y : ℕ) {place : Place} (e : place ≡ place_of s x y) where
  lone_refusal : place.refusal ≡ place_refusal s x y
  lone_refusal = ap (λ (p : Place). p.refusal) e ∙ (place_answered s x y).0

  pub lone_refused : (sep : Separation) (inks : Inks) → (place.refusal ≡ 0 → ⊥) → ◌≡◌ {A = Cell} (record { refusal = place.refusal; colorant = 0 }) (lone_cell s sep x y inks)
  unfolding lone_cell
  lone_refused sep inks h = rw (lone_refusal, answered_none (place_refusal s x y) (cell_of s sep x y inks) (λ z. h (lone_refusal ∙ z)))

  -- a threshold is at most the number of cells
  pub lone_few : place.refusal ≡ 0 → {t : ℕ} → t ≡ lone_threshold s place.phase → t ≤ 4096
  lone_few h {t} f =
      let none : place_refusal s x y ≡ 0 = sym lone_refusal ∙ h in
      let law = (place_answered s x y).1 none in
      let at : place.phase ≡ phase s x y = ap (λ (p : Place). p.phase) e ∙ law.1 in
      omega (arith, lone_threshold_lem s x y (sym none) at f, (threshold_within s law.0 (phase s x y) (phase_below s law.0 x y)).1, ((admitted_words s).0 law.0).cells_limit)

-- and the window there has that cell
module _ (s : Screen) (sep : Separation) (x y : ℕ) (inks : Inks) where
  window_refusal_lem : window_refusal s (lone_window x y) 3 1 ≡ place_refusal s x y
  unfolding window_refusal place_refusal
  window_refusal_lem = refl

  window_byte : (r : ℕ) → Dec (r ≡ 0)
      → get_or (written r (window_cells s sep (lone_window x y) (lone_input inks)) (0 ∷ [])) 0 0 ≡ answered r (cell_of s sep x y inks)
  unfolding window_cells window_cell upto
  window_byte r (yes z) =
      rw (written_all r (window_cells s sep (lone_window x y) (lone_input inks)) (0 ∷ []) z refl, answered_whole r (cell_of s sep x y inks) z)
      (ap₂ (λ (i j : ℕ). cell_of s sep i j inks) (add-zero x) (add-zero y))
  window_byte r (no h) = rw (written_none r (window_cells s sep (lone_window x y) (lone_input inks)) (0 ∷ []) h, answered_none r (cell_of s sep x y inks) h)

pub lone_cell_rendered : LoneCellRendered
unfolding rendering rendered answer_of lone_cell
lone_cell_rendered s sep x y inks = rw (window_byte s sep x y inks (window_refusal s (lone_window x y) 3 1) (ℕ_discrete _ 0), window_refusal_lem s sep x y inks) refl
