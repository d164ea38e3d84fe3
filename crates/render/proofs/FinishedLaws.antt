-- Rules 13.1 to 13.7 of both renderers, from the definitions: in any brick of a window each phase occurs once, so a sum over its cells is a sum
-- over the phases, which counts them as the quantiser does; and a true brick leaves a window's refusal as it is, so that the two agree.
-- Assumes nothing.
use Prim.Native.Nat.{ℕ, ◌+◌, ◌*◌, ◌/◌, ◌%◌, ◌≤◌, ◌<◌}
use mathlib.Core.Path.{◌≡◌, sym, ap, ◌∙◌}
use mathlib.Core.Bool.{◌&&◌}
use mathlib.Core.List.{List}
use native.Mathlib.Nat.{add_assoc, mul_comm}
use native.Mathlib.Decide.{ℕ_discrete}
use native.Mathlib.Omega.{arith}
use lib.Arith.{digits_lt}
use lib.Dec.{eqb}
use lib.ListN.{length, get_or}
use Rattle.std.specs.Prelude.{Result, IfOk}
use Rattle.arith.specs.Sum.{sum_below, indicator}
use Rattle.arith.specs.Tally.{tally}
use Rattle.arith.specs.declared.refusals.Refusal.{Refusal}
use Rattle.arith.specs.Refusal.{written, number_of}
use Rattle.arith.proofs.RefusalLaws.{written_all}
use Rattle.arith.proofs.RunLaws.{upto_at}
use Rattle.arith.proofs.SumLaws.{sum_same, sum_places, sum_window, sum_along_places}
use Rattle.arith.proofs.TallyLaws.{tally_upto}
use Rattle.screen.specs.declared.Screen.{Screen}
use Rattle.screen.specs.Screens.{Admitted}
use Rattle.screen.specs.Phase.{phase}
use Rattle.screen.specs.Brick as Brick
use Rattle.screen.specs.Laws.{times}
use Rattle.screen.proofs.Published.{phase_below, each_phase_once, each_phase_times}
use Rattle.separation.specs.declared.Separation.{Separation}
use Rattle.separation.specs.declared.Inks.{Inks}
use Rattle.quantiser.specs.Subscreens.{subscreen_of, colorant_of, phases_in, phases_of}
use Rattle.quantiser.specs.Running.{count}
use Rattle.quantiser.proofs.Published.{count_share, subscreen_share, phases_in_all}
use Rattle.render.specs.declared.Window.{Window}
use Rattle.render.specs.Windows.{area, cell_of, window_cell, window_cells, tallies_of}
use Rattle.render.specs.Answers.{Rendering, told, window_refusal, brick_refusal, answer_of, rendering, rendered, brick_rendering, brick_rendered}
use Rattle.render.specs.Finished.{Brickwork, Even, FinishedWindow, Agreement, bytes_in_subscreen}
use Rattle.render.proofs.RefusalLaws.{window_whole, window_kept, true_due, brick_window, brick_whole}
use Rattle.render.proofs.AnswerLaws.{told_parts, cells_length_lem, cells_at}

-- ---- sums over cells

module _ (s : Screen) (ok : Admitted s) (g : ℕ → ℕ) (x y : ℕ) where
  -- over the brick at (i, j) from (x, y): once over the phases
  brick_sum : (i j : ℕ) → sum_below (Brick.rows s) (λ r. sum_below (Brick.columns s) (λ c. g (phase s (x + (i + c)) (y + (j + r))))) ≡ sum_below s.n g
  unfolding times
  brick_sum i j =
      sum_along_places (Brick.rows s) (Brick.columns s) s.n (λ r c. phase s (x + (i + c)) (y + (j + r))) g (λ r c. phase_below s ok _ _)
      (λ p b. simp (← add_assoc) (each_phase_once s ok (x + i) (y + j) p b))

  -- over a window of u by v bricks: u * v times over the phases
  window_sum : (u v : ℕ) → sum_below (v * Brick.rows s) (λ r. sum_below (u * Brick.columns s) (λ c. g (phase s (x + c) (y + r)))) ≡ u * v * sum_below s.n g
  window_sum u v =
      sum_window u v (Brick.columns s) (Brick.rows s) (sum_below s.n g) (λ c r. g (phase s (x + c) (y + r)))
      (λ i j. brick_sum (i * Brick.columns s) (j * Brick.rows s))

-- ---- the cells of a window with one ink triple

module _ (s : Screen) (sep : Separation) (w : Window) (input out : List ℕ) (inks : Inks) (u v : ℕ) (b : Brickwork s w inks u v input (length out)) where
  -- such a window keeps what is asked of it
  not_refused : window_refusal s w (length input) (length out) ≡ 0
  not_refused = sym (window_whole s w (length input) (length out) b.admitted b.right b.down b.inputs b.outputs_stated)

  -- each cell is the colorant of its phase, by its number and by its column and row
  cell_colorant : (i : ℕ) → i < area w
      → window_cell s sep w input i ≡ colorant_of s sep inks (phase s (w.x + i % w.columns) (w.y + i / w.columns))
  unfolding window_cell cell_of
  cell_colorant i l = ap (λ (t : Inks). colorant_of s sep t (phase s (w.x + i % w.columns) (w.y + i / w.columns))) (b.one_triple i l)

  cell_at : (c r : ℕ) → c < w.columns → r < w.rows
      → get_or (window_cells s sep w input) (r * w.columns + c) 0 ≡ colorant_of s sep inks (phase s (w.x + c) (w.y + r))
  unfolding cell_of
  cell_at c r across down =
      cells_at s sep w input c r across down
      ∙ ap (cell_of s sep (w.x + c) (w.y + r)) (b.one_triple (r * w.columns + c) (rw (mul_comm w.columns w.rows) (digits_lt down across)))

  -- a colorant has u * v times its count of them
  cells_counted : (j : ℕ) → j < 8 → tally j (window_cells s sep w input) ≡ u * v * count s sep inks j
  unfolding window_cells phases_of
  cells_counted j l =
      let g : ℕ → ℕ = λ p. indicator (eqb (colorant_of s sep inks p) j) in
      tally_upto j (window_cell s sep w input) (area w)
      ∙ sum_same (area w) _ _ (λ i k. ap (λ (c : ℕ). indicator (eqb c j)) (cell_colorant i k))
      ∙ ap (λ (k : ℕ). sum_below k (λ i. g (phase s (w.x + i % w.columns) (w.y + i / w.columns)))) (mul_comm w.columns w.rows)
      ∙ sym (sum_places w.rows w.columns (λ r c. g (phase s (w.x + c) (w.y + r))))
      ∙ rw (b.columns, b.rows) (window_sum s b.admitted g w.x w.y u v)
      ∙ ap (λ (k : ℕ). u * v * k) (phases_in_all s b.admitted sep inks b.bytes j l)

  -- and in a brick of the window a subscreen has as many cells of it as phases
  brick_counted : (i j k colorant : ℕ) → i + Brick.columns s ≤ w.columns → j + Brick.rows s ≤ w.rows
      → bytes_in_subscreen s w (window_cells s sep w input) i j k colorant ≡ phases_in s sep inks k colorant
  unfolding bytes_in_subscreen phases_in
  brick_counted i j k colorant across down =
      sum_same (Brick.rows s) _ _ (λ r h. sum_same (Brick.columns s) _ _ (λ c l.
      ap (λ (z : ℕ). indicator (eqb (subscreen_of s (phase s (w.x + (i + c)) (w.y + (j + r)))) k && eqb z colorant))
      (cell_at (i + c) (j + r) (omega arith) (omega arith))))
      ∙ brick_sum s b.admitted (λ p. indicator (eqb (subscreen_of s p) k && eqb (colorant_of s sep inks p) colorant)) w.x w.y i j

  -- ---- what the renderer answers and leaves of them

  -- the tallies are the cells'
  all_tallied : (j : ℕ) → j < 8 → get_or (rendering s sep w input out).tallies j 0 ≡ tally j (window_cells s sep w input)
  unfolding rendering answer_of tallies_of
  all_tallied j l = rw not_refused (upto_at (λ j. tally j (window_cells s sep w input)) 8 j l)

  -- the output is the cells
  all_written : rendered s sep w input out ≡ window_cells s sep w input
  unfolding rendered
  all_written = written_all _ _ out not_refused (cells_length_lem s sep w input ∙ sym b.outputs_stated)

  -- and so both keep the promise
  even : Even s sep w inks u v (rendering s sep w input out) (rendered s sep w input out)
  unfolding rendering answer_of
  even =
      record {
        not_refused = not_refused;
        phases = λ p l. rw (b.columns, b.rows) (each_phase_times s b.admitted w.x w.y u v p l);
        written = λ j l. all_tallied j l ∙ ap (tally j) (sym all_written);
        counted = λ j l. all_tallied j l ∙ cells_counted j l;
        shares = λ j l. count_share s b.admitted sep inks b.bytes j;
        subscreens =
            λ i j across down k colorant l h. rw (all_written, brick_counted i j k colorant across down)
            (subscreen_share s b.admitted sep inks b.bytes k colorant l h);
      }

-- ---- the promise

-- what a renderer's answer says and what it leaves, where they are these, and what follows
pub record Kept (r : Rendering) (left : List ℕ) (answer : Result (List ℕ) Refusal) (out : List ℕ) (promise : Type 0) : Type 0 where
  pub refused : number_of answer ≡ r.refusal
  pub tallies : IfOk answer (λ tallies. tallies ≡ r.tallies)
  pub cells : out ≡ left
  pub finished : promise

kept : (answer : Result (List ℕ) Refusal) (r : Rendering) {left out : List ℕ} {promise : Type 0} → told answer ≡ r → out ≡ left → promise → Kept r left answer out promise
kept answer r e left promise = let parts = told_parts answer r e in record { refused = parts.0; tallies = parts.1; cells = left; finished = promise }

-- of `render`
finished_worked : (s : Screen) (sep : Separation) (w : Window) (input out : List ℕ)
    → FinishedWindow s sep w input (length out) (rendering s sep w input out) (rendered s sep w input out)
finished_worked = even

-- and so what it answers and leaves determines the call and keeps the promise
pub worked_keeps : (s : Screen) (sep : Separation) (w : Window) (input out : List ℕ) (answer : Result (List ℕ) Refusal) {out₁ : List ℕ}
    → (told answer ≡ answer_of (window_refusal s w (length input) (length out)) (window_cells s sep w input))
    × (out₁ ≡ written (window_refusal s w (length input) (length out)) (window_cells s sep w input) out)
    → Kept (rendering s sep w input out) (rendered s sep w input out) answer out₁ (FinishedWindow s sep w input (length out) (told answer) out₁)
unfolding rendering rendered
worked_keeps s sep w input out answer p = kept answer _ p.0 p.1 (rw (p.0, p.1) (finished_worked s sep w input out))

-- a true brick leaves a window's refusal as it is
same_refusal : (s : Screen) (w : Window) (inputs outputs : ℕ) (brick : List ℕ) → Brick.TrueBrick s brick
    → brick_refusal s w inputs outputs brick ≡ window_refusal s w inputs outputs
same_refusal s w inputs outputs brick holds = go (ℕ_discrete (window_refusal s w inputs outputs) 0)
  where
    go : Dec (window_refusal s w inputs outputs ≡ 0) → brick_refusal s w inputs outputs brick ≡ window_refusal s w inputs outputs
    go (yes z) = sym (brick_whole s w inputs outputs brick z (true_due s brick (window_kept s w inputs outputs z).0 holds)) ∙ sym z
    go (no h) = sym (brick_window s w inputs outputs brick h)

-- both renderers make the same of a refusal
pub agreement : Agreement
unfolding rendering rendered brick_rendering brick_rendered
agreement s sep w input brick out holds =
    let e = same_refusal s w (length input) (length out) brick holds in
    (ap (λ (r : ℕ). answer_of r (window_cells s sep w input)) e, ap (λ (r : ℕ). written r (window_cells s sep w input) out) e)

-- of `render_brick`
finished_read : (s : Screen) (sep : Separation) (w : Window) (input brick out : List ℕ) → Brick.TrueBrick s brick
    → FinishedWindow s sep w input (length out) (brick_rendering s sep w input brick out) (brick_rendered s sep w input brick out)
finished_read s sep w input brick out holds =
    let same = agreement s sep w input brick out holds in
    rw (same.0, same.1) (finished_worked s sep w input out)

pub read_keeps : (s : Screen) (sep : Separation) (w : Window) (input brick out : List ℕ) (answer : Result (List ℕ) Refusal) {out₁ : List ℕ}
    → (told answer ≡ answer_of (brick_refusal s w (length input) (length out) brick) (window_cells s sep w input))
    × (out₁ ≡ written (brick_refusal s w (length input) (length out) brick) (window_cells s sep w input) out)
    → Kept (brick_rendering s sep w input brick out) (brick_rendered s sep w input brick out) answer out₁ (Brick.TrueBrick s brick → FinishedWindow s sep w input (length out) (told answer) out₁)
unfolding brick_rendering brick_rendered
read_keeps s sep w input brick out answer p = kept answer _ p.0 p.1 (λ holds. rw (p.0, p.1) (finished_read s sep w input brick out holds))
