-- Rules 18.3 to 18.5: how many cells of a motif have a colorant, by the rule and in what the renderers write.
-- Assumes nothing: these are statements.
use Rattle.std.specs.Prelude.{ℕ, ◌+◌, ◌-◌, ◌*◌, ◌≤◌, ◌<◌, ◌≡◌, List, get_or, eqb}
use Rattle.screen.specs.declared.Screen.{Screen}
use Rattle.screen.specs.Screens.{Admitted}
use Rattle.screen.specs.Motif.{HasMotifs, motif_rows, in_motif}
use Rattle.separation.specs.declared.Separation.{Separation}
use Rattle.separation.specs.declared.Inks.{Inks}
use Rattle.separation.specs.Laws.{InkValues}
use Rattle.quantiser.specs.Running.{count}
use Rattle.quantiser.specs.Laws.{ShareRounded}
use Rattle.render.specs.declared.Window.{Window}
use Rattle.render.specs.Windows.{inks_at, cell_of}
use Rattle.render.specs.Answers.{rendering, rendered, brick_rendering, brick_rendered}

-- ---- by the rule

-- how many cells of a motif have colorant j, where all have these ink values
unfoldable pub motif_cells : Screen → Separation → Inks → ℕ → (ℕ → ℕ) → ℕ → ℕ
motif_cells s sep inks x start j = in_motif s x start (λ c r. eqb (cell_of s sep c r inks) j)

-- rules 18.3 and 18.5: so many cells are the count of colorant j, which is its share rounded down or up
abbrev pub Quantised : Screen → Separation → Inks → ℕ → ℕ → Type 0
Quantised s sep inks j cells = (cells ≡ count s sep inks j) × ShareRounded s sep inks j

-- rule 18.3
abbrev pub MotifCounted : Type 0
MotifCounted =
    (s : Screen) → Admitted s → HasMotifs s → (sep : Separation) (inks : Inks) → InkValues inks → (x : ℕ) (start : ℕ → ℕ) (j : ℕ) → j < 8
    → Quantised s sep inks j (motif_cells s sep inks x start j)

-- ---- in what is written

-- a window has the cell (c, r) of the sheet
abbrev pub Holds : Window → ℕ → ℕ → Type 0
Holds w c r = (w.x ≤ c) × (c < w.x + w.columns) × (w.y ≤ r) × (r < w.y + w.rows)

-- the number of that cell in the window
abbrev pub number_in : Window → ℕ → ℕ → ℕ
number_in w c r = (r - w.y) * w.columns + (c - w.x)

-- how many bytes of a motif's cells are colorant j
unfoldable pub motif_bytes : Screen → Window → List ℕ → ℕ → (ℕ → ℕ) → ℕ → ℕ
motif_bytes s w out x start j = in_motif s x start (λ c r. eqb (get_or out (number_in w c r) 0) j)

-- rule 18.4: a window that has all cells of a motif, and these ink values at least on them
pub record MotifHeld (s : Screen) (w : Window) (inks : Inks) (x : ℕ) (start : ℕ → ℕ) (input : List ℕ) : Type 0 where
  pub has_motifs : HasMotifs s
  pub bytes : InkValues inks
  pub held : (i k : ℕ) → i < s.b → k < motif_rows s → Holds w (x + i) (start i + k)
  pub one_triple : (i k : ℕ) → i < s.b → k < motif_rows s → inks_at input (number_in w (x + i) (start i + k)) ≡ inks

-- rule 18.4, of each renderer where it does not refuse; so the second was lent a true brick
abbrev pub MotifWritten : Type 0
MotifWritten =
    (s : Screen) (sep : Separation) (w : Window) (inks : Inks) (x : ℕ) (start : ℕ → ℕ) (input brick out : List ℕ)
    → MotifHeld s w inks x start input → (j : ℕ) → j < 8
    → ((rendering s sep w input out).refusal ≡ 0 → Quantised s sep inks j (motif_bytes s w (rendered s sep w input out) x start j))
    × ((brick_rendering s sep w input brick out).refusal ≡ 0 → Quantised s sep inks j (motif_bytes s w (brick_rendered s sep w input brick out) x start j))
