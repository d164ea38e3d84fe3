-- Small windows, small cases of rules 13.4, 13.6 and 18.4, the motif of rule 12.20, and the order of refusal 8: proofs/AllMarks.antt shows
-- them by computing the definitions.
-- Assumes nothing: these are statements.
use Rattle.std.specs.Prelude.{ℕ, suc, ◌≡◌, List, [], ◌∷◌}
use Rattle.arith.specs.Run.{upto, zeros}
use Rattle.screen.specs.declared.Screen.{Screen}
use Rattle.screen.specs.Screens.{screen_of}
use Rattle.screen.specs.Marks.{listed, starts}
use Rattle.separation.specs.declared.Separation.TheVariants.{Demichel, Kueppers}
use Rattle.separation.specs.declared.Inks.{Inks}
use Rattle.separation.specs.Weights.{inks_of}
use Rattle.separation.specs.Marks.{half}
use Rattle.render.specs.declared.Window.{Window}
use Rattle.render.specs.Windows.{tallies_of}
use Rattle.render.specs.Answers.{brick_refusal, rendering, rendered, brick_rendering, brick_rendered}
use Rattle.render.specs.Finished.{Counted, bytes_in_subscreen}
use Rattle.render.specs.Motifs.{motif_cells, Quantised, motif_bytes, MotifWritten}

-- A screen of four phases in two subscreens, a brick of 4 by 1, and a tint: phases 0, 2 and 3 are cyan, phase 1 is white.
abbrev pub four : Screen
four = screen_of 1 3 4 2 0

abbrev pub tint : Inks
tint = inks_of 200 0 0

-- so many columns from (1, 1) on, where the phases are 0, 1, 2, 3, 0; and four pixels of the tint
abbrev pub along : ℕ → Window
along columns = record { x = 1; y = 1; columns = columns; rows = 1 }

abbrev pub input : List ℕ
input = 200 ∷ 0 ∷ 0 ∷ 200 ∷ 0 ∷ 0 ∷ 200 ∷ 0 ∷ 0 ∷ 200 ∷ 0 ∷ 0 ∷ []

abbrev pub memory : List ℕ
memory = 9 ∷ 9 ∷ 9 ∷ 9 ∷ []

-- the true brick, and one whose last number is wrong
abbrev pub brick : List ℕ
brick = 0 ∷ 1 ∷ 2 ∷ 3 ∷ []

abbrev pub wrong : List ℕ
wrong = 0 ∷ 1 ∷ 2 ∷ 0 ∷ []

-- Another screen of four phases, whose motifs have 2 columns by 2 rows, and the motif that begins at (1, 1) and (2, 2); a window of 2 by
-- 3 around it, with the tint on its cells and black on the other two.
abbrev pub halved : Screen
halved = screen_of 1 2 4 2 0

abbrev pub around : Window
around = record { x = 1; y = 1; columns = 2; rows = 3 }

abbrev pub pixels : List ℕ
pixels = 200 ∷ 0 ∷ 0 ∷ 255 ∷ 255 ∷ 255 ∷ 200 ∷ 0 ∷ 0 ∷ 200 ∷ 0 ∷ 0 ∷ 255 ∷ 255 ∷ 255 ∷ 200 ∷ 0 ∷ 0 ∷ []

abbrev pub places : List ℕ
places = 9 ∷ 9 ∷ 9 ∷ 9 ∷ 9 ∷ 9 ∷ []

-- the motif's cells are cyan as often as the count says
abbrev pub CyanInMotif : List ℕ → Type 0
CyanInMotif out = Quantised halved Kueppers tint 0 (motif_bytes halved around out 1 suc 0)

pub record Marks : Type 0 where
  pub written : rendered four Kueppers (along 4) input memory ≡ 0 ∷ 7 ∷ 0 ∷ 0 ∷ []
  pub answer : rendering four Kueppers (along 4) input memory ≡ record { refusal = 0; tallies = 3 ∷ 0 ∷ 0 ∷ 0 ∷ 0 ∷ 0 ∷ 0 ∷ 1 ∷ [] }
  pub tallied : tallies_of (0 ∷ 7 ∷ 0 ∷ 0 ∷ []) ≡ 3 ∷ 0 ∷ 0 ∷ 0 ∷ 0 ∷ 0 ∷ 0 ∷ 1 ∷ []
  -- a wrong brick is refused as 8, eight zeros are answered and nothing is written; a true one is not refused
  pub read : brick_rendered four Kueppers (along 4) input brick memory ≡ 0 ∷ 7 ∷ 0 ∷ 0 ∷ []
  pub refused : brick_rendering four Kueppers (along 4) input wrong memory ≡ record { refusal = 8; tallies = zeros 8 }
  pub untouched : brick_rendered four Kueppers (along 4) input wrong memory ≡ memory
  -- also for a window without cells
  pub empty_8 : brick_refusal four (along 0) 0 0 [] ≡ 8
  -- in 2 by 1 bricks, twice the count of 3; and in the brick that begins at the second of five columns, both cells of subscreen 1
  pub counted : Counted four Kueppers tint 2 1 (6 ∷ 0 ∷ 0 ∷ 0 ∷ 0 ∷ 0 ∷ 0 ∷ 2 ∷ []) 0
  pub in_subscreen : bytes_in_subscreen four (along 5) (0 ∷ 7 ∷ 0 ∷ 0 ∷ 0 ∷ []) 1 0 1 0 ≡ 2
  -- rule 12.20
  pub motif_cells_mark : upto (motif_cells listed Demichel half 0 starts) 8 ≡ 26 ∷ 26 ∷ 0 ∷ 27 ∷ 0 ∷ 0 ∷ 0 ∷ 26 ∷ []
  -- 3 cells of a motif of 4, by each renderer; by the law; and in bytes that are written here
  pub motif_written : CyanInMotif (rendered halved Kueppers around pixels places)
  pub motif_read : CyanInMotif (brick_rendered halved Kueppers around pixels brick places)
  pub motif_law : MotifWritten → CyanInMotif (rendered halved Kueppers around pixels places)
  pub motif_bytes_mark : motif_bytes halved around (0 ∷ 6 ∷ 7 ∷ 0 ∷ 6 ∷ 0 ∷ []) 1 suc 0 ≡ 3
