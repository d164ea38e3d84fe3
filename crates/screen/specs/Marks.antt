-- Rules 12.1, 12.2, 12.12 and 12.18 to 12.22, the worked examples of bricks, phases, stored numbers, motifs and other corners, and
-- small cases of what the calls and the laws say.
-- proofs/AllMarks.antt shows them by computing the definitions.
-- Assumes nothing: these are statements.
use Rattle.std.specs.Prelude.{ℕ, ◌≡◌, [], ◌∷◌, true, eqb, get_or}
use Rattle.arith.specs.Every.{every}
use Rattle.screen.specs.declared.Screen.{Screen}
use Rattle.screen.specs.Sizes.{rows_of, columns_of, shift_of}
use Rattle.screen.specs.Screens.{screen_of, refusal_of}
use Rattle.screen.specs.Phase.{phase_of, place_refusal}
use Rattle.screen.specs.Brick.{brick_of, buffer_refusal, filled, place_in_brick}
use Rattle.screen.specs.Motif.{HasMotifs}
use Rattle.screen.specs.Made.{made_of, offset_replaced, subscreens_replaced, cells_replaced, offset, subscreens, cells, after_all}
use Rattle.screen.specs.Corner.{moved_to}
use Rattle.screen.specs.Laws.{SteppedDown, Rising, Shifted, Once, times_in_motif, OnceInMotif, MovedPhase, MovedFurther}

-- the screen of rule 12.8's text
abbrev pub listed : Screen
listed = screen_of 4 7 105 2 0

-- rule 11.5's example: a = 4, b = 8
abbrev pub sloped : Screen
sloped = screen_of 4 8 105 2 0

-- the screen of two rows a brick
abbrev pub tworowed : Screen
tworowed = screen_of 4 7 70 2 0

-- a screen of slope 4/7 by its other six numbers, whatever they are
abbrev pub filed : ℕ → ℕ → ℕ → ℕ → ℕ → ℕ → Screen
filed n k g l h s = record { a = 4; b = 7; n = n; k = k; g = g; columns = l; rows = h; shift = s }

-- rule 12.19's screen, with K subscreens
abbrev pub untrue : ℕ → Screen
untrue k = filed 70 k 0 35 2 21

-- rule 12.20: the rows at which the seven columns of a motif begin
abbrev pub starts : ℕ → ℕ
starts i = get_or (0 ∷ 3 ∷ 1 ∷ 9 ∷ 2 ∷ 2 ∷ 40 ∷ []) i 0

-- rule 12.21: a screen whose b does not divide N
abbrev pub undivided : Screen
undivided = screen_of 4 7 104 2 0

-- the screen of slope a/b and N cells has a brick of L columns, H rows and shift S
abbrev pub BrickIs : ℕ → ℕ → ℕ → ℕ → ℕ → ℕ → Type 0
BrickIs a b n l h s = (columns_of a n ≡ l) × (rows_of a n ≡ h) × (shift_of a b n ≡ s)

pub record Marks : Type 0 where
  -- rule 12.1
  pub brick_105 : BrickIs 4 7 105 105 1 77
  pub brick_70 : BrickIs 4 7 70 35 2 14
  pub brick_1 : BrickIs 1 2 1 1 1 0
  -- rule 12.2
  pub phase_7 : phase_of 4 7 105 0 0 1 ≡ 7
  pub phase_26 : phase_of 4 7 105 0 3 2 ≡ 26
  -- 20 rows further down, by rule 2.3; and rule 2.5: 7 columns to the right of it, and 4 rows below it, phase 54
  pub stepped_down : SteppedDown listed 3 2 20
  pub rising : Rising listed 3 2
  -- rule 12.12: 4 × 0 + 7 × 1 − 40 is below 0
  pub phase_72 : phase_of 4 7 105 40 0 1 ≡ 72
  -- a brick of 2 columns and 2 rows, whose first phase is that of −g; the fifth place stays as it is
  pub filled_4 : filled (screen_of 2 3 4 1 1) (9 ∷ 9 ∷ 9 ∷ 9 ∷ 9 ∷ []) ≡ 3 ∷ 1 ∷ 2 ∷ 0 ∷ 9 ∷ []
  -- row 3 is the second row of the second bricks down, which stand S = 14 columns further right
  pub place_70 : place_in_brick tworowed 0 3 ≡ 56
  -- the shift leads on to the same phase, and each phase occurs once in a brick
  pub shifted : Shifted listed 0 0
  pub once : Once tworowed 0 0 1
  -- rule 12.20: 7 divides 105; the phases at (6, 40) and (6, 54), where the last column begins and ends, occur once, and so does each
  pub motif_listed : HasMotifs listed
  pub motif_ends : (phase_of 4 7 105 0 6 40 ≡ 94) × (phase_of 4 7 105 0 6 54 ≡ 87)
  pub motif_94 : OnceInMotif listed 0 starts 94
  pub motif_87 : OnceInMotif listed 0 starts 87
  pub motif_all : every 105 (λ p. eqb (times_in_motif listed 0 starts p) 1) ≡ true
  -- rule 12.21: 7 does not divide 104; (0, 0) and (5, 12) have phase 0, which occurs twice, and phase 1 does not occur
  pub motif_none : HasMotifs undivided → ⊥
  pub motif_zeros : (phase_of 4 7 104 0 0 0 ≡ 0) × (phase_of 4 7 104 0 5 12 ≡ 0)
  pub motif_twice : times_in_motif undivided 0 (λ i. 0) 0 ≡ 2
  pub motif_missed : times_in_motif undivided 0 (λ i. 0) 1 ≡ 0
  -- the lowest number that applies: of 3 and 4, and of 1 and 5
  pub lowest_3 : refusal_of (screen_of 4 7 5 6 5) ≡ 3
  pub lowest_1 : place_refusal sloped 65536 0 ≡ 1
  -- rule 12.18: made, replaced and refused
  pub made : made_of 4 7 105 2 40 ≡ record { refusal = 0; screen = filed 105 2 40 105 1 77 }
  pub cells_70 : cells_replaced (filed 105 2 40 105 1 77) 70 ≡ record { refusal = 0; screen = filed 70 2 40 35 2 14 }
  pub cells_1 : cells_replaced (filed 70 2 40 35 2 14) 1 ≡ record { refusal = 3; screen = filed 70 2 40 35 2 14 }
  pub cells_40 : cells_replaced (filed 70 2 40 35 2 14) 40 ≡ record { refusal = 4; screen = filed 70 2 40 35 2 14 }
  pub offset_70 : offset_replaced (filed 70 2 40 35 2 14) 70 ≡ record { refusal = 4; screen = filed 70 2 40 35 2 14 }
  pub subscreens_17 : subscreens_replaced (filed 70 2 40 35 2 14) 17 ≡ record { refusal = 3; screen = filed 70 2 40 35 2 14 }
  -- a list of these, with two that are served after them
  pub list : after_all (cells 70 ∷ cells 1 ∷ offset 70 ∷ subscreens 17 ∷ offset 5 ∷ subscreens 3 ∷ []) (filed 105 2 40 105 1 77) ≡ filed 70 3 5 35 2 14
  -- five numbers that are refused make eight zeros
  pub unmade : made_of 4 7 105 17 0 ≡ record { refusal = 3; screen = record { a = 0; b = 0; n = 0; k = 0; g = 0; columns = 0; rows = 0; shift = 0 } }
  -- rule 12.19: 15 after 3 and before 5 and 8; the screen that is handed in before the new one, and handed back
  pub untrue_shift : refusal_of (untrue 2) ≡ 15
  pub untrue_3 : refusal_of (untrue 17) ≡ 3
  pub untrue_5 : place_refusal (untrue 2) 65536 0 ≡ 15
  pub untrue_8 : buffer_refusal (untrue 2) 0 ≡ 15
  pub untrue_brick : brick_of (untrue 2) ≡ record { refusal = 15; columns = 0; rows = 0; shift = 0 }
  pub untrue_back : cells_replaced (untrue 2) 0 ≡ record { refusal = 15; screen = untrue 2 }
  -- each stored number by itself, and a shift beyond the columns that fits the equation
  pub untrue_columns : refusal_of (filed 70 2 0 36 2 14) ≡ 15
  pub untrue_rows : refusal_of (filed 70 2 0 35 1 14) ≡ 15
  pub untrue_far : refusal_of (filed 70 2 0 35 2 49) ≡ 15
  -- rule 12.22: seen from (100,000, 70,000), its phase at (3, 2), and from there on; the farthest corner; and a screen that is refused
  pub moved_20 : moved_to (filed 105 2 40 105 1 77) 100000 70000 ≡ record { refusal = 0; screen = filed 105 2 20 105 1 77 }
  pub moved_6 : (phase_of 4 7 105 20 3 2 ≡ 6) × (phase_of 4 7 105 40 100003 70002 ≡ 6)
  pub moved_phase : MovedPhase (filed 105 2 40 105 1 77) 100000 70000 3 2
  pub moved_further : MovedFurther (filed 105 2 40 105 1 77) 100000 70000 3 2
  pub moved_farthest : moved_to listed 18446744073709551615 18446744073709551615 ≡ record { refusal = 0; screen = filed 105 2 45 105 1 77 }
  pub moved_untrue : moved_to (untrue 2) 1 1 ≡ record { refusal = 15; screen = untrue 2 }
