-- What `screen` promises of its definitions to the crates above. Each is a statement; proofs/Published.antt proves it.
-- Assumes nothing.
use Rattle.std.specs.Prelude.{ℕ, ◌+◌, ◌*◌, ◌%◌, ◌≤◌, ◌<◌, ◌≡◌, List, length, get_or, eqb}
use Rattle.arith.specs.Sum.{sum_below, indicator}
use Rattle.screen.specs.declared.Screen.{Screen}
use Rattle.screen.specs.Screens.{screen_of, refusal_of, Admitted, Limits, Stored}
use Rattle.screen.specs.Phase.{phase, place_refusal, place_of}
use Rattle.screen.specs.Brick.{rows, columns, shift, brick_of, buffer_refusal, filled, TrueBrick, place_in_brick}
use Rattle.screen.specs.Motif.{HasMotifs, motif_rows, in_motif}
use Rattle.screen.specs.Made.{no_screen, made_of, offset_replaced, subscreens_replaced, cells_replaced, Replacement, replaced, after_all}
use Rattle.screen.specs.Corner.{moved_to}

-- ---- screen and phase

-- rule 1.6: a screen is admitted exactly where its numbers keep the limits of rules 1.2 to 1.5 and its stored numbers are true
abbrev pub AdmittedWords : Type 0
AdmittedWords = (s : Screen) → (Admitted s → Limits s) × (Admitted s → Stored s) × (Limits s → Stored s → Admitted s)

-- rule 2.2: the phase is 0 to N − 1
abbrev pub PhaseBelow : Type 0
PhaseBelow = (s : Screen) → Admitted s → (x y : ℕ) → phase s x y < s.n

-- and with g added back it leaves the remainder of a × x + b × y, which no other number below N does
abbrev pub PhaseWords : Type 0
PhaseWords = (s : Screen) → Admitted s → (x y : ℕ) → (phase s x y + s.g) % s.n ≡ (s.a * x + s.b * y) % s.n

abbrev pub PhaseOnly : Type 0
PhaseOnly = (s : Screen) → Admitted s → (x y p : ℕ) → p < s.n → (p + s.g) % s.n ≡ (s.a * x + s.b * y) % s.n → p ≡ phase s x y

-- rule 2.3, the phase carried along a row: j columns on, j times a is added
abbrev pub StepsRight : Type 0
StepsRight = (s : Screen) → Admitted s → (x y j : ℕ) → phase s (x + j) y ≡ (phase s x y + s.a * j) % s.n

-- one column on, by the remainder of a, so that N is subtracted at most once
abbrev pub StepRight : Type 0
StepRight = (s : Screen) → Admitted s → (x y : ℕ) → phase s (x + 1) y ≡ (phase s x y + s.a % s.n) % s.n

-- rule 2.3, and down a column: j rows on, j times b is added; from one place, and from all
abbrev pub SteppedDown : Screen → ℕ → ℕ → ℕ → Type 0
SteppedDown s x y j = phase s x (y + j) ≡ (phase s x y + s.b * j) % s.n

abbrev pub StepsDown : Type 0
StepsDown = (s : Screen) → Admitted s → (x y j : ℕ) → SteppedDown s x y j

-- one row on, by the remainder of b
abbrev pub StepDown : Type 0
StepDown = (s : Screen) → Admitted s → (x y : ℕ) → phase s x (y + 1) ≡ (phase s x y + s.b % s.n) % s.n

-- rule 2.5, lines rise to the right: b columns on has the phase of a rows down; from one place, and from all
abbrev pub Rising : Screen → ℕ → ℕ → Type 0
Rising s x y = phase s (x + s.b) y ≡ phase s x (y + s.a)

abbrev pub LinesRise : Type 0
LinesRise = (s : Screen) → Admitted s → (x y : ℕ) → Rising s x y

-- what `phase_at` answers for a place on the sheet
abbrev pub PlaceOnSheet : Type 0
PlaceOnSheet = (s : Screen) → Admitted s → (x y : ℕ) → x < 65536 → y < 65536 → place_of s x y ≡ record { refusal = 0; phase = phase s x y }

-- and for any place: its refusal, and where it has none, so that the screen is admitted, its phase
abbrev pub PlaceAnswered : Type 0
PlaceAnswered =
    (s : Screen) (x y : ℕ)
    → ((place_of s x y).refusal ≡ place_refusal s x y) × (place_refusal s x y ≡ 0 → Admitted s × ((place_of s x y).phase ≡ phase s x y))

-- ---- brick

-- rule 3.2: a brick has N places, and at least one column and one row
abbrev pub BrickSize : Type 0
BrickSize = (s : Screen) → Admitted s → (0 < columns s) × (0 < rows s) × (rows s * columns s ≡ s.n)

-- rule 3.4: the period along a row is L
abbrev pub PeriodRight : Type 0
PeriodRight = (s : Screen) → Admitted s → (x y : ℕ) → phase s (x + columns s) y ≡ phase s x y

-- rule 3.3: the shift S is below L and makes a × S + b × H a multiple of N, as no other number below L does
abbrev pub ShiftWords : Type 0
ShiftWords = (s : Screen) → Admitted s → (shift s < columns s) × ((s.a * shift s + s.b * rows s) % s.n ≡ 0)

abbrev pub ShiftOnly : Type 0
ShiftOnly = (s : Screen) → Admitted s → (t : ℕ) → t < columns s → (s.a * t + s.b * rows s) % s.n ≡ 0 → t ≡ shift s

-- rule 3.4, the shift leads to the same phase H rows down: from one place, and from all
abbrev pub Shifted : Screen → ℕ → ℕ → Type 0
Shifted s x y = phase s (x + shift s) (y + rows s) ≡ phase s x y

abbrev pub ShiftLaw : Type 0
ShiftLaw = (s : Screen) → Admitted s → (x y : ℕ) → Shifted s x y

-- what `brick_of` answers for an admitted screen
abbrev pub BrickAnswered : Type 0
BrickAnswered = (s : Screen) → Admitted s → brick_of s ≡ record { refusal = 0; columns = columns s; rows = rows s; shift = shift s }

-- rules 3.7 and 3.8: `fill_brick` makes a true brick
abbrev pub FilledIsTrue : Type 0
FilledIsTrue = (s : Screen) (buffer : List ℕ) → s.n ≤ length buffer → TrueBrick s (filled s buffer)

-- rule 3.9: the phase of (x, y) is read from a true brick at `place_in_brick`, one of its first N places
abbrev pub ReadFromBrick : Type 0
ReadFromBrick =
    (s : Screen) → Admitted s → (buffer : List ℕ) → TrueBrick s buffer → (x y : ℕ)
    → (get_or buffer (place_in_brick s x y) 0 ≡ phase s x y) × (place_in_brick s x y < s.n)

-- a buffer is refused as its screen is, then as 8 where it is too short
abbrev pub BufferRefused : Type 0
BufferRefused =
    (s : Screen) (places : ℕ)
    → ((refusal_of s ≡ 0 → ⊥) → refusal_of s ≡ buffer_refusal s places)
    × (Admitted s → places < s.n → 8 ≡ buffer_refusal s places)
    × (Admitted s → s.n ≤ places → 0 ≡ buffer_refusal s places)

-- ---- how often a phase occurs

-- how many cells of the w columns by r rows from (x, y) on have the phase p
unfoldable pub times : Screen → ℕ → ℕ → ℕ → ℕ → ℕ → ℕ
times s x y w r p = sum_below r (λ j. sum_below w (λ i. indicator (eqb (phase s (x + i) (y + j)) p)))

-- a brick anywhere, L columns by H rows from some place on, has each phase exactly once: one phase, and all
abbrev pub Once : Screen → ℕ → ℕ → ℕ → Type 0
Once s x y p = times s x y (columns s) (rows s) p ≡ 1

abbrev pub EachPhaseOnce : Type 0
EachPhaseOnce = (s : Screen) → Admitted s → (x y p : ℕ) → p < s.n → Once s x y p

-- rule 13.2: and in u by v bricks exactly u × v times
abbrev pub EachPhaseTimes : Type 0
EachPhaseTimes =
    (s : Screen) → Admitted s → (x y u v p : ℕ) → p < s.n → times s x y (u * columns s) (v * rows s) p ≡ u * v

-- rule 18.1: a motif has N cells
abbrev pub MotifSize : Type 0
MotifSize = (s : Screen) → HasMotifs s → s.b * motif_rows s ≡ s.n

-- how many cells of the motif from column x on, whose column x + i begins at row start i, have the phase p
abbrev pub times_in_motif : Screen → ℕ → (ℕ → ℕ) → ℕ → ℕ
times_in_motif s x start p = in_motif s x start (λ c r. eqb (phase s c r) p)

-- rule 18.2, a motif anywhere has each phase exactly once: one phase, and all
abbrev pub OnceInMotif : Screen → ℕ → (ℕ → ℕ) → ℕ → Type 0
OnceInMotif s x start p = times_in_motif s x start p ≡ 1

abbrev pub EachPhaseInMotif : Type 0
EachPhaseInMotif =
    (s : Screen) → Admitted s → HasMotifs s → (x : ℕ) (start : ℕ → ℕ) (p : ℕ) → p < s.n → OnceInMotif s x start p

-- ---- making and replacing

-- rule 17.2: five numbers are refused as their screen is, never as 15; a screen that is made is that of its five numbers, and one that
-- is refused has eight zeros
abbrev pub MadeWords : Type 0
MadeWords =
    (a b n k g : ℕ)
    → ((made_of a b n k g).refusal ≡ refusal_of (screen_of a b n k g))
    × ((made_of a b n k g).refusal ≤ 4)
    × ((made_of a b n k g).refusal ≡ 0 → (made_of a b n k g).screen ≡ screen_of a b n k g)
    × (((made_of a b n k g).refusal ≡ 0 → ⊥) → (made_of a b n k g).screen ≡ no_screen)

-- rule 17.6: a screen that is made is admitted
abbrev pub MadeAdmitted : Type 0
MadeAdmitted = (a b n k g : ℕ) → (made_of a b n k g).refusal ≡ 0 → Admitted (made_of a b n k g).screen

-- and so is what a replacement of an admitted screen hands back, refused or not
abbrev pub ReplacedAdmitted : Type 0
ReplacedAdmitted = (s : Screen) → Admitted s → (r : Replacement) → Admitted (replaced s r).screen

-- rule 17.4: a replacement that is refused hands back the screen that it got, whatever that is
abbrev pub RefusedKeeps : Type 0
RefusedKeeps = (s : Screen) (r : Replacement) → ((replaced s r).refusal ≡ 0 → ⊥) → (replaced s r).screen ≡ s

-- rule 17.5, what a served replacement keeps: of another g, the other seven numbers
abbrev pub OffsetKeeps : Type 0
OffsetKeeps =
    (s : Screen) (g : ℕ) → (offset_replaced s g).refusal ≡ 0
    → (offset_replaced s g).screen
    ≡ record { a = s.a; b = s.b; n = s.n; k = s.k; g = g; columns = s.columns; rows = s.rows; shift = s.shift }

-- of another K, the other seven
abbrev pub SubscreensKeep : Type 0
SubscreensKeep =
    (s : Screen) (k : ℕ) → (subscreens_replaced s k).refusal ≡ 0
    → (subscreens_replaced s k).screen
    ≡ record { a = s.a; b = s.b; n = s.n; k = k; g = s.g; columns = s.columns; rows = s.rows; shift = s.shift }

-- of another N, those that do not follow from it
abbrev pub CellsKeep : Type 0
CellsKeep =
    (s : Screen) (n : ℕ) → (cells_replaced s n).refusal ≡ 0
    → (cells_replaced s n).screen ≡ screen_of s.a s.b n s.k s.g

-- Rule 17.6: take a made screen and any replacements one after another, served or refused. What they leave stores the L, H and S of its
-- a, b and N, and is admitted.
abbrev pub TrueThroughout : Type 0
TrueThroughout =
    (a b n k g : ℕ) → (made_of a b n k g).refusal ≡ 0 → (rs : List Replacement)
    → Stored (after_all rs (made_of a b n k g).screen) × Admitted (after_all rs (made_of a b n k g).screen)

-- ---- a screen seen from another corner

-- Rule 19.2: it is refused as the screen that is handed in, and never else. What it keeps and that it is admitted are `OffsetKeeps` and
-- `ReplacedAdmitted`, of which it is a case.
abbrev pub MovedRefused : Type 0
MovedRefused = (s : Screen) (x y : ℕ) → (moved_to s x y).refusal ≡ refusal_of s

-- rule 19.3, phases of the moved screen: at (i, j) it has that of (x + i, y + j); at one place, and at all
abbrev pub MovedPhase : Screen → ℕ → ℕ → ℕ → ℕ → Type 0
MovedPhase s x y i j = phase (moved_to s x y).screen i j ≡ phase s (x + i) (y + j)

abbrev pub Moved : Type 0
Moved = (s : Screen) → Admitted s → (x y i j : ℕ) → MovedPhase s x y i j

-- rule 19.4, moved on: a corner that is counted from another corner; from one, and from all
abbrev pub MovedFurther : Screen → ℕ → ℕ → ℕ → ℕ → Type 0
MovedFurther s x y i j = moved_to (moved_to s x y).screen i j ≡ moved_to s (x + i) (y + j)

abbrev pub MovedOn : Type 0
MovedOn = (s : Screen) → Admitted s → (x y i j : ℕ) → MovedFurther s x y i j
