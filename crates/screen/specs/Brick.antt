-- Rules 3.4 to 3.9: the brick of a screen, its buffer, and where a place's phase stands in it. Its size and shift are in Sizes.antt.
-- Assumes nothing: these are definitions.
use Rattle.std.specs.Prelude.{ℕ, ◌+◌, ◌*◌, ◌/◌, ◌%◌, ◌≤◌, ◌<◌, ◌≡◌, List, length, get_or, leb}
use Rattle.arith.specs.Remainder.{remainder_of}
use Rattle.arith.specs.Run.{upto}
use Rattle.arith.specs.Refusal.{unless, or_else, answered, written}
use Rattle.screen.specs.declared.Screen.{Screen}
use Rattle.screen.specs.declared.bricks.Brick.{Brick}
use Rattle.screen.specs.Sizes.{rows_of, columns_of, shift_of}
use Rattle.screen.specs.Screens.{refusal_of, Admitted}
use Rattle.screen.specs.Phase.{phase_of, phase}

-- what rules 3.1 to 3.3 give for a screen's numbers; an admitted screen stores the same (`AdmittedWords`, Laws.antt)
abbrev pub rows : Screen → ℕ
rows s = rows_of s.a s.n

abbrev pub columns : Screen → ℕ
columns s = columns_of s.a s.n

abbrev pub shift : Screen → ℕ
shift s = shift_of s.a s.b s.n

-- the brick that a screen stores
abbrev pub stored_brick : Screen → Brick
stored_brick s = record { columns = s.columns; rows = s.rows; shift = s.shift }

-- what is answered where a brick is asked for: its numbers, 0 where the call is refused
pub record BrickAnswer : Type 0 where
  pub refusal : ℕ
  pub columns : ℕ
  pub rows : ℕ
  pub shift : ℕ

-- rule 3.5, what `brick_of` answers: the numbers that the screen stores
unfoldable pub brick_of : Screen → BrickAnswer
brick_of s =
    record {
      refusal = refusal_of s;
      columns = answered (refusal_of s) s.columns;
      rows = answered (refusal_of s) s.rows;
      shift = answered (refusal_of s) s.shift;
    }

-- rule 3.6: place v × L + u of the buffer, so that place i has u = i % L and v = i / L
abbrev pub phase_at_place : ℕ → ℕ → ℕ → ℕ → ℕ → ℕ
phase_at_place a b n g i = phase_of a b n g (i % columns_of a n) (i / columns_of a n)

-- the N phases of a brick in the order of their places
unfoldable pub brick_phases : Screen → List ℕ
brick_phases s = upto (λ i. phase_at_place s.a s.b s.n s.g i) s.n

-- rules 11.4 and 11.12, refusals of a brick buffer of the given length: the screen's, then 8 for one that is too short
unfoldable pub buffer_refusal : Screen → ℕ → ℕ
buffer_refusal s places = or_else (refusal_of s) (unless (leb s.n places) 8 0)

-- rule 3.7, what `fill_brick` leaves in a buffer: the phases and, from place N on, what stood there; all of it as it was where the call is refused
unfoldable pub filled : Screen → List ℕ → List ℕ
filled s buffer = written (buffer_refusal s (length buffer)) (brick_phases s) buffer

-- rule 3.8: a true brick; of a screen that is not admitted, every buffer
abbrev pub TrueBrick : Screen → List ℕ → Type 0
TrueBrick s buffer =
    Admitted s → (s.n ≤ length buffer) × ((u v : ℕ) → u < columns s → v < rows s → get_or buffer (v * columns s + u) 0 ≡ phase s u v)

-- Rule 3.9: the place of (x, y) in a brick of so many columns and rows and such a shift, counted from the sheet's corner. It is in row
-- y mod H and column (x − S × ⌊y / H⌋) mod L.
unfoldable pub brick_place : ℕ → ℕ → ℕ → ℕ → ℕ → ℕ
brick_place columns rows shift x y = y % rows * columns + remainder_of x (shift * (y / rows)) columns

-- where the phase of (x, y) stands in a true brick
abbrev pub place_in_brick : Screen → ℕ → ℕ → ℕ
place_in_brick s x y = brick_place (columns s) (rows s) (shift s) x y
