-- Rules 2.1 to 2.4: the phase of a place.
-- Assumes nothing: these are definitions.
use Rattle.std.specs.Prelude.{ℕ, ◌+◌, ◌*◌}
use Rattle.arith.specs.Remainder.{remainder_of}
use Rattle.arith.specs.Refusal.{unless, or_else, answered}
use Rattle.arith.specs.Sheet.{on_sheet}
use Rattle.screen.specs.declared.Screen.{Screen}
use Rattle.screen.specs.Screens.{refusal_of}

-- rule 2.2: (a × x + b × y − g) mod N
unfoldable pub phase_of : ℕ → ℕ → ℕ → ℕ → ℕ → ℕ → ℕ
phase_of a b n g x y = remainder_of (a * x + b * y) g n

abbrev pub phase : Screen → ℕ → ℕ → ℕ
phase s x y = phase_of s.a s.b s.n s.g x y

-- rules 11.4 and 11.9, refusals of a lone place: the screen's, then 5, the place being a window of 1 by 1
unfoldable pub place_refusal : Screen → ℕ → ℕ → ℕ
place_refusal s x y = or_else (refusal_of s) (unless (on_sheet x y 1 1) 5 0)

-- what is answered where a phase is asked for: 0 where the call is refused
pub record Place : Type 0 where
  pub refusal : ℕ
  pub phase : ℕ

-- rule 2.4: what `phase_at` answers
unfoldable pub place_of : Screen → ℕ → ℕ → Place
place_of s x y = record { refusal = place_refusal s x y; phase = answered (place_refusal s x y) (phase s x y) }
