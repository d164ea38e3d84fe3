-- Rules 19.1 and 19.2: a screen as it is seen from another corner than the sheet's.
-- Assumes nothing: these are definitions.
use Rattle.std.specs.Prelude.{ℕ, ◌+◌, ◌*◌}
use Rattle.arith.specs.Remainder.{remainder_of}
use Rattle.screen.specs.declared.Screen.{Screen}
use Rattle.screen.specs.Made.{Made, offset_replaced}

-- rule 19.1: the offset as seen from column x and row y, (g − a × x − b × y) mod N
unfoldable pub offset_of : ℕ → ℕ → ℕ → ℕ → ℕ → ℕ → ℕ
offset_of a b n g x y = remainder_of g (a * x + b * y) n

abbrev pub offset_from : Screen → ℕ → ℕ → ℕ
offset_from s x y = offset_of s.a s.b s.n s.g x y

-- rule 19.2: what `moved` answers, the replacement of the offset by this one
abbrev pub moved_to : Screen → ℕ → ℕ → Made
moved_to s x y = offset_replaced s (offset_from s x y)
