-- Rules 17.2 to 17.6: making a screen, replacing a number of one, and lists of replacements.
-- Assumes nothing: these are definitions.
use Rattle.std.specs.Prelude.{ℕ, cond, eqb}
use mathlib.Core.List.{List, foldl}
use Rattle.arith.specs.Refusal.{or_else}
use Rattle.screen.specs.declared.Screen.{Screen}
use Rattle.screen.specs.Screens.{screen_of, numbers_refusal, refusal_of}

-- what is answered where a screen is asked for: a refusal, 0 where there is none, and a screen
pub record Made : Type 0 where
  pub refusal : ℕ
  pub screen : Screen

-- an answer, given its refusal: the new screen where there is none, and else another
abbrev pub handed_back : ℕ → Screen → Screen → Made
handed_back refusal new other = record { refusal = refusal; screen = cond (eqb refusal 0) new other }

-- eight zeros
abbrev pub no_screen : Screen
no_screen = record { a = 0; b = 0; n = 0; k = 0; g = 0; columns = 0; rows = 0; shift = 0 }

-- rule 17.2: what `make` answers
unfoldable pub made_of : ℕ → ℕ → ℕ → ℕ → ℕ → Made
made_of a b n k g = handed_back (numbers_refusal a b n k g) (screen_of a b n k g) no_screen

-- Rules 17.3 and 17.4, a screen in which other numbers were put in place of N, K and g: 1 to 4 and 15 for the screen that was handed
-- in, then 1 to 4 for the new numbers; refused, the screen that was handed in.
unfoldable pub replaced_by : Screen → ℕ → ℕ → ℕ → Made
replaced_by s n k g =
    handed_back (or_else (refusal_of s) (numbers_refusal s.a s.b n k g)) (screen_of s.a s.b n k g) s

-- rule 17.3: what `replace_offset`, `replace_subscreens` and `replace_cells` answer
abbrev pub offset_replaced : Screen → ℕ → Made
offset_replaced s g = replaced_by s s.n s.k g

abbrev pub subscreens_replaced : Screen → ℕ → Made
subscreens_replaced s k = replaced_by s s.n k s.g

abbrev pub cells_replaced : Screen → ℕ → Made
cells_replaced s n = replaced_by s n s.k s.g

-- ---- rule 17.6: lists of replacements

-- a call of one of the three, with its number
pub data Replacement : Type 0 where
  offset : ℕ → Replacement
  subscreens : ℕ → Replacement
  cells : ℕ → Replacement

-- what the call answers for a screen
abbrev pub replaced : Screen → Replacement → Made
replaced s (offset g) = offset_replaced s g
replaced s (subscreens k) = subscreens_replaced s k
replaced s (cells n) = cells_replaced s n

-- the screen after a list of such calls, each on the screen that the one before handed back
abbrev pub after_all : List Replacement → Screen → Screen
after_all rs s = foldl (λ (t : Screen) (r : Replacement). (replaced t r).screen) s rs
