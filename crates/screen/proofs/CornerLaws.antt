-- A screen seen from another corner, first over plain numbers: the new offset is admitted, and phases are those of the places that
-- are counted from there.
-- Assumes nothing.
use Prim.Native.Nat.{ℕ, ◌+◌, ◌-◌, ◌*◌, ◌%◌, ◌<◌}
use mathlib.Core.Path.{◌≡◌, refl, sym, ap, ap₂, ◌∙◌}
use native.Mathlib.Nat.{mod-lt, mod-eq_of_lt}
use native.Mathlib.Decide.{ℕ_discrete}
use native.Mathlib.Omega.{arith}
use Rattle.arith.specs.Remainder.{remainder_of}
use Rattle.arith.proofs.RemainderLaws.{remainder_products, remainder_below, remainder_apart, remainder_off, remainder_twice}
use Rattle.arith.specs.Refusal.{number}
use Rattle.arith.specs.declared.refusals.Refusal.{Refusal}
use Rattle.screen.specs.declared.Screen.{Screen}
use Rattle.screen.specs.Screens.{numbers_refusal, refusal_of, Admitted}
use Rattle.screen.specs.Phase.{phase, phase_of}
use Rattle.screen.specs.Made.{Made}
use Rattle.screen.specs.Corner.{offset_of, offset_from, moved_to}
use Rattle.screen.proofs.Refusals.{limits_kept, limits_suffice}
use Rattle.screen.proofs.MadeLaws.{replaced_first, replaced_old, replaced_number, replaced_old_none, replaced_beside, by_admitted}

module _ (a b n g : ℕ) (pos : 0 < n) (x y : ℕ) where
  -- the offset as seen from (x, y)
  abbrev seen : ℕ
  seen = offset_of a b n g x y

  offset_below : seen < n
  unfolding offset_of
  offset_below = remainder_below g (a * x + b * y) n pos

  -- how `offset_of` works it out: from remainders of the columns and rows, by what is lacking to n
  pub offset_lacking : g < n → (g + (n - (a * (x % n) + b * (y % n)) % n)) % n ≡ seen
  unfolding offset_of
  offset_lacking l =
      let along : ℕ = a * x + b * y in
      let r : along % n < n = mod-lt along pos in
      let q : g + (n - along % n) ≡ g + n - along % n = omega arith in
      rw (remainder_products a b n x y)
      (ap (λ (z : ℕ). z % n) q ∙ ap (λ (z : ℕ). (z + n - along % n) % n) (sym (mod-eq_of_lt l)) ∙ remainder_apart g along n pos)

  module _ (i j : ℕ) where
    -- what leads to (x, y) and from there to (i, j) leads to both together
    counted_on : a * x + b * y + (a * i + b * j) ≡ a * (x + i) + b * (y + j)
    counted_on = omega arith

    phase_from : phase_of a b n seen i j ≡ phase_of a b n g (x + i) (y + j)
    unfolding phase_of offset_of
    phase_from = remainder_off (a * i + b * j) g (a * x + b * y) n pos ∙ ap (λ (z : ℕ). remainder_of z g n) counted_on

    offset_on : offset_of a b n seen i j ≡ offset_of a b n g (x + i) (y + j)
    unfolding offset_of
    offset_on = remainder_twice g (a * x + b * y) (a * i + b * j) n pos ∙ ap (λ (z : ℕ). remainder_of g z n) counted_on

-- ---- of screens

-- a screen with another offset
abbrev beside : Screen → ℕ → Screen
beside s g = record { a = s.a; b = s.b; n = s.n; k = s.k; g = g; columns = s.columns; rows = s.rows; shift = s.shift }

module _ (s : Screen) (x y : ℕ) where
  pub moved_old : (e : Refusal) → number e ≡ refusal_of s → number e ≡ (moved_to s x y).refusal
  moved_old e same = replaced_old s s.n s.k (offset_from s x y) e same

  pub moved_none : 0 < refusal_of s → s ≡ (moved_to s x y).screen
  moved_none above = replaced_old_none s s.n s.k (offset_from s x y) above

  module _ (ok : Admitted s) where
    numbers_admitted : numbers_refusal s.a s.b s.n s.k (offset_from s x y) ≡ 0
    numbers_admitted =
        let l = limits_kept s ok in
        limits_suffice (beside s (offset_from s x y))
        (record {
          slope_above = l.slope_above;
          slope_below = l.slope_below;
          slope_limit = l.slope_limit;
          slope_lowest = l.slope_lowest;
          cells_above = l.cells_above;
          cells_limit = l.cells_limit;
          subscreens_above = l.subscreens_above;
          subscreens_limit = l.subscreens_limit;
          subscreens_cells = l.subscreens_cells;
          offset_below = offset_below s.a s.b s.n s.g l.cells_above x y;
        })

    pub moved_unrefused : 0 ≡ (moved_to s x y).refusal
    moved_unrefused = sym (replaced_number s s.n s.k (offset_from s x y) (sym ok) ∙ numbers_admitted)

    pub moved_screen : beside s (offset_from s x y) ≡ (moved_to s x y).screen
    moved_screen = replaced_beside s s.n s.k (offset_from s x y) (sym ok) (sym numbers_admitted) refl

    pub moved_served : ◌≡◌ {A = Made} (record { refusal = 0; screen = beside s (offset_from s x y) }) (moved_to s x y)
    moved_served = ap₂ (λ (r : ℕ) (t : Screen). record { refusal = r; screen = t }) moved_unrefused moved_screen

    pub moved_phase : (i j : ℕ) → phase (moved_to s x y).screen i j ≡ phase s (x + i) (y + j)
    moved_phase i j = rw (← moved_screen) (phase_from s.a s.b s.n s.g (limits_kept s ok).cells_above x y i j)

  pub moved_refused : (moved_to s x y).refusal ≡ refusal_of s
  moved_refused = go (ℕ_discrete (refusal_of s) 0)
    where
      go : Dec (refusal_of s ≡ 0) → (moved_to s x y).refusal ≡ refusal_of s
      go (yes ok) = sym (moved_unrefused ok) ∙ sym ok
      go (no h) = replaced_first s s.n s.k (offset_from s x y) h

pub moved_on : (s : Screen) → Admitted s → (x y i j : ℕ) → moved_to (moved_to s x y).screen i j ≡ moved_to s (x + i) (y + j)
moved_on s ok x y i j =
    let new = sym (moved_screen s x y ok) in
    let admitted : Admitted (beside s (offset_from s x y)) = rw new at (by_admitted s s.n s.k (offset_from s x y) ok) in
    rw new
    (sym (moved_served (beside s (offset_from s x y)) i j admitted)
    ∙ ap (λ (g : ℕ). record { refusal = 0; screen = beside s g }) (offset_on s.a s.b s.n s.g (limits_kept s ok).cells_above x y i j)
    ∙ moved_served s (x + i) (y + j) ok)
