-- `screen::bricks::fill` meets its contract, by the laws of its loop (FillLoop).
-- Assumes nothing.
use Prim.Native.Nat.{ℕ, ◌≤◌, ◌<◌}
use mathlib.Core.Path.{◌≡◌, sym, ◌∙◌}
use mathlib.Core.List.{List, ◌++◌, append-nil}
use lib.ListN.{length, drop}
use lib.Seq.{drop-length}
use native.Mathlib.Nat.{le_of_lt, mod-lt, div-le_self, sub-le}
use native.Mathlib.Omega.{arith}
use Rattle.arith.specs.Gcd.{gcd_of}
use Rattle.screen.proofs.FillLoop.{fill_start, fill_phase, fill_column, fill_length, fill_right, fill_down, fill_end}
use Rattle.screen.specs.Brick.{brick_phases}
use Rattle.screen.proofs.Refusals.{limits_kept, stored_kept}
use Rattle.screen.proofs.bricks.fill.Goals as goal
use Rattle.screen.proofs.bricks.fill.Goals.{then-column-columns, else-column-columns}

-- nothing stands after the brick
whole : (run memory : List ℕ) {n : ℕ} → length memory ≡ n → run ++ drop n memory ≡ run
whole run memory e = rw (← e, drop-length) (append-nil run)

pub nonzero_rem-down : goal.nonzero_rem-down
nonzero_rem-down c = (limits_kept _ c.requires.0).cells_above

pub nonzero_rem-right : goal.nonzero_rem-right
nonzero_rem-right c = (limits_kept _ c.requires.0).cells_above

pub overflow_sub-n : goal.overflow_sub-n
overflow_sub-n c = omega (arith, (limits_kept _ c.requires.0).offset_below)

pub loop-place-init : goal.loop-place-init
loop-place-init c = fill_start _ _ _ _ (limits_kept _ c.requires.0).cells_above _ _ (limits_kept _ c.requires.0).offset_below (c.carry-phase.ensures.modulo (limits_kept _ c.requires.0).cells_above (sub-le _ _)).0

pub overflow_cast-place : goal.overflow_cast-place
overflow_cast-place c = omega (arith, (limits_kept _ c.requires.0).cells_limit, fill_phase (limits_kept _ c.requires.0).cells_above c.loop-place.invariant)

pub overflow_add-column : goal.overflow_add-column
overflow_add-column c =
    omega (arith, (limits_kept _ c.requires.0).cells_limit, fill_column (limits_kept _ c.requires.0).cells_above c.loop-place.invariant, div-le_self c.args.s.n (gcd_of c.args.s.a c.args.s.n))

pub loop-place-preserved : goal.loop-place-preserved
loop-place-preserved c =
    let fill = c.loop-place.invariant in
    let columns = (stored_kept _ c.requires.0).columns_true in
    let room : c.args.s.n ≤ length c.args.brick.now = omega (arith, c.requires.1) in
    let below : c.loop-place.place-index < c.args.s.n = omega (arith, c.requires.1, c.loop-place-test.true) in
    let right = c.carry-phase-in-loop-place.ensures.modulo (fill_phase (limits_kept _ c.requires.0).cells_above fill) (le_of_lt (mod-lt _ (limits_kept _ c.requires.0).cells_above)) in
    elim c.if-column-columns.branch [
      | then-column-columns w ↦ rw (w.phase-is, w.column-is) (fill_down (limits_kept _ c.requires.0).cells_above fill _ _ room below right.0 (w.if-column-columns.true ∙ columns) (w.carry-phase-then-column-columns.ensures.modulo right.1 (le_of_lt (mod-lt _ (limits_kept _ c.requires.0).cells_above))).0)
      | else-column-columns w ↦ rw (w.phase-is, w.column-is) (fill_right (limits_kept _ c.requires.0).cells_above fill _ room below right.0 (λ e. w.if-column-columns.false (e ∙ sym columns)))
    ]

pub shape_of-brick : goal.shape_of-brick
shape_of-brick c = fill_length (limits_kept _ c.requires.0).cells_above c.loop-place.invariant (omega (arith, c.requires.1))

pub returns : goal.returns
unfolding brick_phases
returns c =
    let all : c.args.s.n ≤ c.loop-place.place-index = omega (arith, c.requires.1, c.loop-place-test.false) in
    rw (fill_end (limits_kept _ c.requires.0).cells_above c.loop-place.invariant all) (whole _ _ c.requires.1)
