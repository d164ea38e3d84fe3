-- The laws of specs/Laws.antt, proved: those over plain numbers (PhaseLaws, BrickLaws, MotifLaws), at an admitted screen's numbers.
-- Assumes nothing.
use Prim.Native.Nat.{ℕ, ◌+◌, ◌*◌, ◌/◌, ◌<◌}
use mathlib.Core.Path.{◌≡◌, refl, sym, ap₂, ◌∙◌, subst}
use mathlib.Core.List.{◌++◌}
use native.Mathlib.Nat.{mul-one, mul-div_cancel', mod-lt, le_trans, le_of_eq}
use lib.ListN.{length, drop, get_or-append}
use lib.Arith.{digits_lt, digits_div, digits_mod}
use Rattle.arith.proofs.RemainderLaws.{remainder_below}
use Rattle.arith.proofs.RunLaws.{upto_length, upto_at, upto_over}
use Rattle.screen.specs.declared.Screen.{Screen}
use Rattle.screen.specs.Screens.{Admitted, Limits}
use Rattle.screen.specs.Phase.{phase}
use Rattle.screen.specs.Brick.{BrickAnswer, rows, columns, shift, brick_phases, brick_place, filled}
use Rattle.screen.specs.Motif.{in_motif}
use Rattle.screen.specs.Made.{made_of}
use Rattle.screen.specs.Laws.{AdmittedWords, PhaseBelow, PhaseWords, PhaseOnly, StepsRight, StepRight, StepsDown, StepDown, LinesRise, PlaceOnSheet, PlaceAnswered, BrickSize, PeriodRight, ShiftWords, ShiftOnly, ShiftLaw, BrickAnswered, FilledIsTrue, ReadFromBrick, BufferRefused, times, EachPhaseOnce, EachPhaseTimes, MotifSize, EachPhaseInMotif, MadeWords, MadeAdmitted, ReplacedAdmitted, RefusedKeeps, OffsetKeeps, SubscreensKeep, CellsKeep, TrueThroughout, MovedRefused, Moved, MovedOn}
use Rattle.screen.proofs.Refusals as Refusals
use Rattle.screen.proofs.PhaseLaws as PhaseLaws
use Rattle.screen.proofs.BrickLaws as BrickLaws
use Rattle.screen.proofs.MotifLaws as MotifLaws
use Rattle.screen.proofs.MadeLaws as MadeLaws
use Rattle.screen.proofs.CornerLaws as CornerLaws

pub admitted_words : AdmittedWords
admitted_words = Refusals.admitted_words

limits : {s : Screen} → Admitted s → Limits s
limits {s} e = (Refusals.admitted_words s).0 e

-- ---- screen and phase

pub phase_below : PhaseBelow
phase_below s e = PhaseLaws.phase_below _ _ _ _ (limits e).cells_above

pub phase_words : PhaseWords
phase_words s e = PhaseLaws.phase_words _ _ _ _ (limits e).cells_above

pub phase_only : PhaseOnly
phase_only s e = PhaseLaws.phase_only _ _ _ _ (limits e).cells_above

pub steps_right : StepsRight
steps_right s e = PhaseLaws.steps_right _ _ _ _ (limits e).cells_above

pub step_right : StepRight
step_right s e = PhaseLaws.step_right _ _ _ _ (limits e).cells_above

pub steps_down : StepsDown
steps_down s e = PhaseLaws.steps_down _ _ _ _ (limits e).cells_above

pub step_down : StepDown
step_down s e = PhaseLaws.step_down _ _ _ _ (limits e).cells_above

pub lines_rise : LinesRise
lines_rise s e = PhaseLaws.rising _ _ _ _ (limits e).cells_above

pub place_on_sheet : PlaceOnSheet
place_on_sheet s e x y l h = sym (Refusals.place_whole s x y (sym (Refusals.place_on s x y e l h)))

pub place_answered : PlaceAnswered
place_answered = Refusals.place_answered

-- ---- brick

pub brick_size : BrickSize
brick_size s e =
    let pos = (limits e).cells_above in
    (BrickLaws.columns_pos _ _ pos, BrickLaws.rows_pos _ _ pos, BrickLaws.brick_size _ _ pos)

pub period_right : PeriodRight
period_right s e x y = rw mul-one at (BrickLaws.period_times s.a s.b s.n s.g (limits e).cells_above x y 1)

pub shift_words : ShiftWords
shift_words s e =
    let pos = (limits e).cells_above in
    (BrickLaws.shift_below _ _ _ pos, BrickLaws.shift_words _ _ _ pos)

pub shift_only : ShiftOnly
shift_only s e = BrickLaws.shift_only _ _ _ (limits e).cells_above

pub shift_law : ShiftLaw
shift_law s e = BrickLaws.shifted _ _ _ _ (limits e).cells_above

pub brick_answered : BrickAnswered
brick_answered s e =
    let stored = Refusals.stored_kept s e in
    let same : ◌≡◌ {A = BrickAnswer} (record { refusal = 0; columns = s.columns; rows = s.rows; shift = s.shift }) (record { refusal = 0; columns = columns s; rows = rows s; shift = shift s }) = rw (stored.columns_true, stored.rows_true, stored.shift_true) in
    sym (Refusals.brick_whole s e) ∙ same

-- a place within the brick is one of its first N
place_below : (s : Screen) → Admitted s → (u v : ℕ) → u < columns s → v < rows s → v * columns s + u < s.n
place_below s e u v k l = rw (BrickLaws.brick_size s.a s.n (limits e).cells_above) at (digits_lt l k)

pub filled_is_true : FilledIsTrue
unfolding brick_phases
filled_is_true s buffer room e =
    let l : ℕ = columns s in
    let whole : filled s buffer ≡ brick_phases s ++ drop s.n buffer = Refusals.filled_whole s buffer (sym (Refusals.buffer_fits s (length buffer) e room)) in
    rw whole (
      le_trans room (le_of_eq (sym (upto_over _ buffer s.n room))),
      λ u v k m. (get_or-append (brick_phases s) (drop s.n buffer) 0 (v * l + u) (subst (λ (z : ℕ). v * l + u < z) (sym (upto_length _ s.n)) (place_below s e u v k m))
          ∙ upto_at _ s.n (v * l + u) (place_below s e u v k m)
          ∙ ap₂ (λ (c r : ℕ). phase s c r) (digits_mod v k) (digits_div v k)),
    )

pub read_from_brick : ReadFromBrick
unfolding brick_place
read_from_brick s e buffer true_brick x y =
    let pos = (limits e).cells_above in
    let u = remainder_below x (shift s * (y / rows s)) (columns s) (BrickLaws.columns_pos s.a s.n pos) in
    let v = mod-lt y (BrickLaws.rows_pos s.a s.n pos) in
    ((true_brick e).1 _ _ u v ∙ BrickLaws.in_first_brick s.a s.b s.n s.g pos x y, place_below s e _ _ u v)

pub buffer_tests : BufferRefused
buffer_tests s places = (Refusals.buffer_refused s places, Refusals.buffer_short s places, Refusals.buffer_fits s places)

-- ---- how often a phase occurs

pub each_phase_once : EachPhaseOnce
unfolding times
each_phase_once s e = BrickLaws.phase_once _ _ _ _ (limits e).slope_lowest (limits e).cells_above

pub each_phase_times : EachPhaseTimes
unfolding times
each_phase_times s e = BrickLaws.phase_times _ _ _ _ (limits e).slope_lowest (limits e).cells_above

pub motif_size : MotifSize
motif_size s divides = mul-div_cancel' s.b divides

pub each_phase_in_motif : EachPhaseInMotif
unfolding in_motif
each_phase_in_motif s e divides = MotifLaws.motif_once _ _ _ _ (limits e).slope_lowest (limits e).cells_above divides

-- ---- making and replacing

pub made_words : MadeWords
made_words = MadeLaws.made_words

pub made_admitted : MadeAdmitted
made_admitted = MadeLaws.made_admitted

pub replaced_admitted : ReplacedAdmitted
replaced_admitted = MadeLaws.replaced_admitted

pub refused_keeps : RefusedKeeps
refused_keeps = MadeLaws.replaced_refused

pub offset_keeps : OffsetKeeps
offset_keeps s g e = MadeLaws.served_screen s s.n s.k g e ∙ MadeLaws.brick_stays s s.n s.k g (MadeLaws.served_parts s s.n s.k g e).0 refl

pub subscreens_keep : SubscreensKeep
subscreens_keep s k e = MadeLaws.served_screen s s.n k s.g e ∙ MadeLaws.brick_stays s s.n k s.g (MadeLaws.served_parts s s.n k s.g e).0 refl

pub cells_keep : CellsKeep
cells_keep s n e = MadeLaws.served_screen s n s.k s.g e

pub true_throughout : TrueThroughout
true_throughout a b n k g e rs =
    let ok = MadeLaws.all_admitted rs (made_of a b n k g).screen (MadeLaws.made_admitted a b n k g e) in
    (Refusals.stored_kept _ ok, ok)

-- ---- a screen seen from another corner

pub moved_refused : MovedRefused
moved_refused = CornerLaws.moved_refused

pub moved_phases : Moved
moved_phases s e x y = CornerLaws.moved_phase s x y e

pub moved_on : MovedOn
moved_on = CornerLaws.moved_on
