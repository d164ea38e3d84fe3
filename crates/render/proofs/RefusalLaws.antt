-- Refusals of a window and of a brick from the tests that a call makes, one law a number; what a window that is not refused has
-- passed; and that a buffer holds the numbers due exactly where it is a true brick.
-- Assumes nothing.
use Prim.Native.Nat.{ℕ, ◌+◌, ◌*◌, ◌/◌, ◌%◌, ◌≤◌, ◌<◌}
use mathlib.Core.Path.{◌≡◌, refl, sym, ap, ap₂, ◌∙◌}
use mathlib.Core.Bool.{Bool, true, false}
use mathlib.Core.List.{List}
use native.Mathlib.Nat.{mul-le-mul, mod-lt, div-add-mod', div-lt_iff_lt-mul}
use native.Mathlib.Omega.{arith}
use lib.Arith.{digits_lt, digits_div, digits_mod}
use lib.Dec.{eqb, leb}
use lib.ListN.{length, get_or, take, length-take}
use Rattle.std.specs.Cmp.Lexicographic.{pointwise}
use Rattle.std.proofs.lemmas.List.{get_or-take}
use Rattle.std.proofs.lemmas.Slice.Eq.{slice_eq-Decides}
use Rattle.std.proofs.lemmas.Bool.Decides.{Decides-eqb}
use borrow.Author.Tests.{leb-true, eqb-true, le-leb, lt-leb, eq-eqb, ne_eqb}
use Rattle.arith.specs.Run.{zeros}
use Rattle.arith.specs.Sheet.{on_sheet}
use Rattle.arith.proofs.EveryLaws.{every_passes, every_made, every_is}
use Rattle.arith.proofs.RunLaws.{zeros_length, upto_is}
use Rattle.arith.proofs.SheetLaws.{off_right, off_below, on_sheet_lem, sheet_kept}
use Rattle.arith.proofs.RefusalLaws.{both_pass, unless_none, or_none, refused_first, refused_later, error_first, number_above}
use Rattle.arith.specs.Refusal.{unless, number, number_of}
use Rattle.std.specs.Prelude.{Result, Ok, Err, IsOk, IfOk}
use Rattle.arith.specs.declared.refusals.Refusal.{Refusal}
use Rattle.screen.specs.declared.Screen.{Screen}
use Rattle.screen.specs.Screens.{refusal_of, Admitted}
use Rattle.screen.specs.Phase.{Place, phase, place_refusal}
use Rattle.screen.specs.Brick.{columns, phase_at_place, buffer_refusal, filled, TrueBrick}
use Rattle.screen.proofs.Published.{admitted_words, place_on_sheet, place_answered, brick_size, buffer_tests, filled_is_true}
use Rattle.render.specs.declared.Window.{Window}
use Rattle.render.specs.Windows.{area}
use Rattle.render.specs.Answers.{window_refusal, due_in, brick_refusal}

-- ---- 1 to 7: the screen, the window's place, the input and the output

-- a window on the sheet has at most as many cells as the sheet
pub area_limit : (x y columns rows : ℕ) → x + columns ≤ 65536 → y + rows ≤ 65536 → columns * rows ≤ 65536 * 65536
area_limit x y columns rows right down = mul-le-mul {n₁ = columns} {m₁ = rows} {n₂ = 65536} {m₂ = 65536} (omega arith) (omega arith)

module _ (s : Screen) (w : Window) (inputs outputs : ℕ) where
  pub window_error : (e : Refusal) → number e ≡ refusal_of s → number e ≡ window_refusal s w inputs outputs
  unfolding window_refusal
  window_error e same = error_first e (refusal_of s) _ same

  -- what a window that is not refused keeps
  pub window_kept : window_refusal s w inputs outputs ≡ 0 → Admitted s × (w.x + w.columns ≤ 65536) × (w.y + w.rows ≤ 65536) × (inputs ≡ 3 * area w) × (outputs ≡ area w)
  unfolding window_refusal
  window_kept e =
      let screen = or_none (refusal_of s) _ e in
      let five = unless_none (on_sheet w.x w.y w.columns w.rows) 4 _ screen.1 in
      let six = unless_none _ 5 _ five.1 in
      let sheet = sheet_kept _ _ _ _ five.0 in
      (screen.0, sheet.0, sheet.1, eqb-true _ _ six.0, eqb-true _ _ (unless_none _ 6 0 six.1).0)

  module _ (e : refusal_of s ≡ 0) where
    pub window_right : 65536 < w.x + w.columns → 5 ≡ window_refusal s w inputs outputs
    unfolding window_refusal
    window_right h = sym (refused_later (refusal_of s) _ e ∙ rw (off_right _ _ _ _ h))

    module _ (right : w.x + w.columns ≤ 65536) where
      pub window_down : 65536 < w.y + w.rows → 5 ≡ window_refusal s w inputs outputs
      unfolding window_refusal
      window_down h = sym (refused_later (refusal_of s) _ e ∙ rw (off_below _ _ _ _ right h))

      module _ (down : w.y + w.rows ≤ 65536) where
        pub window_input : (inputs ≡ 3 * area w → ⊥) → 6 ≡ window_refusal s w inputs outputs
        unfolding window_refusal
        window_input h = sym (refused_later (refusal_of s) _ e ∙ rw (on_sheet_lem _ _ _ _ right down, ne_eqb _ _ h))

        module _ (input : inputs ≡ 3 * area w) where
          pub window_output : (outputs ≡ area w → ⊥) → 7 ≡ window_refusal s w inputs outputs
          unfolding window_refusal
          window_output h = sym (refused_later (refusal_of s) _ e ∙ rw (on_sheet_lem _ _ _ _ right down, eq-eqb _ _ input, ne_eqb _ _ h))

          pub window_whole : outputs ≡ area w → 0 ≡ window_refusal s w inputs outputs
          unfolding window_refusal
          window_whole h = sym (refused_later (refusal_of s) _ e ∙ rw (on_sheet_lem _ _ _ _ right down, eq-eqb _ _ input, eq-eqb _ _ h))

-- a call that is not refused is served
pub served : {T : Type 0} (r : Result T Refusal) → number_of r ≡ 0 → IsOk r
served (Ok answer) z = refl
served (Err e) z = absurd (omega (arith, number_above e, z))

-- a place on the sheet of an admitted screen is not refused, and so has its phase
pub place_free : (s : Screen) (x y : ℕ) → Admitted s → x < 65536 → y < 65536 → place_refusal s x y ≡ 0
place_free s x y ok across down = sym (place_answered s x y).0 ∙ ap (λ (p : Place). p.refusal) (place_on_sheet s ok x y across down)

pub place_phase : {r : Result ℕ Refusal} {p v : ℕ} → r ≡ Ok p → IfOk r (λ q. q ≡ v) → p ≡ v
place_phase {r} {p} {v} is phase = rw is at phase

-- 4,096 places are enough for an admitted screen
pub places_enough : (s : Screen) → Admitted s → (memory : List ℕ) → memory ≡ zeros 4096 → s.n ≤ length memory
places_enough s ok memory e = rw (e, zeros_length) ((admitted_words s).0 ok).cells_limit

-- ---- 8: the brick

module _ (s : Screen) (brick : List ℕ) where
  due_short : length brick < s.n → false ≡ due_in s brick
  unfolding due_in
  due_short h = sym (rw (lt-leb _ _ h))

  -- a buffer that has the numbers due has each of them
  due_at : due_in s brick ≡ true → (i : ℕ) → i < s.n → get_or brick i 0 ≡ phase_at_place s.a s.b s.n s.g i
  unfolding due_in
  due_at h i l = eqb-true _ _ (every_passes s.n _ (both_pass (leb s.n (length brick)) _ h).1 i l)

  module _ (e : Admitted s) where
    -- so has a true brick
    true_at : TrueBrick s brick → (i : ℕ) → i < s.n → get_or brick i 0 ≡ phase_at_place s.a s.b s.n s.g i
    true_at holds i l =
        let size = brick_size s e in
        rw div-add-mod' at ((holds e).1 (i % columns s) (i / columns s) (mod-lt i size.0) ((div-lt_iff_lt-mul size.0).1 (rw size.2 l)))

    pub due_true : due_in s brick ≡ true → TrueBrick s brick
    unfolding due_in
    due_true h _ = (
      leb-true _ _ (both_pass _ _ h).0,
      λ u v k l. (
          due_at h (v * columns s + u) (rw (brick_size s e).2 at (digits_lt l k))
          ∙ ap₂ (λ (x y : ℕ). phase s x y) (digits_mod v k) (digits_div v k)),
    )

    pub true_due : TrueBrick s brick → due_in s brick ≡ true
    unfolding due_in
    true_due holds =
        rw (le-leb _ _ (holds e).0) (every_made s.n _ (λ i l. eq-eqb _ _ (true_at holds i l)))

-- the comparison with a true brick tells
pub due_compared : (s : Screen) (brick due : List ℕ) (r : Bool) → Admitted s → s.n ≤ length brick → TrueBrick s due → r ≡ pointwise eqb (take s.n brick) (take s.n due) → r ≡ due_in s brick
unfolding due_in
due_compared s brick due r e room holds compared =
    let tells = slice_eq-Decides Decides-eqb (take s.n brick) (take s.n due) r compared in
    let n : ℕ = s.n in
    let due_at : (i : ℕ) → i < n → get_or due i 0 ≡ phase_at_place s.a s.b s.n s.g i = true_at s due e holds in
    let read : (i : ℕ) → i < n → get_or (take n brick) i 0 ≡ get_or brick i 0 = λ i l. get_or-take n brick i 0 l in
    let read_due : (i : ℕ) → i < n → get_or (take n due) i 0 ≡ get_or due i 0 = λ i l. get_or-take n due i 0 l in
    rw (le-leb _ _ room)
    (every_is n _ r
    (λ same i l. eq-eqb _ _ (sym (read i l) ∙ ap (λ (a : List ℕ). get_or a i 0) (tells.0 same) ∙ read_due i l ∙ due_at i l))
    (λ each. tells.1 (
    upto_is (λ i. get_or due i 0) n (take n brick) (omega (arith, length-take n brick, room)) (λ i l. read i l ∙ eqb-true _ _ (each i l) ∙ sym (due_at i l))
    ∙ sym (upto_is (λ i. get_or due i 0) n (take n due) (omega (arith, length-take n due, (holds e).0)) read_due))))

-- 4,096 places are not refused, and filled they are a true brick
pub places_free : (s : Screen) (memory : List ℕ) → Admitted s → memory ≡ zeros 4096 → buffer_refusal s (length memory) ≡ 0
places_free s memory ok room = sym ((buffer_tests s (length memory)).2 ok (places_enough s ok memory room))

pub due_filled : (s : Screen) (memory due : List ℕ) → Admitted s → memory ≡ zeros 4096 → due ≡ filled s memory → TrueBrick s due
due_filled s memory due e q h = rw h (filled_is_true s memory (places_enough s e memory q))

-- a buffer is refused as 8 where it is too short, and where it differs
module _ (s : Screen) (brick : List ℕ) where
  pub brick_short : length brick < s.n → 8 ≡ unless (due_in s brick) 8 0
  brick_short h = rw (← due_short s brick h)

  pub brick_differs : false ≡ due_in s brick → 8 ≡ unless (due_in s brick) 8 0
  brick_differs e = rw (← e)

  pub due_passed : 0 ≡ unless (due_in s brick) 8 0 → due_in s brick ≡ true
  due_passed e = (unless_none (due_in s brick) 7 0 (sym e)).0

  pub brick_same : true ≡ due_in s brick → 0 ≡ unless (due_in s brick) 8 0
  brick_same e = rw (← e)

module _ (s : Screen) (w : Window) (inputs outputs : ℕ) (brick : List ℕ) where
  pub brick_window : (window_refusal s w inputs outputs ≡ 0 → ⊥) → window_refusal s w inputs outputs ≡ brick_refusal s w inputs outputs brick
  unfolding brick_refusal
  brick_window h = sym (refused_first (window_refusal s w inputs outputs) _ h)

  pub brick_undue : 0 ≡ window_refusal s w inputs outputs → unless (due_in s brick) 8 0 ≡ brick_refusal s w inputs outputs brick
  unfolding brick_refusal
  brick_undue none = sym (refused_later (window_refusal s w inputs outputs) _ (sym none))

  pub brick_whole : window_refusal s w inputs outputs ≡ 0 → due_in s brick ≡ true → 0 ≡ brick_refusal s w inputs outputs brick
  unfolding brick_refusal
  brick_whole e h = sym (refused_later (window_refusal s w inputs outputs) _ e ∙ rw h)
