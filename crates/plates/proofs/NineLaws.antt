-- Refusal 9 exactly where the content offends: what offends is found where a test over all of it fails, and fails the test where it is given.
-- Assumes nothing.
use Prim.Native.Nat.{ℕ, ◌+◌, ◌-◌, ◌*◌, ◌/◌, ◌%◌, ◌≤◌, ◌<◌}
use mathlib.Core.Path.{◌≡◌, refl, sym, ap, ◌∙◌}
use mathlib.Core.Bool.{Bool, true, false, ◌&&◌}
use mathlib.Core.List.{List}
use mathlib.Core.Logic.{◌⊎◌, inl, inr}
use native.Mathlib.Nat.{div-add-mod'}
use native.Mathlib.Decide.{ℕ_discrete}
use native.Mathlib.Omega.{arith}
use lib.Arith.{digits_lt}
use lib.Dec.{eqb, leb}
use lib.ListN.{length, get_or}
use borrow.Author.Tests.{leb-false, lt-leb, eqb-false, ne_eqb}
use Rattle.arith.specs.Refusal.{unless, or_else}
use Rattle.arith.proofs.RefusalLaws.{refused_first, refused_later}
use Rattle.arith.specs.Every.{every}
use Rattle.arith.specs.Sheet.{on_sheet}
use Rattle.plates.specs.Planes.{row_bytes, bit_at, planes_with, colorants_only, pixels_once, padding_clear}
use Rattle.plates.specs.Refusals.{lengths_refusal, size_refusal, pack_size, unpack_size, pack_refusal, unpack_refusal}
use Rattle.plates.specs.Laws.{BadByte, PackNine, BadPixel, BadPadding, UnpackNine}
use Rattle.arith.proofs.EveryLaws.{every_fails, every_offender}
use Rattle.plates.proofs.PlaceLaws.{plane_of, row_in_plane}
use Rattle.plates.proofs.PlaneLaws.{bit_most}

-- ---- 9 comes after the sizes

-- no size is refused by 9
size_no_nine : (five six seven : Bool) → unless five 5 (unless six 6 (unless seven 7 0)) ≡ 9 → ⊥
size_no_nine false six seven e = omega arith
size_no_nine true false seven e = omega arith
size_no_nine true true false e = omega arith
size_no_nine true true true e = omega arith

-- so a call that is refused by 9 has the right sizes, and its content fails the test
nine_late : (columns rows input stated output due : ℕ) (test : Bool) → or_else (size_refusal columns rows input stated output due) (unless test 9 0) ≡ 9
    → (size_refusal columns rows input stated output due ≡ 0) × (test ≡ false)
unfolding size_refusal lengths_refusal
nine_late columns rows input stated output due test e = go (ℕ_discrete size 0)
  where
    size : ℕ
    size = size_refusal columns rows input stated output due

    fails : (test : Bool) → unless test 9 0 ≡ 9 → test ≡ false
    fails true q = absurd (omega arith)
    fails false q = refl

    go : Dec (size ≡ 0) → (size ≡ 0) × (test ≡ false)
    go (yes z) = (z, fails test (sym (refused_later size (unless test 9 0) z) ∙ e))
    go (no h) = absurd (size_no_nine (on_sheet 0 0 columns rows) (eqb input stated) (eqb output due) (sym (refused_first size (unless test 9 0) h) ∙ e))

nine_due : (size : ℕ) (test : Bool) → size ≡ 0 → test ≡ false → or_else size (unless test 9 0) ≡ 9
nine_due size test z e = refused_later size (unless test 9 0) z ∙ rw e

-- ---- packing

bad_byte : (cells : List ℕ) → colorants_only cells ≡ false → BadByte cells
unfolding colorants_only
bad_byte cells e =
    let found = every_offender (length cells) (λ i. leb (get_or cells i 0) 7) e in
    (found.0, found.1, leb-false _ 7 found.2)

byte_fails : (cells : List ℕ) → BadByte cells → colorants_only cells ≡ false
unfolding colorants_only
byte_fails cells b = every_fails (length cells) _ b.0 b.1 (lt-leb _ 7 b.2)

pub pack_nine : PackNine
unfolding pack_refusal
pack_nine columns rows cells places = (
  λ e. let late = nine_late _ _ _ _ _ _ (colorants_only cells) e in (late.0, bad_byte cells late.1),
  λ z b. nine_due (pack_size columns rows (length cells) places) (colorants_only cells) z (byte_fails cells b),
)

-- ---- unpacking

module _ (columns rows : ℕ) (planes : List ℕ) where
  bad_pixel : pixels_once columns rows planes ≡ false → BadPixel columns rows planes
  unfolding pixels_once
  bad_pixel e =
      let row = every_offender rows (λ y. every columns (λ x. eqb (planes_with (row_bytes columns) rows planes y x) 1)) e in
      let pixel = every_offender columns (λ x. eqb (planes_with (row_bytes columns) rows planes row.0 x) 1) row.2 in
      (row.0, pixel.0, row.1, pixel.1, eqb-false _ 1 pixel.2)

  pixel_fails : BadPixel columns rows planes → pixels_once columns rows planes ≡ false
  unfolding pixels_once
  pixel_fails b = every_fails rows _ b.0 b.2 (every_fails columns _ b.1 b.3 (ne_eqb _ 1 b.4))

  bad_padding : padding_clear columns rows planes ≡ false → BadPadding columns rows planes
  unfolding padding_clear
  bad_padding e =
      let row = every_offender (8 * rows) (λ r. every (8 * row_bytes columns - columns) (λ t. eqb (bit_at (row_bytes columns) planes r (columns + t)) 0)) e in
      let place = every_offender (8 * row_bytes columns - columns) (λ t. eqb (bit_at (row_bytes columns) planes row.0 (columns + t)) 0) row.2 in
      let r : ℕ = row.0 in
      let t : ℕ = place.0 in
      let past : t < 8 * row_bytes columns - columns = place.1 in
      let clear : bit_at (row_bytes columns) planes r (columns + t) ≡ 0 → ⊥ = eqb-false _ 0 place.2 in
      let most : bit_at (row_bytes columns) planes r (columns + t) ≤ 1 = bit_most (row_bytes columns) planes r (columns + t) in
      let set : bit_at (row_bytes columns) planes r (columns + t) ≡ 1 = omega arith in
      (r / rows, r % rows, columns + t, plane_of rows r row.1, row_in_plane rows r row.1, omega arith, omega arith, rw div-add-mod' set)

  padding_fails : BadPadding columns rows planes → padding_clear columns rows planes ≡ false
  unfolding padding_clear
  padding_fails b =
      let x : ℕ = b.2 in
      let from : columns ≤ x = b.5 in
      let past : x < 8 * row_bytes columns = b.6 in
      let here : columns + (x - columns) ≡ x = omega arith in
      every_fails (8 * rows) _ (b.0 * rows + b.1) (digits_lt b.3 b.4)
      (every_fails (8 * row_bytes columns - columns) _ (x - columns) (omega arith) (rw (here, b.7)))

  which : pixels_once columns rows planes && padding_clear columns rows planes ≡ false → BadPixel columns rows planes ⊎ BadPadding columns rows planes
  which e = go (pixels_once columns rows planes) refl
    where
      go : (once : Bool) → pixels_once columns rows planes ≡ once → BadPixel columns rows planes ⊎ BadPadding columns rows planes
      go false q = inl (bad_pixel q)
      go true q = inr (bad_padding (sym (ap (λ (t : Bool). t && padding_clear columns rows planes) q) ∙ e))

  either_fails : (once clear : Bool) → clear ≡ false → once && clear ≡ false
  either_fails true clear e = e
  either_fails false clear e = refl

  content_fails : BadPixel columns rows planes ⊎ BadPadding columns rows planes → pixels_once columns rows planes && padding_clear columns rows planes ≡ false
  content_fails (inl b) = rw (pixel_fails b)
  content_fails (inr b) = either_fails (pixels_once columns rows planes) (padding_clear columns rows planes) (padding_fails b)

pub unpack_nine : UnpackNine
unfolding unpack_refusal
unpack_nine columns rows planes places = (
  λ e. let late = nine_late _ _ _ _ _ _ (pixels_once columns rows planes && padding_clear columns rows planes) e in (late.0, which columns rows planes late.1),
  λ z b.
      nine_due (unpack_size columns rows (length planes) places) (pixels_once columns rows planes && padding_clear columns rows planes) z
      (content_fails columns rows planes b),
)
