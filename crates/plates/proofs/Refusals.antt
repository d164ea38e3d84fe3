-- Refusals from the tests that a call makes, one law a number; and what a call leaves in lent memory, refused or not.
-- Assumes nothing.
use Prim.Native.Nat.{ℕ, ◌≤◌, ◌<◌}
use mathlib.Core.Path.{◌≡◌, refl, sym, ◌∙◌}
use mathlib.Core.Bool.{Bool, true, false, ◌&&◌}
use mathlib.Core.List.{List}
use native.Mathlib.Omega.{arith}
use lib.ListN.{length}
use borrow.Author.Tests.{eqb-true, eq-eqb, ne_eqb, le-leb, lt-leb}
use mathlib.Core.Logic.{◌⊎◌, inl, inr}
use Rattle.arith.specs.Refusal.{unless, number}
use Rattle.arith.specs.declared.refusals.Refusal.{Refusal}
use Rattle.arith.proofs.SheetLaws.{at_corner, corner_kept}
use Rattle.arith.specs.Sheet.{on_sheet}
use Rattle.arith.proofs.RefusalLaws.{both_pass, unless_none, or_none, number_above, content_refused, content_passed, size_refused}
use Rattle.arith.proofs.RunLaws.{upto_length}
use Rattle.plates.specs.Planes.{planes_length, cells_length, planes_of, cells_of, colorants_only, pixels_once, padding_clear}
use Rattle.plates.specs.Refusals.{lengths_refusal, size_refusal, pack_size, unpack_size, pack_refusal, unpack_refusal, packed, unpacked}

-- ---- 5 to 7: the sizes

module _ (input stated output due : ℕ) where
  pub length_6 : (input ≡ stated → ⊥) → 6 ≡ lengths_refusal input stated output due
  unfolding lengths_refusal
  length_6 h = rw (ne_eqb _ _ h)

  module _ (fits : input ≡ stated) where
    pub length_7 : (output ≡ due → ⊥) → 7 ≡ lengths_refusal input stated output due
    unfolding lengths_refusal
    length_7 h = rw (eq-eqb _ _ fits, ne_eqb _ _ h)

    pub length_0 : output ≡ due → 0 ≡ lengths_refusal input stated output due
    unfolding lengths_refusal
    length_0 e = rw (eq-eqb _ _ fits, eq-eqb _ _ e)

-- the sheet's test
module _ (columns rows : ℕ) where
  pub window_off : ((columns ≤ 65536) × (65536 < rows)) ⊎ (65536 < columns) → 5 ≡ unless (on_sheet 0 0 columns rows) 5 0
  window_off (inl h) = rw (at_corner columns rows, le-leb _ _ h.0, lt-leb _ _ h.1)
  window_off (inr h) = rw (at_corner columns rows, lt-leb _ _ h)

  pub window_on : (columns ≤ 65536) × (rows ≤ 65536) → 0 ≡ unless (on_sheet 0 0 columns rows) 5 0
  window_on h = rw (at_corner columns rows, le-leb _ _ h.0, le-leb _ _ h.1)

module _ (columns rows input stated output due : ℕ) where
  -- refused by the sheet's test
  pub size_5 : (e : Refusal) → number e ≡ unless (on_sheet 0 0 columns rows) 5 0 → number e ≡ size_refusal columns rows input stated output due
  unfolding size_refusal
  size_5 e told = go (on_sheet 0 0 columns rows) told
    where
      go : (on : Bool) → number e ≡ unless on 5 0 → number e ≡ unless on 5 (lengths_refusal input stated output due)
      go true z = absurd (omega (arith, number_above e, z))
      go false z = z

  -- where it passes, the lengths decide
  pub size_lengths : columns ≤ 65536 → rows ≤ 65536 → lengths_refusal input stated output due ≡ size_refusal columns rows input stated output due
  unfolding size_refusal
  size_lengths wide high = rw (at_corner columns rows, le-leb _ _ wide, le-leb _ _ high) refl

  pub size_passed : columns ≤ 65536 → rows ≤ 65536 → 0 ≡ lengths_refusal input stated output due → size_refusal columns rows input stated output due ≡ 0
  size_passed wide high e = sym (size_lengths wide high) ∙ sym e

  pub size_right : on_sheet 0 0 columns rows ≡ true → input ≡ stated → output ≡ due → size_refusal columns rows input stated output due ≡ 0
  size_right sheet fits e =
      let within = corner_kept columns rows sheet in
      size_passed within.0 within.1 (length_0 input stated output due fits e)

  -- what a call of the right sizes keeps
  pub size_kept : size_refusal columns rows input stated output due ≡ 0 → (on_sheet 0 0 columns rows ≡ true) × (input ≡ stated) × (output ≡ due)
  unfolding size_refusal lengths_refusal
  size_kept e =
      let five = unless_none (on_sheet 0 0 columns rows) 4 _ e in
      let six = unless_none _ 5 _ five.1 in
      let seven = unless_none _ 6 _ six.1 in
      (five.0, eqb-true _ _ six.0, eqb-true _ _ seven.0)

-- ---- packing: refused by its cells, not refused, and refused by its sizes

module _ (columns rows : ℕ) (cells memory : List ℕ) where
  module _ (size : pack_size columns rows (length cells) (length memory) ≡ 0) where
    pub pack_9 : colorants_only cells ≡ false → (9 ≡ pack_refusal columns rows cells (length memory)) × (memory ≡ packed columns rows cells memory)
    unfolding pack_refusal packed
    pack_9 e = content_refused _ (colorants_only cells) 8 (planes_of columns rows cells) memory size e

    pub pack_0 : colorants_only cells ≡ true → (0 ≡ pack_refusal columns rows cells (length memory)) × (planes_of columns rows cells ≡ packed columns rows cells memory)
    unfolding pack_refusal packed planes_of
    pack_0 e =
        content_passed _ (colorants_only cells) 8 (planes_of columns rows cells) memory size e
        (upto_length _ (planes_length columns rows) ∙ sym (size_kept _ _ _ _ _ _ size).2)

  pub pack_size_lem : {r : ℕ} → r ≡ pack_size columns rows (length cells) (length memory) → (r ≡ 0 → ⊥)
      → (r ≡ pack_refusal columns rows cells (length memory)) × (memory ≡ packed columns rows cells memory)
  unfolding pack_refusal packed
  pack_size_lem e h = size_refused _ (colorants_only cells) 8 (planes_of columns rows cells) memory e h

  -- the same of a refusal itself, whose number is above 0
  pub pack_error : (e : Refusal) → number e ≡ pack_size columns rows (length cells) (length memory)
      → (number e ≡ pack_refusal columns rows cells (length memory)) × (memory ≡ packed columns rows cells memory)
  pack_error e told = pack_size_lem told (λ z. omega (arith, number_above e, z))

-- ---- unpacking, in the same way

module _ (columns rows : ℕ) (planes memory : List ℕ) where
  -- whether the planes are such as packing gives
  abbrev sound : Bool
  sound = pixels_once columns rows planes && padding_clear columns rows planes

  module _ (size : unpack_size columns rows (length planes) (length memory) ≡ 0) where
    pub unpack_9 : sound ≡ false → (9 ≡ unpack_refusal columns rows planes (length memory)) × (memory ≡ unpacked columns rows planes memory)
    unfolding unpack_refusal unpacked
    unpack_9 e = content_refused _ sound 8 (cells_of columns rows planes) memory size e

    pub unpack_0 : sound ≡ true → (0 ≡ unpack_refusal columns rows planes (length memory)) × (cells_of columns rows planes ≡ unpacked columns rows planes memory)
    unfolding unpack_refusal unpacked cells_of
    unpack_0 e =
        content_passed _ sound 8 (cells_of columns rows planes) memory size e
        (upto_length _ (cells_length columns rows) ∙ sym (size_kept _ _ _ _ _ _ size).2)

  pub unpack_size_lem : {r : ℕ} → r ≡ unpack_size columns rows (length planes) (length memory) → (r ≡ 0 → ⊥)
      → (r ≡ unpack_refusal columns rows planes (length memory)) × (memory ≡ unpacked columns rows planes memory)
  unfolding unpack_refusal unpacked
  unpack_size_lem e h = size_refused _ sound 8 (cells_of columns rows planes) memory e h

  pub unpack_error : (e : Refusal) → number e ≡ unpack_size columns rows (length planes) (length memory)
      → (number e ≡ unpack_refusal columns rows planes (length memory)) × (memory ≡ unpacked columns rows planes memory)
  unpack_error e told = unpack_size_lem told (λ z. omega (arith, number_above e, z))

-- ---- what a call that is not refused has passed

pub pack_kept : (columns rows : ℕ) (cells : List ℕ) (places : ℕ) → pack_refusal columns rows cells places ≡ 0
    → (pack_size columns rows (length cells) places ≡ 0) × (colorants_only cells ≡ true)
unfolding pack_refusal
pack_kept columns rows cells places e =
    let parts = or_none (pack_size columns rows (length cells) places) _ e in
    (parts.0, (unless_none (colorants_only cells) 8 0 parts.1).0)

pub unpack_kept : (columns rows : ℕ) (planes : List ℕ) (places : ℕ) → unpack_refusal columns rows planes places ≡ 0
    → (unpack_size columns rows (length planes) places ≡ 0) × (pixels_once columns rows planes ≡ true) × (padding_clear columns rows planes ≡ true)
unfolding unpack_refusal
unpack_kept columns rows planes places e =
    let parts = or_none (unpack_size columns rows (length planes) places) _ e in
    let content = both_pass _ _ (unless_none (pixels_once columns rows planes && padding_clear columns rows planes) 8 0 parts.1).0 in
    (parts.0, content.0, content.1)
