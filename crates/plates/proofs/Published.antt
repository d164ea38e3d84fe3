-- The laws of specs/Laws.antt, proved: those of the definitions (MaskLaws, PlaneLaws, NineLaws), and from them those of the two calls.
-- Assumes nothing.
use mathlib.Core.Path.{◌≡◌, refl, sym, ◌∙◌}
use mathlib.Core.List.{List}
use Prim.Native.Nat.{ℕ}
use lib.ListN.{length}
use Rattle.arith.proofs.RunLaws.{upto_length}
use Rattle.plates.specs.Planes.{planes_length, cells_length, planes_of, cells_of}
use Rattle.plates.specs.Laws.{PackThenUnpack, UnpackThenPack, SizesAgree}
use Rattle.plates.proofs.Refusals.{size_kept, size_right, pack_kept, pack_0, unpack_kept, unpack_0}
pub use Rattle.plates.proofs.MaskLaws.{mask_values}
pub use Rattle.plates.proofs.PlaneLaws.{plane_bit, plane_tally, cells_back, planes_back, unpacked_tally}
pub use Rattle.plates.proofs.NineLaws.{pack_nine, unpack_nine}

pub sizes_agree : SizesAgree
sizes_agree columns rows cells planes = (
  λ e. let kept = size_kept _ _ _ _ _ _ e in size_right _ _ _ _ _ _ kept.0 kept.2 kept.1,
  λ e. let kept = size_kept _ _ _ _ _ _ e in size_right _ _ _ _ _ _ kept.0 kept.2 kept.1,
)

-- ---- the two calls

planes_length_lem : (columns rows : ℕ) (cells : List ℕ) → length (planes_of columns rows cells) ≡ planes_length columns rows
unfolding planes_of
planes_length_lem columns rows cells = upto_length _ (planes_length columns rows)

cells_length_lem : (columns rows : ℕ) (planes : List ℕ) → length (cells_of columns rows planes) ≡ cells_length columns rows
unfolding cells_of
cells_length_lem columns rows planes = upto_length _ (cells_length columns rows)

pub pack_then_unpack : PackThenUnpack
pack_then_unpack columns rows cells planes memory e long =
    let kept = pack_kept columns rows cells (length planes) e in
    let sizes = size_kept _ _ _ _ _ _ kept.0 in
    let made = (pack_0 columns rows cells planes kept.0 kept.1).1 in
    let back = cells_back columns rows cells sizes.1 kept.1 in
    let size = size_right _ _ _ _ _ _ sizes.0 (planes_length_lem columns rows cells) (long ∙ sizes.1) in
    let done = unpack_0 columns rows (planes_of columns rows cells) memory size (rw (back.0, back.1) refl) in
    rw (← made) (sym done.0, sym done.1 ∙ back.2)

pub unpack_then_pack : UnpackThenPack
unpack_then_pack columns rows planes cells memory bytes e long =
    let kept = unpack_kept columns rows planes (length cells) e in
    let sizes = size_kept _ _ _ _ _ _ kept.0 in
    let made = (unpack_0 columns rows planes cells kept.0 (rw (kept.1, kept.2) refl)).1 in
    let back = planes_back columns rows planes (record { bytes = bytes; size = sizes.1; once = kept.1; clear = kept.2 }) in
    let size = size_right _ _ _ _ _ _ sizes.0 (cells_length_lem columns rows planes) (long ∙ sizes.1) in
    let done = pack_0 columns rows (cells_of columns rows planes) memory size back.0 in
    rw (← made) (sym done.0, sym done.1 ∙ back.1)
