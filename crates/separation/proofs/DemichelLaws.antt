-- The eight Demichel weights add up to 255 * 255 * 255: they are the products that (c + c') * (m + m') * (y + y') comes to, where each ink's two
-- factors, the value and what is left of it to full, add up to 255.
-- Assumes nothing.
use Prim.Native.Nat.{ℕ, ◌+◌, ◌*◌}
use mathlib.Core.Path.{◌≡◌, ◌∙◌}
use native.Mathlib.Nat.{add-sub_of_le}
use native.Mathlib.Omega.{arith}
use Rattle.arith.specs.Sum.{sum_below}
use Rattle.separation.specs.declared.Separation.TheVariants.{Demichel}
use Rattle.separation.specs.declared.Inks.{Inks}
use Rattle.separation.specs.Weights.{weight, scale_of}
use Rattle.separation.specs.Laws.{InkValues}

-- the eight products, in the order of the colorants' numbers
multiplied_out : (c c' m m' y y' : ℕ)
    → 0 + c * (m' * y') + c' * (m * y') + c' * (m' * y) + c * (m * y') + c * (m' * y) + c' * (m * y) + c * (m * y) + c' * (m' * y')
    ≡ (c + c') * (m + m') * (y + y')
multiplied_out c c' m m' y y' = omega arith

-- THE EIGHT ADD UP to 255 * 255 * 255
pub demichel_adds_up : (inks : Inks) → InkValues inks → sum_below 8 (weight Demichel inks) ≡ scale_of Demichel
unfolding sum_below weight scale_of
demichel_adds_up inks v =
    multiplied_out inks.c _ inks.m _ inks.y _
    ∙ rw (add-sub_of_le v.c_value, add-sub_of_le v.m_value, add-sub_of_le v.y_value)
