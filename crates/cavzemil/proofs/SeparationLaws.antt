-- The number of a separation: 0 and 1 are known, and what they stand for is the separation that has the number.
-- Assumes nothing.
use Prim.Native.Nat.{ℕ, zero, suc, ◌<◌}
use mathlib.Core.Path.{◌≡◌, refl}
use mathlib.Core.Bool.{true, false}
use native.Mathlib.Omega.{arith}
use borrow.Author.Tests.{ne_eqb}
use Rattle.separation.specs.declared.Separation.{Separation}
use Rattle.separation.specs.declared.Separation.TheVariants.{Demichel, Kueppers}
use Rattle.separation.specs.Numbers.{number_of}
use Rattle.cavzemil.specs.Separations.{known, separation_of}

pub known_number : (sep : Separation) → known (number_of sep) ≡ true
unfolding known
known_number Demichel = refl
known_number Kueppers = refl

pub number_separation : (sep : Separation) → separation_of (number_of sep) ≡ sep
unfolding separation_of
number_separation Demichel = refl
number_separation Kueppers = refl

pub unknown_number : (n : ℕ) → 1 < n → known n ≡ false
unfolding known
unknown_number n above = rw (ne_eqb n 0 (λ z. omega arith), ne_eqb n 1 (λ z. omega arith))
