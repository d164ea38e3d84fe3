-- What the loop of `quantiser::cells::rank_subscreen` keeps.
use Prim.Native.Nat.{◌+◌, ◌-◌, ◌*◌}
use mathlib.Core.Path.{◌≡◌}
use Rattle.arith.proofs.RunLaws.{Filling}
use Rattle.quantiser.proofs.cells.rank_subscreen.Given as goal

abbrev pub invariant-loop-place : goal.invariant-loop-place
invariant-loop-place l = Filling (λ q. (q + 1) * l.k - l.subscreen) l.initial.out l.out l.place-index × (l.threshold ≡ (l.place-index + 1) * l.k - l.subscreen)
