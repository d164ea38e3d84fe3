-- `plates::unpacking::Planes::once_at` meets its contract, by the laws of its fold (UnpackLoops). Assumes nothing.
use Prim.Native.Nat.{ℕ, ◌+◌, ◌*◌, ◌≤◌, ◌<◌}
use mathlib.Core.Path.{◌≡◌, refl, ap, ◌∙◌}
use mathlib.Core.List.{[], ◌∷◌}
use native.Mathlib.Omega.{arith}
use lib.ListN.{length}
use lib.Bits.{bit_or}
use borrow.Author.Tests.{tests}
use Rattle.std.proofs.Common.{rules, Some}
use Rattle.std.proofs.lemmas.Iterator.{YieldsList-from_range}
use Rattle.std.proofs.iter.Serving.{serving}
use Rattle.std.proofs.lemmas.Fn.{serves_by}
use Rattle.std.proofs.lemmas.List.{length-append}
use Rattle.std.proofs.lemmas.List.FromFn.{get_or-range_with_len, length-range_with_len}
use Rattle.std.proofs.lemmas.Iterator.Consumers.{YieldsList-turn, fold_from_yields_List}
use Rattle.plates.specs.Places.{byte_at}
use Rattle.plates.proofs.UnpackLoops.{sums_told}
use Rattle.plates.proofs.unpacking.Planes.once_at.Goals as goal

pub fold-sum-requires-clause-callable : goal.fold-sum-requires-clause-callable
fold-sum-requires-clause-callable c =
    let planes = c.args.self in
    let place = c.args.place in
    serves_by _ (λ xs q. (q.0.0.now ≡ planes) × (q.0.1.now ≡ place) × (q.1.0 ≤ 255 * length xs))
    (λ xs q x v j r.
    let kept : v.0 ≡ q.0 = search (rules, tests) in
    let more : v.1.0 ≡ q.1.0 + byte_at q.0.0.now.plane q.0.0.now.bytes.now q.0.1.now x = search (rules, tests) in
    let low : byte_at q.0.0.now.plane q.0.0.now.bytes.now q.0.1.now x < 256 = q.0.0.now.small _ in
    (ap (λ f. f.0.now) kept ∙ j.0, ap (λ f. f.1.now) kept ∙ j.1, omega (arith, more, low, j.2, length-append xs (x ∷ []))))
    _ _ _ _ (refl, refl, omega arith)
    (λ xs t q x u yields one j.
    let turn = YieldsList-turn (YieldsList-from_range 0 8 8 refl refl) xs t yields (Some x) u x refl one in
    let next : x ≡ 0 + length xs = turn.1 ∙ get_or-range_with_len 0 8 (length xs) x turn.0 in
    let few : x < 8 = omega (arith, next, turn.0, length-range_with_len 0 8) in
    let there : q.0.1.now < q.0.0.now.plane = rw (j.0, j.1) c.requires.there in
    let low : byte_at q.0.0.now.plane q.0.0.now.bytes.now q.0.1.now x < 256 = q.0.0.now.small _ in
    let sum : q.1.0 ≤ 1785 = omega (arith, j.2, few, next) in
    grind (serving, few, there, low, sum))

pub returns : goal.returns
returns c =
    let planes = c.args.self in
    let joined = fold_from_yields_List _ (λ (a : ℕ × ℕ) (p : ℕ). (a.0 + byte_at planes.plane planes.bytes.now c.args.place p, bit_or a.1 (byte_at planes.plane planes.bytes.now c.args.place p))) _ _ c.fold-sum.ensures.ran (YieldsList-from_range 0 8 8 refl refl)
    (λ a x b q k. search (rules, tests)) in
    rw (c.full_mask-full.ensures, joined) (sums_told _ _ _ _ c.requires.few (λ q. planes.small _))
