-- `counts_text::numbers::value_of` meets its contract: before its last digit a number is at most 9,999. Assumes nothing.
use mathlib.Core.Path.{refl, sym, ap, ◌∙◌}
use mathlib.Core.List.{map}
use borrow.Author.Tests.{tests}
use Rattle.std.proofs.Common.{rules, ◌≡◌, ℕ, ◌*◌, ◌+◌, ◌-◌, ◌≤◌, length}
use Rattle.std.proofs.lemmas.Fn.{serves_by, fold_over, fronts}
use Rattle.std.proofs.lemmas.List.{map_push, get_or_default}
use Rattle.std.proofs.lemmas.Iterator.{YieldsList-from_slice}
use Rattle.std.proofs.lemmas.Iterator.Consumers.{YieldsList-so_far, YieldsList-turn}
use Rattle.counts_text.specs.Numbers.{value_of, value_up_to}
use Rattle.counts_text.proofs.NumberLaws.{value_snoc, value_front, value_four, digit_from, digit_to}
use Rattle.counts_text.proofs.numbers.value_of.Goals as goal

-- at each digit the value so far is that of the digits before it
pub fold-requires-clause-callable : goal.fold-requires-clause-callable
unfolding value_of value_up_to
fold-requires-clause-callable c =
    serves_by _ (λ xs q. q.1 ≡ value_of (map (λ x. x.now) xs))
    (λ xs q x v j r.
    let more : v.1 ≡ 10 * q.1 + (x.now - 48) = search (rules, tests) in
    more ∙ ap (λ (a : ℕ). 10 * a + (x.now - 48)) j ∙ sym (value_snoc (map (λ x. x.now) xs) x.now) ∙ ap value_of (sym (map_push (λ x. x.now) xs x)))
    _ _ _ _ refl
    (λ xs t q x u yields one j.
    let road = YieldsList-from_slice c.args.field.now c.iter.ensures.rest in
    let far = YieldsList-so_far road xs t yields in
    let turn = YieldsList-turn road xs t yields _ u x refl one in
    let small : q.1 ≤ 9999 = rw (j, far, value_front c.args.field.now (length xs) turn.0) (value_four c.args.field.now c.requires (length xs) turn.0) in
    let here = turn.1 ∙ get_or_default c.args.field.now (length xs) x.now 0 turn.0 in
    let low : 48 ≤ x.now = rw here (digit_from c.args.field.now c.requires (length xs) turn.0) in
    let high : x.now ≤ 57 = rw here (digit_to c.args.field.now c.requires (length xs) turn.0) in
    search (rules, tests, small, low, high))

pub returns : goal.returns
unfolding value_of value_up_to
returns c =
    fold_over fronts (λ x. x.now) _ (λ ys a. a ≡ value_of ys) _
    (λ ys a x b f i k.
    let more : b ≡ 10 * a + (x.now - 48) = search (rules, tests) in
    (more ∙ ap (λ (a : ℕ). 10 * a + (x.now - 48)) i ∙ sym (value_snoc ys x.now), refl))
    c.iter.result c.args.field.now 0 _ (YieldsList-from_slice {s = c.iter.result} c.args.field.now c.iter.ensures.rest).runs refl c.fold.ensures.ran
