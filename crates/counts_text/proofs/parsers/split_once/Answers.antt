-- `counts_text::parsers::split_once` meets its contract: the first place of the byte ends the first piece. Assumes nothing.
use Rattle.std.proofs.Common.{rules, tests, ◌≡◌, ◌≤◌, ◌<◌, ◌+◌, ◌∙◌, ℕ, ap, length, take, drop, arith}
use Rattle.std.proofs.lemmas.Grind.{common_steps}
use Rattle.std.proofs.lemmas.Iterator.{YieldsList-from_slice}
use Rattle.std.proofs.lemmas.Iterator.Search.{position_from_yields_List}
use Rattle.std.specs.List.{position, position_or_len}
use Rattle.arith.proofs.RunLaws.{part_to_end}
use lib.Dec.{eqb}
use Rattle.counts_text.specs.Text.{index_of}
use Rattle.counts_text.proofs.SplitLaws.{split_none, split_some}
use Rattle.counts_text.proofs.IndexLaws.{index_is, index_within}
use Rattle.counts_text.proofs.parsers.split_once.Goals as goal

pub returns-in_err-end : goal.returns-in_err-end
returns-in_err-end c =
    let found : c.position.result ≡ position (λ x. eqb x c.args.byte) c.args.text.now = position_from_yields_List (λ x. eqb x c.args.byte) _ _ c.position.result c.position.ensures.ran (YieldsList-from_slice c.args.text.now (cc)) (λ x b q k. search (rules, tests)) in
    let k : length c.args.text.now ≤ position_or_len (λ x. eqb x c.args.byte) c.args.text.now = grind (arith, common_steps, tests) in
    record {
      pieces = rw c.from_residual.ensures (split_none _ _ k);
      place = rw c.from_residual.ensures (omega (arith, k, index_is c.args.byte c.args.text.now, index_within c.args.byte c.args.text.now));
    }

pub returns : goal.returns
returns c =
    let found : c.position.result ≡ position (λ x. eqb x c.args.byte) c.args.text.now = position_from_yields_List (λ x. eqb x c.args.byte) _ _ c.position.result c.position.ensures.ran (YieldsList-from_slice c.args.text.now (cc)) (λ x b q k. search (rules, tests)) in
    let k : position_or_len (λ x. eqb x c.args.byte) c.args.text.now < length c.args.text.now = grind (arith, common_steps, tests) in
    let e : c.in_ok-end.end ≡ position_or_len (λ x. eqb x c.args.byte) c.args.text.now = grind (arith, common_steps, tests) in
    let i : c.in_ok-end.end ≡ index_of c.args.byte c.args.text.now = e ∙ index_is c.args.byte c.args.text.now in
    record {
      pieces = rw (part_to_end, e) (split_some _ _ k);
      place = (omega (arith, k, index_is c.args.byte c.args.text.now), ap (λ (n : ℕ). take n c.args.text.now) i, part_to_end c.args.text.now (c.in_ok-end.end + 1) ∙ ap (λ (n : ℕ). drop (n + 1) c.args.text.now) i);
    }
