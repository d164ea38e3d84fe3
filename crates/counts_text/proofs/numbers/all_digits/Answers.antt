-- `counts_text::numbers::all_digits` meets its contract. Assumes nothing.
use Rattle.std.proofs.Common.{rules, tests, ◌≡◌, length, ◌&&◌, true, sym, ap, ◌∙◌, Bool}
use Rattle.std.proofs.lemmas.Iterator.{YieldsList-from_slice}
use Rattle.std.proofs.lemmas.Iterator.Search.{all_from_yields_List}
use Rattle.std.specs.List.{list_all}
use Rattle.std.specs.Char.{is_ascii_digit}
use lib.Dec.{leb}
use Rattle.counts_text.proofs.numbers.all_digits.Goals as goal

pub returns-then-contains : goal.returns-then-contains
returns-then-contains c =
    let field = c.args.field.now in
    let all : c.all.result ≡ list_all is_ascii_digit field = all_from_yields_List is_ascii_digit _ _ c.all.result c.all.ensures.ran (YieldsList-from_slice field (cc)) (λ x b q k. search (rules, tests)) in
    let within : (leb 1 (length field) && leb (length field) 5) ≡ true = search (rules, tests) in
    all ∙ sym (ap (λ (t : Bool). t && list_all is_ascii_digit field) within)
