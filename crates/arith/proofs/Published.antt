-- The laws of specs/Laws.antt, proved.
-- Assumes nothing.
use native.Mathlib.Nat.{le_of_dvd}
use Rattle.arith.specs.Laws.{GcdCommon, GcdGreatest, RemainderWords, RemainderOnly, OrderFalls, OrderOnly}
use Rattle.arith.proofs.GcdLaws as GcdLaws
use Rattle.arith.proofs.OrderLaws as OrderLaws
use Rattle.arith.proofs.RemainderLaws as RemainderLaws

pub gcd_common : GcdCommon
gcd_common = GcdLaws.gcd_divides

pub gcd_greatest : GcdGreatest
gcd_greatest a b d p q =
    let divides = GcdLaws.gcd_greatest d a b p q in
    (divides, λ pos. le_of_dvd (GcdLaws.gcd_pos a b pos) divides)

pub remainder_words : RemainderWords
remainder_words u v n pos = (RemainderLaws.remainder_below u v n pos, RemainderLaws.remainder_words u v n pos)

pub remainder_only : RemainderOnly
remainder_only u v n p l e = RemainderLaws.remainder_only u v n p l e

pub order_falls : OrderFalls
order_falls = OrderLaws.order_falls

pub order_only : OrderOnly
order_only = OrderLaws.order_only
