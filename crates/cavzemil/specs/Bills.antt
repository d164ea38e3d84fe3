-- Rule 14.2, the struct of a charge: the library's, and the one that C lays out, field by field.
-- Assumes nothing: these are definitions.
use Rattle.bill.specs.Charges as Charges
use Rattle.cavzemil.specs.declared.bills.Charge.{Charge}

abbrev pub charge_laid : Charges.Charge → Charge
charge_laid r = record { refusal = r.refusal; cents = r.cents }
