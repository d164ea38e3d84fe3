-- Which rules are in force.
-- Assumes nothing: this is a definition.
use Rattle.std.specs.Prelude.{ℕ}

-- rule 14.1: how many of the change requests, taken in their order, the rules have in them
abbrev pub rules_in_force : ℕ
rules_in_force = 6
