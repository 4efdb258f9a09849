-- Rules: what a measurement answers, and what it leaves, by a test of which signed strings stabilise the state before it.
-- Source: Gottesman 1997, and the two cases of a measurement in Aaronson and Gottesman 2004, section III. It differs in that any
-- Pauli string is measured, that the coin is given, and that all strings that stabilise are spoken of instead of generators.
use Rattle.std.specs.Prelude.{Bool, true, false, not, ◌&&◌, ◌||◌, if◌then◌else◌}
use Rattle.stab_pauli.specs.Paulis.{Signed, minus, with_sign, commute, product}

-- the outcome of a measurement of p with a coin: 0 if p stabilises, 1 if its negative does, else the coin
abbrev pub outcome_by : (Signed → Bool) → Signed → Bool → Bool
outcome_by stabilised p coin = if stabilised p then false else (if stabilised (minus p) then true else coin)

-- whether neither sign of p stabilises, so that the coin decides
abbrev pub is_random_by : (Signed → Bool) → Signed → Bool
is_random_by stabilised p = not (stabilised p) && not (stabilised (minus p))

-- whether p stabilises after a projection of q on an outcome: it commutes with q, and it stabilised before, by itself or
-- after a product with q, whose sign is that of the outcome
abbrev pub projected_by : (Signed → Bool) → Signed → Bool → Signed → Bool
projected_by stabilised q outcome p = commute q p && (stabilised p || stabilised (product (with_sign outcome q) p))
