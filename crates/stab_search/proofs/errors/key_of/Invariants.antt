use Rattle.stab_search.proofs.Names.{◌≡◌, drop, bit_xor, key_of}
use Rattle.stab_search.proofs.errors.key_of.Given as goal

abbrev pub invariant-each : goal.invariant-each
invariant-each l = bit_xor l.key (key_of l.numbers (drop l.d-index l.detectors)) ≡ key_of l.numbers l.detectors
