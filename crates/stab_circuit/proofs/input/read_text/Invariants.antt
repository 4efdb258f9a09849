use Rattle.stab_circuit.proofs.Names.{◌≤◌, ◌-◌, vec_len, Gave, most_bytes}
use Rattle.stab_circuit.proofs.input.read_text.Given as goal

abbrev pub invariant-reads : goal.invariant-reads
invariant-reads g l = record { small : vec_len l.text ≤ most_bytes; gave : Gave (g.I.Input.seen l.initial.input) (g.I.Input.seen l.input) l.text.items }

abbrev pub decreases-reads : goal.decreases-reads
decreases-reads g l = most_bytes - vec_len l.text
