use Rattle.stab_circuit.proofs.Names.{◌≡◌, refl, length, arith, nat_tests}
use Rattle.stab_circuit.proofs.StretchLemmas.{run_begins}
use Rattle.stab_circuit.proofs.reader.CircuitReader.run_at.Goals as goal

pub returns-then-is_empty-2 : goal.returns-then-is_empty-2
returns-then-is_empty-2 c =
    let r = c.args.self.now in
    let empty : length r.items.items ≡ 0 = grind (arith, nat_tests, c.is_empty.ensures, c.if-is_empty.true, r.items.ok.0) in
    let none : length r.open_blocks.items ≡ 0 = grind (arith, nat_tests, c.is_empty-then-is_empty.ensures, c.if-is_empty-2.true, r.open_blocks.ok.0) in
    record { run = run_begins r.outer.items r.open_blocks.items r.items.items c.args.line c.args.text.now _ none empty refl refl }
