use Rattle.stab_commands.proofs.Names.{sym, subst, circuit_items, SendsUnflushed, shots_of}
use Rattle.stab_commands.proofs.shots.send_shots.Goals as goal

pub returns-in-Seed : goal.returns-in-Seed
returns-in-Seed g c = record {
  sends = subst (λ s. SendsUnflushed (shots_of c.args.format c.args.shown c.args.shots s (circuit_items c.args.circuit.now)) (g.O.Output.seen c.args.out.now) (g.O.Output.seen c.send_seeded.new.out) c.send_seeded.result) (sym c.in-Seed.is)
      (rw c.first-first.ensures.value at (rw c.number-number.ensures.value at c.send_seeded.ensures.sends));
}

pub returns-in-List : goal.returns-in-List
returns-in-List g c = record {
  sends = subst (λ s. SendsUnflushed (shots_of c.args.format c.args.shown c.args.shots s (circuit_items c.args.circuit.now)) (g.O.Output.seen c.args.out.now) (g.O.Output.seen c.send_copies.new.out) c.send_copies.result) (sym c.in-List.is)
      (rw c.as_slice.ensures.value at (rw c.new-coins.ensures.value at (rw c.number-number.ensures.value at (c.send_copies.ensures.sends c.args.shots.first))));
}
