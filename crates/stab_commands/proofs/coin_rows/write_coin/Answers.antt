use Rattle.stab_commands.proofs.Names.{true, sym, subst, WritesAllOrFault, circuit_items, shot_bytes, coin_entry, whole_kinds, set_all, coin_at}
use Rattle.stab_commands.proofs.PlacedWordLaws.{set-ones}
use Rattle.stab_commands.proofs.coin_rows.write_coin.Goals as goal

pub returns-in-Shots-clause-writes : goal.returns-in-Shots-clause-writes
returns-in-Shots-clause-writes g c = λ flips count ones.
    let items = circuit_items c.args.circuit.now in
    let old = g.O.Output.seen c.args.out.now in
    let new = g.O.Output.seen c.write_row.new.out in
    subst (λ y. WritesAllOrFault old new (coin_entry y items (coin_at items c.args.position) flips) c.write_row.result) (sym c.in-Shots.is)
    (subst (λ l. WritesAllOrFault old new (shot_bytes c.in-Shots.format (whole_kinds items) l) c.write_row.result) (set-ones flips c.args.bits.now c.args.positions.now c.requires.zero count ones)
    (subst (λ k. WritesAllOrFault old new (shot_bytes c.in-Shots.format k (set_all c.args.positions.now true c.args.bits.now)) c.write_row.result) c.whole_kinds.ensures.value c.write_row.ensures.writes))
