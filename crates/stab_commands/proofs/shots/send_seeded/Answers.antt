use Rattle.stab_commands.proofs.Names.{◌≡◌, ℕ, ◌+◌, Bool, List, arith, ap, sym, subst, ◌∙◌, qubits_of, circuit_items, Seeded, seed_coin, run_of, of_shots, SendsUnflushed, shown_bytes}
use Rattle.stab_commands.proofs.shots.send_seeded.Goals as goal

pub returns-then-shots-eq1 : goal.returns-then-shots-eq1
returns-then-shots-eq1 g c =
    let items = circuit_items c.args.circuit.now in
    let bytes : (ℕ → Bool) → List ℕ = λ coins. shown_bytes c.args.format c.args.shown (run_of (qubits_of items) coins items) in
    record {
      sends = subst (λ k. SendsUnflushed (of_shots (λ shot. bytes (seed_coin c.args.seed shot)) c.args.first k) (g.O.Output.seen c.args.out.now) (g.O.Output.seen c.send_copies.new.out) c.send_copies.result)
          (sym c.if-shots-eq1.true)
          (subst (λ coins. SendsUnflushed (of_shots (λ shot. bytes coins) c.args.first 1) (g.O.Output.seen c.args.out.now) (g.O.Output.seen c.send_copies.new.out) c.send_copies.result)
          (ap (λ (s : Seeded). seed_coin s.seed s.shot) c.new-coins.ensures.value ∙ ap (seed_coin c.args.seed) {x = c.args.first} {y = c.args.first + 0} (omega arith))
          (c.send_copies.ensures.sends c.args.first));
    }
