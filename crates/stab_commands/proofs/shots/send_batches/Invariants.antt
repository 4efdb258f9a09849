use Rattle.stab_commands.proofs.Names.{◌-◌, ◌≤◌, Took, qubits_of, circuit_items, run_of, seed_coin, of_shots, shown_bytes}
use Rattle.stab_commands.proofs.shots.send_batches.Given as goal

abbrev pub invariant-loop-sent : goal.invariant-loop-sent
invariant-loop-sent g l = record {
  within : l.sent ≤ l.shots;
  took : Took (g.O.Output.seen l.initial.out) (g.O.Output.seen l.out)
      (of_shots (λ shot. shown_bytes l.format l.shown (run_of (qubits_of (circuit_items l.circuit)) (seed_coin l.seed shot) (circuit_items l.circuit))) l.first l.sent);
}

abbrev pub decreases-loop-sent : goal.decreases-loop-sent
decreases-loop-sent g l = l.shots - l.sent
