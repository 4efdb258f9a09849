use Rattle.stab_session.proofs.Names.{◌≡◌, ◌≤◌, sym, subst, length, arith, unroll, observables_of, check_within, circuit_items, IsRecording, check-whole, check-steps}
use Rattle.std.specs.Prelude.{None}
use Rattle.stab_session.proofs.RecordedLemmas.{nothing-follows}
use Rattle.stab_session.proofs.opening.run_checked.Goals as goal

pub replay-requires-clause-checked : goal.replay-requires-clause-checked
replay-requires-clause-checked g c =
    let empty = c.in_ok-recording.ensures.preserved (g.C.Coins.sequence c.args.coins.now) c.args.stride in
    subst (λ n. check_within n (circuit_items c.args.circuit.now) ≡ None) (sym empty.qubits) c.requires.checked

pub replay-requires-clause-follows : goal.replay-requires-clause-follows
replay-requires-clause-follows g c =
    let coins = g.C.Coins.sequence c.args.coins.now in
    let items = circuit_items c.args.circuit.now in
    let few : length (unroll items) ≤ 1048576 = check-steps items (check-whole c.args.n items c.requires.checked) in
    nothing-follows c.args.n coins c.args.stride c.in_ok-recording.recording (c.in_ok-recording.ensures.preserved coins c.args.stride) (unroll items) c.steps.result
    (omega (arith, c.steps.ensures.value, few))

pub returns-clause-preserved : goal.returns-clause-preserved
returns-clause-preserved g c =
    let coins = g.C.Coins.sequence c.args.coins.now in
    let items = circuit_items c.args.circuit.now in
    let empty = c.in_ok-recording.ensures.preserved coins c.args.stride in
    subst (λ n. IsRecording n coins c.args.stride (unroll items) (observables_of items) c.replay.new.self) empty.qubits c.in_ok-replay.ensures.followed.preserved
