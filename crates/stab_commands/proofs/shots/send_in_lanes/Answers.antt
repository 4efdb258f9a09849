use Rattle.stab_commands.proofs.Names.{rules, arith, ◌≡◌, ◌%◌, ◌-◌, ℕ, List, [], Option, subst, IsErrAnd, Took, qubits_of, circuit_items, seed_coin, run_of, IsReference, if-copied, memory_alone, shown_bytes, sends_none}
use Rattle.stab_commands.proofs.ShotLaws.{front_breaks_off, rest_sent}
use Rattle.stab_sampler.specs.declared.reference.Reference.{Reference}
use Rattle.stab_commands.proofs.shots.send_in_lanes.Goals as goal

pub returns-in_err-found : goal.returns-in_err-found
returns-in_err-found g c =
    let memory = memory_alone (Option Reference) c.in_err-found.field-0.0 c.qubits.result (circuit_items c.args.circuit.now) c.requires.checked c.qubits.ensures.value c.in_err-found.ensures.refused in
    record { sends = sends_none (g.O.Output.seen c.args.out.now) _ c.from_residual.result (subst (λ f. IsErrAnd c.from_residual.result (λ y. y ≡ f)) memory c.from_residual.ensures.1) }

pub send_wide-requires-clause-reference : goal.send_wide-requires-clause-reference
send_wide-requires-clause-reference g c =
    let items = circuit_items c.args.circuit.now in
    if-copied (λ r. IsReference (qubits_of items) items r) c.as_ref-reference.result c.in_ok-found.found c.as_ref-reference.ensures.value
    (rw c.qubits.ensures.value at c.in_ok-found.ensures.reference)

pub returns-in_err-send_wide : goal.returns-in_err-send_wide
returns-in_err-send_wide g c =
    let items = circuit_items c.args.circuit.now in
    let bytes : ℕ → List ℕ = λ shot. shown_bytes c.args.format c.args.shown (run_of (qubits_of items) (seed_coin c.args.seed shot) items) in
    let full = c.args.shots - c.args.shots % c.min-lanes.result in
    let none : Took (g.O.Output.seen c.args.out.now) (g.O.Output.seen c.args.out.now) [] = search rules in
    record {
      sends = front_breaks_off bytes c.args.first full c.args.shots c.in_err-send_wide.field-0.0 c.from_residual-in_err-send_wide.result (omega arith) none
          c.in_err-send_wide.ensures.sends c.from_residual-in_err-send_wide.ensures.1;
    }

pub send_wide-requires-2-clause-reference : goal.send_wide-requires-2-clause-reference
send_wide-requires-2-clause-reference g c =
    let items = circuit_items c.args.circuit.now in
    if-copied (λ r. IsReference (qubits_of items) items r) c.as_ref-reference.result c.in_ok-found.found c.as_ref-reference.ensures.value
    (rw c.qubits.ensures.value at c.in_ok-found.ensures.reference)

pub returns : goal.returns
returns g c =
    let items = circuit_items c.args.circuit.now in
    let bytes : ℕ → List ℕ = λ shot. shown_bytes c.args.format c.args.shown (run_of (qubits_of items) (seed_coin c.args.seed shot) items) in
    let full = c.args.shots - c.args.shots % c.min-lanes.result in
    record {
      sends = rest_sent _ _ _ bytes c.args.first full (c.args.shots - full) c.args.shots c.send_wide-2.result (omega arith)
          c.in_ok-send_wide.ensures.sends c.send_wide-2.ensures.sends;
    }
