use Rattle.stab_script.proofs.Names.{◌≡◌, ◌∙◌, ap, sym, circuit_items, Seeded, Listed, seed_coin, list_coin, coins_of_shot, qubits_for}
use Rattle.stab_script.proofs.EndingLaws.{edit_ended, edit_negated}
use Rattle.stab_script.proofs.edit.run_edit_watched.Goals as goal
use Rattle.stab_script.proofs.edit.run_edit_watched.Goals.{in-Some, in-None}

pub returns-in-Seed : goal.returns-in-Seed
returns-in-Seed g c =
    let items = circuit_items c.in_ok-circuit.circuit in
    let is_n : c.match-qubits.n ≡ qubits_for c.args.qubits items =
    elim c.match-qubits.branch [
      | in-Some w ↦ w.n-is ∙ sym (ap (λ q. qubits_for q items) w.in-Some.is)
      | in-None w ↦ w.n-is ∙ w.qubits-n.ensures.value ∙ sym (ap (λ q. qubits_for q items) w.in-None.is)
    ] in
    let coins = ap (λ (k : Seeded). seed_coin k.seed k.shot) c.new-coins.ensures.value ∙ sym (ap (λ x. coins_of_shot x 0) c.in-Seed.is) in
    record {
      ends = edit_ended c.args.counted c.args.qubits c.args.source.now _ _ _ _ _ _ items c.edit_circuit.result c.match-qubits.n _ c.in_ok-circuit.ensures.reads is_n coins c.edit_circuit.ensures.ends;
      turns = edit_negated g.S.Input.seen g.O.Output.seen g.W.Watcher.log c.args.counted c.args.qubits c.args.source.now _ _ _ _ _ _ items c.edit_circuit.result c.match-qubits.n _ c.in_ok-circuit.ensures.reads is_n coins c.edit_circuit.ensures.turns;
    }

pub returns-in-List : goal.returns-in-List
returns-in-List g c =
    let items = circuit_items c.in_ok-circuit.circuit in
    let is_n : c.match-qubits.n ≡ qubits_for c.args.qubits items =
    elim c.match-qubits.branch [
      | in-Some w ↦ w.n-is ∙ sym (ap (λ q. qubits_for q items) w.in-Some.is)
      | in-None w ↦ w.n-is ∙ w.qubits-n.ensures.value ∙ sym (ap (λ q. qubits_for q items) w.in-None.is)
    ] in
    let coins = ap (λ (k : Listed). list_coin k.bits) c.new-coins-in-List.ensures.value ∙ ap list_coin c.as_slice.ensures.value ∙ sym (ap (λ x. coins_of_shot x 0) c.in-List.is) in
    record {
      ends = edit_ended c.args.counted c.args.qubits c.args.source.now _ _ _ _ _ _ items c.edit_circuit-in-List.result c.match-qubits.n _ c.in_ok-circuit.ensures.reads is_n coins c.edit_circuit-in-List.ensures.ends;
      turns = edit_negated g.S.Input.seen g.O.Output.seen g.W.Watcher.log c.args.counted c.args.qubits c.args.source.now _ _ _ _ _ _ items c.edit_circuit-in-List.result c.match-qubits.n _ c.in_ok-circuit.ensures.reads is_n coins c.edit_circuit-in-List.ensures.turns;
    }
