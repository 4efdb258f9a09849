use Rattle.stab_sampler.proofs.Names.{◌≡◌, refl, sym, ◌∙◌, ap, subst, [], append-nil, min, unroll, circuit_items, Listed, list_coin, ones, origin, outputs, IsRunWithPivots, zero_coins}
use Rattle.stab_sampler.proofs.PivotLemmas.{right-from}
use Rattle.stab_sampler.proofs.RecordingLemmas.{randomness-run}
use Rattle.stab_sampler.proofs.reference.Reference.run.Goals as goal

pub returns : goal.returns
returns c =
    let n = c.args.n in
    let items = circuit_items c.args.circuit.now in
    let zero : list_coin c.new-coins.result.bits ≡ zero_coins = ap (λ (k : Listed). list_coin k.bits) c.new-coins.ensures.value in
    let recorded = c.in_ok-recorded.recorded in
    let is = subst (λ coins. IsRunWithPivots n coins items recorded) zero (c.in_ok-recorded.ensures {u = tt}).recorded in
    let randomness = is.free ∙ sym (randomness-run n zero_coins items (outputs n zero_coins (unroll items) origin) refl) in
    record {
      most = is.most;
      qubits = is.qubits;
      number = is.number ∙ ap (λ bits. min (ones bits) recorded.strings.most) is.free;
      reference = λ each.
          let all = each ∙ ap ones (sym is.free) in
          record {
            checked = c.requires.checked;
            shot = record { records = is.records; free = is.free; detectors = is.detectors; observables = is.observables };
            qubits = is.qubits;
            all = all;
            right = right-from n zero_coins recorded.strings.strings recorded.shot.free.items all (unroll items) origin is.are_true []
                (randomness ∙ sym (append-nil (outputs n zero_coins (unroll items) origin).free));
          };
      err = tt;
    }
