use Rattle.stab_recording.proofs.Names.{rules, subst, sym, IfOk, IfOk-weaker, circuit_items, run_of, DependsOnCoinsAt, SamplerState, IsShotOf, run_of-same}
use Rattle.stab_recording.proofs.ShotLemmas.{shots-of_items}
use Rattle.stab_recording.proofs.sampler.Sampler.shot.Goals as goal

pub returns : goal.returns
returns g c =
    let ready = c.self.invariant in
    let coins = g.C.Coins.sequence c.args.coins.now in
    let found = c.run_whole.result in
    let now = c.args.self.now in
    let is : IfOk found (IsShotOf (run_of now.qubits coins now.items)) =
    subst (λ (s : SamplerState). IfOk found (IsShotOf (run_of s.qubits coins s.items))) c.self.view_is
    (shots-of_items found c.self.inside.qubits coins (circuit_items c.self.inside.circuit.now) c.self.inside.observables
    ready.observables_are c.run_whole.ensures.run) in
    record {
      preserved = search rules;
      records = IfOk-weaker found _ _ (λ s i. i.records) is;
      free = IfOk-weaker found _ _ (λ s i. i.free) is;
      detectors = IfOk-weaker found _ _ (λ s i. i.detectors) is;
      observables = IfOk-weaker found _ _ (λ s i. i.observables) is;
      decided =
          IfOk-weaker found _ _
          (λ s i. subst (λ randomness. DependsOnCoinsAt randomness now.qubits coins now.items) (sym i.free) (run_of-same now.qubits coins now.items))
          is;
      same_coins = search rules;
      asks = search rules;
      asks_random = search rules;
      err = search rules;
    }
