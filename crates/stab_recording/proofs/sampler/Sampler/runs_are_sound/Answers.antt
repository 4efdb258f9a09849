use Rattle.stab_recording.proofs.Names.{subst, circuit_items, IsSoundRun, SamplerState, sound-run}
use Rattle.stab_recording.proofs.sampler.Sampler.runs_are_sound.Goals as goal

pub returns : goal.returns
returns c = (let ready = c.self.invariant in
    record {
      law = λ coins.
          subst (λ (s : SamplerState). IsSoundRun s.qubits coins s.items) c.self.view_is
          (sound-run c.self.inside.qubits coins (circuit_items c.self.inside.circuit.now) ready.checked ready.distinct);
    })
