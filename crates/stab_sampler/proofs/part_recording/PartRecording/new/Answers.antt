use Rattle.stab_sampler.proofs.Names.{◌∙◌, ap, length, length-replicate, I, Signed, RunOutput, PivotsState}
use Rattle.stab_sampler.proofs.part_recording.PartRecording.new.Goals as goal

pub returns-clause-sized : goal.returns-clause-sized
returns-clause-sized c =
    let n = c.args.n in
    record {
      qubits = c.in_ok-tableau.ensures.qubits;
      string = ap (λ (p : Signed). length p.letters) c.in_ok-string.ensures.ok ∙ length-replicate n I;
      written = ap (λ (p : Signed). length p.letters) c.in_ok-written.ensures.ok ∙ length-replicate n I;
      strings = ap (λ (k : PivotsState). k.qubits) c.new-strings.ensures.value;
      most = ap (λ (k : PivotsState). k.most) c.new-strings.ensures.value;
    }

pub returns-clause-begins : goal.returns-clause-begins
returns-clause-begins c =
    let nothing_yet = c.in_ok-outputs.ensures.value in
    record {
      arrived = record {
        group = c.in_ok-tableau.ensures.members;
        coin = ap (λ (o : RunOutput). length o.free) nothing_yet;
        records = ap (λ (o : RunOutput). o.records) nothing_yet;
      };
      gave = λ i. record (nothing_yet i) { free = c.in_ok-free.ensures.items i };
    }
