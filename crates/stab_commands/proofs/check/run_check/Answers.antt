use Rattle.stab_commands.proofs.Names.{refl, subst, inl, Err, ReadsCircuit}
use Rattle.stab_commands.proofs.CheckLaws.{text_refused}
use Rattle.stab_commands.proofs.check.run_check.Goals as goal

pub returns : goal.returns
returns g c =
    let fault = c.in-Err-circuit_of_text.fault in
    let reads = subst (λ l. ReadsCircuit l (Err fault)) c.as_slice.ensures.value c.in-Err-circuit_of_text.ensures.gives in record {
      ends = inl (
        c.explain-in-Err-circuit_of_text.ensures.explains,
        text_refused (g.I.Input.seen c.args.input.now) (g.I.Input.seen c.read_text.new.input) c.in-Ok.text.items fault c.in-Ok.ensures.reads reads,
      );
      warns = refl;
    }
