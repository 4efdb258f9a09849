use Rattle.stab_circuit.proofs.Names.{refl, inl, arith}
use Rattle.stab_circuit.proofs.InputLemmas.{read_past, read_within, front_refused}
use Rattle.stab_circuit.proofs.input.read_text.Goals as goal

pub returns-then-count-len : goal.returns-then-count-len
returns-then-count-len g c = record {
  reads = inl (
    refl,
    read_past c.reads.text.items c.read.new.buf c.in-Ok.count (omega (arith, c.reads.invariant.small, c.reads.text.ok.0)) (omega (arith, c.read.auto)) c.in-Ok.ensures.reads.0
        (omega (arith, c.if-count-len.true, c.len.ensures, c.reads.text.ok.0)) c.reads.invariant.gave c.in-Ok.ensures.reads.1,
  );
}

pub returns-in_err-extend_from_slice-in-Ok : goal.returns-in_err-extend_from_slice-in-Ok
returns-in_err-extend_from_slice-in-Ok g c = record {
  reads = front_refused c.from_residual.result c.from_residual.ensures.1
      (read_within c.reads.text.items c.read.new.buf c.in-Ok.count (omega (arith, c.reads.invariant.small, c.reads.text.ok.0)) c.in-Ok.ensures.reads.0
      (omega (arith, c.if-count-len.false, c.len.ensures, c.reads.text.ok.0)) c.reads.invariant.gave c.in-Ok.ensures.reads.1);
}
