use Rattle.stab_search.proofs.Names.{refl, arith, ErrorTable}
use Rattle.stab_search.proofs.CertificateLemmas.{certified, follow-next, none-followed}
use Rattle.stab_search.proofs.certificate.are_certified.Goals as goal

pub observables-preserved : goal.observables-preserved
observables-preserved g c =
    let t : ErrorTable = record { detectors = c.args.detectors; rows = c.args.rows.now } in
    follow-next t c.observables.o c.observables.invariant
    (certified t c.observables.o c.as_slice.result.now (c.if-not-is_certificate.ensures.yes refl))

pub returns : goal.returns
returns g c = record {
  none = λ yes.
      none-followed (record { detectors = c.args.detectors; rows = c.args.rows.now }) c.end_of_rows-o-end.result c.observables.o c.end_of_rows-o-end.ensures.end
      (omega (arith, c.observables-test.false)) c.observables.invariant;
}
