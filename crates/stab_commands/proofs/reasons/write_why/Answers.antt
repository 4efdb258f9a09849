use Rattle.stab_commands.proofs.Names.{◌≡◌, ◌<◌, ◌∙◌, sym, subst, length, arith, IsErrAnd, listed-at}
use Rattle.stab_report.proofs.SendingLaws.{sends_none}
use Rattle.stab_commands.proofs.reasons.write_why.Goals as goal

pub returns-in_err-lists : goal.returns-in_err-lists
returns-in_err-lists g c = record {
  sends = sends_none (g.O.Output.seen c.args.out.now) _ c.from_residual-in_err-lists.result
      (subst (λ f. IsErrAnd c.from_residual-in_err-lists.result (λ y. y ≡ f)) c.in_err-lists.ensures.err c.from_residual-in_err-lists.ensures.1);
}

pub write_reason-requires-clause-are : goal.write_reason-requires-clause-are
write_reason-requires-clause-are g c =
    let number = c.bit_number-number.result in
    let lists = c.in_ok-lists.lists.items in
    let less : number < length lists = omega (arith, c.bit_number-number.ensures.in_range, c.in_ok-lists.ensures.size) in
    sym (c.as_slice-positions.ensures.value ∙ listed-at lists number c.index.result.now less c.index.ensures ∙ c.in_ok-lists.ensures.value number c.bit_number-number.ensures.in_range)
