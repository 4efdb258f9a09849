use Rattle.stab_report.proofs.Names.{◌≡◌, refl, ◌∙◌, ap, subst, decimal, true, false, ◌==◌, WritesAll, refusal_number, refusal_name}
use Rattle.stab_report.proofs.FaultLineLaws.{joined-whole, joined-line, not_zero}
use Rattle.stab_report.proofs.fault_line.write_fault.Goals as goal

pub returns-then-fault-eq0 : goal.returns-then-fault-eq0
returns-then-fault-eq0 g c =
    let number : c.as_bytes-number.result.now ≡ decimal (refusal_number c.args.fault.refusal) = c.as_bytes-number.ensures.value ∙ c.format.ensures.text ∙ ap decimal c.number.ensures.value in
    let name : c.as_bytes-name.result.now ≡ refusal_name c.args.fault.refusal = c.as_bytes-name.ensures.value ∙ c.name.ensures.value in
    let zero : (c.args.fault.line == 0) ≡ true = rw c.if-fault-eq0.true refl in
    record { writes = subst (λ text. WritesAll (g.O.Output.seen c.args.out.now) (g.O.Output.seen c.write_texts.new.out) text c.write_texts.result) (joined-whole c.args.fault _ _ zero number name) c.write_texts.ensures.writes }

pub returns-else-fault-eq0 : goal.returns-else-fault-eq0
returns-else-fault-eq0 g c =
    let line : c.as_bytes-line.result.now ≡ decimal c.args.fault.line = c.as_bytes-line.ensures.value ∙ c.format-else-fault-eq0.ensures.text in
    let number : c.as_bytes-number.result.now ≡ decimal (refusal_number c.args.fault.refusal) = c.as_bytes-number.ensures.value ∙ c.format.ensures.text ∙ ap decimal c.number.ensures.value in
    let name : c.as_bytes-name.result.now ≡ refusal_name c.args.fault.refusal = c.as_bytes-name.ensures.value ∙ c.name.ensures.value in
    let some : (c.args.fault.line == 0) ≡ false = not_zero c.args.fault.line c.if-fault-eq0.false in
    record { writes = subst (λ text. WritesAll (g.O.Output.seen c.args.out.now) (g.O.Output.seen c.write_texts-else-fault-eq0.new.out) text c.write_texts-else-fault-eq0.result) (joined-line c.args.fault _ _ _ some line number name) c.write_texts-else-fault-eq0.ensures.writes }
