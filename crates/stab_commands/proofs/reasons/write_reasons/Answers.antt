use Rattle.stab_commands.proofs.Names.{◌<◌, ◌∙◌, ℕ, List, sym, subst, length, arith, CutOff, Took, qubits_of, circuit_items, bits_in, table_of, listed-at, reason_text}
use Rattle.stab_commands.proofs.CoinRowLaws.{from_none}
use Rattle.stab_report.proofs.SendingLaws.{sent_shot, shots_break_off}
use Rattle.stab_commands.proofs.reasons.write_reasons.Goals as goal

pub write_reason-requires-clause-are : goal.write_reason-requires-clause-are
write_reason-requires-clause-are g c =
    let number = c.loop-number.number in
    let lists = c.args.lists.now in
    let less : number < length lists = omega (arith, c.loop-number-test.true) in
    sym (c.as_slice-positions.ensures.value ∙ listed-at lists number c.index-lists-number.result less c.index-lists-number.is ∙ c.requires.are number (omega (arith, less, c.requires.size)))

pub returns-in_err-write_reason : goal.returns-in_err-write_reason
returns-in_err-write_reason g c =
    let items = circuit_items c.args.circuit.now in
    let text : ℕ → List ℕ = reason_text items (table_of (qubits_of items) items) in
    let number = c.loop-number.number in
    let less : number < bits_in items = omega (arith, c.loop-number-test.true, c.requires.size) in
    record {
      sends = shots_break_off text 0 number (bits_in items) c.in_err-write_reason.field-0.0 c.from_residual.result less c.loop-number.invariant
          (subst (λ k. CutOff (g.O.Output.seen c.loop-number.out) (g.O.Output.seen c.write_reason.new.out) (text k) c.in_err-write_reason.field-0.0) (from_none number) c.in_err-write_reason.ensures.sends)
          c.from_residual.ensures.1;
    }

pub loop-number-preserved : goal.loop-number-preserved
loop-number-preserved g c =
    let items = circuit_items c.args.circuit.now in
    let text : ℕ → List ℕ = reason_text items (table_of (qubits_of items) items) in
    let number = c.loop-number.number in
    sent_shot text 0 number c.loop-number.invariant
    (subst (λ k. Took (g.O.Output.seen c.loop-number.out) (g.O.Output.seen c.write_reason.new.out) (text k)) (from_none number) c.in_ok-write_reason.ensures.sends)
