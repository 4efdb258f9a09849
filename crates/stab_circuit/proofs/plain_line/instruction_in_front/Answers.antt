use Rattle.stab_circuit.proofs.Names.{Ok, sym, ap, ◌∙◌}
use Rattle.stab_circuit.proofs.PlainLineLemmas.{name_reported, name_shorter}
use Rattle.stab_circuit.proofs.plain_line.instruction_in_front.Goals as goal

pub returns-in-Ok-Instruction-clause-reports : goal.returns-in-Ok-Instruction-clause-reports
returns-in-Ok-Instruction-clause-reports c =
    name_reported c.args.text.now c.split_at.result.0.now c.split_at.result.1.now c.name_len.result c.in-Ok-Instruction.instruction c.kind_in_front.result c.split_at.ensures.front c.split_at.ensures.back
    c.name_len.ensures.value (sym c.starts_with_letter.ensures.value ∙ c.if-not-starts_with_letter.false) (sym c.in-Ok-Instruction.ensures.value ∙ ap Ok c.in-Ok-Instruction.field-0-is) c.kind_in_front.ensures.reports

pub returns-in-Ok-Instruction-clause-shorter : goal.returns-in-Ok-Instruction-clause-shorter
returns-in-Ok-Instruction-clause-shorter c =
    name_shorter c.args.text.now c.split_at.result.0.now c.split_at.result.1.now c.name_len.result c.in-Ok-Instruction.instruction c.kind_in_front.result c.split_at.ensures.front c.split_at.ensures.back
    c.kind_in_front.ensures.reports
