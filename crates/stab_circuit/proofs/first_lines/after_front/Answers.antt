use Rattle.stab_circuit.proofs.Names.{sym, ap, ◌∙◌, option_copied}
use Rattle.stab_circuit.proofs.FirstLineLemmas.{line_alone}
use Rattle.stab_circuit.proofs.first_lines.after_front.Goals as goal

pub returns-in-None : goal.returns-in-None
returns-in-None c = record {
  front = line_alone c.args.text.now c.args.line.now _ _ c.starts_with.ensures.value c.if-not-starts_with.false c.split_at.ensures.back (sym c.first.ensures.value ∙ ap option_copied c.in-None.is);
}
