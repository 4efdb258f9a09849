use Rattle.stab_circuit.proofs.Names.{refl, ap, sym, ◌∙◌, ◌+◌, Some, false, option_copied, join, listed, progress_of, read_outside, items_of, reading_on}
use Rattle.stab_circuit.proofs.LinePieceLemmas.{lines_shorter}
use Rattle.stab_circuit.proofs.StretchLemmas.{stored_now, stretch_read, stretch_shallow}
use Rattle.stab_circuit.proofs.reader.CircuitReader.take_stretch.Goals as goal

pub returns-clause-gives : goal.returns-clause-gives
returns-clause-gives c =
    let r = c.args.self.now in
    let s = progress_of r in
    let n = c.args.line in
    let after = option_copied c.args.after in
    let xs = c.leave_items.new.self.outer.items in
    let more = listed (items_of c.args.stretch xs) in
    ap (λ p. reading_on false n p (Some c.args.text.now)) (stored_now r.outer.items r.open_blocks.items r.items.items c.requires.outside)
    ∙ stretch_read xs c.args.stretch n c.args.text.now after s.now (c.in_ok-leave_items.ensures.preserved c.args.stretch c.requires.known) c.requires.front
    ∙ ap (λ p. reading_on false (n + c.args.stretch.lines) (read_outside (join p.now more)) after) (sym c.in_ok-leave_items.ensures.same)
    ∙ ap (λ p. reading_on false (n + c.args.stretch.lines) p after) (sym c.in_ok-push_copy.ensures.same)

pub returns-clause-shorter : goal.returns-clause-shorter
returns-clause-shorter c = lines_shorter c.args.text.now c.args.stretch.bytes.now (option_copied c.args.after) c.args.stretch.lines c.requires.front c.requires.known.count

pub returns-clause-shallow : goal.returns-clause-shallow
returns-clause-shallow c =
    let xs = c.leave_items.new.self.outer.items in
    let d = items_of c.args.stretch xs in
    stretch_shallow xs c.args.stretch (progress_of c.args.self.now) (progress_of c.push_copy.new.self) d (c.in_ok-leave_items.ensures.preserved c.args.stretch c.requires.known) refl c.requires.shallow
    (c.in_ok-push_copy.ensures.same ∙ ap (λ p. read_outside (join p.now (listed d))) c.in_ok-leave_items.ensures.same)
