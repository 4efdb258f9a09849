use Rattle.stab_circuit.proofs.Names.{ap, sym, ◌∙◌, ◌∷◌, ◌+◌, subst, option_copied, err_from_is_err_and, progress_of, IsShallowProgress, IsLineRun, reading_on}
use Rattle.stab_circuit.proofs.ReaderLemmas.{one_taken_of, one_refused_of, stepped_shallow}
use Rattle.stab_circuit.proofs.StretchLemmas.{runs_on}
use Rattle.stab_circuit.proofs.reader.CircuitReader.take_one.Goals as goal

pub returns-in_err-after-clause-gives : goal.returns-in_err-after-clause-gives
returns-in_err-after-clause-gives c =
    let g = c.in_err-after.ensures.gives in
    let p = err_from_is_err_and c.from_residual.result c.from_residual.ensures.1 in
    rw (p.1, p.2) (one_refused_of c.args.single c.args.line (progress_of c.args.self.now) c.args.text.now g.0 g.1 _ g.2 g.4)

pub settle-requires-clause-run : goal.settle-requires-clause-run
settle-requires-clause-run c =
    let g = c.in_ok-after.ensures.gives in
    let s = progress_of c.args.self.now in
    let t = c.take_first.new.self in
    runs_on t.outer.items s c.args.line c.args.text.now g.0 (option_copied c.in_ok-after.after) c.run_at-run.result c.keep_run.new.stretches.run c.args.single t.open_blocks.items t.items.items
    (subst (λ xs. IsLineRun xs s c.args.line c.args.text.now c.run_at-run.result) (sym c.in_ok-after.ensures.outer) c.run_at-run.ensures.run) (g.2 ∙ ap (λ ps. g.0 ∷ ps) g.3) g.4 c.keep_run.ensures.run

pub returns-clause-gives : goal.returns-clause-gives
returns-clause-gives c =
    let g = c.in_ok-after.ensures.gives in
    one_taken_of c.args.single c.args.line (progress_of c.args.self.now) (progress_of c.take_first.new.self) c.args.text.now g.0 (option_copied c.in_ok-after.after) (g.2 ∙ ap (λ ps. g.0 ∷ ps) g.3) g.4
    ∙ ap (λ p. reading_on c.args.single (c.args.line + 1) p (option_copied c.in_ok-after.after)) (sym c.in_ok-settle.ensures.same)

pub returns-clause-shallow : goal.returns-clause-shallow
returns-clause-shallow c =
    let g = c.in_ok-after.ensures.gives in
    subst IsShallowProgress (sym c.in_ok-settle.ensures.same) (stepped_shallow c.args.line _ (progress_of c.args.self.now) (progress_of c.take_first.new.self) c.requires.shallow g.4)
