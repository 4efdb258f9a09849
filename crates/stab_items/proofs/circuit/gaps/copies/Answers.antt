use Rattle.stab_items.proofs.Names.{◌∙◌, ap, sym, ◌++◌, copies}
use Rattle.stab_items.proofs.EditLemmas.{next_position}
use Rattle.stab_items.proofs.GapLemmas.{copies-more}
use Rattle.stab_items.proofs.circuit.gaps.copies.Goals as goal

pub loop-preserved : goal.loop-preserved
loop-preserved c =
    c.in_ok-extend_from_slice.ensures.items
    ∙ ap (λ l. l ++ c.args.numbers.now) c.loop.invariant
    ∙ sym (copies-more c.loop.counter c.args.numbers.now)
    ∙ ap (λ n. copies n c.args.numbers.now) (next_position c.loop.counter)
