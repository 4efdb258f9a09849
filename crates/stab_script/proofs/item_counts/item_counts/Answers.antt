use Rattle.stab_script.proofs.Names.{◌∙◌, ap, take, counts_of}
use Rattle.stab_script.proofs.ItemCountLaws.{counted_before, counted_own}
use Rattle.stab_script.proofs.item_counts.item_counts.Goals as goal

pub returns-clause-before : goal.returns-clause-before
returns-clause-before c =
    counted_before c.args.circuit.now c.args.path.now c.steps_before-first.result c.in_ok-cursor.cursor.left c.count_steps-before.result c.requires.checked
    c.steps_before-first.ensures.value c.in_ok-cursor.ensures.steps c.count_steps-before.ensures.value

pub returns-clause-own : goal.returns-clause-own
returns-clause-own c =
    counted_own c.args.circuit.now c.args.path.now c.in-Some.following c.steps_before-first.result c.steps_before-end.result c.in_ok-cursor.cursor.left c.count_steps-before.new.cursor.left c.count_steps-own.result
    c.requires.checked c.in-Some.ensures.value c.steps_before-first.ensures.value c.steps_before-end.ensures.value c.in_ok-cursor.ensures.steps c.count_steps-before.ensures.left
    (c.count_steps-own.ensures.value ∙ ap (λ n. counts_of (take n c.count_steps-before.new.cursor.left)) c.saturating_sub.ensures)
