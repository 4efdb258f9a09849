use Rattle.stab_error_model.proofs.Names.{◌≡◌, ◌+◌, ◌*◌, ◌++◌, map, take, length, listed, depth, nested_in, unroll, instruction_rounds, instructions, marks_from, marks_shown}
use Rattle.stab_error_model.proofs.marks.+marking.Given as goal

abbrev pub decreases-mark_item : goal.decreases-mark_item
decreases-mark_item l = 3 * nested_in l.item.now

abbrev pub decreases-mark_items : goal.decreases-mark_items
decreases-mark_items l = 3 * depth (listed l.items.now) + 1

abbrev pub decreases-mark_rounds : goal.decreases-mark_rounds
decreases-mark_rounds l = 3 * depth (listed l.body.now) + 2

abbrev pub invariant-mark_items-items : goal.invariant-mark_items-items
invariant-mark_items-items l = record {
  site : l.site ≡ l.step + length (unroll (listed (take l.item-index l.items)));
  marks : map marks_shown l.marks.items ≡ map marks_shown l.initial.marks.items ++ marks_from l.step (instructions (listed (take l.item-index l.items)));
}

abbrev pub invariant-mark_rounds-rounds : goal.invariant-mark_rounds-rounds
invariant-mark_rounds-rounds l = record {
  site : l.site ≡ l.step + l.counter * length (unroll (listed l.body));
  marks : map marks_shown l.marks.items ≡ map marks_shown l.initial.marks.items ++ marks_from l.step (instruction_rounds l.counter (instructions (listed l.body)));
}
