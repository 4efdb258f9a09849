use Rattle.std.specs.Prelude.{◌≡◌, None}
use Rattle.stab_items.specs.Steps.{unroll, check_of}
use Rattle.stab_items.specs.Views.{circuit_items}
use Rattle.stab_items.specs.Repeats.{AreRepeats}
use Rattle.tests_library.proofs.stored_rounds.left_after.Given as goal

abbrev pub invariant-editing : goal.invariant-editing
invariant-editing l = record {
  checked : check_of (circuit_items l.circuit) ≡ None;
  are : AreRepeats 0 (unroll (circuit_items l.circuit)) l.rounds.items;
}
