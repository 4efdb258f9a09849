use Rattle.stab_regions.proofs.Names.{SameRows, ◌+◌, ◌-◌, length}
use Rattle.stab_regions.proofs.lookbacks.pad.Given as goal

abbrev pub invariant-padding : goal.invariant-padding
invariant-padding l = SameRows l.initial.records.items l.records.items

abbrev pub decreases-padding : goal.decreases-padding
decreases-padding l = (l.site + 1) - length l.records.items
