use Rattle.stab_commands.proofs.Names.{WroteUpTo, flat_map}
use Rattle.std.specs.Prelude.{◌-◌}
use Rattle.std.specs.List.{range_with_len}
use Rattle.stab_report.specs.PartTexts.{none_lines, none_of}
use Rattle.stab_commands.proofs.part_distance.write_none_lines.Given as goal

abbrev pub invariant-sizes : goal.invariant-sizes
invariant-sizes g l = WroteUpTo (g.O.Output.seen l.initial.out) (g.O.Output.seen l.out) (none_lines l.last) (flat_map none_of (range_with_len l.size (l.last - l.size)))
