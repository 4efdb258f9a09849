use Rattle.stab_error_model.proofs.Names.{◌≡◌, drop}
use Rattle.std.specs.List.{list_all}
use Rattle.stab_error_model.specs.Doubts.{is_axis_byte}
use Rattle.stab_error_model.proofs.doubts.has_letters_alone.Given as goal

abbrev pub invariant-bytes : goal.invariant-bytes
invariant-bytes l = list_all is_axis_byte l.tag ≡ list_all is_axis_byte (drop l.k l.tag)
