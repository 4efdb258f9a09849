-- Sequences: how the code keeps the elements of a list.
-- Source: this project's own.
use Rattle.std.specs.Prelude.{List}
use Rattle.stab_instructions.specs.declared.sequence.Elements.{Elements}
use Rattle.stab_instructions.specs.declared.sequence.Elements.TheVariants.{One, List as list_of}

module _ {T : Type 0} where
  -- the elements that are stored
  abbrev pub elements_shown : Elements T → List T
  elements_shown (One element) = element
  elements_shown (list_of list) = list.items
