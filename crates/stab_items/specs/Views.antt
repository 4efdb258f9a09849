-- Views: the items that contracts see in a circuit.
-- Source: this project's own.
use Rattle.std.specs.Prelude.{List}
use Rattle.stab_items.specs.Items.{OneItem, listed, Items}

-- the items of a circuit, which contracts see one by one
abbrev pub circuit_items : List OneItem → Items
circuit_items c = listed c
