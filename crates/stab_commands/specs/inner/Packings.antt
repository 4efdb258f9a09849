-- Packings: the bytes into which the bits of a lane are packed.
-- Source: the result formats `01` and `b8`.
use Rattle.std.specs.Prelude.{ℕ, Bool, List}
use Rattle.stab_results.specs.Formats.{f01_bytes, b8_bytes}
use Rattle.stab_commands.specs.declared.packed.Packing.{Packing}
use Rattle.stab_commands.specs.declared.packed.Packing.TheVariants.{Line, Bytes}

-- the bytes of a lane, by its bits
abbrev pub packed_bytes : Packing → List Bool → List ℕ
packed_bytes Line bits = f01_bytes bits
packed_bytes Bytes bits = b8_bytes bits
