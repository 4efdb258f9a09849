-- Stored paths: how the code stores a path.
-- Source: this project's own.
use Rattle.std.specs.Prelude.{◌≡◌, ◌≤◌, ◌-◌, ◌++◌, length, take, drop, replicate}
use Rattle.std.proofs.Common.{ap, sym, ◌∙◌, arith}
use Rattle.std.proofs.lemmas.List.{length-take-le, take-append-drop}
use Rattle.stab_items.specs.declared.path.Path.TheInside.{Inside}
use Rattle.stab_items.specs.Paths.{Path}

-- the path that is stored
abbrev pub path_of : Inside → Path
path_of p = record { blocks = take p.depth p.blocks; position = p.position }

-- there are at most 16 blocks, and zeros after them
pub record IsPaddedPath (p : Inside) : Type 0 where
  pub room : length p.blocks ≡ 16
  pub few : p.depth ≤ 16
  pub zeros : drop p.depth p.blocks ≡ replicate (16 - p.depth) 0

-- how a path is stored
abbrev pub stored_path : Path → Inside
stored_path p = record { blocks = p.blocks ++ replicate (16 - length p.blocks) 0; depth = length p.blocks; position = p.position }

-- a path is stored in one way
pub stored_path_of : (p : Inside) → IsPaddedPath p → stored_path (path_of p) ≡ p
stored_path_of p h =
    let depth : length (take p.depth p.blocks) ≡ p.depth = length-take-le p.depth p.blocks (omega (arith, h.few, h.room)) in
    let zeros : replicate (16 - length (take p.depth p.blocks)) 0 ≡ drop p.depth p.blocks = ap (λ n. replicate (16 - n) 0) depth ∙ sym h.zeros in
    λ i. record { blocks = (ap (λ l. take p.depth p.blocks ++ l) zeros ∙ take-append-drop p.depth p.blocks) i; depth = depth i; position = p.position }
