-- Records: the number of ones.
use Rattle.stab_run.proofs.Names.{◌≡◌, ◌+◌, Bool, true, false, List, [], ◌∷◌, ◌++◌, arith, ones}

pub ones_more : (bits : List Bool) (bit : Bool) → ones (bits ++ bit ∷ []) ≡ ones bits + ones (bit ∷ [])
ones_more [] bit = omega arith
ones_more (true ∷ bits) bit = omega (arith, ones_more bits bit)
ones_more (false ∷ bits) bit = ones_more bits bit

pub ones-append : (front back : List Bool) → ones (front ++ back) ≡ ones front + ones back
ones-append [] back = omega arith
ones-append (true ∷ front) back = omega (arith, ones-append front back)
ones-append (false ∷ front) back = ones-append front back
