-- Powers of i: their product, and the two that are signs.
-- Source: Gottesman 1997, whose Pauli group has the factors 1, -1, i and -i.
use Rattle.std.specs.Prelude.{ℕ, zero, suc, Bool, true, false}
use Rattle.stab_gates.specs.declared.phase.Phase.{Phase}
use Rattle.stab_gates.specs.declared.phase.Phase.TheVariants.{Zero, Quarter, Half, ThreeQuarters}

-- the product of two powers of i: the sum of their exponents modulo 4
abbrev pub phase_add : Phase → Phase → Phase
phase_add Zero b = b
phase_add Quarter Zero = Quarter
phase_add Quarter Quarter = Half
phase_add Quarter Half = ThreeQuarters
phase_add Quarter ThreeQuarters = Zero
phase_add Half Zero = Half
phase_add Half Quarter = ThreeQuarters
phase_add Half Half = Zero
phase_add Half ThreeQuarters = Quarter
phase_add ThreeQuarters Zero = ThreeQuarters
phase_add ThreeQuarters Quarter = Zero
phase_add ThreeQuarters Half = Quarter
phase_add ThreeQuarters ThreeQuarters = Half

-- the power of i of a sign, true for -
abbrev pub phase_of_sign : Bool → Phase
phase_of_sign false = Zero
phase_of_sign true = Half

-- whether the exponent is even, so that the power is a sign
abbrev pub is_even : Phase → Bool
is_even Zero = true
is_even Quarter = false
is_even Half = true
is_even ThreeQuarters = false

-- the sign of an even power, true for -; an odd power has no sign and is never asked for one: a product has a sign if its factors commute, and its power is even then (`EvenWhereCommuting`, `ProductsAreSigned`)
abbrev pub sign_of_phase : Phase → Bool
sign_of_phase Zero = false
sign_of_phase Quarter = false
sign_of_phase Half = true
sign_of_phase ThreeQuarters = true

-- the power of this many factors i
abbrev pub quarters : ℕ → Phase
quarters zero = Zero
quarters (suc n) = phase_add Quarter (quarters n)

-- the power that takes a power back to 1
abbrev pub phase_inverse : Phase → Phase
phase_inverse Zero = Zero
phase_inverse Quarter = ThreeQuarters
phase_inverse Half = Half
phase_inverse ThreeQuarters = Quarter
