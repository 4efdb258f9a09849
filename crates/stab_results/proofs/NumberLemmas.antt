-- How large the number of some binary digits is.
use Rattle.std.proofs.Common.{◌<◌, ◌≤◌, ◌+◌, ◌*◌, ◌^◌, Bool, true, false, List, [], ◌∷◌, length, arith}
use Rattle.std.proofs.Math.Nat.{pow-succ', pow-le-pow_right}
use Rattle.stab_results.specs.Formats.{number}

-- n binary digits stand for a number below 2 ^ n
pub number_below : (bits : List Bool) → number bits < 2 ^ length bits
number_below [] = omega arith
number_below (false ∷ bits) = omega (arith, number_below bits, pow-succ' 2 (length bits))
number_below (true ∷ bits) = omega (arith, number_below bits, pow-succ' 2 (length bits))

-- seven binary digits leave room for one more in a byte
pub number_small : (bits : List Bool) → length bits ≤ 7 → 2 * number bits + 1 < 256
number_small bits short =
    let most : 2 ^ length bits ≤ 2 ^ 7 = pow-le-pow_right {n = 2} (omega arith) short in
    omega (arith, number_below bits)
