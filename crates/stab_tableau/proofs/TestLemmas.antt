-- Tests: what the answers of tests that are joined say of each.
use Rattle.stab_tableau.proofs.Names.{◌≡◌, refl, sym, arith, Bool, true, false, not, ◌&&◌, ◌||◌, inl, inr, or_cases}
use Rattle.std.proofs.Common.{◌⊎◌}

pub and-left : (a b : Bool) → (a && b) ≡ true → a ≡ true
and-left true b e = refl
and-left false b e = e

pub and-right : (a b : Bool) → (a && b) ≡ true → b ≡ true
and-right true b e = e
and-right false b e = cc

pub or-false : (a : Bool) → (a || false) ≡ a
or-false false = refl
or-false true = refl

-- a test that rules itself out is false
pub not-true : (a : Bool) → (a ≡ true → ⊥) → a ≡ false
not-true false f = refl
not-true true f = absurd (f refl)

-- no test answers both
pub not_both : (b : Bool) → b ≡ false → b ≡ true → ⊥
not_both b e f = grind arith

-- two tests that imply each other are the same
pub same_test : (a b : Bool) → (a ≡ true → b ≡ true) → (b ≡ true → a ≡ true) → a ≡ b
same_test true b f g = sym (f refl)
same_test false false f g = refl
same_test false true f g = g refl

-- the sign + and a test

pub plain_parts : (x d : Bool) → (not x && d) ≡ true → (x ≡ false) × (d ≡ true)
plain_parts x d e = grind arith

pub plain_from : (x d : Bool) → x ≡ false → d ≡ true → (not x && d) ≡ true
plain_from x d e f = grind arith

pub plain_other : (x d : Bool) → (not x && d) ≡ true → (not (not x) && d) ≡ false
plain_other x d e = grind arith

-- the test of a projection

pub test_parts : (a m k : Bool) → (not a && (m || k)) ≡ true → (a ≡ false) × ((m ≡ true) ⊎ (k ≡ true))
test_parts false m k e = (refl, or_cases m k e)
test_parts true m k e = cc

pub test_left : (a m k : Bool) → a ≡ false → m ≡ true → (not a && (m || k)) ≡ true
test_left a m k e f = grind arith

pub test_right : (a m k : Bool) → a ≡ false → k ≡ true → (not a && (m || k)) ≡ true
test_right a m k e f = grind arith

pub test_either : (a m k : Bool) → a ≡ false → (m ≡ true) ⊎ (k ≡ true) → (not a && (m || k)) ≡ true
test_either a m k e (inl f) = test_left a m k e f
test_either a m k e (inr f) = test_right a m k e f
