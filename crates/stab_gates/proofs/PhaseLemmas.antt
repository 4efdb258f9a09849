-- Powers of i: a commutative group, with the signs in it.
use Rattle.std.proofs.Common.{◌≡◌, ℕ, zero, suc, ◌+◌, ◌*◌, ◌/◌, ◌%◌, Bool, true, false, not, refl, sym, ◌∙◌, ap, arith}
use Rattle.std.proofs.Math.Nat.{mod-add-div}
use Rattle.std.specs.Bool.{Decides}
use Rattle.stab_gates.specs.declared.phase.Phase.{Phase}
use Rattle.stab_gates.specs.declared.phase.Phase.TheVariants.{Zero, Quarter, Half, ThreeQuarters}
use Rattle.stab_gates.specs.Phases.{phase_add, phase_of_sign, is_even, sign_of_phase, quarters, phase_inverse}
use Rattle.stab_gates.specs.Letters.{◌⊕◌}

-- a fact at each power of i
pub each_phase : (P : Phase → Type 0) → P Zero → P Quarter → P Half → P ThreeQuarters → (t : Phase) → P t
each_phase P a b c d Zero = a
each_phase P a b c d Quarter = b
each_phase P a b c d Half = c
each_phase P a b c d ThreeQuarters = d

-- a test of two powers that is true just at equal ones
pub determines_phases : (E : Phase → Phase → Bool)
    → E Zero Zero ≡ true → E Quarter Quarter ≡ true → E Half Half ≡ true → E ThreeQuarters ThreeQuarters ≡ true
    → E Zero Quarter ≡ false → E Zero Half ≡ false → E Zero ThreeQuarters ≡ false
    → E Quarter Zero ≡ false → E Quarter Half ≡ false → E Quarter ThreeQuarters ≡ false
    → E Half Zero ≡ false → E Half Quarter ≡ false → E Half ThreeQuarters ≡ false
    → E ThreeQuarters Zero ≡ false → E ThreeQuarters Quarter ≡ false → E ThreeQuarters Half ≡ false
    → (a b : Phase) → Decides (E a b) (a ≡ b)
determines_phases E zz qq hh tt zq zh zt qz qh qt hz hq ht tz tq th =
    each_phase (λ a. (b : Phase) → Decides (E a b) (a ≡ b))
    (each_phase (λ b. Decides (E Zero b) (Zero ≡ b)) (λ e. refl, λ e. zz) (λ e. cc, λ e. cc) (λ e. cc, λ e. cc) (λ e. cc, λ e. cc))
    (each_phase (λ b. Decides (E Quarter b) (Quarter ≡ b)) (λ e. cc, λ e. cc) (λ e. refl, λ e. qq) (λ e. cc, λ e. cc) (λ e. cc, λ e. cc))
    (each_phase (λ b. Decides (E Half b) (Half ≡ b)) (λ e. cc, λ e. cc) (λ e. cc, λ e. cc) (λ e. refl, λ e. hh) (λ e. cc, λ e. cc))
    (each_phase (λ b. Decides (E ThreeQuarters b) (ThreeQuarters ≡ b)) (λ e. cc, λ e. cc) (λ e. cc, λ e. cc) (λ e. cc, λ e. cc) (λ e. refl, λ e. tt))

pub phase_add-zero : (a : Phase) → phase_add a Zero ≡ a
phase_add-zero = each_phase (λ a. phase_add a Zero ≡ a) refl refl refl refl

pub phase_add-comm : (a b : Phase) → phase_add a b ≡ phase_add b a
phase_add-comm =
    each_phase (λ a. (b : Phase) → phase_add a b ≡ phase_add b a)
    (each_phase (λ b. phase_add Zero b ≡ phase_add b Zero) refl refl refl refl)
    (each_phase (λ b. phase_add Quarter b ≡ phase_add b Quarter) refl refl refl refl)
    (each_phase (λ b. phase_add Half b ≡ phase_add b Half) refl refl refl refl)
    (each_phase (λ b. phase_add ThreeQuarters b ≡ phase_add b ThreeQuarters) refl refl refl refl)

pub phase_add-assoc : (a b c : Phase) → phase_add (phase_add a b) c ≡ phase_add a (phase_add b c)
phase_add-assoc =
    each_phase (λ a. (b c : Phase) → phase_add (phase_add a b) c ≡ phase_add a (phase_add b c))
    (λ b c. refl)
    (at_each Quarter (third Quarter Zero refl refl refl refl) (third Quarter Quarter refl refl refl refl) (third Quarter Half refl refl refl refl) (third Quarter ThreeQuarters refl refl refl refl))
    (at_each Half (third Half Zero refl refl refl refl) (third Half Quarter refl refl refl refl) (third Half Half refl refl refl refl) (third Half ThreeQuarters refl refl refl refl))
    (at_each ThreeQuarters (third ThreeQuarters Zero refl refl refl refl) (third ThreeQuarters Quarter refl refl refl refl) (third ThreeQuarters Half refl refl refl refl) (third ThreeQuarters ThreeQuarters refl refl refl refl))
  where
    At : Phase → Phase → Phase → Type 0
    At a b c = phase_add (phase_add a b) c ≡ phase_add a (phase_add b c)

    third : (a b : Phase) → At a b Zero → At a b Quarter → At a b Half → At a b ThreeQuarters → (c : Phase) → At a b c
    third a b = each_phase (At a b)

    at_each : (a : Phase) → ((c : Phase) → At a Zero c) → ((c : Phase) → At a Quarter c) → ((c : Phase) → At a Half c) → ((c : Phase) → At a ThreeQuarters c)
        → (b c : Phase) → At a b c
    at_each a = each_phase (λ b. (c : Phase) → At a b c)

pub phase_add-mid : (a b c d : Phase) → phase_add (phase_add a b) (phase_add c d) ≡ phase_add (phase_add a c) (phase_add b d)
phase_add-mid a b c d =
    phase_add-assoc a b (phase_add c d) ∙ ap (phase_add a) (sym (phase_add-assoc b c d) ∙ ap (λ t. phase_add t d) (phase_add-comm b c) ∙ phase_add-assoc c b d)
    ∙ sym (phase_add-assoc a c (phase_add b d))

-- `a + (b + c)` is `b + (a + c)`
pub phase_add-left : (a b c : Phase) → phase_add a (phase_add b c) ≡ phase_add b (phase_add a c)
phase_add-left a b c = sym (phase_add-assoc a b c) ∙ ap (λ t. phase_add t c) (phase_add-comm a b) ∙ phase_add-assoc b a c

-- inverses

pub phase_add-back_left : (a : Phase) → phase_add (phase_inverse a) a ≡ Zero
phase_add-back_left = each_phase (λ a. phase_add (phase_inverse a) a ≡ Zero) refl refl refl refl

pub phase_add-back_right : (a : Phase) → phase_add a (phase_inverse a) ≡ Zero
phase_add-back_right = each_phase (λ a. phase_add a (phase_inverse a) ≡ Zero) refl refl refl refl

-- a sum is determined by one part and the other
pub phase_add-cancel : (a b c : Phase) → phase_add a b ≡ phase_add a c → b ≡ c
phase_add-cancel a b c e = sym (taken_back b) ∙ ap (phase_add (phase_inverse a)) e ∙ taken_back c
  where
    taken_back : (d : Phase) → phase_add (phase_inverse a) (phase_add a d) ≡ d
    taken_back d = sym (phase_add-assoc (phase_inverse a) a d) ∙ ap (λ t. phase_add t d) (phase_add-back_left a)

-- signs as powers of i

pub phase_of_sign-parity : (a b : Bool) → phase_of_sign (a ⊕ b) ≡ phase_add (phase_of_sign a) (phase_of_sign b)
phase_of_sign-parity false b = refl
phase_of_sign-parity true false = refl
phase_of_sign-parity true true = refl

pub phase_of_sign-twice : (a : Bool) → phase_add (phase_of_sign a) (phase_of_sign a) ≡ Zero
phase_of_sign-twice false = refl
phase_of_sign-twice true = refl

pub phase_of_sign-not : (a : Bool) → phase_of_sign (not a) ≡ phase_add Half (phase_of_sign a)
phase_of_sign-not false = refl
phase_of_sign-not true = refl

pub phase_of_sign-injective : (a b : Bool) → phase_of_sign a ≡ phase_of_sign b → a ≡ b
phase_of_sign-injective false false e = refl
phase_of_sign-injective false true e = cc
phase_of_sign-injective true false e = cc
phase_of_sign-injective true true e = refl

pub sign_of_phase-phase_of_sign : (a : Bool) → sign_of_phase (phase_of_sign a) ≡ a
sign_of_phase-phase_of_sign false = refl
sign_of_phase-phase_of_sign true = refl

-- even powers

pub is_even-phase_of_sign : (a : Bool) → is_even (phase_of_sign a) ≡ true
is_even-phase_of_sign false = refl
is_even-phase_of_sign true = refl

-- an even power is its sign
pub phase_of_sign-sign_of_phase : (t : Phase) → is_even t ≡ true → phase_of_sign (sign_of_phase t) ≡ t
phase_of_sign-sign_of_phase Zero e = refl
phase_of_sign-sign_of_phase Quarter e = cc
phase_of_sign-sign_of_phase Half e = refl
phase_of_sign-sign_of_phase ThreeQuarters e = cc

-- a sign does not change whether a power is even
pub is_even-sign : (a : Bool) (t : Phase) → is_even (phase_add (phase_of_sign a) t) ≡ is_even t
is_even-sign false t = refl
is_even-sign true t = each_phase (λ t. is_even (phase_add Half t) ≡ is_even t) refl refl refl refl t

-- a quarter changes it
pub is_even-quarter : (t : Phase) → is_even (phase_add Quarter t) ≡ not (is_even t)
is_even-quarter = each_phase (λ t. is_even (phase_add Quarter t) ≡ not (is_even t)) refl refl refl refl

-- a power is even if and only if its square is 1
pub is_even-twice : (t : Phase) (b : Bool) → phase_add t t ≡ phase_of_sign b → is_even t ≡ not b
is_even-twice Zero false e = refl
is_even-twice Zero true e = cc
is_even-twice Quarter false e = cc
is_even-twice Quarter true e = refl
is_even-twice Half false e = refl
is_even-twice Half true e = cc
is_even-twice ThreeQuarters false e = cc
is_even-twice ThreeQuarters true e = refl

-- powers of i, counted

pub quarters-add : (m n : ℕ) → quarters (m + n) ≡ phase_add (quarters m) (quarters n)
quarters-add zero n = let e : 0 + n ≡ n = omega arith in ap quarters e
quarters-add (suc m) n =
    let e : suc m + n ≡ suc (m + n) = omega arith in
    ap quarters e ∙ ap (phase_add Quarter) (quarters-add m n) ∙ sym (phase_add-assoc Quarter (quarters m) (quarters n))

quarters-fours : (n : ℕ) → quarters (4 * n) ≡ Zero
quarters-fours zero = refl
quarters-fours (suc n) =
    let e : 4 * suc n ≡ 4 + 4 * n = omega arith in
    ap quarters e ∙ quarters-add 4 (4 * n) ∙ quarters-fours n

-- a count may wrap at a multiple of 4
pub quarters-mod : (m n : ℕ) → quarters (n % (4 * m)) ≡ quarters n
quarters-mod m n =
    let whole : n % (4 * m) + 4 * (m * (n / (4 * m))) ≡ n = omega (arith, mod-add-div n (4 * m)) in
    sym (phase_add-zero (quarters (n % (4 * m))))
    ∙ ap (phase_add (quarters (n % (4 * m)))) (sym (quarters-fours (m * (n / (4 * m)))))
    ∙ sym (quarters-add (n % (4 * m)) (4 * (m * (n / (4 * m)))))
    ∙ ap quarters whole

-- a count modulo 4 determines the power
pub quarters_counted : (n m : ℕ) → n % 4 ≡ m → quarters m ≡ quarters n
quarters_counted n m e = ap quarters (sym e) ∙ quarters-mod 1 n
