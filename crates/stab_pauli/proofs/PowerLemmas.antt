-- Powers of i before the bits of strings: what products add to them, and the signs that are left.
use Rattle.stab_pauli.proofs.Names.{◌≡◌, ℕ, zero, suc, ◌<◌, Bool, true, false, not, refl, sym, ◌∙◌, ap, List, [], ◌∷◌, ◌++◌, length, get_or, set, replicate, arith, list_any, Letter, I, X, Y, Z, Phase, Zero, Quarter, phase_add, phase_of_sign, is_even, sign_of_phase, phase_inverse, ◌⊕◌, letter_product, letter_phase, letters_anticommute, letter_power, Signed, with_sign, anticommute, product, product_phase, string_product, string_phase, strings_anticommute, has_x, product_times_i, with_letter, string_power, letters_meet, strings_meet, sign_power, power_of, IsSign, parity-assoc, parity-mid, phase_add-zero, phase_add-comm, phase_add-assoc, phase_add-mid, phase_add-left, phase_add-back_left, phase_add-back_right, phase_add-cancel, phase_of_sign-parity, phase_of_sign-injective, phase_of_sign-sign_of_phase, sign_of_phase-phase_of_sign, is_even-phase_of_sign, each_letter, by_letters}
use Rattle.stab_pauli.proofs.SignedLemmas.{is_even-product_phase, is_even-times_phase}

-- two letters

-- the powers of two letters and the sign of their bits that meet make up that of their product
letter_power-product : (a b : Letter)
    → phase_add (phase_add (letter_power a) (letter_power b)) (phase_of_sign (letters_meet a b)) ≡ phase_add (letter_phase a b) (letter_power (letter_product a b))
letter_power-product =
    by_letters (λ a b. phase_add (phase_add (letter_power a) (letter_power b)) (phase_of_sign (letters_meet a b)) ≡ phase_add (letter_phase a b) (letter_power (letter_product a b)))
    (λ b. phase_add-zero (letter_power b))
    (each_letter (λ a. phase_add (phase_add (letter_power a) (letter_power I)) (phase_of_sign (letters_meet a I)) ≡ phase_add (letter_phase a I) (letter_power (letter_product a I))) refl refl refl refl)
    refl refl refl refl refl refl refl refl refl

letters_anticommute-meet : (a b : Letter) → letters_anticommute a b ≡ letters_meet a b ⊕ letters_meet b a
letters_anticommute-meet =
    by_letters (λ a b. letters_anticommute a b ≡ letters_meet a b ⊕ letters_meet b a)
    (each_letter (λ b. letters_anticommute I b ≡ letters_meet I b ⊕ letters_meet b I) refl refl refl refl)
    (each_letter (λ a. letters_anticommute a I ≡ letters_meet a I ⊕ letters_meet I a) refl refl refl refl)
    refl refl refl refl refl refl refl refl refl

-- two strings

pub string_power-product : (p q : List Letter)
    → phase_add (phase_add (string_power p) (string_power q)) (phase_of_sign (strings_meet p q)) ≡ phase_add (string_phase p q) (string_power (string_product p q))
string_power-product [] q = phase_add-zero (string_power q)
string_power-product (x ∷ p) [] = phase_add-zero (phase_add (string_power (x ∷ p)) Zero) ∙ phase_add-zero (string_power (x ∷ p))
string_power-product (x ∷ p) (y ∷ q) =
    (λ i. phase_add (phase_add-mid (letter_power x) (string_power p) (letter_power y) (string_power q) i) (phase_of_sign-parity (letters_meet x y) (strings_meet p q) i))
    ∙ phase_add-mid (phase_add (letter_power x) (letter_power y)) (phase_add (string_power p) (string_power q)) (phase_of_sign (letters_meet x y)) (phase_of_sign (strings_meet p q))
    ∙ (λ i. phase_add (letter_power-product x y i) (string_power-product p q i))
    ∙ phase_add-mid (letter_phase x y) (letter_power (letter_product x y)) (string_phase p q) (string_power (string_product p q))

strings_meet-empty : (p : List Letter) → strings_meet p [] ≡ false
strings_meet-empty [] = refl
strings_meet-empty (x ∷ p) = refl

pub strings_anticommute-meet : (p q : List Letter) → strings_anticommute p q ≡ strings_meet p q ⊕ strings_meet q p
strings_anticommute-meet [] q = sym (strings_meet-empty q)
strings_anticommute-meet (x ∷ p) [] = refl
strings_anticommute-meet (x ∷ p) (y ∷ q) =
    (λ i. letters_anticommute-meet x y i ⊕ strings_anticommute-meet p q i)
    ∙ parity-mid (letters_meet x y) (letters_meet y x) (strings_meet p q) (strings_meet q p)

-- appended strings

pub strings_meet-append : (p q p' q' : List Letter) → length p ≡ length q → strings_meet (p ++ p') (q ++ q') ≡ strings_meet p q ⊕ strings_meet p' q'
strings_meet-append [] [] p' q' e = refl
strings_meet-append [] (y ∷ q) p' q' e = absurd (omega arith)
strings_meet-append (x ∷ p) [] p' q' e = absurd (omega arith)
strings_meet-append (x ∷ p) (y ∷ q) p' q' e =
    ap (λ t. letters_meet x y ⊕ t) (strings_meet-append p q p' q' (omega arith)) ∙ sym (parity-assoc (letters_meet x y) (strings_meet p q) (strings_meet p' q'))

pub string_power-append : (p q : List Letter) → string_power (p ++ q) ≡ phase_add (string_power p) (string_power q)
string_power-append [] q = refl
string_power-append (x ∷ p) q = ap (phase_add (letter_power x)) (string_power-append p q) ∙ sym (phase_add-assoc (letter_power x) (string_power p) (string_power q))

-- letters I

pub strings_meet-blank : (n : ℕ) (p : List Letter) → strings_meet (replicate n I) p ≡ false
strings_meet-blank zero p = refl
strings_meet-blank (suc n) [] = refl
strings_meet-blank (suc n) (x ∷ p) = strings_meet-blank n p

pub string_power-blank : (n : ℕ) → string_power (replicate n I) ≡ Zero
string_power-blank zero = refl
string_power-blank (suc n) = string_power-blank n

-- the sign that is left of a power

pub sign_power-left : (t : Phase) (p : List Letter) → phase_add (sign_power t p) (string_power p) ≡ t
sign_power-left t p =
    phase_add-comm (phase_add (phase_inverse (string_power p)) t) (string_power p)
    ∙ sym (phase_add-assoc (string_power p) (phase_inverse (string_power p)) t)
    ∙ ap (λ s. phase_add s t) (phase_add-back_right (string_power p))

sign_power-of : (t : Phase) (p : List Letter) → sign_power (phase_add t (string_power p)) p ≡ t
sign_power-of t p =
    phase_add-left (phase_inverse (string_power p)) t (string_power p)
    ∙ ap (phase_add t) (phase_add-back_left (string_power p)) ∙ phase_add-zero t

-- a power that leaves a sign is determined by it and the letters
pub power_determined : (t : Phase) (p : List Letter) → IsSign (sign_power t p) → t ≡ phase_add (phase_of_sign (sign_of_phase (sign_power t p))) (string_power p)
power_determined t p is = sym (sign_power-left t p) ∙ ap (λ s. phase_add s (string_power p)) (sym (phase_of_sign-sign_of_phase (sign_power t p) is))

pub sign_left : (s : Bool) (t : Phase) (p : List Letter) → t ≡ phase_add (phase_of_sign s) (string_power p) → sign_power t p ≡ phase_of_sign s
sign_left s t p e = ap (λ u. sign_power u p) e ∙ sign_power-of (phase_of_sign s) p

pub is_sign_left : (s : Bool) (t : Phase) (p : List Letter) → t ≡ phase_add (phase_of_sign s) (string_power p) → IsSign (sign_power t p)
is_sign_left s t p e = ap is_even (sign_left s t p e) ∙ is_even-phase_of_sign s

pub sign_of_left : (s : Bool) (t : Phase) (p : List Letter) → t ≡ phase_add (phase_of_sign s) (string_power p) → sign_of_phase (sign_power t p) ≡ s
sign_of_left s t p e = ap sign_of_phase (sign_left s t p e) ∙ sign_of_phase-phase_of_sign s

-- the powers of signed strings

-- if two have the same letters, the powers show the signs
pub power_of-determines : (v v' : Signed) → v.letters ≡ v'.letters → power_of v ≡ power_of v' → v.negative ≡ v'.negative
power_of-determines v v' el e =
    phase_of_sign-injective v.negative v'.negative
    (phase_add-cancel (string_power v.letters) (phase_of_sign v.negative) (phase_of_sign v'.negative)
    (phase_add-comm (string_power v.letters) (phase_of_sign v.negative) ∙ e ∙ ap (λ l. phase_add (phase_of_sign v'.negative) (string_power l)) (sym el)
    ∙ phase_add-comm (phase_of_sign v'.negative) (string_power v.letters)))

-- and their difference is that of the signs
pub powers_differ : (v v' : Signed) → v.letters ≡ v'.letters → sign_of_phase (phase_add (phase_inverse (power_of v)) (power_of v')) ≡ v.negative ⊕ v'.negative
powers_differ v v' el =
    ap (λ l. sign_of_phase (phase_add (phase_inverse (power_of v)) (phase_add (phase_of_sign v'.negative) (string_power l)))) (sym el)
    ∙ differ (string_power v.letters) v.negative v'.negative
  where
    differ : (t : Phase) (a b : Bool) → sign_of_phase (phase_add (phase_inverse (phase_add (phase_of_sign a) t)) (phase_add (phase_of_sign b) t)) ≡ a ⊕ b
    differ t a b = grind arith

power_of-factors : (v v' : Signed)
    → phase_add (phase_add (power_of v) (power_of v')) (phase_of_sign (strings_meet v.letters v'.letters)) ≡ phase_add (product_phase v v') (string_power (string_product v.letters v'.letters))
power_of-factors v v' =
    ap (λ t. phase_add t meet) (phase_add-mid (phase_of_sign v.negative) (string_power v.letters) (phase_of_sign v'.negative) (string_power v'.letters))
    ∙ phase_add-assoc signs (phase_add (string_power v.letters) (string_power v'.letters)) meet
    ∙ ap (phase_add signs) (string_power-product v.letters v'.letters)
    ∙ sym (phase_add-assoc signs (string_phase v.letters v'.letters) (string_power (string_product v.letters v'.letters)))
  where
    signs : Phase
    signs = phase_add (phase_of_sign v.negative) (phase_of_sign v'.negative)

    meet : Phase
    meet = phase_of_sign (strings_meet v.letters v'.letters)

-- of a product
pub power_of-product : (v v' : Signed) → anticommute v v' ≡ false
    → phase_add (phase_add (power_of v) (power_of v')) (phase_of_sign (strings_meet v.letters v'.letters)) ≡ power_of (product v v')
power_of-product v v' e =
    power_of-factors v v'
    ∙ ap (λ t. phase_add t (string_power (string_product v.letters v'.letters))) (sym (phase_of_sign-sign_of_phase (product_phase v v') (is_even-product_phase v v' ∙ ap not e)))

-- of i times a product
pub power_of-times_phase : (v v' : Signed) → anticommute v v' ≡ true
    → phase_add Quarter (phase_add (phase_add (power_of v) (power_of v')) (phase_of_sign (strings_meet v.letters v'.letters))) ≡ power_of (product_times_i v v')
power_of-times_phase v v' e =
    ap (phase_add Quarter) (power_of-factors v v')
    ∙ sym (phase_add-assoc Quarter (product_phase v v') (string_power (string_product v.letters v'.letters)))
    ∙ ap (λ t. phase_add t (string_power (string_product v.letters v'.letters))) (sym (phase_of_sign-sign_of_phase (phase_add Quarter (product_phase v v')) (is_even-times_phase v v' e)))

-- of a string whose sign was flipped
pub power_of-with_sign : (b : Bool) (v : Signed) → phase_add (power_of v) (phase_of_sign b) ≡ power_of (with_sign b v)
power_of-with_sign b v =
    phase_add-comm (power_of v) (phase_of_sign b)
    ∙ sym (phase_add-assoc (phase_of_sign b) (phase_of_sign v.negative) (string_power v.letters))
    ∙ ap (λ t. phase_add t (string_power v.letters)) (sym (phase_of_sign-parity b v.negative))

string_power-set : (p : List Letter) (q : ℕ) (x : Letter) → q < length p → phase_add (phase_inverse (letter_power (get_or p q I))) (phase_add (letter_power x) (string_power p)) ≡ string_power (set p q x)
string_power-set [] q x lt = absurd (omega arith)
string_power-set (y ∷ p) zero x lt =
    phase_add-left (phase_inverse (letter_power y)) (letter_power x) (phase_add (letter_power y) (string_power p))
    ∙ ap (phase_add (letter_power x))
    (sym (phase_add-assoc (phase_inverse (letter_power y)) (letter_power y) (string_power p)) ∙ ap (λ t. phase_add t (string_power p)) (phase_add-back_left (letter_power y)))
string_power-set (y ∷ p) (suc q) x lt =
    ap (phase_add (phase_inverse (letter_power (get_or p q I)))) (phase_add-left (letter_power x) (letter_power y) (string_power p))
    ∙ phase_add-left (phase_inverse (letter_power (get_or p q I))) (letter_power y) (phase_add (letter_power x) (string_power p))
    ∙ ap (phase_add (letter_power y)) (string_power-set p q x (omega arith))

-- of a string with another letter
pub power_of-with_letter : (v : Signed) (q : ℕ) (x : Letter) → q < length v.letters
    → phase_add (phase_inverse (letter_power (get_or v.letters q I))) (phase_add (letter_power x) (power_of v)) ≡ power_of (with_letter q x v)
power_of-with_letter v q x lt =
    ap (phase_add (phase_inverse (letter_power (get_or v.letters q I)))) (phase_add-left (letter_power x) (phase_of_sign v.negative) (string_power v.letters))
    ∙ phase_add-left (phase_inverse (letter_power (get_or v.letters q I))) (phase_of_sign v.negative) (phase_add (letter_power x) (string_power v.letters))
    ∙ ap (phase_add (phase_of_sign v.negative)) (string_power-set v.letters q x lt)

-- letters that have no X part take no power of i
string_power-fixed : (p : List Letter) → list_any has_x p ≡ false → string_power p ≡ Zero
string_power-fixed [] e = refl
string_power-fixed (I ∷ p) e = string_power-fixed p e
string_power-fixed (X ∷ p) e = cc
string_power-fixed (Y ∷ p) e = cc
string_power-fixed (Z ∷ p) e = string_power-fixed p e

-- so the power is the sign
pub fixed_sign : (v : Signed) → list_any has_x v.letters ≡ false → sign_of_phase (power_of v) ≡ v.negative
fixed_sign v e =
    ap (λ t. sign_of_phase (phase_add (phase_of_sign v.negative) t)) (string_power-fixed v.letters e)
    ∙ ap sign_of_phase (phase_add-zero (phase_of_sign v.negative)) ∙ sign_of_phase-phase_of_sign v.negative
