-- Letters: the laws of their table, by cases.
use Rattle.std.proofs.Common.{◌≡◌, true, false, refl, sym, ◌∙◌, ap}
use Rattle.stab_gates.specs.declared.letter.Letter.{Letter}
use Rattle.stab_gates.specs.declared.letter.Letter.TheVariants.{I, X, Y, Z}
use Rattle.stab_gates.specs.declared.phase.Phase.TheVariants.{Zero}
use Rattle.stab_gates.specs.Phases.{phase_add, phase_of_sign}
use Rattle.stab_gates.specs.Letters.{◌⊕◌, letter_product, letter_phase, letters_anticommute}
use Rattle.stab_gates.proofs.ParityLemmas.{parity-false}
use Rattle.stab_gates.proofs.PhaseLemmas.{phase_add-zero}

-- a fact at each letter
pub each_letter : (P : Letter → Type 0) → P I → P X → P Y → P Z → (l : Letter) → P l
each_letter P a b c d I = a
each_letter P a b c d X = b
each_letter P a b c d Y = c
each_letter P a b c d Z = d

-- a fact at each pair of letters other than I, and where one is I
pub by_letters : (P : Letter → Letter → Type 0)
    → ((b : Letter) → P I b) → ((a : Letter) → P a I)
    → P X X → P X Y → P X Z → P Y X → P Y Y → P Y Z → P Z X → P Z Y → P Z Z
    → (a b : Letter) → P a b
by_letters P l r xx xy xz yx yy yz zx zy zz a b =
    each_letter (λ a. (b : Letter) → P a b) l
    (each_letter (P X) (r X) xx xy xz) (each_letter (P Y) (r Y) yx yy yz) (each_letter (P Z) (r Z) zx zy zz) a b

pub letter_product-I : (a : Letter) → letter_product a I ≡ a
letter_product-I = each_letter (λ a. letter_product a I ≡ a) refl refl refl refl

pub letter_product-self : (a : Letter) → letter_product a a ≡ I
letter_product-self = each_letter (λ a. letter_product a a ≡ I) refl refl refl refl

pub letter_phase-I : (a : Letter) → letter_phase a I ≡ Zero
letter_phase-I = each_letter (λ a. letter_phase a I ≡ Zero) refl refl refl refl

pub letter_phase-self : (a : Letter) → letter_phase a a ≡ Zero
letter_phase-self = each_letter (λ a. letter_phase a a ≡ Zero) refl refl refl refl

pub letters_anticommute-I : (a : Letter) → letters_anticommute a I ≡ false
letters_anticommute-I = each_letter (λ a. letters_anticommute a I ≡ false) refl refl refl refl

pub letters_anticommute-self : (a : Letter) → letters_anticommute a a ≡ false
letters_anticommute-self = each_letter (λ a. letters_anticommute a a ≡ false) refl refl refl refl

pub letter_product-comm : (a b : Letter) → letter_product a b ≡ letter_product b a
letter_product-comm =
    by_letters (λ a b. letter_product a b ≡ letter_product b a)
    (λ b. sym (letter_product-I b)) letter_product-I
    refl refl refl refl refl refl refl refl refl

pub letters_anticommute-comm : (a b : Letter) → letters_anticommute a b ≡ letters_anticommute b a
letters_anticommute-comm =
    by_letters (λ a b. letters_anticommute a b ≡ letters_anticommute b a)
    (λ b. sym (letters_anticommute-I b)) letters_anticommute-I
    refl refl refl refl refl refl refl refl refl

-- the order of two letters matters by a sign if they anticommute
pub letter_phase-swap : (a b : Letter) → letter_phase a b ≡ phase_add (phase_of_sign (letters_anticommute a b)) (letter_phase b a)
letter_phase-swap =
    by_letters (λ a b. letter_phase a b ≡ phase_add (phase_of_sign (letters_anticommute a b)) (letter_phase b a))
    (λ b. sym (letter_phase-I b))
    (each_letter (λ a. letter_phase a I ≡ phase_add (phase_of_sign (letters_anticommute a I)) (letter_phase I a)) refl refl refl refl)
    refl refl refl refl refl refl refl refl refl

-- the power of i of two letters squares to the sign of their order
pub letter_phase-twice : (a b : Letter) → phase_add (letter_phase a b) (letter_phase a b) ≡ phase_of_sign (letters_anticommute a b)
letter_phase-twice =
    by_letters (λ a b. phase_add (letter_phase a b) (letter_phase a b) ≡ phase_of_sign (letters_anticommute a b))
    (λ b. refl)
    (each_letter (λ a. phase_add (letter_phase a I) (letter_phase a I) ≡ phase_of_sign (letters_anticommute a I)) refl refl refl refl)
    refl refl refl refl refl refl refl refl refl

-- three letters

-- a fact at each third letter, and at each pair before it
pub by_third : (P : Letter → Letter → Letter → Type 0)
    → ((b c : Letter) → P I b c) → ((a c : Letter) → P a I c)
    → ((a b : Letter) → P a b I)
    → P X X X → P X X Y → P X X Z → P X Y X → P X Y Y → P X Y Z → P X Z X → P X Z Y → P X Z Z
    → P Y X X → P Y X Y → P Y X Z → P Y Y X → P Y Y Y → P Y Y Z → P Y Z X → P Y Z Y → P Y Z Z
    → P Z X X → P Z X Y → P Z X Z → P Z Y X → P Z Y Y → P Z Y Z → P Z Z X → P Z Z Y → P Z Z Z
    → (a b c : Letter) → P a b c
by_third P first second third xxx xxy xxz xyx xyy xyz xzx xzy xzz yxx yxy yxz yyx yyy yyz yzx yzy yzz zxx zxy zxz zyx zyy zyz zzx zzy zzz =
    by_letters (λ a b. (c : Letter) → P a b c) first second
    (last X X xxx xxy xxz) (last X Y xyx xyy xyz) (last X Z xzx xzy xzz)
    (last Y X yxx yxy yxz) (last Y Y yyx yyy yyz) (last Y Z yzx yzy yzz)
    (last Z X zxx zxy zxz) (last Z Y zyx zyy zyz) (last Z Z zzx zzy zzz)
  where
    last : (a b : Letter) → P a b X → P a b Y → P a b Z → (c : Letter) → P a b c
    last a b = each_letter (P a b) (third a b)

pub letter_product-assoc : (a b c : Letter) → letter_product (letter_product a b) c ≡ letter_product a (letter_product b c)
letter_product-assoc =
    by_third (λ a b c. letter_product (letter_product a b) c ≡ letter_product a (letter_product b c))
    (λ b c. refl)
    (λ a c. ap (λ l. letter_product l c) (letter_product-I a))
    (λ a b. letter_product-I (letter_product a b) ∙ ap (letter_product a) (sym (letter_product-I b)))
    refl refl refl refl refl refl refl refl refl
    refl refl refl refl refl refl refl refl refl
    refl refl refl refl refl refl refl refl refl

-- the powers of i of a product of three letters do not depend on its brackets
pub letter_phase-assoc : (a b c : Letter)
    → phase_add (letter_phase a b) (letter_phase (letter_product a b) c) ≡ phase_add (letter_phase b c) (letter_phase a (letter_product b c))
letter_phase-assoc =
    by_third (λ a b c. phase_add (letter_phase a b) (letter_phase (letter_product a b) c) ≡ phase_add (letter_phase b c) (letter_phase a (letter_product b c)))
    (λ b c. sym (phase_add-zero (letter_phase b c)))
    (λ a c. (λ i. phase_add (letter_phase-I a i) (letter_phase (letter_product-I a i) c)))
    (λ a b. ap (phase_add (letter_phase a b)) (letter_phase-I (letter_product a b)) ∙ phase_add-zero (letter_phase a b)
    ∙ (λ i. phase_add (sym (letter_phase-I b) i) (letter_phase a (sym (letter_product-I b) i))))
    refl refl refl refl refl refl refl refl refl
    refl refl refl refl refl refl refl refl refl
    refl refl refl refl refl refl refl refl refl

pub letters_anticommute-product : (a b c : Letter)
    → letters_anticommute (letter_product a b) c ≡ letters_anticommute a c ⊕ letters_anticommute b c
letters_anticommute-product =
    by_third (λ a b c. letters_anticommute (letter_product a b) c ≡ letters_anticommute a c ⊕ letters_anticommute b c)
    (λ b c. refl)
    (λ a c. ap (λ l. letters_anticommute l c) (letter_product-I a) ∙ sym (parity-false (letters_anticommute a c)))
    (λ a b. letters_anticommute-I (letter_product a b) ∙ (λ i. sym (letters_anticommute-I a) i ⊕ sym (letters_anticommute-I b) i))
    refl refl refl refl refl refl refl refl refl
    refl refl refl refl refl refl refl refl refl
    refl refl refl refl refl refl refl refl refl

-- a letter is determined by whether it anticommutes with X and with Z
pub letters_anticommute-determines : (a b : Letter) → letters_anticommute a X ≡ letters_anticommute b X → letters_anticommute a Z ≡ letters_anticommute b Z → a ≡ b
letters_anticommute-determines =
    each_letter (λ a. (b : Letter) → letters_anticommute a X ≡ letters_anticommute b X → letters_anticommute a Z ≡ letters_anticommute b Z → a ≡ b)
    (each_letter (λ b. false ≡ letters_anticommute b X → false ≡ letters_anticommute b Z → I ≡ b) (λ x z. refl) (λ x z. cc) (λ x z. cc) (λ x z. cc))
    (each_letter (λ b. false ≡ letters_anticommute b X → true ≡ letters_anticommute b Z → X ≡ b) (λ x z. cc) (λ x z. refl) (λ x z. cc) (λ x z. cc))
    (each_letter (λ b. true ≡ letters_anticommute b X → true ≡ letters_anticommute b Z → Y ≡ b) (λ x z. cc) (λ x z. cc) (λ x z. refl) (λ x z. cc))
    (each_letter (λ b. true ≡ letters_anticommute b X → false ≡ letters_anticommute b Z → Z ≡ b) (λ x z. cc) (λ x z. cc) (λ x z. cc) (λ x z. refl))
