-- Laws of lines: the lines of strings determine the strings.
use Rattle.stab_commands.proofs.Names.{◌≡◌, refl, sym, ap, ap₂, ◌∙◌, ℕ, Bool, true, false, List, [], ◌∷◌, ◌++◌, append_assoc, arith, Letter, I, X, Y, Z, Signed, letters_text, line_of, lines_of}

-- the character of a sign
abbrev sign_character : Bool → ℕ
sign_character false = 43
sign_character true = 45

-- the character of a letter
abbrev letter_character : Letter → ℕ
letter_character I = 95
letter_character X = 88
letter_character Y = 89
letter_character Z = 90

-- signs with one character are the same
same_sign : (a b : Bool) → sign_character a ≡ sign_character b → a ≡ b
same_sign false false e = refl
same_sign false true e = absurd (omega arith)
same_sign true false e = absurd (omega arith)
same_sign true true e = refl

-- letters with one character are the same
same_letter : (x y : Letter) → letter_character x ≡ letter_character y → x ≡ y
same_letter I I e = refl
same_letter X X e = refl
same_letter Y Y e = refl
same_letter Z Z e = refl
same_letter I X e = absurd (omega arith)
same_letter I Y e = absurd (omega arith)
same_letter I Z e = absurd (omega arith)
same_letter X I e = absurd (omega arith)
same_letter X Y e = absurd (omega arith)
same_letter X Z e = absurd (omega arith)
same_letter Y I e = absurd (omega arith)
same_letter Y X e = absurd (omega arith)
same_letter Y Z e = absurd (omega arith)
same_letter Z I e = absurd (omega arith)
same_letter Z X e = absurd (omega arith)
same_letter Z Y e = absurd (omega arith)

-- no letter is a line end
no_end : (x : Letter) → letter_character x ≡ 10 → ⊥
no_end I e = omega arith
no_end X e = omega arith
no_end Y e = omega arith
no_end Z e = omega arith

-- the text of letters begins with the character of the first
first_letter : (x : Letter) (p : List Letter) (r : List ℕ) → letters_text (x ∷ p) ++ r ≡ letter_character x ∷ (letters_text p ++ r)
first_letter I p r = refl
first_letter X p r = refl
first_letter Y p r = refl
first_letter Z p r = refl

-- letters up to a line end are determined by their text, and so is what follows
letters_split : (p q : List Letter) (r s : List ℕ) → letters_text p ++ 10 ∷ r ≡ letters_text q ++ 10 ∷ s → (p ≡ q) × (r ≡ s)
letters_split [] [] r s e = let same : r ≡ s = cc in (refl, same)
letters_split [] (y ∷ q) r s e =
    let both : 10 ∷ r ≡ letter_character y ∷ (letters_text q ++ 10 ∷ s) = e ∙ first_letter y q (10 ∷ s) in
    let end : letter_character y ≡ 10 = cc in absurd (no_end y end)
letters_split (x ∷ p) [] r s e =
    let both : letter_character x ∷ (letters_text p ++ 10 ∷ r) ≡ 10 ∷ s = sym (first_letter x p (10 ∷ r)) ∙ e in
    let end : letter_character x ≡ 10 = cc in absurd (no_end x end)
letters_split (x ∷ p) (y ∷ q) r s e =
    let both : letter_character x ∷ (letters_text p ++ 10 ∷ r) ≡ letter_character y ∷ (letters_text q ++ 10 ∷ s) = sym (first_letter x p (10 ∷ r)) ∙ (e ∙ first_letter y q (10 ∷ s)) in
    let first : letter_character x ≡ letter_character y = cc in
    let rest : letters_text p ++ 10 ∷ r ≡ letters_text q ++ 10 ∷ s = cc in
    let later = letters_split p q r s rest in
    (ap₂ (λ a b. a ∷ b) (same_letter x y first) later.0, later.1)

-- a line begins with the character of the sign, and ends with a line end
line_parts : (n : Bool) (p : List Letter) (r : List ℕ) → line_of (record { negative = n; letters = p }) ++ r ≡ sign_character n ∷ (letters_text p ++ 10 ∷ r)
line_parts false p r = ap (λ l. 43 ∷ l) (append_assoc (letters_text p) (10 ∷ []) r)
line_parts true p r = ap (λ l. 45 ∷ l) (append_assoc (letters_text p) (10 ∷ []) r)

-- a line says its string, and what follows
line_split : (a b : Signed) (r s : List ℕ) → line_of a ++ r ≡ line_of b ++ s → (a ≡ b) × (r ≡ s)
line_split a b r s e =
    let both : sign_character a.negative ∷ (letters_text a.letters ++ 10 ∷ r) ≡ sign_character b.negative ∷ (letters_text b.letters ++ 10 ∷ s) =
    sym (line_parts a.negative a.letters r) ∙ (e ∙ line_parts b.negative b.letters s) in
    let first : sign_character a.negative ≡ sign_character b.negative = cc in
    let rest : letters_text a.letters ++ 10 ∷ r ≡ letters_text b.letters ++ 10 ∷ s = cc in
    let later = letters_split a.letters b.letters r s rest in
    (ap₂ (λ n l. record { negative = n; letters = l }) (same_sign a.negative b.negative first) later.0, later.1)

-- a line is not empty
no_line : (a : Signed) (r : List ℕ) → line_of a ++ r ≡ [] → ⊥
no_line a r e = let none : sign_character a.negative ∷ (letters_text a.letters ++ 10 ∷ r) ≡ [] = sym (line_parts a.negative a.letters r) ∙ e in cc

-- the lines of strings determine the strings
pub lines_report : (a b : List Signed) → lines_of a ≡ lines_of b → a ≡ b
lines_report [] [] e = refl
lines_report [] (y ∷ b) e = absurd (no_line y (lines_of b) (sym e))
lines_report (x ∷ a) [] e = absurd (no_line x (lines_of a) e)
lines_report (x ∷ a) (y ∷ b) e =
    let here = line_split x y (lines_of a) (lines_of b) e in
    ap₂ (λ row rows. row ∷ rows) here.0 (lines_report a b here.1)
