-- Factors: whether a string anticommutes with a product, by its factors one after another, and with one letter.
use Rattle.stab_frames.proofs.Names.{◌≡◌, ◌≢◌, ℕ, zero, suc, ◌<◌, refl, sym, ◌∙◌, ap, subst, Bool, true, false, ◌||◌, List, [], ◌∷◌, length, replicate, get_or, set, All, arith, ◌==◌, length-replicate, length-set, get_or-set_other, All-head, All-tail, Letter, I, ◌⊕◌, letters_anticommute, single, strings_anticommute, parity-false, parity-comm, parity-assoc, letters_anticommute-I, letters_anticommute-comm, strings_anticommute-comm, strings_anticommute-blank_right, one_letter-anticommute, get_or-blank, Factor, letter_of, is_on, names_twice, with_factors, string_of, or-left, or-right, factors_anticommute}

-- with one letter
pub single-anticommute : (n q : ℕ) (l : Letter) (f : List Letter) → length f ≡ n → q < n
    → strings_anticommute f (single n q l).letters ≡ letters_anticommute (get_or f q I) l
single-anticommute n q l f size lt =
    strings_anticommute-comm f (single n q l).letters
    ∙ one_letter-anticommute n q l f size lt
    ∙ letters_anticommute-comm l (get_or f q I)

-- with a string into which a letter is put instead of I
anticommute-set : (f p : List Letter) (q : ℕ) (l : Letter) → length p ≡ length f → q < length p → get_or p q I ≡ I
    → strings_anticommute f (set p q l) ≡ letters_anticommute (get_or f q I) l ⊕ strings_anticommute f p
anticommute-set [] p q l e lt blank = absurd (omega (arith, e))
anticommute-set (x ∷ f) [] q l e lt blank = absurd (omega (arith, e))
anticommute-set (x ∷ f) (y ∷ p) zero l e lt blank =
    ap (λ b. letters_anticommute x l ⊕ (b ⊕ strings_anticommute f p)) (sym (ap (letters_anticommute x) blank ∙ letters_anticommute-I x))
anticommute-set (x ∷ f) (y ∷ p) (suc q) l e lt blank =
    ap (λ b. letters_anticommute x y ⊕ b) (anticommute-set f p q l (omega (arith, e)) (omega arith) blank)
    ∙ sym (parity-assoc (letters_anticommute x y) (letters_anticommute (get_or f q I) l) (strings_anticommute f p))
    ∙ ap (λ b. b ⊕ strings_anticommute f p) (parity-comm (letters_anticommute x y) (letters_anticommute (get_or f q I) l))
    ∙ parity-assoc (letters_anticommute (get_or f q I) l) (letters_anticommute x y) (strings_anticommute f p)

on-itself : (q : ℕ) (f : Factor) (fs : List Factor) → f.qubit ≡ q → is_on q (f ∷ fs) ≡ true
on-itself q f fs e = grind (arith, e)

factors-set : (f p : List Letter) (fs : List Factor) → length p ≡ length f → All (λ x. x.qubit < length f) fs
    → ((q : ℕ) → is_on q fs ≡ true → get_or p q I ≡ I) → names_twice fs ≡ false
    → strings_anticommute f (with_factors fs p) ≡ factors_anticommute f fs ⊕ strings_anticommute f p
factors-set f p [] e fits blank distinct = refl
factors-set f p (x ∷ fs) e fits blank distinct =
    let lt : x.qubit < length f = All-head (λ (y : Factor). y.qubit < length f) x fs fits in
    factors-set f (set p x.qubit (letter_of x.letter)) fs (length-set p x.qubit (letter_of x.letter) ∙ e)
    (All-tail (λ (y : Factor). y.qubit < length f) x fs fits)
    (λ q on. get_or-set_other p x.qubit q (letter_of x.letter) I (other q on) ∙ blank q (later q on))
    (or-right (is_on x.qubit fs) (names_twice fs) distinct)
    ∙ ap (λ b. factors_anticommute f fs ⊕ b) (anticommute-set f p x.qubit (letter_of x.letter) e (omega (arith, e, lt)) (blank x.qubit (on-itself x.qubit x fs refl)))
    ∙ sym (parity-assoc (factors_anticommute f fs) (letters_anticommute (get_or f x.qubit I) (letter_of x.letter)) (strings_anticommute f p))
    ∙ ap (λ b. b ⊕ strings_anticommute f p) (parity-comm (factors_anticommute f fs) (letters_anticommute (get_or f x.qubit I) (letter_of x.letter)))
  where
    off : is_on x.qubit fs ≡ false
    off = or-left (is_on x.qubit fs) (names_twice fs) distinct

    other : (q : ℕ) → is_on q fs ≡ true → q ≢ x.qubit
    other q on same = let h : is_on x.qubit fs ≡ true = subst (λ k. is_on k fs ≡ true) same on in cc

    or-more : (a b : Bool) → b ≡ true → (a || b) ≡ true
    or-more false b h = h
    or-more true b h = refl

    later : (q : ℕ) → is_on q fs ≡ true → is_on q (x ∷ fs) ≡ true
    later q on = or-more (x.qubit == q) (is_on q fs) on

-- with a product on different qubits
pub factors-distinct : (n : ℕ) (f : List Letter) (fs : List Factor) → length f ≡ n → All (λ x. x.qubit < n) fs → names_twice fs ≡ false
    → strings_anticommute f (string_of n fs).letters ≡ factors_anticommute f fs
factors-distinct n f fs size fits distinct =
    factors-set f (replicate n I) fs (length-replicate n I ∙ sym size) (subst (λ k. All (λ x. x.qubit < k) fs) (sym size) fits)
    (λ q on. get_or-blank n q) distinct
    ∙ ap (λ b. factors_anticommute f fs ⊕ b) (strings_anticommute-blank_right n f)
    ∙ parity-false (factors_anticommute f fs)
