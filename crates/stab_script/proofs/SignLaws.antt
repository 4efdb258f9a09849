-- Laws of signs: the strings of words have a letter for each qubit.
use Rattle.stab_script.proofs.Names.{◌≡◌, ◌<◌, ℕ, ◌+◌, ◌==◌, Bool, true, false, ◌&&◌, nat_lt, List, [], ◌∷◌, ◌++◌, All, length, map, take, set, get_or, refl, sym, ap, subst, ◌∙◌, arith, Ok, Err, ltb-true, eqb-false, take_more, take_more_set, take_all, map-append, All-cons, All-nil, list_all, Refusal, BadTarget, QubitOutOfRange, Letter, Factor, Signed, with_sign, is_inverted, string_of, product_of, ◌>>=◌, Gives, is_string_byte, letter_of_byte, lettered, string_within, string_without_sign}
use Rattle.std.specs.Prelude.{if◌then◌else◌, Result}

abbrev signed_with : Bool → List Letter → Signed
signed_with b letters = record { negative = b; letters = letters }

-- one letter more
pub letters_more : (letters : List Letter) (word : List ℕ) (q : ℕ) → q < length letters → q < length word → take q letters ≡ map letter_of_byte (take q word)
    → take (q + 1) (set letters q (letter_of_byte (get_or word q 0))) ≡ map letter_of_byte (take (q + 1) word)
letters_more letters word q h i e =
    take_more_set letters q (letter_of_byte (get_or word q 0)) h
    ∙ ap (λ l. l ++ letter_of_byte (get_or word q 0) ∷ []) e
    ∙ sym (ap (map letter_of_byte) (take_more word q 0 i) ∙ map-append letter_of_byte (take q word) (get_or word q 0 ∷ []))

-- all letters
pub letters_all : (n : ℕ) (word : List ℕ) (p : Signed) → length word ≡ n → p.negative ≡ false → length p.letters ≡ n → take n p.letters ≡ map letter_of_byte (take n word) → lettered n word ≡ Ok p
letters_all n word p size plus same e = by_test (length word == n) refl
  where
    whole : p.letters ≡ map letter_of_byte word
    whole = sym (take_all n p.letters (omega (arith, same))) ∙ e ∙ ap (map letter_of_byte) (take_all n word (omega (arith, size)))

    by_test : (b : Bool) → (length word == n) ≡ b → (if b then Ok (signed_with false (map letter_of_byte word)) else Err BadTarget) ≡ Ok p
    by_test true f = ap Ok (ap (λ l. signed_with false l) (sym whole) ∙ ap (λ b. signed_with b p.letters) (sym plus))
    by_test false f = absurd (eqb-false (length word) n f size)

-- factors below n are below the length of a string of n letters
pub all_within : (n m : ℕ) (factors : List Factor) → list_all (λ f. nat_lt f.qubit n) factors ≡ true → m ≡ n → All (λ f. f.qubit < m) factors
all_within n m [] e same = All-nil (λ (f : Factor). f.qubit < m)
all_within n m (f ∷ fs) e same = by_test (nat_lt f.qubit n) refl (λ rest. all_within n m fs rest same)
  where
    by_test : (b : Bool) → nat_lt f.qubit n ≡ b → (list_all (λ x. nat_lt x.qubit n) fs ≡ true → All (λ (x : Factor). x.qubit < m) fs) → All (λ (x : Factor). x.qubit < m) (f ∷ fs)
    by_test true t others =
        let lt = ltb-true f.qubit n t in
        let rest : list_all (λ x. nat_lt x.qubit n) fs ≡ true = sym (ap (λ b. b && list_all (λ x. nat_lt x.qubit n) fs) t) ∙ e in
        All-cons (λ (x : Factor). x.qubit < m) f fs (omega (arith, lt, same)) (others rest)
    by_test false t others = absurd (let no : list_all (λ x. nat_lt x.qubit n) (f ∷ fs) ≡ false = ap (λ b. b && list_all (λ x. nat_lt x.qubit n) fs) t in cc)

-- the string of factors that are all below n, made with as many letters, and then with the sign that their ! make
pub within_given : (n m : ℕ) (factors : List Factor) (inverted : Bool) (unsigned signed : Signed) → list_all (λ f. nat_lt f.qubit n) factors ≡ true → m ≡ n
    → inverted ≡ is_inverted factors → unsigned ≡ string_of m factors → signed ≡ with_sign inverted unsigned → string_within n factors ≡ Ok signed
within_given n m factors inverted unsigned signed within same bookmarks string sign =
    let whole : signed ≡ with_sign (is_inverted factors) (string_of n factors) =
    sign ∙ ap (λ s. with_sign inverted s) (string ∙ ap (λ k. string_of k factors) same) ∙ ap (λ b. with_sign b (string_of n factors)) bookmarks in
    ap (λ b. if b then Ok (with_sign (is_inverted factors) (string_of n factors)) else Err QubitOutOfRange) within ∙ ap Ok (sym whole)

-- if all bytes are letters the string is that of letters
pub letters_given : (n : ℕ) (word : List ℕ) (result : Result Signed Refusal) → list_all is_string_byte word ≡ true → Gives result (lettered n word) → Gives result (string_without_sign n word)
letters_given n word result all gives =
    subst (λ (x : Result Signed Refusal). Gives result x) (sym (ap (λ b. if b then lettered n word else (product_of word >>= λ factors. string_within n factors)) all)) gives
