-- Factors: the string of a product, one factor after another, and what it flips and is multiplied by.
use Rattle.stab_regions.proofs.Names.{◌≡◌, ℕ, zero, suc, ◌+◌, ◌<◌, refl, sym, ◌∙◌, ap, subst, arith, Bool, true, false, ◌||◌, List, [], ◌∷◌, ◌++◌, length, take, drop, drop-cons, get_or, set, replicate, ◌==◌, get_or-set_other, take-append-drop, eqb-false, Letter, I, ◌⊕◌, letter_product, Signed, single, anticommute, strings_anticommute, string_product, parity-comm, parity-false, string_product-assoc, string_product-blank, strings_anticommute-product, strings_anticommute-blank, letter_at, Factor, letter_of, is_on, names_twice, measured_product, length-string_of, or-left, or-right, with_factors, string_of, names_newest, product_where, odd, row, ShowsLetters, MovesLetters, multiplied, MovesRegion}
use Rattle.stab_regions.proofs.ReadLemmas.{length-times}
use Rattle.stab_regions.proofs.ShowLemmas.{newest-odd, earlier-shows}

-- a factor that follows on another qubit

on-middle : (q : ℕ) (gs : List Factor) (f : Factor) (rest : List Factor) → is_on q (gs ++ f ∷ rest) ≡ false → (f.qubit == q) ≡ false
on-middle q [] f rest e = or-left (f.qubit == q) (is_on q rest) e
on-middle q (g ∷ gs) f rest e = on-middle q gs f rest (or-right (g.qubit == q) (is_on q (gs ++ f ∷ rest)) e)

unequal-swapped : (a b : ℕ) → (a == b) ≡ false → (b == a) ≡ false
unequal-swapped a b e = grind arith

front-distinct : (fs : List Factor) (f : Factor) (rest : List Factor) → names_twice (fs ++ f ∷ rest) ≡ false → is_on f.qubit fs ≡ false
front-distinct [] f rest e = refl
front-distinct (g ∷ gs) f rest e =
    ap (λ b. b || is_on f.qubit gs)
    (unequal-swapped f.qubit g.qubit (on-middle g.qubit gs f rest (or-left (is_on g.qubit (gs ++ f ∷ rest)) (names_twice (gs ++ f ∷ rest)) e)))
    ∙ front-distinct gs f rest (or-right (is_on g.qubit (gs ++ f ∷ rest)) (names_twice (gs ++ f ∷ rest)) e)

-- its letter is put in last

with-last : (fs : List Factor) (f : Factor) (letters : List Letter) → with_factors (fs ++ f ∷ []) letters ≡ set (with_factors fs letters) f.qubit (letter_of f.letter)
with-last [] f letters = refl
with-last (g ∷ gs) f letters = with-last gs f (set letters g.qubit (letter_of g.letter))

pub letter-off : (q : ℕ) (fs : List Factor) (letters : List Letter) → is_on q fs ≡ false → letter_at (with_factors fs letters) q ≡ letter_at letters q
letter-off q [] letters e = refl
letter-off q (f ∷ fs) letters e =
    letter-off q fs (set letters f.qubit (letter_of f.letter)) (or-right (f.qubit == q) (is_on q fs) e)
    ∙ get_or-set_other letters f.qubit q (letter_of f.letter) I (λ same. eqb-false f.qubit q (or-left (f.qubit == q) (is_on q fs) e) (sym same))

pub blank-at : (n q : ℕ) → letter_at (replicate n I) q ≡ I
blank-at zero q = refl
blank-at (suc n) zero = refl
blank-at (suc n) (suc q) = blank-at n q

-- a letter that is put in if there is none is multiplied in

letter-alone : (l m : Letter) → m ≡ I → l ≡ letter_product l m
letter-alone l m e = grind arith

put-product : (n q : ℕ) (l : Letter) (letters : List Letter) → length letters ≡ n → letter_at letters q ≡ I
    → set letters q l ≡ string_product (set (replicate n I) q l) letters
put-product zero q l [] long e = refl
put-product zero q l (m ∷ ms) long e = absurd (omega arith)
put-product (suc n) q l [] long e = absurd (omega arith)
put-product (suc n) zero l (m ∷ ms) long e = λ i. letter-alone l m e i ∷ sym (string_product-blank n ms (omega arith)) i
put-product (suc n) (suc q) l (m ∷ ms) long e = ap (λ rest. m ∷ rest) (put-product n q l ms (omega arith) e)

pub string-last : (n : ℕ) (fs : List Factor) (f : Factor) → is_on f.qubit fs ≡ false
    → (string_of n (fs ++ f ∷ [])).letters ≡ string_product (single n f.qubit (letter_of f.letter)).letters (string_of n fs).letters
string-last n fs f e =
    with-last fs f (replicate n I)
    ∙ put-product n f.qubit (letter_of f.letter) (with_factors fs (replicate n I)) (length-string_of n fs)
    (letter-off f.qubit fs (replicate n I) e ∙ blank-at n f.qubit)

-- strings of these parities are multiplied by factors, one after another

abbrev pub by_product : ℕ → List Factor → List ℕ → ℕ → Signed → Signed
by_product n fs parities i s = product_where (odd i parities) (string_of n fs) s

pub by_product-none : (n : ℕ) (parities : List ℕ) (x z : List (List ℕ)) → MovesLetters n (by_product n [] parities) x z x z
by_product-none n parities x z i s long shows = same (odd i parities)
  where
    same : (b : Bool) → ShowsLetters i x z (product_where b (string_of n []) s).letters
    same true = subst (ShowsLetters i x z) (sym (string_product-blank n s.letters long)) shows
    same false = shows

pub by_product-more : (n : ℕ) (fs : List Factor) (f : Factor) (parities : List ℕ) (old_x old_z mid_x mid_z new_x new_z : List (List ℕ)) → is_on f.qubit fs ≡ false
    → MovesLetters n (by_product n fs parities) old_x old_z mid_x mid_z → MovesLetters n (multiplied n (letter_of f.letter) f.qubit parities) mid_x mid_z new_x new_z
    → MovesLetters n (by_product n (fs ++ f ∷ []) parities) old_x old_z new_x new_z
by_product-more n fs f parities old_x old_z mid_x mid_z new_x new_z distinct first next i s long shows =
    both (odd i parities)
    (next i (by_product n fs parities i s) (length-times n (odd i parities) (string_of n fs) s (length-string_of n fs) long) (first i s long shows))
  where
    both : (b : Bool) → ShowsLetters i new_x new_z (product_where b (single n f.qubit (letter_of f.letter)) (product_where b (string_of n fs) s)).letters
        → ShowsLetters i new_x new_z (product_where b (string_of n (fs ++ f ∷ [])) s).letters
    both true shows =
        subst (ShowsLetters i new_x new_z)
        (sym (ap (λ ls. string_product ls s.letters) (string-last n fs f distinct)
        ∙ string_product-assoc (single n f.qubit (letter_of f.letter)).letters (string_of n fs).letters s.letters))
        shows
    both false shows = shows

pub multiplied-as : (n m q p : ℕ) (l k : Letter) (parities : List ℕ) (old_x old_z new_x new_z : List (List ℕ)) → m ≡ n → l ≡ k → q ≡ p
    → MovesLetters m (multiplied m l q parities) old_x old_z new_x new_z → MovesLetters n (multiplied n k p parities) old_x old_z new_x new_z
multiplied-as n m q p l k parities old_x old_z new_x new_z em el eq h =
    subst (λ j. MovesLetters n (multiplied n k j parities) old_x old_z new_x new_z) eq
    (subst (λ x. MovesLetters n (multiplied n x q parities) old_x old_z new_x new_z) el
    (subst (λ j. MovesLetters j (multiplied j l q parities) old_x old_z new_x new_z) em h))

-- the newest record counts, whose outcome is that of the product
pub product-moves : (n : ℕ) (fs : List Factor) (inverted : Bool) (taken : List ℕ) (old_x old_z old new_x new_z new : List (List ℕ))
    → taken ≡ row old 0 → ((k : ℕ) → row new k ≡ row old (k + 1)) → MovesLetters n (by_product n fs taken) old_x old_z new_x new_z
    → MovesRegion n (measured_product fs inverted) old_x old_z old new_x new_z new
product-moves n fs inverted taken old_x old_z old new_x new_z new is others moves i r long shows =
    let counts : odd i taken ≡ names_newest r.looks ⊕ false =
    ap (odd i) is ∙ shows.looks 0 ∙ sym (newest-odd r.looks) ∙ sym (parity-false (names_newest r.looks)) in
    record {
      letters = letters-counted (odd i taken) _ _ counts (moves i r.string long shows.letters);
      looks = earlier-shows i true old new r.looks shows.looks others;
    }
  where
    -- the sign of what is multiplied does not matter
    letters-counted : (a b sign : Bool) → a ≡ b → ShowsLetters i new_x new_z (product_where a (string_of n fs) r.string).letters
        → ShowsLetters i new_x new_z (product_where b (string_of n fs) (record { negative = sign; letters = r.string.letters })).letters
    letters-counted true true sign e shows = shows
    letters-counted false false sign e shows = shows
    letters-counted true false sign e shows = cc
    letters-counted false true sign e shows = cc

-- what factors flip, one after another

pub flips-none : (n : ℕ) (s : Signed) → false ≡ anticommute (string_of n []) s
flips-none n s = sym (strings_anticommute-blank n s.letters)

pub flips-more : (n : ℕ) (fs : List Factor) (f : Factor) (s : Signed) → is_on f.qubit fs ≡ false
    → anticommute (string_of n fs) s ⊕ anticommute (single n f.qubit (letter_of f.letter)) s ≡ anticommute (string_of n (fs ++ f ∷ [])) s
flips-more n fs f s distinct =
    parity-comm (anticommute (string_of n fs) s) (anticommute (single n f.qubit (letter_of f.letter)) s)
    ∙ sym (strings_anticommute-product (single n f.qubit (letter_of f.letter)).letters (string_of n fs).letters s.letters)
    ∙ ap (λ ls. strings_anticommute ls s.letters) (sym (string-last n fs f distinct))

-- one more factor, which is on none of the qubits of those before it

pub site-distinct : (fs : List Factor) (k : ℕ) (d : Factor) → k < length fs → names_twice fs ≡ false → is_on (get_or fs k d).qubit (take k fs) ≡ false
site-distinct fs k d lt e =
    front-distinct (take k fs) (get_or fs k d) (drop (suc k) fs)
    (ap (λ rest. names_twice (take k fs ++ rest)) (sym (drop-cons fs k d lt)) ∙ ap names_twice (take-append-drop k fs) ∙ e)
