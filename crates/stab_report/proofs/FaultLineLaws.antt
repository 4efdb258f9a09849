-- Laws of fault lines: texts one after another, and the line that they make.
use Rattle.stab_report.proofs.Names.{◌≡◌, refl, sym, ap, ℕ, ◌+◌, ◌<◌, true, false, ◌==◌, List, [], ◌∷◌, ◌++◌, length, map, drop, get_or, add-one, append_assoc, codes, decimal, arith, nat_tests, drop-cons, Fault, refusal_number, refusal_name, fault_line, refused_text, texts_joined, flat_map}

-- the text at a position, and those after it
pub joined-drop : {X : Type 0} (f : X → List ℕ) (xs : List X) (i : ℕ) (d : X) → i < length xs → texts_joined (map f (drop i xs)) ≡ f (get_or xs i d) ++ texts_joined (map f (drop (i + 1) xs))
joined-drop f xs i d h = rw (add-one) (ap (λ l. texts_joined (map f l)) (drop-cons xs i d h))

-- the line of a fault without a line
pub joined-whole : (f : Fault) (number name : List ℕ) → (f.line == 0) ≡ true → number ≡ decimal (refusal_number f.refusal) → name ≡ refusal_name f.refusal
    → texts_joined (codes "stabsim: " ∷ codes "refused " ∷ number ∷ codes " " ∷ name ∷ codes "\n" ∷ []) ≡ fault_line f
joined-whole f number name none is_number is_name = rw (is_number, is_name, none) refl

-- the line of a fault at a line
pub joined-line : (f : Fault) (line number name : List ℕ) → (f.line == 0) ≡ false → line ≡ decimal f.line → number ≡ decimal (refusal_number f.refusal) → name ≡ refusal_name f.refusal
    → texts_joined (codes "stabsim: " ∷ codes "line " ∷ line ∷ codes ": " ∷ codes "refused " ∷ number ∷ codes " " ∷ name ∷ codes "\n" ∷ []) ≡ fault_line f
joined-line f line number name some is_line is_number is_name = rw (is_line, is_number, is_name, some)
    (ap (λ l. codes "stabsim: line " ++ l) (sym (append_assoc (decimal f.line) (codes ": ") (refused_text f.refusal))))

-- a line that isn't 0
pub not_zero : (n : ℕ) → (n ≡ 0 → ⊥) → (n == 0) ≡ false
not_zero n h = grind (arith, nat_tests)

-- the text at a position, and those after it
pub flat-drop : {X : Type 0} (f : X → List ℕ) (xs : List X) (i : ℕ) (d : X) → i < length xs → flat_map f (drop i xs) ≡ f (get_or xs i d) ++ flat_map f (drop (i + 1) xs)
flat-drop f xs i d h = rw (add-one) (ap (λ l. flat_map f l) (drop-cons xs i d h))
