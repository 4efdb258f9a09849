-- Clauses: which assignments meet those of sums and of parities.
use Rattle.stab_search.proofs.Names.{◌≡◌, ℕ, zero, suc, ◌+◌, ◌<◌, ◌≤◌, refl, sym, ◌∙◌, subst, ap, arith, Bool, true, false, not, List, [], ◌∷◌, ◌++◌, length, ◌&&◌, ◌||◌, map, nat_lt, cond, false≢true, and_parts, list_all-append, All, All-nil, All-cons, All-append, All-head, All-tail, or_right, filter, flat_map, list_all, list_any, ◌⊕◌, Literal, Is, IsNot, Sum, holds, meets, IsVariableWithin, AreSums, IsSumAt, AreFrom, variable_value, parity_variable, sum_clauses, is_false, variables_of, one_of}
use Rattle.std.proofs.lemmas.Bool.{lt-ltb}
use Rattle.stab_search.proofs.ListLemmas.{by-bit}

-- what is not true is false
not-false : (b : Bool) → (not b || false) ≡ true → b ≡ false
not-false false is = refl
not-false true is = sym is

false-not : (b : Bool) → b ≡ false → (not b || false) ≡ true
false-not b is = ap (λ x. not x || false) is

-- the clauses of a sum say that it is one
four : (l r b : Bool) → ((not l || (not r || (not b || false))) && ((l || (r || (not b || false))) && ((l || (not r || (b || false))) && ((not l || (r || (b || false))) && true)))) ≡ true → b ≡ l ⊕ r
four false false false is = refl
four false false true is = sym is
four false true false is = is
four false true true is = refl
four true false false is = is
four true false true is = refl
four true true false is = refl
four true true true is = sym is

four-met : (l r b : Bool) → b ≡ l ⊕ r → ((not l || (not r || (not b || false))) && ((l || (r || (not b || false))) && ((l || (not r || (b || false))) && ((not l || (r || (b || false))) && true)))) ≡ true
four-met false false false is = refl
four-met false false true is = sym is
four-met false true false is = is
four-met false true true is = refl
four-met true false false is = is
four-met true false true is = refl
four-met true true false is = refl
four-met true true true is = sym is

pub sums-met : (a : ℕ → Bool) (sums : List Sum) → AreSums a sums → meets a (flat_map sum_clauses sums) ≡ true
sums-met a [] are = refl
sums-met a (s ∷ ss) are =
    list_all-append (list_any (holds a)) (sum_clauses s) (flat_map sum_clauses ss)
    ∙ ap (λ b. b && meets a (flat_map sum_clauses ss)) (four-met (a s.left) (a s.right) (a s.both) are.0) ∙ sums-met a ss are.1

pub met-sums : (a : ℕ → Bool) (sums : List Sum) → meets a (flat_map sum_clauses sums) ≡ true → AreSums a sums
met-sums a [] met = tt
met-sums a (s ∷ ss) met =
    let parts = and_parts _ _ (sym (list_all-append (list_any (holds a)) (sum_clauses s) (flat_map sum_clauses ss)) ∙ met) in
    (four (a s.left) (a s.right) (a s.both) parts.0, met-sums a ss parts.1)

-- the variables of parities, one after another
pub variables-more : (v : ℕ) (ps : List ℕ) → variables_of (suc v ∷ ps) ≡ suc v ∷ variables_of ps
variables-more v ps = ap (λ t. cond t (suc v ∷ variables_of ps) (variables_of ps)) (lt-ltb 0 (suc v) (omega arith))

more-met : (a : ℕ → Bool) (v : ℕ) (ps : List ℕ) → meets a (map is_false (variables_of (suc v ∷ ps))) ≡ true → ((not (a (suc v)) || false) ≡ true) × (meets a (map is_false (variables_of ps)) ≡ true)
more-met a v ps met = and_parts _ _ (sym (ap (λ l. meets a (map is_false l)) (variables-more v ps)) ∙ met)

-- whether one of the variables of parities is true
abbrev pub has_true : (ℕ → Bool) → List ℕ → Bool
has_true a ps = list_any (holds a) (map (λ v. Is v) (variables_of ps))

true-more : (a : ℕ → Bool) (v : ℕ) (ps : List ℕ) → has_true a (suc v ∷ ps) ≡ (a (suc v) || has_true a ps)
true-more a v ps = ap (λ l. list_any (holds a) (map (λ v. Is v) l)) (variables-more v ps)

-- what the clauses that variables are false say of parities
pub met-false : (a : ℕ → Bool) (ps : List ℕ) → meets a (map is_false (variables_of ps)) ≡ true → (i : ℕ) → variable_value a (parity_variable ps i) ≡ false
met-false a [] met i = refl
met-false a (zero ∷ ps) met zero = refl
met-false a (zero ∷ ps) met (suc i) = met-false a ps met i
met-false a (suc v ∷ ps) met zero = not-false (a (suc v)) (more-met a v ps met).0
met-false a (suc v ∷ ps) met (suc i) = met-false a ps (more-met a v ps met).1 i

pub false-met : (a : ℕ → Bool) (ps : List ℕ) → ((i : ℕ) → variable_value a (parity_variable ps i) ≡ false) → meets a (map is_false (variables_of ps)) ≡ true
false-met a [] are = refl
false-met a (zero ∷ ps) are = false-met a ps (λ i. are (suc i))
false-met a (suc v ∷ ps) are =
    ap (λ l. meets a (map is_false l)) (variables-more v ps)
    ∙ ap (λ b. b && meets a (map is_false (variables_of ps))) (false-not (a (suc v)) (are zero)) ∙ false-met a ps (λ i. are (suc i))

-- what the clause says that one of some parities is true
pub met-one : (a : ℕ → Bool) (ps : List ℕ) → has_true a ps ≡ true → (i : ℕ) × (variable_value a (parity_variable ps i) ≡ true)
met-one a [] met = absurd (false≢true met)
met-one a (zero ∷ ps) met = let found = met-one a ps met in (suc found.0, found.1)
met-one a (suc v ∷ ps) met =
    by-bit (a (suc v)) (λ is. (zero, is))
    (λ is. let found = met-one a ps (sym (ap (λ b. b || has_true a ps) is) ∙ sym (true-more a v ps) ∙ met) in (suc found.0, found.1))

pub one-met : (a : ℕ → Bool) (ps : List ℕ) (i : ℕ) → variable_value a (parity_variable ps i) ≡ true → has_true a ps ≡ true
one-met a [] i is = absurd (false≢true is)
one-met a (zero ∷ ps) zero is = absurd (false≢true is)
one-met a (zero ∷ ps) (suc i) is = one-met a ps i is
one-met a (suc v ∷ ps) zero is = true-more a v ps ∙ ap (λ b. b || has_true a ps) is
one-met a (suc v ∷ ps) (suc i) is = true-more a v ps ∙ or_right (a (suc v)) (has_true a ps) (one-met a ps i is)

-- which variables the clauses have
two : (n : ℕ) (x : Literal) → IsVariableWithin n x → All (IsVariableWithin n) (x ∷ [])
two n x p = All-cons (IsVariableWithin n) x [] p (All-nil (IsVariableWithin n))

three : (n : ℕ) (x y z : Literal) → IsVariableWithin n x → IsVariableWithin n y → IsVariableWithin n z → All (IsVariableWithin n) (x ∷ y ∷ z ∷ [])
three n x y z p q r = All-cons (IsVariableWithin n) x (y ∷ z ∷ []) p (All-cons (IsVariableWithin n) y (z ∷ []) q (two n z r))

four-within : (n : ℕ) (w x y z : List Literal) → All (IsVariableWithin n) w → All (IsVariableWithin n) x → All (IsVariableWithin n) y → All (IsVariableWithin n) z → All (All (IsVariableWithin n)) (w ∷ x ∷ y ∷ z ∷ [])
four-within n w x y z p q r s =
    All-cons (All (IsVariableWithin n)) w (x ∷ y ∷ z ∷ []) p
    (All-cons (All (IsVariableWithin n)) x (y ∷ z ∷ []) q
    (All-cons (All (IsVariableWithin n)) y (z ∷ []) r
    (All-cons (All (IsVariableWithin n)) z [] s (All-nil (All (IsVariableWithin n))))))

sum-within : (n v : ℕ) (s : Sum) → IsSumAt v s → v ≤ n → All (All (IsVariableWithin n)) (sum_clauses s)
sum-within n v s is less =
    four-within n (IsNot s.left ∷ IsNot s.right ∷ IsNot s.both ∷ []) (Is s.left ∷ Is s.right ∷ IsNot s.both ∷ []) (Is s.left ∷ IsNot s.right ∷ Is s.both ∷ []) (IsNot s.left ∷ Is s.right ∷ Is s.both ∷ [])
    (three n (IsNot s.left) (IsNot s.right) (IsNot s.both) left right both) (three n (Is s.left) (Is s.right) (IsNot s.both) left right both)
    (three n (Is s.left) (IsNot s.right) (Is s.both) left right both) (three n (IsNot s.left) (Is s.right) (Is s.both) left right both)
  where
    left : (0 < s.left) × (s.left ≤ n)
    left = (is.left.0, omega (arith, is.left.1, less))

    right : (0 < s.right) × (s.right ≤ n)
    right = (is.right.0, omega (arith, is.right.1, less))

    both : (0 < s.both) × (s.both ≤ n)
    both = (omega (arith, is.both, is.left.1), omega (arith, is.both, less))

pub sums-within : (n first : ℕ) (sums : List Sum) → AreFrom first sums → first + length sums ≤ n + 1 → All (All (IsVariableWithin n)) (flat_map sum_clauses sums)
sums-within n first [] are less = All-nil (All (IsVariableWithin n))
sums-within n first (s ∷ ss) are less =
    All-append (All (IsVariableWithin n)) (sum_clauses s) (flat_map sum_clauses ss) (sum-within n first s are.0 (omega (arith, less))) (sums-within n (first + 1) ss are.1 (omega (arith, less)))

-- a variable is one of this many
abbrev pub IsIn : ℕ → ℕ → Type 0
IsIn n v = (0 < v) × (v ≤ n)

pub variables-within : (n : ℕ) (ps : List ℕ) → All (λ v. v ≤ n) ps → All (IsIn n) (variables_of ps)
variables-within n [] are = All-nil (IsIn n)
variables-within n (zero ∷ ps) are = variables-within n ps (All-tail (λ v. v ≤ n) zero ps are)
variables-within n (suc v ∷ ps) are =
    let here : IsIn n (suc v) = (omega arith, All-head (λ v. v ≤ n) (suc v) ps are) in
    subst (All (IsIn n)) (sym (variables-more v ps)) (All-cons (IsIn n) (suc v) (variables_of ps) here (variables-within n ps (All-tail (λ v. v ≤ n) (suc v) ps are)))

pub false-within : (n : ℕ) (vs : List ℕ) → All (IsIn n) vs → All (All (IsVariableWithin n)) (map is_false vs)
false-within n [] are = All-nil (All (IsVariableWithin n))
false-within n (v ∷ vs) are =
    All-cons (All (IsVariableWithin n)) (is_false v) (map is_false vs) (two n (IsNot v) (All-head (IsIn n) v vs are)) (false-within n vs (All-tail (IsIn n) v vs are))

pub is-within : (n : ℕ) (vs : List ℕ) → All (IsIn n) vs → All (IsVariableWithin n) (map (λ v. Is v) vs)
is-within n [] are = All-nil (IsVariableWithin n)
is-within n (v ∷ vs) are = All-cons (IsVariableWithin n) (Is v) (map (λ v. Is v) vs) (All-head (IsIn n) v vs are) (is-within n vs (All-tail (IsIn n) v vs are))
