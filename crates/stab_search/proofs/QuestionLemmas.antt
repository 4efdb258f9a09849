-- Questions: the problem of a table asks for its logical errors.
use Rattle.stab_search.proofs.Names.{◌≡◌, ℕ, zero, suc, ◌+◌, ◌-◌, ◌<◌, ◌≤◌, ◌⊎◌, inl, inr, refl, sym, ◌∙◌, subst, ap, arith, Bool, true, false, not, List, [], ◌∷◌, ◌++◌, length, ◌&&◌, ◌||◌, drop, take, min, map, get_or, false≢true, and_parts, cases_lt, length-take, list_all-append, All, All-nil, All-cons, All-append, filter, flat_map, list_all, list_any, range_with_len, IsAscending, IsLogicalError, ErrorTable, flipped_by_rows, Literal, Is, IsNot, Sum, Problem, holds, meets, IsVariableWithin, without, errors_in, Asks, variable_value, parity_variable, AreSums, AreFrom, AreParities, flipped_in_sum, sum_clauses, is_false, variables_of, one_of, clauses_of}
use Rattle.std.proofs.Math.ListN.{drop_of_length-le}
use Rattle.std.proofs.lemmas.List.{get_or-take, get_or-drop, get_or_past, length-take-le, take_all}
use Rattle.std.proofs.lemmas.List.Elements.{All-take, All-drop}
use Rattle.stab_search.proofs.SumLemmas.{extended, extended-below, extended-sums}
use Rattle.stab_search.proofs.ClauseLemmas.{sums-met, met-sums, met-false, false-met, met-one, one-met, sums-within, has_true, IsIn, variables-within, false-within, is-within}
use Rattle.stab_search.proofs.ChosenLemmas.{flips-chosen, chosen-within, of_set, of_set-after, chosen-set}

-- what a problem is made of: the sums and parities of a table
pub record IsMadeOf (t : ErrorTable) (p : Problem) (parities : List ℕ) : Type 0 where
  pub errors : p.errors ≡ length t.rows
  pub sums : AreFrom (length t.rows + 2) p.sums.items
  pub below : All (λ v. v < (length t.rows + 2) + length p.sums.items) parities
  pub are : AreParities t.rows p.sums.items parities
  pub undetected : p.undetected.items ≡ variables_of (take t.detectors parities)
  pub observed : p.observed.items ≡ one_of (p.errors + 1) (variables_of (drop t.detectors parities))

-- the clauses that have to be met, in their three parts
pub record AreMet (a : ℕ → Bool) (t : ErrorTable) (p : Problem) (parities : List ℕ) : Type 0 where
  pub sums : AreSums a p.sums.items
  pub undetected : (d : ℕ) → variable_value a (parity_variable (take t.detectors parities) d) ≡ false
  pub some : a (p.errors + 1) ≡ true
  pub observed : (j : ℕ) × (variable_value a (parity_variable (drop t.detectors parities) j) ≡ true)

hard-split : (a : ℕ → Bool) (p : Problem) → meets a (clauses_of p).hard
    ≡ (meets a (flat_map sum_clauses p.sums.items) && (meets a (map is_false p.undetected.items) && ((a (p.errors + 1) || false) && (list_any (holds a) p.observed.items && true))))
hard-split a p =
    list_all-append (list_any (holds a)) (flat_map sum_clauses p.sums.items) (map is_false p.undetected.items ++ (Is (p.errors + 1) ∷ []) ∷ p.observed.items ∷ [])
    ∙ ap (λ b. meets a (flat_map sum_clauses p.sums.items) && b) (list_all-append (list_any (holds a)) (map is_false p.undetected.items) ((Is (p.errors + 1) ∷ []) ∷ p.observed.items ∷ []))

or-false : (b : Bool) → (b || false) ≡ true → b ≡ true
or-false true is = refl
or-false false is = is

and-true : (b : Bool) → (b && true) ≡ true → b ≡ true
and-true true is = refl
and-true false is = is

not-or : (b c : Bool) → b ≡ true → (not b || c) ≡ true → c ≡ true
not-or true c is or = or
not-or false c is or = absurd (false≢true is)

met-parts : (a : ℕ → Bool) (t : ErrorTable) (p : Problem) (parities : List ℕ) → IsMadeOf t p parities → meets a (clauses_of p).hard ≡ true → AreMet a t p parities
met-parts a t p parities made met =
    let first = and_parts (meets a (flat_map sum_clauses p.sums.items)) _ (sym (hard-split a p) ∙ met) in
    let second = and_parts (meets a (map is_false p.undetected.items)) _ first.1 in
    let third = and_parts (a (p.errors + 1) || false) _ second.1 in
    let some : a (p.errors + 1) ≡ true = or-false _ third.0 in record {
      sums = met-sums a p.sums.items first.0;
      undetected = met-false a (take t.detectors parities) (ap (λ l. meets a (map is_false l)) (sym made.undetected) ∙ second.0);
      some = some;
      observed = met-one a (drop t.detectors parities) (not-or (a (p.errors + 1)) (has_true a (drop t.detectors parities)) some (ap (list_any (holds a)) (sym made.observed) ∙ and-true _ third.1));
    }

parts-met : (a : ℕ → Bool) (t : ErrorTable) (p : Problem) (parities : List ℕ) → IsMadeOf t p parities → AreMet a t p parities → meets a (clauses_of p).hard ≡ true
parts-met a t p parities made are =
    let last : list_any (holds a) p.observed.items ≡ true =
    ap (list_any (holds a)) made.observed
    ∙ ap (λ b. not b || has_true a (drop t.detectors parities)) are.some
    ∙ one-met a (drop t.detectors parities) are.observed.0 are.observed.1 in
    hard-split a p ∙ ap (λ b. b && (meets a (map is_false p.undetected.items) && ((a (p.errors + 1) || false) && (list_any (holds a) p.observed.items && true)))) (sums-met a p.sums.items are.sums)
    ∙ ap (λ b. b && ((a (p.errors + 1) || false) && (list_any (holds a) p.observed.items && true)))
    (ap (λ l. meets a (map is_false l)) made.undetected ∙ false-met a (take t.detectors parities) are.undetected)
    ∙ ap (λ b. (b || false) && (list_any (holds a) p.observed.items && true)) are.some ∙ ap (λ b. b && true) last

-- no more than this many are taken
taken : (n : ℕ) (xs : List ℕ) → length (take n xs) ≤ n
taken n xs = at (cases_lt (length xs) n)
  where
    at : (length xs < n) ⊎ (n ≤ length xs) → length (take n xs) ≤ n
    at (inl less) = subst (λ l. length l ≤ n) (sym (take_all n xs (omega (arith, less)))) (omega (arith, less))
    at (inr more) = subst (λ l. l ≤ n) (sym (length-take-le n xs more)) (omega arith)

-- more than all are dropped
pub drop_min : (n : ℕ) (xs : List ℕ) → drop (min n (length xs)) xs ≡ drop n xs
drop_min n xs = at (cases_lt n (length xs))
  where
    at : (n < length xs) ⊎ (length xs ≤ n) → drop (min n (length xs)) xs ≡ drop n xs
    at (inl less) = ap (λ m. drop m xs) (omega (arith, less))
    at (inr more) = ap (λ m. drop m xs) (let same : min n (length xs) ≡ length xs = omega (arith, more) in same) ∙ drop_of_length-le xs (omega arith) ∙ sym (drop_of_length-le xs more)

-- a detector's or observable's parity
flips-value : (a : ℕ → Bool) (t : ErrorTable) (p : Problem) (parities : List ℕ) → IsMadeOf t p parities → AreSums a p.sums.items → (i : ℕ) → flipped_by_rows t.rows (errors_in a (length t.rows)) i ≡ variable_value a (parity_variable parities i)
flips-value a t p parities made sums i = flips-chosen a t.rows i ∙ sym (made.are a sums i)

sound : (t : ErrorTable) (p : Problem) (parities : List ℕ) → IsMadeOf t p parities → (a : ℕ → Bool) → meets a (clauses_of p).hard ≡ true → IsLogicalError t (errors_in a (length t.rows))
sound t p parities made a met =
    let are = met-parts a t p parities made met in
    let flipped = flips-value a t p parities made are.sums in
    let j = are.observed.0 in record {
      inside = subst (λ n. All (λ r. r < n) (errors_in a (length t.rows))) (omega arith) (chosen-within (λ k. a (k + 1)) 0 (length t.rows));
      undetected = λ d less. flipped d ∙ ap (variable_value a) (sym (get_or-take t.detectors parities d 0 less)) ∙ are.undetected d;
      observed = (t.detectors + j, omega arith, flipped (t.detectors + j) ∙ ap (variable_value a) (sym (get_or-drop t.detectors parities j 0)) ∙ are.observed.1);
    }

complete : (t : ErrorTable) (p : Problem) (parities : List ℕ) → IsMadeOf t p parities → (errors : List ℕ) → IsAscending errors → IsLogicalError t errors
    → (a : ℕ → Bool) × (meets a (clauses_of p).hard ≡ true) × (errors_in a (length t.rows) ≡ errors)
complete t p parities made errors ascends logical = (a, parts-met a t p parities made are, same)
  where
    n : ℕ
    n = length t.rows

    a : ℕ → Bool
    a = extended (of_set (length t.rows) errors) p.sums.items

    below : (v : ℕ) → v < length t.rows + 2 → a v ≡ of_set (length t.rows) errors v
    below v less = extended-below (of_set (length t.rows) errors) (length t.rows + 2) p.sums.items v made.sums less

    sums : AreSums a p.sums.items
    sums = extended-sums (of_set (length t.rows) errors) (length t.rows + 2) p.sums.items made.sums

    same : errors_in a (length t.rows) ≡ errors
    same = chosen-set a (length t.rows) errors ascends logical.inside (λ k less. below (k + 1) (omega (arith, less)))

    flipped : (i : ℕ) → variable_value a (parity_variable parities i) ≡ flipped_by_rows t.rows errors i
    flipped i = sym (flips-value a t p parities made sums i) ∙ ap (λ l. flipped_by_rows t.rows l i) same

    undetected : (d : ℕ) → (d < t.detectors) ⊎ (t.detectors ≤ d) → variable_value a (parity_variable (take t.detectors parities) d) ≡ false
    undetected d (inl less) = ap (variable_value a) (get_or-take t.detectors parities d 0 less) ∙ flipped d ∙ logical.undetected d less
    undetected d (inr past) = ap (variable_value a) (get_or_past (take t.detectors parities) d 0 (omega (arith, taken t.detectors parities, past)))

    o : ℕ
    o = logical.observed.0

    are : AreMet a t p parities
    are = record {
      sums = sums;
      undetected = λ d. undetected d (cases_lt d t.detectors);
      some = ap a (ap (λ m. m + 1) made.errors) ∙ below (length t.rows + 1) (omega arith) ∙ of_set-after (length t.rows) errors;
      observed = (
        o - t.detectors,
        ap (variable_value a) (get_or-drop t.detectors parities (o - t.detectors) 0 ∙ ap (λ i. parity_variable parities i) (omega (arith, logical.observed.1))) ∙ flipped o ∙ logical.observed.2,
      );
    }

within : (t : ErrorTable) (p : Problem) (parities : List ℕ) → IsMadeOf t p parities → All (All (IsVariableWithin (clauses_of p).variables)) (clauses_of p).hard
within t p parities made =
    All-append (All (IsVariableWithin n)) (flat_map sum_clauses p.sums.items) (map is_false p.undetected.items ++ (Is (p.errors + 1) ∷ []) ∷ p.observed.items ∷ []) (sums-within n (length t.rows + 2) p.sums.items made.sums (omega (arith, made.errors)))
    (All-append (All (IsVariableWithin n)) (map is_false p.undetected.items) ((Is (p.errors + 1) ∷ []) ∷ p.observed.items ∷ []) (false-within n p.undetected.items (subst (All (IsIn n)) (sym made.undetected) (variables-within n (take t.detectors parities) (All-take (λ v. v ≤ n) t.detectors parities inside))))
    (All-cons (All (IsVariableWithin n)) (Is (p.errors + 1) ∷ []) (p.observed.items ∷ []) (All-cons (IsVariableWithin n) (Is (p.errors + 1)) [] one (All-nil (IsVariableWithin n)))
    (All-cons (All (IsVariableWithin n)) p.observed.items [] observed (All-nil (All (IsVariableWithin n))))))
  where
    n : ℕ
    n = p.errors + 1 + length p.sums.items

    inside : All (λ v. v ≤ n) parities
    inside k d less = omega (arith, made.errors, made.below k d less)

    one : (0 < p.errors + 1) × (p.errors + 1 ≤ n)
    one = (omega arith, omega arith)

    others : List ℕ
    others = variables_of (drop t.detectors parities)

    observed : All (IsVariableWithin n) p.observed.items
    observed =
        subst (All (IsVariableWithin n)) (sym made.observed)
        (All-cons (IsVariableWithin n) (IsNot (p.errors + 1)) (map (λ v. Is v) others) one (is-within n others (variables-within n (drop t.detectors parities) (All-drop (λ v. v ≤ n) t.detectors parities inside))))

pub asks : (t : ErrorTable) (p : Problem) (parities : List ℕ) → IsMadeOf t p parities → Asks t (clauses_of p)
asks t p parities made = record {
  within = within t p parities made;
  soft = ap (λ n. map without (range_with_len 0 n)) made.errors;
  sound = sound t p parities made;
  complete = complete t p parities made;
}
