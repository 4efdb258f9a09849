-- The first error of a set, after which a search looks for the others.
use Rattle.stab_search.proofs.Names.{◌≡◌, ℕ, ◌+◌, ◌≤◌, ◌<◌, sym, ◌∙◌, ap, subst, arith, Bool, true, false, ◌||◌, List, [], ◌∷◌, length, false≢true, ne_eqb, ◌⊕◌, parity-comm, parity-twice, parity-false, AscendsFrom, IsAscending, ErrorTable, odd, row, flipped_by_rows, IsLogicalError, ForEach, has, Vec, CompletesSet, HasBefore}
use Rattle.stab_search.proofs.ListLemmas.{each-map, each-all, each-above, each-has, has-here, has-there}
use Rattle.stab_search.proofs.PairLemmas.{Unpaired, among}

-- bits that add up to nothing are the same
parity-even : (a b : Bool) → a ⊕ b ≡ false → b ≡ a
parity-even a b e = sym (parity-twice a b) ∙ ap (λ t. a ⊕ t) e ∙ parity-false a

ascends-lower : (m k : ℕ) (xs : List ℕ) → m ≤ k → AscendsFrom k xs → AscendsFrom m xs
ascends-lower m k [] le a = tt
ascends-lower m k (x ∷ xs) le a = (let h = a.0 in omega arith, a.1)

pub first-ends : (t : ErrorTable) (pairs : List (Vec ℕ)) (f : ℕ) (rest : List ℕ) → IsAscending (f ∷ rest) → IsLogicalError t (f ∷ rest)
    → Unpaired pairs (f ∷ rest) (f ∷ rest) → CompletesSet t pairs f (f ∷ []) (row t.rows f) rest
first-ends t pairs f rest a e unpaired = record {
  completes = record {
    inside = (each-all (λ r. r < length t.rows) (f ∷ rest) e.inside).1;
    undetected = λ d lt. parity-even (odd d (row t.rows f)) (flipped_by_rows t.rows rest d) (e.undetected d lt);
    observed = (e.observed.0, e.observed.1, parity-comm (flipped_by_rows t.rows rest e.observed.0) (odd e.observed.0 (row t.rows f)) ∙ e.observed.2);
  };
  follows = record {
    ascending = ascends-lower 0 (f + 1) rest (omega arith) a.1;
    later = after;
    fresh = λ g there. ap (λ b. b || false) (ne_eqb f g (λ same. let lt = each-has (λ r. f < r) g rest after there in omega arith));
    unpaired = λ b g first there.
        among b f [] first (λ same. unpaired b g (subst (λ k. has k (f ∷ rest) ≡ true) same (has-here f rest)) (has-there g f rest there)) (λ none. absurd (false≢true none));
    among = λ b g in_b in_g. unpaired b g (has-there b f rest in_b) (has-there g f rest in_g);
  };
}
  where
    after : ForEach (λ r. f < r) rest
    after = each-map (λ y. f + 1 ≤ y) (λ r. f < r) (λ y h. omega arith) rest (each-above (f + 1) rest a.1)

-- an error that can be first, and the others after it
pub begins-first : (firsts f : ℕ) (rest : List ℕ) → IsAscending (f ∷ rest) → HasBefore firsts (f ∷ rest) → f < firsts
begins-first firsts f rest a (g, (lt, there)) =
    among g f rest there
    (λ same. subst (λ k. k < firsts) (sym same) lt)
    (λ later. let after : f + 1 ≤ g = each-has (λ y. f + 1 ≤ y) g rest (each-above (f + 1) rest a.1) later in omega (arith, lt, after))
