-- Shortest logical errors: sets of a list, and the first error of a set.
use Rattle.stab_search.proofs.Names.{◌≡◌, ℕ, zero, suc, ◌+◌, ◌≤◌, ◌<◌, refl, sym, ◌∙◌, ap, subst, arith, List, [], ◌∷◌, ◌++◌, length, get_or, take, drop, map, min, false≢true, length-append, ◌⊕◌, parity-comm, parity-self, AscendsFrom, ErrorTable, odd, row, flipped_by_rows, IsLogicalError, HasNoneWithin, ForEach, toggle, CompletesSetWithin, IsLogicalWithin, IsGathered}
use Rattle.stab_search.proofs.FlipLemmas.{flips-push, flips-toggle}
use Rattle.stab_search.proofs.ListLemmas.{each-all, all-each, each-push, each-toggle, length-toggle, ascends-toggle, toggle-here, toggle-out, toggle-there}

-- one more error of a set

each-first : (P : ℕ → Type 0) (xs : List ℕ) (x : ℕ) → ForEach P (xs ++ x ∷ []) → P x × ForEach P xs
each-first P [] x a = (a.0, tt)
each-first P (y ∷ ys) x a = let later = each-first P ys x a.1 in (later.0, (a.0, later.1))

pub gathered-none : IsGathered [] []
gathered-none = record { ascending = tt; fewer = omega arith; inside = λ n a. tt; flipped_by_rows = λ rows i. refl }

pub gathered-push : (xs set : List ℕ) (x : ℕ) → IsGathered xs set → IsGathered (xs ++ x ∷ []) (toggle x set)
gathered-push xs set x g = record {
  ascending = ascends-toggle 0 x set (omega arith) g.ascending;
  fewer = let h = g.fewer in let more = length-toggle x set in let longer = length-append xs (x ∷ []) in omega arith;
  inside = λ n a. let parts = each-first (λ r. r < n) xs x a in each-toggle (λ r. r < n) x set parts.0 (g.inside n parts.1);
  flipped_by_rows = λ rows i.
      flips-toggle rows x set i ∙ ap (λ b. odd i (row rows x) ⊕ b) (g.flipped_by_rows rows i)
      ∙ parity-comm (odd i (row rows x)) (flipped_by_rows rows xs i) ∙ sym (flips-push rows xs x i);
}

pub gathered-cons : (xs set : List ℕ) (x : ℕ) → IsGathered xs set → IsGathered (x ∷ xs) (toggle x set)
gathered-cons xs set x g = record {
  ascending = ascends-toggle 0 x set (omega arith) g.ascending;
  fewer = let h = g.fewer in let more = length-toggle x set in omega arith;
  inside = λ n a. each-toggle (λ r. r < n) x set a.0 (g.inside n a.1);
  flipped_by_rows = λ rows i. flips-toggle rows x set i ∙ ap (λ b. odd i (row rows x) ⊕ b) (g.flipped_by_rows rows i);
}

-- each list has a set
abbrev pub gathering : (xs : List ℕ) → (set : List ℕ) × IsGathered xs set
gathering [] = ([], gathered-none)
gathering (x ∷ xs) = let later = gathering xs in (toggle x later.0, gathered-cons xs later.0 x later.1)

gathering-each : (P : ℕ → Type 0) (xs : List ℕ) → ForEach P xs → ForEach P (gathering xs).0
gathering-each P [] a = tt
gathering-each P (x ∷ xs) a = each-toggle P x (gathering xs).0 a.0 (gathering-each P xs a.1)

map-push : (f : ℕ → ℕ) (xs : List ℕ) (x : ℕ) → map f (xs ++ x ∷ []) ≡ map f xs ++ f x ∷ []
map-push f [] x = refl
map-push f (y ∷ ys) x = ap (λ zs. f y ∷ zs) (map-push f ys x)

pub take-push : (xs : List ℕ) (k d : ℕ) → k < length xs → take (suc k) xs ≡ take k xs ++ get_or xs k d ∷ []
take-push [] k d lt = absurd (omega arith)
take-push (x ∷ xs) zero d lt = refl
take-push (x ∷ xs) (suc k) d lt = ap (λ ys. x ∷ ys) (take-push xs k d (omega arith))

pub gathered-next : (f : ℕ → ℕ) (found set : List ℕ) (k : ℕ) → k < length found → IsGathered (map f (take k found)) set
    → IsGathered (map f (take (k + 1) found)) (toggle (f (get_or found k 0)) set)
gathered-next f found set k lt g =
    let next : suc k ≡ k + 1 = omega arith in
    subst (λ xs. IsGathered xs (toggle (f (get_or found k 0)) set))
    (sym (map-push f (take k found) (get_or found k 0)) ∙ ap (map f) (sym (take-push found k 0 lt) ∙ ap (λ j. take j found) next))
    (gathered-push (map f (take k found)) set (f (get_or found k 0)) g)

-- a logical error's set is one
pub gathered-logical : (t : ErrorTable) (xs set : List ℕ) → IsGathered xs set → IsLogicalError t xs → IsLogicalError t set
gathered-logical t xs set g e = record {
  inside = all-each (λ r. r < length t.rows) set (g.inside (length t.rows) (each-all (λ r. r < length t.rows) xs e.inside));
  undetected = λ d lt. g.flipped_by_rows t.rows d ∙ e.undetected d lt;
  observed = (e.observed.0, e.observed.1, g.flipped_by_rows t.rows e.observed.0 ∙ e.observed.2);
}

-- an error in front of those that end a search from it
pub begun : (t : ErrorTable) (first left : ℕ) (rest : List ℕ) → first < length t.rows → CompletesSetWithin t (row t.rows first) left rest
    → IsLogicalWithin t (left + 1) (rest ++ first ∷ [])
begun t first left rest lt e = record {
  logical = record {
    inside = all-each (λ r. r < length t.rows) (rest ++ first ∷ []) (each-push (λ r. r < length t.rows) rest first lt e.ends.inside);
    undetected = λ d l.
        flips-push t.rows rest first d ∙ ap (λ b. b ⊕ odd d (row t.rows first)) (e.ends.undetected d l) ∙ parity-self (odd d (row t.rows first));
    observed = let o = e.ends.observed.0 in (o, e.ends.observed.1, flips-push t.rows rest first o ∙ e.ends.observed.2);
  };
  within = let short = e.within in let longer = length-append rest (first ∷ []) in omega arith;
}

-- how many errors a set has

pub bounded : (m n : ℕ) (set : List ℕ) → m ≤ n → AscendsFrom m set → ForEach (λ r. r < n) set → m + length set ≤ n
bounded m n [] le a i = omega arith
bounded m n (x ∷ xs) le a i =
    let here = a.0 in
    let lt = i.0 in
    let later = bounded (x + 1) n xs (omega arith) a.1 i.1 in
    omega arith

-- none has more errors than the table

pub none-up_to_each : (t : ErrorTable) (P : ℕ → Type 0) (most reached : ℕ) → min most (length t.rows) ≤ reached
    → ((errors : List ℕ) → IsLogicalError t errors → ForEach P errors → reached < length errors)
    → (errors : List ℕ) → IsLogicalError t errors → ForEach P errors → most < length errors
none-up_to_each t P most reached le none errors logical each =
    let set = gathering errors in
    let is = gathered-logical t errors set.0 set.1 logical in
    let more = none set.0 is (gathering-each P errors each) in
    let fewer = set.1.fewer in
    let all = bounded 0 (length t.rows) set.0 (omega arith) set.1.ascending (each-all (λ r. r < length t.rows) set.0 is.inside) in
    omega arith

pub none-up_to : (t : ErrorTable) (most reached : ℕ) → min most (length t.rows) ≤ reached → HasNoneWithin t reached → HasNoneWithin t most
none-up_to t most reached le none errors logical =
    none-up_to_each t (λ r. r < length t.rows) most reached le (λ xs is each. none xs is) errors logical
    (each-all (λ r. r < length t.rows) errors logical.inside)

-- none has no error
pub none-empty : (t : ErrorTable) → HasNoneWithin t 0
none-empty t [] e = absurd (false≢true e.observed.2)
none-empty t (x ∷ xs) e = omega arith

-- a row toggled, by its position

pub toggle-insert : (g : ℕ) (xs : List ℕ) (k : ℕ) → k ≤ length xs → ((j : ℕ) → j < k → get_or xs j 0 < g) → (k < length xs → g < get_or xs k 0)
    → take k xs ++ g ∷ drop k xs ≡ toggle g xs
toggle-insert g [] zero le passed next = refl
toggle-insert g [] (suc k) le passed next = absurd (omega arith)
toggle-insert g (x ∷ xs) zero le passed next = sym (toggle-here g x xs (next (omega arith)))
toggle-insert g (x ∷ xs) (suc k) le passed next =
    ap (λ ys. x ∷ ys) (toggle-insert g xs k (omega arith) (λ j lt. passed (suc j) (omega arith)) (λ lt. next (omega arith)))
    ∙ sym (toggle-there g x xs (passed 0 (omega arith)))

pub toggle-remove : (g : ℕ) (xs : List ℕ) (k : ℕ) → k < length xs → ((j : ℕ) → j < k → get_or xs j 0 < g) → get_or xs k 0 ≡ g
    → take k xs ++ drop (suc k) xs ≡ toggle g xs
toggle-remove g [] k lt passed here = absurd (omega arith)
toggle-remove g (x ∷ xs) zero lt passed here = sym (toggle-out g x xs here)
toggle-remove g (x ∷ xs) (suc k) lt passed here =
    ap (λ ys. x ∷ ys) (toggle-remove g xs k (omega arith) (λ j l. passed (suc j) (omega arith)) here)
    ∙ sym (toggle-there g x xs (passed 0 (omega arith)))
