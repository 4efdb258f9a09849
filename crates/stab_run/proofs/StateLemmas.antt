-- States: a run is the point where it ends with what it gives, and only random coins decide it.
use Rattle.stab_run.proofs.Names.{◌≡◌, ℕ, ◌+◌, refl, sym, ◌∙◌, ap, Bool, true, false, not, ◌&&◌, List, [], ◌∷◌, ◌++◌, append_assoc, append-nil, add-zero, length, get_or, if◌then◌else◌, slice_index_or, length-append, ◌⊕◌, Signed, minus, single, Event, applied, applied_pair, projected, member, outcome, is_random, Items, Step, one, two, controlled, collapse, product, detector, observable, unroll, observables_of, looked_up, parity, State, start, when, string_of, applied_where, collapsed, effect, run, run_of, Point, RunOutput, joined, given, next_point, point_after, outputs, point_of, state_at, AgreeWhere, DependsOnCoinsAt}

-- a point and its outputs

same_point : (t : List Event) (c : ℕ) (r : List Bool) → ◌≡◌ {A = Point} (record { trace = t; coin = c; records = r }) (record { trace = t; coin = c + 0; records = r ++ [] })
same_point t c r = λ i. record { trace = t; coin = sym (add-zero c) i; records = sym (append-nil r) i }

pub next-point : (n : ℕ) (coins : ℕ → Bool) (x : Step) (s : State) → point_of (effect n coins x s) ≡ next_point n coins x (point_of s)
next-point n coins (one g q) s = same_point (applied g q ∷ s.trace) s.coin s.records
next-point n coins (two g a b) s = same_point (applied_pair g a b ∷ s.trace) s.coin s.records
next-point n coins (controlled l k q) s = same_point (applied_where (looked_up s.records k) l q s.trace) s.coin s.records
next-point n coins (collapse l q recorded inverted resets) s = refl
next-point n coins (product factors inverted) s = refl
next-point n coins (detector ks) s = same_point s.trace s.coin s.records
next-point n coins (observable j ks) s = same_point s.trace s.coin s.records

given-state : (n : ℕ) (coins : ℕ → Bool) (x : Step) (s : State) (p : Point) (o : RunOutput)
    → state_at p o (effect n coins x s) ≡ state_at p (joined (given n coins x (point_of s)) o) s
given-state n coins (one g q) s p o = refl
given-state n coins (two g a b) s p o = refl
given-state n coins (controlled l k q) s p o = refl
given-state n coins (collapse l q recorded inverted resets) s p o =
    ap (λ f. record (state_at p o s) { free = f }) (append_assoc s.free (is_random s.trace (single n q l) ∷ []) o.free)
given-state n coins (product factors inverted) s p o =
    ap (λ f. record (state_at p o s) { free = f }) (append_assoc s.free (is_random s.trace (string_of n factors) ∷ []) o.free)
given-state n coins (detector ks) s p o = ap (λ d. record (state_at p o s) { detectors = d }) (append_assoc s.detectors (parity s.records ks ∷ []) o.detectors)
given-state n coins (observable j ks) s p o = refl

pub run-state : (n : ℕ) (coins : ℕ → Bool) (xs : List Step) (s : State)
    → run n coins xs s ≡ state_at (point_after n coins xs (point_of s)) (outputs n coins xs (point_of s)) s
run-state n coins [] s = λ i. record s { free = sym (append-nil s.free) i; detectors = sym (append-nil s.detectors) i }
run-state n coins (x ∷ xs) s =
    run-state n coins xs (effect n coins x s)
    ∙ ap (λ p. state_at (point_after n coins xs p) (outputs n coins xs p) (effect n coins x s)) (next-point n coins x s)
    ∙ given-state n coins x s (point_after n coins xs (next_point n coins x (point_of s))) (outputs n coins xs (next_point n coins x (point_of s)))

-- coins that do not decide

pub both_false : (a b coin other : Bool) → (not a && not b) ≡ false → (if a then false else (if b then true else coin)) ≡ (if a then false else (if b then true else other))
both_false true b coin other e = refl
both_false false true coin other e = refl
both_false false false coin other e = cc

pub both_true : (a b coin : Bool) → (not a && not b) ≡ true → (if a then false else (if b then true else coin)) ≡ coin
both_true true b coin e = cc
both_true false true coin e = cc
both_true false false coin e = refl

pub random-outcome : (trace : List Event) (p : Signed) → is_random trace p ≡ true → (coin : Bool) → outcome trace p coin ≡ coin
random-outcome trace p e coin = both_true (member trace p) (member trace (minus p)) coin e

pub fixed-outcome : (trace : List Event) (p : Signed) → is_random trace p ≡ false → (coin other : Bool) → outcome trace p coin ≡ outcome trace p other
fixed-outcome trace p e coin other = both_false (member trace p) (member trace (minus p)) coin other e

same_outcome : (trace : List Event) (p : Signed) (coin other : Bool) (flag : Bool) → is_random trace p ≡ flag → (flag ≡ true → coin ≡ other)
    → outcome trace p other ≡ outcome trace p coin
same_outcome trace p coin other true e same = ap (outcome trace p) (sym (same refl))
same_outcome trace p coin other false e same = fixed-outcome trace p e other coin

-- the randomness has as many bits as the coin numbers used up

counted-effect : (n : ℕ) (coins : ℕ → Bool) (x : Step) (s : State) → s.coin ≡ length s.free → (effect n coins x s).coin ≡ length (effect n coins x s).free
counted-effect n coins (one g q) s e = e
counted-effect n coins (two g a b) s e = e
counted-effect n coins (controlled l k q) s e = e
counted-effect n coins (collapse l q recorded inverted resets) s e = ap (λ k. k + 1) e ∙ sym (length-append s.free (is_random s.trace (single n q l) ∷ []))
counted-effect n coins (product factors inverted) s e = ap (λ k. k + 1) e ∙ sym (length-append s.free (is_random s.trace (string_of n factors) ∷ []))
counted-effect n coins (detector ks) s e = e
counted-effect n coins (observable j ks) s e = e

get_or-following : (xs ys : List Bool) (b d : Bool) → get_or ((xs ++ b ∷ []) ++ ys) (length xs) d ≡ b
get_or-following [] ys b d = refl
get_or-following (x ∷ xs) ys b d = get_or-following xs ys b d

-- after a step, the flag of its coin number is the one that it gave
flag-following : (n : ℕ) (coins : ℕ → Bool) (xs : List Step) (s r : State) (flag : Bool) → s.coin ≡ length s.free → r.free ≡ s.free ++ flag ∷ []
    → slice_index_or (run n coins xs r).free s.coin false ≡ flag
flag-following n coins xs s r flag e is =
    ap (λ (t : State). slice_index_or t.free s.coin false) (run-state n coins xs r)
    ∙ (λ i. slice_index_or (is i ++ (outputs n coins xs (point_of r)).free) (e i) false)
    ∙ get_or-following s.free (outputs n coins xs (point_of r)).free flag false

-- a step with other coins

effect-same : (n : ℕ) (coins others : ℕ → Bool) (x : Step) (xs : List Step) (s : State) → s.coin ≡ length s.free
    → AgreeWhere (run n coins xs (effect n coins x s)).free coins others → effect n others x s ≡ effect n coins x s
effect-same n coins others (one g q) xs s e same = refl
effect-same n coins others (two g a b) xs s e same = refl
effect-same n coins others (controlled l k q) xs s e same = refl
effect-same n coins others (collapse l q recorded inverted resets) xs s e same =
    ap (λ o. record s {
      trace = collapsed n l q resets o s.trace;
      coin = s.coin + 1;
      records = s.records ++ when recorded (inverted ⊕ o);
      free = s.free ++ is_random s.trace (single n q l) ∷ [];
    })
    (same_outcome s.trace (single n q l) (coins s.coin) (others s.coin) (is_random s.trace (single n q l)) refl
    (λ free. same s.coin (flag-following n coins xs s (effect n coins (collapse l q recorded inverted resets) s) (is_random s.trace (single n q l)) e refl ∙ free)))
effect-same n coins others (product factors inverted) xs s e same =
    ap (λ o. record s {
      trace = projected (string_of n factors) o ∷ s.trace;
      coin = s.coin + 1;
      records = s.records ++ (inverted ⊕ o) ∷ [];
      free = s.free ++ is_random s.trace (string_of n factors) ∷ [];
    })
    (same_outcome s.trace (string_of n factors) (coins s.coin) (others s.coin) (is_random s.trace (string_of n factors)) refl
    (λ free. same s.coin (flag-following n coins xs s (effect n coins (product factors inverted) s) (is_random s.trace (string_of n factors)) e refl ∙ free)))
effect-same n coins others (detector ks) xs s e same = refl
effect-same n coins others (observable j ks) xs s e same = refl

run-same : (n : ℕ) (coins others : ℕ → Bool) (xs : List Step) (s : State) → s.coin ≡ length s.free
    → AgreeWhere (run n coins xs s).free coins others → run n others xs s ≡ run n coins xs s
run-same n coins others [] s e same = refl
run-same n coins others (x ∷ xs) s e same =
    ap (run n others xs) (effect-same n coins others x xs s e same)
    ∙ run-same n coins others xs (effect n coins x s) (counted-effect n coins x s e) same

pub run_of-same : (n : ℕ) (coins : ℕ → Bool) (items : Items) → DependsOnCoinsAt (run_of n coins items).free n coins items
unfolding run_of
run_of-same n coins items others same = run-same n coins others (unroll items) (start (observables_of items)) refl same
