-- How far back steps look: the greatest of numbers, and steps one after another.
use Rattle.stab_items.proofs.Names.{◌≡◌, ℕ, ◌+◌, ◌<◌, ◌≤◌, suc, zero, refl, sym, ◌∙◌, ap, subst, false, nat_lt, List, [], ◌∷◌, ◌++◌, All, length, map, take, get_or, arith, list_any, map_more, All-nil, All-cons, All-head, All-tail, All-append, or_parts, or_from, Gate, Measurement, MeasureTarget, Step, one, measured, makes, lookbacks, looks_too_far, LooksWithin}

pub near-more : (m k : ℕ) → m ≤ k → (ks : List ℕ) → list_any (nat_lt m) ks ≡ false → list_any (nat_lt k) ks ≡ false
near-more m k le [] e = refl
near-more m k le (x ∷ ks) e =
    let no = or_parts (nat_lt m x) (list_any (nat_lt m) ks) e in
    or_from (nat_lt k x) (list_any (nat_lt k) ks) (grind (arith, no.0, le)) (near-more m k le ks no.1)

pub near-next : (i m k : ℕ) (ks : List ℕ) → i < length ks → list_any (nat_lt m) (take i ks) ≡ false → m ≤ k → get_or ks i 0 ≤ k
    → list_any (nat_lt k) (take (suc i) ks) ≡ false
near-next i m k [] lt e le lx = absurd (omega arith)
near-next zero m k (y ∷ ks) lt e le lx = or_from (nat_lt k y) false (grind (arith, lx)) refl
near-next (suc i) m k (y ∷ ks) lt e le lx =
    let no = or_parts (nat_lt m y) (list_any (nat_lt m) (take i ks)) e in
    or_from (nat_lt k y) (list_any (nat_lt k) (take (suc i) ks)) (grind (arith, no.0, le)) (near-next i m k ks (omega arith) no.1 le lx)

-- how far back steps look, if they may look further
pub within-more : (m k : ℕ) (xs : List Step) → m ≤ k → All (LooksWithin m) xs → All (LooksWithin k) xs
within-more m k [] le all = All-nil (LooksWithin k)
within-more m k (x ∷ xs) le all =
    All-cons (LooksWithin k) x xs (near-more m k le (lookbacks x) (All-head (LooksWithin m) x xs all)) (within-more m k xs le (All-tail (LooksWithin m) x xs all))

-- one more element's step
pub one-more : {X : Type 0} (step : X → Step) (xs : List X) (i : ℕ) (x : X) → i < length xs → x ≡ get_or xs i x
    → map step (take (i + 1) xs) ≡ map step (take i xs) ++ step x ∷ []
one-more step xs i x lt is = map_more step xs i x lt ∙ ap (λ y. map step (take i xs) ++ step y ∷ []) (sym is)

pub within-target : {X : Type 0} (near far : ℕ) (step : X → Step) (xs : List X) (i : ℕ) (x : X) → i < length xs → x ≡ get_or xs i x → near ≤ far
    → All (LooksWithin near) (map step (take i xs)) → LooksWithin far (step x) → All (LooksWithin far) (map step (take (i + 1) xs))
within-target near far step xs i x lt is le front here =
    subst (All (LooksWithin far)) (sym (one-more step xs i x lt is))
    (All-append (LooksWithin far) (map step (take i xs)) (step x ∷ []) (within-more near far (map step (take i xs)) le front)
    (All-cons (LooksWithin far) (step x) [] here (All-nil (LooksWithin far))))

-- steps that look nowhere
pub near-gates : (window : ℕ) (g : Gate) (qubits : List ℕ) → All (LooksWithin window) (map (one g) qubits)
near-gates window g [] = All-nil (LooksWithin window)
near-gates window g (q ∷ qubits) = All-cons (LooksWithin window) (one g q) (map (one g) qubits) refl (near-gates window g qubits)

pub near-targets : (window : ℕ) (m : Measurement) (targets : List MeasureTarget) → All (LooksWithin window) (map (measured m) targets)
near-targets window m [] = All-nil (LooksWithin window)
near-targets window m (t ∷ targets) = All-cons (LooksWithin window) (measured m t) (map (measured m) targets) refl (near-targets window m targets)

-- if no step looks further back than to this many records, none looks too far after as many
pub looks-within : (m : ℕ) (xs : List Step) → All (LooksWithin m) xs → looks_too_far m xs ≡ false
looks-within m [] all = refl
looks-within m (x ∷ xs) all =
    or_from (list_any (nat_lt m) (lookbacks x)) (looks_too_far (m + makes x) xs) (All-head (LooksWithin m) x xs all)
    (looks-within (m + makes x) xs (within-more m (m + makes x) xs (omega arith) (All-tail (LooksWithin m) x xs all)))
