-- Inserted letters: those that the single errors of a circuit insert.
use Rattle.stab_regions.proofs.Names.{◌≡◌, ℕ, ◌+◌, ◌<◌, sym, ap, ◌∙◌, refl, Bool, true, false, List, [], ◌∷◌, ◌++◌, map, drop, arith, All, if◌then◌else◌, flat_map, drop-drop, map-append, All-nil, All-cons, All-head, All-tail, All-append, Step, StepFits, Site, SingleError, single_error_on, single_errors_on, single_errors_from, sites_at, Inserted, inserted_on, inserted_at, inserted_from}
use Rattle.stab_gates.specs.declared.letter.Letter.TheVariants as letter
use Rattle.stab_regions.proofs.SiteLemmas.{sites-within}

-- what a single error inserts in steps
abbrev pub inserted_of : List Step → SingleError → Inserted
inserted_of xs f = record { letter = f.letter; qubit = f.qubit; back = drop f.before xs }

sites-on : (xs back : List Step) (x : Step) (t q : ℕ) (b : Bool) → drop t xs ≡ x ∷ back → drop (t + 1) xs ≡ back →
    inserted_on q (if b then back else x ∷ back) ≡ map (inserted_of xs) (single_errors_on t (record { qubit = q; following = b }))
sites-on xs back x t q true here there = ap (inserted_on q) (sym there)
sites-on xs back x t q false here there = ap (inserted_on q) (sym here)

sites-at : (xs back : List Step) (x : Step) (t : ℕ) (ss : List Site) → drop t xs ≡ x ∷ back → drop (t + 1) xs ≡ back →
    flat_map (inserted_at x back) ss ≡ map (inserted_of xs) (flat_map (single_errors_on t) ss)
sites-at xs back x t [] here there = refl
sites-at xs back x t (s ∷ ss) here there =
    (λ i. sites-on xs back x t s.qubit s.following here there i ++ sites-at xs back x t ss here there i)
    ∙ sym (map-append (inserted_of xs) (single_errors_on t s) (flat_map (single_errors_on t) ss))

pub inserted-are : (everywhere : Bool) (xs ys : List Step) (t : ℕ) → drop t xs ≡ ys →
    inserted_from (sites_at everywhere) ys ≡ map (inserted_of xs) (single_errors_from everywhere t ys)
inserted-are everywhere xs [] t here = refl
inserted-are everywhere xs (x ∷ back) t here =
    let there : drop (t + 1) xs ≡ back = sym (drop-drop 1 t xs) ∙ ap (drop 1) here in
    (λ i. sites-at xs back x t (sites_at everywhere x) here there i ++ inserted-are everywhere xs back (t + 1) there i)
    ∙ sym (map-append (inserted_of xs) (flat_map (single_errors_on t) (sites_at everywhere x)) (single_errors_from everywhere (t + 1) back))

pub inserted-same : (sites others : Step → List Site) (xs : List Step) → ((x : Step) → sites x ≡ others x) → inserted_from sites xs ≡ inserted_from others xs
inserted-same sites others [] same = refl
inserted-same sites others (x ∷ back) same = λ i. flat_map (inserted_at x back) (same x i) ++ inserted-same sites others back same i

single_errors-on-within : (n t : ℕ) (ss : List Site) → All (λ s. s.qubit < n) ss → All (λ f. f.qubit < n) (flat_map (single_errors_on t) ss)
single_errors-on-within n t [] w = All-nil (λ f. f.qubit < n)
single_errors-on-within n t (s ∷ ss) w =
    let here : s.qubit < n = w 0 s (omega arith) in
    let rest : List SingleError = flat_map (single_errors_on t) ss in
    All-cons (λ f. f.qubit < n) (single_error_on t s letter.X) (single_error_on t s letter.Z ∷ rest) here
    (All-cons (λ f. f.qubit < n) (single_error_on t s letter.Z) rest here (single_errors-on-within n t ss (All-tail (λ s. s.qubit < n) s ss w)))

pub single_errors-within : (n : ℕ) (everywhere : Bool) (t : ℕ) (xs : List Step) → All (StepFits n) xs → All (λ f. f.qubit < n) (single_errors_from everywhere t xs)
single_errors-within n everywhere t [] w = All-nil (λ f. f.qubit < n)
single_errors-within n everywhere t (x ∷ xs) w =
    All-append (λ f. f.qubit < n) (flat_map (single_errors_on t) (sites_at everywhere x)) (single_errors_from everywhere (t + 1) xs)
    (single_errors-on-within n t (sites_at everywhere x) (sites-within n everywhere x (All-head (StepFits n) x xs w)))
    (single_errors-within n everywhere (t + 1) xs (All-tail (StepFits n) x xs w))
