-- Sums of rows: single errors of a table flip a deterministic bit together if an odd number of their rows name it.
use Rattle.stab_regions.proofs.Names.{◌≡◌, ℕ, zero, suc, ◌+◌, ◌<◌, ◌≤◌, ◌⊎◌, inl, inr, refl, sym, ap, ◌∙◌, Bool, true, false, List, [], ◌∷◌, map, length, arith, All, ◌==◌, slice_index_or, if◌then◌else◌, flat_map, cases_eq, eq-eqb, get_or-map, length-map, All-nil, All-cons, All-head, All-tail, All-append, All-get_or, All-map, All-weaker, ◌⊕◌, parity-false, Items, Step, unroll, StepFits, odd, row, Site, SingleError, in_front, single_error_on, single_errors_on, single_errors_from, single_errors_of, sites_at, numbers_where, bits_in, IsDeterministic, IsSingleErrorTable, flips, flipped_by_single_error, single_error_at, RowsAdd, SingleErrorFits, flips_together, SingleErrorsAdd, odd-append}
use Rattle.std.specs.Prelude.{◌&&◌}
use Rattle.std.proofs.lemmas.Bool.{ne_eqb}
use Rattle.stab_gates.specs.declared.letter.Letter.TheVariants as letter
use Rattle.stab_regions.proofs.InsertedLemmas.{single_errors-within}
use Rattle.std.proofs.Math.Bool.{and-false}

-- a list of the numbers with a property names just those

-- the first number with it, and the others
odd-step : (f : ℕ → Bool) (i k m : ℕ) (b : Bool) → f i ≡ b → odd m (numbers_where f i (suc k)) ≡ (b && (i == m)) ⊕ odd m (numbers_where f (i + 1) k)
odd-step f i k m true e = ap (λ c. odd m (if c then i ∷ numbers_where f (i + 1) k else numbers_where f (i + 1) k)) e
odd-step f i k m false e = ap (λ c. odd m (if c then i ∷ numbers_where f (i + 1) k else numbers_where f (i + 1) k)) e

and-true : (b : Bool) → (b && true) ≡ b
and-true true = refl
and-true false = refl

odd-before : (f : ℕ → Bool) (i k m : ℕ) → m < i → odd m (numbers_where f i k) ≡ false
odd-before f i zero m lt = refl
odd-before f i (suc k) m lt =
    odd-step f i k m (f i) refl
    ∙ ap (λ c. (f i && c) ⊕ odd m (numbers_where f (i + 1) k)) (ne_eqb i m (λ e. omega (arith, e, lt)))
    ∙ ap (λ c. c ⊕ odd m (numbers_where f (i + 1) k)) (and-false (f i))
    ∙ odd-before f (i + 1) k m (omega (arith, lt))

-- the first number, or another, if it is so for the others
odd-next : (f : ℕ → Bool) (i k m : ℕ) → ((i ≡ m → ⊥) → odd m (numbers_where f (i + 1) k) ≡ f m) → (i ≡ m) ⊎ (i ≡ m → ⊥)
    → (f i && (i == m)) ⊕ odd m (numbers_where f (i + 1) k) ≡ f m
odd-next f i k m others (inl same) =
    (λ t. (f i && eq-eqb i m same t) ⊕ odd-before f (i + 1) k m (omega (arith, same)) t) ∙ parity-false (f i && true) ∙ and-true (f i) ∙ ap f same
odd-next f i k m others (inr other) =
    ap (λ c. (f i && c) ⊕ odd m (numbers_where f (i + 1) k)) (ne_eqb i m other)
    ∙ ap (λ c. c ⊕ odd m (numbers_where f (i + 1) k)) (and-false (f i))
    ∙ others other

pub odd-where : (f : ℕ → Bool) (i k m : ℕ) → i ≤ m → m < i + k → odd m (numbers_where f i k) ≡ f m
odd-where f i zero m le lt = absurd (omega (arith, le, lt))
odd-where f i (suc k) m le lt =
    odd-step f i k m (f i) refl
    ∙ odd-next f i k m (λ other. odd-where f (i + 1) k m (omega (arith, le, other)) (omega (arith, lt))) (cases_eq i m)

-- the single errors that are asked for are among the steps, on the qubits

before-end : (b : Bool) (t end : ℕ) → t + 1 ≤ end → (if b then t + 1 else t) ≤ end
before-end true t end le = le
before-end false t end le = omega (arith, le)

sites-fit : (end t : ℕ) (ss : List Site) → t + 1 ≤ end → All (λ f. f.before ≤ end) (flat_map (single_errors_on t) ss)
sites-fit end t [] le = All-nil (λ f. f.before ≤ end)
sites-fit end t (s ∷ ss) le =
    let here : (if s.following then t + 1 else t) ≤ end = before-end s.following t end le in
    let rest : List SingleError = flat_map (single_errors_on t) ss in
    All-cons (λ f. f.before ≤ end) (single_error_on t s letter.X) (single_error_on t s letter.Z ∷ rest) here
    (All-cons (λ f. f.before ≤ end) (single_error_on t s letter.Z) rest here (sites-fit end t ss le))

pub sites-fit-all : (everywhere : Bool) (end t : ℕ) (xs : List Step) → t + length xs ≤ end → All (λ f. f.before ≤ end) (single_errors_from everywhere t xs)
sites-fit-all everywhere end t [] le = All-nil (λ f. f.before ≤ end)
sites-fit-all everywhere end t (x ∷ xs) le =
    All-append (λ f. f.before ≤ end) (flat_map (single_errors_on t) (sites_at everywhere x)) (single_errors_from everywhere (t + 1) xs)
    (sites-fit end t (sites_at everywhere x) (omega (arith, le)))
    (sites-fit-all everywhere end (t + 1) xs (omega (arith, le)))

-- and so does the single error of a number
pub single_error-fits : (n : ℕ) (everywhere : Bool) (xs : List Step) (k : ℕ) → All (StepFits n) xs → k < length (single_errors_of everywhere xs) → SingleErrorFits n xs (single_error_at everywhere xs k)
single_error-fits n everywhere xs k fits lt = record {
  qubit = All-get_or (λ f. f.qubit < n) (single_errors_of everywhere xs) k (single_error_on 0 (in_front 0) letter.X) lt (single_errors-within n everywhere 0 xs fits);
  before =
      All-get_or (λ f. f.before ≤ length xs) (single_errors_of everywhere xs) k (single_error_on 0 (in_front 0) letter.X) lt
      (sites-fit-all everywhere (length xs) 0 xs (omega arith));
}

-- rows

module _ (n : ℕ) (everywhere : Bool) (items : Items) (deterministic : List Bool) (rows : List (List ℕ)) (fits : All (StepFits n) (unroll items))
    (table : IsSingleErrorTable n everywhere items deterministic rows) where
  abbrev single_errors : List SingleError
  single_errors = single_errors_of everywhere (unroll items)

  as-many : length rows ≡ length single_errors
  as-many = ap length (table.are_flipped (λ t. false)) ∙ length-map single_errors (flipped_by_single_error n items deterministic (λ t. false))

  all-fit : (numbers : List ℕ) → All (λ k. k < length rows) numbers → All (SingleErrorFits n (unroll items)) (map (single_error_at everywhere (unroll items)) numbers)
  all-fit numbers within =
      All-map (SingleErrorFits n (unroll items)) (single_error_at everywhere (unroll items)) numbers
      (All-weaker (λ k. k < length rows) (λ k. SingleErrorFits n (unroll items) (single_error_at everywhere (unroll items) k))
      (λ k lt. single_error-fits n everywhere (unroll items) k fits (omega (arith, lt, as-many))) numbers within)

  module _ (i : ℕ) (lt : i < bits_in items) (same : IsDeterministic n items i) (coins : ℕ → Bool) where
    -- a row names a deterministic bit if its single error flips it
    pub row-names : (k : ℕ) → k < length rows → flips n items coins (single_error_at everywhere (unroll items) k) i ≡ odd i (row rows k)
    row-names k within =
        let f : SingleError = single_error_at everywhere (unroll items) k in
        let is_row : row rows k ≡ flipped_by_single_error n items deterministic coins f =
        ap (λ rs. row rs k) (table.are_flipped coins)
        ∙ get_or-map (flipped_by_single_error n items deterministic coins) single_errors k (single_error_on 0 (in_front 0) letter.X) [] (omega (arith, within, as-many)) in
        let is_deterministic : slice_index_or deterministic i false ≡ true = (table.are_deterministic.exact i lt).1 same in
        sym (ap (odd i) is_row ∙ odd-where (λ m. slice_index_or deterministic m false && flips n items coins f m) 0 (bits_in items) i (omega arith) (omega (arith, lt))
        ∙ ap (λ b. b && flips n items coins f i) is_deterministic)

    -- so the rows of single errors name it as often as these flip it
    rows-name : (numbers : List ℕ) → All (λ k. k < length rows) numbers
        → flips_together (λ f. flips n items coins f i) (map (single_error_at everywhere (unroll items)) numbers) ≡ odd i (flat_map (row rows) numbers)
    rows-name [] within = refl
    rows-name (k ∷ ks) within =
        (λ t. row-names k (All-head (λ j. j < length rows) k ks within) t ⊕ rows-name ks (All-tail (λ j. j < length rows) k ks within) t)
        ∙ sym (odd-append i (row rows k) (flat_map (row rows) ks))

  pub rows-add : SingleErrorsAdd → RowsAdd n everywhere items rows
  rows-add law numbers i within lt same coins =
      law n items i (map (single_error_at everywhere (unroll items)) numbers) fits lt (all-fit numbers within) same coins ∙ rows-name i lt same coins numbers within
