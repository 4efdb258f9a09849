-- Errors that fit a circuit: what they flip adds, and they have a table.
use Rattle.stab_error_model.proofs.Names.{◌≡◌, ℕ, ◌<◌, refl, sym, ap, ◌∙◌, Bool, true, false, List, [], ◌∷◌, ◌++◌, map, arith, All, Contains, ◌&&◌, slice_index_or, flat_map, All-nil, All-head, All-tail, All-append, All-contains, ◌⊕◌, parity-assoc, Items, unroll, detectors_of, StepFits, SingleError, bits_in, IsDeterministic, AreDeterministic, flips, SingleErrorFits, flips_together, SingleErrorsAdd, DeterministicParities, SitesFlipDeterministicParities, where-same, Error, single_errors_in, ErrorTableState, IsErrorTable, flip_together, flipped_by_error, flip_each, ErrorsAdd, observables_of, deterministic-found}

pub together-append : (g : SingleError → Bool) (xs ys : List SingleError) → flips_together g (xs ++ ys) ≡ flips_together g xs ⊕ flips_together g ys
together-append g [] ys = refl
together-append g (x ∷ xs) ys = ap (λ b. g x ⊕ b) (together-append g xs ys) ∙ sym (parity-assoc (g x) (flips_together g xs) (flips_together g ys))

-- all single errors of an error fit
abbrev pub Fits : (n : ℕ) → Items → Error → Type 0
Fits n items e = All (SingleErrorFits n (unroll items)) (single_errors_in e)

module _ (n : ℕ) (items : Items) (fits : All (StepFits n) (unroll items)) (adds : SingleErrorsAdd) where
  abbrev Fit : SingleError → Type 0
  Fit = SingleErrorFits n (unroll items)

  all-fit : (errors : List Error) → All (Fits n items) errors → All Fit (flat_map single_errors_in errors)
  all-fit [] fit = All-nil Fit
  all-fit (e ∷ es) fit = All-append Fit (single_errors_in e) (flat_map single_errors_in es) (All-head (Fits n items) e es fit) (all-fit es (All-tail (Fits n items) e es fit))

  module _ (i : ℕ) (lt : i < bits_in items) (same : IsDeterministic n items i) (coins : ℕ → Bool) where
    each-alone : (errors : List Error) → All (Fits n items) errors → flips_together (λ f. flips n items coins f i) (flat_map single_errors_in errors) ≡ flip_each n items coins errors i
    each-alone [] fit = refl
    each-alone (e ∷ es) fit =
        together-append (λ f. flips n items coins f i) (single_errors_in e) (flat_map single_errors_in es)
        ∙ (λ t. sym (adds n items i (single_errors_in e) fits lt (All-head (Fits n items) e es fit) same coins) t ⊕ each-alone es (All-tail (Fits n items) e es fit) t)

    fit-add : (errors : List Error) → All (Fits n items) errors → flip_together n items coins (flat_map single_errors_in errors) i ≡ flip_each n items coins errors i
    fit-add errors fit = adds n items i (flat_map single_errors_in errors) fits lt (all-fit errors fit) same coins ∙ each-alone errors fit

  some-fit : (all errors : List Error) → All (Fits n items) all → All (λ e. Contains all e) errors → All (Fits n items) errors
  some-fit all errors fit are = λ k d less. All-contains (Fits n items) all (slice_index_or errors k d) fit (are k d less)

  pub errors-add : (errors : List Error) → All (Fits n items) errors → ErrorsAdd n items errors
  errors-add errors fit some i are lt same coins = fit-add i lt same coins some (some-fit errors some fit are)

-- what an error flips of deterministic bits does not depend on coins

module _ (n : ℕ) (items : Items) (deterministic : List Bool) (fits : All (StepFits n) (unroll items)) (are_deterministic : AreDeterministic n items deterministic)
    (found : DeterministicParities) (sites : SitesFlipDeterministicParities) (adds : SingleErrorsAdd) (coins others : ℕ → Bool) where
  module _ (i : ℕ) (lt : i < bits_in items) (same : IsDeterministic n items i) where
    single_errors-alike : (fs : List SingleError) → All (SingleErrorFits n (unroll items)) fs → flips_together (λ f. flips n items coins f i) fs ≡ flips_together (λ f. flips n items others f i) fs
    single_errors-alike [] fit = refl
    single_errors-alike (f ∷ fs) fit =
        let here = All-head (SingleErrorFits n (unroll items)) f fs fit in
        let is_deterministic = (found n (observables_of items) (unroll items) i fits lt).1 same in
        (λ t.
        (sites n items i f fits lt here.qubit is_deterministic coins ∙ sym (sites n items i f fits lt here.qubit is_deterministic others)) t
        ⊕ single_errors-alike fs (All-tail (SingleErrorFits n (unroll items)) f fs fit) t)

    error-alike : (e : Error) → Fits n items e → flip_together n items coins (single_errors_in e) i ≡ flip_together n items others (single_errors_in e) i
    error-alike e fit =
        adds n items i (single_errors_in e) fits lt fit same coins
        ∙ single_errors-alike (single_errors_in e) fit
        ∙ sym (adds n items i (single_errors_in e) fits lt fit same others)

  bit-alike : (e : Error) → Fits n items e → (i : ℕ) → i < bits_in items
      → (slice_index_or deterministic i false && flip_together n items coins (single_errors_in e) i) ≡ (slice_index_or deterministic i false && flip_together n items others (single_errors_in e) i)
  bit-alike e fit i lt = by_bit (slice_index_or deterministic i false) refl
    where
      by_bit : (b : Bool) → slice_index_or deterministic i false ≡ b → (b && flip_together n items coins (single_errors_in e) i) ≡ (b && flip_together n items others (single_errors_in e) i)
      by_bit true is = error-alike i lt ((are_deterministic.exact i lt).0 is) e fit
      by_bit false is = refl

  pub rows-alike : (errors : List Error) → All (Fits n items) errors → map (flipped_by_error n items deterministic coins) errors ≡ map (flipped_by_error n items deterministic others) errors
  rows-alike [] fit = refl
  rows-alike (e ∷ es) fit =
      (λ t.
      where-same (λ i. slice_index_or deterministic i false && flip_together n items coins (single_errors_in e) i)
      (λ i. slice_index_or deterministic i false && flip_together n items others (single_errors_in e) i) 0 (bits_in items)
      (λ m ge less. bit-alike e (All-head (Fits n items) e es fit) m (omega (arith, less))) t
      ∷ rows-alike es (All-tail (Fits n items) e es fit) t)

-- so there is a table

module _ (n : ℕ) (items : Items) (fits : All (StepFits n) (unroll items)) (found : DeterministicParities) (sites : SitesFlipDeterministicParities) (adds : SingleErrorsAdd) where
  pub table-found : (errors : List Error) → All (Fits n items) errors → (t : ErrorTableState) × (t.errors ≡ errors) × IsErrorTable n items t
  table-found errors fit =
      let deterministic = deterministic-found found n items fits in
      let coins : ℕ → Bool = λ k. false in (
        record { deterministic = deterministic.0; errors = errors; table = record { detectors = detectors_of (unroll items); rows = map (flipped_by_error n items deterministic.0 coins) errors } },
        refl,
        record {
          are_deterministic = deterministic.1;
          detectors = refl;
          are_flipped = λ others. rows-alike n items deterministic.0 fits deterministic.1 found sites adds coins others errors fit;
          add = errors-add n items fits adds errors fit;
        },
      )
