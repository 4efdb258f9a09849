-- Single error tables: bits that the pass finds deterministic are so, and its rows, reduced to these bits, are those that single errors flip.
use Rattle.stab_regions.proofs.Names.{◌≡◌, ℕ, ◌<◌, refl, sym, ap, ◌∙◌, subst, Bool, true, false, List, [], ◌∷◌, map, length, drop, reverse, arith, All, slice_index_or, reverse_aux, All-head, All-tail, Items, Step, unroll, observables_of, detectors_of, StepFits, parity_deterministic, parity_flips, Site, SingleError, single_errors_of, sites_at, bits_in, IsDeterministic, AreDeterministic, flips, flipped_by_single_error, DeterministicParities, SitesFlipDeterministicParities, RegionWalk, is_stored, retained_of, numbers_before, IsRegionsAt, DetermineDeterministic, inserted_from, parity_row, zero-add, range_with_len, length-map-range_with_len, get_or-map-range_with_len}
use Rattle.std.specs.Prelude.{◌&&◌, ◌↔◌}
use Rattle.stab_regions.proofs.AscentLemmas.{preserved-where, where-same}
use Rattle.stab_regions.proofs.InsertedLemmas.{inserted_of, inserted-are, inserted-same, single_errors-within}

-- bits that say which parities are found deterministic
abbrev pub AreFound : ℕ → Items → List Bool → Type 0
AreFound n items deterministic = (i : ℕ) → i < bits_in items → slice_index_or deterministic i false ≡ parity_deterministic n (detectors_of (unroll items)) i (unroll items)

pub are-deterministic : (n : ℕ) (items : Items) (deterministic : List Bool) → DeterministicParities → All (StepFits n) (unroll items) → length deterministic ≡ bits_in items → AreFound n items deterministic → AreDeterministic n items deterministic
are-deterministic n items deterministic law fits long found = record {
  count = long;
  exact = λ i lt. subst (λ b. (b ≡ true) ↔ IsDeterministic n items i) (sym (found i lt)) (law n (observables_of items) (unroll items) i fits lt);
}

-- so some bits say for each bit of a run whether it is the same for all random bits
pub deterministic-found : DeterministicParities → (n : ℕ) (items : Items) → All (StepFits n) (unroll items) → (deterministic : List Bool) × AreDeterministic n items deterministic
deterministic-found law n items fits =
    let found : ℕ → Bool = λ i. parity_deterministic n (detectors_of (unroll items)) i (unroll items) in
    let deterministic : List Bool = map found (range_with_len 0 (bits_in items)) in (
      deterministic,
      are-deterministic n items deterministic law fits (length-map-range_with_len found 0 (bits_in items)) (λ i lt. get_or-map-range_with_len found 0 (bits_in items) i i false lt (zero-add i)),
    )

pub determine-long : (n : ℕ) (items : Items) (r : RegionWalk) (deterministic : List Bool) → DetermineDeterministic r deterministic → IsRegionsAt n (detectors_of (unroll items)) (observables_of items) (unroll items) r →
    length deterministic ≡ bits_in items
determine-long n items r deterministic determines at = determines.count ∙ at.marks

pub determine-found : (n : ℕ) (items : Items) (r : RegionWalk) (deterministic : List Bool) → DetermineDeterministic r deterministic → IsRegionsAt n (detectors_of (unroll items)) (observables_of items) (unroll items) r →
    AreFound n items deterministic
determine-found n items r deterministic determines at = determines.value n (detectors_of (unroll items)) (observables_of items) (unroll items) at

-- the row of a single error, reduced to its deterministic bits
row-flips : (n : ℕ) (items : Items) (deterministic : List Bool) (coins : ℕ → Bool) (f : SingleError) → SitesFlipDeterministicParities → All (StepFits n) (unroll items) →
    AreFound n items deterministic → f.qubit < n → retained_of deterministic (parity_row (numbers_before n items) (inserted_of (unroll items) f)) ≡ flipped_by_single_error n items deterministic coins f
row-flips n items deterministic coins f law fits found lt =
    preserved-where deterministic flipped 0 (bits_in items)
    ∙ where-same (λ m. is_stored deterministic m && flipped m) (λ m. is_stored deterministic m && flips n items coins f m) 0 (bits_in items)
    (λ m ge inside.
    let within : m < bits_in items = omega (arith, inside) in
    and-same (is_stored deterministic m) (flipped m) (flips n items coins f m) (λ stored. sym (law n items m f fits within lt (sym (found m within) ∙ stored) coins)))
  where
    flipped : ℕ → Bool
    flipped m = parity_flips n (detectors_of (unroll items)) m f.letter f.qubit (drop f.before (unroll items))

    and-same : (b x y : Bool) → (b ≡ true → x ≡ y) → (b && x) ≡ (b && y)
    and-same true x y same = same refl
    and-same false x y same = refl

-- all rows

rows-flip : (n : ℕ) (items : Items) (deterministic : List Bool) (coins : ℕ → Bool) (fs : List SingleError) → SitesFlipDeterministicParities →
    All (StepFits n) (unroll items) → AreFound n items deterministic → All (λ f. f.qubit < n) fs →
    map (retained_of deterministic) (map (parity_row (numbers_before n items)) (map (inserted_of (unroll items)) fs)) ≡ map (flipped_by_single_error n items deterministic coins) fs
rows-flip n items deterministic coins [] law fits found within = refl
rows-flip n items deterministic coins (f ∷ fs) law fits found within =
    (λ i. row-flips n items deterministic coins f law fits found (All-head (λ f. f.qubit < n) f fs within) i
    ∷ rows-flip n items deterministic coins fs law fits found (All-tail (λ f. f.qubit < n) f fs within) i)

pub table-flips : (n : ℕ) (everywhere : Bool) (items : Items) (deterministic : List Bool) (coins : ℕ → Bool) (sites : Step → List Site) (rows : List (List ℕ)) →
    SitesFlipDeterministicParities → All (StepFits n) (unroll items) → AreFound n items deterministic → ((x : Step) → sites x ≡ sites_at everywhere x) →
    rows ≡ map (parity_row (numbers_before n items)) (inserted_from sites (unroll items)) →
    map (retained_of deterministic) rows ≡ map (flipped_by_single_error n items deterministic coins) (single_errors_of everywhere (unroll items))
table-flips n everywhere items deterministic coins sites rows law fits found same are =
    ap (map (retained_of deterministic))
    (are ∙ ap (map (parity_row (numbers_before n items))) (inserted-same sites (sites_at everywhere) (unroll items) same ∙ inserted-are everywhere (unroll items) (unroll items) 0 refl))
    ∙ rows-flip n items deterministic coins (single_errors_of everywhere (unroll items)) law fits found (single_errors-within n everywhere 0 (unroll items) fits)

backwards-onto : (f : List ℕ → List ℕ) (rows others : List (List ℕ)) → reverse_aux (map f rows) (map f others) ≡ map f (reverse_aux rows others)
backwards-onto f [] others = refl
backwards-onto f (row ∷ rows) others = backwards-onto f rows (row ∷ others)

-- going backwards, the rows stay reduced to the bits
pub table-backwards : (deterministic bits : List Bool) (rows stored : List (List ℕ)) → bits ≡ deterministic → stored ≡ map (retained_of bits) rows → reverse stored ≡ map (retained_of deterministic) (reverse rows)
table-backwards deterministic bits rows stored same is =
    ap reverse (is ∙ ap (λ (b : List Bool). map (retained_of b) rows) same) ∙ backwards-onto (retained_of deterministic) rows []
