-- Observables: the bit that a run gives one is the exclusive or of all that is asked for on the way.
use Rattle.stab_regions.proofs.Names.{◌≡◌, ℕ, ◌<◌, refl, sym, ◌∙◌, ap, arith, Bool, true, false, List, [], ◌∷◌, length, eqb-true, if◌then◌else◌, slice_index_or, length-replicate, get_or-replicate, length-set, get_or-set_same, get_or-set_other, ◌⊕◌, parity-assoc, parity-comm, parity-false, not_both, Step, one, two, controlled, collapse, product, detector, observable, parity, State, start, added, Point, origin, next_point, outputs, with_additions, RunsArePointsWithOutputs, asks_observable, bit_asked, run}
use Rattle.std.proofs.Common.{◌==◌, replicate, eq-eqb}

-- a bit that is added to an observable counts for that one alone
pub added-bit : (i j : ℕ) (records : List Bool) (ks : List ℕ) (bits : List Bool) → j < length bits
    → slice_index_or (added i (parity records ks) bits) j false ≡ slice_index_or bits j false ⊕ parity records (asks_observable j (observable i ks))
added-bit i j records ks bits lt = by_site (i == j) refl
  where
    by_site : (b : Bool) → (i == j) ≡ b
        → slice_index_or (added i (parity records ks) bits) j false ≡ slice_index_or bits j false ⊕ parity records (if i == j then ks else [])
    by_site true e =
        let same : i ≡ j = eqb-true i j e in
        ap (λ k. slice_index_or (added i (parity records ks) bits) k false) (sym same)
        ∙ get_or-set_same bits i (parity records ks ⊕ slice_index_or bits i false) false (omega (arith, lt, same))
        ∙ parity-comm (parity records ks) (slice_index_or bits i false)
        ∙ (λ t. slice_index_or bits (same t) false ⊕ parity records (if sym e t then ks else []))
    by_site false e =
        get_or-set_other bits i j (parity records ks ⊕ slice_index_or bits i false) false (λ h. not_both (i == j) e (eq-eqb i j (sym h)))
        ∙ sym (parity-false (slice_index_or bits j false))
        ∙ ap (λ b. slice_index_or bits j false ⊕ parity records (if b then ks else [])) (sym e)

-- what steps add to an observable
added-asked : (n : ℕ) (coins : ℕ → Bool) (j : ℕ) (xs : List Step) (p : Point) (bits : List Bool) → j < length bits
    → slice_index_or (with_additions (outputs n coins xs p).additions bits) j false ≡ slice_index_or bits j false ⊕ bit_asked n coins (asks_observable j) xs [] p
added-asked n coins j [] p bits lt = sym (parity-false (slice_index_or bits j false))
added-asked n coins j (one g q ∷ xs) p bits lt = added-asked n coins j xs (next_point n coins (one g q) p) bits lt
added-asked n coins j (two g a b ∷ xs) p bits lt = added-asked n coins j xs (next_point n coins (two g a b) p) bits lt
added-asked n coins j (controlled l k q ∷ xs) p bits lt = added-asked n coins j xs (next_point n coins (controlled l k q) p) bits lt
added-asked n coins j (collapse l q recorded inverted resets ∷ xs) p bits lt =
    added-asked n coins j xs (next_point n coins (collapse l q recorded inverted resets) p) bits lt
added-asked n coins j (product factors inverted ∷ xs) p bits lt = added-asked n coins j xs (next_point n coins (product factors inverted) p) bits lt
added-asked n coins j (detector ks ∷ xs) p bits lt = added-asked n coins j xs (next_point n coins (detector ks) p) bits lt
added-asked n coins j (observable i ks ∷ xs) p bits lt =
    let next : Point = next_point n coins (observable i ks) p in
    added-asked n coins j xs next (added i (parity p.records ks) bits) (omega (arith, lt, length-set bits i (parity p.records ks ⊕ slice_index_or bits i false)))
    ∙ ap (λ b. b ⊕ bit_asked n coins (asks_observable j) xs [] next) (added-bit i j p.records ks bits lt)
    ∙ parity-assoc (slice_index_or bits j false) (parity p.records (asks_observable j (observable i ks))) (bit_asked n coins (asks_observable j) xs [] next)

-- an observable of the run of steps, with this many
abbrev pub observable_bit : ℕ → (ℕ → Bool) → List Step → ℕ → ℕ → Bool
observable_bit n coins xs count j = slice_index_or (run n coins xs (start count)).observables j false

-- an observable of a run is what is asked for on the way
pub observable-bit : RunsArePointsWithOutputs → (n : ℕ) (coins : ℕ → Bool) (xs : List Step) (count j : ℕ) → j < count
    → observable_bit n coins xs count j ≡ bit_asked n coins (asks_observable j) xs [] origin
observable-bit law n coins xs count j lt =
    ap (λ (s : State). slice_index_or s.observables j false) (law n coins xs (start count))
    ∙ added-asked n coins j xs origin (replicate count false) (omega (arith, lt, length-replicate count false))
    ∙ ap (λ b. b ⊕ bit_asked n coins (asks_observable j) xs [] origin) (get_or-replicate count j false false lt)
