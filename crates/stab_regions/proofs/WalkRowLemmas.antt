-- Rows of walks: those on a qubit are the rows of X and Z there, by what has numbers in the walk.
use Rattle.stab_regions.proofs.Names.{◌≡◌, ℕ, ◌+◌, ◌-◌, ◌*◌, ◌<◌, ◌≤◌, refl, ◌∙◌, ap, arith, Bool, false, List, [], ◌∷◌, map, length, Letter, I, anticommute, single, odd, row, IsAscending, bits_at, numbers_where, get_or_past, length-one_letter, length-replicate, Step, identity, parity_region, inserted_on, Counts, FitsCounts, IsRegionsAt, RegionWalk, parity_row, row_of}
use Rattle.stab_gates.specs.declared.letter.Letter.TheVariants as letter
use Rattle.stab_frames.specs.Frames.{Frame, frame_of}
use Rattle.stab_ways.specs.PutIn.{way_over}
use Rattle.stab_regions.proofs.AscentLemmas.{ascending-is, ascends-below, where-same}
use Rattle.stab_regions.proofs.EffectLemmas.{bit_of_number, letter-bit, region-size}
use Rattle.stab_regions.proofs.EffectRowLemmas.{long-parts, long-way}
use Rattle.stab_regions.proofs.MoveLemmas.{long-parity}
use Rattle.stab_regions.proofs.NumberLemmas.{part-bit}
use Rattle.stab_regions.proofs.ParityLemmas.{none-commutes}
use Rattle.stab_regions.proofs.ShowLemmas.{bits-anticommute}
use Rattle.stab_regions.specs.Effects.{part_bits}
use Rattle.stab_regions.specs.declared.walk.Numbered.{Numbered}
use Rattle.stab_regions.specs.declared.walk.Numbered.TheVariants.{Parities, Effects}
use Rattle.stab_regions.specs.inner.EffectsAt.{first_part, numbers_in, effect_region, IsEffectsAt, effect_row}
use Rattle.stab_regions.specs.inner.SiteRows.{rows_on, Ascend}
use Rattle.stab_regions.specs.inner.Sweeps.{IsWalkOf}

-- an ascending list that names numbers below one as they have a property is the list of these
named-are : (total : ℕ) (flips : ℕ → Bool) (numbers : List ℕ) → IsAscending numbers → ((i : ℕ) → i < total → odd i numbers ≡ flips i) → ((i : ℕ) → total ≤ i → odd i numbers ≡ false)
    → numbers ≡ numbers_where flips 0 total
named-are total flips numbers ascending is others =
    ascending-is total 0 numbers (ascends-below 0 (0 + total) numbers ascending (λ i ge. others i (omega (arith, ge))))
    ∙ where-same (λ i. odd i numbers) flips 0 total (λ i ge lt. is i (omega (arith, lt)))

-- parities

module _ (c : Counts) (back : List Step) (w : RegionWalk) (at : IsRegionsAt c.qubits c.detectors c.observables back w) where
  parity-is : (l : Letter) (q : ℕ) (numbers : List ℕ) → q < c.qubits → IsAscending numbers
      → ((i : ℕ) → odd i numbers ≡ bits_at i l (row w.rows.by_x.items q) (row w.rows.by_z.items q)) → numbers ≡ parity_row c (record { letter = l; qubit = q; back = back })
  parity-is l q numbers lt ascending is =
      named-are (c.detectors + c.observables) _ numbers ascending
      (λ i less. is i ∙ bits-anticommute i c.qubits q l w.rows.by_x.items w.rows.by_z.items (parity_region c.qubits c.detectors i back).string lt (long-parity c.qubits c.detectors i back) (at.regions i less).letters)
      (λ i ge. is i ∙ bits-anticommute i c.qubits q l w.rows.by_x.items w.rows.by_z.items (identity c.qubits) lt (length-replicate c.qubits I) (at.others i ge).letters ∙ none-commutes c.qubits (single c.qubits q l))

  parities-on : (q : ℕ) → q < c.qubits → Ascend w.rows.by_x.items w.rows.by_z.items q → rows_on w.rows.by_x.items w.rows.by_z.items q ≡ map (parity_row c) (inserted_on q back)
  parities-on q lt up = λ t. parity-is letter.X q (row w.rows.by_x.items q) lt up.0 (λ i. refl) t ∷ parity-is letter.Z q (row w.rows.by_z.items q) lt up.1 (λ i. refl) t ∷ []

-- effects

-- no letter flips or leaves a number past all
past-numbers : (c : Counts) (i q : ℕ) (l : Letter) (back : List Step) → FitsCounts c back → numbers_in c ≤ i
    → anticommute (single c.qubits q l) (effect_region c i back).string ≡ false
past-numbers c i q l back fits ge =
    let f : Frame = frame_of (single c.qubits q l).letters 0 in
    let p : ℕ = i - first_part c in
    let long : length (part_bits (way_over c.qubits back f).letters) ≡ 2 * c.qubits =
    long-parts (way_over c.qubits back f).letters ∙ ap (λ k. 2 * k) (long-way c.qubits back f (length-one_letter c.qubits q l)) in
    letter-bit c i q 0 l back fits.steps
    ∙ ap (λ k. bit_of_number c k back f) (omega (arith, ge))
    ∙ part-bit c p back f (length-one_letter c.qubits q l) fits
    ∙ get_or_past (part_bits (way_over c.qubits back f).letters) p false (omega (arith, long, ge))

module _ (c : Counts) (back : List Step) (w : RegionWalk) (at : IsEffectsAt c back w.rows) (fits : FitsCounts c back) where
  effect-is : (l : Letter) (q : ℕ) (numbers : List ℕ) → q < c.qubits → IsAscending numbers
      → ((i : ℕ) → odd i numbers ≡ bits_at i l (row w.rows.by_x.items q) (row w.rows.by_z.items q)) → numbers ≡ effect_row c (record { letter = l; qubit = q; back = back })
  effect-is l q numbers lt ascending is = named-are (numbers_in c) _ numbers ascending (λ i less. named i) (λ i ge. named i ∙ past-numbers c i q l back fits ge)
    where
      named : (i : ℕ) → odd i numbers ≡ anticommute (single c.qubits q l) (effect_region c i back).string
      named i = is i ∙ bits-anticommute i c.qubits q l w.rows.by_x.items w.rows.by_z.items (effect_region c i back).string lt (region-size c i back) (at.regions i).letters

  effects-on : (q : ℕ) → q < c.qubits → Ascend w.rows.by_x.items w.rows.by_z.items q → rows_on w.rows.by_x.items w.rows.by_z.items q ≡ map (effect_row c) (inserted_on q back)
  effects-on q lt up = λ t. effect-is letter.X q (row w.rows.by_x.items q) lt up.0 (λ i. refl) t ∷ effect-is letter.Z q (row w.rows.by_z.items q) lt up.1 (λ i. refl) t ∷ []

-- both

pub walk-rows : (k : Numbered) (w : RegionWalk) (c : Counts) (back : List Step) → IsWalkOf k w c back → FitsCounts c back → (q : ℕ) → q < c.qubits → Ascend w.rows.by_x.items w.rows.by_z.items q
    → rows_on w.rows.by_x.items w.rows.by_z.items q ≡ map (row_of k c) (inserted_on q back)
walk-rows Parities w c back at fits = parities-on c back w at
walk-rows Effects w c back at fits = effects-on c back w at fits

pub walk-qubits : (k : Numbered) (w : RegionWalk) (c : Counts) (back : List Step) → IsWalkOf k w c back → length w.rows.by_x.items ≡ c.qubits
walk-qubits Parities w c back at = at.qubits
walk-qubits Effects w c back at = at.qubits

pub walk-sides : (k : Numbered) (w : RegionWalk) (c : Counts) (back : List Step) → IsWalkOf k w c back → length w.rows.by_z.items ≡ length w.rows.by_x.items
walk-sides Parities w c back at = at.sized.rows
walk-sides Effects w c back at = at.rows
