-- Numbers: the bits of records, detectors, observables and parts of letters by their numbers.
use Rattle.stab_regions.proofs.Names.{◌≡◌, ℕ, suc, ◌+◌, ◌-◌, ◌<◌, ◌≤◌, sym, ◌∙◌, ap, arith, Bool, true, false, List, [], ◌∷◌, ◌++◌, append-nil, length, length-set, replicate, if◌then◌else◌, ◌==◌, ne_eqb, slice_index_or, All-head, ◌⊕◌, parity-false, parity-assoc, single, strings_anticommute, Step, one, two, controlled, collapse, product, detector, observable, detectors_of, parity, string_of, with_additions, added, NamesBelow}
use Rattle.stab_items.specs.Steps.{records_of}
use Rattle.stab_frames.specs.Frames.{Frame}
use Rattle.stab_ways.specs.PutIn.{way_after, way_over, way_flips}
use Rattle.stab_regions.proofs.LeftLemmas.{way-size}
use Rattle.stab_regions.proofs.ObservableLemmas.{added-bit}
use Rattle.stab_regions.proofs.EffectLemmas.{bit_of_number, more-asked, not-asked, newest, test-same, zeros-alone, below-end, end-part, fits-next}
use Rattle.stab_regions.specs.Effects.{part_bits}
use Rattle.stab_regions.specs.inner.EffectsAt.{end_letters, first_part}
use Rattle.stab_regions.specs.declared.counts.Counts.{Counts}
use Rattle.stab_regions.specs.inner.Passes.{FitsCounts}

module _ (c : Counts) where
  abbrev n : ℕ
  n = c.qubits

  -- records

  -- all bits of records, of which those before the last steps are 0
  abbrev pub record_bits : List Step → Frame → List Bool
  record_bits back f = replicate (c.records - records_of back) false ++ (way_flips n back f).records

  abbrev IsRecordBit : ℕ → List Step → Frame → Type 0
  IsRecordBit i back f = bit_of_number c i back f ≡ slice_index_or (record_bits back f) i false

  -- a step makes none, and nothing is asked for
  record-same : (i : ℕ) (rest : List Bool) (m k : ℕ) (b : Bool) → m ≡ k → b ≡ slice_index_or (replicate (c.records - m) false ++ rest) i false
      → b ≡ slice_index_or (replicate (c.records - k) false ++ rest) i false
  record-same i rest m k b e is = is ∙ ap (λ j. slice_index_or (replicate (c.records - j) false ++ rest) i false) e

  -- a step makes one
  record-made : (i made : ℕ) (flips rest : List Bool) (b there : Bool) → 1 + made ≤ c.records → there ≡ slice_index_or (replicate (c.records - made) false ++ rest) i false
      → parity (flips ++ b ∷ []) (if i + 1 == c.records - made then 1 ∷ [] else []) ⊕ there ≡ slice_index_or (replicate (c.records - (1 + made)) false ++ b ∷ rest) i false
  record-made i made flips rest b there le is =
      ap (λ a. parity (flips ++ b ∷ []) (if i + 1 == c.records - made then 1 ∷ [] else []) ⊕ a)
      (is ∙ ap (λ k. slice_index_or (replicate k false ++ rest) i false) next)
      ∙ more-asked (c.records - (1 + made)) i (i + 1 == c.records - made) (flips ++ b ∷ []) (1 ∷ []) b rest
      (test-same (i + 1) (c.records - made) i (c.records - (1 + made)) (λ e. omega (arith, e, le)) (λ e. omega (arith, e, le)))
      (newest flips b)
    where
      next : c.records - made ≡ suc (c.records - (1 + made))
      next = omega (arith, le)

  pub record-bit : (i : ℕ) (back : List Step) (f : Frame) → i < c.records → FitsCounts c back → IsRecordBit i back f
  record-bit i [] f lt fits = below-end i (first_part c) n f.letters (omega (arith, lt)) ∙ sym (zeros-alone (c.records - 0) i)
  record-bit i (one g q ∷ back) f lt fits =
      record-same i _ (records_of back) (records_of (one g q ∷ back)) _ (omega arith) (record-bit i back (way_after n (one g q) f) lt (fits-next c (one g q) back fits))
  record-bit i (two g a b ∷ back) f lt fits =
      record-same i _ (records_of back) (records_of (two g a b ∷ back)) _ (omega arith) (record-bit i back (way_after n (two g a b) f) lt (fits-next c (two g a b) back fits))
  record-bit i (controlled l k q ∷ back) f lt fits =
      record-same i _ (records_of back) (records_of (controlled l k q ∷ back)) _ (omega arith)
      (record-bit i back (way_after n (controlled l k q) f) lt (fits-next c (controlled l k q) back fits))
  record-bit i (collapse l q false inverted resets ∷ back) f lt fits =
      record-same i _ (records_of back) (records_of (collapse l q false inverted resets ∷ back)) _ (omega arith)
      (record-bit i back (way_after n (collapse l q false inverted resets) f) lt (fits-next c (collapse l q false inverted resets) back fits))
  record-bit i (collapse l q true inverted resets ∷ back) f lt fits =
      record-made i (records_of back) f.flips _ (strings_anticommute f.letters (single n q l).letters) _ fits.records
      (record-bit i back (way_after n (collapse l q true inverted resets) f) lt (fits-next c (collapse l q true inverted resets) back fits))
  record-bit i (product factors inverted ∷ back) f lt fits =
      record-made i (records_of back) f.flips _ (strings_anticommute f.letters (string_of n factors).letters) _ fits.records
      (record-bit i back (way_after n (product factors inverted) f) lt (fits-next c (product factors inverted) back fits))
  record-bit i (detector ks ∷ back) f lt fits =
      ap (λ a. a ⊕ bit_of_number c i back (way_after n (detector ks) f))
      (not-asked _ (way_after n (detector ks) f).flips ks (ne_eqb (i + 1) ((c.records + c.detectors) - detectors_of back) (λ e. omega (arith, e, lt, fits.detectors))))
      ∙ record-same i _ (records_of back) (records_of (detector ks ∷ back)) _ (omega arith) (record-bit i back (way_after n (detector ks) f) lt (fits-next c (detector ks) back fits))
  record-bit i (observable j ks ∷ back) f lt fits =
      ap (λ a. a ⊕ bit_of_number c i back (way_after n (observable j ks) f))
      (not-asked _ (way_after n (observable j ks) f).flips ks (ne_eqb i ((c.records + c.detectors) + j) (λ e. omega (arith, e, lt))))
      ∙ record-same i _ (records_of back) (records_of (observable j ks ∷ back)) _ (omega arith)
      (record-bit i back (way_after n (observable j ks) f) lt (fits-next c (observable j ks) back fits))

  -- detectors

  abbrev pub detector_bits : List Step → Frame → List Bool
  detector_bits back f = replicate (c.detectors - detectors_of back) false ++ (way_flips n back f).detectors

  abbrev IsDetectorBit : ℕ → List Step → Frame → Type 0
  IsDetectorBit d back f = bit_of_number c (c.records + d) back f ≡ slice_index_or (detector_bits back f) d false

  -- no record of a step is asked for by a number of another kind
  no-record : (i made : ℕ) (flips : List Bool) (there : Bool) → c.records ≤ i → parity flips (if i + 1 == c.records - made then 1 ∷ [] else []) ⊕ there ≡ there
  no-record i made flips there le = ap (λ a. a ⊕ there) (not-asked _ flips (1 ∷ []) (ne_eqb (i + 1) (c.records - made) (λ e. omega (arith, e, le))))

  detector-made : (d made : ℕ) (flips rest : List Bool) (ks : List ℕ) (there : Bool) → 1 + made ≤ c.detectors
      → there ≡ slice_index_or (replicate (c.detectors - made) false ++ rest) d false
      → parity (flips ++ []) (if (c.records + d) + 1 == (c.records + c.detectors) - made then ks else []) ⊕ there
      ≡ slice_index_or (replicate (c.detectors - (1 + made)) false ++ parity flips ks ∷ rest) d false
  detector-made d made flips rest ks there le is =
      ap (λ a. parity (flips ++ []) (if (c.records + d) + 1 == (c.records + c.detectors) - made then ks else []) ⊕ a)
      (is ∙ ap (λ k. slice_index_or (replicate k false ++ rest) d false) next)
      ∙ more-asked (c.detectors - (1 + made)) d ((c.records + d) + 1 == (c.records + c.detectors) - made) (flips ++ []) ks (parity flips ks) rest
      (test-same ((c.records + d) + 1) ((c.records + c.detectors) - made) d (c.detectors - (1 + made)) (λ e. omega (arith, e, le)) (λ e. omega (arith, e, le)))
      (ap (λ bits. parity bits ks) (append-nil flips))
    where
      next : c.detectors - made ≡ suc (c.detectors - (1 + made))
      next = omega (arith, le)

  pub detector-bit : (d : ℕ) (back : List Step) (f : Frame) → d < c.detectors → FitsCounts c back → IsDetectorBit d back f
  detector-bit d [] f lt fits = below-end (c.records + d) (first_part c) n f.letters (omega (arith, lt)) ∙ sym (zeros-alone (c.detectors - 0) d)
  detector-bit d (one g q ∷ back) f lt fits = detector-bit d back (way_after n (one g q) f) lt (fits-next c (one g q) back fits)
  detector-bit d (two g a b ∷ back) f lt fits = detector-bit d back (way_after n (two g a b) f) lt (fits-next c (two g a b) back fits)
  detector-bit d (controlled l k q ∷ back) f lt fits = detector-bit d back (way_after n (controlled l k q) f) lt (fits-next c (controlled l k q) back fits)
  detector-bit d (collapse l q false inverted resets ∷ back) f lt fits =
      detector-bit d back (way_after n (collapse l q false inverted resets) f) lt (fits-next c (collapse l q false inverted resets) back fits)
  detector-bit d (collapse l q true inverted resets ∷ back) f lt fits =
      no-record (c.records + d) (records_of back) (way_after n (collapse l q true inverted resets) f).flips _ (omega arith)
      ∙ detector-bit d back (way_after n (collapse l q true inverted resets) f) lt (fits-next c (collapse l q true inverted resets) back fits)
  detector-bit d (product factors inverted ∷ back) f lt fits =
      no-record (c.records + d) (records_of back) (way_after n (product factors inverted) f).flips _ (omega arith)
      ∙ detector-bit d back (way_after n (product factors inverted) f) lt (fits-next c (product factors inverted) back fits)
  detector-bit d (detector ks ∷ back) f lt fits =
      detector-made d (detectors_of back) f.flips _ ks _ fits.detectors (detector-bit d back (way_after n (detector ks) f) lt (fits-next c (detector ks) back fits))
  detector-bit d (observable j ks ∷ back) f lt fits =
      ap (λ a. a ⊕ bit_of_number c (c.records + d) back (way_after n (observable j ks) f))
      (not-asked _ (way_after n (observable j ks) f).flips ks (ne_eqb (c.records + d) ((c.records + c.detectors) + j) (λ e. omega (arith, e, lt))))
      ∙ detector-bit d back (way_after n (observable j ks) f) lt (fits-next c (observable j ks) back fits)

  -- observables

  -- no detector is asked for by a number after theirs
  no-detector : (i made : ℕ) (flips : List Bool) (ks : List ℕ) (there : Bool) → c.records + c.detectors ≤ i
      → parity flips (if i + 1 == (c.records + c.detectors) - made then ks else []) ⊕ there ≡ there
  no-detector i made flips ks there le = ap (λ a. a ⊕ there) (not-asked _ flips ks (ne_eqb (i + 1) ((c.records + c.detectors) - made) (λ e. omega (arith, e, le))))

  abbrev IsObservableBit : ℕ → List Step → Frame → List Bool → Type 0
  IsObservableBit j back f bits =
      slice_index_or (with_additions (way_flips n back f).additions bits) j false ≡ slice_index_or bits j false ⊕ bit_of_number c ((c.records + c.detectors) + j) back f

  pub observable-bit : (j : ℕ) (back : List Step) (f : Frame) (bits : List Bool) → j < c.observables → j < length bits → FitsCounts c back → IsObservableBit j back f bits
  observable-bit j [] f bits lt inside fits =
      sym (parity-false (slice_index_or bits j false))
      ∙ ap (λ a. slice_index_or bits j false ⊕ a) (sym (below-end ((c.records + c.detectors) + j) (first_part c) n f.letters (omega (arith, lt))))
  observable-bit j (one g q ∷ back) f bits lt inside fits = observable-bit j back (way_after n (one g q) f) bits lt inside (fits-next c (one g q) back fits)
  observable-bit j (two g a b ∷ back) f bits lt inside fits = observable-bit j back (way_after n (two g a b) f) bits lt inside (fits-next c (two g a b) back fits)
  observable-bit j (controlled l k q ∷ back) f bits lt inside fits = observable-bit j back (way_after n (controlled l k q) f) bits lt inside (fits-next c (controlled l k q) back fits)
  observable-bit j (collapse l q false inverted resets ∷ back) f bits lt inside fits =
      observable-bit j back (way_after n (collapse l q false inverted resets) f) bits lt inside (fits-next c (collapse l q false inverted resets) back fits)
  observable-bit j (collapse l q true inverted resets ∷ back) f bits lt inside fits =
      observable-bit j back (way_after n (collapse l q true inverted resets) f) bits lt inside (fits-next c (collapse l q true inverted resets) back fits)
      ∙ ap (λ a. slice_index_or bits j false ⊕ a)
      (sym (no-record ((c.records + c.detectors) + j) (records_of back) (way_after n (collapse l q true inverted resets) f).flips _ (omega arith)))
  observable-bit j (product factors inverted ∷ back) f bits lt inside fits =
      observable-bit j back (way_after n (product factors inverted) f) bits lt inside (fits-next c (product factors inverted) back fits)
      ∙ ap (λ a. slice_index_or bits j false ⊕ a)
      (sym (no-record ((c.records + c.detectors) + j) (records_of back) (way_after n (product factors inverted) f).flips _ (omega arith)))
  observable-bit j (detector ks ∷ back) f bits lt inside fits =
      observable-bit j back (way_after n (detector ks) f) bits lt inside (fits-next c (detector ks) back fits)
      ∙ ap (λ a. slice_index_or bits j false ⊕ a)
      (sym (no-detector ((c.records + c.detectors) + j) (detectors_of back) (way_after n (detector ks) f).flips ks _ (omega arith)))
  observable-bit j (observable i ks ∷ back) f bits lt inside fits =
      observable-bit j back g (added i (parity f.flips ks) bits) lt (omega (arith, inside, length-set bits i (parity f.flips ks ⊕ slice_index_or bits i false))) (fits-next c (observable i ks) back fits)
      ∙ ap (λ a. a ⊕ bit_of_number c ((c.records + c.detectors) + j) back g) (added-bit i j f.flips ks bits inside)
      ∙ parity-assoc (slice_index_or bits j false) (parity f.flips (if i == j then ks else [])) (bit_of_number c ((c.records + c.detectors) + j) back g)
      ∙ (λ t. slice_index_or bits j false ⊕ (parity (sym (append-nil f.flips) t) (if same t then ks else []) ⊕ bit_of_number c ((c.records + c.detectors) + j) back g))
    where
      g : Frame
      g = way_after n (observable i ks) f

      same : (i == j) ≡ ((c.records + c.detectors) + j == (c.records + c.detectors) + i)
      same = test-same i j ((c.records + c.detectors) + j) ((c.records + c.detectors) + i) (λ e. omega (arith, e)) (λ e. omega (arith, e))

  -- parts of letters

  abbrev IsPart : ℕ → List Step → Frame → Type 0
  IsPart p back f = bit_of_number c (first_part c + p) back f ≡ slice_index_or (part_bits (way_over n back f).letters) p false

  pub part-bit : (p : ℕ) (back : List Step) (f : Frame) → length f.letters ≡ n → FitsCounts c back → IsPart p back f
  part-bit p [] f lf fits = ap (λ k. strings_anticommute f.letters (end_letters (first_part c + p) (first_part c) k)) (sym lf) ∙ end-part p (first_part c) f.letters
  part-bit p (one g q ∷ back) f lf fits = part-bit p back (way_after n (one g q) f) (way-size n (one g q) f lf) (fits-next c (one g q) back fits)
  part-bit p (two g a b ∷ back) f lf fits = part-bit p back (way_after n (two g a b) f) (way-size n (two g a b) f lf) (fits-next c (two g a b) back fits)
  part-bit p (controlled l k q ∷ back) f lf fits = part-bit p back (way_after n (controlled l k q) f) (way-size n (controlled l k q) f lf) (fits-next c (controlled l k q) back fits)
  part-bit p (collapse l q false inverted resets ∷ back) f lf fits =
      part-bit p back (way_after n (collapse l q false inverted resets) f) (way-size n (collapse l q false inverted resets) f lf) (fits-next c (collapse l q false inverted resets) back fits)
  part-bit p (collapse l q true inverted resets ∷ back) f lf fits =
      no-record (first_part c + p) (records_of back) (way_after n (collapse l q true inverted resets) f).flips _ (omega arith)
      ∙ part-bit p back (way_after n (collapse l q true inverted resets) f) (way-size n (collapse l q true inverted resets) f lf) (fits-next c (collapse l q true inverted resets) back fits)
  part-bit p (product factors inverted ∷ back) f lf fits =
      no-record (first_part c + p) (records_of back) (way_after n (product factors inverted) f).flips _ (omega arith)
      ∙ part-bit p back (way_after n (product factors inverted) f) lf (fits-next c (product factors inverted) back fits)
  part-bit p (detector ks ∷ back) f lf fits =
      no-detector (first_part c + p) (detectors_of back) (way_after n (detector ks) f).flips ks _ (omega arith)
      ∙ part-bit p back (way_after n (detector ks) f) lf (fits-next c (detector ks) back fits)
  part-bit p (observable j ks ∷ back) f lf fits =
      ap (λ a. a ⊕ bit_of_number c (first_part c + p) back (way_after n (observable j ks) f))
      (not-asked _ (way_after n (observable j ks) f).flips ks
      (ne_eqb (first_part c + p) ((c.records + c.detectors) + j) (λ e. let below : j < c.observables = All-head (NamesBelow c.observables) (observable j ks) back fits.observables in omega (arith, e, below))))
      ∙ part-bit p back (way_after n (observable j ks) f) lf (fits-next c (observable j ks) back fits)
