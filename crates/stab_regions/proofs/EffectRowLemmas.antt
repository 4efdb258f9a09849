-- Rows of effects: the numbers whose regions a letter touches are those of all bits that its string flips and leaves.
use Rattle.stab_regions.proofs.Names.{◌≡◌, ℕ, zero, suc, ◌+◌, ◌-◌, ◌*◌, ◌<◌, ◌≤◌, ◌⊎◌, inl, inr, refl, sym, ◌∙◌, ap, subst, arith, Bool, true, false, List, [], ◌∷◌, ◌++◌, map, length, take, drop, take-length, set-get_or, length-set, length-append, length-replicate, get_or-replicate, get_or_append_left, get_or-append-add, take-append-drop, replicate, if◌then◌else◌, cases_lt, slice_index_or, All, All-drop, Letter, ◌⊕◌, single, strings_anticommute-blank, length-one_letter, Items, Step, one, two, controlled, collapse, product, detector, observable, unroll, observables_of, detectors_of, is_detector, StepFits, string_of, with_additions, added, numbers_where, SingleError, single_errors_of, inserted_from, Site, sites_at}
use Rattle.stab_items.proofs.StepLemmas.{records_of-append, detectors_of-append}
use Rattle.stab_items.specs.Steps.{makes, records_of}
use Rattle.stab_run.specs.Points.{RunOutput}
use Rattle.stab_run.specs.declared.records.Addition.{Addition}
use Rattle.stab_frames.specs.Frames.{Frame, identity_frame}
use Rattle.stab_frames.specs.FrameSteps.{flips_given}
use Rattle.stab_ways.specs.PutIn.{by_letters, way_after, way_over, way_flips, frame_begun, string_after, string_flips}
use Rattle.stab_ways.proofs.BlankLemmas.{blank-over}
use Rattle.stab_regions.proofs.AscentLemmas.{where-same}
use Rattle.stab_regions.proofs.InsertedLemmas.{inserted_of, inserted-are, inserted-same}
use Rattle.stab_regions.proofs.LeftLemmas.{way-size}
use Rattle.stab_regions.proofs.EffectLemmas.{bit_of_number, letter-bit, parity-zeros, fits-all, fits-drop}
use Rattle.stab_regions.proofs.NumberLemmas.{record_bits, record-bit, detector_bits, detector-bit, observable-bit, part-bit}
use Rattle.stab_regions.specs.Effects.{part_bits, bits_of_single_error, effect_of_single_error}
use Rattle.stab_regions.specs.inner.EffectsAt.{numbers_in, effect_row}
use Rattle.stab_regions.specs.declared.counts.Counts.{Counts}
use Rattle.stab_regions.specs.inner.Passes.{numbers_before, FitsCounts}

-- how long the lists are

given-records : (n : ℕ) (x : Step) (f : Frame) → length (flips_given n by_letters x 0 f).records ≡ makes x
given-records n (one g q) f = refl
given-records n (two g a b) f = refl
given-records n (controlled l k q) f = refl
given-records n (collapse l q true inverted resets) f = refl
given-records n (collapse l q false inverted resets) f = refl
given-records n (product factors inverted) f = refl
given-records n (detector ks) f = refl
given-records n (observable j ks) f = refl

long-records : (n : ℕ) (xs : List Step) (f : Frame) → length (way_flips n xs f).records ≡ records_of xs
long-records n [] f = refl
long-records n (x ∷ xs) f =
    length-append (flips_given n by_letters x 0 f).records (way_flips n xs (way_after n x f)).records
    ∙ (λ i. given-records n x f i + long-records n xs (way_after n x f) i)

given-detectors : (n : ℕ) (x : Step) (f : Frame) (rest : List Bool) (k : ℕ) → length rest ≡ k
    → length ((flips_given n by_letters x 0 f).detectors ++ rest) ≡ (if is_detector x then 1 + k else k)
given-detectors n (one g q) f rest k e = e
given-detectors n (two g a b) f rest k e = e
given-detectors n (controlled l j q) f rest k e = e
given-detectors n (collapse l q recorded inverted resets) f rest k e = e
given-detectors n (product factors inverted) f rest k e = e
given-detectors n (detector ks) f rest k e = omega (arith, e)
given-detectors n (observable j ks) f rest k e = e

long-detectors : (n : ℕ) (xs : List Step) (f : Frame) → length (way_flips n xs f).detectors ≡ detectors_of xs
long-detectors n [] f = refl
long-detectors n (x ∷ xs) f = given-detectors n x f (way_flips n xs (way_after n x f)).detectors (detectors_of xs) (long-detectors n xs (way_after n x f))

pub long-additions : (more : List Addition) (bits : List Bool) → length (with_additions more bits) ≡ length bits
long-additions [] bits = refl
long-additions (a ∷ more) bits = long-additions more (added a.observable a.bit bits) ∙ length-set bits a.observable (a.bit ⊕ slice_index_or bits a.observable false)

pub long-parts : (letters : List Letter) → length (part_bits letters) ≡ 2 * length letters
long-parts [] = refl
long-parts (l ∷ letters) = let rest : length (part_bits letters) ≡ 2 * length letters = long-parts letters in omega (arith, rest)

pub long-way : (n : ℕ) (xs : List Step) (f : Frame) → length f.letters ≡ n → length (way_over n xs f).letters ≡ n
long-way n [] f lf = lf
long-way n (x ∷ xs) f lf = long-way n xs (way_after n x f) (way-size n x f lf)

-- nothing is flipped in front of the string

replicate-add : (a b : ℕ) → replicate a false ++ replicate b false ≡ replicate (a + b) false
replicate-add zero b = ap (λ k. replicate k false) (omega arith)
replicate-add (suc a) b = ap (λ (bits : List Bool). false ∷ bits) (replicate-add a b) ∙ ap (λ k. replicate k false) {x = suc (a + b)} (omega arith)

given-zeros : (n r : ℕ) (x : Step) → (flips_given n by_letters x 0 (identity_frame n r)).records ≡ replicate (makes x) false
given-zeros n r (one g q) = refl
given-zeros n r (two g a b) = refl
given-zeros n r (controlled l k q) = refl
given-zeros n r (collapse l q true inverted resets) = ap (λ b. b ∷ []) (strings_anticommute-blank n (single n q l).letters)
given-zeros n r (collapse l q false inverted resets) = refl
given-zeros n r (product factors inverted) = ap (λ b. b ∷ []) (strings_anticommute-blank n (string_of n factors).letters)
given-zeros n r (detector ks) = refl
given-zeros n r (observable j ks) = refl

front-records : (n r : ℕ) (xs : List Step) → (way_flips n xs (identity_frame n r)).records ≡ replicate (records_of xs) false
front-records n r [] = refl
front-records n r (x ∷ xs) =
    (λ i. given-zeros n r x i ++ (ap (λ (f : Frame). (way_flips n xs f).records) (blank-over n (x ∷ []) r) ∙ front-records n (r + records_of (x ∷ [])) xs) i)
    ∙ replicate-add (makes x) (records_of xs)

detector-zeros : (n r : ℕ) (x : Step) (k : ℕ) → (flips_given n by_letters x 0 (identity_frame n r)).detectors ++ replicate k false ≡ replicate (if is_detector x then 1 + k else k) false
detector-zeros n r (one g q) k = refl
detector-zeros n r (two g a b) k = refl
detector-zeros n r (controlled l j q) k = refl
detector-zeros n r (collapse l q recorded inverted resets) k = refl
detector-zeros n r (product factors inverted) k = refl
detector-zeros n r (detector ks) k = ap (λ b. b ∷ replicate k false) (parity-zeros r ks) ∙ ap (λ j. replicate j false) {x = suc k} (omega arith)
detector-zeros n r (observable j ks) k = refl

front-detectors : (n r : ℕ) (xs : List Step) → (way_flips n xs (identity_frame n r)).detectors ≡ replicate (detectors_of xs) false
front-detectors n r [] = refl
front-detectors n r (x ∷ xs) =
    ap (λ rest. (flips_given n by_letters x 0 (identity_frame n r)).detectors ++ rest)
    (ap (λ (f : Frame). (way_flips n xs f).detectors) (blank-over n (x ∷ []) r) ∙ front-detectors n (r + records_of (x ∷ [])) xs)
    ∙ detector-zeros n r x (detectors_of xs)

additions-append : (more others : List Addition) (bits : List Bool) → with_additions (more ++ others) bits ≡ with_additions others (with_additions more bits)
additions-append [] others bits = refl
additions-append (a ∷ more) others bits = additions-append more others (added a.observable a.bit bits)

given-same : (n r : ℕ) (x : Step) (bits : List Bool) → with_additions (flips_given n by_letters x 0 (identity_frame n r)).additions bits ≡ bits
given-same n r (one g q) bits = refl
given-same n r (two g a b) bits = refl
given-same n r (controlled l k q) bits = refl
given-same n r (collapse l q recorded inverted resets) bits = refl
given-same n r (product factors inverted) bits = refl
given-same n r (detector ks) bits = refl
given-same n r (observable j ks) bits = ap (λ b. added j b bits) (parity-zeros r ks) ∙ set-get_or bits j false

front-additions : (n r : ℕ) (xs : List Step) (bits : List Bool) → with_additions (way_flips n xs (identity_frame n r)).additions bits ≡ bits
front-additions n r [] bits = refl
front-additions n r (x ∷ xs) bits =
    additions-append (flips_given n by_letters x 0 (identity_frame n r)).additions (way_flips n xs (way_after n x (identity_frame n r))).additions bits
    ∙ ap (with_additions (way_flips n xs (way_after n x (identity_frame n r))).additions) (given-same n r x bits)
    ∙ ap (λ (f : Frame). with_additions (way_flips n xs f).additions bits) (blank-over n (x ∷ []) r)
    ∙ front-additions n (r + records_of (x ∷ [])) xs bits

-- all bits

module _ (c : Counts) (back : List Step) (f : Frame) (lf : length f.letters ≡ c.qubits) (fits : FitsCounts c back) where
  abbrev flips : RunOutput
  flips = way_flips c.qubits back f

  abbrev observables : List Bool
  observables = with_additions flips.additions (replicate c.observables false)

  abbrev parts : List Bool
  parts = part_bits (way_over c.qubits back f).letters

  abbrev pub all_bits : List Bool
  all_bits = record_bits c back f ++ (detector_bits c back f ++ (observables ++ parts))

  size-records : length (record_bits c back f) ≡ c.records
  size-records =
      let front : length (replicate (c.records - records_of back) false) ≡ c.records - records_of back = length-replicate (c.records - records_of back) false in
      omega (arith, front, length-append (replicate (c.records - records_of back) false) flips.records, long-records c.qubits back f, fits.records)

  size-detectors : length (detector_bits c back f) ≡ c.detectors
  size-detectors =
      let front : length (replicate (c.detectors - detectors_of back) false) ≡ c.detectors - detectors_of back = length-replicate (c.detectors - detectors_of back) false in
      omega (arith, front, length-append (replicate (c.detectors - detectors_of back) false) flips.detectors, long-detectors c.qubits back f, fits.detectors)

  size-observables : length observables ≡ c.observables
  size-observables = long-additions flips.additions (replicate c.observables false) ∙ length-replicate c.observables false

  size-parts : length parts ≡ 2 * c.qubits
  size-parts = long-parts (way_over c.qubits back f).letters ∙ ap (λ k. 2 * k) (long-way c.qubits back f lf)

  pub size-all : length all_bits ≡ numbers_in c
  size-all =
      omega (
        arith,
        size-records,
        size-detectors,
        size-observables,
        size-parts,
        length-append (record_bits c back f) (detector_bits c back f ++ (observables ++ parts)),
        length-append (detector_bits c back f) (observables ++ parts),
        length-append observables parts,
      )

  -- after a list of this size
  beyond : (xs ys : List Bool) (m k : ℕ) → length xs ≡ m → slice_index_or (xs ++ ys) (m + k) false ≡ slice_index_or ys k false
  beyond xs ys m k e = ap (λ j. slice_index_or (xs ++ ys) (j + k) false) (sym e) ∙ get_or-append-add xs ys k false

  within : (xs ys : List Bool) (m k : ℕ) → length xs ≡ m → k < m → slice_index_or (xs ++ ys) k false ≡ slice_index_or xs k false
  within xs ys m k e lt = get_or_append_left xs ys false k (omega (arith, e, lt))

  abbrev IsBit : ℕ → Type 0
  IsBit i = bit_of_number c i back f ≡ slice_index_or all_bits i false

  after-observables : (p : ℕ) → IsBit (((c.records + c.detectors) + c.observables) + p)
  after-observables p =
      part-bit c p back f lf fits
      ∙ sym (beyond observables parts c.observables p size-observables)
      ∙ sym (beyond (detector_bits c back f) (observables ++ parts) c.detectors (c.observables + p) size-detectors)
      ∙ sym (beyond (record_bits c back f) (detector_bits c back f ++ (observables ++ parts)) c.records (c.detectors + (c.observables + p)) size-records)
      ∙ ap (λ i. slice_index_or all_bits i false) (omega arith)

  after-detectors : (j : ℕ) → j < c.observables → IsBit ((c.records + c.detectors) + j)
  after-detectors j lt =
      sym (observable-bit c j back f (replicate c.observables false) lt (omega (arith, lt, length-replicate c.observables false)) fits
      ∙ ap (λ b. b ⊕ bit_of_number c ((c.records + c.detectors) + j) back f) (get_or-replicate c.observables j false false lt))
      ∙ sym (within observables parts c.observables j size-observables lt)
      ∙ sym (beyond (detector_bits c back f) (observables ++ parts) c.detectors j size-detectors)
      ∙ sym (beyond (record_bits c back f) (detector_bits c back f ++ (observables ++ parts)) c.records (c.detectors + j) size-records)
      ∙ ap (λ i. slice_index_or all_bits i false) (omega arith)

  after-records : (d : ℕ) → d < c.detectors → IsBit (c.records + d)
  after-records d lt =
      detector-bit c d back f lt fits
      ∙ sym (within (detector_bits c back f) (observables ++ parts) c.detectors d size-detectors lt)
      ∙ sym (beyond (record_bits c back f) (detector_bits c back f ++ (observables ++ parts)) c.records d size-records)

  pub number-bit : (i : ℕ) → IsBit i
  number-bit i = by_records (cases_lt i c.records)
    where
      by_observables : (c.records + c.detectors ≤ i) → (i < (c.records + c.detectors) + c.observables) ⊎ ((c.records + c.detectors) + c.observables ≤ i) → IsBit i
      by_observables ge (inl lt) = subst IsBit {x = (c.records + c.detectors) + (i - (c.records + c.detectors))} (omega (arith, ge)) (after-detectors (i - (c.records + c.detectors)) (omega (arith, ge, lt)))
      by_observables ge (inr le) =
          subst IsBit {x = ((c.records + c.detectors) + c.observables) + (i - ((c.records + c.detectors) + c.observables))} (omega (arith, le))
          (after-observables (i - ((c.records + c.detectors) + c.observables)))

      by_detectors : (c.records ≤ i) → (i < c.records + c.detectors) ⊎ (c.records + c.detectors ≤ i) → IsBit i
      by_detectors ge (inl lt) = subst IsBit {x = c.records + (i - c.records)} (omega (arith, ge)) (after-records (i - c.records) (omega (arith, ge, lt)))
      by_detectors ge (inr le) = by_observables le (cases_lt i ((c.records + c.detectors) + c.observables))

      by_records : (i < c.records) ⊎ (c.records ≤ i) → IsBit i
      by_records (inl lt) =
          record-bit c i back f lt fits
          ∙ sym (within (record_bits c back f) (detector_bits c back f ++ (observables ++ parts)) c.records i size-records lt)
      by_records (inr le) = by_detectors le (cases_lt i (c.records + c.detectors))

-- the row of a single error

module _ (n : ℕ) (items : Items) (fits : All (StepFits n) (unroll items)) (p : SingleError) where
  abbrev xs : List Step
  xs = unroll items

  abbrev c : Counts
  c = numbers_before n items

  abbrev back : List Step
  back = drop p.before xs

  abbrev string : List Letter
  string = (single n p.qubit p.letter).letters

  abbrev begun : Frame
  begun = frame_begun p.before string xs

  records-split : records_of xs - records_of back ≡ records_of (take p.before xs)
  records-split = omega (arith, ap records_of (sym (take-append-drop p.before xs)), records_of-append (take p.before xs) back)

  detectors-split : detectors_of xs - detectors_of back ≡ detectors_of (take p.before xs)
  detectors-split = omega (arith, ap detectors_of (sym (take-append-drop p.before xs)), detectors_of-append (take p.before xs) back)

  back-fits : FitsCounts c back
  back-fits = fits-drop c p.before xs (fits-all n items fits)

  -- its bits are those of its string
  bits-are : all_bits c back begun (length-one_letter n p.qubit p.letter) back-fits ≡ bits_of_single_error n items p
  bits-are = λ i.
      (ap (λ k. replicate k false) records-split ∙ sym (front-records n 0 (take p.before xs))) i ++ (way_flips n back begun).records
      ++ ((ap (λ k. replicate k false) detectors-split ∙ sym (front-detectors n 0 (take p.before xs))) i ++ (way_flips n back begun).detectors
      ++ (sym (additions-append (way_flips n (take p.before xs) (identity_frame n 0)).additions (way_flips n back begun).additions (replicate (observables_of items) false)
      ∙ ap (with_additions (way_flips n back begun).additions) (front-additions n 0 (take p.before xs) (replicate (observables_of items) false))) i
      ++ part_bits (way_over n (drop p.before (sym (take-length xs) i)) begun).letters))

  pub row-is : effect_row c (inserted_of xs p) ≡ effect_of_single_error n items p
  row-is =
      where-same _ (λ i. slice_index_or (bits_of_single_error n items p) i false) 0 (numbers_in c)
      (λ i ge lt.
      letter-bit c i p.qubit (records_of (take p.before xs)) p.letter back (All-drop (StepFits n) p.before xs fits)
      ∙ number-bit c back begun (length-one_letter n p.qubit p.letter) back-fits i
      ∙ ap (λ bits. slice_index_or bits i false) bits-are)
      ∙ ap (λ k. numbers_where (λ i. slice_index_or (bits_of_single_error n items p) i false) 0 k)
      (sym (size-all c back begun (length-one_letter n p.qubit p.letter) back-fits) ∙ ap length bits-are)

  -- as many bits are of records, detectors and observables, and of the string, as are counted
  pub bits-size : length (bits_of_single_error n items p) ≡ numbers_in c
  bits-size = ap length (sym bits-are) ∙ size-all c back begun (length-one_letter n p.qubit p.letter) back-fits

  abbrev pub flipped_bits : List Bool
  flipped_bits =
      (string_flips n p.before string xs).records
      ++ ((string_flips n p.before string xs).detectors ++ with_additions (string_flips n p.before string xs).additions (replicate (observables_of items) false))

  -- and those of records, detectors and observables alone
  pub flipped-size : length flipped_bits ≡ (records_of xs + detectors_of xs) + observables_of items
  flipped-size =
      let records = (string_flips n p.before string xs).records in
      let detectors = (string_flips n p.before string xs).detectors in
      let observables = with_additions (string_flips n p.before string xs).additions (replicate (observables_of items) false) in
      let left = string_after n p.before string xs (length xs) in
      let left-size : length left ≡ n = long-way n (drop p.before (take (length xs) xs)) begun (length-one_letter n p.qubit p.letter) in
      omega (
        arith,
        bits-size,
        length-append records (detectors ++ (observables ++ part_bits left)),
        length-append detectors (observables ++ part_bits left),
        length-append observables (part_bits left),
        long-parts left,
        left-size,
        length-append records (detectors ++ observables),
        length-append detectors observables,
      )

rows-of : (n : ℕ) (items : Items) → All (StepFits n) (unroll items) → (ps : List SingleError)
    → map (effect_row (numbers_before n items)) (map (inserted_of (unroll items)) ps) ≡ map (effect_of_single_error n items) ps
rows-of n items fits [] = refl
rows-of n items fits (p ∷ ps) = λ i. row-is n items fits p i ∷ rows-of n items fits ps i

pub rows-are : (n : ℕ) (everywhere : Bool) (items : Items) (sites : Step → List Site) → All (StepFits n) (unroll items) → ((x : Step) → sites x ≡ sites_at everywhere x)
    → map (effect_row (numbers_before n items)) (inserted_from sites (unroll items)) ≡ map (effect_of_single_error n items) (single_errors_of everywhere (unroll items))
rows-are n everywhere items sites fits same =
    ap (map (effect_row (numbers_before n items))) (inserted-same sites (sites_at everywhere) (unroll items) same ∙ inserted-are everywhere (unroll items) (unroll items) 0 refl)
    ∙ rows-of n items fits (single_errors_of everywhere (unroll items))
