-- Effects: whether a letter touches the region of a number is the bit of that number among all that its string flips and leaves.
use Rattle.stab_regions.proofs.Names.{◌≡◌, ℕ, zero, suc, ◌+◌, ◌-◌, ◌<◌, ◌⊎◌, inl, inr, refl, sym, ◌∙◌, ap, arith, Bool, true, false, List, [], ◌∷◌, ◌++◌, length, drop, replicate, if◌then◌else◌, ◌==◌, ne_eqb, eq-eqb, cases_eq, slice_index_or, All, All-head, All-tail, Letter, I, X, Z, ◌⊕◌, letters_anticommute, parity-false, single, anticommute, strings_anticommute, length-one_letter, Items, Step, unroll, detectors_of, StepFits, parity, Region, with_looks, NamesBelow}
use Rattle.stab_gates.proofs.LetterLemmas.{letters_anticommute-I}
use Rattle.stab_items.specs.Steps.{records_of}
use Rattle.stab_run.proofs.LookbackLemmas.{looked_up-zeros}
use Rattle.stab_frames.specs.Frames.{Frame, frame_of}
use Rattle.stab_ways.specs.PutIn.{way_after}
use Rattle.stab_regions.proofs.BelowLemmas.{names-below}
use Rattle.stab_regions.proofs.LeftLemmas.{unsigned, way-size, cleared_by-size, touches-way, touches-looks}
use Rattle.stab_regions.proofs.LookLemmas.{look-newest}
use Rattle.stab_regions.proofs.NegatedLemmas.{count-least}
use Rattle.stab_regions.proofs.ReadLemmas.{size-before}
use Rattle.stab_regions.proofs.TouchLemmas.{touches}
use Rattle.stab_regions.specs.Effects.{part_bits}
use Rattle.stab_regions.specs.inner.EffectsAt.{cleared_by, effect_before, end_letters, first_part, effect_region}
use Rattle.stab_regions.specs.declared.counts.Counts.{Counts}
use Rattle.stab_regions.specs.inner.Passes.{numbers_before, FitsCounts}
use Rattle.stab_regions.specs.inner.RowMoves.{corrected_by, asked_about}

-- regions of numbers

pub end-size : (i first n : ℕ) → length (end_letters i first n) ≡ n
end-size i first zero = refl
end-size i first (suc n) = ap suc (end-size i (first + 2) n)

pub effect-size : (n : ℕ) (x : Step) (r : Region) → length r.string.letters ≡ n → length (effect_before n x r).string.letters ≡ n
effect-size n x r long = size-before n (corrected_by false x) (cleared_by x r) (cleared_by-size x r ∙ long)

pub region-size : (c : Counts) (i : ℕ) (back : List Step) → length (effect_region c i back).string.letters ≡ c.qubits
region-size c i [] = end-size i (first_part c) c.qubits
region-size c i (x ∷ back) = effect-size c.qubits x _ (region-size c i back)

-- what a step asks for about a number
abbrev pub asked_at : Counts → ℕ → Step → List Step → List ℕ
asked_at c i x back = asked_about (c.records - records_of back) ((c.records + c.detectors) - detectors_of back) (c.records + c.detectors) i x

-- the bit of a number, of what a frame flips and leaves
abbrev pub bit_of_number : Counts → ℕ → List Step → Frame → Bool
bit_of_number c i [] f = strings_anticommute f.letters (end_letters i (first_part c) c.qubits)
bit_of_number c i (x ∷ back) f = parity (way_after c.qubits x f).flips (asked_at c i x back) ⊕ bit_of_number c i back (way_after c.qubits x f)

touches-bit : (c : Counts) (i : ℕ) (back : List Step) (f : Frame) → All (StepFits c.qubits) back → length f.letters ≡ c.qubits
    → touches (unsigned f) (effect_region c i back) ≡ bit_of_number c i back f
touches-bit c i [] f fits lf = parity-false _
touches-bit c i (x ∷ back) f fits lf =
    let n : ℕ = c.qubits in
    let g : Frame = way_after n x f in
    sym (touches-way n x f (with_looks (asked_at c i x back) (effect_region c i back)) (All-head (StepFits n) x back fits) lf (region-size c i back))
    ∙ touches-looks (unsigned g) (asked_at c i x back) (effect_region c i back)
    ∙ ap (λ b. parity g.flips (asked_at c i x back) ⊕ b) (touches-bit c i back g (All-tail (StepFits n) x back fits) (way-size n x f lf))

pub parity-zeros : (m : ℕ) (ks : List ℕ) → parity (replicate m false) ks ≡ false
parity-zeros m [] = refl
parity-zeros m (k ∷ ks) = λ i. looked_up-zeros m k i ⊕ parity-zeros m ks i

-- that of a letter that flips none of the records in front of it
pub letter-bit : (c : Counts) (i q m : ℕ) (l : Letter) (back : List Step) → All (StepFits c.qubits) back
    → anticommute (single c.qubits q l) (effect_region c i back).string ≡ bit_of_number c i back (frame_of (single c.qubits q l).letters m)
letter-bit c i q m l back fits =
    sym (parity-false _)
    ∙ ap (λ b. anticommute (single c.qubits q l) (effect_region c i back).string ⊕ b) (sym (parity-zeros m (effect_region c i back).looks))
    ∙ touches-bit c i back (frame_of (single c.qubits q l).letters m) fits (length-one_letter c.qubits q l)

-- lists of bits, of which some first ones are 0

-- tests of numbers that differ by the same
pub test-same : (a b c d : ℕ) → (a ≡ b → c ≡ d) → (c ≡ d → a ≡ b) → (a == b) ≡ (c == d)
test-same a b c d there back = by_case (cases_eq a b)
  where
    by_case : (a ≡ b) ⊎ (a ≡ b → ⊥) → (a == b) ≡ (c == d)
    by_case (inl e) = eq-eqb a b e ∙ sym (eq-eqb c d (there e))
    by_case (inr ne) = ne_eqb a b ne ∙ sym (ne_eqb c d (λ e. ne (back e)))

one-more : (m i : ℕ) (b : Bool) (rest : List Bool)
    → slice_index_or (replicate m false ++ b ∷ rest) i false ≡ (if i == m then b else false) ⊕ slice_index_or (replicate (suc m) false ++ rest) i false
one-more zero zero b rest = sym (parity-false b)
one-more zero (suc i) b rest = sym (ap (λ t. (if t then b else false) ⊕ slice_index_or rest i false) (ne_eqb (suc i) 0 (λ e. omega (arith, e))))
one-more (suc m) zero b rest = sym (ap (λ t. (if t then b else false) ⊕ false) (ne_eqb 0 (suc m) (λ e. omega (arith, e))))
one-more (suc m) (suc i) b rest =
    one-more m i b rest
    ∙ ap (λ t. (if t then b else false) ⊕ slice_index_or (replicate (suc m) false ++ rest) i false) (test-same i m (suc i) (suc m) (λ e. omega (arith, e)) (λ e. omega (arith, e)))

parity-if : (e : Bool) (bits : List Bool) (ks : List ℕ) → parity bits (if e then ks else []) ≡ (if e then parity bits ks else false)
parity-if true bits ks = refl
parity-if false bits ks = refl

-- one bit more, if it is asked for by the number after it
pub more-asked : (m i : ℕ) (e : Bool) (flips : List Bool) (ks : List ℕ) (b : Bool) (rest : List Bool) → e ≡ (i == m) → parity flips ks ≡ b
    → parity flips (if e then ks else []) ⊕ slice_index_or (replicate (suc m) false ++ rest) i false ≡ slice_index_or (replicate m false ++ b ∷ rest) i false
more-asked m i e flips ks b rest here is =
    ap (λ a. a ⊕ slice_index_or (replicate (suc m) false ++ rest) i false)
    (ap (λ t. parity flips (if t then ks else [])) here ∙ parity-if (i == m) flips ks ∙ ap (λ a. if i == m then a else false) is)
    ∙ sym (one-more m i b rest)

pub not-asked : (e : Bool) (bits : List Bool) (ks : List ℕ) → e ≡ false → parity bits (if e then ks else []) ≡ false
not-asked e bits ks none_asked = ap (λ a. parity bits (if a then ks else [])) none_asked

pub newest : (bits : List Bool) (b : Bool) → parity (bits ++ b ∷ []) (1 ∷ []) ≡ b
newest bits b = parity-false _ ∙ look-newest bits b

pub zeros-alone : (m i : ℕ) → slice_index_or (replicate m false ++ []) i false ≡ false
zeros-alone zero i = refl
zeros-alone (suc m) zero = refl
zeros-alone (suc m) (suc i) = zeros-alone m i

-- the letters of numbers that are no parts of letters

pub below-end : (i first n : ℕ) (f : List Letter) → i < first → strings_anticommute f (end_letters i first n) ≡ false
below-end i first n [] lt = refl
below-end i first zero (x ∷ f) lt = refl
below-end i first (suc n) (x ∷ f) lt =
    (λ t. letters_anticommute x (if ne_eqb first i (λ e. omega (arith, e, lt)) t then Z else if ne_eqb (first + 1) i (λ e. omega (arith, e, lt)) t then X else I)
    ⊕ below-end i (first + 2) n f (omega (arith, lt)) t)
    ∙ ap (λ b. b ⊕ false) (letters_anticommute-I x)

-- the part of a number
pub end-part : (p first : ℕ) (f : List Letter) → strings_anticommute f (end_letters (first + p) first (length f)) ≡ slice_index_or (part_bits f) p false
end-part p first [] = refl
end-part zero first (x ∷ f) =
    (λ t. letters_anticommute x (if eq-eqb first (first + 0) (omega arith) t then Z else if first + 1 == first + 0 then X else I)
    ⊕ below-end (first + 0) (first + 2) (length f) f (omega arith) t)
    ∙ parity-false (letters_anticommute x Z)
end-part (suc zero) first (x ∷ f) =
    (λ t. letters_anticommute x (if ne_eqb first (first + 1) (λ e. omega (arith, e)) t then Z else if eq-eqb (first + 1) (first + 1) refl t then X else I)
    ⊕ below-end (first + 1) (first + 2) (length f) f (omega arith) t)
    ∙ parity-false (letters_anticommute x X)
end-part (suc (suc p)) first (x ∷ f) =
    (λ t. letters_anticommute x (if ne_eqb first (first + suc (suc p)) (λ e. omega (arith, e)) t then Z else if ne_eqb (first + 1) (first + suc (suc p)) (λ e. omega (arith, e)) t then X else I)
    ⊕ strings_anticommute f (end_letters (shifted t) (first + 2) (length f)))
    ∙ ap (λ b. b ⊕ strings_anticommute f (end_letters ((first + 2) + p) (first + 2) (length f))) (letters_anticommute-I x)
    ∙ end-part p (first + 2) f
  where
    shifted : first + suc (suc p) ≡ (first + 2) + p
    shifted = omega arith

-- what fits the counts does after a step

pub fits-next : (c : Counts) (x : Step) (back : List Step) → FitsCounts c (x ∷ back) → FitsCounts c back
fits-next c x back fits = record {
  steps = All-tail (StepFits c.qubits) x back fits.steps;
  records = omega (arith, fits.records);
  detectors = omega (arith, fits.detectors, count-least x back);
  observables = All-tail (NamesBelow c.observables) x back fits.observables;
}

pub fits-drop : (c : Counts) (k : ℕ) (xs : List Step) → FitsCounts c xs → FitsCounts c (drop k xs)
fits-drop c zero xs fits = fits
fits-drop c (suc k) [] fits = fits
fits-drop c (suc k) (x ∷ xs) fits = fits-drop c k xs (fits-next c x xs fits)

-- all steps of a circuit do
pub fits-all : (n : ℕ) (items : Items) → All (StepFits n) (unroll items) → FitsCounts (numbers_before n items) (unroll items)
fits-all n items fits = record { steps = fits; records = omega arith; detectors = omega arith; observables = names-below items }
