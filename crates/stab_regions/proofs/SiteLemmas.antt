-- Sites: those of a step, by its qubits.
use Rattle.stab_regions.proofs.Names.{◌≡◌, ℕ, ◌<◌, refl, sym, ap, Bool, true, false, List, [], ◌∷◌, arith, All, flat_map, All-nil, All-cons, All-tail, All-map, Factor, Step, one, two, controlled, collapse, product, detector, observable, factor_qubits, StepFits, Asked, Nowhere, Marked, Everywhere, Site, in_front, following, marked_at, all_at, sites_at, sites_asked, step_qubits, sides_asked, Inserted, inserted_at, inserted_by}
use Rattle.stab_gates.specs.declared.letter.Letter.TheVariants as letter
use Rattle.stab_gates.specs.declared.gate.Gate.TheVariants as gate

none : (x : Step) (back : List Step) (qs : List ℕ) → flat_map (inserted_by (record { front = false; following = false }) x back) qs ≡ []
none x back [] = refl
none x back (q ∷ qs) = none x back qs

marked-split : (y x : Step) (back : List Step) → flat_map (inserted_at y back) (marked_at x) ≡ flat_map (inserted_by (sides_asked Marked x) y back) (step_qubits x)
marked-split y (one gate.I q) back = refl
marked-split y x back = sym (none y back (step_qubits x))

factors-split : (y : Step) (back : List Step) (factors : List Factor) →
    flat_map (inserted_at y back) (flat_map (λ f. in_front f.qubit ∷ following f.qubit ∷ []) factors)
    ≡ flat_map (inserted_by (record { front = true; following = true }) y back) (factor_qubits factors)
factors-split y back [] = refl
factors-split y back (f ∷ factors) =
    ap (λ (rest : List Inserted).
    record { letter = letter.X; qubit = f.qubit; back = y ∷ back } ∷ record { letter = letter.Z; qubit = f.qubit; back = y ∷ back }
    ∷ record { letter = letter.X; qubit = f.qubit; back = back } ∷ record { letter = letter.Z; qubit = f.qubit; back = back } ∷ rest)
    (factors-split y back factors)

all-split : (y x : Step) (back : List Step) → flat_map (inserted_at y back) (all_at x) ≡ flat_map (inserted_by (sides_asked Everywhere x) y back) (step_qubits x)
all-split y (one g q) back = refl
all-split y (two g a b) back = refl
all-split y (controlled l k q) back = refl
all-split y (collapse l q true inverted resets) back = refl
all-split y (collapse l q false inverted resets) back = refl
all-split y (product factors inverted) back = factors-split y back factors
all-split y (detector ks) back = refl
all-split y (observable j ks) back = refl

-- what is inserted at the sites of a step is inserted on its qubits, on the sides that are asked for
pub sites-split : (a : Asked) (x : Step) (back : List Step) →
    flat_map (inserted_at x back) (sites_asked a x) ≡ flat_map (inserted_by (sides_asked a x) x back) (step_qubits x)
sites-split Nowhere x back = sym (none x back (step_qubits x))
sites-split Marked x back = marked-split x x back
sites-split Everywhere x back = all-split x x back

-- qubits in range

factors-within : (n : ℕ) (factors : List Factor) → All (λ f. f.qubit < n) factors → All (λ q. q < n) (factor_qubits factors)
factors-within n factors w = All-map (λ q. q < n) (λ (f : Factor). f.qubit) factors w

single-within : (n q : ℕ) → q < n → All (λ p. p < n) (q ∷ [])
single-within n q lt = All-cons (λ p. p < n) q [] lt (All-nil (λ p. p < n))

pub step-within : (n : ℕ) (x : Step) → StepFits n x → All (λ q. q < n) (step_qubits x)
step-within n (one g q) w = single-within n q w
step-within n (two g a b) w = All-cons (λ p. p < n) a (b ∷ []) w.0 (single-within n b w.1)
step-within n (controlled l k q) w = single-within n q w
step-within n (collapse l q recorded inverted resets) w = single-within n q w
step-within n (product factors inverted) w = factors-within n factors w
step-within n (detector ks) w = All-nil (λ p. p < n)
step-within n (observable j ks) w = All-nil (λ p. p < n)

site-within : (n : ℕ) (s : Site) → s.qubit < n → All (λ t. t.qubit < n) (s ∷ [])
site-within n s lt = All-cons (λ t. t.qubit < n) s [] lt (All-nil (λ t. t.qubit < n))

sites-of-factors : (n : ℕ) (factors : List Factor) → All (λ f. f.qubit < n) factors →
    All (λ s. s.qubit < n) (flat_map (λ f. in_front f.qubit ∷ following f.qubit ∷ []) factors)
sites-of-factors n [] w = All-nil (λ s. s.qubit < n)
sites-of-factors n (f ∷ factors) w =
    let here : f.qubit < n = w 0 f (omega arith) in
    All-cons (λ s. s.qubit < n) (in_front f.qubit) (following f.qubit ∷ flat_map (λ f. in_front f.qubit ∷ following f.qubit ∷ []) factors) here
    (All-cons (λ s. s.qubit < n) (following f.qubit) (flat_map (λ f. in_front f.qubit ∷ following f.qubit ∷ []) factors) here
    (sites-of-factors n factors (All-tail (λ f. f.qubit < n) f factors w)))

all-within : (n : ℕ) (x : Step) → StepFits n x → All (λ s. s.qubit < n) (all_at x)
all-within n (one g q) w = site-within n (following q) w
all-within n (two g a b) w = All-cons (λ s. s.qubit < n) (following a) (following b ∷ []) w.0 (site-within n (following b) w.1)
all-within n (controlled l k q) w = site-within n (following q) w
all-within n (collapse l q true inverted resets) w = All-cons (λ s. s.qubit < n) (in_front q) (following q ∷ []) w (site-within n (following q) w)
all-within n (collapse l q false inverted resets) w = site-within n (following q) w
all-within n (product factors inverted) w = sites-of-factors n factors w
all-within n (detector ks) w = All-nil (λ s. s.qubit < n)
all-within n (observable j ks) w = All-nil (λ s. s.qubit < n)

marked-within : (n : ℕ) (x : Step) → StepFits n x → All (λ s. s.qubit < n) (marked_at x)
marked-within n (one gate.I q) w = site-within n (in_front q) w
marked-within n x w = All-nil (λ s. s.qubit < n)

pub sites-within : (n : ℕ) (everywhere : Bool) (x : Step) → StepFits n x → All (λ s. s.qubit < n) (sites_at everywhere x)
sites-within n true x w = all-within n x w
sites-within n false x w = marked-within n x w
