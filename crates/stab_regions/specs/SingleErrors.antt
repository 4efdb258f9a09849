-- Single errors: one Pauli X or Z that goes wrong between two steps, where they are asked for, and which bits of a run each flips.
use Rattle.std.specs.Prelude.{◌≡◌, ℕ, zero, suc, ◌+◌, ◌<◌, ◌==◌, Bool, true, false, List, [], ◌∷◌, ◌++◌, map, take, drop, length, All, ◌↔◌, slice_index_or, if◌then◌else◌, ◌&&◌}
use Rattle.std.specs.List.{flat_map}
use Rattle.stab_gates.specs.declared.letter.Letter.{Letter}
use Rattle.stab_gates.specs.declared.letter.Letter.TheVariants as letter
use Rattle.stab_gates.specs.Letters.{◌⊕◌}
use Rattle.stab_gates.specs.declared.gate.Gate.TheVariants as gate
use Rattle.stab_items.specs.Items.{Items}
use Rattle.stab_items.specs.Steps.{Step, one, two, controlled, collapse, product, detector, observable, unroll, observables_of, detectors_of}
use Rattle.stab_run.specs.Runs.{State, start, run, gate_of}
use Rattle.stab_parities.specs.OddNumbers.{odd, row}

-- a site of single errors: a qubit, in front of a step or after it
pub record Site : Type 0 where
  pub qubit : ℕ
  pub following : Bool

abbrev pub in_front : ℕ → Site
in_front q = record { qubit = q; following = false }

abbrev pub following : ℕ → Site
following q = record { qubit = q; following = true }

-- where a circuit marks sites of single errors: at each target of the gate that does nothing
abbrev pub marked_at : Step → List Site
marked_at (one gate.I q) = in_front q ∷ []
marked_at x = []

-- all sites at a step: on each qubit of it, in front of it if it measures, and after it
abbrev pub all_at : Step → List Site
all_at (one g q) = following q ∷ []
all_at (two g a b) = following a ∷ following b ∷ []
all_at (controlled l k q) = following q ∷ []
all_at (collapse l q true inverted resets) = in_front q ∷ following q ∷ []
all_at (collapse l q false inverted resets) = following q ∷ []
all_at (product factors inverted) = flat_map (λ f. in_front f.qubit ∷ following f.qubit ∷ []) factors
all_at (detector ks) = []
all_at (observable j ks) = []

-- the sites at a step where single errors are asked for: everywhere, or where they are marked
abbrev pub sites_at : (everywhere : Bool) → Step → List Site
sites_at true x = all_at x
sites_at false x = marked_at x

-- a single error: a letter on a qubit, with this many steps in front of it; and the number of the step that it is at
pub record SingleError : Type 0 where
  pub letter : Letter
  pub qubit : ℕ
  pub before : ℕ
  pub step : ℕ

-- the single error of a letter at a site of step number t
abbrev pub single_error_on : ℕ → Site → Letter → SingleError
single_error_on t s l = record { letter = l; qubit = s.qubit; before = if s.following then t + 1 else t; step = t }

-- the single errors at a site: X, then Z
abbrev pub single_errors_on : ℕ → Site → List SingleError
single_errors_on t s = single_error_on t s letter.X ∷ single_error_on t s letter.Z ∷ []

-- the single errors that are asked for of steps, of which the first is number t
abbrev pub single_errors_from : (everywhere : Bool) → ℕ → List Step → List SingleError
single_errors_from everywhere t [] = []
single_errors_from everywhere t (x ∷ xs) = flat_map (single_errors_on t) (sites_at everywhere x) ++ single_errors_from everywhere (t + 1) xs

abbrev pub single_errors_of : (everywhere : Bool) → List Step → List SingleError
single_errors_of everywhere xs = single_errors_from everywhere 0 xs

-- the steps with the single error's letter put in as a gate
abbrev pub with_gate : SingleError → List Step → List Step
with_gate f xs = take f.before xs ++ one (gate_of f.letter) f.qubit ∷ drop f.before xs

-- the gates of the single errors that have t steps in front of them, in the list's order
abbrev pub gates_at : ℕ → List SingleError → List Step
gates_at t [] = []
gates_at t (f ∷ fs) = if f.before == t then one (gate_of f.letter) f.qubit ∷ gates_at t fs else gates_at t fs

-- the steps with the gates of single errors put in, if the first step is number t
abbrev pub with_gates_from : ℕ → List SingleError → List Step → List Step
with_gates_from t single_errors [] = gates_at t single_errors
with_gates_from t single_errors (x ∷ xs) = gates_at t single_errors ++ x ∷ with_gates_from (t + 1) single_errors xs

-- the steps with each single error's letter put in as a gate at its site, whatever the order of the list
abbrev pub with_gates : List SingleError → List Step → List Step
with_gates single_errors xs = with_gates_from 0 single_errors xs

-- the detectors and then the observables that a run of steps gives, with this many observables
abbrev pub parities_of : State → List Bool
parities_of s = s.detectors ++ s.observables

abbrev pub bit : (n count : ℕ) → (ℕ → Bool) → List Step → ℕ → Bool
bit n count coins xs i = slice_index_or (parities_of (run n coins xs (start count))) i false

-- how many bits there are: that of all detectors and observables
abbrev pub bits_in : Items → ℕ
bits_in items = detectors_of (unroll items) + observables_of items

-- a bit is the same for all random bits
abbrev pub IsDeterministic : (n : ℕ) → Items → ℕ → Type 0
IsDeterministic n items i = (coins others : ℕ → Bool) → bit n (observables_of items) others (unroll items) i ≡ bit n (observables_of items) coins (unroll items) i

-- these bits say for each detector and then each observable whether it is deterministic
pub record AreDeterministic (n : ℕ) (items : Items) (deterministic : List Bool) : Type 0 where
  pub count : length deterministic ≡ bits_in items
  pub exact : (i : ℕ) → i < bits_in items → (slice_index_or deterministic i false ≡ true) ↔ IsDeterministic n items i

-- a single error flips a bit if the runs with these coins with and without it differ
abbrev pub flips : (n : ℕ) → Items → (ℕ → Bool) → SingleError → ℕ → Bool
flips n items coins f i = bit n (observables_of items) coins (with_gate f (unroll items)) i ⊕ bit n (observables_of items) coins (unroll items) i

-- the numbers from i on below i + k with this property, ascending
abbrev pub numbers_where : (ℕ → Bool) → (i k : ℕ) → List ℕ
numbers_where f i zero = []
numbers_where f i (suc k) = if f i then i ∷ numbers_where f (i + 1) k else numbers_where f (i + 1) k

-- the deterministic bits that a single error flips, by their numbers, ascending
abbrev pub flipped_by_single_error : (n : ℕ) → Items → (deterministic : List Bool) → (ℕ → Bool) → SingleError → List ℕ
flipped_by_single_error n items deterministic coins f = numbers_where (λ i. slice_index_or deterministic i false && flips n items coins f i) 0 (bits_in items)

-- a table of single errors: which bits are deterministic, and for each single error that is asked for, in order, which of these it flips, for all random bits
pub record IsSingleErrorTable (n : ℕ) (everywhere : Bool) (items : Items) (deterministic : List Bool) (rows : List (List ℕ)) : Type 0 where
  pub are_deterministic : AreDeterministic n items deterministic
  pub are_flipped : (coins : ℕ → Bool) → rows ≡ map (flipped_by_single_error n items deterministic coins) (single_errors_of everywhere (unroll items))

-- the single error of a number, of those that are asked for
abbrev pub single_error_at : (everywhere : Bool) → List Step → ℕ → SingleError
single_error_at everywhere xs k = slice_index_or (single_errors_of everywhere xs) k (single_error_on 0 (in_front 0) letter.X)

-- the single errors of these rows, in any order, flip a deterministic bit together if an odd number of the rows name it
abbrev pub RowsAdd : (n : ℕ) (everywhere : Bool) → Items → (rows : List (List ℕ)) → Type 0
RowsAdd n everywhere items rows =
    (numbers : List ℕ) (i : ℕ) → All (λ k. k < length rows) numbers → i < bits_in items → IsDeterministic n items i → (coins : ℕ → Bool) →
    bit n (observables_of items) coins (with_gates (map (single_error_at everywhere (unroll items)) numbers) (unroll items)) i
    ⊕ bit n (observables_of items) coins (unroll items) i
    ≡ odd i (flat_map (row rows) numbers)
