-- Laws of single errors: what the pass backwards finds of detectors and observables is what runs show of their bits.
use Rattle.std.specs.Prelude.{◌≡◌, ℕ, ◌+◌, ◌<◌, ◌≤◌, Bool, true, false, List, [], ◌∷◌, ◌++◌, drop, length, All, ◌↔◌}
use Rattle.stab_gates.specs.declared.letter.Letter.{Letter}
use Rattle.stab_gates.specs.Letters.{◌⊕◌}
use Rattle.stab_items.specs.Items.{Items}
use Rattle.stab_items.specs.Steps.{Step, one, unroll, observables_of, detectors_of}
use Rattle.stab_run.specs.Runs.{gate_of}
use Rattle.stab_run.specs.ProgramStates.{StepFits}
use Rattle.stab_regions.specs.Frames.{flipped_with}
use Rattle.stab_regions.specs.Parities.{parity_deterministic, parity_bit, parity_flips}
use Rattle.stab_regions.specs.SingleErrors.{SingleError, with_gates, bit, bits_in, IsDeterministic, flips}

-- of steps with this many observables the pass finds deterministic exactly the bits that are the same for all random bits
abbrev pub DeterministicParities : Type 0
DeterministicParities =
    (n count : ℕ) (xs : List Step) (i : ℕ) → All (StepFits n) xs → i < detectors_of xs + count →
    (parity_deterministic n (detectors_of xs) i xs ≡ true) ↔ ((coins others : ℕ → Bool) → bit n count others xs i ≡ bit n count coins xs i)

-- and they are the bits that it gives
abbrev pub DeterministicParityBits : Type 0
DeterministicParityBits =
    (n count : ℕ) (xs : List Step) (i : ℕ) → All (StepFits n) xs → i < detectors_of xs + count →
    parity_deterministic n (detectors_of xs) i xs ≡ true → (coins : ℕ → Bool) → bit n count coins xs i ≡ parity_bit n (detectors_of xs) i xs

-- a letter is inserted as a gate, between the steps of the front and those of the back
abbrev pub with_single_error : List Step → Letter → ℕ → List Step → List Step
with_single_error front l q back = front ++ one (gate_of l) q ∷ back

-- with it and other coins a bit differs if and only if the pass says so
abbrev pub DiffersAsFound : (n count : ℕ) → (front : List Step) → Letter → (qubit : ℕ) → (back : List Step) → ℕ → (coins others : ℕ → Bool) → Type 0
DiffersAsFound n count front l q back i coins others =
    bit n count others (with_single_error front l q back) i ⊕ bit n count coins (front ++ back) i ≡ parity_flips n (detectors_of (front ++ back)) i l q back

-- a bit that is found deterministic does, for all random bits of both runs; and any bit does with the coins that are flipped with the letter,
-- which are the same for all bits
pub record FlipsParity (n count : ℕ) (front : List Step) (l : Letter) (q : ℕ) (back : List Step) (i : ℕ) : Type 0 where
  pub deterministic : parity_deterministic n (detectors_of (front ++ back)) i (front ++ back) ≡ true → (coins others : ℕ → Bool) →
      DiffersAsFound n count front l q back i coins others
  pub any : (coins : ℕ → Bool) → DiffersAsFound n count front l q back i coins (flipped_with n front l q back coins)

abbrev pub SingleErrorsFlipParities : Type 0
SingleErrorsFlipParities =
    (n count : ℕ) (front : List Step) (l : Letter) (q : ℕ) (back : List Step) (i : ℕ) → q < n → All (StepFits n) (front ++ back) →
    i < detectors_of (front ++ back) + count → FlipsParity n count front l q back i

-- the single error at a site flips a bit that is found deterministic if and only if the pass says so, for all random bits
abbrev pub SitesFlipDeterministicParities : Type 0
SitesFlipDeterministicParities =
    (n : ℕ) (items : Items) (i : ℕ) (f : SingleError) → All (StepFits n) (unroll items) → i < bits_in items → f.qubit < n →
    parity_deterministic n (detectors_of (unroll items)) i (unroll items) ≡ true → (coins : ℕ → Bool) →
    flips n items coins f i ≡ parity_flips n (detectors_of (unroll items)) i f.letter f.qubit (drop f.before (unroll items))

-- a single error is on one of n qubits, with no more steps in front of it than there are
pub record SingleErrorFits (n : ℕ) (xs : List Step) (f : SingleError) : Type 0 where
  pub qubit : f.qubit < n
  pub before : f.before ≤ length xs

-- the exclusive or of what each flips
abbrev pub flips_together : (SingleError → Bool) → List SingleError → Bool
flips_together flips [] = false
flips_together flips (f ∷ fs) = flips f ⊕ flips_together flips fs

-- single errors, in any order, flip a deterministic bit together if an odd number of them do so alone
abbrev pub SingleErrorsAdd : Type 0
SingleErrorsAdd =
    (n : ℕ) (items : Items) (i : ℕ) (single_errors : List SingleError) → All (StepFits n) (unroll items) → i < bits_in items →
    All (SingleErrorFits n (unroll items)) single_errors → IsDeterministic n items i → (coins : ℕ → Bool) →
    bit n (observables_of items) coins (with_gates single_errors (unroll items)) i ⊕ bit n (observables_of items) coins (unroll items) i
    ≡ flips_together (λ f. flips n items coins f i) single_errors
