-- Controls: the pairs of targets of a controlled gate, whose first is a qubit or a record.
-- Source: Stim's circuit file format, in which a target rec[-k] may control a gate. Here it may only come before the qubit.
use Rattle.std.specs.Prelude.{ℕ, ◌==◌, List, [], ◌∷◌, if◌then◌else◌, Result, Ok, Err}
use Rattle.stab_io.specs.declared.refusal.Refusal.{Refusal}
use Rattle.stab_io.specs.declared.refusal.Refusal.TheVariants.{BadPairing}
use Rattle.stab_instructions.specs.declared.control.Control.{Control}
use Rattle.stab_instructions.specs.declared.control.Control.TheVariants as control
use Rattle.stab_instructions.specs.declared.control.ControlTarget.{ControlTarget}
use Rattle.stab_instructions.specs.declared.control.ControlledPair.{ControlledPair}
use Rattle.stab_instructions.specs.declared.control.ControlledPair.TheVariants as pair
use Rattle.stab_instructions.specs.Results.{◌>>=◌, each}
use Rattle.stab_instructions.specs.Targets.{qubit_of, lookback_of, is_lookback}

-- a control: a record, or a qubit
unfoldable pub control_of : List ℕ → Result Control Refusal
control_of word =
    if is_lookback word then (lookback_of word >>= λ k. Ok (control.Record k))
    else (qubit_of word >>= λ q. Ok (control.Qubit q))

-- a control and a qubit by turns; an odd number of targets is refused once each is read
abbrev pub by_turns : List (List ℕ) → Result (List ControlTarget) Refusal
by_turns [] = Ok []
by_turns (a ∷ []) = control_of a >>= λ c. Err BadPairing
by_turns (a ∷ b ∷ rest) = control_of a >>= λ c. qubit_of b >>= λ q. by_turns rest >>= λ more. Ok (record { control = c; qubit = q } ∷ more)

-- the pair of a control and a qubit, which differs from a qubit that controls it
abbrev pub pair_of : Control → ℕ → Result ControlledPair Refusal
pair_of (control.Qubit a) b = if a == b then Err BadPairing else Ok (pair.Qubits (a, b))
pair_of (control.Record k) q = Ok (pair.Record q k)

-- the same, of a pair of targets
abbrev pub paired : ControlTarget → Result ControlledPair Refusal
paired t = pair_of t.control t.qubit

-- pairs of neighbours: a control, and the qubit that it acts on
abbrev pub controlled_of : List (List ℕ) → Result (List ControlledPair) Refusal
controlled_of targets = by_turns targets >>= each paired
