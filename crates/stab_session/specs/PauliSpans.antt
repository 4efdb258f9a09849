-- Pauli spans: two lists of steps that differ by Pauli gates alone.
-- Source: this project's own.
use Rattle.std.specs.Prelude.{◌≡◌, ℕ, ◌-◌, ◌<◌, ◌≤◌, List, All, length, map, take, drop}
use Rattle.stab_gates.specs.declared.letter.Letter.{Letter}
use Rattle.stab_pauli.specs.Paulis.{string_product}
use Rattle.stab_items.specs.Steps.{Step, one, most_steps}
use Rattle.stab_items.specs.Rounds.{interleaved}
use Rattle.stab_items.specs.declared.edit.Span.{Span}
use Rattle.stab_run.specs.Runs.{gate_of}
use Rattle.stab_frames.specs.Starts.{letters_on}
use Rattle.stab_session.specs.declared.past_sites.PauliChange.{PauliChange}

-- the steps are one Pauli gate each, of the same letter, on some of n qubits
pub record ArePaulis (n : ℕ) (letter : Letter) (qubits : List ℕ) (xs : List Step) : Type 0 where
  pub steps : xs ≡ map (one (gate_of letter)) qubits
  pub fit : All (λ q. q < n) qubits

-- within a span the steps of the one list and the other are Pauli gates, of one letter on some of n qubits, before each of some pieces, this
-- many steps long, which both share; and a string has the letters of both, multiplied
pub record DifferByPaulis (n : ℕ) (xs ys : List Step) (s : Span) (letters : List Letter) (old_count new_count : ℕ) (gaps : List ℕ) : Type 0 where
  pub old_letter : Letter
  pub new_letter : Letter
  pub old_qubits : List ℕ
  pub new_qubits : List ℕ
  pub old_gates : List Step
  pub new_gates : List Step
  pub pieces : List (List Step)
  pub old_are : ArePaulis n old_letter old_qubits old_gates
  pub new_are : ArePaulis n new_letter new_qubits new_gates
  pub lengths : map length pieces ≡ gaps
  pub old : take (s.old_end - s.first) (drop s.first xs) ≡ interleaved old_gates pieces
  pub new : take (s.new_end - s.first) (drop s.first ys) ≡ interleaved new_gates pieces
  pub old_counted : length old_gates ≡ old_count
  pub new_counted : length new_gates ≡ new_count
  pub product : letters ≡ string_product (letters_on n old_letter old_qubits) (letters_on n new_letter new_qubits)

-- so two lists of steps differ within a span, as a change of Pauli gates says, and after it not at all
pub record DifferAtSites (n : ℕ) (xs ys : List Step) (s : Span) (change : PauliChange) : Type 0 where
  pub old_order : s.first ≤ s.old_end
  pub new_order : s.first ≤ s.new_end
  pub old_within : s.old_end ≤ length xs
  pub new_within : s.new_end ≤ length ys
  pub old_few : length xs ≤ most_steps
  pub new_few : length ys ≤ most_steps
  pub following : drop s.old_end xs ≡ drop s.new_end ys
  pub differ : DifferByPaulis n xs ys s change.string.letters change.old change.new change.gaps.items
