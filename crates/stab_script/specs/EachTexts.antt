-- Each texts: what is written of each error that a circuit marks, or of errors everywhere.
-- Source: this project's own.
use Rattle.std.specs.Prelude.{◌≡◌, ℕ, Bool, List, ◌++◌, length, codes}
use Rattle.std.specs.List.{flat_map}
use Rattle.stab_gates.specs.declared.letter.Letter.{Letter}
use Rattle.stab_pauli.specs.Paulis.{single}
use Rattle.stab_items.specs.Items.{Items}
use Rattle.stab_items.specs.Steps.{unroll, qubits_of}
use Rattle.stab_results.specs.Formats.{entry, one_positions}
use Rattle.stab_regions.specs.SingleErrors.{SingleError, single_errors_of}
use Rattle.stab_ways.specs.declared.way.PlacedLetter.{PlacedLetter}
use Rattle.stab_ways.specs.PutIn.{string_after, string_flips}
use Rattle.stab_ways.specs.Ways.{placed}
use Rattle.stab_ways.specs.Laws.{FlipsRun, coins_with}
use Rattle.stab_report.specs.CoinTables.{whole_kinds}
use Rattle.stab_report.specs.SingleErrorTables.{single_error_text}
use Rattle.stab_report.specs.ItemPaths.{path_at}
use Rattle.stab_script.specs.WayTexts.{bits_flipped, left_line}

-- the string of an error: its letter, on the qubits that the circuit names
abbrev pub string_of_error : Items → SingleError → List Letter
string_of_error items f = (single (qubits_of items) f.qubit f.letter).letters

-- the line of an error: where it is, as `faults` writes it, what it flips, and the string at the end, as `1207 3/0/2 X17 M3 D24 L0 left X3*Z4`
abbrev pub error_text : Items → SingleError → (bits : List Bool) → (left : List PlacedLetter) → List ℕ
error_text items f bits left =
    single_error_text f.before (path_at items f.step) f.letter f.qubit
    ++ (flat_map (entry (whole_kinds items)) (one_positions bits) ++ (codes " " ++ left_line left))

-- the same, by what the string of the error flips and leaves if it is put in at its site
abbrev pub line_of_each : Items → SingleError → List ℕ
line_of_each items f =
    error_text items f
    (bits_flipped items (string_flips (qubits_of items) f.before (string_of_error items f) (unroll items)))
    (placed 0 (string_after (qubits_of items) f.before (string_of_error items f) (unroll items) (length (unroll items))))

-- the lines of all errors that are asked for, in the order of `faults`
abbrev pub errors_text : (everywhere : Bool) → Items → List ℕ
errors_text everywhere items = flat_map (line_of_each items) (single_errors_of everywhere (unroll items))

-- The bytes are the lines of all errors that are asked for; and the run with any letter put in so is the run without it, flipped so, with exactly
-- the coins of the random outcomes exchanged that it flips, and its state is that of the other with the string there applied.
pub record AreErrorLines (everywhere : Bool) (items : Items) (bytes : List ℕ) : Type 0 where
  pub text : bytes ≡ errors_text everywhere items
  pub runs : (f : SingleError) (coins : ℕ → Bool) → FlipsRun (qubits_of items) f.before (string_of_error items f) (unroll items) coins
      (coins_with (qubits_of items) f.before (string_of_error items f) (unroll items) coins)
