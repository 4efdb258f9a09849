-- Tables of single errors: what `faults` writes of one for the items of a circuit, and how a call of it ends.
-- Source: this project's own.
use Rattle.std.specs.Prelude.{◌≡◌, ℕ, ◌<◌, Bool, true, false, List, [], ◌∷◌, ◌++◌, replicate, slice_set, codes, Option, Some, None, Result, Ok, Err}
use Rattle.std.specs.List.{flat_map}
use Rattle.stab_io.specs.Devices.{InputView, OutputView}
use Rattle.stab_io.specs.declared.refusal.Refusal.TheVariants.{NotDeterministic}
use Rattle.stab_io.specs.declared.refusal.Fault.{Fault}
use Rattle.stab_io.specs.Refusals.{whole}
use Rattle.stab_gates.specs.declared.letter.Letter.{Letter}
use Rattle.stab_gates.specs.LetterTexts.{letter_text}
use Rattle.stab_items.specs.Items.{Items}
use Rattle.stab_items.specs.Steps.{unroll, qubits_of, detectors_of}
use Rattle.stab_items.specs.Paths.{Path}
use Rattle.stab_results.specs.declared.format.Kinds.{Kinds}
use Rattle.stab_results.specs.Formats.{entry, shot_bytes}
use Rattle.stab_regions.specs.SingleErrors.{SingleError, single_errors_of, bits_in, IsDeterministic, IsSingleErrorTable, RowsAdd}
use Rattle.stab_report.specs.Coins.{IsCoinTable, table_of}
use Rattle.stab_report.specs.declared.random.Decider.{Decider}
use Rattle.stab_report.specs.declared.random.Random.{Random}
use Rattle.stab_report.specs.declared.random.FaultsRefused.{FaultsRefused}
use Rattle.stab_jobs.specs.declared.job.FaultLayout.{FaultLayout}
use Rattle.stab_jobs.specs.declared.job.FaultLayout.TheVariants.{Lines, Shots}
use Rattle.stab_report.specs.Endings.{Ends, SendsFound}
use Rattle.stab_report.specs.Deciders.{deciders}
use Rattle.stab_report.specs.ItemPaths.{path_at, path_of_coin, bit_of, path_of_bit}
use Rattle.stab_report.specs.Texts.{row_head}
use Rattle.stab_report.specs.Deterministic.{kinds_of}

-- where a single error is: how many steps are in front of it, the path of the item that it is at, and its letter and qubit
abbrev pub single_error_text : (before : ℕ) → Path → Letter → (qubit : ℕ) → List ℕ
single_error_text before path l q = row_head before path (letter_text l) q

-- the line of a single error: where it is, and what it flips, as `1207 3/0/2 X17 D24 L0`
abbrev pub table_line : Kinds → Path → SingleError → (flipped : List ℕ) → List ℕ
table_line kinds path f flipped = single_error_text f.before path f.letter f.qubit ++ (flat_map (entry kinds) flipped ++ codes "\n")

-- the lines of single errors in order, each by the path of its step and by its row
abbrev pub table_lines : Kinds → (path_of : ℕ → Path) → List SingleError → (rows : List (List ℕ)) → List ℕ
table_lines kinds path_of (f ∷ fs) (row ∷ rows) = table_line kinds (path_of f.step) f row ++ table_lines kinds path_of fs rows
table_lines kinds path_of [] rows = []
table_lines kinds path_of (f ∷ fs) [] = []

-- bits with those at these positions set
abbrev pub set_all : (positions : List ℕ) → Bool → List Bool → List Bool
set_all [] value bits = bits
set_all (k ∷ ks) value bits = set_all ks value (slice_set bits k value)

-- what is written of a table with these rows: a line for each single error, or a shot, in which bits are 1 if the row names them
abbrev pub table_text : FaultLayout → (everywhere : Bool) → Items → (rows : List (List ℕ)) → List ℕ
table_text Lines everywhere items rows = table_lines (kinds_of items) (path_at items) (single_errors_of everywhere (unroll items)) rows
table_text (Shots format) everywhere items rows = flat_map (λ row. shot_bytes format (kinds_of items) (set_all row true (replicate (bits_in items) false))) rows

-- the bytes are those of the circuit's table of single errors, on its own qubits, whose rows add; and each bit is deterministic, or those that are not are left out
pub record IsTableText (layout : FaultLayout) (everywhere deterministic_only : Bool) (items : Items) (bytes : List ℕ) : Type 0 where
  pub deterministic : List Bool
  pub rows : List (List ℕ)
  pub table : IsSingleErrorTable (qubits_of items) everywhere items deterministic rows
  pub adds : RowsAdd (qubits_of items) everywhere items rows
  pub all_deterministic : deterministic_only ≡ false → (i : ℕ) → i < bits_in items → IsDeterministic (qubits_of items) items i
  pub text : bytes ≡ table_text layout everywhere items rows

-- the first coin that decides the bit of a number, by the table of coins, and the path of the item that takes it
pub record IsFirstDecider (items : Items) (number : ℕ) (d : Decider) : Type 0 where
  pub table : IsCoinTable (qubits_of items) items (table_of (qubits_of items) items)
  pub others : List ℕ
  pub first : deciders number (table_of (qubits_of items) items) ≡ d.coin ∷ others
  pub path : path_of_coin items d.coin ≡ d.path

-- the first bit that is not the same whatever the coins, the path of its first item, and the first coin that decides it
pub record IsFirstRandom (items : Items) (u : Random) : Type 0 where
  pub number : ℕ
  pub not_deterministic : IsDeterministic (qubits_of items) items number → ⊥
  pub first : (i : ℕ) → i < number → IsDeterministic (qubits_of items) items i
  pub bit : u.bit ≡ bit_of (detectors_of (unroll items)) number
  pub path : path_of_bit items u.bit ≡ u.path
  pub decider : IsFirstDecider items number u.decider

-- the fault of a call, and the bit that it names if it names one
abbrev pub fault_of : {T : Type 0} → Result T FaultsRefused → Result T Fault
fault_of (Ok x) = Ok x
fault_of (Err e) = Err e.fault

abbrev pub random_of : {T : Type 0} → Result T FaultsRefused → Option Random
random_of (Ok x) = None
random_of (Err e) = e.random

-- how a call goes on with the items of a circuit: it names a bit that is not deterministic before anything is written, or bytes like these are sent
abbrev pub GoesOnWithItems : {T : Type 0} → (are : List ℕ → Type 0) → (deterministic_only : Bool) → Items → Option Random → OutputView → OutputView → Result T Fault → Type 0
GoesOnWithItems are deterministic_only items (Some u) old new r = (deterministic_only ≡ false) × IsFirstRandom items u × (r ≡ Err (whole NotDeterministic)) × (new ≡ old)
GoesOnWithItems are deterministic_only items None old new r = SendsFound are old new r

-- How a call ends that sends bytes like these, over an input and an output, or names a bit that is not deterministic.
abbrev pub EndsOrNames : {T : Type 0} → (are : Items → List ℕ → Type 0) → (deterministic_only : Bool) → InputView → InputView → OutputView → OutputView → Result T Fault → Option Random → Type 0
EndsOrNames are deterministic_only i i' o o' r random = Ends (λ _. (o' ≡ o) × (random ≡ None)) (λ items. GoesOnWithItems (are items) deterministic_only items random o o') i i' r

-- How a call of `faults` ends.
abbrev pub EndsFaults : {T : Type 0} → FaultLayout → (everywhere deterministic_only : Bool) → InputView → InputView → OutputView → OutputView → Result T Fault → Option Random → Type 0
EndsFaults layout everywhere deterministic_only i i' o o' r random = EndsOrNames (IsTableText layout everywhere deterministic_only) deterministic_only i i' o o' r random
