-- Distances: what `distance` writes of the errors of a circuit, and how a call of it ends.
-- Source: this project's own.
use Rattle.std.specs.Prelude.{◌≡◌, ℕ, ◌+◌, ◌<◌, Bool, true, false, List, [], ◌∷◌, ◌++◌, length, codes, decimal, Option, Some, None, Result, Ok, Err, IfOk, ◌⊎◌}
use Rattle.std.specs.List.{flat_map, range_with_len}
use Rattle.stab_io.specs.Devices.{InputView, OutputView}
use Rattle.stab_io.specs.declared.refusal.Refusal.{Refusal}
use Rattle.stab_io.specs.declared.refusal.Refusal.TheVariants.{OutOfMemory, NotDeterministic}
use Rattle.stab_io.specs.declared.refusal.Fault.{Fault}
use Rattle.stab_io.specs.Refusals.{whole}
use Rattle.stab_gates.specs.LetterTexts.{letter_text}
use Rattle.stab_items.specs.Items.{Items}
use Rattle.stab_items.specs.Steps.{observables_of, qubits_of}
use Rattle.stab_items.specs.Paths.{Path, path_text}
use Rattle.stab_results.specs.declared.format.Kinds.{Kinds}
use Rattle.stab_results.specs.Formats.{entry}
use Rattle.stab_regions.specs.SingleErrors.{SingleError, bits_in, IsDeterministic}
use Rattle.stab_search.specs.declared.answer.Answer.{Answer}
use Rattle.stab_search.specs.declared.answer.Answer.TheVariants.{Least, NoneWithin, NoneAtAll}
use Rattle.stab_parities.specs.OddNumbers.{row}
use Rattle.stab_search.specs.Progress.{Heard, Hears, begins}
use Rattle.stab_search.specs.Problems.{Clauses, problem_text}
use Rattle.stab_search.specs.Questions.{Asks}
use Rattle.stab_jobs.specs.declared.job.DistanceOptions.{DistanceOptions}
use Rattle.stab_jobs.specs.declared.job.SearchedLayout.{SearchedLayout}
use Rattle.stab_jobs.specs.declared.job.SearchedLayout.TheVariants.{Table, Wcnf}
use Rattle.stab_error_model.specs.Errors.{Error, letter, letters, wrong_record, first_single_error, errors_of}
use Rattle.stab_error_model.specs.Parts.{AreSearched}
use Rattle.stab_error_model.specs.ErrorTables.{ErrorTableState, IsErrorTable}
use Rattle.stab_error_model.specs.Unseen.{IsDistance, IsSetCount, ReportsUnseen, error_at}
use Rattle.stab_report.specs.declared.random.Random.{Random}
use Rattle.stab_report.specs.Deterministic.{kinds_of}
use Rattle.stab_report.specs.Endings.{Ends}
use Rattle.stab_report.specs.SingleErrorTables.{IsFirstRandom, EndsOrNames}
use Rattle.stab_report.specs.ItemPaths.{path_at}

-- a letter on a qubit, as X3
abbrev pub letter_name : SingleError → List ℕ
letter_name f = letter_text f.letter ++ decimal f.qubit

-- an error: X3, or X3*Z4 for a product of two letters, or M17 for a wrong record
abbrev pub error_name : Error → List ℕ
error_name (letter f) = letter_name f
error_name (letters f g) = letter_name f ++ (codes "*" ++ letter_name g)
error_name (wrong_record number f back) = codes "M" ++ decimal number

-- the number of steps in front, and the path of the item
abbrev pub where_text : (before : ℕ) → Path → List ℕ
where_text before path = (decimal before ++ codes " ") ++ (path_text path ++ codes " ")

-- what an error is, and what it flips
abbrev pub what_text : Kinds → Error → (flipped : List ℕ) → List ℕ
what_text kinds e flipped = error_name e ++ (flat_map (entry kinds) flipped ++ codes "\n")

-- the line of an error, as `1207 3/0/2 X17*Z4 D24 L0`
abbrev pub error_line : Kinds → Path → Error → (flipped : List ℕ) → List ℕ
error_line kinds path e flipped = where_text (first_single_error e).before path ++ what_text kinds e flipped

-- the line of the error of a number
abbrev pub numbered_line : Items → ErrorTableState → ℕ → List ℕ
numbered_line items t k = error_line (kinds_of items) (path_at items (first_single_error (error_at t.errors k)).step) (error_at t.errors k) (row t.table.rows k)

-- of which errors a distance is
abbrev pub of_errors : (graphlike everywhere : Bool) → List ℕ
of_errors true everywhere = codes " of graph-like errors"
of_errors false false = codes " of all marked errors"
of_errors false true = codes " of all errors everywhere"

-- the end of a first line: of which errors, and for which observable, if one was asked for
abbrev pub line_end : (errors : List ℕ) → (observable : Option ℕ) → List ℕ
line_end errors None = errors ++ codes "\n"
line_end errors (Some j) = errors ++ (codes " for L" ++ (decimal j ++ codes "\n"))

-- the line of this number of errors
abbrev pub distance_line : (count : ℕ) → (graphlike everywhere : Bool) → (observable : Option ℕ) → List ℕ
distance_line count graphlike everywhere observable = (codes "distance " ++ decimal count) ++ line_end (of_errors graphlike everywhere) observable

-- the number of errors up to which no set was found, and of which errors
abbrev pub up_to : (most : Option ℕ) → List ℕ
up_to None = []
up_to (Some most) = codes " up to " ++ decimal most

abbrev pub if_graphlike : (graphlike : Bool) → List ℕ
if_graphlike false = []
if_graphlike true = of_errors true true

abbrev pub none_line : (most : Option ℕ) → (graphlike : Bool) → (observable : Option ℕ) → List ℕ
none_line most graphlike observable = (codes "none" ++ up_to most) ++ line_end (if_graphlike graphlike) observable

-- what is written of a set: the number of its errors and a line for each
abbrev pub set_text : DistanceOptions → Items → ErrorTableState → List ℕ → List ℕ
set_text options items t numbers = distance_line (length numbers) options.graphlike options.everywhere options.observable ++ flat_map (numbered_line items t) numbers

-- what is written of an answer: a set, or that there is none
abbrev pub answer_text : DistanceOptions → Items → ErrorTableState → Answer → List ℕ
answer_text options items t (Least numbers) = set_text options items t numbers.items
answer_text options items t NoneWithin = none_line options.most options.graphlike options.observable
answer_text options items t NoneAtAll = none_line None options.graphlike options.observable

-- each bit of a circuit is deterministic, unless those that are not are left out
abbrev pub IsAllDeterministic : DistanceOptions → Items → Type 0
IsAllDeterministic options items = options.deterministic_only ≡ false → (i : ℕ) → i < bits_in items → IsDeterministic (qubits_of items) items i

-- the errors of a circuit that are asked for, on its own qubits, split if graph-like ones are, with their table
pub record AreErrorsOf (options : DistanceOptions) (items : Items) (t : ErrorTableState) : Type 0 where
  pub errors : AreSearched options.graphlike (qubits_of items) items (errors_of options.everywhere options.letters items) t.errors
  pub table : IsErrorTable (qubits_of items) items t
  pub all_deterministic : IsAllDeterministic options items

-- these errors, and an answer about them
pub record IsDistanceOf (options : DistanceOptions) (items : Items) (t : ErrorTableState) (answer : Answer) : Type 0 where
  pub are : AreErrorsOf options items t
  pub distance : IsDistance options.graphlike options.observable (qubits_of items) items t.errors options.most answer

-- the bytes are those of an answer
abbrev pub IsDistanceText : DistanceOptions → Items → List ℕ → Type 0
IsDistanceText options items bytes = (t : ErrorTableState) × (answer : Answer) × IsDistanceOf options items t answer × (bytes ≡ answer_text options items t answer)

-- the line of how many least sets there are
abbrev pub count_line : Option ℕ → List ℕ
count_line (Some count) = codes "count " ++ (decimal count ++ codes "\n")
count_line None = codes "count 18446744073709551616 or more\n"

-- the same options, for all errors
abbrev pub of_all : DistanceOptions → DistanceOptions
of_all options = record options { graphlike = false }

-- the bytes are those of an answer about all errors, and of how many least sets there are of these
pub record IsCountedText (options : DistanceOptions) (items : Items) (bytes : List ℕ) : Type 0 where
  pub t : ErrorTableState
  pub answer : Answer
  pub distance : IsDistanceOf (of_all options) items t answer
  pub count : Option ℕ
  pub counted : IsSetCount options.observable (qubits_of items) items t.errors options.most count
  pub text : bytes ≡ answer_text (of_all options) items t answer ++ count_line count

-- the lines of all errors
abbrev pub error_lines : Items → ErrorTableState → List ℕ
error_lines items t = flat_map (numbered_line items t) (range_with_len 0 (length t.errors))

-- the bytes are those of these errors: a line for each, or a problem that asks for a least set of them
abbrev pub IsErrorsText : SearchedLayout → Items → ErrorTableState → List ℕ → Type 0
IsErrorsText Table items t bytes = bytes ≡ error_lines items t
IsErrorsText Wcnf items t bytes = (p : Clauses) × Asks t.table p × (bytes ≡ problem_text p)

-- the bytes are those of the errors of a circuit that are asked for
abbrev pub IsSearchedText : SearchedLayout → DistanceOptions → Items → List ℕ → Type 0
IsSearchedText layout options items bytes = (t : ErrorTableState) × AreErrorsOf options items t × IsErrorsText layout items t bytes

-- the same options, for one observable
abbrev pub for_observable : DistanceOptions → ℕ → DistanceOptions
for_observable options j = record options { observable = Some j }

-- an answer about each observable in turn, from this one on
abbrev pub AreDistanceAnswers : DistanceOptions → Items → ErrorTableState → (first : ℕ) → List Answer → Type 0
AreDistanceAnswers options items t first [] = Unit {0}
AreDistanceAnswers options items t first (answer ∷ answers) = IsDistanceOf (for_observable options first) items t answer × AreDistanceAnswers options items t (first + 1) answers

-- what is written of them, in order
abbrev pub answer_texts : DistanceOptions → Items → ErrorTableState → (first : ℕ) → List Answer → List ℕ
answer_texts options items t first [] = []
answer_texts options items t first (answer ∷ answers) = answer_text (for_observable options first) items t answer ++ answer_texts options items t (first + 1) answers

-- the bytes are those of an answer about each observable of the circuit, and of the same errors
pub record IsEachText (options : DistanceOptions) (items : Items) (bytes : List ℕ) : Type 0 where
  pub t : ErrorTableState
  pub are : AreErrorsOf options items t
  pub answers : List Answer
  pub each : length answers ≡ observables_of items
  pub distances : AreDistanceAnswers options items t 0 answers
  pub text : bytes ≡ answer_texts options items t 0 answers

-- why there is no answer: a bit that is not deterministic, or memory that was refused
abbrev pub IsRefusedFor : (deterministic_only : Bool) → Items → Option Random → Fault → Type 0
IsRefusedFor deterministic_only items (Some u) fault = (deterministic_only ≡ false) × IsFirstRandom items u × (fault ≡ whole NotDeterministic)
IsRefusedFor deterministic_only items None fault = fault ≡ whole OutOfMemory

-- How a call of `distance` ends, over an input and an output, with a bit that it names or none.
abbrev pub EndsDistance : {T : Type 0} → DistanceOptions → InputView → InputView → OutputView → OutputView → Result T Fault → Option Random → Type 0
EndsDistance options i i' o o' r random = EndsOrNames (IsDistanceText options) options.deterministic_only i i' o o' r random

-- How a call ends that writes a distance of all errors and how many least sets there are.
abbrev pub EndsCounted : {T : Type 0} → DistanceOptions → InputView → InputView → OutputView → OutputView → Result T Fault → Option Random → Type 0
EndsCounted options i i' o o' r random = EndsOrNames (IsCountedText options) options.deterministic_only i i' o o' r random

-- How a call ends that writes the errors that are searched.
abbrev pub EndsSearched : {T : Type 0} → SearchedLayout → DistanceOptions → InputView → InputView → OutputView → OutputView → Result T Fault → Option Random → Type 0
EndsSearched layout options i i' o o' r random = EndsOrNames (IsSearchedText layout options) options.deterministic_only i i' o o' r random

-- How a call ends that writes the distance of each observable in turn.
abbrev pub EndsEach : {T : Type 0} → DistanceOptions → InputView → InputView → OutputView → OutputView → Result T Fault → Option Random → Type 0
EndsEach options i i' o o' r random = EndsOrNames (IsEachText options) options.deterministic_only i i' o o' r random

-- what is heard of a search among the errors of a circuit that are asked for, and what it found
pub record HearsSearch (options : DistanceOptions) (items : Items) (old new : Option (List Heard)) (result : Result Answer Refusal) : Type 0 where
  pub t : ErrorTableState
  pub are : AreErrorsOf options items t
  pub found : IfOk result (IsDistance options.graphlike options.observable (qubits_of items) items t.errors options.most)
  pub reported : ReportsUnseen options.graphlike options.observable (qubits_of items) items t.errors options.most old new result

-- what is heard of a call with the items of a circuit: nothing, if it ended before its search, or what its search reports
abbrev pub HearsDistance : {T : Type 0} → DistanceOptions → Items → Option (List Heard) → Option (List Heard) → Result T Fault → Type 0
HearsDistance options items old new (Ok x) = (answer : Answer) × HearsSearch options items old new (Ok answer)
HearsDistance options items old new (Err f) = (new ≡ old) ⊎ ((answer : Result Answer Refusal) × HearsSearch options items old new answer)

-- What is heard of a call of `distance`, over an input.
abbrev pub ReportsDistance : {T : Type 0} → DistanceOptions → InputView → InputView → Option (List Heard) → Option (List Heard) → Result T Fault → Type 0
ReportsDistance options i i' old new r = Ends (λ _. new ≡ old) (λ items. HearsDistance options items old new) i i' r

-- what is heard of a call with the items of a circuit that searches for each observable, or not at all: nothing, or how many errors it looks at
abbrev pub HearsErrors : DistanceOptions → Items → Option (List Heard) → Option (List Heard) → Type 0
HearsErrors options items old new = (new ≡ old) ⊎ ((t : ErrorTableState) × AreErrorsOf options items t × Hears old new (begins (length t.errors) ∷ []))

-- What is heard of a call that writes the distance of each observable in turn, or the errors that are searched, over an input.
abbrev pub ReportsErrors : {T : Type 0} → DistanceOptions → InputView → InputView → Option (List Heard) → Option (List Heard) → Result T Fault → Type 0
ReportsErrors options i i' old new r = Ends (λ _. new ≡ old) (λ items _. HearsErrors options items old new) i i' r
