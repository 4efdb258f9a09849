-- Options: the commands of the program and their options, as the command line reader sees them.
-- Source: Stim's command line, for the options of `sample` and `detect`. All else is this project's own.
use Rattle.std.specs.Prelude.{true, ℕ, List, [], ◌∷◌, ◌++◌, Some, codes}
use Rattle.std.specs.Borrow.{Bor}
use Rattle.clap.specs.Words.{App, Rule, Shape, Text, new_app, new_rule, with_subcommand}
use Rattle.clap.specs.Simple.{new_shape, on_top}
use Rattle.clap.specs.declared.builder.action.ArgAction.TheVariants.{SetTrue}
use Rattle.clap.specs.declared.builder.value_parser.ValueParser.TheVariants.{Names, Unsigned}
use Rattle.stab_gates.specs.Limits.{most_qubits}
use Rattle.stab_jobs.specs.Limits.{last_shot, most_shots, stride_at_most}

-- names if the reader keeps them
abbrev pub Stored : Type 0
Stored = Bor (List (Bor Text))

-- the names of the formats
abbrev pub format_names : List Text
format_names = codes "01" ∷ codes "b8" ∷ codes "r8" ∷ codes "hits" ∷ codes "dets" ∷ []

-- the names of the letters of errors
abbrev pub letter_names : List Text
letter_names = codes "all" ∷ codes "XZ" ∷ []

-- the names that options take, if the reader keeps them: of formats, and of letters
pub record StoredNames : Type 0 where
  pub formats : Stored
  pub letters : Stored

-- an option `--id` with a value
abbrev pub valued : Text → Rule
valued id = record (new_rule id) { long = Some id; value_names = 1 }

-- an option whose value is a number within these limits
abbrev pub ranged : Text → (least most : ℕ) → Rule
ranged id least most = record (valued id) { parser = Some (Unsigned least most) }

-- an option whose value is a number within these limits, with its default
abbrev pub numbered : Text → (least most : ℕ) → Text → Rule
numbered id least most default = record (ranged id least most) { defaults = default ∷ [] }

-- an option whose value is one of these names
abbrev pub one_name : Text → Stored → Rule
one_name id names = record (valued id) { parser = Some (Names names) }

-- an option whose value is one of these names, with its default
abbrev pub named : Text → Stored → Text → Rule
named id names default = record (one_name id names) { defaults = default ∷ [] }

-- an option `--id` without a value
abbrev pub flag : Text → Rule
flag id = record (new_rule id) { long = Some id; action = Some SetTrue }

-- the flag that leaves out what is not the same for all random bits, which has another name
abbrev pub deterministic_only : Rule
deterministic_only = record (flag (codes "deterministic_only")) { aliases = codes "sure_only" ∷ [] }

-- the greatest seed
abbrev pub most_seed : ℕ
most_seed = 18446744073709551615

-- the greatest number of errors up to which a distance is asked for
abbrev pub most_errors : ℕ
most_errors = 1000000000

-- the number of the last observable
abbrev pub last_observable : ℕ
last_observable = 4095

-- the options of every command: its files
abbrev pub file_options : List Rule
file_options = valued (codes "in") ∷ valued (codes "out") ∷ []

-- the options of a command that runs a circuit: its coins and its files
abbrev pub common_options : List Rule
common_options = numbered (codes "seed") 0 most_seed (codes "0") ∷ valued (codes "coins") ∷ valued (codes "coins_in") ∷ file_options

-- a command that takes shots, such as `sample`, with its options in the order of the help
abbrev pub shot_command : Text → Stored → Shape
shot_command name formats = record (new_shape name) {
  rules = numbered (codes "shots") 0 most_shots (codes "1") ∷ ranged (codes "first_shot") 0 last_shot ∷ named (codes "out_format") formats (codes "01") ∷ common_options;
}

-- a command without commands of its own
abbrev pub alone : Shape → App
alone command = record { top = command; subs = [] }

-- the command `detect`, which has one option more
abbrev pub detect : Stored → Shape
detect formats = let run = shot_command (codes "detect") formats in record run { rules = run.rules ++ flag (codes "append_observables") ∷ [] }

-- the command `stabilisers`, which has another name
abbrev pub stabilisers : Shape
stabilisers = record (new_shape (codes "stabilisers")) { aliases = codes "stabilizers" ∷ []; rules = common_options }

-- the command `edit`
abbrev pub edit : Shape
edit = record (new_shape (codes "edit")) { rules = ranged (codes "qubits") 0 most_qubits ∷ numbered (codes "stride") 1 stride_at_most (codes "8192") ∷ flag (codes "framed") ∷ common_options }

-- the command `check`, which takes no coins
abbrev pub check : Shape
check = record (new_shape (codes "check")) { rules = file_options }

-- the command `deterministic`, which takes no coins
abbrev pub deterministic : Stored → Shape
deterministic formats =
    record (new_shape (codes "deterministic")) { rules = named (codes "out_format") formats (codes "01") ∷ flag (codes "explain") ∷ file_options }

-- the command `faults`, which takes no coins, and has a layout of its own if no format is named
abbrev pub faults : Stored → Shape
faults formats = record (new_shape (codes "faults")) { rules = one_name (codes "out_format") formats ∷ flag (codes "everywhere") ∷ deterministic_only ∷ file_options }

-- the command `coins`, which takes no coins, and has a layout of its own if no format is named
abbrev pub coins : Stored → Shape
coins formats = record (new_shape (codes "coins")) { rules = one_name (codes "out_format") formats ∷ file_options }

-- the command `distance`, which takes no coins
abbrev pub distance : Stored → Shape
distance letters = record (new_shape (codes "distance")) {
  rules = flag (codes "everywhere") ∷ named (codes "letters") letters (codes "all") ∷ ranged (codes "most") 0 most_errors ∷ flag (codes "graphlike")
      ∷ ranged (codes "observable") 0 last_observable ∷ flag (codes "each") ∷ flag (codes "table") ∷ flag (codes "wcnf") ∷ flag (codes "count") ∷ valued (codes "part") ∷ deterministic_only ∷ flag (codes "progress") ∷ file_options;
}

-- an option whose value has to be given
abbrev pub wanted : Rule → Rule
wanted option = record option { required = true }

-- a value that has no option
abbrev pub positional : Text → Rule
positional id = record (new_rule id) { value_names = 1 }

-- the command `propagate`, which takes no coins
abbrev pub propagate : Shape
propagate = record (new_shape (codes "propagate")) { rules = wanted (valued (codes "at")) ∷ wanted (positional (codes "PAULI")) ∷ flag (codes "every") ∷ file_options }

-- the command `propagate_each`, which takes no coins
abbrev pub propagate_each : Shape
propagate_each = record (new_shape (codes "propagate_each")) { rules = flag (codes "everywhere") ∷ file_options }

-- the program without its commands, of which some command is wanted, and which says its version
abbrev pub bare : App
bare = on_top (λ s. record s { subcommand_required = true; has_version = true }) (new_app (codes "stabsim"))

-- a program with these commands
abbrev pub with_commands : App → List Shape → App
with_commands app [] = app
with_commands app (command ∷ commands) = with_commands (with_subcommand app command) commands

-- the commands of the program, in the order of the help
abbrev pub commands : StoredNames → List Shape
commands names =
    shot_command (codes "sample") names.formats ∷ detect names.formats ∷ stabilisers ∷ edit ∷ check ∷ deterministic names.formats ∷ faults names.formats ∷ coins names.formats ∷ distance names.letters ∷ propagate ∷ propagate_each ∷ []

-- the program
abbrev pub stabsim : StoredNames → App
stabsim names = with_commands bare (commands names)
