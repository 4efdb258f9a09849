-- Asked: the job that the words of a command line ask for, and when they ask for none.
-- Source: Stim's command line, for the options of `sample` and `detect`. All else is this project's own.
use Rattle.std.specs.Prelude.{◌≡◌, ◌≢◌, ◌+◌, ◌<◌, ◌≤◌, ◌⊎◌, ⊤, ℕ, Bool, true, false, ◌&&◌, ◌||◌, is_some, decimal, List, [], ◌++◌, Option, Some, None, IfSome, option_map, Result, Ok, Err, codes, string_bytes}
use Rattle.std.specs.Str.Parse.{digits_value, without_leading_plus}
use Rattle.stab_results.specs.declared.format.Format.{Format}
use Rattle.stab_results.specs.declared.format.Format.TheVariants.{F01, B8, R8, Hits, Dets}
use Rattle.clap.specs.Words.{App, IsAmong, IsUnsignedIn, Row, Text, first_of, one_of, subcommand_of}
use Rattle.clap.specs.Walk.{texts}
use Rattle.clap.specs.Faults.{fault_of}
use Rattle.clap.specs.declared.error.kind.ErrorKind.{ErrorKind}
use Rattle.clap.specs.declared.error.kind.ErrorKind.TheVariants.{DisplayHelp, DisplayVersion}
use Rattle.stab_gates.specs.Limits.{most_qubits}
use Rattle.stab_search.specs.PartNumbers.{PartNumbers, most_parts}
use Rattle.stab_jobs.specs.Limits.{ShotRange, last_shot, most_shots, shots_of_seed, stride_at_most}
use Rattle.stab_args.specs.Coins.{coin_text}
use Rattle.stab_args.specs.Options.{StoredNames, format_names, last_observable, letter_names, most_errors, most_seed, stabsim}
use Rattle.stab_args.specs.declared.words.Usage.{Usage}
use Rattle.stab_args.specs.declared.words.Usage.TheVariants.{Help, Fault, Memory}
use Rattle.stab_jobs.specs.declared.job.Job.{Job}
use Rattle.stab_jobs.specs.declared.job.Command.{Command}
use Rattle.stab_jobs.specs.declared.job.Command.TheVariants.{Sample, Detect, Stabilisers, Check, Deterministic, Explain, Faults, Coins, Distance, Edit, Propagate, PropagateEach}
use Rattle.stab_jobs.specs.declared.job.Question.{Question}
use Rattle.stab_jobs.specs.declared.job.Question.TheVariants.{Least, Counted, Each, Part, Errors}
use Rattle.stab_jobs.specs.declared.job.DistanceOptions.{DistanceOptions}
use Rattle.stab_jobs.specs.declared.job.SearchedLayout.TheVariants.{Table, Wcnf}
use Rattle.stab_jobs.specs.declared.job.ErrorLetters.{ErrorLetters}
use Rattle.stab_jobs.specs.declared.job.ErrorLetters.TheVariants.{All as AllLetters, XAndZ}
use Rattle.stab_jobs.specs.declared.job.FaultLayout.{FaultLayout}
use Rattle.stab_jobs.specs.declared.job.FaultLayout.TheVariants.{Lines, Shots}
use Rattle.stab_jobs.specs.declared.job.Source.{Source}
use Rattle.stab_jobs.specs.declared.job.Source.TheVariants.{Seed, List as Listed}

-- the name of a format
abbrev pub format_name : Format → Text
format_name F01 = codes "01"
format_name B8 = codes "b8"
format_name R8 = codes "r8"
format_name Hits = codes "hits"
format_name Dets = codes "dets"

-- a format is the one that its option names
abbrev pub IsNamed : Option Text → Format → Type 0
IsNamed text format = IfSome text (λ t. (f : Format) → t ≡ format_name f → format ≡ f)

-- the name of the letters of errors
abbrev pub letters_name : ErrorLetters → Text
letters_name AllLetters = codes "all"
letters_name XAndZ = codes "XZ"

-- letters are those that their option names
abbrev pub AreLetters : Option Text → ErrorLetters → Type 0
AreLetters text letters = IfSome text (λ t. (l : ErrorLetters) → t ≡ letters_name l → letters ≡ l)

-- faults and coins are written as shots in the format that the option names, and in lines if it isn't given
abbrev pub IsLayout : Option Text → FaultLayout → Type 0
IsLayout None layout = layout ≡ Lines
IsLayout (Some t) layout = (f : Format) → t ≡ format_name f → layout ≡ Shots f

-- a number is the one that its option writes, if the text is that of a number within the limits
abbrev pub IsWritten : (least most : ℕ) → Option Text → ℕ → Type 0
IsWritten least most text number = IfSome text (λ t. IsUnsignedIn least most t → number ≡ digits_value 10 (without_leading_plus t))

-- a number that may be left out is the one that its option writes, and there is none if the option isn't given
abbrev pub IsWrittenIfGiven : (least most : ℕ) → Option Text → Option ℕ → Type 0
IsWrittenIfGiven least most None number = number ≡ None
IsWrittenIfGiven least most (Some t) number = IsUnsignedIn least most t → number ≡ Some (digits_value 10 (without_leading_plus t))

-- a flag is set if its text says so
abbrev pub IsSet : Option Text → Bool → Type 0
IsSet text set = (text ≡ Some (codes "true") → set ≡ true) × (text ≡ Some (codes "false") → set ≡ false)

-- the source of coins: the coins that are written; no coins yet, if a file has them; or, if neither is given, the seed
abbrev pub IsSource : (coins path seed : Option Text) → Source → Type 0
IsSource (Some coins) None seed (Listed list) = coins ≡ coin_text list.items
IsSource None (Some path) seed (Listed list) = list.items ≡ []
IsSource None None seed (Seed number) = IsWritten 0 most_seed seed number
IsSource coins path seed source = ⊥

-- the first shot is the one that its option writes, and shot 0 if the option isn't given
abbrev pub IsFirstShot : Option Text → ℕ → Type 0
IsFirstShot None first = first ≡ 0
IsFirstShot (Some t) first = IsUnsignedIn 0 last_shot t → first ≡ digits_value 10 (without_leading_plus t)

-- these are the shots that the options ask for
abbrev pub AreAskedShots : List Row → ShotRange → Type 0
AreAskedShots options shots = IsFirstShot (one_of (codes "first_shot") options) shots.first × IsWritten 0 most_shots (one_of (codes "shots") options) shots.number

-- the format and the shots are what their options say
abbrev pub HasShots : List Row → Format → ShotRange → Type 0
HasShots options format shots = IsNamed (first_of (codes "out_format") options) format × AreAskedShots options shots

-- a first shot, which is one of a seed, is given beside coins
abbrev pub first_beside_coins : List Row → Bool
first_beside_coins options =
    is_some (first_of (codes "first_shot") options) && (is_some (first_of (codes "coins") options) || is_some (first_of (codes "coins_in") options))

-- what a distance is asked for is what the options say
pub record IsAskedDistance (options : List Row) (asked : DistanceOptions) : Type 0 where
  pub everywhere : IsSet (one_of (codes "everywhere") options) asked.everywhere
  pub letters : AreLetters (first_of (codes "letters") options) asked.letters
  pub graphlike : IsSet (one_of (codes "graphlike") options) asked.graphlike
  pub observable : IsWrittenIfGiven 0 last_observable (one_of (codes "observable") options) asked.observable
  pub most : IsWrittenIfGiven 0 most_errors (one_of (codes "most") options) asked.most
  pub deterministic_only : IsSet (one_of (codes "deterministic_only") options) asked.deterministic_only
  pub progress : IsSet (one_of (codes "progress") options) asked.progress

-- whether something is asked about a search: for one observable, up to a number of errors, or with its progress
abbrev pub is_about_search : DistanceOptions → Bool
is_about_search asked = is_some asked.observable || (is_some asked.most || asked.progress)

-- whether something is asked beside the errors as a problem: their table, each observable, only some errors, or what is about a search
abbrev pub is_beside_problem : (table each : Bool) → DistanceOptions → Bool
is_beside_problem table each asked = table || (each || (asked.graphlike || is_about_search asked))

-- whether something is asked that is not asked of each observable: the table of errors, one observable, or the progress of one search
abbrev pub is_beside_each : (table : Bool) → DistanceOptions → Bool
is_beside_each table asked = table || (is_some asked.observable || asked.progress)

-- whether something is asked beside the number of least sets: the errors themselves, each observable, or only some errors
abbrev pub is_beside_count : (wcnf table each : Bool) → DistanceOptions → Bool
is_beside_count wcnf table each asked = wcnf || (table || (each || asked.graphlike))

-- the word of a part, K/N in decimal digits: the first part is part 1
abbrev pub part_word : PartNumbers → Text
part_word p = decimal (p.index + 1) ++ (codes "/" ++ decimal p.count)

-- there is such a part
abbrev pub IsAskedPart : PartNumbers → Type 0
IsAskedPart p = (p.index < p.count) × (p.count ≤ most_parts)

-- whether something is asked beside a part of a search: the errors themselves, each observable, the number of least sets, only some errors, one observable, or progress
abbrev pub is_beside_part : (wcnf table each count : Bool) → DistanceOptions → Bool
is_beside_part wcnf table each count asked = wcnf || (table || (each || (count || (asked.graphlike || (is_some asked.observable || asked.progress)))))

-- the options of a distance ask for a part of a search, the errors themselves, each observable, or the number of least sets
pub record AsksFor (options : List Row) (p : Option Text) (w t e c : Bool) : Type 0 where
  pub part : first_of (codes "part") options ≡ p
  pub wcnf : IsSet (one_of (codes "wcnf") options) w
  pub table : IsSet (one_of (codes "table") options) t
  pub each : IsSet (one_of (codes "each") options) e
  pub count : IsSet (one_of (codes "count") options) c

-- the question that the options ask, and nothing that is not asked beside it
abbrev pub IsQuestion : List Row → DistanceOptions → Question → Type 0
IsQuestion options asked Least = AsksFor options None false false false false
IsQuestion options asked (Part part) = AsksFor options (Some (part_word part)) false false false false × (is_beside_part false false false false asked ≡ false)
IsQuestion options asked Counted = AsksFor options None false false false true × (is_beside_count false false false asked ≡ false)
IsQuestion options asked Each = AsksFor options None false false true false × (is_beside_each false asked ≡ false)
IsQuestion options asked (Errors Wcnf) = AsksFor options None true false false false × (is_beside_problem false false asked ≡ false)
IsQuestion options asked (Errors Table) = AsksFor options None false true false false × (is_about_search asked ≡ false)

-- the command of a name, with what its options say
abbrev pub IsCommand : Text → List Row → Command → Type 0
IsCommand name options (Sample format shots) = (name ≡ codes "sample") × HasShots options format shots
IsCommand name options (Detect format shots append) = (name ≡ codes "detect") × HasShots options format shots × IsSet (one_of (codes "append_observables") options) append
IsCommand name options Stabilisers = name ≡ codes "stabilisers"
IsCommand name options Check = name ≡ codes "check"
IsCommand name options (Deterministic format) = (name ≡ codes "deterministic") × IsSet (one_of (codes "explain") options) false × IsNamed (first_of (codes "out_format") options) format
IsCommand name options Explain = (name ≡ codes "deterministic") × IsSet (one_of (codes "explain") options) true
IsCommand name options (Faults layout everywhere deterministic_only) =
    (name ≡ codes "faults") × IsLayout (first_of (codes "out_format") options) layout
    × IsSet (one_of (codes "everywhere") options) everywhere × IsSet (one_of (codes "deterministic_only") options) deterministic_only
IsCommand name options (Coins layout) = (name ≡ codes "coins") × IsLayout (first_of (codes "out_format") options) layout
IsCommand name options (Distance question asked) = (name ≡ codes "distance") × IsAskedDistance options asked × IsQuestion options asked question
IsCommand name options (Edit framed qubits stride) =
    (name ≡ codes "edit") × IsSet (one_of (codes "framed") options) framed × IsWrittenIfGiven 0 most_qubits (one_of (codes "qubits") options) qubits × IsWritten 1 stride_at_most (one_of (codes "stride") options) stride
IsCommand name options (Propagate every) = (name ≡ codes "propagate") × IsSet (one_of (codes "every") options) every
IsCommand name options (PropagateEach everywhere) = (name ≡ codes "propagate_each") × IsSet (one_of (codes "everywhere") options) everywhere

-- the text of an option, which is empty if the option isn't given
abbrev pub text_or_none : Option Text → Text
text_or_none None = []
text_or_none (Some t) = t

-- a job is what a command's name and options say
pub record IsJob (name : Text) (options : List Row) (job : Job) : Type 0 where
  pub command : IsCommand name options job.command
  pub source : IsSource (first_of (codes "coins") options) (first_of (codes "coins_in") options) (one_of (codes "seed") options) job.source
  pub first : first_beside_coins options ≡ false
  pub coins_path : option_map string_bytes job.coins_path ≡ first_of (codes "coins_in") options
  pub in_path : option_map string_bytes job.in_path ≡ first_of (codes "in") options
  pub out_path : option_map string_bytes job.out_path ≡ first_of (codes "out") options
  pub at : string_bytes job.at ≡ text_or_none (first_of (codes "at") options)
  pub string : string_bytes job.string ≡ text_or_none (first_of (codes "PAULI") options)

-- the line for coins that are no coins
abbrev pub coin_fault : Text
coin_fault = codes "stabsim: coins are 0 and 1\n"

-- the line for coins that are given twice
abbrev pub twice_fault : Text
twice_fault = codes "stabsim: coins are given by --coins or by --coins_in, and not by both\n"

-- coins are refused for lack of memory, if they are given twice, or if their text is not that of coins
abbrev pub RefusesCoins : (coins path : Option Text) → Usage → Type 0
RefusesCoins coins path Memory = ⊤
RefusesCoins (Some coins) (Some path) (Fault line) = string_bytes line ≡ twice_fault
RefusesCoins (Some coins) None (Fault line) = (string_bytes line ≡ coin_fault) × ((list : List Bool) → coins ≡ coin_text list → ⊥)
RefusesCoins coins path usage = ⊥

-- the line for shots that go beyond the last of a seed
abbrev pub beyond_fault : Text
beyond_fault = codes "stabsim: the last shot of a seed is shot 18446744073709551615\n"

-- shots are refused for lack of memory, or if they go beyond the last of a seed
abbrev pub RefusesShots : List Row → Usage → Type 0
RefusesShots options Memory = ⊤
RefusesShots options (Fault line) = (string_bytes line ≡ beyond_fault) × (shots : ShotRange) × AreAskedShots options shots × (shots_of_seed < shots.first + shots.number)
RefusesShots options usage = ⊥

-- the line for a table of errors beside what is about a search
abbrev pub table_fault : Text
table_fault = codes "stabsim: --table searches nothing, and is not beside --observable, --most or --progress\n"

-- it is asked for beside what is about a search
abbrev pub IsTableBesideSearch : List Row → Type 0
IsTableBesideSearch options = IsSet (one_of (codes "table") options) true × ((asked : DistanceOptions) × IsAskedDistance options asked × (is_about_search asked ≡ true))

-- the line for each observable beside what is not asked of each
abbrev pub each_fault : Text
each_fault = codes "stabsim: --each is for all observables, and is not beside --observable, --table or --progress\n"

-- each observable is asked for beside what is not asked of each
abbrev pub IsEachBeside : List Row → Type 0
IsEachBeside options =
    IsSet (one_of (codes "each") options) true
    × ((table : Bool) × (asked : DistanceOptions) × IsSet (one_of (codes "table") options) table × IsAskedDistance options asked × (is_beside_each table asked ≡ true))

-- the line for the errors as a problem beside what is not asked with it
abbrev pub problem_fault : Text
problem_fault = codes "stabsim: --wcnf searches nothing, and is not beside --table, --each, --graphlike, --observable, --most or --progress\n"

-- they are asked for beside it
abbrev pub IsProblemBeside : List Row → Type 0
IsProblemBeside options =
    IsSet (one_of (codes "wcnf") options) true
    × ((table each : Bool) × (asked : DistanceOptions) × IsSet (one_of (codes "table") options) table × IsSet (one_of (codes "each") options) each × IsAskedDistance options asked
    × (is_beside_problem table each asked ≡ true))

-- the line for a word that is of no part
abbrev pub part_fault : Text
part_fault = codes "stabsim: --part is K/N, of which K is from 1 to N, and N at most 1000000\n"

-- a part is asked for, and there is none of this word
abbrev pub IsNoPart : List Row → Type 0
IsNoPart options = (word : Text) × (first_of (codes "part") options ≡ Some word) × ((p : PartNumbers) → IsAskedPart p → word ≡ part_word p → ⊥)

-- the line for a part of a search beside what is not asked with it
abbrev pub beside_part_fault : Text
beside_part_fault = codes "stabsim: --part is of one search among all errors, and is not beside --wcnf, --table, --each, --count, --graphlike, --observable or --progress\n"

-- it is asked for beside it
abbrev pub IsBesidePart : List Row → Type 0
IsBesidePart options =
    (word : Text) × (wcnf table each count : Bool) × (asked : DistanceOptions) × AsksFor options (Some word) wcnf table each count × IsAskedDistance options asked
    × (is_beside_part wcnf table each count asked ≡ true)

-- the line for the number of least sets beside what is not asked with it
abbrev pub count_fault : Text
count_fault = codes "stabsim: --count is of one answer about all errors, and is not beside --wcnf, --table, --each or --graphlike\n"

-- it is asked for beside it
abbrev pub IsCountBeside : List Row → Type 0
IsCountBeside options =
    (wcnf table each : Bool) × (asked : DistanceOptions) × AsksFor options None wcnf table each true × IsAskedDistance options asked × (is_beside_count wcnf table each asked ≡ true)

-- a distance is refused for lack of memory, or by options that are beside others
abbrev pub RefusesDistance : List Row → Usage → Type 0
RefusesDistance options Memory = ⊤
RefusesDistance options (Fault line) =
    ((string_bytes line ≡ table_fault) × IsTableBesideSearch options) ⊎ (((string_bytes line ≡ each_fault) × IsEachBeside options) ⊎ (((string_bytes line ≡ problem_fault) × IsProblemBeside options)
    ⊎ (((string_bytes line ≡ count_fault) × IsCountBeside options) ⊎ (((string_bytes line ≡ part_fault) × IsNoPart options) ⊎ ((string_bytes line ≡ beside_part_fault) × IsBesidePart options)))))
RefusesDistance options usage = ⊥

-- a command is refused by its shots, or as a distance
abbrev pub RefusesCommand : List Row → Usage → Type 0
RefusesCommand options usage = RefusesShots options usage ⊎ RefusesDistance options usage

-- the line for a first shot beside coins
abbrev pub beside_fault : Text
beside_fault = codes "stabsim: --first_shot is of a seed, and not beside --coins or --coins_in\n"

-- a first shot is refused for lack of memory, or beside coins
abbrev pub RefusesFirst : List Row → Usage → Type 0
RefusesFirst options Memory = ⊤
RefusesFirst options (Fault line) = (string_bytes line ≡ beside_fault) × (first_beside_coins options ≡ true)
RefusesFirst options usage = ⊥

-- options that the reader takes are refused by their shots, as a distance, by a first shot beside coins, or by their coins
abbrev pub RefusesOptions : List Row → Usage → Type 0
RefusesOptions options usage =
    RefusesFirst options usage ⊎ (RefusesCommand options usage ⊎ RefusesCoins (first_of (codes "coins") options) (first_of (codes "coins_in") options) usage)

-- an error that is no answer to a question for help
abbrev pub IsMistake : ErrorKind → Type 0
IsMistake kind = (kind ≢ DisplayHelp) × (kind ≢ DisplayVersion)

-- the reader's own errors are reported as faults, and its help as help, unless the answer is 20
abbrev pub IsReported : ErrorKind → Usage → Type 0
IsReported kind Memory = ⊤
IsReported kind (Help text) = IsMistake kind → ⊥
IsReported kind (Fault text) = IsMistake kind

-- the command that the words name, with its options, if the reader takes them
abbrev pub TakesCommand : App → List Text → Text × List Row → Type 0
TakesCommand app words command = (fault_of app words ≡ []) × (subcommand_of app words ≡ Some command)

-- How reading the words of a command line ends, by the reader's own account of its commands.
abbrev pub EndsBy : App → List Text → Result Job Usage → Type 0
EndsBy app words (Ok job) = (command : Text × List Row) × TakesCommand app words command × IsJob command.0 command.1 job
EndsBy app words (Err usage) = (usage ≡ Memory)
    ⊎ (((kind : ErrorKind) × IsAmong kind (fault_of app words) × IsReported kind usage)
    ⊎ ((command : Text × List Row) × TakesCommand app words command × RefusesOptions command.1 usage))

-- How reading the words of a command line ends, wherever the names that options take are stored.
pub record EndsReading (words : List Text) (result : Result Job Usage) : Type 0 where
  pub names : StoredNames
  pub formats : texts names.formats.now ≡ format_names
  pub letters : texts names.letters.now ≡ letter_names
  pub ends : EndsBy (stabsim names) words result
