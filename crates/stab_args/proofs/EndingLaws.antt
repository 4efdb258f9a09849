-- How reading the words of a command line ends.
use Rattle.stab_args.proofs.Names.{◌≡◌, List, Option, Some, None, option_map, IfOk, true, inl, inr, refl, sym, subst, ap, ap₂, Result, Ok, Err, IfErr, App, HasKind, Row, Text, found_of, is_simple, kind_of, rows_of, subcommand_name_of, subcommand_rows_of, fault_of, box_value, ArgMatches, out-ArgMatches, out-SubCommand, Error, OutOfMemory, StoredNames, stabsim, EndsBy, IsJob, IsReported, RefusesOptions, TakesCommand, Usage, Memory, Job}
use Rattle.clap.specs.Faults.{is_simple_and_free}

-- the reader has its own account of these commands
pub has_account : (names : StoredNames) → is_simple (stabsim names) ≡ true
has_account names = refl

pub has_whole_account : (names : StoredNames) → is_simple_and_free (stabsim names) ≡ true
has_whole_account names = refl

-- a command's name and its options, found one after the other
pub found_both : {X : Type 0} (f : X → Text × List Row) (found : Option X) (name : Text) (options : List Row) → option_map (λ x. (f x).0) found ≡ Some name
    → option_map (λ p. p.1) (option_map f found) ≡ Some options → option_map f found ≡ Some (name, options)
found_both f None name options e d = cc
found_both f (Some x) name options e d = let first : (f x).0 ≡ name = cc in let second : (f x).1 ≡ options = cc in ap Some (ap₂ (λ a b. (a, b)) first second)

-- the command that matches name, with its options
pub found_command : (matches : ArgMatches) (name : Text) (options : List Row) → subcommand_name_of matches ≡ Some name
    → option_map (λ p. p.1) (subcommand_rows_of matches) ≡ Some options → subcommand_rows_of matches ≡ Some (name, options)
found_command matches name options = found_both (λ b. ((out-SubCommand (box_value b)).name.now, rows_of (found_of (out-SubCommand (box_value b)).matches))) (out-ArgMatches matches).subcommand name options

-- an end with the job of a command, or with its options refused
pub ends_with_command : (app : App) (words : List Text) (name : Text) (options : List Row) (result : Result Job Usage) → TakesCommand app words (name, options)
    → IfOk result (IsJob name options) → IfErr result (RefusesOptions options) → EndsBy app words result
ends_with_command app words name options (Ok job) takes is refused = ((name, options), takes, is)
ends_with_command app words name options (Err usage) takes is refused = inr (inr ((name, options), takes, refused))

-- an end with an error of the reader
pub ends_with_error : (app : App) (words : List Text) (error : Error) (usage : Usage) → HasKind (fault_of app words) error
    → (kind_of error ≡ OutOfMemory → usage ≡ Memory) → IsReported (kind_of error) usage → EndsBy app words (Err usage)
ends_with_error app words error usage (inl memory) is reported = inl (is memory)
ends_with_error app words error usage (inr among) is reported = inr (inl (kind_of error, among, reported))

-- an end for lack of memory
pub ends_without_memory : (app : App) (words : List Text) (result : Result Job Usage) → result ≡ Err Memory → EndsBy app words result
ends_without_memory app words result e = subst (λ r. EndsBy app words r) (sym e) (inl refl)
