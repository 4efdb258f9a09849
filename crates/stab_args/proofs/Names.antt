-- What the proofs of this crate take from std, from crates below and from its definitions.
pub use Rattle.std.proofs.Common.{◌≡◌, ◌++◌, ◌∷◌, [], ◌∙◌, ℕ, Bool, true, false, List, refl, sym, ap, subst, arith, inl, inr, ◌||◌, ap₂, map, Option, Some, None, option_map, IfOk, ◌&&◌, not, ◌⊎◌, find, fold, IfSome, codes, is_some, if◌then◌else◌, IfNone, length, ◌==◌, rules, string_bytes}
pub use Rattle.std.proofs.lemmas.Result.{IfOk-weaker}
pub use Rattle.std.proofs.lemmas.Slice.Eq.{bytes_eq-Decides}
pub use Rattle.std.specs.Bool.{⊤}
pub use Rattle.std.specs.Borrow.{Bor}
pub use Rattle.std.specs.Box.{box_value}
pub use Rattle.std.specs.Prelude.{Result, Ok, Err, IfErr}
pub use Rattle.std.specs.Str.{bytes_eq}
pub use Rattle.std.specs.Str.Parse.{ParsesUnsigned, ExplainsUnsignedError, HasUnsignedDigitsIfOk}
pub use Rattle.clap.proofs.WalkLemmas.{one_text-rows, first_value-rows}
pub use Rattle.clap.specs.Faults.{fault_of, other_fault, turn_fault, word_fault}
unfoldable pub use Rattle.clap.specs.Faults.{walk_fault}
pub use Rattle.clap.specs.Kinds.{Kinds, or_else}
pub use Rattle.clap.specs.Lexer.{long_of, short_of}
pub use Rattle.clap.specs.Simple.{app_of_fields, on_top, argument_words, built, entered, label_of, names_of, rows_at}
pub use Rattle.clap.specs.Walk.{rule_of, Held, Names, Outcome, Step, Waiting, Walk, after_flag, after_step, answers_to, bundle, arg_by_index, arg_by_long, long_met, long_or_other, nothing_held, option, idle, positional, next, trailing, subcommand, value, done, waits, plain, refused, plain_word, short_or_plain, subcommand_met, subcommand_or_other, to_positional, walk, walk_from, walked_from, word_met, texts}
unfoldable pub use Rattle.clap.specs.Walk.{walked}
pub use Rattle.clap.specs.Words.{Text, AddsAliases, AddsArg, AddsCommandAliases, AddsSubcommand, App, Rule, with_rule, with_subcommand, HasKind, Row, found_of, is_simple, kind_of, rows_of, subcommand_name_of, subcommand_rows_of, is_simple_and_free, Shape, subcommand_of, IsUnsignedIn, ReadsOne}
pub use Rattle.clap.specs.declared.builder.arg.Arg.{Arg}
pub use Rattle.clap.specs.declared.builder.command.Command.{Command}
pub use Rattle.clap.specs.declared.builder.command.Command.TheViews.{out-Command}
pub use Rattle.clap.specs.declared.error.Error.{Error}
pub use Rattle.clap.specs.declared.error.kind.ErrorKind.{ErrorKind}
pub use Rattle.clap.specs.declared.error.kind.ErrorKind.TheVariants.{OutOfMemory}
pub use Rattle.clap.specs.declared.parser.matches.ArgMatches.{ArgMatches}
pub use Rattle.clap.specs.declared.parser.matches.ArgMatches.TheViews.{out-ArgMatches, out-SubCommand}
pub use Rattle.stab_jobs.specs.Limits.{ShotRange}
pub use Rattle.stab_jobs.specs.declared.job.Job.{Job}
pub use Rattle.stab_args.specs.Asked.{EndsBy, IsJob, IsReported, RefusesOptions, TakesCommand, IsWritten, beyond_fault}
pub use Rattle.stab_args.specs.Coins.{IsFileEnd, StandsForCoins, coin_character, coin_text}
pub use Rattle.stab_args.specs.Options.{StoredNames, stabsim, most_seed, format_names, letter_names}
pub use Rattle.stab_args.specs.declared.words.Usage.{Usage}
pub use Rattle.stab_args.specs.declared.words.Usage.TheVariants.{Memory}
pub use Rattle.stab_args.specs.inner.Parts.{BeginsWithNoCoin, IsApp, IsOption, IsCommandName, IsOneOf}
