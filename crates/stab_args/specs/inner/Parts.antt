-- Parts: what the functions promise that build the commands for the command line reader, that take a command's name from it, and that read coins.
-- Source: this project's own.
use Rattle.std.specs.Prelude.{◌≡◌, ◌⊎◌, Bool, false, List, [], ◌∷◌, codes}
use Rattle.clap.specs.Words.{App, Rule, Text, app_of, rule_of, with_rule}
use Rattle.clap.specs.declared.builder.arg.Arg.{Arg}
use Rattle.clap.specs.declared.builder.command.Command.{Command}
use Rattle.clap.specs.declared.builder.command.Command.TheViews.{out-Command}
use Rattle.stab_args.specs.Coins.{coin_character}
use Rattle.stab_args.specs.Options.{common_options, file_options}

-- an argument is this option of one command
abbrev pub IsOption : Rule → Arg → Type 0
IsOption option arg = (rule_of arg ≡ option) × (arg.global ≡ false)

-- a command is this one, and no option of it is shared with its commands
abbrev pub IsApp : App → Command → Type 0
IsApp app command = (app_of command ≡ app) × ((out-Command command).has_globals ≡ false)

-- a command with these options after its own
abbrev pub with_rules : App → List Rule → App
with_rules app [] = app
with_rules app (option ∷ options) = with_rules (with_rule app option) options

-- a command with the options of every command
abbrev pub with_files : App → App
with_files app = with_rules app file_options

-- a command with the options of one that runs a circuit
abbrev pub with_common : App → App
with_common app = with_rules app common_options

-- characters begin with no coin's
abbrev pub BeginsWithNoCoin : Text → Type 0
BeginsWithNoCoin text = (coin : Bool) (rest : Text) → text ≡ coin_character coin ∷ rest → ⊥

-- a name is one of these
abbrev pub IsOneOf : List Text → Text → Type 0
IsOneOf [] name = ⊥
IsOneOf (first ∷ rest) name = (name ≡ first) ⊎ IsOneOf rest name

-- the names of the program's commands
abbrev pub command_names : List Text
command_names = codes "sample" ∷ codes "detect" ∷ codes "stabilisers" ∷ codes "edit" ∷ codes "check" ∷ codes "deterministic" ∷ codes "faults" ∷ codes "coins" ∷ codes "distance" ∷ codes "propagate" ∷ codes "propagate_each" ∷ []

-- a name is that of one of them
abbrev pub IsCommandName : Text → Type 0
IsCommandName = IsOneOf command_names
