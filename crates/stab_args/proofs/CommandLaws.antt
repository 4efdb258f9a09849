-- Commands of the command line reader, built option by option.
use Rattle.stab_args.proofs.Names.{◌≡◌, ◌∙◌, ◌||◌, refl, ap, ap₂, Bor, AddsAliases, AddsArg, AddsCommandAliases, AddsSubcommand, App, Rule, Text, with_rule, with_subcommand, app_of_fields, on_top, rule_of, Arg, Command, out-Command, IsApp, IsOption}
use Rattle.std.specs.Prelude.{Bool, false, List, [], ◌∷◌, ◌++◌, map}

-- a command with one option more
pub with_option : (old new : Command) (arg : Arg) (app : App) (option : Rule) → AddsArg old arg new → IsOption option arg → IsApp app old → IsApp (with_rule app option) new
with_option old new arg app option adds is before =
    (adds.shape is.1 ∙ ap₂ with_rule before.0 is.0, adds.globals ∙ ap₂ (λ a b. a || b) before.1 is.1)

-- a command with one command more
pub with_command : (old new sub : Command) (app inner : App) → AddsSubcommand old sub new → IsApp inner sub → IsApp app old → IsApp (with_subcommand app inner.top) new
with_command old new sub app inner adds is before =
    (adds.shape is.1 ∙ ap₂ with_subcommand before.0 (ap (λ a. a.top) is.0), adds.globals ∙ ap₂ (λ a b. a || b) before.1 is.1)

-- the names of a command or an option that had none
aliased : (names : List (Bor Text × Bool)) (name : Bor Text) → map (λ n. n.0.now) names ≡ [] → map (λ n. n.0.now) (names ++ (name, false) ∷ []) ≡ name.now ∷ []
aliased [] name e = refl
aliased (first ∷ names) name e = cc

-- a command with another name
pub with_alias : (old new : Command) (name : Bor Text) (app : App) → app.top.aliases ≡ [] → AddsCommandAliases old new ((name, false) ∷ []) → IsApp app old
    → IsApp (on_top (λ s. record s { aliases = name.now ∷ [] }) app) new
with_alias old new name app bare adds before =
    let texts : map (λ n. n.0.now) (out-Command new).aliases.items ≡ name.now ∷ [] =
    ap (map (λ n. n.0.now)) adds.1 ∙ aliased (out-Command old).aliases.items name (ap (λ a. a.top.aliases) before.0 ∙ bare) in (
      ap app_of_fields adds.0 ∙ (ap (λ names. on_top (λ s. record s { aliases = names }) (app_of_fields (out-Command old))) texts
          ∙ ap (on_top (λ s. record s { aliases = name.now ∷ [] })) before.0),
      ap (λ fields. fields.has_globals) adds.0 ∙ before.1,
    )

-- an option with these other names
abbrev pub also_named : List Text → Rule → Rule
also_named names option = record option { aliases = names }

-- an option with another name
pub with_arg_alias : (old new : Arg) (name : Bor Text) (option : Rule) → option.aliases ≡ [] → AddsAliases old new ((name, false) ∷ []) → IsOption option old
    → IsOption (also_named (name.now ∷ []) option) new
with_arg_alias old new name option bare adds is =
    let texts : map (λ n. n.0.now) new.aliases.items ≡ name.now ∷ [] =
    ap (map (λ n. n.0.now)) adds.1 ∙ aliased old.aliases.items name (ap (λ r. r.aliases) is.0 ∙ bare) in (
      ap rule_of adds.0 ∙ (ap (λ names. also_named names (rule_of old)) texts ∙ ap (also_named (name.now ∷ [])) is.0),
      ap (λ a. a.global) adds.0 ∙ is.1,
    )
