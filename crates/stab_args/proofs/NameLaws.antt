-- Names of commands: if the reader finds no fault, the command that the words name is one of the program's own, and not `help`.
use Rattle.stab_args.proofs.Names.{⊤, ◌≡◌, refl, sym, ap, ◌∙◌, ℕ, Bool, true, false, ◌&&◌, ◌||◌, not, ◌⊎◌, inl, inr, List, [], ◌∷◌, map, find, fold, Option, Some, None, IfSome, option_map, codes, is_some, if◌then◌else◌, bytes_eq, bytes_eq-Decides, long_of, short_of, ErrorKind, Kinds, or_else, App, Row, Rule, Shape, Text, subcommand_of, Held, Names, Outcome, Step, Waiting, Walk, after_flag, after_step, answers_to, bundle, arg_by_index, arg_by_long, long_met, long_or_other, nothing_held, option, idle, positional, next, trailing, subcommand, value, done, waits, plain, refused, plain_word, short_or_plain, subcommand_met, subcommand_or_other, to_positional, walk, walk_from, walked, walked_from, word_met, argument_words, built, entered, label_of, names_of, rows_at, fault_of, other_fault, turn_fault, walk_fault, word_fault, StoredNames, stabsim, IsCommandName, IsOneOf}

-- no command was met, or one that is not `help`
abbrev pub IsNoHelp : Option (Text × List Text) → Type 0
IsNoHelp stop = IfSome stop (λ p. bytes_eq p.0 (codes "help") ≡ false)

-- a step that meets no command
abbrev pub MeetsNone : Step → Type 0
MeetsNone (next waiting) = ⊤
MeetsNone (trailing place) = ⊤
MeetsNone (subcommand name) = ⊥
MeetsNone value = ⊤

-- a word for a positional meets no command
taken : (c : List Rule) (a : Option Rule) (word : Text) (w : Walk) (h : Held) → IsNoHelp w.stopped → IsNoHelp (to_positional c a word w h).stopped
taken c None word w h preserved = preserved
taken c (Some a) word w h preserved = tt

stepped : (c : List Rule) (word : Text) (w : Walk) (h : Held) (s : Step) → MeetsNone s → IsNoHelp w.stopped → IsNoHelp (after_step c word w h s).stopped
stepped c word w h (next waiting) none preserved = preserved
stepped c word w h (trailing place) none preserved = preserved
stepped c word w h (subcommand name) none preserved = absurd none
stepped c word w h value none preserved = taken c (arg_by_index c w.position) word w h preserved

plain_meets_none : (c : List Rule) (waiting : Waiting) (word : Text) (h : Held) → MeetsNone (plain_word c waiting word h).1
plain_meets_none c idle word h = tt
plain_meets_none c (option id) word h = tt
plain_meets_none c positional word h = tt

flag_meets_none : (c : List Rule) (waiting : Waiting) (word : Text) (h : Held) (o : Outcome) → MeetsNone (after_flag c waiting word h o).1
flag_meets_none c waiting word h done = tt
flag_meets_none c waiting word h (waits id) = tt
flag_meets_none c waiting word h plain = plain_meets_none c waiting word h
flag_meets_none c waiting word h refused = plain_meets_none c waiting word h

short_meets_none : (c : List Rule) (waiting : Waiting) (word : Text) (flags : Option Text) (h : Held) → MeetsNone (short_or_plain c waiting word flags h).1
short_meets_none c waiting word None h = plain_meets_none c waiting word h
short_meets_none c waiting word (Some flags) h = flag_meets_none c waiting word (bundle c flags h).0 (bundle c flags h).1

long_meets_none : (c : List Rule) (waiting : Waiting) (word : Text) (found : Option (Text × Option Text)) (h : Held) → MeetsNone (long_or_other c waiting word found h).1
long_meets_none c waiting word None h = short_meets_none c waiting word (short_of word) h
long_meets_none c waiting word (Some p) h = flag_meets_none c waiting word (long_met c (arg_by_long c p.0) p.1 h).0 (long_met c (arg_by_long c p.0) p.1 h).1

-- a word that ends the options, or is no command's name
chosen : (c : List Rule) (word : Text) (h : Held) (r : Held × Step) (b : Bool) (place : ℕ) (w : Walk) → MeetsNone r.1 → IsNoHelp w.stopped
    → IsNoHelp (after_step c word w (if b then (h, trailing place) else r).0 (if b then (h, trailing place) else r).1).stopped
chosen c word h r true place w none preserved = preserved
chosen c word h r false place w none preserved = stepped c word w r.0 r.1 none preserved

-- a name without a fault is not `help`
faultless_name : (b d : Bool) (kinds : Kinds) (k : ErrorKind) → d ≡ false → (if b && not d then k ∷ kinds else []) ≡ [] → b ≡ false
faultless_name true true kinds k allowed faultless = cc
faultless_name true false kinds k allowed faultless = cc
faultless_name false d kinds k allowed faultless = refl

-- a word if no value is waited for
named : (s : Shape) (waiting : Waiting) (place : ℕ) (word : Text) (h : Held) (w : Walk) (m : Option Text) → s.disable_help_subcommand ≡ false → other_fault s m word h ≡ [] → IsNoHelp w.stopped
    → IsNoHelp (after_step s.rules word w (subcommand_or_other s.rules m waiting place word h).0 (subcommand_or_other s.rules m waiting place word h).1).stopped
named s waiting place word h w (Some name) allowed faultless preserved = faultless_name (bytes_eq name (codes "help")) s.disable_help_subcommand _ _ allowed faultless
named s waiting place word h w None allowed faultless preserved =
    chosen s.rules word h (long_or_other s.rules waiting word (long_of word) h) (bytes_eq word (45 ∷ 45 ∷ [])) place w (long_meets_none s.rules waiting word (long_of word) h) preserved

-- any word
met : (s : Shape) (names : Names) (waiting : Waiting) (place : ℕ) (word : Text) (h : Held) (w : Walk) (b : Bool) → s.disable_help_subcommand ≡ false → word_fault s names b waiting word h ≡ [] → IsNoHelp w.stopped
    → IsNoHelp (after_step s.rules word w (word_met s.rules names b waiting place word h).0 (word_met s.rules names b waiting place word h).1).stopped
met s names waiting place word h w true allowed faultless preserved = stepped s.rules word w h value tt preserved
met s names waiting place word h w false allowed faultless preserved = named s waiting place word h w (subcommand_met names waiting word) allowed faultless preserved

-- what fails first of two that do not fail
neither : (first second : Kinds) → or_else first second ≡ [] → (first ≡ []) × (second ≡ [])
neither [] second e = (refl, e)
neither (k ∷ ks) second e = cc

-- one turn of the walk
negated : (s : Shape) (names : Names) (w : Walk) (word : Text) (stop : Option (Text × List Text)) (rest : Kinds) → s.disable_help_subcommand ≡ false
    → (if is_some stop then [] else or_else (word_fault s names w.is_trailing w.waiting word w.held) rest) ≡ [] → IsNoHelp stop → IsNoHelp w.stopped
    → IsNoHelp (walked_from s.rules names stop w word).stopped
negated s names w word (Some p) rest allowed faultless preserved before = preserved
negated s names w word None rest allowed faultless preserved before =
    met s names w.waiting w.position word w.held w w.is_trailing allowed (neither (word_fault s names w.is_trailing w.waiting word w.held) rest faultless).0 before

-- one word of the walk
walked_on : (s : Shape) (names : Names) (w : Walk) (word : Text) → s.disable_help_subcommand ≡ false → turn_fault s names w word ≡ [] → IsNoHelp w.stopped → IsNoHelp (walked s.rules names w word).stopped
unfolding walked
walked_on s names w word allowed faultless preserved = negated s names w word w.stopped _ allowed faultless preserved preserved

-- the whole walk
walks : (s : Shape) (names : Names) (w : Walk) (words : List Text) → s.disable_help_subcommand ≡ false → walk_fault s names w words ≡ [] → IsNoHelp w.stopped
    → IsNoHelp (fold (walked s.rules names) w words).stopped
unfolding walk_fault
walks s names w [] allowed faultless preserved = preserved
walks s names w (word ∷ rest) allowed faultless preserved =
    let both = neither (turn_fault s names w word) (walk_fault s names (walked s.rules names w word) rest) faultless in
    walks s names (walked s.rules names w word) rest allowed both.1 (walked_on s names w word allowed both.0 preserved)

-- the label of a command that was found
labelled : (p : Text) (rest : List Text) (subs : List Shape) (name : Text) (options : List Row) → option_map (λ s. rows_at s rest) (find (λ s. answers_to p (label_of s)) subs) ≡ Some (name, options)
    → option_map (λ l. l.0) (find (answers_to p) (map label_of subs)) ≡ Some name
labelled p rest [] name options e = cc
labelled p rest (s ∷ ss) name options e = this (answers_to p (label_of s)) (labelled p rest ss name options) e
  where
    this : (b : Bool) → (option_map (λ t. rows_at t rest) (find (λ t. answers_to p (label_of t)) ss) ≡ Some (name, options) → option_map (λ l. l.0) (find (answers_to p) (map label_of ss)) ≡ Some name)
        → option_map (λ t. rows_at t rest) (if b then Some s else find (λ t. answers_to p (label_of t)) ss) ≡ Some (name, options)
        → option_map (λ l. l.0) (if b then Some (label_of s) else find (answers_to p) (map label_of ss)) ≡ Some name
    this true later e = let found : rows_at s rest ≡ (name, options) = cc in ap (λ p. Some p.0) found
    this false later e = later e

-- the labels of commands and of `help`
abbrev pub labels : Names → Names
labels [] = (codes "help", []) ∷ []
labels (label ∷ rest) = label ∷ labels rest

-- the names of labels
abbrev pub label_names : Names → List Text
label_names = map (λ l. l.0)

-- one of the commands was found, if it is not `help`
one_of_them : (own : Names) (p name : Text) → answers_to p (codes "help", []) ≡ false → option_map (λ (l : Text × List Text). l.0) (find (answers_to p) (labels own)) ≡ Some name
    → IsOneOf (label_names own) name
one_of_them [] p name off e = this (answers_to p (codes "help", [])) off e
  where
    this : (b : Bool) → b ≡ false → option_map (λ (l : Text × List Text). l.0) (if b then Some (codes "help", []) else None) ≡ Some name → ⊥
    this true off e = cc
    this false off e = cc
one_of_them (first ∷ rest) p name off e = this (answers_to p first) (one_of_them rest p name off) e
  where
    this : (b : Bool) → (option_map (λ (l : Text × List Text). l.0) (find (answers_to p) (labels rest)) ≡ Some name → IsOneOf (label_names rest) name)
        → option_map (λ (l : Text × List Text). l.0) (if b then Some first else find (answers_to p) (labels rest)) ≡ Some name → (name ≡ first.0) ⊎ IsOneOf (label_names rest) name
    this true later e = let is : name ≡ first.0 = cc in inl is
    this false later e = inr (later e)

-- `help` does not answer to another word
no_help : (p : Text) (b : Bool) → bytes_eq (codes "help") p ≡ b → bytes_eq p (codes "help") ≡ false → b ≡ false
no_help p true is other = let same : codes "help" ≡ p = (bytes_eq-Decides (codes "help") p).0 is in let yes : bytes_eq p (codes "help") ≡ true = (bytes_eq-Decides p (codes "help")).1 (sym same) in cc
no_help p false is other = refl

-- the name of the command that was entered
entered_name : (own : Names) (a : App) (stop : Option (Text × List Text)) (name : Text) (options : List Row) → names_of a ≡ labels own → entered a stop ≡ Some (name, options) → IsNoHelp stop
    → IsOneOf (label_names own) name
entered_name own a None name options are e other = cc
entered_name own a (Some p) name options are e other =
    let found = labelled p.0 p.1 a.subs name options e in
    let among : option_map (λ l. l.0) (find (answers_to p.0) (labels own)) ≡ Some name = ap (λ l. option_map (λ x. x.0) (find (answers_to p.0) l)) (sym are) ∙ found in
    let not_it : answers_to p.0 (codes "help", []) ≡ false = ap (λ b. b || false) (no_help p.0 (bytes_eq (codes "help") p.0) refl other) in
    one_of_them own p.0 name not_it among

-- the commands as the reader finds them, one of them by two names
abbrev own_labels : Names
own_labels = (codes "sample", []) ∷ (codes "detect", []) ∷ (codes "stabilisers", codes "stabilizers" ∷ []) ∷ (codes "edit", []) ∷ (codes "check", []) ∷ (codes "deterministic", []) ∷ (codes "faults", []) ∷ (codes "coins", []) ∷ (codes "distance", []) ∷ (codes "propagate", []) ∷ (codes "propagate_each", []) ∷ []

-- If the reader finds no fault, the command that the words name is one of the program's own.
pub own_name : (preserved : StoredNames) (words : List Text) (name : Text) (options : List Row) → fault_of (stabsim preserved) words ≡ [] → subcommand_of (stabsim preserved) words ≡ Some (name, options)
    → IsCommandName name
own_name preserved words name options faultless named =
    let app = built (stabsim preserved) in
    let given = argument_words (stabsim preserved) words in
    let start = walk_from nothing_held in
    let walk_faultless = (neither (walk_fault app.top (names_of app) start given) _ faultless).0 in
    let other = walks app.top (names_of app) start given refl walk_faultless tt in
    entered_name own_labels app (walk app.top.rules (names_of app) nothing_held given).stopped name options refl named other
