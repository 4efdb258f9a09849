-- What is known of all that a line is read as.
use Rattle.stab_instructions.proofs.Names.{◌≡◌, ◌≢◌, ◌<◌, ◌≤◌, refl, sym, subst, ℕ, List, [], ◌∷◌, Bool, true, false, not, nat_lt, ◌==◌, ◌&&◌, ◌||◌, length, drop, take, Option, None, Some, Result, Ok, Err, if◌then◌else◌, arith, list_all, list_any, prefix_len, slice_split, take_while, nat_tests, Refusal, BadArguments, BadTarget, BadLine, most_qubits, most_observables, Axis, Factor, Control, ControlTarget, Instruction, Name, Blank, Close, Open, ◌>>=◌, each, Shape, is_byte, bracketed, after_tag, shaped, shape_of, starts_with_byte, ends_with_byte, has_byte, is_name_byte, is_letter, is_brace, may_follow, without_brace, words, is_blank, arguments_of, is_some_word, is_number, value, IsLookback, name_of, first_axis, unmarked, is_factor, factor_on, factor_of, names_twice, on_different, product_of, control_of, by_turns, pair_of, paired, controlled_of, qubit_of, measure_target_of, lookback_of, is_lookback, count_of, pairs_of, is_coordinate_byte, coordinate_of, number_of, observable_of, targets_alone, coordinates_of, kind_of, observable_include_of, only_count, opening_of, block_of, named_line, shape_meaning, is_close, meaning_of}
use Rattle.stab_instructions.specs.declared.control.Control.TheVariants as control
use Rattle.stab_instructions.specs.declared.control.ControlledPair.TheVariants as pair
use Rattle.stab_instructions.specs.declared.name.Instruction.TheVariants as instruction
use Rattle.stab_instructions.specs.declared.name.Name.TheVariants as name
use Rattle.stab_instructions.specs.declared.operation.Kind.TheVariants as kind
use Rattle.stab_instructions.specs.declared.operation.Line.TheVariants as line
use Rattle.stab_instructions.proofs.BoolLemmas.{and_left, and_right}
use Rattle.stab_instructions.proofs.WordLemmas.{eighteen_digits}
use Rattle.stab_instructions.proofs.TargetLemmas.{lookback_in_range, split_some}
pub use Rattle.stab_instructions.specs.Rules.{IsQubit, IsMeasured, IsCount, IsPair, IsFactor, IsFilled, IsProduct, IsControlled, IsCoordinate, IsObservable, IsGoodKind, IsTag, IsGoodLine}
use Rattle.stab_instructions.proofs.LackLemmas.{Each, Lacks, lacks_take, lacks_drop, lacks_before, lacks_tag}

-- if there is a result, it has P
abbrev OnOk' : {A : Type 0} → (A → Type 0) → Result A Refusal → Type 0
OnOk' P (Ok x) = P x
OnOk' P (Err r) = Unit {0}

pub record IsSure {A : Type 0} (P : A → Type 0) (x : Result A Refusal) : Type 0 where
  pub holds : OnOk' P x

sure_ok : {A : Type 0} (P : A → Type 0) (x : A) → P x → IsSure P (Ok x)
sure_ok P x p = record { holds = p }

sure_err : {A : Type 0} (P : A → Type 0) (r : Refusal) → IsSure P (Err r)
sure_err P r = record { holds = tt }

-- what is known of a result that is there
pub sure_of : {A : Type 0} (P : A → Type 0) (r : Result A Refusal) (x : A) → IsSure P r → r ≡ Ok x → P x
sure_of P (Ok y) x s e = let same : y ≡ x = cc in subst P same s.holds
sure_of P (Err r) x s e = cc

sure_bind : {A B : Type 0} (P : A → Type 0) (Q : B → Type 0) (x : Result A Refusal) (f : A → Result B Refusal) → IsSure P x → ((a : A) → P a → IsSure Q (f a)) → IsSure Q (x >>= f)
sure_bind P Q (Ok a) f s t = t a s.holds
sure_bind P Q (Err r) f s t = sure_err Q r

sure_if : {A : Type 0} (P : A → Type 0) (b : Bool) (x y : Result A Refusal) → (b ≡ true → IsSure P x) → (b ≡ false → IsSure P y) → IsSure P (if b then x else y)
sure_if P true x y s t = s refl
sure_if P false x y s t = t refl

guard_sure : {A : Type 0} (P : A → Type 0) (b : Bool) (x : Result A Refusal) (r : Refusal) → IsSure P x → IsSure P (if b then x else Err r)
guard_sure P true x r s = s
guard_sure P false x r s = sure_err P r

sure_each : {A X : Type 0} (P : X → Type 0) (f : A → Result X Refusal) → ((a : A) → IsSure P (f a)) → (as' : List A) → IsSure (Each P) (each f as')
sure_each P f s [] = sure_ok (Each P) [] tt
sure_each P f s (a ∷ more) =
    sure_bind P (Each P) (f a) (λ first. each f more >>= λ rest. Ok (first ∷ rest)) (s a)
    (λ first p. sure_bind (Each P) (Each P) (each f more) (λ rest. Ok (first ∷ rest)) (sure_each P f s more) (λ rest q. sure_ok (Each P) (first ∷ rest) (p, q)))

lt_of : (a b : ℕ) → nat_lt a b ≡ true → a < b
lt_of a b h = grind (arith, nat_tests)

qubit_sure : (word : List ℕ) → IsSure IsQubit (qubit_of word)
unfolding qubit_of
qubit_sure word =
    sure_if IsQubit (not (is_number word)) _ _ (λ e. sure_err IsQubit _)
    (λ e. sure_if IsQubit (nat_lt (value word) most_qubits) _ _ (λ h. sure_ok IsQubit (value word) (lt_of (value word) most_qubits h)) (λ h. sure_err IsQubit _))

measure_sure : (word : List ℕ) → IsSure IsMeasured (measure_target_of word)
unfolding measure_target_of
measure_sure word =
    sure_if IsMeasured (starts_with_byte word 33) _ _
    (λ e. sure_bind IsQubit IsMeasured (qubit_of (drop 1 word)) _ (qubit_sure (drop 1 word)) (λ q p. sure_ok IsMeasured _ p))
    (λ e. sure_bind IsQubit IsMeasured (qubit_of word) _ (qubit_sure word) (λ q p. sure_ok IsMeasured _ p))

lookback_sure : (word : List ℕ) → IsSure IsLookback (lookback_of word)
lookback_sure word = sure_case (lookback_of word) (lookback_in_range word)
  where
    sure_case : (r : Result ℕ Refusal) → ((k : ℕ) → r ≡ Ok k → IsLookback k) → IsSure IsLookback r
    sure_case (Ok k) h = sure_ok IsLookback k (h k refl)
    sure_case (Err r) h = sure_err IsLookback r

abbrev IsSomeCount : Option ℕ → Type 0
IsSomeCount None = Unit {0}
IsSomeCount (Some n) = IsCount n

count_sure : (word : List ℕ) → IsSure IsSomeCount (count_of word)
unfolding count_of
count_sure word =
    sure_if IsSomeCount (not (is_number word)) _ _ (λ e. sure_err IsSomeCount _)
    (λ e. sure_if IsSomeCount (nat_lt 18 (length word) || (value word == 0)) _ _ (λ h. sure_ok IsSomeCount None tt)
    (λ h. sure_ok IsSomeCount (Some (value word)) (count_range (is_number word) (nat_lt 18 (length word)) (value word == 0) refl refl refl e h)))
  where
    count_range : (a b d : Bool) → is_number word ≡ a → nat_lt 18 (length word) ≡ b → (value word == 0) ≡ d → not a ≡ false → (b || d) ≡ false → IsCount (value word)
    count_range true false false n l z e h =
        let few : length word ≤ 18 = grind (arith, nat_tests) in
        (grind (arith, nat_tests), eighteen_digits word n few)
    count_range false b d n l z e h = cc
    count_range true true d n l z e h = cc
    count_range true false true n l z e h = cc

differ : (a b : ℕ) → (a == b) ≡ false → a ≢ b
differ a b e = grind (arith, nat_tests)

pairs_sure : (qs : List ℕ) → Each IsQubit qs → IsSure (Each IsPair) (pairs_of qs)
pairs_sure [] f = sure_ok (Each IsPair) [] tt
pairs_sure (a ∷ []) f = sure_err (Each IsPair) _
pairs_sure (a ∷ b ∷ rest) f =
    sure_if (Each IsPair) (a == b) _ _ (λ e. sure_err (Each IsPair) _)
    (λ e. sure_bind (Each IsPair) (Each IsPair) (pairs_of rest) _ (pairs_sure rest f.1.1) (λ more p. sure_ok (Each IsPair) ((a, b) ∷ more) ((f.0, f.1.0, differ a b e), p)))

factor_on_sure : (inverted : Bool) (digits : List ℕ) (axis : Option Axis) → IsSure IsFactor (factor_on inverted digits axis)
factor_on_sure inverted digits None = sure_err IsFactor _
factor_on_sure inverted digits (Some axis) = sure_bind IsQubit IsFactor (qubit_of digits) _ (qubit_sure digits) (λ q p. sure_ok IsFactor _ p)

factor_sure : (word : List ℕ) → IsSure IsFactor (factor_of word)
unfolding factor_of
factor_sure word = factor_on_sure (starts_with_byte word 33) (drop 1 (unmarked word)) (first_axis (unmarked word))

abbrev AreFactors : List Factor → Type 0
AreFactors fs = Each IsFactor fs × IsFilled fs

each_factor_sure : (first : List ℕ) (more : List (List ℕ)) → IsSure AreFactors (each factor_of (first ∷ more))
each_factor_sure first more =
    sure_bind IsFactor AreFactors (factor_of first) (λ f. each factor_of more >>= λ rest. Ok (f ∷ rest)) (factor_sure first)
    (λ f p. sure_bind (Each IsFactor) AreFactors (each factor_of more) (λ rest. Ok (f ∷ rest)) (sure_each IsFactor factor_of factor_sure more) (λ rest q. sure_ok AreFactors (f ∷ rest) ((p, q), tt)))

different_sure : (fs : List Factor) → AreFactors fs → IsSure IsProduct (on_different fs)
different_sure fs p = sure_if IsProduct (names_twice fs) _ _ (λ e. sure_err IsProduct _) (λ e. sure_ok IsProduct fs (p.0, e, p.1))

product_sure : (word : List ℕ) → IsSure IsProduct (product_of word)
unfolding product_of
product_sure word =
    let pieces = slice_split (is_byte 42) word in
    let some = split_some (is_byte 42) word in
    guard_sure IsProduct (list_all is_factor pieces) (each factor_of pieces >>= on_different) BadTarget
    (sure_bind AreFactors IsProduct (each factor_of pieces) on_different (subst (λ l. IsSure AreFactors (each factor_of l)) (sym some.2) (each_factor_sure some.0 some.1)) different_sure)

-- controls, and pairs of one and a qubit
abbrev pub IsControl : Control → Type 0
IsControl (control.Qubit q) = IsQubit q
IsControl (control.Record k) = IsLookback k

control_sure : (word : List ℕ) → IsSure IsControl (control_of word)
unfolding control_of
control_sure word =
    sure_if IsControl (is_lookback word) _ _
    (λ e. sure_bind IsLookback IsControl (lookback_of word) _ (lookback_sure word) (λ k p. sure_ok IsControl (control.Record k) p))
    (λ e. sure_bind IsQubit IsControl (qubit_of word) _ (qubit_sure word) (λ q p. sure_ok IsControl (control.Qubit q) p))

abbrev pub IsTurn : ControlTarget → Type 0
IsTurn t = IsControl t.control × IsQubit t.qubit

turns_sure : (ws : List (List ℕ)) → IsSure (Each IsTurn) (by_turns ws)
turns_sure [] = sure_ok (Each IsTurn) [] tt
turns_sure (a ∷ []) = sure_bind IsControl (Each IsTurn) (control_of a) _ (control_sure a) (λ c p. sure_err (Each IsTurn) _)
turns_sure (a ∷ b ∷ rest) =
    sure_bind IsControl (Each IsTurn) (control_of a) _ (control_sure a)
    (λ c p. sure_bind IsQubit (Each IsTurn) (qubit_of b) _ (qubit_sure b)
    (λ q r. sure_bind (Each IsTurn) (Each IsTurn) (by_turns rest) _ (turns_sure rest) (λ more s. sure_ok (Each IsTurn) (record { control = c; qubit = q } ∷ more) ((p, r), s))))

pair_sure : (c : Control) (q : ℕ) → IsControl c → IsQubit q → IsSure IsControlled (pair_of c q)
pair_sure (control.Qubit a) q p r = sure_if IsControlled (a == q) _ _ (λ e. sure_err IsControlled _) (λ e. sure_ok IsControlled (pair.Qubits (a, q)) (p, r, differ a q e))
pair_sure (control.Record k) q p r = sure_ok IsControlled (pair.Record q k) (p, r)

sure_each_of : {A X : Type 0} (P : A → Type 0) (Q : X → Type 0) (f : A → Result X Refusal) → ((a : A) → P a → IsSure Q (f a)) → (as' : List A) → Each P as' → IsSure (Each Q) (each f as')
sure_each_of P Q f s [] e = sure_ok (Each Q) [] tt
sure_each_of P Q f s (a ∷ more) e =
    sure_bind Q (Each Q) (f a) (λ first. each f more >>= λ rest. Ok (first ∷ rest)) (s a e.0)
    (λ first p. sure_bind (Each Q) (Each Q) (each f more) (λ rest. Ok (first ∷ rest)) (sure_each_of P Q f s more e.1) (λ rest q. sure_ok (Each Q) (first ∷ rest) (p, q)))

controlled_sure : (ws : List (List ℕ)) → IsSure (Each IsControlled) (controlled_of ws)
controlled_sure ws =
    sure_bind (Each IsTurn) (Each IsControlled) (by_turns ws) (each paired) (turns_sure ws)
    (λ ts p. sure_each_of IsTurn IsControlled paired (λ t q. pair_sure t.control t.qubit q.0 q.1) ts p)

coordinate_sure : (argument : List ℕ) → IsSure IsCoordinate (coordinate_of argument)
unfolding coordinate_of
coordinate_sure argument =
    sure_if IsCoordinate (is_some_word argument && list_all is_coordinate_byte argument) _ _
    (λ e. sure_ok IsCoordinate argument (and_left (is_some_word argument) (list_all is_coordinate_byte argument) e, and_right (is_some_word argument) (list_all is_coordinate_byte argument) e))
    (λ e. sure_err IsCoordinate _)

observable_sure : (digits : List ℕ) → IsSure IsObservable (observable_of digits)
unfolding observable_of
observable_sure digits = sure_if IsObservable (nat_lt (value digits) most_observables) _ _ (λ e. sure_ok IsObservable (value digits) (lt_of (value digits) most_observables e)) (λ e. sure_err IsObservable _)

abbrev Anything : {A : Type 0} → A → Type 0
Anything x = Unit {0}

sure_any : {A : Type 0} (x : Result A Refusal) → IsSure Anything x
sure_any (Ok a) = sure_ok Anything a tt
sure_any (Err r) = sure_err Anything r

alone_sure : {X : Type 0} (P : X → Type 0) (target : List ℕ → Result X Refusal) (s : Shape) → ((word : List ℕ) → IsSure P (target word)) → IsSure (Each P) (targets_alone target s)
alone_sure P target s h = sure_if (Each P) _ _ _ (λ e. sure_each P target h (words s.targets)) (λ e. sure_err (Each P) _)

coordinates_sure : (s : Shape) → IsSure (Each IsCoordinate) (coordinates_of s)
coordinates_sure s = sure_each IsCoordinate coordinate_of coordinate_sure (arguments_of s.arguments)

lookbacks_sure : (s : Shape) → IsSure (Each IsLookback) (each lookback_of (words s.targets))
lookbacks_sure s = sure_each IsLookback lookback_of lookback_sure (words s.targets)

include_sure : (s : Shape) → IsSure IsGoodKind (observable_include_of s)
unfolding observable_include_of
include_sure s =
    sure_bind Anything IsGoodKind (number_of (arguments_of s.arguments)) _ (sure_any (number_of (arguments_of s.arguments)))
    (λ digits t. sure_bind (Each IsLookback) IsGoodKind (each lookback_of (words s.targets)) _ (lookbacks_sure s)
    (λ ks p. sure_bind IsObservable IsGoodKind _ _ (sure_if IsObservable s.opens _ _ (λ e. sure_err IsObservable _) (λ e. observable_sure digits))
    (λ j q. sure_ok IsGoodKind (kind.ObservableInclude j ks) (q, p))))

kind_sure : (i : Instruction) (s : Shape) → IsSure IsGoodKind (kind_of i s)
unfolding kind_of
kind_sure (instruction.Gate g) s = sure_bind (Each IsQubit) IsGoodKind _ _ (alone_sure IsQubit qubit_of s qubit_sure) (λ qs p. sure_ok IsGoodKind (kind.Gate g qs) p)
kind_sure (instruction.Controlled axis) s =
    sure_bind (Each IsControlled) IsGoodKind _ _ (guard_sure (Each IsControlled) (is_blank s.arguments) (controlled_of (words s.targets)) BadArguments (controlled_sure (words s.targets)))
    (λ ps p. sure_ok IsGoodKind (kind.Controlled axis ps) p)
kind_sure instruction.Swap s =
    sure_bind (Each IsQubit) IsGoodKind _ _ (alone_sure IsQubit qubit_of s qubit_sure)
    (λ qs p. sure_bind (Each IsPair) IsGoodKind (pairs_of qs) _ (pairs_sure qs p) (λ ps q. sure_ok IsGoodKind (kind.Swap ps) q))
kind_sure (instruction.Measure m) s = sure_bind (Each IsMeasured) IsGoodKind _ _ (alone_sure IsMeasured measure_target_of s measure_sure) (λ ts p. sure_ok IsGoodKind (kind.Measure m ts) p)
kind_sure (instruction.Reset axis) s = sure_bind (Each IsQubit) IsGoodKind _ _ (alone_sure IsQubit qubit_of s qubit_sure) (λ qs p. sure_ok IsGoodKind (kind.Reset axis qs) p)
kind_sure instruction.MeasureProducts s = sure_bind (Each IsProduct) IsGoodKind _ _ (alone_sure IsProduct product_of s product_sure) (λ ps p. sure_ok IsGoodKind (kind.MeasureProducts ps) p)
kind_sure instruction.Detector s =
    sure_bind (Each IsCoordinate) IsGoodKind (coordinates_of s) _ (coordinates_sure s)
    (λ cs p. sure_bind (Each IsLookback) IsGoodKind (each lookback_of (words s.targets)) _ (lookbacks_sure s) (λ ks q. sure_ok IsGoodKind (kind.Detector (cs, ks)) (p, q)))
kind_sure instruction.ObservableInclude s = include_sure s
kind_sure instruction.Tick s = guard_sure IsGoodKind (is_blank s.arguments) _ BadArguments (guard_sure IsGoodKind (is_blank s.targets) (Ok kind.Tick) BadTarget (sure_ok IsGoodKind kind.Tick tt))
kind_sure instruction.QubitCoords s =
    sure_bind (Each IsCoordinate) IsGoodKind (coordinates_of s) _ (coordinates_sure s)
    (λ cs p. sure_bind (Each IsQubit) IsGoodKind (each qubit_of (words s.targets)) _ (sure_each IsQubit qubit_of qubit_sure (words s.targets)) (λ qs q. sure_ok IsGoodKind (kind.QubitCoords (cs, qs)) (p, q)))
kind_sure instruction.ShiftCoords s =
    sure_bind (Each IsCoordinate) IsGoodKind (coordinates_of s) _ (coordinates_sure s)
    (λ cs p. guard_sure IsGoodKind (is_blank s.targets) (Ok (kind.ShiftCoords cs)) BadTarget (sure_ok IsGoodKind (kind.ShiftCoords cs) p))

-- the parts of a text have the text's bytes alone
abbrev IsCutAt : ℕ → List ℕ → List ℕ × List ℕ → Type 0
IsCutAt closing bs p = Lacks (is_byte closing) p.0 × ((q : ℕ → Bool) → Lacks q bs → Lacks q p.0 × Lacks q p.1)

bracketed_sure : (opening closing : ℕ) (bs : List ℕ) → IsSure (IsCutAt closing bs) (bracketed opening closing bs)
unfolding bracketed
bracketed_sure opening closing bs =
    sure_if (IsCutAt closing bs) (starts_with_byte bs opening) _ _
    (λ e. sure_if (IsCutAt closing bs) (has_byte closing (drop 1 bs)) _ _
    (λ f. sure_ok (IsCutAt closing bs) _ (lacks_before (is_byte closing) (drop 1 bs), λ q h. (lacks_take q _ (drop 1 bs) (lacks_drop q 1 bs h), lacks_drop q _ (drop 1 bs) (lacks_drop q 1 bs h))))
    (λ f. sure_err (IsCutAt closing bs) _))
    (λ e. sure_ok (IsCutAt closing bs) ([], bs) (tt, λ q h. (tt, h)))

abbrev HasTag : Shape → Type 0
HasTag s = IsTag s.tag

shaped_sure : (content tag : List ℕ) (arguments : List ℕ × List ℕ) → IsTag tag → IsSure HasTag (shaped content tag arguments)
shaped_sure content tag arguments t =
    guard_sure HasTag (list_any is_letter (take 1 content) && may_follow arguments.1 && not (list_any is_brace arguments.0) && not (list_any is_brace (without_brace arguments.1)))
    (Ok (record { name = take_while is_name_byte content; tag = tag; arguments = arguments.0; targets = without_brace arguments.1; opens = ends_with_byte arguments.1 123 }))
    BadLine (sure_ok HasTag _ t)

shape_sure : (content : List ℕ) → Lacks (is_byte 10) content → Lacks (is_byte 35) content → IsSure HasTag (shape_of content)
unfolding shape_of
shape_sure content f g =
    let rest = drop (prefix_len is_name_byte content) content in
    sure_bind (IsCutAt 93 rest) HasTag (bracketed 91 93 rest) (after_tag content) (bracketed_sure 91 93 rest)
    (λ tag p. sure_bind (IsCutAt 41 tag.1) HasTag (bracketed 40 41 tag.1) (shaped content tag.0) (bracketed_sure 40 41 tag.1)
    (λ arguments q. shaped_sure content tag.0 arguments (lacks_tag tag.0 (p.1 (is_byte 10) (lacks_drop (is_byte 10) _ content f)).0 (p.1 (is_byte 35) (lacks_drop (is_byte 35) _ content g)).0 p.0)))

only_sure : (counts : List (Option ℕ)) → Each IsSomeCount counts → IsSomeCount (only_count counts)
only_sure [] f = tt
only_sure (c ∷ []) f = f.0
only_sure (c ∷ d ∷ more) f = tt

opened_sure : (s : Shape) (o : Option ℕ) → HasTag s → IsSomeCount o → IsSure IsGoodLine (opening_of s o)
opened_sure s (Some n) t c = sure_if IsGoodLine s.opens _ _ (λ e. sure_ok IsGoodLine (Open n s.tag) (c, t)) (λ e. sure_err IsGoodLine _)
opened_sure s None t c = sure_err IsGoodLine _

line_sure : (s : Shape) (n : Name) → HasTag s → IsSure IsGoodLine (named_line s n)
unfolding named_line block_of
line_sure s name.Repeat t =
    sure_bind (Each IsSomeCount) IsGoodLine (targets_alone count_of s) _ (alone_sure IsSomeCount count_of s count_sure)
    (λ counts p. opened_sure s (only_count counts) t (only_sure counts p))
line_sure s (name.Instruction i) t =
    sure_bind IsGoodKind IsGoodLine (kind_of i s) _ (kind_sure i s)
    (λ k p. sure_if IsGoodLine s.opens _ _ (λ e. sure_err IsGoodLine _) (λ e. sure_ok IsGoodLine (line.Operation (record { kind = k; tag = s.tag })) (p, t)))

pub meaning_sure : (content : List ℕ) → Lacks (is_byte 10) content → Lacks (is_byte 35) content → IsSure IsGoodLine (meaning_of content)
unfolding meaning_of
meaning_sure content f g =
    sure_if IsGoodLine (length content == 0) _ _ (λ e. sure_ok IsGoodLine Blank tt)
    (λ e. sure_if IsGoodLine (is_close content) _ _ (λ h. sure_ok IsGoodLine Close tt)
    (λ h. sure_bind HasTag IsGoodLine (shape_of content) shape_meaning (shape_sure content f g)
    (λ s t. sure_bind Anything IsGoodLine (name_of s.name) (named_line s) (sure_any (name_of s.name)) (λ n u. line_sure s n t))))
