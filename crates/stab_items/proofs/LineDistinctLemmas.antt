-- Items that lines stand for keep the rules of lines. So the two qubits of each pair differ in their steps, and so do those of each product.
use Rattle.stab_items.proofs.Names.{◌≡◌, refl, sym, ℕ, zero, suc, List, [], ◌∷◌, ◌++◌, map, All, Ok, Err, All-nil, All-cons, All-append, All-head, All-tail, Axis, ControlledPair, Kind, Close, content_of, meaning_of, IsLine, Each, IsQubit, IsMeasured, IsPair, IsControlled, IsProduct, IsGoodKind, IsGoodLine, line_good, Items, AreGood, done, next, block, Meaning, Joins, nothing, blank_line, operation_line, block_lines, line_meanings, Step, controlled_step, steps_of, rounds, unroll, HasDistinctQubits}
use Rattle.stab_instructions.specs.declared.control.ControlledPair.TheVariants as pair
use Rattle.stab_instructions.specs.declared.operation.Kind.TheVariants as kind

-- each of two lists, put together
pub each_left : {A : Type 0} (P : A → Type 0) (xs ys : List A) → Each P (xs ++ ys) → Each P xs
each_left P [] ys e = tt
each_left P (x ∷ xs) ys e = (e.0, each_left P xs ys e.1)

pub each_right : {A : Type 0} (P : A → Type 0) (xs ys : List A) → Each P (xs ++ ys) → Each P ys
each_right P [] ys e = e
each_right P (x ∷ xs) ys e = each_right P xs ys e.1

-- one step for each element of a list
distinct_each : {A : Type 0} (P : A → Type 0) (f : A → Step) → ((x : A) → P x → HasDistinctQubits (f x)) → (xs : List A) → Each P xs → All HasDistinctQubits (map f xs)
distinct_each P f h [] e = All-nil HasDistinctQubits
distinct_each P f h (x ∷ xs) e = All-cons HasDistinctQubits (f x) (map f xs) (h x e.0) (distinct_each P f h xs e.1)

distinct_pair : (axis : Axis) (p : ControlledPair) → IsControlled p → HasDistinctQubits (controlled_step axis p)
distinct_pair axis (pair.Qubits p) e = λ same. e.2 (sym same)
distinct_pair axis (pair.Record q k) e = tt

-- one instruction
distinct_kind : (k : Kind) → IsGoodKind k → All HasDistinctQubits (steps_of k)
distinct_kind (kind.Gate g qubits) e = distinct_each IsQubit _ (λ q p. tt) qubits e
distinct_kind (kind.Controlled axis pairs) e = distinct_each IsControlled (controlled_step axis) (distinct_pair axis) pairs e
distinct_kind (kind.Swap pairs) e = distinct_each IsPair _ (λ p differ same. differ.2 (sym same)) pairs e
distinct_kind (kind.Measure m targets) e = distinct_each IsMeasured _ (λ t p. tt) targets e
distinct_kind (kind.Reset axis qubits) e = distinct_each IsQubit _ (λ q p. tt) qubits e
distinct_kind (kind.MeasureProducts products) e = distinct_each IsProduct _ (λ fs p. p.1) products e
distinct_kind (kind.Detector located) e = All-cons HasDistinctQubits _ [] tt (All-nil HasDistinctQubits)
distinct_kind (kind.ObservableInclude j ks) e = All-cons HasDistinctQubits _ [] tt (All-nil HasDistinctQubits)
distinct_kind kind.Tick e = All-nil HasDistinctQubits
distinct_kind (kind.QubitCoords located) e = All-nil HasDistinctQubits
distinct_kind (kind.ShiftCoords coordinates) e = All-nil HasDistinctQubits

distinct_rounds : (n : ℕ) (ss : List Step) → All HasDistinctQubits ss → All HasDistinctQubits (rounds n ss)
distinct_rounds zero ss a = All-nil HasDistinctQubits
distinct_rounds (suc n) ss a = All-append HasDistinctQubits ss (rounds n ss) a (distinct_rounds n ss a)

-- the steps of items that keep the rules
pub good_distinct : (xs : Items) → AreGood xs → All HasDistinctQubits (unroll xs)
good_distinct done g = All-nil HasDistinctQubits
good_distinct (next op rest) g = All-append HasDistinctQubits (steps_of op.kind) (unroll rest) (distinct_kind op.kind g.0.0) (good_distinct rest g.1)
good_distinct (block count tag body rest) g =
    All-append HasDistinctQubits (rounds count (unroll body)) (unroll rest) (distinct_rounds count (unroll body) (good_distinct body g.1)) (good_distinct rest g.2)

-- what is known of a line that is not refused
abbrev IsGood : Meaning → Type 0
IsGood (Ok m) = IsGoodLine m
IsGood (Err r) = Unit {0}

good_of : (m : Meaning) (l : List ℕ) → IsLine l → meaning_of (content_of l) ≡ m → IsGood m
good_of (Ok m) l whole e = line_good l m whole e
good_of (Err r) l whole e = tt

all_good : (lines : List (List ℕ)) → All IsLine lines → Each IsGood (line_meanings lines)
all_good [] a = tt
all_good (l ∷ ls) a = (good_of (meaning_of (content_of l)) l (All-head IsLine l ls a) refl, all_good ls (All-tail IsLine l ls a))

good_items : {ms : List Meaning} {xs : Items} → Joins ms xs → Each IsGood ms → AreGood xs
good_items nothing e = tt
good_items (blank_line j) e = good_items j e.1
good_items (operation_line j) e = (e.0, good_items j e.1)
good_items (block_lines {count} {tag} {inner} {after} j k) e =
    (e.0, good_items j (each_left IsGood inner (Ok Close ∷ after) e.1), good_items k (each_right IsGood inner (Ok Close ∷ after) e.1).1)

-- the steps of items that lines stand for
pub joined_distinct : (lines : List (List ℕ)) (items : Items) → All IsLine lines → Joins (line_meanings lines) items → All HasDistinctQubits (unroll items)
joined_distinct lines items a j = good_distinct items (good_items j (all_good lines a))
