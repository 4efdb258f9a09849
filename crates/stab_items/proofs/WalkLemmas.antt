-- One step of a walk over nested blocks.
use Rattle.stab_items.proofs.Names.{◌≡◌, ◌≤◌, ◌<◌, refl, ap, sym, ◌∙◌, ℕ, ◌+◌, ◌*◌, ◌-◌, zero, suc, min, List, [], ◌∷◌, ◌++◌, length, drop, get_or, arith, drop-cons, append-nil, append_assoc, Bor, subst, Some, None, vec_capacity, length-append, drop_all, Level, Walk, Items, OneItem, operation, repeat, done, before, listed, depth, Step, rounds, unroll, kind_steps, level_left, levels_left, IsNested, weight, weight_at, level_weight, levels_weight, ahead, walk_left, walk_weight, IsWalk, SameKind, Takes}
use Rattle.stab_items.proofs.ItemLemmas.{before-join, depth_at}
use Rattle.stab_items.proofs.StepLemmas.{unroll-join}
use Rattle.stab_items.proofs.StepPartLemmas.{some_given}
use Rattle.std.specs.List.{slice_get}

-- an item before others

pub unroll_before : (x : OneItem) (rest : Items) → unroll (before x rest) ≡ unroll (before x done) ++ unroll rest
unroll_before x rest = ap unroll (before-join x done rest) ∙ unroll-join (before x done) rest

weight_before : (x : OneItem) (rest : Items) → weight (before x rest) ≡ weight (before x done) + weight rest
weight_before (operation op) rest = omega arith
weight_before (repeat count tag body) rest = omega arith

-- the items from a position on
pub items_from : (xs : List OneItem) (p : ℕ) (x : OneItem) → p < length xs → x ≡ get_or xs p x → listed (drop p xs) ≡ before x (listed (drop (p + 1) xs))
items_from xs p x h e =
    let next' : suc p ≡ p + 1 = omega arith in
    ap listed (drop-cons xs p x h) ∙ ap (λ y. before y (listed (drop (suc p) xs))) (sym e) ∙ ap (λ n. before x (listed (drop n xs))) next'

-- the levels

abbrev pub past_one : Level → Level
past_one t = record { items = t.items; position = t.position + 1; rounds = t.rounds }

pub levels_left-push : (more : List Step) (ls : List Level) (l : Level) → levels_left more (ls ++ l ∷ []) ≡ level_left l ++ levels_left more ls
levels_left-push more [] l = refl
levels_left-push more (k ∷ ls) l = levels_left-push (level_left k ++ more) ls l

pub levels_weight-push : (ls : List Level) (l : Level) → levels_weight (ls ++ l ∷ []) ≡ level_weight l + levels_weight ls
levels_weight-push [] l = omega arith
levels_weight-push (k ∷ ls) l = omega (arith, levels_weight-push ls l)

nested-push : (n : ℕ) (ls : List Level) (l : Level) → IsNested n ls → depth (listed l.items.now) + (n + length ls) ≤ 16 → IsNested n (ls ++ l ∷ [])
nested-push n [] l a h = (omega arith, tt)
nested-push n (k ∷ ls) l a h = (a.0, nested-push (n + 1) ls l a.1 (omega arith))

nested-front : (n : ℕ) (ls : List Level) (l : Level) → IsNested n (ls ++ l ∷ []) → IsNested n ls
nested-front n [] l a = tt
nested-front n (k ∷ ls) l a = (a.0, nested-front (n + 1) ls l a.1)

nested-last : (n : ℕ) (ls : List Level) (l : Level) → IsNested n (ls ++ l ∷ []) → depth (listed l.items.now) + (n + length ls) ≤ 16
nested-last n [] l a = omega (arith, a.0)
nested-last n (k ∷ ls) l a = omega (arith, nested-last (n + 1) ls l a.1)

-- rounds

pub more_rounds : (n : ℕ) (ss : List Step) → 0 < n → rounds n ss ≡ ss ++ rounds (n - 1) ss
more_rounds zero ss h = absurd (omega arith)
more_rounds (suc n) ss h = let e : n ≡ suc n - 1 = omega arith in ap (λ k. ss ++ rounds k ss) e

more_times : (n w : ℕ) → 0 < n → n * w ≡ w + (n - 1) * w
more_times zero w h = absurd (omega arith)
more_times (suc n) w h = let e : n ≡ suc n - 1 = omega arith in let t : suc n * w ≡ w + n * w = omega arith in t ∙ ap (λ k. w + k * w) e

none_rounds : (n : ℕ) → rounds n [] ≡ []
none_rounds zero = refl
none_rounds (suc n) = none_rounds n

no_steps : (ss : List Step) → length ss ≡ 0 → ss ≡ []
no_steps [] h = refl
no_steps (s ∷ ss) h = absurd (omega arith)

-- past an item of the innermost block

pub taken_left : (t : Level) (more : List Step) (x : OneItem) → t.position < length t.items.now → x ≡ get_or t.items.now t.position x
    → level_left t ++ more ≡ unroll (before x done) ++ (level_left (past_one t) ++ more)
taken_left t more x h e =
    let xs = t.items.now in
    let others = unroll (listed (drop (t.position + 1) xs)) in
    ap (λ l. (unroll l ++ rounds t.rounds (unroll (listed xs))) ++ more) (items_from xs t.position x h e)
    ∙ ap (λ l. (l ++ rounds t.rounds (unroll (listed xs))) ++ more) (unroll_before x (listed (drop (t.position + 1) xs)))
    ∙ ap (λ l. l ++ more) (append_assoc (unroll (before x done)) others (rounds t.rounds (unroll (listed xs))))
    ∙ append_assoc (unroll (before x done)) (level_left (past_one t)) (more)

pub taken_weight : (t : Level) (x : OneItem) → t.position < length t.items.now → x ≡ get_or t.items.now t.position x
    → level_weight t ≡ weight (before x done) + level_weight (past_one t)
taken_weight t x h e =
    let xs = t.items.now in
    let here : weight (listed (drop t.position xs)) ≡ weight (before x done) + weight (listed (drop (t.position + 1) xs)) =
    ap weight (items_from xs t.position x h e) ∙ weight_before x (listed (drop (t.position + 1) xs)) in
    omega (arith, here)

abbrev pub past_item : Walk → Walk
past_item w = record { kind = w.kind; within = w.within; top = past_one w.top; around = w.around }

pub taken : (w : Walk) (x : OneItem) → IsWalk w → w.top.position < length w.top.items.now → x ≡ get_or w.top.items.now w.top.position x → Takes w (past_item w) x
taken w x walks h e = (
  taken_left w.top (levels_left [] w.around.items) x h e,
  omega (arith, taken_weight w.top x h e),
  omega (arith, walks.shallow, depth_at w.top.items.now w.top.position x h e),
)

-- into a block, which comes ahead of the level outside

pub entered_left : (others : List Step) (t : Level) (ls new : List Level) (body : Bor (List OneItem)) (more : ℕ) → new ≡ ls ++ t ∷ []
    → level_left (record { items = body; position = 0; rounds = more }) ++ levels_left others new ≡ (unroll (listed body.now) ++ rounds more (unroll (listed body.now))) ++ (level_left t ++ levels_left others ls)
entered_left others t ls new body more pushed =
    let bs = unroll (listed body.now) in
    ap (λ l. (bs ++ rounds more bs) ++ l) (ap (levels_left others) pushed ∙ levels_left-push others ls t)

pub entered_weight : (t : Level) (ls new : List Level) (body : Bor (List OneItem)) (more : ℕ) → new ≡ ls ++ t ∷ []
    → level_weight (record { items = body; position = 0; rounds = more }) + levels_weight new ≡ weight_at body.now 0 more + (level_weight t + levels_weight ls)
entered_weight t ls new body more pushed = omega (arith, ap levels_weight pushed, levels_weight-push ls t)

pub entered : (w u : Walk) → IsWalk w → u.around.items ≡ w.around.items ++ w.top ∷ [] → vec_capacity u.around ≡ vec_capacity w.around
    → depth (listed u.top.items.now) + 1 + length w.around.items ≤ 16 → IsWalk u
entered w u h pushed same room =
    let P : List Level → Type 0 = λ l. IsNested 0 l in
    let len : length u.around.items ≡ length w.around.items + 1 = ap length pushed ∙ length-append w.around.items (w.top ∷ []) in
    record {
      roomy = omega (arith, h.roomy);
      nested = subst P (sym pushed) (nested-push 0 w.around.items w.top h.nested (omega (arith, h.shallow)));
      shallow = omega (arith, len);
    }

-- to the next round

pub ended_left : (t : Level) → length t.items.now ≤ t.position → level_left t ≡ rounds t.rounds (unroll (listed t.items.now))
ended_left t h = ap (λ l. unroll (listed l) ++ rounds t.rounds (unroll (listed t.items.now))) (drop_all t.position t.items.now h)

pub next_round : (t : Level) (more : List Step) → length t.items.now ≤ t.position → 0 < t.rounds
    → level_left (record { items = t.items; position = 0; rounds = t.rounds - 1 }) ++ more ≡ level_left t ++ more
next_round t more h some = ap (λ l. l ++ more) (sym (more_rounds t.rounds (unroll (listed t.items.now)) some) ∙ sym (ended_left t h))

pub next_round_less : (t : Level) (n : ℕ) → length t.items.now ≤ t.position → 0 < t.rounds
    → level_weight (record { items = t.items; position = 0; rounds = t.rounds - 1 }) + n < level_weight t + n
next_round_less t n h some =
    let xs = t.items.now in
    omega (arith, ap (λ l. weight (listed l)) (drop_all t.position xs h), more_times t.rounds (1 + weight (listed xs)) some)

-- out of the innermost block

pub left_out : (more : List Step) (t l : Level) (ls new : List Level) → length t.items.now ≤ t.position → t.rounds ≤ 0 → ls ≡ new ++ l ∷ []
    → level_left l ++ levels_left more new ≡ level_left t ++ levels_left more ls
left_out more t l ls new h last popped =
    let none : t.rounds ≡ 0 = omega arith in
    sym (levels_left-push more new l) ∙ ap (levels_left more) (sym popped)
    ∙ ap (λ q. q ++ levels_left more ls) (sym (ended_left t h ∙ ap (λ n. rounds n (unroll (listed t.items.now))) none))

pub left_out_less : (t l : Level) (ls new : List Level) → ls ≡ new ++ l ∷ [] → level_weight l + levels_weight new < level_weight t + levels_weight ls
left_out_less t l ls new popped = omega (arith, ap levels_weight popped, levels_weight-push new l)

pub left_walk : (w u : Walk) → IsWalk w → w.around.items ≡ u.around.items ++ u.top ∷ [] → vec_capacity u.around ≡ vec_capacity w.around → IsWalk u
left_walk w u h popped same =
    let P : List Level → Type 0 = λ q. IsNested 0 q in
    let inner : IsNested 0 (u.around.items ++ u.top ∷ []) = subst P popped h.nested in
    record {
      roomy = omega (arith, h.roomy);
      nested = nested-front 0 u.around.items u.top inner;
      shallow = omega (arith, nested-last 0 u.around.items u.top inner);
    }

no_levels : (ls : List Level) → length ls ≡ 0 → ls ≡ []
no_levels [] h = refl
no_levels (l ∷ ls) h = absurd (omega arith)

-- what is left at the end of the outermost list
pub at_end : (more : List Step) (t : Level) (ls : List Level) → length t.items.now ≤ t.position → t.rounds ≤ 0 → length ls ≤ 0 → level_left t ++ levels_left more ls ≡ more
at_end more t ls h last empty =
    let none : t.rounds ≡ 0 = omega arith in
    ap (λ q. level_left t ++ levels_left more q) (no_levels ls (omega (arith, empty)))
    ∙ ap (λ l. l ++ more) (ended_left t h ∙ ap (λ n. rounds n (unroll (listed t.items.now))) none)

-- what is left at the beginning

pub begun_at : (items : Bor (List OneItem)) (position : ℕ) (ls : List Level) → ls ≡ [] → level_left (record { items = items; position = position; rounds = 0 }) ++ levels_left [] ls ≡ unroll (listed (drop position items.now))
begun_at items position ls none =
    ap (λ q. level_left (record { items = items; position = position; rounds = 0 }) ++ levels_left [] q) none
    ∙ append-nil (unroll (listed (drop position items.now)) ++ [])
    ∙ append-nil (unroll (listed (drop position items.now)))

pub begun_left : (items : Bor (List OneItem)) (ls : List Level) → ls ≡ [] → level_left (record { items = items; position = 0; rounds = 0 }) ++ levels_left [] ls ≡ unroll (listed items.now)
begun_left items ls none = begun_at items 0 ls none

-- an instruction that has no more steps

pub given_left : (w : Walk) → drop w.within (kind_steps w.kind) ≡ [] → walk_left w ≡ ahead w
given_left w e = ap (λ l. l ++ ahead w) e

same_given : (old new : Walk) → SameKind old new → drop old.within (kind_steps old.kind) ≡ [] → drop new.within (kind_steps new.kind) ≡ []
same_given old new s e = (λ i. drop (s.within i) (kind_steps (s.kind i))) ∙ e

-- the steps of a block that was taken
block_taken : (a b : Walk) (x : OneItem) (count : ℕ) (tag : List ℕ) (body : Items) → drop a.within (kind_steps a.kind) ≡ [] → Takes a b x → x ≡ repeat count tag body
    → walk_left a ≡ rounds count (unroll body) ++ ahead b
block_taken a b x count tag body e t is =
    given_left a e ∙ t.0 ∙ ap (λ y. unroll (before y done) ++ ahead b) is ∙ ap (λ l. l ++ ahead b) (append-nil (rounds count (unroll body)))

-- a block without steps was taken
pub goes_past : (a b : Walk) (x : OneItem) (count : ℕ) (tag : List ℕ) (body : Items) → drop a.within (kind_steps a.kind) ≡ [] → SameKind a b → Takes a b x → x ≡ repeat count tag body
    → min (length (unroll body)) 1048577 ≤ 0 → (walk_left b ≡ walk_left a) × (walk_weight b < walk_weight a)
goes_past a b x count tag body e s t is empty =
    let nothing : unroll body ≡ [] = no_steps (unroll body) (omega arith) in (
      given_left b (same_given a b s e)
          ∙ ap (λ l. l ++ ahead b) (sym (ap (rounds count) nothing ∙ none_rounds count))
          ∙ sym (block_taken a b x count tag body e t is),
      omega (arith, t.1, ap (λ y. weight (before y done)) is),
    )

-- a block was taken and entered
pub goes_in : (a b c : Walk) (x : OneItem) (count : ℕ) (tag : List ℕ) (body : Bor (List OneItem)) → drop a.within (kind_steps a.kind) ≡ [] → SameKind a b → Takes a b x → x ≡ repeat count tag (listed body.now)
    → 0 < count → SameKind b c → ahead c ≡ (unroll (listed body.now) ++ rounds (count - 1) (unroll (listed body.now))) ++ ahead b → walk_weight c ≡ weight_at body.now 0 (count - 1) + walk_weight b
    → (walk_left c ≡ walk_left a) × (walk_weight c < walk_weight a)
goes_in a b c x count tag body e s t is some u left heavy = (
  given_left c (same_given b c u (same_given a b s e))
      ∙ left
      ∙ ap (λ l. l ++ ahead b) (sym (more_rounds count (unroll (listed body.now)) some))
      ∙ sym (block_taken a b x count tag (listed body.now) e t is),
  omega (arith, t.1, heavy, ap (λ y. weight (before y done)) is, more_times count (1 + weight (listed body.now)) some),
)

-- the step of an instruction under way
pub gives : (w : Walk) (s : Step) → Some s ≡ slice_get (kind_steps w.kind) w.within
    → walk_left w ≡ s ∷ walk_left (record { kind = w.kind; within = w.within + 1; top = w.top; around = w.around })
gives w s e = ap (λ l. l ++ ahead w) (some_given (kind_steps w.kind) w.within s e)
