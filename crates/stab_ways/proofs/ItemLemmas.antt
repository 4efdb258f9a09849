-- Items: their instructions one after another and in rounds, and the walk over them.
use Rattle.stab_ways.proofs.Names.{◌≡◌, ℕ, zero, suc, ◌+◌, ◌-◌, ◌*◌, ◌<◌, ◌≤◌, refl, sym, ◌∙◌, ap, subst, Bool, false, List, [], ◌∷◌, ◌++◌, length, take, drop, All, get_or, nat_le, arith, append_assoc, append-nil, length-append, length-take, length-drop, true, ◌⊎◌, inl, inr, put_in, take-append-drop, take_more, take-append_seam, drop-append_seam, All-take, All-drop, Option, Some, None, if◌then◌else◌, flat_map-append, Letter, Items, OneItem, next, block, done, before, listed, join, listed-append, listed_pushed, Step, steps_of, unroll, rounds, length-rounds, unroll-join, StepFits, Part, is_tick, rest_of_instruction, rounds_counted, carried_parts, part_rounds, WalkState, past_steps, reported, over_part, walked}
use Rattle.std.proofs.Common.{min, nat_lt}
use Rattle.stab_items.specs.Steps.{looks_too_far}
use Rattle.stab_items.specs.declared.summary.Summary.{Summary}
use Rattle.stab_items.specs.inner.Summaries.{summary_of, window}
use Rattle.stab_items.proofs.StepLemmas.{looks_too_far_window}
use Rattle.std.proofs.lemmas.Bool.{ne_eqb}
use Rattle.stab_ways.proofs.WalkedLemmas.{steps_in, walked-append}

-- the instructions of items one after another

pub parts-join : (xs ys : Items) → carried_parts (join xs ys) ≡ carried_parts xs ++ carried_parts ys
parts-join done ys = refl
parts-join (next op rest) ys = ap (λ ps. record { tick = is_tick op.kind; steps = steps_of op.kind } ∷ ps) (parts-join rest ys)
parts-join (block count tag body rest) ys =
    let own = part_rounds (rounds_counted count (length (unroll body))) (carried_parts body) in
    ap (λ ps. own ++ ps) (parts-join rest ys) ∙ sym (append_assoc own (carried_parts rest) (carried_parts ys))

pub steps-rounds : (k : ℕ) (parts : List Part) → steps_in (part_rounds k parts) ≡ rounds k (steps_in parts)
steps-rounds zero parts = refl
steps-rounds (suc k) parts = flat_map-append (λ (p : Part). p.steps) parts (part_rounds k parts) ∙ ap (λ zs. steps_in parts ++ zs) (steps-rounds k parts)

-- of rounds without a step one counts, and of others all

rounds-nothing : (k : ℕ) (xs : List Step) → length xs ≡ 0 → rounds k xs ≡ []
rounds-nothing zero xs none = refl
rounds-nothing (suc k) [] none = rounds-nothing k [] none
rounds-nothing (suc k) (x ∷ xs) none = absurd (omega (arith, none))

pub all-counted : (count steps : ℕ) → 0 < steps → rounds_counted count steps ≡ count
all-counted count steps some = ap (λ b. if b then min count 1 else count) (ne_eqb steps 0 (λ none. omega (arith, some, none)))

pub first-counted : (count steps : ℕ) → steps ≡ 0 → 0 < count → rounds_counted count steps ≡ 1
first-counted count steps none some =
    let least : min count 1 ≡ 1 = omega (arith, some) in ap (rounds_counted count) none ∙ least

counted-alike : (count : ℕ) (xs : List Step) → rounds (rounds_counted count (length xs)) xs ≡ rounds count xs
counted-alike count [] = rounds-nothing (rounds_counted count 0) [] refl ∙ sym (rounds-nothing count [] refl)
counted-alike count (x ∷ xs) = ap (λ k. rounds k (x ∷ xs)) (all-counted count (length (x ∷ xs)) (omega arith))

-- have their steps
pub steps-unrolled : (items : Items) → steps_in (carried_parts items) ≡ unroll items
steps-unrolled done = refl
steps-unrolled (next op rest) = ap (λ zs. steps_of op.kind ++ zs) (steps-unrolled rest)
steps-unrolled (block count tag body rest) =
    let own : ℕ = rounds_counted count (length (unroll body)) in
    flat_map-append (λ (p : Part). p.steps) (part_rounds own (carried_parts body)) (carried_parts rest)
    ∙ ap (λ zs. zs ++ steps_in (carried_parts rest)) (steps-rounds own (carried_parts body) ∙ ap (rounds own) (steps-unrolled body) ∙ counted-alike count (unroll body))
    ∙ ap (λ zs. rounds count (unroll body) ++ zs) (steps-unrolled rest)

pub long-rounds : (k : ℕ) (items : Items) → length (steps_in (part_rounds k (carried_parts items))) ≡ k * length (unroll items)
long-rounds k items =
    ap length (steps-rounds k (carried_parts items) ∙ ap (rounds k) (steps-unrolled items)) ∙ length-rounds k (unroll items)

-- rounds after others
rounds-more : (j k : ℕ) (parts : List Part) → part_rounds (j + k) parts ≡ part_rounds j parts ++ part_rounds k parts
rounds-more zero k parts = ap (λ m. part_rounds m parts) {x = zero + k} {y = k} (omega arith)
rounds-more (suc j) k parts =
    let further : suc j + k ≡ suc (j + k) = omega arith in
    ap (λ m. part_rounds m parts) further
    ∙ ap (λ more. parts ++ more) (rounds-more j k parts)
    ∙ sym (append_assoc parts (part_rounds j parts) (part_rounds k parts))

-- one item more

pub items-more : (xs : List OneItem) (k : ℕ) (x : OneItem) → k < length xs → x ≡ get_or xs k x → listed (take (k + 1) xs) ≡ join (listed (take k xs)) (before x done)
items-more xs k x lt is = ap listed (take_more xs k x lt ∙ ap (λ y. take k xs ++ y ∷ []) (sym is)) ∙ listed_pushed (take k xs) x

pub parts-more : (xs : List OneItem) (k : ℕ) (x : OneItem) → k < length xs → x ≡ get_or xs k x
    → carried_parts (listed (take (k + 1) xs)) ≡ carried_parts (listed (take k xs)) ++ carried_parts (before x done)
parts-more xs k x lt is = ap carried_parts (items-more xs k x lt is) ∙ parts-join (listed (take k xs)) (before x done)

pub steps-more : (xs : List OneItem) (k : ℕ) (x : OneItem) → k < length xs → x ≡ get_or xs k x
    → unroll (listed (take (k + 1) xs)) ≡ unroll (listed (take k xs)) ++ unroll (before x done)
steps-more xs k x lt is = ap unroll (items-more xs k x lt is) ∙ unroll-join (listed (take k xs)) (before x done)

all-parts : (xs : List OneItem) (k : ℕ) → unroll (listed xs) ≡ unroll (listed (take k xs)) ++ unroll (listed (drop k xs))
all-parts xs k =
    ap unroll (ap listed (sym (take-append-drop k xs)) ∙ listed-append (take k xs) (drop k xs)) ∙ unroll-join (listed (take k xs)) (listed (drop k xs))

-- no more steps than all have, with one item more
pub steps-within : (xs : List OneItem) (k : ℕ) (x : OneItem) → k < length xs → x ≡ get_or xs k x
    → length (unroll (listed (take k xs))) + length (unroll (before x done)) ≤ length (unroll (listed xs))
steps-within xs k x lt is =
    omega (
      arith,
      ap length (steps-more xs k x lt is),
      length-append (unroll (listed (take k xs))) (unroll (before x done)),
      ap length (all-parts xs (k + 1)),
      length-append (unroll (listed (take (k + 1) xs))) (unroll (listed (drop (k + 1) xs))),
    )

-- and they fit
pub item-fits : (n : ℕ) (xs : List OneItem) (k : ℕ) (x : OneItem) → k < length xs → x ≡ get_or xs k x → All (StepFits n) (unroll (listed xs))
    → All (StepFits n) (unroll (before x done))
item-fits n xs k x lt is fits =
    let front = unroll (listed (take k xs)) in
    let here = unroll (before x done) in
    let further = unroll (listed (drop (k + 1) xs)) in
    let whole : unroll (listed xs) ≡ (front ++ here) ++ further = all-parts xs (k + 1) ∙ ap (λ zs. zs ++ further) (steps-more xs k x lt is) in
    subst (All (StepFits n)) (drop-append_seam front here)
    (All-drop (StepFits n) (length front) (front ++ here)
    (subst (All (StepFits n)) (take-append_seam (front ++ here) further) (All-take (StepFits n) (length (front ++ here)) ((front ++ here) ++ further) (subst (All (StepFits n)) whole fits))))

-- a block alone

pub block-steps : (count : ℕ) (tag : List ℕ) (body : Items) → length (unroll (block count tag body done)) ≡ count * length (unroll body)
block-steps count tag body = ap length (append-nil (rounds count (unroll body))) ∙ length-rounds count (unroll body)

-- how many steps a walk passes

after-steps : (n k : ℕ) (string : List Letter) (q : Part) (w : WalkState) (b : Bool)
    → (if b then reported n (rest_of_instruction k q) (put_in string (past_steps n (take k q.steps) w)) else record (past_steps n q.steps w) { waits = Some (k - length q.steps) }).steps ≡ w.steps + length q.steps
after-steps n k string q w true = omega (arith, length-take k q.steps, length-drop k q.steps)
after-steps n k string q w false = refl

over-steps : (n : ℕ) (string : List Letter) (q : Part) (waits : Option ℕ) (w : WalkState) → (over_part n string q waits w).steps ≡ w.steps + length q.steps
over-steps n string q None w = refl
over-steps n string q (Some k) w = after-steps n k string q w (nat_le k (length q.steps))

pub walked-steps : (n : ℕ) (string : List Letter) (parts : List Part) (w : WalkState) → (walked n string parts w).steps ≡ w.steps + length (steps_in parts)
walked-steps n string [] w = let none : w.steps ≡ w.steps + 0 = omega arith in none
walked-steps n string (q ∷ parts) w =
    omega (arith, walked-steps n string parts (over_part n string q w.waits w), over-steps n string q w.waits w, length-append q.steps (steps_in parts))

-- and in one round of a block
pub body-steps : (n : ℕ) (string : List Letter) (body : Items) (mid new : WalkState) → new ≡ walked n string (carried_parts body) mid → new.steps ≡ mid.steps + length (unroll body)
body-steps n string body mid new is =
    ap (λ (w : WalkState). w.steps) is ∙ walked-steps n string (carried_parts body) mid ∙ ap (λ ys. mid.steps + length ys) (steps-unrolled body)

-- rounds fit if one does

pub round-fits : (n k : ℕ) (xs : List Step) → 0 < k → All (StepFits n) (rounds k xs) → All (StepFits n) xs
round-fits n zero xs lt fits = absurd (omega (arith, lt))
round-fits n (suc k) xs lt fits = subst (All (StepFits n)) (take-append_seam xs (rounds k xs)) (All-take (StepFits n) (length xs) (xs ++ rounds k xs) fits)

-- rounds after others
pub walked-rounds : (n j k whole : ℕ) (string : List Letter) (parts : List Part) (start mid new : WalkState) → j + k ≡ whole → mid ≡ walked n string (part_rounds j parts) start
    → new ≡ walked n string (part_rounds k parts) mid → new ≡ walked n string (part_rounds whole parts) start
walked-rounds n j k whole string parts start mid new sum before is =
    is ∙ ap (walked n string (part_rounds k parts)) before
    ∙ sym (walked-append n string (part_rounds j parts) (part_rounds k parts) start)
    ∙ ap (λ ps. walked n string ps start) (sym (rounds-more j k parts) ∙ ap (λ m. part_rounds m parts) sum)

-- one round more
pub walked-round : (n k : ℕ) (string : List Letter) (body : Items) (start mid new : WalkState) → mid ≡ walked n string (part_rounds k (carried_parts body)) start
    → new ≡ walked n string (carried_parts body) mid → new ≡ walked n string (part_rounds (k + 1) (carried_parts body)) start
walked-round n k string body start mid new before is =
    walked-rounds n k 1 (k + 1) string (carried_parts body) start mid new refl before (is ∙ ap (λ ps. walked n string ps mid) (sym (append-nil (carried_parts body))))

pub round-steps : (n k : ℕ) (string : List Letter) (body : Items) (start mid : WalkState) → mid ≡ walked n string (part_rounds k (carried_parts body)) start
    → mid.steps ≡ start.steps + k * length (unroll body)
round-steps n k string body start mid is =
    ap (λ (w : WalkState). w.steps) is ∙ walked-steps n string (part_rounds k (carried_parts body)) start ∙ ap (λ m. start.steps + m) (long-rounds k body)

-- the first round of a block without a step is the last that counts
pub first-round : (n k count steps : ℕ) (string : List Letter) (body : Items) (start mid new : WalkState) → (k ≡ 0) ⊎ (0 < steps) → k < count → steps ≡ length (unroll body)
    → mid ≡ walked n string (part_rounds k (carried_parts body)) start → new ≡ walked n string (carried_parts body) mid → new.steps ≡ mid.steps
    → new ≡ walked n string (part_rounds (rounds_counted count steps) (carried_parts body)) start
first-round n k count steps string body start mid new which lt long before is same = by_number which
  where
    none : steps ≡ 0
    none = omega (arith, long, same, body-steps n string body mid new is)

    by_number : (k ≡ 0) ⊎ (0 < steps) → new ≡ walked n string (part_rounds (rounds_counted count steps) (carried_parts body)) start
    by_number (inr some) = absurd (omega (arith, some, none))
    by_number (inl first) =
        let one : k + 1 ≡ 1 = omega (arith, first) in
        walked-round n k string body start mid new before is
        ∙ ap (λ j. walked n string (part_rounds j (carried_parts body)) start) (one ∙ sym (first-counted count steps none (omega (arith, lt))))

-- one item more
pub walked-item : (n k : ℕ) (string : List Letter) (xs : List OneItem) (x : OneItem) (start mid new : WalkState) → k < length xs → x ≡ get_or xs k x
    → mid ≡ walked n string (carried_parts (listed (take k xs))) start → new ≡ walked n string (carried_parts (before x done)) mid
    → new ≡ walked n string (carried_parts (listed (take (k + 1) xs))) start
walked-item n k string xs x start mid new lt at earlier is =
    is ∙ ap (walked n string (carried_parts (before x done))) earlier
    ∙ sym (walked-append n string (carried_parts (listed (take k xs))) (carried_parts (before x done)) start)
    ∙ ap (λ ps. walked n string ps start) (sym (parts-more xs k x lt at))

pub item-steps : (n k : ℕ) (string : List Letter) (xs : List OneItem) (start mid : WalkState) → mid ≡ walked n string (carried_parts (listed (take k xs))) start
    → mid.steps ≡ start.steps + length (unroll (listed (take k xs)))
item-steps n k string xs start mid is =
    ap (λ (w : WalkState). w.steps) is ∙ walked-steps n string (carried_parts (listed (take k xs))) start
    ∙ ap (λ ys. start.steps + length ys) (steps-unrolled (listed (take k xs)))

times-split : (k d l : ℕ) → k * l + l ≤ ((k + 1) + d) * l
times-split k d l = omega arith

pub times-more : (k count l : ℕ) → k < count → k * l + l ≤ count * l
times-more k count l lt =
    let whole : (k + 1) + (count - (k + 1)) ≡ count = omega (arith, lt) in subst (λ c. k * l + l ≤ c * l) whole (times-split k (count - (k + 1)) l)

-- a round looks no further back than its summary says
pub near-enough : (stored : Summary) (body : Items) → stored ≡ summary_of body → looks_too_far stored.window (unroll body) ≡ false
near-enough stored body is =
    looks_too_far_window stored.window (unroll body) ∙ ap (λ (s : Summary). nat_lt s.window (window (unroll body))) is ∙ below-itself (window (unroll body))
  where
    below-itself : (n : ℕ) → nat_lt n n ≡ false
    below-itself n = grind arith
