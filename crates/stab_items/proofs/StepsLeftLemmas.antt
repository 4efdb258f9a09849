-- How many steps from a step on are its item's, in the same round.
use Rattle.stab_items.proofs.Names.{◌≡◌, ◌≤◌, ◌<◌, refl, ap, sym, ◌∙◌, ℕ, ◌+◌, ◌*◌, ◌-◌, ◌%◌, Bool, true, false, nat_lt, if◌then◌else◌, List, [], ◌∷◌, ◌++◌, length, take, drop, get_or, arith, append-nil, length-append, take-append-drop, ltb-true, lt-ltb, Operation, Items, OneItem, operation, repeat, done, before, listed, steps_of, rounds, unroll, item_steps_left}
use Rattle.stab_items.proofs.StepLemmas.{length-rounds}
use Rattle.stab_items.proofs.WalkLemmas.{unroll_before, items_from}
use Rattle.stab_items.proofs.StepPathLemmas.{InRound}

pick_first : (a b x y : ℕ) → a < b → (if nat_lt a b then x else y) ≡ x
pick_first a b x y h = ap (λ t. if t then x else y) (lt-ltb a b h)

picked : (a b x y : ℕ) (t : Bool) → nat_lt a b ≡ t → b ≤ a → (if t then x else y) ≡ y
picked a b x y true e h = absurd (omega (arith, ltb-true a b e, h))
picked a b x y false e h = refl

pick_second : (a b x y : ℕ) → b ≤ a → (if nat_lt a b then x else y) ≡ y
pick_second a b x y h = picked a b x y (nat_lt a b) refl h

-- after an item
left_past : (x : OneItem) (rest : Items) (w n : ℕ) → n ≡ length (unroll (before x done)) → n ≤ w → item_steps_left (before x rest) w ≡ item_steps_left rest (w - n)
left_past (operation op) rest w n is enough =
    let k = length (steps_of op.kind) in
    let all : n ≡ k = is ∙ ap length (append-nil (steps_of op.kind)) in
    pick_second w k (k - w) (item_steps_left rest (w - k)) (omega (arith, all, enough)) ∙ ap (λ m. item_steps_left rest (w - m)) (sym all)
left_past (repeat count tag body) rest w n is enough =
    let l = length (unroll body) in
    let all : n ≡ count * l = is ∙ ap length (append-nil (rounds count (unroll body))) ∙ length-rounds count (unroll body) in
    pick_second w (count * l) (item_steps_left body (w % l)) (item_steps_left rest (w - count * l)) (omega (arith, all, enough)) ∙ ap (λ m. item_steps_left rest (w - m)) (sym all)

pub left_passed : (xs : List OneItem) (p w n : ℕ) (x : OneItem) → p < length xs → x ≡ get_or xs p x → n ≡ length (unroll (before x done)) → n ≤ w
    → item_steps_left (listed (drop (p + 1) xs)) (w - n) ≡ item_steps_left (listed (drop p xs)) w
left_passed xs p w n x h e is enough =
    sym (ap (λ l. item_steps_left l w) (items_from xs p x h e) ∙ left_past x (listed (drop (p + 1) xs)) w n is enough)

-- after the first items
left_after : (xs ys : List OneItem) (m : ℕ) → item_steps_left (listed (xs ++ ys)) (length (unroll (listed xs)) + m) ≡ item_steps_left (listed ys) m
left_after [] ys m = let none : 0 + m ≡ m = omega arith in ap (item_steps_left (listed ys)) none
left_after (x ∷ xs) ys m =
    let a = length (unroll (before x done)) in
    let b = length (unroll (listed xs)) in
    let first : length (unroll (before x (listed xs))) ≡ a + b = ap length (unroll_before x (listed xs)) ∙ length-append (unroll (before x done)) (unroll (listed xs)) in
    let at : length (unroll (before x (listed xs))) + m ≡ a + (b + m) = omega (arith, first) in
    let less : a + (b + m) - a ≡ b + m = omega arith in
    ap (item_steps_left (before x (listed (xs ++ ys)))) at
    ∙ left_past x (listed (xs ++ ys)) (a + (b + m)) a refl (omega arith)
    ∙ ap (item_steps_left (listed (xs ++ ys))) less
    ∙ left_after xs ys m

pub left_from_position : (xs : List OneItem) (position rest step : ℕ) → length (unroll (listed (take position xs))) + rest ≡ step → item_steps_left (listed (drop position xs)) rest ≡ item_steps_left (listed xs) step
left_from_position xs position rest step e =
    sym (left_after (take position xs) (drop position xs) rest)
    ∙ ap (item_steps_left (listed (take position xs ++ drop position xs))) e
    ∙ ap (λ l. item_steps_left (listed l) step) (take-append-drop position xs)

-- in a block
pub left_block : (xs ys : List OneItem) (p w n stored : ℕ) (tag : List ℕ) (x : OneItem) → p < length xs → x ≡ get_or xs p x → x ≡ repeat n tag (listed ys) → InRound n stored (length (unroll (listed ys))) w
    → item_steps_left (listed ys) (w % stored) ≡ item_steps_left (listed (drop p xs)) w
left_block xs ys p w n stored tag x h e is round =
    let l = length (unroll (listed ys)) in
    let rest = listed (drop (p + 1) xs) in
    sym (ap (λ m. item_steps_left m w) (items_from xs p x h e)
    ∙ ap (λ y. item_steps_left (before y rest) w) is
    ∙ pick_first w (n * l) (item_steps_left (listed ys) (w % l)) (item_steps_left rest (w - n * l)) round.below
    ∙ ap (λ m. item_steps_left (listed ys) (w % m)) (sym round.exact))

-- in an instruction
pub left_operation : (xs : List OneItem) (p w : ℕ) (op : Operation) (x : OneItem) → p < length xs → x ≡ get_or xs p x → x ≡ operation op → w < length (steps_of op.kind)
    → item_steps_left (listed (drop p xs)) w ≡ length (steps_of op.kind) - w
left_operation xs p w op x h e is few =
    let k = length (steps_of op.kind) in
    let rest = listed (drop (p + 1) xs) in
    ap (λ m. item_steps_left m w) (items_from xs p x h e)
    ∙ ap (λ y. item_steps_left (before y rest) w) is
    ∙ pick_first w k (k - w) (item_steps_left rest (w - k)) few
