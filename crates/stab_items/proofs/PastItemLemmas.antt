-- Items that a walk goes past together.
use Rattle.stab_items.proofs.Names.{◌≡◌, ◌<◌, sym, ◌∙◌, ap, ℕ, ◌+◌, List, [], ◌∷◌, ◌++◌, length, take, drop, get_or, append_assoc, take_more, drop-drop, Walk, OneItem, before, done, listed, Step, rounds, unroll, kind_steps, levels_left, ahead, walk_left}
use Rattle.stab_items.proofs.EditLemmas.{steps-append, steps_split}

abbrev pub past_items : Walk → ℕ → Walk
past_items w n = record { kind = w.kind; within = w.within; top = record { items = w.top.items; position = w.top.position + n; rounds = w.top.rounds }; around = w.around }

-- past items of the innermost block that have these steps
pub items_taken : (w : Walk) (n : ℕ) (ss : List Step) → drop w.within (kind_steps w.kind) ≡ []
    → unroll (listed (drop w.top.position w.top.items.now)) ≡ ss ++ unroll (listed (drop (w.top.position + n) w.top.items.now)) → walk_left w ≡ ss ++ walk_left (past_items w n)
items_taken w n ss given here =
    let xs = w.top.items.now in
    let more = rounds w.top.rounds (unroll (listed xs)) in
    let others = levels_left [] w.around.items in
    let following = unroll (listed (drop (w.top.position + n) xs)) in
    ap (λ l. l ++ ahead w) given
    ∙ ap (λ l. (l ++ more) ++ others) here
    ∙ ap (λ l. l ++ others) (append_assoc ss following more)
    ∙ append_assoc ss (following ++ more) others
    ∙ ap (λ l. ss ++ (l ++ ahead (past_items w n))) (sym given)

-- past this many items
pub items_passed : (w : Walk) (n : ℕ) → drop w.within (kind_steps w.kind) ≡ []
    → walk_left w ≡ unroll (listed (take n (drop w.top.position w.top.items.now))) ++ walk_left (past_items w n)
items_passed w n given =
    let xs = w.top.items.now in
    let front = unroll (listed (take n (drop w.top.position xs))) in
    items_taken w n front given (steps_split n (drop w.top.position xs) ∙ ap (λ l. front ++ unroll (listed l)) (drop-drop n w.top.position xs))

-- the steps of the first items and of the next one
pub steps_more : (xs : List OneItem) (n : ℕ) (x : OneItem) → n < length xs → x ≡ get_or xs n x → unroll (listed (take (n + 1) xs)) ≡ unroll (listed (take n xs)) ++ unroll (before x done)
steps_more xs n x h e =
    ap (λ l. unroll (listed l)) (take_more xs n x h ∙ ap (λ y. take n xs ++ y ∷ []) (sym e)) ∙ steps-append (take n xs) (x ∷ [])
