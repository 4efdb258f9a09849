-- Laws of item counts: counts grow by one step after another, and the steps before an item and at it are parts of the unrolled circuit.
use Rattle.stab_script.proofs.Names.{◌≡◌, ℕ, zero, suc, ◌-◌, ◌≤◌, min, List, [], ◌∷◌, length, take, drop, refl, sym, ap, ◌∙◌, subst, arith, None, Ok, Err, Result, inl, inr, length-take, IfOk, IfErr, IsErrAnd, Refusal, OutOfMemory, Fault, Items, OneItem, listed, entries, Step, unroll, check_of, check_within, steps_cap, Path, item_at, steps_before, entries-listed, check-whole, few_steps, StepCounts, ReplyBytes, GivesText, counts_of, path_after, steps_up_to, steps_at, counts_line, counts_text, text_found}

none_taken : (k : ℕ) → take {A = Step} k [] ≡ []
none_taken zero = refl
none_taken (suc k) = refl

none_dropped : (k : ℕ) → drop {A = Step} k [] ≡ []
none_dropped zero = refl
none_dropped (suc k) = refl

-- a cut number of steps is that of all if no more are cut off than there are
taken_capped : (n c : ℕ) (xs : List Step) → length xs ≤ c → take (min n c) xs ≡ take n xs
taken_capped n c [] few = none_taken (min n c) ∙ sym (none_taken n)
taken_capped zero c (x ∷ xs) few = ap (λ k. take k (x ∷ xs)) {x = min zero c} {y = zero} (omega arith)
taken_capped (suc n) zero (x ∷ xs) few = absurd (omega (arith, few))
taken_capped (suc n) (suc c) (x ∷ xs) few = ap (λ k. take k (x ∷ xs)) {x = min (suc n) (suc c)} {y = suc (min n c)} (omega arith) ∙ ap (λ l. x ∷ l) (taken_capped n c xs (omega (arith, few)))

dropped_capped : (n c : ℕ) (xs : List Step) → length xs ≤ c → drop (min n c) xs ≡ drop n xs
dropped_capped n c [] few = none_dropped (min n c) ∙ sym (none_dropped n)
dropped_capped zero c (x ∷ xs) few = ap (λ k. drop k (x ∷ xs)) {x = min zero c} {y = zero} (omega arith)
dropped_capped (suc n) zero (x ∷ xs) few = absurd (omega (arith, few))
dropped_capped (suc n) (suc c) (x ∷ xs) few = ap (λ k. drop k (x ∷ xs)) {x = min (suc n) (suc c)} {y = suc (min n c)} (omega arith) ∙ dropped_capped n c xs (omega (arith, few))

-- what lies between two positions of a list
between : (n m : ℕ) (xs : List Step) → take (m - n) (drop n xs) ≡ drop n (take m xs)
between zero m xs = ap (λ k. take k xs) {x = m - zero} {y = m} (omega arith)
between (suc n) zero xs = ap (λ k. take k (drop (suc n) xs)) {x = 0 - suc n} {y = 0} (omega arith)
between (suc n) (suc m) [] = none_taken (suc m - suc n)
between (suc n) (suc m) (x ∷ xs) = ap (λ k. take k (drop n xs)) {x = suc m - suc n} {y = m - n} (omega arith) ∙ between n m xs

taken_few : (n : ℕ) (xs : List Step) → length (take n xs) ≤ length xs
taken_few n xs = omega (arith, length-take n xs)

-- and the same if the positions are cut
between_capped : (n m c : ℕ) (xs : List Step) → length xs ≤ c → take (min m c - min n c) (drop (min n c) xs) ≡ drop n (take m xs)
between_capped n m c xs few =
    between (min n c) (min m c) xs
    ∙ ap (drop (min n c)) (taken_capped m c xs few)
    ∙ dropped_capped n c (take m xs) (omega (arith, taken_few m xs, few))

within_cap : (circuit : List OneItem) → check_of (listed circuit) ≡ None → length (unroll (listed circuit)) ≤ steps_cap
within_cap circuit checked = let few = few_steps (listed circuit) checked in omega (arith, few)

-- the steps before an item are counted, of a circuit that nothing refuses
pub counted_before : (circuit : List OneItem) (path : Path) (first : ℕ) (left : List Step) (before : StepCounts) → check_of (listed circuit) ≡ None
    → first ≡ min (length (steps_before path circuit)) steps_cap → left ≡ unroll (listed circuit) → before ≡ counts_of (take first left)
    → before ≡ counts_of (steps_up_to path (listed circuit))
counted_before circuit path first left before checked at all counted =
    let steps = unroll (listed circuit) in
    let n = length (steps_before path circuit) in
    counted
    ∙ ap (λ l. counts_of (take first l)) all
    ∙ ap (λ k. counts_of (take k steps)) at
    ∙ ap counts_of (taken_capped n steps_cap steps (within_cap circuit checked))
    ∙ ap (λ l. counts_of (take (length (steps_before path l)) steps)) (sym (entries-listed circuit))

-- and those of the item at it
pub counted_own : (circuit : List OneItem) (path following : Path) (first end : ℕ) (all left : List Step) (own : StepCounts) → check_of (listed circuit) ≡ None → following ≡ path_after path
    → first ≡ min (length (steps_before path circuit)) steps_cap → end ≡ min (length (steps_before following circuit)) steps_cap → all ≡ unroll (listed circuit)
    → left ≡ drop first all → own ≡ counts_of (take (end - first) left)
    → own ≡ counts_of (steps_at path (listed circuit))
counted_own circuit path following first end all left own checked next at until same passed counted =
    let steps = unroll (listed circuit) in
    let n = length (steps_before path circuit) in
    let ends : end ≡ min (length (steps_before (path_after path) circuit)) steps_cap = until ∙ ap (λ (p : Path). min (length (steps_before p circuit)) steps_cap) next in
    let m = length (steps_before (path_after path) circuit) in
    counted
    ∙ ap (λ l. counts_of (take (end - first) l)) passed
    ∙ ap (λ l. counts_of (take (end - first) (drop first l))) same
    ∙ ap (λ k. counts_of (take (end - k) (drop k steps))) at
    ∙ ap (λ k. counts_of (take (k - min n steps_cap) (drop (min n steps_cap) steps))) ends
    ∙ ap counts_of (between_capped n m steps_cap steps (within_cap circuit checked))
    ∙ ap (λ l. counts_of (drop (length (steps_before path l)) (take (length (steps_before (path_after path) l)) steps))) (sym (entries-listed circuit))

-- if there is no item at a path, no line is shown
pub no_item_there : (circuit : List OneItem) (path : Path) (r : Refusal) (result : Result ReplyBytes Refusal) → IsErrAnd result (λ x. x ≡ r) → item_at path circuit ≡ Err r
    → GivesText result (text_found (λ (x : OneItem). counts_text path (listed circuit)) (item_at path circuit))
no_item_there circuit path r (Ok reply) is found = absurd is
no_item_there circuit path r (Err x) is found = inr (ap (text_found (λ (x : OneItem). counts_text path (listed circuit))) found ∙ ap Err (sym is))

-- lack of memory
pub counts_unshown : (given : Result (List ℕ) Refusal) (r : Refusal) (result : Result ReplyBytes Refusal) → IsErrAnd result (λ x. x ≡ r) → r ≡ OutOfMemory → GivesText result given
counts_unshown given r (Ok reply) is memory = absurd is
counts_unshown given r (Err x) is memory = inl (is ∙ memory)

-- if there is one, its line is
pub counts_reported : (circuit : List OneItem) (path : Path) (x : OneItem) (before own : StepCounts) (made : Result ReplyBytes Fault) (result : Result ReplyBytes Refusal) → item_at path circuit ≡ Ok x
    → before ≡ counts_of (steps_up_to path (listed circuit)) → own ≡ counts_of (steps_at path (listed circuit)) → IfOk made (λ r. r.written ≡ counts_line before own)
    → IfOk result (λ r. made ≡ Ok r) → IfErr result (λ r. r ≡ OutOfMemory) → GivesText result (text_found (λ (x : OneItem). counts_text path (listed circuit)) (item_at path circuit))
counts_reported circuit path x before own made (Ok reply) found is_before is_own written same err =
    let text : reply.written ≡ counts_line before own = subst (λ (m : Result ReplyBytes Fault). IfOk m (λ r. r.written ≡ counts_line before own)) same written in
    let counted : counts_line before own ≡ counts_line (counts_of (steps_up_to path (listed circuit))) (counts_of (steps_at path (listed circuit))) =
    ap (λ b. counts_line b own) is_before ∙ ap (λ o. counts_line (counts_of (steps_up_to path (listed circuit))) o) is_own in
    ap (text_found (λ (x : OneItem). counts_text path (listed circuit))) found ∙ ap Ok (sym (text ∙ counted))
counts_reported circuit path x before own made (Err r) found is_before is_own written same err = inl err

-- the items of a session are those of its circuit
pub counts_of_session : (circuit : List OneItem) (items : Items) (path : Path) (result : Result ReplyBytes Refusal) → listed circuit ≡ items
    → GivesText result (text_found (λ (x : OneItem). counts_text path (listed circuit)) (item_at path circuit)) → GivesText result (text_found (λ (x : OneItem). counts_text path items) (item_at path (entries items)))
counts_of_session circuit items path result same shown =
    subst (λ (x : Items). GivesText result (text_found (λ (y : OneItem). counts_text path x) (item_at path (entries x)))) same
    (subst (λ (xs : List OneItem). GivesText result (text_found (λ (x : OneItem). counts_text path (listed circuit)) (item_at path xs))) (sym (entries-listed circuit)) shown)

-- nothing refuses the circuit of a session
pub session_checked : (n : ℕ) (items others : Items) → others ≡ items → check_within n items ≡ None → check_of others ≡ None
session_checked n items others same checked = ap check_of same ∙ check-whole n items checked
