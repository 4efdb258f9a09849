-- Leaving out steps of nested blocks.
use Rattle.stab_items.proofs.Names.{◌≡◌, ◌≤◌, ◌<◌, refl, ap, sym, ◌∙◌, ℕ, ◌+◌, ◌*◌, ◌-◌, zero, suc, min, List, [], ◌++◌, length, drop, arith, append_assoc, None, drop-append-add, Walk, Items, Step, rounds, unroll, kind_steps, ahead, walk_left, SameKind}
use Rattle.stab_items.proofs.StepLemmas.{length-rounds}
use Rattle.stab_items.proofs.WalkLemmas.{more_rounds}

drop_none : (n : ℕ) → ◌≡◌ {A = List Step} (drop n []) []
drop_none zero = refl
drop_none (suc n) = refl

-- some rounds, and then the others
rounds_cut : (c k : ℕ) (ss : List Step) → k ≤ c → rounds c ss ≡ rounds k ss ++ rounds (c - k) ss
rounds_cut c zero ss h = let e : c ≡ c - 0 = omega arith in ap (λ n. rounds n ss) e
rounds_cut zero (suc k) ss h = absurd (omega arith)
rounds_cut (suc c) (suc k) ss h =
    let e : c - k ≡ suc c - suc k = omega arith in
    let h' : k ≤ c = omega arith in
    ap (λ l. ss ++ l) (rounds_cut c k ss h' ∙ ap (λ n. rounds k ss ++ rounds n ss) e) ∙ sym (append_assoc ss (rounds k ss) (rounds (suc c - suc k) ss))

-- a number that stops growing is right if it hasn't
exact_times : (k n left rest : ℕ) → left ≡ k * min n 1048577 + rest → left ≤ 1048576 → k * min n 1048577 ≡ k * n
exact_times zero n left rest e h = omega arith
exact_times (suc k) n left rest e h =
    let small : min n 1048577 ≤ 1048576 = omega arith in
    let same : min n 1048577 ≡ n = omega arith in
    ap (λ m. suc k * m) same

jumps : (c k steps count rest : ℕ) (ss others : List Step) → k ≤ c → steps ≡ min (length ss) 1048577 → count ≡ k * steps + rest → count ≤ 1048576
    → drop count (rounds c ss ++ others) ≡ drop rest (rounds (c - k) ss ++ others)
jumps c k steps count rest ss others h stored e few =
    let cut : count ≡ k * min (length ss) 1048577 + rest = e ∙ ap (λ x. k * x + rest) stored in
    let at : count ≡ length (rounds k ss) + rest = cut ∙ ap (λ n. n + rest) (exact_times k (length ss) count rest cut few ∙ sym (length-rounds k ss)) in
    ap (λ l. drop count (l ++ others)) (rounds_cut c k ss h)
    ∙ ap (drop count) (append_assoc (rounds k ss) (rounds (c - k) ss) others)
    ∙ ap (λ n. drop n (rounds k ss ++ (rounds (c - k) ss ++ others))) at
    ∙ drop-append-add (rounds k ss) (rounds (c - k) ss ++ others) rest

-- no instruction is under way
pub no_kind_left : (w : Walk) → w.kind ≡ None → walk_left w ≡ ahead w
no_kind_left w e = ap (λ k. drop w.within (kind_steps k) ++ ahead w) e ∙ ap (λ l. l ++ ahead w) (drop_none w.within)

same_no_kind : (old new : Walk) → SameKind old new → old.kind ≡ None → new.kind ≡ None
same_no_kind old new s e = s.kind ∙ e

-- past an instruction
pub passes_steps : (w : Walk) (steps : List Step) (n count : ℕ) → w.kind ≡ None → n ≡ length steps → n ≤ count → drop (count - n) (walk_left w) ≡ drop count (steps ++ ahead w)
passes_steps w steps n count no_kind len enough =
    let at : length steps + (count - n) ≡ count = omega arith in
    ap (drop (count - n)) (no_kind_left w no_kind) ∙ sym (drop-append-add steps (ahead w) (count - n)) ∙ ap (λ k. drop k (steps ++ ahead w)) at

-- into a block
pub jumps_in : (a c : Walk) (rs k steps count rest : ℕ) (body : Items) → a.kind ≡ None → SameKind a c → k ≤ rs → steps ≡ min (length (unroll body)) 1048577 → count ≡ k * steps + rest → count ≤ 1048576 → k < rs
    → ahead c ≡ (unroll body ++ rounds (rs - k - 1) (unroll body)) ++ ahead a → drop rest (walk_left c) ≡ drop count (rounds rs (unroll body) ++ ahead a)
jumps_in a c rs k steps count rest body no_kind s h stored cut few some left =
    let pos : 0 < rs - k = omega arith in
    ap (drop rest) (no_kind_left c (same_no_kind a c s no_kind) ∙ left ∙ ap (λ l. l ++ ahead a) (sym (more_rounds (rs - k) (unroll body) pos)))
    ∙ sym (jumps rs k steps count rest (unroll body) (ahead a) h stored cut few)

-- past a block
pub jumps_past : (a : Walk) (rs k steps count rest : ℕ) (body : Items) → a.kind ≡ None → k ≤ rs → steps ≡ min (length (unroll body)) 1048577 → count ≡ k * steps + rest → count ≤ 1048576 → rs ≤ k
    → drop rest (walk_left a) ≡ drop count (rounds rs (unroll body) ++ ahead a)
jumps_past a rs k steps count rest body no_kind h stored cut few all =
    let none : rs - k ≡ 0 = omega arith in
    ap (drop rest) (no_kind_left a no_kind ∙ ap (λ n. rounds n (unroll body) ++ ahead a) (sym none))
    ∙ sym (jumps rs k steps count rest (unroll body) (ahead a) h stored cut few)

-- all steps were left out that there are
pub skipped_all : (begun left now : List Step) (count n : ℕ) → drop n left ≡ drop count begun → left ≡ [] → now ≡ [] → now ≡ drop count begun
skipped_all begun left now count n e none empty = empty ∙ sym (ap (drop n) none ∙ drop_none n) ∙ e

pub skipped : (begun left : List Step) (count n : ℕ) → drop n left ≡ drop count begun → n ≤ 0 → left ≡ drop count begun
skipped begun left count n e h = let none : 0 ≡ n = omega arith in ap (λ k. drop k left) none ∙ e
