-- Repeats: the blocks of a list, by the steps that they make.
use Rattle.stab_items.proofs.Names.{◌≡◌, ◌≤◌, ◌<◌, refl, ap, sym, ◌∙◌, subst, ℕ, ◌+◌, ◌*◌, zero, suc, min, Bool, true, false, ◌&&◌, nat_lt, if◌then◌else◌, List, [], ◌∷◌, ◌++◌, length, take, drop, arith, append_assoc, append-nil, ltb-true, length-append, drop_at, take_at, Repeat, OneItem, operation, repeat, done, before, listed, depth, Step, rounds, unroll, looks_too_far, window, IsRepeat, AreRepeats, repeated_blocks, finer, repeat_as, repeats_in}
use Rattle.stab_items.proofs.StepLemmas.{length-rounds, looks_too_far_window}
use Rattle.stab_items.proofs.FinerLemmas.{IsFiner, is-finer}
use Rattle.stab_items.proofs.WalkLemmas.{unroll_before}

-- a list without a block
repeats_flat : (first : ℕ) (xs : List OneItem) → depth (listed xs) ≡ 0 → repeats_in first xs ≡ []
repeats_flat first [] h = refl
repeats_flat first (operation op ∷ xs) h = repeats_flat (first + length (unroll (before (operation op) done))) xs h
repeats_flat first (repeat count tag body ∷ xs) h = absurd (omega (arith, h))

pub no_repeats : (deep : ℕ) (xs : List OneItem) → deep ≡ min (depth (listed xs)) 17 → deep ≡ 0 → repeats_in 0 xs ≡ []
no_repeats deep xs e h = repeats_flat 0 xs (omega (arith, e, h))

-- how many there are

one_or_none : (b : Bool) (r : Repeat) (rs : List Repeat) (n : ℕ) → length rs ≡ n → length ((if b then r ∷ [] else []) ++ rs) ≡ (if b then 1 + n else n)
one_or_none true r rs n e = omega (arith, e)
one_or_none false r rs n e = e

pub length-repeats : (first : ℕ) (xs : List OneItem) → length (repeats_in first xs) ≡ repeated_blocks (listed xs)
length-repeats first [] = refl
length-repeats first (operation op ∷ xs) = length-repeats (first + length (unroll (before (operation op) done))) xs
length-repeats first (repeat count tag body ∷ xs) =
    one_or_none (nat_lt 0 (length (unroll body)) && nat_lt 1 count) (repeat_as first (finer count body)) _ _ (length-repeats (first + length (unroll (before (repeat count tag body) done))) xs)

-- a block among the steps

below_itself : (n : ℕ) → nat_lt n n ≡ false
below_itself n = grind arith

first_round : (n : ℕ) (ss rest : List Step) → 1 < n → take (length ss) (rounds n ss ++ rest) ≡ ss
first_round zero ss rest h = absurd (omega (arith, h))
first_round (suc n) ss rest h = ap (take (length ss)) (append_assoc ss (rounds n ss) rest) ∙ take_at ss (rounds n ss ++ rest) (length ss) refl

repeated : (front ss rest : List Step) (n : ℕ) → 0 < length ss → 1 < n
    → IsRepeat (front ++ (rounds n ss ++ rest)) (repeat_as (length front) (n, ss))
repeated front ss rest n some many =
    let all = front ++ (rounds n ss ++ rest) in
    let following : drop (length front) all ≡ rounds n ss ++ rest = drop_at front (rounds n ss ++ rest) (length front) refl in
    let round : take (length ss) (drop (length front) all) ≡ ss = ap (take (length ss)) following ∙ first_round n ss rest many in
    record {
      some = some;
      many = many;
      inside = omega (arith, length-append front (rounds n ss ++ rest), length-append (rounds n ss) rest, length-rounds n ss);
      again = ap (take (n * length ss)) following ∙ take_at (rounds n ss) rest (n * length ss) (length-rounds n ss) ∙ ap (rounds n) (sym round);
      within = ap (looks_too_far (window ss)) round ∙ looks_too_far_window (window ss) ss ∙ below_itself (window ss);
    }

-- a list after some steps

later : (from n : ℕ) (all : List Step) (rs : List Repeat) → from ≤ n → AreRepeats n all rs → AreRepeats from all rs
later from n all [] h a = tt
later from n all (r ∷ rs) h a = (omega (arith, h, a.0), a.1, a.2)

block_chosen : (a b : Bool) (front ss rest : List Step) (n from following : ℕ) (f : ℕ × List Step) (rs : List Repeat) → nat_lt 0 (length ss) ≡ a → nat_lt 1 n ≡ b
    → (0 < length ss → 1 < n → IsFiner n ss f) → from ≤ length front → following ≡ length front + n * length ss
    → AreRepeats following (front ++ (rounds n ss ++ rest)) rs → AreRepeats from (front ++ (rounds n ss ++ rest)) ((if a && b then repeat_as (length front) f ∷ [] else []) ++ rs)
block_chosen true true front ss rest n from following f rs some many is h at more =
    let fine = is (ltb-true 0 (length ss) some) (ltb-true 1 n many) in
    let same : n * length ss ≡ f.0 * length f.1 = sym (length-rounds n ss) ∙ ap length (sym fine.same) ∙ length-rounds f.0 f.1 in (
      h,
      subst (λ zs. IsRepeat (front ++ (zs ++ rest)) (repeat_as (length front) f)) fine.same (repeated front f.1 rest f.0 fine.some fine.many),
      subst (λ k. AreRepeats k (front ++ (rounds n ss ++ rest)) rs) (at ∙ ap (λ k. length front + k) same) more,
    )
block_chosen true false front ss rest n from following f rs some many is h at more = later from following (front ++ (rounds n ss ++ rest)) rs (omega (arith, h, at)) more
block_chosen false b front ss rest n from following f rs some many is h at more = later from following (front ++ (rounds n ss ++ rest)) rs (omega (arith, h, at)) more

are_repeats : (front : List Step) (xs : List OneItem) (from : ℕ) → from ≤ length front → AreRepeats from (front ++ unroll (listed xs)) (repeats_in (length front) xs)
are_repeats front [] from h = tt
are_repeats front (operation op ∷ xs) from h =
    let own = unroll (before (operation op) done) in
    let len : length (front ++ own) ≡ length front + length own = length-append front own in
    let all : (front ++ own) ++ unroll (listed xs) ≡ front ++ unroll (before (operation op) (listed xs)) =
    append_assoc front own (unroll (listed xs)) ∙ ap (λ l. front ++ l) (sym (unroll_before (operation op) (listed xs))) in
    subst (λ n. AreRepeats from (front ++ unroll (before (operation op) (listed xs))) (repeats_in n xs)) len
    (subst (λ l. AreRepeats from l (repeats_in (length (front ++ own)) xs)) all
    (are_repeats (front ++ own) xs from (omega (arith, h, len))))
are_repeats front (repeat count tag body ∷ xs) from h =
    let ss = unroll body in
    let rest = unroll (listed xs) in
    let own = unroll (before (repeat count tag body) done) in
    let len : length (front ++ own) ≡ length front + length own = length-append front own in
    let some : length own ≡ count * length ss = ap length (append-nil (rounds count ss)) ∙ length-rounds count ss in
    let all : (front ++ own) ++ rest ≡ front ++ (rounds count ss ++ rest) =
    append_assoc front own rest ∙ ap (λ l. front ++ (l ++ rest)) (append-nil (rounds count ss)) in
    block_chosen (nat_lt 0 (length ss)) (nat_lt 1 count) front ss rest count from (length (front ++ own)) (finer count body) (repeats_in (length front + length own) xs) refl refl (is-finer count body) h
    (omega (arith, len, some))
    (subst (λ n. AreRepeats (length (front ++ own)) (front ++ (rounds count ss ++ rest)) (repeats_in n xs)) len
    (subst (λ l. AreRepeats (length (front ++ own)) l (repeats_in (length (front ++ own)) xs)) all
    (are_repeats (front ++ own) xs (length (front ++ own)) (omega arith))))

pub all_repeats : (xs : List OneItem) → AreRepeats 0 (unroll (listed xs)) (repeats_in 0 xs)
all_repeats xs = are_repeats [] xs 0 (omega arith)
