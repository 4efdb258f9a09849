-- Steps that come again: lists that go on as they went on before.
use Rattle.stab_run.proofs.Names.{◌≡◌, ℕ, ◌+◌, ◌*◌, ◌≤◌, suc, zero, sym, ◌∙◌, ap, List, [], ◌++◌, length, take, drop, append_assoc, append-nil, arith, drop-drop, take-take, take_all, length-drop, length-append, take-add, take-append_seam, drop-append_seam, Step, rounds}

-- what is left after a part
pub goes-following : {X : Type 0} (n : ℕ) (xs part rest : List X) → drop n xs ≡ part ++ rest → rest ≡ drop (n + length part) xs
goes-following n xs part rest e = sym (sym (drop-drop (length part) n xs) ∙ ap (drop (length part)) e ∙ drop-append_seam part rest)

-- and what is before that
pub goes-before : {X : Type 0} (n : ℕ) (xs part rest : List X) → drop n xs ≡ part ++ rest → take (n + length part) xs ≡ take n xs ++ part
goes-before n xs part rest e = take-add n (length part) xs ∙ ap (λ l. take n xs ++ l) (ap (take (length part)) e ∙ take-append_seam part rest)

-- a part and more after it are within the list
pub goes-within : {X : Type 0} (n m : ℕ) (xs part rest : List X) → drop n xs ≡ part ++ rest → n ≤ length xs → m ≤ length rest → n + (length part + m) ≤ length xs
goes-within n m xs part rest e within more = omega (arith, ap length e, length-drop n xs, length-append part rest, within, more)

-- the same steps, and more of them after these
pub same-more : {X : Type 0} (n m : ℕ) (xs ys near far : List X) → near ≡ drop n xs → far ≡ drop n ys → take n xs ≡ take n ys → take m near ≡ take m far → take (n + m) xs ≡ take (n + m) ys
same-more n m xs ys near far e f same more =
    take-add n m xs
    ∙ ap (λ l. take n xs ++ take m l) (sym e)
    ∙ ap (λ l. take n xs ++ l) more
    ∙ ap (λ l. take n xs ++ take m l) f
    ∙ ap (λ l. l ++ take m (drop n ys)) same
    ∙ sym (take-add n m ys)

-- if nothing is left, no more can be taken
pub nothing-left : {X : Type 0} (n count : ℕ) (xs : List X) → drop n xs ≡ [] → n ≤ count → take n xs ≡ take count xs
nothing-left n count xs e le =
    let few : length xs ≤ n = omega (arith, ap length e, length-drop n xs) in
    take_all n xs few ∙ sym (take_all count xs (omega (arith, few, le)))

-- a part of a list after what was taken of it, in front of more
pub goes-over : {X : Type 0} (n : ℕ) (xs part rest left : List X) → take (length part) (drop n xs) ≡ part → left ≡ part ++ rest
    → take n xs ++ left ≡ take (n + length part) xs ++ rest
goes-over n xs part rest left same e =
    ap (λ l. take n xs ++ l) e ∙ sym (append_assoc (take n xs) part rest)
    ∙ ap (λ l. l ++ rest) (ap (λ l. take n xs ++ l) (sym same) ∙ sym (take-add n (length part) xs))

-- steps that go on, from a position on, as they went on a round before, are rounds of the same steps
pub come-again : (l m count : ℕ) (xs : List Step) → take m xs ≡ take m (drop l xs) → count * l ≤ m → take (suc count * l) xs ≡ rounds (suc count) (take l xs)
come-again l m zero xs same few = ap (λ n. take n xs) (omega arith) ∙ sym (append-nil (take l xs))
come-again l m (suc count) xs same few =
    let n = suc count * l in
    let less : count * l ≤ m = omega (arith, few) in
    let back : take n (drop l xs) ≡ take n xs =
    sym (take-take n m (drop l xs) few) ∙ ap (take n) (sym same) ∙ take-take n m xs few in
    ap (λ k. take k xs) {x = suc (suc count) * l} {y = l + n} (omega arith) ∙ take-add l n xs ∙ ap (λ ys. take l xs ++ ys) (back ∙ come-again l m count xs same less)
