-- What is left to write after one of a list.
use Rattle.stab_search.proofs.Names.{◌≡◌, ℕ, suc, ◌+◌, ◌-◌, ◌<◌, refl, sym, subst, ap, ◌∙◌, arith, List, [], ◌∷◌, ◌++◌, length, drop, get_or, map, flat_map, range_with_len, Result, Refusal, OutputView, WritesAll}
use Rattle.std.proofs.Math.Seq.{drop-cons}
use Rattle.std.proofs.lemmas.Grind.{flat_map-append}

-- the texts of the items from one on: its own, and those of the items after it
pub items-left : {X : Type 0} (text : X → List ℕ) (xs : List X) (i : ℕ) (d : X) → i < length xs → flat_map text (drop i xs) ≡ text (get_or xs i d) ++ flat_map text (drop (i + 1) xs)
items-left text xs i d less =
    let next : suc i ≡ i + 1 = omega arith in
    ap (λ l. flat_map text l) (drop-cons xs i d less) ∙ ap (λ j. text (get_or xs i d) ++ flat_map text (drop j xs)) next

-- the same of items that are made of others, one of each
pub made-left : {X Y : Type 0} (text : Y → List ℕ) (made : X → Y) (xs : List X) (i : ℕ) (d : X) → i < length xs
    → flat_map text (map made (drop i xs)) ≡ text (made (get_or xs i d)) ++ flat_map text (map made (drop (i + 1) xs))
made-left text made xs i d less =
    let next : suc i ≡ i + 1 = omega arith in
    ap (λ l. flat_map text (map made l)) (drop-cons xs i d less) ∙ ap (λ j. text (made (get_or xs i d)) ++ flat_map text (map made (drop j xs))) next

-- the same of items that are made of others, several of each
pub several-left : {X Y : Type 0} (text : Y → List ℕ) (made : X → List Y) (xs : List X) (i : ℕ) (d : X) → i < length xs
    → flat_map text (flat_map made (drop i xs)) ≡ flat_map text (made (get_or xs i d)) ++ flat_map text (flat_map made (drop (i + 1) xs))
several-left text made xs i d less =
    let next : suc i ≡ i + 1 = omega arith in
    ap (λ l. flat_map text (flat_map made l)) (drop-cons xs i d less) ∙ flat_map-append text (made (get_or xs i d)) (flat_map made (drop (suc i) xs))
    ∙ ap (λ j. flat_map text (made (get_or xs i d)) ++ flat_map text (flat_map made (drop j xs))) next

-- the same of numbers up to an end
pub numbers-left : {Y : Type 0} (text : Y → List ℕ) (made : ℕ → Y) (k n : ℕ) → k < n
    → flat_map text (map made (range_with_len k (n - k))) ≡ text (made k) ++ flat_map text (map made (range_with_len (k + 1) (n - (k + 1))))
numbers-left text made k n less = ap (λ m. flat_map text (map made (range_with_len k m))) more
  where
    more : n - k ≡ suc (n - (k + 1))
    more = omega (arith, less)

-- what is written of three lists, one after another, is written of all of them
pub writes_parts : {Y : Type 0} (text : Y → List ℕ) (xs ys zs xs' ys' zs' : List Y) (a b : OutputView) (r : Result (Unit {0}) Refusal) → xs' ≡ xs → ys' ≡ ys → zs' ≡ zs
    → WritesAll a b (flat_map text xs' ++ (flat_map text ys' ++ flat_map text zs')) r → WritesAll a b (flat_map text (xs ++ (ys ++ zs))) r
writes_parts text xs ys zs xs' ys' zs' a b r same_xs same_ys same_zs written =
    subst (λ l. WritesAll a b l r)
    (ap (λ l. flat_map text l ++ (flat_map text ys' ++ flat_map text zs')) same_xs ∙ ap (λ l. flat_map text xs ++ (flat_map text l ++ flat_map text zs')) same_ys
    ∙ ap (λ l. flat_map text xs ++ (flat_map text ys ++ flat_map text l)) same_zs ∙ sym (flat_map-append text xs (ys ++ zs) ∙ ap (λ l. flat_map text xs ++ l) (flat_map-append text ys zs)))
    written
