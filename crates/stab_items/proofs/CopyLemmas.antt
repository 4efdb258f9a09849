-- Copies of some items of a list, after all of its items.
use Rattle.stab_items.proofs.Names.{◌≡◌, ◌≤◌, ◌<◌, refl, ap, sym, ◌∙◌, ℕ, ◌+◌, zero, suc, List, [], ◌∷◌, ◌++◌, length, take, drop, get_or, arith, append_assoc, take_more, drop-append-le, length-take-le, OneItem}

get_front : (xs ys : List OneItem) (n : ℕ) (d : OneItem) → n < length xs → get_or (xs ++ ys) n d ≡ get_or xs n d
get_front [] ys n d h = absurd (omega (arith, h))
get_front (x ∷ xs) ys zero d h = refl
get_front (x ∷ xs) ys (suc n) d h = get_front xs ys n d (omega (arith, h))

-- one item more
pub copied_more : (xs all : List OneItem) (first position : ℕ) (x : OneItem) → first ≤ position → position < length xs → all ≡ xs ++ drop first (take position xs) → x ≡ get_or all position x
    → all ++ x ∷ [] ≡ xs ++ drop first (take (position + 1) xs)
copied_more xs all first position x low high same is =
    let here : x ≡ get_or xs position x = is ∙ ap (λ l. get_or l position x) same ∙ get_front xs (drop first (take position xs)) position x high in
    let long : length (take position xs) ≡ position = length-take-le position xs (omega (arith, high)) in
    let more : drop first (take (position + 1) xs) ≡ drop first (take position xs) ++ x ∷ [] =
    ap (drop first) (take_more xs position x high)
    ∙ drop-append-le first (take position xs) (get_or xs position x ∷ []) (omega (arith, low, long))
    ∙ ap (λ y. drop first (take position xs) ++ y ∷ []) (sym here) in
    ap (λ l. l ++ x ∷ []) same ∙ append_assoc xs (drop first (take position xs)) (x ∷ []) ∙ ap (λ l. xs ++ l) (sym more)
