-- Detectors that are next on a walk are taken together.
use Rattle.stab_items.proofs.Names.{◌≡◌, refl, sym, ◌∙◌, ap, ℕ, ◌+◌, zero, suc, true, List, [], ◌∷◌, ◌++◌, length, take, drop, map, Option, Some, None, arith, drop-drop, length-map, list_all, is_some, unwrap_or, Detectors, Walk, OneItem, listed, detector, detector_of, unroll, detects, lookbacks_at, lookbacks_of, kind_steps, walk_left}
use Rattle.stab_items.proofs.StepLemmas.{detector_step}
use Rattle.stab_items.proofs.EditLemmas.{steps-append}
use Rattle.stab_items.proofs.WalkLemmas.{unroll_before}
use Rattle.stab_items.proofs.PastItemLemmas.{past_items, items_taken}

found : (o : Option (List ℕ)) → is_some o ≡ true → o ≡ Some (unwrap_or o [])
found None e = absurd (cc)
found (Some ks) e = refl

all_front : (x : OneItem) (xs : List OneItem) → list_all detects (x ∷ xs) ≡ true → detects x ≡ true
all_front x xs e = grind arith

all_after : (x : OneItem) (xs : List OneItem) → list_all detects (x ∷ xs) ≡ true → list_all detects xs ≡ true
all_after x xs e = grind arith

-- each has one step
detector_steps : (xs : List OneItem) → list_all detects xs ≡ true → unroll (listed xs) ≡ map detector (map lookbacks_at xs)
detector_steps [] e = refl
detector_steps (x ∷ xs) e =
    unroll_before x (listed xs)
    ∙ ap (λ l. l ++ unroll (listed xs)) (detector_step x (lookbacks_at x) (found (detector_of x) (all_front x xs e)))
    ∙ ap (λ l. detector (lookbacks_at x) ∷ l) (detector_steps xs (all_after x xs e))

-- the front of a part of a list, and what is after it
front_of_part : {X : Type 0} (n m : ℕ) (ys : List X) → ys ≡ take n (take m ys) ++ drop (length (take n (take m ys))) ys
front_of_part zero m ys = refl
front_of_part (suc n) zero ys = refl
front_of_part (suc n) (suc m) [] = refl
front_of_part (suc n) (suc m) (y ∷ ys) = ap (λ l. y ∷ l) (front_of_part n m ys)

front_from : {X : Type 0} (xs seen ds : List X) (position most n : ℕ) → seen ≡ take most (drop position xs) → ds ≡ take n seen
    → drop position xs ≡ ds ++ drop (position + length ds) xs
front_from xs seen ds position most n part e =
    let is : take n (take most (drop position xs)) ≡ ds = sym (e ∙ ap (take n) part) in
    front_of_part n most (drop position xs)
    ∙ ap (λ l. l ++ drop (length l) (drop position xs)) is
    ∙ ap (λ l. ds ++ l) (drop-drop (length ds) position xs)

-- past them in the innermost block
pub detectors_taken : (w : Walk) (seen : List OneItem) (ds : Detectors) (most : ℕ) → drop w.within (kind_steps w.kind) ≡ []
    → seen ≡ take most (drop w.top.position w.top.items.now) → ds.items.now ≡ take (length (lookbacks_of ds)) seen
    → walk_left w ≡ map detector (lookbacks_of ds) ++ walk_left (past_items w (length (lookbacks_of ds)))
detectors_taken w seen ds most given part e =
    let xs = w.top.items.now in
    let n = length (lookbacks_of ds) in
    let following = unroll (listed (drop (w.top.position + n) xs)) in
    let cut : drop w.top.position xs ≡ ds.items.now ++ drop (w.top.position + n) xs =
    front_from xs seen ds.items.now w.top.position most n part e
    ∙ ap (λ k. ds.items.now ++ drop (w.top.position + k) xs) (sym (length-map ds.items.now lookbacks_at)) in
    let here : unroll (listed (drop w.top.position xs)) ≡ map detector (lookbacks_of ds) ++ following =
    ap (λ l. unroll (listed l)) cut ∙ steps-append ds.items.now (drop (w.top.position + n) xs) ∙ ap (λ l. l ++ following) (detector_steps ds.items.now ds.all) in
    items_taken w n (map detector (lookbacks_of ds)) given here
