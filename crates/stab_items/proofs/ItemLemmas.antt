-- Lists of items.
use Rattle.stab_items.proofs.Names.{◌≡◌, ◌≤◌, ◌<◌, refl, ap, ◌∙◌, ℕ, zero, suc, List, [], ◌∷◌, ◌++◌, length, get_or, max, arith, Items, OneItem, operation, repeat, done, next, block, before, listed, join, depth, depth_of}

pub join_done : (xs : Items) → join xs done ≡ xs
join_done done = refl
join_done (next op rest) = ap (λ r. next op r) (join_done rest)
join_done (block c t body rest) = ap (λ r. block c t body r) (join_done rest)

pub join_assoc : (xs ys zs : Items) → join (join xs ys) zs ≡ join xs (join ys zs)
join_assoc done ys zs = refl
join_assoc (next op rest) ys zs = ap (λ r. next op r) (join_assoc rest ys zs)
join_assoc (block c t body rest) ys zs = ap (λ r. block c t body r) (join_assoc rest ys zs)

pub before-join : (x : OneItem) (xs ys : Items) → before x (join xs ys) ≡ join (before x xs) ys
before-join (operation op) xs ys = refl
before-join (repeat c t body) xs ys = refl

pub listed-append : (xs ys : List OneItem) → listed (xs ++ ys) ≡ join (listed xs) (listed ys)
listed-append [] ys = refl
listed-append (x ∷ xs) ys = ap (before x) (listed-append xs ys) ∙ before-join x (listed xs) (listed ys)

pub depth-join : (xs ys : Items) → depth (join xs ys) ≡ max (depth xs) (depth ys)
depth-join done ys = omega arith
depth-join (next op rest) ys = depth-join rest ys
depth-join (block c t body rest) ys = omega (arith, depth-join rest ys)

-- an item put after others
pub listed_pushed : (xs : List OneItem) (x : OneItem) → listed (xs ++ x ∷ []) ≡ join (listed xs) (before x done)
listed_pushed xs x = listed-append xs (x ∷ [])

-- a block in a list is nested less deep than the list
deeper : (x : OneItem) (xs : Items) → depth xs ≤ depth (before x xs)
deeper (operation op) xs = omega arith
deeper (repeat c t body) xs = omega arith

pub depth_at : (xs : List OneItem) (p : ℕ) (x : OneItem) → p < length xs → x ≡ get_or xs p x → depth_of x ≤ depth (listed xs)
depth_at [] p x h e = absurd (omega (arith, h))
depth_at (operation op ∷ xs) zero x h e = omega (arith, ap depth_of e)
depth_at (repeat c t body ∷ xs) zero x h e = omega (arith, ap depth_of e)
depth_at (y ∷ xs) (suc p) x h e = omega (arith, depth_at xs p x (omega arith) e, deeper y (listed xs))

pub no_length : (xs : List OneItem) → length xs ≡ 0 → xs ≡ []
no_length [] h = refl
no_length (x ∷ xs) h = absurd (omega (arith, h))
