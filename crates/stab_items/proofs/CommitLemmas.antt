-- Edits in blocks keep the blocks right.
use Rattle.stab_items.proofs.Names.{◌≡◌, ◌≤◌, ◌<◌, ap, sym, ◌∙◌, subst, ℕ, ◌+◌, suc, zero, max, List, [], ◌∷◌, length, set, get_or, arith, Option, Some, Result, Ok, Err, slice_get, slice_get-get_or, OnOk, OnErr, Refusal, Edit, Items, OneItem, operation, repeat, listed, before, depth, depth_of, with_body, with_item, rebuilt, edited_inside, edited_in, inner, taken_in, IsShallow, IsShallowItem}
use Rattle.stab_items.proofs.EditLemmas.{entries-listed}

pub depth-before : (x : OneItem) (xs : Items) → depth (before x xs) ≡ max (depth_of x) (depth xs)
depth-before (operation op) xs = omega arith
depth-before (repeat n tag body) xs = omega arith

depth-set : (xs : List OneItem) (b : ℕ) (x y : OneItem) → slice_get xs b ≡ Some x → depth_of y ≤ depth (listed (set xs b y))
depth-set [] b x y e = absurd (cc)
depth-set (z ∷ xs) zero x y e = omega (arith, depth-before y (listed xs))
depth-set (z ∷ xs) (suc b) x y e = omega (arith, depth-before z (listed (set xs b y)), depth-set xs b x y e)

put_shallow : (xs : List OneItem) (b : ℕ) (x : OneItem) (r : Result OneItem Refusal) → slice_get xs b ≡ Some x → IsShallow (with_item b xs r) → IsShallowItem r
put_shallow xs b x (Ok y) e h = omega (arith, depth-set xs b x y e)
put_shallow xs b x (Err r) e h = absurd h

-- a list with an item edited
edited_at : (edit : Edit) (b : ℕ) (bs blocks : List ℕ) (xs : List OneItem) (x : OneItem) → blocks ≡ b ∷ bs → slice_get xs b ≡ Some x
    → edited_in edit blocks xs ≡ with_item b xs (edited_inside (edited_in edit bs) (Some x))
edited_at edit b bs blocks xs x e f = ap (λ l. edited_in edit l xs) e ∙ ap (λ g. with_item b xs (edited_inside (edited_in edit bs) g)) f

pub allowed_at : (edit : Edit) (b : ℕ) (bs blocks : List ℕ) (xs : List OneItem) (x : OneItem) → blocks ≡ b ∷ bs → slice_get xs b ≡ Some x
    → IsShallow (edited_in edit blocks xs) → IsShallowItem (edited_inside (edited_in edit bs) (Some x))
allowed_at edit b bs blocks xs x e f h = put_shallow xs b x (edited_inside (edited_in edit bs) (Some x)) f (subst IsShallow (edited_at edit b bs blocks xs x e f) h)

pub committed_at : (r : Result (Option OneItem) Edit) (edit : Edit) (b : ℕ) (bs blocks : List ℕ) (xs : List OneItem) (x y : OneItem) → blocks ≡ b ∷ bs → slice_get xs b ≡ Some x
    → OnOk r (edited_inside (edited_in edit bs) (Some x) ≡ Ok y) → OnOk r (edited_in edit blocks xs ≡ Ok (set xs b y))
committed_at (Ok u) edit b bs blocks xs x y e f h = edited_at edit b bs blocks xs x e f ∙ ap (with_item b xs) h
committed_at (Err c) edit b bs blocks xs x y e f h = h

pub taken_through : (edit : Edit) (b : ℕ) (bs blocks : List ℕ) (xs : List OneItem) (x : OneItem) → blocks ≡ b ∷ bs → slice_get xs b ≡ Some x
    → taken_in edit blocks xs ≡ taken_in edit bs (inner (Some x))
taken_through edit b bs blocks xs x e f = ap (λ l. taken_in edit l xs) e ∙ ap (λ g. taken_in edit bs (inner g)) f

in_range : (edit : List OneItem → Result (List OneItem) Refusal) (xs zs : List OneItem) (b q : ℕ) → IsShallow (with_item q zs (edited_inside edit (slice_get xs b))) → b < length xs
in_range edit [] zs b q h = absurd h
in_range edit (x ∷ xs) zs zero q h = omega arith
in_range edit (x ∷ xs) zs (suc b) q h = omega (arith, in_range edit xs zs b q h)

pub there_at : (edit : Edit) (b : ℕ) (bs blocks : List ℕ) (xs : List OneItem) → blocks ≡ b ∷ bs → IsShallow (edited_in edit blocks xs) → b < length xs
there_at edit b bs blocks xs e h = in_range (edited_in edit bs) xs xs b b (subst (λ l. IsShallow (edited_in edit l xs)) e h)

pub found_at : (edit : Edit) (b : ℕ) (bs blocks : List ℕ) (xs : List OneItem) (x : OneItem) → blocks ≡ b ∷ bs → IsShallow (edited_in edit blocks xs) → x ≡ get_or xs b x → slice_get xs b ≡ Some x
found_at edit b bs blocks xs x e h f = slice_get-get_or xs b x (there_at edit b bs blocks xs e h) ∙ ap Some (sym f)

-- a block whose items were taken out and others put in
pub put_back : (x y z : OneItem) (ys : List OneItem) → y ≡ with_body [] x → z ≡ with_body ys y → z ≡ with_body ys x
put_back (operation op) y z ys e f = f ∙ ap (with_body ys) e
put_back (repeat n tag body) y z ys e f = f ∙ ap (with_body ys) e

-- a block whose items are edited
rebuilt_block : (edit : Edit) (bs : List ℕ) (x : OneItem) (n : ℕ) (tag : List ℕ) (xs : List OneItem) → x ≡ repeat n tag (listed xs)
    → edited_inside (edited_in edit bs) (Some x) ≡ rebuilt n tag (edited_in edit bs xs)
rebuilt_block edit bs x n tag xs e = ap (λ y. edited_inside (edited_in edit bs) (Some y)) e ∙ ap (λ l. rebuilt n tag (edited_in edit bs l)) (entries-listed xs)

shallow_body : (n : ℕ) (tag : List ℕ) (r : Result (List OneItem) Refusal) → IsShallowItem (rebuilt n tag r) → IsShallow r
shallow_body n tag (Ok ys) h = omega arith
shallow_body n tag (Err r) h = h

new_depth : (n : ℕ) (tag : List ℕ) (r : Result (List OneItem) Refusal) (ys : List OneItem) → IsShallowItem (rebuilt n tag r) → r ≡ Ok ys → depth (listed ys) ≤ 15
new_depth n tag r ys h e =
    let k : depth (listed ys) + 1 ≤ 16 = subst (λ q. IsShallowItem (rebuilt n tag q)) e h in
    omega arith

-- an edit in an item that has these items in it, and leaves a block: the items are allowed to be edited so
pub allowed_within : (edit : Edit) (bs : List ℕ) (x : OneItem) (xs : List OneItem) → x ≡ with_body xs x
    → IsShallowItem (edited_inside (edited_in edit bs) (Some x)) → IsShallow (edited_in edit bs xs)
allowed_within edit bs (operation op) xs e h = absurd h
allowed_within edit bs (repeat n tag body) xs e h =
    shallow_body n tag (edited_in edit bs xs) (subst IsShallowItem (rebuilt_block edit bs (repeat n tag body) n tag xs e) h)

-- the block with the edited items is the edited block
pub committed_within : (r : Result (Option OneItem) Edit) (edit : Edit) (bs : List ℕ) (x z : OneItem) (xs ys : List OneItem) → x ≡ with_body xs x → z ≡ with_body ys x
    → IsShallowItem (edited_inside (edited_in edit bs) (Some x)) → OnOk r (edited_in edit bs xs ≡ Ok ys) → OnOk r (edited_inside (edited_in edit bs) (Some x) ≡ Ok z)
committed_within (Ok u) edit bs (operation op) z xs ys e f h k = absurd h
committed_within (Ok u) edit bs (repeat n tag body) z xs ys e f h k =
    subst (λ (y : OneItem). edited_inside (edited_in edit bs) (Some (repeat n tag body)) ≡ Ok y) (sym f) (rebuilt_block edit bs (repeat n tag body) n tag xs e ∙ ap (rebuilt n tag) k)
committed_within (Err c) edit bs x z xs ys e f h k = k

-- the items that the edit would take out are those of its items
pub taken_within : (edit : Edit) (bs : List ℕ) (x : OneItem) (xs : List OneItem) → x ≡ with_body xs x
    → IsShallowItem (edited_inside (edited_in edit bs) (Some x)) → taken_in edit bs (inner (Some x)) ≡ taken_in edit bs xs
taken_within edit bs (operation op) xs e h = absurd h
taken_within edit bs (repeat n tag body) xs e h = ap (λ y. taken_in edit bs (inner (Some y))) e ∙ ap (taken_in edit bs) (entries-listed xs)

-- the block is as before if its items are
pub unchanged_within : (r : Result (Option OneItem) Edit) (x z : OneItem) (xs ys : List OneItem) → x ≡ with_body xs x → z ≡ with_body ys x → OnErr r (ys ≡ xs) → OnErr r (z ≡ x)
unchanged_within (Ok u) x z xs ys e f k = k
unchanged_within (Err c) x z xs ys e f k = f ∙ ap (λ l. with_body l x) k ∙ sym e

new_shallow : (edit : Edit) (bs : List ℕ) (x : OneItem) (xs ys : List OneItem) → x ≡ with_body xs x
    → IsShallowItem (edited_inside (edited_in edit bs) (Some x)) → edited_in edit bs xs ≡ Ok ys → depth (listed ys) ≤ 15
new_shallow edit bs (operation op) xs ys e h k = absurd h
new_shallow edit bs (repeat n tag body) xs ys e h k =
    new_depth n tag (edited_in edit bs xs) ys (subst IsShallowItem (rebuilt_block edit bs (repeat n tag body) n tag xs e) h) k

-- blocks are nested at most 15 deep in what comes back into the block
pub preserved_shallow : (r : Result (Option OneItem) Edit) (edit : Edit) (bs : List ℕ) (x : OneItem) (xs ys : List OneItem) → x ≡ with_body xs x
    → IsShallowItem (edited_inside (edited_in edit bs) (Some x)) → OnOk r (edited_in edit bs xs ≡ Ok ys) → OnErr r (ys ≡ xs) → depth (listed xs) ≤ 15 → depth (listed ys) ≤ 15
preserved_shallow (Ok u) edit bs x xs ys e h ok err old = new_shallow edit bs x xs ys e h ok
preserved_shallow (Err c) edit bs x xs ys e h ok err old = omega (arith, ap (λ l. depth (listed l)) err, old)
