-- Parts that replace an item, and the split that they come to.
use Rattle.stab_items.proofs.Names.{◌≡◌, ◌≤◌, ◌<◌, refl, ap, sym, ◌∙◌, subst, ℕ, ◌+◌, ◌-◌, suc, zero, Bool, true, false, List, [], ◌∷◌, ◌++◌, length, arith, append_assoc, nat_lt, if◌then◌else◌, All, Option, Some, None, Result, Ok, Err, slice_get, length-append, All-nil, All-cons, All-head, All-tail, All-append, Refusal, PlaceOutOfRange, OutOfMemory, Fault, whole, IsCallFault, Insert, Replace, Delete, Items, OneItem, operation, repeat, listed, entries, depth, depth_of, Path, item_there, found_inside, item_in, item_at, with_item, rebuilt, edited_inside, edited, edit_refusal, taken, rounds_as_block, parts_of_block, parts_of_item, with_parts, split_in, split, refused_by, split_refusal, with_parts_at, AreAsDeep, AreBefore}
use Rattle.stab_items.proofs.ChangeLemmas.{replaced_by_last, inserted_before, are_split}
use Rattle.stab_items.proofs.DepthLemmas.{shallow_allowed, insert_allowed, replace_allowed, inserted_there, replaced_there}
use Rattle.stab_items.proofs.UndoLemmas.{insert-undone, replace-undone}

-- the parts of an item, if it is a block with such a round

pub record AreParts (round : ℕ) (item : OneItem) (parts : List OneItem) : Type 0 where
  pub count : ℕ
  pub tag : List ℕ
  pub body : Items
  pub block : item ≡ repeat count tag body
  pub within : nat_lt round count ≡ true
  pub are : parts ≡ parts_of_block round count tag body

are_parts : (round : ℕ) (item : OneItem) (parts : List OneItem) → parts_of_item round (Some item) ≡ Ok parts → AreParts round item parts
are_parts round (operation op) parts e = absurd (cc)
are_parts round (repeat count tag body) parts e = by_test (nat_lt round count) refl e
  where
    by_test : (b : Bool) → nat_lt round count ≡ b → (if b then Ok (parts_of_block round count tag body) else Err PlaceOutOfRange) ≡ Ok parts → AreParts round (repeat count tag body) parts
    by_test false t e = absurd (cc)
    by_test true t e = record { count = count; tag = tag; body = body; block = refl; within = t; are = cc }

-- each part is as deep as the block

block_deep : (n count : ℕ) (tag : List ℕ) (body : Items) → All (λ x. depth_of x ≡ depth_of (repeat count tag body)) (rounds_as_block n tag body)
block_deep zero count tag body = All-nil (λ x. depth_of x ≡ depth_of (repeat count tag body))
block_deep (suc n) count tag body =
    All-cons (λ x. depth_of x ≡ depth_of (repeat count tag body)) (repeat (suc n) tag body) [] refl (All-nil (λ x. depth_of x ≡ depth_of (repeat count tag body)))

parts_deep : (round count : ℕ) (tag : List ℕ) (body : Items) → All (λ x. depth_of x ≡ depth_of (repeat count tag body)) (parts_of_block round count tag body)
parts_deep round count tag body =
    let P : OneItem → Type 0 = λ x. depth_of x ≡ depth_of (repeat count tag body) in
    All-append P (rounds_as_block round tag body) (repeat 1 tag body ∷ rounds_as_block (count - (round + 1)) tag body) (block_deep round count tag body)
    (All-cons P (repeat 1 tag body) (rounds_as_block (count - (round + 1)) tag body) refl (block_deep (count - (round + 1)) count tag body))

pub parts_as_deep : (path : Path) (round : ℕ) (item : OneItem) (parts xs : List OneItem) → item_at path xs ≡ Ok item → parts_of_item round (Some item) ≡ Ok parts → AreAsDeep path parts xs
parts_as_deep path round item parts xs found e =
    let p = are_parts round item parts e in
    record {
      item = repeat p.count p.tag p.body;
      there = found ∙ ap Ok p.block;
      deep = subst (All (λ x. depth_of x ≡ depth_of (repeat p.count p.tag p.body))) (sym p.are) (parts_deep round p.count p.tag p.body);
    }

pub some_parts : (round : ℕ) (item : OneItem) (parts : List OneItem) → parts_of_item round (Some item) ≡ Ok parts → 0 < length parts
some_parts round item parts e =
    let p = are_parts round item parts e in
    omega (arith, ap length p.are, length-append (rounds_as_block round p.tag p.body) (repeat 1 p.tag p.body ∷ rounds_as_block (p.count - (round + 1)) p.tag p.body))

-- parts that replace the item at a path are a split
pub parts_are_split : (path : Path) (round : ℕ) (item : OneItem) (parts xs ys : List OneItem) → item_at path xs ≡ Ok item → parts_of_item round (Some item) ≡ Ok parts
    → with_parts_at path parts xs ≡ Ok ys → split path round xs ≡ Ok ys
parts_are_split path round item parts xs ys found e put =
    let p = are_parts round item parts e in
    are_split path round xs ys p.count p.tag p.body (found ∙ ap Ok p.block) p.within (ap (λ l. with_parts_at path l xs) (sym p.are) ∙ put)

-- what refuses a split

rebuilt_refused : (b count : ℕ) (tag : List ℕ) (xs : List OneItem) (r : Result (List OneItem) Refusal) → refused_by (with_item b xs (rebuilt count tag r)) ≡ refused_by r
rebuilt_refused b count tag xs (Ok ys) = refl
rebuilt_refused b count tag xs (Err r) = refl

parts_refused : (position : ℕ) (xs : List OneItem) (r : Result (List OneItem) Refusal) → refused_by (with_parts position xs r) ≡ refused_by r
parts_refused position xs (Ok ys) = refl
parts_refused position xs (Err r) = refl

-- what the item comes to, or what its path is refused by
abbrev refusal_there : ℕ → Result OneItem Refusal → Option Refusal
refusal_there round (Ok x) = refused_by (parts_of_item round (Some x))
refusal_there round (Err r) = Some r

refused_there : (round : ℕ) (bs : List ℕ) (position : ℕ) (xs : List OneItem) → refused_by (split_in round bs position xs) ≡ refusal_there round (item_in bs position xs)
refused_there round [] position xs = parts_refused position xs (parts_of_item round (slice_get xs position)) ∙ by_item (slice_get xs position)
  where
    by_item : (o : Option OneItem) → refused_by (parts_of_item round o) ≡ refusal_there round (item_there o)
    by_item None = refl
    by_item (Some x) = refl
refused_there round (b ∷ bs) position xs = by_item (slice_get xs b) (λ ys. refused_there round bs position ys)
  where
    by_item : (o : Option OneItem) → ((ys : List OneItem) → refused_by (split_in round bs position ys) ≡ refusal_there round (item_in bs position ys))
        → refused_by (with_item b xs (edited_inside (split_in round bs position) o)) ≡ refusal_there round (found_inside (item_in bs position) o)
    by_item None inside = refl
    by_item (Some (operation op)) inside = refl
    by_item (Some (repeat count tag body)) inside = rebuilt_refused b count tag xs (split_in round bs position (entries body)) ∙ inside (entries body)

pub path_refused : (path : Path) (round : ℕ) (xs : List OneItem) (r : Refusal) (f : Fault) → item_at path xs ≡ Err r → f ≡ whole r → IsCallFault (split_refusal path round xs) f
path_refused path round xs r f e h = subst (λ v. IsCallFault v f) (sym (refused_there round path.blocks path.position xs ∙ ap (refusal_there round) e)) h

pub item_refused : (path : Path) (round : ℕ) (xs : List OneItem) (item : OneItem) (f : Fault) → item_at path xs ≡ Ok item
    → IsCallFault (refused_by (parts_of_item round (Some item))) f → IsCallFault (split_refusal path round xs) f
item_refused path round xs item f e h = subst (λ v. IsCallFault v f) (sym (refused_there round path.blocks path.position xs ∙ ap (refusal_there round) e)) h

pub memory_refused : (path : Path) (round : ℕ) (xs : List OneItem) (item : OneItem) (parts : List OneItem) (f : Fault) → item_at path xs ≡ Ok item
    → parts_of_item round (Some item) ≡ Ok parts → f ≡ whole OutOfMemory → IsCallFault (split_refusal path round xs) f
memory_refused path round xs item parts f e p h = item_refused path round xs item f e (subst (λ v. IsCallFault v f) (sym (ap refused_by p)) h)

-- a part after others

last_deep : (P : OneItem → Type 0) (rest : List OneItem) (x : OneItem) → All P (rest ++ x ∷ []) → P x
last_deep P [] x a = All-head P x [] a
last_deep P (y ∷ rest) x a = last_deep P rest x (All-tail P y (rest ++ x ∷ []) a)

rest_deep : (P : OneItem → Type 0) (rest : List OneItem) (x : OneItem) → All P (rest ++ x ∷ []) → All P rest
rest_deep P [] x a = All-nil P
rest_deep P (y ∷ rest) x a = All-cons P y rest (All-head P y (rest ++ x ∷ []) a) (rest_deep P rest x (All-tail P y (rest ++ x ∷ []) a))

all_deep : (rest : List OneItem) (x y : OneItem) → depth_of x ≡ depth_of y → All (λ z. depth_of z ≡ depth_of y) rest → All (λ z. depth_of z ≡ depth_of x) rest
all_deep [] x y e a = All-nil (λ z. depth_of z ≡ depth_of x)
all_deep (z ∷ rest) x y e a =
    let P : OneItem → Type 0 = λ z. depth_of z ≡ depth_of y in
    All-cons (λ z. depth_of z ≡ depth_of x) z rest (All-head P z rest a ∙ sym e) (all_deep rest x y e (All-tail P z rest a))

module _ (path : Path) (parts rest : List OneItem) (x : OneItem) (xs : List OneItem) (is : parts ≡ rest ++ x ∷ []) (a : AreAsDeep path parts xs) where
  each : All (λ z. depth_of z ≡ depth_of a.item) (rest ++ x ∷ [])
  each = subst (All (λ z. depth_of z ≡ depth_of a.item)) is a.deep

  same : depth_of x ≡ depth_of a.item
  same = last_deep (λ z. depth_of z ≡ depth_of a.item) rest x each

  others : All (λ z. depth_of z ≡ depth_of x) rest
  others = all_deep rest x a.item same (rest_deep (λ z. depth_of z ≡ depth_of a.item) rest x each)

  pub insert_let : depth (listed xs) ≤ 16 → edit_refusal (Insert path x) xs ≡ None
  insert_let h = insert_allowed path x a.item xs a.there same h

  pub replace_let : depth (listed xs) ≤ 16 → edit_refusal (Replace path x) xs ≡ None
  replace_let h = replace_allowed path x a.item xs a.there same h

  pub deep_inserted : (ys : List OneItem) → edited (Insert path x) xs ≡ Ok ys → AreAsDeep path rest ys
  deep_inserted ys e = record { item = x; there = inserted_there path x xs ys e; deep = others }

  pub deep_replaced : (ys : List OneItem) → edited (Replace path x) xs ≡ Ok ys → AreAsDeep path rest ys
  deep_replaced ys e = record { item = x; there = replaced_there path x xs ys e; deep = others }

pub one_before : (path : Path) (parts rest : List OneItem) (x : OneItem) (xs ys zs : List OneItem) → parts ≡ rest ++ x ∷ [] → edited (Insert path x) xs ≡ Ok ys
    → AreBefore path rest ys zs → AreBefore path parts xs zs
one_before path parts rest x xs ys zs is e a = record {
  put = λ others old h. ap (λ l. with_parts_at path l old) (ap (λ l. l ++ others) is ∙ append_assoc rest (x ∷ []) others)
      ∙ a.put (x ∷ others) old (inserted_before path x others old xs ys h e);
}

pub all_put : (path : Path) (parts rest : List OneItem) (x : OneItem) (xs ys zs : List OneItem) → parts ≡ rest ++ x ∷ [] → edited (Replace path x) xs ≡ Ok ys
    → AreBefore path rest ys zs → with_parts_at path parts xs ≡ Ok zs
all_put path parts rest x xs ys zs is e a = ap (λ l. with_parts_at path l xs) is ∙ a.put (x ∷ []) xs (replaced_by_last path x xs ys e)

-- edits taken back, which nothing refuses

pub delete_let : (path : Path) (x : OneItem) (xs ys : List OneItem) → edited (Insert path x) xs ≡ Ok ys → depth (listed xs) ≤ 16 → edit_refusal (Delete path) ys ≡ None
delete_let path x xs ys e h = shallow_allowed (edited (Delete path) ys) xs (insert-undone path x xs ys e) h

pub deleted_back : (path : Path) (x : OneItem) (xs ys zs : List OneItem) → edited (Insert path x) xs ≡ Ok ys → edited (Delete path) ys ≡ Ok zs → zs ≡ xs
deleted_back path x xs ys zs e f = let both : Ok zs ≡ Ok xs = sym f ∙ insert-undone path x xs ys e in cc

pub put_back_let : (path : Path) (x old : OneItem) (xs ys : List OneItem) → edited (Replace path x) xs ≡ Ok ys → taken (Replace path x) xs ≡ Some old → depth (listed xs) ≤ 16
    → edit_refusal (Replace path old) ys ≡ None
put_back_let path x old xs ys e t h = shallow_allowed (edited (Replace path old) ys) xs (replace-undone path x old xs ys e t) h

pub put_back : (path : Path) (x old : OneItem) (xs ys zs : List OneItem) → edited (Replace path x) xs ≡ Ok ys → taken (Replace path x) xs ≡ Some old → edited (Replace path old) ys ≡ Ok zs → zs ≡ xs
put_back path x old xs ys zs e t f = let both : Ok zs ≡ Ok xs = sym f ∙ replace-undone path x old xs ys e t in cc
