-- Changes of an inner list, one after another, and which of them come to a split.
use Rattle.stab_items.proofs.Names.{◌≡◌, ◌≤◌, ◌<◌, refl, ap, sym, ◌∙◌, ℕ, ◌+◌, suc, zero, Bool, true, false, List, [], ◌∷◌, ◌++◌, length, take, drop, set, arith, nat_lt, nat_le, if◌then◌else◌, Option, Some, None, Result, Ok, Err, slice_get, insert, set-set, set_split, take_at, drop_at, length-take-le, length-append, slice_get_within, Refusal, PlaceOutOfRange, Edit, Insert, Replace, Items, OneItem, operation, repeat, listed, entries, Path, item_there, found_inside, item_in, with_item, rebuilt, edited_inside, changed, edited_in, edited, ListChange, changed_in, parts_at, parts_of_block, parts_of_item, with_parts, split_in, split}
use Rattle.stab_items.proofs.EditLemmas.{entries-listed, rebuilds, if_ok, lt_holds}

pub got_set : (xs : List OneItem) (b : ℕ) (x y : OneItem) → slice_get xs b ≡ Some x → slice_get (set xs b y) b ≡ Some y
got_set [] b x y e = absurd (cc)
got_set (z ∷ xs) zero x y e = refl
got_set (z ∷ xs) (suc b) x y e = got_set xs b x y e

with_set : (xs : List OneItem) (b : ℕ) (x : OneItem) (r : Result OneItem Refusal) → with_item b (set xs b x) r ≡ with_item b xs r
with_set xs b x (Ok y) = ap Ok (set-set xs b x y)
with_set xs b x (Err r) = refl

-- first one change and then another is a third one, if that holds for each list
then_changed : (f g h : ListChange) → ((xs ys : List OneItem) → f xs ≡ Ok ys → g ys ≡ h xs) → (bs : List ℕ) (xs ys : List OneItem) → changed_in f bs xs ≡ Ok ys → changed_in g bs ys ≡ changed_in h bs xs
then_changed f g h law [] xs ys e = law xs ys e
then_changed f g h law (b ∷ bs) xs ys e =
    let r = rebuilds (changed_in f bs) b xs ys (slice_get xs b) refl e in
    let new = repeat r.count r.tag (listed r.within) in
    let found : slice_get ys b ≡ Some new = ap (λ l. slice_get l b) r.same ∙ got_set xs b (repeat r.count r.tag r.body) new r.found in
    let inside : changed_in g bs (entries (listed r.within)) ≡ changed_in h bs (entries r.body) =
    ap (changed_in g bs) (entries-listed r.within) ∙ then_changed f g h law bs (entries r.body) r.within r.edited in
    ap (λ o. with_item b ys (edited_inside (changed_in g bs) o)) found
    ∙ ap (λ c. with_item b ys (rebuilt r.count r.tag c)) inside
    ∙ ap (λ l. with_item b l (rebuilt r.count r.tag (changed_in h bs (entries r.body)))) r.same
    ∙ with_set xs b new (rebuilt r.count r.tag (changed_in h bs (entries r.body)))
    ∙ ap (λ o. with_item b xs (edited_inside (changed_in h bs) o)) (sym r.found)

-- a change that is the same for each list is the same in blocks
same_changed : (f h : ListChange) → ((xs : List OneItem) → f xs ≡ h xs) → (bs : List ℕ) (xs : List OneItem) → changed_in f bs xs ≡ changed_in h bs xs
same_changed f h law [] xs = law xs
same_changed f h law (b ∷ bs) xs = by_item (slice_get xs b) (λ ys. same_changed f h law bs ys)
  where
    by_item : (o : Option OneItem) → ((ys : List OneItem) → changed_in f bs ys ≡ changed_in h bs ys)
        → with_item b xs (edited_inside (changed_in f bs) o) ≡ with_item b xs (edited_inside (changed_in h bs) o)
    by_item None same = refl
    by_item (Some (operation op)) same = refl
    by_item (Some (repeat count tag body)) same = ap (λ c. with_item b xs (rebuilt count tag c)) (same (entries body))

-- edits are such changes
edit_changed : (e : Edit) (bs : List ℕ) (xs : List OneItem) → edited_in e bs xs ≡ changed_in (changed e) bs xs
edit_changed e [] xs = refl
edit_changed e (b ∷ bs) xs = by_item (slice_get xs b) (λ ys. edit_changed e bs ys)
  where
    by_item : (o : Option OneItem) → ((ys : List OneItem) → edited_in e bs ys ≡ changed_in (changed e) bs ys)
        → with_item b xs (edited_inside (edited_in e bs) o) ≡ with_item b xs (edited_inside (changed_in (changed e) bs) o)
    by_item None same = refl
    by_item (Some (operation op)) same = refl
    by_item (Some (repeat count tag body)) same = ap (λ c. with_item b xs (rebuilt count tag c)) (same (entries body))

-- one part
one_part : (place : Path) (x : OneItem) (xs : List OneItem) → changed (Replace place x) xs ≡ parts_at place.position (x ∷ []) xs
one_part place x xs = by_test (nat_lt place.position (length xs)) refl
  where
    by_test : (b : Bool) → nat_lt place.position (length xs) ≡ b
        → (if b then Ok (set xs place.position x) else Err PlaceOutOfRange) ≡ (if b then Ok (take place.position xs ++ (x ∷ drop (place.position + 1) xs)) else Err PlaceOutOfRange)
    by_test false t = refl
    by_test true t = ap Ok (set_split xs place.position x (lt_holds place.position (length xs) t) ∙ ap (λ n. take place.position xs ++ x ∷ drop n xs) {x = suc place.position} {y = place.position + 1} (omega arith))

le_true : (m n : ℕ) → m ≤ n → nat_le m n ≡ true
le_true m n le = grind arith

within_parts : (position : ℕ) (xs rest : List OneItem) → position ≤ length xs → nat_le position (length (take position xs ++ rest)) ≡ true
within_parts position xs rest le = le_true position (length (take position xs ++ rest)) (omega (arith, length-append (take position xs) rest, length-take-le position xs le))

-- one part more in front of others
part_more : (place : Path) (x : OneItem) (parts xs ys : List OneItem) → parts_at place.position parts xs ≡ Ok ys → changed (Insert place x) ys ≡ parts_at place.position (x ∷ parts) xs
part_more place x parts xs ys e =
    let p = place.position in
    let rest = parts ++ drop (p + 1) xs in
    let h = if_ok (nat_lt p (length xs)) (take p xs ++ rest) ys PlaceOutOfRange e in
    let lt = lt_holds p (length xs) h.0 in
    let long : length (take p xs) ≡ p = length-take-le p xs (omega (arith, lt)) in
    let put : insert (take p xs ++ rest) p x ≡ take p xs ++ (x ∷ rest) =
    ap (λ l. l ++ x ∷ drop p (take p xs ++ rest)) (take_at (take p xs) rest p long) ∙ ap (λ l. take p xs ++ x ∷ l) (drop_at (take p xs) rest p long) in
    ap (λ l. if nat_le p (length l) then Ok (insert l p x) else Err PlaceOutOfRange) (sym h.1)
    ∙ ap (λ b. if b then Ok (insert (take p xs ++ rest) p x) else Err PlaceOutOfRange) (within_parts p xs rest (omega (arith, lt)))
    ∙ ap Ok put
    ∙ sym (ap (λ b. if b then Ok (take p xs ++ ((x ∷ parts) ++ drop (p + 1) xs)) else Err PlaceOutOfRange) h.0)

got_within : (xs : List OneItem) (p : ℕ) (x : OneItem) → slice_get xs p ≡ Some x → nat_lt p (length xs) ≡ true
got_within xs p x e = let lt = slice_get_within xs p x e in lt_true p (length xs) lt
  where
    lt_true : (m n : ℕ) → m < n → nat_lt m n ≡ true
    lt_true m n lt = grind arith

-- a split puts the parts of the block at the position there
split_parts : (round : ℕ) (bs : List ℕ) (position : ℕ) (xs : List OneItem) (count : ℕ) (tag : List ℕ) (body : Items) → item_in bs position xs ≡ Ok (repeat count tag body) → nat_lt round count ≡ true
    → split_in round bs position xs ≡ changed_in (parts_at position (parts_of_block round count tag body)) bs xs
split_parts round [] position xs count tag body found lt = by_item (slice_get xs position) refl found
  where
    parts : List OneItem
    parts = parts_of_block round count tag body

    by_item : (o : Option OneItem) → slice_get xs position ≡ o → item_there o ≡ Ok (repeat count tag body)
        → with_parts position xs (parts_of_item round o) ≡ (if nat_lt position (length xs) then Ok (take position xs ++ (parts ++ drop (position + 1) xs)) else Err PlaceOutOfRange)
    by_item None e f = absurd (cc)
    by_item (Some x) e f =
        let same : x ≡ repeat count tag body = cc in
        ap (λ (y : OneItem). with_parts position xs (parts_of_item round (Some y))) same
        ∙ ap (λ b. with_parts position xs (if b then Ok parts else Err PlaceOutOfRange)) lt
        ∙ sym (ap (λ b. if b then Ok (take position xs ++ (parts ++ drop (position + 1) xs)) else Err PlaceOutOfRange) (got_within xs position x e))
split_parts round (b ∷ bs) position xs count tag body found lt = by_item (slice_get xs b) found (λ ys f. split_parts round bs position ys count tag body f lt)
  where
    by_item : (o : Option OneItem) → found_inside (item_in bs position) o ≡ Ok (repeat count tag body)
        → ((ys : List OneItem) → item_in bs position ys ≡ Ok (repeat count tag body) → split_in round bs position ys ≡ changed_in (parts_at position (parts_of_block round count tag body)) bs ys)
        → with_item b xs (edited_inside (split_in round bs position) o) ≡ with_item b xs (edited_inside (changed_in (parts_at position (parts_of_block round count tag body)) bs) o)
    by_item None f same = absurd (cc)
    by_item (Some (operation op)) f same = absurd (cc)
    by_item (Some (repeat c t inside)) f same = ap (λ r. with_item b xs (rebuilt c t r)) (same (entries inside) f)

-- the last part, which replaces the block, and each part before it, put in there, are a split
pub replaced_by_last : (place : Path) (x : OneItem) (xs ys : List OneItem) → edited (Replace place x) xs ≡ Ok ys → changed_in (parts_at place.position (x ∷ [])) place.blocks xs ≡ Ok ys
replaced_by_last place x xs ys e =
    sym (same_changed (changed (Replace place x)) (parts_at place.position (x ∷ [])) (λ l. one_part place x l) place.blocks xs) ∙ (sym (edit_changed (Replace place x) place.blocks xs) ∙ e)

pub inserted_before : (place : Path) (x : OneItem) (parts xs ys zs : List OneItem) → changed_in (parts_at place.position parts) place.blocks xs ≡ Ok ys → edited (Insert place x) ys ≡ Ok zs
    → changed_in (parts_at place.position (x ∷ parts)) place.blocks xs ≡ Ok zs
inserted_before place x parts xs ys zs e f =
    sym (then_changed (parts_at place.position parts) (changed (Insert place x)) (parts_at place.position (x ∷ parts)) (λ l m g. part_more place x parts l m g) place.blocks xs ys e)
    ∙ (sym (edit_changed (Insert place x) place.blocks ys) ∙ f)

pub are_split : (place : Path) (round : ℕ) (xs ys : List OneItem) (count : ℕ) (tag : List ℕ) (body : Items) → item_in place.blocks place.position xs ≡ Ok (repeat count tag body) → nat_lt round count ≡ true
    → changed_in (parts_at place.position (parts_of_block round count tag body)) place.blocks xs ≡ Ok ys → split place round xs ≡ Ok ys
are_split place round xs ys count tag body found lt e = split_parts round place.blocks place.position xs count tag body found lt ∙ e
