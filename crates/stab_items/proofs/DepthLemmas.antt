-- Edits at an item that put in one with blocks nested no deeper: they nest no block deeper in the list, and nothing refuses them.
use Rattle.stab_items.proofs.Names.{◌≡◌, ◌≤◌, ◌<◌, refl, ap, ◌∙◌, ℕ, suc, max, true, false, List, [], ◌∷◌, ◌++◌, length, take, drop, set, arith, nat_le, nat_lt, if◌then◌else◌, Option, Some, None, Result, Ok, Err, slice_get, insert, take-append-drop, set_split, slice_get_within, Refusal, PlaceOutOfRange, TooDeep, Edit, Insert, Replace, OneItem, operation, repeat, listed, entries, depth, depth_of, Path, item_there, found_inside, item_in, item_at, with_item, rebuilt, edited_inside, changed, edited_in, edited, edit_refusal, list_refusal}
use Rattle.stab_items.proofs.EditLemmas.{listed-entries, entries-listed, rebuilds, got_split}
use Rattle.stab_items.proofs.CommitLemmas.{depth-before}
use Rattle.stab_items.proofs.SplitLemmas.{depth-append}
use Rattle.stab_items.proofs.UndoLemmas.{put_at, replaced_at}
use Rattle.stab_items.proofs.ChangeLemmas.{got_set}

depth-around : (front back : List OneItem) (x : OneItem) → depth (listed (front ++ x ∷ back)) ≡ max (depth (listed front)) (max (depth_of x) (depth (listed back)))
depth-around front back x = depth-append front (x ∷ back) ∙ ap (λ n. max (depth (listed front)) n) (depth-before x (listed back))

-- an item instead of one that is as deep
in_stead : (front back : List OneItem) (x y : OneItem) → depth_of x ≤ depth_of y → depth (listed (front ++ x ∷ back)) ≤ depth (listed (front ++ y ∷ back))
in_stead front back x y h = omega (arith, depth-around front back x, depth-around front back y)

stead_set : (xs : List OneItem) (b : ℕ) (x y : OneItem) → slice_get xs b ≡ Some y → depth_of x ≤ depth_of y → depth (listed (set xs b x)) ≤ depth (listed xs)
stead_set xs b x y e h =
    let back = drop (suc b) xs in
    let old : xs ≡ take b xs ++ y ∷ back = got_split xs b y e in
    let new : set xs b x ≡ take b xs ++ x ∷ back = set_split xs b x (slice_get_within xs b y e) in
    omega (arith, ap (λ l. depth (listed l)) old, ap (λ l. depth (listed l)) new, in_stead (take b xs) back x y h)

-- a change that gives a list with blocks nested no deeper
pub record IsNoDeeper (changed : Result (List OneItem) Refusal) (xs : List OneItem) : Type 0 where
  pub new : List OneItem
  pub is : changed ≡ Ok new
  pub depth : depth (listed new) ≤ depth (listed xs)

lt_true : (m n : ℕ) → m < n → nat_lt m n ≡ true
lt_true m n h = grind arith

le_true : (m n : ℕ) → m < n → nat_le m n ≡ true
le_true m n h = grind arith

there : (o : Option OneItem) (y : OneItem) → item_there o ≡ Ok y → o ≡ Some y
there None y e = absurd (cc)
there (Some z) y e = ap Some {x = z} {y = y} (cc)

insert_at : (at : Path) (x y : OneItem) (us : List OneItem) → slice_get us at.position ≡ Some y → depth_of x ≤ depth_of y → IsNoDeeper (changed (Insert at x) us) us
insert_at at x y us e h =
    let p = at.position in
    let rest = drop (suc p) us in
    let old : us ≡ take p us ++ y ∷ rest = got_split us p y e in
    let within : p < length us = slice_get_within us p y e in
    record {
      new = insert us p x;
      is = ap (λ b. if b then Ok (insert us p x) else Err PlaceOutOfRange) (le_true p (length us) within);
      depth =
          omega (
            arith,
            depth-around (take p us) (drop p us) x,
            ap (λ l. depth (listed l)) (take-append-drop p us),
            depth-append (take p us) (drop p us),
            ap (λ l. depth (listed l)) old,
            depth-around (take p us) rest y,
            h,
          );
    }

replace_at : (at : Path) (x y : OneItem) (us : List OneItem) → slice_get us at.position ≡ Some y → depth_of x ≤ depth_of y → IsNoDeeper (changed (Replace at x) us) us
replace_at at x y us e h =
    let p = at.position in
    let within : p < length us = slice_get_within us p y e in
    record {
      new = set us p x;
      is = ap (λ b. if b then Ok (set us p x) else Err PlaceOutOfRange) (lt_true p (length us) within);
      depth = stead_set us p x y e h;
    }

-- the edit is none deeper along each path
in_blocks : (edit : Edit) (position : ℕ) (x : OneItem)
    → ((us : List OneItem) (y : OneItem) → slice_get us position ≡ Some y → depth_of x ≤ depth_of y → IsNoDeeper (changed edit us) us)
    → (bs : List ℕ) (xs : List OneItem) (y : OneItem) → item_in bs position xs ≡ Ok y → depth_of x ≤ depth_of y → IsNoDeeper (edited_in edit bs xs) xs
in_blocks edit position x base [] xs y e h = base xs y (there (slice_get xs position) y e) h
in_blocks edit position x base (b ∷ bs) xs y e h = by_item (slice_get xs b) refl e (λ us f. in_blocks edit position x base bs us y f h)
  where
    by_item : (o : Option OneItem) → slice_get xs b ≡ o → found_inside (item_in bs position) o ≡ Ok y
        → ((us : List OneItem) → item_in bs position us ≡ Ok y → IsNoDeeper (edited_in edit bs us) us)
        → IsNoDeeper (with_item b xs (edited_inside (edited_in edit bs) o)) xs
    by_item None f g inside = absurd (cc)
    by_item (Some (operation op)) f g inside = absurd (cc)
    by_item (Some (repeat count tag body)) f g inside =
        let r = inside (entries body) g in
        let less : depth_of (repeat count tag (listed r.new)) ≤ depth_of (repeat count tag body) = omega (arith, r.depth, ap depth (listed-entries body)) in
        record {
          new = set xs b (repeat count tag (listed r.new));
          is = ap (λ c. with_item b xs (rebuilt count tag c)) r.is;
          depth = stead_set xs b (repeat count tag (listed r.new)) (repeat count tag body) f less;
        }

insert_no_deeper : (at : Path) (x y : OneItem) (xs : List OneItem) → item_at at xs ≡ Ok y → depth_of x ≤ depth_of y → IsNoDeeper (edited (Insert at x) xs) xs
insert_no_deeper at x y xs e h = in_blocks (Insert at x) at.position x (λ us z f g. insert_at at x z us f g) at.blocks xs y e h

replace_no_deeper : (at : Path) (x y : OneItem) (xs : List OneItem) → item_at at xs ≡ Ok y → depth_of x ≤ depth_of y → IsNoDeeper (edited (Replace at x) xs) xs
replace_no_deeper at x y xs e h = in_blocks (Replace at x) at.position x (λ us z f g. replace_at at x z us f g) at.blocks xs y e h

-- what leaves a list that is nested at most 16 deep is not refused
not_deep : (n : ℕ) → n ≤ 16 → nat_lt 16 n ≡ false
not_deep n h = grind arith

pub shallow_allowed : (q : Result (List OneItem) Refusal) (ys : List OneItem) → q ≡ Ok ys → depth (listed ys) ≤ 16 → list_refusal q ≡ None
shallow_allowed q ys e h = ap list_refusal e ∙ ap (λ b. if b then Some TooDeep else None) (not_deep (depth (listed ys)) h)

no_deeper_allowed : (q : Result (List OneItem) Refusal) (xs : List OneItem) → IsNoDeeper q xs → depth (listed xs) ≤ 16 → list_refusal q ≡ None
no_deeper_allowed q xs d h = shallow_allowed q d.new d.is (omega (arith, d.depth, h))

pub insert_allowed : (at : Path) (x y : OneItem) (xs : List OneItem) → item_at at xs ≡ Ok y → depth_of x ≡ depth_of y → depth (listed xs) ≤ 16 → edit_refusal (Insert at x) xs ≡ None
insert_allowed at x y xs e d h = no_deeper_allowed (edited (Insert at x) xs) xs (insert_no_deeper at x y xs e (omega (arith, d))) h

pub replace_allowed : (at : Path) (x y : OneItem) (xs : List OneItem) → item_at at xs ≡ Ok y → depth_of x ≡ depth_of y → depth (listed xs) ≤ 16 → edit_refusal (Replace at x) xs ≡ None
replace_allowed at x y xs e d h = no_deeper_allowed (edited (Replace at x) xs) xs (replace_no_deeper at x y xs e (omega (arith, d))) h

-- what an edit puts in is at its place
put_in_blocks : (edit : Edit) (position : ℕ) (x : OneItem)
    → ((us vs : List OneItem) → changed edit us ≡ Ok vs → slice_get vs position ≡ Some x)
    → (bs : List ℕ) (xs ys : List OneItem) → edited_in edit bs xs ≡ Ok ys → item_in bs position ys ≡ Ok x
put_in_blocks edit position x base [] xs ys e = ap item_there (base xs ys e)
put_in_blocks edit position x base (b ∷ bs) xs ys e =
    let r = rebuilds (edited_in edit bs) b xs ys (slice_get xs b) refl e in
    let new = repeat r.count r.tag (listed r.within) in
    let found : slice_get ys b ≡ Some new = ap (λ l. slice_get l b) r.same ∙ got_set xs b (repeat r.count r.tag r.body) new r.found in
    ap (found_inside (item_in bs position)) found
    ∙ ap (item_in bs position) (entries-listed r.within)
    ∙ put_in_blocks edit position x base bs (entries r.body) r.within r.edited

pub inserted_there : (at : Path) (x : OneItem) (xs ys : List OneItem) → edited (Insert at x) xs ≡ Ok ys → item_at at ys ≡ Ok x
inserted_there at x xs ys e = put_in_blocks (Insert at x) at.position x (put_at at x) at.blocks xs ys e

pub replaced_there : (at : Path) (x : OneItem) (xs ys : List OneItem) → edited (Replace at x) xs ≡ Ok ys → item_at at ys ≡ Ok x
replaced_there at x xs ys e = put_in_blocks (Replace at x) at.position x (replaced_at at x) at.blocks xs ys e
