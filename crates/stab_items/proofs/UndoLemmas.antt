-- Edits taken back: the edit that undoes an edit, and a deletion by way of an item that stands for nothing.
use Rattle.stab_items.proofs.Names.{◌≡◌, ◌<◌, refl, ap, sym, ◌∙◌, subst, ℕ, ◌+◌, suc, true, List, [], ◌∷◌, ◌++◌, length, take, drop, set, arith, nat_lt, if◌then◌else◌, Option, Some, None, Result, Ok, Err, set_split, take-append-drop, length-take-le, length-append, remove, slice_get, slice_get_within, Refusal, PlaceOutOfRange, Items, OneItem, repeat, listed, entries, Edit, Insert, Replace, Delete, with_item, rebuilt, edited_inside, changed, edited_in, edited, inner, taken_at, taken_in, taken, Path}
use Rattle.stab_items.proofs.EditLemmas.{entries-listed, listed-entries, changed_split, got_split, Rebuilds, rebuilds}

-- lists around a position

get-at : (f : List OneItem) (x : OneItem) (r : List OneItem) → slice_get (f ++ x ∷ r) (length f) ≡ Some x
get-at [] x r = refl
get-at (y ∷ f) x r = get-at f x r

set-at : (f : List OneItem) (x z : OneItem) (r : List OneItem) → set (f ++ x ∷ r) (length f) z ≡ f ++ z ∷ r
set-at [] x z r = refl
set-at (y ∷ f) x z r = ap (λ l. y ∷ l) (set-at f x z r)

remove-at : (f : List OneItem) (x : OneItem) (r : List OneItem) → remove (f ++ x ∷ r) (length f) ≡ f ++ r
remove-at [] x r = refl
remove-at (y ∷ f) x r = ap (λ l. y ∷ l) (remove-at f x r)

lt_is : (m n : ℕ) → m < n → nat_lt m n ≡ true
lt_is m n h = grind arith

there : (f : List OneItem) (x : OneItem) (r : List OneItem) → nat_lt (length f) (length (f ++ x ∷ r)) ≡ true
there f x r = lt_is (length f) (length (f ++ x ∷ r)) (omega (arith, length-append f (x ∷ r)))

pub found : (f : List OneItem) (x : OneItem) (r : List OneItem) (b : ℕ) → length f ≡ b → slice_get (f ++ x ∷ r) b ≡ Some x
found f x r b size = subst (λ n. slice_get (f ++ x ∷ r) n ≡ Some x) size (get-at f x r)

module _ (f : List OneItem) (x : OneItem) (r : List OneItem) (at : Path) (size : length f ≡ at.position) where
  replaced : (z : OneItem) → changed (Replace at z) (f ++ x ∷ r) ≡ Ok (f ++ z ∷ r)
  replaced z =
      subst (λ n. (if nat_lt n (length (f ++ x ∷ r)) then Ok (set (f ++ x ∷ r) n z) else Err PlaceOutOfRange) ≡ Ok (f ++ z ∷ r)) size
      (ap (λ c. if c then Ok (set (f ++ x ∷ r) (length f) z) else Err PlaceOutOfRange) (there f x r) ∙ ap Ok (set-at f x z r))

  pub deleted : changed (Delete at) (f ++ x ∷ r) ≡ Ok (f ++ r)
  deleted =
      subst (λ n. (if nat_lt n (length (f ++ x ∷ r)) then Ok (remove (f ++ x ∷ r) n) else Err PlaceOutOfRange) ≡ Ok (f ++ r)) size
      (ap (λ c. if c then Ok (remove (f ++ x ∷ r) (length f)) else Err PlaceOutOfRange) (there f x r) ∙ ap Ok (remove-at f x r))

-- an edit inside a block

abbrev pub around : List OneItem → ℕ → List ℕ → List OneItem → Result (List OneItem) Refusal → Result (List OneItem) Refusal
around f count tag r (Ok ys) = Ok (f ++ repeat count tag (listed ys) ∷ r)
around f count tag r (Err e) = Err e

module _ (f : List OneItem) (count : ℕ) (tag : List ℕ) (body : Items) (r : List OneItem) (b : ℕ) (size : length f ≡ b) where
  rebuilt_around : (res : Result (List OneItem) Refusal) → with_item b (f ++ repeat count tag body ∷ r) (rebuilt count tag res) ≡ around f count tag r res
  rebuilt_around (Ok ys) = ap Ok (subst (λ n. set (f ++ repeat count tag body ∷ r) n (repeat count tag (listed ys)) ≡ f ++ repeat count tag (listed ys) ∷ r) size (set-at f (repeat count tag body) (repeat count tag (listed ys)) r))
  rebuilt_around (Err e) = refl

  edited_block : (edit : Edit) (bs : List ℕ) → edited_in edit (b ∷ bs) (f ++ repeat count tag body ∷ r) ≡ around f count tag r (edited_in edit bs (entries body))
  edited_block edit bs =
      ap (λ g. with_item b (f ++ repeat count tag body ∷ r) (edited_inside (edited_in edit bs) g)) (found f (repeat count tag body) r b size)
      ∙ rebuilt_around (edited_in edit bs (entries body))

  inside_block : inner (slice_get (f ++ repeat count tag body ∷ r) b) ≡ entries body
  inside_block = ap inner (found f (repeat count tag body) r b size)

-- both lists of an edit inside a block, in parts
module _ (edit : List OneItem → Result (List OneItem) Refusal) (b : ℕ) (xs ys : List OneItem) (is : Rebuilds edit b xs ys) where
  within : b < length xs
  within = slice_get_within xs b (repeat is.count is.tag is.body) is.found

  pub front_size : length (take b xs) ≡ b
  front_size = length-take-le b xs (omega (arith, within))

  pub old_parts : xs ≡ take b xs ++ repeat is.count is.tag is.body ∷ drop (suc b) xs
  old_parts = got_split xs b (repeat is.count is.tag is.body) is.found

  pub new_parts : ys ≡ take b xs ++ repeat is.count is.tag (listed is.within) ∷ drop (suc b) xs
  new_parts = is.same ∙ set_split xs b (repeat is.count is.tag (listed is.within)) within

  pub new_inner : inner (slice_get ys b) ≡ is.within
  new_inner =
      ap (λ l. inner (slice_get l b)) new_parts
      ∙ inside_block (take b xs) is.count is.tag (listed is.within) (drop (suc b) xs) b front_size
      ∙ entries-listed is.within

  pub old_inner : inner (slice_get xs b) ≡ entries is.body
  old_inner = ap inner is.found

  pub edited_new : (edit : Edit) (bs : List ℕ) → edited_in edit (b ∷ bs) ys ≡ around (take b xs) is.count is.tag (drop (suc b) xs) (edited_in edit bs is.within)
  edited_new edit bs =
      ap (edited_in edit (b ∷ bs)) new_parts
      ∙ edited_block (take b xs) is.count is.tag (listed is.within) (drop (suc b) xs) b front_size edit bs
      ∙ ap (λ l. around (take b xs) is.count is.tag (drop (suc b) xs) (edited_in edit bs l)) (entries-listed is.within)

  pub edited_old : (edit : Edit) (bs : List ℕ) → edited_in edit (b ∷ bs) xs ≡ around (take b xs) is.count is.tag (drop (suc b) xs) (edited_in edit bs (entries is.body))
  edited_old edit bs =
      ap (edited_in edit (b ∷ bs)) old_parts
      ∙ edited_block (take b xs) is.count is.tag is.body (drop (suc b) xs) b front_size edit bs

-- an edit that undoes another in the innermost list does so along each path

undone_in : (edit back : Edit) (t : Option OneItem)
    → ((us vs : List OneItem) → changed edit us ≡ Ok vs → taken_at edit us ≡ t → changed back vs ≡ Ok us)
    → (bs : List ℕ) (xs ys : List OneItem) → edited_in edit bs xs ≡ Ok ys → taken_in edit bs xs ≡ t → edited_in back bs ys ≡ Ok xs
undone_in edit back t base [] xs ys e h = base xs ys e h
undone_in edit back t base (b ∷ bs) xs ys e h =
    let is = rebuilds (edited_in edit bs) b xs ys (slice_get xs b) refl e in
    let inside : edited_in back bs is.within ≡ Ok (entries is.body) =
    undone_in edit back t base bs (entries is.body) is.within is.edited (sym (ap (taken_in edit bs) (old_inner (edited_in edit bs) b xs ys is)) ∙ h) in
    edited_new (edited_in edit bs) b xs ys is back bs
    ∙ ap (around (take b xs) is.count is.tag (drop (suc b) xs)) inside
    ∙ ap (λ i. Ok (take b xs ++ repeat is.count is.tag i ∷ drop (suc b) xs)) (listed-entries is.body)
    ∙ ap Ok (sym (old_parts (edited_in edit bs) b xs ys is))

retaken_in : (edit back : Edit) (w : Option OneItem)
    → ((us vs : List OneItem) → changed edit us ≡ Ok vs → taken_at back vs ≡ w)
    → (bs : List ℕ) (xs ys : List OneItem) → edited_in edit bs xs ≡ Ok ys → taken_in back bs ys ≡ w
retaken_in edit back w base [] xs ys e = base xs ys e
retaken_in edit back w base (b ∷ bs) xs ys e =
    let is = rebuilds (edited_in edit bs) b xs ys (slice_get xs b) refl e in
    ap (taken_in back bs) (new_inner (edited_in edit bs) b xs ys is)
    ∙ retaken_in edit back w base bs (entries is.body) is.within is.edited

-- an insertion is undone by a deletion, which gives the item back

nothing_taken : (at : Path) (x : OneItem) (bs : List ℕ) (xs : List OneItem) → taken_in (Insert at x) bs xs ≡ None
nothing_taken at x [] xs = refl
nothing_taken at x (b ∷ bs) xs = nothing_taken at x bs (inner (slice_get xs b))

insert_undone_at : (at : Path) (x : OneItem) (us vs : List OneItem) → changed (Insert at x) us ≡ Ok vs → changed (Delete at) vs ≡ Ok us
insert_undone_at at x us vs e =
    let s = changed_split (Insert at x) us vs e in
    ap (changed (Delete at)) s.1 ∙ deleted (take at.position us) x (drop at.position us) at (length-take-le at.position us s.0) ∙ ap Ok (take-append-drop at.position us)

pub put_at : (at : Path) (x : OneItem) (us vs : List OneItem) → changed (Insert at x) us ≡ Ok vs → slice_get vs at.position ≡ Some x
put_at at x us vs e =
    let s = changed_split (Insert at x) us vs e in
    ap (λ l. slice_get l at.position) s.1 ∙ found (take at.position us) x (drop at.position us) at.position (length-take-le at.position us s.0)

pub insert-undone : (at : Path) (x : OneItem) (xs ys : List OneItem) → edited (Insert at x) xs ≡ Ok ys → edited (Delete at) ys ≡ Ok xs
insert-undone at x xs ys e = undone_in (Insert at x) (Delete at) None (λ us vs i h. insert_undone_at at x us vs i) at.blocks xs ys e (nothing_taken at x at.blocks xs)

pub insert-retaken : (at : Path) (x : OneItem) (xs ys : List OneItem) → edited (Insert at x) xs ≡ Ok ys → taken (Delete at) ys ≡ Some x
insert-retaken at x xs ys e = retaken_in (Insert at x) (Delete at) (Some x) (put_at at x) at.blocks xs ys e

-- a replacement is undone by putting the old item back, which gives the new one back

replace_undone_at : (at : Path) (x old : OneItem) (us vs : List OneItem) → changed (Replace at x) us ≡ Ok vs → slice_get us at.position ≡ Some old → changed (Replace at old) vs ≡ Ok us
replace_undone_at at x old us vs e h =
    let s = changed_split (Replace at x) us vs e in
    ap (changed (Replace at old)) s.1
    ∙ replaced (take at.position us) x (drop (at.position + 1) us) at (length-take-le at.position us s.0) old
    ∙ ap (λ n. Ok (take at.position us ++ old ∷ drop n us)) next
    ∙ ap Ok (sym (got_split us at.position old h))
  where
    next : at.position + 1 ≡ suc at.position
    next = omega arith

pub replaced_at : (at : Path) (x : OneItem) (us vs : List OneItem) → changed (Replace at x) us ≡ Ok vs → slice_get vs at.position ≡ Some x
replaced_at at x us vs e =
    let s = changed_split (Replace at x) us vs e in
    ap (λ l. slice_get l at.position) s.1 ∙ found (take at.position us) x (drop (at.position + 1) us) at.position (length-take-le at.position us s.0)

pub replace-undone : (at : Path) (x old : OneItem) (xs ys : List OneItem)
    → edited (Replace at x) xs ≡ Ok ys → taken (Replace at x) xs ≡ Some old → edited (Replace at old) ys ≡ Ok xs
replace-undone at x old xs ys e h = undone_in (Replace at x) (Replace at old) (Some old) (replace_undone_at at x old) at.blocks xs ys e h

pub replace-retaken : (at : Path) (x other : OneItem) (xs ys : List OneItem) → edited (Replace at x) xs ≡ Ok ys → taken (Replace at other) ys ≡ Some x
replace-retaken at x other xs ys e = retaken_in (Replace at x) (Replace at other) (Some x) (replaced_at at x) at.blocks xs ys e
