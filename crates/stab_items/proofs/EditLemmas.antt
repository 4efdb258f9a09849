-- Edits of lists of items, and the steps that they leave.
use Rattle.stab_items.proofs.Names.{◌≡◌, ◌≤◌, ◌<◌, refl, ap, sym, ◌∙◌, subst, ℕ, ◌+◌, suc, zero, Bool, true, false, List, [], ◌∷◌, ◌++◌, length, take, drop, set, arith, append_assoc, nat_le, nat_lt, if◌then◌else◌, Option, Some, None, Result, Ok, Err, ◌⊎◌, inl, inr, set_split, take-append-drop, drop_at, take_at, length-take-le, length-append, drop-set-lt, insert, remove, slice_get, slice_get_within, Refusal, PlaceOutOfRange, Edit, Insert, Replace, Delete, Items, OneItem, operation, repeat, done, next, block, before, listed, entries, Step, unroll, rounds, with_item, rebuilt, edited_inside, edit_path, changed, edited_in, edited, inner, steps_in, steps_before, after_taken, after_put, outermost, first_changed, old_end, new_end, BeginsWith, LeavesTheRest}
use Rattle.stab_items.proofs.ItemLemmas.{listed-append}
use Rattle.stab_items.proofs.StepLemmas.{unroll-join}

pub entries-before : (x : OneItem) (xs : Items) → entries (before x xs) ≡ x ∷ entries xs
entries-before (operation op) xs = refl
entries-before (repeat c t body) xs = refl

pub entries-listed : (xs : List OneItem) → entries (listed xs) ≡ xs
entries-listed [] = refl
entries-listed (x ∷ xs) = entries-before x (listed xs) ∙ ap (λ l. x ∷ l) (entries-listed xs)

pub listed-entries : (xs : Items) → listed (entries xs) ≡ xs
listed-entries done = refl
listed-entries (next op rest) = ap (next op) (listed-entries rest)
listed-entries (block c t body rest) = ap (block c t body) (listed-entries rest)

-- the steps of a list
abbrev steps : List OneItem → List Step
steps xs = unroll (listed xs)

pub steps-append : (xs ys : List OneItem) → steps (xs ++ ys) ≡ steps xs ++ steps ys
steps-append xs ys = ap unroll (listed-append xs ys) ∙ unroll-join (listed xs) (listed ys)

pub steps_split : (n : ℕ) (xs : List OneItem) → steps xs ≡ steps (take n xs) ++ steps (drop n xs)
steps_split n xs = sym (ap steps (take-append-drop n xs)) ∙ steps-append (take n xs) (drop n xs)

steps_dropped : (n : ℕ) (xs : List OneItem) → drop (length (steps (take n xs))) (steps xs) ≡ steps (drop n xs)
steps_dropped n xs = ap (drop (length (steps (take n xs)))) (steps_split n xs) ∙ drop_at (steps (take n xs)) (steps (drop n xs)) _ refl

-- what an edit puts in
abbrev pub put_in : Edit → List OneItem
put_in (Insert at x) = x ∷ []
put_in (Replace at x) = x ∷ []
put_in (Delete at) = []

pub after_put_is : (edit : Edit) → after_put edit ≡ (edit_path edit).position + length (put_in edit)
after_put_is (Insert at x) = refl
after_put_is (Replace at x) = refl
after_put_is (Delete at) = omega arith

pub if_ok : {A B : Type 0} (c : Bool) (a b : A) (r : B) → (if c then Ok a else Err r) ≡ Ok b → (c ≡ true) × (a ≡ b)
if_ok true a b r e = (refl, cc)
if_ok false a b r e = absurd (cc)

pub le_holds : (m n : ℕ) → nat_le m n ≡ true → m ≤ n
le_holds m n e = grind arith

pub lt_holds : (m n : ℕ) → nat_lt m n ≡ true → m < n
lt_holds m n e = grind arith

pub next_position : (p : ℕ) → suc p ≡ p + 1
next_position p = omega arith

-- a list that is changed, in parts
pub changed_split : (edit : Edit) (xs ys : List OneItem) → changed edit xs ≡ Ok ys
    → ((edit_path edit).position ≤ length xs) × (ys ≡ take (edit_path edit).position xs ++ (put_in edit ++ drop (after_taken edit) xs))
changed_split (Insert at x) xs ys e =
    let h = if_ok (nat_le at.position (length xs)) (insert xs at.position x) ys PlaceOutOfRange e in
    (le_holds at.position (length xs) h.0, sym h.1)
changed_split (Replace at x) xs ys e =
    let h = if_ok (nat_lt at.position (length xs)) (set xs at.position x) ys PlaceOutOfRange e in
    let within = lt_holds at.position (length xs) h.0 in
    (omega arith, sym h.1 ∙ set_split xs at.position x within ∙ ap (λ n. take at.position xs ++ x ∷ drop n xs) (next_position at.position))
changed_split (Delete at) xs ys e =
    let h = if_ok (nat_lt at.position (length xs)) (remove xs at.position) ys PlaceOutOfRange e in
    let within = lt_holds at.position (length xs) h.0 in
    (omega arith, sym h.1 ∙ ap (λ n. take at.position xs ++ drop n xs) (next_position at.position))

pub changed_before : (edit : Edit) (xs ys : List OneItem) → changed edit xs ≡ Ok ys → take (edit_path edit).position ys ≡ take (edit_path edit).position xs
changed_before edit xs ys e =
    let s = changed_split edit xs ys e in
    ap (take (edit_path edit).position) s.1 ∙ take_at (take (edit_path edit).position xs) (put_in edit ++ drop (after_taken edit) xs) (edit_path edit).position (length-take-le (edit_path edit).position xs s.0)

pub changed_after : (edit : Edit) (xs ys : List OneItem) → changed edit xs ≡ Ok ys → drop (after_taken edit) xs ≡ drop (after_put edit) ys
changed_after edit xs ys e =
    let s = changed_split edit xs ys e in
    let front = take (edit_path edit).position xs ++ put_in edit in
    let rest = drop (after_taken edit) xs in
    let long : length front ≡ after_put edit = length-append (take (edit_path edit).position xs) (put_in edit) ∙ ap (λ n. n + length (put_in edit)) (length-take-le (edit_path edit).position xs s.0) ∙ sym (after_put_is edit) in
    sym (ap (drop (after_put edit)) (s.1 ∙ sym (append_assoc (take (edit_path edit).position xs) (put_in edit) rest)) ∙ drop_at front rest (after_put edit) long)

-- a list with an item rebuilt in it
pub record Rebuilds (edit : List OneItem → Result (List OneItem) Refusal) (b : ℕ) (xs ys : List OneItem) : Type 0 where
  pub count : ℕ
  pub tag : List ℕ
  pub body : Items
  pub within : List OneItem
  pub found : slice_get xs b ≡ Some (repeat count tag body)
  pub edited : edit (entries body) ≡ Ok within
  pub same : ys ≡ set xs b (repeat count tag (listed within))

rebuilds_by : (edit : List OneItem → Result (List OneItem) Refusal) (b : ℕ) (xs ys : List OneItem) (count : ℕ) (tag : List ℕ) (body : Items) (r : Result (List OneItem) Refusal)
    → slice_get xs b ≡ Some (repeat count tag body) → edit (entries body) ≡ r → with_item b xs (rebuilt count tag r) ≡ Ok ys → Rebuilds edit b xs ys
rebuilds_by edit b xs ys count tag body (Err r) f g e = absurd (cc)
rebuilds_by edit b xs ys count tag body (Ok zs) f g e = record { count = count; tag = tag; body = body; within = zs; found = f; edited = g; same = cc }

pub rebuilds : (edit : List OneItem → Result (List OneItem) Refusal) (b : ℕ) (xs ys : List OneItem) (g : Option OneItem)
    → slice_get xs b ≡ g → with_item b xs (edited_inside edit g) ≡ Ok ys → Rebuilds edit b xs ys
rebuilds edit b xs ys None f e = absurd (cc)
rebuilds edit b xs ys (Some (operation op)) f e = absurd (cc)
rebuilds edit b xs ys (Some (repeat count tag body)) f e = rebuilds_by edit b xs ys count tag body (edit (entries body)) f refl e

-- a list around one of its items
pub got_split : (xs : List OneItem) (b : ℕ) (x : OneItem) → slice_get xs b ≡ Some x → xs ≡ take b xs ++ x ∷ drop (suc b) xs
got_split [] b x e = absurd (cc)
got_split (y ∷ xs) zero x e = let same : y ≡ x = cc in ap (λ z. z ∷ xs) same
got_split (y ∷ xs) (suc b) x e = ap (λ l. y ∷ l) (got_split xs b x e)

-- both begin with these steps, or are the same
abbrev AreSame : List Step → List Step → List Step → Type 0
AreSame front old new = (old ≡ new) ⊎ (BeginsWith front old × BeginsWith front new)

pub begins_before : (front old rest : List Step) → BeginsWith front old → BeginsWith front (old ++ rest)
begins_before front old rest h = (h.0 ++ rest, ap (λ l. l ++ rest) h.1 ∙ append_assoc front h.0 rest)

pub begins_after : (some front old : List Step) → BeginsWith front old → BeginsWith (some ++ front) (some ++ old)
begins_after some front old h = (h.0, ap (λ l. some ++ l) h.1 ∙ sym (append_assoc some front h.0))

same_rounds : (n : ℕ) (front old new : List Step) → AreSame front old new → AreSame front (rounds n old) (rounds n new)
same_rounds zero front old new h = inl refl
same_rounds (suc n) front old new (inl e) = inl (ap (rounds (suc n)) e)
same_rounds (suc n) front old new (inr h) = inr (begins_before front old (rounds n old) h.0, begins_before front new (rounds n new) h.1)

same_around : (some rest front old new : List Step) → AreSame front old new → AreSame (some ++ front) (some ++ (old ++ rest)) (some ++ (new ++ rest))
same_around some rest front old new (inl e) = inl (ap (λ l. some ++ (l ++ rest)) e)
same_around some rest front old new (inr h) = inr (begins_after some front (old ++ rest) (begins_before front old rest h.0), begins_after some front (new ++ rest) (begins_before front new rest h.1))

taken_of : (front all : List Step) → BeginsWith front all → take (length front) all ≡ front
taken_of front all h = ap (take (length front)) h.1 ∙ take_at front h.0 (length front) refl

same_taken : (front old new : List Step) → AreSame front old new → take (length front) old ≡ take (length front) new
same_taken front old new (inl e) = ap (take (length front)) e
same_taken front old new (inr h) = taken_of front old h.0 ∙ sym (taken_of front new h.1)

-- the steps of a list around one of its items
steps_around : (front back : List OneItem) (x : OneItem) → steps (front ++ x ∷ back) ≡ steps front ++ steps (x ∷ back)
steps_around front back x = steps-append front (x ∷ back)

-- an edit leaves the steps before its place
edit_same : (edit : Edit) (bs : List ℕ) (xs ys : List OneItem) → edited_in edit bs xs ≡ Ok ys → AreSame (steps_in bs (edit_path edit).position xs) (steps xs) (steps ys)
edit_same edit [] xs ys e =
    inr ((steps (drop (edit_path edit).position xs), steps_split (edit_path edit).position xs), (steps (drop (edit_path edit).position ys), steps_split (edit_path edit).position ys ∙ ap (λ l. steps l ++ steps (drop (edit_path edit).position ys)) (changed_before edit xs ys e)))
edit_same edit (b ∷ bs) xs ys e =
    let r = rebuilds (edited_in edit bs) b xs ys (slice_get xs b) refl e in
    let front = steps (take b xs) in
    let back = steps (drop (suc b) xs) in
    let within = steps_in bs (edit_path edit).position (entries r.body) in
    let inside : AreSame within (steps (entries r.body)) (steps r.within) = edit_same edit bs (entries r.body) r.within r.edited in
    let body : steps (entries r.body) ≡ unroll r.body = ap unroll (listed-entries r.body) in
    let turns = same_rounds r.count within (unroll r.body) (steps r.within) (subst (λ l. AreSame within l (steps r.within)) body inside) in
    let old : steps xs ≡ front ++ (rounds r.count (unroll r.body) ++ back) = ap steps (got_split xs b (repeat r.count r.tag r.body) r.found) ∙ steps_around (take b xs) (drop (suc b) xs) (repeat r.count r.tag r.body) in
    let new : steps ys ≡ front ++ (rounds r.count (steps r.within) ++ back) =
    ap steps (r.same ∙ set_split xs b (repeat r.count r.tag (listed r.within)) (slice_get_within xs b (repeat r.count r.tag r.body) r.found))
    ∙ steps_around (take b xs) (drop (suc b) xs) (repeat r.count r.tag (listed r.within)) in
    let first : steps_in (b ∷ bs) (edit_path edit).position xs ≡ front ++ within = ap (λ g. front ++ steps_in bs (edit_path edit).position (inner g)) r.found in
    same_as _ _ _ _ _ _ first old new (same_around front back within (rounds r.count (unroll r.body)) (rounds r.count (steps r.within)) turns)
  where
    same_as : (s t old other new later : List Step) → s ≡ t → old ≡ other → new ≡ later → AreSame t other later → AreSame s old new
    same_as s t old other new later e f g h = subst (λ l. AreSame l old new) (sym e) (subst (λ l. AreSame t l new) (sym f) (subst (λ l. AreSame t other l) (sym g) h))

edit_before : (edit : Edit) (old new : List OneItem) → edited edit old ≡ Ok new → take (first_changed edit old) (steps old) ≡ take (first_changed edit old) (steps new)
edit_before edit old new e = same_taken (steps_before (edit_path edit) old) (steps old) (steps new) (edit_same edit (edit_path edit).blocks old new e)

-- an edit leaves the items after the outermost one around its place
left_after : (edit : Edit) (bs : List ℕ) (xs ys : List OneItem) → edited_in edit bs xs ≡ Ok ys
    → drop (outermost (after_taken edit) bs) xs ≡ drop (outermost (after_put edit) bs) ys
left_after edit [] xs ys e = changed_after edit xs ys e
left_after edit (b ∷ bs) xs ys e =
    let r = rebuilds (edited_in edit bs) b xs ys (slice_get xs b) refl e in
    sym (ap (drop (b + 1)) r.same ∙ drop-set-lt (b + 1) xs b (repeat r.count r.tag (listed r.within)) (omega arith))

edit_after : (edit : Edit) (old new : List OneItem) → edited edit old ≡ Ok new → drop (old_end edit old) (steps old) ≡ drop (new_end edit new) (steps new)
edit_after edit old new e =
    let n = outermost (after_taken edit) (edit_path edit).blocks in
    let m = outermost (after_put edit) (edit_path edit).blocks in
    steps_dropped n old ∙ ap steps (left_after edit (edit_path edit).blocks old new e) ∙ sym (steps_dropped m new)

pub edits_leave : (edit : Edit) (old new : List OneItem) → edited edit old ≡ Ok new → LeavesTheRest edit old new
edits_leave edit old new e = record { before = edit_before edit old new e; following = edit_after edit old new e }
