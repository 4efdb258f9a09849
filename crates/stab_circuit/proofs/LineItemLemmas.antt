-- Items that some lines stand for, and that edits leave such items.
use Rattle.stab_circuit.proofs.Names.{◌≡◌, ◌≤◌, refl, ap, sym, ◌∙◌, subst, ℕ, ◌+◌, suc, List, [], ◌∷◌, ◌++◌, true, nat_lt, length, take, drop, All, Option, None, Some, Result, Ok, append_assoc, append-nil, arith, slice_get, take-append-drop, set_split, All-nil, All-cons, slice_get_within, nat_tests, Refusal, Close, Open, content_of, meaning_of, IsLine, Each, each-append, Edit, Insert, Replace, Delete, Items, OneItem, operation, repeat, done, next, block, before, listed, entries, depth, Meaning, Joins, line_meanings, fault_from, with_item, edited_inside, edit_path, edited_in, edited, after_taken, inner, taken_in, taken, AreOfLines, PutsLines, each_left, each_right, listed-entries, put_in, changed_split, rebuilds, got_split}
use Rattle.stab_circuit.proofs.BlankLemmas.{lines_of, lines_join, fault_operation, same_faultless}
use Rattle.stab_circuit.proofs.ReadingLemmas.{few_open, fault_inside}
use Rattle.stab_circuit.proofs.RoundLemmas.{IsOfLine, AreMeant, items_meant}

-- lines that mean this
record Means (lines : List (List ℕ)) (ms : List Meaning) : Type 0 where
  pub each : All IsLine lines
  pub same : line_meanings lines ≡ ms

some_lines : (ms : List Meaning) → AreMeant ms → (lines : List (List ℕ)) × Means lines ms
some_lines [] g = ([], record { each = All-nil IsLine; same = refl })
some_lines (m ∷ ms) g =
    let rest = some_lines ms g.1 in
    let first : meaning_of (content_of g.0.0) ≡ m = sym g.0.2 in (
      g.0.0 ∷ rest.0,
      record {
        each = All-cons IsLine g.0.0 rest.0 g.0.1 rest.1.each;
        same = ap (λ n. n ∷ line_meanings rest.0) first ∙ ap (λ l. m ∷ l) rest.1.same;
      },
    )

-- some lines make no fault, and others follow
abbrev Pass : ℕ → List ℕ → List Meaning → List Meaning → Type 0
Pass n opened ms more = (at : ℕ) × (fault_from n opened (ms ++ more) ≡ fault_from at opened more)

block_passes : (n : ℕ) (opened : List ℕ) (c : ℕ) (t : List ℕ) (inside after more : List Meaning) → nat_lt (length opened) 16 ≡ true
    → Pass (n + 1) (n ∷ opened) inside (Ok Close ∷ (after ++ more)) → ((m : ℕ) → Pass m opened after more) → Pass n opened (Ok (Open c t) ∷ (inside ++ Ok Close ∷ after)) more
block_passes n opened c t inside after more few (m, first) rest = let (at, second) = rest (m + 1) in (at, fault_inside n opened c t inside after more few ∙ first ∙ second)

-- the lines of items make none if their blocks and those around them are nested at most 16 deep
lines_pass : (xs : Items) (n : ℕ) (opened : List ℕ) (more : List Meaning) → length opened + depth xs ≤ 16 → Pass n opened (lines_of xs) more
lines_pass done n opened more h = (n, refl)
lines_pass (next op rest) n opened more h =
    let r = lines_pass rest (n + 1) opened more h in
    (r.0, fault_operation n opened op (lines_of rest ++ more) ∙ r.1)
lines_pass (block c t body rest) n opened more h =
    block_passes n opened c t (lines_of body) (lines_of rest) more (is_few (length opened) (depth body) (omega (arith, h)))
    (lines_pass body (n + 1) (n ∷ opened) (Ok Close ∷ (lines_of rest ++ more)) (omega (arith, h)))
    (λ m. lines_pass rest m opened more (omega (arith, h)))
  where
    is_few : (n k : ℕ) → n + (k + 1) ≤ 16 → nat_lt n 16 ≡ true
    is_few n k h = grind (arith, nat_tests)

-- items that lines mean are of lines
pub of_lines : (items : Items) → AreMeant (lines_of items) → depth items ≤ 16 → AreOfLines items
of_lines items g h =
    let found = some_lines (lines_of items) g in
    let passed = lines_pass items 1 [] [] (omega (arith, h)) in (
      found.0,
      record {
        each = found.1.each;
        faultless = ap (fault_from 1 []) (found.1.same ∙ sym (append-nil (lines_of items))) ∙ passed.1;
        joined = subst (λ ms. Joins ms items) (sym found.1.same) (lines_join items);
      },
    )

-- what lines that stand for items mean
pub meant_of : (items : Items) → AreOfLines items → AreMeant (lines_of items)
meant_of items s = items_meant s.0 items s.1

-- one item is what lines mean
abbrev pub IsMeant : OneItem → Type 0
IsMeant x = AreMeant (lines_of (before x done))

lines-before : (x : OneItem) (xs : Items) → lines_of (before x xs) ≡ lines_of (before x done) ++ lines_of xs
lines-before (operation op) xs = refl
lines-before (repeat c t body) xs = ap (λ l. Ok (Open c t) ∷ l) (sym (append_assoc (lines_of body) (Ok Close ∷ []) (lines_of xs)))

pub listed_meant : (xs : List OneItem) → Each IsMeant xs → AreMeant (lines_of (listed xs))
listed_meant [] e = tt
listed_meant (x ∷ xs) e = subst AreMeant (sym (lines-before x (listed xs))) (each-append IsOfLine (lines_of (before x done)) (lines_of (listed xs)) e.0 (listed_meant xs e.1))

pub each_meant : (xs : List OneItem) → AreMeant (lines_of (listed xs)) → Each IsMeant xs
each_meant [] g = tt
each_meant (x ∷ xs) g =
    let both : AreMeant (lines_of (before x done) ++ lines_of (listed xs)) = subst AreMeant (lines-before x (listed xs)) g in
    (each_left IsOfLine (lines_of (before x done)) (lines_of (listed xs)) both, each_meant xs (each_right IsOfLine (lines_of (before x done)) (lines_of (listed xs)) both))

-- a part of a list
pub each_take : {A : Type 0} (P : A → Type 0) (n : ℕ) (xs : List A) → Each P xs → Each P (take n xs)
each_take P n xs e = each_left P (take n xs) (drop n xs) (subst (Each P) (sym (take-append-drop n xs)) e)

pub each_drop : {A : Type 0} (P : A → Type 0) (n : ℕ) (xs : List A) → Each P xs → Each P (drop n xs)
each_drop P n xs e = each_right P (take n xs) (drop n xs) (subst (Each P) (sym (take-append-drop n xs)) e)

-- an item of a list
each_got : {A : Type 0} (P : A → Type 0) (xs front back : List A) (x : A) → xs ≡ front ++ x ∷ back → Each P xs → P x
each_got P xs front back x e g = (each_right P front (x ∷ back) (subst (Each P) e g)).0

pub got_meant : (xs : List OneItem) (b : ℕ) (x : OneItem) → slice_get xs b ≡ Some x → Each IsMeant xs → IsMeant x
got_meant xs b x e g = each_got IsMeant xs (take b xs) (drop (suc b) xs) x (got_split xs b x e) g

-- the items of a block
inner_meant : (count : ℕ) (tag : List ℕ) (body : Items) → IsMeant (repeat count tag body) → Each IsMeant (entries body)
inner_meant count tag body g =
    each_meant (entries body) (subst (λ l. AreMeant (lines_of l)) (sym (listed-entries body)) (each_left IsOfLine (lines_of body) (Ok Close ∷ []) g.1))

-- a block with other items in it
rebuilt_meant : (count : ℕ) (tag : List ℕ) (body : Items) (xs : List OneItem) → IsMeant (repeat count tag body) → Each IsMeant xs → IsMeant (repeat count tag (listed xs))
rebuilt_meant count tag body xs g e = (g.0, each-append IsOfLine (lines_of (listed xs)) (Ok Close ∷ []) (listed_meant xs e) (each_right IsOfLine (lines_of body) (Ok Close ∷ []) g.1))

-- a change in a block keeps what lines mean, if it does so among the items of the block
pub block_meant : (change : List OneItem → Result (List OneItem) Refusal) (b : ℕ) (xs ys : List OneItem) → with_item b xs (edited_inside change (slice_get xs b)) ≡ Ok ys
    → ((us vs : List OneItem) → change us ≡ Ok vs → Each IsMeant us → Each IsMeant vs) → Each IsMeant xs → Each IsMeant ys
block_meant change b xs ys e keeps g =
    let r = rebuilds change b xs ys (slice_get xs b) refl e in
    let old : IsMeant (repeat r.count r.tag r.body) = got_meant xs b (repeat r.count r.tag r.body) r.found g in
    let inside : Each IsMeant r.within = keeps (entries r.body) r.within r.edited (inner_meant r.count r.tag r.body old) in
    let new : IsMeant (repeat r.count r.tag (listed r.within)) = rebuilt_meant r.count r.tag r.body r.within old inside in
    let parts : ys ≡ take b xs ++ repeat r.count r.tag (listed r.within) ∷ drop (suc b) xs =
    r.same ∙ set_split xs b (repeat r.count r.tag (listed r.within)) (slice_get_within xs b (repeat r.count r.tag r.body) r.found) in
    subst (Each IsMeant) (sym parts)
    (each-append IsMeant (take b xs) (repeat r.count r.tag (listed r.within) ∷ drop (suc b) xs) (each_take IsMeant b xs g) (new, each_drop IsMeant (suc b) xs g))

-- an edit keeps what lines mean
edited_meant : (edit : Edit) (bs : List ℕ) (xs ys : List OneItem) → edited_in edit bs xs ≡ Ok ys → Each IsMeant (put_in edit) → Each IsMeant xs → Each IsMeant ys
edited_meant edit [] xs ys e puts g =
    let s = changed_split edit xs ys e in
    let n = after_taken edit in
    subst (Each IsMeant) (sym s.1)
    (each-append IsMeant (take (edit_path edit).position xs) (put_in edit ++ drop n xs) (each_take IsMeant (edit_path edit).position xs g) (each-append IsMeant (put_in edit) (drop n xs) puts (each_drop IsMeant n xs g)))
edited_meant edit (b ∷ bs) xs ys e puts g = block_meant (edited_in edit bs) b xs ys e (λ us vs f h. edited_meant edit bs us vs f puts h) g

put_meant : (edit : Edit) → PutsLines edit → Each IsMeant (put_in edit)
put_meant (Insert at x) h = (meant_of (before x done) (h x refl), tt)
put_meant (Replace at x) h = (meant_of (before x done) (h x refl), tt)
put_meant (Delete at) h = tt

pub edited_of_lines : (edit : Edit) (old new : List OneItem) → AreOfLines (listed old) → PutsLines edit → edited edit old ≡ Ok new → depth (listed new) ≤ 16 → AreOfLines (listed new)
edited_of_lines edit old new s puts e h =
    of_lines (listed new) (listed_meant new (edited_meant edit (edit_path edit).blocks old new e (put_meant edit puts) (each_meant old (meant_of (listed old) s)))) h

-- lines without a fault nest no block too deep
lines_shallow : (xs : Items) (n : ℕ) (opened : List ℕ) (ms : List Meaning) → length opened ≤ 16 → fault_from n opened (lines_of xs ++ ms) ≡ None → length opened + depth xs ≤ 16
lines_shallow done n opened ms h e = omega (arith, h)
lines_shallow (next op rest) n opened ms h e = lines_shallow rest (n + 1) opened ms h (sym (fault_operation n opened op (lines_of rest ++ ms)) ∙ e)
lines_shallow (block c t body rest) n opened ms h e =
    let following = Ok Close ∷ (lines_of rest ++ ms) in
    let few : nat_lt (length opened) 16 ≡ true = few_open n opened c t ((lines_of body ++ Ok Close ∷ lines_of rest) ++ ms) e in
    let goes : fault_from (n + 1) (n ∷ opened) (lines_of body ++ following) ≡ None = sym (fault_inside n opened c t (lines_of body) (lines_of rest) ms few) ∙ e in
    let inside : suc (length opened) + depth body ≤ 16 = lines_shallow body (n + 1) (n ∷ opened) following (is_few (length opened) few) goes in
    let passed = lines_pass body (n + 1) (n ∷ opened) following inside in
    let after : length opened + depth rest ≤ 16 = lines_shallow rest (passed.0 + 1) opened ms h (sym passed.1 ∙ goes) in
    omega (arith, inside, after)
  where
    is_few : (n : ℕ) → nat_lt n 16 ≡ true → suc n ≤ 16
    is_few n e = grind (arith, nat_tests)

pub shallow_of : (items : Items) → AreOfLines items → depth items ≤ 16
shallow_of items s =
    let none : fault_from 1 [] (lines_of items) ≡ None = same_faultless (line_meanings s.0) (lines_of items) items s.1.joined (lines_join items) s.1.faultless in
    omega (arith, lines_shallow items 1 [] [] (omega arith) (ap (fault_from 1 []) (append-nil (lines_of items)) ∙ none))

-- an item is nested no deeper than its list
item_shallow : (x : OneItem) (xs : Items) → depth (before x done) ≤ depth (before x xs)
item_shallow (operation op) xs = omega arith
item_shallow (repeat c t body) xs = omega arith

rest_shallow : (x : OneItem) (xs : Items) → depth xs ≤ depth (before x xs)
rest_shallow (operation op) xs = omega arith
rest_shallow (repeat c t body) xs = omega arith

-- each item of a list is of lines
abbrev IsOne : OneItem → Type 0
IsOne x = IsMeant x × (depth (before x done) ≤ 16)

each_one : (xs : List OneItem) → Each IsMeant xs → depth (listed xs) ≤ 16 → Each IsOne xs
each_one [] g h = tt
each_one (x ∷ xs) g h = ((g.0, omega (arith, item_shallow x (listed xs), h)), each_one xs g.1 (omega (arith, rest_shallow x (listed xs), h)))

got_one : (xs : List OneItem) (b : ℕ) (x : OneItem) → slice_get xs b ≡ Some x → Each IsOne xs → IsOne x
got_one xs b x e g = each_got IsOne xs (take b xs) (drop (suc b) xs) x (got_split xs b x e) g

inner_ones : (xs : List OneItem) (b : ℕ) (g : Option OneItem) → slice_get xs b ≡ g → Each IsOne xs → Each IsOne (inner g)
inner_ones xs b None f e = tt
inner_ones xs b (Some (operation op)) f e = tt
inner_ones xs b (Some (repeat count tag body)) f e =
    let one : IsOne (repeat count tag body) = got_one xs b (repeat count tag body) f e in
    let less : depth (listed (entries body)) ≤ 16 = omega (arith, one.1, ap depth (listed-entries body)) in
    each_one (entries body) (inner_meant count tag body one.0) less

taken_one : (edit : Edit) (bs : List ℕ) (xs : List OneItem) (x : OneItem) → taken_in edit bs xs ≡ Some x → Each IsOne xs → IsOne x
taken_one (Insert at y) [] xs x e g = absurd (cc)
taken_one (Replace at y) [] xs x e g = got_one xs at.position x e g
taken_one (Delete at) [] xs x e g = got_one xs at.position x e g
taken_one edit (b ∷ bs) xs x e g = taken_one edit bs (inner (slice_get xs b)) x e (inner_ones xs b (slice_get xs b) refl g)

pub taken_of_lines : (edit : Edit) (old : List OneItem) (item : OneItem) → AreOfLines (listed old) → taken edit old ≡ Some item → AreOfLines (before item done)
taken_of_lines edit old item s e =
    let one = taken_one edit (edit_path edit).blocks old item e (each_one old (each_meant old (meant_of (listed old) s)) (shallow_of (listed old) s)) in
    of_lines (before item done) one.0 one.1
