-- What a list of items comes to by an edit.
use Rattle.stab_items.proofs.Names.{◌≡◌, ◌≤◌, refl, ap, sym, ◌∙◌, subst, ℕ, ◌+◌, min, List, [], ◌∷◌, ◌++◌, length, take, drop, arith, append_assoc, append-nil, nat_le, nat_lt, All, Some, Result, Ok, Err, IfOk, length-append, length-take-le, take_at, take-take, take-append-drop, All-append, slice_get, Refusal, PlaceOutOfRange, Summary, Judgement, EditResult, Edit, Insert, Replace, Delete, OneItem, listed, Step, unroll, HasDistinctQubits, edited_inside, edit_path, edited_in, edited, steps_in, after_taken, after_put, outermost, summary_of, followed_by, IsSummary, IsSumOf, Splice, splice_at, splice_block, splice_of, spliced, IsWithin, judgement_of, BeginsWith, Stretch, numbers, AreStretches, WereStretches, steps_within, PutsGood, IsGoodList, AreGood, edit_result_by, IsEditResult}
use Rattle.stab_items.proofs.ItemLemmas.{listed-append}
use Rattle.stab_items.proofs.GoodItemLemmas.{good-join}
use Rattle.std.proofs.Common.{OnOk}
use Rattle.stab_items.proofs.EditLemmas.{if_ok, steps-append}
use Rattle.stab_items.proofs.SpliceLemmas.{edited_spliced, splice_within}
use Rattle.stab_items.proofs.JudgementLemmas.{summed_around, judged_within}

-- what is true is true if a call answers Ok
pub on_ok : {A E : Type 0} {P : Type 0} (r : Result A E) → P → OnOk r P
on_ok (Ok x) h = h
on_ok (Err e) h = tt

-- where what is put in ends
after_at : (edit : Edit) (n : ℕ) (s : Splice) → splice_at edit n ≡ Ok s → after_put edit ≡ s.first + length s.put
after_at (Insert at x) n s e = ap (λ t. t.first + length t.put) (if_ok (nat_le at.position n) (record { first = at.position; following = at.position; put = x ∷ [] }) s PlaceOutOfRange e).1
after_at (Replace at x) n s e = ap (λ t. t.first + length t.put) (if_ok (nat_lt at.position n) (record { first = at.position; following = at.position + 1; put = x ∷ [] }) s PlaceOutOfRange e).1
after_at (Delete at) n s e =
    let same = ap (λ t. t.first + length t.put) (if_ok (nat_lt at.position n) (record { first = at.position; following = at.position + 1; put = [] }) s PlaceOutOfRange e).1 in
    omega (arith, same)

after_block : (b : ℕ) (r : Result OneItem Refusal) (s : Splice) → splice_block b r ≡ Ok s → b + 1 ≡ s.first + length s.put
after_block b (Ok x) s e =
    let same : record { first = b; following = b + 1; put = x ∷ [] } ≡ s = cc in
    ap (λ t. t.first + length t.put) same
after_block b (Err r) s e = absurd (cc)

after_is : (edit : Edit) (bs : List ℕ) (xs : List OneItem) (s : Splice) → splice_of edit bs xs ≡ Ok s → outermost (after_put edit) bs ≡ s.first + length s.put
after_is edit [] xs s e = after_at edit (length xs) s e
after_is edit (b ∷ bs) xs s e = after_block b (edited_inside (edited_in edit bs) (slice_get xs b)) s e

front_of : (xs : List OneItem) (s : Splice) → IsWithin s xs → take (s.first + length s.put) (take s.first xs ++ (s.put ++ drop s.following xs)) ≡ take s.first xs ++ s.put
front_of xs s w =
    let long : length (take s.first xs ++ s.put) ≡ s.first + length s.put = length-append (take s.first xs) s.put ∙ ap (λ n. n + length s.put) (length-take-le s.first xs (omega (arith, w.order, w.end))) in
    ap (take (s.first + length s.put)) (sym (append_assoc (take s.first xs) s.put (drop s.following xs))) ∙ take_at (take s.first xs ++ s.put) (drop s.following xs) (s.first + length s.put) long

-- where what is taken out ends
taken_at : (edit : Edit) (n : ℕ) (s : Splice) → splice_at edit n ≡ Ok s → (after_taken edit ≡ s.following) × ((edit_path edit).position ≡ s.first)
taken_at (Insert at x) n s e =
    let same = (if_ok (nat_le at.position n) (record { first = at.position; following = at.position; put = x ∷ [] }) s PlaceOutOfRange e).1 in
    (ap (λ t. t.following) same, ap (λ t. t.first) same)
taken_at (Replace at x) n s e =
    let same = (if_ok (nat_lt at.position n) (record { first = at.position; following = at.position + 1; put = x ∷ [] }) s PlaceOutOfRange e).1 in
    (ap (λ t. t.following) same, ap (λ t. t.first) same)
taken_at (Delete at) n s e =
    let same = (if_ok (nat_lt at.position n) (record { first = at.position; following = at.position + 1; put = [] }) s PlaceOutOfRange e).1 in
    (ap (λ t. t.following) same, ap (λ t. t.first) same)

taken_block : (b : ℕ) (r : Result OneItem Refusal) (s : Splice) → splice_block b r ≡ Ok s → (b + 1 ≡ s.following) × (b ≡ s.first)
taken_block b (Ok x) s e =
    let same : record { first = b; following = b + 1; put = x ∷ [] } ≡ s = cc in
    (ap (λ t. t.following) same, ap (λ t. t.first) same)
taken_block b (Err r) s e = absurd (cc)

pub taken_is : (edit : Edit) (bs : List ℕ) (xs : List OneItem) (s : Splice) → splice_of edit bs xs ≡ Ok s → outermost (after_taken edit) bs ≡ s.following
taken_is edit [] xs s e = (taken_at edit (length xs) s e).0
taken_is edit (b ∷ bs) xs s e = (taken_block b (edited_inside (edited_in edit bs) (slice_get xs b)) s e).0

-- at most the item at the first position of the path is taken out of the outermost list
at_most_one : (edit : Edit) → after_taken edit ≤ (edit_path edit).position + 1
at_most_one (Insert at x) = omega arith
at_most_one (Replace at x) = omega arith
at_most_one (Delete at) = omega arith

first_position : (edit : Edit) (bs : List ℕ) (xs : List OneItem) (s : Splice) (first : ℕ) → splice_of edit bs xs ≡ Ok s → slice_get (bs ++ (edit_path edit).position ∷ []) 0 ≡ Some first → (s.first ≡ first) × (s.following ≤ first + 1)
first_position edit [] xs s first e f =
    let at = taken_at edit (length xs) s e in
    let same : (edit_path edit).position ≡ first = cc in
    (sym at.1 ∙ same, omega (arith, at.0, same, at_most_one edit))
first_position edit (b ∷ bs) xs s first e f =
    let at = taken_block b (edited_inside (edited_in edit bs) (slice_get xs b)) s e in
    let same : b ≡ first = cc in
    (sym at.1 ∙ same, omega (arith, at.0, same))

spliced_ok : (xs ys : List OneItem) (q : Result Splice Refusal) → spliced xs q ≡ Ok ys → (s : Splice) × (q ≡ Ok s) × (spliced xs (Ok s) ≡ Ok ys)
spliced_ok xs ys (Ok s) e = (s, refl, e)
spliced_ok xs ys (Err r) e = absurd (cc)

pub were_stretches : (ss : List Stretch) (edit : Edit) (xs ys : List OneItem) (first : ℕ) → AreStretches ss xs → edited edit xs ≡ Ok ys → slice_get (numbers (edit_path edit)) 0 ≡ Some first → WereStretches ss first (length xs) ys
were_stretches ss edit xs ys first are e f =
    let bs = (edit_path edit).blocks in
    let found = spliced_ok xs ys (splice_of edit bs xs) (sym (edited_spliced edit bs xs) ∙ e) in
    let lies = first_position edit bs xs found.0 first found.1 f in
    record { old = xs; are = are; long = refl; splice = found.0; within = splice_within edit bs xs found.0 found.1; first = lies.0; one = lies.1; left = found.2 }

-- the steps before the position are those before what leaves the list, and those within that
first_is : (edit : Edit) (bs : List ℕ) (xs : List OneItem) (s : Splice) → splice_of edit bs xs ≡ Ok s → steps_in bs (edit_path edit).position xs ≡ unroll (listed (take s.first xs)) ++ steps_within bs (edit_path edit).position xs
first_is edit [] xs s e = ap (λ n. unroll (listed (take n xs))) (taken_at edit (length xs) s e).1 ∙ sym (append-nil (unroll (listed (take s.first xs))))
first_is edit (b ∷ bs) xs s e = ap (λ n. unroll (listed (take n xs)) ++ steps_within (b ∷ bs) (edit_path edit).position xs) (taken_block b (edited_inside (edited_in edit bs) (slice_get xs b)) s e).1

-- a judgement is that of a splice
judged_splice : (q : Result Splice Refusal) (w : ℕ) (j : Judgement) → Ok j ≡ judgement_of w q → (s : Splice) × (q ≡ Ok s) × (j ≡ record { first = s.first; following = s.following; put = summary_of (listed s.put); within = w })
judged_splice (Ok s) w j e = (s, refl, cc)
judged_splice (Err r) w j e = absurd (cc)

-- lists of items that keep the rules of lines
pub good_append : (xs ys : List OneItem) → IsGoodList xs → IsGoodList ys → IsGoodList (xs ++ ys)
good_append xs ys a b = subst AreGood (sym (listed-append xs ys)) (good-join (listed xs) (listed ys) a b)

sum_of : (a b n m k : ℕ) → n ≡ min a 1048577 → m ≡ min b 1048577 → k ≡ min (n + m) 1048577 → k ≡ min (a + b) 1048577
sum_of a b n m k e f g = omega (arith, e, f, g)

count_append : (xs ys : List Step) → length (xs ++ ys) ≡ length xs + length ys
count_append xs ys = length-append xs ys

-- the ends of an edit
ends_first : (edit : Edit) (blocks : List ℕ) (xs front : List OneItem) (s : Splice) (n w k : ℕ) → splice_of edit blocks xs ≡ Ok s → front ≡ take s.first xs
    → n ≡ min (length (unroll (listed front))) 1048577 → w ≡ min (length (steps_within blocks (edit_path edit).position xs)) 1048577 → k ≡ min (n + w) 1048577 → k ≡ min (length (steps_in blocks (edit_path edit).position xs)) 1048577
ends_first edit blocks xs front s n w k e f h i g =
    sum_of (length (unroll (listed front))) (length (steps_within blocks (edit_path edit).position xs)) n w k h i g
    ∙ ap (λ m. min m 1048577) (sym (
    ap length (first_is edit blocks xs s e ∙ ap (λ l. unroll (listed l) ++ steps_within blocks (edit_path edit).position xs) (sym f)) ∙ count_append (unroll (listed front)) (steps_within blocks (edit_path edit).position xs)
    ))

ends_old : (edit : Edit) (blocks : List ℕ) (xs front gone : List OneItem) (s : Splice) (n m k : ℕ) → splice_of edit blocks xs ≡ Ok s → take s.following xs ≡ front ++ gone
    → n ≡ min (length (unroll (listed front))) 1048577 → m ≡ min (length (unroll (listed gone))) 1048577 → k ≡ min (n + m) 1048577 → k ≡ min (length (unroll (listed (take (outermost (after_taken edit) blocks) xs)))) 1048577
ends_old edit blocks xs front gone s n m k e f h i g =
    sum_of (length (unroll (listed front))) (length (unroll (listed gone))) n m k h i g
    ∙ ap (λ v. min v 1048577) (sym (
    ap (λ v. length (unroll (listed (take v xs)))) (taken_is edit blocks xs s e)
    ∙ ap (λ l. length (unroll (listed l))) f
    ∙ ap length (steps-append front gone)
    ∙ count_append (unroll (listed front)) (unroll (listed gone))
    ))

-- the list that a splice leaves
left_by : List OneItem → Splice → List OneItem
left_by xs s = take s.first xs ++ (s.put ++ drop s.following xs)

ends_new : (edit : Edit) (blocks : List ℕ) (xs front : List OneItem) (s : Splice) (n m k : ℕ) → splice_of edit blocks xs ≡ Ok s → front ≡ take s.first xs
    → n ≡ min (length (unroll (listed front))) 1048577 → m ≡ min (length (unroll (listed s.put))) 1048577 → k ≡ min (n + m) 1048577
    → k ≡ min (length (unroll (listed (take (outermost (after_put edit) blocks) (left_by xs s))))) 1048577
unfolding left_by
ends_new edit blocks xs front s n m k e f h i g =
    sum_of (length (unroll (listed front))) (length (unroll (listed s.put))) n m k h i g
    ∙ ap (λ v. min v 1048577) (sym (
    ap (λ v. length (unroll (listed (take v (take s.first xs ++ (s.put ++ drop s.following xs)))))) (after_is edit blocks xs s e)
    ∙ ap (λ l. length (unroll (listed l))) (front_of xs s (splice_within edit blocks xs s e) ∙ ap (λ l. l ++ s.put) (sym f))
    ∙ ap length (steps-append front s.put)
    ∙ count_append (unroll (listed front)) (unroll (listed s.put))
    ))

left_good : (xs front back : List OneItem) (s : Splice) → front ≡ take s.first xs → back ≡ drop s.following xs → IsGoodList front → PutsGood s → IsGoodList back → IsGoodList (left_by xs s)
unfolding left_by
left_good xs front back s f b h i k =
    good_append (take s.first xs) (s.put ++ drop s.following xs) (subst IsGoodList f h) (good_append s.put (drop s.following xs) i (subst IsGoodList b k))

edited_left : (edit : Edit) (blocks : List ℕ) (xs : List OneItem) (s : Splice) → splice_of edit blocks xs ≡ Ok s → edited_in edit blocks xs ≡ Ok (left_by xs s)
unfolding left_by
edited_left edit blocks xs s e = edited_spliced edit blocks xs ∙ ap (spliced xs) e

-- what a list comes to by an edit that is judged
pub edit_result_is : (edit : Edit) (blocks : List ℕ) (xs : List OneItem) (j : Judgement) (before of following : Summary) (o : EditResult)
    → Ok j ≡ judgement_of (min (length (steps_within blocks (edit_path edit).position xs)) 1048577) (splice_of edit blocks xs)
    → IsSummary j.put
    → BeginsWith (steps_in blocks (edit_path edit).position xs) (unroll (listed xs))
    → IfOk (splice_of edit blocks xs) PutsGood
    → IsSumOf (listed (take j.first xs)) before
    → IsSumOf (listed (drop j.first (take j.following xs))) of
    → IsSumOf (listed (drop j.following xs)) following
    → j.within ≤ j.put.steps
    → j.within ≤ length (unroll (listed (drop j.first (take j.following xs))))
    → o ≡ edit_result_by j before of following
    → IsSummary o.total
    → IsEditResult edit blocks xs o
edit_result_is edit blocks xs j before of following o e small begins puts f g b put_long gone_long is all =
    let w = min (length (steps_within blocks (edit_path edit).position xs)) 1048577 in
    let front = take j.first xs in
    let gone = drop j.first (take j.following xs) in
    let back = drop j.following xs in
    let lies = judged_within edit blocks w xs j e in
    let found = judged_splice (splice_of edit blocks xs) w j e in
    let s = found.0 in
    let same = found.2 in
    let first : front ≡ take s.first xs = ap (λ v. take v.first xs) same in
    let rest : back ≡ drop s.following xs = ap (λ v. drop v.following xs) same in
    let whole : take s.following xs ≡ front ++ gone = ap (λ v. take v.following xs) (sym same) ∙ sym (take-append-drop j.first (take j.following xs)) ∙ ap (λ l. l ++ gone) (take-take j.first j.following xs lies.0) in
    let left = edited_left edit blocks xs s found.1 in
    let at_first = ap (λ v. v.first) is in
    record {
      total = summed_around edit blocks w xs front back j o.total e small refl refl (omega (arith, b.small.window, ap (λ v. v.window) b.value))
          (ap (λ v. v.total) is ∙ ap (λ v. followed_by v (followed_by j.put following)) f.value ∙ ap (λ v. followed_by (summary_of (listed front)) (followed_by j.put v)) b.value);
      small = all;
      first = ends_first edit blocks xs front s before.steps j.within o.first found.1 first (ap (λ v. v.steps) f.value) (ap (λ v. v.within) same) (ap (λ v. v.first) is);
      front = begins;
      old_end = ends_old edit blocks xs front gone s before.steps of.steps o.old_end found.1 whole (ap (λ v. v.steps) f.value) (ap (λ v. v.steps) g.value) (ap (λ v. v.old_end) is);
      new_end =
          subst (λ r. IfOk r (λ new. o.new_end ≡ min (length (unroll (listed (take (outermost (after_put edit) blocks) new)))) 1048577)) (sym left)
          (ends_new edit blocks xs front s before.steps j.put.steps o.new_end found.1 first (ap (λ v. v.steps) f.value) (ap (λ v. v.put.steps) same) (ap (λ v. v.new_end) is));
      good = subst (λ r. IfOk r IsGoodList) (sym left) (left_good xs front back s first rest f.good (subst (λ r. IfOk r PutsGood) found.1 puts) b.good);
      old_order = omega (arith, at_first, ap (λ v. v.old_end) is, ap (λ v. v.steps) g.value, gone_long, ap (λ v. v.within) same);
      new_order = omega (arith, at_first, ap (λ v. v.new_end) is, put_long);
      order = omega (arith, at_first, ap (λ v. v.total.steps) is, put_long);
    }
