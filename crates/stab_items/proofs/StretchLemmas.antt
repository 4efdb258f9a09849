-- Stretches of a list.
use Rattle.stab_items.proofs.Names.{◌≡◌, ◌≤◌, ◌<◌, refl, ap, sym, ◌∙◌, subst, ℕ, ◌+◌, ◌-◌, zero, suc, min, max, List, [], ◌∷◌, ◌++◌, length, take, drop, set, get_or, arith, drop-cons, append_assoc, drop-drop, drop-take, length-append, length-drop, length-take, length-take-le, take-append-drop, take-append-le, take-take, take_all, drop-append-add, drop-nil, Stretch, Summary, OneItem, listed, unroll, summary_of, followed_by, IsSummary, IsSumOf, IsGoodList, AreStretches, items_in, WereStretches}
use Rattle.stab_items.proofs.ItemLemmas.{listed-append}
use Rattle.stab_items.proofs.SummaryLemmas.{summary-join}
use Rattle.stab_items.proofs.EditLemmas.{steps-append, steps_split}
use Rattle.stab_items.proofs.EditResultLemmas.{good_append}

-- sums of items
pub sum_is : (xs ys : List OneItem) (s : Summary) → xs ≡ ys → s ≡ summary_of (listed xs) → IsSummary s → IsGoodList xs → IsSumOf (listed ys) s
sum_is xs ys s e value small good = subst (λ l. IsSumOf (listed l) s) e (record { value = value; small = small; good = good })

pub sum_joined : (all xs ys : List OneItem) (s t r : Summary) → all ≡ xs ++ ys → IsSumOf (listed xs) s → IsSumOf (listed ys) t → r ≡ followed_by s t → IsSummary r → IsSumOf (listed all) r
sum_joined all xs ys s t r e a b f small =
    let near : (summary_of (listed ys)).window ≤ 16777215 = omega (arith, b.small.window, ap (λ q. q.window) b.value) in
    let joined : followed_by s t ≡ summary_of (listed (xs ++ ys)) =
    ap (λ q. followed_by q t) a.value ∙ ap (followed_by (summary_of (listed xs))) b.value ∙ sym (summary-join (listed xs) (listed ys) near) ∙ ap summary_of (sym (listed-append xs ys)) in
    sum_is (xs ++ ys) all r (sym e) (f ∙ joined) small (good_append xs ys a.good b.good)

-- the items from a position on, those before another position first
pub from_joined : (first position : ℕ) (xs : List OneItem) → drop first xs ≡ drop first (take position xs) ++ drop (max first position) xs
from_joined zero position xs =
    let same : position ≡ max 0 position = omega arith in
    sym (take-append-drop position xs) ∙ ap (λ n. take position xs ++ drop n xs) same
from_joined (suc first) zero xs =
    let same : suc first ≡ max (suc first) 0 = omega arith in
    ap (λ n. drop n xs) same
from_joined (suc first) (suc position) [] = sym (drop-nil (max (suc first) (suc position)))
from_joined (suc first) (suc position) (x ∷ xs) =
    let same : suc (max first position) ≡ max (suc first) (suc position) = omega arith in
    from_joined first position xs ∙ ap (λ n. drop first (take position xs) ++ drop n (x ∷ xs)) same

pub sum_further : (front : List OneItem) (first position n : ℕ) (s t r : Summary) → IsSumOf (listed (drop first (take position front))) s → IsSumOf (listed (drop (max first position) (take (position + n) front))) t → r ≡ followed_by s t → IsSummary r
    → IsSumOf (listed (drop first (take (position + n) front))) r
sum_further front first position n s t r a b e small =
    let own = take (position + n) front in
    let all = from_joined first position own ∙ ap (λ l. drop first l ++ drop (max first position) own) (take-take position (position + n) front (omega arith)) in
    sum_joined (drop first own) (drop first (take position front)) (drop (max first position) own) s t r all a b e small

-- a stretch that is in a front of the list
pub sum_in_front : (xs front : List OneItem) (end position n : ℕ) (s : Summary) → front ≡ take end xs → IsSumOf (listed (take n (drop position xs))) s → position + n ≤ length front → IsSumOf (listed (take n (drop position front))) s
sum_in_front xs front end position n s e sum fits =
    let long : position + n ≤ end = omega (arith, fits, ap length e, length-take end xs) in
    let same : take n (drop position xs) ≡ take n (drop position front) =
    sym (drop-take position n xs) ∙ ap (drop position) (sym (take-take (position + n) end xs long) ∙ ap (take (position + n)) (sym e)) ∙ drop-take position n front in
    subst (λ l. IsSumOf (listed l) s) same sum

pub sum_whole : (front : List OneItem) (first position n : ℕ) (s : Summary) → first ≤ position → IsSumOf (listed (take n (drop position front))) s → IsSumOf (listed (drop (max first position) (take (position + n) front))) s
sum_whole front first position n s order sum =
    let later : position ≡ max first position = omega (arith, order) in
    let same : take n (drop position front) ≡ drop (max first position) (take (position + n) front) = sym (drop-take position n front) ∙ ap (λ m. drop m (take (position + n) front)) later in
    subst (λ l. IsSumOf (listed l) s) same sum

-- one stretch more
pub stretch_pushed : (ss : List Stretch) (s : Stretch) (xs : List OneItem) → AreStretches ss xs → s.items ≤ length (drop (items_in ss) xs)
    → IsSumOf (listed (take s.items (drop (items_in ss) xs))) s.summary → AreStretches (ss ++ s ∷ []) xs
stretch_pushed [] s xs a fits sum = (fits, sum, tt)
stretch_pushed (t ∷ ss) s xs a fits sum =
    let further : drop (t.items + items_in ss) xs ≡ drop (items_in ss) (drop t.items xs) = sym (drop-drop (items_in ss) t.items xs) in (
      a.0,
      a.1,
      stretch_pushed ss s (drop t.items xs) a.2 (omega (arith, fits, ap length further)) (subst (λ l. IsSumOf (listed (take s.items l)) s.summary) further sum),
    )

pub items_pushed : (ss : List Stretch) (s : Stretch) → items_in (ss ++ s ∷ []) ≡ items_in ss + s.items
items_pushed [] s = omega arith
items_pushed (t ∷ ss) s = omega (arith, items_pushed ss s)

-- the first of some stretches
pub stretch_here : (ss : List Stretch) (k : ℕ) (s : Stretch) (xs : List OneItem) → k < length ss → s ≡ get_or ss k s → AreStretches (drop k ss) xs
    → (s.items ≤ length xs) × IsSumOf (listed (take s.items xs)) s.summary × AreStretches (drop (k + 1) ss) (drop s.items xs)
stretch_here ss k s xs h e a =
    let next' : suc k ≡ k + 1 = omega arith in
    let cut : drop k ss ≡ s ∷ drop (k + 1) ss = drop-cons ss k s h ∙ (λ i. sym e i ∷ drop (next' i) ss) in
    subst (λ l. AreStretches l xs) cut a

-- the steps of the items up to the end of a stretch
none_taken : (n : ℕ) → ◌≡◌ {A = List OneItem} (take n []) []
none_taken zero = refl
none_taken (suc n) = refl

take_further : (n m : ℕ) (xs : List OneItem) → take (n + m) xs ≡ take n xs ++ take m (drop n xs)
take_further zero m xs = let same : 0 + m ≡ m = omega arith in ap (λ k. take k xs) same
take_further (suc n) m [] = none_taken (suc n + m) ∙ sym (none_taken m)
take_further (suc n) m (x ∷ xs) = let same : suc n + m ≡ suc (n + m) = omega arith in ap (λ k. take k (x ∷ xs)) same ∙ ap (λ l. x ∷ l) (take_further n m xs)

pub steps_further : (xs : List OneItem) (position n steps left step : ℕ) → steps ≡ min (length (unroll (listed (take n (drop position xs))))) 1048577 → steps ≤ left → step ≤ 1048576
    → length (unroll (listed (take position xs))) + left ≡ step → length (unroll (listed (take (position + n) xs))) + (left - steps) ≡ step
steps_further xs position n steps left step e enough few counted =
    let here = unroll (listed (take position xs)) in
    let more = unroll (listed (take n (drop position xs))) in
    omega (arith, e, enough, few, counted, ap (λ l. length (unroll (listed l))) (take_further position n xs), ap length (steps-append (take position xs) (take n (drop position xs))), length-append here more)

-- the steps from a step on
pub steps_from_position : (xs : List OneItem) (position rest step : ℕ) → length (unroll (listed (take position xs))) + rest ≡ step → drop rest (unroll (listed (drop position xs))) ≡ drop step (unroll (listed xs))
steps_from_position xs position rest step e =
    let front = unroll (listed (take position xs)) in
    let back = unroll (listed (drop position xs)) in
    sym (ap (drop step) (steps_split position xs) ∙ ap (λ n. drop n (front ++ back)) (sym e) ∙ drop-append-add front back rest)

-- how many items are before a stretch, and before the next one
pub items_next : (ss : List Stretch) (k : ℕ) (s : Stretch) → k < length ss → s ≡ get_or ss k s → items_in (take (k + 1) ss) ≡ items_in (take k ss) + s.items
items_next [] k s h e = absurd (omega arith)
items_next (t ∷ ss) zero s h e = omega (arith, ap (λ q. q.items) e)
items_next (t ∷ ss) (suc k) s h e = ap (λ n. items_in (take n (t ∷ ss))) next ∙ omega (arith, items_next ss k s (omega arith) e)
  where
    next : suc k + 1 ≡ suc (k + 1)
    next = omega arith

pub items_before : (ss : List Stretch) (k : ℕ) (xs : List OneItem) → AreStretches ss xs → items_in (take k ss) ≤ length xs
items_before [] zero xs are = omega arith
items_before [] (suc k) xs are = omega arith
items_before (s ∷ ss) zero xs are = omega arith
items_before (s ∷ ss) (suc k) xs are = omega (arith, are.0, items_before ss k (drop s.items xs) are.2, length-drop s.items xs)

-- a stretch of a list that has the same items up to its end, and some more
same_stretch : (s : Stretch) (some : ℕ) (xs ys : List OneItem) → s.items ≤ length xs → IsSumOf (listed (take s.items xs)) s.summary → take (s.items + some) ys ≡ take (s.items + some) xs
    → (s.items ≤ length ys) × IsSumOf (listed (take s.items ys)) s.summary × (take some (drop s.items ys) ≡ take some (drop s.items xs))
same_stretch s some xs ys fits sum same =
    let n = s.items in
    let front : take n ys ≡ take n xs = sym (take-take n (n + some) ys (omega arith)) ∙ ap (take n) same ∙ take-take n (n + some) xs (omega arith) in
    (omega (arith, fits, ap length front, length-take n ys, length-take-le n xs fits), subst (λ l. IsSumOf (listed l) s.summary) (sym front) sum, sym (drop-take n some ys) ∙ ap (drop n) same ∙ drop-take n some xs)

pub same_stretches : (ss : List Stretch) (xs ys : List OneItem) → AreStretches ss xs → take (items_in ss) ys ≡ take (items_in ss) xs → AreStretches ss ys
same_stretches [] xs ys are same = tt
same_stretches (s ∷ ss) xs ys are same =
    let here = same_stretch s (items_in ss) xs ys are.0 are.1 same in
    (here.0, here.1, same_stretches ss (drop s.items xs) (drop s.items ys) are.2 here.2)

-- stretches of a list of which only the items of one changed, with that one renewed
pub renewed : (ss : List Stretch) (k : ℕ) (new : Stretch) (xs ys : List OneItem) → AreStretches ss xs → k < length ss → take (items_in (take k ss)) ys ≡ take (items_in (take k ss)) xs
    → new.items ≤ length (drop (items_in (take k ss)) ys) → IsSumOf (listed (take new.items (drop (items_in (take k ss)) ys))) new.summary
    → drop new.items (drop (items_in (take k ss)) ys) ≡ drop (items_in (take (suc k) ss)) xs → AreStretches (set ss k new) ys
renewed [] k new xs ys are h same fits sum rest = absurd (omega arith)
renewed (s ∷ ss) zero new xs ys are h same fits sum rest =
    let here : s.items + 0 ≡ s.items = omega arith in
    (fits, sum, subst (AreStretches ss) (sym (rest ∙ ap (λ n. drop n xs) here)) are.2)
renewed (s ∷ ss) (suc k) new xs ys are h same fits sum rest =
    let n = s.items in
    let some = items_in (take k ss) in
    let here = same_stretch s some xs ys are.0 are.1 same in
    let further : drop some (drop n ys) ≡ drop (n + some) ys = drop-drop some n ys in (
      here.0,
      here.1,
      renewed ss k new (drop n xs) (drop n ys) are.2 (omega arith) here.2 (omega (arith, fits, ap length further))
          (subst (λ l. IsSumOf (listed (take new.items l)) new.summary) (sym further) sum) (ap (drop new.items) further ∙ rest ∙ sym (drop-drop (items_in (take (suc k) ss)) n xs)),
    )

-- the items before an edit
same_before : (ss : List Stretch) (position len some : ℕ) (ys : List OneItem) (were : WereStretches ss position len ys) → some ≤ position → take some ys ≡ take some were.old
same_before ss position len some ys were before =
    let xs = were.old in
    let cut = were.splice in
    let left : take cut.first xs ++ (cut.put ++ drop cut.following xs) ≡ ys = cc in
    let short : length (take cut.first xs) ≡ cut.first = length-take-le cut.first xs (omega (arith, were.within.order, were.within.end)) in
    ap (take some) (sym left) ∙ take-append-le some (take cut.first xs) (cut.put ++ drop cut.following xs) (omega (arith, short, were.first, before)) ∙ take-take some cut.first xs (omega (arith, were.first, before))

pub stays_after : (ss : List Stretch) (k position len first : ℕ) (ys : List OneItem) → WereStretches ss position len ys → length ss ≤ k → first ≡ items_in (take k ss) → first ≤ position → AreStretches ss ys
stays_after ss k position len first ys were h at before =
    let all : items_in (take k ss) ≡ items_in ss = ap items_in (take_all k ss h) in
    same_stretches ss were.old ys were.are (same_before ss position len (items_in ss) ys were (omega (arith, all, at, before)))

-- where a stretch ends
pub end_within : (ss : List Stretch) (k position len first : ℕ) (s : Stretch) (ys : List OneItem) → WereStretches ss position len ys → k < length ss → s ≡ get_or ss k s → first ≡ items_in (take k ss) → first + s.items ≤ len
end_within ss k position len first s ys were h e at = omega (arith, items_next ss k s h e, at, were.long, items_before ss (k + 1) were.old were.are)

-- the stretches of a list in which one was renewed that an edit lies in
pub renewed_at : (ss : List Stretch) (k position len first : ℕ) (s new : Stretch) (ys own : List OneItem) → WereStretches ss position len ys → k < length ss → s ≡ get_or ss k s → first ≡ items_in (take k ss) → first ≤ position
    → position < first + s.items → own ≡ drop first (take (length ys - (len - (first + s.items))) ys) → new.items ≡ length own → IsSumOf (listed own) new.summary → AreStretches (set ss k new) ys
renewed_at ss k position len first s new ys own were h e at before following is items sum =
    let xs = were.old in
    let cut = were.splice in
    let front = take cut.first xs ++ cut.put in
    let back = drop cut.following xs in
    let end = first + s.items in
    let preserved = length ys - (len - end) in
    let some = items_in (take k ss) in
    let left : take cut.first xs ++ (cut.put ++ back) ≡ ys = cc in
    let whole : ys ≡ front ++ back = sym left ∙ sym (append_assoc (take cut.first xs) cut.put back) in
    let next : items_in (take (k + 1) ss) ≡ end = omega (arith, items_next ss k s h e, at) in
    let fits : end ≤ length xs = omega (arith, were.long, end_within ss k position len first s ys were h e at) in
    let short : length (take cut.first xs) ≡ cut.first = length-take-le cut.first xs (omega (arith, were.within.order, were.within.end)) in
    let long : length ys ≡ length front + (length xs - cut.following) = ap length whole ∙ length-append front back ∙ ap (λ n. length front + n) (length-drop cut.following xs) in
    let joined : length front ≡ cut.first + length cut.put = length-append (take cut.first xs) cut.put ∙ ap (λ n. n + length cut.put) short in
    let past : cut.following ≤ end = omega (arith, were.one, following) in
    let cut_at : preserved ≡ length front + (end - cut.following) = omega (arith, long, were.long, fits, past) in
    let further : cut.following + (end - cut.following) ≡ end = omega (arith, past) in
    let rest : drop preserved ys ≡ drop end xs =
    ap (drop preserved) whole ∙ ap (λ n. drop n (front ++ back)) cut_at ∙ drop-append-add front back (end - cut.following) ∙ drop-drop (end - cut.following) cut.following xs ∙ ap (λ n. drop n xs) further in
    let same = same_before ss position len some ys were (omega (arith, before, at)) in
    let enough : some + new.items ≡ preserved =
    omega (arith, items, ap length is, length-drop first (take preserved ys), length-take preserved ys, cut_at, joined, long, were.first, before, at, were.within.end, past, fits) in
    let mine : own ≡ take new.items (drop some ys) = is ∙ (λ i. drop (at i) (take (sym enough i) ys)) ∙ drop-take some new.items ys in
    let step : items_in (take (k + 1) ss) ≡ items_in (take (suc k) ss) = ap (λ n. items_in (take n ss)) one in
    renewed ss k new xs ys were.are h same (omega (arith, enough, length-drop some ys, cut_at, long, past, fits)) (subst (λ l. IsSumOf (listed l) new.summary) mine sum)
    (drop-drop new.items some ys ∙ ap (λ n. drop n ys) enough ∙ rest ∙ ap (λ n. drop n xs) (sym next ∙ step))
  where
    one : k + 1 ≡ suc k
    one = omega arith
