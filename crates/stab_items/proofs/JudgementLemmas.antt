-- What an edit comes to, by stored summaries.
use Rattle.stab_items.proofs.Names.{◌≡◌, ◌≤◌, ◌<◌, refl, ap, sym, ◌∙◌, subst, ℕ, ◌+◌, ◌*◌, suc, zero, min, List, [], ◌∷◌, ◌++◌, length, take, drop, arith, Option, Some, None, Result, Ok, Err, IfOk, length-append, slice_get, Refusal, Summary, Judgement, Edit, OneItem, operation, repeat, listed, Step, unroll, rounds, rebuilt, edited_inside, edit_path, edited_in, inner, steps_in, summary_of, followed_by, repeated, window, IsSummary, Splice, splice_block, splice_of, spliced, IsWithin, summed, judgement_of, block_refusal, BeginsWith, steps_within, PutsGood, IsGoodList, IsCount, IsTag}
use Rattle.stab_items.proofs.ItemLemmas.{listed-append}
use Rattle.stab_items.proofs.SummaryLemmas.{summary-join, block_summary}
use Rattle.stab_items.proofs.GoodItemLemmas.{block_good}
use Rattle.stab_items.proofs.EditLemmas.{entries-listed, got_split, steps-append, steps_split, begins_before, begins_after}
use Rattle.stab_items.proofs.SpliceLemmas.{edited_spliced, splice_within}

inside_is : (edit : List OneItem → Result (List OneItem) Refusal) (n : ℕ) (tag : List ℕ) (body : List OneItem) (g : Option OneItem) → g ≡ Some (repeat n tag (listed body)) → edited_inside edit g ≡ rebuilt n tag (edit body)
inside_is edit n tag body g e = ap (edited_inside edit) e ∙ ap (λ l. rebuilt n tag (edit l)) (entries-listed body)

err_rebuilt : (n b w : ℕ) (tag : List ℕ) (q : Result (List OneItem) Refusal) (r : Refusal) → q ≡ Err r → judgement_of w (splice_block b (rebuilt n tag q)) ≡ Err r
err_rebuilt n b w tag q r e = ap (λ t. judgement_of w (splice_block b (rebuilt n tag t))) e

ok_rebuilt : (n b w : ℕ) (tag : List ℕ) (q : Result (List OneItem) Refusal) (s : Summary) → 0 < n → summed q ≡ Ok s
    → judgement_of w (splice_block b (rebuilt n tag q)) ≡ Ok (record { first = b; following = b + 1; put = repeated n s; within = w })
ok_rebuilt n b w tag (Ok ys) s h e =
    let same : summary_of (listed ys) ≡ s = cc in
    ap (λ t. Ok (record { first = b; following = b + 1; put = t; within = w })) (block_summary n tag (listed ys) h ∙ ap (repeated n) same)
ok_rebuilt n b w tag (Err r) s h e = absurd (cc)

-- in a block
splice_inside : (edit : Edit) (b n : ℕ) (bs blocks tag : List ℕ) (xs body : List OneItem) → blocks ≡ b ∷ bs → slice_get xs b ≡ Some (repeat n tag (listed body))
    → splice_of edit blocks xs ≡ splice_block b (rebuilt n tag (edited_in edit bs body))
splice_inside edit b n bs blocks tag xs body e f =
    ap (λ l. splice_of edit l xs) e ∙ ap (splice_block b) (inside_is (edited_in edit bs) n tag body (slice_get xs b) f)

within_block : (b p n : ℕ) (bs blocks tag : List ℕ) (xs body : List OneItem) → blocks ≡ b ∷ bs → slice_get xs b ≡ Some (repeat n tag (listed body)) → steps_within blocks p xs ≡ steps_in bs p body
within_block b p n bs blocks tag xs body e f = ap (λ l. steps_within l p xs) e ∙ ap (λ g. steps_in bs p (inner g)) f ∙ ap (steps_in bs p) (entries-listed body)

pub judged_err : (edit : Edit) (b n w : ℕ) (bs blocks tag : List ℕ) (xs body : List OneItem) (r : Refusal) → blocks ≡ b ∷ bs → slice_get xs b ≡ Some (repeat n tag (listed body)) → edited_in edit bs body ≡ Err r
    → Err r ≡ judgement_of w (splice_of edit blocks xs)
judged_err edit b n w bs blocks tag xs body r e f h =
    sym (ap (judgement_of w) (splice_inside edit b n bs blocks tag xs body e f) ∙ err_rebuilt n b w tag (edited_in edit bs body) r h)

pub judged_ok : (edit : Edit) (b n w : ℕ) (bs blocks tag : List ℕ) (xs body : List OneItem) (s : Summary) → blocks ≡ b ∷ bs → slice_get xs b ≡ Some (repeat n tag (listed body)) → 0 < n → Ok s ≡ summed (edited_in edit bs body)
    → w ≡ min (length (steps_in bs (edit_path edit).position body)) 1048577
    → Ok (record { first = b; following = b + 1; put = repeated n s; within = w }) ≡ judgement_of (min (length (steps_within blocks (edit_path edit).position xs)) 1048577) (splice_of edit blocks xs)
judged_ok edit b n w bs blocks tag xs body s e f pos h v =
    sym (
    ap (λ l. judgement_of (min (length l) 1048577) (splice_of edit blocks xs)) (within_block b (edit_path edit).position n bs blocks tag xs body e f)
    ∙ ap (λ m. judgement_of m (splice_of edit blocks xs)) (sym v)
    ∙ ap (judgement_of w) (splice_inside edit b n bs blocks tag xs body e f)
    ∙ ok_rebuilt n b w tag (edited_in edit bs body) s pos (sym h)
    )

-- what is put in, if it keeps the rules of lines
rebuilt_good : (n b : ℕ) (tag : List ℕ) (q : Result (List OneItem) Refusal) → IsCount n → IsTag tag → IfOk q IsGoodList → IfOk (splice_block b (rebuilt n tag q)) PutsGood
rebuilt_good n b tag (Ok ys) c t g = block_good (repeat n tag (listed ys)) n tag (listed ys) refl c t g
rebuilt_good n b tag (Err r) c t g = g

pub judged_good : (edit : Edit) (b n : ℕ) (bs blocks tag : List ℕ) (xs body : List OneItem) → blocks ≡ b ∷ bs → slice_get xs b ≡ Some (repeat n tag (listed body)) → IsCount n → IsTag tag
    → IfOk (edited_in edit bs body) IsGoodList → IfOk (splice_of edit blocks xs) PutsGood
judged_good edit b n bs blocks tag xs body e f c t g =
    subst (λ q. IfOk q PutsGood) (sym (splice_inside edit b n bs blocks tag xs body e f)) (rebuilt_good n b tag (edited_in edit bs body) c t g)

-- where a judgement lies in the list
within_by : (q : Result Splice Refusal) (w : ℕ) (j : Judgement) (xs : List OneItem) → ((s : Splice) → q ≡ Ok s → IsWithin s xs) → Ok j ≡ judgement_of w q → (j.first ≤ j.following) × (j.following ≤ length xs)
within_by (Ok s) v j xs f e =
    let w = f s refl in
    let same : j ≡ record { first = s.first; following = s.following; put = summary_of (listed s.put); within = v } = cc in
    (omega (arith, ap (λ t. t.first) same, ap (λ t. t.following) same, w.order), omega (arith, ap (λ t. t.following) same, w.end))
within_by (Err r) w j xs f e = absurd (cc)

pub judged_within : (edit : Edit) (blocks : List ℕ) (w : ℕ) (xs : List OneItem) (j : Judgement) → Ok j ≡ judgement_of w (splice_of edit blocks xs) → (j.first ≤ j.following) × (j.following ≤ length xs)
judged_within edit blocks w xs j e = within_by (splice_of edit blocks xs) w j xs (λ s h. splice_within edit blocks xs s h) e

-- the summary of a list with items put into it
put_summary : (front put back : List OneItem) → (summary_of (listed put)).window ≤ 16777215 → (summary_of (listed back)).window ≤ 16777215
    → summary_of (listed (front ++ (put ++ back))) ≡ followed_by (summary_of (listed front)) (followed_by (summary_of (listed put)) (summary_of (listed back)))
put_summary front put back near far =
    let inner : summary_of (listed (put ++ back)) ≡ followed_by (summary_of (listed put)) (summary_of (listed back)) = ap summary_of (listed-append put back) ∙ summary-join (listed put) (listed back) far in
    let small : window (unroll (listed (put ++ back))) ≤ 16777215 = omega (arith, ap (λ s. s.window) inner, near, far) in
    ap summary_of (listed-append front (put ++ back)) ∙ summary-join (listed front) (listed (put ++ back)) small ∙ ap (followed_by (summary_of (listed front))) inner

summed_by : (q : Result Splice Refusal) (w : ℕ) (j : Judgement) (xs : List OneItem) → Ok j ≡ judgement_of w q → IsSummary j.put → (summary_of (listed (drop j.following xs))).window ≤ 16777215
    → Ok (followed_by (summary_of (listed (take j.first xs))) (followed_by j.put (summary_of (listed (drop j.following xs))))) ≡ summed (spliced xs q)
summed_by (Ok s) w j xs e small far =
    let same : j ≡ record { first = s.first; following = s.following; put = summary_of (listed s.put); within = w } = cc in
    let first : j.first ≡ s.first = ap (λ t. t.first) same in
    let following : j.following ≡ s.following = ap (λ t. t.following) same in
    let put : j.put ≡ summary_of (listed s.put) = ap (λ t. t.put) same in
    let near : (summary_of (listed s.put)).window ≤ 16777215 = omega (arith, small.window, ap (λ t. t.window) put) in
    let far' : (summary_of (listed (drop s.following xs))).window ≤ 16777215 = subst (λ n. (summary_of (listed (drop n xs))).window ≤ 16777215) following far in
    ap (λ n. Ok (followed_by (summary_of (listed (take n xs))) (followed_by j.put (summary_of (listed (drop j.following xs)))))) first
    ∙ ap (λ n. Ok (followed_by (summary_of (listed (take s.first xs))) (followed_by j.put (summary_of (listed (drop n xs)))))) following
    ∙ ap (λ t. Ok (followed_by (summary_of (listed (take s.first xs))) (followed_by t (summary_of (listed (drop s.following xs)))))) put
    ∙ ap Ok (sym (put_summary (take s.first xs) s.put (drop s.following xs) near far'))
summed_by (Err r) w j xs e small far = absurd (cc)

summed_judged : (edit : Edit) (blocks : List ℕ) (w : ℕ) (xs : List OneItem) (j : Judgement) → Ok j ≡ judgement_of w (splice_of edit blocks xs) → IsSummary j.put → (summary_of (listed (drop j.following xs))).window ≤ 16777215
    → Ok (followed_by (summary_of (listed (take j.first xs))) (followed_by j.put (summary_of (listed (drop j.following xs))))) ≡ summed (edited_in edit blocks xs)
summed_judged edit blocks w xs j e small far = summed_by (splice_of edit blocks xs) w j xs e small far ∙ ap summed (sym (edited_spliced edit blocks xs))

err_by : (q : Result Splice Refusal) (w : ℕ) (xs : List OneItem) (r : Refusal) → Err r ≡ judgement_of w q → spliced xs q ≡ Err r
err_by (Ok s) w xs r e = absurd (cc)
err_by (Err s) w xs r e = cc

pub edit_refused : (edit : Edit) (blocks : List ℕ) (w : ℕ) (xs : List OneItem) (r : Refusal) → Err r ≡ judgement_of w (splice_of edit blocks xs) → edited_in edit blocks xs ≡ Err r
edit_refused edit blocks w xs r e = edited_spliced edit blocks xs ∙ err_by (splice_of edit blocks xs) w xs r e

pub summed_around : (edit : Edit) (blocks : List ℕ) (w : ℕ) (xs front back : List OneItem) (j : Judgement) (s : Summary) → Ok j ≡ judgement_of w (splice_of edit blocks xs) → IsSummary j.put
    → front ≡ take j.first xs → back ≡ drop j.following xs → (summary_of (listed back)).window ≤ 16777215 → s ≡ followed_by (summary_of (listed front)) (followed_by j.put (summary_of (listed back)))
    → Ok s ≡ summed (edited_in edit blocks xs)
summed_around edit blocks w xs front back j s e small f g far h =
    ap Ok h
    ∙ ap (λ l. Ok (followed_by (summary_of (listed l)) (followed_by j.put (summary_of (listed back))))) f
    ∙ ap (λ l. Ok (followed_by (summary_of (listed (take j.first xs))) (followed_by j.put (summary_of (listed l))))) g
    ∙ summed_judged edit blocks w xs j e small (subst (λ l. (summary_of (listed l)).window ≤ 16777215) g far)

-- the steps before a position in nested blocks
no_steps : (bs : List ℕ) (p : ℕ) → steps_in bs p [] ≡ []
no_steps [] zero = refl
no_steps [] (suc p) = refl
no_steps (zero ∷ bs) p = no_steps bs p
no_steps (suc b ∷ bs) p = no_steps bs p

nothing_in : (g : Option OneItem) (r : Refusal) → block_refusal g ≡ Some r → inner g ≡ []
nothing_in None r e = refl
nothing_in (Some (operation op)) r e = refl
nothing_in (Some (repeat n tag body)) r e = absurd (cc)

-- the steps of the first items
pub begins_up_to : (n : ℕ) (xs : List OneItem) → BeginsWith (unroll (listed (take n xs))) (unroll (listed xs))
begins_up_to n xs = (unroll (listed (drop n xs)), steps_split n xs)

pub begins_at : (p : ℕ) (blocks : List ℕ) (xs : List OneItem) → length blocks ≡ 0 → BeginsWith (steps_in blocks p xs) (unroll (listed xs))
begins_at p [] xs e = begins_up_to p xs
begins_at p (b ∷ bs) xs e = absurd (omega arith)

steps_block : (b p n : ℕ) (bs blocks tag : List ℕ) (xs body : List OneItem) → blocks ≡ b ∷ bs → slice_get xs b ≡ Some (repeat n tag (listed body)) → steps_in blocks p xs ≡ unroll (listed (take b xs)) ++ steps_in bs p body
steps_block b p n bs blocks tag xs body e f =
    ap (λ l. steps_in l p xs) e
    ∙ ap (λ g. unroll (listed (take b xs)) ++ steps_in bs p (inner g)) f
    ∙ ap (λ l. unroll (listed (take b xs)) ++ steps_in bs p l) (entries-listed body)

pub none_inside : (g : Option OneItem) (bs : List ℕ) (p : ℕ) (r : Refusal) → block_refusal g ≡ Some r → 0 ≡ min (length (steps_in bs p (inner g))) 1048577
none_inside g bs p r e = sym (ap (λ l. min (length (steps_in bs p l)) 1048577) (nothing_in g r e) ∙ ap (λ l. min (length l) 1048577) (no_steps bs p))

pub inside_block : (g : Option OneItem) (bs : List ℕ) (p n k : ℕ) (tag : List ℕ) (body : List OneItem) → g ≡ Some (repeat n tag (listed body)) → k ≡ min (length (steps_in bs p body)) 1048577 → k ≡ min (length (steps_in bs p (inner g))) 1048577
inside_block g bs p n k tag body e f = f ∙ sym (ap (λ q. min (length (steps_in bs p (inner q))) 1048577) e ∙ ap (λ l. min (length (steps_in bs p l)) 1048577) (entries-listed body))

begins_rounds : (n : ℕ) (front body : List Step) → 0 < n → BeginsWith front body → BeginsWith front (rounds n body)
begins_rounds zero front body h b = absurd (omega arith)
begins_rounds (suc n) front body h b = begins_before front body (rounds n body) b

pub begins_block : (b p n : ℕ) (bs blocks tag : List ℕ) (xs body : List OneItem) → blocks ≡ b ∷ bs → slice_get xs b ≡ Some (repeat n tag (listed body)) → 0 < n → BeginsWith (steps_in bs p body) (unroll (listed body))
    → BeginsWith (steps_in blocks p xs) (unroll (listed xs))
begins_block b p n bs blocks tag xs body e f h inside =
    let front = unroll (listed (take b xs)) in
    let within = steps_in bs p body in
    let turns = begins_rounds n within (unroll (listed body)) h inside in
    let more = begins_before within (rounds n (unroll (listed body))) (unroll (listed (drop (suc b) xs))) turns in
    let whole = begins_after front within (rounds n (unroll (listed body)) ++ unroll (listed (drop (suc b) xs))) more in
    let all : unroll (listed xs) ≡ front ++ (rounds n (unroll (listed body)) ++ unroll (listed (drop (suc b) xs))) =
    ap (λ l. unroll (listed l)) (got_split xs b (repeat n tag (listed body)) f) ∙ steps-append (take b xs) (repeat n tag (listed body) ∷ drop (suc b) xs) in
    subst (λ l. BeginsWith l (unroll (listed xs))) (sym (steps_block b p n bs blocks tag xs body e f)) (subst (BeginsWith (front ++ within)) (sym all) whole)

-- what leaves a list if a block is edited is the block, with no fewer steps than are before a position within it

taken_one : (xs : List OneItem) (b : ℕ) (x : OneItem) → slice_get xs b ≡ Some x → drop b (take (suc b) xs) ≡ x ∷ []
taken_one [] b x e = absurd (cc)
taken_one (y ∷ ys) zero x e = cc
taken_one (y ∷ ys) (suc b) x e = taken_one ys b x e

begins_shorter : (front all : List Step) → BeginsWith front all → length front ≤ length all
begins_shorter front all b = omega (arith, ap length b.1, length-append front b.0)

pub gone_block : (b p n k : ℕ) (bs tag : List ℕ) (xs body : List OneItem) → slice_get xs b ≡ Some (repeat n tag (listed body)) → 0 < n → BeginsWith (steps_in bs p body) (unroll (listed body))
    → k ≡ min (length (steps_in bs p body)) 1048577 → k ≤ length (unroll (listed (drop b (take (b + 1) xs))))
gone_block b p n k bs tag xs body f h inside e =
    let within = steps_in bs p body in
    let block = repeat n tag (listed body) in
    let more = begins_before within (rounds n (unroll (listed body))) [] (begins_rounds n within (unroll (listed body)) h inside) in
    let long : length within ≤ length (unroll (listed (block ∷ []))) = begins_shorter within (unroll (listed (block ∷ []))) more in
    let one : drop b (take (b + 1) xs) ≡ block ∷ [] = ap (λ m. drop b (take m xs)) next ∙ taken_one xs b block f in
    omega (arith, e, long, ap (λ l. length (unroll (listed l))) one)
  where
    next : b + 1 ≡ suc b
    next = omega arith

-- a round has no more steps than all of them have
pub put_block : (n s k : ℕ) → 0 < n → k ≤ s → k ≤ 1048577 → k ≤ min (n * s) 1048577
put_block zero s k h less cap = absurd (omega arith)
put_block (suc n) s k h less cap = omega (arith, less, cap)
