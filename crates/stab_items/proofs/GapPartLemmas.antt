-- The gaps after an item in blocks, list by list and block by block.
use Rattle.stab_items.proofs.Names.{◌≡◌, ◌≤◌, ◌<◌, refl, ap, sym, ◌∙◌, subst, ℕ, ◌+◌, ◌*◌, suc, zero, min, List, [], ◌∷◌, ◌++◌, length, take, drop, map, All, arith, append-nil, Option, Some, None, Result, Ok, Err, IfOk, IfSome, IfNone, length-append, drop_min, drop-drop, drop-take, length-map, slice_get, Summary, OneItem, repeat, listed, Step, unroll, rounds, summary_of, Path, item_in, found_inside, item_at, inner, steps_in, outermost, rounds_in, pieces_in, pieces, HaveRounds, AreGaps, item_steps, with_more, round_gaps, block_pieces, AreGapsIn, AreGapsInside}
use Rattle.stab_items.proofs.EditLemmas.{entries-listed, got_split, steps-append, steps_split, next_position}
use Rattle.stab_items.proofs.PieceLemmas.{lengths-block_end, lengths-block_after, count-block, count-block_after, lead_short, gaps_short}

-- the steps of a list
abbrev steps : List OneItem → List Step
steps xs = unroll (listed xs)

-- the steps after the item at a position, counted
pub counted_after : (position k : ℕ) (xs rest : List OneItem) (x : OneItem) (following : List OneItem) (s : Summary) → k ≡ min position (length xs) → rest ≡ drop k xs → rest ≡ x ∷ following
    → s ≡ summary_of (listed following) → s.steps ≡ min (length (steps (drop (position + 1) xs))) 1048577
counted_after position k xs rest x following s at back is e =
    let left : drop position xs ≡ x ∷ following = sym (drop_min position xs) ∙ ap (λ n. drop n xs) (sym at) ∙ sym back ∙ is in
    let next : drop (position + 1) xs ≡ following = sym (drop-drop 1 position xs) ∙ ap (drop 1) left in
    ap (λ t. t.steps) e ∙ ap (λ l. min (length (steps l)) 1048577) (sym next)

-- a list of few steps has few after a position, which are counted
few_after : (position s : ℕ) (xs : List OneItem) → s ≡ min (length (steps (drop position xs))) 1048577 → length (steps xs) ≤ 1048576 → s ≡ length (steps (drop position xs) ++ [])
few_after position s xs e few =
    let all = ap length (steps_split position xs) in
    let both = length-append (steps (take position xs)) (steps (drop position xs)) in
    let short : s ≡ length (steps (drop position xs)) = grind (arith, e, few, all, both) in
    short ∙ ap length (sym (append-nil (steps (drop position xs))))

pub after_few : (position s : ℕ) (xs : List OneItem) → s ≡ min (length (steps (drop position xs))) 1048577 → length (steps xs) ≤ 1048576 → s ≤ 1048576
after_few position s xs e few =
    let all = ap length (steps_split position xs) in
    let both = length-append (steps (take position xs)) (steps (drop position xs)) in
    grind (arith, e, few, all, both)

-- in the innermost list
pub gaps_at : (blocks : List ℕ) (position s : ℕ) (xs : List OneItem) (gaps : List ℕ) → length blocks ≡ 0 → gaps ≡ s ∷ [] → s ≡ min (length (steps (drop (position + 1) xs))) 1048577 → length (steps xs) ≤ 1048576
    → AreGapsIn blocks position xs gaps
gaps_at [] position s xs gaps none is e few = record { lengths = is ∙ ap (λ n. n ∷ []) (few_after (position + 1) s xs e few); rounds = tt }
gaps_at (b ∷ bs) position s xs gaps none is e few = absurd (omega (arith, none))

-- in a list around a block
pub gaps_around : (blocks : List ℕ) (b : ℕ) (bs : List ℕ) (position s : ℕ) (xs : List OneItem) (gaps all : List ℕ) → blocks ≡ b ∷ bs → AreGapsInside bs position (slice_get xs b) gaps
    → s ≡ min (length (steps (drop (b + 1) xs))) 1048577 → length (steps xs) ≤ 1048576 → all ≡ with_more s gaps → AreGapsIn blocks position xs all
gaps_around blocks b bs position s xs gaps all e h counted few is = subst (λ l. AreGapsIn l position xs all) (sym e) (record {
  lengths =
      is
      ∙ ap (with_more s) h.lengths
      ∙ ap (λ n. with_more n (map length (block_pieces (position + 1) bs position (slice_get xs b) []))) (few_after (b + 1) s xs counted few)
      ∙ sym (lengths-block_after (position + 1) bs position (slice_get xs b) (steps (drop (b + 1) xs) ++ []));
  rounds = (h.some, h.rounds);
})

-- too many, if there are too many in the block
pub many_around : (blocks : List ℕ) (b : ℕ) (bs : List ℕ) (position : ℕ) (xs : List OneItem) → blocks ≡ b ∷ bs
    → ((x : OneItem) → found_inside (item_in bs position) (slice_get xs b) ≡ Ok x → 1048576 < length (block_pieces (position + 1) bs position (slice_get xs b) []))
    → (x : OneItem) → item_in blocks position xs ≡ Ok x → 1048576 < length (pieces_in (position + 1) blocks position xs [])
many_around blocks b bs position xs e many x found =
    let more = many x (sym (ap (λ l. item_in l position xs) e) ∙ found) in
    let same = ap (λ l. length (pieces_in (position + 1) l position xs [])) e ∙ count-block_after (position + 1) bs position (slice_get xs b) (steps (drop (b + 1) xs) ++ []) in
    omega (arith, more, same)

-- an item of a list has no more steps than the list
pub item_short : (xs : List OneItem) (b : ℕ) (x : Option OneItem) → slice_get xs b ≡ x → length (item_steps x) ≤ length (steps xs)
item_short xs b None e = omega arith
item_short xs b (Some x) e =
    let whole = ap (λ l. length (steps l)) (got_split xs b x e) in
    let outer = ap length (steps-append (take b xs) (x ∷ drop (suc b) xs)) in
    let both = length-append (steps (take b xs)) (steps (x ∷ drop (suc b) xs)) in
    let within = ap length (steps-append (x ∷ []) (drop (suc b) xs)) in
    let two = length-append (steps (x ∷ [])) (steps (drop (suc b) xs)) in
    omega (arith, whole, outer, both, within, two)

-- nor has the body of a block more than the block
rounds_long : (n : ℕ) (body : List Step) → 0 < n → length body ≤ length (rounds n body)
rounds_long zero body h = absurd (omega (arith, h))
rounds_long (suc n) body h = let both = length-append body (rounds n body) in omega (arith, both)

pub body_short : (g : Option OneItem) (n m : ℕ) (tag : List ℕ) (body : List OneItem) → g ≡ Some (repeat n tag (listed body)) → 0 < n → length (item_steps g) ≤ m → length (steps body) ≤ m
body_short g n m tag body e some few =
    let all = ap (λ o. length (item_steps o)) e in
    let both = length-append (rounds n (steps body)) [] in
    omega (arith, few, all, both, rounds_long n (steps body) some)

-- the gaps in a block are no longer than its steps
pub inside_short : (bs : List ℕ) (position m : ℕ) (x : Option OneItem) (gaps : List ℕ) → AreGapsInside bs position x gaps → length (item_steps x) ≤ m → All (λ g. g ≤ m) gaps
inside_short bs position m None gaps h few = absurd (omega (arith, h.some))
inside_short bs position m (Some x) gaps h few = subst (All (λ g. g ≤ m)) (sym h.lengths) (gaps_short (0 ∷ bs) position m (x ∷ []) (h.some, h.rounds) few)

-- in a block

pub gaps_of_block : (g : Option OneItem) (n lead : ℕ) (tag : List ℕ) (body : List OneItem) (bs : List ℕ) (position : ℕ) (round gaps : List ℕ) → g ≡ Some (repeat n tag (listed body)) → 0 < n
    → AreGapsIn bs position body round → length (item_steps g) ≤ 1048576 → lead ≡ min (length (steps_in bs position body)) 1048577 → gaps ≡ round_gaps n lead round → AreGapsInside bs position g gaps
gaps_of_block g n lead tag body bs position round gaps e some h few counted is =
    let short = lead_short bs position 1048576 body h.rounds (body_short g n 1048576 tag body e some few) in
    let exact : lead ≡ length (steps_in bs position body) = grind (arith, counted, short) in
    let x = repeat n tag (listed body) in
    subst (λ o. AreGapsInside bs position o gaps) (sym e) (record {
      lengths =
          is
          ∙ ap (λ l. round_gaps n l round) exact
          ∙ ap (round_gaps n (length (steps_in bs position body))) h.lengths
          ∙ ap (λ l. round_gaps n (length (steps_in bs position l)) (map length (pieces_in (position + 1) bs position l []))) (sym (entries-listed body))
          ∙ sym (lengths-block_end (position + 1) bs position (Some x));
      some = some;
      rounds = subst (HaveRounds bs) (sym (entries-listed body)) h.rounds;
    })

count_of_block : (g : Option OneItem) (n : ℕ) (tag : List ℕ) (body : List OneItem) (bs : List ℕ) (position : ℕ) → g ≡ Some (repeat n tag (listed body))
    → length (block_pieces (position + 1) bs position g []) ≡ n * length (pieces_in (position + 1) bs position body [])
count_of_block g n tag body bs position e =
    count-block (position + 1) bs position g
    ∙ ap (λ o. rounds_in o * length (pieces_in (position + 1) bs position (inner o) [])) e
    ∙ ap (λ l. n * length (pieces_in (position + 1) bs position l [])) (entries-listed body)

times_many : (n k : ℕ) → 0 < n → 1048576 < k → 1048576 < n * k
times_many zero k some h = absurd (omega (arith, some))
times_many (suc n) k some h = grind (arith, h)

-- too many, if there are too many in one round
pub many_inside : (g : Option OneItem) (n : ℕ) (tag : List ℕ) (body : List OneItem) (bs : List ℕ) (position : ℕ) → g ≡ Some (repeat n tag (listed body)) → 0 < n
    → ((x : OneItem) → item_in bs position body ≡ Ok x → 1048576 < length (pieces_in (position + 1) bs position body []))
    → (x : OneItem) → found_inside (item_in bs position) g ≡ Ok x → 1048576 < length (block_pieces (position + 1) bs position g [])
many_inside g n tag body bs position e some many x found =
    let there : item_in bs position body ≡ Ok x = ap (item_in bs position) (sym (entries-listed body)) ∙ sym (ap (found_inside (item_in bs position)) e) ∙ found in
    subst (λ k. 1048576 < k) (sym (count_of_block g n tag body bs position e)) (times_many n (length (pieces_in (position + 1) bs position body [])) some (many x there))

pub many_rounds : (g : Option OneItem) (n : ℕ) (tag : List ℕ) (body : List OneItem) (bs : List ℕ) (position : ℕ) (round : List ℕ) → g ≡ Some (repeat n tag (listed body)) → AreGapsIn bs position body round
    → 1048576 < n * length round → 1048576 < length (block_pieces (position + 1) bs position g [])
many_rounds g n tag body bs position round e h many =
    let same : n * length round ≡ length (block_pieces (position + 1) bs position g []) =
    ap (λ l. n * length l) h.lengths ∙ ap (λ k. n * k) (length-map (pieces_in (position + 1) bs position body []) length) ∙ sym (count_of_block g n tag body bs position e) in
    subst (λ k. 1048576 < k) same many

-- in the outermost list

pub nothing_left : (n : ℕ) (xs : List OneItem) → drop n (take n xs) ≡ []
nothing_left n xs = ap (λ m. drop n (take m xs)) (omega arith) ∙ drop-take n 0 xs

got_up_to : (xs : List OneItem) (b : ℕ) → slice_get (take (suc b) xs) b ≡ slice_get xs b
got_up_to [] b = refl
got_up_to (x ∷ xs) zero = refl
got_up_to (x ∷ xs) (suc b) = got_up_to xs b

pub got_taken : (xs : List OneItem) (b : ℕ) → slice_get (take (b + 1) xs) b ≡ slice_get xs b
got_taken xs b = ap (λ n. slice_get (take n xs) b) (sym (next_position b)) ∙ got_up_to xs b

pub pieces-outer : (path : Path) (end : ℕ) (xs : List OneItem) → path.blocks ≡ [] → pieces path end xs ≡ [] ∷ []
pieces-outer path end xs e =
    ap (λ bs. pieces_in end bs path.position (take (outermost end bs) xs) []) e
    ∙ ap (λ l. (steps l ++ []) ∷ []) (nothing_left end xs)

pub pieces-block : (path : Path) (end b : ℕ) (bs : List ℕ) (xs : List OneItem) → path.blocks ≡ b ∷ bs → pieces path end xs ≡ block_pieces end bs path.position (slice_get xs b) []
pieces-block path end b bs xs e =
    ap (λ l. pieces_in end l path.position (take (outermost end l) xs) []) e
    ∙ ap (λ l. block_pieces end bs path.position (slice_get (take (b + 1) xs) b) (steps l ++ [])) (nothing_left (b + 1) xs)
    ∙ ap (λ x. block_pieces end bs path.position x []) (got_taken xs b)

pub gaps_within : (path : Path) (b : ℕ) (bs : List ℕ) (xs : List OneItem) (gaps : List ℕ) → path.blocks ≡ b ∷ bs → AreGapsInside bs path.position (slice_get xs b) gaps → AreGaps path xs gaps
gaps_within path b bs xs gaps e h = record {
  lengths = h.lengths ∙ ap (map length) (sym (pieces-block path (path.position + 1) b bs xs e));
  rounds = subst (λ l. HaveRounds l xs) (sym e) (h.some, h.rounds);
}

pub many_within : (path : Path) (b : ℕ) (bs : List ℕ) (xs : List OneItem) → path.blocks ≡ b ∷ bs
    → ((x : OneItem) → found_inside (item_in bs path.position) (slice_get xs b) ≡ Ok x → 1048576 < length (block_pieces (path.position + 1) bs path.position (slice_get xs b) []))
    → (x : OneItem) → item_at path xs ≡ Ok x → 1048576 < length (pieces path (path.position + 1) xs)
many_within path b bs xs e many x found =
    subst (λ ps. 1048576 < length ps) (sym (pieces-block path (path.position + 1) b bs xs e)) (many x (sym (ap (λ l. item_in l path.position xs) e) ∙ found))

-- the same of an item and a position that are these
pub many_at : {g h : Option OneItem} {p q : ℕ} (bs : List ℕ) → g ≡ h → p ≡ q
    → ((x : OneItem) → found_inside (item_in bs p) g ≡ Ok x → 1048576 < length (block_pieces (p + 1) bs p g []))
    → (x : OneItem) → found_inside (item_in bs q) h ≡ Ok x → 1048576 < length (block_pieces (q + 1) bs q h [])
many_at {g = g} {q = q} bs e f many =
    subst (λ o. (x : OneItem) → found_inside (item_in bs q) o ≡ Ok x → 1048576 < length (block_pieces (q + 1) bs q o [])) e
    (subst (λ n. (x : OneItem) → found_inside (item_in bs n) g ≡ Ok x → 1048576 < length (block_pieces (n + 1) bs n g [])) f many)

-- what was said, and what was not

pub determined_is : {A : Type 0} (P : A → Type 0) (f : Option A) (x : A) → f ≡ Some x → IfSome f P → P x
determined_is P f x e h = subst (λ o. IfSome o P) e h

pub none_is : {A : Type 0} {P : Type 0} (f : Option A) → f ≡ None → IfNone f P → P
none_is {P = P} f e h = subst (λ o. IfNone o P) e h

pub determined_so : {A E : Type 0} (P Q : A → Type 0) (r : Result (Option A) E) → ((x : A) → P x → Q x) → IfOk r (λ f. IfSome f P) → IfOk r (λ f. IfSome f Q)
determined_so P Q (Ok (Some x)) f h = f x h
determined_so P Q (Ok None) f h = tt
determined_so P Q (Err e) f h = tt

pub none_so : {A E : Type 0} {P Q : Type 0} (r : Result (Option A) E) → (P → Q) → IfOk r (λ f. IfNone f P) → IfOk r (λ f. IfNone f Q)
none_so (Ok (Some x)) f h = tt
none_so (Ok None) f h = f h
none_so (Err e) f h = tt
