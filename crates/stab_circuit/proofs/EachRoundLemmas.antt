-- An edit changes each round: what it takes out, and what it puts in, come before the same pieces.
use Rattle.stab_circuit.proofs.Names.{◌≡◌, ◌<◌, refl, ap, sym, ◌∙◌, subst, ℕ, ◌+◌, ◌-◌, suc, zero, List, [], ◌∷◌, ◌++◌, length, take, drop, arith, append_assoc, append-nil, Some, Ok, length-append, length-take-le, take_at, drop_at, take-take, drop-set-lt, slice_get, Edit, Insert, Replace, Delete, OneItem, repeat, listed, entries, Step, unroll, Path, edit_path, edited_in, edited, inner, taken_at, taken_in, put_item, steps_in, steps_before, first_changed, after_taken, after_put, outermost, interleaved, rounds_in, round_pieces, pieces_in, pieces, HaveRounds, item_steps, steps_between, ChangesEachRound, block_pieces, steps-append, steps_split, put_in, changed_split, changed_before, changed_after, after_put_is, Rebuilds, rebuilds, next_position, found, front_size, new_parts, new_inner, old_inner, Stands, steps-pieces, nothing_left, got_taken, pieces-outer, pieces-block}

-- the steps of a list
abbrev steps : List OneItem → List Step
steps xs = unroll (listed xs)

-- the steps up to the end of an item

up_to_suc : (xs : List OneItem) (p : ℕ) → steps (take (suc p) xs) ≡ steps (take p xs) ++ item_steps (slice_get xs p)
up_to_suc [] zero = refl
up_to_suc [] (suc p) = refl
up_to_suc (x ∷ xs) zero = refl
up_to_suc (x ∷ xs) (suc p) =
    steps-append (x ∷ []) (take (suc p) xs)
    ∙ ap (λ l. steps (x ∷ []) ++ l) (up_to_suc xs p)
    ∙ sym (append_assoc (steps (x ∷ [])) (steps (take p xs)) (item_steps (slice_get xs p)))
    ∙ ap (λ l. l ++ item_steps (slice_get xs p)) (sym (steps-append (x ∷ []) (take p xs)))

up_to_item : (xs : List OneItem) (p : ℕ) → steps (take (p + 1) xs) ≡ steps (take p xs) ++ item_steps (slice_get xs p)
up_to_item xs p = ap (λ n. steps (take n xs)) (sym (next_position p)) ∙ up_to_suc xs p

-- what an edit takes out is at its place

taken_stands : (edit : Edit) (xs : List OneItem) → steps (take (after_taken edit) xs) ≡ steps (take (edit_path edit).position xs) ++ item_steps (taken_at edit xs)
taken_stands (Insert at x) xs = sym (append-nil (steps (take at.position xs)))
taken_stands (Replace at x) xs = up_to_item xs at.position
taken_stands (Delete at) xs = up_to_item xs at.position

stands_before : (edit : Edit) (bs : List ℕ) (xs : List OneItem) → HaveRounds bs xs → Stands (item_steps (taken_in edit bs xs)) (after_taken edit) bs (edit_path edit).position xs
stands_before edit [] xs h = taken_stands edit xs
stands_before edit (b ∷ bs) xs h = (h.0, stands_before edit bs (inner (slice_get xs b)) h.1)

-- what an edit puts in is there

steps_put : (edit : Edit) → steps (put_in edit) ≡ item_steps (put_item edit)
steps_put (Insert at x) = refl
steps_put (Replace at x) = refl
steps_put (Delete at) = refl

put_stands : (edit : Edit) (xs ys : List OneItem) → edited_in edit [] xs ≡ Ok ys → steps (take (after_put edit) ys) ≡ steps (take (edit_path edit).position ys) ++ item_steps (put_item edit)
put_stands edit xs ys e =
    let s = changed_split edit xs ys e in
    let front = take (edit_path edit).position xs in
    let rest = drop (after_taken edit) xs in
    let long : length (front ++ put_in edit) ≡ after_put edit =
    length-append front (put_in edit) ∙ ap (λ n. n + length (put_in edit)) (length-take-le (edit_path edit).position xs s.0) ∙ sym (after_put_is edit) in
    ap (λ l. steps (take (after_put edit) l)) (s.1 ∙ sym (append_assoc front (put_in edit) rest))
    ∙ ap steps (take_at (front ++ put_in edit) rest (after_put edit) long)
    ∙ steps-append front (put_in edit)
    ∙ ap (λ l. steps l ++ steps (put_in edit)) (sym (changed_before edit xs ys e))
    ∙ ap (λ l. steps (take (edit_path edit).position ys) ++ l) (steps_put edit)

-- around the block that was rebuilt
module _ (edit : Edit) (b : ℕ) (bs : List ℕ) (xs ys : List OneItem) (r : Rebuilds (edited_in edit bs) b xs ys) where
  new_block : slice_get ys b ≡ Some (repeat r.count r.tag (listed r.within))
  new_block =
      ap (λ l. slice_get l b) (new_parts (edited_in edit bs) b xs ys r)
      ∙ found (take b xs) (repeat r.count r.tag (listed r.within)) (drop (suc b) xs) b (front_size (edited_in edit bs) b xs ys r)

  pub same_rounds : rounds_in (slice_get ys b) ≡ rounds_in (slice_get xs b)
  same_rounds = ap rounds_in new_block ∙ sym (ap rounds_in r.found)

  pub same_front : take b ys ≡ take b xs
  same_front =
      ap (take b) (new_parts (edited_in edit bs) b xs ys r)
      ∙ take_at (take b xs) (repeat r.count r.tag (listed r.within) ∷ drop (suc b) xs) b (front_size (edited_in edit bs) b xs ys r)

  pub same_back : drop (b + 1) ys ≡ drop (b + 1) xs
  same_back = ap (drop (b + 1)) r.same ∙ drop-set-lt (b + 1) xs b (repeat r.count r.tag (listed r.within)) (omega arith)

-- what an edit puts in is in each round, before what was there

stands_after : (edit : Edit) (bs : List ℕ) (xs ys : List OneItem) → edited_in edit bs xs ≡ Ok ys → HaveRounds bs xs → Stands (item_steps (put_item edit)) (after_put edit) bs (edit_path edit).position ys
stands_after edit [] xs ys e h = put_stands edit xs ys e
stands_after edit (b ∷ bs) xs ys e h =
    let r = rebuilds (edited_in edit bs) b xs ys (slice_get xs b) refl e in
    let within = stands_after edit bs (entries r.body) r.within r.edited (subst (HaveRounds bs) (old_inner (edited_in edit bs) b xs ys r) h.1) in (
      subst (λ n. 0 < n) (sym (same_rounds edit b bs xs ys r)) h.0,
      subst (Stands (item_steps (put_item edit)) (after_put edit) bs (edit_path edit).position) (sym (new_inner (edited_in edit bs) b xs ys r)) within,
    )

pub same_lead : (edit : Edit) (bs : List ℕ) (xs ys : List OneItem) → edited_in edit bs xs ≡ Ok ys → steps_in bs (edit_path edit).position ys ≡ steps_in bs (edit_path edit).position xs
same_lead edit [] xs ys e = ap steps (changed_before edit xs ys e)
same_lead edit (b ∷ bs) xs ys e =
    let r = rebuilds (edited_in edit bs) b xs ys (slice_get xs b) refl e in
    let position = (edit_path edit).position in
    ap (λ l. steps l ++ steps_in bs position (inner (slice_get ys b))) (same_front edit b bs xs ys r)
    ∙ ap (λ l. steps (take b xs) ++ steps_in bs position l) (new_inner (edited_in edit bs) b xs ys r)
    ∙ ap (λ l. steps (take b xs) ++ l) (same_lead edit bs (entries r.body) r.within r.edited)
    ∙ ap (λ l. steps (take b xs) ++ steps_in bs position l) (sym (old_inner (edited_in edit bs) b xs ys r))

-- rounds of pieces that are the same
same_round : (n m : ℕ) (f g : List Step → List (List Step)) (lead other : List Step) → n ≡ m → ((b : List Step) → f b ≡ g b) → lead ≡ other → (following : List Step)
    → round_pieces n f lead following ≡ round_pieces m g other following
same_round n m f g lead other e h l following = ap (λ k. round_pieces k f lead following) e ∙ ap (λ t. round_pieces m f t following) l ∙ each m
  where
    each : (k : ℕ) → round_pieces k f other following ≡ round_pieces k g other following
    each zero = refl
    each (suc zero) = h following
    each (suc (suc k)) = ap (λ t. t ++ round_pieces (suc k) f other following) (h other) ∙ ap (λ t. g other ++ t) (each (suc k))

same_in_block : (edit : Edit) (b : ℕ) (bs : List ℕ) (xs ys : List OneItem) (r : Rebuilds (edited_in edit bs) b xs ys)
    → ((t : List Step) → pieces_in (after_put edit) bs (edit_path edit).position r.within t ≡ pieces_in (after_taken edit) bs (edit_path edit).position (entries r.body) t) → (following : List Step)
    → block_pieces (after_put edit) bs (edit_path edit).position (slice_get ys b) following ≡ block_pieces (after_taken edit) bs (edit_path edit).position (slice_get xs b) following
same_in_block edit b bs xs ys r same following =
    let position = (edit_path edit).position in
    let lead = ap (steps_in bs position) (new_inner (edited_in edit bs) b xs ys r) ∙ same_lead edit bs (entries r.body) r.within r.edited ∙ ap (steps_in bs position) (sym (old_inner (edited_in edit bs) b xs ys r)) in
    let round : (t : List Step) → pieces_in (after_put edit) bs position (inner (slice_get ys b)) t ≡ pieces_in (after_taken edit) bs position (inner (slice_get xs b)) t =
    λ t. ap (λ l. pieces_in (after_put edit) bs position l t) (new_inner (edited_in edit bs) b xs ys r) ∙ same t ∙ ap (λ l. pieces_in (after_taken edit) bs position l t) (sym (old_inner (edited_in edit bs) b xs ys r)) in
    same_round (rounds_in (slice_get ys b)) (rounds_in (slice_get xs b)) (pieces_in (after_put edit) bs position (inner (slice_get ys b))) (pieces_in (after_taken edit) bs position (inner (slice_get xs b)))
    (steps_in bs position (inner (slice_get ys b))) (steps_in bs position (inner (slice_get xs b))) (same_rounds edit b bs xs ys r) round lead following

same_in_list : (edit : Edit) (bs : List ℕ) (xs ys : List OneItem) → edited_in edit bs xs ≡ Ok ys → (following : List Step)
    → pieces_in (after_put edit) bs (edit_path edit).position ys following ≡ pieces_in (after_taken edit) bs (edit_path edit).position xs following
same_in_list edit [] xs ys e following = ap (λ l. (steps l ++ following) ∷ []) (sym (changed_after edit xs ys e))
same_in_list edit (b ∷ bs) xs ys e following =
    let r = rebuilds (edited_in edit bs) b xs ys (slice_get xs b) refl e in
    same_in_block edit b bs xs ys r (same_in_list edit bs (entries r.body) r.within r.edited) (steps (drop (b + 1) ys) ++ following)
    ∙ ap (λ l. block_pieces (after_taken edit) bs (edit_path edit).position (slice_get xs b) (steps l ++ following)) (same_back edit b bs xs ys r)

same_pieces : (edit : Edit) (xs ys : List OneItem) → edited edit xs ≡ Ok ys → pieces (edit_path edit) (after_put edit) ys ≡ pieces (edit_path edit) (after_taken edit) xs
same_pieces edit xs ys e = by_blocks (edit_path edit).blocks refl
  where
    in_block : (b : ℕ) (bs : List ℕ) (r : Rebuilds (edited_in edit bs) b xs ys)
        → block_pieces (after_put edit) bs (edit_path edit).position (slice_get ys b) [] ≡ block_pieces (after_taken edit) bs (edit_path edit).position (slice_get xs b) []
    in_block b bs r = same_in_block edit b bs xs ys r (same_in_list edit bs (entries r.body) r.within r.edited) []

    by_blocks : (bs : List ℕ) → (edit_path edit).blocks ≡ bs → pieces (edit_path edit) (after_put edit) ys ≡ pieces (edit_path edit) (after_taken edit) xs
    by_blocks [] f = pieces-outer (edit_path edit) (after_put edit) ys f ∙ sym (pieces-outer (edit_path edit) (after_taken edit) xs f)
    by_blocks (b ∷ bs) f =
        pieces-block (edit_path edit) (after_put edit) b bs ys f
        ∙ in_block b bs (rebuilds (edited_in edit bs) b xs ys (slice_get xs b) refl (sym (ap (λ l. edited_in edit l xs) f) ∙ e))
        ∙ sym (pieces-block (edit_path edit) (after_taken edit) b bs xs f)

-- the steps up to the end of the outermost item

up_to_end : (gates : List Step) (end : ℕ) (bs : List ℕ) (position : ℕ) (xs : List OneItem) → Stands gates end bs position xs
    → steps (take (outermost end bs) xs) ≡ steps_in bs position xs ++ interleaved gates (pieces_in end bs position (take (outermost end bs) xs) [])
up_to_end gates end [] position xs stands =
    stands
    ∙ ap (λ l. steps (take position xs) ++ l) (sym (append-nil gates))
    ∙ ap (λ l. steps (take position xs) ++ interleaved gates ((steps l ++ []) ∷ [])) (sym (nothing_left end xs))
up_to_end gates end (b ∷ bs) position xs stands =
    let some = take (b + 1) xs in
    let x = got_taken xs b in
    let all = pieces_in end (b ∷ bs) position some [] in
    let within = subst (λ o. (0 < rounds_in o) × Stands gates end bs position (inner o)) (sym x) stands in
    sym (append-nil (steps some))
    ∙ steps-pieces gates end (b ∷ bs) position some within []
    ∙ ap (λ l. (steps l ++ steps_in bs position (inner (slice_get some b))) ++ interleaved gates all) (take-take b (b + 1) xs (omega arith))
    ∙ ap (λ o. (steps (take b xs) ++ steps_in bs position (inner o)) ++ interleaved gates all) x

between_ends : (first end : ℕ) (all front middle back : List Step) → all ≡ (front ++ middle) ++ back → first ≡ length front → end ≡ length (front ++ middle) → steps_between first end all ≡ middle
between_ends first end all front middle back e f g =
    let long : length middle ≡ end - first = omega (arith, f, g, length-append front middle) in
    ap (λ l. take (end - first) (drop first l)) (e ∙ append_assoc front middle back)
    ∙ ap (take (end - first)) (drop_at front (middle ++ back) first (sym f))
    ∙ take_at middle back (end - first) long

stands_between : (gates : List Step) (end first : ℕ) (path : Path) (xs : List OneItem) → Stands gates end path.blocks path.position xs → first ≡ length (steps_before path xs)
    → steps_between first (length (steps (take (outermost end path.blocks) xs))) (steps xs) ≡ interleaved gates (pieces path end xs)
stands_between gates end first path xs stands f =
    let o = outermost end path.blocks in
    let up_to = up_to_end gates end path.blocks path.position xs stands in
    between_ends first (length (steps (take o xs))) (steps xs) (steps_before path xs) (interleaved gates (pieces path end xs)) (steps (drop o xs))
    (steps_split o xs ∙ ap (λ l. l ++ steps (drop o xs)) up_to) f (ap length up_to)

pub changes_each_round : (edit : Edit) (old new : List OneItem) → edited edit old ≡ Ok new → HaveRounds (edit_path edit).blocks old → ChangesEachRound edit old new
changes_each_round edit old new e h = record {
  taken_out = stands_between (item_steps (taken_in edit (edit_path edit).blocks old)) (after_taken edit) (first_changed edit old) (edit_path edit) old (stands_before edit (edit_path edit).blocks old h) refl;
  put_in =
      stands_between (item_steps (put_item edit)) (after_put edit) (first_changed edit old) (edit_path edit) new (stands_after edit (edit_path edit).blocks old new e h)
      (ap length (sym (same_lead edit (edit_path edit).blocks old new e)));
  same = same_pieces edit old new e;
}
