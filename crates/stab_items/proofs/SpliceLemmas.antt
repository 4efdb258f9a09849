-- An edit as one exchange of items in the outermost list.
use Rattle.stab_items.proofs.Names.{◌≡◌, ◌<◌, refl, ap, ◌∙◌, subst, ℕ, ◌+◌, Bool, true, false, List, [], ◌∷◌, ◌++◌, length, take, drop, set, arith, nat_le, nat_lt, if◌then◌else◌, Option, Some, None, Result, Ok, Err, set_split, insert, remove, slice_get, slice_get_within, Refusal, PlaceOutOfRange, Edit, Insert, Replace, Delete, OneItem, operation, repeat, with_item, edited_inside, changed, edited_in, Splice, splice_at, splice_block, splice_of, spliced, IsWithin}
use Rattle.stab_items.proofs.EditLemmas.{if_ok, le_holds, lt_holds, next_position}

-- the list that is left by a splice
abbrev left : List OneItem → Splice → List OneItem
left xs s = take s.first xs ++ (s.put ++ drop s.following xs)

same_if : (c : Bool) (ys xs : List OneItem) (s : Splice) → (c ≡ true → ys ≡ left xs s) → (if c then Ok ys else Err PlaceOutOfRange) ≡ spliced xs (if c then Ok s else Err PlaceOutOfRange)
same_if true ys xs s f = ap Ok (f refl)
same_if false ys xs s f = refl

changed_spliced : (edit : Edit) (xs : List OneItem) → changed edit xs ≡ spliced xs (splice_at edit (length xs))
changed_spliced (Insert at x) xs = same_if (nat_le at.position (length xs)) (insert xs at.position x) xs (record { first = at.position; following = at.position; put = x ∷ [] }) (λ h. refl)
changed_spliced (Replace at x) xs =
    same_if (nat_lt at.position (length xs)) (set xs at.position x) xs (record { first = at.position; following = at.position + 1; put = x ∷ [] })
    (λ h. set_split xs at.position x (lt_holds at.position (length xs) h) ∙ ap (λ n. take at.position xs ++ x ∷ drop n xs) (next_position at.position))
changed_spliced (Delete at) xs =
    same_if (nat_lt at.position (length xs)) (remove xs at.position) xs (record { first = at.position; following = at.position + 1; put = [] }) (λ h. ap (λ n. take at.position xs ++ drop n xs) (next_position at.position))

-- an edit inside an item is of an item that is there
there_is : (edit : List OneItem → Result (List OneItem) Refusal) (b : ℕ) (xs : List OneItem) (g : Option OneItem) (x : OneItem) → slice_get xs b ≡ g → edited_inside edit g ≡ Ok x → b < length xs
there_is edit b xs None x f e = absurd (cc)
there_is edit b xs (Some (operation op)) x f e = absurd (cc)
there_is edit b xs (Some (repeat count tag body)) x f e = slice_get_within xs b (repeat count tag body) f

block_spliced : (b : ℕ) (xs : List OneItem) (r : Result OneItem Refusal) → ((x : OneItem) → r ≡ Ok x → b < length xs) → with_item b xs r ≡ spliced xs (splice_block b r)
block_spliced b xs (Ok x) f = ap Ok (set_split xs b x (f x refl) ∙ ap (λ n. take b xs ++ x ∷ drop n xs) (next_position b))
block_spliced b xs (Err r) f = refl

pub edited_spliced : (edit : Edit) (bs : List ℕ) (xs : List OneItem) → edited_in edit bs xs ≡ spliced xs (splice_of edit bs xs)
edited_spliced edit [] xs = changed_spliced edit xs
edited_spliced edit (b ∷ bs) xs =
    block_spliced b xs (edited_inside (edited_in edit bs) (slice_get xs b)) (λ x e. there_is (edited_in edit bs) b xs (slice_get xs b) x refl e)

-- a splice is of a part of the list
at_within : (edit : Edit) (xs : List OneItem) (s : Splice) → splice_at edit (length xs) ≡ Ok s → IsWithin s xs
at_within (Insert at x) xs s e =
    let h = if_ok (nat_le at.position (length xs)) (record { first = at.position; following = at.position; put = x ∷ [] }) s PlaceOutOfRange e in
    subst (λ t. IsWithin t xs) h.1 (record { order = omega arith; end = le_holds at.position (length xs) h.0 })
at_within (Replace at x) xs s e =
    let h = if_ok (nat_lt at.position (length xs)) (record { first = at.position; following = at.position + 1; put = x ∷ [] }) s PlaceOutOfRange e in
    subst (λ t. IsWithin t xs) h.1 (record { order = omega arith; end = omega (arith, lt_holds at.position (length xs) h.0) })
at_within (Delete at) xs s e =
    let h = if_ok (nat_lt at.position (length xs)) (record { first = at.position; following = at.position + 1; put = [] }) s PlaceOutOfRange e in
    subst (λ t. IsWithin t xs) h.1 (record { order = omega arith; end = omega (arith, lt_holds at.position (length xs) h.0) })

block_within : (b : ℕ) (xs : List OneItem) (r : Result OneItem Refusal) (s : Splice) → ((x : OneItem) → r ≡ Ok x → b < length xs) → splice_block b r ≡ Ok s → IsWithin s xs
block_within b xs (Ok x) s f e =
    let same : record { first = b; following = b + 1; put = x ∷ [] } ≡ s = cc in
    subst (λ t. IsWithin t xs) same (record { order = omega arith; end = omega (arith, f x refl) })
block_within b xs (Err r) s f e = absurd (cc)

pub splice_within : (edit : Edit) (bs : List ℕ) (xs : List OneItem) (s : Splice) → splice_of edit bs xs ≡ Ok s → IsWithin s xs
splice_within edit [] xs s e = at_within edit xs s e
splice_within edit (b ∷ bs) xs s e =
    block_within b xs (edited_inside (edited_in edit bs) (slice_get xs b)) s (λ x h. there_is (edited_in edit bs) b xs (slice_get xs b) x refl h) e
