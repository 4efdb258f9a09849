-- Spans: which steps an edit changes, by what the edit says, and how many it puts in.
use Rattle.stab_session.proofs.Names.{◌≡◌, ◌≤◌, refl, ap, sym, ◌∙◌, subst, ℕ, ◌+◌, suc, List, [], ◌∷◌, ◌++◌, append_assoc, length, take, drop, arith, Some, Ok, length-append, length-drop, length-take-le, take_at, slice_get, OneItem, repeat, listed, unroll, Path, edit_path, edited_in, edited, inner, steps_in, after_taken, after_put, outermost, put_item, first_changed, old_end, new_end, IsSpanOf, Edit, Insert, Replace, Delete, Span, edits_leave, changed_split, rebuilds, steps-append, steps_split, new_parts, front_size, steps_of_item, IsSpanNow}

pub ends-within : (k : ℕ) (xs : List OneItem) → length (unroll (listed (take k xs))) ≤ length (unroll (listed xs))
ends-within k xs = omega (arith, ap length (steps_split k xs) ∙ length-append (unroll (listed (take k xs))) (unroll (listed (drop k xs))))

-- what an edit says is the span of the steps, if neither list has too many
pub span-reported : (edit : Edit) (old new : List OneItem) (s : Span) → edited edit old ≡ Ok new → IsSpanOf edit old new s
    → length (unroll (listed old)) ≤ 1048576 → length (unroll (listed new)) ≤ 1048576 → IsSpanNow edit old new new s
span-reported edit old new s e t few_old few_new =
    let rest = edits_leave edit old new e in
    let old_within = ends-within (outermost (after_taken edit) (edit_path edit).blocks) old in
    let new_within = ends-within (outermost (after_put edit) (edit_path edit).blocks) new in
    let first : s.first ≡ first_changed edit old = omega (arith, t.first, t.within, few_old) in
    let old_is : s.old_end ≡ old_end edit old = omega (arith, t.old_end, old_within, few_old) in
    let new_is : s.new_end ≡ new_end edit new = omega (arith, t.new_end, new_within, few_new) in
    record {
      span = record {
        old_order = t.old_order;
        new_order = t.new_order;
        old_within = omega (arith, old_is, old_within);
        new_within = omega (arith, new_is, new_within);
        before = subst (λ k. take k (unroll (listed old)) ≡ take k (unroll (listed new))) (sym first) rest.before;
        following = ap (λ k. drop k (unroll (listed old))) old_is ∙ rest.following ∙ ap (λ k. drop k (unroll (listed new))) (sym new_is);
      };
      first = first;
      old_end = old_is;
      new_end = new_is;
    }

-- of a deletion it is that of a replacement by an item that has no steps
pub span-deleted : (x : OneItem) (at : Path) (old now new : List OneItem) (s : Span) → edited (Delete at) old ≡ Ok new → unroll (listed now) ≡ unroll (listed new)
    → IsSpanNow (Replace at x) old now now s → IsSpanNow (Delete at) old now new s
span-deleted x at old now new s e same is =
    let end = new_end (Delete at) new in
    let dropped : drop s.new_end (unroll (listed now)) ≡ drop end (unroll (listed now)) =
    sym is.span.following ∙ ap (λ k. drop k (unroll (listed old))) is.old_end ∙ (edits_leave (Delete at) old new e).following ∙ ap (drop end) (sym same) in
    let left = sym (length-drop s.new_end (unroll (listed now))) ∙ ap length dropped ∙ length-drop end (unroll (listed now)) in
    record {
      span = is.span;
      first = is.first;
      old_end = is.old_end;
      new_end = omega (arith, left, is.span.new_within, ends-within (outermost (after_put (Delete at)) at.blocks) new, ap length same);
    }

-- a list with items put into it, up to their end
pub up_to : (p k : ℕ) (front put rest ys : List OneItem) → ys ≡ front ++ (put ++ rest) → length front ≡ p → k ≡ p + length put
    → length (unroll (listed (take k ys))) ≡ length (unroll (listed front)) + length (unroll (listed put))
up_to p k front put rest ys e size end =
    let long : length (front ++ put) ≡ k = length-append front put ∙ ap (λ n. n + length put) size ∙ sym end in
    let taken : take k ys ≡ front ++ put = ap (take k) (e ∙ sym (append_assoc front put rest)) ∙ take_at (front ++ put) rest k long in
    ap (λ l. length (unroll (listed l))) taken ∙ ap length (steps-append front put) ∙ length-append (unroll (listed front)) (unroll (listed put))

get_at : (f : List OneItem) (x : OneItem) (r : List OneItem) → slice_get (f ++ x ∷ r) (length f) ≡ Some x
get_at [] x r = refl
get_at (y ∷ f) x r = get_at f x r

-- the end of what an edit puts in is no further after the first changed step than that has steps
pub put-within : (edit : Edit) (bs : List ℕ) (old new : List OneItem) → edited_in edit bs old ≡ Ok new
    → length (unroll (listed (take (outermost (after_put edit) bs) new)))
    ≤ length (steps_in bs (edit_path edit).position old) + steps_of_item (elim bs [ [] ↦ put_item edit | b ∷ cs ↦ slice_get new b ])
put-within (Insert at x) [] old new e =
    let s = changed_split (Insert at x) old new e in
    omega (arith, up_to at.position (at.position + 1) (take at.position old) (x ∷ []) (drop at.position old) new s.1 (length-take-le at.position old s.0) refl)
put-within (Replace at x) [] old new e =
    let s = changed_split (Replace at x) old new e in
    omega (arith, up_to at.position (at.position + 1) (take at.position old) (x ∷ []) (drop (at.position + 1) old) new s.1 (length-take-le at.position old s.0) refl)
put-within (Delete at) [] old new e =
    let s = changed_split (Delete at) old new e in
    omega (arith, up_to at.position at.position (take at.position old) [] (drop (at.position + 1) old) new s.1 (length-take-le at.position old s.0) (omega arith))
put-within edit (b ∷ bs) old new e =
    let within = edited_in edit bs in
    let r = rebuilds within b old new (slice_get old b) refl e in
    let block = repeat r.count r.tag (listed r.within) in
    let parts = new_parts within b old new r in
    let size = front_size within b old new r in
    let found : slice_get new b ≡ Some block = ap (λ l. slice_get l b) parts ∙ subst (λ k. slice_get (take b old ++ block ∷ drop (suc b) old) k ≡ Some block) size (get_at (take b old) block (drop (suc b) old)) in
    omega (
      arith,
      up_to b (b + 1) (take b old) (block ∷ []) (drop (suc b) old) new parts size refl,
      ap steps_of_item found,
      length-append (unroll (listed (take b old))) (steps_in bs (edit_path edit).position (inner (slice_get old b))),
    )
