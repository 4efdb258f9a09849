-- Pauli spans: what is in the span of a pending edit, in the old steps and in those that there are now.
use Rattle.stab_session.proofs.Names.{◌≡◌, ℕ, ◌+◌, ◌≤◌, ◌<◌, refl, sym, ◌∙◌, ap, subst, List, [], ◌∷◌, map, length, take, All, arith, Some, Ok, length-drop, length-map, slice_get, Letter, string_product, OneItem, listed, Step, one, unroll, named_qubits, qubits_of, Path, item_at, edit_path, edited, taken_at, taken, put_item, steps_before, after_taken, after_put, outermost, first_changed, old_end, new_end, interleaved, pieces, HaveRounds, AreGaps, item_steps, steps_between, ChangesEachRound, Edit, Insert, Replace, Delete, Span, edits_leave, changes_each_round, same_lead, found_taken, taken_named, replace-retaken, gate_of, letters_on, DifferByPaulis, Pending, Inserted, Replaced, Deleted, pending_path, IsPendingOf, taken_back, finished_items, IsBegun, ArePauliItems, taken_items, AreAccepted}
use Rattle.stab_session.proofs.EditedLemmas.{ok_same}
use Rattle.stab_session.proofs.SpanLemmas.{ends-within}
use Rattle.stab_session.proofs.PauliItemLemmas.{gates-fit}

-- the steps of a list
abbrev steps : List OneItem → List Step
steps xs = unroll (listed xs)

-- the edit that takes a pending edit back
abbrev back_edit : Pending → Edit
back_edit (Inserted at) = Delete at
back_edit (Replaced at y) = Replace at y
back_edit (Deleted at y) = Replace at y

-- what a pending edit says of the edit that it is, and of the one that takes it back

same-path : (edit : Edit) (p : Pending) → IsPendingOf edit p → edit_path edit ≡ edit_path (back_edit p)
same-path (Insert at x) p is = sym (ap (λ q. edit_path (back_edit q)) is)
same-path (Replace at x) p is = sym (ap (λ q. edit_path (back_edit q)) is.1)
same-path (Delete at) p is = sym (ap (λ q. edit_path (back_edit q)) is.1)

same-following : (edit : Edit) (p : Pending) → IsPendingOf edit p → after_taken edit ≡ after_put (back_edit p)
same-following (Insert at x) p is = sym (ap (λ q. after_put (back_edit q)) is)
same-following (Replace at x) p is = sym (ap (λ q. after_put (back_edit q)) is.1)
same-following (Delete at) p is = sym (ap (λ q. after_put (back_edit q)) is.1)

back-path : (p : Pending) → edit_path (back_edit p) ≡ pending_path p
back-path (Inserted at) = refl
back-path (Replaced at y) = refl
back-path (Deleted at y) = refl

back-following : (p : Pending) → after_taken (back_edit p) ≡ (edit_path (back_edit p)).position + 1
back-following (Inserted at) = refl
back-following (Replaced at y) = refl
back-following (Deleted at y) = refl

back-takes : (p : Pending) (us : List OneItem) → taken_at (back_edit p) us ≡ slice_get us (edit_path (back_edit p)).position
back-takes (Inserted at) us = refl
back-takes (Replaced at y) us = refl
back-takes (Deleted at y) us = refl

back-puts : (p : Pending) → item_steps (put_item (back_edit p)) ≡ steps (taken_items p)
back-puts (Inserted at) = refl
back-puts (Replaced at y) = refl
back-puts (Deleted at y) = refl

back-edited : (p : Pending) (now : List OneItem) → taken_back p now ≡ edited (back_edit p) now
back-edited (Inserted at) now = refl
back-edited (Replaced at y) now = refl
back-edited (Deleted at y) now = refl

-- the end of what was put in is that of what there is now, which has no steps if nothing was put in
new-end-at : (edit : Edit) (p : Pending) (now new : List OneItem) → IsPendingOf edit p → finished_items p now ≡ Ok new → steps now ≡ steps new → new_end edit new ≡ old_end (back_edit p) now
new-end-at (Insert at x) p now new is ahead same =
    ap (new_end (Insert at x)) (ok_same new now (sym ahead ∙ ap (λ q. finished_items q now) is)) ∙ sym (ap (λ q. old_end (back_edit q) now) is)
new-end-at (Replace at x) p now new is ahead same =
    ap (new_end (Replace at x)) (ok_same new now (sym ahead ∙ ap (λ q. finished_items q now) is.1)) ∙ sym (ap (λ q. old_end (back_edit q) now) is.1)
new-end-at (Delete at) p now new is ahead same =
    let rest = edits_leave (Delete at) now new (sym (ap (λ q. finished_items q now) is.1) ∙ ahead) in
    let was = old_end (Delete at) now in
    let end = new_end (Delete at) new in
    let left = sym (length-drop was (steps now)) ∙ ap length rest.following ∙ length-drop end (steps new) in
    let was_within = ends-within (outermost (after_taken (Delete at)) at.blocks) now in
    let end_within = ends-within (outermost (after_put (Delete at)) at.blocks) new in
    let ends : end ≡ was = omega (arith, left, was_within, end_within, ap length same) in
    ends ∙ sym (ap (λ q. old_end (back_edit q) now) is.1)

-- a pending edit, around which each block has a round
module _ (p : Pending) (now old : List OneItem) (back : taken_back p now ≡ Ok old) (x : OneItem) (found : item_at (pending_path p) now ≡ Ok x) (rounds : HaveRounds (pending_path p).blocks now) where
  abbrev at : Path
  at = edit_path (back_edit p)

  found_at : item_at at now ≡ Ok x
  found_at = ap (λ q. item_at q now) (back-path p) ∙ found

  takes_back : edited (back_edit p) now ≡ Ok old
  takes_back = sym (back-edited p now) ∙ back

  each_round : ChangesEachRound (back_edit p) now old
  each_round = changes_each_round (back_edit p) now old takes_back (subst (λ q. HaveRounds q.blocks now) (sym (back-path p)) rounds)

  there : taken (back_edit p) now ≡ Some x
  there = found_taken (back_edit p) at.position (back-takes p) at.blocks now x found_at

  pieces_is : pieces at (after_taken (back_edit p)) now ≡ pieces (pending_path p) ((pending_path p).position + 1) now
  pieces_is = ap (λ k. pieces at k now) (back-following p) ∙ ap (λ q. pieces q (q.position + 1) now) (back-path p)

  pub now_part : steps_between (first_changed (back_edit p) now) (old_end (back_edit p) now) (steps now) ≡ interleaved (steps (x ∷ [])) (pieces (pending_path p) ((pending_path p).position + 1) now)
  now_part = each_round.taken_out ∙ ap (λ o. interleaved (item_steps o) (pieces at (after_taken (back_edit p)) now)) there ∙ ap (interleaved (steps (x ∷ []))) pieces_is

  pub old_part : steps_between (first_changed (back_edit p) now) (new_end (back_edit p) old) (steps old) ≡ interleaved (steps (taken_items p)) (pieces (pending_path p) ((pending_path p).position + 1) now)
  old_part =
      each_round.put_in
      ∙ ap (λ g. interleaved g (pieces at (after_put (back_edit p)) old)) (back-puts p)
      ∙ ap (interleaved (steps (taken_items p))) (each_round.same ∙ pieces_is)

  pub lead : steps_before at old ≡ steps_before at now
  lead = same_lead (back_edit p) at.blocks now old takes_back

  -- if nothing refuses what there is now, the qubits of what was put in are there
  pub put-named : qubits_of (listed (x ∷ [])) ≤ qubits_of (listed now)
  put-named = taken_named named_qubits (back_edit p) at.blocks now x there

-- and those of what was taken out if nothing refuses what there was
taken-named : (p : Pending) (now old : List OneItem) → taken_back p now ≡ Ok old → qubits_of (listed (taken_items p)) ≤ qubits_of (listed old)
taken-named (Inserted at) now old back = omega arith
taken-named (Replaced at y) now old back = taken_named named_qubits (Replace at y) at.blocks old y (replace-retaken at y y now old back)
taken-named (Deleted at y) now old back = taken_named named_qubits (Replace at y) at.blocks old y (replace-retaken at y y now old back)

-- a pending edit if nothing refuses what was before and what there is now
module _ (n : ℕ) (p : Pending) (now : List OneItem) (given : AreAccepted n p now) (at : Path) (is : at ≡ pending_path p) (x : OneItem) (found : item_at at now ≡ Ok x)
    (gaps : List ℕ) (reported : AreGaps at now gaps) (l m : Letter) (qs rs : List ℕ) where
  found_there : item_at (pending_path p) now ≡ Ok x
  found_there = subst (λ q. item_at q now ≡ Ok x) is found

  rounds_there : HaveRounds (pending_path p).blocks now
  rounds_there = subst (λ q. HaveRounds q.blocks now) is reported.rounds

  pub taken-fit : ArePauliItems l qs (taken_items p) → All (λ q. q < n) qs
  taken-fit taken = gates-fit n l qs given.old (taken_items p) taken given.old_checked (taken-named p now given.old given.back)

  pub put-fit : ArePauliItems m rs (x ∷ []) → All (λ q. q < n) rs
  put-fit put = gates-fit n m rs now (x ∷ []) put given.now_checked (put-named p now given.old given.back x found_there rounds_there)

  -- the steps before the edit and those that there are now differ by the letters of both
  pub pending-differs : (letters : List Letter) (old_count new_count : ℕ) → letters ≡ string_product (letters_on n l qs) (letters_on n m rs) → old_count ≡ length qs → new_count ≡ length rs
      → ArePauliItems l qs (taken_items p) → ArePauliItems m rs (x ∷ []) → (edit : Edit) (old : List OneItem) (s : Span) → IsBegun n edit old now p s
      → DifferByPaulis n (unroll (listed old)) (unroll (listed now)) s letters old_count new_count gaps
  pending-differs letters old_count new_count product old_counted new_counted taken put edit old s b =
      let path = same-path edit p b.same in
      let following = same-following edit p b.same in
      let first : s.first ≡ first_changed (back_edit p) now =
      b.span.first ∙ ap (λ q. length (steps_before q old)) path ∙ ap length (lead p now old b.back x found_there rounds_there) in
      let old_ends : s.old_end ≡ new_end (back_edit p) old = b.span.old_end ∙ (λ i. length (steps (take (outermost (following i) (path i).blocks) old))) in
      let new_ends : s.new_end ≡ old_end (back_edit p) now = b.span.new_end ∙ new-end-at edit p now b.new b.same b.ahead b.same_runs.steps in
      record {
        old_letter = l;
        new_letter = m;
        old_qubits = qs;
        new_qubits = rs;
        old_gates = steps (taken_items p);
        new_gates = steps (x ∷ []);
        pieces = pieces (pending_path p) ((pending_path p).position + 1) now;
        old_are = record { steps = taken.steps; fit = taken-fit taken };
        new_are = record { steps = put.steps; fit = put-fit put };
        lengths = sym (reported.lengths ∙ ap (λ q. map length (pieces q (q.position + 1) now)) is);
        old = (λ i. steps_between (first i) (old_ends i) (steps old)) ∙ old_part p now old b.back x found_there rounds_there;
        new = (λ i. steps_between (first i) (new_ends i) (steps now)) ∙ now_part p now old b.back x found_there rounds_there;
        old_counted = ap length taken.steps ∙ length-map qs (one (gate_of l)) ∙ sym old_counted;
        new_counted = ap length put.steps ∙ length-map rs (one (gate_of m)) ∙ sym new_counted;
        product = product;
      }
