-- Spans: in which steps a circuit differs from what it was before an edit.
use Rattle.std.proofs.Common.{◌≡◌, ◌≤◌, ap, sym, ◌∙◌, subst, ℕ, Bool, true, false, List, length, take, drop, nat_lt, if◌then◌else◌, arith}
use Rattle.std.proofs.lemmas.List.{length-append}
use Rattle.std.specs.Prelude.{Option, Some, None, Ok}
use Rattle.stab_items.specs.Items.{OneItem, listed, depth}
use Rattle.stab_items.specs.Steps.{unroll, check_of, check_within}
use Rattle.stab_items.proofs.EditLemmas.{edits_leave, steps_split}
use Rattle.stab_items.specs.Editings.{IsSpanOf}
use Rattle.stab_items.specs.Edits.{edit_path, edited, verdict, list_verdict, first_changed, old_end, new_end, after_taken, after_put, outermost}
use Rattle.stab_items.specs.declared.edit.Edit.{Edit}
use Rattle.stab_items.specs.declared.edit.Span.{Span}
use Rattle.stab_io.specs.declared.refusal.Refusal.{Refusal}
use Rattle.stab_io.specs.declared.refusal.Refusal.TheVariants.{TooDeep}
use Rattle.stab_run.specs.Spans.{IsSpan, IsEditOf}
use Rattle.stab_run.proofs.FitLemmas.{check-steps, check-whole}

ends-within : (k : ℕ) (xs : List OneItem) → length (unroll (listed (take k xs))) ≤ length (unroll (listed xs))
ends-within k xs = omega (arith, ap length (steps_split k xs) ∙ length-append (unroll (listed (take k xs))) (unroll (listed (drop k xs))))

not_first : (c : Bool) (r : Refusal) (rest : Option Refusal) → (if c then Some r else rest) ≡ None → rest ≡ None
not_first true r rest e = absurd (cc)
not_first false r rest e = e

-- an edit that nothing refuses leaves a circuit that nothing refuses
pub leaves-checked : (n : ℕ) (edit : Edit) (old new : List OneItem) → edited edit old ≡ Ok new → verdict n edit old ≡ None → check_of (listed new) ≡ None
leaves-checked n edit old new e allowed =
    check-whole n (listed new) (not_first (nat_lt 16 (depth (listed new))) TooDeep (check_within n (listed new)) (sym (ap (list_verdict n) e) ∙ allowed))

span-is : (edit : Edit) (old new : List OneItem) (s : Span) → edited edit old ≡ Ok new → IsSpanOf edit old new s → length (unroll (listed old)) ≤ 1048576 → length (unroll (listed new)) ≤ 1048576
    → IsSpan (unroll (listed old)) (unroll (listed new)) s
span-is edit old new s e reported few_old few_new =
    let rest = edits_leave edit old new e in
    let old_within = ends-within (outermost (after_taken edit) (edit_path edit).blocks) old in
    let new_within = ends-within (outermost (after_put edit) (edit_path edit).blocks) new in
    let first : s.first ≡ first_changed edit old = omega (arith, reported.first, reported.within, few_old) in
    let old_is : s.old_end ≡ old_end edit old = omega (arith, reported.old_end, old_within, few_old) in
    let new_is : s.new_end ≡ new_end edit new = omega (arith, reported.new_end, new_within, few_new) in
    record {
      old_order = reported.old_order;
      new_order = reported.new_order;
      old_within = omega (arith, old_is, old_within);
      new_within = omega (arith, new_is, new_within);
      before = subst (λ k. take k (unroll (listed old)) ≡ take k (unroll (listed new))) (sym first) rest.before;
      following = ap (λ k. drop k (unroll (listed old))) old_is ∙ rest.following ∙ ap (λ k. drop k (unroll (listed new))) (sym new_is);
    }

-- and says where the steps differ
pub edit-of : (n : ℕ) (edit : Edit) (old new : List OneItem) (s : Span) → edited edit old ≡ Ok new → verdict n edit old ≡ None → IsSpanOf edit old new s → check_of (listed old) ≡ None
    → IsEditOf (unroll (listed old)) (unroll (listed new)) s
edit-of n edit old new s e allowed reported checked =
    let few_old = check-steps (listed old) checked in
    (few_old, span-is edit old new s e reported few_old (check-steps (listed new) (leaves-checked n edit old new e allowed)))
