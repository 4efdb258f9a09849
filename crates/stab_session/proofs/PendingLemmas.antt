-- Pending edits: what each of the three ways to begin an edit gives.
use Rattle.stab_session.proofs.Names.{◌≡◌, ◌≤◌, refl, ap, sym, ◌∙◌, ℕ, Bool, false, List, length, nat_lt, if◌then◌else◌, arith, Some, None, Ok, TooDeep, OneItem, listed, depth, unroll, check_within, Path, edited, list_refusal, list_verdict, verdict, taken, IsSpanOf, IsNothing, Edit, Insert, Replace, Delete, Span, insert-undone, insert-retaken, replace-undone, replace-retaken, steps-cleared, observables-cleared, delete-instead, deleted-ok, verdict-instead, Inserted, Replaced, Deleted, IsSpanNow, IsBegun, check-whole, check-steps}
use Rattle.stab_session.proofs.SpanLemmas.{span-reported, span-deleted}
use Rattle.stab_run.proofs.FitLemmas.{chosen}

-- what a verdict of none says

allowed_where : (c : Bool) → c ≡ false → (if c then Some TooDeep else None) ≡ None
allowed_where c e = ap (λ b. if b then Some TooDeep else None) e

verdict_listed : (n : ℕ) (edit : Edit) (old xs : List OneItem) → edited edit old ≡ Ok xs → verdict n edit old ≡ None → list_verdict n (Ok xs) ≡ None
verdict_listed n edit old xs e v = sym (ap (list_verdict n) e) ∙ v

verdict-allowed : (n : ℕ) (xs : List OneItem) → list_verdict n (Ok xs) ≡ None → list_refusal (Ok xs) ≡ None
verdict-allowed n xs e = allowed_where (nat_lt 16 (depth (listed xs))) (chosen (nat_lt 16 (depth (listed xs))) TooDeep (check_within n (listed xs)) e).0

pub verdict-checked : (n : ℕ) (edit : Edit) (old xs : List OneItem) → edited edit old ≡ Ok xs → verdict n edit old ≡ None → check_within n (listed xs) ≡ None
verdict-checked n edit old xs e v =
    (chosen (nat_lt 16 (depth (listed xs))) TooDeep (check_within n (listed xs)) (verdict_listed n edit old xs e v)).1

not_deep : (d : ℕ) → d ≤ 16 → nat_lt 16 d ≡ false
not_deep d h = grind arith

shallow-allowed : (xs : List OneItem) → depth (listed xs) ≤ 16 → list_refusal (Ok xs) ≡ None
shallow-allowed xs h = allowed_where (nat_lt 16 (depth (listed xs))) (not_deep (depth (listed xs)) h)

pub few : (n : ℕ) (xs : List OneItem) → check_within n (listed xs) ≡ None → length (unroll (listed xs)) ≤ 1048576
few n xs e = check-steps (listed xs) (check-whole n (listed xs) e)

-- the three ways

module _ (n : ℕ) (at : Path) (old now : List OneItem) (shallow : depth (listed old) ≤ 16) (was_checked : check_within n (listed old) ≡ None) (s : Span) where
  changed_span : (edit : Edit) → edited edit old ≡ Ok now → verdict n edit old ≡ None → IsSpanOf edit old now s → IsSpanNow edit old now now s
  changed_span edit e v t = span-reported edit old now s e t (few n old was_checked) (few n now (verdict-checked n edit old now e v))

  pub begun-insert : (x : OneItem) → edited (Insert at x) old ≡ Ok now → verdict n (Insert at x) old ≡ None → IsSpanOf (Insert at x) old now s
      → IsBegun n (Insert at x) old now (Inserted at) s
  begun-insert x e v t =
      let back = insert-undone at x old now e in
      record {
        same = refl;
        new = now;
        edited = e;
        accepted = v;
        ahead = refl;
        ahead_allowed = verdict-allowed n now (verdict_listed n (Insert at x) old now e v);
        back = back;
        back_allowed = ap list_refusal back ∙ shallow-allowed old shallow;
        item = insert-retaken at x old now e;
        same_runs = record { steps = refl; observables = refl };
        checked = verdict-checked n (Insert at x) old now e v;
        span = changed_span (Insert at x) e v t;
      }

  pub begun-replace : (x y : OneItem) → edited (Replace at x) old ≡ Ok now → verdict n (Replace at x) old ≡ None → IsSpanOf (Replace at x) old now s
      → taken (Replace at x) old ≡ Some y → IsBegun n (Replace at x) old now (Replaced at y) s
  begun-replace x y e v t h =
      let back = replace-undone at x y old now e h in
      record {
        same = (y, refl);
        new = now;
        edited = e;
        accepted = v;
        ahead = refl;
        ahead_allowed = verdict-allowed n now (verdict_listed n (Replace at x) old now e v);
        back = back;
        back_allowed = ap list_refusal back ∙ shallow-allowed old shallow;
        item = replace-retaken at x y old now e;
        same_runs = record { steps = refl; observables = refl };
        checked = verdict-checked n (Replace at x) old now e v;
        span = changed_span (Replace at x) e v t;
      }

  pub begun-delete : (x y : OneItem) → IsNothing x → edited (Replace at x) old ≡ Ok now → verdict n (Replace at x) old ≡ None → IsSpanOf (Replace at x) old now s
      → taken (Replace at x) old ≡ Some y → IsBegun n (Delete at) old now (Deleted at y) s
  begun-delete x y is e v t h =
      let back = replace-undone at x y old now e h in
      let found = deleted-ok x at old now e in
      let ahead : edited (Delete at) now ≡ Ok found.0 = delete-instead x at old now e ∙ found.1 in
      let held = replace-retaken at x x old now e in
      let accepted : verdict n (Delete at) old ≡ None = sym (verdict-instead n x is at old) ∙ v in
      let steps = steps-cleared x is at now found.0 ahead held in
      record {
        same = (y, refl);
        new = found.0;
        edited = found.1;
        accepted = accepted;
        ahead = ahead;
        ahead_allowed = ap list_refusal ahead ∙ verdict-allowed n found.0 (verdict_listed n (Delete at) old found.0 found.1 accepted);
        back = back;
        back_allowed = ap list_refusal back ∙ shallow-allowed old shallow;
        item = refl;
        same_runs = record { steps = steps; observables = observables-cleared x is at now found.0 ahead held };
        checked = verdict-checked n (Replace at x) old now e v;
        span = span-deleted x at old now found.0 s found.1 steps (changed_span (Replace at x) e v t);
      }
