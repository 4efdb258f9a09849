use Rattle.stab_parities.proofs.Names.{◌≡◌, ◌≤◌, ◌⊎◌, inl, inr, length, get_or, ◌+◌, ◌++◌, ◌∙◌, ap, sym, subst, arith, List, ℕ, drop, IsAscending, odd}
use Rattle.stab_parities.proofs.AscendingLemmas.{ascends-next, ascends-less, ascends-left_out, ascends-end}
use Rattle.stab_parities.proofs.MergeLemmas.{merging, merging-left, merging-right, merging-both, merging-end}
use Rattle.stab_parities.proofs.merging.merge_into.Goals as goal
use Rattle.stab_parities.proofs.merging.merge_into.Goals.{then-heads-test+else-b-right, else-heads-test}

pub heads-preserved-then-x-y : goal.heads-preserved-then-x-y
heads-preserved-then-x-y c =
    let left = c.args.left.now in
    let right = c.args.right.now in
    record {
      left_in = omega (arith, c.heads-test.true);
      right_in = c.heads.invariant.right_in;
      left_next =
          subst (λ (m : List ℕ). IsAscending (m ++ drop (c.heads.a + 1) left)) (sym c.in_ok-push.ensures.items)
          (ascends-next c.heads.merged.items left c.heads.a _ (omega (arith, c.heads-test.true)) c.heads.invariant.left_next);
      right_next =
          subst (λ (m : List ℕ). IsAscending (m ++ drop c.heads.b right)) (sym c.in_ok-push.ensures.items)
          (ascends-less c.heads.merged.items left right c.heads.a c.heads.b _ _ (omega (arith, c.heads-test.true)) (omega (arith, c.if-b-right.true)) c.if-x-y.true
          c.heads.invariant.left_next c.heads.invariant.right_next);
      odd = λ i.
          ap (λ (m : List ℕ). merging i m (drop (c.heads.a + 1) left) (drop c.heads.b right)) c.in_ok-push.ensures.items
          ∙ merging-left i c.heads.merged.items left c.heads.a _ (drop c.heads.b right) (omega (arith, c.heads-test.true))
          ∙ c.heads.invariant.odd i;
    }

pub heads-preserved-then-y-x : goal.heads-preserved-then-y-x
heads-preserved-then-y-x c =
    let left = c.args.left.now in
    let right = c.args.right.now in
    record {
      left_in = c.heads.invariant.left_in;
      right_in = omega (arith, c.if-b-right.true);
      left_next =
          subst (λ (m : List ℕ). IsAscending (m ++ drop c.heads.a left)) (sym c.in_ok-push-2.ensures.items)
          (ascends-less c.heads.merged.items right left c.heads.b c.heads.a _ _ (omega (arith, c.if-b-right.true)) (omega (arith, c.heads-test.true)) c.if-y-x.true
          c.heads.invariant.right_next c.heads.invariant.left_next);
      right_next =
          subst (λ (m : List ℕ). IsAscending (m ++ drop (c.heads.b + 1) right)) (sym c.in_ok-push-2.ensures.items)
          (ascends-next c.heads.merged.items right c.heads.b _ (omega (arith, c.if-b-right.true)) c.heads.invariant.right_next);
      odd = λ i.
          ap (λ (m : List ℕ). merging i m (drop c.heads.a left) (drop (c.heads.b + 1) right)) c.in_ok-push-2.ensures.items
          ∙ merging-right i c.heads.merged.items (drop c.heads.a left) right c.heads.b _ (omega (arith, c.if-b-right.true))
          ∙ c.heads.invariant.odd i;
    }

pub heads-preserved : goal.heads-preserved
heads-preserved c =
    let left = c.args.left.now in
    let right = c.args.right.now in
    let same : get_or left c.heads.a 0 ≡ get_or right c.heads.b 0 = omega (arith, c.if-x-y.false, c.if-y-x.false) in
    record {
      left_in = omega (arith, c.heads-test.true);
      right_in = omega (arith, c.if-b-right.true);
      left_next = ascends-left_out c.heads.merged.items left c.heads.a 0 (omega (arith, c.heads-test.true)) c.heads.invariant.left_next;
      right_next = ascends-left_out c.heads.merged.items right c.heads.b 0 (omega (arith, c.if-b-right.true)) c.heads.invariant.right_next;
      odd = λ i.
          merging-both i c.heads.merged.items left right c.heads.a c.heads.b 0 0 (omega (arith, c.heads-test.true)) (omega (arith, c.if-b-right.true)) same
          ∙ c.heads.invariant.odd i;
    }

pub returns : goal.returns
returns c =
    let left = c.args.left.now in
    let right = c.args.right.now in
    let ended : (length left ≤ c.heads.a) ⊎ (length right ≤ c.heads.b) =
    elim c.heads-test.branch [
      | then-heads-test+else-b-right w ↦ inr (omega (arith, w.if-b-right.false))
      | else-heads-test w ↦ inl (omega (arith, w.heads-test.false))
    ] in
    let whole : c.extend_from_slice-2.new.self.items ≡ (c.heads.merged.items ++ drop c.heads.a left) ++ drop c.heads.b right =
    c.in_ok-extend_from_slice-2.ensures.items
    ∙ (λ k. (c.in_ok-extend_from_slice.ensures.items ∙ ap (λ (rest : List ℕ). c.heads.merged.items ++ rest) c.split_at.ensures.back) k ++ c.split_at-2.ensures.back k) in
    record {
      ascending = subst IsAscending (sym whole) (ascends-end c.heads.merged.items left right c.heads.a c.heads.b ended c.heads.invariant.left_next c.heads.invariant.right_next);
      odd = λ i.
          ap (odd i) whole
          ∙ merging-end i c.heads.merged.items (drop c.heads.a left) (drop c.heads.b right)
          ∙ c.heads.invariant.odd i;
    }
