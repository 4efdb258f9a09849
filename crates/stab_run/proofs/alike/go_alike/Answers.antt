use Rattle.stab_run.proofs.Names.{◌≡◌, ◌+◌, ◌++◌, ◌∙◌, sym, ap, length, take, drop, arith, OnTrue_at, steps_shown}
use Rattle.stab_run.proofs.AlikeLemmas.{goes-following, goes-before}
use Rattle.stab_run.proofs.alike.go_alike.Goals as goal

pub comparing-preserved : goal.comparing-preserved
comparing-preserved c =
    let inv = c.comparing.invariant in
    let near = c.args.near.now.left in
    let far = c.args.far.now.left in
    let part = steps_shown c.in-Some.steps in
    let near_left = c.next_steps.new.self.left in
    let far_left = c.goes_over.new.cursor.left in
    let i = c.comparing.done in
    let n : drop i near ≡ part ++ near_left = sym inv.near ∙ c.in-Some.ensures.some in
    let f : drop i far ≡ part ++ far_left = sym inv.far ∙ OnTrue_at c.if-not-goes_over.false c.goes_over.ensures.same in
    let all : i + length part ≡ i + c.len-done.result = omega (arith, c.len-done.ensures.value) in
    record {
      most = omega (arith, c.in-Some.ensures.within.1, c.len-done.ensures.value, inv.most, c.comparing-test.true);
      near = goes-following i near part near_left n ∙ ap (λ q. drop q near) all;
      far = goes-following i far part far_left f ∙ ap (λ q. drop q far) all;
      same =
          ap (λ q. take q near) (sym all)
          ∙ goes-before i near part near_left n
          ∙ ap (λ l. l ++ part) inv.same
          ∙ sym (goes-before i far part far_left f)
          ∙ ap (λ q. take q far) all;
    }
