use Rattle.stab_run.proofs.Names.{◌≡◌, ◌+◌, ◌++◌, ◌∙◌, sym, ap, length, take, drop, arith, OnTrue_at, drop-drop, steps_shown}
use Rattle.stab_run.proofs.AlikeLemmas.{goes-following, goes-before, goes-within, same-more}
use Rattle.stab_run.proofs.alike.count_same.Goals as goal

pub overflow_add-count : goal.overflow_add-count
overflow_add-count c =
    let inv = c.comparing.invariant in
    let n = sym inv.near ∙ c.in-Some.ensures.some in
    omega (arith, goes-within c.comparing.count c.pass_same.result c.args.near.now.left (steps_shown c.in-Some.steps) c.next_steps.new.self.left n inv.few c.pass_same.ensures.within, c.len.ensures.value, c.requires.few)

pub overflow_add-count-in-Some : goal.overflow_add-count-in-Some
overflow_add-count-in-Some c =
    let inv = c.comparing.invariant in
    let n = sym inv.near ∙ c.in-Some.ensures.some in
    omega (arith, goes-within c.comparing.count c.pass_same.result c.args.near.now.left (steps_shown c.in-Some.steps) c.next_steps.new.self.left n inv.few c.pass_same.ensures.within, c.len.ensures.value, c.requires.few)

pub comparing-preserved : goal.comparing-preserved
comparing-preserved c =
    let inv = c.comparing.invariant in
    let near = c.args.near.now.left in
    let far = c.args.far.now.left in
    let part = steps_shown c.in-Some.steps in
    let near_left = c.next_steps.new.self.left in
    let far_left = c.goes_over.new.cursor.left in
    let i = c.comparing.count in
    let m = c.pass_same.result in
    let n : drop i near ≡ part ++ near_left = sym inv.near ∙ c.in-Some.ensures.some in
    let f : drop i far ≡ part ++ far_left = sym inv.far ∙ OnTrue_at c.if-not-goes_over.false c.goes_over.ensures.same in
    let k = i + length part in
    let all : k + m ≡ i + (c.len.result + m) = omega (arith, c.len.ensures.value) in
    let near_after = goes-following i near part near_left n in
    let far_after = goes-following i far part far_left f in
    let same : take k near ≡ take k far = goes-before i near part near_left n ∙ ap (λ l. l ++ part) inv.same ∙ sym (goes-before i far part far_left f) in
    record {
      few = omega (arith, goes-within i m near part near_left n inv.few c.pass_same.ensures.within, c.len.ensures.value);
      within = omega (arith, goes-within i m far part far_left f inv.within c.pass_same.ensures.other_within, c.len.ensures.value);
      near = c.pass_same.ensures.left ∙ ap (drop m) near_after ∙ drop-drop m k near ∙ ap (λ q. drop q near) all;
      far = c.pass_same.ensures.other_left ∙ ap (drop m) far_after ∙ drop-drop m k far ∙ ap (λ q. drop q far) all;
      same = ap (λ q. take q near) (sym all) ∙ same-more k m near far near_left far_left near_after far_after same c.pass_same.ensures.same ∙ ap (λ q. take q far) all;
    }
