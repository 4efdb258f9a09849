use Rattle.stab_recording.proofs.Names.{refl, ◌≡◌, ◌≢◌, ◌+◌, ◌-◌, ◌∙◌, ap, length, length-take, drop, arith, rules, drop-drop, take_all, take-append-drop, NoString}
use Rattle.stab_recording.proofs.RestPropagatedLemmas.{order-first, following-checkpoint, steps-there, following-determined, past-next, short-left, may-further, most-counted, missing-more, past-more, next-checkpoint, advanced-dropped, advanced-gone, advanced-following}
use Rattle.stab_recording.proofs.rest_of_run.propagate_rest.Goals as goal

pub propagate_steps-requires : goal.propagate_steps-requires
propagate_steps-requires c = record {
  may = may-further c.loop-checkpoint.invariant.past c.loop-checkpoint.cursor.left c.loop-checkpoint.invariant.left c.args.strings.now c.args.by_frame.now c.loop-checkpoint.by_frame c.loop-checkpoint.invariant.most refl c.requires.may;
}

pub propagate_steps-requires-2 : goal.propagate_steps-requires-2
propagate_steps-requires-2 c = record {
  may = may-further c.loop-checkpoint.invariant.past c.loop-checkpoint.cursor.left c.loop-checkpoint.invariant.left c.args.strings.now c.args.by_frame.now c.loop-checkpoint.by_frame c.loop-checkpoint.invariant.most refl c.requires.may;
}

pub returns-in_err-propagated-clause-most : goal.returns-in_err-propagated-clause-most
returns-in_err-propagated-clause-most c =
    most-counted c.loop-checkpoint.invariant.past c.loop-checkpoint.cursor.left c.loop-checkpoint.invariant.left c.args.by_frame.now c.loop-checkpoint.by_frame c.propagate_steps.new.by_frame (c.checkpoint-item.result.step - c.loop-checkpoint.at) c.loop-checkpoint.invariant.most c.propagate_steps.ensures.most

pub returns-in-NoString-clause-most : goal.returns-in-NoString-clause-most
returns-in-NoString-clause-most c =
    most-counted c.loop-checkpoint.invariant.past c.loop-checkpoint.cursor.left c.loop-checkpoint.invariant.left c.args.by_frame.now c.loop-checkpoint.by_frame c.propagate_steps.new.by_frame (c.checkpoint-item.result.step - c.loop-checkpoint.at) c.loop-checkpoint.invariant.most c.propagate_steps.ensures.most

pub returns-in-Gone-clause-most : goal.returns-in-Gone-clause-most
returns-in-Gone-clause-most c =
    most-counted c.loop-checkpoint.invariant.past c.loop-checkpoint.cursor.left c.loop-checkpoint.invariant.left c.args.by_frame.now c.loop-checkpoint.by_frame c.propagate_steps.new.by_frame (c.checkpoint-item.result.step - c.loop-checkpoint.at) c.loop-checkpoint.invariant.most c.propagate_steps.ensures.most

pub returns-in_err-drop_letters-clause-most : goal.returns-in_err-drop_letters-clause-most
returns-in_err-drop_letters-clause-most c =
    most-counted c.loop-checkpoint.invariant.past c.loop-checkpoint.cursor.left c.loop-checkpoint.invariant.left c.args.by_frame.now c.loop-checkpoint.by_frame c.propagate_steps.new.by_frame (c.checkpoint-item.result.step - c.loop-checkpoint.at) c.loop-checkpoint.invariant.most c.propagate_steps.ensures.most

pub returns-then-branch-clause-most : goal.returns-then-branch-clause-most
returns-then-branch-clause-most c =
    most-counted c.loop-checkpoint.invariant.past c.loop-checkpoint.cursor.left c.loop-checkpoint.invariant.left c.args.by_frame.now c.loop-checkpoint.by_frame c.propagate_steps.new.by_frame (c.checkpoint-item.result.step - c.loop-checkpoint.at) c.loop-checkpoint.invariant.most c.propagate_steps.ensures.most

pub returns-in_err-propagated_checkpoint-clause-most : goal.returns-in_err-propagated_checkpoint-clause-most
returns-in_err-propagated_checkpoint-clause-most c =
    most-counted c.loop-checkpoint.invariant.past c.loop-checkpoint.cursor.left c.loop-checkpoint.invariant.left c.args.by_frame.now c.loop-checkpoint.by_frame c.propagate_steps.new.by_frame (c.checkpoint-item.result.step - c.loop-checkpoint.at) c.loop-checkpoint.invariant.most c.propagate_steps.ensures.most

pub returns-in_err-push-clause-most : goal.returns-in_err-push-clause-most
returns-in_err-push-clause-most c =
    most-counted c.loop-checkpoint.invariant.past c.loop-checkpoint.cursor.left c.loop-checkpoint.invariant.left c.args.by_frame.now c.loop-checkpoint.by_frame c.propagate_steps.new.by_frame (c.checkpoint-item.result.step - c.loop-checkpoint.at) c.loop-checkpoint.invariant.most c.propagate_steps.ensures.most

pub returns-in_err-propagated-2-clause-most : goal.returns-in_err-propagated-2-clause-most
returns-in_err-propagated-2-clause-most c =
    most-counted c.loop-checkpoint.invariant.past c.loop-checkpoint.cursor.left c.loop-checkpoint.invariant.left c.args.by_frame.now c.loop-checkpoint.by_frame c.propagate_steps-2.new.by_frame 18446744073709551615 c.loop-checkpoint.invariant.most c.propagate_steps-2.ensures.most

pub returns-clause-most : goal.returns-clause-most
returns-clause-most c =
    most-counted c.loop-checkpoint.invariant.past c.loop-checkpoint.cursor.left c.loop-checkpoint.invariant.left c.args.by_frame.now c.loop-checkpoint.by_frame c.propagate_steps-2.new.by_frame 18446744073709551615 c.loop-checkpoint.invariant.most c.propagate_steps-2.ensures.most

pub returns-in-NoString-clause-missing : goal.returns-in-NoString-clause-missing
returns-in-NoString-clause-missing c = λ e.
    let inv = c.loop-checkpoint.invariant in
    let ok = c.in_ok-propagated.ensures in
    missing-more inv.past c.loop-checkpoint.cursor.left inv.left c.args.by_frame.now c.loop-checkpoint.by_frame c.propagate_steps.new.by_frame inv.most inv.least (omega (arith, ok.passed.counted))
    (ok.passed.missing c.in-NoString.is)

pub returns-clause-missing : goal.returns-clause-missing
returns-clause-missing c = λ e.
    let inv = c.loop-checkpoint.invariant in
    let ok = c.in_ok-propagated-2.ensures in
    let determined : c.in_ok-propagated-2.propagated.stop ≡ NoString = search rules in
    missing-more inv.past c.loop-checkpoint.cursor.left inv.left c.args.by_frame.now c.loop-checkpoint.by_frame c.propagate_steps-2.new.by_frame inv.most inv.least (omega (arith, ok.passed.counted))
    (ok.passed.missing determined)

pub returns-in-Gone-clause-advanced : goal.returns-in-Gone-clause-advanced
returns-in-Gone-clause-advanced c = λ e.
    let inv = c.loop-checkpoint.invariant in
    let ok = c.in_ok-propagated.ensures in
    advanced-gone inv.past c.loop-checkpoint.cursor.left inv.left c.in_ok-propagated.propagated.steps (c.checkpoint-item.result.step - c.loop-checkpoint.at) c.propagate_steps.new.propagation ok.passed.within ok.length ok.placed ok.propagated ok.enough
    c.args.window c.args.checkpoints.now (drop c.loop-checkpoint.checkpoint-index c.args.checkpoints.now) (take-append-drop c.loop-checkpoint.checkpoint-index c.args.checkpoints.now)
    (following-checkpoint c.args.from c.loop-checkpoint.at (c.args.from + length c.args.cursor.now.left) c.loop-checkpoint.checkpoint-index c.in_ok-propagated.propagated.steps c.loop-checkpoint.cursor.left c.args.checkpoints.now
    c.checkpoint-item.result c.checkpoint-item.is (omega arith) inv.following ok.passed.within inv.order)
    c.in_ok-propagated.propagated.stop ok.passed.stop c.in-Gone.is

pub returns-then-branch-clause-advanced : goal.returns-then-branch-clause-advanced
returns-then-branch-clause-advanced c = λ e.
    let inv = c.loop-checkpoint.invariant in
    let ok = c.in_ok-propagated.ensures in
    let gave = c.in_ok-drop_letters.ensures in
    let here = order-first c.loop-checkpoint.at (c.args.from + length c.args.cursor.now.left) c.loop-checkpoint.checkpoint-index c.args.checkpoints.now c.checkpoint-item.result c.checkpoint-item.is (omega arith) inv.order in
    advanced-dropped inv.past c.loop-checkpoint.cursor.left inv.left c.in_ok-propagated.propagated.steps (c.checkpoint-item.result.step - c.loop-checkpoint.at) c.propagate_steps.new.propagation ok.passed.within ok.length ok.placed ok.propagated ok.enough
    c.args.window c.args.checkpoints.now (drop c.loop-checkpoint.checkpoint-index c.args.checkpoints.now) (take-append-drop c.loop-checkpoint.checkpoint-index c.args.checkpoints.now)
    (following-checkpoint c.args.from c.loop-checkpoint.at (c.args.from + length c.args.cursor.now.left) c.loop-checkpoint.checkpoint-index c.in_ok-propagated.propagated.steps c.loop-checkpoint.cursor.left c.args.checkpoints.now
    c.checkpoint-item.result c.checkpoint-item.is (omega arith) inv.following ok.passed.within inv.order)
    c.checkpoint-item.result c.drop_letters.new.propagation
    (next-checkpoint c.loop-checkpoint.checkpoint-index (length c.loop-checkpoint.conjugated.items) c.args.checkpoints.now c.checkpoint-item.result inv.past.count c.checkpoint-item.is (omega arith))
    (steps-there c.args.from c.loop-checkpoint.at c.in_ok-propagated.propagated.steps (length c.loop-checkpoint.propagation.letters) c.args.window c.loop-checkpoint.cursor.left c.args.cursor.now.left c.checkpoint-item.result
    c.propagate_steps.new.propagation c.in_ok-propagated.propagated.stop inv.left inv.following here.0 here.1 ok.passed.stop c.in-After.is)
    (gave.stabilise c.if-branch.true) (gave.value c.if-branch.true) (gave.quiet c.if-branch.true)

pub loop-checkpoint-preserved : goal.loop-checkpoint-preserved
loop-checkpoint-preserved c =
    let inv = c.loop-checkpoint.invariant in
    let ok = c.in_ok-propagated.ensures in
    let here = order-first c.loop-checkpoint.at (c.args.from + length c.args.cursor.now.left) c.loop-checkpoint.checkpoint-index c.args.checkpoints.now c.checkpoint-item.result c.checkpoint-item.is (omega arith) inv.order in
    let there : (c.loop-checkpoint.at - c.args.from) + c.in_ok-propagated.propagated.steps ≡ c.checkpoint-item.result.step - c.args.from =
    steps-there c.args.from c.loop-checkpoint.at c.in_ok-propagated.propagated.steps (length c.loop-checkpoint.propagation.letters) c.args.window c.loop-checkpoint.cursor.left c.args.cursor.now.left c.checkpoint-item.result
    c.propagate_steps.new.propagation c.in_ok-propagated.propagated.stop inv.left inv.following here.0 here.1 ok.passed.stop c.in-After.is in
    record {
      following = omega (arith, here.0, inv.following);
      most = omega (arith, here.0, inv.following, inv.most, c.propagate_steps.ensures.most, length-take (c.checkpoint-item.result.step - c.loop-checkpoint.at) c.loop-checkpoint.cursor.left);
      least = omega (arith, here.0, inv.following, inv.least, ok.passed.counted, there);
      left =
          ok.passed.left (following-determined c.in_ok-propagated.propagated.stop c.in-After.is)
          ∙ ap (drop c.in_ok-propagated.propagated.steps) inv.left
          ∙ drop-drop c.in_ok-propagated.propagated.steps (c.loop-checkpoint.at - c.args.from) c.args.cursor.now.left
          ∙ ap (λ k. drop k c.args.cursor.now.left) there;
      order = here.2;
      past =
          past-next c.loop-checkpoint.checkpoint-index c.args.checkpoints.now
          (past-more inv.past c.loop-checkpoint.cursor.left inv.left c.in_ok-propagated.propagated.steps (c.checkpoint-item.result.step - c.loop-checkpoint.at) c.propagate_steps.new.propagation ok.passed.within ok.length ok.placed ok.propagated ok.enough)
          c.checkpoint-item.result c.in_ok-propagated_checkpoint.field-0 c.drop_letters.new.propagation c.push.new.self.items c.checkpoint-item.is (omega arith) c.in_ok-push.ensures.items there
          (c.in_ok-drop_letters.ensures.unchanged c.if-branch.false) c.requires.same_qubits c.in_ok-propagated_checkpoint.ensures.qubits c.letters.result.now c.letters.ensures.value
          c.in_ok-propagated_checkpoint.ensures.conjugated (c.in_ok-drop_letters.ensures.conjugate c.if-branch.false);
    }

pub returns-clause-advanced : goal.returns-clause-advanced
returns-clause-advanced c = λ e.
    let inv = c.loop-checkpoint.invariant in
    let ok = c.in_ok-propagated-2.ensures in
    let determined : c.in_ok-propagated-2.propagated.stop ≢ NoString = search rules in
    advanced-following inv.past c.loop-checkpoint.cursor.left inv.left c.in_ok-propagated-2.propagated.steps 18446744073709551615 c.propagate_steps-2.new.propagation ok.passed.within ok.length ok.placed ok.propagated ok.enough
    c.args.window c.args.checkpoints.now (take_all c.loop-checkpoint.checkpoint-index c.args.checkpoints.now (omega arith))
    (omega (arith, short-left inv.past c.loop-checkpoint.cursor.left inv.left, c.requires.may.few)) c.in_ok-propagated-2.propagated.stop ok.passed.stop determined
