use Rattle.stab_run.proofs.Names.{◌≡◌, ◌+◌, ◌*◌, ◌++◌, ◌∷◌, [], ◌∙◌, sym, ap, subst, IfSome, arith, few_steps, unroll, circuit_items, IsRepeat, AreRepeats}
use Rattle.stab_run.proofs.SearchLemmas.{one-repeat-more}
use Rattle.stab_run.proofs.SeamLemmas.{before-last, one-following}
use Rattle.stab_run.proofs.edited.add.Goals as goal

pub joined-requires-clause-last : goal.joined-requires-clause-last
joined-requires-clause-last c =
    let ys = unroll (circuit_items c.args.circuit.now) in
    (before-last 0 ys c.pop.new.self.items c.in-Some.last (subst (AreRepeats 0 ys) c.in-Some.ensures.items c.requires.are)).1

pub returns-in-Some-2-clause-are : goal.returns-in-Some-2-clause-are
returns-in-Some-2-clause-are c =
    let ys = unroll (circuit_items c.args.circuit.now) in
    let rest = c.pop.new.self.items in
    let last = c.in-Some.last in
    let front = before-last 0 ys rest last (subst (AreRepeats 0 ys) c.in-Some.ensures.items c.requires.are) in
    let first = subst (λ f. IfSome f (λ r. r.first ≡ last.first)) c.in-Some-2.is c.in_ok-joined.ensures.first in
    let is = subst (λ f. IfSome f (IsRepeat ys)) c.in-Some-2.is c.in_ok-joined.ensures.is in
    subst (AreRepeats 0 ys) (sym c.in_ok-push-2.ensures.items) (one-following 0 last.first ys rest c.in-Some-2.joined front.0 (omega (arith, first)) is)

pub overflow_mul-last : goal.overflow_mul-last
overflow_mul-last c =
    let ys = unroll (circuit_items c.args.circuit.now) in
    let front = before-last 0 ys c.pop.new.self.items c.in-Some.last (subst (AreRepeats 0 ys) c.in-Some.ensures.items c.requires.are) in
    omega (arith, front.1.inside, few_steps (circuit_items c.args.circuit.now) c.requires.checked)

pub overflow_add-last : goal.overflow_add-last
overflow_add-last c =
    let ys = unroll (circuit_items c.args.circuit.now) in
    let front = before-last 0 ys c.pop.new.self.items c.in-Some.last (subst (AreRepeats 0 ys) c.in-Some.ensures.items c.requires.are) in
    omega (arith, front.1.inside, few_steps (circuit_items c.args.circuit.now) c.requires.checked)

pub returns-in_ok-push-4-clause-are : goal.returns-in_ok-push-4-clause-are
returns-in_ok-push-4-clause-are c =
    let ys = unroll (circuit_items c.args.circuit.now) in
    let rest = c.pop.new.self.items in
    let last = c.in-Some.last in
    let front = before-last 0 ys rest last (subst (AreRepeats 0 ys) c.in-Some.ensures.items c.requires.are) in
    subst (AreRepeats 0 ys) (sym (c.in_ok-push-4.ensures.items ∙ ap (λ l. l ++ c.args.next ∷ []) c.in_ok-push-3.ensures.items))
    (one-following 0 (last.first + last.rounds * last.length) ys (rest ++ last ∷ []) c.args.next (one-repeat-more 0 last.first ys rest last front.0 (omega arith) front.1) (omega (arith, c.if-last-next.true))
    c.requires.is)
