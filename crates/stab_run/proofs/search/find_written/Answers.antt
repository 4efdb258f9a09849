use Rattle.stab_run.proofs.Names.{◌+◌, ◌*◌, ◌≤◌, sym, subst, IfSome, arith, few_steps, unroll, circuit_items, IsRepeat}
use Rattle.stab_run.proofs.SearchLemmas.{AreRepeatsTo, one-repeat-more, are-repeats, is-further}
use Rattle.stab_run.proofs.search.find_written.Goals as goal

pub overflow_mul-first : goal.overflow_mul-first
overflow_mul-first c =
    let items = circuit_items c.args.circuit.now in
    let found = subst (λ f. IfSome f (λ r. (c.finding.first ≤ r.first) × IsRepeat (unroll items) r)) c.in-Some.is c.in_ok-repeat.ensures.found in
    omega (arith, found.1.inside, few_steps items c.requires.checked)

pub overflow_add-first : goal.overflow_add-first
overflow_add-first c =
    let items = circuit_items c.args.circuit.now in
    let found = subst (λ f. IfSome f (λ r. (c.finding.first ≤ r.first) × IsRepeat (unroll items) r)) c.in-Some.is c.in_ok-repeat.ensures.found in
    omega (arith, found.1.inside, few_steps items c.requires.checked)

pub finding-smaller : goal.finding-smaller
finding-smaller c =
    let items = circuit_items c.args.circuit.now in
    let found = subst (λ f. IfSome f (λ r. (c.finding.first ≤ r.first) × IsRepeat (unroll items) r)) c.in-Some.is c.in_ok-repeat.ensures.found in
    omega (arith, found.0, found.1.inside, is-further (unroll items) c.in-Some.repeat found.1)

pub finding-preserved : goal.finding-preserved
finding-preserved c =
    let items = circuit_items c.args.circuit.now in
    let found = subst (λ f. IfSome f (λ r. (c.finding.first ≤ r.first) × IsRepeat (unroll items) r)) c.in-Some.is c.in_ok-repeat.ensures.found in
    let r = c.in-Some.repeat in
    record {
      within = found.1.inside;
      are = subst (AreRepeatsTo 0 (r.first + r.rounds * r.length) (unroll items)) (sym c.in_ok-push.ensures.items)
          (one-repeat-more 0 c.finding.first (unroll items) c.finding.repeats.items r c.finding.invariant.are found.0 found.1);
    }

pub returns-clause-are : goal.returns-clause-are
returns-clause-are c = are-repeats 0 c.finding.first (unroll (circuit_items c.args.circuit.now)) c.finding.repeats.items c.finding.invariant.are
