use Rattle.stab_items.proofs.Names.{◌∙◌, ◌++◌, ap, arith, subst, sym, length, listed, unroll, AreRepeats, repeats_in, circuit_items, summary_of}
use Rattle.stab_items.proofs.SummaryLemmas.{few_steps}
use Rattle.stab_items.proofs.RepeatLemmas.{all_repeats, no_repeats, length-repeats}
use Rattle.stab_items.proofs.circuit.Circuit.repeats.Goals as goal

pub add_repeats-requires : goal.add_repeats-requires
add_repeats-requires c = record {
  few = omega (arith, few_steps (circuit_items c.args.self.now) c.requires.checked, ap (λ l. length (unroll (listed l))) c.items.ensures.value);
}

pub returns-then-self-eq0-clause-are : goal.returns-then-self-eq0-clause-are
returns-then-self-eq0-clause-are c =
    let xs = c.args.self.now in
    let none = no_repeats c.self.inside.total.depth xs (ap (λ s. s.depth) (c.self.invariant.0 ∙ ap (λ l. summary_of (listed l)) c.self.view_is)) c.if-self-eq0.true in
    subst (AreRepeats 0 (unroll (listed xs))) (none ∙ sym c.new-repeats.ensures.items) (all_repeats xs)

pub returns-then-self-eq0-clause-count : goal.returns-then-self-eq0-clause-count
returns-then-self-eq0-clause-count c =
    let xs = c.args.self.now in
    let none = no_repeats c.self.inside.total.depth xs (ap (λ s. s.depth) (c.self.invariant.0 ∙ ap (λ l. summary_of (listed l)) c.self.view_is)) c.if-self-eq0.true in
    ap length (c.new-repeats.ensures.items ∙ sym none) ∙ length-repeats 0 xs

pub returns-clause-are : goal.returns-clause-are
returns-clause-are c =
    subst (AreRepeats 0 (unroll (listed c.args.self.now))) (sym (c.in_ok-add_repeats.ensures.ok ∙ (λ i. c.new-repeats.ensures.items i ++ repeats_in 0 (c.items.ensures.value i)))) (all_repeats c.args.self.now)

pub returns-clause-count : goal.returns-clause-count
returns-clause-count c = ap length (c.in_ok-add_repeats.ensures.ok ∙ (λ i. c.new-repeats.ensures.items i ++ repeats_in 0 (c.items.ensures.value i))) ∙ length-repeats 0 c.args.self.now
