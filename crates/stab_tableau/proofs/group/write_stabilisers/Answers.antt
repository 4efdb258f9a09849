use Rattle.stab_tableau.proofs.Names.{◌∙◌, sym, ap, subst, length, arith, below_more, length-set, get_or-set_same, get_or-set_other, identity, IsTableau, stabiliser_of}
use Rattle.stab_tableau.proofs.group.write_stabilisers.Goals as goal

pub write_stabiliser-requires-clause-tableau : goal.write_stabiliser-requires-clause-tableau
write_stabiliser-requires-clause-tableau c =
    subst (λ t. IsTableau (length t) t (record { x = c.loop-k.preimage; z = c.loop-k.stabiliser })) (sym c.loop-k.invariant.same) c.loop-k.invariant.tableau

pub write_stabiliser-requires-clause-in_range : goal.write_stabiliser-requires-clause-in_range
write_stabiliser-requires-clause-in_range c = omega (arith, c.loop-k-test.true, c.len-k-end.ensures.value, ap length c.loop-k.invariant.same)

pub set_row-requires-clause-in_range : goal.set_row-requires-clause-in_range
set_row-requires-clause-in_range c = omega (arith, c.loop-k-test.true, c.len-k-end.ensures.value, c.loop-k.invariant.number)

pub set_row-requires-clause-same_length : goal.set_row-requires-clause-same_length
set_row-requires-clause-same_length c = c.write_stabiliser.ensures.tableau.size.z ∙ ap length c.loop-k.invariant.same ∙ sym c.loop-k.invariant.qubits

pub loop-k-preserved : goal.loop-k-preserved
loop-k-preserved c =
    let same = c.loop-k.invariant.same in
    rw c.set_row.ensures.value
    (record {
      same = c.write_stabiliser.ensures.unchanged ∙ same;
      tableau = subst (λ t. IsTableau (length t) t (record { x = c.write_stabiliser.new.preimage; z = c.write_stabiliser.new.out })) same c.write_stabiliser.ensures.tableau;
      qubits = c.loop-k.invariant.qubits;
      number = length-set c.loop-k.out.rows c.loop-k.k c.write_stabiliser.new.out ∙ c.loop-k.invariant.number;
      done = below_more _ _
          (λ j lj. get_or-set_other c.loop-k.out.rows c.loop-k.k j c.write_stabiliser.new.out (identity c.loop-k.out.qubits) (omega arith) ∙ c.loop-k.invariant.done j lj)
          (get_or-set_same c.loop-k.out.rows c.loop-k.k c.write_stabiliser.new.out (identity c.loop-k.out.qubits)
          (let e = c.loop-k.invariant.number in let lt = c.loop-k-test.true in let l = c.len-k-end.ensures.value in omega arith)
          ∙ c.write_stabiliser.ensures.value
          ∙ ap (λ t. stabiliser_of (record { qubits = length t; rows = t }) c.loop-k.k) same);
    })

pub returns-clause-rows : goal.returns-clause-rows
returns-clause-rows c = λ k lt. c.loop-k.invariant.done k (omega (arith, lt, c.loop-k-test.false, c.len-k-end.ensures.value))
