use Rattle.stab_tableau.proofs.Names.{◌≡◌, ◌≤◌, ◌<◌, ◌∙◌, Some, false, refl, sym, ap, subst, length, arith, below_more, with_sign, stabilises, stabiliser_of, IsTableau}
use Rattle.stab_tableau.proofs.SameStateLemmas.{determines-yes, determines-no}
use Rattle.stab_tableau.proofs.tableau.Tableau.has_stabilisers.Goals as goal
use Rattle.stab_tableau.proofs.tableau.Tableau.has_stabilisers.Goals.{After-sign_of}

-- what the string is that is asked
asked : (c : After-sign_of) → stabilises c.loop-k.self (with_sign false c.write_stabiliser.new.out) ≡ stabilises c.args.self.now (stabiliser_of (record { qubits = length c.args.table.now; rows = c.args.table.now }) c.loop-k.k)
asked c = λ i. stabilises (c.loop-k.invariant.same i) (with_sign false ((c.write_stabiliser.ensures.value ∙ ap (λ t. stabiliser_of (record { qubits = length t; rows = t }) c.loop-k.k) c.loop-k.invariant.same_table) i))

pub write_stabiliser-requires-clause-tableau : goal.write_stabiliser-requires-clause-tableau
write_stabiliser-requires-clause-tableau c =
    subst (λ t. IsTableau (length t) t (record { x = c.loop-k.preimage; z = c.loop-k.stabiliser })) (sym c.loop-k.invariant.same_table) c.loop-k.invariant.tableau

pub write_stabiliser-requires-clause-in_range : goal.write_stabiliser-requires-clause-in_range
write_stabiliser-requires-clause-in_range c = omega (arith, c.loop-k-test.true, c.len-k-end.ensures.value, ap length c.loop-k.invariant.same_table)

pub returns-then-negative-clause-value : goal.returns-then-negative-clause-value
returns-then-negative-clause-value c =
    let below : c.loop-k.k < length c.args.table.now = (let lt = c.loop-k-test.true in let e = c.len-k-end.ensures.value in omega arith) in (
      λ e. cc,
      λ same. absurd
          (determines-no c.args.table.now _ c.requires.tableau c.args.self.now c.stabilises_a_group.ensures.law c.requires.same_length c.loop-k.k below
          (λ e. let r : c.sign_of.result ≡ Some false = (c.sign_of.ensures.some false).1 (asked (goal.at.returns-then-negative-clause-value c).After-sign_of ∙ e) in
          let s = c.in-Some.is in let f = c.if-negative.true in cc)
          same),
    )

pub returns-in-None-clause-value : goal.returns-in-None-clause-value
returns-in-None-clause-value c =
    let below : c.loop-k.k < length c.args.table.now = (let lt = c.loop-k-test.true in let e = c.len-k-end.ensures.value in omega arith) in (
      λ e. cc,
      λ same. absurd
          (determines-no c.args.table.now _ c.requires.tableau c.args.self.now c.stabilises_a_group.ensures.law c.requires.same_length c.loop-k.k below
          (λ e. let r : c.sign_of.result ≡ Some false = (c.sign_of.ensures.some false).1 (asked (goal.at.returns-in-None-clause-value c).After-sign_of ∙ e) in
          let s = c.in-None.is in cc)
          same),
    )

pub loop-k-preserved : goal.loop-k-preserved
loop-k-preserved c =
    let same = c.loop-k.invariant.same_table in
    record {
      same = c.sign_of.ensures.unchanged ∙ c.loop-k.invariant.same;
      same_table = c.write_stabiliser.ensures.unchanged ∙ same;
      tableau = subst (λ t. IsTableau (length t) t (record { x = c.write_stabiliser.new.preimage; z = c.write_stabiliser.new.out })) same c.write_stabiliser.ensures.tableau;
      has = below_more _ _ c.loop-k.invariant.has
          (sym (asked (goal.at.loop-k-preserved c).After-sign_of) ∙ (c.sign_of.ensures.some false).0 (c.in-Some.is ∙ ap Some c.if-negative.false));
    }

pub returns-clause-value : goal.returns-clause-value
returns-clause-value c =
    let past : length c.args.table.now ≤ c.loop-k.k = (let le = c.loop-k-test.false in let e = c.len-k-end.ensures.value in omega arith) in (
      λ _. determines-yes c.args.table.now _ c.requires.tableau c.args.self.now c.stabilises_a_group.ensures.law c.requires.same_length
          c.loop-k.k past c.loop-k.invariant.has,
      λ _. refl,
    )
