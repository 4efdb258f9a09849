use Rattle.stab_tableau.proofs.Names.{◌<◌, sym, ◌∙◌, ap, subst, TableauState}
use Rattle.stab_tableau.proofs.ConjugatedRowLemmas.{conjugated-length, conjugated-preserved, conjugated-state}
use Rattle.stab_tableau.proofs.tableau.compact.CompactTableau.conjugate_letter.Goals as goal

pub invariant_of-self : goal.invariant_of-self
invariant_of-self c =
    let lt = subst (λ n. c.args.qubit < n) (sym (ap (λ (t : TableauState). t.qubits) c.self.view_is)) c.requires.in_range in
    conjugated-preserved c.self.inside.table c.conjugate.new.self c.args.qubit c.args.letter lt c.conjugate.ensures.value c.self.invariant

pub returns : goal.returns
returns c =
    let lt = subst (λ n. c.args.qubit < n) (sym (ap (λ (t : TableauState). t.qubits) c.self.view_is)) c.requires.in_range in
    record {
      qubits = conjugated-length c.self.inside.table c.conjugate.new.self c.args.qubit c.args.letter lt c.conjugate.ensures.value ∙ ap (λ (t : TableauState). t.qubits) c.self.view_is;
      conjugated = conjugated-state c.self.inside.table c.conjugate.new.self c.args.qubit c.args.letter lt c.conjugate.ensures.value c.args.self.now c.self.view_is;
    }
