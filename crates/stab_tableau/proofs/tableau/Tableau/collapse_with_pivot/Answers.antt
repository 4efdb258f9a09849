use Rattle.stab_tableau.proofs.Names.{◌≡◌, ◌∙◌, sym, ap, length, phased, string_preimage, extend, TableauState, AreRowsMeasured}
use Rattle.stab_tableau.proofs.TableauMeasureLemmas.{measure-tableau, measured-members}
use Rattle.stab_tableau.proofs.ExchangedOutcomeLemmas.{exchanges-seen}
use Rattle.stab_tableau.proofs.tableau.Tableau.collapse_with_pivot.Goals as goal

pub measure_with_pivot-requires : goal.measure_with_pivot-requires
measure_with_pivot-requires c =
    let rows = c.self.inside.table in
    let lp : length c.args.pauli.now.letters ≡ length rows = c.requires.same_length ∙ sym (ap (λ (t : TableauState). t.qubits) c.self.view_is) in
    record {
      tableau = measure-tableau rows (record { x = c.self.inside.preimage; z = c.self.inside.multiplier }) c.self.invariant c.args.pauli.now lp c.write_preimage.new.out c.write_preimage.ensures.value;
      same_length = lp;
      preimage = c.write_preimage.ensures.value;
      pivot_length = c.requires.pivot_length ∙ sym (ap (λ (t : TableauState). t.qubits) c.self.view_is);
    }

pub returns-clause-members : goal.returns-clause-members
returns-clause-members c =
    let rows = c.self.inside.table in
    let lp : length c.args.pauli.now.letters ≡ length rows = c.requires.same_length ∙ sym (ap (λ (t : TableauState). t.qubits) c.self.view_is) in
    let sent : phased c.write_preimage.new.out ≡ extend (string_preimage (length rows) rows) (phased c.args.pauli.now) =
    c.write_preimage.ensures.value in
    let measured : AreRowsMeasured (length rows) rows c.args.pauli.now c.args.coin c.measure_with_pivot.result.outcome c.measure_with_pivot.result.free c.measure_with_pivot.new.table (record { x = c.measure_with_pivot.new.preimage; z = c.measure_with_pivot.new.multiplier }) =
    c.measure_with_pivot.ensures.measured in
    let same : length c.measure_with_pivot.new.table ≡ length rows = c.measure_with_pivot.ensures.size in
    measured-members rows (record { x = c.self.inside.preimage; z = c.self.inside.multiplier }) c.self.invariant c.args.pauli.now lp c.write_preimage.new.out sent c.args.self.now c.self.view_is
    c.args.coin c.measure_with_pivot.result.outcome c.measure_with_pivot.result.free c.measure_with_pivot.new.table (record { x = c.measure_with_pivot.new.preimage; z = c.measure_with_pivot.new.multiplier }) measured same

pub returns-clause-pivot : goal.returns-clause-pivot
returns-clause-pivot c = λ free.
    exchanges-seen c.self.inside.table c.args.self.now c.self.view_is c.args.pauli.now c.measure_with_pivot.new.pivot.letters
    (c.measure_with_pivot.ensures.pivot free)
