use Rattle.stab_tableau.proofs.Names.{◌≡◌, ◌<◌, ◌∙◌, refl, sym, ap, length, arith, Signed, single, phased, string_preimage, extend, TableauState, AreRowsMeasured}
use Rattle.stab_tableau.proofs.TableRowLemmas.{table-row}
use Rattle.stab_tableau.proofs.OneLetterLemmas.{length-one_letter}
use Rattle.stab_tableau.proofs.TableauMeasureLemmas.{IsSeenMeasured, measure-tableau, measured-seen, letter-sent, measured-single}
use Rattle.stab_tableau.proofs.ExchangedOutcomeLemmas.{letter-exchanges_seen}
use Rattle.stab_tableau.proofs.tableau.Tableau.collapse_letter_with_pivot.Goals as goal
use Rattle.stab_tableau.proofs.tableau.Tableau.collapse_letter_with_pivot.Goals.{After-measure_with_pivot}

pub copy_into-requires-clause-in_range : goal.copy_into-requires-clause-in_range
copy_into-requires-clause-in_range c = let size : length c.self.inside.table ≡ c.args.self.now.qubits = ap (λ (t : TableauState). t.qubits) c.self.view_is in let lt = c.requires.in_range in omega arith

pub copy_into-requires-clause-same_length : goal.copy_into-requires-clause-same_length
copy_into-requires-clause-same_length c = c.self.invariant.size.x

pub copy_into-requires-clause-row : goal.copy_into-requires-clause-row
copy_into-requires-clause-row c =
    let size : length c.self.inside.table ≡ c.args.self.now.qubits = ap (λ (t : TableauState). t.qubits) c.self.view_is in
    let lt : c.args.qubit < length c.self.inside.table = omega arith in
    table-row (length c.self.inside.table) c.self.inside.table c.self.invariant.table c.args.qubit lt

pub measure_with_pivot-requires : goal.measure_with_pivot-requires
measure_with_pivot-requires c =
    let rows = c.self.inside.table in
    let size : length rows ≡ c.args.self.now.qubits = ap (λ (t : TableauState). t.qubits) c.self.view_is in
    let lt : c.args.qubit < length rows = omega arith in
    let p : Signed = single (length rows) c.args.qubit c.args.letter in
    let lp : length p.letters ≡ length rows = length-one_letter (length rows) c.args.qubit c.args.letter in
    let sent : phased c.copy_into.new.out ≡ extend (string_preimage (length rows) rows) (phased p) =
    letter-sent rows (record { x = c.self.inside.preimage; z = c.self.inside.multiplier }) c.self.invariant c.args.qubit lt c.args.letter c.copy_into.new.out c.copy_into.ensures.value (length rows) refl in
    record { tableau = measure-tableau rows (record { x = c.self.inside.preimage; z = c.self.inside.multiplier }) c.self.invariant p lp c.copy_into.new.out sent; same_length = lp; preimage = sent; pivot_length = c.requires.pivot_length ∙ sym size }

-- what the measurement comes to for contracts
seen : (c : After-measure_with_pivot) → IsSeenMeasured c.args.self.now (single c.args.self.now.qubits c.args.qubit c.args.letter) c.args.coin
    c.measure_with_pivot.result.outcome c.measure_with_pivot.result.free c.measure_with_pivot.new.table (record { x = c.measure_with_pivot.new.preimage; z = c.measure_with_pivot.new.multiplier })
seen c =
    let rows = c.self.inside.table in
    let size : length rows ≡ c.args.self.now.qubits = ap (λ (t : TableauState). t.qubits) c.self.view_is in
    let lt : c.args.qubit < length rows = omega (arith, c.requires.in_range, size) in
    let p : Signed = single c.args.self.now.qubits c.args.qubit c.args.letter in
    let lp : length p.letters ≡ length rows = length-one_letter c.args.self.now.qubits c.args.qubit c.args.letter ∙ sym size in
    let sent : phased c.copy_into.new.out ≡ extend (string_preimage (length rows) rows) (phased p) =
    letter-sent rows (record { x = c.self.inside.preimage; z = c.self.inside.multiplier }) c.self.invariant c.args.qubit lt c.args.letter c.copy_into.new.out c.copy_into.ensures.value
    c.args.self.now.qubits size in
    let measured : AreRowsMeasured (length rows) rows p c.args.coin c.measure_with_pivot.result.outcome c.measure_with_pivot.result.free c.measure_with_pivot.new.table (record { x = c.measure_with_pivot.new.preimage; z = c.measure_with_pivot.new.multiplier }) =
    measured-single (length rows) rows c.args.self.now.qubits size c.args.qubit c.args.letter _ _ _ _ _ c.measure_with_pivot.ensures.measured in
    measured-seen rows (record { x = c.self.inside.preimage; z = c.self.inside.multiplier }) c.self.invariant p lp c.copy_into.new.out sent c.args.self.now c.self.view_is
    c.args.coin c.measure_with_pivot.result.outcome c.measure_with_pivot.result.free c.measure_with_pivot.new.table (record { x = c.measure_with_pivot.new.preimage; z = c.measure_with_pivot.new.multiplier }) measured c.measure_with_pivot.ensures.size

pub invariant_of-self : goal.invariant_of-self
invariant_of-self c = (seen (goal.at.invariant_of-self c).After-measure_with_pivot).tableau

pub returns-clause-outcome : goal.returns-clause-outcome
returns-clause-outcome c = (seen (goal.at.returns-clause-outcome c).After-measure_with_pivot).outcome_is

pub returns-clause-free : goal.returns-clause-free
returns-clause-free c = (seen (goal.at.returns-clause-free c).After-measure_with_pivot).random_is

pub returns-clause-members : goal.returns-clause-members
returns-clause-members c = (seen (goal.at.returns-clause-members c).After-measure_with_pivot).members

pub returns-clause-unchanged : goal.returns-clause-unchanged
returns-clause-unchanged c = (seen (goal.at.returns-clause-unchanged c).After-measure_with_pivot).unchanged

pub returns-clause-pivot : goal.returns-clause-pivot
returns-clause-pivot c = λ free.
    letter-exchanges_seen c.self.inside.table c.args.self.now c.self.view_is c.args.qubit c.args.letter c.measure_with_pivot.new.pivot.letters
    (c.measure_with_pivot.ensures.pivot free)
