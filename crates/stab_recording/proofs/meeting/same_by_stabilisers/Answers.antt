use Rattle.stab_recording.proofs.SameStateLemmas.{shared-yes, shared-no}
use Rattle.stab_recording.proofs.meeting.same_by_stabilisers.Goals as goal

pub returns-clause-value : goal.returns-clause-value
returns-clause-value c = (
  λ e. shared-yes c.args.tableau.now c.args.other.now c.are_shared.new.tableau c.are_shared.new.other c.requires.same_qubits c.are_shared.ensures.unchanged
      c.are_shared.ensures.other_unchanged c.stabilises_a_group.ensures.law c.stabilises_a_group-2.ensures.law c.stabilisers_generate.ensures.law
      c.min-start.result c.len-end.result c.len-end.ensures.value (c.in_ok-are_shared.ensures.all c.if-not-branch.false) (c.in_ok-same.ensures.all e),
  shared-no c.args.tableau.now c.args.other.now c.are_shared.new.tableau c.are_shared.new.other c.requires.same_qubits c.are_shared.ensures.unchanged
      c.are_shared.ensures.other_unchanged c.in_ok-same.same c.in_ok-same.ensures.not_all,
)
