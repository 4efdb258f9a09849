use Rattle.stab_recording.proofs.Names.{◌≡◌, sym, ◌∙◌, subst, true, length, TableauState, stabilises, stabiliser_of}
use Rattle.stab_recording.proofs.meeting.are_shared.Goals as goal

pub returns-then-not-branch-clause-not_all : goal.returns-then-not-branch-clause-not_all
returns-then-not-branch-clause-not_all c = λ _. (
  stabiliser_of c.args.tableau.now c.loop-k.k,
  subst (λ (t : TableauState). length (stabiliser_of t c.loop-k.k).letters ≡ t.qubits) c.loop-k.invariant.same c.in_ok-is_shared.ensures.size,
  subst (λ t. stabilises t (stabiliser_of t c.loop-k.k) ≡ true) c.loop-k.invariant.same c.in_ok-is_shared.ensures.member,
  sym (λ i. stabilises (c.loop-k.invariant.other_same i) (stabiliser_of (c.loop-k.invariant.same i) c.loop-k.k))
      ∙ sym c.in_ok-is_shared.ensures.value
      ∙ c.if-not-branch.true,
)
