use Rattle.stab_recording.proofs.Names.{◌≡◌, refl, ◌∙◌, ap, length, length-replicate, I, Signed}
use Rattle.stab_recording.proofs.SameStateLemmas.{signs-same, signs-differ}
use Rattle.stab_recording.proofs.meeting.same_by_signs.Goals as goal

pub returns-in-Some-clause-value : goal.returns-in-Some-clause-value
returns-in-Some-clause-value c =
    let size : length c.frame_to.new.frame.letters ≡ c.args.tableau.now.qubits =
    c.frame_to.ensures.length ∙ ap (λ (p : Signed). length p.letters) c.in_ok-frame.ensures.ok ∙ length-replicate c.len.result I ∙ c.len.ensures.value in (
      λ _. signs-same c.args.tableau.now c.args.checkpoint.now c.frame_to.new.frame c.stabilises_a_group.ensures.law size c.requires.same_qubits
          (c.frame_to.ensures.conjugated c.if-not-frame_to.false) c.in-Some.field-0 ((c.sign_of.ensures.some c.in-Some.field-0).0 c.in-Some.is),
      λ _. refl,
    )

pub returns-clause-value : goal.returns-clause-value
returns-clause-value c =
    let size : length c.frame_to.new.frame.letters ≡ c.args.tableau.now.qubits =
    c.frame_to.ensures.length ∙ ap (λ (p : Signed). length p.letters) c.in_ok-frame.ensures.ok ∙ length-replicate c.len.result I ∙ c.len.ensures.value in (
      λ e. cc,
      λ same. absurd
          (signs-differ c.args.tableau.now c.args.checkpoint.now c.frame_to.new.frame c.stabilises_a_group.ensures.law size c.requires.same_qubits
          (c.frame_to.ensures.conjugated c.if-not-frame_to.false) c.stabilisers_generate.ensures.law (c.sign_of.ensures.none.0 c.in-None.is) same),
    )
