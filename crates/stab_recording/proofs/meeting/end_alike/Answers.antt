use Rattle.stab_recording.proofs.Names.{◌≡◌, subst, List, Bool, Decides, booleans_Decides, slice_eq-Decides}
use Rattle.stab_recording.proofs.meeting.end_alike.Goals as goal

pub returns : goal.returns
returns c = record {
  value =
      subst (λ (p : List Bool × List Bool). Decides c.eq.result (p.0 ≡ p.1)) (λ i. (c.last.ensures.value i, c.last-2.ensures.value i))
      (slice_eq-Decides booleans_Decides c.last.result.now c.last-2.result.now c.eq.result c.eq.ensures);
}
