use Rattle.stab_regions.proofs.Names.{◌<◌, ◌∷◌, ◌∙◌, sym, ap, subst, length, arith, All, Step, step_shown, step_qubits}
use Rattle.stab_regions.proofs.SiteLemmas.{step-within}
use Rattle.stab_regions.proofs.SiteRowLemmas.{preserved-long}
use Rattle.stab_regions.proofs.SweepLemmas.{swept-more}
use Rattle.stab_regions.proofs.WalkRowLemmas.{walk-qubits, walk-sides}
use Rattle.stab_regions.proofs.sweep.Sweep.before.Goals as goal

pub keep_all-requires : goal.keep_all-requires
keep_all-requires c =
    let p = c.requires.site in
    let w = c.args.self.now.walk in
    let x = step_shown c.args.step in
    record {
      in_range =
          subst (λ m. All (λ q. q < m) (step_qubits x)) (sym (ap length c.as_slice.ensures.value ∙ walk-qubits w.numbered w p.counts p.back p.at.walk))
          (step-within p.counts.qubits x (p.passes.fits.steps 0 x (omega arith)));
      same_length = ap length c.as_slice-2.ensures.value ∙ walk-sides w.numbered w p.counts p.back p.at.walk ∙ sym (ap length c.as_slice.ensures.value);
    }

pub before-requires : goal.before-requires
before-requires c =
    let p = c.requires.site in
    record { site = record { counts = p.counts; back = p.back; at = p.at.walk; passes = p.passes } }

pub add_all-requires : goal.add_all-requires
add_all-requires c =
    let p = c.requires.site in
    let w = c.before-2.new.self in
    let x = step_shown c.args.step in
    let at = c.in_ok-before.ensures.passes p.counts p.back p.passes p.at.walk in
    record {
      in_range =
          subst (λ m. All (λ q. q < m) (step_qubits x)) (sym (ap length c.as_slice-3.ensures.value ∙ walk-qubits w.numbered w p.counts (x ∷ p.back) at))
          (step-within p.counts.qubits x (p.passes.fits.steps 0 x (omega arith)));
      same_length = ap length c.as_slice-4.ensures.value ∙ walk-sides w.numbered w p.counts (x ∷ p.back) at ∙ sym (ap length c.as_slice-3.ensures.value);
      retained = λ following. ap length (c.in_ok-keep_all.ensures.value following) ∙ preserved-long c.as_slice.result.now c.as_slice-2.result.now (step_qubits x);
    }

pub returns : goal.returns
returns c = record {
  numbered = c.before-2.ensures.numbered;
  passes = λ counts back passes swept.
      let x : Step = step_shown c.args.step in
      swept-more c.args.asked x counts back c.args.self.now _ c.before-2.ensures.numbered passes.fits swept (c.in_ok-before.ensures.passes counts back passes swept.walk)
      c.sides_at-sides.result c.sides_at-sides.ensures.value c.as_slice-3.result.now c.as_slice-4.result.now c.as_slice.result.now c.as_slice-2.result.now
      c.as_slice-3.ensures.value c.as_slice-4.ensures.value c.as_slice.ensures.value c.as_slice-2.ensures.value
      c.in_ok-add_all.ensures.ascend c.in_ok-keep_all.ensures.ascend (c.in_ok-add_all.ensures.value _ _ c.in_ok-keep_all.ensures.value);
}
