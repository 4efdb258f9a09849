use Rattle.stab_sampler.proofs.Names.{rules, ◌≡◌, ◌∙◌, ap, false, length, replicate, ones}
use Rattle.stab_sampler.proofs.RecordingLemmas.{ones-zeros}
use Rattle.stab_sampler.proofs.part_recording.clear_randomness.Goals as goal

pub returns-clause-none : goal.returns-clause-none
returns-clause-none c =
    let filled : c.fill.new.self.items ≡ replicate (length c.args.randomness.now.items) false = search rules in
    ap ones filled ∙ ones-zeros (length c.args.randomness.now.items)
