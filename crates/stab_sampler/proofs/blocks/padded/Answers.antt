use Rattle.stab_sampler.proofs.Names.{ap, ◌∙◌, length, get_or}
use Rattle.stab_sampler.proofs.RowLemmas.{all-same, padded}
use Rattle.stab_sampler.proofs.blocks.padded.Goals as goal

pub returns : goal.returns
returns c = record {
  value = λ k. padded c.copy_from_slice.new.self _ (length c.args.words.now) k (λ j. all-same 64 j 0) ∙ ap (λ w. get_or w k 0) c.copy_from_slice.ensures.after;
}
