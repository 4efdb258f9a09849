use Rattle.stab_commands.proofs.Names.{shot_bytes, detected, run_of_shot, parts_join}
use Rattle.stab_results.specs.declared.format.Kinds.TheVariants.{Measurements}
use Rattle.stab_commands.proofs.part_laws.joined_parts_are_the_whole.Goals as goal

pub returns : goal.returns
returns c = record {
  sampled = λ format first n m source items. parts_join (λ shot. shot_bytes format Measurements (run_of_shot source items shot).records) first n m;
  detected = λ format append first n m source items. parts_join (λ shot. detected format append (run_of_shot source items shot)) first n m;
}
