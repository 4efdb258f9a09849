use Rattle.stab_tableau.proofs.Names.{◌*◌, ◌%◌}
use Rattle.stab_tableau.proofs.MaskHalfLemmas.{half-few, group-inside, group-unchosen}
use Rattle.stab_tableau.proofs.observable.letters_of_group.Goals as goal

pub returns-clause-few : goal.returns-clause-few
returns-clause-few c = λ k lk one. half-few c.letters_mask-both_groups.result (32 * (c.args.group % 2)) k one

pub returns-clause-in_range : goal.returns-clause-in_range
returns-clause-in_range c = λ k lk one. group-inside c.args.pauli.now.letters c.letters_mask-both_groups.result c.args.group c.letters_mask-both_groups.ensures.in_range k one

pub returns-clause-unchosen : goal.returns-clause-unchosen
returns-clause-unchosen c = group-unchosen c.args.pauli.now.letters c.letters_mask-both_groups.result c.args.group c.letters_mask-both_groups.ensures.unchosen
