use Rattle.stab_pauli.proofs.Names.{refl, ◌+◌, ◌*◌, ◌/◌, ◌%◌}
use Rattle.stab_pauli.proofs.Lemmas.{mask-letter, mask-blank}
use Rattle.stab_pauli.proofs.packed.row.letters_mask.Goals as goal

pub returns-clause-chosen : goal.returns-clause-chosen
returns-clause-chosen c = λ k lk. mask-letter c.args.blocks c.args.row.now c.args.word (8 * (c.args.word / 4) + c.args.word % 4) k c.requires.length c.requires.in_range refl lk

pub returns-clause-unchosen : goal.returns-clause-unchosen
returns-clause-unchosen c = λ k lk. mask-blank c.args.blocks c.args.row.now c.args.word (8 * (c.args.word / 4) + c.args.word % 4) k c.requires.length c.requires.in_range refl lk
