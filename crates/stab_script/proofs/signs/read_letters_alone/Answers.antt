use Rattle.stab_script.proofs.SignLaws.{letters_given}
use Rattle.stab_script.proofs.signs.read_letters_alone.Goals as goal

pub returns-clause-gives : goal.returns-clause-gives
returns-clause-gives c = letters_given c.args.n c.args.word.now c.read_letters.result c.requires.letters c.read_letters.ensures.gives
