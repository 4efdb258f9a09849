use Rattle.stab_frames.proofs.Names.{refl, length}
use Rattle.stab_frames.proofs.GoesOverLemmas.{no_coins-controlled}
use Rattle.stab_frames.proofs.instruction.propagate_controlled_pair.Goals as goal

pub returns-in-Record-clause-goes : goal.returns-in-Record-clause-goes
returns-in-Record-clause-goes c =
    no_coins-controlled (length c.args.propagation.now.letters) c.args.axis c.args.pair c.in-Record.lookback c.in-Record.qubit c.letter.result c.number-in-Record.result c.number-in-Record-2.result
    c.args.propagation.now c.propagate_controlled.new.propagation c.in-Record.is c.letter.ensures.value c.number-in-Record.ensures.value c.number-in-Record-2.ensures.value
    c.propagate_controlled.ensures.value refl c.propagate_controlled.ensures.length
