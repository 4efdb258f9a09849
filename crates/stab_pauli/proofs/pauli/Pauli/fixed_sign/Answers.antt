use Rattle.stab_pauli.proofs.Names.{◌∙◌, ap, sign_of_phase}
use Rattle.stab_pauli.proofs.Lemmas.{view_of, fixed_sign}
use Rattle.stab_pauli.proofs.pauli.Pauli.fixed_sign.Goals as goal

pub returns : goal.returns
returns c =
    let mine = view_of c.self.invariant c.self.view_is in
    record { value = c.sign.ensures.value ∙ ap sign_of_phase mine.power ∙ fixed_sign c.args.self.now c.requires.fixed }
