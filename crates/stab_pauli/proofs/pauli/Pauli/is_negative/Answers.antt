use Rattle.stab_pauli.proofs.Names.{◌∙◌, ap, sign_of_phase, sign_power, row_letters}
use Rattle.stab_pauli.proofs.Lemmas.{view_of, sign_read}
use Rattle.stab_pauli.proofs.pauli.Pauli.is_negative.Goals as goal

pub returns : goal.returns
returns c = record {
  value =
      c.is_negative.ensures.value
      ∙ ap (λ w. sign_of_phase (sign_power c.self.inside.power (row_letters c.self.inside.blocks w))) c.as_slice.ensures.value
      ∙ sign_read (view_of c.self.invariant c.self.view_is);
}
