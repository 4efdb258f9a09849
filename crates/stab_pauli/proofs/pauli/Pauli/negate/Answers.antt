use Rattle.stab_pauli.proofs.Names.{refl, true}
use Rattle.stab_pauli.proofs.Lemmas.{view_of, lies_of, is_of, signed_view}
use Rattle.stab_pauli.proofs.pauli.Pauli.negate.Goals as goal

pub invariant_of-self : goal.invariant_of-self
invariant_of-self c = lies_of (signed_view true c.self.inside.power c.times-self-inside.result (view_of c.self.invariant c.self.view_is) refl c.times-self-inside.ensures.value)

pub returns : goal.returns
returns c = record { value = is_of (signed_view true c.self.inside.power c.times-self-inside.result (view_of c.self.invariant c.self.view_is) refl c.times-self-inside.ensures.value) }
