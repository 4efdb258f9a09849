use Rattle.stab_pauli.proofs.Names.{length, ◌∙◌, ap}
use Rattle.stab_pauli.proofs.Lemmas.{view_of, lies_of, is_of, alike, product_of}
use Rattle.stab_pauli.proofs.pauli.Pauli.multiply.Goals as goal

pub multiply-meet-requires-clause-other_length : goal.multiply-meet-requires-clause-other_length
multiply-meet-requires-clause-other_length c = ap length c.as_slice.ensures.value ∙ (alike (view_of c.self.invariant c.self.view_is) (view_of c.other.invariant c.other.view_is) c.requires.same_length).view.row.size

pub invariant_of-self : goal.invariant_of-self
invariant_of-self c =
    let view = product_of (view_of c.self.invariant c.self.view_is) (view_of c.other.invariant c.other.view_is) c.requires.same_length c.requires.commuting c.multiply-meet.new.row c.self.inside.words.len c.product_power-self-inside.result c.multiply-meet.result
    c.as_mut_slice-words.ensures.value c.as_slice.ensures.value (record { words_are = c.multiply-meet.ensures.words; meet_is = c.multiply-meet.ensures.meet }) c.product_power-self-inside.ensures.value c.self.inside.words.ok.0 in
    lies_of view

pub returns : goal.returns
returns c =
    let view = product_of (view_of c.self.invariant c.self.view_is) (view_of c.other.invariant c.other.view_is) c.requires.same_length c.requires.commuting c.multiply-meet.new.row c.self.inside.words.len c.product_power-self-inside.result c.multiply-meet.result
    c.as_mut_slice-words.ensures.value c.as_slice.ensures.value (record { words_are = c.multiply-meet.ensures.words; meet_is = c.multiply-meet.ensures.meet }) c.product_power-self-inside.ensures.value c.self.inside.words.ok.0 in
    record { value = is_of view }
