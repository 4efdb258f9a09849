use Rattle.stab_pauli.proofs.Names.{length, ◌∙◌, ap, ◌++◌, take, drop, phase_add, xor_words, string_power, row_letters, string_product}
use Rattle.stab_pauli.proofs.Lemmas.{view_of, lies_of, is_of, alike, IsView, written_resigned}
use Rattle.stab_pauli.proofs.pauli.Pauli.multiply_letters.Goals as goal
use Rattle.stab_pauli.proofs.pauli.Pauli.multiply_letters.Goals.{After-times-self-inside}

pub multiply-requires-clause-other_length : goal.multiply-requires-clause-other_length
multiply-requires-clause-other_length c = ap length c.as_slice.ensures.value ∙ (alike (view_of c.self.invariant c.self.view_is) (view_of c.other.invariant c.other.view_is) c.requires.same_length).view.row.size

-- the string after the call
view_after : (c : After-times-self-inside) → IsView c.self.inside.qubits c.self.inside.blocks
    (take c.self.inside.words.len (c.multiply.new.row ++ drop (length c.multiply.new.row) c.self.inside.words.items)) c.times-self-inside.result
    (record c.args.self.now { letters = string_product c.args.self.now.letters c.args.other.now.letters })
view_after c =
    let mine = view_of c.self.invariant c.self.view_is in
    let fit = alike mine (view_of c.other.invariant c.other.view_is) c.requires.same_length in
    let e = c.multiply.ensures.words ∙ (λ i. xor_words (c.as_mut_slice.ensures.value i) (c.as_slice.ensures.value i)) in
    written_resigned c.multiply.new.row c.self.inside.words.len c.is_negative-negative.result c.times-self-inside.result mine c.self.inside.words.ok.0 fit.view e
    c.is_negative-negative.ensures.value
    (c.times-self-inside.ensures.value ∙ (λ i. phase_add (c.of_sign.ensures.value i) ((c.power-power.ensures.value ∙ ap (λ w. string_power (row_letters c.self.inside.blocks w)) c.as_slice-2.ensures.value) i)))

pub invariant_of-self : goal.invariant_of-self
invariant_of-self c = lies_of (view_after (goal.at.invariant_of-self c).After-times-self-inside)

pub returns : goal.returns
returns c = record { value = is_of (view_after (goal.at.returns c).After-times-self-inside) }
