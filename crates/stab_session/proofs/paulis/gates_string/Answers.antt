use Rattle.stab_session.proofs.Names.{◌≡◌, length, replicate, ◌∙◌, ap, length-replicate, I, string_product, letters_on}
use Rattle.stab_session.proofs.PauliLetterLemmas.{both-multiplied}
use Rattle.stab_session.proofs.paulis.gates_string.Goals as goal

pub returns-clause-letters : goal.returns-clause-letters
returns-clause-letters c =
    let blank : c.in_ok-string.string.letters ≡ replicate c.args.n I = ap (λ p. p.letters) c.in_ok-string.ensures.ok in
    let size : length c.in_ok-string.string.letters ≡ c.args.n = ap length blank ∙ length-replicate c.args.n I in
    both-multiplied c.args.n c.args.taken.letter c.args.put.letter c.args.taken.qubits.now c.args.put.qubits.now c.multiply_letter.new.string.letters
    c.multiply_letter-2.new.string.letters
    (c.multiply_letter.ensures.letters ∙ (λ i. string_product (letters_on (size i) c.args.put.letter c.args.put.qubits.now) (blank i)))
    (c.multiply_letter-2.ensures.letters
    ∙ ap (λ k. string_product (letters_on k c.args.taken.letter c.args.taken.qubits.now) c.multiply_letter.new.string.letters) (c.multiply_letter.ensures.length ∙ size))
