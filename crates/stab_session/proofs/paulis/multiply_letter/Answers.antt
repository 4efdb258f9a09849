use Rattle.stab_session.proofs.Names.{◌≡◌, length, set, get_or, ◌∙◌, ap, length-set, I, letter_product}
use Rattle.stab_session.proofs.PauliLetterLemmas.{qubit-fits, next-multiplied, all-multiplied}
use Rattle.stab_session.proofs.paulis.multiply_letter.Goals as goal

pub loop-qubit-preserved : goal.loop-qubit-preserved
loop-qubit-preserved c =
    let n = length c.args.string.now.letters in
    let s = c.loop-qubit.string.letters in
    let q = c.qubit-item.result in
    let there = c.number-index.ensures.value in
    let fit = qubit-fits n c.args.qubits.now c.loop-qubit.qubit-index q c.loop-qubit-test.true c.qubit-item.is c.requires.fit in
    let product = c.times-product.ensures.value ∙ ap (letter_product c.args.letter) (c.letter.ensures.value ∙ ap (λ k. get_or s k I) there) in
    let put : c.set.new.self.letters ≡ set s q (letter_product c.args.letter (get_or s q I)) = ap (λ p. p.letters) c.set.ensures.value ∙ (λ i. set s (there i) (product i)) in
    record {
      size = ap length put ∙ length-set s q (letter_product c.args.letter (get_or s q I)) ∙ c.loop-qubit.invariant.size;
      left = next-multiplied n c.args.letter c.args.qubits.now c.loop-qubit.qubit-index q s c.set.new.self.letters _ c.loop-qubit-test.true c.qubit-item.is
          c.loop-qubit.invariant.size fit put c.loop-qubit.invariant.left;
    }

pub returns-clause-letters : goal.returns-clause-letters
returns-clause-letters c =
    all-multiplied (length c.args.string.now.letters) c.args.letter c.args.qubits.now c.loop-qubit.qubit-index c.loop-qubit.string.letters _
    c.loop-qubit-test.false c.loop-qubit.invariant.size c.loop-qubit.invariant.left
