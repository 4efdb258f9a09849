use Rattle.stab_pauli.proofs.Names.{◌≡◌, ℕ, ◌+◌, ◌*◌, sym, ◌∙◌, ap, get_or, arith, I, row_letters}
use Rattle.stab_pauli.proofs.Lemmas.{fits, view_of, length-view, string-letter, letter-inside}
use Rattle.stab_pauli.proofs.pauli.Pauli.letters_mask.Goals as goal

pub letters_mask-requires-clause-in_range : goal.letters_mask-requires-clause-in_range
letters_mask-requires-clause-in_range c =
    let mine = view_of c.self.invariant c.self.view_is in
    let size = length-view mine in
    let within = fits c.self.inside.qubits c.self.inside.blocks mine.row.blocks in
    omega (arith, size, within, c.requires.some)

pub returns : goal.returns
returns c =
    let mine = view_of c.self.invariant c.self.view_is in
    let n = c.self.inside.qubits in
    let m = c.self.inside.blocks in
    let size = length-view mine in
    let letter_is : (j : ℕ) → get_or c.args.self.now.letters j I ≡ get_or (row_letters m c.as_slice.result.now) j I =
    λ j. ap (λ p. get_or p j I) (sym mine.letters) ∙ string-letter n m c.self.inside.words.items mine.row j
    ∙ ap (λ w. get_or (row_letters m w) j I) (sym c.as_slice.ensures.value) in
    record {
      in_range = λ k lk one.
          let lt = letter-inside n m c.self.inside.words.items mine.row (64 * c.args.word + k)
          (λ e. c.letters_mask.ensures.chosen k lk one (ap (λ w. get_or (row_letters m w) (64 * c.args.word + k) I) c.as_slice.ensures.value ∙ e)) in
          omega (arith, size, lt);
      chosen = λ k lk one e. c.letters_mask.ensures.chosen k lk one (sym (letter_is (64 * c.args.word + k)) ∙ e);
      unchosen = λ k lk none. letter_is (64 * c.args.word + k) ∙ c.letters_mask.ensures.unchosen k lk none;
    }
