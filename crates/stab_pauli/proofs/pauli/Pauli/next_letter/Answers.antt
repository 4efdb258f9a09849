use Rattle.stab_pauli.proofs.Names.{◌≡◌, ◌*◌, ◌≤◌, subst, length, arith, row_letters, IsBlankFrom, IsNextLetter}
use Rattle.stab_pauli.proofs.Lemmas.{view_of, length-view, next_inside, blank_inside}
use Rattle.stab_pauli.proofs.pauli.Pauli.next_letter.Goals as goal

pub next_letter-requires-clause-few : goal.next_letter-requires-clause-few
next_letter-requires-clause-few c = c.self.invariant.row.blocks.few

pub returns-in-Some : goal.returns-in-Some
returns-in-Some c =
    let mine = view_of c.self.invariant c.self.view_is in
    let n = c.self.inside.qubits in
    let m = c.self.inside.blocks in
    let size : length c.args.self.now.letters ≡ n = length-view mine in
    let found : IsNextLetter c.args.from n c.args.self.now.letters c.in-Some.qubit =
    subst (λ p. IsNextLetter c.args.from n p c.in-Some.qubit) mine.letters
    (next_inside n m c.args.from c.self.inside.words.items c.self.invariant.row c.in-Some.qubit
    (subst (λ w. IsNextLetter c.args.from (256 * m) (row_letters m w) c.in-Some.qubit) c.as_slice.ensures.value c.in-Some.ensures.some)) in
    let within : c.in-Some.qubit ≤ length c.args.self.now.letters = (let lt = found.in_range in omega arith) in
    record { from = found.from_there; in_range = within; blank = found.blank; here = λ _. found.here }

pub returns-in-None : goal.returns-in-None
returns-in-None c =
    let mine = view_of c.self.invariant c.self.view_is in
    let n = c.self.inside.qubits in
    let m = c.self.inside.blocks in
    let size : length c.args.self.now.letters ≡ n = length-view mine in
    let blank : IsBlankFrom c.args.from n c.args.self.now.letters =
    subst (λ p. IsBlankFrom c.args.from n p) mine.letters
    (blank_inside n m c.args.from c.self.inside.words.items c.self.invariant.row
    (subst (λ w. IsBlankFrom c.args.from (256 * m) (row_letters m w)) c.as_slice.ensures.value c.in-None.ensures.none)) in
    record {
      from = (let le = c.requires.in_range in omega arith);
      in_range = omega arith;
      blank = blank;
      here = λ lt. absurd (omega arith);
    }
