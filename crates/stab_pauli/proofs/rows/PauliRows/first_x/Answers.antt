use Rattle.stab_pauli.proofs.Names.{arith, ◌≡◌, ◌∙◌, ◌*◌, ap, sym, subst, ℕ, chunk, list_any, IfSome_then, has_x, row_at, row_letters, HasNoXBefore, IsFirstX}
use Rattle.stab_pauli.proofs.Lemmas.{none_here, none_in_row, found_in_row, any_none, length-view, counted_seen, seen_of, qubits_seen, in_seen, row_seen}
use Rattle.stab_pauli.proofs.rows.PauliRows.first_x.Goals as goal

pub row_of-words-requires-clause-in_range : goal.row_of-words-requires-clause-in_range
row_of-words-requires-clause-in_range c = counted_seen (seen_of c.self.invariant c.self.view_is) c.args.a c.len.result c.requires.in_range (omega (arith, c.self.inside.powers.ok.0))

pub first_x-requires-clause-few : goal.first_x-requires-clause-few
first_x-requires-clause-few c = c.self.invariant.blocks.few

pub returns : goal.returns
returns c =
    let mine = seen_of c.self.invariant c.self.view_is in
    let la = in_seen mine c.args.a c.requires.in_range in
    let row = row_seen mine c.args.a la in
    let read : c.row_of-words.result.now ≡ (chunk (8 * c.self.inside.blocks * c.args.a) (8 * c.self.inside.blocks) c.self.inside.words.items) = c.row_of-words.ensures.value ∙ ap (λ w. (chunk (8 * c.self.inside.blocks * c.args.a) (8 * c.self.inside.blocks) w)) c.as_slice.ensures.value in
    let l = length-view row in
    let n = qubits_seen mine in
    let e = row.letters in
    let found = λ (k : ℕ) (f : IsFirstX (256 * c.self.inside.blocks) (row_letters c.self.inside.blocks c.row_of-words.result.now) k).
    subst (λ p. IsFirstX c.self.inside.qubits p k) e
    (found_in_row c.self.inside.qubits c.self.inside.blocks (chunk (8 * c.self.inside.blocks * c.args.a) (8 * c.self.inside.blocks) c.self.inside.words.items) k row.row (subst (λ w. IsFirstX (256 * c.self.inside.blocks) (row_letters c.self.inside.blocks w) k) read f)) in
    record {
      none = none_here c.first_x.result c.first_x.ensures.none
          (λ h. ap (list_any has_x) (sym e) ∙ none_in_row c.self.inside.qubits c.self.inside.blocks (chunk (8 * c.self.inside.blocks * c.args.a) (8 * c.self.inside.blocks) c.self.inside.words.items) row.row
          (subst (λ w. HasNoXBefore (256 * c.self.inside.blocks) (row_letters c.self.inside.blocks w)) read h));
      in_range = IfSome_then c.first_x.result c.first_x.ensures.some (λ k f. let lt = (found k f).in_range in omega arith);
      has_x = IfSome_then c.first_x.result c.first_x.ensures.some (λ k f. (found k f).has_x_here);
      first = IfSome_then c.first_x.result c.first_x.ensures.some (λ k f. any_none k (row_at c.args.self.now c.args.a).letters (found k f).first (let lt = (found k f).in_range in omega arith));
    }
