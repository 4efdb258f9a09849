use Rattle.stab_pauli.proofs.Names.{arith, ℕ, ◌*◌, sym, ◌∙◌, ap, subst, list_any, IfSome_then, has_x, row_letters, HasNoXBefore, IsFirstX}
use Rattle.stab_pauli.proofs.Lemmas.{view_of, length-view, none_here, none_in_row, found_in_row, any_none}
use Rattle.stab_pauli.proofs.pauli.Pauli.first_x.Goals as goal

pub first_x-requires-clause-few : goal.first_x-requires-clause-few
first_x-requires-clause-few c = c.self.invariant.row.blocks.few

pub returns : goal.returns
returns c =
    let mine = view_of c.self.invariant c.self.view_is in
    let l = length-view mine in
    let e = mine.letters in
    let found = λ (k : ℕ) (f : IsFirstX (256 * c.self.inside.blocks) (row_letters c.self.inside.blocks c.as_slice.result.now) k).
    subst (λ p. IsFirstX c.self.inside.qubits p k) e
    (found_in_row c.self.inside.qubits c.self.inside.blocks c.self.inside.words.items k c.self.invariant.row (subst (λ w. IsFirstX (256 * c.self.inside.blocks) (row_letters c.self.inside.blocks w) k) c.as_slice.ensures.value f)) in
    record {
      none = none_here c.first_x.result c.first_x.ensures.none
          (λ h. ap (list_any has_x) (sym e) ∙ none_in_row c.self.inside.qubits c.self.inside.blocks c.self.inside.words.items c.self.invariant.row
          (subst (λ w. HasNoXBefore (256 * c.self.inside.blocks) (row_letters c.self.inside.blocks w)) c.as_slice.ensures.value h));
      in_range = IfSome_then c.first_x.result c.first_x.ensures.some (λ k f. rw l (found k f).in_range);
      has_x = IfSome_then c.first_x.result c.first_x.ensures.some (λ k f. (found k f).has_x_here);
      first = IfSome_then c.first_x.result c.first_x.ensures.some (λ k f. any_none k c.args.self.now.letters (found k f).first (let lt = (found k f).in_range in omega arith));
    }
