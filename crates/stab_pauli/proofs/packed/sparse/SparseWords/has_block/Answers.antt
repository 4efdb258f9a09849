use Rattle.stab_pauli.proofs.Names.{◌∙◌, sym}
use Rattle.stab_pauli.proofs.Lemmas.{eight-blank}
use Rattle.stab_pauli.proofs.packed.sparse.SparseWords.has_block.Goals as goal

pub returns-then-position-ge8 : goal.returns-then-position-ge8
returns-then-position-ge8 c =
    let mine = c.args.self.now in
    let position = c.args.position.now in
    let blank = eight-blank mine.gaps.items mine.stored.items mine.following position.next position.gap c.if-position-ge8.true in
    record {
      value = ((λ h. blank.0 ∙ sym (c.is_blank.ensures.value.0 h)), (λ e. c.is_blank.ensures.value.1 (sym e ∙ blank.0)));
      following = λ h. blank.1;
    }
