use Rattle.stab_pauli.proofs.Names.{rules, IsTrue, true}
use Rattle.stab_pauli.proofs.Lemmas.{sparse-blank}
use Rattle.stab_pauli.proofs.packed.sparse.SparseWords.push_block.Goals as goal

pub returns-then-is_blank : goal.returns-then-is_blank
returns-then-is_blank c =
    let mine = c.args.self.now in
    let holds : IsTrue true = search rules in
    record { value = sparse-blank mine.gaps.items mine.stored.items mine.following 8 c.args.block.now c.requires.even (c.if-is_blank.ensures.value.0 holds) }
