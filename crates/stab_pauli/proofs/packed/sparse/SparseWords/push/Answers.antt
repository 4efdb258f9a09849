use Rattle.stab_pauli.proofs.Names.{ap, ◌∷◌, []}
use Rattle.stab_pauli.proofs.Lemmas.{sparse-stored, sparse-blank}
use Rattle.stab_pauli.proofs.packed.sparse.SparseWords.push.Goals as goal

pub returns-then-word-eq0-clause-value : goal.returns-then-word-eq0-clause-value
returns-then-word-eq0-clause-value c =
    let mine = c.args.self.now in
    sparse-blank mine.gaps.items mine.stored.items mine.following 1 (c.args.word ∷ []) c.requires.even (ap (λ w. w ∷ []) c.if-word-eq0.true)

pub returns-clause-value : goal.returns-clause-value
returns-clause-value c =
    let mine = c.args.self.now in
    let new = c.keep.new.self in
    sparse-stored mine.gaps.items mine.stored.items new.gaps.items new.stored.items mine.following c.args.word c.requires.even c.in_ok-keep.ensures.gaps c.in_ok-keep.ensures.stored
