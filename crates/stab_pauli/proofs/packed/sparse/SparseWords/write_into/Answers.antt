use Rattle.stab_pauli.proofs.Names.{arith, ◌≡◌, ◌<◌, sym, subst, length, get_or}
use Rattle.stab_pauli.proofs.Lemmas.{writing-on, writing-none, writing-end}
use Rattle.stab_pauli.proofs.packed.sparse.SparseWords.write_into.Goals as goal

pub loop-k-init : goal.loop-k-init
loop-k-init c = writing-none c.args.self.now.gaps.items c.args.self.now.stored.items c.args.self.now.following c.args.words.now c.requires.size

pub loop-k-preserved : goal.loop-k-preserved
loop-k-preserved c =
    let mine = c.args.self.now in
    let ok = mine.stored.ok.0 in
    let lt : c.loop-k.k < length mine.stored.items = omega arith in
    writing-on mine.gaps.items mine.stored.items mine.following c.loop-k.k c.loop-k.at c.from-at.result c.index-in-loop-k.result.now c.args.words.now c.loop-k.words c.requires.even lt
    (subst (λ g. g ≡ get_or mine.gaps.items c.loop-k.k g) (sym c.from-at.ensures) c.index.ensures) c.index-in-loop-k.ensures c.loop-k.invariant

pub returns : goal.returns
returns c =
    let mine = c.args.self.now in
    let ok = mine.stored.ok.0 in
    record { value = writing-end mine.gaps.items mine.stored.items mine.following c.loop-k.k c.loop-k.at c.args.words.now c.loop-k.words c.requires.even (omega arith) c.requires.zeros c.requires.size c.loop-k.invariant }
