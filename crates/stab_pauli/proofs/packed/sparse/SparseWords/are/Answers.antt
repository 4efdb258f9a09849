use Rattle.stab_pauli.proofs.Names.{arith, rules, ◌∙◌, ◌+◌, ◌++◌, ◌*◌, refl, sym, IsTrue, true, List, ℕ, take-append-drop, take_all, spread, words_from}
use Rattle.stab_pauli.proofs.Lemmas.{no_false, passed-more, passed-determined, passed-all}
use Rattle.stab_pauli.proofs.packed.sparse.SparseWords.are.Goals as goal

pub returns-then-not-has_block : goal.returns-then-not-has_block
returns-then-not-has_block c =
    let mine = c.args.self.now in
    let position = c.loop-block.position in
    let whole : List ℕ = spread mine.gaps.items mine.stored.items mine.following in
    let rest : List ℕ = words_from mine.gaps.items mine.stored.items mine.following position.next position.gap in
    record {
      value = (
        (λ h. absurd (no_false h)),
        (λ all. c.if-not-has_block.ensures.value.1 (passed-determined whole c.args.words.now rest (8 * c.loop-block.block) 8 _ (omega arith) (omega (arith, c.requires.all, c.loop-block-test.true)) c.loop-block.invariant all)),
      );
    }

pub loop-block-preserved : goal.loop-block-preserved
loop-block-preserved c =
    let mine = c.args.self.now in
    let position = c.loop-block.position in
    let new = c.has_block.new.position in
    let whole : List ℕ = spread mine.gaps.items mine.stored.items mine.following in
    let rest : List ℕ = words_from mine.gaps.items mine.stored.items mine.following position.next position.gap in
    let following : List ℕ = words_from mine.gaps.items mine.stored.items mine.following new.next new.gap in
    let at : ℕ = 8 * c.loop-block.block in
    let holds : IsTrue true = search rules in
    let here = sym (take-append-drop 8 rest) ∙ (λ i. c.if-not-has_block.ensures.value.0 holds i ++ sym (c.if-not-has_block.ensures.following holds) i) in
    passed-more whole c.args.words.now rest _ following at _ (8 * (c.loop-block.block + 1)) (omega arith) c.loop-block.invariant here refl

pub returns : goal.returns
returns c =
    let mine = c.args.self.now in
    let position = c.loop-block.position in
    let whole : List ℕ = spread mine.gaps.items mine.stored.items mine.following in
    let rest : List ℕ = words_from mine.gaps.items mine.stored.items mine.following position.next position.gap in
    let all = take_all (8 * c.loop-block.block) c.args.words.now (omega (arith, c.requires.all, c.loop-block-test.false)) in
    let holds : IsTrue true = search rules in
    record { value = ((λ _. passed-all whole c.args.words.now rest (8 * c.loop-block.block) c.loop-block.invariant all c.requires.size), (λ _. holds)) }
