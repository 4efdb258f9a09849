use Rattle.stab_commands.proofs.Names.{◌∙◌, ◌+◌, ◌*◌, ◌++◌, ◌<◌, ◌∷◌, [], ap, sym, if◌then◌else◌, length, arith, word_bit, positions_in}
use Rattle.stab_commands.proofs.PlacedWordLaws.{lane-all, lane-more}
use Rattle.stab_commands.proofs.coin_rows.find_words.Goals as goal

pub loop-position-init : goal.loop-position-init
loop-position-init g c = λ k less. ap (positions_in k) c.clear.ensures.items

pub loop-position-preserved : goal.loop-position-preserved
loop-position-preserved g c = λ k less.
    let position = c.loop-position.position in
    let within : position < length c.args.words.now = omega (arith, c.loop-position-test.true) in
    c.in_ok-push_word.ensures.value k
    ∙ ap (λ l. l ++ (if word_bit c.part.result k then position ∷ [] else [])) (c.loop-position.invariant k less)
    ∙ sym (lane-more g.W.Word.at (64 * c.args.part + k) position c.args.words.now c.index-words-position.result (word_bit c.part.result k) within c.index-words-position.is (sym (c.part.ensures.value k less)))

pub returns-clause-ones : goal.returns-clause-ones
returns-clause-ones g c = λ k less.
    c.loop-position.invariant k less ∙ lane-all g.W.Word.at (64 * c.args.part + k) c.loop-position.position c.args.words.now (omega (arith, c.loop-position-test.false))
