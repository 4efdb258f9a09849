use Rattle.stab_commands.proofs.Names.{◌≡◌, ◌∙◌, ◌+◌, ◌++◌, ap, sym, append_assoc, append-nil, arith, word_bit, ones_of}
use Rattle.stab_commands.proofs.DeciderLaws.{ones-none, ones-part}
use Rattle.stab_commands.proofs.deciders.push_parts.Goals as goal

pub loop-pushed-init : goal.loop-pushed-init
loop-pushed-init g c =
    let before = c.args.positions.now.items in
    let none = ap (ones_of g.W.Word.at c.args.word c.args.first) {x = c.args.first + 0} {y = c.args.first} (omega arith) ∙ ones-none g.W.Word.at c.args.word c.args.first in
    record { within = omega arith; whole = λ less. omega arith; has = sym (ap (λ l. before ++ l) none ∙ append-nil before) }

pub loop-pushed-preserved : goal.loop-pushed-preserved
loop-pushed-preserved g c =
    let before = c.args.positions.now.items in
    let pushed = c.loop-pushed.pushed in
    let some = c.min-some.result in
    let first = c.args.first in
    let ones = ones_of g.W.Word.at c.args.word first (first + pushed) in
    let more = ones_of word_bit c.part.result (first + pushed) (first + pushed + some) in
    let at_once = c.loop-pushed.invariant.whole c.loop-pushed-test.true in
    record {
      within = omega (arith, c.min-some.ensures, c.loop-pushed-test.true);
      whole = λ less. omega (arith, c.min-some.ensures, c.loop-pushed-test.true, at_once, less);
      has =
          c.in_ok-push_ones.ensures.value
          ∙ ap (λ l. l ++ more) c.loop-pushed.invariant.has
          ∙ append_assoc before ones more
          ∙ ap (λ l. before ++ l) (ones-part g.W.Word.at c.args.word first c.part.result pushed some at_once (omega (arith, c.min-some.ensures)) c.part.ensures.value);
    }

pub loop-pushed-smaller : goal.loop-pushed-smaller
loop-pushed-smaller g c = omega (arith, c.min-some.ensures, c.loop-pushed-test.true)

pub returns : goal.returns
returns g c =
    let end : c.args.first + c.loop-pushed.pushed ≡ c.args.end = omega (arith, c.loop-pushed-test.false, c.loop-pushed.invariant.within, c.requires.some) in
    record { value = c.loop-pushed.invariant.has ∙ ap (λ e. c.args.positions.now.items ++ ones_of g.W.Word.at c.args.word c.args.first e) end }
