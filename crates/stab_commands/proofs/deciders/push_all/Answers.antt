use Rattle.stab_commands.proofs.Names.{◌≡◌, ◌<◌, ◌∙◌, ◌++◌, length, arith, length-set, rows_listed, listed-at, listed-set_other, ones_at}
use Rattle.stab_commands.proofs.DeciderLaws.{lists-more, ones_here}
use Rattle.stab_commands.proofs.deciders.push_all.Goals as goal

pub loop-bit-preserved : goal.loop-bit-preserved
loop-bit-preserved g c =
    let words = c.args.words.now in
    let old = c.args.lists.now.items in
    let lists = c.loop-bit.lists.items in
    let bit = c.loop-bit.bit in
    let new = c.push_parts.new.positions in
    let less : bit < length words = omega (arith, c.loop-bit-test.true) in
    let within : bit < length lists = omega (arith, less, c.loop-bit.invariant.size) in
    let before = listed-at lists bit c.index_mut.result.now within c.index_mut.ensures.value ∙ c.loop-bit.invariant.rest bit (omega arith) in
    let ones = ones_here g.W.Word.at words c.index-words-bit.result bit c.args.first c.args.end less c.index-words-bit.is in
    let here : new.items ≡ rows_listed old bit ++ ones_at g.W.Word.at words bit c.args.first c.args.end = c.in_ok-push_parts.ensures.value ∙ (λ i. before i ++ ones i) in
    record {
      size = length-set lists bit new ∙ c.loop-bit.invariant.size;
      before = lists-more g.W.Word.at words c.args.first c.args.end bit old lists new within c.loop-bit.invariant.before here;
      rest = λ i above. listed-set_other lists bit i new (λ same. omega (arith, above, same)) ∙ c.loop-bit.invariant.rest i (omega (arith, above));
    }
