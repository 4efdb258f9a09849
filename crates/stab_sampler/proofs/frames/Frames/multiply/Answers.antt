use Rattle.stab_sampler.proofs.Names.{rules, arith, refl, sym, ap, ◌<◌, ◌≤◌, ◌+◌, ◌∙◌, length, length-set, length-map, take_all, times_where, letter_in, lane_letters}
use Rattle.stab_sampler.proofs.FrameLemmas.{product-put, times-none, times-blank}
use Rattle.stab_sampler.proofs.frames.Frames.multiply.Goals as goal

pub loop-qubit-init : goal.loop-qubit-init
loop-qubit-init g c =
    let next = c.next_letter-qubit.ensures in
    record {
      size = refl;
      within = omega (arith, next.in_range, c.requires.same_length);
      letters = λ k lt.
          let lane = lane_letters g.W.Word.at k c.args.self.now.letters.items in
          let as_long = length-map c.args.self.now.letters.items (letter_in g.W.Word.at k) in
          times-none (g.W.Word.at c.args.lanes k) lane
          ∙ sym (times-blank (g.W.Word.at c.args.lanes k) lane c.args.string.now.letters 0 c.next_letter-qubit.result next.from
          (omega (arith, as_long, next.in_range, c.requires.same_length)) next.in_range next.blank);
    }

pub loop-qubit-preserved : goal.loop-qubit-preserved
loop-qubit-preserved g c =
    let next = c.next_letter-qubit-in-loop-qubit.ensures in
    let within : c.loop-qubit.qubit < length c.loop-qubit.self.letters.items = search rules in
    let before : c.loop-qubit.qubit < length c.args.self.now.letters.items = omega (arith, within, c.loop-qubit.invariant.size) in
    let inside : c.loop-qubit.qubit < length c.args.string.now.letters = omega (arith, before, c.requires.same_length) in
    let size = length-set c.loop-qubit.self.letters.items c.loop-qubit.qubit c.multiply.new.self ∙ c.loop-qubit.invariant.size in
    record {
      size = size;
      within = omega (arith, size, next.in_range, c.requires.same_length);
      letters = λ k lt.
          let lane = lane_letters g.W.Word.at k c.args.self.now.letters.items in
          let as_long = length-map c.args.self.now.letters.items (letter_in g.W.Word.at k) in
          product-put g.W.Word.at k c.loop-qubit.self.letters.items (g.W.Word.at c.args.lanes k) c.args.string.now.letters
          lane c.loop-qubit.qubit c.index_mut.result.now c.multiply.new.self c.letter.result
          within inside (omega (arith, before, as_long)) c.index_mut.ensures.value c.letter.ensures.value (c.loop-qubit.invariant.letters k lt) (c.multiply.ensures.value k lt)
          ∙ sym (times-blank (g.W.Word.at c.args.lanes k) lane c.args.string.now.letters (c.loop-qubit.qubit + 1) c.next_letter-qubit-in-loop-qubit.result next.from
          (omega (arith, as_long, next.in_range, c.requires.same_length)) next.in_range next.blank);
    }

pub returns-clause-letters : goal.returns-clause-letters
returns-clause-letters g c = λ k lt.
    let all : length c.loop-qubit.self.letters.items ≤ c.loop-qubit.qubit = search rules in
    c.loop-qubit.invariant.letters k lt
    ∙ ap (λ s. times_where (g.W.Word.at c.args.lanes k) s (lane_letters g.W.Word.at k c.args.self.now.letters.items))
    (take_all c.loop-qubit.qubit c.args.string.now.letters (omega (arith, all, c.loop-qubit.invariant.size, c.requires.same_length)))
