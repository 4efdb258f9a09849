use Rattle.stab_session.proofs.Names.{◌≡◌, ◌+◌, ◌∷◌, [], sym, ◌∙◌, ap, arith, length, drop, set, get_or, drop-set-add, take-set-le, get_or-drop, length-append, length-drop, length-set, with_states}
use Rattle.stab_session.proofs.StateLemmas.{states-last}
use Rattle.stab_session.proofs.rest.put_states.Goals as goal

pub loop-state-preserved : goal.loop-state-preserved
loop-state-preserved c =
    let from = c.args.from in
    let checkpoints = c.loop-state.checkpoints.items in
    let left = c.pop.new.self.items in
    let here = c.index_mut.result.now in
    let inv = c.loop-state.invariant in
    let count : c.len.result ≡ length left = c.len.ensures ∙ c.pop.new.self.ok.0 in
    let long : length c.loop-state.states.items ≡ length left + 1 = ap length c.in-Some.ensures.items ∙ length-append left (c.in-Some.state ∷ []) in
    let at : here ≡ get_or (drop from checkpoints) (length left) here =
    c.index_mut.ensures.value ∙ sym (get_or-drop from checkpoints c.len.result here) ∙ ap (λ k. get_or (drop from checkpoints) k here) count in
    record {
      front = take-set-le from checkpoints (from + c.len.result) (record here { tableau = c.in-Some.state }) (omega arith) ∙ inv.front;
      states =
          ap (with_states left) (drop-set-add from checkpoints c.len.result (record here { tableau = c.in-Some.state }))
          ∙ (λ i. with_states left (set (drop from checkpoints) (count i) (record (at i) { tableau = c.in-Some.state })))
          ∙ states-last left c.in-Some.state (drop from checkpoints) here (omega (arith, inv.within, long, length-drop from checkpoints))
          ∙ ap (λ ts. with_states ts (drop from checkpoints)) (sym c.in-Some.ensures.items)
          ∙ inv.states;
      within = omega (arith, inv.within, long, length-set checkpoints (from + c.len.result) (record here { tableau = c.in-Some.state }));
      capacity = inv.capacity;
    }
