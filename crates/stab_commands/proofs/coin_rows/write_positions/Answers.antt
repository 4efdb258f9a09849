use Rattle.stab_commands.proofs.Names.{◌∙◌, ◌++◌, ◌∷◌, [], ℕ, true, false, ap, sym, append-nil, take, get_or, Vec, positions_in}
use Rattle.stab_commands.proofs.PlacedWordLaws.{positions-more}
use Rattle.stab_commands.proofs.coin_rows.write_positions.Goals as goal
use Rattle.stab_commands.proofs.coin_rows.write_positions.Goals.{then-bit+in_ok-push, else-bit}

pub loop-word-preserved : goal.loop-word-preserved
loop-word-preserved c =
    let ws = c.args.found.now in
    let index = c.loop-word.word-index in
    elim c.if-bit.branch [
      | then-bit+in_ok-push w ↦
          ap (λ (v : Vec ℕ). v.items) w.positions-is
          ∙ w.in_ok-push.ensures.items
          ∙ ap (λ l. l ++ (get_or ws index (record { position = 0; word = 0 })).position ∷ []) c.loop-word.invariant
          ∙ sym (positions-more c.args.lane ws index _ true c.loop-word-test.true (sym c.bit.ensures.value ∙ w.if-bit.true))
      | else-bit w ↦
          ap (λ (v : Vec ℕ). v.items) w.positions-is
          ∙ c.loop-word.invariant
          ∙ sym (positions-more c.args.lane ws index _ false c.loop-word-test.true (sym c.bit.ensures.value ∙ w.if-bit.false) ∙ append-nil (positions_in c.args.lane (take index ws)))
    ]
