use Rattle.stab_commands.proofs.Names.{◌∙◌, ◌++◌, ◌∷◌, [], ℕ, true, false, sym, ap, append_assoc, append-nil, arith, Vec, ones_of, word_bit}
use Rattle.stab_commands.proofs.DeciderLaws.{ones-blank, ones-next}
use Rattle.stab_commands.proofs.deciders.push_ones.Goals as goal
use Rattle.stab_commands.proofs.deciders.push_ones.Goals.{then-bit+in_ok-push, else-bit}

pub loop-position-preserved : goal.loop-position-preserved
loop-position-preserved c =
    let position = c.loop-position.position in
    let before = c.args.positions.now.items in
    let ones = ones_of word_bit c.args.word c.args.first position in
    let more = ones-next word_bit c.args.word c.args.first position in
    record {
      above = omega (arith, c.loop-position.invariant.above);
      pushed = elim c.if-bit.branch [
        | then-bit+in_ok-push w ↦
            ap (λ (v : Vec ℕ). v.items) w.positions-is
            ∙ w.in_ok-push.ensures.items
            ∙ ap (λ l. l ++ position ∷ []) c.loop-position.invariant.pushed
            ∙ append_assoc before ones (position ∷ [])
            ∙ ap (λ l. before ++ l) (sym (more true c.loop-position.invariant.above (sym c.bit.ensures.value ∙ w.if-bit.true)))
        | else-bit w ↦
            ap (λ (v : Vec ℕ). v.items) w.positions-is
            ∙ c.loop-position.invariant.pushed
            ∙ ap (λ l. before ++ l) (sym (more false c.loop-position.invariant.above (sym c.bit.ensures.value ∙ w.if-bit.false) ∙ append-nil ones))
      ];
    }

pub returns-then-word-eq0 : goal.returns-then-word-eq0
returns-then-word-eq0 c =
    let before = c.args.positions.now.items in
    record { value = sym (ap (λ w. before ++ ones_of word_bit w c.args.first c.args.end) c.if-word-eq0.true ∙ ap (λ l. before ++ l) (ones-blank c.args.first c.args.end) ∙ append-nil before) }
