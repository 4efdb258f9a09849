-- Where frames end: a frame flips no sign, and has flipped no record as far back as rec[-m].
use Rattle.stab_frames.proofs.Names.{◌≤◌, sym, ◌∙◌, ap, subst, false, replicate, length-replicate, ◌⊕◌, looked_up, looked_up-near, looked_up-zeros, FramesEnd}
use Rattle.stab_frames.proofs.FlipLemmas.{looked_up-flipped}

pub by_frame-end : FramesEnd
by_frame-end n m f early a b by_frame quiet flips = record {
  group = λ p l. quiet p l ∙ sym (by_frame.group p l);
  coin = sym by_frame.coin;
  records = λ k le.
      sym (ap (λ r. looked_up r k) by_frame.records
      ∙ looked_up-flipped a.records f.flips by_frame.count k
      ∙ ap (λ b. b ⊕ looked_up a.records k)
      (ap (λ r. looked_up r k) flips
      ∙ looked_up-near early (replicate m false) k (subst (λ c. k ≤ c) (sym (length-replicate m false)) le)
      ∙ looked_up-zeros m k));
}
