use Rattle.stab_regions.proofs.Names.{◌≡◌, ◌∙◌, sym, ap, subst, length, not, ◌<◌, Bool, false, List, slice_index_or, with_items}
use Rattle.stab_regions.proofs.MoveLemmas.{refilled}
use Rattle.stab_regions.proofs.RegionPointLemmas.{determines-deterministic}
use Rattle.stab_regions.proofs.walk.RegionWalk.deterministic.Goals as goal

pub returns : goal.returns
returns c =
    let r = c.args.self in
    let marks = rw (c.as_mut_slice.ensures.value, c.as_slice.ensures.value) at c.mark_all.ensures in
    let between = with_items r.random c.mark_all.new.bits in
    let once : between.items ≡ c.mark_all.new.bits = refilled r.random c.mark_all.new.bits marks.same_length in
    let inverts = rw (c.as_mut_slice-2.ensures.value ∙ once) at c.invert.ensures in
    let twice : (with_items between c.invert.new.bits).items ≡ c.invert.new.bits =
    refilled between c.invert.new.bits (inverts.same_length ∙ ap length (sym once)) in
    record {
      value =
          determines-deterministic r _ (ap length twice ∙ inverts.same_length ∙ marks.same_length)
          (λ i lt.
          ap (λ (bits : List Bool). slice_index_or bits i false) twice
          ∙ inverts.value i (subst (λ k. i < k) (sym marks.same_length) lt)
          ∙ ap not (marks.value i lt));
    }
