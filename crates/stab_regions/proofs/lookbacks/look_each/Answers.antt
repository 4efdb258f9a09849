use Rattle.stab_regions.proofs.Names.{◌∙◌, ap, subst, List, ℕ, ◌++◌, length, ◌<◌, take, get_or, odd, ShowsLooks, look_where}
use Rattle.stab_regions.proofs.LookRowLemmas.{names-own, names-other, looks-more}
use Rattle.stab_regions.proofs.lookbacks.look_each.Goals as goal

pub loop-k-preserved : goal.loop-k-preserved
loop-k-preserved c =
    let numbers : List ℕ = c.args.lookbacks.now in
    let inside : c.loop-k.k-index < length numbers = c.loop-k-test.true in
    let k : ℕ = get_or numbers c.loop-k.k-index 0 in
    record {
      own = λ looks shows.
          looks-more c.args.parity c.look_back.new.records.items numbers c.loop-k.k-index looks inside
          (subst (λ b. ShowsLooks c.args.parity c.look_back.new.records.items (look_where b k (take c.loop-k.k-index numbers ++ looks)))
          (ap (odd c.args.parity) c.in_ok-parities.ensures.value ∙ names-own c.args.parity)
          (c.in_ok-look_back.ensures.looks c.args.parity _ (c.loop-k.invariant.own looks shows)));
      others = λ i looks ne shows.
          subst (λ b. ShowsLooks i c.look_back.new.records.items (look_where b k looks))
          (ap (odd i) c.in_ok-parities.ensures.value ∙ names-other c.args.parity i ne)
          (c.in_ok-look_back.ensures.looks i looks (c.loop-k.invariant.others i looks ne shows));
    }
