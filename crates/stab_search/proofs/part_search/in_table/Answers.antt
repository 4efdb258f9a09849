use Rattle.stab_search.proofs.Names.{List, ℕ, refl, subst, map, slice_index, IsGathered}
use Rattle.stab_search.proofs.part_search.in_table.Goals as goal

pub returns-in_ok-set-in-Least : goal.returns-in_ok-set-in-Least
returns-in_ok-set-in-Least c =
    let set = c.in_ok-set-in-Least.set in
    record {
      same = rw c.in-Least.is (
        set,
        refl,
        subst (λ (xs : List ℕ). IsGathered (map (slice_index c.args.numbers.now) xs) set.items) c.as_slice.ensures.value c.in_ok-set-in-Least.ensures.gathered,
      );
    }
