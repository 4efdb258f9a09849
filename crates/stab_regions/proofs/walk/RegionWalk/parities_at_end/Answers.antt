use Rattle.stab_regions.proofs.Names.{ℕ, ◌+◌, ◌<◌, ◌≤◌, ◌^◌, refl, arith}
use Rattle.stab_regions.proofs.RegionPointLemmas.{is-at-end}
use Rattle.stab_regions.specs.inner.EffectsAt.{numbers_in}
use Rattle.stab_regions.proofs.walk.RegionWalk.parities_at_end.Goals as goal

small : (a b top : ℕ) → a ≤ b → b < top → a < top
small a b top le lt = omega (arith, le, lt)

pub returns : goal.returns
returns c =
    let counts = c.args.counts in
    let few : counts.detectors + counts.observables < 2 ^ 32 = small (counts.detectors + counts.observables) (numbers_in counts) (2 ^ 32) (omega arith) c.requires.few in
    record {
      numbered = refl;
      state =
          is-at-end c.args.counts.qubits c.args.counts.detectors c.args.counts.observables _ few
          c.in_ok-empty_rows.ensures.value c.in_ok-empty_rows-2.ensures.value c.new.ensures.items refl refl refl
          (c.in_ok-vec.ensures.items_if_clones_equal (λ y e. e));
    }
