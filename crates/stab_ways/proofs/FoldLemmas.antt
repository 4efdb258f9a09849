-- Folds: rounds of a block since a checkpoint, and as many again.
use Rattle.stab_ways.proofs.Names.{◌≡◌, ℕ, ◌+◌, ◌-◌, ◌*◌, ◌<◌, ◌≤◌, inl, inr, refl, sym, ◌∙◌, ap, subst, false, List, length, arith, Letter, Items, unroll, rounds, Part, carried_parts, part_rounds, WalkState, walked}
use Rattle.stab_items.specs.Steps.{looks_too_far}
use Rattle.stab_run.proofs.RoundLemmas.{rounds-within}
use Rattle.stab_ways.specs.declared.folds.Checkpoint.{Checkpoint}
use Rattle.stab_ways.specs.inner.Folds.{CameFrom, IsSince, IsWalkAgain, StaysOrIsStored, again}
use Rattle.stab_ways.proofs.WalkedLemmas.{steps_in}
use Rattle.stab_ways.proofs.ItemLemmas.{steps-unrolled, steps-rounds, walked-rounds, walked-steps, long-rounds}
use Rattle.stab_ways.proofs.AlikeWayLemmas.{since-again, walked-again}

-- from a checkpoint over further rounds

pub came-further : (n : ℕ) (string : List Letter) (parts : List Part) (c : Checkpoint) (done k whole : ℕ) (w v : WalkState) → done + k ≡ whole
    → CameFrom n string parts c done w → v ≡ walked n string (part_rounds k parts) w → CameFrom n string parts c whole v
came-further n string parts c done k whole w v sum came is =
    let since : (done - c.done) + k ≡ whole - c.done = omega (arith, sum, came.earlier) in
    record {
      earlier = omega (arith, sum, came.earlier);
      state = came.state;
      preserved = came.preserved;
      over = walked-rounds n (done - c.done) k (whole - c.done) string parts came.state w v since came.over is;
    }

-- and over as many again, from the same checkpoint or from the walk before them

pub came-once-more : (n : ℕ) (string : List Letter) (parts : List Part) (c d : Checkpoint) (done : ℕ) (w v : WalkState) → CameFrom n string parts c done w
    → v ≡ walked n string (part_rounds (done - c.done) parts) w → c.done < done → StaysOrIsStored c d done w
    → (d.done < done + (done - c.done)) × CameFrom n string parts d (done + (done - c.done)) v
came-once-more n string parts c d done w v came is later (inl same) =
    let whole = done + (done - c.done) in (
      omega (arith, later, ap (λ (x : Checkpoint). x.done) same),
      subst (λ x. CameFrom n string parts x whole v) (sym same) (came-further n string parts c done (done - c.done) whole w v refl came is),
    )
came-once-more n string parts c d done w v came is later (inr (here, preserved)) =
    let whole = done + (done - c.done) in
    let since : done - c.done ≡ whole - d.done = omega (arith, later, here) in (
      omega (arith, later, here),
      record {
        earlier = omega (arith, here);
        state = w;
        preserved = preserved;
        over = is ∙ ap (λ k. walked n string (part_rounds k parts) w) since;
      },
    )

-- how many steps there are

pub steps-since : (n : ℕ) (string : List Letter) (body : Items) (c : Checkpoint) (done : ℕ) (w : WalkState) → CameFrom n string (carried_parts body) c done w
    → w.steps ≡ c.steps + (done - c.done) * length (unroll body)
steps-since n string body c done w came =
    ap (λ (v : WalkState). v.steps) came.over
    ∙ walked-steps n string (part_rounds (done - c.done) (carried_parts body)) came.state
    ∙ (λ i. sym came.preserved.steps i + long-rounds (done - c.done) body i)

pub two-parts : (j k l : ℕ) → (j + k) * l ≡ j * l + k * l
two-parts j k l = omega arith

pub parts-of-rounds : (done now count l : ℕ) → done ≤ now → now ≤ count → (count - done) * l ≡ (now - done) * l + (count - now) * l
parts-of-rounds done now count l le more =
    let whole : count - done ≡ (now - done) + (count - now) = omega (arith, le, more) in
    ap (λ k. k * l) whole ∙ two-parts (now - done) (count - now) l

pub fewer-steps : (j k l : ℕ) → j ≤ k → j * l ≤ k * l
fewer-steps j k l le =
    let whole : j + (k - j) ≡ k = omega (arith, le) in
    omega (arith, two-parts j (k - j) l, ap (λ m. m * l) whole)

-- a walk that is as it was at a checkpoint

module _ (n window : ℕ) (string : List Letter) (body : Items) (c : Checkpoint) (done : ℕ) (w : WalkState) (near : looks_too_far window (unroll body) ≡ false)
    (came : CameFrom n string (carried_parts body) c done w) (is : IsWalkAgain window c w) where
  abbrev parts : List Part
  parts = part_rounds (done - c.done) (carried_parts body)

  near-rounds : looks_too_far window (steps_in parts) ≡ false
  near-rounds =
      subst (λ xs. looks_too_far window xs ≡ false) (sym (steps-rounds (done - c.done) (carried_parts body) ∙ ap (rounds (done - c.done)) (steps-unrolled body)))
      (rounds-within window (done - c.done) (unroll body) near)

  pub came-since : IsSince c w
  came-since = since-again n string parts window c came.state w near-rounds came.preserved came.over is

  pub came-again : (v : WalkState) → v ≡ again c w → v ≡ walked n string parts w
  came-again v same = same ∙ walked-again n string parts window c came.state w near-rounds came.preserved came.over is
