use Rattle.stab_items.proofs.Names.{rules, ◌≡◌, ◌≤◌, ◌<◌, ◌∙◌, refl, ap, sym, subst, ◌+◌, length, All, arith, ◌*◌, slice_get, item_steps, shown_item, round_gaps, AreGapsInside}
use Rattle.stab_items.proofs.PieceLemmas.{lead_short, gaps_short}
use Rattle.stab_items.proofs.GapPartLemmas.{gaps_at, gaps_around, many_around, item_short, after_few, body_short, inside_short, gaps_of_block, many_inside, many_rounds, determined_is, none_is, determined_so, none_so, many_at}
use Rattle.stab_items.proofs.circuit.gaps.+gaps.Goals as goal

pub gaps_in-gaps_inside-requires : goal.gaps_in-gaps_inside-requires
gaps_in-gaps_inside-requires t c =
    let at : shown_item c.item_in_list.result ≡ slice_get c.args.items.now c.in-Some.block.now = c.item_in_list.ensures.value in
    let short = item_short c.args.items.now c.in-Some.block.now (slice_get c.args.items.now c.in-Some.block.now) refl in
    let same = ap (λ x. length (item_steps x)) at in
    (search rules, omega (arith, short, same, c.requires.few))

pub gaps_in-with_more-requires-clause-small : goal.gaps_in-with_more-requires-clause-small
gaps_in-with_more-requires-clause-small t c =
    let at : shown_item c.item_in_list.result ≡ slice_get c.args.items.now c.in-Some.block.now = c.item_in_list.ensures.value in
    let short = item_short c.args.items.now c.in-Some.block.now (slice_get c.args.items.now c.in-Some.block.now) refl in
    let same = ap (λ x. length (item_steps x)) at in
    inside_short c.in-Some.others.now c.args.position 1048576 (shown_item c.item_in_list.result) c.in-Some-2.gaps.items
    (determined_is _ c.in_ok-gaps_inside-in-Some.field-0 c.in-Some-2.gaps c.in-Some-2.is c.in_ok-gaps_inside-in-Some.ensures.some) (omega (arith, short, same, c.requires.few))

pub gaps_in-with_more-requires-clause-few : goal.gaps_in-with_more-requires-clause-few
gaps_in-with_more-requires-clause-few t c = after_few (c.in-Some.block.now + 1) c.steps_after-in-Some-2.result c.args.items.now c.steps_after-in-Some-2.ensures.value c.requires.few

pub gaps_in-returns-in_ok-vec-in-None-clause-some : goal.gaps_in-returns-in_ok-vec-in-None-clause-some
gaps_in-returns-in_ok-vec-in-None-clause-some t c =
    gaps_at c.args.blocks.now c.args.position c.steps_after.result c.args.items.now c.in_ok-vec-in-None.field-0.items c.in-None.ensures.cases c.in_ok-vec-in-None.ensures.items c.steps_after.ensures.value c.requires.few

pub gaps_in-returns-in-None-2-clause-none : goal.gaps_in-returns-in-None-2-clause-none
gaps_in-returns-in-None-2-clause-none t c =
    let at : shown_item c.item_in_list.result ≡ slice_get c.args.items.now c.in-Some.block.now = c.item_in_list.ensures.value in
    many_around c.args.blocks.now c.in-Some.block.now c.in-Some.others.now c.args.position c.args.items.now c.in-Some.ensures.cases.0
    (many_at c.in-Some.others.now at refl (none_is c.in_ok-gaps_inside-in-Some.field-0 c.in-None-2.is c.in_ok-gaps_inside-in-Some.ensures.none))

pub gaps_in-returns-in_ok-with_more-in-Some-2-clause-some : goal.gaps_in-returns-in_ok-with_more-in-Some-2-clause-some
gaps_in-returns-in_ok-with_more-in-Some-2-clause-some t c =
    let at : shown_item c.item_in_list.result ≡ slice_get c.args.items.now c.in-Some.block.now = c.item_in_list.ensures.value in
    gaps_around c.args.blocks.now c.in-Some.block.now c.in-Some.others.now c.args.position c.steps_after-in-Some-2.result c.args.items.now c.in-Some-2.gaps.items c.in_ok-with_more-in-Some-2.field-0.items
    c.in-Some.ensures.cases.0
    (subst (λ x. AreGapsInside c.in-Some.others.now c.args.position x c.in-Some-2.gaps.items) at
    (determined_is _ c.in_ok-gaps_inside-in-Some.field-0 c.in-Some-2.gaps c.in-Some-2.is c.in_ok-gaps_inside-in-Some.ensures.some))
    c.steps_after-in-Some-2.ensures.value c.requires.few c.in_ok-with_more-in-Some-2.ensures.ok

pub gaps_inside-gaps_of_rounds-requires-clause-small : goal.gaps_inside-gaps_of_rounds-requires-clause-small
gaps_inside-gaps_of_rounds-requires-clause-small t c =
    let found = c.in-Ok.ensures.value in
    let n = c.in-Ok.block.count in
    let body = c.in-Ok.block.body.now in
    let determined = determined_is _ c.in_ok-gaps_in.field-0 c.in-Some.round c.in-Some.is c.in_ok-gaps_in.ensures.some in
    let some : 0 < n = subst (λ m. 0 < m) c.number-count.ensures.value c.number-count.ensures.some in
    subst (All (λ g. g ≤ 1048576)) (sym determined.lengths)
    (gaps_short c.args.others.now c.args.position 1048576 body determined.rounds (body_short (shown_item c.args.found) n 1048576 found.0 body found.1 some c.requires.few))

pub gaps_inside-gaps_of_rounds-requires-clause-few : goal.gaps_inside-gaps_of_rounds-requires-clause-few
gaps_inside-gaps_of_rounds-requires-clause-few t c =
    let found = c.in-Ok.ensures.value in
    let n = c.in-Ok.block.count in
    let body = c.in-Ok.block.body.now in
    let determined = determined_is _ c.in_ok-gaps_in.field-0 c.in-Some.round c.in-Some.is c.in_ok-gaps_in.ensures.some in
    let some : 0 < n = subst (λ m. 0 < m) c.number-count.ensures.value c.number-count.ensures.some in
    let short = lead_short c.args.others.now c.args.position 1048576 body determined.rounds (body_short (shown_item c.args.found) n 1048576 found.0 body found.1 some c.requires.few) in
    grind (arith, short, c.steps_in-lead.ensures.value)

pub gaps_inside-returns-in-None-clause-none : goal.gaps_inside-returns-in-None-clause-none
gaps_inside-returns-in-None-clause-none t c =
    let found = c.in-Ok.ensures.value in
    let some : 0 < c.in-Ok.block.count = subst (λ m. 0 < m) c.number-count.ensures.value c.number-count.ensures.some in
    many_inside (shown_item c.args.found) c.in-Ok.block.count found.0 c.in-Ok.block.body.now c.args.others.now c.args.position found.1 some
    (none_is c.in_ok-gaps_in.field-0 c.in-None.is c.in_ok-gaps_in.ensures.none)

pub gaps_inside-returns-in-Some-clause-some : goal.gaps_inside-returns-in-Some-clause-some
gaps_inside-returns-in-Some-clause-some t c =
    let found = c.in-Ok.ensures.value in
    let n = c.in-Ok.block.count in
    let body = c.in-Ok.block.body.now in
    let lead = c.steps_in-lead.result in
    let round = c.in-Some.round.items in
    let determined = determined_is _ c.in_ok-gaps_in.field-0 c.in-Some.round c.in-Some.is c.in_ok-gaps_in.ensures.some in
    let some : 0 < n = subst (λ m. 0 < m) c.number-count.ensures.value c.number-count.ensures.some in
    determined_so (λ gaps. gaps.items ≡ round_gaps c.number-count.result lead round) (λ gaps. AreGapsInside c.args.others.now c.args.position (shown_item c.args.found) gaps.items) c.gaps_of_rounds.result
    (λ gaps is. gaps_of_block (shown_item c.args.found) n lead found.0 body c.args.others.now c.args.position round gaps.items found.1 some determined c.requires.few c.steps_in-lead.ensures.value
    (is ∙ ap (λ m. round_gaps m lead round) c.number-count.ensures.value))
    c.gaps_of_rounds.ensures.some

pub gaps_inside-returns-in-Some-clause-none : goal.gaps_inside-returns-in-Some-clause-none
gaps_inside-returns-in-Some-clause-none t c =
    let found = c.in-Ok.ensures.value in
    let n = c.in-Ok.block.count in
    let determined = determined_is _ c.in_ok-gaps_in.field-0 c.in-Some.round c.in-Some.is c.in_ok-gaps_in.ensures.some in
    none_so c.gaps_of_rounds.result
    (λ many x there. many_rounds (shown_item c.args.found) n found.0 c.in-Ok.block.body.now c.args.others.now c.args.position c.in-Some.round.items found.1 determined
    (subst (λ m. 1048576 < m * length c.in-Some.round.items) c.number-count.ensures.value many))
    c.gaps_of_rounds.ensures.none
