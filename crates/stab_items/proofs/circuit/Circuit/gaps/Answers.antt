use Rattle.stab_items.proofs.Names.{◌≡◌, ◌∙◌, refl, ap, sym, subst, length, arith, slice_get, item_steps, AreGaps, shown_item, AreGapsInside}
use Rattle.stab_items.proofs.GapPartLemmas.{gaps_within, many_within, item_short, determined_so, none_so, many_at}
use Rattle.stab_items.proofs.circuit.Circuit.gaps.Goals as goal

pub gaps_inside-requires : goal.gaps_inside-requires
gaps_inside-requires c =
    let at : shown_item c.item_in_list.result ≡ slice_get c.args.self.now c.in-Some.block.now = c.item_in_list.ensures.value ∙ ap (λ l. slice_get l c.in-Some.block.now) c.items.ensures.value in
    let short = item_short c.args.self.now c.in-Some.block.now (slice_get c.args.self.now c.in-Some.block.now) refl in
    let same = ap (λ x. length (item_steps x)) at in
    record { few = omega (arith, short, same, c.requires.few) }

pub returns-in-Some-clause-some : goal.returns-in-Some-clause-some
returns-in-Some-clause-some c =
    let at : shown_item c.item_in_list.result ≡ slice_get c.args.self.now c.in-Some.block.now = c.item_in_list.ensures.value ∙ ap (λ l. slice_get l c.in-Some.block.now) c.items.ensures.value in
    let blocks = sym c.blocks-blocks.ensures.value ∙ c.in-Some.ensures.cases.0 in
    determined_so (λ gaps. AreGapsInside c.in-Some.others.now c.position-position.result (shown_item c.item_in_list.result) gaps.items) (λ gaps. AreGaps c.args.path c.args.self.now gaps.items) c.gaps_inside.result
    (λ gaps h. gaps_within c.args.path c.in-Some.block.now c.in-Some.others.now c.args.self.now gaps.items blocks
    (subst (λ p. AreGapsInside c.in-Some.others.now p (slice_get c.args.self.now c.in-Some.block.now) gaps.items) c.position-position.ensures.value
    (subst (λ x. AreGapsInside c.in-Some.others.now c.position-position.result x gaps.items) at h)))
    c.gaps_inside.ensures.some

pub returns-in-Some-clause-none : goal.returns-in-Some-clause-none
returns-in-Some-clause-none c =
    let at : shown_item c.item_in_list.result ≡ slice_get c.args.self.now c.in-Some.block.now = c.item_in_list.ensures.value ∙ ap (λ l. slice_get l c.in-Some.block.now) c.items.ensures.value in
    let blocks = sym c.blocks-blocks.ensures.value ∙ c.in-Some.ensures.cases.0 in
    none_so c.gaps_inside.result
    (λ many. many_within c.args.path c.in-Some.block.now c.in-Some.others.now c.args.self.now blocks (many_at c.in-Some.others.now at c.position-position.ensures.value many))
    c.gaps_inside.ensures.none
