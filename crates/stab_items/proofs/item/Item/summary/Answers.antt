use Rattle.stab_items.proofs.Names.{◌≡◌, ◌∙◌, ap, sym, subst, listed, shown, IsStored, IsCount}
use Rattle.stab_items.proofs.SummaryLemmas.{stored_summary}
use Rattle.stab_items.proofs.GoodItemLemmas.{block_good}
use Rattle.stab_items.proofs.item.Item.summary.Goals as goal

pub returns-in-Block-clause-value : goal.returns-in-Block-clause-value
returns-in-Block-clause-value c =
    let head = c.in-Block.block.value.head in
    let stored = subst IsStored c.in-Block.is c.self.invariant in
    stored_summary c.args.self.now c.number.result head.count head.tag (listed c.in-Block.block.value.body.items) _ head.stored c.repeated.result c.repeated.ensures.value c.number.ensures.some
    (c.number.ensures.value ∙ ap (λ b. b.head.count) c.deref-in-Block-2.ensures) (ap (λ b. b.head.stored) c.deref-in-Block.ensures) stored.0 (ap shown (sym c.in-Block.is) ∙ c.self.view_is)

pub returns-in-Block-clause-good : goal.returns-in-Block-clause-good
returns-in-Block-clause-good c =
    let head = c.in-Block.block.value.head in
    let stored = subst IsStored c.in-Block.is c.self.invariant in
    let count : c.number.result ≡ head.count = c.number.ensures.value ∙ ap (λ b. b.head.count) c.deref-in-Block-2.ensures in
    block_good c.args.self.now head.count head.tag (listed c.in-Block.block.value.body.items) (ap shown (sym c.in-Block.is) ∙ c.self.view_is) (subst IsCount count (c.number.ensures.some, c.number.ensures.few)) stored.3
    stored.4
