-- Items as the logic stores them: as trees of numbers, and no two lists of items as the same tree.
-- Source: this project's own.
use Rattle.std.proofs.Common.{◌≡◌, ℕ, ◌-◌, List, refl, sym, ap}
use Rattle.std.specs.Coded.{Coded, coded_ℕ, coded_list, coded×}
use base.Stored.{Gv, gnil, gnum, gcons, num}
use native.Mathlib.Nat.{suc-ne-zero}
use Rattle.stab_instructions.specs.contracts.operation.Operation.{the_row}
use Rattle.stab_items.specs.Items.{Items, OneItem, done, next, block, operation, repeat}

-- the first and the second branch of a tree, or an empty tree

abbrev first : Gv → Gv
first gnil = gnil
first (gnum n) = gnil
first (gcons a b) = a

abbrev second : Gv → Gv
second gnil = gnil
second (gnum n) = gnil
second (gcons a b) = b

-- a block's count and tag
abbrev head_code : Coded (ℕ × List ℕ)
head_code = coded× coded_ℕ (coded_list coded_ℕ)

-- the number 1 before an operation and what follows, 2 before a block, and none at the end
abbrev tree : Items → Gv
tree done = gnil
tree (next op rest) = gcons (gnum 1) (gcons (the_row.coded.code op) (tree rest))
tree (block count tag body rest) = gcons (gnum 2) (gcons (head_code.code (count, tag)) (gcons (tree body) (tree rest)))

-- the number that a tree begins with, or 0
abbrev label : Gv → ℕ
label g = num (first g)

-- the same tree stands for the same items
pub one_to_one : (xs ys : Items) → tree xs ≡ tree ys → xs ≡ ys
one_to_one done done p = refl
one_to_one done (next op ys) p = absurd (suc-ne-zero 0 (sym (ap label p)))
one_to_one done (block count tag body ys) p = absurd (suc-ne-zero 1 (sym (ap label p)))
one_to_one (next op xs) done p = absurd (suc-ne-zero 0 (ap label p))
one_to_one (next op xs) (next o ys) p =
    λ i. next (the_row.coded.inj op o (ap (λ g. first (second g)) p) i) (one_to_one xs ys (ap (λ g. second (second g)) p) i)
one_to_one (next op xs) (block count tag body ys) p = absurd (suc-ne-zero 0 (sym (ap (λ g. label g - 1) p)))
one_to_one (block count tag body xs) done p = absurd (suc-ne-zero 1 (ap label p))
one_to_one (block count tag body xs) (next op ys) p = absurd (suc-ne-zero 0 (ap (λ g. label g - 1) p))
one_to_one (block count tag body xs) (block c t inner ys) p =
    let heads : ◌≡◌ {A = ℕ × List ℕ} (count, tag) (c, t) = head_code.inj (count, tag) (c, t) (ap (λ g. first (second g)) p) in
    let bodies : body ≡ inner = one_to_one body inner (ap (λ g. first (second (second g))) p) in
    λ i. block (heads i).0 (heads i).1 (bodies i) (one_to_one xs ys (ap (λ g. second (second (second g))) p) i)

abbrev item_tree : OneItem → Gv
item_tree (operation op) = gcons (gnum 1) (the_row.coded.code op)
item_tree (repeat count tag body) = gcons (gnum 2) (gcons (head_code.code (count, tag)) (tree body))

-- the same tree stands for the same item
pub item_one_to_one : (x y : OneItem) → item_tree x ≡ item_tree y → x ≡ y
item_one_to_one (operation op) (operation o) p = ap operation (the_row.coded.inj op o (ap second p))
item_one_to_one (operation op) (repeat count tag body) p = absurd (suc-ne-zero 0 (sym (ap (λ g. label g - 1) p)))
item_one_to_one (repeat count tag body) (operation op) p = absurd (suc-ne-zero 0 (ap (λ g. label g - 1) p))
item_one_to_one (repeat count tag body) (repeat c t inner) p =
    let heads : ◌≡◌ {A = ℕ × List ℕ} (count, tag) (c, t) = head_code.inj (count, tag) (c, t) (ap (λ g. first (second g)) p) in
    let bodies : body ≡ inner = one_to_one body inner (ap (λ g. second (second g)) p) in
    λ i. repeat (heads i).0 (heads i).1 (bodies i)

-- by this a proof distinguishes items
abbrev pub items_code : Coded Items
items_code = record { code = tree; inj = one_to_one }

-- and one item from another
abbrev pub item_code : Coded OneItem
item_code = record { code = item_tree; inj = item_one_to_one }

-- and lists of them
abbrev pub entries_code : Coded (List OneItem)
entries_code = coded_list item_code
