-- Items that keep the rules of lines.
use Rattle.stab_items.proofs.Names.{◌≡◌, ◌<◌, ℕ, ◌+◌, List, [], ◌∷◌, ◌++◌, length, take, get_or, subst, sym, ap, ◌∙◌, take_more, Items, OneItem, repeat, done, next, block, before, listed, join, AreGood, IsCount, IsTag}
use Rattle.stab_items.proofs.ItemLemmas.{listed_pushed}

-- one list of items after another
pub good-join : (xs ys : Items) → AreGood xs → AreGood ys → AreGood (join xs ys)
good-join done ys a b = b
good-join (next op rest) ys a b = (a.0, good-join rest ys a.1 b)
good-join (block count tag body rest) ys a b = (a.0, a.1, good-join rest ys a.2 b)

pub items_good : (xs : List OneItem) (i : ℕ) (x : OneItem) → i < length xs → x ≡ get_or xs i x → AreGood (listed (take i xs)) → AreGood (before x done) → AreGood (listed (take (i + 1) xs))
items_good xs i x h e a b =
    subst (λ l. AreGood (listed l)) (sym (take_more xs i x h ∙ ap (λ y. take i xs ++ y ∷ []) (sym e)))
    (subst AreGood (sym (listed_pushed (take i xs) x)) (good-join (listed (take i xs)) (before x done) a b))

-- a block by itself
pub block_good : (x : OneItem) (count : ℕ) (tag : List ℕ) (body : Items) → repeat count tag body ≡ x → IsCount count → IsTag tag → AreGood body → AreGood (before x done)
block_good x count tag body is c t g = subst (λ y. AreGood (before y done)) is ((c, t), g, tt)
