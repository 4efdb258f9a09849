-- What is found in a block, and at the place of an edit.
use Rattle.stab_items.proofs.Names.{◌≡◌, ◌≤◌, refl, ap, ◌∙◌, ℕ, suc, List, [], ◌∷◌, take, drop, arith, Option, Some, None, Result, Ok, Err, slice_get, Refusal, Kind, Edit, Insert, Replace, Delete, OneItem, operation, repeat, listed, before, done, past_named, item_there, found_inside, item_in, FindsItem, inner, taken_at, taken_in, block_refusal}
use Rattle.stab_items.proofs.ItemLemmas.{listed-append}
use Rattle.stab_items.proofs.SummaryLemmas.{past_named-join}
use Rattle.std.specs.Borrow.{Bor}
use Rattle.stab_items.proofs.EditLemmas.{entries-listed, listed-entries, got_split}

-- no block
pub nothing_inside : (find : List OneItem → Result OneItem Refusal) (g : Option OneItem) (r : Refusal) → block_refusal g ≡ Some r → found_inside find g ≡ Err r
nothing_inside find None r e = cc
nothing_inside find (Some (operation op)) r e = cc
nothing_inside find (Some (repeat n tag body)) r e = absurd (cc)

inside_is : (find : List OneItem → Result OneItem Refusal) (g : Option OneItem) (n : ℕ) (tag : List ℕ) (body : List OneItem) → g ≡ Some (repeat n tag (listed body)) → found_inside find g ≡ find body
inside_is find g n tag body e = ap (found_inside find) e ∙ ap find (entries-listed body)

-- a block
pub finds_inside : (find : List OneItem → Result OneItem Refusal) (g : Option OneItem) (n : ℕ) (tag : List ℕ) (body : List OneItem) (r : Result (Bor OneItem) Refusal)
    → g ≡ Some (repeat n tag (listed body)) → FindsItem r (find body) → FindsItem r (found_inside find g)
finds_inside find g n tag body (Ok x) e found = inside_is find g n tag body e ∙ found
finds_inside find g n tag body (Err x) e found = inside_is find g n tag body e ∙ found

-- what an edit takes out of a position is the item that is found there

there_is : (o : Option OneItem) (x : OneItem) → item_there o ≡ Ok x → o ≡ Some x
there_is None x e = absurd (cc)
there_is (Some y) x e = let same : y ≡ x = cc in ap Some same

found_block : (find : List OneItem → Result OneItem Refusal) (g : Option OneItem) (x : OneItem) → found_inside find g ≡ Ok x → find (inner g) ≡ Ok x
found_block find None x e = absurd (cc)
found_block find (Some (operation op)) x e = absurd (cc)
found_block find (Some (repeat n tag body)) x e = e

pub found_taken : (edit : Edit) (position : ℕ) → ((us : List OneItem) → taken_at edit us ≡ slice_get us position) → (bs : List ℕ) (xs : List OneItem) (x : OneItem) → item_in bs position xs ≡ Ok x
    → taken_in edit bs xs ≡ Some x
found_taken edit position takes [] xs x e = takes xs ∙ there_is (slice_get xs position) x e
found_taken edit position takes (b ∷ bs) xs x e = found_taken edit position takes bs (inner (slice_get xs b)) x (found_block (item_in bs position) (slice_get xs b) x e)

-- the numbers that an item names are among those of the list that it is taken from

item_named : (f : Kind → List ℕ) (xs : List OneItem) (b : ℕ) (x : OneItem) → slice_get xs b ≡ Some x → past_named f (before x done) ≤ past_named f (listed xs)
item_named f xs b x e =
    let front = take b xs in
    let back = drop (suc b) xs in
    let whole = ap (λ l. past_named f (listed l)) (got_split xs b x e) ∙ ap (past_named f) (listed-append front (x ∷ back)) ∙ past_named-join f (listed front) (listed (x ∷ back)) in
    let within = ap (past_named f) (listed-append (x ∷ []) back) ∙ past_named-join f (before x done) (listed back) in
    omega (arith, whole, within)

block_named : (f : Kind → List ℕ) (xs : List OneItem) (b : ℕ) (g : Option OneItem) → slice_get xs b ≡ g → past_named f (listed (inner g)) ≤ past_named f (listed xs)
block_named f xs b None e = omega arith
block_named f xs b (Some (operation op)) e = omega arith
block_named f xs b (Some (repeat n tag body)) e = omega (arith, item_named f xs b (repeat n tag body) e, ap (past_named f) (listed-entries body))

taken_at_named : (f : Kind → List ℕ) (edit : Edit) (xs : List OneItem) (x : OneItem) → taken_at edit xs ≡ Some x → past_named f (before x done) ≤ past_named f (listed xs)
taken_at_named f (Insert at y) xs x e = absurd (cc)
taken_at_named f (Replace at y) xs x e = item_named f xs at.position x e
taken_at_named f (Delete at) xs x e = item_named f xs at.position x e

pub taken_named : (f : Kind → List ℕ) (edit : Edit) (bs : List ℕ) (xs : List OneItem) (x : OneItem) → taken_in edit bs xs ≡ Some x → past_named f (before x done) ≤ past_named f (listed xs)
taken_named f edit [] xs x e = taken_at_named f edit xs x e
taken_named f edit (b ∷ bs) xs x e =
    let within = taken_named f edit bs (inner (slice_get xs b)) x e in
    let around = block_named f xs b (slice_get xs b) refl in
    omega (arith, within, around)
