-- One item's text without a fault stands for one item, and for no other.
use Rattle.stab_circuit.proofs.Names.{◌≡◌, ◌≤◌, ap, refl, sym, ◌∙◌, subst, ℕ, List, [], Bool, true, false, nat_lt, length, Option, None, Some, Ok, arith, if◌then◌else◌, list_all, slice_split, BadLine, Fault, whole, is_byte, Items, OneItem, operation, repeat, before, done, next, block, Joins, most_bytes, contents, meanings, fault_from, one_item, is_empty, item_fault, StandsForOne, before_reading, read_on, StandsForOneOnly, AreLinesOf}
use Rattle.stab_circuit.proofs.ReadingLemmas.{one_list, some_list, read_joined}
use Rattle.stab_circuit.proofs.OneItemLemmas.{read_blank, read_one, same_meanings, size}
use Rattle.stab_circuit.proofs.RoundLemmas.{limit_case, text_lines, parts_lack}

-- a text without a fault has a line that is not blank, and its lines have no fault
some_line : (b : Bool) (f : Option Fault) → (if b then Some (whole BadLine) else f) ≡ None → (b ≡ false) × (f ≡ None)
some_line true f e = cc
some_line false f e = (refl, e)

item_lines : (text : List ℕ) → item_fault text ≡ None → (list_all is_empty (contents text) ≡ false) × (fault_from 1 [] (one_item 0 (contents text)) ≡ None)
item_lines text e =
    some_line (list_all is_empty (contents text)) (fault_from 1 [] (one_item 0 (contents text))) (limit_case (nat_lt most_bytes (length text)) _ e)

-- one item is all that there is
one_alone : (xs : Items) → (xs ≡ done → ⊥) → size xs ≤ 1 → (item : OneItem) × (xs ≡ before item done)
one_alone done some few = absurd (some refl)
one_alone (next op done) some few = (operation op, refl)
one_alone (next op (next other rest)) some few = absurd (omega (arith, few))
one_alone (next op (block count tag body rest)) some few = absurd (omega (arith, few))
one_alone (block count tag body done) some few = (repeat count tag body, refl)
one_alone (block count tag body (next op rest)) some few = absurd (omega (arith, few))
one_alone (block count tag body (block other sign inner rest)) some few = absurd (omega (arith, few))

-- the first item, or another if there is none
abbrev first_or : OneItem → Items → OneItem
first_or other done = other
first_or other (next op rest) = operation op
first_or other (block count tag body rest) = repeat count tag body

first_before : (other item : OneItem) → first_or other (before item done) ≡ item
first_before other (operation op) = refl
first_before other (repeat count tag body) = refl

same_item : (item other : OneItem) → before other done ≡ before item done → other ≡ item
same_item item other e = sym (first_before item other) ∙ ap (first_or item) e ∙ first_before item item

-- lines that are read as one item, and as that alone
item_found : (text : List ℕ) (item : OneItem) → item_fault text ≡ None → fault_from 1 [] (meanings text) ≡ None → Joins (meanings text) (before item done) → StandsForOneOnly text item
item_found text item e none j = ((e, j), λ other s. same_item item other (one_list (meanings text) (before other done) (before item done) none s.1 j))

-- the lines mean what they mean in a circuit, and have no fault
lines_same : (text : List ℕ) → item_fault text ≡ None → one_item 0 (contents text) ≡ meanings text
lines_same text e = same_meanings (contents text) 1 [] (item_lines text e).1

lines_clean : (text : List ℕ) → item_fault text ≡ None → fault_from 1 [] (meanings text) ≡ None
lines_clean text e = ap (fault_from 1 []) (sym (lines_same text e)) ∙ (item_lines text e).1

-- the lines of one item's text
pub item_is_lines : (text : List ℕ) (item : OneItem) → StandsForOne text item → AreLinesOf (slice_split (is_byte 10) text) (before item done)
item_is_lines text item s =
    record { each = text_lines (slice_split (is_byte 10) text) (parts_lack (is_byte 10) text); faultless = lines_clean text s.0; joined = s.1 }

pub one_item_text : (text : List ℕ) → item_fault text ≡ None → (item : OneItem) × StandsForOneOnly text item
one_item_text text e =
    let cs = contents text in
    let lines = item_lines text e in
    let found = some_list (one_item 0 cs) lines.1 in
    let read : read_on 1 before_reading (one_item 0 cs) ≡ Ok found.0 = read_joined (one_item 0 cs) found.0 found.1 lines.1 in
    let some : found.0 ≡ done → ⊥ = λ d. (let blank : list_all is_empty cs ≡ true = read_blank cs (read ∙ ap Ok d) in cc) in
    let one = one_alone found.0 some (read_one cs found.0 read) in
    (one.0, item_found text one.0 e (lines_clean text e) (subst (λ ms. Joins ms (before one.0 done)) (lines_same text e) (subst (Joins (one_item 0 cs)) one.1 found.1)))
