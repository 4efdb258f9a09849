-- Printed texts, part by part.
use Rattle.stab_items.proofs.Names.{◌≡◌, ◌<◌, ℕ, ◌+◌, suc, List, [], ◌∷◌, ◌++◌, length, take, drop, get_or, refl, ap, sym, ◌∙◌, append_assoc, append-nil, arith, codes, drop-cons, replicate, ◌*◌, take-append-drop, take_more, replicate-append-replicate, Items, OneItem, repeat, done, next, block, join, before, listed, operation_text, open_text, PrintedLine, printed_lines, line_text, text_of, printed_in}
use Rattle.stab_items.proofs.ItemLemmas.{before-join, listed-append, listed_pushed}

pub margin_inside : (n : ℕ) → replicate (4 * n) 32 ++ codes "    " ≡ replicate (4 * suc n) 32
margin_inside n =
    let four : 4 * n + 4 ≡ 4 * suc n = omega arith in
    replicate-append-replicate (4 * n) 4 32 ∙ ap (λ k. replicate {A = ℕ} k 32) four

text_of-append : (vs ws : List PrintedLine) → text_of (vs ++ ws) ≡ text_of vs ++ text_of ws
text_of-append [] ws = refl
text_of-append (v ∷ vs) ws = ap (λ l. line_text v ++ l) (text_of-append vs ws) ∙ sym (append_assoc (line_text v) (text_of vs) (text_of ws))

written-join : (d : ℕ) (xs ys : Items) → printed_lines d (join xs ys) ≡ printed_lines d xs ++ printed_lines d ys
written-join d done ys = refl
written-join d (next op rest) ys = ap (λ l. record { depth = d; content = operation_text op } ∷ l) (written-join d rest ys)
written-join d (block c t body rest) ys =
    let close : PrintedLine = record { depth = d; content = codes "}" } in
    ap (λ l. record { depth = d; content = open_text c t } ∷ (printed_lines (suc d) body ++ close ∷ l)) (written-join d rest ys)
    ∙ ap (λ l. record { depth = d; content = open_text c t } ∷ l) (sym (append_assoc (printed_lines (suc d) body) (close ∷ printed_lines d rest) (printed_lines d ys)))

pub printed_in-join : (d : ℕ) (xs ys : Items) → printed_in d (join xs ys) ≡ printed_in d xs ++ printed_in d ys
printed_in-join d xs ys = ap text_of (written-join d xs ys) ∙ text_of-append (printed_lines d xs) (printed_lines d ys)

-- one block, on its lines
pub printed_block : (d count : ℕ) (tag : List ℕ) (body : Items)
    → printed_in d (block count tag body done) ≡ line_text (record { depth = d; content = open_text count tag }) ++ (printed_in (suc d) body ++ line_text (record { depth = d; content = codes "}" }))
printed_block d count tag body =
    let close : PrintedLine = record { depth = d; content = codes "}" } in
    ap (λ l. line_text (record { depth = d; content = open_text count tag }) ++ l)
    (text_of-append (printed_lines (suc d) body) (close ∷ []) ∙ ap (λ l. printed_in (suc d) body ++ l) (append-nil (line_text close)))

-- what is before a position, the item there, and what follows
items_at : (xs : List OneItem) (i : ℕ) (x : OneItem) → i < length xs → x ≡ get_or xs i x
    → join (listed (take i xs)) (join (before x done) (listed (drop (i + 1) xs))) ≡ listed xs
items_at xs i x h e =
    let next' : i + 1 ≡ suc i = omega arith in
    ap (λ n. join (listed (take i xs)) (join (before x done) (listed (drop n xs)))) next'
    ∙ ap (λ y. join (listed (take i xs)) (join (before y done) (listed (drop (suc i) xs)))) e
    ∙ ap (join (listed (take i xs))) (sym (before-join (get_or xs i x) done (listed (drop (suc i) xs))))
    ∙ ap (λ l. join (listed (take i xs)) (listed l)) (sym (drop-cons xs i x h))
    ∙ sym (listed-append (take i xs) (drop i xs))
    ∙ ap listed (take-append-drop i xs)

pub printed_position : (d : ℕ) (xs : List OneItem) (i : ℕ) (x : OneItem) → i < length xs → x ≡ get_or xs i x
    → printed_in d (listed (take i xs)) ++ (printed_in d (before x done) ++ printed_in d (listed (drop (i + 1) xs))) ≡ printed_in d (listed xs)
printed_position d xs i x h e =
    ap (λ l. printed_in d (listed (take i xs)) ++ l) (sym (printed_in-join d (before x done) (listed (drop (i + 1) xs))))
    ∙ sym (printed_in-join d (listed (take i xs)) (join (before x done) (listed (drop (i + 1) xs))))
    ∙ ap (printed_in d) (items_at xs i x h e)

pub printed_more : (d : ℕ) (xs : List OneItem) (i : ℕ) (x : OneItem) → i < length xs → x ≡ get_or xs i x
    → printed_in d (listed (take i xs)) ++ printed_in d (before x done) ≡ printed_in d (listed (take (i + 1) xs))
printed_more d xs i x h e =
    sym (printed_in-join d (listed (take i xs)) (before x done))
    ∙ ap (λ y. printed_in d (join (listed (take i xs)) (before y done))) e
    ∙ ap (printed_in d) (sym (listed_pushed (take i xs) (get_or xs i x)))
    ∙ ap (λ l. printed_in d (listed l)) (sym (take_more xs i x h))

pub block_lines : (d : ℕ) (x : OneItem) (count : ℕ) (tag : List ℕ) (body : Items) → x ≡ repeat count tag body
    → line_text (record { depth = d; content = open_text count tag }) ++ (printed_in (suc d) body ++ line_text (record { depth = d; content = codes "}" })) ≡ printed_in d (before x done)
block_lines d x count tag body e = sym (ap (λ y. printed_in d (before y done)) e ∙ printed_block d count tag body)
