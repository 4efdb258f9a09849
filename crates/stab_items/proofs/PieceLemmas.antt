-- Pieces: the steps of a list, as those before an item in blocks, and then the item's before each piece.
use Rattle.stab_items.proofs.Names.{◌≡◌, ◌≤◌, ◌<◌, refl, ap, sym, ◌∙◌, ℕ, ◌+◌, ◌*◌, suc, zero, List, [], ◌∷◌, ◌++◌, length, take, drop, map, All, arith, append_assoc, append-nil, Option, Some, None, length-append, take-take, length-map, All-nil, All-cons, slice_get, OneItem, operation, repeat, listed, Step, unroll, rounds, inner, steps_in, interleaved, rounds_in, round_pieces, pieces_in, HaveRounds, with_more, round_gaps, block_pieces}
use Rattle.stab_items.proofs.EditLemmas.{steps-append, steps_split, got_split, listed-entries, next_position}
use Rattle.stab_items.proofs.GapLemmas.{more-twice, more-none, length-more, length-rounds, lengths-rounds}

-- the steps of a list
abbrev steps : List OneItem → List Step
steps xs = unroll (listed xs)

-- the same steps before pieces, and before others
pub interleaved-append : (gates : List Step) (ps qs : List (List Step)) → interleaved gates (ps ++ qs) ≡ interleaved gates ps ++ interleaved gates qs
interleaved-append gates [] qs = refl
interleaved-append gates (p ∷ ps) qs =
    ap (λ l. gates ++ (p ++ l)) (interleaved-append gates ps qs)
    ∙ ap (λ l. gates ++ l) (sym (append_assoc p (interleaved gates ps) (interleaved gates qs)))
    ∙ sym (append_assoc gates (p ++ interleaved gates ps) (interleaved gates qs))

-- rounds of steps, of which each is some steps, and then an item's before each piece
rounds-pieces : (n : ℕ) (gates body lead : List Step) (round : List Step → List (List Step)) → ((b : List Step) → body ++ b ≡ lead ++ interleaved gates (round b)) → 0 < n
    → (following : List Step) → rounds n body ++ following ≡ lead ++ interleaved gates (round_pieces n round lead following)
rounds-pieces zero gates body lead round h some following = absurd (omega (arith, some))
rounds-pieces (suc zero) gates body lead round h some following = ap (λ l. l ++ following) (append-nil body) ∙ h following
rounds-pieces (suc (suc n)) gates body lead round h some following =
    let rest = round_pieces (suc n) round lead following in
    append_assoc body (rounds (suc n) body) following
    ∙ ap (λ l. body ++ l) (rounds-pieces (suc n) gates body lead round h (omega arith) following)
    ∙ sym (append_assoc body lead (interleaved gates rest))
    ∙ ap (λ l. l ++ interleaved gates rest) (h lead)
    ∙ append_assoc lead (interleaved gates (round lead)) (interleaved gates rest)
    ∙ ap (λ l. lead ++ l) (sym (interleaved-append gates (round lead) rest))

-- in the last of these blocks, which all have rounds, these steps are between a position and an end
abbrev pub Stands : List Step → (end : ℕ) → List ℕ → (position : ℕ) → List OneItem → Type 0
Stands gates end [] position xs = steps (take end xs) ≡ steps (take position xs) ++ gates
Stands gates end (b ∷ bs) position xs = (0 < rounds_in (slice_get xs b)) × Stands gates end bs position (inner (slice_get xs b))

-- a list around one of its blocks
around_block : (xs : List OneItem) (b : ℕ) (x : Option OneItem) → slice_get xs b ≡ x → 0 < rounds_in x
    → steps xs ≡ steps (take b xs) ++ (rounds (rounds_in x) (steps (inner x)) ++ steps (drop (b + 1) xs))
around_block xs b None e some = absurd (omega (arith, some))
around_block xs b (Some (operation op)) e some = absurd (omega (arith, some))
around_block xs b (Some (repeat count tag body)) e some =
    ap steps (got_split xs b (repeat count tag body) e)
    ∙ steps-append (take b xs) (repeat count tag body ∷ drop (suc b) xs)
    ∙ ap (λ n. steps (take b xs) ++ (rounds count (unroll body) ++ steps (drop n xs))) (next_position b)
    ∙ ap (λ l. steps (take b xs) ++ (rounds count (unroll l) ++ steps (drop (b + 1) xs))) (sym (listed-entries body))

-- the steps of a list, and some after them, by the pieces
pub steps-pieces : (gates : List Step) (end : ℕ) (bs : List ℕ) (position : ℕ) (xs : List OneItem) → Stands gates end bs position xs
    → (following : List Step) → steps xs ++ following ≡ steps_in bs position xs ++ interleaved gates (pieces_in end bs position xs following)
steps-pieces gates end [] position xs stands following =
    let front = steps (take position xs) in
    let back = steps (drop end xs) in
    ap (λ l. l ++ following) (steps_split end xs ∙ ap (λ l. l ++ back) stands)
    ∙ append_assoc (front ++ gates) back following
    ∙ append_assoc front gates (back ++ following)
    ∙ ap (λ l. front ++ (gates ++ l)) (sym (append-nil (back ++ following)))
steps-pieces gates end (b ∷ bs) position xs stands following =
    let x = slice_get xs b in
    let front = steps (take b xs) in
    let all = rounds (rounds_in x) (steps (inner x)) in
    let back = steps (drop (b + 1) xs) in
    let lead = steps_in bs position (inner x) in
    let round = pieces_in end bs position (inner x) in
    ap (λ l. l ++ following) (around_block xs b x refl stands.0)
    ∙ append_assoc front (all ++ back) following
    ∙ ap (λ l. front ++ l) (append_assoc all back following)
    ∙ ap (λ l. front ++ l) (rounds-pieces (rounds_in x) gates (steps (inner x)) lead round (steps-pieces gates end bs position (inner x) stands.1) stands.0 (back ++ following))
    ∙ sym (append_assoc front lead (interleaved gates (round_pieces (rounds_in x) round lead (back ++ following))))

-- the lengths of pieces, if more steps are after the last
pub lengths-pieces : (end : ℕ) (bs : List ℕ) (position : ℕ) (xs : List OneItem) (following : List Step)
    → map length (pieces_in end bs position xs following) ≡ with_more (length following) (map length (pieces_in end bs position xs []))
lengths-pieces end [] position xs following =
    let back = steps (drop end xs) in
    ap (λ n. n ∷ []) (length-append back following ∙ ap (λ n. n + length following) (sym (ap length (append-nil back))))
lengths-pieces end (b ∷ bs) position xs following =
    let x = slice_get xs b in
    let back = steps (drop (b + 1) xs) in
    let lead = steps_in bs position (inner x) in
    let round = pieces_in end bs position (inner x) in
    let gaps = round_gaps (rounds_in x) (length lead) (map length (round [])) in
    let each = lengths-pieces end bs position (inner x) in
    lengths-rounds (rounds_in x) round lead (back ++ following) each
    ∙ ap (λ n. with_more n gaps) (length-append back following ∙ ap (λ n. n + length following) (sym (ap length (append-nil back))))
    ∙ sym (more-twice (length following) (length (back ++ [])) gaps)
    ∙ ap (with_more (length following)) (sym (lengths-rounds (rounds_in x) round lead (back ++ []) each))

-- the lengths of the pieces in a block
pub lengths-block : (end : ℕ) (bs : List ℕ) (position : ℕ) (x : Option OneItem) (following : List Step)
    → map length (block_pieces end bs position x following) ≡ with_more (length following) (round_gaps (rounds_in x) (length (steps_in bs position (inner x))) (map length (pieces_in end bs position (inner x) [])))
lengths-block end bs position x following = lengths-rounds (rounds_in x) (pieces_in end bs position (inner x)) (steps_in bs position (inner x)) following (lengths-pieces end bs position (inner x))

pub lengths-block_end : (end : ℕ) (bs : List ℕ) (position : ℕ) (x : Option OneItem)
    → map length (block_pieces end bs position x []) ≡ round_gaps (rounds_in x) (length (steps_in bs position (inner x))) (map length (pieces_in end bs position (inner x) []))
lengths-block_end end bs position x =
    lengths-block end bs position x [] ∙ more-none (round_gaps (rounds_in x) (length (steps_in bs position (inner x))) (map length (pieces_in end bs position (inner x) [])))

pub lengths-block_after : (end : ℕ) (bs : List ℕ) (position : ℕ) (x : Option OneItem) (following : List Step)
    → map length (block_pieces end bs position x following) ≡ with_more (length following) (map length (block_pieces end bs position x []))
lengths-block_after end bs position x following = lengths-block end bs position x following ∙ ap (with_more (length following)) (sym (lengths-block_end end bs position x))

-- how many pieces there are in a block
pub count-block : (end : ℕ) (bs : List ℕ) (position : ℕ) (x : Option OneItem) → length (block_pieces end bs position x []) ≡ rounds_in x * length (pieces_in end bs position (inner x) [])
count-block end bs position x =
    sym (length-map (block_pieces end bs position x []) length)
    ∙ ap length (lengths-block_end end bs position x)
    ∙ length-rounds (rounds_in x) (length (steps_in bs position (inner x))) (map length (pieces_in end bs position (inner x) []))
    ∙ ap (λ n. rounds_in x * n) (length-map (pieces_in end bs position (inner x) []) length)

pub count-block_after : (end : ℕ) (bs : List ℕ) (position : ℕ) (x : Option OneItem) (following : List Step) → length (block_pieces end bs position x following) ≡ length (block_pieces end bs position x [])
count-block_after end bs position x following =
    sym (length-map (block_pieces end bs position x following) length)
    ∙ ap length (lengths-block_after end bs position x following)
    ∙ length-more (length following) (map length (block_pieces end bs position x []))
    ∙ length-map (block_pieces end bs position x []) length

-- no piece is longer than the steps that they are of

short_pieces : (m : ℕ) (gates : List Step) (ps : List (List Step)) → length (interleaved gates ps) ≤ m → All (λ g. g ≤ m) (map length ps)
short_pieces m gates [] h = All-nil (λ g. g ≤ m)
short_pieces m gates (p ∷ ps) h =
    let rest = interleaved gates ps in
    let outer = length-append gates (p ++ rest) in
    let within = length-append p rest in
    All-cons (λ g. g ≤ m) (length p) (map length ps) (omega (arith, h, outer, within)) (short_pieces m gates ps (omega (arith, h, outer, within)))

any_stand : (bs : List ℕ) (position : ℕ) (xs : List OneItem) → HaveRounds bs xs → (gates : List Step) × Stands gates (position + 1) bs position xs
any_stand [] position xs h =
    let some = take (position + 1) xs in
    (steps (drop position some), steps_split position some ∙ ap (λ l. steps l ++ steps (drop position some)) (take-take position (position + 1) xs (omega arith)))
any_stand (b ∷ bs) position xs h =
    let r = any_stand bs position (inner (slice_get xs b)) h.1 in
    (r.0, (h.0, r.1))

pub lead_short : (bs : List ℕ) (position m : ℕ) (xs : List OneItem) → HaveRounds bs xs → length (steps xs) ≤ m → length (steps_in bs position xs) ≤ m
lead_short bs position m xs h few =
    let r = any_stand bs position xs h in
    let lead = steps_in bs position xs in
    let ps = pieces_in (position + 1) bs position xs [] in
    let whole = ap length (sym (append-nil (steps xs)) ∙ steps-pieces r.0 (position + 1) bs position xs r.1 []) in
    omega (arith, few, whole, length-append lead (interleaved r.0 ps))

pub gaps_short : (bs : List ℕ) (position m : ℕ) (xs : List OneItem) → HaveRounds bs xs → length (steps xs) ≤ m → All (λ g. g ≤ m) (map length (pieces_in (position + 1) bs position xs []))
gaps_short bs position m xs h few =
    let r = any_stand bs position xs h in
    let lead = steps_in bs position xs in
    let ps = pieces_in (position + 1) bs position xs [] in
    let whole = ap length (sym (append-nil (steps xs)) ∙ steps-pieces r.0 (position + 1) bs position xs r.1 []) in
    short_pieces m r.0 ps (omega (arith, few, whole, length-append lead (interleaved r.0 ps)))
