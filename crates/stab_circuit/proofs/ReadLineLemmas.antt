-- What a reader keeps, of which the first items of the outermost list are stored by themselves.
use Rattle.stab_circuit.proofs.Names.{◌≡◌, refl, ap, sym, ◌∙◌, suc, List, [], ◌∷◌, ◌++◌, ◌==◌, ◌&&◌, not, length, map, reverse, Ok, arith, append_assoc, append-nil, map-append, reverse-append, length-reverse, length-map, StoredBlock, OneItem, repeat, before, done, listed, join, OpenBlock, open_block_of, open_blocks_of, stored_progress, is_whole, closing, listed_pushed}
use Rattle.stab_circuit.specs.inner.Readers.{innermost_open}
use Rattle.stab_circuit.proofs.ReaderLemmas.{some_before, not_empty, not_none}

-- as many blocks as are stored
length-open_blocks : (xs : List OneItem) (fs : List StoredBlock) → length (open_blocks_of xs fs) ≡ length fs
length-open_blocks xs [] = refl
length-open_blocks xs (f ∷ fs) = ap suc (length-map fs (open_block_of []))

length-opened : (xs : List OneItem) (fs : List StoredBlock) → length (reverse (open_blocks_of xs fs)) ≡ length fs
length-opened xs fs = length-reverse (open_blocks_of xs fs) ∙ length-open_blocks xs fs

-- one more block
blocks_pushed : (xs : List OneItem) (fs : List StoredBlock) (f : StoredBlock) → reverse (open_blocks_of xs (fs ++ f ∷ [])) ≡ open_block_of (innermost_open xs fs) f ∷ reverse (open_blocks_of xs fs)
blocks_pushed xs [] f = refl
blocks_pushed xs (g ∷ gs) f =
    ap (λ l. reverse (open_block_of xs g ∷ l)) (map-append (open_block_of []) gs (f ∷ []))
    ∙ reverse-append (open_block_of xs g ∷ map (open_block_of []) gs) (open_block_of [] f ∷ [])

outermost_pushed : (xs : List OneItem) (fs : List StoredBlock) (f : StoredBlock) → innermost_open xs (fs ++ f ∷ []) ≡ []
outermost_pushed xs [] f = refl
outermost_pushed xs (g ∷ gs) f = refl

-- one more item
pub stored_pushed : (xs : List OneItem) (fs : List StoredBlock) (ys : List OneItem) (x : OneItem) → listed (innermost_open xs fs ++ (ys ++ x ∷ [])) ≡ join (listed (innermost_open xs fs ++ ys)) (before x done)
stored_pushed xs fs ys x = ap listed (sym (append_assoc (innermost_open xs fs) ys (x ∷ []))) ∙ listed_pushed (innermost_open xs fs ++ ys) x

-- the items are put after the first
pub settled : (xs all : List OneItem) (fs gs : List StoredBlock) (ys zs : List OneItem) → length fs ≡ 0 → gs ≡ fs → zs ≡ [] → all ≡ xs ++ ys → stored_progress all gs zs ≡ stored_progress xs fs ys
settled xs all [] gs ys zs none same empty e =
    (λ i. stored_progress (e i) (same i) (empty i)) ∙ ap (λ l. record { open_blocks = []; now = listed l }) (append-nil (xs ++ ys))
settled xs all (f ∷ fs) gs ys zs none same empty e = absurd (omega (arith, none))

-- a block is closed
pub closed_stored : (xs : List OneItem) (fs gs : List StoredBlock) (ys zs : List OneItem) (f : StoredBlock) → fs ≡ gs ++ f ∷ [] → zs ≡ f.before.items ++ repeat f.count f.tag (listed ys) ∷ []
    → closing (stored_progress xs fs ys) ≡ Ok (stored_progress xs gs zs)
closed_stored xs fs gs ys zs f e put =
    let x = repeat f.count f.tag (listed ys) in
    let now : join (listed (innermost_open xs gs ++ f.before.items)) (before x done) ≡ listed (innermost_open xs gs ++ zs) =
    sym (stored_pushed xs gs f.before.items x) ∙ ap (λ l. listed (innermost_open xs gs ++ l)) (sym put) in
    (λ i. closing (stored_progress xs (e i) ys))
    ∙ (λ i. closing (record { open_blocks = blocks_pushed xs gs f i; now = listed (outermost_pushed xs gs f i ++ ys) }))
    ∙ (λ i. Ok (record { open_blocks = reverse (open_blocks_of xs gs); now = now i }))

-- whether a whole item was read
whole_lists : (gs : List OpenBlock) (fs : List StoredBlock) (xs : List OneItem) → length gs ≡ length fs → is_whole (record { open_blocks = gs; now = listed xs }) ≡ ((length fs == 0) && not (length xs == 0))
whole_lists [] [] [] e = refl
whole_lists [] [] (x ∷ xs) e = some_before x (listed xs) ∙ not_empty (length xs)
whole_lists [] (f ∷ fs) xs e = absurd (omega (arith, e))
whole_lists (g ∷ gs) [] xs e = absurd (omega (arith, e))
whole_lists (g ∷ gs) (f ∷ fs) xs e = ap (λ b. b && not (length xs == 0)) (not_none (length fs))

none_in_both : (xs ys : List OneItem) → (length (xs ++ ys) == 0) ≡ ((length xs == 0) && (length ys == 0))
none_in_both [] ys = refl
none_in_both (x ∷ xs) ys = sym (not_none (length (xs ++ ys))) ∙ ap (λ b. b && (length ys == 0)) (not_none (length xs))

pub is_whole_stored : (xs : List OneItem) (fs : List StoredBlock) (ys : List OneItem) → is_whole (stored_progress xs fs ys) ≡ ((length fs == 0) && not ((length xs == 0) && (length ys == 0)))
is_whole_stored xs [] ys = whole_lists [] [] (xs ++ ys) refl ∙ ap not (none_in_both xs ys)
is_whole_stored xs (f ∷ fs) ys =
    whole_lists (reverse (open_blocks_of xs (f ∷ fs))) (f ∷ fs) ys (length-opened xs (f ∷ fs))
    ∙ ap (λ b. b && not (length ys == 0)) (sym (not_none (length fs)))
    ∙ ap (λ b. b && not ((length xs == 0) && (length ys == 0))) (not_none (length fs))
