-- Paths: their numbers and their text.
use Rattle.stab_items.proofs.Names.{◌≡◌, ◌<◌, refl, ap, sym, ◌∙◌, ℕ, ◌+◌, List, [], ◌∷◌, ◌++◌, length, drop, get_or, map, codes, append_assoc, append-nil, drop_more, flat_map, join_with_byte, decimal, Path, numbers, slash, path_text}

-- a list is determined by its last number and those before it
last_is : (ls bs : List ℕ) (a b : ℕ) → ls ++ a ∷ [] ≡ bs ++ b ∷ [] → (ls ≡ bs) × (a ≡ b)
last_is [] [] a b e = (refl, cc)
last_is [] (c ∷ []) a b e = absurd (cc)
last_is [] (c ∷ d ∷ bs) a b e = absurd (cc)
last_is (c ∷ []) [] a b e = absurd (cc)
last_is (c ∷ d ∷ ls) [] a b e = absurd (cc)
last_is (c ∷ ls) (d ∷ bs) a b e =
    let first : c ≡ d = cc in
    let rest : ls ++ a ∷ [] ≡ bs ++ b ∷ [] = cc in
    let is = last_is ls bs a b rest in
    ((λ i. first i ∷ is.0 i), is.1)

-- a path is determined by its numbers
pub path_is : (path : Path) (bs : List ℕ) (p : ℕ) → numbers path ≡ bs ++ p ∷ [] → path ≡ record { blocks = bs; position = p }
path_is path bs p e =
    let is = last_is path.blocks bs path.position p e in
    λ i. record { blocks = is.0 i; position = is.1 i }

-- the text of a block's position
abbrev pub block_text : ℕ → List ℕ
block_text position = decimal position ++ codes "/"

-- the text of the positions of some blocks, and of a position in them
abbrev pub positions_text : List ℕ → ℕ → List ℕ
positions_text bs p = flat_map block_text bs ++ decimal p

joined : (bs : List ℕ) (p : ℕ) → join_with_byte slash (map decimal (bs ++ p ∷ [])) ≡ positions_text bs p
joined [] p = refl
joined (b ∷ []) p = sym (append_assoc (decimal b) (codes "/") (decimal p)) ∙ ap (λ l. l ++ decimal p) (sym (append-nil (block_text b)))
joined (b ∷ c ∷ bs) p =
    ap (λ l. decimal b ++ (slash ∷ l)) (joined (c ∷ bs) p)
    ∙ sym (append_assoc (decimal b) (codes "/") (positions_text (c ∷ bs) p))
    ∙ sym (append_assoc (block_text b) (flat_map block_text (c ∷ bs)) (decimal p))

pub path_text_is : (path : Path) → path_text path ≡ positions_text path.blocks path.position
path_text_is path = joined path.blocks path.position

-- the next block
pub next_block : (bs : List ℕ) (i p : ℕ) → i < length bs → positions_text (drop i bs) p ≡ block_text (get_or bs i 0) ++ positions_text (drop (i + 1) bs) p
next_block bs i p h =
    ap (λ l. positions_text l p) (drop_more bs i 0 h)
    ∙ append_assoc (block_text (get_or bs i 0)) (flat_map block_text (drop (i + 1) bs)) (decimal p)
