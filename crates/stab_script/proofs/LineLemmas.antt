-- Strings as their first letters and those after them, the paths of steps, and the lines of turns.
use Rattle.stab_script.proofs.Names.{◌≡◌, sym, ap, ◌∙◌, ℕ, suc, ◌<◌, ◌≤◌, ◌+◌, ◌-◌, min, ◌==◌, false, None, List, [], ◌∷◌, ◌++◌, length, take, drop, get_or, map, take_all, get_or_past, drop-cons, add-one, arith, flat_map, PlacedLetter, factor_in_way, placed_text, string_text, Items, unroll, Path, numbers, outside, paths_of, path_at, length-paths, check_of, few_steps, Turn, codes, where_text, turn_line}

-- the text of a string that has letters
pub text_of_some : (letters : List PlacedLetter) (none : PlacedLetter) → false ≡ (length letters == 0)
    → placed_text (get_or letters 0 none) ++ flat_map factor_in_way (take (length letters - 1) (drop 1 letters)) ≡ string_text letters
text_of_some [] none some = absurd (cc)
text_of_some (l ∷ letters) none some = ap (λ ls. placed_text l ++ flat_map factor_in_way ls) (take_all (length (l ∷ letters) - 1) letters (omega arith))

-- no number is after the last
one_block : (b : ℕ) (blocks : List ℕ) (k : ℕ) → b ∷ (blocks ++ k ∷ []) ≡ 0 ∷ [] → ⊥
one_block b [] k e = cc
one_block b (c ∷ blocks) k e = cc

-- a path whose only number is 0
outside_with : (blocks : List ℕ) (k : ℕ) → blocks ++ k ∷ [] ≡ 0 ∷ [] → record { blocks = blocks; position = k } ≡ outside 0
outside_with [] k e = cc
outside_with (b ∷ blocks) k e = absurd (one_block b blocks k e)

outside_of : (p : Path) → numbers p ≡ 0 ∷ [] → p ≡ outside 0
outside_of p e = outside_with p.blocks p.position e

-- no step is there
pub path_past : (items : Items) (steps step : ℕ) (p : Path) → check_of items ≡ None → steps ≡ min (length (unroll items)) 1048577 → steps ≤ step → numbers p ≡ 0 ∷ [] → p ≡ path_at items step
path_past items steps step p checked counted past e =
    outside_of p e ∙ sym (get_or_past (paths_of items) step (outside 0) (omega (arith, counted, past, few_steps items checked, length-paths 0 items)))

-- the lines of turns are that of the first and those of the others
pub turns-drop : {T U : Type 0} (line : U → List ℕ) (shown : T → U) (ts : List T) (k : ℕ) (t : T) → k < length ts → t ≡ get_or ts k t
    → flat_map line (map shown (drop k ts)) ≡ line (shown t) ++ flat_map line (map shown (drop (k + 1) ts))
turns-drop line shown ts k t within is = rw add-one (ap (λ l. flat_map line (map shown l)) (drop-cons ts k t within ∙ ap (λ u. u ∷ drop (suc k) ts) (sym is)))

-- the line of a turn, by what is written of it
pub turn_text : (items : Items) (t : Turn) (start : ℕ) (path : Path) (letters : List PlacedLetter) → start ≡ t.after - 1 → path ≡ path_at items start → letters ≡ t.string
    → where_text t.after path ++ (string_text letters ++ codes "\n") ≡ turn_line items t
turn_text items t start path letters before here are =
    ap (λ p. where_text t.after p ++ (string_text letters ++ codes "\n")) (here ∙ ap (λ k. path_at items k) before)
    ∙ ap (λ l. where_text t.after (path_at items (t.after - 1)) ++ (string_text l ++ codes "\n")) are
