-- Arguments as they are printed, one after another.
use Rattle.stab_instructions.proofs.Names.{◌≡◌, ◌<◌, ℕ, List, [], ◌∷◌, ◌++◌, length, Option, Some, false, if◌then◌else◌, map, codes, ap, sym, refl, ◌∙◌, arith, slice_split, length-slice_split, is_byte, trimmed, arguments_of, is_blank, pieces_after, after_space, arguments_text, each_after}

-- the text of what is between commas, each after a comma and a space
abbrev pub more_text : List (List ℕ) → List ℕ
more_text pieces = each_after (codes ", ") (λ b. b) (map trimmed pieces)

-- one argument more
pub more_left : (r : Option (List ℕ)) (bytes first argument : List ℕ) (more : List (List ℕ)) → r ≡ Some bytes → slice_split (is_byte 44) bytes ≡ first ∷ more → argument ≡ trimmed first
    → more_text (pieces_after 44 r) ≡ (codes ", " ++ argument) ++ more_text more
more_left r bytes first argument more e p t =
    ap (λ x. more_text (pieces_after 44 x)) e
    ∙ ap more_text p
    ∙ ap (λ a. codes ", " ++ (a ++ more_text more)) (sym t)

-- the arguments in their brackets
pub arguments_are : (bytes first argument : List ℕ) (more : List (List ℕ)) → slice_split (is_byte 44) bytes ≡ first ∷ more → argument ≡ trimmed first
    → arguments_text (map trimmed (slice_split (is_byte 44) bytes)) ≡ (codes "(" ++ argument) ++ (more_text more ++ codes ")")
arguments_are bytes first argument more p t =
    ap (λ l. arguments_text (map trimmed l)) p
    ∙ ap (λ a. codes "(" ++ (a ++ (more_text more ++ codes ")"))) (sym t)

-- arguments that are not blank, after a space
pub spaced_arguments : (bytes : List ℕ) → is_blank bytes ≡ false
    → codes " " ++ arguments_text (map trimmed (slice_split (is_byte 44) bytes)) ≡ after_space (arguments_text (arguments_of bytes))
spaced_arguments bytes h = pieces (slice_split (is_byte 44) bytes) (omega (arith, length-slice_split (is_byte 44) bytes)) ∙ ap (λ b. after_space (arguments_text (if b then [] else map trimmed (slice_split (is_byte 44) bytes)))) (sym h)
  where
    pieces : (parts : List (List ℕ)) → 0 < length parts → codes " " ++ arguments_text (map trimmed parts) ≡ after_space (arguments_text (map trimmed parts))
    pieces [] h = absurd (omega arith)
    pieces (p ∷ ps) h = refl
