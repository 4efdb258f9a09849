-- Formats hits and dets, one number after another.
use Rattle.std.proofs.Common.{◌≡◌, ◌++◌, ℕ, List, [], ◌∷◌, map, codes, refl, ap, ◌∙◌, append_assoc}
use Rattle.std.proofs.lemmas.List.{append-nil}
use Rattle.std.specs.List.{flat_map, join_with_byte}
use Rattle.std.specs.Fmt.{decimal}
use Rattle.stab_results.specs.Formats.{comma}

-- numbers in decimal, with a separator before the first and a comma before each of the others
abbrev pub separated : List ℕ → List ℕ → List ℕ
separated separator [] = []
separated separator (position ∷ positions) = separator ++ decimal position ++ flat_map (λ p. codes "," ++ decimal p) positions

-- with no separator they are joined by commas
pub separated_none : (positions : List ℕ) → separated [] positions ≡ join_with_byte comma (map decimal positions)
separated_none [] = refl
separated_none (p ∷ []) = append-nil (decimal p)
separated_none (p ∷ q ∷ positions) = ap (λ l. decimal p ++ (comma ∷ l)) (separated_none (q ∷ positions))

-- with a comma each is like the others
pub separated_comma : (positions : List ℕ) → flat_map (λ p. codes "," ++ decimal p) positions ≡ separated (codes ",") positions
separated_comma [] = refl
separated_comma (p ∷ positions) = refl

-- the first number and its separator, and what is left then
pub next_hit : (separator ending left : List ℕ) (position : ℕ) (more : List ℕ) →
    left ≡ position ∷ more → separated separator left ++ ending ≡ (separator ++ decimal position) ++ (separated (codes ",") more ++ ending)
next_hit separator ending left position more first =
    ap (λ l. separated separator l ++ ending) first
    ∙ append_assoc (separator ++ decimal position) (flat_map (λ p. codes "," ++ decimal p) more) ending
    ∙ ap (λ l. (separator ++ decimal position) ++ (l ++ ending)) (separated_comma more)
