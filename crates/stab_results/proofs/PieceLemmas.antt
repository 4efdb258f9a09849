-- A list of pieces, cut after the first of its elements, and one piece longer.
use Rattle.std.proofs.Common.{◌≡◌, ◌<◌, ◌+◌, ◌++◌, ◌∷◌, [], ℕ, List, length, take, set, get_or, ap, sym, ◌∙◌, append_assoc}
use Rattle.std.proofs.lemmas.List.{append-nil, take_more, take_more_set}
use Rattle.std.proofs.lemmas.List.Concat.{flat_map-append}
use Rattle.std.specs.List.{flat_map}

-- the pieces of a list begin with those of its first elements
pub next_pieces : {X : Type 0} (f : X → List ℕ) (xs first more : List X) (ending : List ℕ) →
    xs ≡ first ++ more → flat_map f xs ++ ending ≡ flat_map f first ++ (flat_map f more ++ ending)
next_pieces f xs first more ending cut =
    ap (λ l. flat_map f l ++ ending) cut
    ∙ ap (λ l. l ++ ending) (flat_map-append f first more)
    ∙ append_assoc (flat_map f first) (flat_map f more) ending

-- bytes of a list in front, one for each of its elements, are so with one more
pub one_more : {X : Type 0} (f : X → List ℕ) (bytes : List ℕ) (xs : List X) (i byte : ℕ) (d : X) →
    i < length bytes → i < length xs → f (get_or xs i d) ≡ byte ∷ [] → take i bytes ≡ flat_map f (take i xs) → take (i + 1) (set bytes i byte) ≡ flat_map f (take (i + 1) xs)
one_more f bytes xs i byte d room within is same =
    take_more_set bytes i byte room
    ∙ ap (λ l. l ++ byte ∷ []) same
    ∙ ap (λ l. flat_map f (take i xs) ++ l) (sym is ∙ sym (append-nil (f (get_or xs i d))))
    ∙ sym (flat_map-append f (take i xs) (get_or xs i d ∷ []))
    ∙ ap (flat_map f) (sym (take_more xs i d within))
