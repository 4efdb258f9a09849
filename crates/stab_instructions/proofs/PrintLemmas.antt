-- Printed texts, part by part.
use Rattle.stab_instructions.proofs.Names.{◌≡◌, ◌<◌, ℕ, ◌+◌, suc, List, [], ◌∷◌, ◌++◌, length, take, drop, get_or, refl, ap, sym, ◌∙◌, append_assoc, append-nil, arith, codes, drop-cons, take-append-drop, take_more, each_after, tag_text}

pub tag_some : (tag : List ℕ) → 0 < length tag → tag_text tag ≡ codes "[" ++ (tag ++ codes "]")
tag_some [] h = absurd (omega arith)
tag_some (b ∷ bs) h = refl

pub each_after-append : {A : Type 0} (s : List ℕ) (t : A → List ℕ) (xs ys : List A) → each_after s t (xs ++ ys) ≡ each_after s t xs ++ each_after s t ys
each_after-append s t [] ys = refl
each_after-append s t (x ∷ xs) ys =
    ap (λ l. s ++ (t x ++ l)) (each_after-append s t xs ys)
    ∙ ap (λ l. s ++ l) (sym (append_assoc (t x) (each_after s t xs) (each_after s t ys)))
    ∙ sym (append_assoc s (t x ++ each_after s t xs) (each_after s t ys))

-- what is before a position, the text there, and what follows
pub each_after_position : {A : Type 0} (s : List ℕ) (t : A → List ℕ) (xs : List A) (i : ℕ) (x : A) → i < length xs → x ≡ get_or xs i x
    → each_after s t (take i xs) ++ (s ++ (t x ++ each_after s t (drop (i + 1) xs))) ≡ each_after s t xs
each_after_position s t xs i x h e =
    let next' : i + 1 ≡ suc i = omega arith in
    ap (λ n. each_after s t (take i xs) ++ (s ++ (t x ++ each_after s t (drop n xs)))) next'
    ∙ ap (λ y. each_after s t (take i xs) ++ (s ++ (t y ++ each_after s t (drop (suc i) xs)))) e
    ∙ ap (λ l. each_after s t (take i xs) ++ each_after s t l) (sym (drop-cons xs i x h))
    ∙ sym (each_after-append s t (take i xs) (drop i xs))
    ∙ ap (each_after s t) (take-append-drop i xs)

pub each_after_more : {A : Type 0} (s : List ℕ) (t : A → List ℕ) (xs : List A) (i : ℕ) (x : A) → i < length xs → x ≡ get_or xs i x
    → each_after s t (take i xs) ++ (s ++ t x) ≡ each_after s t (take (i + 1) xs)
each_after_more s t xs i x h e =
    ap (λ l. each_after s t (take i xs) ++ (s ++ l)) (sym (append-nil (t x)))
    ∙ ap (λ y. each_after s t (take i xs) ++ (s ++ (t y ++ []))) e
    ∙ sym (each_after-append s t (take i xs) (get_or xs i x ∷ []))
    ∙ ap (each_after s t) (sym (take_more xs i x h))
