-- Letters at some qubits, multiplied onto a string one after another.
use Rattle.stab_session.proofs.Names.{◌≡◌, ℕ, ◌+◌, ◌≤◌, ◌<◌, sym, ◌∙◌, ap, subst, List, [], ◌∷◌, length, drop, replicate, get_or, set, All, length-replicate, length-set, set-get_or, at_drop_more, at_drop_all, Letter, I, letter_product, single, string_product, string_product-blank, string_product-blank_right, string_product-assoc, string_product-comm, length-string_product, string_product-set, letters_on}

-- the qubit at a position of a list of them is there
pub qubit-fits : (n : ℕ) (qs : List ℕ) (i q : ℕ) → i < length qs → q ≡ get_or qs i q → All (λ k. k < n) qs → q < n
qubit-fits n qs i q lt is fit = subst (λ k. k < n) (sym is) (fit i q lt)

times-single : (n q : ℕ) (l : Letter) (s : List Letter) → length s ≡ n → q < n → string_product (single n q l).letters s ≡ set s q (letter_product l (get_or s q I))
times-single n q l s e lt =
    ap (string_product (set (replicate n I) q l)) (sym (set-get_or s q I))
    ∙ string_product-set n (replicate n I) s q l (get_or s q I) (length-replicate n I) e lt
    ∙ ap (λ t. set t q (letter_product l (get_or s q I))) (string_product-blank n s e)

-- what is left to be multiplied, once one letter more is on the string
one-multiplied : (n q : ℕ) (l : Letter) (qs : List ℕ) (s : List Letter) → length s ≡ n → q < n
    → string_product (letters_on n l (q ∷ qs)) s ≡ string_product (letters_on n l qs) (set s q (letter_product l (get_or s q I)))
one-multiplied n q l qs s e lt =
    ap (λ t. string_product t s) (string_product-comm (single n q l).letters (letters_on n l qs))
    ∙ string_product-assoc (letters_on n l qs) (single n q l).letters s
    ∙ ap (string_product (letters_on n l qs)) (times-single n q l s e lt)

-- from one position to the next
pub next-multiplied : (n : ℕ) (l : Letter) (qs : List ℕ) (i q : ℕ) (s t all : List Letter) → i < length qs → q ≡ get_or qs i q → length s ≡ n → q < n
    → t ≡ set s q (letter_product l (get_or s q I)) → string_product (letters_on n l (drop i qs)) s ≡ all → string_product (letters_on n l (drop (i + 1) qs)) t ≡ all
next-multiplied n l qs i q s t all lt is size fit now left =
    ap (string_product (letters_on n l (drop (i + 1) qs))) now
    ∙ sym (one-multiplied n q l (drop (i + 1) qs) s size fit)
    ∙ ap (λ k. string_product (letters_on n l (k ∷ drop (i + 1) qs)) s) is
    ∙ sym (at_drop_more (λ ks. string_product (letters_on n l ks) s) qs i q lt)
    ∙ left

-- after the last one
pub all-multiplied : (n : ℕ) (l : Letter) (qs : List ℕ) (i : ℕ) (s all : List Letter) → length qs ≤ i → length s ≡ n → string_product (letters_on n l (drop i qs)) s ≡ all → s ≡ all
all-multiplied n l qs i s all le size left =
    sym (string_product-blank n s size) ∙ sym (at_drop_all (λ ks. string_product (letters_on n l ks) s) qs i le) ∙ left

pub length-letters : (n : ℕ) (l : Letter) (qs : List ℕ) → length (letters_on n l qs) ≡ n
length-letters n l [] = length-replicate n I
length-letters n l (q ∷ qs) = length-string_product n (single n q l).letters (letters_on n l qs) (length-set (replicate n I) q l ∙ length-replicate n I) (length-letters n l qs)

-- two lists of letters, on a string of letters I
pub both-multiplied : (n : ℕ) (l m : Letter) (qs rs : List ℕ) (s t : List Letter) → s ≡ string_product (letters_on n m rs) (replicate n I) → t ≡ string_product (letters_on n l qs) s
    → t ≡ string_product (letters_on n l qs) (letters_on n m rs)
both-multiplied n l m qs rs s t first then =
    then ∙ ap (string_product (letters_on n l qs)) (first ∙ string_product-blank_right n (letters_on n m rs) (length-letters n m rs))
