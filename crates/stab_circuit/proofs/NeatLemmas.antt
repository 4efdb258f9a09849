-- Contents that begin and end without spacing.
use Rattle.stab_circuit.proofs.Names.{◌≡◌, refl, ap, sym, ◌∙◌, ℕ, ◌+◌, ◌-◌, zero, suc, List, [], ◌∷◌, ◌++◌, Bool, true, false, not, length, take, drop, take_all, reverse, replicate, append_assoc, arith, prefix_len, suffix_len, reverse-append, is_byte, is_spacing, trimmed, trimmed_front, trimmed_end, content_of, is_some_word}
use Rattle.stab_instructions.proofs.LackLemmas.{Lacks, lacks-append, lacks_spaces, prefix_no, before_lacking}

-- the last byte is no spacing
pub record Ends (core : List ℕ) : Type 0 where
  pub init : List ℕ
  pub last : ℕ
  pub back : core ≡ init ++ last ∷ []
  pub closed : is_spacing last ≡ false

-- neither the first byte nor the last is spacing
pub record IsSolid (core : List ℕ) : Type 0 where
  pub first : ℕ
  pub rest : List ℕ
  pub front : core ≡ first ∷ rest
  pub solid : is_spacing first ≡ false
  pub ends : Ends core

pub ends-append : (xs ys : List ℕ) → Ends ys → Ends (xs ++ ys)
ends-append xs ys e = record { init = xs ++ e.init; last = e.last; back = ap (λ l. xs ++ l) e.back ∙ sym (append_assoc xs e.init (e.last ∷ [])); closed = e.closed }

pub ends_one : (xs : List ℕ) (x : ℕ) → is_spacing x ≡ false → Ends (xs ++ x ∷ [])
ends_one xs x e = record { init = xs; last = x; back = refl; closed = e }

ends_word : (x : ℕ) (xs : List ℕ) → Lacks is_spacing (x ∷ xs) → Ends (x ∷ xs)
ends_word x [] f = ends_one [] x f.0
ends_word x (y ∷ ys) f = ends-append (x ∷ []) (y ∷ ys) (ends_word y ys f.1)

some_more : (b : Bool) → b ≡ true → not b ≡ true → ⊥
some_more true e h = cc
some_more false e h = cc

pub solid_word : (w : List ℕ) → Lacks is_spacing w → is_some_word w ≡ true → IsSolid w
solid_word [] f h = absurd (some_more true refl h)
solid_word (x ∷ xs) f h = record { first = x; rest = xs; front = refl; solid = f.0; ends = ends_word x xs f }

front_trimmed : (n : ℕ) (core : List ℕ) (x : ℕ) (xs : List ℕ) → core ≡ x ∷ xs → is_spacing x ≡ false → trimmed_front (replicate n 32 ++ core) ≡ core
front_trimmed zero core x xs e s = ap (λ k. drop k core) (ap (prefix_len is_spacing) e ∙ prefix_no is_spacing x xs s)
front_trimmed (suc n) core x xs e s =
    let k = prefix_len is_spacing (replicate n 32 ++ core) in
    let one : 1 + k ≡ suc k = omega arith in
    ap (λ m. drop m (32 ∷ (replicate n 32 ++ core))) one ∙ front_trimmed n core x xs e s

back_trimmed : (core init : List ℕ) (last : ℕ) → core ≡ init ++ last ∷ [] → is_spacing last ≡ false → trimmed_end core ≡ core
back_trimmed core init last e s =
    let flipped : reverse core ≡ last ∷ reverse init = ap reverse e ∙ reverse-append init (last ∷ []) in
    let none : suffix_len is_spacing core ≡ 0 = ap (prefix_len is_spacing) flipped ∙ prefix_no is_spacing last (reverse init) s in
    ap (λ k. take (length core - k) core) none ∙ take_all (length core - 0) core (omega arith)

-- spaces in front are cut
pub trimmed_again : (n : ℕ) (core : List ℕ) → IsSolid core → trimmed (replicate n 32 ++ core) ≡ core
trimmed_again n core s = ap trimmed_end (front_trimmed n core s.first s.rest s.front s.solid) ∙ back_trimmed core s.ends.init s.ends.last s.ends.back s.ends.closed

-- a content as it is printed: no line end, no comment, and no spacing at its ends
pub record IsNeat (core : List ℕ) : Type 0 where
  pub lines : Lacks (is_byte 10) core
  pub comments : Lacks (is_byte 35) core
  pub solid : IsSolid core

-- an indented content is what is left of its line
pub content_again : (n : ℕ) (core : List ℕ) → IsNeat core → content_of (replicate n 32 ++ core) ≡ core
unfolding content_of
content_again n core neat =
    ap trimmed (before_lacking (is_byte 35) (replicate n 32 ++ core) (lacks-append (is_byte 35) (replicate n 32) core (lacks_spaces 35 n refl) neat.comments)) ∙ trimmed_again n core neat.solid
