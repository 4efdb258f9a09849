-- Laws of lines: the characters of the bits of a lane, written one after another.
use Rattle.stab_commands.proofs.Names.{◌≡◌, ℕ, zero, suc, refl, sym, ap, subst, ◌∙◌, ◌+◌, ◌<◌, eqb, Bool, true, false, List, [], ◌∷◌, ◌++◌, length, get_or, set, take, arith, bit_at, flat_map, take_more, take_more_set, set_split, drop_all, map-append, take-length, flat_map-cons, flat_map-append, bit_at-lt, digit, f01_bytes, word_bit, lane_bits}
use Rattle.std.proofs.Common.{append-nil}
use Rattle.std.proofs.lemmas.List.{length-append}

-- the characters of a lane of bytes
abbrev pub digits : ℕ → List ℕ → List ℕ
digits lane column = flat_map digit (lane_bits word_bit lane column)

digit-of : (bit v : ℕ) → bit < 2 → v ≡ 48 + bit → v ∷ [] ≡ digit (eqb bit 1)
digit-of zero v small is = ap (λ n. n ∷ []) is
digit-of (suc zero) v small is = ap (λ n. n ∷ []) is
digit-of (suc (suc n)) v small is = absurd (omega arith)

-- a character more
pub next-digit : (lane : ℕ) (column text new : List ℕ) (k v : ℕ) → k < length column → length text ≡ length column + 1 → take k text ≡ digits lane (take k column)
    → new ≡ set text k v → v ≡ 48 + bit_at (get_or column k 0) lane → take (k + 1) new ≡ digits lane (take (k + 1) column)
next-digit lane column text new k v within size made is value =
    let byte = get_or column k 0 in
    ap (take (k + 1)) is
    ∙ take_more_set text k v (omega (arith, within, size))
    ∙ (λ i. made i ++ (digit-of (bit_at byte lane) v (bit_at-lt byte lane) value ∙ sym (append-nil (digit (word_bit byte lane))) ∙ sym (flat_map-cons digit (word_bit byte lane) [])) i)
    ∙ sym (flat_map-append digit (lane_bits word_bit lane (take k column)) (word_bit byte lane ∷ []))
    ∙ ap (flat_map digit) (sym (map-append (λ b. word_bit b lane) (take k column) (byte ∷ [])))
    ∙ ap (digits lane) (sym (take_more column k 0 within))

-- the end of a line
pub line-end : (lane : ℕ) (column text new : List ℕ) (k : ℕ) → k ≡ length column → length text ≡ length column + 1 → take k text ≡ digits lane (take k column)
    → new ≡ set text (length column) 10 → new ≡ f01_bytes (lane_bits word_bit lane column)
line-end lane column text new k end size made is =
    let whole : take (length column) text ≡ digits lane column = subst (λ n. take n text ≡ digits lane (take n column)) end made ∙ ap (digits lane) (take-length column) in
    is
    ∙ set_split text (length column) 10 (omega (arith, size))
    ∙ (λ i. whole i ++ 10 ∷ drop_all (suc (length column)) text (omega (arith, size)) i)

-- how long a line is
length-digit : (b : Bool) (rest : List ℕ) → length (digit b ++ rest) ≡ suc (length rest)
length-digit true rest = refl
length-digit false rest = refl

length-digits : (lane : ℕ) (column : List ℕ) → length (digits lane column) ≡ length column
length-digits lane [] = refl
length-digits lane (byte ∷ column) =
    ap length (flat_map-cons digit (word_bit byte lane) (lane_bits word_bit lane column))
    ∙ length-digit (word_bit byte lane) (digits lane column) ∙ ap suc (length-digits lane column)

pub length-line : (lane : ℕ) (column : List ℕ) → length (f01_bytes (lane_bits word_bit lane column)) ≡ length column + 1
length-line lane column = length-append (digits lane column) (10 ∷ []) ∙ ap (λ n. n + 1) (length-digits lane column)
