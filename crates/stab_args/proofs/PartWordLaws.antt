-- Laws of part words: how K/N is cut, and which part it is of.
use Rattle.stab_args.proofs.Names.{◌≡◌, ◌∙◌, ◌∷◌, ℕ, List, Option, Some, None, IfNone, Result, Ok, Err, length, sym, ap, arith, inl, inr, ◌⊎◌, ◌==◌}
use Rattle.std.proofs.lemmas.Fmt.{decimal_injective, decimal_is_IsNumeral}
use Rattle.std.proofs.lemmas.List.{length-append, take_all}
use Rattle.std.proofs.lemmas.Str.Parse.{digit_at}
use Rattle.std.proofs.lemmas.Str.Pattern.{IsSplitOnceResult, split_once_first}
use Rattle.std.specs.Borrow.{Bor}
use Rattle.std.specs.List.{after_first, before_first}
use Rattle.std.specs.Prelude.{◌+◌, ◌<◌, ◌^◌, decimal}
use Rattle.clap.proofs.CutLemmas.{Lacks, after_first-at, before_first-at}
use Rattle.stab_search.specs.PartNumbers.{PartNumbers, most_parts}
use Rattle.stab_args.specs.Asked.{IsAskedPart, part_word}

-- what is written of a number has no slash
decimal_lacks : (n : ℕ) → n < 2 ^ 64 → Lacks 47 (decimal n)
decimal_lacks n small i less e = omega (arith, digit_at (decimal n) i (decimal_is_IsNumeral n small).0.1 less, e)

-- a part's word is cut at its slash
cut_front : (p : PartNumbers) → IsAskedPart p → before_first (λ b. b == 47) (part_word p) ≡ decimal (p.index + 1)
cut_front p is = before_first-at 47 (decimal (p.index + 1)) (decimal p.count) (decimal_lacks (p.index + 1) (omega (arith, is.0, is.1)))

cut_back : (p : PartNumbers) → IsAskedPart p → after_first (λ b. b == 47) (part_word p) ≡ decimal p.count
cut_back p is = after_first-at 47 (decimal (p.index + 1)) (decimal p.count) (decimal_lacks (p.index + 1) (omega (arith, is.0, is.1)))

pub cut : (word : List ℕ) (x : Bor (List ℕ) × Bor (List ℕ)) → IsSplitOnceResult 47 word (Some x) → (p : PartNumbers) → IsAskedPart p → word ≡ part_word p
    → (x.0.now ≡ decimal (p.index + 1)) × (x.1.now ≡ decimal p.count)
cut word x split p is e =
    let parts = split_once_first 47 word (Some x) split (omega arith) in
    (parts.1 ∙ (ap (before_first (λ b. b == 47)) e ∙ cut_front p is), parts.2 ∙ (ap (after_first (λ b. b == 47)) e ∙ cut_back p is))

-- a text that begins with a slash is not empty
some_left : (xs : List ℕ) → 0 < length (47 ∷ xs)
some_left xs = omega arith

-- a word that is not cut is no part's
pub uncut : (word : List ℕ) → IsSplitOnceResult 47 word None → (p : PartNumbers) → IsAskedPart p → word ≡ part_word p → ⊥
uncut word split p is e =
    let whole = split_once_first 47 word None split (omega arith) in
    let all : before_first (λ b. b == 47) word ≡ word = take_all _ word (omega (arith, whole)) in
    let front : word ≡ decimal (p.index + 1) = sym all ∙ (ap (before_first (λ b. b == 47)) e ∙ cut_front p is) in
    let long : length word ≡ length (decimal (p.index + 1)) + length (47 ∷ decimal p.count) = ap length e ∙ length-append (decimal (p.index + 1)) (47 ∷ decimal p.count) in
    omega (arith, ap length front, long, some_left (decimal p.count))

-- nothing is found, and then something is so
pub none_so : {A X : Type 0} (r : Option A) → X → IfNone r X
none_so None x = x
none_so (Some a) x = tt

-- a text that is read as a number is read as no other, and not refused
pub read_once : {E : Type 0} (r : Result ℕ E) (m n : ℕ) → r ≡ Ok m → r ≡ Ok n → m ≡ n
read_once r m n first second = cc

pub not_unread : {E : Type 0} (r : Result ℕ E) (n : ℕ) (error : E) → r ≡ Err error → r ≡ Ok n → ⊥
not_unread r n error refused read = cc

-- the numbers of a part are not refused
not_refused : (number count : ℕ) (p : PartNumbers) → IsAskedPart p → number ≡ p.index + 1 → count ≡ p.count → (number ≡ 0) ⊎ ((count < number) ⊎ (most_parts < count)) → ⊥
not_refused number count p is one all (inl none) = omega (arith, one, none)
not_refused number count p is one all (inr (inl less)) = omega (arith, one, all, less, is.0)
not_refused number count p is one all (inr (inr many)) = omega (arith, all, many, is.1)

-- two numbers that are those of no part
pub no_part : {A : Type 0} (word first rest : List ℕ) (number count : ℕ) (r : Option A) → first ≡ decimal number → rest ≡ decimal count → number < 2 ^ 64 → count < 2 ^ 64
    → ((p : PartNumbers) → IsAskedPart p → word ≡ part_word p → (first ≡ decimal (p.index + 1)) × (rest ≡ decimal p.count))
    → IfNone r ((number ≡ 0) ⊎ ((count < number) ⊎ (most_parts < count))) → IfNone r ((p : PartNumbers) → IsAskedPart p → word ≡ part_word p → ⊥)
no_part word first rest number count (Some a) is_first is_rest small few parts why = tt
no_part word first rest number count None is_first is_rest small few parts why = λ p is e.
    let both = parts p is e in
    let one : number ≡ p.index + 1 = decimal_injective number (p.index + 1) small (omega (arith, is.0, is.1)) (sym is_first ∙ both.0) in
    let all : count ≡ p.count = decimal_injective count p.count few (omega (arith, is.1)) (sym is_rest ∙ both.1) in
    not_refused number count p is one all why
