-- Free outcomes: how many of them there are, strings of them, and how often their coins are asked for.
use Rattle.stab_frames.proofs.Names.{◌≡◌, ℕ, zero, suc, ◌+◌, ◌-◌, ◌<◌, ◌≤◌, refl, sym, ◌∙◌, ap, Bool, true, false, List, [], ◌∷◌, length, take, drop, get_or, arith, Option, Some, None, slice_get, if◌then◌else◌, slice_get-get_or, take-add, Letter, ones, ones-append, pivot_at, PropagationState, IsPlaced, AsksRandom, IsMissing}

-- how many are random

pub ones-split : (a b : ℕ) (bits : List Bool) → ones (take (a + b) bits) ≡ ones (take a bits) + ones (take b (drop a bits))
ones-split a b bits = ap ones (take-add a b bits) ∙ ones-append (take a bits) (take b (drop a bits))

pub ones-fewer : (a b : ℕ) (bits : List Bool) → a ≤ b → ones (take a bits) ≤ ones (take b bits)
ones-fewer a b bits le =
    let whole : b ≡ a + (b - a) = omega (arith, le) in
    omega (arith, ap (λ k. ones (take k bits)) whole, ones-split a (b - a) bits)

one_more : (k : ℕ) → suc k ≡ k + 1
one_more k = omega arith

taken-next : (free : List Bool) (coin : ℕ) (flag : Bool) → get_or free coin false ≡ flag → ones (take coin free) + ones (flag ∷ []) ≡ ones (take (suc coin) free)
taken-next [] zero true e = cc
taken-next [] zero false e = refl
taken-next [] (suc coin) true e = cc
taken-next [] (suc coin) false e = refl
taken-next (true ∷ free) zero true e = refl
taken-next (true ∷ free) zero false e = cc
taken-next (false ∷ free) zero true e = cc
taken-next (false ∷ free) zero false e = refl
taken-next (true ∷ free) (suc coin) flag e = let h = taken-next free coin flag e in omega (arith, h)
taken-next (false ∷ free) (suc coin) flag e = taken-next free coin flag e

pub ones-next : (free : List Bool) (coin : ℕ) (flag : Bool) → get_or free coin false ≡ flag → ones (take coin free) + ones (flag ∷ []) ≡ ones (take (coin + 1) free)
ones-next free coin flag e = taken-next free coin flag e ∙ ap (λ k. ones (take k free)) (one_more coin)

pub placed-next : (free : List Bool) (flag : Bool) (old new : PropagationState) → IsPlaced free old → get_or free old.coin false ≡ flag
    → new.coin ≡ old.coin + 1 → new.number ≡ old.number + ones (flag ∷ []) → IsPlaced free new
placed-next free flag old new placed e coin number =
    number ∙ ap (λ k. k + ones (flag ∷ [])) placed ∙ ones-next free old.coin flag e ∙ ap (λ k. ones (take k free)) (sym coin)

-- the pivot of an outcome that was fixed, and of a random one whose string was stored

pub pivot-none : (strings : List (List Letter)) (free : List Bool) (coin : ℕ) → get_or free coin false ≡ false → pivot_at strings free coin ≡ None
pivot-none strings free coin e = ap (λ b. if b then slice_get strings (ones (take coin free)) else None) e

pub pivot-some : (strings : List (List Letter)) (free : List Bool) (coin number : ℕ) → get_or free coin false ≡ true → number ≡ ones (take coin free)
    → number < length strings → pivot_at strings free coin ≡ Some (get_or strings number [])
pivot-some strings free coin number e placed lt =
    ap (λ b. if b then slice_get strings (ones (take coin free)) else None) e
    ∙ ap (slice_get strings) (sym placed)
    ∙ slice_get-get_or strings number [] lt

pub some-none : (s : List Letter) → ◌≡◌ {A = Option (List Letter)} (Some s) None → ⊥
some-none s e = cc

pub missing-next : (strings : List (List Letter)) (free : List Bool) (coin number : ℕ) → get_or free coin false ≡ true → number ≡ ones (take coin free)
    → length strings ≤ number → IsMissing strings free (coin + 1)
missing-next strings free coin number e placed le = omega (arith, ones-next free coin true e, placed, le)

pub missing-later : (strings : List (List Letter)) (free : List Bool) (a b : ℕ) → a ≤ b → IsMissing strings free a → IsMissing strings free b
missing-later strings free a b le missing = omega (arith, ones-fewer a b free le, missing)

-- asks for none, for the next coin, and for further ones

pub asks-none : (free : List Bool) (coin k asks : ℕ) → AsksRandom free coin (coin + k) asks asks
asks-none free coin k asks = omega (arith, ones-fewer coin (coin + k) free (omega arith))

pub asks-next : (free : List Bool) (coin old new : ℕ) → get_or free coin false ≡ true → new ≤ old + 1 → AsksRandom free coin (coin + 1) old new
asks-next free coin old new e le = omega (arith, ones-next free coin true e, le)

pub asks-later : (free : List Bool) (from next to old new : ℕ) → AsksRandom free from next old new → next ≤ to → AsksRandom free from to old new
asks-later free from next to old new asks le = omega (arith, asks, ones-fewer next to free le)

pub asks-further : (free : List Bool) (from mid next to old now new : ℕ) → AsksRandom free from mid old now → AsksRandom free mid next now new → next ≤ to
    → AsksRandom free from to old new
asks-further free from mid next to old now new first later le = omega (arith, first, later, ones-fewer next to free le)
