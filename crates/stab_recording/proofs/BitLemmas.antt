-- Bits that are 1, and lists of bits of which none is.
use Rattle.stab_recording.proofs.Names.{◌≡◌, ℕ, zero, suc, ◌+◌, ◌<◌, ◌∙◌, ap, arith, Bool, true, false, List, [], ◌∷◌, length, take, get_or, take-suc, ones, ones-append}

-- if none of the first is 1, and the next is none either
pub none-further : (k : ℕ) (bits : List Bool) → k < length bits → get_or bits k false ≡ false → ones (take k bits) ≡ 0 → ones (take (k + 1) bits) ≡ 0
none-further k bits lt off none =
    ap (λ i. ones (take i bits)) {y = suc k} (omega arith)
    ∙ ap ones (take-suc bits k false lt)
    ∙ ones-append (take k bits) (get_or bits k false ∷ [])
    ∙ (λ i. none i + ones (off i ∷ []))

-- a bit that is 1 is counted
pub counted : (t : ℕ) (bits : List Bool) → get_or bits t false ≡ true → ones (take t bits) < ones bits
counted t [] e = absurd (cc)
counted zero (true ∷ bits) e = omega arith
counted zero (false ∷ bits) e = absurd (cc)
counted (suc t) (true ∷ bits) e = let le = counted t bits e in omega arith
counted (suc t) (false ∷ bits) e = counted t bits e
