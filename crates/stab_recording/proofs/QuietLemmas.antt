-- Quiet frames: frames that flip none of the newest records, and how many they flip.
use Rattle.stab_recording.proofs.Names.{◌≡◌, ℕ, ◌+◌, ◌-◌, ◌<◌, ◌≤◌, refl, sym, ◌∙◌, ap, arith, Bool, true, false, List, [], ◌∷◌, length, take, drop, replicate, Option, ◌⊎◌, inl, inr, cases_lt, take-append-drop, length-drop, Letter, I, Step, looked_up, ones, RunOutput, looked_up-near, looked_up-far, looked_up-zeros, ones-append, same_coins, flips_over, PropagationState, frame_at, IsGone, PropagatesOver, still-base}
use Rattle.stab_recording.proofs.CutLemmas.{ones-take}

-- bits of which none is 1
zeros : (bits : List Bool) → ones bits ≡ 0 → bits ≡ replicate (length bits) false
zeros [] e = refl
zeros (true ∷ bits) e = absurd (omega (arith, e))
zeros (false ∷ bits) e = ap (λ l. false ∷ l) (zeros bits e)

-- the newest bits and those before

pub quiet-back : (bits : List Bool) (window k : ℕ) → ones (drop (length bits - window) bits) ≡ 0 → k ≤ window → looked_up bits k ≡ false
quiet-back bits window k none le = by-position (cases_lt (length bits) k)
  where
    newest : List Bool
    newest = drop (length bits - window) bits

    by-position : (length bits < k) ⊎ (k ≤ length bits) → looked_up bits k ≡ false
    by-position (inl far) = looked_up-far [] bits k far ∙ looked_up-zeros 0 (k - length bits)
    by-position (inr near) =
        ap (λ l. looked_up l k) (sym (take-append-drop (length bits - window) bits))
        ∙ looked_up-near (take (length bits - window) bits) newest k (omega (arith, near, le, length-drop (length bits - window) bits))
        ∙ ap (λ l. looked_up l k) (zeros newest none)
        ∙ looked_up-zeros (length newest) k

pub newest-counted : (at : ℕ) (bits : List Bool) → 1 ≤ ones (drop at bits) → 1 ≤ ones bits
newest-counted at bits le = omega (arith, le, ones-take at bits)

-- a frame of letters I that is quiet is gone
pub quiet-gone : (n window base : ℕ) (w : PropagationState) → w.letters ≡ replicate n I → ((k : ℕ) → k ≤ window → looked_up w.flips.records k ≡ false) → IsGone n window (frame_at base w)
quiet-gone n window base w blank quiet = record { letters = blank; flips = still-base base window w.flips.records quiet }

-- on its way a frame flips no fewer records
pub flips-more : (n : ℕ) (strings : ℕ → Option (List Letter)) (xs : List Step) (old new : PropagationState) → PropagatesOver n strings xs old new → 1 ≤ ones old.flips.records → 1 ≤ ones new.flips.records
flips-more n strings xs old new over le =
    let over-all : ones new.flips.records ≡ ones old.flips.records + ones (flips_over n (same_coins strings) xs old.coin (frame_at 0 old)).records =
    ap (λ (o : RunOutput). ones o.records) (over.flips 0) ∙ ones-append old.flips.records (flips_over n (same_coins strings) xs old.coin (frame_at 0 old)).records in
    omega (arith, over-all, le)
