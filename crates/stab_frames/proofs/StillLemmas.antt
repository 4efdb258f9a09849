-- Still: records of which the newest are not flipped, and records after others.
use Rattle.stab_frames.proofs.Names.{◌≡◌, ℕ, ◌+◌, ◌-◌, ◌<◌, ◌≤◌, refl, sym, ◌∙◌, Bool, false, List, [], ◌∷◌, ◌++◌, length, replicate, arith, ◌⊎◌, inl, inr, cases_lt, length-replicate, ◌⊕◌, looked_up, parity, looked_up-near, looked_up-far, looked_up-more, looked_up-zeros, PropagationState, frame_at, IsGone, string_weight}
use Rattle.stab_frames.proofs.WeightLemmas.{weight-none}

-- records after others that are 0

pub looked_up-base : (base : ℕ) (bits : List Bool) (k : ℕ) → looked_up (replicate base false ++ bits) k ≡ looked_up bits k
looked_up-base base bits k = by_position (cases_lt (length bits) k)
  where
    by_position : (length bits < k) ⊎ (k ≤ length bits) → looked_up (replicate base false ++ bits) k ≡ looked_up bits k
    by_position (inl far) =
        looked_up-far (replicate base false) bits k far
        ∙ looked_up-zeros base (k - length bits)
        ∙ sym (looked_up-zeros 0 (k - length bits))
        ∙ sym (looked_up-far [] bits k far)
    by_position (inr near) = looked_up-near (replicate base false) bits k near

pub parity-base : (base : ℕ) (bits : List Bool) (ks : List ℕ) → parity (replicate base false ++ bits) ks ≡ parity bits ks
parity-base base bits [] = refl
parity-base base bits (k ∷ ks) = λ i. looked_up-base base bits k i ⊕ parity-base base bits ks i

-- if none of the newest is flipped

abbrev pub IsStill : ℕ → List Bool → Type 0
IsStill m bits = (k : ℕ) → k ≤ m → looked_up bits k ≡ false

pub still-none : (m : ℕ) → IsStill m []
still-none m k le = looked_up-zeros 0 k

pub still-less : (m j : ℕ) (bits : List Bool) → j ≤ m → IsStill m bits → IsStill j bits
still-less m j bits le is k lk = is k (omega arith)

pub still-longer : (m k j : ℕ) (bits : List Bool) → j ≤ m + k → IsStill m bits → IsStill j (bits ++ replicate k false)
still-longer m k j bits le is i lk =
    looked_up-more m bits [] (replicate k false) (λ h l. is h l ∙ sym (looked_up-zeros 0 h)) i (omega (arith, length-replicate k false))
    ∙ looked_up-zeros k i

pub still-base : (base m : ℕ) (bits : List Bool) → IsStill m bits → IsStill m (replicate base false ++ bits)
still-base base m bits is k le = looked_up-base base bits k ∙ is k le

-- a frame of weight 0 that is still this far back is gone
pub gone-frame : (base m still : ℕ) (w : PropagationState) → string_weight w.letters ≡ 0 → m ≤ still → IsStill still w.flips.records
    → IsGone (length w.letters) m (frame_at base w)
gone-frame base m still w none le is = record {
  letters = weight-none w.letters none;
  flips = still-base base m w.flips.records (still-less still m w.flips.records le is);
}
