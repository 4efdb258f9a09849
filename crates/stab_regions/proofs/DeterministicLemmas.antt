-- Deterministic bits: what a region reads at a point is what is asked for at the end.
use Rattle.stab_regions.proofs.Names.{◌≡◌, ℕ, refl, sym, ◌∙◌, ap, arith, Bool, true, false, not, List, [], ◌∷◌, length, length-replicate, and_from, All-head, All-tail, I, ◌⊕◌, identity, with_sign, parity-assoc, Event, diagonal, member, IsStabiliserGroup, group-member, and-left, and-right, not_both, Step, good-next, IsGood, parity, Point, origin, next_point, StepFits, Region, region_of, region_before, with_looks, region_through, keep_region, deterministic_bit, bit_asked, DeterministicBits}
use Rattle.std.proofs.Common.{All}
use Rattle.stab_regions.proofs.LookLemmas.{parity-append, parity-none}
use Rattle.stab_regions.proofs.ReadLemmas.{size-through, Reads, reads-next}

-- the end: of the identity only the sign + stabilises

sign_of-identity : (n : ℕ) (t : List Event) (c : Bool) → IsGood n t → member t (with_sign c (identity n)) ≡ true → c ≡ false
sign_of-identity n t false good h = refl
sign_of-identity n t true good h = absurd (not_both _ (group.one_sign (identity n) (length-replicate n I) group.has_identity) h)
  where
    group : IsStabiliserGroup n (member t)
    group = group-member n t good.fits good.sound

even : (a b : Bool) → a ⊕ b ≡ false → b ≡ a
even a b e = grind arith

reads-end : (n : ℕ) (p : Point) (ks : List ℕ) (b : Bool) → IsGood n p.trace → Reads p (region_of n ks) b → parity p.records ks ≡ b
reads-end n p ks b good h = even b (parity p.records ks) (sign_of-identity n p.trace (b ⊕ parity p.records ks) good h)

-- a step, with the records that it asks for

reads-asked : (ks : List ℕ) (p : Point) (r : Region) (b : Bool) → Reads p (with_looks ks r) b → Reads p r (b ⊕ parity p.records ks)
reads-asked ks p r b h =
    ap (λ x. member p.trace (with_sign x r.string))
    (parity-assoc b (parity p.records ks) (parity p.records r.looks) ∙ ap (λ x. b ⊕ x) (sym (parity-append p.records ks r.looks)))
    ∙ h

round : (a b : Bool) → a ⊕ (b ⊕ a) ≡ b
round a b = grind arith

module _ (n : ℕ) (coins : ℕ → Bool) (asked : Step → List ℕ) (ks : List ℕ) where
  -- the region before steps
  abbrev at : List Step → Region
  at xs = region_through n asked xs (region_of n ks)

  size-at : (xs : List Step) → length (at xs).string.letters ≡ n
  size-at xs = size-through n asked xs (region_of n ks) (length-replicate n I)

  step-reads : (x : Step) (xs : List Step) (p : Point) (b : Bool) → StepFits n x → keep_region n asked (x ∷ xs) (region_of n ks) ≡ true
      → Reads p (at (x ∷ xs)) b → Reads (next_point n coins x p) (at xs) (b ⊕ parity p.records (asked x))
  step-reads x xs p b fits preserved h =
      reads-next n coins x p (at xs) (b ⊕ parity p.records (asked x)) fits (size-at xs) (and-left _ _ preserved)
      (reads-asked (asked x) p (region_before n x (at xs)) b h)

  -- what is read is what is asked for at the end
  pub reads-bit : (xs : List Step) (p : Point) (b : Bool) → All (StepFits n) xs → keep_region n asked xs (region_of n ks) ≡ true → IsGood n p.trace
      → Reads p (at xs) b → bit_asked n coins asked xs ks p ≡ b
  reads-bit [] p b fits preserved good h = reads-end n p ks b good h
  reads-bit (x ∷ xs) p b fits preserved good h =
      let here : StepFits n x = All-head (StepFits n) x xs fits in
      ap (λ y. parity p.records (asked x) ⊕ y)
      (reads-bit xs (next_point n coins x p) (b ⊕ parity p.records (asked x)) (All-tail (StepFits n) x xs fits) (and-right _ _ preserved)
      (good-next n coins x p here good) (step-reads x xs p b here preserved h))
      ∙ round (parity p.records (asked x)) b

-- the start: all qubits are zero
start-reads : (r : Region) → diagonal r.string.letters ≡ true → Reads origin r r.string.negative
start-reads r e = and_from _ _ (ap (λ x. not ((r.string.negative ⊕ x) ⊕ r.string.negative)) (parity-none r.looks) ∙ off r.string.negative) e
  where
    off : (b : Bool) → not ((b ⊕ false) ⊕ b) ≡ true
    off b = grind arith

pub good-origin : (n : ℕ) → IsGood n origin.trace
good-origin n = record { fits = tt; sound = tt }

pub deterministic-bits : DeterministicBits
deterministic-bits n coins asked xs ks fits deterministic =
    reads-bit n coins asked ks xs origin (deterministic_bit n asked xs ks) fits (and-left _ _ deterministic) (good-origin n)
    (start-reads (region_through n asked xs (region_of n ks)) (and-right _ _ deterministic))
