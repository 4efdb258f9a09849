-- Flipped lists: bits inverted in place, one after another, as far as there are flips.
use Rattle.stab_session.proofs.Names.{◌≡◌, ℕ, zero, suc, ◌+◌, ◌<◌, ◌≤◌, min, refl, sym, ◌∙◌, ap, Bool, true, false, not, List, [], ◌∷◌, length, take, set, get_or, arith, beq, ◌⊕◌, Addition, RunOutput, nothing, joined, joined-nothing, flipped, flipped_additions, flipped_output, Matches, flipped-joined, flipped-nothing, additions-empty, flipped-empty, ◌++◌, drop, replicate, ones, Point, PropagationState, PointsDifferBy, frame_at}
use Rattle.stab_frames.proofs.FlippedListLemmas.{flipped_addition}

-- where two bits differ
differ : (x y : Bool) → not (beq x y) ≡ y ⊕ x
differ true true = refl
differ true false = refl
differ false true = refl
differ false false = refl

flipped-next : (i : ℕ) (bits flips : List Bool) (bit : Bool) → i < length flips → i < length bits
    → bit ≡ get_or flips i false ⊕ get_or (flipped bits (take i flips)) i false → set (flipped bits (take i flips)) i bit ≡ flipped bits (take (suc i) flips)
flipped-next i [] flips bit few lt is = absurd (omega arith)
flipped-next i (x ∷ bits) [] bit few lt is = absurd (omega arith)
flipped-next zero (x ∷ bits) (y ∷ flips) bit few lt is = λ j. is j ∷ sym (flipped-empty bits) j
flipped-next (suc i) (x ∷ bits) (y ∷ flips) bit few lt is = ap (λ more. (y ⊕ x) ∷ more) (flipped-next i bits flips bit (omega arith) (omega arith) is)

-- one more
pub flipped-more : (i : ℕ) (bits flips now : List Bool) → i < length flips → i < length bits → now ≡ flipped bits (take i flips)
    → set now i (not (beq (get_or now i false) (get_or flips i false))) ≡ flipped bits (take (i + 1) flips)
flipped-more i bits flips now few lt so =
    ap (λ zs. set zs i (not (beq (get_or now i false) (get_or flips i false)))) so
    ∙ flipped-next i bits flips (not (beq (get_or now i false) (get_or flips i false))) few lt
    (differ (get_or now i false) (get_or flips i false) ∙ ap (λ zs. get_or flips i false ⊕ get_or zs i false) so)
    ∙ ap (λ j. flipped bits (take j flips)) {x = suc i} (omega arith)

-- and all
pub flipped-all : (i : ℕ) (bits flips : List Bool) → min (length flips) (length bits) ≤ i → flipped bits (take i flips) ≡ flipped bits flips
flipped-all i [] flips all = refl
flipped-all zero (x ∷ bits) [] all = refl
flipped-all (suc i) (x ∷ bits) [] all = refl
flipped-all zero (x ∷ bits) (y ∷ flips) all = absurd (omega arith)
flipped-all (suc i) (x ∷ bits) (y ∷ flips) all = ap (λ more. (y ⊕ x) ∷ more) (flipped-all i bits flips (omega arith))

-- the same of additions

additions-next : (i : ℕ) (adds flips : List Addition) (added d e : Addition) → i < length flips → i < length adds
    → added ≡ flipped_addition (get_or (flipped_additions adds (take i flips)) i d) (get_or flips i e)
    → set (flipped_additions adds (take i flips)) i added ≡ flipped_additions adds (take (suc i) flips)
additions-next i [] flips added d e few lt is = absurd (omega arith)
additions-next i (x ∷ adds) [] added d e few lt is = absurd (omega arith)
additions-next zero (x ∷ adds) (y ∷ flips) added d e few lt is = λ j. is j ∷ sym (additions-empty adds) j
additions-next (suc i) (x ∷ adds) (y ∷ flips) added d e few lt is =
    ap (λ more. flipped_addition x y ∷ more) (additions-next i adds flips added d e (omega arith) (omega arith) is)

pub additions-more : (i : ℕ) (adds flips now : List Addition) (d e : Addition) → i < length flips → i < length adds → now ≡ flipped_additions adds (take i flips)
    → set now i (record { observable = (get_or now i d).observable; bit = not (beq (get_or now i d).bit (get_or flips i e).bit) }) ≡ flipped_additions adds (take (i + 1) flips)
additions-more i adds flips now d e few lt so =
    ap (λ zs. set zs i (record { observable = (get_or now i d).observable; bit = not (beq (get_or now i d).bit (get_or flips i e).bit) })) so
    ∙ additions-next i adds flips (record { observable = (get_or now i d).observable; bit = not (beq (get_or now i d).bit (get_or flips i e).bit) }) d e few lt
    (ap (λ bit. record { observable = (get_or now i d).observable; bit = bit }) (differ (get_or now i d).bit (get_or flips i e).bit)
    ∙ ap (λ zs. flipped_addition (get_or zs i d) (get_or flips i e)) so)
    ∙ ap (λ j. flipped_additions adds (take j flips)) {x = suc i} (omega arith)

pub additions-all : (i : ℕ) (adds flips : List Addition) → min (length flips) (length adds) ≤ i → flipped_additions adds (take i flips) ≡ flipped_additions adds flips
additions-all i [] flips all = refl
additions-all zero (x ∷ adds) [] all = refl
additions-all (suc i) (x ∷ adds) [] all = refl
additions-all zero (x ∷ adds) (y ∷ flips) all = absurd (omega arith)
additions-all (suc i) (x ∷ adds) (y ∷ flips) all =
    ap (λ more. flipped_addition x y ∷ more) (additions-all i adds flips (omega arith))

-- flips as long as the first of two outputs flip that one alone

pub flipped-front : (a b flips : RunOutput) → Matches a flips → flipped_output (joined a b) flips ≡ joined (flipped_output a flips) b
flipped-front a b flips same =
    ap (flipped_output (joined a b)) (sym (joined-nothing flips)) ∙ flipped-joined a b flips nothing same ∙ ap (joined (flipped_output a flips)) (flipped-nothing b)

-- two points of which one has flipped records don't have the same

flipped-ones : (bits flips : List Bool) → length flips ≡ length bits → bits ≡ flipped bits flips → ones flips ≡ 0
flipped-ones [] [] size same = refl
flipped-ones [] (flip ∷ flips) size same = absurd (omega (arith, size))
flipped-ones (bit ∷ bits) [] size same = absurd (omega (arith, size))
flipped-ones (bit ∷ bits) (true ∷ flips) size same = absurd (distinct bit (ap (λ l. get_or l 0 false) same))
  where
    distinct : (b : Bool) → b ≡ (true ⊕ b) → ⊥
    distinct b e = grind arith
flipped-ones (bit ∷ bits) (false ∷ flips) size same = flipped-ones bits flips (omega (arith, size)) (ap (drop 1) same)

ones-following : (base : ℕ) (flips : List Bool) → ones (replicate base false ++ flips) ≡ ones flips
ones-following zero flips = refl
ones-following (suc base) flips = ones-following base flips

pub flips-differ : (n base : ℕ) (w : PropagationState) (a b : Point) → PointsDifferBy n (frame_at base w) a b → 1 ≤ ones w.flips.records → a.records ≡ b.records → ⊥
flips-differ n base w a b by_frame some same =
    absurd (omega (arith, some, ones-following base w.flips.records, flipped-ones a.records (replicate base false ++ w.flips.records) by_frame.count (same ∙ by_frame.records)))
