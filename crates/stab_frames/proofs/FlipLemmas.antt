-- Flipped bits: lookbacks and parities of them, and lists of them one after another.
use Rattle.stab_frames.proofs.Names.{◌≡◌, ℕ, zero, suc, ◌+◌, ◌-◌, refl, sym, ◌∙◌, ap, Bool, true, false, ◌&&◌, List, [], ◌∷◌, ◌++◌, length, map, replicate, get_or, set, drop, nat_lt, arith, if◌then◌else◌, length-append, length-replicate, length-set, length-map, map-append, ◌⊕◌, parity-assoc, parity-mid, parity-twice, Addition, looked_up, parity, when, added, RunOutput, nothing, joined, with_additions, flipped, flipped_additions, flipped_output, unflipped, Matches}

pub length-flipped : (bits flips : List Bool) → length (flipped bits flips) ≡ length bits
length-flipped [] flips = refl
length-flipped (bit ∷ bits) [] = refl
length-flipped (bit ∷ bits) (flip ∷ flips) = ap suc (length-flipped bits flips)

pub length-flipped_additions : (adds flips : List Addition) → length (flipped_additions adds flips) ≡ length adds
length-flipped_additions [] flips = refl
length-flipped_additions (a ∷ adds) [] = refl
length-flipped_additions (a ∷ adds) (f ∷ flips) = ap suc (length-flipped_additions adds flips)

get_or-flipped : (bits flips : List Bool) → length flips ≡ length bits → (i : ℕ)
    → get_or (flipped bits flips) i false ≡ get_or flips i false ⊕ get_or bits i false
get_or-flipped [] [] e i = refl
get_or-flipped [] (flip ∷ flips) e i = absurd (omega arith)
get_or-flipped (bit ∷ bits) [] e i = absurd (omega arith)
get_or-flipped (bit ∷ bits) (flip ∷ flips) e zero = refl
get_or-flipped (bit ∷ bits) (flip ∷ flips) e (suc i) = get_or-flipped bits flips (omega arith) i

both-preserved : (c x y : Bool) → (if c then false else (x ⊕ y)) ≡ (if c then false else x) ⊕ (if c then false else y)
both-preserved true x y = refl
both-preserved false x y = refl

pub looked_up-flipped : (bits flips : List Bool) → length flips ≡ length bits → (k : ℕ) → looked_up (flipped bits flips) k ≡ looked_up flips k ⊕ looked_up bits k
looked_up-flipped bits flips e k =
    (λ i. if nat_lt (length-flipped bits flips i) k then false else get_or (flipped bits flips) (length-flipped bits flips i - k) false)
    ∙ ap (λ z. if nat_lt (length bits) k then false else z) (get_or-flipped bits flips e (length bits - k))
    ∙ both-preserved (nat_lt (length bits) k) (get_or flips (length bits - k) false) (get_or bits (length bits - k) false)
    ∙ ap (λ m. (if nat_lt m k then false else get_or flips (m - k) false) ⊕ looked_up bits k) (sym e)

pub parity-flipped : (bits flips : List Bool) → length flips ≡ length bits → (ks : List ℕ) → parity (flipped bits flips) ks ≡ parity flips ks ⊕ parity bits ks
parity-flipped bits flips e [] = refl
parity-flipped bits flips e (k ∷ ks) =
    (λ i. looked_up-flipped bits flips e k i ⊕ parity-flipped bits flips e ks i)
    ∙ parity-mid (looked_up flips k) (looked_up bits k) (parity flips ks) (parity bits ks)

pub flipped-append : (bits more flips others : List Bool) → length flips ≡ length bits → flipped (bits ++ more) (flips ++ others) ≡ flipped bits flips ++ flipped more others
flipped-append [] more [] others e = refl
flipped-append [] more (flip ∷ flips) others e = absurd (omega arith)
flipped-append (bit ∷ bits) more [] others e = absurd (omega arith)
flipped-append (bit ∷ bits) more (flip ∷ flips) others e = ap (λ l. (flip ⊕ bit) ∷ l) (flipped-append bits more flips others (omega arith))

pub additions-append : (adds more flips others : List Addition) → length flips ≡ length adds
    → flipped_additions (adds ++ more) (flips ++ others) ≡ flipped_additions adds flips ++ flipped_additions more others
additions-append [] more [] others e = refl
additions-append [] more (flip ∷ flips) others e = absurd (omega arith)
additions-append (a ∷ adds) more [] others e = absurd (omega arith)
additions-append (a ∷ adds) more (f ∷ flips) others e =
    ap (λ l. record { observable = a.observable; bit = f.bit ⊕ a.bit } ∷ l) (additions-append adds more flips others (omega arith))

pub length-additions : (o flips : RunOutput) → Matches o flips → length flips.additions ≡ length o.additions
length-additions o flips same =
    sym (length-map flips.additions (λ (a : Addition). a.observable)) ∙ ap length same.observables ∙ length-map o.additions (λ (a : Addition). a.observable)

pub flipped-joined : (a b flips others : RunOutput) → Matches a flips
    → flipped_output (joined a b) (joined flips others) ≡ joined (flipped_output a flips) (flipped_output b others)
flipped-joined a b flips others same = λ i. record {
  records = flipped-append a.records b.records flips.records others.records same.records i;
  free = flipped-append a.free b.free flips.free others.free same.free i;
  outcomes = flipped-append a.outcomes b.outcomes flips.outcomes others.outcomes same.outcomes i;
  detectors = flipped-append a.detectors b.detectors flips.detectors others.detectors same.detectors i;
  additions = additions-append a.additions b.additions flips.additions others.additions (length-additions a flips same) i;
}

length-both : {X : Type 0} (xs ys us vs : List X) → length us ≡ length xs → length vs ≡ length ys → length (us ++ vs) ≡ length (xs ++ ys)
length-both xs ys us vs e g = length-append us vs ∙ (λ i. e i + g i) ∙ sym (length-append xs ys)

pub joined-matches : (a b flips others : RunOutput) → Matches a flips → Matches b others → Matches (joined a b) (joined flips others)
joined-matches a b flips others here later = record {
  records = length-both a.records b.records flips.records others.records here.records later.records;
  free = length-both a.free b.free flips.free others.free here.free later.free;
  outcomes = length-both a.outcomes b.outcomes flips.outcomes others.outcomes here.outcomes later.outcomes;
  detectors = length-both a.detectors b.detectors flips.detectors others.detectors here.detectors later.detectors;
  observables =
      map-append (λ (a : Addition). a.observable) flips.additions others.additions
      ∙ (λ i. here.observables i ++ later.observables i)
      ∙ sym (map-append (λ (a : Addition). a.observable) a.additions b.additions);
}

pub matches-between : (o flips others : RunOutput) → Matches o flips → Matches o others → Matches flips others
matches-between o flips others here there = record {
  records = there.records ∙ sym here.records;
  free = there.free ∙ sym here.free;
  outcomes = there.outcomes ∙ sym here.outcomes;
  detectors = there.detectors ∙ sym here.detectors;
  observables = there.observables ∙ sym here.observables;
}

-- a bit that is given if a record is made, or counts if a reset is

pub flipped-when : (recorded flip bit : Bool) → flipped (when recorded bit) (when recorded flip) ≡ when recorded (flip ⊕ bit)
flipped-when true flip bit = refl
flipped-when false flip bit = refl

pub same-when : (recorded x y : Bool) → length (when recorded x) ≡ length (when recorded y)
same-when true x y = refl
same-when false x y = refl

pub and-parity : (r x y : Bool) → (r && (x ⊕ y)) ≡ (r && x) ⊕ (r && y)
and-parity true x y = refl
and-parity false x y = refl

-- no flips, one flip after another, and back

pub flipped-empty : (bits : List Bool) → flipped bits [] ≡ bits
flipped-empty [] = refl
flipped-empty (bit ∷ bits) = refl

pub additions-empty : (adds : List Addition) → flipped_additions adds [] ≡ adds
additions-empty [] = refl
additions-empty (a ∷ adds) = refl

pub flipped-nothing : (o : RunOutput) → flipped_output o nothing ≡ o
flipped-nothing o = λ i. record {
  records = flipped-empty o.records i;
  free = flipped-empty o.free i;
  outcomes = flipped-empty o.outcomes i;
  detectors = flipped-empty o.detectors i;
  additions = additions-empty o.additions i;
}

pub flipped-none : (bits : List Bool) → flipped bits (replicate (length bits) false) ≡ bits
flipped-none [] = refl
flipped-none (bit ∷ bits) = ap (λ l. bit ∷ l) (flipped-none bits)

pub flipped-twice : (bits flips others : List Bool) → length flips ≡ length bits → length others ≡ length bits
    → flipped (flipped bits flips) others ≡ flipped bits (flipped flips others)
flipped-twice [] [] [] e g = refl
flipped-twice [] [] (o ∷ others) e g = absurd (omega arith)
flipped-twice [] (f ∷ flips) others e g = absurd (omega arith)
flipped-twice (b ∷ bits) [] others e g = absurd (omega arith)
flipped-twice (b ∷ bits) (f ∷ flips) [] e g = absurd (omega arith)
flipped-twice (b ∷ bits) (f ∷ flips) (o ∷ others) e g = λ i. sym (parity-assoc o f b) i ∷ flipped-twice bits flips others (omega arith) (omega arith) i

pub flipped-back : (bits flips : List Bool) → length flips ≡ length bits → flipped (flipped bits flips) flips ≡ bits
flipped-back [] flips e = refl
flipped-back (b ∷ bits) [] e = absurd (omega arith)
flipped-back (b ∷ bits) (f ∷ flips) e = λ i. parity-twice f b i ∷ flipped-back bits flips (omega arith) i

-- bits are others, flipped if they differ
pub flipped-differing : (bits others : List Bool) → length others ≡ length bits → flipped bits (flipped bits others) ≡ others
flipped-differing [] [] e = refl
flipped-differing [] (o ∷ others) e = absurd (omega arith)
flipped-differing (b ∷ bits) [] e = absurd (omega arith)
flipped-differing (b ∷ bits) (o ∷ others) e = λ i. parity-back o b i ∷ flipped-differing bits others (omega arith) i
  where
    parity-back : (x y : Bool) → (x ⊕ y) ⊕ y ≡ x
    parity-back x y = grind arith

additions-none : (adds : List Addition) → flipped_additions adds (map (λ a. record { observable = a.observable; bit = false }) adds) ≡ adds
additions-none [] = refl
additions-none (a ∷ adds) = ap (λ l. a ∷ l) (additions-none adds)

pub unflipped-output : (o : RunOutput) → flipped_output o (unflipped o) ≡ o
unflipped-output o = λ i. record {
  records = flipped-none o.records i;
  free = flipped-none o.free i;
  outcomes = flipped-none o.outcomes i;
  detectors = flipped-none o.detectors i;
  additions = additions-none o.additions i;
}

abbrev still_addition : Addition → Addition
still_addition a = record { observable = a.observable; bit = false }

observables-none : (adds : List Addition)
    → map (λ (a : Addition). a.observable) (map (λ (a : Addition). still_addition a) adds) ≡ map (λ (a : Addition). a.observable) adds
observables-none [] = refl
observables-none (a ∷ adds) = ap (λ l. a.observable ∷ l) (observables-none adds)

pub unflipped-matches : (o : RunOutput) → Matches o (unflipped o)
unflipped-matches o = record {
  records = length-replicate (length o.records) false;
  free = length-replicate (length o.free) false;
  outcomes = length-replicate (length o.outcomes) false;
  detectors = length-replicate (length o.detectors) false;
  observables = observables-none o.additions;
}

-- observables: additions flipped are totals flipped

flipped-set : (bits flips : List Bool) (j : ℕ) (x y : Bool) → length flips ≡ length bits
    → flipped (set bits j x) (set flips j y) ≡ set (flipped bits flips) j (y ⊕ x)
flipped-set [] [] j x y e = refl
flipped-set [] (flip ∷ flips) j x y e = absurd (omega arith)
flipped-set (bit ∷ bits) [] j x y e = absurd (omega arith)
flipped-set (bit ∷ bits) (flip ∷ flips) zero x y e = refl
flipped-set (bit ∷ bits) (flip ∷ flips) (suc j) x y e = ap (λ l. (flip ⊕ bit) ∷ l) (flipped-set bits flips j x y (omega arith))

flipped-added : (bits flips : List Bool) (j : ℕ) (x y : Bool) → length flips ≡ length bits
    → added j (y ⊕ x) (flipped bits flips) ≡ flipped (added j x bits) (added j y flips)
flipped-added bits flips j x y e =
    ap (λ b. set (flipped bits flips) j ((y ⊕ x) ⊕ b)) (get_or-flipped bits flips e j)
    ∙ ap (set (flipped bits flips) j) (parity-mid y x (get_or flips j false) (get_or bits j false))
    ∙ sym (flipped-set bits flips j (x ⊕ get_or bits j false) (y ⊕ get_or flips j false) e)

pub additions-flipped : (adds flips : List Addition) (bits others : List Bool) → map (λ (a : Addition). a.observable) flips ≡ map (λ (a : Addition). a.observable) adds
    → length others ≡ length bits
    → with_additions (flipped_additions adds flips) (flipped bits others) ≡ flipped (with_additions adds bits) (with_additions flips others)
additions-flipped [] [] bits others e same = refl
additions-flipped [] (f ∷ flips) bits others e same = let l = ap length e in absurd (omega (arith, l))
additions-flipped (a ∷ adds) [] bits others e same = let l = ap length e in absurd (omega (arith, l))
additions-flipped (a ∷ adds) (f ∷ flips) bits others e same =
    ap (with_additions (flipped_additions adds flips)) (flipped-added bits others a.observable a.bit f.bit same)
    ∙ additions-flipped adds flips (added a.observable a.bit bits) (added a.observable f.bit others) (ap (drop 1) e)
    (length-set others a.observable (f.bit ⊕ get_or others a.observable false) ∙ same ∙ sym (length-set bits a.observable (a.bit ⊕ get_or bits a.observable false)))
    ∙ ap (λ j. flipped (with_additions adds (added a.observable a.bit bits)) (with_additions flips (added j f.bit others))) (sym (ap (λ l. get_or l 0 0) e))
