-- Lengths: how long lists are with what steps give after them, the same from whatever point.
use Rattle.stab_session.proofs.Names.{◌≡◌, ℕ, suc, ◌+◌, ◌-◌, ◌≤◌, refl, sym, ◌∙◌, ap, subst, Bool, true, false, List, [], ◌∷◌, ◌++◌, length, map, take, drop, arith, length-append, take-append-add, drop-append-add, Gate, Axis, Measurement, ControlledPair, MeasureTarget, Step, one, two, controlled, collapse, product, detector, observable, controlled_step, measured, Lengths, Point, RunOutput, nothing, joined, given, next_point, point_after, outputs, lengths_of, outputs-append, longer, AreBelow}
use Rattle.stab_instructions.specs.declared.control.ControlledPair.TheVariants as pair

no_more : (k : ℕ) → k + 0 ≡ k
no_more k = omega arith

pub longer-nothing : (l : Lengths) → longer l (lengths_of nothing) ≡ l
longer-nothing l = λ i. record { records = no_more l.records i; free = no_more l.free i; detectors = no_more l.detectors i; additions = no_more l.additions i }

sum-append : {X : Type 0} (k : ℕ) (xs ys : List X) → k + length (xs ++ ys) ≡ k + length xs + length ys
sum-append k xs ys = let e = length-append xs ys in omega (arith, e)

longer-joined : (l : Lengths) (a b : RunOutput) → longer l (lengths_of (joined a b)) ≡ longer (longer l (lengths_of a)) (lengths_of b)
longer-joined l a b = λ i. record {
  records = sum-append l.records a.records b.records i;
  free = sum-append l.free a.free b.free i;
  detectors = sum-append l.detectors a.detectors b.detectors i;
  additions = sum-append l.additions a.additions b.additions i;
}

lengths-joined : (a b : RunOutput) → lengths_of (joined a b) ≡ longer (lengths_of a) (lengths_of b)
lengths-joined a b = λ i. record {
  records = length-append a.records b.records i;
  free = length-append a.free b.free i;
  detectors = length-append a.detectors b.detectors i;
  additions = length-append a.additions b.additions i;
}

-- the point is irrelevant

given-anywhere : (n : ℕ) (coins : ℕ → Bool) (x : Step) (a b : Point) → lengths_of (given n coins x a) ≡ lengths_of (given n coins x b)
given-anywhere n coins (one g q) a b = refl
given-anywhere n coins (two g p q) a b = refl
given-anywhere n coins (controlled l k q) a b = refl
given-anywhere n coins (collapse l q true inverted resets) a b = refl
given-anywhere n coins (collapse l q false inverted resets) a b = refl
given-anywhere n coins (product factors inverted) a b = refl
given-anywhere n coins (detector ks) a b = refl
given-anywhere n coins (observable j ks) a b = refl

outputs-anywhere : (n : ℕ) (coins : ℕ → Bool) (xs : List Step) (a b : Point) → lengths_of (outputs n coins xs a) ≡ lengths_of (outputs n coins xs b)
outputs-anywhere n coins [] a b = refl
outputs-anywhere n coins (x ∷ xs) a b =
    lengths-joined (given n coins x a) (outputs n coins xs (next_point n coins x a))
    ∙ (λ i. longer (given-anywhere n coins x a b i) (outputs-anywhere n coins xs (next_point n coins x a) (next_point n coins x b) i))
    ∙ sym (lengths-joined (given n coins x b) (outputs n coins xs (next_point n coins x b)))

-- one after the other
longer-append : (n : ℕ) (coins : ℕ → Bool) (xs ys : List Step) (a : Point) (l : Lengths)
    → longer l (lengths_of (outputs n coins (xs ++ ys) a)) ≡ longer (longer l (lengths_of (outputs n coins xs a))) (lengths_of (outputs n coins ys a))
longer-append n coins xs ys a l =
    ap (λ o. longer l (lengths_of o)) (outputs-append n coins xs ys a)
    ∙ longer-joined l (outputs n coins xs a) (outputs n coins ys (point_after n coins xs a))
    ∙ ap (longer (longer l (lengths_of (outputs n coins xs a)))) (outputs-anywhere n coins ys (point_after n coins xs a) a)

-- what the steps of one instruction give

gates-nothing : (n : ℕ) (coins : ℕ → Bool) (g : Gate) (qubits : List ℕ) (a : Point) → outputs n coins (map (one g) qubits) a ≡ nothing
gates-nothing n coins g [] a = refl
gates-nothing n coins g (q ∷ qubits) a = gates-nothing n coins g qubits (next_point n coins (one g q) a)

pairs-nothing : (n : ℕ) (coins : ℕ → Bool) (axis : Axis) (pairs : List ControlledPair) (a : Point) → outputs n coins (map (controlled_step axis) pairs) a ≡ nothing
pairs-nothing n coins axis [] a = refl
pairs-nothing n coins axis (pair.Qubits p ∷ pairs) a = pairs-nothing n coins axis pairs (next_point n coins (controlled_step axis (pair.Qubits p)) a)
pairs-nothing n coins axis (pair.Record q k ∷ pairs) a = pairs-nothing n coins axis pairs (next_point n coins (controlled_step axis (pair.Record q k)) a)

pub longer-gates : (n : ℕ) (coins : ℕ → Bool) (g : Gate) (qubits : List ℕ) (a : Point) (l : Lengths) → l ≡ longer l (lengths_of (outputs n coins (map (one g) qubits) a))
longer-gates n coins g qubits a l = sym (longer-nothing l) ∙ ap (λ o. longer l (lengths_of o)) (sym (gates-nothing n coins g qubits a))

pub longer-pairs : (n : ℕ) (coins : ℕ → Bool) (axis : Axis) (pairs : List ControlledPair) (a : Point) (l : Lengths)
    → l ≡ longer l (lengths_of (outputs n coins (map (controlled_step axis) pairs) a))
longer-pairs n coins axis pairs a l = sym (longer-nothing l) ∙ ap (λ o. longer l (lengths_of o)) (sym (pairs-nothing n coins axis pairs a))

-- a record and a flag for each target, and a bit for each detector

abbrev measured_lengths : ℕ → Lengths
measured_lengths k = record { records = k; free = k; detectors = 0; additions = 0 }

abbrev detected_lengths : ℕ → Lengths
detected_lengths k = record { records = 0; free = 0; detectors = k; additions = 0 }

lengths-measured : (n : ℕ) (coins : ℕ → Bool) (m : Measurement) (targets : List MeasureTarget) (a : Point)
    → lengths_of (outputs n coins (map (measured m) targets) a) ≡ measured_lengths (length targets)
lengths-measured n coins m [] a = refl
lengths-measured n coins m (t ∷ targets) a =
    lengths-joined (given n coins (measured m t) a) (outputs n coins (map (measured m) targets) (next_point n coins (measured m t) a))
    ∙ ap (longer (measured_lengths 1)) (lengths-measured n coins m targets (next_point n coins (measured m t) a))
    ∙ ap measured_lengths {x = 1 + length targets} (omega arith)

lengths-detected : (n : ℕ) (coins : ℕ → Bool) (lists : List (List ℕ)) (a : Point) → lengths_of (outputs n coins (map detector lists) a) ≡ detected_lengths (length lists)
lengths-detected n coins [] a = refl
lengths-detected n coins (ks ∷ lists) a =
    lengths-joined (given n coins (detector ks) a) (outputs n coins (map detector lists) (next_point n coins (detector ks) a))
    ∙ ap (longer (detected_lengths 1)) (lengths-detected n coins lists (next_point n coins (detector ks) a))
    ∙ ap detected_lengths {x = 1 + length lists} (omega arith)

pub longer-measured : (n : ℕ) (coins : ℕ → Bool) (m : Measurement) (targets : List MeasureTarget) (a : Point) (l : Lengths)
    → record l { records = l.records + length targets; free = l.free + length targets } ≡ longer l (lengths_of (outputs n coins (map (measured m) targets) a))
longer-measured n coins m targets a l =
    (λ i. record { records = l.records + length targets; free = l.free + length targets; detectors = sym (no_more l.detectors) i; additions = sym (no_more l.additions) i })
    ∙ ap (longer l) (sym (lengths-measured n coins m targets a))

pub longer-detected : (n : ℕ) (coins : ℕ → Bool) (lists : List (List ℕ)) (a : Point) (l : Lengths) (k : ℕ) → k ≡ length lists
    → record l { detectors = l.detectors + k } ≡ longer l (lengths_of (outputs n coins (map detector lists) a))
longer-detected n coins lists a l k count =
    (λ i. record { records = sym (no_more l.records) i; free = sym (no_more l.free) i; detectors = l.detectors + count i; additions = sym (no_more l.additions) i })
    ∙ ap (longer l) (sym (lengths-detected n coins lists a))

-- no list grows by more than there are steps

pub record AreAtMost (most : ℕ) (l : Lengths) : Type 0 where
  pub records : l.records ≤ most
  pub free : l.free ≤ most
  pub detectors : l.detectors ≤ most
  pub additions : l.additions ≤ most

given-few : (n : ℕ) (coins : ℕ → Bool) (x : Step) (a : Point) → AreAtMost 1 (lengths_of (given n coins x a))
given-few n coins (one g q) a = record { records = omega arith; free = omega arith; detectors = omega arith; additions = omega arith }
given-few n coins (two g p q) a = record { records = omega arith; free = omega arith; detectors = omega arith; additions = omega arith }
given-few n coins (controlled l k q) a = record { records = omega arith; free = omega arith; detectors = omega arith; additions = omega arith }
given-few n coins (collapse l q true inverted resets) a = record { records = omega arith; free = omega arith; detectors = omega arith; additions = omega arith }
given-few n coins (collapse l q false inverted resets) a = record { records = omega arith; free = omega arith; detectors = omega arith; additions = omega arith }
given-few n coins (product factors inverted) a = record { records = omega arith; free = omega arith; detectors = omega arith; additions = omega arith }
given-few n coins (detector ks) a = record { records = omega arith; free = omega arith; detectors = omega arith; additions = omega arith }
given-few n coins (observable j ks) a = record { records = omega arith; free = omega arith; detectors = omega arith; additions = omega arith }

few-append : {X Y : Type 0} (xs ys : List X) (zs : List Y) → length xs ≤ 1 → length ys ≤ length zs → length (xs ++ ys) ≤ suc (length zs)
few-append xs ys zs one_more few = let e = length-append xs ys in omega (arith, e)

outputs-few : (n : ℕ) (coins : ℕ → Bool) (xs : List Step) (a : Point) → AreAtMost (length xs) (lengths_of (outputs n coins xs a))
outputs-few n coins [] a = record { records = omega arith; free = omega arith; detectors = omega arith; additions = omega arith }
outputs-few n coins (x ∷ xs) a =
    let here = given-few n coins x a in
    let later = outputs-few n coins xs (next_point n coins x a) in
    record {
      records = few-append (given n coins x a).records (outputs n coins xs (next_point n coins x a)).records xs here.records later.records;
      free = few-append (given n coins x a).free (outputs n coins xs (next_point n coins x a)).free xs here.free later.free;
      detectors = few-append (given n coins x a).detectors (outputs n coins xs (next_point n coins x a)).detectors xs here.detectors later.detectors;
      additions = few-append (given n coins x a).additions (outputs n coins xs (next_point n coins x a)).additions xs here.additions later.additions;
    }

-- below a limit with all steps that are left, and so with the next of them, and after these with the others

pub below-next : (limit : ℕ) (xs ys rest : List Step) (l : Lengths) → xs ≡ ys ++ rest → AreBelow limit (length xs) l → AreBelow limit (length ys) l
below-next limit xs ys rest l is few =
    let e = ap length is ∙ length-append ys rest in
    record {
      records = omega (arith, e, few.records);
      free = omega (arith, e, few.free);
      detectors = omega (arith, e, few.detectors);
      additions = omega (arith, e, few.additions);
    }

pub below-rest : (limit n : ℕ) (coins : ℕ → Bool) (xs ys rest : List Step) (a : Point) (l new : Lengths) → xs ≡ ys ++ rest
    → new ≡ longer l (lengths_of (outputs n coins ys a)) → AreBelow limit (length xs) l → AreBelow limit (length rest) new
below-rest limit n coins xs ys rest a l new is then few =
    let e = ap length is ∙ length-append ys rest in
    let more = outputs-few n coins ys a in
    subst (AreBelow limit (length rest)) (sym then)
    (record {
      records = omega (arith, e, few.records, more.records);
      free = omega (arith, e, few.free, more.free);
      detectors = omega (arith, e, few.detectors, more.detectors);
      additions = omega (arith, e, few.additions, more.additions);
    })

-- the first of the steps that are left are the next ones and the first of the others

at-most : (most k len : ℕ) → k ≡ len → len ≤ most → most ≡ len + (most - k)
at-most most k len count le = omega (arith, count)

take-next : (most k : ℕ) (xs ys rest : List Step) → xs ≡ ys ++ rest → k ≡ length ys → length ys ≤ most → take most xs ≡ ys ++ take (most - k) rest
take-next most k xs ys rest is count le = (λ i. take (at-most most k (length ys) count le i) (is i)) ∙ take-append-add ys rest (most - k)

pub drop-next : (most k : ℕ) (xs ys rest : List Step) → xs ≡ ys ++ rest → k ≡ length ys → length ys ≤ most → drop (most - k) rest ≡ drop most xs
drop-next most k xs ys rest is count le = sym ((λ i. drop (at-most most k (length ys) count le i) (is i)) ∙ drop-append-add ys rest (most - k))

pub longer-next : (n : ℕ) (coins : ℕ → Bool) (most k : ℕ) (xs ys rest : List Step) (a : Point) (l new : Lengths) → xs ≡ ys ++ rest → k ≡ length ys → length ys ≤ most
    → new ≡ longer l (lengths_of (outputs n coins ys a))
    → longer new (lengths_of (outputs n coins (take (most - k) rest) a)) ≡ longer l (lengths_of (outputs n coins (take most xs) a))
longer-next n coins most k xs ys rest a l new is count le then =
    ap (λ m. longer m (lengths_of (outputs n coins (take (most - k) rest) a))) then
    ∙ sym (longer-append n coins ys (take (most - k) rest) a l)
    ∙ ap (λ zs. longer l (lengths_of (outputs n coins zs a))) (sym (take-next most k xs ys rest is count le))

-- if there are none, or none is to be passed

pub longer-none : (n : ℕ) (coins : ℕ → Bool) (xs : List Step) (a : Point) (l : Lengths) → xs ≡ [] → l ≡ longer l (lengths_of (outputs n coins xs a))
longer-none n coins xs a l none = sym (longer-nothing l) ∙ ap (λ zs. longer l (lengths_of (outputs n coins zs a))) (sym none)
