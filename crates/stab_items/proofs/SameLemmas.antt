-- Lists that are compared element by element, and the steps that they stand for.
use Rattle.stab_items.proofs.Names.{◌≡◌, ◌==◌, ◌&&◌, rules, refl, sym, ap, ◌∙◌, ℕ, Bool, true, false, List, [], ◌∷◌, map, Decides-eqb, beq, OnTrue, pointwise, OnTrue_from, same_true, sameb, the_type, Axis, ControlledPair, Qubits, Record, Measurement, Factor, MeasureTarget, Step}

pub both_true : (a b : Bool) → (a && b) ≡ true → (a ≡ true) × (b ≡ true)
both_true true b e = (refl, e)
both_true false b e = absurd (cc)

pub same_bool : (a b : Bool) → beq a b ≡ true → a ≡ b
same_bool true true e = refl
same_bool true false e = absurd (cc)
same_bool false true e = absurd (cc)
same_bool false false e = refl

pub same_list : {A : Type 0} (E : A → A → Bool) (xs ys : List A) → ((a b : A) → E a b ≡ true → a ≡ b) → pointwise E xs ys ≡ true → xs ≡ ys
same_list E [] [] determines e = refl
same_list E [] (y ∷ ys) determines e = absurd (cc)
same_list E (x ∷ xs) [] determines e = absurd (cc)
same_list E (x ∷ xs) (y ∷ ys) determines e =
    let both = both_true (E x y) (pointwise E xs ys) e in
    ap (λ z. z ∷ xs) (determines x y both.0) ∙ ap (λ zs. y ∷ zs) (same_list E xs ys determines both.1)

pub determines_qubits : (a b : ℕ) → (a == b) ≡ true → a ≡ b
determines_qubits a b e = (Decides-eqb a b).0 e

pub determines_both : (p q : ℕ × ℕ) → ((p.0 == q.0) && (p.1 == q.1)) ≡ true → p ≡ q
determines_both p q e =
    let both = both_true (p.0 == q.0) (p.1 == q.1) e in
    ap (λ n. (n, p.1)) (determines_qubits p.0 q.0 both.0) ∙ ap (λ n. (q.0, n)) (determines_qubits p.1 q.1 both.1)

pub determines_pairs : (E : ControlledPair → ControlledPair → Bool) → ((p q : ℕ × ℕ) → E (Qubits p) (Qubits q) ≡ ((p.0 == q.0) && (p.1 == q.1)))
    → ((p : ℕ × ℕ) (r k : ℕ) → E (Qubits p) (Record r k) ≡ false) → ((q k : ℕ) (p : ℕ × ℕ) → E (Record q k) (Qubits p) ≡ false)
    → ((q k r l : ℕ) → E (Record q k) (Record r l) ≡ ((q == r) && (k == l))) → (a b : ControlledPair) → E a b ≡ true → a ≡ b
determines_pairs E two left right lone (Qubits p) (Qubits q) e = ap Qubits (determines_both p q (sym (two p q) ∙ e))
determines_pairs E two left right lone (Qubits p) (Record r k) e = let none : true ≡ false = sym e ∙ left p r k in absurd (cc)
determines_pairs E two left right lone (Record q k) (Qubits p) e = let none : true ≡ false = sym e ∙ right q k p in absurd (cc)
determines_pairs E two left right lone (Record q k) (Record r l) e =
    let both = both_true (q == r) (k == l) (sym (lone q k r l) ∙ e) in
    ap (λ n. Record n k) (determines_qubits q r both.0) ∙ ap (λ n. Record r n) (determines_qubits k l both.1)

abbrev target : ℕ → Bool → MeasureTarget
target q i = record { qubit = q; inverted = i }

pub determines_targets : (E : MeasureTarget → MeasureTarget → Bool) → ((a b : MeasureTarget) → E a b ≡ ((a.qubit == b.qubit) && beq a.inverted b.inverted)) → (a b : MeasureTarget) → E a b ≡ true → a ≡ b
determines_targets E is a b e =
    let both = both_true (a.qubit == b.qubit) (beq a.inverted b.inverted) (sym (is a b) ∙ e) in
    ap (λ n. target n a.inverted) (determines_qubits a.qubit b.qubit both.0) ∙ ap (λ i. target b.qubit i) (same_bool a.inverted b.inverted both.1)

pub same_axis : (a b : Axis) → sameb the_type a b ≡ true → a ≡ b
same_axis a b e = same_true the_type (search rules) a b e

measurement : Axis → Bool → Measurement
measurement axis resets = record { axis = axis; resets = resets }

pub same_measurement : (a b : Measurement) → (sameb the_type a.axis b.axis && beq a.resets b.resets) ≡ true → a ≡ b
unfolding measurement
same_measurement a b e =
    let both = both_true (sameb the_type a.axis b.axis) (beq a.resets b.resets) e in
    ap (λ x. measurement x a.resets) (same_axis a.axis b.axis both.0) ∙ ap (λ r. measurement b.axis r) (same_bool a.resets b.resets both.1)

abbrev factor : Axis → ℕ → Bool → Factor
factor l q i = record { letter = l; qubit = q; inverted = i }

pub determines_factors : (E : Factor → Factor → Bool) → ((a b : Factor) → E a b ≡ (sameb the_type a.letter b.letter && ((a.qubit == b.qubit) && beq a.inverted b.inverted)))
    → (a b : Factor) → E a b ≡ true → a ≡ b
determines_factors E is a b e =
    let first = both_true (sameb the_type a.letter b.letter) ((a.qubit == b.qubit) && beq a.inverted b.inverted) (sym (is a b) ∙ e) in
    let rest = both_true (a.qubit == b.qubit) (beq a.inverted b.inverted) first.1 in
    ap (λ l. factor l a.qubit a.inverted) (same_axis a.letter b.letter first.0)
    ∙ ap (λ q. factor b.letter q a.inverted) (determines_qubits a.qubit b.qubit rest.0)
    ∙ ap (λ i. factor b.letter b.qubit i) (same_bool a.inverted b.inverted rest.1)

-- steps of the same kind with the same list
pub same_mapped : {A K : Type 0} (E : A → A → Bool) (determines : (a b : A) → E a b ≡ true → a ≡ b) (f : K → A → Step) (own k : K) (xs ys : List A) (steps : List Step) (r : Bool)
    → steps ≡ map (f k) ys → own ≡ k → r ≡ pointwise E xs ys → OnTrue r (map (f own) xs ≡ steps)
same_mapped E determines f own k xs ys steps r is same e =
    OnTrue_from r (map (f own) xs ≡ steps)
    (λ t. ap (λ j. map (f j) xs) same ∙ ap (map (f k)) (same_list E xs ys determines (sym e ∙ t)) ∙ sym is)
