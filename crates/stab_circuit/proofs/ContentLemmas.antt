-- What a printed content is made of: its name, its arguments and its targets.
use Rattle.stab_circuit.proofs.Names.{◌≡◌, ◌<◌, ◌^◌, refl, sym, subst, ℕ, List, [], ◌∷◌, ◌++◌, Bool, true, false, append-nil, arith, codes, ◌⊎◌, inl, inr, list_all, decimal, nat_tests, Gate, Axis, Factor, ControlledPair, MeasureTarget, Kind, is_digit, IsLookback, is_coordinate_byte, pair_qubits, gate_name, controlled_name, measurement_name, reset_name, kind_name, controlled_text, product_text, kind_arguments, mark_text, target_text, lookback_text, spaced, targets_text}
use Rattle.stab_gates.specs.declared.gate.Gate.TheVariants as one
use Rattle.stab_instructions.specs.declared.axis.Axis.TheVariants as axis
use Rattle.stab_instructions.specs.declared.control.ControlledPair.TheVariants as pair
use Rattle.stab_instructions.specs.declared.operation.Kind.TheVariants as kind
use Rattle.stab_instructions.proofs.BoolLemmas.{both, and_left, and_right}
use Rattle.stab_instructions.proofs.LackLemmas.{Each, Lacks, lacks-append, each_weaker, digits_lack}
use Rattle.stab_instructions.proofs.SureLemmas.{IsQubit, IsMeasured, IsProduct, IsControlled, IsCoordinate, IsGoodKind}
use Rattle.stab_circuit.proofs.NeatLemmas.{Ends, ends-append, solid_word}
use Rattle.stab_circuit.proofs.ReadBackLemmas.{IsWord, AreWords, decimal_digits, decimal_some, target_word, lookback_word, qubits_words, pairs_spaced, pair_qubits_good}
use Rattle.stab_circuit.proofs.FactorLemmas.{product_lacks, product_word}
use Rattle.stab_circuit.proofs.ControlReadBackLemmas.{flat, flat_words, controlled_spaced}
use Rattle.stab_circuit.proofs.ShapeLemmas.{IsName, MayFollow, name_is}

-- names
gate_is : (g : Gate) → IsName (gate_name g)
gate_is one.I = name_is _ _ refl refl
gate_is one.X = name_is _ _ refl refl
gate_is one.Y = name_is _ _ refl refl
gate_is one.Z = name_is _ _ refl refl
gate_is one.H = name_is _ _ refl refl
gate_is one.S = name_is _ _ refl refl
gate_is one.SDag = name_is _ _ refl refl
gate_is one.CXyz = name_is _ _ refl refl
gate_is one.CZyx = name_is _ _ refl refl
gate_is one.SqrtX = name_is _ _ refl refl
gate_is one.SqrtXDag = name_is _ _ refl refl
gate_is one.SqrtY = name_is _ _ refl refl
gate_is one.SqrtYDag = name_is _ _ refl refl

controlled_is : (a : Axis) → IsName (controlled_name a)
controlled_is axis.X = name_is _ _ refl refl
controlled_is axis.Y = name_is _ _ refl refl
controlled_is axis.Z = name_is _ _ refl refl

measured_is : (a : Axis) (resets : Bool) → IsName (measurement_name (record { axis = a; resets = resets }))
measured_is axis.X true = name_is _ _ refl refl
measured_is axis.Y true = name_is _ _ refl refl
measured_is axis.Z true = name_is _ _ refl refl
measured_is axis.X false = name_is _ _ refl refl
measured_is axis.Y false = name_is _ _ refl refl
measured_is axis.Z false = name_is _ _ refl refl

reset_is : (a : Axis) → IsName (reset_name a)
reset_is axis.X = name_is _ _ refl refl
reset_is axis.Y = name_is _ _ refl refl
reset_is axis.Z = name_is _ _ refl refl

pub kind_is : (k : Kind) → IsName (kind_name k)
kind_is (kind.Gate g qubits) = gate_is g
kind_is (kind.Controlled axis pairs) = controlled_is axis
kind_is (kind.Swap pairs) = name_is _ _ refl refl
kind_is (kind.Measure m targets) = measured_is m.axis m.resets
kind_is (kind.Reset axis qubits) = reset_is axis
kind_is (kind.MeasureProducts products) = name_is _ _ refl refl
kind_is (kind.Detector located) = name_is _ _ refl refl
kind_is (kind.ObservableInclude j ks) = name_is _ _ refl refl
kind_is kind.Tick = name_is _ _ refl refl
kind_is (kind.QubitCoords located) = name_is _ _ refl refl
kind_is (kind.ShiftCoords coordinates) = name_is _ _ refl refl

pub repeat_is : IsName (codes "REPEAT")
repeat_is = name_is _ _ refl refl

-- a test that fails on all that targets are made of
pub record IsClear (p : ℕ → Bool) : Type 0 where
  pub digits : (d : ℕ) → is_digit d ≡ true → p d ≡ false
  pub marks : Lacks p (codes "!rec[-]*XYZ")
  pub space : p 32 ≡ false

-- nothing, or something that ends without spacing
abbrev pub EndsWell : List ℕ → Type 0
EndsWell bs = (bs ≡ []) ⊎ Ends bs

pub ends_well : (xs ys : List ℕ) → Ends xs → EndsWell ys → Ends (xs ++ ys)
ends_well xs ys e (inl n) = subst (λ l. Ends (xs ++ l)) (sym n) (subst Ends (sym (append-nil xs)) e)
ends_well xs ys e (inr f) = ends-append xs ys f

pub well_well : (xs ys : List ℕ) → EndsWell xs → EndsWell ys → EndsWell (xs ++ ys)
well_well xs ys (inl n) f = subst (λ l. EndsWell (l ++ ys)) (sym n) f
well_well xs ys (inr e) f = inr (ends_well xs ys e f)

-- targets as they are printed
pub record AreTargets (text : List ℕ) : Type 0 where
  pub can_follow : MayFollow text
  pub ends : EndsWell text
  pub lacks : (p : ℕ → Bool) → IsClear p → Lacks p text

-- each of these is printed with such bytes alone
abbrev AreClear : {X : Type 0} → (X → List ℕ) → List X → Type 0
AreClear text xs = Each (λ x. (p : ℕ → Bool) → IsClear p → Lacks p (text x)) xs

spaced_may_follow : {X : Type 0} (text : X → List ℕ) (xs : List X) → MayFollow (spaced text xs)
spaced_may_follow text [] = tt
spaced_may_follow text (x ∷ xs) = refl

spaced_ends : {X : Type 0} (text : X → List ℕ) (xs : List X) → AreWords text xs → EndsWell (spaced text xs)
spaced_ends text [] w = inl refl
spaced_ends text (x ∷ xs) w = inr (ends-append (codes " ") (text x ++ spaced text xs) (ends_well (text x) (spaced text xs) (solid_word (text x) w.0.0 w.0.1).ends (spaced_ends text xs w.1)))

spaced_lacks : {X : Type 0} (text : X → List ℕ) (xs : List X) (p : ℕ → Bool) → IsClear p → AreClear text xs → Lacks p (spaced text xs)
spaced_lacks text [] p c f = tt
spaced_lacks text (x ∷ xs) p c f = (c.space, lacks-append p (text x) (spaced text xs) (f.0 p c) (spaced_lacks text xs p c f.1))

pub spaced_targets : {X : Type 0} (text : X → List ℕ) (xs : List X) → AreWords text xs → AreClear text xs → AreTargets (spaced text xs)
spaced_targets text xs w f = record { can_follow = spaced_may_follow text xs; ends = spaced_ends text xs w; lacks = λ p c. spaced_lacks text xs p c f }

no_targets : AreTargets []
no_targets = record { can_follow = tt; ends = inl refl; lacks = λ p c. tt }

decimal_clear : (n : ℕ) → n < 2 ^ 64 → (p : ℕ → Bool) → IsClear p → Lacks p (decimal n)
decimal_clear n wide p c = digits_lack p (decimal n) c.digits (decimal_digits n wide)

mark_clear : (b : Bool) (p : ℕ → Bool) → IsClear p → Lacks p (mark_text b)
mark_clear true p c = (c.marks.0, tt)
mark_clear false p c = tt

target_clear : (t : MeasureTarget) → IsMeasured t → (p : ℕ → Bool) → IsClear p → Lacks p (target_text t)
target_clear t small p c = lacks-append p (mark_text t.inverted) (decimal t.qubit) (mark_clear t.inverted p c) (decimal_clear t.qubit (omega (arith, small)) p c)

lookback_clear : (k : ℕ) → IsLookback k → (p : ℕ → Bool) → IsClear p → Lacks p (lookback_text k)
lookback_clear k small p c =
    let m = c.marks in
    lacks-append p (codes "rec[-") (decimal k ++ codes "]") (m.1.0, (m.1.1.0, (m.1.1.1.0, (m.1.1.1.1.0, (m.1.1.1.1.1.0, tt)))))
    (lacks-append p (decimal k) (codes "]") (decimal_clear k (omega (arith, small.1)) p c) (m.1.1.1.1.1.1.0, tt))

qubit_targets : (qs : List ℕ) → Each IsQubit qs → AreTargets (spaced decimal qs)
qubit_targets qs g =
    spaced_targets decimal qs (qubits_words qs g) (each_weaker IsQubit (λ q. (p : ℕ → Bool) → IsClear p → Lacks p (decimal q)) qs (λ q small. decimal_clear q (omega (arith, small))) g)

lookback_targets : (ks : List ℕ) → Each IsLookback ks → AreTargets (spaced lookback_text ks)
lookback_targets ks g =
    spaced_targets lookback_text ks (each_weaker IsLookback (λ k. IsWord (lookback_text k)) ks lookback_word g)
    (each_weaker IsLookback (λ k. (p : ℕ → Bool) → IsClear p → Lacks p (lookback_text k)) ks lookback_clear g)

product_clear : (fs : List Factor) → IsProduct fs → (p : ℕ → Bool) → IsClear p → Lacks p (product_text fs)
product_clear fs g p c =
    let m = c.marks.1.1.1.1.1.1.1 in
    product_lacks p c.digits (c.marks.0, (m.1.0, (m.1.1.0, (m.1.1.1.0, tt)))) m.0 fs g.0

product_targets : (products : List (List Factor)) → Each IsProduct products → AreTargets (spaced product_text products)
product_targets products g =
    spaced_targets product_text products (each_weaker IsProduct (λ fs. IsWord (product_text fs)) products product_word g)
    (each_weaker IsProduct (λ fs. (p : ℕ → Bool) → IsClear p → Lacks p (product_text fs)) products product_clear g)

controlled_clear : (pairs : List ControlledPair) → Each IsControlled pairs → AreClear (λ w. w) (flat pairs)
controlled_clear [] g = tt
controlled_clear (pair.Qubits a ∷ pairs) g = (decimal_clear a.0 (omega (arith, g.0.0)), (decimal_clear a.1 (omega (arith, g.0.1)), controlled_clear pairs g.1))
controlled_clear (pair.Record q k ∷ pairs) g = (lookback_clear k g.0.0, (decimal_clear q (omega (arith, g.0.1)), controlled_clear pairs g.1))

controlled_targets : (pairs : List ControlledPair) → Each IsControlled pairs → AreTargets (spaced controlled_text pairs)
controlled_targets pairs g = subst AreTargets (sym (controlled_spaced pairs)) (spaced_targets (λ w. w) (flat pairs) (flat_words pairs g) (controlled_clear pairs g))

pub kind_targets : (k : Kind) → IsGoodKind k → AreTargets (targets_text k)
kind_targets (kind.Gate gate qubits) g = qubit_targets qubits g
kind_targets (kind.Controlled axis pairs) g = controlled_targets pairs g
kind_targets (kind.Swap pairs) g = subst AreTargets (sym (pairs_spaced pairs)) (qubit_targets (pair_qubits pairs) (pair_qubits_good pairs g))
kind_targets (kind.Measure m targets) g =
    spaced_targets target_text targets (each_weaker IsMeasured (λ t. IsWord (target_text t)) targets target_word g)
    (each_weaker IsMeasured (λ t. (p : ℕ → Bool) → IsClear p → Lacks p (target_text t)) targets target_clear g)
kind_targets (kind.Reset axis qubits) g = qubit_targets qubits g
kind_targets (kind.MeasureProducts products) g = product_targets products g
kind_targets (kind.Detector located) g = lookback_targets located.1 g.1
kind_targets (kind.ObservableInclude j ks) g = lookback_targets ks g.1
kind_targets kind.Tick g = no_targets
kind_targets (kind.QubitCoords located) g = qubit_targets located.1 g.1
kind_targets (kind.ShiftCoords coordinates) g = no_targets

-- arguments are made of digits, and of a few other bytes
digits_coordinate : (ds : List ℕ) → list_all is_digit ds ≡ true → list_all is_coordinate_byte ds ≡ true
digits_coordinate [] h = refl
digits_coordinate (d ∷ ds) h =
    both (is_coordinate_byte d) (list_all is_coordinate_byte ds) (digit_coordinate d (and_left (is_digit d) (list_all is_digit ds) h)) (digits_coordinate ds (and_right (is_digit d) (list_all is_digit ds) h))
  where
    digit_coordinate : (b : ℕ) → is_digit b ≡ true → is_coordinate_byte b ≡ true
    digit_coordinate b e = grind (arith, nat_tests)

decimal_coordinate : (n : ℕ) → n < 2 ^ 64 → IsCoordinate (decimal n)
decimal_coordinate n wide = (decimal_some n wide, digits_coordinate (decimal n) (decimal_digits n wide))

pub kind_coordinates : (k : Kind) → IsGoodKind k → Each IsCoordinate (kind_arguments k)
kind_coordinates (kind.Gate gate qubits) g = tt
kind_coordinates (kind.Controlled axis pairs) g = tt
kind_coordinates (kind.Swap pairs) g = tt
kind_coordinates (kind.Measure m targets) g = tt
kind_coordinates (kind.Reset axis qubits) g = tt
kind_coordinates (kind.MeasureProducts products) g = tt
kind_coordinates (kind.Detector located) g = g.0
kind_coordinates (kind.ObservableInclude j ks) g = (decimal_coordinate j (omega (arith, g.0)), tt)
kind_coordinates kind.Tick g = tt
kind_coordinates (kind.QubitCoords located) g = g.0
kind_coordinates (kind.ShiftCoords coordinates) g = g
