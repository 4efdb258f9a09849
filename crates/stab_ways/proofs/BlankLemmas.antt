-- Blank frames: the identity goes over steps as the identity, and flips no record.
use Rattle.stab_ways.proofs.Names.{◌≡◌, ℕ, ◌+◌, refl, sym, ◌∙◌, ap, Bool, true, false, ◌&&◌, List, [], ◌∷◌, ◌++◌, replicate, set, arith, append-nil, replicate_more, Letter, I, single, strings_anticommute, strings_anticommute-blank, get_or-blank, set-blank, letter_image, pair_letters, letter_at, image, image_pair, Gate, PairGate, Step, one, two, controlled, collapse, product, detector, observable, makes, records_of, looked_up-zeros, when, string_of, flip_of, plus, times_where, Frame, identity_frame, frame_after, by_letters, acts, not, letter_product, X, Y, Z, string_product, string_product-blank, length-replicate, reset_leaves, step_leaves, way_over}
use Rattle.stab_gates.specs.declared.gate.Gate.TheVariants as on
use Rattle.stab_gates.specs.declared.gate.PairGate.TheVariants as pair

image-of : (g : Gate) → (letter_image g I).letter ≡ I
image-of on.I = refl
image-of on.X = refl
image-of on.Y = refl
image-of on.Z = refl
image-of on.H = refl
image-of on.S = refl
image-of on.SDag = refl
image-of on.CXyz = refl
image-of on.CZyx = refl
image-of on.SqrtX = refl
image-of on.SqrtXDag = refl
image-of on.SqrtY = refl
image-of on.SqrtYDag = refl

first-of : (g : PairGate) → letter_at (pair_letters g I I).letters 0 ≡ I
first-of pair.Cx = refl
first-of pair.Cy = refl
first-of pair.Cz = refl
first-of pair.Swap = refl

second-of : (g : PairGate) → letter_at (pair_letters g I I).letters 1 ≡ I
second-of pair.Cx = refl
second-of pair.Cy = refl
second-of pair.Cz = refl
second-of pair.Swap = refl

-- gates

gate-blank : (n : ℕ) (g : Gate) (q : ℕ) → (image g q (plus (replicate n I))).letters ≡ replicate n I
gate-blank n g q =
    ap (λ l. set (replicate n I) q (letter_image g l).letter) (get_or-blank n q)
    ∙ ap (set (replicate n I) q) (image-of g)
    ∙ set-blank n q

pair-blank : (n : ℕ) (g : PairGate) (a b : ℕ) → (image_pair g a b (plus (replicate n I))).letters ≡ replicate n I
pair-blank n g a b =
    (λ i. set (set (replicate n I) a (letter_at (pair_letters g (get_or-blank n a i) (get_or-blank n b i)).letters 0)) b
    (letter_at (pair_letters g (get_or-blank n a i) (get_or-blank n b i)).letters 1))
    ∙ (λ i. set (set (replicate n I) a (first-of g i)) b (second-of g i))
    ∙ ap (λ s. set s b I) (set-blank n a)
    ∙ set-blank n b

-- a letter that is applied by a bit 0

no-reset : (resets : Bool) (more letters : List Letter) (flip : Bool) → flip ≡ false → times_where (resets && flip) more letters ≡ letters
no-reset true more letters flip e = ap (λ b. times_where b more letters) e
no-reset false more letters flip e = refl

none-more : (r : ℕ) → replicate r false ++ [] ≡ replicate (r + 0) false
none-more r = let none : r + 0 ≡ r = omega arith in append-nil (replicate r false) ∙ ap (λ k. replicate k false) (sym none)

collapse-makes : (l : Letter) (q : ℕ) (recorded inverted resets : Bool) (r : ℕ) (flip : Bool) → flip ≡ false
    → replicate r false ++ when recorded flip ≡ replicate (r + makes (collapse l q recorded inverted resets)) false
collapse-makes l q true inverted resets r flip e = ap (λ b. replicate r false ++ b ∷ []) e ∙ replicate_more r false
collapse-makes l q false inverted resets r flip e = none-more r

-- steps

step-blank : (n : ℕ) (x : Step) (c r : ℕ) → frame_after n by_letters x c (identity_frame n r) ≡ identity_frame n (r + makes x)
step-blank n (one g q) c r = λ i. record { letters = gate-blank n g q i; flips = none-more r i }
step-blank n (two g a b) c r = λ i. record { letters = pair-blank n g a b i; flips = none-more r i }
step-blank n (controlled l k q) c r = λ i. record {
  letters = ap (λ b. times_where b (single n q l).letters (replicate n I)) (looked_up-zeros r k) i;
  flips = none-more r i;
}
step-blank n (collapse l q recorded inverted resets) c r =
    let none = strings_anticommute-blank n (single n q l).letters in (λ i. record {
      letters = no-reset resets (single n q (flip_of l)).letters (replicate n I) (strings_anticommute (replicate n I) (single n q l).letters) none i;
      flips = collapse-makes l q recorded inverted resets r (strings_anticommute (replicate n I) (single n q l).letters) none i;
    })
step-blank n (product factors inverted) c r = λ i. record {
  letters = replicate n I;
  flips = (ap (λ b. replicate r false ++ b ∷ []) (strings_anticommute-blank n (string_of n factors).letters) ∙ replicate_more r false) i;
}
step-blank n (detector ks) c r = λ i. record { letters = replicate n I; flips = none-more r i }
step-blank n (observable j ks) c r = λ i. record { letters = replicate n I; flips = none-more r i }

-- nothing is left out of none

leaves-blank : (n : ℕ) (resets : Bool) (l : Letter) (q : ℕ) → reset_leaves n resets l q (replicate n I) ≡ replicate n I
leaves-blank n resets l q =
    ap (λ x. times_where (resets && not (acts (letter_product x l))) (single n q l).letters (replicate n I)) (get_or-blank n q) ∙ by_letter resets l
  where
    by_letter : (resets : Bool) (l : Letter) → times_where (resets && not (acts l)) (single n q l).letters (replicate n I) ≡ replicate n I
    by_letter false l = refl
    by_letter true I = ap (string_product (replicate n I)) (set-blank n q) ∙ string_product-blank n (replicate n I) (length-replicate n I)
    by_letter true X = refl
    by_letter true Y = refl
    by_letter true Z = refl

step-leaves : (n : ℕ) (x : Step) → step_leaves n x (replicate n I) ≡ replicate n I
step-leaves n (one g q) = refl
step-leaves n (two g a b) = refl
step-leaves n (controlled l k q) = refl
step-leaves n (collapse l q recorded inverted resets) = leaves-blank n resets l q
step-leaves n (product factors inverted) = refl
step-leaves n (detector ks) = refl
step-leaves n (observable j ks) = refl

pub blank-over : (n : ℕ) (xs : List Step) (r : ℕ) → way_over n xs (identity_frame n r) ≡ identity_frame n (r + records_of xs)
blank-over n [] r = let none : r ≡ r + 0 = omega arith in ap (identity_frame n) none
blank-over n (x ∷ xs) r =
    let sum : (r + makes x) + records_of xs ≡ r + (makes x + records_of xs) = omega arith in
    ap (λ (f : Frame). way_over n xs (record f { letters = step_leaves n x f.letters })) (step-blank n x 0 r)
    ∙ ap (λ s. way_over n xs (record { letters = s; flips = replicate (r + makes x) false })) (step-leaves n x)
    ∙ blank-over n xs (r + makes x)
    ∙ ap (identity_frame n) sum
