-- Touches: what a frame does not touch leaves it as it was, and steps part by part.
use Rattle.stab_frames.proofs.Names.{◌≡◌, ℕ, ◌+◌, refl, sym, ◌∙◌, ap, subst, Bool, false, List, [], ◌∷◌, ◌≤◌, length, take, drop, map, get_or, set, All, list_any, take-take, take-map, drop-map, map-append, set-get_or, All-take, All-drop, take-add, Letter, I, X, Y, Z, PairGate, letter_at, pair_letters, image_pair, Axis, ControlledPair, Step, two, controlled_gate, controlled_step, StepFits, or-left, or-right, plus, PropagationState, GoesOver, GoesWithoutCoins, acts, PairFits, touches_pair}
use Rattle.stab_gates.specs.declared.gate.PairGate.TheVariants as gate
use Rattle.stab_instructions.specs.declared.control.ControlledPair.TheVariants as pair
use Rattle.stab_frames.proofs.ImageLemmas.{pair-image}
use Rattle.stab_frames.proofs.GoesOverLemmas.{goes-append, no_coins-none, no_coins-letters, fits-mapped}

-- the pairs are of qubits

pair-fits : (n : ℕ) (axis : Axis) (p : ControlledPair) → StepFits n (controlled_step axis p) → PairFits n p
pair-fits n axis (pair.Qubits p) fits = (fits.0, fits.1)
pair-fits n axis (pair.Record k q) fits = tt

pub pairs-fit : (n : ℕ) (axis : Axis) (pairs : List ControlledPair) → All (StepFits n) (map (controlled_step axis) pairs) → All (PairFits n) pairs
pairs-fit n axis pairs fits = λ i d lt. pair-fits n axis (get_or pairs i d) (fits-mapped n n (controlled_step axis) pairs i d fits lt refl)

-- a pair on which the frame has no letter, and such pairs

no-letter : (l : Letter) → acts l ≡ false → I ≡ l
no-letter I e = refl
no-letter X e = cc
no-letter Y e = cc
no-letter Z e = cc

first-blank : (g : PairGate) → I ≡ letter_at (pair_letters g I I).letters 0
first-blank gate.Cx = refl
first-blank gate.Cy = refl
first-blank gate.Cz = refl
first-blank gate.Swap = refl

second-blank : (g : PairGate) → I ≡ letter_at (pair_letters g I I).letters 1
second-blank gate.Cx = refl
second-blank gate.Cy = refl
second-blank gate.Cz = refl
second-blank gate.Swap = refl

set-same : (letters : List Letter) (q : ℕ) → I ≡ get_or letters q I → set letters q I ≡ letters
set-same letters q e = ap (set letters q) e ∙ set-get_or letters q I

image-blank : (g : PairGate) (letters : List Letter) (a b : ℕ) → I ≡ get_or letters a I → I ≡ get_or letters b I
    → letters ≡ (image_pair g a b (plus letters)).letters
image-blank g letters a b ea eb =
    sym (ap (λ s. set s b I) (set-same letters a ea) ∙ set-same letters b eb)
    ∙ pair-image g letters a b I I I I ea eb (first-blank g) (second-blank g)

pair-untouched : (n : ℕ) (axis : Axis) (p : ControlledPair) (w : PropagationState) → touches_pair w.letters p ≡ false → length w.letters ≡ n
    → GoesWithoutCoins n (controlled_step axis p ∷ []) w w
pair-untouched n axis (pair.Qubits p) w e size =
    let first = no-letter (get_or w.letters p.0 I) (or-left (acts (get_or w.letters p.0 I)) (acts (get_or w.letters p.1 I)) e) in
    let second = no-letter (get_or w.letters p.1 I) (or-right (acts (get_or w.letters p.0 I)) (acts (get_or w.letters p.1 I)) e) in
    no_coins-letters n (two (controlled_gate axis) p.0 p.1) w w w.letters refl size
    (λ pivots. image-blank (controlled_gate axis) w.letters p.0 p.1 first second) (λ pivots. refl) refl
pair-untouched n axis (pair.Record k q) w e size = cc

pub pairs-untouched : (n : ℕ) (axis : Axis) (pairs : List ControlledPair) (w : PropagationState) → list_any (touches_pair w.letters) pairs ≡ false → length w.letters ≡ n
    → GoesWithoutCoins n (map (controlled_step axis) pairs) w w
pairs-untouched n axis [] w e size = no_coins-none n w size
pairs-untouched n axis (p ∷ pairs) w e size = λ strings free draw placed.
    goes-append n strings free draw (controlled_step axis p ∷ []) (map (controlled_step axis) pairs) w w w
    (pair-untouched n axis p w (or-left (touches_pair w.letters p) (list_any (touches_pair w.letters) pairs) e) size strings free draw placed)
    (pairs-untouched n axis pairs w (or-right (touches_pair w.letters p) (list_any (touches_pair w.letters) pairs) e) size strings free draw placed)

-- steps of targets, and those of the next ones

pub goes-part : {X : Type 0} (n : ℕ) (strings : List (List Letter)) (free : List Bool) (draw : ℕ → Bool) (f : X → Step) (xs part : List X) (i k : ℕ)
    (old now new : PropagationState) → GoesOver n strings free draw (map f (take i xs)) old now → part ≡ take k (drop i xs) → GoesOver n strings free draw (map f part) now new
    → GoesOver n strings free draw (map f (take (i + k) xs)) old new
goes-part n strings free draw f xs part i k old now new front is next =
    subst (λ ys. GoesOver n strings free draw ys old new) (sym (ap (map f) (take-add i k xs) ∙ map-append f (take i xs) (take k (drop i xs))))
    (goes-append n strings free draw (map f (take i xs)) (map f (take k (drop i xs))) old now new front
    (subst (λ ys. GoesOver n strings free draw (map f ys) now new) is next))

pub no_coins-part : {X : Type 0} (n m : ℕ) (f : X → Step) (xs part : List X) (i k : ℕ) (old now new : PropagationState) → GoesWithoutCoins n (map f (take i xs)) old now
    → m ≡ n → part ≡ take k (drop i xs) → GoesWithoutCoins m (map f part) now new → GoesWithoutCoins n (map f (take (i + k) xs)) old new
no_coins-part n m f xs part i k old now new front same is next = λ strings free draw placed.
    let here = front strings free draw placed in
    goes-part n strings free draw f xs part i k old now new here is
    (subst (λ j. GoesOver j strings free draw (map f part) now new) same (next strings free draw here.placed))

-- of the next k of them only j, or all

pub goes-less : {X : Type 0} (n : ℕ) (strings : List (List Letter)) (free : List Bool) (draw : ℕ → Bool) (f : X → Step) (xs part : List X) (i j k : ℕ)
    (old now new : PropagationState) → GoesOver n strings free draw (map f (take i xs)) old now → part ≡ take k (drop i xs) → j ≤ k
    → GoesOver n strings free draw (take j (map f part)) now new → GoesOver n strings free draw (map f (take (i + j) xs)) old new
goes-less n strings free draw f xs part i j k old now new front is le next =
    goes-part n strings free draw f xs (take j part) i j old now new front (ap (take j) is ∙ take-take j k (drop i xs) le)
    (subst (λ ys. GoesOver n strings free draw ys now new) (take-map f j part) next)

pub fits-part : {X : Type 0} (n m : ℕ) (f : X → Step) (xs part : List X) (i k : ℕ) → All (StepFits n) (map f xs) → m ≡ n → part ≡ take k (drop i xs)
    → All (StepFits m) (map f part)
fits-part n m f xs part i k fits same is =
    subst (λ j. All (StepFits j) (map f part)) (sym same)
    (subst (All (StepFits n)) (ap (take k) (drop-map f i xs) ∙ take-map f k (drop i xs) ∙ ap (map f) (sym is))
    (All-take (StepFits n) k (drop i (map f xs)) (All-drop (StepFits n) i (map f xs) fits)))
