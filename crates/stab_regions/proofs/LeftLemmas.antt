-- What is left: a region touches a string after a step as the region before the step touches it before, if no letter is left by a reset.
use Rattle.stab_regions.proofs.Names.{◌≡◌, ℕ, zero, suc, ◌<◌, refl, sym, ◌∙◌, ap, arith, Bool, true, false, not, ◌&&◌, List, [], ◌∷◌, ◌++◌, append-nil, length, set, if◌then◌else◌, Letter, I, X, Y, Z, ◌⊕◌, letter_product, letters_anticommute, single, anticommute, strings_anticommute, parity-comm, parity-false, parity-assoc, Step, one, two, controlled, collapse, product, detector, observable, StepFits, looked_up, parity, when, string_of, flip_of, image-length, pair-length, letter_at, length-one_letter, here_one_letter, one_letter-anticommute, get_or-string_product, length-set, Region, with_looks, SingleErrorFrame as RegionFrame, single_error_frame_after as region_frame_after}
use Rattle.stab_gates.proofs.LetterLemmas.{letters_anticommute-I}
use Rattle.stab_pauli.proofs.StringLemmas.{length-string_product, strings_anticommute-product, strings_anticommute-comm}
use Rattle.stab_frames.specs.Frames.{Frame, plus, times_where}
use Rattle.stab_frames.specs.inner.Touches.{acts}
use Rattle.stab_ways.specs.PutIn.{reset_leaves, way_after}
use Rattle.stab_regions.proofs.LookLemmas.{parity-append}
use Rattle.stab_regions.proofs.FramePointLemmas.{anticommute-times}
use Rattle.stab_regions.proofs.SignLemmas.{parity-left}
use Rattle.stab_regions.proofs.TouchLemmas.{touches, touches-next}
use Rattle.stab_regions.specs.inner.EffectsAt.{cleared, cleared_by, effect_before}

-- letters without one of them

pub cleared-touches : (q : ℕ) (f s : List Letter) → strings_anticommute f (set s q I) ≡ strings_anticommute f s ⊕ letters_anticommute (letter_at f q) (letter_at s q)
cleared-touches q [] s = refl
cleared-touches zero (x ∷ f) [] = sym (letters_anticommute-I x)
cleared-touches (suc q) (x ∷ f) [] = sym (letters_anticommute-I (letter_at f q))
cleared-touches zero (x ∷ f) (y ∷ s) =
    ap (λ b. b ⊕ strings_anticommute f s) (letters_anticommute-I x) ∙ once (letters_anticommute x y) (strings_anticommute f s)
  where
    once : (a b : Bool) → b ≡ (a ⊕ b) ⊕ a
    once a b = grind arith
cleared-touches (suc q) (x ∷ f) (y ∷ s) =
    ap (λ b. letters_anticommute x y ⊕ b) (cleared-touches q f s)
    ∙ sym (parity-assoc (letters_anticommute x y) (strings_anticommute f s) (letters_anticommute (letter_at f q) (letter_at s q)))

-- a string times a letter

where-touches : (b : Bool) (more f s : List Letter) → strings_anticommute (times_where b more f) s ≡ strings_anticommute f s ⊕ (b && strings_anticommute more s)
where-touches true more f s = strings_anticommute-product f more s
where-touches false more f s = sym (parity-false (strings_anticommute f s))

where-size : (n : ℕ) (b : Bool) (more f : List Letter) → length more ≡ n → length f ≡ n → length (times_where b more f) ≡ n
where-size n true more f lm lf = length-string_product n f more lf lm
where-size n false more f lm lf = lf

where-letter : (n q : ℕ) (b : Bool) (l : Letter) (f : List Letter) → q < n
    → letter_at (times_where b (single n q l).letters f) q ≡ (if b then letter_product (letter_at f q) l else letter_at f q)
where-letter n q true l f lt = get_or-string_product f (single n q l).letters q ∙ ap (letter_product (letter_at f q)) (here_one_letter n q l lt)
where-letter n q false l f lt = refl

-- a reset leaves what is there except its letter

left-letter : (l x y : Letter)
    → (letters_anticommute l x && letters_anticommute (flip_of l) y)
    ⊕ (not (acts (letter_product (if letters_anticommute l x then letter_product x (flip_of l) else x) l)) && letters_anticommute l y)
    ≡ (acts l && letters_anticommute x y)
left-letter I I y = refl
left-letter I X y = refl
left-letter I Y y = refl
left-letter I Z y = refl
left-letter X I y = refl
left-letter X X y = refl
left-letter X Y y = grind arith
left-letter X Z y = grind arith
left-letter Y I y = refl
left-letter Y X y = grind arith
left-letter Y Y y = refl
left-letter Y Z y = grind arith
left-letter Z I y = refl
left-letter Z X y = grind arith
left-letter Z Y y = grind arith
left-letter Z Z y = refl

-- the letters after a reset, if it multiplies by the letter that corrects it, and then leaves its own out
abbrev reset_by : (n q : ℕ) → Letter → (corrects : Bool) → List Letter → List Letter
reset_by n q l b f = reset_leaves n true l q (times_where b (single n q (flip_of l)).letters f)

cleared-by : (b : Bool) (q : ℕ) (f s : List Letter) → strings_anticommute f (cleared b q s) ≡ strings_anticommute f s ⊕ (b && letters_anticommute (letter_at f q) (letter_at s q))
cleared-by true q f s = cleared-touches q f s
cleared-by false q f s = sym (parity-false (strings_anticommute f s))

reset-touches : (n q : ℕ) (l : Letter) (f s : List Letter) → length f ≡ n → length s ≡ n → q < n
    → strings_anticommute (reset_by n q l (strings_anticommute f (single n q l).letters) f) s ≡ strings_anticommute f (cleared (acts l) q s)
reset-touches n q l f s lf ls lt =
    ap (λ b. strings_anticommute (reset_by n q l b f) s) corrects
    ∙ where-touches (not (acts (letter_product (letter_at g q) l))) (single n q l).letters g s
    ∙ (λ i.
    where-touches a (single n q (flip_of l)).letters f s i
    ⊕ (not (acts (letter_product (where-letter n q a (flip_of l) f lt i) l)) && one_letter-anticommute n q l s ls lt i))
    ∙ ap (λ b. (strings_anticommute f s ⊕ (a && b)) ⊕ leaves) (one_letter-anticommute n q (flip_of l) s ls lt)
    ∙ parity-assoc (strings_anticommute f s) (a && letters_anticommute (flip_of l) y) leaves
    ∙ ap (λ b. strings_anticommute f s ⊕ b) (left-letter l x y)
    ∙ sym (cleared-by (acts l) q f s)
  where
    x : Letter
    x = letter_at f q

    y : Letter
    y = letter_at s q

    a : Bool
    a = letters_anticommute l x

    g : List Letter
    g = times_where a (single n q (flip_of l)).letters f

    leaves : Bool
    leaves = not (acts (letter_product (if a then letter_product x (flip_of l) else x) l)) && letters_anticommute l y

    corrects : strings_anticommute f (single n q l).letters ≡ a
    corrects = strings_anticommute-comm f (single n q l).letters ∙ one_letter-anticommute n q l f lf lt

-- steps

-- a frame of a string without a sign
abbrev pub unsigned : Frame → RegionFrame
unsigned f = record { string = plus f.letters; flips = f.flips }

reset-size : (n q : ℕ) (resets : Bool) (l : Letter) (s : List Letter) → length s ≡ n → length (reset_leaves n resets l q s) ≡ n
reset-size n q resets l s ls = where-size n (resets && not (acts (letter_product (letter_at s q) l))) (single n q l).letters s (length-one_letter n q l) ls

pub way-size : (n : ℕ) (x : Step) (f : Frame) → length f.letters ≡ n → length (way_after n x f).letters ≡ n
way-size n (one g q) f lf = image-length g q (plus f.letters) ∙ lf
way-size n (two g a b) f lf = pair-length g a b (plus f.letters) ∙ lf
way-size n (controlled l k q) f lf = where-size n (looked_up f.flips k) (single n q l).letters f.letters (length-one_letter n q l) lf
way-size n (collapse l q recorded inverted resets) f lf =
    let corrects : Bool = resets && strings_anticommute f.letters (single n q l).letters in
    reset-size n q resets l (times_where corrects (single n q (flip_of l)).letters f.letters)
    (where-size n corrects (single n q (flip_of l)).letters f.letters (length-one_letter n q (flip_of l)) lf)
way-size n (product factors inverted) f lf = lf
way-size n (detector ks) f lf = lf
way-size n (observable j ks) f lf = lf

collapse-touches : (n q : ℕ) (l : Letter) (recorded inverted resets : Bool) (f : Frame) (r : Region) → q < n → length f.letters ≡ n → length r.string.letters ≡ n
    → touches (unsigned (way_after n (collapse l q recorded inverted resets) f)) r
    ≡ touches (region_frame_after n (collapse l q recorded inverted false) (unsigned f)) (cleared_by (collapse l q recorded inverted resets) r)
collapse-touches n q l recorded inverted true f r lt lf lr =
    (λ i. reset-touches n q l f.letters r.string.letters lf lr lt i ⊕ parity (f.flips ++ when recorded (strings_anticommute-comm f.letters (single n q l).letters i)) r.looks)
collapse-touches n q l recorded inverted false f r lt lf lr =
    (λ i. strings_anticommute f.letters r.string.letters ⊕ parity (f.flips ++ when recorded (strings_anticommute-comm f.letters (single n q l).letters i)) r.looks)

cleared-size : (b : Bool) (q : ℕ) (s : List Letter) → length (cleared b q s) ≡ length s
cleared-size true q s = length-set s q I
cleared-size false q s = refl

pub cleared_by-size : (x : Step) (r : Region) → length (cleared_by x r).string.letters ≡ length r.string.letters
cleared_by-size (one g q) r = refl
cleared_by-size (two g a b) r = refl
cleared_by-size (controlled l k q) r = refl
cleared_by-size (collapse l q recorded inverted resets) r = cleared-size (resets && acts l) q r.string.letters
cleared_by-size (product factors inverted) r = refl
cleared_by-size (detector ks) r = refl
cleared_by-size (observable j ks) r = refl

pub touches-way : (n : ℕ) (x : Step) (f : Frame) (r : Region) → StepFits n x → length f.letters ≡ n → length r.string.letters ≡ n
    → touches (unsigned (way_after n x f)) r ≡ touches (unsigned f) (effect_before n x r)
touches-way n (one g q) f r fits lf lr =
    ap (λ bits. anticommute (unsigned (way_after n (one g q) f)).string r.string ⊕ parity bits r.looks) (append-nil f.flips) ∙ touches-next n (one g q) (unsigned f) r fits lf lr
touches-way n (two g a b) f r fits lf lr =
    ap (λ bits. anticommute (unsigned (way_after n (two g a b) f)).string r.string ⊕ parity bits r.looks) (append-nil f.flips) ∙ touches-next n (two g a b) (unsigned f) r fits lf lr
touches-way n (controlled l k q) f r fits lf lr =
    (λ i. (where-touches (looked_up f.flips k) (single n q l).letters f.letters r.string.letters
    ∙ parity-comm (strings_anticommute f.letters r.string.letters) (looked_up f.flips k && anticommute (single n q l) r.string)
    ∙ sym (anticommute-times (looked_up f.flips k) (single n q l) (plus f.letters) r.string)) i
    ⊕ parity (append-nil f.flips i) r.looks)
    ∙ touches-next n (controlled l k q) (unsigned f) r fits lf lr
touches-way n (collapse l q recorded inverted resets) f r fits lf lr =
    collapse-touches n q l recorded inverted resets f r fits lf lr
    ∙ touches-next n (collapse l q recorded inverted false) (unsigned f) (cleared_by (collapse l q recorded inverted resets) r) fits lf
    (cleared-size (resets && acts l) q r.string.letters ∙ lr)
touches-way n (product factors inverted) f r fits lf lr =
    ap (λ b. strings_anticommute f.letters r.string.letters ⊕ parity (f.flips ++ b ∷ []) r.looks) (strings_anticommute-comm f.letters (string_of n factors).letters)
    ∙ touches-next n (product factors inverted) (unsigned f) r fits lf lr
touches-way n (detector ks) f r fits lf lr = ap (λ bits. strings_anticommute f.letters r.string.letters ⊕ parity bits r.looks) (append-nil f.flips)
touches-way n (observable j ks) f r fits lf lr = ap (λ bits. strings_anticommute f.letters r.string.letters ⊕ parity bits r.looks) (append-nil f.flips)

-- what is asked for is added

pub touches-looks : (f : RegionFrame) (ks : List ℕ) (r : Region) → touches f (with_looks ks r) ≡ parity f.flips ks ⊕ touches f r
touches-looks f ks r =
    ap (λ b. anticommute f.string r.string ⊕ b) (parity-append f.flips ks r.looks)
    ∙ sym (parity-left (parity f.flips ks) (anticommute f.string r.string) (parity f.flips r.looks))
