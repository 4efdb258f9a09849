-- Images: what gates make of the letters of a frame.
use Rattle.stab_frames.proofs.Names.{◌≡◌, ℕ, ◌∙◌, ap, arith, List, Option, Some, None, get_or, set, Letter, I, Z, letter_product, letters_anticommute, Gate, PairGate, Cx, Cy, Cz, Swap, letter_at, letter_image, pair_letters, image, image_pair, plus, has_x, letter_where, controlled_letter}

pub gate-image : (g : Gate) (letters : List Letter) (q : ℕ) (l r : Letter) → l ≡ get_or letters q I → r ≡ (letter_image g l).letter
    → set letters q r ≡ (image g q (plus letters)).letters
gate-image g letters q l r el er = ap (set letters q) (er ∙ ap (λ x. (letter_image g x).letter) el)

pub pair-image : (g : PairGate) (letters : List Letter) (a b : ℕ) (l m x y : Letter) → l ≡ get_or letters a I → m ≡ get_or letters b I
    → x ≡ letter_at (pair_letters g l m).letters 0 → y ≡ letter_at (pair_letters g l m).letters 1
    → set (set letters a x) b y ≡ (image_pair g a b (plus letters)).letters
pair-image g letters a b l m x y el em ex ey = λ i.
    set (set letters a ((ex ∙ (λ j. letter_at (pair_letters g (el j) (em j)).letters 0)) i)) b
    ((ey ∙ (λ j. letter_at (pair_letters g (el j) (em j)).letters 1)) i)

-- what a gate on two qubits makes of the letters there, by the letter that it controls: this is put on the second if the first has an X part,
-- and Z on the first if the second anticommutes with it. Without one the letters are exchanged

abbrev pub first_by : Option Letter → (l m : Letter) → Letter
first_by (Some c) l m = letter_product l (letter_where (letters_anticommute m c) Z)
first_by None l m = m

abbrev pub second_by : Option Letter → (l m : Letter) → Letter
second_by (Some c) l m = letter_product m (letter_where (has_x l) c)
second_by None l m = l

pub first_controlled : (g : PairGate) (l m : Letter) → letter_at (pair_letters g l m).letters 0 ≡ first_by (controlled_letter g) l m
first_controlled Cx l m = grind arith
first_controlled Cy l m = grind arith
first_controlled Cz l m = grind arith
first_controlled Swap l m = grind arith

pub second_controlled : (g : PairGate) (l m : Letter) → letter_at (pair_letters g l m).letters 1 ≡ second_by (controlled_letter g) l m
second_controlled Cx l m = grind arith
second_controlled Cy l m = grind arith
second_controlled Cz l m = grind arith
second_controlled Swap l m = grind arith
