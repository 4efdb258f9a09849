-- Gates on rows: how what X and Z flip before a gate follows from what they flip after it.
use Rattle.stab_regions.proofs.Names.{◌≡◌, ◌≢◌, ℕ, ◌<◌, sym, subst, ◌∙◌, ap, arith, Bool, true, false, ◌&&◌, if◌then◌else◌, ◌⊎◌, inl, inr, List, [], length, set, Result, Ok, Err, OnOk, cases_eq, get_or-set_same, get_or-set_other, Letter, I, X, Y, Z, ◌⊕◌, letters_anticommute, Gate, letter_at, letter_image, inverse, back, has_both, exchanges, odd, row, TogglesWhere, MovesLetters}

-- what a letter flips, by what X and Z flip
abbrev pub by_parts : Letter → Bool → Bool → Bool
by_parts I a b = false
by_parts X a b = a
by_parts Y a b = a ⊕ b
by_parts Z a b = b

-- what X flips before a gate, and what Z does: what the gate makes of them, after it
abbrev pub x_before : Gate → Bool → Bool → Bool
x_before g = by_parts (letter_image g X).letter

abbrev pub z_before : Gate → Bool → Bool → Bool
z_before g = by_parts (letter_image g Z).letter

x-letter : (g : Gate) (l : Letter) → letters_anticommute X (letter_image (inverse g) l).letter ≡ x_before g (letters_anticommute X l) (letters_anticommute Z l)
x-letter g l = grind arith

z-letter : (g : Gate) (l : Letter) → letters_anticommute Z (letter_image (inverse g) l).letter ≡ z_before g (letters_anticommute X l) (letters_anticommute Z l)
z-letter g l = grind arith

-- rows are mixed on one qubit, and the others stay
pub record Mixes (q : ℕ) (x z : Bool → Bool → Bool) (old_x old_z new_x new_z : List (List ℕ)) : Type 0 where
  pub x_here : (i : ℕ) → odd i (row new_x q) ≡ x (odd i (row old_x q)) (odd i (row old_z q))
  pub z_here : (i : ℕ) → odd i (row new_z q) ≡ z (odd i (row old_x q)) (odd i (row old_z q))
  pub x_elsewhere : (k : ℕ) → k ≢ q → row new_x k ≡ row old_x k
  pub z_elsewhere : (k : ℕ) → k ≢ q → row new_z k ≡ row old_z k

-- a row that is mixed shows the letter that the gate makes
row-moves : (i : ℕ) (p : Letter) (old new : List (List ℕ)) (letters : List Letter) (q : ℕ) (l : Letter) → q < length letters
    → odd i (row new q) ≡ letters_anticommute p l
    → ((k : ℕ) → k ≢ q → row new k ≡ row old k)
    → ((k : ℕ) → odd i (row old k) ≡ letters_anticommute p (letter_at letters k))
    → (k : ℕ) → odd i (row new k) ≡ letters_anticommute p (letter_at (set letters q l) k)
row-moves i p old new letters q l lt here elsewhere shows k = at (cases_eq k q)
  where
    at : (k ≡ q) ⊎ (k ≡ q → ⊥) → odd i (row new k) ≡ letters_anticommute p (letter_at (set letters q l) k)
    at (inl e) =
        ap (λ j. odd i (row new j)) e ∙ here
        ∙ ap (letters_anticommute p) (sym (get_or-set_same letters q l I lt))
        ∙ ap (λ j. letters_anticommute p (letter_at (set letters q l) j)) (sym e)
    at (inr ne) = ap (odd i) (elsewhere k ne) ∙ shows k ∙ ap (letters_anticommute p) (sym (get_or-set_other letters q k l I ne))

pub gate-moves : (g : Gate) (n q : ℕ) (old_x old_z new_x new_z : List (List ℕ)) → q < n
    → Mixes q (x_before g) (z_before g) old_x old_z new_x new_z → MovesLetters n (λ i. back g q) old_x old_z new_x new_z
gate-moves g n q old_x old_z new_x new_z lt m i s long shows =
    let inside : q < length s.letters = subst (λ j. q < j) (sym long) lt in
    let l = letter_at s.letters q in
    record {
      x = row-moves i X old_x new_x s.letters q (letter_image (inverse g) l).letter inside
          (m.x_here i ∙ ap (λ a. x_before g a (odd i (row old_z q))) (shows.x q) ∙ ap (x_before g (letters_anticommute X l)) (shows.z q) ∙ sym (x-letter g l))
          m.x_elsewhere shows.x;
      z = row-moves i Z old_z new_z s.letters q (letter_image (inverse g) l).letter inside
          (m.z_here i ∙ ap (λ a. z_before g a (odd i (row old_z q))) (shows.x q) ∙ ap (z_before g (letters_anticommute X l)) (shows.z q) ∙ sym (z-letter g l))
          m.z_elsewhere shows.z;
    }

-- what follows of what an answer that is Ok says
pub on_ok : {A E : Type 0} (r : Result A E) (P Q : Type 0) → (P → Q) → OnOk r P → OnOk r Q
on_ok (Ok a) P Q f p = f p
on_ok (Err e) P Q f p = tt

-- what X flips before a gate, and what Z does, if it is made in place: by an exchange, after which one may be added to the other

abbrev pub x_mixed : (exchanged x_both : Bool) → Bool → Bool → Bool
x_mixed exchanged x_both a b = (if exchanged then b else a) ⊕ (x_both && (if exchanged then a else b))

abbrev pub z_mixed : (exchanged x_both z_both : Bool) → Bool → Bool → Bool
z_mixed exchanged x_both z_both a b = (if exchanged then a else b) ⊕ (z_both && x_mixed exchanged x_both a b)

abbrev exchanged_by : Gate → Bool
exchanged_by g = exchanges (letter_image g X).letter (letter_image g Z).letter

x-mixed : (g : Gate) (a b : Bool) → x_mixed (exchanged_by g) (has_both (letter_image g X).letter) a b ≡ x_before g a b
x-mixed g a b = grind arith

z-mixed : (g : Gate) (a b : Bool) → z_mixed (exchanged_by g) (has_both (letter_image g X).letter) (has_both (letter_image g Z).letter) a b ≡ z_before g a b
z-mixed g a b = grind arith

-- a row that is exchanged for another, if the bit is 1

row-exchanged : (bit : Bool) (old new : List (List ℕ)) (q : ℕ) (r : List ℕ) (i : ℕ) → q < length old → new ≡ (if bit then set old q r else old)
    → odd i (row new q) ≡ (if bit then odd i r else odd i (row old q))
row-exchanged true old new q r i lt e = ap (λ rows. odd i (row rows q)) e ∙ ap (odd i) (get_or-set_same old q r [] lt)
row-exchanged false old new q r i lt e = ap (λ rows. odd i (row rows q)) e

row-retained : (bit : Bool) (old new : List (List ℕ)) (q k : ℕ) (r : List ℕ) → k ≢ q → new ≡ (if bit then set old q r else old) → row new k ≡ row old k
row-retained true old new q k r ne e = ap (λ rows. row rows k) e ∙ get_or-set_other old q k r [] ne
row-retained false old new q k r ne e = ap (λ rows. row rows k) e

pub images-mix : (g : Gate) (of_x of_z : Letter) (exchanged x_both z_both : Bool) (q : ℕ) (x z mid_x mid_z new_x new_z : List (List ℕ)) → q < length x → q < length z
    → of_x ≡ (letter_image g X).letter → of_z ≡ (letter_image g Z).letter
    → exchanged ≡ exchanges of_x of_z → x_both ≡ has_both of_x → z_both ≡ has_both of_z
    → mid_x ≡ (if exchanged then set x q (row z q) else x) → mid_z ≡ (if exchanged then set z q (row x q) else z)
    → TogglesWhere x_both mid_x new_x q (row mid_z q) → TogglesWhere z_both mid_z new_z q (row new_x q)
    → Mixes q (x_before g) (z_before g) x z new_x new_z
images-mix g of_x of_z exchanged x_both z_both q x z mid_x mid_z new_x new_z lx lz is_x is_z exchanges_is x_is z_is ex ez tx tz =
    let e : exchanged ≡ exchanged_by g = exchanges_is ∙ (λ k. exchanges (is_x k) (is_z k)) in
    let fx : x_both ≡ has_both (letter_image g X).letter = x_is ∙ ap has_both is_x in
    let fz : z_both ≡ has_both (letter_image g Z).letter = z_is ∙ ap has_both is_z in
    let at_x : (i : ℕ) → odd i (row new_x q) ≡ x_mixed exchanged x_both (odd i (row x q)) (odd i (row z q)) =
    λ i. tx.here i ∙ (λ k. row-exchanged exchanged x mid_x q (row z q) i lx ex k ⊕ (x_both && row-exchanged exchanged z mid_z q (row x q) i lz ez k)) in
    record {
      x_here = λ i. at_x i ∙ (λ k. x_mixed (e k) (fx k) (odd i (row x q)) (odd i (row z q))) ∙ x-mixed g _ _;
      z_here = λ i.
          tz.here i ∙ (λ k. row-exchanged exchanged z mid_z q (row x q) i lz ez k ⊕ (z_both && at_x i k))
          ∙ (λ k. z_mixed (e k) (fx k) (fz k) (odd i (row x q)) (odd i (row z q))) ∙ z-mixed g _ _;
      x_elsewhere = λ k ne. tx.elsewhere k ne ∙ row-retained exchanged x mid_x q k (row z q) ne ex;
      z_elsewhere = λ k ne. tz.elsewhere k ne ∙ row-retained exchanged z mid_z q k (row x q) ne ez;
    }
