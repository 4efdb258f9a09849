-- Gates on two qubits on rows: what X and Z flip before them on each of the two, by what they flip after them.
use Rattle.stab_regions.proofs.Names.{◌≡◌, ◌≢◌, ℕ, ◌<◌, refl, sym, subst, ◌∙◌, ap, arith, Bool, ◌&&◌, Option, Some, None, ◌⊎◌, inl, inr, List, [], length, set, cases_eq, get_or-set_same, get_or-set_other, length-set, Letter, I, X, Z, ◌⊕◌, letters_anticommute, PairGate, letter_at, pair_letters, back_pair, controlled_letter, first_by, second_by, first_controlled, second_controlled, odd, row, TogglesWhere, MovesLetters}

-- what X flips before a gate on the first qubit, what Z does, and the same for the second, by what X and Z flip after it on the
-- first and on the second: by the letter that it controls, or if it exchanges them
abbrev pub first_x : Option Letter → (a b c d : Bool) → Bool
first_x (Some l) a b c d = (a ⊕ (letters_anticommute l Z && c)) ⊕ (letters_anticommute l X && d)
first_x None a b c d = c

abbrev pub first_z : Option Letter → (a b c d : Bool) → Bool
first_z (Some l) a b c d = b
first_z None a b c d = d

abbrev pub second_x : Option Letter → (a b c d : Bool) → Bool
second_x (Some l) a b c d = c ⊕ (letters_anticommute l X && b)
second_x None a b c d = a

abbrev pub second_z : Option Letter → (a b c d : Bool) → Bool
second_z (Some l) a b c d = d ⊕ (letters_anticommute l Z && b)
second_z None a b c d = b

-- the letters that such a gate makes are so
record IsMixed (c : Option Letter) (l m : Letter) : Type 0 where
  x_first : letters_anticommute X (first_by c l m) ≡ first_x c (letters_anticommute X l) (letters_anticommute Z l) (letters_anticommute X m) (letters_anticommute Z m)
  z_first : letters_anticommute Z (first_by c l m) ≡ first_z c (letters_anticommute X l) (letters_anticommute Z l) (letters_anticommute X m) (letters_anticommute Z m)
  x_second : letters_anticommute X (second_by c l m) ≡ second_x c (letters_anticommute X l) (letters_anticommute Z l) (letters_anticommute X m) (letters_anticommute Z m)
  z_second : letters_anticommute Z (second_by c l m) ≡ second_z c (letters_anticommute X l) (letters_anticommute Z l) (letters_anticommute X m) (letters_anticommute Z m)

mixed : (c : Option Letter) (l m : Letter) → IsMixed c l m
mixed (Some c) l m = record { x_first = grind arith; z_first = grind arith; x_second = grind arith; z_second = grind arith }
mixed None l m = record { x_first = refl; z_first = refl; x_second = refl; z_second = refl }

-- a row that is mixed shows the letters that the gate makes
row-moves-pair : (i : ℕ) (p : Letter) (old new : List (List ℕ)) (letters : List Letter) (a b : ℕ) (l m : Letter) → a < length letters → b < length letters → b ≢ a
    → odd i (row new a) ≡ letters_anticommute p l
    → odd i (row new b) ≡ letters_anticommute p m
    → ((k : ℕ) → k ≢ a → k ≢ b → row new k ≡ row old k)
    → ((k : ℕ) → odd i (row old k) ≡ letters_anticommute p (letter_at letters k))
    → (k : ℕ) → odd i (row new k) ≡ letters_anticommute p (letter_at (set (set letters a l) b m) k)
row-moves-pair i p old new letters a b l m la lb distinct first second elsewhere shows k = at (cases_eq k b) (cases_eq k a)
  where
    inside : b < length (set letters a l)
    inside = subst (λ n. b < n) (sym (length-set letters a l)) lb

    at : (k ≡ b) ⊎ (k ≡ b → ⊥) → (k ≡ a) ⊎ (k ≡ a → ⊥) → odd i (row new k) ≡ letters_anticommute p (letter_at (set (set letters a l) b m) k)
    at (inl e) other =
        ap (λ j. odd i (row new j)) e ∙ second
        ∙ ap (letters_anticommute p) (sym (get_or-set_same (set letters a l) b m I inside))
        ∙ ap (λ j. letters_anticommute p (letter_at (set (set letters a l) b m) j)) (sym e)
    at (inr ne) (inl e) =
        ap (λ j. odd i (row new j)) e ∙ first
        ∙ ap (letters_anticommute p) (sym (get_or-set_same letters a l I la))
        ∙ ap (λ j. letters_anticommute p (letter_at (set letters a l) j)) (sym e)
        ∙ ap (letters_anticommute p) (sym (get_or-set_other (set letters a l) b k m I ne))
    at (inr ne) (inr no_first) =
        ap (odd i) (elsewhere k no_first ne) ∙ shows k
        ∙ ap (letters_anticommute p) (sym (get_or-set_other letters a k l I no_first))
        ∙ ap (letters_anticommute p) (sym (get_or-set_other (set letters a l) b k m I ne))

-- rows are mixed on two qubits, and the others stay
pub record MixesPair (g : Option Letter) (a b : ℕ) (old_x old_z new_x new_z : List (List ℕ)) : Type 0 where
  pub x_first : (i : ℕ) → odd i (row new_x a) ≡ first_x g (odd i (row old_x a)) (odd i (row old_z a)) (odd i (row old_x b)) (odd i (row old_z b))
  pub z_first : (i : ℕ) → odd i (row new_z a) ≡ first_z g (odd i (row old_x a)) (odd i (row old_z a)) (odd i (row old_x b)) (odd i (row old_z b))
  pub x_second : (i : ℕ) → odd i (row new_x b) ≡ second_x g (odd i (row old_x a)) (odd i (row old_z a)) (odd i (row old_x b)) (odd i (row old_z b))
  pub z_second : (i : ℕ) → odd i (row new_z b) ≡ second_z g (odd i (row old_x a)) (odd i (row old_z a)) (odd i (row old_x b)) (odd i (row old_z b))
  pub x_elsewhere : (k : ℕ) → k ≢ a → k ≢ b → row new_x k ≡ row old_x k
  pub z_elsewhere : (k : ℕ) → k ≢ a → k ≢ b → row new_z k ≡ row old_z k

-- bits that are the same give the same
same-bits : (f : Bool → Bool → Bool → Bool → Bool) (a b c d e g h j : Bool) → a ≡ e → b ≡ g → c ≡ h → d ≡ j → f a b c d ≡ f e g h j
same-bits f a b c d e g h j p q r s = λ k. f (p k) (q k) (r k) (s k)

to-first : (g : PairGate) (l m p : Letter) → letters_anticommute p (first_by (controlled_letter g) l m) ≡ letters_anticommute p (letter_at (pair_letters g l m).letters 0)
to-first g l m p = ap (letters_anticommute p) (sym (first_controlled g l m))

to-second : (g : PairGate) (l m p : Letter) → letters_anticommute p (second_by (controlled_letter g) l m) ≡ letters_anticommute p (letter_at (pair_letters g l m).letters 1)
to-second g l m p = ap (letters_anticommute p) (sym (second_controlled g l m))

pub pair-moves : (g : PairGate) (n a b : ℕ) (old_x old_z new_x new_z : List (List ℕ)) → a < n → b < n → b ≢ a
    → MixesPair (controlled_letter g) a b old_x old_z new_x new_z → MovesLetters n (λ i. back_pair g a b) old_x old_z new_x new_z
pair-moves g n a b old_x old_z new_x new_z la lb distinct w i s long shows =
    let ia : a < length s.letters = subst (λ j. a < j) (sym long) la in
    let ib : b < length s.letters = subst (λ j. b < j) (sym long) lb in
    let l = letter_at s.letters a in
    let m = letter_at s.letters b in
    let c = controlled_letter g in
    let t = mixed c l m in
    let bits = λ (f : Bool → Bool → Bool → Bool → Bool). same-bits f _ _ _ _ _ _ _ _ (shows.x a) (shows.z a) (shows.x b) (shows.z b) in
    record {
      x = row-moves-pair i X old_x new_x s.letters a b _ _ ia ib distinct (w.x_first i ∙ bits (first_x c) ∙ sym t.x_first ∙ to-first g l m X) (w.x_second i ∙ bits (second_x c) ∙ sym t.x_second ∙ to-second g l m X) w.x_elsewhere shows.x;
      z = row-moves-pair i Z old_z new_z s.letters a b _ _ ia ib distinct (w.z_first i ∙ bits (first_z c) ∙ sym t.z_first ∙ to-first g l m Z) (w.z_second i ∙ bits (second_z c) ∙ sym t.z_second ∙ to-second g l m Z) w.z_elsewhere shows.z;
    }

pub pair-moves-as : (g : PairGate) (c : Option Letter) → controlled_letter g ≡ c → (n a b : ℕ) (old_x old_z new_x new_z : List (List ℕ)) → a < n → b < n → b ≢ a
    → MixesPair c a b old_x old_z new_x new_z → MovesLetters n (λ i. back_pair g a b) old_x old_z new_x new_z
pair-moves-as g c e n a b old_x old_z new_x new_z la lb distinct w =
    pair-moves g n a b old_x old_z new_x new_z la lb distinct (subst (λ k. MixesPair k a b old_x old_z new_x new_z) (sym e) w)

other-way : (a b : ℕ) → b ≢ a → a ≢ b
other-way a b ne e = ne (sym e)

-- toggled rows
pub control-mixes : (l : Letter) (a b : ℕ) (old_x old_z one_x two_x new_x new_z : List (List ℕ)) → b ≢ a
    → TogglesWhere (letters_anticommute l Z) old_x one_x a (row old_x b) → TogglesWhere (letters_anticommute l X) one_x two_x a (row old_z b)
    → TogglesWhere (letters_anticommute l X) two_x new_x b (row old_z a) → TogglesWhere (letters_anticommute l Z) old_z new_z b (row old_z a)
    → MixesPair (Some l) a b old_x old_z new_x new_z
control-mixes l a b old_x old_z one_x two_x new_x new_z distinct f g s z = record {
  x_first = λ i. ap (odd i) (s.elsewhere a (other-way a b distinct)) ∙ g.here i ∙ ap (λ x. x ⊕ (letters_anticommute l X && odd i (row old_z b))) (f.here i);
  z_first = λ i. ap (odd i) (z.elsewhere a (other-way a b distinct));
  x_second = λ i. s.here i ∙ ap (λ r. odd i r ⊕ (letters_anticommute l X && odd i (row old_z a))) (g.elsewhere b distinct ∙ f.elsewhere b distinct);
  z_second = z.here;
  x_elsewhere = λ k na nb. s.elsewhere k nb ∙ g.elsewhere k na ∙ f.elsewhere k na;
  z_elsewhere = λ k na nb. z.elsewhere k nb;
}

-- exchanged rows
row-first : (old new : List (List ℕ)) (a b : ℕ) → a < length old → b ≢ a → new ≡ set (set old a (row old b)) b (row old a) → row new a ≡ row old b
row-first old new a b la distinct e =
    ap (λ rows. row rows a) e ∙ get_or-set_other (set old a (row old b)) b a (row old a) [] (other-way a b distinct) ∙ get_or-set_same old a (row old b) [] la

row-second : (old new : List (List ℕ)) (a b : ℕ) → b < length old → new ≡ set (set old a (row old b)) b (row old a) → row new b ≡ row old a
row-second old new a b lb e =
    ap (λ rows. row rows b) e ∙ get_or-set_same (set old a (row old b)) b (row old a) [] (subst (λ n. b < n) (sym (length-set old a (row old b))) lb)

row-other : (old new : List (List ℕ)) (a b k : ℕ) → k ≢ a → k ≢ b → new ≡ set (set old a (row old b)) b (row old a) → row new k ≡ row old k
row-other old new a b k na nb e =
    ap (λ rows. row rows k) e ∙ get_or-set_other (set old a (row old b)) b k (row old a) [] nb ∙ get_or-set_other old a k (row old b) [] na

pub swap-mixes : (a b : ℕ) (x z new_x new_z : List (List ℕ)) → a < length x → b < length x → a < length z → b < length z → b ≢ a
    → new_x ≡ set (set x a (row x b)) b (row x a) → new_z ≡ set (set z a (row z b)) b (row z a) → MixesPair None a b x z new_x new_z
swap-mixes a b x z new_x new_z ax bx az bz distinct ex ez = record {
  x_first = λ i. ap (odd i) (row-first x new_x a b ax distinct ex);
  z_first = λ i. ap (odd i) (row-first z new_z a b az distinct ez);
  x_second = λ i. ap (odd i) (row-second x new_x a b bx ex);
  z_second = λ i. ap (odd i) (row-second z new_z a b bz ez);
  x_elsewhere = λ k na nb. row-other x new_x a b k na nb ex;
  z_elsewhere = λ k na nb. row-other z new_z a b k na nb ez;
}
