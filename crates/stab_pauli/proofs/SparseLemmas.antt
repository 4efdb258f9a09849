-- Words of which most are 0: what a word after them makes, how they are written over words 0, and how they are compared.
use Rattle.stab_pauli.proofs.Names.{◌≡◌, ℕ, zero, suc, ◌+◌, ◌<◌, ◌≤◌, refl, sym, ◌∙◌, ap, arith, append_assoc, length-append, List, [], ◌∷◌, ◌++◌, length, get_or, set, drop, replicate, length-replicate, replicate-append-replicate, set-append_right, set_at, drop_more, length-set, drop_all, AreShort, SparseWords, spread}
use Rattle.stab_pauli.proofs.DetermineLemmas.{short_more, short_tail}

-- the words that a value stands for
abbrev pub determined_by : SparseWords → List ℕ
determined_by w = spread w.gaps.items w.stored.items w.following

-- after them

pub spread-zeros : (gs ks : List ℕ) (b m : ℕ) → spread gs ks b ++ replicate m 0 ≡ spread gs ks (b + m)
spread-zeros [] ks b m = replicate-append-replicate b m 0
spread-zeros (g ∷ gs) [] b m = replicate-append-replicate b m 0
spread-zeros (g ∷ gs) (w ∷ ks) b m = append_assoc (replicate g 0) (w ∷ spread gs ks b) (replicate m 0) ∙ ap (λ t. replicate g 0 ++ w ∷ t) (spread-zeros gs ks b m)

pub spread-stored : (gs ks : List ℕ) (b w : ℕ) → length gs ≡ length ks → spread (gs ++ b ∷ []) (ks ++ w ∷ []) 0 ≡ spread gs ks b ++ w ∷ []
spread-stored [] [] b w e = refl
spread-stored [] (k ∷ ks) b w e = absurd (omega arith)
spread-stored (g ∷ gs) [] b w e = absurd (omega arith)
spread-stored (g ∷ gs) (k ∷ ks) b w e = ap (λ t. replicate g 0 ++ k ∷ t) (spread-stored gs ks b w (omega arith)) ∙ sym (append_assoc (replicate g 0) (k ∷ spread gs ks b) (w ∷ []))

-- one of a list, and those after it
drop_here : (xs : List ℕ) (k x : ℕ) → k < length xs → x ≡ get_or xs k x → drop k xs ≡ x ∷ drop (k + 1) xs
drop_here xs k x lt e = drop_more xs k x lt ∙ ap (λ y. y ∷ drop (k + 1) xs) (sym e)

-- the words from one of those that are stored on
pub spread-from : (gs ks : List ℕ) (b k g w : ℕ) → length gs ≡ length ks → k < length ks → g ≡ get_or gs k g → w ≡ get_or ks k w
    → spread (drop k gs) (drop k ks) b ≡ replicate g 0 ++ w ∷ spread (drop (k + 1) gs) (drop (k + 1) ks) b
spread-from gs ks b k g w e lt eg ew = λ i. spread (drop_here gs k g (omega arith) eg i) (drop_here ks k w lt ew i) b

pub length-from : (g w : ℕ) (rest : List ℕ) → length (replicate g 0 ++ w ∷ rest) ≡ g + 1 + length rest
length-from g w rest = length-append (replicate g 0) (w ∷ rest) ∙ (λ i. length-replicate {A = ℕ} g 0 i + suc (length rest)) ∙ omega arith

-- how many are left
pub room-from : (gs ks : List ℕ) (b k at g w size : ℕ) → length gs ≡ length ks → k < length ks → g ≡ get_or gs k g → w ≡ get_or ks k w
    → at + length (spread (drop k gs) (drop k ks) b) ≡ size → at + g + 1 + length (spread (drop (k + 1) gs) (drop (k + 1) ks) b) ≡ size
room-from gs ks b k at g w size e lt eg ew room =
    let l : length (spread (drop k gs) (drop k ks) b) ≡ g + 1 + length (spread (drop (k + 1) gs) (drop (k + 1) ks) b) =
    ap length (spread-from gs ks b k g w e lt eg ew) ∙ length-from g w (spread (drop (k + 1) gs) (drop (k + 1) ks) b) in
    omega (arith, l, room)

-- written over words 0, from a position on
abbrev pub written : List ℕ → List ℕ → ℕ → List ℕ → List ℕ
written [] ks at words = words
written (g ∷ gs) [] at words = words
written (g ∷ gs) (w ∷ ks) at words = written gs ks (at + g + 1) (set words (at + g) w)

-- this many are written, up to a position
pub record IsWriting (gs ks : List ℕ) (b : ℕ) (k at : ℕ) (initial words : List ℕ) : Type 0 where
  pub writes : written (drop k gs) (drop k ks) at words ≡ written gs ks 0 initial
  pub room : at + length (spread (drop k gs) (drop k ks) b) ≡ length words

pub writing-none : (gs ks : List ℕ) (b : ℕ) (words : List ℕ) → length words ≡ length (spread gs ks b) → IsWriting gs ks b 0 0 words words
writing-none gs ks b words size = record { writes = refl; room = omega (arith, size) }

pub writing-on : (gs ks : List ℕ) (b k at g w : ℕ) (initial words : List ℕ) → length gs ≡ length ks → k < length ks → g ≡ get_or gs k g → w ≡ get_or ks k w
    → IsWriting gs ks b k at initial words → IsWriting gs ks b (k + 1) (at + g + 1) initial (set words (at + g) w)
writing-on gs ks b k at g w initial words e lt eg ew is = record {
  writes = sym (λ i. written (drop_here gs k g (omega arith) eg i) (drop_here ks k w lt ew i) at words) ∙ is.writes;
  room = room-from gs ks b k at g w (length words) e lt eg ew is.room ∙ sym (length-set words (at + g) w);
}

written-zeros : (gs ks front : List ℕ) (b at m : ℕ) → length gs ≡ length ks → length front ≡ at → m ≡ length (spread gs ks b)
    → written gs ks at (front ++ replicate m 0) ≡ front ++ spread gs ks b
written-zeros [] ks front b at m e l em = ap (λ n. front ++ replicate n 0) (em ∙ length-replicate b 0)
written-zeros (g ∷ gs) [] front b at m e l em = absurd (omega arith)
written-zeros (g ∷ gs) (w ∷ ks) front b at m e l em =
    ap (written gs ks (at + g + 1)) here
    ∙ written-zeros gs ks (front ++ (replicate g 0 ++ w ∷ [])) b (at + g + 1) rest (omega arith) long refl
    ∙ append_assoc front (replicate g 0 ++ w ∷ []) (spread gs ks b)
    ∙ ap (λ t. front ++ t) (append_assoc (replicate g 0) (w ∷ []) (spread gs ks b))
  where
    rest : ℕ
    rest = length (spread gs ks b)

    whole : m ≡ g + suc rest
    whole = em ∙ length-from g w (spread gs ks b) ∙ omega arith

    long : length (front ++ (replicate g 0 ++ w ∷ [])) ≡ at + g + 1
    long = length-append front (replicate g 0 ++ w ∷ []) ∙ (let n = length-from g w [] in omega arith)

    cut : replicate {A = ℕ} m 0 ≡ replicate {A = ℕ} g 0 ++ 0 ∷ replicate {A = ℕ} rest 0
    cut = ap (λ n. replicate {A = ℕ} n 0) whole ∙ sym (replicate-append-replicate g (suc rest) 0)

    here : set (front ++ replicate m 0) (at + g) w ≡ (front ++ (replicate g 0 ++ w ∷ [])) ++ replicate rest 0
    here =
        set-append_right front (replicate m 0) at (at + g) w l (omega arith)
        ∙ ap (λ n. front ++ set (replicate m 0) n w) (omega arith)
        ∙ ap (λ t. front ++ set t g w) cut
        ∙ ap (λ t. front ++ t) (set_at (replicate g 0) 0 (replicate rest 0) w g (length-replicate g 0))
        ∙ ap (λ t. front ++ t) (sym (append_assoc (replicate g 0) (w ∷ []) (replicate rest 0)))
        ∙ sym (append_assoc front (replicate g 0 ++ w ∷ []) (replicate rest 0))

pub written-all : (gs ks words : List ℕ) (b : ℕ) → length gs ≡ length ks → words ≡ replicate (length words) 0 → length words ≡ length (spread gs ks b)
    → written gs ks 0 words ≡ spread gs ks b
written-all gs ks words b e zeros size = ap (written gs ks 0) zeros ∙ written-zeros gs ks [] b 0 (length words) e refl size

pub writing-end : (gs ks : List ℕ) (b k at : ℕ) (initial words : List ℕ) → length gs ≡ length ks → length ks ≤ k → initial ≡ replicate (length initial) 0
    → length initial ≡ length (spread gs ks b) → IsWriting gs ks b k at initial words → words ≡ spread gs ks b
writing-end gs ks b k at initial words e le zeros size is =
    sym (λ i. written (drop_all k gs (omega (arith, e, le)) i) (drop k ks) at words) ∙ is.writes ∙ written-all gs ks initial b e zeros size

-- words of this many bits stay words of this many bits
short-blank : (n : ℕ) → AreShort 64 (replicate n 0)
short-blank zero = record { below = λ i. omega arith }
short-blank (suc n) = short_more 64 0 (replicate n 0) (omega arith) (short-blank n)

short-following : (n : ℕ) (ws : List ℕ) → AreShort 64 ws → AreShort 64 (replicate n 0 ++ ws)
short-following zero ws short = short
short-following (suc n) ws short = short_more 64 0 (replicate n 0 ++ ws) (omega arith) (short-following n ws short)

pub short-spread : (gs ks : List ℕ) (b : ℕ) → AreShort 64 ks → AreShort 64 (spread gs ks b)
short-spread [] ks b short = short-blank b
short-spread (g ∷ gs) [] b short = short-blank b
short-spread (g ∷ gs) (w ∷ ks) b short = short-following g (w ∷ spread gs ks b) (short_more 64 w (spread gs ks b) (short.below 0) (short-spread gs ks b (short_tail 64 w ks short)))
