-- What rows show of a region: its letters flip, and its lookbacks are named.
use Rattle.stab_regions.proofs.Names.{◌≡◌, ℕ, zero, suc, ◌+◌, ◌-◌, ◌<◌, refl, sym, ◌∙◌, ap, arith, Bool, true, false, ◌&&◌, List, [], ◌∷◌, length, ◌==◌, if◌then◌else◌, Letter, I, X, Y, Z, ◌⊕◌, letters_anticommute, Signed, single, anticommute, letter_at, one_letter-anticommute, controlled, collapse, flip_of, names_newest, earlier, look_where, product_where, odd, row, bits_at, ShowsLetters, MovesLetters, multiplied, ShowsLooks, MovesRegion}

-- what a letter flips

pub bits-letter : (i : ℕ) (l m : Letter) (by_x by_z : List ℕ) → odd i by_x ≡ letters_anticommute X m → odd i by_z ≡ letters_anticommute Z m → bits_at i l by_x by_z ≡ letters_anticommute l m
bits-letter i I m by_x by_z ex ez = refl
bits-letter i X m by_x by_z ex ez = ex
bits-letter i Y m by_x by_z ex ez = (λ k. ex k ⊕ ez k) ∙ both m
  where
    both : (m : Letter) → letters_anticommute X m ⊕ letters_anticommute Z m ≡ letters_anticommute Y m
    both m = grind arith
bits-letter i Z m by_x by_z ex ez = ez

pub bits-anticommute : (i n q : ℕ) (l : Letter) (by_x by_z : List (List ℕ)) (s : Signed) → q < n → length s.letters ≡ n → ShowsLetters i by_x by_z s.letters
    → bits_at i l (row by_x q) (row by_z q) ≡ anticommute (single n q l) s
bits-anticommute i n q l by_x by_z s lt long shows =
    bits-letter i l (letter_at s.letters q) (row by_x q) (row by_z q) (shows.x q) (shows.z q) ∙ sym (one_letter-anticommute n q l s.letters long lt)

-- lookbacks

pub newest-odd : (looks : List ℕ) → names_newest looks ≡ odd 1 looks
newest-odd [] = refl
newest-odd (k ∷ ks) = ap (λ b. (k == 1) ⊕ b) (newest-odd ks)

one-less : (k j : ℕ) → (k - 1 == j + 1) ≡ (k == (j + 1) + 1)
one-less zero j = grind arith
one-less (suc k) j = grind arith

pub odd-earlier : (j : ℕ) (looks : List ℕ) → odd (j + 1) (earlier looks) ≡ odd ((j + 1) + 1) looks
odd-earlier j [] = refl
odd-earlier j (k ∷ ks) = λ i. one-less k j i ⊕ odd-earlier j ks i

pub earlier-shows : (i : ℕ) (recorded : Bool) (old new : List (List ℕ)) (looks : List ℕ) → ShowsLooks i old looks
    → ((k : ℕ) → row new k ≡ row old (if recorded then k + 1 else k)) → ShowsLooks i new (if recorded then earlier looks else looks)
earlier-shows i true old new looks shows same j = ap (odd i) (same j) ∙ shows (j + 1) ∙ sym (odd-earlier j looks)
earlier-shows i false old new looks shows same j = ap (odd i) (same j) ∙ shows j

-- steps

pub controlled-moves : (n q k : ℕ) (l : Letter) (by_x by_z old new : List (List ℕ)) (numbers : List ℕ) → q < n
    → ((i : ℕ) → odd i numbers ≡ bits_at i l (row by_x q) (row by_z q))
    → ((i : ℕ) (looks : List ℕ) → ShowsLooks i old looks → ShowsLooks i new (look_where (odd i numbers) k looks))
    → MovesRegion n (controlled l k q) by_x by_z old by_x by_z new
controlled-moves n q k l by_x by_z old new numbers lt bits looks i r long shows = record {
  letters = shows.letters;
  looks = λ j.
      looks i r.looks shows.looks j
      ∙ ap (λ b. odd (j + 1) (look_where b k r.looks)) (bits i ∙ bits-anticommute i n q l by_x by_z r.string lt long shows.letters);
}

-- the outcome counts if its record does, and if what is corrected by it anticommutes
pub collapse-moves : (n q : ℕ) (l : Letter) (recorded inverted resets : Bool) (old_x old_z old new_x new_z new : List (List ℕ)) (corrected taken counted : List ℕ) → q < n
    → ((i : ℕ) → odd i corrected ≡ (resets && bits_at i (flip_of l) (row old_x q) (row old_z q)))
    → ((i : ℕ) → odd i taken ≡ (recorded && odd i (row old 0)))
    → ((i : ℕ) → odd i counted ≡ odd i taken ⊕ odd i corrected)
    → ((k : ℕ) → row new k ≡ row old (if recorded then k + 1 else k))
    → MovesLetters n (multiplied n l q counted) old_x old_z new_x new_z
    → MovesRegion n (collapse l q recorded inverted resets) old_x old_z old new_x new_z new
collapse-moves n q l recorded inverted resets old_x old_z old new_x new_z new corrected taken counted lt is_corrected is_taken is_counted others moves i r long shows =
    let counts : odd i counted ≡ (recorded && names_newest r.looks) ⊕ (resets && anticommute (single n q (flip_of l)) r.string) =
    is_counted i
    ∙ (λ k.
    (is_taken i ∙ ap (λ b. recorded && b) (shows.looks 0 ∙ sym (newest-odd r.looks))) k
    ⊕ (is_corrected i ∙ ap (λ b. resets && b) (bits-anticommute i n q (flip_of l) old_x old_z r.string lt long shows.letters)) k) in
    let moved : ShowsLetters i new_x new_z (product_where (odd i counted) (single n q l) r.string).letters = moves i r.string long shows.letters in
    record {
      letters = letters-counted (odd i counted) _ _ counts moved;
      looks = earlier-shows i recorded old new r.looks shows.looks others;
    }
  where
    -- the sign of what is multiplied does not matter
    letters-counted : (a b sign : Bool) → a ≡ b → ShowsLetters i new_x new_z (product_where a (single n q l) r.string).letters
        → ShowsLetters i new_x new_z (product_where b (single n q l) (record { negative = sign; letters = r.string.letters })).letters
    letters-counted true true sign e shows = shows
    letters-counted false false sign e shows = shows
    letters-counted true false sign e shows = cc
    letters-counted false true sign e shows = cc
