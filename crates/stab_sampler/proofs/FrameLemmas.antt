-- Frames: the strings of lanes, whose letters are changed at one position.
use Rattle.stab_sampler.proofs.Names.{◌≡◌, ◌≢◌, Some, None, get_or-set_other, letters_anticommute, letter_product-I, has_x, has_x_bits, letter_where, controlled_letter, first_by, second_by, first_controlled, second_controlled, ℕ, zero, suc, ◌+◌, ◌-◌, ◌<◌, ◌≤◌, refl, sym, ◌∙◌, ap, Bool, true, false, List, [], ◌∷◌, length, get_or, set, take, arith, map-set, get_or-map, set-get_or, length-replicate, Letter, I, X, Y, Z, letter_product, single, string_product, string_product-empty, string_product-blank_right, Gate, PairGate, letter_image, letter_at, pair_letters, image, image_pair, blank, string_product-set, Letters, plus, times_where, letter_in, lane_letters, letter_times}

-- strings one letter longer

product-next : (f s : List Letter) (i : ℕ) → i < length f → i < length s
    → set (string_product f (take i s)) i (letter_product (get_or (string_product f (take i s)) i I) (get_or s i I)) ≡ string_product f (take (suc i) s)
product-next [] s i lf ls = absurd (omega arith)
product-next (x ∷ f) [] i lf ls = absurd (omega arith)
product-next (x ∷ f) (y ∷ s) zero lf ls = ap (λ r. letter_product x y ∷ r) (sym (string_product-empty f))
product-next (x ∷ f) (y ∷ s) (suc i) lf ls = ap (λ r. letter_product x y ∷ r) (product-next f s i (omega arith) (omega arith))

pub times-more : (b : Bool) (f s : List Letter) (i : ℕ) → i < length f → i < length s
    → set (times_where b (take i s) f) i (letter_times b (get_or s i I) (get_or (times_where b (take i s) f) i I)) ≡ times_where b (take (i + 1) s) f
times-more true f s i lf ls = let e : suc i ≡ i + 1 = omega arith in product-next f s i lf ls ∙ ap (λ k. string_product f (take k s)) e
times-more false f s i lf ls = set-get_or f i I

-- letters I change nothing

times-I : (b : Bool) (x : Letter) → letter_times b I x ≡ x
times-I false x = refl
times-I true I = refl
times-I true X = refl
times-I true Y = refl
times-I true Z = refl

times-over : (b : Bool) (f s : List Letter) (i d : ℕ) → i + d ≤ length f → i + d ≤ length s → ((k : ℕ) → i ≤ k → k < i + d → get_or s k I ≡ I)
    → times_where b (take (i + d) s) f ≡ times_where b (take i s) f
times-over b f s i zero lf ls blank = let e : i + 0 ≡ i = omega arith in ap (λ k. times_where b (take k s) f) e
times-over b f s i (suc d) lf ls blank =
    let e : i + suc d ≡ i + d + 1 = omega arith in
    let now : List Letter = times_where b (take (i + d) s) f in
    ap (λ k. times_where b (take k s) f) e
    ∙ sym (times-more b f s (i + d) (omega (arith, lf)) (omega (arith, ls)))
    ∙ ap (set now (i + d)) (ap (λ x. letter_times b x (get_or now (i + d) I)) (blank (i + d) (omega arith) (omega arith)) ∙ times-I b (get_or now (i + d) I))
    ∙ set-get_or now (i + d) I
    ∙ times-over b f s i d (omega (arith, lf)) (omega (arith, ls)) (λ k le lt. blank k le (omega (arith, lt)))

pub times-blank : (b : Bool) (f s : List Letter) (i j : ℕ) → i ≤ j → j ≤ length f → j ≤ length s → ((k : ℕ) → i ≤ k → k < j → get_or s k I ≡ I)
    → times_where b (take j s) f ≡ times_where b (take i s) f
times-blank b f s i j le lf ls blank =
    let e : i + (j - i) ≡ j = omega (arith, le) in
    ap (λ k. times_where b (take k s) f) (sym e)
    ∙ times-over b f s i (j - i) (omega (arith, le, lf)) (omega (arith, le, ls)) (λ k from lt. blank k from (omega (arith, le, lt)))

-- a letter at one position

pub times-set : (b : Bool) (n q : ℕ) (letter : Letter) (f : List Letter) → length f ≡ n → q < n
    → set f q (letter_times b letter (letter_at f q)) ≡ times_where b (single n q letter).letters f
times-set false n q letter f size lt = set-get_or f q I
times-set true n q letter f size lt =
    ap (λ w. set w q (letter_product (get_or f q I) letter)) (sym (string_product-blank_right n f size))
    ∙ sym (string_product-set n f (blank n) q (get_or f q I) letter size (length-replicate n I) lt)
    ∙ ap (λ w. string_product w (single n q letter).letters) (set-get_or f q I)

times-product : (b : Bool) (more letter : Letter) → letter_times b more letter ≡ letter_product letter (letter_where b more)
times-product true more letter = refl
times-product false more letter = sym (letter_product-I letter)

module _ {W : Type 0} (at : W → ℕ → Bool) (l : ℕ) (ws : List (Letters W)) where
  -- the letter that is read at a position
  pub letter-read : (q : ℕ) (w : Letters W) → q < length ws → w ≡ get_or ws q w → letter_in at l w ≡ letter_at (lane_letters at l ws) q
  letter-read q w lt is = ap (letter_in at l) is ∙ sym (get_or-map (letter_in at l) ws q w I lt)

  -- a letter put at a position
  pub letter-put : (q : ℕ) (v : Letters W) (x : Letter) → letter_in at l v ≡ x → lane_letters at l (set ws q v) ≡ set (lane_letters at l ws) q x
  letter-put q v x is = map-set (letter_in at l) ws q v ∙ ap (set (lane_letters at l ws) q) is

  pub gate-put : (g : Gate) (q : ℕ) (w v : Letters W) → q < length ws → w ≡ get_or ws q w
      → letter_in at l v ≡ (letter_image g (letter_in at l w)).letter
      → lane_letters at l (set ws q v) ≡ (image g q (plus (lane_letters at l ws))).letters
  gate-put g q w v lt is made = letter-put q v _ (made ∙ ap (λ x. (letter_image g x).letter) (letter-read q w lt is))

  pub pair-put : (g : PairGate) (a b : ℕ) (w v x y : Letters W) → a < length ws → b < length ws → w ≡ get_or ws a w → v ≡ get_or ws b v
      → letter_in at l x ≡ letter_at (pair_letters g (letter_in at l w) (letter_in at l v)).letters 0
      → letter_in at l y ≡ letter_at (pair_letters g (letter_in at l w) (letter_in at l v)).letters 1
      → lane_letters at l (set (set ws a x) b y) ≡ (image_pair g a b (plus (lane_letters at l ws))).letters
  pair-put g a b w v x y la lb at_a at_b made more =
      map-set (letter_in at l) (set ws a x) b y
      ∙ ap (λ r. set r b (letter_in at l y)) (letter-put a x _ (made ∙ (λ i. letter_at (pair_letters g (letter-read a w la at_a i) (letter-read b v lb at_b i)).letters 0)))
      ∙ ap (set (set (lane_letters at l ws) a _) b) (more ∙ (λ i. letter_at (pair_letters g (letter-read a w la at_a i) (letter-read b v lb at_b i)).letters 1))

  -- a letter that the first controls, and Z put on the first
  pub control-put : (g : PairGate) (c : Letter) (a b : ℕ) (u v w m x y : Letters W) (distinct : Bool) → controlled_letter g ≡ Some c → b ≢ a
      → a < length ws → b < length ws → u ≡ get_or ws a u → v ≡ get_or ws b v → w ≡ get_or ws a w → m ≡ get_or (set ws a x) b m
      → distinct ≡ letters_anticommute (letter_in at l v) c
      → letter_in at l x ≡ letter_times distinct Z (letter_in at l w)
      → letter_in at l y ≡ letter_times (at u.x l) c (letter_in at l m)
      → lane_letters at l (set (set ws a x) b y) ≡ (image_pair g a b (plus (lane_letters at l ws))).letters
  control-put g c a b u v w m x y distinct is other la lb at_u at_b at_a at_m determines first second =
      let same : m ≡ get_or ws b m = at_m ∙ get_or-set_other ws a b x m other in
      pair-put g a b w m x y la lb at_a same
      (first ∙ ap (λ t. letter_times t Z (letter_in at l w)) (determines ∙ ap (λ k. letters_anticommute k c) (letter-read b v lb at_b ∙ sym (letter-read b m lb same)))
      ∙ times-product _ Z (letter_in at l w)
      ∙ sym (first_controlled g (letter_in at l w) (letter_in at l m) ∙ ap (λ o. first_by o (letter_in at l w) (letter_in at l m)) is))
      (second ∙ ap (λ t. letter_times t c (letter_in at l m)) (sym (has_x_bits (at u.x l) (at u.z l)) ∙ ap has_x (letter-read a u la at_u ∙ sym (letter-read a w la at_a)))
      ∙ times-product _ c (letter_in at l m)
      ∙ sym (second_controlled g (letter_in at l w) (letter_in at l m) ∙ ap (λ o. second_by o (letter_in at l w) (letter_in at l m)) is))

  -- letters that are exchanged
  pub exchange-put : (g : PairGate) (a b : ℕ) (w v m : Letters W) → controlled_letter g ≡ None → a < length ws → b < length ws
      → w ≡ get_or ws a w → v ≡ get_or ws b v → m ≡ w
      → lane_letters at l (set (set ws a v) b m) ≡ (image_pair g a b (plus (lane_letters at l ws))).letters
  exchange-put g a b w v m is la lb at_a at_b preserved =
      pair-put g a b w v v m la lb at_a at_b
      (sym (first_controlled g (letter_in at l w) (letter_in at l v) ∙ ap (λ o. first_by o (letter_in at l w) (letter_in at l v)) is))
      (ap (letter_in at l) preserved ∙ sym (second_controlled g (letter_in at l w) (letter_in at l v) ∙ ap (λ o. second_by o (letter_in at l w) (letter_in at l v)) is))

  pub times-put : (b : Bool) (letter : Letter) (q n : ℕ) (w v : Letters W) → length (lane_letters at l ws) ≡ n → q < n → q < length ws → w ≡ get_or ws q w
      → letter_in at l v ≡ letter_times b letter (letter_in at l w)
      → lane_letters at l (set ws q v) ≡ times_where b (single n q letter).letters (lane_letters at l ws)
  times-put b letter q n w v size lt within is made =
      letter-put q v _ (made ∙ ap (letter_times b letter) (letter-read q w within is))
      ∙ times-set b n q letter (lane_letters at l ws) size lt

  -- a letter of a string multiplied on at the next position

  pub product-put : (b : Bool) (string letters : List Letter) (q : ℕ) (w v : Letters W) (x : Letter) → q < length ws → q < length string → q < length letters
      → w ≡ get_or ws q w → x ≡ get_or string q I → lane_letters at l ws ≡ times_where b (take q string) letters
      → letter_in at l v ≡ letter_times b x (letter_in at l w)
      → lane_letters at l (set ws q v) ≡ times_where b (take (q + 1) string) letters
  product-put b string letters q w v x lt within inside is at_q were made =
      letter-put q v _ (made ∙ (λ i. letter_times b (at_q i) (letter-read q w lt is i)))
      ∙ (λ i. set (were i) q (letter_times b (get_or string q I) (letter_at (were i) q)))
      ∙ times-more b letters string q inside within

-- nothing is multiplied by no letters
pub times-none : (b : Bool) (letters : List Letter) → letters ≡ times_where b [] letters
times-none true letters = sym (string_product-empty letters)
times-none false letters = refl
