-- Lists of numbers: each of a list, those that are among them, and one left out or toggled.
use Rattle.stab_search.proofs.Names.{◌≡◌, ℕ, suc, ◌+◌, ◌≤◌, ◌<◌, refl, sym, ◌∙◌, ap, subst, arith, Bool, true, false, ◌||◌, List, [], ◌∷◌, ◌++◌, length, get_or, ne_eqb, lt-ltb, le-ltb, ◌==◌, nat_lt, All, if◌then◌else◌, eqb-true, eqb-false, eq-eqb, ltb-true, ltb-false, false≢true, or_left, or_right, All-nil, All-cons, All-head, All-tail, list_any-append, AscendsFrom, ForEach, has, toggle}
use Rattle.std.specs.Prelude.{◌≢◌}

-- cases of a bit, with the equation
pub by-bit : {P : Type 0} (b : Bool) → (b ≡ true → P) → (b ≡ false → P) → P
by-bit true t f = t refl
by-bit false t f = f refl

-- each of a list

pub each-map : (P Q : ℕ → Type 0) → ((x : ℕ) → P x → Q x) → (xs : List ℕ) → ForEach P xs → ForEach Q xs
each-map P Q f [] a = tt
each-map P Q f (x ∷ xs) a = (f x a.0, each-map P Q f xs a.1)

pub each-has : (P : ℕ → Type 0) (g : ℕ) (xs : List ℕ) → ForEach P xs → has g xs ≡ true → P g
each-has P g [] a e = absurd (false≢true e)
each-has P g (x ∷ xs) a e =
    by-bit (x == g)
    (λ same. subst P (eqb-true x g same) a.0)
    (λ other. each-has P g xs a.1 (ap (λ b. b || has g xs) (sym other) ∙ e))

pub each-push : (P : ℕ → Type 0) (xs : List ℕ) (r : ℕ) → P r → ForEach P xs → ForEach P (xs ++ r ∷ [])
each-push P [] r p a = (p, tt)
each-push P (x ∷ xs) r p a = (a.0, each-push P xs r p a.1)

pub each-all : (P : ℕ → Type 0) (xs : List ℕ) → All P xs → ForEach P xs
each-all P [] a = tt
each-all P (x ∷ xs) a = (All-head P x xs a, each-all P xs (All-tail P x xs a))

pub all-each : (P : ℕ → Type 0) (xs : List ℕ) → ForEach P xs → All P xs
all-each P [] a = All-nil P
all-each P (x ∷ xs) a = All-cons P x xs a.0 (all-each P xs a.1)

pub each-above : (m : ℕ) (xs : List ℕ) → AscendsFrom m xs → ForEach (λ x. m ≤ x) xs
each-above m [] a = tt
each-above m (x ∷ xs) a = (a.0, each-map (λ y. x + 1 ≤ y) (λ y. m ≤ y) (λ y h. let k = a.0 in omega arith) xs (each-above (x + 1) xs a.1))

-- a number among others

pub has-here : (x : ℕ) (xs : List ℕ) → has x (x ∷ xs) ≡ true
has-here x xs = or_left (x == x) (has x xs) (eq-eqb x x refl)

pub has-there : (g x : ℕ) (xs : List ℕ) → has g xs ≡ true → has g (x ∷ xs) ≡ true
has-there g x xs e = or_right (x == g) (has g xs) e

pub has-at : (g : ℕ) (xs : List ℕ) → has g xs ≡ true → (k : ℕ) × ((k < length xs) × (get_or xs k 0 ≡ g))
has-at g [] e = absurd (false≢true e)
has-at g (x ∷ xs) e =
    by-bit (x == g)
    (λ same. (0, (omega arith, eqb-true x g same)))
    (λ other.
    let later = has-at g xs (ap (λ b. b || has g xs) (sym other) ∙ e) in
    let lt = later.1.0 in
    (suc later.0, (omega arith, later.1.1)))

pub has-push : (q : ℕ) (xs : List ℕ) → has q (xs ++ q ∷ []) ≡ true
has-push q xs = list_any-append (λ k. k == q) xs (q ∷ []) ∙ or_right (has q xs) ((q == q) || false) (or_left (q == q) false (eq-eqb q q refl))

pub has-before : (q r : ℕ) (xs : List ℕ) → has q xs ≡ true → has q (xs ++ r ∷ []) ≡ true
has-before q r xs e = list_any-append (λ k. k == q) xs (r ∷ []) ∙ or_left (has q xs) ((r == q) || false) e

-- one left out

abbrev pub without : ℕ → List ℕ → List ℕ
without g [] = []
without g (x ∷ xs) = if x == g then xs else x ∷ without g xs

pub without-here : (g x : ℕ) (xs : List ℕ) → (x == g) ≡ true → without g (x ∷ xs) ≡ xs
without-here g x xs e = ap (λ b. if b then xs else x ∷ without g xs) e

pub without-there : (g x : ℕ) (xs : List ℕ) → (x == g) ≡ false → without g (x ∷ xs) ≡ x ∷ without g xs
without-there g x xs e = ap (λ b. if b then xs else x ∷ without g xs) e

pub each-without : (P : ℕ → Type 0) (g : ℕ) (xs : List ℕ) → ForEach P xs → ForEach P (without g xs)
each-without P g [] a = tt
each-without P g (x ∷ xs) a =
    by-bit (x == g)
    (λ e. subst (ForEach P) (sym (without-here g x xs e)) a.1)
    (λ e. subst (ForEach P) (sym (without-there g x xs e)) (a.0, each-without P g xs a.1))

pub length-without : (g : ℕ) (xs : List ℕ) → has g xs ≡ true → length xs ≡ suc (length (without g xs))
length-without g [] e = absurd (false≢true e)
length-without g (x ∷ xs) e =
    by-bit (x == g)
    (λ same. ap (λ ys. suc (length ys)) (sym (without-here g x xs same)))
    (λ other.
    ap suc (length-without g xs (ap (λ b. b || has g xs) (sym other) ∙ e))
    ∙ ap (λ ys. suc (length ys)) (sym (without-there g x xs other)))

pub has-without : (x g : ℕ) (xs : List ℕ) → has x xs ≡ true → x ≢ g → has x (without g xs) ≡ true
has-without x g [] e other = absurd (false≢true e)
has-without x g (y ∷ ys) e other =
    by-bit (y == g)
    (λ same.
    let passed : (y == x) ≡ false = ne_eqb y x (λ k. other (sym k ∙ eqb-true y g same)) in
    ap (has x) (without-here g y ys same) ∙ ap (λ b. b || has x ys) (sym passed) ∙ e)
    (λ distinct.
    ap (has x) (without-there g y ys distinct)
    ∙ by-bit (y == x)
    (λ here. or_left (y == x) (has x (without g ys)) here)
    (λ there. or_right (y == x) (has x (without g ys)) (has-without x g ys (ap (λ b. b || has x ys) (sym there) ∙ e) other)))

-- one toggled

module _ (g x : ℕ) (xs : List ℕ) where
  pub toggle-here : g < x → toggle g (x ∷ xs) ≡ g ∷ x ∷ xs
  toggle-here lt = ap (λ b. if b then g ∷ x ∷ xs else if x == g then xs else x ∷ toggle g xs) (lt-ltb g x lt)

  pub toggle-out : x ≡ g → toggle g (x ∷ xs) ≡ xs
  toggle-out same =
      ap (λ b. if b then g ∷ x ∷ xs else if x == g then xs else x ∷ toggle g xs) (le-ltb g x (omega arith))
      ∙ ap (λ b. if b then xs else x ∷ toggle g xs) (eq-eqb x g same)

  pub toggle-there : x < g → toggle g (x ∷ xs) ≡ x ∷ toggle g xs
  toggle-there lt =
      ap (λ b. if b then g ∷ x ∷ xs else if x == g then xs else x ∷ toggle g xs) (le-ltb g x (omega arith))
      ∙ ap (λ b. if b then xs else x ∷ toggle g xs) (ne_eqb x g (λ same. omega arith))

-- whether it is there in order, and where it is there
pub by-position : {P : Type 0} (g x : ℕ) → (g < x → P) → (x ≡ g → P) → (x < g → P) → P
by-position g x less same more =
    by-bit (nat_lt g x)
    (λ e. less (ltb-true g x e))
    (λ e.
    let le : x ≤ g = ltb-false g x e in
    by-bit (x == g) (λ is. same (eqb-true x g is)) (λ isnt. let other = eqb-false x g isnt in more (omega arith)))

pub each-toggle : (P : ℕ → Type 0) (g : ℕ) (xs : List ℕ) → P g → ForEach P xs → ForEach P (toggle g xs)
each-toggle P g [] p a = (p, tt)
each-toggle P g (x ∷ xs) p a =
    by-position g x
    (λ lt. subst (ForEach P) (sym (toggle-here g x xs lt)) (p, (a.0, a.1)))
    (λ same. subst (ForEach P) (sym (toggle-out g x xs same)) a.1)
    (λ lt. subst (ForEach P) (sym (toggle-there g x xs lt)) (a.0, each-toggle P g xs p a.1))

pub length-toggle : (g : ℕ) (xs : List ℕ) → length (toggle g xs) ≤ suc (length xs)
length-toggle g [] = omega arith
length-toggle g (x ∷ xs) =
    by-position g x
    (λ lt. let is = ap length (toggle-here g x xs lt) in omega arith)
    (λ same. let is = ap length (toggle-out g x xs same) in omega arith)
    (λ lt. let is = ap length (toggle-there g x xs lt) in let later = length-toggle g xs in omega arith)

lower : (m k : ℕ) (xs : List ℕ) → m ≤ k → AscendsFrom k xs → AscendsFrom m xs
lower m k [] le a = tt
lower m k (x ∷ xs) le a = (let h = a.0 in omega arith, a.1)

pub ascends-toggle : (m g : ℕ) (xs : List ℕ) → m ≤ g → AscendsFrom m xs → AscendsFrom m (toggle g xs)
ascends-toggle m g [] le a = (le, tt)
ascends-toggle m g (x ∷ xs) le a =
    by-position g x
    (λ lt. subst (AscendsFrom m) (sym (toggle-here g x xs lt)) (le, (omega arith, a.1)))
    (λ same. subst (AscendsFrom m) (sym (toggle-out g x xs same)) (lower m (x + 1) xs (let h = a.0 in omega arith) a.1))
    (λ lt. subst (AscendsFrom m) (sym (toggle-there g x xs lt)) (a.0, ascends-toggle (x + 1) g xs (omega arith) a.1))
