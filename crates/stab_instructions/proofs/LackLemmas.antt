-- Bytes that are lacks of others, and where such bytes end.
use Rattle.stab_instructions.proofs.Names.{◌≡◌, ◌<◌, refl, ap, sym, ◌∙◌, subst, ℕ, ◌+◌, ◌==◌, nat_lt, zero, suc, List, [], ◌∷◌, ◌++◌, Bool, true, false, not, ◌||◌, length, take, drop, take_all, reverse, arith, if◌then◌else◌, replicate, slice_split, onto_first, prefix_len, position_or_len, before_first, after_first, list_any, list_all, length-append, reverse-append, slice_split-cons_yes, slice_split-cons_no, is_byte, is_digit, has_byte, starts_with_byte, ends_with_byte, or_parts}
use Rattle.stab_instructions.proofs.BoolLemmas.{and_left, and_right}
pub use Rattle.stab_instructions.specs.Rules.{Each}
use Rattle.stab_instructions.specs.Rules.{ends_tag, IsTag}

-- each byte fails the test
abbrev pub Lacks : (ℕ → Bool) → List ℕ → Type 0
Lacks p xs = Each (λ x. p x ≡ false) xs

pub each-append : {A : Type 0} (P : A → Type 0) (xs ys : List A) → Each P xs → Each P ys → Each P (xs ++ ys)
each-append P [] ys f g = g
each-append P (x ∷ xs) ys f g = (f.0, each-append P xs ys f.1 g)

pub lacks-append : (p : ℕ → Bool) (xs ys : List ℕ) → Lacks p xs → Lacks p ys → Lacks p (xs ++ ys)
lacks-append p xs ys f g = each-append (λ x. p x ≡ false) xs ys f g

pub each_weaker : {A : Type 0} (P Q : A → Type 0) (xs : List A) → ((x : A) → P x → Q x) → Each P xs → Each Q xs
each_weaker P Q [] w f = tt
each_weaker P Q (x ∷ xs) w f = (w x f.0, each_weaker P Q xs w f.1)

pub lacks_take : (p : ℕ → Bool) (n : ℕ) (xs : List ℕ) → Lacks p xs → Lacks p (take n xs)
lacks_take p zero [] f = tt
lacks_take p zero (x ∷ xs) f = tt
lacks_take p (suc n) [] f = tt
lacks_take p (suc n) (x ∷ xs) f = (f.0, lacks_take p n xs f.1)

pub lacks_drop : (p : ℕ → Bool) (n : ℕ) (xs : List ℕ) → Lacks p xs → Lacks p (drop n xs)
lacks_drop p zero [] f = tt
lacks_drop p zero (x ∷ xs) f = f
lacks_drop p (suc n) [] f = tt
lacks_drop p (suc n) (x ∷ xs) f = lacks_drop p n xs f.1

lacks_cut : (p : ℕ → Bool) (x : ℕ) (xs : List ℕ) (b : Bool) → p x ≡ b → Lacks p (take (prefix_len (λ y. not (p y)) xs) xs) → Lacks p (take (if not b then 1 + prefix_len (λ y. not (p y)) xs else 0) (x ∷ xs))
lacks_cut p x xs true e f = tt
lacks_cut p x xs false e f =
    let one : suc (prefix_len (λ y. not (p y)) xs) ≡ 1 + prefix_len (λ y. not (p y)) xs = omega arith in
    let g : Lacks p (take (suc (prefix_len (λ y. not (p y)) xs)) (x ∷ xs)) = (e, f) in
    subst (λ m. Lacks p (take m (x ∷ xs))) one g

-- what is before the first such byte has none
pub lacks_before : (p : ℕ → Bool) (xs : List ℕ) → Lacks p (before_first p xs)
lacks_before p [] = tt
lacks_before p (x ∷ xs) = lacks_cut p x xs (p x) refl (lacks_before p xs)

-- a piece without the byte is the first
pub split_lacking : (p : ℕ → Bool) (xs : List ℕ) (y : ℕ) (ys : List ℕ) → Lacks p xs → p y ≡ true → slice_split p (xs ++ y ∷ ys) ≡ xs ∷ slice_split p ys
split_lacking p [] y ys f e = slice_split-cons_yes p y ys e
split_lacking p (x ∷ xs) y ys f e = slice_split-cons_no p x (xs ++ y ∷ ys) f.0 ∙ ap (onto_first x) (split_lacking p xs y ys f.1 e)

-- the last piece
pub split_last : (p : ℕ → Bool) (xs : List ℕ) → Lacks p xs → slice_split p xs ≡ xs ∷ []
split_last p [] f = refl
split_last p (x ∷ xs) f = slice_split-cons_no p x xs f.0 ∙ ap (onto_first x) (split_last p xs f.1)

-- the test stops at what follows
abbrev pub Stops : (ℕ → Bool) → List ℕ → Type 0
Stops p [] = Unit {0}
Stops p (y ∷ ys) = p y ≡ false

prefix_yes : (p : ℕ → Bool) (x : ℕ) (xs : List ℕ) → p x ≡ true → prefix_len p (x ∷ xs) ≡ 1 + prefix_len p xs
prefix_yes p x xs e = ap (λ b. if b then 1 + prefix_len p xs else 0) e

pub prefix_no : (p : ℕ → Bool) (x : ℕ) (xs : List ℕ) → p x ≡ false → prefix_len p (x ∷ xs) ≡ 0
prefix_no p x xs e = ap (λ b. if b then 1 + prefix_len p xs else 0) e

pub prefix_front : (p : ℕ → Bool) (xs ys : List ℕ) → Each (λ x. p x ≡ true) xs → Stops p ys → prefix_len p (xs ++ ys) ≡ length xs
prefix_front p [] [] f s = refl
prefix_front p [] (y ∷ ys) f s = prefix_no p y ys s
prefix_front p (x ∷ xs) ys f s = let rest = prefix_front p xs ys f.1 s in let one = prefix_yes p x (xs ++ ys) f.0 in omega (arith, rest, one)

pub take_front : (xs ys : List ℕ) → take (length xs) (xs ++ ys) ≡ xs
take_front [] [] = refl
take_front [] (y ∷ ys) = refl
take_front (x ∷ xs) ys = ap (λ l. x ∷ l) (take_front xs ys)

pub drop_front : (xs ys : List ℕ) → drop (length xs) (xs ++ ys) ≡ ys
drop_front [] [] = refl
drop_front [] (y ∷ ys) = refl
drop_front (x ∷ xs) ys = drop_front xs ys

-- where the first byte that passes is, and what is before and after it
pub position_front : (p : ℕ → Bool) (xs : List ℕ) (y : ℕ) (ys : List ℕ) → Lacks p xs → p y ≡ true → position_or_len p (xs ++ y ∷ ys) ≡ length xs
position_front p xs y ys f e = prefix_front (λ x. not (p x)) xs (y ∷ ys) (each_weaker (λ x. p x ≡ false) (λ x. not (p x) ≡ true) xs (λ x h. ap not h) f) (ap not e)

pub before_front : (p : ℕ → Bool) (xs : List ℕ) (y : ℕ) (ys : List ℕ) → Lacks p xs → p y ≡ true → before_first p (xs ++ y ∷ ys) ≡ xs
before_front p xs y ys f e = ap (λ n. take n (xs ++ y ∷ ys)) (position_front p xs y ys f e) ∙ take_front xs (y ∷ ys)

pub drop_none : (xs : List ℕ) → drop 0 xs ≡ xs
drop_none [] = refl
drop_none (x ∷ xs) = refl

drop_one_more : (xs : List ℕ) (y : ℕ) (ys : List ℕ) → drop (suc (length xs)) (xs ++ y ∷ ys) ≡ ys
drop_one_more [] y [] = refl
drop_one_more [] y (z ∷ ys) = refl
drop_one_more (x ∷ xs) y ys = drop_one_more xs y ys

pub after_front : (p : ℕ → Bool) (xs : List ℕ) (y : ℕ) (ys : List ℕ) → Lacks p xs → p y ≡ true → after_first p (xs ++ y ∷ ys) ≡ ys
after_front p xs y ys f e =
    let at : position_or_len p (xs ++ y ∷ ys) + 1 ≡ suc (length xs) = omega (arith, position_front p xs y ys f e) in
    ap (λ n. drop n (xs ++ y ∷ ys)) at ∙ drop_one_more xs y ys

lt_true : (a b : ℕ) → a < b → nat_lt a b ≡ true
lt_true a b h = grind arith

pub has_front : (b : ℕ) (xs ys : List ℕ) → Lacks (is_byte b) xs → (b == b) ≡ true → has_byte b (xs ++ b ∷ ys) ≡ true
has_front b xs ys f e =
    ap (λ n. nat_lt n (length (xs ++ b ∷ ys))) (position_front (is_byte b) xs b ys f e)
    ∙ lt_true (length xs) (length (xs ++ b ∷ ys)) (omega (arith, length-append xs (b ∷ ys)))

pub lacks_position : (p : ℕ → Bool) (xs : List ℕ) → Lacks p xs → position_or_len p xs ≡ length xs
lacks_position p [] f = refl
lacks_position p (x ∷ xs) f = let rest = lacks_position p xs f.1 in let one = prefix_yes (λ y. not (p y)) x xs (ap not f.0) in omega (arith, rest, one)

pub before_lacking : (p : ℕ → Bool) (xs : List ℕ) → Lacks p xs → before_first p xs ≡ xs
before_lacking p xs f = ap (λ n. take n xs) (lacks_position p xs f) ∙ take_all (length xs) xs (omega arith)

pub any_lacking : (p : ℕ → Bool) (xs : List ℕ) → Lacks p xs → list_any p xs ≡ false
any_lacking p [] f = refl
any_lacking p (x ∷ xs) f = ap (λ b. b || list_any p xs) f.0 ∙ any_lacking p xs f.1

pub lacks_any : (p : ℕ → Bool) (xs : List ℕ) → list_any p xs ≡ false → Lacks p xs
lacks_any p [] e = tt
lacks_any p (x ∷ xs) e = let both = or_parts (p x) (list_any p xs) e in (both.0, lacks_any p xs both.1)

lacks_reverse : (p : ℕ → Bool) (xs : List ℕ) → Lacks p xs → Lacks p (reverse xs)
lacks_reverse p [] f = tt
lacks_reverse p (x ∷ xs) f = subst (Lacks p) (sym (reverse-append (x ∷ []) xs)) (lacks-append p (reverse xs) (x ∷ []) (lacks_reverse p xs f.1) (f.0, tt))

pub starts_lacking : (b : ℕ) (xs : List ℕ) → Lacks (is_byte b) xs → starts_with_byte xs b ≡ false
starts_lacking b [] f = refl
starts_lacking b (x ∷ xs) f = f.0

pub ends_lacking : (b : ℕ) (xs : List ℕ) → Lacks (is_byte b) xs → ends_with_byte xs b ≡ false
ends_lacking b xs f = starts_lacking b (reverse xs) (lacks_reverse (is_byte b) xs f)

pub ends_with_last : (b : ℕ) (xs : List ℕ) → (b == b) ≡ true → ends_with_byte (xs ++ b ∷ []) b ≡ true
ends_with_last b xs e = ap (λ l. starts_with_byte l b) (reverse-append xs (b ∷ [])) ∙ e

-- digits are no other bytes
pub digits_lack : (p : ℕ → Bool) (ds : List ℕ) → ((d : ℕ) → is_digit d ≡ true → p d ≡ false) → list_all is_digit ds ≡ true → Lacks p ds
digits_lack p [] f h = tt
digits_lack p (d ∷ ds) f h = (f d (and_left (is_digit d) (list_all is_digit ds) h), digits_lack p ds f (and_right (is_digit d) (list_all is_digit ds) h))

pub lacks_spaces : (b n : ℕ) → (32 == b) ≡ false → Lacks (is_byte b) (replicate n 32)
lacks_spaces b zero e = tt
lacks_spaces b (suc n) e = (e, lacks_spaces b n e)

-- a tag is lacks of each byte that ends one
three_parts : (x y z : Bool) → (x || y || z) ≡ false → (x ≡ false) × (y ≡ false) × (z ≡ false)
three_parts false false false e = (refl, refl, refl)
three_parts true y z e = cc
three_parts false true z e = cc
three_parts false false true e = cc

three_from : (x y z : Bool) → x ≡ false → y ≡ false → z ≡ false → (x || y || z) ≡ false
three_from false false false e f g = refl
three_from true y z e f g = e
three_from false true z e f g = f
three_from false false true e f g = g

ends_parts : (b : ℕ) → ends_tag b ≡ false → (is_byte 10 b ≡ false) × (is_byte 35 b ≡ false) × (is_byte 93 b ≡ false)
ends_parts b e = three_parts (b == 10) (b == 35) (b == 93) e

pub tag_lacks : (tag : List ℕ) → IsTag tag → Lacks (is_byte 10) tag × Lacks (is_byte 35) tag × Lacks (is_byte 93) tag
tag_lacks tag t =
    let f : Lacks ends_tag tag = lacks_any ends_tag tag t in (
      each_weaker (λ b. ends_tag b ≡ false) (λ b. is_byte 10 b ≡ false) tag (λ b e. (ends_parts b e).0) f,
      each_weaker (λ b. ends_tag b ≡ false) (λ b. is_byte 35 b ≡ false) tag (λ b e. (ends_parts b e).1) f,
      each_weaker (λ b. ends_tag b ≡ false) (λ b. is_byte 93 b ≡ false) tag (λ b e. (ends_parts b e).2) f,
    )

pub lacks_tag : (tag : List ℕ) → Lacks (is_byte 10) tag → Lacks (is_byte 35) tag → Lacks (is_byte 93) tag → IsTag tag
lacks_tag tag f g h = any_lacking ends_tag tag (none tag f g h)
  where
    none : (tag : List ℕ) → Lacks (is_byte 10) tag → Lacks (is_byte 35) tag → Lacks (is_byte 93) tag → Lacks ends_tag tag
    none [] f g h = tt
    none (b ∷ bs) f g h = (three_from (b == 10) (b == 35) (b == 93) f.0 g.0 h.0, none bs f.1 g.1 h.1)
