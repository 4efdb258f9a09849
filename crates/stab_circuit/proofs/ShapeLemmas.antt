-- The shape of a printed content is read again.
use Rattle.stab_circuit.proofs.Names.{◌≡◌, refl, ap, sym, ◌∙◌, ℕ, ◌-◌, ◌==◌, ◌&&◌, ◌||◌, List, [], ◌∷◌, ◌++◌, Bool, true, false, not, length, take, drop, append_assoc, arith, if◌then◌else◌, Ok, Err, prefix_len, before_first, after_first, list_any, list_all, take_while, length-append, nat_tests, BadLine, ◌>>=◌, is_spacing, is_byte, is_letter, is_name_byte, is_brace, may_follow, bracketed, has_byte, starts_with_byte, ends_with_byte, without_brace, shaped, after_tag, shape_of, is_coordinate_byte, tag_text, arguments_text, head_text}
use Rattle.stab_instructions.proofs.BoolLemmas.{chosen, passed, both, and_left, and_right}
use Rattle.stab_instructions.proofs.LackLemmas.{Each, Lacks, drop_none, Stops, lacks-append, prefix_front, take_front, drop_front, before_front, after_front, has_front, any_lacking, ends_lacking, ends_with_last, each_weaker}
use Rattle.stab_instructions.proofs.SureLemmas.{IsCoordinate}
use Rattle.stab_circuit.proofs.ReadBackLemmas.{further, coordinate_lacks}

-- a letter, and then letters, digits and underscores
pub record IsName (name : List ℕ) : Type 0 where
  pub first : ℕ
  pub rest : List ℕ
  pub front : name ≡ first ∷ rest
  pub letter : is_letter first ≡ true
  pub bytes : Each (λ b. is_name_byte b ≡ true) name

pub each_all : (p : ℕ → Bool) (xs : List ℕ) → list_all p xs ≡ true → Each (λ x. p x ≡ true) xs
each_all p [] h = tt
each_all p (x ∷ xs) h = (and_left (p x) (list_all p xs) h, each_all p xs (and_right (p x) (list_all p xs) h))

pub name_is : (x : ℕ) (xs : List ℕ) → is_letter x ≡ true → list_all is_name_byte (x ∷ xs) ≡ true → IsName (x ∷ xs)
name_is x xs e f = record { first = x; rest = xs; front = refl; letter = e; bytes = each_all is_name_byte (x ∷ xs) f }

letter_first : (name rest : List ℕ) → IsName name → list_any is_letter (take 1 (name ++ rest)) ≡ true
letter_first name rest n = ap (λ l. list_any is_letter (take 1 (l ++ rest))) n.front ∙ ap (λ b. b || list_any is_letter (take 0 (n.rest ++ rest))) n.letter

-- nothing, or a space first
abbrev pub MayFollow : List ℕ → Type 0
MayFollow [] = Unit {0}
MayFollow (b ∷ bs) = b ≡ 32

may_follow_stops : (p : ℕ → Bool) (tail : List ℕ) → p 32 ≡ false → MayFollow tail → Stops p tail
may_follow_stops p [] e a = tt
may_follow_stops p (b ∷ bs) e a = ap p a ∙ e

starts_stops : (b : ℕ) (bs : List ℕ) → Stops (is_byte b) bs → starts_with_byte bs b ≡ false
starts_stops b [] s = refl
starts_stops b (x ∷ xs) s = s

-- what begins with spacing may follow
pub spaced_may_follow : (b : ℕ) (bs : List ℕ) → is_spacing b ≡ true → may_follow (b ∷ bs) ≡ true
unfolding may_follow
spaced_may_follow b bs spaced = either (length (b ∷ bs) == 0) (is_spacing b) (list_any is_spacing (take 0 bs)) ((length (b ∷ bs) == 1) && ends_with_byte (b ∷ bs) 123) spaced
  where
    either : (p q r s : Bool) → q ≡ true → (p || (q || r) || s) ≡ true
    either true q r s e = refl
    either false true r s e = refl
    either false false r s e = cc

may_follow_again : (tail : List ℕ) → MayFollow tail → may_follow tail ≡ true
unfolding may_follow
may_follow_again [] a = refl
may_follow_again (b ∷ bs) a = spaced_may_follow b bs (ap is_spacing a)

-- what is in brackets is read again
pub brackets_again : (opening closing : ℕ) (all inner rest : List ℕ) → (opening == opening) ≡ true → (closing == closing) ≡ true → Lacks (is_byte closing) inner → all ≡ inner ++ closing ∷ rest
    → bracketed opening closing (opening ∷ all) ≡ Ok (inner, rest)
unfolding bracketed
brackets_again opening closing all inner rest e f lacks same =
    chosen (opening == opening) _ _ e
    ∙ ap (λ l. if has_byte closing l then Ok (before_first (is_byte closing) l, after_first (is_byte closing) l) else Err BadLine) (drop_none all ∙ same)
    ∙ chosen (has_byte closing (inner ++ closing ∷ rest)) _ _ (has_front closing inner rest lacks f)
    ∙ ap (λ l. Ok (l, after_first (is_byte closing) (inner ++ closing ∷ rest))) (before_front (is_byte closing) inner closing rest lacks f)
    ∙ ap (λ l. Ok (inner, l)) (after_front (is_byte closing) inner closing rest lacks f)

pub no_brackets : (opening closing : ℕ) (rest : List ℕ) → Stops (is_byte opening) rest → bracketed opening closing rest ≡ Ok ([], rest)
unfolding bracketed
no_brackets opening closing rest s = passed (starts_with_byte rest opening) _ _ (starts_stops opening rest s)

tag_again : (tag rest : List ℕ) → Lacks (is_byte 93) tag → Stops (is_byte 91) rest → bracketed 91 93 (tag_text tag ++ rest) ≡ Ok (tag, rest)
tag_again [] rest f s = no_brackets 91 93 rest s
tag_again (b ∷ bs) rest f s = brackets_again 91 93 (((b ∷ bs) ++ 93 ∷ []) ++ rest) (b ∷ bs) rest refl refl f (append_assoc (b ∷ bs) (93 ∷ []) rest)

-- what is between the brackets of arguments
abbrev pub inner_of : List (List ℕ) → List ℕ
inner_of [] = []
inner_of (a ∷ more) = a ++ further more

pub lacks_further : (p : ℕ → Bool) → ((b : ℕ) → is_coordinate_byte b ≡ true → p b ≡ false) → p 44 ≡ false → p 32 ≡ false → (more : List (List ℕ)) → Each IsCoordinate more → Lacks p (further more)
lacks_further p f e s [] c = tt
lacks_further p f e s (a ∷ more) c = (e, (s, lacks-append p a (further more) (coordinate_lacks p a f c.0.1) (lacks_further p f e s more c.1)))

pub lacks_inner : (p : ℕ → Bool) → ((b : ℕ) → is_coordinate_byte b ≡ true → p b ≡ false) → p 44 ≡ false → p 32 ≡ false → (arguments : List (List ℕ)) → Each IsCoordinate arguments → Lacks p (inner_of arguments)
lacks_inner p f e s [] c = tt
lacks_inner p f e s (a ∷ more) c = lacks-append p a (further more) (coordinate_lacks p a f c.0.1) (lacks_further p f e s more c.1)

no_closing : (b : ℕ) → is_coordinate_byte b ≡ true → (b == 41) ≡ false
no_closing b e = grind (arith, nat_tests)

no_brace : (b : ℕ) → is_coordinate_byte b ≡ true → is_brace b ≡ false
no_brace b e = grind (arith, nat_tests)

inner_again : (arguments : List (List ℕ)) (rest : List ℕ) → Each IsCoordinate arguments → MayFollow rest → bracketed 40 41 (arguments_text arguments ++ rest) ≡ Ok (inner_of arguments, rest)
inner_again [] rest c a = no_brackets 40 41 rest (may_follow_stops (is_byte 40) rest refl a)
inner_again (a ∷ more) rest c can_follow =
    brackets_again 40 41 ((a ++ (further more ++ 41 ∷ [])) ++ rest) (a ++ further more) rest refl refl (lacks_inner (is_byte 41) no_closing refl refl (a ∷ more) c)
    (ap (λ l. l ++ rest) (sym (append_assoc a (further more) (41 ∷ []))) ∙ append_assoc (a ++ further more) (41 ∷ []) rest)

rest_stops : (p : ℕ → Bool) (arguments : List (List ℕ)) (tail : List ℕ) → p 40 ≡ false → p 32 ≡ false → MayFollow tail → Stops p (arguments_text arguments ++ tail)
rest_stops p [] tail e f a = may_follow_stops p tail f a
rest_stops p (x ∷ more) tail e f a = e

name_stops : (tag : List ℕ) (arguments : List (List ℕ)) (tail : List ℕ) → MayFollow tail → Stops is_name_byte (tag_text tag ++ (arguments_text arguments ++ tail))
name_stops [] arguments tail a = rest_stops is_name_byte arguments tail refl refl a
name_stops (b ∷ bs) arguments tail a = refl

-- a printed content
abbrev pub content_text : List ℕ → List ℕ → List (List ℕ) → List ℕ → List ℕ
content_text name tag arguments tail = head_text name tag ++ (arguments_text arguments ++ tail)

cut_again : (name tag : List ℕ) (arguments : List (List ℕ)) (tail : List ℕ) → IsName name → Lacks (is_byte 93) tag → Each IsCoordinate arguments → MayFollow tail
    → shape_of (content_text name tag arguments tail) ≡ shaped (content_text name tag arguments tail) tag (inner_of arguments, tail)
unfolding shape_of
cut_again name tag arguments tail n t c a =
    let content = content_text name tag arguments tail in
    let rest = arguments_text arguments ++ tail in
    let flat : content ≡ name ++ (tag_text tag ++ rest) = append_assoc name (tag_text tag) rest in
    let following : drop (prefix_len is_name_byte content) content ≡ tag_text tag ++ rest =
    ap (λ l. drop (prefix_len is_name_byte l) l) flat
    ∙ ap (λ k. drop k (name ++ (tag_text tag ++ rest))) (prefix_front is_name_byte name (tag_text tag ++ rest) n.bytes (name_stops tag arguments tail a))
    ∙ drop_front name (tag_text tag ++ rest) in
    ap (λ l. bracketed 91 93 l >>= after_tag content) following
    ∙ ap (λ r. r >>= after_tag content) (tag_again tag rest t (rest_stops (is_byte 91) arguments tail refl refl a))
    ∙ ap (λ r. r >>= shaped content tag) (inner_again arguments tail c a)

name_again : (name tag : List ℕ) (arguments : List (List ℕ)) (tail : List ℕ) → IsName name → MayFollow tail → take_while is_name_byte (content_text name tag arguments tail) ≡ name
name_again name tag arguments tail n a =
    let rest = tag_text tag ++ (arguments_text arguments ++ tail) in
    ap (take_while is_name_byte) (append_assoc name (tag_text tag) (arguments_text arguments ++ tail))
    ∙ ap (λ k. take k (name ++ rest)) (prefix_front is_name_byte name rest n.bytes (name_stops tag arguments tail a))
    ∙ take_front name rest

letter_again : (name tag : List ℕ) (arguments : List (List ℕ)) (tail : List ℕ) → IsName name → list_any is_letter (take 1 (content_text name tag arguments tail)) ≡ true
letter_again name tag arguments tail n =
    ap (λ l. list_any is_letter (take 1 l)) (append_assoc name (tag_text tag) (arguments_text arguments ++ tail)) ∙ letter_first name (tag_text tag ++ (arguments_text arguments ++ tail)) n

-- a shape, if the targets without a brace and whether one opens are known
pub shaped_again : (content name tag inner tail targets : List ℕ) (open' : Bool) → list_any is_letter (take 1 content) ≡ true → take_while is_name_byte content ≡ name → may_follow tail ≡ true → Lacks is_brace inner
    → Lacks is_brace targets → without_brace tail ≡ targets → ends_with_byte tail 123 ≡ open'
    → shaped content tag (inner, tail) ≡ Ok (record { name = name; tag = tag; arguments = inner; targets = targets; opens = open' })
shaped_again content name tag inner tail targets open' l n a f g same o =
    let plain : not (list_any is_brace inner) ≡ true = ap not (any_lacking is_brace inner f) in
    let clear : not (list_any is_brace (without_brace tail)) ≡ true = ap (λ t. not (list_any is_brace t)) same ∙ ap not (any_lacking is_brace targets g) in
    let two : (list_any is_letter (take 1 content) && may_follow tail) ≡ true = both (list_any is_letter (take 1 content)) (may_follow tail) l a in
    let three : (list_any is_letter (take 1 content) && may_follow tail && not (list_any is_brace inner)) ≡ true =
    both (list_any is_letter (take 1 content) && may_follow tail) (not (list_any is_brace inner)) two plain in
    chosen (list_any is_letter (take 1 content) && may_follow tail && not (list_any is_brace inner) && not (list_any is_brace (without_brace tail))) _ _
    (both (list_any is_letter (take 1 content) && may_follow tail && not (list_any is_brace inner)) (not (list_any is_brace (without_brace tail))) three clear)
    ∙ ap (λ s. Ok (record { name = s; tag = tag; arguments = inner; targets = without_brace tail; opens = ends_with_byte tail 123 })) n
    ∙ ap (λ s. Ok (record { name = name; tag = tag; arguments = inner; targets = s; opens = ends_with_byte tail 123 })) same
    ∙ ap (λ b. Ok (record { name = name; tag = tag; arguments = inner; targets = targets; opens = b })) o

pub brace_lacks : (xs : List ℕ) → Lacks is_brace xs → Lacks (is_byte 123) xs
brace_lacks xs f = each_weaker (λ b. is_brace b ≡ false) (λ b. is_byte 123 b ≡ false) xs (λ b e. no_open b e) f
  where
    no_open : (b : ℕ) → is_brace b ≡ false → (b == 123) ≡ false
    no_open b e = grind (arith, nat_tests)

-- the shape of a printed instruction
pub shape_again : (name tag : List ℕ) (arguments : List (List ℕ)) (tail : List ℕ) → IsName name → Lacks (is_byte 93) tag → Each IsCoordinate arguments → MayFollow tail → Lacks is_brace tail
    → shape_of (content_text name tag arguments tail) ≡ Ok (record { name = name; tag = tag; arguments = inner_of arguments; targets = tail; opens = false })
shape_again name tag arguments tail n t c a f =
    let closed : ends_with_byte tail 123 ≡ false = ends_lacking 123 tail (brace_lacks tail f) in
    cut_again name tag arguments tail n t c a
    ∙ shaped_again (content_text name tag arguments tail) name tag (inner_of arguments) tail tail false (letter_again name tag arguments tail n) (name_again name tag arguments tail n a)
    (may_follow_again tail a)
    (lacks_inner is_brace no_brace refl refl arguments c) f (passed (ends_with_byte tail 123) _ _ closed) closed

-- the shape of the printed opening of a block
pub open_shape_again : (name tag front : List ℕ) → IsName name → Lacks (is_byte 93) tag → MayFollow (front ++ 123 ∷ []) → Lacks is_brace front
    → shape_of (head_text name tag ++ (front ++ 123 ∷ [])) ≡ Ok (record { name = name; tag = tag; arguments = []; targets = front; opens = true })
open_shape_again name tag front n t a f =
    let tail = front ++ 123 ∷ [] in
    let opens : ends_with_byte tail 123 ≡ true = ends_with_last 123 front refl in
    let one_less : length tail - 1 ≡ length front = omega (arith, length-append front (123 ∷ [])) in
    let same : without_brace tail ≡ front = chosen (ends_with_byte tail 123) _ _ opens ∙ ap (λ k. take k tail) one_less ∙ take_front front (123 ∷ []) in
    cut_again name tag [] tail n t tt a
    ∙ shaped_again (content_text name tag [] tail) name tag [] tail front true (letter_again name tag [] tail n) (name_again name tag [] tail n a) (may_follow_again tail a) tt f same opens
