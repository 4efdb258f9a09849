-- Laws of the text of single errors: the parts of a line, and lines one after another.
use Rattle.stab_report.proofs.Names.{◌≡◌, refl, sym, ap, ap₂, ◌∙◌, ℕ, zero, suc, ◌+◌, ◌*◌, ◌-◌, ◌<◌, ◌≤◌, Bool, List, [], ◌∷◌, ◌++◌, length, take, drop, replicate, get_or, codes, decimal, append_assoc, append-nil, Option, Some, None, arith, add-one, flat_map, slice_get, length-append, slice_get_within, get_or_from_slice_get, OutputView, TookAndFailed, Fault, failed_within, entry, Items, Step, Path, path_text, paths_of, outside, Kinds, SingleError, Site, single_error_on, single_errors_on, single_errors_from, sites_at, bit_text, fault_line, reported_text, random_bit, random_line, single_error_text, table_line, table_lines, path_at, row_head, texts_joined, Random}
use Rattle.std.proofs.Common.{drop-cons}
use Rattle.stab_gates.specs.declared.letter.Letter.TheVariants as letter

-- the front of a row's line, by its three parts
pub joined-head : (before number : ℕ) (path : Path) (symbol front back : List ℕ) → front ≡ decimal before → back ≡ decimal number
    → texts_joined (front ∷ codes " " ∷ []) ++ (path_text path ++ texts_joined (codes " " ∷ symbol ∷ back ∷ [])) ≡ row_head before path symbol number
joined-head before number path symbol front back is_front is_back =
    rw (is_front, is_back, append-nil (decimal number)) (append_assoc (decimal before) (codes " ") (path_text path ++ (codes " " ++ (symbol ++ decimal number))))

-- a bit and the path of its item, by the parts that are written
pub joined-random : (u : Random) (name number : List ℕ) (n : ℕ) → bit_text u.bit ≡ name ++ decimal n → number ≡ decimal n
    → texts_joined (codes "stabsim: " ∷ name ∷ number ∷ codes ", item " ∷ []) ++ path_text u.path ≡ random_bit u
joined-random u name number n is_bit is_number =
    let rest = path_text u.path in
    ap (λ l. codes "stabsim: " ++ l) (
    append_assoc name (number ++ codes ", item ") rest
    ∙ ap (λ l. name ++ l) (append_assoc number (codes ", item ") rest ∙ ap (λ l. l ++ (codes ", item " ++ rest)) is_number)
    ∙ sym (append_assoc name (decimal n) (codes ", item " ++ rest))
    ∙ ap (λ l. l ++ (codes ", item " ++ rest)) (sym is_bit)
    )

-- the two lines at a site, by how many steps are in front of it
pub joined-site : (kinds : Kinds) (path : Path) (step before : ℕ) (s : Site) (by_x by_z : List ℕ) → before ≡ (single_error_on step s letter.X).before
    → (single_error_text before path letter.X s.qubit ++ (flat_map (entry kinds) by_x ++ codes "\n")) ++ (single_error_text before path letter.Z s.qubit ++ (flat_map (entry kinds) by_z ++ codes "\n"))
    ≡ table_line kinds path (single_error_on step s letter.X) by_x ++ table_line kinds path (single_error_on step s letter.Z) by_z
joined-site kinds path step before s by_x by_z e =
    ap (λ b. (single_error_text b path letter.X s.qubit ++ (flat_map (entry kinds) by_x ++ codes "\n")) ++ (single_error_text b path letter.Z s.qubit ++ (flat_map (entry kinds) by_z ++ codes "\n"))) e

-- three texts, and what is after them
pub joined_three : (a b c rest : List ℕ) → texts_joined (a ∷ b ∷ c ∷ []) ++ rest ≡ a ++ (b ++ (c ++ rest))
joined_three a b c rest = append_assoc a (b ++ (c ++ [])) rest ∙ ap (λ l. a ++ l) (append_assoc b (c ++ []) rest ∙ ap (λ l. b ++ (l ++ rest)) (append-nil c))

-- what is cut off within a single error's line is cut off within what says the single error
pub failed_reported : {a b : OutputView} (f : Fault) (u : Option Random) → TookAndFailed a b (fault_line f) → TookAndFailed a b (reported_text f u)
failed_reported f None failed = failed
failed_reported f (Some u) failed = failed_within (fault_line f) (random_line u) failed

-- lists

-- the element at a position, and those after it
pub drop-found : {A : Type 0} (xs : List A) (k : ℕ) (x : A) → slice_get xs k ≡ Some x → drop k xs ≡ x ∷ drop (k + 1) xs
drop-found xs k x e = rw add-one (drop-cons xs k x (slice_get_within xs k x e) ∙ ap (λ y. y ∷ drop (suc k) xs) (get_or_from_slice_get xs k x x e))

-- nothing is after the last site
pub drop-missed : {A : Type 0} (xs : List A) (k : ℕ) → slice_get xs k ≡ None → drop k xs ≡ []
drop-missed [] zero e = refl
drop-missed [] (suc k) e = refl
drop-missed (x ∷ xs) zero e = absurd (cc)
drop-missed (x ∷ xs) (suc k) e = drop-missed xs k e

pub past-missed : {A : Type 0} (xs : List A) (k : ℕ) → slice_get xs k ≡ None → length xs ≤ k
past-missed [] k e = omega arith
past-missed (x ∷ xs) zero e = absurd (cc)
past-missed (x ∷ xs) (suc k) e = omega (arith, past-missed xs k e)

drop-none : {A : Type 0} (m : ℕ) → drop {A = A} m [] ≡ []
drop-none zero = refl
drop-none (suc m) = refl

get-none : {A : Type 0} (m : ℕ) → slice_get {X = A} [] m ≡ None
get-none zero = refl
get-none (suc m) = refl

drop-more : {A : Type 0} (xs : List A) (j k : ℕ) → drop k (drop j xs) ≡ drop (j + k) xs
drop-more xs zero k = let same : k ≡ 0 + k = omega arith in ap (λ m. drop m xs) same
drop-more {A = A} [] (suc j) k = drop-none {A = A} k ∙ sym (drop-none {A = A} (suc j + k))
drop-more (x ∷ xs) (suc j) k = let same : suc (j + k) ≡ suc j + k = omega arith in drop-more xs j k ∙ ap (λ m. drop m (x ∷ xs)) same

-- the first of equal elements
stretch_first : {A : Type 0} (xs : List A) (n : ℕ) (p : A) → take (suc n) xs ≡ replicate (suc n) p → slice_get xs 0 ≡ Some p
stretch_first [] n p e = absurd (cc)
stretch_first (x ∷ xs) n p e = cc

stretch_rest : {A : Type 0} (xs : List A) (n : ℕ) (p : A) → take (suc n) xs ≡ replicate (suc n) p → take n (drop 1 xs) ≡ replicate n p
stretch_rest [] n p e = absurd (cc)
stretch_rest (x ∷ xs) n p e = cc

get-drop : {A : Type 0} (xs : List A) (j k : ℕ) → slice_get (drop j xs) k ≡ slice_get xs (j + k)
get-drop xs zero k = let same : k ≡ 0 + k = omega arith in ap (slice_get xs) same
get-drop {A = A} [] (suc j) k = get-none {A = A} k ∙ sym (get-none {A = A} (suc j + k))
get-drop (x ∷ xs) (suc j) k = let same : suc (j + k) ≡ suc j + k = omega arith in get-drop xs j k ∙ ap (slice_get (x ∷ xs)) same

-- the element where equal ones begin
pub stretch_here : {A : Type 0} (xs : List A) (t n : ℕ) (p : A) → 0 < n → take n (drop t xs) ≡ replicate n p → slice_get xs t ≡ Some p
stretch_here xs t zero p h e = absurd (omega arith)
stretch_here xs t (suc n) p h e = let same : t + 0 ≡ t = omega arith in ap (slice_get xs) (sym same) ∙ sym (get-drop xs t 0) ∙ stretch_first (drop t xs) n p e

-- the others are after it
pub stretch_on : {A : Type 0} (xs : List A) (t n : ℕ) (p : A) → 0 < n → take n (drop t xs) ≡ replicate n p → take (n - 1) (drop (t + 1) xs) ≡ replicate (n - 1) p
stretch_on xs t zero p h e = absurd (omega arith)
stretch_on xs t (suc n) p h e =
    let less : suc n - 1 ≡ n = omega arith in
    ap (λ m. take m (drop (t + 1) xs)) less ∙ ap (take n) (sym (drop-more xs t 1)) ∙ stretch_rest (drop t xs) n p e ∙ ap (λ m. replicate m p) (sym less)

-- the path of a step is that of its stretch
pub path_here : (items : Items) (t n : ℕ) (p : Path) → 0 < n → take n (drop t (paths_of items)) ≡ replicate n p → path_at items t ≡ p
path_here items t n p h e = get_or_from_slice_get (paths_of items) t p (outside 0) (stretch_here (paths_of items) t n p h e)

-- lines

-- how many single errors are at sites
pub length-single_errors : (t : ℕ) (ss : List Site) → length (flat_map (single_errors_on t) ss) ≡ 2 * length ss
length-single_errors t [] = refl
length-single_errors t (s ∷ ss) = let more = length-single_errors t ss in omega (arith, more)

-- lines of single errors, and of those after them
pub lines-append : (kinds : Kinds) (path_of : ℕ → Path) (fs gs : List SingleError) (rows : List (List ℕ))
    → table_lines kinds path_of (fs ++ gs) rows ≡ table_lines kinds path_of fs rows ++ table_lines kinds path_of gs (drop (length fs) rows)
lines-append kinds path_of [] gs rows = refl
lines-append kinds path_of (f ∷ fs) gs [] = no_rows gs
  where
    no_rows : (hs : List SingleError) → [] ≡ table_lines kinds path_of hs []
    no_rows [] = refl
    no_rows (h ∷ hs) = refl
lines-append kinds path_of (f ∷ fs) gs (row ∷ rows) =
    ap (λ l. table_line kinds (path_of f.step) f row ++ l) (lines-append kinds path_of fs gs rows)
    ∙ sym (append_assoc (table_line kinds (path_of f.step) f row) (table_lines kinds path_of fs rows) (table_lines kinds path_of gs (drop (length fs) rows)))

-- the two lines at a site, and those after them
pub lines_at_position : (kinds : Kinds) (path_of : ℕ → Path) (t : ℕ) (s : Site) (ss : List Site) (rows : List (List ℕ)) (k : ℕ) → k + 1 < length rows
    → table_lines kinds path_of (flat_map (single_errors_on t) (s ∷ ss)) (drop k rows)
    ≡ (table_line kinds (path_of t) (single_error_on t s letter.X) (get_or rows k []) ++ table_line kinds (path_of t) (single_error_on t s letter.Z) (get_or rows (k + 1) []))
    ++ table_lines kinds path_of (flat_map (single_errors_on t) ss) (drop (k + 2) rows)
lines_at_position kinds path_of t s ss rows k h =
    let first : drop k rows ≡ get_or rows k [] ∷ drop (suc k) rows = drop-cons rows k [] (omega arith) in
    let one : suc k ≡ k + 1 = omega arith in
    let two : suc (k + 1) ≡ k + 2 = omega arith in
    let second : drop (suc k) rows ≡ get_or rows (k + 1) [] ∷ drop (k + 2) rows = ap (λ m. drop m rows) one ∙ drop-cons rows (k + 1) [] h ∙ ap (λ m. get_or rows (k + 1) [] ∷ drop m rows) two in
    ap (table_lines kinds path_of (flat_map (single_errors_on t) (s ∷ ss))) (first ∙ ap (λ l. get_or rows k [] ∷ l) second)
    ∙ sym (append_assoc (table_line kinds (path_of t) (single_error_on t s letter.X) (get_or rows k [])) (table_line kinds (path_of t) (single_error_on t s letter.Z) (get_or rows (k + 1) []))
    (table_lines kinds path_of (flat_map (single_errors_on t) ss) (drop (k + 2) rows)))

-- lines of single errors at one step need its path alone
pub lines_same : (kinds : Kinds) (path_of : ℕ → Path) (p : Path) (t : ℕ) → path_of t ≡ p → (ss : List Site) (rows : List (List ℕ))
    → table_lines kinds path_of (flat_map (single_errors_on t) ss) rows ≡ table_lines kinds (λ _. p) (flat_map (single_errors_on t) ss) rows
lines_same kinds path_of p t e [] rows = refl
lines_same kinds path_of p t e (s ∷ ss) [] = refl
lines_same kinds path_of p t e (s ∷ ss) (a ∷ []) = ap (λ q. table_line kinds q (single_error_on t s letter.X) a ++ []) e
lines_same kinds path_of p t e (s ∷ ss) (a ∷ b ∷ rows) =
    ap (λ q. table_line kinds q (single_error_on t s letter.X) a ++ (table_line kinds q (single_error_on t s letter.Z) b ++ table_lines kinds path_of (flat_map (single_errors_on t) ss) rows)) e
    ∙ ap (λ l. table_line kinds p (single_error_on t s letter.X) a ++ (table_line kinds p (single_error_on t s letter.Z) b ++ l)) (lines_same kinds path_of p t e ss rows)

-- the lines at a step, and those after them
pub lines_at_step : (kinds : Kinds) (path_of : ℕ → Path) (everywhere : Bool) (p : Path) (t : ℕ) (x : Step) (xs : List Step) (rows : List (List ℕ)) (k : ℕ) → path_of t ≡ p
    → table_lines kinds path_of (single_errors_from everywhere t (x ∷ xs)) (drop k rows)
    ≡ table_lines kinds (λ _. p) (flat_map (single_errors_on t) (sites_at everywhere x)) (drop k rows)
    ++ table_lines kinds path_of (single_errors_from everywhere (t + 1) xs) (drop (k + 2 * length (sites_at everywhere x)) rows)
lines_at_step kinds path_of everywhere p t x xs rows k e =
    let here = flat_map (single_errors_on t) (sites_at everywhere x) in
    let later = single_errors_from everywhere (t + 1) xs in
    lines-append kinds path_of here later (drop k rows)
    ∙ ap₂ (λ a b. a ++ b) (lines_same kinds path_of p t e (sites_at everywhere x) (drop k rows))
    (ap (table_lines kinds path_of later) (drop-more rows k (length here) ∙ ap (λ m. drop (k + m) rows) (length-single_errors t (sites_at everywhere x))))

-- how many single errors are at a step and after it
pub length-from : (everywhere : Bool) (t : ℕ) (x : Step) (xs : List Step)
    → length (single_errors_from everywhere t (x ∷ xs)) ≡ 2 * length (sites_at everywhere x) + length (single_errors_from everywhere (t + 1) xs)
length-from everywhere t x xs =
    length-append (flat_map (single_errors_on t) (sites_at everywhere x)) (single_errors_from everywhere (t + 1) xs)
    ∙ ap (λ m. m + length (single_errors_from everywhere (t + 1) xs)) (length-single_errors t (sites_at everywhere x))

-- the two lines at the site of a number, and those after them
pub lines_here : (kinds : Kinds) (p : Path) (t : ℕ) (sites : List Site) (rows : List (List ℕ)) (position next : ℕ) (s : Site) → slice_get sites position ≡ Some s → next + 1 < length rows
    → table_lines kinds (λ _. p) (flat_map (single_errors_on t) (drop position sites)) (drop next rows)
    ≡ (table_line kinds p (single_error_on t s letter.X) (get_or rows next []) ++ table_line kinds p (single_error_on t s letter.Z) (get_or rows (next + 1) []))
    ++ table_lines kinds (λ _. p) (flat_map (single_errors_on t) (drop (position + 1) sites)) (drop (next + 2) rows)
lines_here kinds p t sites rows position next s e h =
    ap (λ ss. table_lines kinds (λ _. p) (flat_map (single_errors_on t) ss) (drop next rows)) (drop-found sites position s e) ∙ lines_at_position kinds (λ _. p) t s (drop (position + 1) sites) rows next h

-- no lines are after the last site
pub lines_past : (kinds : Kinds) (p : Path) (t : ℕ) (sites : List Site) (rows : List (List ℕ)) (position next : ℕ) → slice_get sites position ≡ None
    → table_lines kinds (λ _. p) (flat_map (single_errors_on t) (drop position sites)) (drop next rows) ≡ []
lines_past kinds p t sites rows position next e = ap (λ ss. table_lines kinds (λ _. p) (flat_map (single_errors_on t) ss) (drop next rows)) (drop-missed sites position e)

-- the paths of the steps of a stretch but its first
pub stretch_next : (items : Items) (t n : ℕ) (p : Path) → 0 < n → take n (drop t (paths_of items)) ≡ replicate n p → take (n - 1) (drop (t + 1) (paths_of items)) ≡ replicate (n - 1) p
stretch_next items t n p h e = stretch_on (paths_of items) t n p h e
