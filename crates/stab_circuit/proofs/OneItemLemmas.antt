-- One item's text: what is read of it is one item, or none if every line is blank.
use Rattle.stab_circuit.proofs.Names.{◌≡◌, ◌≤◌, refl, ap, sym, ◌∙◌, subst, ℕ, ◌+◌, ◌-◌, suc, List, [], ◌∷◌, Bool, true, false, ◌==◌, nat_lt, length, map, None, Some, Result, Ok, Err, if◌then◌else◌, arith, list_all, nat_tests, Refusal, BadLine, TooDeep, Blank, Close, Open, Items, OneItem, operation, repeat, listed, done, next, block, join, meaning_of, is_close, Meaning, Joins, nothing, blank_line, operation_line, block_lines, at_line, fault_from, meaning_after, depth_after, ends_item, one_item, is_empty, OpenBlock, Progress, before_reading, closed, stepped, finished, read_on, is_whole, meaning_at, pending, chosen, passed, and_left, and_right, both}
use Rattle.stab_circuit.proofs.LineLaws.{blank_is_empty}
use Rattle.stab_circuit.proofs.ReaderLemmas.{pending_taken, pending_refused, not_one, not_none, whole_preserved, some_joined, nothing_pending}
use Rattle.stab_instructions.specs.declared.operation.Line.TheVariants as line
use Rattle.stab_circuit.proofs.FaultLemmas.{state, open_block}
use Rattle.stab_circuit.proofs.ReadingLemmas.{joined_read, choice_none, fault_opens}

-- the blank contents are the empty ones
blank_means : (c : List ℕ) → is_empty c ≡ true → meaning_of c ≡ Ok Blank
blank_means [] e = (blank_is_empty []).1 refl
blank_means (x ∷ xs) e = absurd (omega (arith, some x xs e))
  where
    some : (x : ℕ) (xs : List ℕ) → (length (x ∷ xs) == 0) ≡ true → length (x ∷ xs) ≡ 0
    some x xs e = grind (arith, nat_tests)

means_blank : (c : List ℕ) → meaning_of c ≡ Ok Blank → is_empty c ≡ true
means_blank c e = ap is_empty ((blank_is_empty c).0 e)

-- blank lines alone are read as nothing
pub blank_read : (cs : List (List ℕ)) (n : ℕ) → list_all is_empty cs ≡ true → read_on n before_reading (one_item 0 cs) ≡ Ok done
blank_read [] n e = refl
blank_read (c ∷ cs) n e =
    ap (λ m. read_on n before_reading (m ∷ (if ends_item 0 m then map meaning_after cs else one_item (depth_after 0 m) cs))) (blank_means c (and_left (is_empty c) (list_all is_empty cs) e))
    ∙ blank_read cs (n + 1) (and_right (is_empty c) (list_all is_empty cs) e)

-- each line is blank
abbrev AreBlank : List Meaning → Type 0
AreBlank [] = Unit {0}
AreBlank (m ∷ ms) = (m ≡ Ok Blank) × AreBlank ms

-- lines of nothing are blank
joins_done : {ms : List Meaning} {xs : Items} → Joins ms xs → xs ≡ done → AreBlank ms
joins_done nothing e = tt
joins_done (blank_line j) e = (refl, joins_done j e)
joins_done (operation_line j) e = cc
joins_done (block_lines j k) e = cc

blank_lines : (cs : List (List ℕ)) → AreBlank (one_item 0 cs) → list_all is_empty cs ≡ true
blank_lines [] a = refl
blank_lines (c ∷ cs) a =
    both (is_empty c) (list_all is_empty cs) (means_blank c a.0)
    (blank_lines cs (subst (λ m. AreBlank (if ends_item 0 m then map meaning_after cs else one_item (depth_after 0 m) cs)) a.0 a.1))

-- if nothing is read each line is blank
pub read_blank : (cs : List (List ℕ)) → read_on 1 before_reading (one_item 0 cs) ≡ Ok done → list_all is_empty cs ≡ true
read_blank cs e = blank_lines cs (joins_done (joined_read (one_item 0 cs) done e).1 refl)

-- how many items there are
abbrev pub size : Items → ℕ
size done = 0
size (next op rest) = suc (size rest)
size (block c t body rest) = suc (size rest)

pub size-listed : (xs : List OneItem) → size (listed xs) ≡ length xs
size-listed [] = refl
size-listed (operation op ∷ xs) = ap suc (size-listed xs)
size-listed (repeat c t body ∷ xs) = ap suc (size-listed xs)

-- the outermost items
abbrev outer : List OpenBlock → Items → Items
outer [] now = now
outer (f ∷ fs) now = outer fs f.before

abbrev one_if : Bool → ℕ
one_if true = 1
one_if false = 0

-- there is at most one item, and only if it is whole
abbrev IsSmall : Progress → Type 0
IsSmall s = size (outer s.open_blocks s.now) ≤ one_if (is_whole s)

size-join : (xs ys : Items) → size (join xs ys) ≡ size xs + size ys
size-join done ys = omega arith
size-join (next op rest) ys = omega (arith, size-join rest ys)
size-join (block c t body rest) ys = omega (arith, size-join rest ys)

small_open : (n : ℕ) (fs : List OpenBlock) (now : Items) (c : ℕ) (tag : List ℕ) (t : Progress) (b : Bool) → size (outer fs now) ≤ 0
    → (if b then Ok (state (open_block n c tag now ∷ fs) done) else Err TooDeep) ≡ Ok t → IsSmall t
small_open n fs now c tag t true h e = let same : state (open_block n c tag now ∷ fs) done ≡ t = cc in subst IsSmall same (omega (arith, h))
small_open n fs now c tag t false h e = cc

small_step : (n : ℕ) (fs : List OpenBlock) (now : Items) (m : Meaning) (t : Progress) → is_whole (state fs now) ≡ false → size (outer fs now) ≤ 0 → stepped n m (state fs now) ≡ Ok t → IsSmall t
small_step n fs now (Err r) t w h e = cc
small_step n fs now (Ok Blank) t w h e = let same : state fs now ≡ t = cc in subst IsSmall same (omega (arith, h))
small_step n [] now (Ok Close) t w h e = cc
small_step n (f ∷ []) now (Ok Close) t w h e =
    let same : state [] (closed f now) ≡ t = cc in
    subst IsSmall same (omega (arith, size-join f.before (block f.count f.tag now done), h, ap (λ b. one_if b) (some_joined f.before (block f.count f.tag now done) refl)))
small_step n (f ∷ g ∷ gs) now (Ok Close) t w h e = let same : state (g ∷ gs) (closed f now) ≡ t = cc in subst IsSmall same (omega (arith, h))
small_step n fs now (Ok (Open c tag)) t w h e = small_open n fs now c tag t (nat_lt (length fs) 16) h e
small_step n [] now (Ok (line.Operation op)) t w h e =
    let same : state [] (join now (next op done)) ≡ t = cc in
    subst IsSmall same (omega (arith, size-join now (next op done), h, ap (λ b. one_if b) (some_joined now (next op done) refl)))
small_step n (f ∷ fs) now (Ok (line.Operation op)) t w h e = let same : state (f ∷ fs) (join now (next op done)) ≡ t = cc in subst IsSmall same (omega (arith, h))

-- a line that is taken leaves at most one item
small_taken : (n : ℕ) (s t : Progress) (c : List ℕ) (b : Bool) → is_whole s ≡ b → stepped n (if b then meaning_after c else meaning_of c) s ≡ Ok t → IsSmall s → IsSmall t
small_taken n s t c true w e h = subst IsSmall (whole_preserved n s.open_blocks s.now t (length c == 0) (is_close c) w e) h
small_taken n s t c false w e h = small_step n s.open_blocks s.now (meaning_of c) t w (subst (λ b. size (outer s.open_blocks s.now) ≤ one_if b) w h) e

one_if_small : (b : Bool) → one_if b ≤ 1
one_if_small true = omega arith
one_if_small false = omega arith

small_end : (fs : List OpenBlock) (now xs : Items) → finished (state fs now) ≡ Ok xs → IsSmall (state fs now) → size xs ≤ 1
small_end [] now xs e h = let same : now ≡ xs = cc in subst (λ z. size z ≤ 1) same (omega (arith, h, one_if_small (is_whole (state [] now))))
small_end (f ∷ fs) now xs e h = cc

-- a line, and those after it
one_more : (n : ℕ) (s : Progress) (c : List ℕ) (cs : List (List ℕ)) (xs : Items) (r : Result Progress Refusal) → stepped n (meaning_at true s c) s ≡ r
    → read_on n s (pending true s (c ∷ cs)) ≡ Ok xs → IsSmall s
    → ((t : Progress) → read_on (n + 1) t (pending true t cs) ≡ Ok xs → IsSmall t → size xs ≤ 1) → size xs ≤ 1
one_more n s c cs xs (Ok t) p e h rest = rest t (sym (pending_taken true n s t c cs p) ∙ e) (small_taken n s t c (is_whole s) refl p h)
one_more n s c cs xs (Err x) p e h rest = let f : Err (at_line n x) ≡ Ok xs = sym (pending_refused true n s c cs x p) ∙ e in cc

one_read : (cs : List (List ℕ)) (n : ℕ) (s : Progress) (xs : Items) → read_on n s (pending true s cs) ≡ Ok xs → IsSmall s → size xs ≤ 1
one_read [] n s xs e h = small_end s.open_blocks s.now xs (sym (nothing_pending true n s) ∙ e) h
one_read (c ∷ cs) n s xs e h = one_more n s c cs xs (stepped n (meaning_at true s c) s) refl e h (λ t f g. one_read cs (n + 1) t xs f g)

-- one item's text is read as at most one item
pub read_one : (cs : List (List ℕ)) (xs : Items) → read_on 1 before_reading (one_item 0 cs) ≡ Ok xs → size xs ≤ 1
read_one cs xs e = one_read cs 1 before_reading xs e (omega arith)

after_case : (c : List ℕ) (cs : List (List ℕ)) (n : ℕ) (b d : Bool) → is_empty c ≡ b
    → fault_from n [] ((if b then Ok Blank else if d then Ok Close else Err BadLine) ∷ map meaning_after cs) ≡ None
    → (fault_from (n + 1) [] (map meaning_after cs) ≡ None → map meaning_after cs ≡ map meaning_of cs)
    → (if b then Ok Blank else if d then Ok Close else Err BadLine) ∷ map meaning_after cs ≡ meaning_of c ∷ map meaning_of cs
after_case c cs n true d p f rest = ap (λ m. m ∷ map meaning_after cs) (sym (blank_means c p)) ∙ ap (λ ms. meaning_of c ∷ ms) (rest f)
after_case c cs n false true p f rest = cc
after_case c cs n false false p f rest = cc

-- what a content means after a whole item is what it means, if there is no fault
after_same : (cs : List (List ℕ)) (n : ℕ) → fault_from n [] (map meaning_after cs) ≡ None → map meaning_after cs ≡ map meaning_of cs
after_same [] n e = refl
after_same (c ∷ cs) n e = after_case c cs n (is_empty c) (is_close c) refl e (after_same cs (n + 1))

-- the lines that follow one of this meaning
abbrev tail : ℕ → Meaning → List (List ℕ) → List Meaning
tail d m cs = if ends_item d m then map meaning_after cs else one_item (depth_after d m) cs

-- one line, if what follows means what it does in a circuit
same_step : (cs : List (List ℕ)) (n : ℕ) (opened : List ℕ) (m : Meaning) → fault_from n opened (m ∷ tail (length opened) m cs) ≡ None
    → ((k : ℕ) (others : List ℕ) → fault_from k others (one_item (length others) cs) ≡ None → one_item (length others) cs ≡ map meaning_of cs)
    → tail (length opened) m cs ≡ map meaning_of cs
same_step cs n [] (Err r) e rest = cc
same_step cs n (o ∷ os) (Err r) e rest = cc
same_step cs n [] (Ok Blank) e rest = rest (n + 1) [] e
same_step cs n (o ∷ os) (Ok Blank) e rest = rest (n + 1) (o ∷ os) e
same_step cs n [] (Ok (line.Operation op)) e rest = after_same cs (n + 1) e
same_step cs n (o ∷ os) (Ok (line.Operation op)) e rest =
    let on : (if suc (length os) == 0 then map meaning_after cs else one_item (suc (length os)) cs) ≡ one_item (suc (length os)) cs = passed (suc (length os) == 0) _ _ (sym (not_none (length os))) in
    on ∙ rest (n + 1) (o ∷ os) (ap (fault_from (n + 1) (o ∷ os)) (sym on) ∙ e)
same_step cs n [] (Ok Close) e rest = cc
same_step cs n (o ∷ []) (Ok Close) e rest = after_same cs (n + 1) e
same_step cs n (o ∷ p ∷ ps) (Ok Close) e rest =
    let less : suc (suc (length ps)) - 1 ≡ suc (length ps) = omega arith in
    let on : (if suc (suc (length ps)) == 1 then map meaning_after cs else one_item (suc (suc (length ps)) - 1) cs) ≡ one_item (suc (length ps)) cs =
    passed (suc (suc (length ps)) == 1) _ _ (sym (not_one (length ps))) ∙ ap (λ k. one_item k cs) less in
    on ∙ rest (n + 1) (p ∷ ps) (ap (fault_from (n + 1) (p ∷ ps)) (sym on) ∙ e)
same_step cs n opened (Ok (Open c t)) e rest =
    let more : length opened + 1 ≡ suc (length opened) = omega arith in
    let f : (if nat_lt (length opened) 16 then fault_from (n + 1) (n ∷ opened) (one_item (length opened + 1) cs) else Some (at_line n TooDeep)) ≡ None =
    sym (fault_opens n opened c t (one_item (length opened + 1) cs)) ∙ e in
    let few = choice_none (nat_lt (length opened) 16) _ _ f in
    let g : fault_from (n + 1) (n ∷ opened) (one_item (length opened + 1) cs) ≡ None = sym (chosen (nat_lt (length opened) 16) _ _ few) ∙ f in
    ap (λ k. one_item k cs) more ∙ rest (n + 1) (n ∷ opened) (ap (λ k. fault_from (n + 1) (n ∷ opened) (one_item k cs)) (sym more) ∙ g)

-- if one item's text has no fault, its lines mean what they mean in a circuit
pub same_meanings : (cs : List (List ℕ)) (n : ℕ) (opened : List ℕ) → fault_from n opened (one_item (length opened) cs) ≡ None → one_item (length opened) cs ≡ map meaning_of cs
same_meanings [] n opened e = refl
same_meanings (c ∷ cs) n opened e = ap (λ ms. meaning_of c ∷ ms) (same_step cs n opened (meaning_of c) e (same_meanings cs))
