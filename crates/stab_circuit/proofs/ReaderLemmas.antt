-- The reader's way over the lines.
use Rattle.stab_circuit.proofs.Names.{◌≡◌, ◌≤◌, ◌<◌, refl, ap, sym, ◌∙◌, subst, ℕ, ◌+◌, suc, List, [], ◌∷◌, Bool, true, false, nat_lt, ◌==◌, length, map, not, ◌⊎◌, inl, inr, Result, Ok, Err, Option, Some, if◌then◌else◌, arith, slice_split, IfOk, Vec, nat_tests, Refusal, TooDeep, BadLine, OutOfMemory, Fault, Blank, Close, Open, is_byte, content_of, Items, OneItem, operation, repeat, before, done, next, block, join, listed, depth, meaning_of, is_close, Meaning, at_line, meaning_after, one_item, depth_after, ends_item, OpenBlock, Progress, closed, stepped, finished, read_on, is_some_items, is_whole, meaning_at, pending, ReadsItems, IsShallowProgress, reading_on, pieces_after, chosen, depth-join}
use Rattle.stab_instructions.specs.declared.operation.Line.TheVariants as line

-- after a line of one item's text, what follows is seen as it is by the state
abbrev Follows : Progress → Meaning → Progress → Type 0
Follows s m t = (is_whole t ≡ ends_item (length s.open_blocks) m) × (length t.open_blocks ≡ depth_after (length s.open_blocks) m)

pub some_joined : (xs : Items) (ys : Items) → is_some_items ys ≡ true → is_some_items (join xs ys) ≡ true
some_joined done ys e = e
some_joined (next op rest) ys e = refl
some_joined (block c t body rest) ys e = refl

pub not_one : (n : ℕ) → false ≡ (suc (suc n) == 1)
not_one n = grind arith

pub not_none : (n : ℕ) → false ≡ (suc n == 0)
not_none n = grind arith

opened : (n : ℕ) (fs : List OpenBlock) (now : Items) (c : ℕ) (tag : List ℕ) (t : Progress) (b : Bool)
    → (if b then Ok (record { open_blocks = record { line = n; count = c; tag = tag; before = now } ∷ fs; now = done }) else Err TooDeep) ≡ Ok t
    → Follows (record { open_blocks = fs; now = now }) (Ok (Open c tag)) t
opened n fs now c tag t true e =
    let same : record { open_blocks = record { line = n; count = c; tag = tag; before = now } ∷ fs; now = done } ≡ t = cc in
    subst (Follows (record { open_blocks = fs; now = now }) (Ok (Open c tag))) same (refl, omega arith)
opened n fs now c tag t false e = cc

follows : (n : ℕ) (fs : List OpenBlock) (now : Items) (m : Meaning) (t : Progress) → is_whole (record { open_blocks = fs; now = now }) ≡ false
    → stepped n m (record { open_blocks = fs; now = now }) ≡ Ok t → Follows (record { open_blocks = fs; now = now }) m t
follows n fs now (Err r) t w e = cc
follows n fs now (Ok Blank) t w e = let same : record { open_blocks = fs; now = now } ≡ t = cc in subst (Follows (record { open_blocks = fs; now = now }) (Ok Blank)) same (w, refl)
follows n [] now (Ok Close) t w e = cc
follows n (f ∷ []) now (Ok Close) t w e =
    let same : record { open_blocks = []; now = closed f now } ≡ t = cc in
    subst (Follows (record { open_blocks = f ∷ []; now = now }) (Ok Close)) same (some_joined f.before (block f.count f.tag now done) refl, refl)
follows n (f ∷ g ∷ gs) now (Ok Close) t w e =
    let same : record { open_blocks = g ∷ gs; now = closed f now } ≡ t = cc in
    subst (Follows (record { open_blocks = f ∷ g ∷ gs; now = now }) (Ok Close)) same (not_one (length gs), omega arith)
follows n fs now (Ok (Open c tag)) t w e = opened n fs now c tag t (nat_lt (length fs) 16) e
follows n [] now (Ok (line.Operation op)) t w e =
    let same : record { open_blocks = []; now = join now (next op done) } ≡ t = cc in
    subst (Follows (record { open_blocks = []; now = now }) (Ok (line.Operation op))) same (some_joined now (next op done) refl, refl)
follows n (f ∷ fs) now (Ok (line.Operation op)) t w e =
    let same : record { open_blocks = f ∷ fs; now = join now (next op done) } ≡ t = cc in
    subst (Follows (record { open_blocks = f ∷ fs; now = now }) (Ok (line.Operation op))) same (not_none (length fs), refl)

-- what follows a line
abbrev after_step : ℕ → List Meaning → Result Progress Refusal → Result Items Fault
after_step n ms r = elim r [ Ok t ↦ read_on (n + 1) t ms | Err x ↦ Err (at_line n x) ]

-- after a whole item only a blank line is taken, and changes nothing
pub whole_preserved : (n : ℕ) (fs : List OpenBlock) (now : Items) (t : Progress) (b d : Bool) → is_whole (record { open_blocks = fs; now = now }) ≡ true
    → stepped n (if b then Ok Blank else if d then Ok Close else Err BadLine) (record { open_blocks = fs; now = now }) ≡ Ok t → record { open_blocks = fs; now = now } ≡ t
whole_preserved n fs now t true d w e = cc
whole_preserved n [] now t false true w e = cc
whole_preserved n (f ∷ fs) now t false true w e = cc
whole_preserved n fs now t false false w e = cc

-- a line of one item's text that is taken
one_taken : (n : ℕ) (s t : Progress) (c : List ℕ) (cs : List (List ℕ)) (b : Bool) → is_whole s ≡ b → stepped n (if b then meaning_after c else meaning_of c) s ≡ Ok t
    → read_on n s (if b then map meaning_after (c ∷ cs) else one_item (length s.open_blocks) (c ∷ cs)) ≡ read_on (n + 1) t (pending true t cs)
one_taken n s t c cs true w e =
    let preserved : is_whole t ≡ true = sym (ap is_whole (whole_preserved n s.open_blocks s.now t (length c == 0) (is_close c) w e)) ∙ w in
    ap (after_step n (map meaning_after cs)) e ∙ ap (read_on (n + 1) t) (sym (chosen (is_whole t) _ _ preserved))
one_taken n s t c cs false w e =
    let f = follows n s.open_blocks s.now (meaning_of c) t w e in
    ap (after_step n (if ends_item (length s.open_blocks) (meaning_of c) then map meaning_after cs else one_item (depth_after (length s.open_blocks) (meaning_of c)) cs)) e
    ∙ ap (λ b. read_on (n + 1) t (if b then map meaning_after cs else one_item (depth_after (length s.open_blocks) (meaning_of c)) cs)) (sym f.0)
    ∙ ap (λ k. read_on (n + 1) t (if is_whole t then map meaning_after cs else one_item k cs)) (sym f.1)

-- a line that is taken, and those after it
pub pending_taken : (single : Bool) (n : ℕ) (s t : Progress) (c : List ℕ) (cs : List (List ℕ)) → stepped n (meaning_at single s c) s ≡ Ok t
    → read_on n s (pending single s (c ∷ cs)) ≡ read_on (n + 1) t (pending single t cs)
pending_taken true n s t c cs e = one_taken n s t c cs (is_whole s) refl e
pending_taken false n s t c cs e = ap (after_step n (map meaning_of cs)) e

one_refused : (n : ℕ) (s : Progress) (c : List ℕ) (cs : List (List ℕ)) (r : Refusal) (b : Bool) → stepped n (if b then meaning_after c else meaning_of c) s ≡ Err r
    → read_on n s (if b then map meaning_after (c ∷ cs) else one_item (length s.open_blocks) (c ∷ cs)) ≡ Err (at_line n r)
one_refused n s c cs r true e = ap (after_step n (map meaning_after cs)) e
one_refused n s c cs r false e = ap (after_step n (if ends_item (length s.open_blocks) (meaning_of c) then map meaning_after cs else one_item (depth_after (length s.open_blocks) (meaning_of c)) cs)) e

-- a line that is refused
pub pending_refused : (single : Bool) (n : ℕ) (s : Progress) (c : List ℕ) (cs : List (List ℕ)) (r : Refusal) → stepped n (meaning_at single s c) s ≡ Err r
    → read_on n s (pending single s (c ∷ cs)) ≡ Err (at_line n r)
pending_refused true n s c cs r e = one_refused n s c cs r (is_whole s) e
pending_refused false n s c cs r e = ap (after_step n (map meaning_of cs)) e

pub nothing_pending : (single : Bool) (n : ℕ) (t : Progress) → read_on n t (pending single t []) ≡ finished t
nothing_pending false n t = refl
nothing_pending true n t = nothing_one (is_whole t)
  where
    nothing_one : (b : Bool) → read_on n t (if b then map meaning_after [] else one_item (length t.open_blocks) []) ≡ finished t
    nothing_one true = refl
    nothing_one false = refl

-- one line of a text is taken, or refused
pub one_taken_of : (single : Bool) (n : ℕ) (s t : Progress) (text first : List ℕ) (after : Option (List ℕ)) → slice_split (is_byte 10) text ≡ first ∷ pieces_after 10 after
    → stepped n (meaning_at single s (content_of first)) s ≡ Ok t → reading_on single n s (Some text) ≡ reading_on single (n + 1) t after
one_taken_of single n s t text first after p e =
    ap (λ l. read_on n s (pending single s (map content_of l))) p ∙ pending_taken single n s t (content_of first) (map content_of (pieces_after 10 after)) e

pub one_refused_of : (single : Bool) (n : ℕ) (s : Progress) (text first : List ℕ) (more : List (List ℕ)) (r : Refusal) → slice_split (is_byte 10) text ≡ first ∷ more
    → (r ≡ OutOfMemory) ⊎ (stepped n (meaning_at single s (content_of first)) s ≡ Err r) → (r ≡ OutOfMemory) ⊎ (reading_on single n s (Some text) ≡ Err (at_line n r))
one_refused_of single n s text first more r p (inl o) = inl o
one_refused_of single n s text first more r p (inr e) =
    inr (ap (λ l. read_on n s (pending single s (map content_of l))) p ∙ pending_refused single n s (content_of first) (map content_of more) r e)

-- blocks stay nested at most 16 deep
opened_shallow : (n : ℕ) (fs : List OpenBlock) (now : Items) (c : ℕ) (tag : List ℕ) (t : Progress) (b : Bool) → b ≡ nat_lt (length fs) 16 → IsShallowProgress (record { open_blocks = fs; now = now })
    → (if b then Ok (record { open_blocks = record { line = n; count = c; tag = tag; before = now } ∷ fs; now = done }) else Err TooDeep) ≡ Ok t → IsShallowProgress t
opened_shallow n fs now c tag t true w h e =
    let same : record { open_blocks = record { line = n; count = c; tag = tag; before = now } ∷ fs; now = done } ≡ t = cc in
    let room : length fs < 16 = grind (arith, w, nat_tests) in
    subst IsShallowProgress same (record { now = omega (arith, room); before = (h.now, h.before) })
opened_shallow n fs now c tag t false w h e = cc

pub stepped_shallow : (n : ℕ) (m : Meaning) (s t : Progress) → IsShallowProgress s → stepped n m s ≡ Ok t → IsShallowProgress t
stepped_shallow n m s t h e = lines m s.open_blocks s.now h e
  where
    lines : (m : Meaning) (fs : List OpenBlock) (now : Items) → IsShallowProgress (record { open_blocks = fs; now = now }) → stepped n m (record { open_blocks = fs; now = now }) ≡ Ok t → IsShallowProgress t
    lines (Err r) fs now h e = cc
    lines (Ok Blank) fs now h e = let same : record { open_blocks = fs; now = now } ≡ t = cc in subst IsShallowProgress same h
    lines (Ok Close) [] now h e = cc
    lines (Ok Close) (f ∷ fs) now h e =
        let same : record { open_blocks = fs; now = closed f now } ≡ t = cc in
        subst IsShallowProgress same (record { now = omega (arith, h.now, h.before.0, depth-join f.before (block f.count f.tag now done)); before = h.before.1 })
    lines (Ok (Open c tag)) fs now h e = opened_shallow n fs now c tag t (nat_lt (length fs) 16) refl h e
    lines (Ok (line.Operation op)) fs now h e =
        let same : record { open_blocks = fs; now = join now (next op done) } ≡ t = cc in
        subst IsShallowProgress same (record { now = omega (arith, h.now, depth-join now (next op done)); before = h.before })

pub finished_shallow : (s : Progress) (given : Result (Vec OneItem) Fault) → IsShallowProgress s → ReadsItems given (finished s) → IfOk given (λ v. depth (listed v.items) ≤ 16)
finished_shallow s (Err f) h e = tt
finished_shallow s (Ok v) h e = ended s.open_blocks s.now h e
  where
    ended : (fs : List OpenBlock) (now : Items) → IsShallowProgress (record { open_blocks = fs; now = now }) → finished (record { open_blocks = fs; now = now }) ≡ Ok (listed v.items) → depth (listed v.items) ≤ 16
    ended [] now h e = let same : now ≡ listed v.items = cc in omega (arith, h.now, ap depth same)
    ended (f ∷ fs) now h e = cc

pub some_before : (x : OneItem) (xs : Items) → is_some_items (before x xs) ≡ true
some_before (operation op) xs = refl
some_before (repeat c t body) xs = refl

pub not_empty : (n : ℕ) → true ≡ not (suc n == 0)
not_empty n = ap not (not_none n)
