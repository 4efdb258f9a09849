-- A printed text stands for its items, and for no others.
use Rattle.stab_circuit.proofs.Names.{◌≡◌, ◌≤◌, refl, ap, sym, ◌∙◌, subst, ℕ, ◌*◌, suc, List, [], ◌∷◌, ◌++◌, Bool, true, false, nat_lt, length, map, replicate, All, Option, None, Some, Ok, append_assoc, arith, codes, if◌then◌else◌, slice_split, onto_first, map-append, All-nil, All-cons, All-head, All-tail, slice_split-cons_yes, slice_split-cons_no, nat_tests, TooLong, Fault, whole, Line, Blank, Close, Open, is_byte, content_of, meaning_of, IsLine, line_printed, Says, Items, done, next, block, Meaning, Joins, line_meanings, meanings, fault_from, text_fault, most_bytes, StandsFor, PrintedLine, printed_lines, text_of, printed, AreLinesOf, IsReadBack, passed, Each, Lacks, each-append, lacks-append, lacks_spaces, lacks_any, any_lacking, split_lacking, each_left, each_right}
use Rattle.stab_circuit.proofs.LineLaws.{printed_again, blank_is_empty}
use Rattle.stab_instructions.specs.declared.operation.Line.TheVariants as line
use Rattle.stab_circuit.proofs.BlankLemmas.{lines_of, lines_join, joins_end, unblank_joined, unblank_each, same_faultless}
use Rattle.stab_circuit.proofs.ReadingLemmas.{one_list, some_list}

-- the lines of a text hold no line feed
onto_lacks : (p : ℕ → Bool) (x : ℕ) (parts : List (List ℕ)) → p x ≡ false → Each (Lacks p) parts → Each (Lacks p) (onto_first x parts)
onto_lacks p x [] e f = ((e, tt), tt)
onto_lacks p x (part ∷ parts) e f = ((e, f.0), f.1)

parts_more : (p : ℕ → Bool) (x : ℕ) (xs : List ℕ) (b : Bool) → p x ≡ b → Each (Lacks p) (slice_split p xs) → Each (Lacks p) (slice_split p (x ∷ xs))
parts_more p x xs true e f = subst (Each (Lacks p)) (sym (slice_split-cons_yes p x xs e)) (tt, f)
parts_more p x xs false e f = subst (Each (Lacks p)) (sym (slice_split-cons_no p x xs e)) (onto_lacks p x (slice_split p xs) e f)

pub parts_lack : (p : ℕ → Bool) (xs : List ℕ) → Each (Lacks p) (slice_split p xs)
parts_lack p [] = (tt, tt)
parts_lack p (x ∷ xs) = parts_more p x xs (p x) refl (parts_lack p xs)

pub text_lines : (parts : List (List ℕ)) → Each (Lacks (is_byte 10)) parts → All IsLine parts
text_lines [] f = All-nil IsLine
text_lines (part ∷ parts) f = All-cons IsLine part parts (any_lacking (is_byte 10) part f.0) (text_lines parts f.1)

-- each meaning is that of some line
abbrev pub IsOfLine : Meaning → Type 0
IsOfLine m = (line : List ℕ) × IsLine line × (m ≡ meaning_of (content_of line))

abbrev pub AreMeant : List Meaning → Type 0
AreMeant ms = Each IsOfLine ms

lines_meant : (lines : List (List ℕ)) → All IsLine lines → AreMeant (line_meanings lines)
lines_meant [] a = tt
lines_meant (l ∷ ls) a = ((l, All-head IsLine l ls a, refl), lines_meant ls (All-tail IsLine l ls a))

-- what is printed of a line that some line means, says just that
says : (m : Line) → IsOfLine (Ok m) → Says (line_printed m) m
says m (line, one, e) = printed_again line m one (sym e)

-- the printed lines mean what the items' lines mean, and say it
abbrev meaning_written : PrintedLine → Meaning
meaning_written w = meaning_of w.content

abbrev AreSaid : List PrintedLine → Type 0
AreSaid ws = Each (λ w. (m : Line) × Says w.content m) ws

close_said : Says (codes "}") Close
unfolding meaning_of content_of
close_said = says Close (codes "}", refl, refl)

written_said : (d : ℕ) (xs : Items) → AreMeant (lines_of xs) → AreSaid (printed_lines d xs)
written_said d done g = tt
written_said d (next op rest) g = ((line.Operation op, says (line.Operation op) g.0), written_said d rest g.1)
written_said d (block count tag body rest) g = (
  (Open count tag, says (Open count tag) g.0),
  each-append (λ w. (m : Line) × Says w.content m) (printed_lines (suc d) body) _ (written_said (suc d) body (each_left IsOfLine (lines_of body) _ g.1))
      ((Close, close_said), written_said d rest (each_right IsOfLine (lines_of body) _ g.1).1),
)

written_means : (d : ℕ) (xs : Items) → AreMeant (lines_of xs) → map meaning_written (printed_lines d xs) ≡ lines_of xs
written_means d done g = refl
written_means d (next op rest) g = ap (λ m. m ∷ map meaning_written (printed_lines d rest)) (says (line.Operation op) g.0).means ∙ ap (λ l. Ok (line.Operation op) ∷ l) (written_means d rest g.1)
written_means d (block count tag body rest) g =
    let following = record { depth = d; content = codes "}" } ∷ printed_lines d rest in
    ap (λ m. m ∷ map meaning_written (printed_lines (suc d) body ++ following)) (says (Open count tag) g.0).means
    ∙ ap (λ l. Ok (Open count tag) ∷ l)
    (map-append meaning_written (printed_lines (suc d) body) following
    ∙ ap (λ l. l ++ map meaning_written following) (written_means (suc d) body (each_left IsOfLine (lines_of body) _ g.1))
    ∙ ap (λ m. lines_of body ++ m ∷ map meaning_written (printed_lines d rest)) close_said.means
    ∙ ap (λ l. lines_of body ++ Ok Close ∷ l) (written_means d rest (each_right IsOfLine (lines_of body) _ g.1).1))

-- nothing is left of an empty line
last_blank : meaning_of (content_of []) ≡ Ok Blank
unfolding content_of
last_blank = (blank_is_empty []).1 refl

-- the meanings of a printed text are those of its contents, and a blank
text_means : (ws : List PrintedLine) → AreSaid ws → meanings (text_of ws) ≡ map meaning_written ws ++ Ok Blank ∷ []
text_means [] n = ap (λ m. m ∷ []) last_blank
text_means (w ∷ ws) n =
    let spaces = replicate (4 * w.depth) 32 in
    let flat : text_of (w ∷ ws) ≡ (spaces ++ w.content) ++ 10 ∷ text_of ws =
    append_assoc spaces (w.content ++ codes "\n") (text_of ws) ∙ ap (λ l. spaces ++ l) (append_assoc w.content (codes "\n") (text_of ws)) ∙ sym (append_assoc spaces w.content (10 ∷ text_of ws)) in
    let lacks : Lacks (is_byte 10) (spaces ++ w.content) = lacks-append (is_byte 10) spaces w.content (lacks_spaces 10 (4 * w.depth) refl) (lacks_any (is_byte 10) w.content n.0.1.one_line) in
    ap meanings flat
    ∙ ap (λ ls. map meaning_of (map content_of ls)) (split_lacking (is_byte 10) (spaces ++ w.content) 10 (text_of ws) lacks refl)
    ∙ ap (λ c. meaning_of c ∷ meanings (text_of ws)) (n.0.1.left (4 * w.depth))
    ∙ ap (λ ms. meaning_written w ∷ ms) (text_means ws n.1)

-- a text without a fault is within its limit, and its lines have none
pub limit_case : (b : Bool) (f : Option Fault) → (if b then Some (whole TooLong) else f) ≡ None → f ≡ None
limit_case true f e = cc
limit_case false f e = e

pub lines_faultless : (text : List ℕ) → text_fault text ≡ None → fault_from 1 [] (meanings text) ≡ None
lines_faultless text e = limit_case (nat_lt most_bytes (length text)) (fault_from 1 [] (meanings text)) e

-- the lines of a text that stands for items
pub text_is_lines : (text : List ℕ) (items : Items) → StandsFor text items → AreLinesOf (slice_split (is_byte 10) text) items
text_is_lines text items s =
    record { each = text_lines (slice_split (is_byte 10) text) (parts_lack (is_byte 10) text); faultless = lines_faultless text s.0; joined = s.1 }

-- what lines that stand for items mean
pub items_meant : (lines : List (List ℕ)) (items : Items) → AreLinesOf lines items → AreMeant (lines_of items)
items_meant lines items s = subst AreMeant (unblank_joined s.joined) (unblank_each IsOfLine (line_meanings lines) (lines_meant lines s.each))

-- what is printed of the items of lines is read back
pub round_trip : (lines : List (List ℕ)) (items : Items) → AreLinesOf lines items → length (printed items) ≤ most_bytes → StandsFor (printed items) items
round_trip lines items s h =
    let meant : AreMeant (lines_of items) = items_meant lines items s in
    let means : meanings (printed items) ≡ lines_of items ++ Ok Blank ∷ [] =
    text_means (printed_lines 0 items) (written_said 0 items meant) ∙ ap (λ l. l ++ Ok Blank ∷ []) (written_means 0 items meant) in
    let joins : Joins (meanings (printed items)) items = subst (λ ms. Joins ms items) (sym means) (joins_end (lines_join items)) in
    let none : fault_from 1 [] (meanings (printed items)) ≡ None = same_faultless (line_meanings lines) (meanings (printed items)) items s.joined joins s.faultless in
    (passed (nat_lt most_bytes (length (printed items))) _ _ (within_limit (length (printed items)) h) ∙ none, joins)
  where
    within_limit : (n : ℕ) → n ≤ most_bytes → nat_lt most_bytes n ≡ false
    within_limit n h = grind (arith, nat_tests)

-- no text stands for two lists of items
pub only_items : (text : List ℕ) (items other : Items) → StandsFor text items → StandsFor text other → other ≡ items
only_items text items other s t = one_list (meanings text) other items (lines_faultless text s.0) t.1 s.1

-- what is printed of the items of lines is read back, and as nothing else
pub read_back : (lines : List (List ℕ)) (items : Items) → AreLinesOf lines items → IsReadBack items
read_back lines items s h = let back = round_trip lines items s h in (back, λ other t. only_items (printed items) items other back t)

-- each text without a fault stands for some
pub some_items : (text : List ℕ) → text_fault text ≡ None → (items : Items) × StandsFor text items
some_items text e = let found = some_list (meanings text) (lines_faultless text e) in (found.0, (e, found.1))
