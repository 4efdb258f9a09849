-- The lines of items except blank ones: what they are, and that blanks make no fault.
use Rattle.stab_circuit.proofs.Names.{◌≡◌, refl, ap, sym, ◌∙◌, subst, ℕ, ◌+◌, suc, List, [], ◌∷◌, ◌++◌, Bool, true, false, nat_lt, length, Option, None, Some, Ok, Err, append_assoc, arith, if◌then◌else◌, Refusal, TooDeep, Fault, Operation, Blank, Close, Open, Items, done, next, block, Meaning, Joins, nothing, blank_line, operation_line, block_lines, at_line, fault_from, Each}
use Rattle.stab_instructions.specs.declared.operation.Line.TheVariants as line
use Rattle.stab_circuit.proofs.ReadingLemmas.{fault_opens}

-- the lines of items, none of them blank
abbrev pub lines_of : Items → List Meaning
lines_of done = []
lines_of (next op rest) = Ok (line.Operation op) ∷ lines_of rest
lines_of (block count tag body rest) = Ok (Open count tag) ∷ (lines_of body ++ Ok Close ∷ lines_of rest)

-- these stand for the items, and so they do with a blank line after them
pub lines_join : (xs : Items) → Joins (lines_of xs) xs
lines_join done = nothing
lines_join (next op rest) = operation_line (lines_join rest)
lines_join (block count tag body rest) = block_lines (lines_join body) (lines_join rest)

pub joins_end : {ms : List Meaning} {xs : Items} → Joins ms xs → Joins (ms ++ Ok Blank ∷ []) xs
joins_end nothing = blank_line nothing
joins_end (blank_line j) = blank_line (joins_end j)
joins_end (operation_line j) = operation_line (joins_end j)
joins_end (block_lines {count} {tag} {inner} {after} {body} {rest} j k) =
    subst (λ l. Joins (Ok (Open count tag) ∷ l) (block count tag body rest)) (sym (append_assoc inner (Ok Close ∷ after) (Ok Blank ∷ []))) (block_lines j (joins_end k))

-- without blank lines
abbrev pub unblank : List Meaning → List Meaning
unblank [] = []
unblank (Ok Blank ∷ ms) = unblank ms
unblank (Ok Close ∷ ms) = Ok Close ∷ unblank ms
unblank (Ok (Open count tag) ∷ ms) = Ok (Open count tag) ∷ unblank ms
unblank (Ok (line.Operation op) ∷ ms) = Ok (line.Operation op) ∷ unblank ms
unblank (Err r ∷ ms) = Err r ∷ unblank ms

unblank-append : (ms ns : List Meaning) → unblank (ms ++ ns) ≡ unblank ms ++ unblank ns
unblank-append [] ns = refl
unblank-append (Ok Blank ∷ ms) ns = unblank-append ms ns
unblank-append (Ok Close ∷ ms) ns = ap (λ l. Ok Close ∷ l) (unblank-append ms ns)
unblank-append (Ok (Open count tag) ∷ ms) ns = ap (λ l. Ok (Open count tag) ∷ l) (unblank-append ms ns)
unblank-append (Ok (line.Operation op) ∷ ms) ns = ap (λ l. Ok (line.Operation op) ∷ l) (unblank-append ms ns)
unblank-append (Err r ∷ ms) ns = ap (λ l. Err r ∷ l) (unblank-append ms ns)

-- the lines that stand for items are the items' lines, and blanks
pub unblank_joined : {ms : List Meaning} {xs : Items} → Joins ms xs → unblank ms ≡ lines_of xs
unblank_joined nothing = refl
unblank_joined (blank_line j) = unblank_joined j
unblank_joined (operation_line {op} j) = ap (λ l. Ok (line.Operation op) ∷ l) (unblank_joined j)
unblank_joined (block_lines {count} {tag} {inner} {after} {body} {rest} j k) =
    ap (λ l. Ok (Open count tag) ∷ l) (unblank-append inner (Ok Close ∷ after) ∙ ap (λ l. l ++ Ok Close ∷ unblank after) (unblank_joined j) ∙ ap (λ l. lines_of body ++ Ok Close ∷ l) (unblank_joined k))

pub unblank_each : (P : Meaning → Type 0) (ms : List Meaning) → Each P ms → Each P (unblank ms)
unblank_each P [] e = tt
unblank_each P (Ok Blank ∷ ms) e = unblank_each P ms e.1
unblank_each P (Ok Close ∷ ms) e = (e.0, unblank_each P ms e.1)
unblank_each P (Ok (Open count tag) ∷ ms) e = (e.0, unblank_each P ms e.1)
unblank_each P (Ok (line.Operation op) ∷ ms) e = (e.0, unblank_each P ms e.1)
unblank_each P (Err r ∷ ms) e = (e.0, unblank_each P ms e.1)

-- whether there is no fault
abbrev is_clean : Option Fault → Bool
is_clean None = true
is_clean (Some f) = false

clean_none : (f : Option Fault) → is_clean f ≡ true → f ≡ None
clean_none None e = refl
clean_none (Some f) e = cc

fault_blank : (n : ℕ) (opened : List ℕ) (ms : List Meaning) → fault_from n opened (Ok Blank ∷ ms) ≡ fault_from (n + 1) opened ms
fault_blank n [] ms = refl
fault_blank n (at ∷ outer) ms = refl

pub fault_operation : (n : ℕ) (opened : List ℕ) (op : Operation) (ms : List Meaning) → fault_from n opened (Ok (line.Operation op) ∷ ms) ≡ fault_from (n + 1) opened ms
fault_operation n [] op ms = refl
fault_operation n (at ∷ outer) op ms = refl

fault_refused : (n : ℕ) (opened : List ℕ) (r : Refusal) (ms : List Meaning) → fault_from n opened (Err r ∷ ms) ≡ Some (at_line n r)
fault_refused n [] r ms = refl
fault_refused n (at ∷ outer) r ms = refl

clean_choice : (b : Bool) (x y : Option Fault) (f g : Fault) → is_clean x ≡ is_clean y → is_clean (if b then x else Some f) ≡ is_clean (if b then y else Some g)
clean_choice true x y f g e = e
clean_choice false x y f g e = refl

clean_open : (n m c : ℕ) (t : List ℕ) (opened others : List ℕ) (ms ns : List Meaning) → length opened ≡ length others
    → is_clean (fault_from (n + 1) (n ∷ opened) ms) ≡ is_clean (fault_from (m + 1) (m ∷ others) ns) → is_clean (fault_from n opened (Ok (Open c t) ∷ ms)) ≡ is_clean (fault_from m others (Ok (Open c t) ∷ ns))
clean_open n m c t opened others ms ns same e =
    ap is_clean (fault_opens n opened c t ms)
    ∙ ap (λ k. is_clean (if nat_lt k 16 then fault_from (n + 1) (n ∷ opened) ms else Some (at_line n TooDeep))) same
    ∙ clean_choice (nat_lt (length others) 16) (fault_from (n + 1) (n ∷ opened) ms) (fault_from (m + 1) (m ∷ others) ns) (at_line n TooDeep) (at_line m TooDeep) e
    ∙ sym (ap is_clean (fault_opens m others c t ns))

-- blank lines make no fault
clean_unblank : (ms : List Meaning) (n m : ℕ) (opened others : List ℕ) → length opened ≡ length others → is_clean (fault_from n opened ms) ≡ is_clean (fault_from m others (unblank ms))
clean_unblank [] n m [] [] e = refl
clean_unblank [] n m (a ∷ as') (b ∷ bs) e = refl
clean_unblank [] n m [] (b ∷ bs) e = absurd (omega (arith, e))
clean_unblank [] n m (a ∷ as') [] e = absurd (omega (arith, e))
clean_unblank (Ok Blank ∷ ms) n m opened others e = ap is_clean (fault_blank n opened ms) ∙ clean_unblank ms (n + 1) m opened others e
clean_unblank (Ok Close ∷ ms) n m [] [] e = refl
clean_unblank (Ok Close ∷ ms) n m (a ∷ as') (b ∷ bs) e = clean_unblank ms (n + 1) (m + 1) as' bs (omega (arith, e))
clean_unblank (Ok Close ∷ ms) n m [] (b ∷ bs) e = absurd (omega (arith, e))
clean_unblank (Ok Close ∷ ms) n m (a ∷ as') [] e = absurd (omega (arith, e))
clean_unblank (Ok (Open c t) ∷ ms) n m opened others e = clean_open n m c t opened others ms (unblank ms) e (clean_unblank ms (n + 1) (m + 1) (n ∷ opened) (m ∷ others) (ap suc e))
clean_unblank (Ok (line.Operation op) ∷ ms) n m opened others e =
    ap is_clean (fault_operation n opened op ms) ∙ clean_unblank ms (n + 1) (m + 1) opened others e ∙ sym (ap is_clean (fault_operation m others op (unblank ms)))
clean_unblank (Err r ∷ ms) n m opened others e = ap is_clean (fault_refused n opened r ms) ∙ sym (ap is_clean (fault_refused m others r (unblank ms)))

-- of two lists of lines that stand for the same items both have a fault or neither
pub same_faultless : (ms ns : List Meaning) (xs : Items) → Joins ms xs → Joins ns xs → fault_from 1 [] ms ≡ None → fault_from 1 [] ns ≡ None
same_faultless ms ns xs j k e =
    clean_none (fault_from 1 [] ns)
    (clean_unblank ns 1 1 [] [] refl ∙ ap (λ l. is_clean (fault_from 1 [] l)) (unblank_joined k ∙ sym (unblank_joined j)) ∙ sym (clean_unblank ms 1 1 [] [] refl) ∙ ap is_clean e)
