-- What is read of a text is what it stands for, and what refuses it is its fault.
use Rattle.stab_circuit.proofs.Names.{◌≡◌, ◌≤◌, ◌<◌, refl, ap, sym, ◌∙◌, subst, ℕ, List, [], ◌∷◌, ◌++◌, Bool, true, false, nat_lt, length, Option, None, Some, Result, Ok, Err, if◌then◌else◌, arith, ◌⊎◌, inl, inr, list_all, IfErr, nat_tests, Refusal, LookbackTooFar, TooManySteps, TooLong, BadLine, OutOfMemory, Fault, whole, Items, OneItem, before, done, listed, Joins, contents, meanings, limited, text_fault, item_fault, StandsFor, StandsForOne, one_item, is_empty, check_of, unroll, looks_too_far, most_steps, before_reading, read_on, reading, IsCircuit, IsFaultOf, ReadsCircuit, HasLine, is_of_circuit, is_of_item, chosen, passed, Refuses, IsCallFault}
use Rattle.std.proofs.Common.{length-append}
use Rattle.std.specs.Result.{IfOk}
use Rattle.stab_circuit.proofs.ReadingLemmas.{joined_read, fault_read}
use Rattle.stab_circuit.proofs.OneItemLemmas.{blank_read, read_blank, read_one, same_meanings, size, size-listed}
use Rattle.stab_circuit.proofs.RefusalLemmas.{IsLineFault, line_fault_found, meanings_lines, one_item_lines}

-- a text within its limit
within : (text : List ℕ) (fault : Option Fault) → length text ≤ 16777216 → limited text fault ≡ fault
within text fault h = passed (nat_lt 16777216 (length text)) _ _ (grind (arith, nat_tests))

-- what is read as a circuit
pub text_read : (text : List ℕ) (xs : Items) → length text ≤ 16777216 → reading false text ≡ Ok xs → StandsFor text xs
text_read text xs h e = let j = joined_read (meanings text) xs e in (within text _ h ∙ j.0, j.1)

pub text_refused : (text : List ℕ) (f : Fault) → length text ≤ 16777216 → reading false text ≡ Err f → text_fault text ≡ Some f
text_refused text f h e = within text _ h ∙ fault_read (meanings text) f e

-- what is read as one item
not_blank : (cs : List (List ℕ)) (xs : Items) (b : Bool) → list_all is_empty cs ≡ b → read_on 1 before_reading (one_item 0 cs) ≡ Ok xs → 0 < size xs → b ≡ false
not_blank cs xs true e r h =
    let none : xs ≡ done = (let q : Ok xs ≡ Ok done = sym r ∙ blank_read cs 1 e in cc) in
    absurd (omega (arith, h, ap size none))
not_blank cs xs false e r h = refl

alone : (ys : List OneItem) (item : OneItem) → size (listed (ys ++ item ∷ [])) ≤ 1 → ys ≡ []
alone [] item h = refl
alone (y ∷ ys) item h =
    absurd (omega (arith, h, size-listed ((y ∷ ys) ++ item ∷ []), length-append ys (item ∷ [])))

pub item_read : (text : List ℕ) (ys : List OneItem) (item : OneItem) → length text ≤ 16777216 → reading true text ≡ Ok (listed (ys ++ item ∷ [])) → StandsForOne text item
item_read text ys item h e =
    let cs = contents text in
    let none : ys ≡ [] = alone ys item (read_one cs (listed (ys ++ item ∷ [])) e) in
    let read : read_on 1 before_reading (one_item 0 cs) ≡ Ok (before item done) = e ∙ ap (λ l. Ok (listed (l ++ item ∷ []))) none in
    let j = joined_read (one_item 0 cs) (before item done) read in
    let some : list_all is_empty cs ≡ false = not_blank cs (before item done) (list_all is_empty cs) refl read (one_size item) in (
      within text _ h ∙ passed (list_all is_empty cs) _ _ some ∙ j.0,
      subst (λ ms. Joins ms (before item done)) (same_meanings cs 1 [] j.0) j.1,
    )
  where
    one_size : (x : OneItem) → 0 < size (before x done)
    one_size x = omega (arith, size-listed (x ∷ []))

pub item_missing : (text : List ℕ) → length text ≤ 16777216 → reading true text ≡ Ok done → item_fault text ≡ Some (whole BadLine)
item_missing text h e = within text _ h ∙ chosen (list_all is_empty (contents text)) _ _ (read_blank (contents text) e)

not_blank_fault : (cs : List (List ℕ)) (f : Fault) (b : Bool) → list_all is_empty cs ≡ b → read_on 1 before_reading (one_item 0 cs) ≡ Err f → b ≡ false
not_blank_fault cs f true e r = let q : Err f ≡ Ok done = sym r ∙ blank_read cs 1 e in cc
not_blank_fault cs f false e r = refl

pub item_refused : (text : List ℕ) (f : Fault) → length text ≤ 16777216 → reading true text ≡ Err f → item_fault text ≡ Some f
item_refused text f h e =
    let cs = contents text in
    within text _ h ∙ passed (list_all is_empty cs) _ _ (not_blank_fault cs f (list_all is_empty cs) refl e) ∙ fault_read (one_item 0 cs) f e

-- if a fault is placed
line_placed : (f : Fault) (is_whole : Refusal → Bool) → IsLineFault f → HasLine is_whole f
line_placed f is_whole p = inl (p.0, p.1)

whole_placed : (f : Fault) (r : Refusal) (is_whole : Refusal → Bool) → f ≡ whole r → is_whole r ≡ true → HasLine is_whole f
whole_placed f r is_whole e p = subst (HasLine is_whole) (sym e) (inr (p, refl))

long_case : (b : Bool) (ms : Option Fault) (f : Fault) → (if b then Some (whole TooLong) else ms) ≡ Some f → (f ≡ whole TooLong) ⊎ (ms ≡ Some f)
long_case true ms f e = let same : whole TooLong ≡ f = cc in inl (sym same)
long_case false ms f e = inr e

-- a text is refused for its length or for a line
text_fault_cases : (text : List ℕ) (f : Fault) → text_fault text ≡ Some f → (f ≡ whole TooLong) ⊎ IsLineFault f
text_fault_cases text f e =
    elim (long_case (nat_lt 16777216 (length text)) _ f e) [
      | inl l ↦ inl l
      | inr g ↦ inr (line_fault_found (meanings text) 1 [] f (meanings_lines (contents text)) (omega arith) tt g)
    ]

pub text_fault_placed : (text : List ℕ) (f : Fault) → text_fault text ≡ Some f → HasLine is_of_circuit f
text_fault_placed text f e = elim (text_fault_cases text f e) [ inl l ↦ whole_placed f TooLong is_of_circuit l refl | inr g ↦ line_placed f is_of_circuit g ]

blank_placed : (b : Bool) (ms : Option Fault) (f : Fault) → (if b then Some (whole BadLine) else ms) ≡ Some f → (ms ≡ Some f → HasLine is_of_item f) → HasLine is_of_item f
blank_placed true ms f e rest = let same : whole BadLine ≡ f = cc in whole_placed f BadLine is_of_item (sym same) refl
blank_placed false ms f e rest = rest e

pub item_fault_placed : (text : List ℕ) (f : Fault) → item_fault text ≡ Some f → HasLine is_of_item f
item_fault_placed text f e =
    elim (long_case (nat_lt 16777216 (length text)) _ f e) [
      | inl l ↦ whole_placed f TooLong is_of_item l refl
      | inr g ↦ blank_placed (list_all is_empty (contents text)) _ f g
          (λ k. line_placed f is_of_item (line_fault_found (one_item 0 (contents text)) 1 [] f (one_item_lines 0 (contents text)) (omega arith) tt k))
    ]

pub item_placed : (text : List ℕ) (f : Fault) → (f ≡ whole OutOfMemory) ⊎ (item_fault text ≡ Some f) → HasLine is_of_item f
item_placed text f (inl e) = whole_placed f OutOfMemory is_of_item e refl
item_placed text f (inr e) = item_fault_placed text f e

check_choice : (b d : Bool) (r : Refusal) → (if b then Some LookbackTooFar else if d then Some TooManySteps else None) ≡ Some r → (r ≡ LookbackTooFar) ⊎ (r ≡ TooManySteps)
check_choice true d r e = let same : LookbackTooFar ≡ r = cc in inl (sym same)
check_choice false true r e = let same : TooManySteps ≡ r = cc in inr (sym same)
check_choice false false r e = cc

-- a whole circuit is refused for its lookback or its steps
pub check_refusal : (items : Items) (r : Refusal) → check_of items ≡ Some r → (r ≡ LookbackTooFar) ⊎ (r ≡ TooManySteps)
unfolding check_of
check_refusal items r e = check_choice (looks_too_far 0 (unroll items)) (nat_lt most_steps (length (unroll items))) r e

check_placed : (f : Fault) (r : Refusal) → f ≡ whole r → (r ≡ LookbackTooFar) ⊎ (r ≡ TooManySteps) → HasLine is_of_circuit f
check_placed f r e (inl p) = whole_placed f r is_of_circuit e (ap is_of_circuit p)
check_placed f r e (inr p) = whole_placed f r is_of_circuit e (ap is_of_circuit p)

pub circuit_placed : (text : List ℕ) (f : Fault) → (f ≡ whole OutOfMemory) ⊎ IsFaultOf text f → HasLine is_of_circuit f
circuit_placed text f (inl e) = whole_placed f OutOfMemory is_of_circuit e refl
circuit_placed text f (inr (inl e)) = text_fault_placed text f e
circuit_placed text f (inr (inr (items, r, s, k, e))) = check_placed f r e (check_refusal items r k)

-- the answers of the calls
pub circuit_refused : (text : List ℕ) (f : Fault) → length text ≤ 16777216 → (f ≡ whole OutOfMemory) ⊎ (reading false text ≡ Err f) → (f ≡ whole OutOfMemory) ⊎ IsFaultOf text f
circuit_refused text f h (inl e) = inl e
circuit_refused text f h (inr e) = inr (inl (text_refused text f h e))

judged_fault : (text : List ℕ) (held : List OneItem) (f : Fault) (verdict : Option Refusal) → length text ≤ 16777216 → reading false text ≡ Ok (listed held)
    → check_of (listed held) ≡ verdict → IsCallFault verdict f → ReadsCircuit text (Err f)
judged_fault text held f None h e judged memory = inl memory
judged_fault text held f (Some r) h e judged is = inr (inr (listed held, r, text_read text (listed held) h e, judged, is))

pub circuit_judged : (text : List ℕ) (held : List OneItem) (given : Result (List OneItem) Fault) → length text ≤ 16777216 → reading false text ≡ Ok (listed held)
    → IfOk given (λ c. c ≡ held) → Refuses given (check_of (listed held)) → ReadsCircuit text given
circuit_judged text held (Ok c) h e same k = subst (λ l. IsCircuit text (listed l)) (sym same) (text_read text (listed held) h e, k)
circuit_judged text held (Err f) h e same k = judged_fault text held f (check_of (listed held)) h e refl k

pub circuit_answered : (text : List ℕ) (given : Result (List OneItem) Fault) → ReadsCircuit text given → IfErr given (HasLine is_of_circuit)
circuit_answered text (Ok c) p = tt
circuit_answered text (Err f) p = circuit_placed text f p

pub one_refused : (text : List ℕ) (f : Fault) → length text ≤ 16777216 → (f ≡ whole OutOfMemory) ⊎ (reading true text ≡ Err f) → (f ≡ whole OutOfMemory) ⊎ (item_fault text ≡ Some f)
one_refused text f h (inl e) = inl e
one_refused text f h (inr e) = inr (item_refused text f h e)

pub one_read : (text : List ℕ) (held ys : List OneItem) (item : OneItem) → held ≡ ys ++ item ∷ [] → length text ≤ 16777216 → reading true text ≡ Ok (listed held) → StandsForOne text item
one_read text held ys item p h e = item_read text ys item h (e ∙ ap (λ l. Ok (listed l)) p)

pub none_read : (text : List ℕ) (held : List OneItem) (f : Fault) → length held ≡ 0 → length text ≤ 16777216 → reading true text ≡ Ok (listed held) → f ≡ whole BadLine
    → (f ≡ whole OutOfMemory) ⊎ (item_fault text ≡ Some f)
none_read text [] f p h e w = inr (item_missing text h e ∙ ap Some (sym w))
none_read text (x ∷ xs) f p h e w = absurd (omega (arith, p))
