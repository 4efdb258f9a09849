-- The reader's fault is the text's, and what it reads is what the lines stand for.
use Rattle.stab_circuit.proofs.Names.{◌≡◌, refl, ap, sym, ◌∙◌, ℕ, ◌+◌, suc, List, [], ◌∷◌, Bool, true, false, nat_lt, length, Option, None, Some, Result, Ok, Err, if◌then◌else◌, TooDeep, Fault, Blank, Close, Open, Items, done, next, join, Meaning, at_line, fault_from, OpenBlock, Progress, closed, read_on}
use Rattle.stab_instructions.specs.declared.operation.Line.TheVariants as line

-- the lines of the open blocks
abbrev pub lines_of : List OpenBlock → List ℕ
lines_of [] = []
lines_of (f ∷ fs) = f.line ∷ lines_of fs

abbrev pub fault_of : Result Items Fault → Option Fault
fault_of (Ok xs) = None
fault_of (Err f) = Some f

-- what a reader keeps
abbrev pub state : List OpenBlock → Items → Progress
state fs now = record { open_blocks = fs; now = now }

abbrev pub open_block : ℕ → ℕ → List ℕ → Items → OpenBlock
open_block n c t before = record { line = n; count = c; tag = t; before = before }

pub length-lines_of : (fs : List OpenBlock) → length (lines_of fs) ≡ length fs
length-lines_of [] = refl
length-lines_of (f ∷ fs) = ap suc (length-lines_of fs)

-- how reading goes on after a block is opened, if it is
opens_agree : (n c : ℕ) (t : List ℕ) (fs : List OpenBlock) (now : Items) (ms : List Meaning) (b : Bool) (rest : Option Fault)
    → fault_of (read_on (n + 1) (state (open_block n c t now ∷ fs) done) ms) ≡ rest
    → fault_of (elim (if b then Ok (state (open_block n c t now ∷ fs) done) else Err TooDeep) [ Ok s ↦ read_on (n + 1) s ms | Err r ↦ Err (at_line n r) ]) ≡ (if b then rest else Some (at_line n TooDeep))
opens_agree n c t fs now ms true rest e = e
opens_agree n c t fs now ms false rest e = refl

-- the fault has nothing to do with the items
pub fault_agrees : (ms : List Meaning) (n : ℕ) (fs : List OpenBlock) (now : Items) → fault_of (read_on n (state fs now) ms) ≡ fault_from n (lines_of fs) ms
fault_agrees [] n [] now = refl
fault_agrees [] n (f ∷ fs) now = refl
fault_agrees (Err r ∷ ms) n [] now = refl
fault_agrees (Err r ∷ ms) n (f ∷ fs) now = refl
fault_agrees (Ok Blank ∷ ms) n [] now = fault_agrees ms (n + 1) [] now
fault_agrees (Ok Blank ∷ ms) n (f ∷ fs) now = fault_agrees ms (n + 1) (f ∷ fs) now
fault_agrees (Ok (line.Operation op) ∷ ms) n [] now = fault_agrees ms (n + 1) [] (join now (next op done))
fault_agrees (Ok (line.Operation op) ∷ ms) n (f ∷ fs) now = fault_agrees ms (n + 1) (f ∷ fs) (join now (next op done))
fault_agrees (Ok Close ∷ ms) n [] now = refl
fault_agrees (Ok Close ∷ ms) n (f ∷ fs) now = fault_agrees ms (n + 1) fs (closed f now)
fault_agrees (Ok (Open c t) ∷ ms) n [] now = fault_agrees ms (n + 1) (open_block n c t now ∷ []) done
fault_agrees (Ok (Open c t) ∷ ms) n (f ∷ fs) now =
    opens_agree n c t (f ∷ fs) now ms (nat_lt (length (f ∷ fs)) 16) _ (fault_agrees ms (n + 1) (open_block n c t now ∷ (f ∷ fs)) done)
    ∙ ap (λ k. if nat_lt k 16 then fault_from (n + 1) (n ∷ lines_of (f ∷ fs)) ms else Some (at_line n TooDeep)) (sym (length-lines_of (f ∷ fs)))
