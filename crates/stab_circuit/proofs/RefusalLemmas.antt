-- Which refusals a line can have.
use Rattle.stab_circuit.proofs.Names.{◌≡◌, ◌<◌, refl, subst, ℕ, ◌+◌, List, [], ◌∷◌, Bool, true, false, nat_lt, length, map, Option, Some, Ok, Err, if◌then◌else◌, arith, Refusal, BadBlock, TooDeep, Fault, Line, Blank, Close, Open, is_close, meaning_of, is_of_line, Meaning, at_line, meaning_after, ends_item, depth_after, one_item, fault_from, is_empty, has_line}
use Rattle.stab_circuit.proofs.LineLaws.{refused_as_line}
use Rattle.stab_instructions.specs.declared.operation.Line.TheVariants as line

-- if a line is refused, such a refusal has a line
abbrev pub OfLine : Meaning → Type 0
OfLine (Ok x) = Unit {0}
OfLine (Err r) = has_line r ≡ true

pub record IsOfLine (m : Meaning) : Type 0 where
  pub holds : OfLine m

good : (x : Line) → IsOfLine (Ok x)
good x = record { holds = tt }

if_line : (b : Bool) {x y : Meaning} → IsOfLine x → IsOfLine y → IsOfLine (if b then x else y)
if_line true p q = p
if_line false p q = q

has_some : (r : Refusal) → is_of_line r ≡ true → has_line r ≡ true
has_some TooDeep e = refl
has_some r e = e

line_case : (m : Meaning) → ((r : Refusal) → m ≡ Err r → is_of_line r ≡ true) → IsOfLine m
line_case (Ok x) f = good x
line_case (Err r) f = record { holds = has_some r (f r refl) }

meaning_line : (content : List ℕ) → IsOfLine (meaning_of content)
meaning_line content = line_case (meaning_of content) (refused_as_line content)

-- each line is refused as lines are, if at all
abbrev pub AreLines : List Meaning → Type 0
AreLines [] = Unit {0}
AreLines (m ∷ ms) = IsOfLine m × AreLines ms

pub meanings_lines : (cs : List (List ℕ)) → AreLines (map meaning_of cs)
meanings_lines [] = tt
meanings_lines (c ∷ cs) = (meaning_line c, meanings_lines cs)

after_lines : (cs : List (List ℕ)) → AreLines (map meaning_after cs)
after_lines [] = tt
after_lines (c ∷ cs) = (if_line (is_empty c) (good Blank) (if_line (is_close c) (good Close) (record { holds = refl })), after_lines cs)

choose_lines : (b : Bool) (ms ns : List Meaning) → AreLines ms → AreLines ns → AreLines (if b then ms else ns)
choose_lines true ms ns p q = p
choose_lines false ms ns p q = q

pub one_item_lines : (d : ℕ) (cs : List (List ℕ)) → AreLines (one_item d cs)
one_item_lines d [] = tt
one_item_lines d (c ∷ cs) = (meaning_line c, choose_lines (ends_item d (meaning_of c)) _ _ (after_lines cs) (one_item_lines (depth_after d (meaning_of c)) cs))

-- a fault with a line, as a refused line has
abbrev pub IsLineFault : Fault → Type 0
IsLineFault f = (has_line f.refusal ≡ true) × (0 < f.line)

abbrev pub ArePositive : List ℕ → Type 0
ArePositive [] = Unit {0}
ArePositive (n ∷ ns) = (0 < n) × ArePositive ns

found : (r : Refusal) (n : ℕ) (f : Fault) → Some (at_line n r) ≡ Some f → has_line r ≡ true → 0 < n → IsLineFault f
found r n f e p h = let same : at_line n r ≡ f = cc in subst IsLineFault same (p, h)

opens_found : (b : Bool) (n : ℕ) (more : Option Fault) (f : Fault) → (if b then more else Some (at_line n TooDeep)) ≡ Some f → 0 < n → (more ≡ Some f → IsLineFault f) → IsLineFault f
opens_found true n more f e h rest = rest e
opens_found false n more f e h rest = found TooDeep n f e refl h

-- the first fault is that of a line
pub line_fault_found : (ms : List Meaning) (n : ℕ) (opened : List ℕ) (f : Fault) → AreLines ms → 0 < n → ArePositive opened → fault_from n opened ms ≡ Some f → IsLineFault f
line_fault_found [] n [] f a h p e = cc
line_fault_found [] n (at ∷ outer) f a h p e = found BadBlock at f e refl p.0
line_fault_found (Err r ∷ ms) n [] f a h p e = found r n f e a.0.holds h
line_fault_found (Err r ∷ ms) n (at ∷ outer) f a h p e = found r n f e a.0.holds h
line_fault_found (Ok Blank ∷ ms) n [] f a h p e = line_fault_found ms (n + 1) [] f a.1 (omega arith) p e
line_fault_found (Ok Blank ∷ ms) n (at ∷ outer) f a h p e = line_fault_found ms (n + 1) (at ∷ outer) f a.1 (omega arith) p e
line_fault_found (Ok (line.Operation op) ∷ ms) n [] f a h p e = line_fault_found ms (n + 1) [] f a.1 (omega arith) p e
line_fault_found (Ok (line.Operation op) ∷ ms) n (at ∷ outer) f a h p e = line_fault_found ms (n + 1) (at ∷ outer) f a.1 (omega arith) p e
line_fault_found (Ok Close ∷ ms) n [] f a h p e = found BadBlock n f e refl h
line_fault_found (Ok Close ∷ ms) n (at ∷ outer) f a h p e = line_fault_found ms (n + 1) outer f a.1 (omega arith) p.1 e
line_fault_found (Ok (Open c t) ∷ ms) n [] f a h p e = line_fault_found ms (n + 1) (n ∷ []) f a.1 (omega arith) (h, tt) e
line_fault_found (Ok (Open c t) ∷ ms) n (at ∷ outer) f a h p e =
    opens_found (nat_lt (length (at ∷ outer)) 16) n _ f e h (line_fault_found ms (n + 1) (n ∷ at ∷ outer) f a.1 (omega arith) (h, p))
