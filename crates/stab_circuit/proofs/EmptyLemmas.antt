-- The contents that are blank lines: the empty ones.
use Rattle.stab_circuit.proofs.Names.{◌≡◌, refl, sym, ◌∙◌, ℕ, ◌==◌, List, [], ◌∷◌, Bool, true, false, length, Option, None, Some, Result, Ok, Err, arith, if◌then◌else◌, nat_tests, Refusal, BadBlock, Kind, Line, Blank, Close, Open, Name, ◌>>=◌, Shape, shape_of, name_of, count_of, meaning_of, is_close, shape_meaning, named_line, block_of, kind_of, targets_alone, opening_of, only_count}
use Rattle.stab_instructions.specs.declared.operation.Line.TheVariants as line
use Rattle.stab_instructions.specs.declared.name.Name.TheVariants as name
use Rattle.stab_instructions.proofs.BoolLemmas.{chosen, passed}

-- a name and what follows it are never a blank line
opens_blank : (s : Shape) (o : Option ℕ) (b : Bool) → s.opens ≡ b → opening_of s o ≡ Ok Blank → ⊥
opens_blank s None b h e = cc
opens_blank s (Some n) true h e = let f : Ok (Open n s.tag) ≡ Ok Blank = sym (chosen s.opens (Ok (Open n s.tag)) (Err BadBlock) h) ∙ e in cc
opens_blank s (Some n) false h e = let f : Err BadBlock ≡ Ok Blank = sym (passed s.opens (Ok (Open n s.tag)) (Err BadBlock) h) ∙ e in cc

block_blank : (s : Shape) (r : Result (List (Option ℕ)) Refusal) → (r >>= λ counts. opening_of s (only_count counts)) ≡ Ok Blank → ⊥
block_blank s (Ok counts) e = opens_blank s (only_count counts) s.opens refl e
block_blank s (Err x) e = cc

kind_blank : (s : Shape) (b : Bool) (r : Result Kind Refusal)
    → (r >>= λ kind. if b then Err BadBlock else Ok (line.Operation (record { kind = kind; tag = s.tag }))) ≡ Ok Blank → ⊥
kind_blank s true (Ok kind) e = cc
kind_blank s false (Ok kind) e = cc
kind_blank s b (Err x) e = cc

named_blank : (s : Shape) (q : Result Name Refusal) → (q >>= named_line s) ≡ Ok Blank → ⊥
unfolding named_line block_of
named_blank s (Ok name.Repeat) e = block_blank s (targets_alone count_of s) e
named_blank s (Ok (name.Instruction i)) e = kind_blank s s.opens (kind_of i s) e
named_blank s (Err x) e = cc

shape_blank : (r : Result Shape Refusal) → (r >>= shape_meaning) ≡ Ok Blank → ⊥
shape_blank (Ok s) e = named_blank s (name_of s.name) e
shape_blank (Err x) e = cc

blank_choice : (b d : Bool) (r : Result Line Refusal) → (r ≡ Ok Blank → ⊥) → (if b then Ok Blank else if d then Ok Close else r) ≡ Ok Blank → b ≡ true
blank_choice true d r no' e = refl
blank_choice false true r no' e = cc
blank_choice false false r no' e = absurd (no' e)

means_blank : (c : List ℕ) → meaning_of c ≡ Ok Blank → (length c == 0) ≡ true
unfolding meaning_of
means_blank c e = blank_choice (length c == 0) (is_close c) (shape_of c >>= shape_meaning) (shape_blank (shape_of c)) e

-- only an empty content is blank
pub blank_empty : (c : List ℕ) → meaning_of c ≡ Ok Blank → c ≡ []
blank_empty c e = none c (means_blank c e)
  where
    none : (c : List ℕ) → (length c == 0) ≡ true → c ≡ []
    none [] e = refl
    none (x ∷ xs) e = absurd (omega (arith, some x xs e))
      where
        some : (x : ℕ) (xs : List ℕ) → (length (x ∷ xs) == 0) ≡ true → length (x ∷ xs) ≡ 0
        some x xs e = grind (arith, nat_tests)

pub empty_blank : meaning_of [] ≡ Ok Blank
unfolding meaning_of
empty_blank = refl
