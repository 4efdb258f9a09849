-- Printed contents hold no line end and no comment, and begin and end without spacing.
use Rattle.stab_circuit.proofs.Names.{◌≡◌, refl, ap, ◌∙◌, ℕ, ◌<◌, ◌≤◌, ◌==◌, List, [], ◌∷◌, ◌++◌, Bool, true, false, arith, codes, inl, inr, decimal, nat_tests, Operation, is_byte, is_digit, is_spacing, is_letter, is_name_byte, is_some_word, is_coordinate_byte, kind_name, tag_text, arguments_text, kind_arguments, targets_text, head_text, operation_text, open_text}
use Rattle.stab_instructions.proofs.LackLemmas.{Each, Lacks, lacks-append, each_weaker, digits_lack, tag_lacks}
use Rattle.stab_instructions.proofs.SureLemmas.{IsCount, IsCoordinate, IsGoodKind, IsTag}
use Rattle.stab_circuit.proofs.NeatLemmas.{Ends, IsSolid, IsNeat, ends-append, ends_one, solid_word}
use Rattle.stab_circuit.proofs.ReadBackLemmas.{decimal_digits, coordinate_lacks, further}
use Rattle.stab_circuit.proofs.ShapeLemmas.{IsName, lacks_further}
use Rattle.stab_circuit.proofs.ContentLemmas.{IsClear, EndsWell, ends_well, well_well, kind_is, repeat_is, kind_targets, kind_coordinates}

-- a test that fails on all bytes that are printed, but perhaps on those of tags
pub record IsOuter (p : ℕ → Bool) : Type 0 where
  names : (b : ℕ) → is_name_byte b ≡ true → p b ≡ false
  coordinates : (b : ℕ) → is_coordinate_byte b ≡ true → p b ≡ false
  pub targets : IsClear p
  open_tag : p 91 ≡ false
  close_tag : p 93 ≡ false
  open_arguments : p 40 ≡ false
  close_arguments : p 41 ≡ false
  comma : p 44 ≡ false
  brace : p 123 ≡ false

-- a test for a byte in front of those of numbers and names
outer : (m : ℕ) → m < 40 → Lacks (is_byte m) (codes "!rec[-]*XYZ") → is_byte m 32 ≡ false → IsOuter (is_byte m)
outer m small marks space = record {
  names = name_no;
  coordinates = coordinate_no;
  targets = record { digits = digit_no; marks = marks; space = space };
  open_tag = far 91 (omega arith);
  close_tag = far 93 (omega arith);
  open_arguments = far 40 (omega arith);
  close_arguments = far 41 (omega arith);
  comma = far 44 (omega arith);
  brace = far 123 (omega arith);
}
  where
    far : (b : ℕ) → 40 ≤ b → (b == m) ≡ false
    far b le = grind (arith, nat_tests)

    name_no : (b : ℕ) → is_name_byte b ≡ true → (b == m) ≡ false
    name_no b e = grind (arith, nat_tests)

    coordinate_no : (b : ℕ) → is_coordinate_byte b ≡ true → (b == m) ≡ false
    coordinate_no b e = grind (arith, nat_tests)

    digit_no : (b : ℕ) → is_digit b ≡ true → (b == m) ≡ false
    digit_no b e = grind (arith, nat_tests)

pub line_ends_outer : IsOuter (is_byte 10)
line_ends_outer = outer 10 (omega arith) (refl, (refl, (refl, (refl, (refl, (refl, (refl, (refl, (refl, (refl, (refl, tt))))))))))) refl

pub comments_outer : IsOuter (is_byte 35)
comments_outer = outer 35 (omega arith) (refl, (refl, (refl, (refl, (refl, (refl, (refl, (refl, (refl, (refl, (refl, tt))))))))))) refl

tag_text_lacks : (p : ℕ → Bool) → IsOuter p → (tag : List ℕ) → Lacks p tag → Lacks p (tag_text tag)
tag_text_lacks p o [] f = tt
tag_text_lacks p o (b ∷ bs) f = (o.open_tag, lacks-append p (b ∷ bs) (codes "]") f (o.close_tag, tt))

arguments_lack : (p : ℕ → Bool) → IsOuter p → (arguments : List (List ℕ)) → Each IsCoordinate arguments → Lacks p (arguments_text arguments)
arguments_lack p o [] c = tt
arguments_lack p o (a ∷ more) c = (
  o.open_arguments,
  lacks-append p a (further more ++ codes ")") (coordinate_lacks p a o.coordinates c.0.1)
      (lacks-append p (further more) (codes ")") (lacks_further p o.coordinates o.comma o.targets.space more c.1) (o.close_arguments, tt)),
)

pub head_lacks : (p : ℕ → Bool) → IsOuter p → (name tag : List ℕ) → IsName name → Lacks p tag → Lacks p (head_text name tag)
head_lacks p o name tag n f = lacks-append p name (tag_text tag) (each_weaker (λ b. is_name_byte b ≡ true) (λ b. p b ≡ false) name o.names n.bytes) (tag_text_lacks p o tag f)

operation_lacks : (p : ℕ → Bool) → IsOuter p → (op : Operation) → IsGoodKind op.kind → Lacks p op.tag → Lacks p (operation_text op)
operation_lacks p o op g f =
    lacks-append p (head_text (kind_name op.kind) op.tag) (arguments_text (kind_arguments op.kind) ++ targets_text op.kind) (head_lacks p o (kind_name op.kind) op.tag (kind_is op.kind) f)
    (lacks-append p (arguments_text (kind_arguments op.kind)) (targets_text op.kind) (arguments_lack p o (kind_arguments op.kind) (kind_coordinates op.kind g)) ((kind_targets op.kind g).lacks p o.targets))

open_lacks : (p : ℕ → Bool) → IsOuter p → (count : ℕ) (tag : List ℕ) → IsCount count → Lacks p tag → Lacks p (open_text count tag)
open_lacks p o count tag c f =
    lacks-append p (head_text (codes "REPEAT") tag) (codes " " ++ (decimal count ++ codes " {")) (head_lacks p o (codes "REPEAT") tag repeat_is f)
    (o.targets.space, lacks-append p (decimal count) (codes " {") (digits_lack p (decimal count) o.targets.digits (decimal_digits count (omega (arith, c.1)))) (o.targets.space, (o.brace, tt)))

-- ends
name_solid : (name : List ℕ) → IsName name → IsSolid name
name_solid name n =
    solid_word name (each_weaker (λ b. is_name_byte b ≡ true) (λ b. is_spacing b ≡ false) name (λ b e. no_spacing b e) n.bytes) (ap is_some_word n.front ∙ some_first n.first n.rest)
  where
    no_spacing : (b : ℕ) → is_name_byte b ≡ true → is_spacing b ≡ false
    no_spacing b e = grind (arith, nat_tests)

    some_first : (x : ℕ) (xs : List ℕ) → is_some_word (x ∷ xs) ≡ true
    some_first x xs = grind arith

tag_ends : (tag : List ℕ) → EndsWell (tag_text tag)
tag_ends [] = inl refl
tag_ends (b ∷ bs) = inr (ends_one (91 ∷ b ∷ bs) 93 refl)

arguments_ends : (arguments : List (List ℕ)) → EndsWell (arguments_text arguments)
arguments_ends [] = inl refl
arguments_ends (a ∷ more) = inr (ends-append (40 ∷ a) (further more ++ codes ")") (ends_one (further more) 41 refl))

pub head_ends : (name tag : List ℕ) → IsName name → Ends (head_text name tag)
head_ends name tag n = ends_well name (tag_text tag) (name_solid name n).ends (tag_ends tag)

pub headed_solid : (name tag rest : List ℕ) → IsName name → Ends (head_text name tag ++ rest) → IsSolid (head_text name tag ++ rest)
headed_solid name tag rest n e =
    record { first = n.first; rest = (n.rest ++ tag_text tag) ++ rest; front = ap (λ l. (l ++ tag_text tag) ++ rest) n.front; solid = no_spacing n.first n.letter; ends = e }
  where
    no_spacing : (b : ℕ) → is_letter b ≡ true → is_spacing b ≡ false
    no_spacing b e = grind (arith, nat_tests)

operation_solid : (op : Operation) → IsGoodKind op.kind → IsSolid (operation_text op)
operation_solid op g =
    let name = kind_name op.kind in
    let rest = arguments_text (kind_arguments op.kind) ++ targets_text op.kind in
    headed_solid name op.tag rest (kind_is op.kind)
    (ends_well (head_text name op.tag) rest (head_ends name op.tag (kind_is op.kind))
    (well_well (arguments_text (kind_arguments op.kind)) (targets_text op.kind) (arguments_ends (kind_arguments op.kind)) (kind_targets op.kind g).ends))

open_solid : (count : ℕ) (tag : List ℕ) → IsSolid (open_text count tag)
open_solid count tag =
    let rest = codes " " ++ (decimal count ++ codes " {") in
    headed_solid (codes "REPEAT") tag rest repeat_is
    (ends-append (head_text (codes "REPEAT") tag) rest (ends-append (codes " " ++ decimal count) (codes " {") (ends_one (codes " ") 123 refl)))

-- what is printed of an operation, and of a block's opening and end
pub operation_neat : (op : Operation) → IsGoodKind op.kind → IsTag op.tag → IsNeat (operation_text op)
operation_neat op g t =
    let lacks = tag_lacks op.tag t in
    record { lines = operation_lacks (is_byte 10) line_ends_outer op g lacks.0; comments = operation_lacks (is_byte 35) comments_outer op g lacks.1; solid = operation_solid op g }

pub open_neat : (count : ℕ) (tag : List ℕ) → IsCount count → IsTag tag → IsNeat (open_text count tag)
open_neat count tag c t =
    let lacks = tag_lacks tag t in
    record { lines = open_lacks (is_byte 10) line_ends_outer count tag c lacks.0; comments = open_lacks (is_byte 35) comments_outer count tag c lacks.1; solid = open_solid count tag }

pub close_neat : IsNeat (codes "}")
close_neat = record { lines = (refl, tt); comments = (refl, tt); solid = record { first = 125; rest = []; front = refl; solid = refl; ends = ends_one [] 125 refl } }
