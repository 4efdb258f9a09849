-- Known lines, and the instructions that they mean.
use Rattle.stab_circuit.proofs.Names.{◌≡◌, ◌<◌, subst, List, [], ◌∷◌, false, ℕ, length, Option, Some, Ok, MatchOption, Bor, All, All-head, All-tail, option_copied, Kind, Operation, Line, Open, OneItem, operation, is_byte, content_of, meaning_of, IsLine, line_good, Lacks, any_lacking, IsGoodKind, IsGoodLine, IsTag, ReadsInstruction, IsOneLine, IsCut, BeginsWithItem, IsKnownLine, IsMeant}
use Rattle.stab_instructions.specs.declared.operation.Line.TheVariants as line
use Rattle.stab_circuit.proofs.FirstLineLemmas.{cut_split, split_cut, cut_shorter, one_line_first, some_reported}

-- a text begins with a line that is known
pub known_front : (text bytes : List ℕ) (op : Operation) (x : OneItem) (after : Option (List ℕ)) → IsKnownLine bytes op → IsCut text bytes after → x ≡ operation op → BeginsWithItem text x after
known_front text bytes op x after known cut e = (bytes, op, cut_split text bytes after known.whole cut, known.means, e)

-- the lines after it are shorter than the text
pub begun_shorter : (text : List ℕ) (x : OneItem) (after : Option (List ℕ)) → BeginsWithItem text x after → MatchOption after (Unit {0}) (λ rest. length rest < length text)
begun_shorter text x after b = cut_shorter text b.0 after (split_cut text b.0 after b.2)

-- what a line means keeps the rules of lines
all_lack : (bs : List ℕ) → IsOneLine bs → Lacks (is_byte 10) bs
all_lack [] one = tt
all_lack (b ∷ bs) one = (All-head (λ x. is_byte 10 x ≡ false) b bs one, all_lack bs (All-tail (λ x. is_byte 10 x ≡ false) b bs one))

meant_good : (bytes : List ℕ) (m : Line) → IsOneLine bytes → meaning_of (content_of bytes) ≡ Ok m → IsGoodLine m
meant_good bytes m one e = let whole : IsLine bytes = any_lacking (is_byte 10) bytes (all_lack bytes one) in line_good bytes m whole e

pub operation_good : (m : Line) (bytes : List ℕ) (op : Operation) → m ≡ line.Operation op → IsOneLine bytes → IsMeant m bytes → IsGoodLine (line.Operation op)
operation_good m bytes op is one means = meant_good bytes (line.Operation op) one (subst (λ l. IsMeant l bytes) is means)

pub opening_good : (m : Line) (bytes : List ℕ) (count : ℕ) (tag : List ℕ) → m ≡ Open count tag → IsOneLine bytes → IsMeant m bytes → IsTag tag
opening_good m bytes count tag is one means = (meant_good bytes (Open count tag) one (subst (λ l. IsMeant l bytes) is means)).1

pub reported_good : (text : List ℕ) (given : Option (Kind × Option (Bor (List ℕ)))) (found : Kind × Option (Bor (List ℕ))) → given ≡ Some found → ReadsInstruction text (Ok given) → IsGoodKind found.0
reported_good text given found e h =
    let d = some_reported text given found e h in
    (meant_good d.0 (line.Operation (record { kind = found.0; tag = [] })) (one_line_first text d.0 _ d.1) d.2).0
