-- Laws of reading a script: it is read in pieces as it is read whole, and a byte opens at most one block.
use Rattle.stab_script.proofs.Names.{◌≡◌, ◌≤◌, ◌<◌, ℕ, ◌+◌, Bool, true, false, ◌==◌, List, [], ◌∷◌, ◌++◌, length, take, drop, get_or, refl, sym, ap, ◌∙◌, arith, append_assoc, Option, Some, None, if◌then◌else◌, append-nil, take_more, take-append-drop, content_of, ends_with_byte, Gathered, Request, begin, put, delete, show, ask, deterministic, distance, refuse, request_of, ScriptReader, Gathering, Reading, silent, line_ended, begun, line_alone, opened_after, gathered_with, gathering_ended, line_gathered, line_after, read_line, read_byte, then_read, read, opened_in}

-- one reading after another, as a whole
abbrev reading : ScriptReader → List Request → Reading
reading reader requests = record { reader = reader; requests = requests }

-- bytes after others
pub read_append : (reader : ScriptReader) (xs ys : List ℕ) → read reader (xs ++ ys) ≡ then_read (read reader xs) (λ after. read after ys)
unfolding read
read_append reader [] ys = refl
read_append reader (x ∷ xs) ys =
    let more = read_append (read_byte reader x).reader xs ys in
    ap (λ (r : Reading). reading r.reader ((read_byte reader x).requests ++ r.requests)) more
    ∙ ap (λ l. reading (read (read (read_byte reader x).reader xs).reader ys).reader l) (sym (append_assoc (read_byte reader x).requests (read (read_byte reader x).reader xs).requests (read (read (read_byte reader x).reader xs).reader ys).requests))

-- no bytes
pub read_none : (reader : ScriptReader) → read reader [] ≡ silent reader
unfolding read
read_none reader = refl

-- one byte alone
pub read_one : (reader : ScriptReader) (b : ℕ) → read reader (b ∷ []) ≡ read_byte reader b
unfolding read
read_one reader b = ap (λ l. reading (read_byte reader b).reader l) (append-nil (read_byte reader b).requests)

-- one byte more
pub read_more : (reader : ScriptReader) (bytes : List ℕ) (i : ℕ) → i < length bytes
    → read reader (take (i + 1) bytes) ≡ then_read (read reader (take i bytes)) (λ after. read_byte after (get_or bytes i 0))
read_more reader bytes i h =
    ap (read reader) (take_more bytes i 0 h)
    ∙ read_append reader (take i bytes) (get_or bytes i 0 ∷ [])
    ∙ ap (λ (r : Reading). reading r.reader ((read reader (take i bytes)).requests ++ r.requests)) (read_one (read reader (take i bytes)).reader (get_or bytes i 0))

-- what first bytes ask for comes first
pub first_requests : (reader : ScriptReader) (bytes : List ℕ) (n : ℕ) → (more : List Request) × ((read reader bytes).requests ≡ (read reader (take n bytes)).requests ++ more)
first_requests reader bytes n = (
  (read (read reader (take n bytes)).reader (drop n bytes)).requests,
  ap (λ l. (read reader l).requests) (sym (take-append-drop n bytes)) ∙ ap (λ (r : Reading). r.requests) (read_append reader (take n bytes) (drop n bytes)),
)

-- how many blocks are open in what is gathered after a reading
abbrev opened_by : Reading → ℕ
opened_by r = opened_in r.reader.gathering

opened_after_le : (opened : ℕ) (content : List ℕ) → opened_after opened content ≤ opened + 1
opened_after_le opened content = grind arith

opened_with : (g : Gathering) (line : Gathered) → (gathered_with g line).opened ≤ g.opened + 1
opened_with g None = omega arith
opened_with g (Some line) = opened_after_le g.opened (content_of line)

opened_choice : (b : Bool) (x y : Reading) (n : ℕ) → opened_by x ≤ n → opened_by y ≤ n → opened_by (if b then x else y) ≤ n
opened_choice true x y n p q = p
opened_choice false x y n p q = q

opened_gathered : (g : Gathering) → opened_by (line_gathered g) ≤ g.opened
opened_gathered g = opened_choice (g.opened == 0) (gathering_ended g) (line_ended (Some g) []) g.opened (omega arith) (omega arith)

opened_begun : (r : Request) → opened_by (begun r) ≤ 1
opened_begun (put edit place text) = opened_choice (ends_with_byte text 123) (line_ended (Some (record { edit = edit; place = place; opened = 1; text = Some text })) []) (line_ended None (put edit place text ∷ [])) 1 (omega arith) (omega arith)
opened_begun begin = omega arith
opened_begun (delete place) = omega arith
opened_begun (show what) = omega arith
opened_begun (ask request) = omega arith
opened_begun deterministic = omega arith
opened_begun (distance everywhere most) = omega arith
opened_begun (refuse r) = omega arith

opened_alone : (line : Gathered) → opened_by (line_alone line) ≤ 1
opened_alone None = omega arith
opened_alone (Some line) = opened_choice (length (content_of line) == 0) (line_ended None []) (begun (request_of (content_of line))) 1 (omega arith) (opened_begun (request_of (content_of line)))

opened_line : (gathering : Option Gathering) (line : Gathered) → opened_by (line_after gathering line) ≤ opened_in gathering + 1
opened_line None line = let one = opened_alone line in omega (arith, one)
opened_line (Some g) line = let one = opened_gathered (gathered_with g line) in let two = opened_with g line in omega (arith, one, two)

-- a byte opens at most one block more
pub opened_byte : (reader : ScriptReader) (b : ℕ) → opened_by (read_byte reader b) ≤ opened_in reader.gathering + 1
unfolding read_line
opened_byte reader b = opened_choice (b == 10) (read_line reader) _ (opened_in reader.gathering + 1) (opened_line reader.gathering reader.line) (omega arith)

-- bytes open at most as many blocks as they are
pub opened_read : (reader : ScriptReader) (bytes : List ℕ) → opened_by (read reader bytes) ≤ opened_in reader.gathering + length bytes
unfolding read
opened_read reader [] = omega arith
opened_read reader (b ∷ bs) = let one = opened_byte reader b in let more = opened_read (read_byte reader b).reader bs in omega (arith, one, more)
