-- Laws of numbers in scripts: each distance that a script asks for is up to a number of at most 18 digits.
use Rattle.stab_script.proofs.Names.{◌≡◌, ◌<◌, ◌^◌, ℕ, Bool, true, false, ◌==◌, nat_le, List, [], ◌∷◌, ◌++◌, length, refl, Option, Some, None, if◌then◌else◌, codes, bytes_eq, leb-true, BadCommand, content_of, ends_with_byte, is_number, value, and_left, and_right, eighteen_digits, Path, CountedRequest, request_alone, bookmark, round_number_of, counted_split, counted_show, Gathered, first_word, after_word, is_nothing, is_path_number, path_of_word, Request, begin, put, delete, show, ask, deterministic, distance, refuse, put_at, delete_at, counted_of, distance_of, show_by, show_of, request_by, request_of, Gathering, ScriptReader, Reading, silent, line_ended, put_gathered, gathering_ended, begun, line_alone, gathered_with, line_after, read_line, read_byte, read, read_last, script_closed, read_end, empty_reader, requests_of, ItemEdit, Insert, Replace, Measurements, Free, Detectors, Observables, Stabilisers, Circuit}

-- a request for a distance is for one of few errors
abbrev pub AsksFew : Request → Type 0
AsksFew (distance everywhere most) = most < 10 ^ 18
AsksFew request = Unit {0}

abbrev pub AllAskFew : List Request → Type 0
AllAskFew [] = Unit {0}
AllAskFew (r ∷ rs) = AsksFew r × AllAskFew rs

few_append : (xs ys : List Request) → AllAskFew xs → AllAskFew ys → AllAskFew (xs ++ ys)
few_append [] ys first rest = rest
few_append (x ∷ xs) ys first rest = (first.0, few_append xs ys first.1 rest)

-- one request or another
either : (b : Bool) (x y : Request) → AsksFew x → AsksFew y → AsksFew (if b then x else y)
either true x y first second = first
either false x y first second = second

-- what a line asks for

put_few : (edit : ItemEdit) (place : Option Path) (text : List ℕ) → AsksFew (put_at edit place text)
put_few edit None text = tt
put_few edit (Some place) text = either (length text == 0) (refuse BadCommand) (put edit place text) tt tt

delete_few : (place : Option Path) (text : List ℕ) → AsksFew (delete_at place text)
delete_few None text = tt
delete_few (Some place) text = either (length text == 0) (delete place) (refuse BadCommand) tt tt

counted_few : (request : Option CountedRequest) → AsksFew (counted_of request)
counted_few None = tt
counted_few (Some request) = tt

distance_few : (word rest : List ℕ) → AsksFew (distance_of (round_number_of word) rest)
distance_few word rest = by_number (is_path_number word) refl
  where
    by_number : (b : Bool) → is_path_number word ≡ b → AsksFew (distance_of (if b then Some (value word) else None) rest)
    by_number false is = tt
    by_number true is =
        let few : value word < 10 ^ 18 = eighteen_digits word (and_left (is_number word) (nat_le (length word) 18) is) (leb-true (length word) 18 (and_right (is_number word) (nat_le (length word) 18) is)) in
        either (length rest == 0) (distance false (value word)) (if bytes_eq rest (codes "everywhere") then distance true (value word) else refuse BadCommand) few
        (either (bytes_eq rest (codes "everywhere")) (distance true (value word)) (refuse BadCommand) few tt)

show_by_few : (word rest : List ℕ) → AsksFew (show_by word rest)
show_by_few word rest =
    either (bytes_eq word (codes "distance")) (distance_of (round_number_of (first_word rest)) (after_word rest)) (counted_of (counted_show word rest))
    (distance_few (first_word rest) (after_word rest)) (counted_few (counted_show word rest))

show_few : (word : List ℕ) → AsksFew (show_of word)
show_few word =
    either (bytes_eq word (codes "measurements")) (show Measurements) _ tt
    (either (bytes_eq word (codes "free")) (show Free) _ tt
    (either (bytes_eq word (codes "detectors")) (show Detectors) _ tt
    (either (bytes_eq word (codes "observables")) (show Observables) _ tt
    (either (bytes_eq word (codes "stabilisers")) (show Stabilisers) _ tt
    (either (bytes_eq word (codes "circuit")) (show Circuit) _ tt
    (either (bytes_eq word (codes "deterministic")) deterministic _ tt
    (show_by_few (first_word word) (after_word word))))))))

request_few : (content : List ℕ) → AsksFew (request_of content)
unfolding request_of
request_few content = by_word (first_word content) (after_word content)
  where
    by_word : (word rest : List ℕ) → AsksFew (request_by word rest)
    by_word word rest =
        either (bytes_eq word (codes "insert")) (put_at Insert (path_of_word (first_word rest)) (after_word rest)) _ (put_few Insert (path_of_word (first_word rest)) (after_word rest))
        (either (bytes_eq word (codes "replace")) (put_at Replace (path_of_word (first_word rest)) (after_word rest)) _ (put_few Replace (path_of_word (first_word rest)) (after_word rest))
        (either (bytes_eq word (codes "delete")) (delete_at (path_of_word (first_word rest)) (after_word rest)) _ (delete_few (path_of_word (first_word rest)) (after_word rest))
        (either (bytes_eq word (codes "show")) (show_of rest) _ (show_few rest)
        (either (bytes_eq word (codes "mark")) (counted_of (request_alone rest bookmark)) _ (counted_few (request_alone rest bookmark))
        (either (bytes_eq word (codes "split")) (counted_of (counted_split rest)) (refuse BadCommand) (counted_few (counted_split rest)) tt)))))

-- what is read

abbrev ReadsFew : Reading → Type 0
ReadsFew r = AllAskFew r.requests

either_reads : (b : Bool) (x y : Reading) → ReadsFew x → ReadsFew y → ReadsFew (if b then x else y)
either_reads true x y first second = first
either_reads false x y first second = second

begun_few : (r : Request) → AsksFew r → ReadsFew (begun r)
begun_few begin few = (tt, tt)
begun_few (put edit place text) few =
    either_reads (ends_with_byte text 123) (line_ended (Some (record { edit = edit; place = place; opened = 1; text = Some text })) [])
    (line_ended None (put edit place text ∷ [])) tt (tt, tt)
begun_few (delete place) few = (tt, tt)
begun_few (show what) few = (tt, tt)
begun_few (ask request) few = (tt, tt)
begun_few deterministic few = (tt, tt)
begun_few (distance everywhere most) few = (few, tt)
begun_few (refuse r) few = (tt, tt)

alone_few : (line : Gathered) → ReadsFew (line_alone line)
alone_few None = (tt, tt)
alone_few (Some line) = either_reads (length (content_of line) == 0) (line_ended None []) (begun (request_of (content_of line))) tt (begun_few (request_of (content_of line)) (request_few (content_of line)))

ended_few : (g : Gathering) → ReadsFew (gathering_ended g)
ended_few g = (by_text g.text, tt)
  where
    by_text : (text : Gathered) → AsksFew (put_gathered g.edit g.place text)
    by_text None = tt
    by_text (Some text) = tt

after_few : (gathering : Option Gathering) (line : Gathered) → ReadsFew (line_after gathering line)
after_few None line = alone_few line
after_few (Some g) line = let more = gathered_with g line in either_reads (more.opened == 0) (gathering_ended more) (line_ended (Some more) []) (ended_few more) tt

line_few : (reader : ScriptReader) → ReadsFew (read_line reader)
unfolding read_line
line_few reader = after_few reader.gathering reader.line

read_few : (reader : ScriptReader) (bytes : List ℕ) → ReadsFew (read reader bytes)
unfolding read
read_few reader [] = tt
read_few reader (b ∷ bs) =
    few_append (read_byte reader b).requests (read (read_byte reader b).reader bs).requests
    (either_reads (b == 10) (read_line reader) _ (line_few reader) tt)
    (read_few (read_byte reader b).reader bs)

closed_few : (gathering : Option Gathering) (reader : ScriptReader) → ReadsFew (script_closed gathering reader)
closed_few None reader = tt
closed_few (Some g) reader = ended_few g

end_few : (reader : ScriptReader) → ReadsFew (read_end reader)
end_few reader =
    let last = read_last reader in
    few_append last.requests (script_closed last.reader.gathering last.reader).requests
    (either_reads (is_nothing reader.line) (silent reader) (read_line reader) tt (line_few reader))
    (closed_few last.reader.gathering last.reader)

-- so of a whole script
pub script_few : (script : List ℕ) → AllAskFew (requests_of script)
script_few script =
    let front = read empty_reader script in
    (tt, few_append front.requests (read_end front.reader).requests (read_few empty_reader script) (end_few front.reader))
