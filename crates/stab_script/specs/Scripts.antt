-- Scripts: what an edit script asks for, and what it is answered.
-- Source: this project's own.
use Rattle.std.specs.Prelude.{◌≡◌, ℕ, ◌+◌, ◌-◌, Bool, true, false, ◌||◌, ◌==◌, List, [], ◌∷◌, ◌++◌, length, codes, bytes_eq, Option, Some, None, Result, Ok, Err, if◌then◌else◌, ◌⊎◌}
use Rattle.stab_io.specs.declared.refusal.Refusal.{Refusal}
use Rattle.stab_io.specs.declared.refusal.Refusal.TheVariants.{BadCommand, TooLong, NotDeterministic}
use Rattle.stab_io.specs.declared.refusal.Fault.{Fault}
use Rattle.stab_tableau.specs.Traces.{member}
use Rattle.stab_instructions.specs.Lines.{content_of, ends_with_byte}
use Rattle.stab_instructions.specs.Meanings.{is_close}
use Rattle.stab_items.specs.Items.{Items, OneItem, done, before, listed, entries}
use Rattle.stab_items.specs.Paths.{Path}
use Rattle.stab_items.specs.declared.edit.Edit.{Edit}
use Rattle.stab_items.specs.declared.edit.Edit.TheVariants as circuit_edit
use Rattle.stab_items.specs.Edits.{edited, list_verdict}
use Rattle.stab_items.specs.Circuits.{most_bytes, item_fault, StandsForOne}
use Rattle.stab_items.specs.Prints.{printed}
use Rattle.stab_run.specs.Runs.{State, run_of}
use Rattle.stab_report.specs.Coins.{ShotBits, shot_bits_of}
use Rattle.stab_results.specs.Formats.{f01_bytes}
use Rattle.stab_report.specs.FaultLines.{refused_text}
use Rattle.stab_results.specs.declared.format.Format.TheVariants.{F01}
use Rattle.stab_report.specs.Rows.{IsStabilisersText}
use Rattle.stab_report.specs.Deterministic.{IsDeterministicText}
use Rattle.stab_report.specs.declared.random.Random.{Random}
use Rattle.stab_report.specs.SingleErrorTables.{IsFirstRandom}
use Rattle.stab_report.specs.Distances.{IsDistanceText}
use Rattle.stab_jobs.specs.declared.job.DistanceOptions.{DistanceOptions}
use Rattle.stab_jobs.specs.declared.job.ErrorLetters.TheVariants.{All}
use Rattle.stab_items.specs.ItemsAt.{item_at}
use Rattle.stab_items.specs.Splits.{split}
use Rattle.stab_script.specs.ScriptWords.{first_word, after_word, path_of_word, Gathered, more, is_nothing}
use Rattle.stab_script.specs.CountedRequests as counted_asks
use Rattle.stab_script.specs.CountedRequests.{CountedRequest, request_alone, bookmark, numbers, changed, changed_records, sign, round_number_of, counted_split, counted_show}
use Rattle.stab_script.specs.CountedReplies.{text_found, reply_text, made_text, greeting, session_numbers, numbers_line}
use Rattle.stab_script.specs.Changes.{no_bookmark, changed_text, changed_records_text}
use Rattle.stab_script.specs.ItemCounts.{counts_text}
use Rattle.stab_script.specs.CoinReplies.{coins_shown, why_shown}
use Rattle.stab_script.specs.Signs.{string_of_word, sign_in, sign_line}
use Rattle.stab_script.specs.Words.{put_in_of}
use Rattle.stab_script.specs.WayTexts.{way_text}
use Rattle.stab_script.specs.declared.request.ItemEdit.{ItemEdit}
use Rattle.stab_script.specs.declared.request.ItemEdit.TheVariants.{Insert, Replace}
use Rattle.stab_script.specs.declared.request.Show.{Show}
use Rattle.stab_script.specs.declared.request.Show.TheVariants.{Measurements, Free, Detectors, Observables, Stabilisers, Circuit}

-- what a script asks for: that it begins; that the item of a text is put in at a place, or that the item at a path is deleted, or that
-- something is shown; what only a counted script asks for, which may be the bits that are the same for all random bits, or the distance up to
-- this many errors; or nothing, if a line is refused
pub data Request : Type 0 where
  begin : Request
  put : ItemEdit → (place : Path) → (text : List ℕ) → Request
  delete : (place : Path) → Request
  show : Show → Request
  ask : CountedRequest → Request
  deterministic : Request
  distance : (everywhere : Bool) → (most : ℕ) → Request
  refuse : Refusal → Request

-- an edit that puts in an item, if there are a place and a text
abbrev pub put_at : ItemEdit → Option Path → (text : List ℕ) → Request
put_at edit None text = refuse BadCommand
put_at edit (Some place) text = if length text == 0 then refuse BadCommand else put edit place text

-- a deletion, if there are a place and nothing after it
abbrev pub delete_at : Option Path → (text : List ℕ) → Request
delete_at None text = refuse BadCommand
delete_at (Some place) text = if length text == 0 then delete place else refuse BadCommand

-- what only a counted script asks for, if it asks for anything
abbrev pub counted_of : Option CountedRequest → Request
counted_of None = refuse BadCommand
counted_of (Some request) = ask request

-- the distance up to a number of errors: where the circuit marks them, or everywhere
abbrev pub distance_of : Option ℕ → (rest : List ℕ) → Request
distance_of None rest = refuse BadCommand
distance_of (Some most) rest = if length rest == 0 then distance false most else if bytes_eq rest (codes "everywhere") then distance true most else refuse BadCommand

-- what only a counted script may be shown, by the first word after `show` and the rest after that
abbrev pub show_by : (word rest : List ℕ) → Request
show_by word rest = if bytes_eq word (codes "distance") then distance_of (round_number_of (first_word rest)) (after_word rest) else counted_of (counted_show word rest)

-- what the words after `show` ask for
abbrev pub show_of : List ℕ → Request
show_of word =
    if bytes_eq word (codes "measurements") then show Measurements
    else if bytes_eq word (codes "free") then show Free
    else if bytes_eq word (codes "detectors") then show Detectors
    else if bytes_eq word (codes "observables") then show Observables
    else if bytes_eq word (codes "stabilisers") then show Stabilisers
    else if bytes_eq word (codes "circuit") then show Circuit
    else if bytes_eq word (codes "deterministic") then deterministic
    else show_by (first_word word) (after_word word)

-- what a first word and the rest after it ask for
abbrev pub request_by : (word rest : List ℕ) → Request
request_by word rest =
    if bytes_eq word (codes "insert") then put_at Insert (path_of_word (first_word rest)) (after_word rest)
    else if bytes_eq word (codes "replace") then put_at Replace (path_of_word (first_word rest)) (after_word rest)
    else if bytes_eq word (codes "delete") then delete_at (path_of_word (first_word rest)) (after_word rest)
    else if bytes_eq word (codes "show") then show_of rest
    else if bytes_eq word (codes "mark") then counted_of (request_alone rest bookmark)
    else if bytes_eq word (codes "split") then counted_of (counted_split rest)
    else refuse BadCommand

-- what a content asks for that is not blank
unfoldable pub request_of : List ℕ → Request
request_of content = request_by (first_word content) (after_word content)

-- the most bytes of a line
abbrev pub most_line : ℕ
most_line = 65536

-- the most bytes of a script
abbrev pub most_script : ℕ
most_script = 67108864

-- an edit whose item's text is gathered: how many blocks are open, and the text so far
pub record Gathering : Type 0 where
  pub edit : ItemEdit
  pub place : Path
  pub opened : ℕ
  pub text : Gathered

-- what is known between two bytes of a script: what is gathered, if anything is, and the line so far
pub record ScriptReader : Type 0 where
  pub gathering : Option Gathering
  pub line : Gathered

-- the reader after some bytes, and what they asked for
pub record Reading : Type 0 where
  pub reader : ScriptReader
  pub requests : List Request

-- nothing was asked for
abbrev pub silent : ScriptReader → Reading
silent reader = record { reader = reader; requests = [] }

-- a line ended: this is gathered, and these are the requests
abbrev pub line_ended : Option Gathering → List Request → Reading
line_ended gathering requests = record { reader = record { gathering = gathering; line = Some [] }; requests = requests }

-- what an edit with a gathered text asks for
abbrev pub put_gathered : ItemEdit → (place : Path) → Gathered → Request
put_gathered edit place None = refuse TooLong
put_gathered edit place (Some text) = put edit place text

-- what is gathered ends
abbrev pub gathering_ended : Gathering → Reading
gathering_ended g = line_ended None (put_gathered g.edit g.place g.text ∷ [])

-- a request of a line of its own, or the begin of an item's text of several lines: one that ends in {
abbrev pub begun : Request → Reading
begun (put edit place text) =
    if ends_with_byte text 123 then line_ended (Some (record { edit = edit; place = place; opened = 1; text = Some text })) []
    else line_ended None (put edit place text ∷ [])
begun request = line_ended None (request ∷ [])

-- a line that is alone; a blank one asks for nothing
abbrev pub line_alone : Gathered → Reading
line_alone None = line_ended None (refuse TooLong ∷ [])
line_alone (Some line) = if length (content_of line) == 0 then line_ended None [] else begun (request_of (content_of line))

-- how many blocks are open after a content
abbrev pub opened_after : ℕ → List ℕ → ℕ
opened_after opened content = if is_close content then opened - 1 else if ends_with_byte content 123 then opened + 1 else opened

-- what is gathered with one more line after it; a line over its limit neither opens nor closes, and the text is over its limit
abbrev pub gathered_with : Gathering → Gathered → Gathering
gathered_with g None = record g { text = None }
gathered_with g (Some line) = record g { opened = opened_after g.opened (content_of line); text = more most_bytes (more most_bytes g.text (10 ∷ [])) (content_of line) }

-- what is gathered ends if its last block is closed
abbrev pub line_gathered : Gathering → Reading
line_gathered g = if g.opened == 0 then gathering_ended g else line_ended (Some g) []

-- a line, if this is gathered
abbrev pub line_after : Option Gathering → Gathered → Reading
line_after None line = line_alone line
line_after (Some g) line = line_gathered (gathered_with g line)

-- the line so far ends
unfoldable pub read_line : ScriptReader → Reading
read_line reader = line_after reader.gathering reader.line

-- a byte: LF ends the line, and any other is of it
abbrev pub read_byte : ScriptReader → ℕ → Reading
read_byte reader b = if b == 10 then read_line reader else silent (record reader { line = more most_line reader.line (b ∷ []) })

-- first one, then the other
abbrev pub then_read : Reading → (ScriptReader → Reading) → Reading
then_read first next = record { reader = (next first.reader).reader; requests = first.requests ++ (next first.reader).requests }

-- bytes, one after another
unfoldable pub read : ScriptReader → List ℕ → Reading
read reader [] = silent reader
read reader (b ∷ bs) = then_read (read_byte reader b) (λ after. read after bs)

-- a last line without LF is a line
abbrev pub read_last : ScriptReader → Reading
read_last reader = if is_nothing reader.line then silent reader else read_line reader

-- the end of a script ends what is gathered
abbrev pub script_closed : Option Gathering → ScriptReader → Reading
script_closed None reader = silent reader
script_closed (Some g) reader = gathering_ended g

-- the end of a script
abbrev pub read_end : ScriptReader → Reading
read_end reader = then_read (read_last reader) (λ after. script_closed after.gathering after)

-- the reader before a script
abbrev pub empty_reader : ScriptReader
empty_reader = record { gathering = None; line = Some [] }

-- what the first bytes of a script ask for: that it begins, and what is in them
abbrev pub requests_in : List ℕ → List Request
requests_in bytes = begin ∷ (read empty_reader bytes).requests

-- what a whole script asks for
abbrev pub requests_of : List ℕ → List Request
requests_of script = begin ∷ (then_read (read empty_reader script) read_end).requests

-- what requests are answered by: whether the script is counted, the number of qubits and the coins
pub record Environment : Type 0 where
  pub counted : Bool
  pub qubits : ℕ
  pub coins : ℕ → Bool

-- what requests change: the items, and the bits that changes are counted from
pub record Held : Type 0 where
  pub items : Items
  pub bookmark : ShotBits

-- the run of what is held
abbrev pub run_held : Environment → Held → State
run_held s held = run_of s.qubits s.coins held.items

-- the bookmark before a script, which only a counted one has
abbrev pub first_bookmark : (counted : Bool) → State → ShotBits
first_bookmark false run = no_bookmark
first_bookmark true run = shot_bits_of run

-- what is held before a script
abbrev pub held_at_first : Environment → Items → Held
held_at_first s items = record { items = items; bookmark = first_bookmark s.counted (run_of s.qubits s.coins items) }

-- the edit that puts an item in at a place
abbrev pub edit_of : ItemEdit → Path → OneItem → Edit
edit_of Insert place item = circuit_edit.Insert place item
edit_of Replace place item = circuit_edit.Replace place item

-- the items, unless something refuses them
abbrev pub unless : Option Refusal → Items → Result Items Refusal
unless None items = Ok items
unless (Some r) items = Err r

-- the items of an edited list on n qubits, or the verdict that refuses it
abbrev pub verdict_on : ℕ → Result (List OneItem) Refusal → Result Items Refusal
verdict_on n (Ok list) = unless (list_verdict n (Ok list)) (listed list)
verdict_on n (Err r) = Err r

-- what an edit makes of items on n qubits, or what refuses it
abbrev pub edited_items : ℕ → Edit → Items → Result Items Refusal
edited_items n e items = verdict_on n (edited e (entries items))

-- what a request is answered: what is held after it, the reply, and whether a line was refused
pub record Answer : Type 0 where
  pub held : Held
  pub reply : List ℕ
  pub refused : Bool

-- a reply that leaves what is held as it is
abbrev pub replying : Held → List ℕ → Answer
replying held reply = record { held = held; reply = reply; refused = false }

-- a refusal leaves what is held as it is
abbrev pub refusing : Held → Refusal → Answer
refusing held r = record { held = held; reply = refused_text r; refused = true }

-- an edit is made, or refused
abbrev pub decided : (counted : Bool) → Held → Result Items Refusal → Answer
decided counted held (Ok after) = record { held = record held { items = after }; reply = made_text counted; refused = false }
decided counted held (Err r) = refusing held r

-- the item's text has a fault, or it stands for an item, and the edit with that is made or refused
abbrev pub IsPut : (counted : Bool) → Held → (OneItem → Result Items Refusal) → (text : List ℕ) → Answer → Type 0
IsPut counted held after text a =
    ((fault : Fault) × (item_fault text ≡ Some fault) × (a ≡ refusing held fault.refusal))
    ⊎ ((item : OneItem) × StandsForOne text item × (a ≡ decided counted held (after item)))

-- what is shown of items and their run
abbrev pub Shows : ℕ → State → Items → Show → List ℕ → Type 0
Shows n run items Measurements text = text ≡ f01_bytes run.records
Shows n run items Free text = text ≡ f01_bytes run.free
Shows n run items Detectors text = text ≡ f01_bytes run.detectors
Shows n run items Observables text = text ≡ f01_bytes run.observables
Shows n run items Stabilisers text = IsStabilisersText n run text
Shows n run items Circuit text = text ≡ printed items

-- what only a counted script is shown of what is held and its run, or why not
abbrev pub counted_shown : ℕ → State → Held → CountedRequest → Result (List ℕ) Refusal
counted_shown n run held bookmark = Ok []
counted_shown n run held (counted_asks.split place round) = text_found (λ list. []) (split place round (entries held.items))
counted_shown n run held numbers = Ok (numbers_line (session_numbers n run held.items))
counted_shown n run held changed = Ok (changed_text held.bookmark run)
counted_shown n run held changed_records = Ok (changed_records_text held.bookmark run)
counted_shown n run held (sign word) = text_found (λ p. sign_line (sign_in (member run.trace) p)) (string_of_word n word)
counted_shown n run held (counted_asks.item path) = text_found (λ x. printed (before x done)) (item_at path (entries held.items))
counted_shown n run held (counted_asks.counts path) = text_found (λ x. counts_text path held.items) (item_at path (entries held.items))
counted_shown n run held counted_asks.coin_table = Ok (coins_shown held.items)
counted_shown n run held (counted_asks.why bit) = why_shown held.items bit
counted_shown n run held (counted_asks.way at word) = text_found (way_text held.items false) (put_in_of n held.items at word)

-- what is held with such a list, or as before if the split was refused
abbrev pub held_split : Held → Result (List OneItem) Refusal → Held
held_split held (Ok list) = record held { items = listed list }
held_split held (Err r) = held

-- what is held after it: `mark` and a split alone change that
abbrev pub held_after : State → Held → CountedRequest → Held
held_after run held bookmark = record held { bookmark = shot_bits_of run }
held_after run held (counted_asks.split place round) = held_split held (split place round (entries held.items))
held_after run held request = held

-- a text is shown, or refused
abbrev pub shown_or_refused : (counted : Bool) → (held following : Held) → Result (List ℕ) Refusal → Answer
shown_or_refused counted held following (Ok text) = record { held = following; reply = reply_text counted text; refused = false }
shown_or_refused counted held following (Err r) = refusing held r

-- the answer to what only a counted script may ask for
abbrev pub counted_answer : (counted : Bool) → ℕ → State → Held → CountedRequest → Answer
counted_answer false n run held request = refusing held BadCommand
counted_answer true n run held request = shown_or_refused true held (held_after run held request) (counted_shown n run held request)

-- the answer to what says which detectors and observables are the same for all random bits, as the command `deterministic` does: a counted
-- script is shown them, and no other
abbrev pub IsDeterministicAnswer : (counted : Bool) → Held → Answer → Type 0
IsDeterministicAnswer false held a = a ≡ refusing held BadCommand
IsDeterministicAnswer true held a = (text : List ℕ) × IsDeterministicText F01 held.items text × (a ≡ replying held (reply_text true text))

-- what a script asks about a distance: all errors, up to this many, if each bit is the same for all random bits
abbrev pub options_asked : (everywhere : Bool) → (most : ℕ) → DistanceOptions
options_asked everywhere most = record { everywhere = everywhere; letters = All; graphlike = false; observable = None; most = Some most; deterministic_only = false; progress = false }

-- the answer to what asks for a distance, as the command `distance` does: a counted script is shown it, or refused for a bit that is not the
-- same for all random bits
abbrev pub IsDistanceAnswer : (counted : Bool) → Held → DistanceOptions → Answer → Type 0
IsDistanceAnswer false held options a = a ≡ refusing held BadCommand
IsDistanceAnswer true held options a =
    ((text : List ℕ) × IsDistanceText options held.items text × (a ≡ replying held (reply_text true text)))
    ⊎ ((u : Random) × IsFirstRandom held.items u × (a ≡ refusing held NotDeterministic))

-- the answer to a request of a script that is not counted, if this is held: nothing is said before it, and what only a counted one may ask for
-- is refused
abbrev pub IsPlainAnswer : Environment → Held → Request → Answer → Type 0
IsPlainAnswer s held begin a = a ≡ replying held []
IsPlainAnswer s held (put how place text) a = IsPut s.counted held (λ item. edited_items s.qubits (edit_of how place item) held.items) text a
IsPlainAnswer s held (delete place) a = a ≡ decided s.counted held (edited_items s.qubits (circuit_edit.Delete place) held.items)
IsPlainAnswer s held (show what) a = (text : List ℕ) × Shows s.qubits (run_held s held) held.items what text × (a ≡ replying held (reply_text s.counted text))
IsPlainAnswer s held (refuse r) a = a ≡ refusing held r
IsPlainAnswer s held request a = a ≡ refusing held BadCommand

-- the answer to a request of either kind of script: a counted one is greeted, and may ask for more
abbrev pub IsAnswer : Environment → Held → Request → Answer → Type 0
IsAnswer s held begin a = a ≡ replying held (greeting s.counted (session_numbers s.qubits (run_held s held) held.items))
IsAnswer s held (ask request) a = a ≡ counted_answer s.counted s.qubits (run_held s held) held request
IsAnswer s held deterministic a = IsDeterministicAnswer s.counted held a
IsAnswer s held (distance everywhere most) a = IsDistanceAnswer s.counted held (options_asked everywhere most) a
IsAnswer s held request a = IsPlainAnswer s held request a

-- first one answer, then the other
abbrev pub both : Answer → Answer → Answer
both first second = record { held = second.held; reply = first.reply ++ second.reply; refused = first.refused || second.refused }

-- the answer to requests, one after another, of which each is answered so
abbrev pub AreAnswers : (Held → Request → Answer → Type 0) → Held → List Request → Answer → Type 0
AreAnswers answers held [] a = a ≡ replying held []
AreAnswers answers held (r ∷ rs) a = (first rest : Answer) × answers held r first × AreAnswers answers first.held rs rest × (a ≡ both first rest)

-- the answer to requests of either kind of script
abbrev pub IsAnswerToAll : Environment → Held → List Request → Answer → Type 0
IsAnswerToAll s held requests a = AreAnswers (IsAnswer s) held requests a

-- the answer to a whole script, if these are the items at first
abbrev pub IsAnswerToScript : Environment → Items → (script : List ℕ) → Answer → Type 0
IsAnswerToScript s items script a = IsAnswerToAll s (held_at_first s items) (requests_of script) a
