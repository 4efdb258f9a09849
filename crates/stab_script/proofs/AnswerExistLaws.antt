-- Laws of answers: on items that can be edited each request has one, which leaves such items; so have requests one after another.
use Rattle.stab_script.proofs.Names.{◌≡◌, ◌≤◌, ◌<◌, ◌^◌, ℕ, Bool, true, false, nat_lt, List, [], ◌∷◌, length, refl, sym, ap, ◌∙◌, subst, Option, Some, None, Result, Ok, Err, inl, inr, if◌then◌else◌, arith, slice_split, ltb-true, ltb-false, Refusal, TooDeep, QubitOutOfRange, LookbackTooFar, TooManySteps, BadCommand, Fault, TracesHaveReducedRows, is_byte, Items, OneItem, done, before, listed, entries, depth, Path, Edit, edited, list_verdict, split_list, looks_too_far, most_steps, named_qubits, qubits_of, check_of, check_within, unroll, item_fault, StandsForOne, IsCircuit, AreOfLines, AreAlike, PutsLines, TextsAreLines, ItemTextsAreLines, ItemTextsHaveOneMeaning, EditedItemsAreOfLines, SplitsLeaveTheSteps, SplitItemsAreOfLines, LinesKeepQubitsDistinct, listed-entries, State, run_of, IsSoundRun, RunsAreSound, check-fits, check-whole, DeterministicParities, CoinsHaveRows, CircuitsHaveDistances, DeterministicHasNoDecider, f01_bytes, printed, lines_of, Environment, Request, begin, put, delete, show, ask, deterministic, distance, refuse, Held, run_held, Answer, IsPut, Shows, IsDeterministicAnswer, IsDistanceAnswer, IsAnswer, IsAnswerToAll, options_asked, both, unless, verdict_on, decided, refusing, replying, edit_of, edited_items, counted_shown, held_split, held_after, shown_or_refused, counted_answer, reply_text, greeting, session_numbers, CountedRequest, bookmark, split, changed, changed_records, sign, item, counts, coin_table, why, way, CanBeEdited, ItemEdit, Insert, Replace, Show, Measurements, Free, Detectors, Observables, Stabilisers, Circuit}
use Rattle.stab_script.specs.CountedRequests.{numbers}
use Rattle.stab_items.specs.declared.edit.Edit.TheVariants as circuit_edit
use Rattle.stab_script.proofs.DistanceExistLaws.{distance_answered}
use Rattle.stab_script.proofs.ScriptNumberLaws.{AsksFew, AllAskFew}
use Rattle.stab_script.proofs.DeterministicBitLaws.{checked_on_own, deterministic_text}

-- the items of a circuit's text can be edited
pub circuit_can : TextsAreLines → (n : ℕ) (text : List ℕ) (items : Items) → IsCircuit text items → qubits_of items ≤ n → CanBeEdited n items
circuit_can lines n text items is le = ((slice_split (is_byte 10) text, lines text items is.0), by_test (nat_lt n (qubits_of items)) refl)
  where
    by_test : (b : Bool) → nat_lt n (qubits_of items) ≡ b → (if b then Some QubitOutOfRange else check_of items) ≡ None
    by_test false e = is.1
    by_test true e = let lt = ltb-true n (qubits_of items) e in absurd (omega arith)

-- a verdict that lets an edit pass
verdict_passed : (n : ℕ) (ys : List OneItem) → list_verdict n (Ok ys) ≡ None → (depth (listed ys) ≤ 16) × (check_within n (listed ys) ≡ None)
verdict_passed n ys e = by_test (nat_lt 16 (depth (listed ys))) refl e
  where
    by_test : (b : Bool) → nat_lt 16 (depth (listed ys)) ≡ b → (if b then Some TooDeep else check_within n (listed ys)) ≡ None
        → (depth (listed ys) ≤ 16) × (check_within n (listed ys) ≡ None)
    by_test true t v = absurd (cc)
    by_test false t v = ((let le = ltb-false 16 (depth (listed ys)) t in omega arith), v)

-- an edit that puts in an item of lines leaves items that can be edited, made or refused
pub edit_keeps : EditedItemsAreOfLines → (n : ℕ) (what : Edit) (preserved : Bool) (held : Held) → PutsLines what → CanBeEdited n held.items
    → CanBeEdited n (decided preserved held (edited_items n what held.items)).held.items
edit_keeps edits n what preserved held puts can = by_result (edited what (entries held.items)) refl
  where
    by_verdict : (list : List OneItem) → edited what (entries held.items) ≡ Ok list → (v : Option Refusal) → list_verdict n (Ok list) ≡ v
        → CanBeEdited n (decided preserved held (unless v (listed list))).held.items
    by_verdict list e (Some r) given = can
    by_verdict list e None given =
        let passed = verdict_passed n list given in
        (edits what (entries held.items) list (subst AreOfLines (sym (listed-entries held.items)) can.0) puts e passed.0, passed.1)

    by_result : (r : Result (List OneItem) Refusal) → edited what (entries held.items) ≡ r → CanBeEdited n (decided preserved held (verdict_on n r)).held.items
    by_result (Ok list) e = by_verdict list e (list_verdict n (Ok list)) refl
    by_result (Err r) e = can

-- the item of a text is of lines
pub puts_lines : ItemTextsAreLines → (text : List ℕ) (x : OneItem) → StandsForOne text x → (place : Path) (how : ItemEdit) → PutsLines (edit_of how place x)
puts_lines lines text x stands place Insert y e = let same : x ≡ y = cc in subst (λ z. AreOfLines (before z done)) same (slice_split (is_byte 10) text, lines text x stands)
puts_lines lines text x stands place Replace y e = let same : x ≡ y = cc in subst (λ z. AreOfLines (before z done)) same (slice_split (is_byte 10) text, lines text x stands)

pub puts_none : (place : Path) → PutsLines (circuit_edit.Delete place)
puts_none place y e = absurd (cc)

-- something is shown, whatever is asked for
text_shown : TracesHaveReducedRows → (n : ℕ) (coins : ℕ → Bool) (items : Items) → IsSoundRun n coins items → (what : Show)
    → (reply : List ℕ) × Shows n (run_of n coins items) items what reply
text_shown some n coins items sound Measurements = (f01_bytes (run_of n coins items).records, refl)
text_shown some n coins items sound Free = (f01_bytes (run_of n coins items).free, refl)
text_shown some n coins items sound Detectors = (f01_bytes (run_of n coins items).detectors, refl)
text_shown some n coins items sound Observables = (f01_bytes (run_of n coins items).observables, refl)
text_shown some n coins items sound Stabilisers =
    let rows = some n (run_of n coins items).trace sound.0 sound.1 in
    (lines_of rows.0, (rows.0, rows.1, refl))
text_shown some n coins items sound Circuit = (printed items, refl)

-- what refuses items refuses those that are like them
alike_check : (old new : Items) → AreAlike old new → check_of new ≡ check_of old
unfolding check_of
alike_check old new alike =
    ap (λ xs. if looks_too_far 0 xs then Some LookbackTooFar else if nat_lt most_steps (length xs) then Some TooManySteps else None) alike.steps

alike_within : (n : ℕ) (old new : Items) → AreAlike old new → check_within n new ≡ check_within n old
alike_within n old new alike =
    ap (λ q. if nat_lt n q then Some QubitOutOfRange else check_of new) (alike.named named_qubits)
    ∙ ap (λ v. if nat_lt n (qubits_of old) then Some QubitOutOfRange else v) (alike_check old new alike)

-- a split leaves items that can be edited, made or refused
split_keeps : SplitsLeaveTheSteps → SplitItemsAreOfLines → (n : ℕ) (held : Held) (path : Path) (round : ℕ) → CanBeEdited n held.items
    → CanBeEdited n (held_split held (split_list path round (entries held.items))).items
split_keeps steps lines n held path round can = by_result (split_list path round (entries held.items)) refl
  where
    by_result : (r : Result (List OneItem) Refusal) → split_list path round (entries held.items) ≡ r → CanBeEdited n (held_split held r).items
    by_result (Err r) e = can
    by_result (Ok list) e =
        let same : listed (entries held.items) ≡ held.items = listed-entries held.items in
        let alike : AreAlike held.items (listed list) = subst (λ (x : Items). AreAlike x (listed list)) same (steps path round (entries held.items) list e) in
        (lines path round (entries held.items) list (subst AreOfLines (sym same) can.0) e, alike_within n held.items (listed list) alike ∙ can.1)

-- what only a counted script asks for leaves items that can be edited
after_keeps : SplitsLeaveTheSteps → SplitItemsAreOfLines → (n : ℕ) (run : State) (held : Held) (r : CountedRequest) → CanBeEdited n held.items
    → CanBeEdited n (held_after run held r).items
after_keeps steps lines n run held bookmark can = can
after_keeps steps lines n run held (split place round) can = split_keeps steps lines n held place round can
after_keeps steps lines n run held numbers can = can
after_keeps steps lines n run held changed can = can
after_keeps steps lines n run held changed_records can = can
after_keeps steps lines n run held (sign word) can = can
after_keeps steps lines n run held (item path) can = can
after_keeps steps lines n run held (counts path) can = can
after_keeps steps lines n run held coin_table can = can
after_keeps steps lines n run held (why bit) can = can
after_keeps steps lines n run held (way at word) can = can

-- so does its answer
pub counted_keeps : SplitsLeaveTheSteps → SplitItemsAreOfLines → (preserved : Bool) (n : ℕ) (run : State) (held : Held) (r : CountedRequest) → CanBeEdited n held.items
    → CanBeEdited n (counted_answer preserved n run held r).held.items
counted_keeps steps lines false n run held r can = can
counted_keeps steps lines true n run held r can = by_shown (counted_shown n run held r)
  where
    by_shown : (shown : Result (List ℕ) Refusal) → CanBeEdited n (shown_or_refused true held (held_after run held r) shown).held.items
    by_shown (Ok text) = after_keeps steps lines n run held r can
    by_shown (Err e) = can

-- a request for the bits that are the same for all random bits has an answer
deterministic_answered : DeterministicParities → LinesKeepQubitsDistinct → (s : Environment) (held : Held) → CanBeEdited s.qubits held.items → (a : Answer) × IsDeterministicAnswer s.counted held a × CanBeEdited s.qubits a.held.items
deterministic_answered law distinct s held can = by_counted s.counted
  where
    by_counted : (counted : Bool) → (a : Answer) × IsDeterministicAnswer counted held a × CanBeEdited s.qubits a.held.items
    by_counted false = (refusing held BadCommand, refl, can)
    by_counted true = let reported = deterministic_text law distinct s.qubits held.items can.0 can.1 in (replying held (reply_text true reported.0), (reported.0, reported.1, refl), can)

-- so has a request for a distance
distance_asked : CoinsHaveRows → DeterministicHasNoDecider → CircuitsHaveDistances → LinesKeepQubitsDistinct → (s : Environment) (held : Held) (everywhere : Bool) (most : ℕ) → most < 10 ^ 18 → CanBeEdited s.qubits held.items
    → (a : Answer) × IsDistanceAnswer s.counted held (options_asked everywhere most) a × CanBeEdited s.qubits a.held.items
distance_asked rows none distances distinct s held everywhere most few can =
    let items = held.items in
    let own : check_within (qubits_of items) items ≡ None = checked_on_own (qubits_of items) items refl (check-whole s.qubits items can.1) in
    let fits = check-fits (qubits_of items) items (unroll items) own refl (distinct can.0.0 items can.0.1) in
    let found = distance_answered rows none distances s.counted everywhere most held fits (omega (arith, few)) in
    (found.0, found.1, subst (λ (h : Held). CanBeEdited s.qubits h.items) (sym found.2) can)

module _ (meanings : ItemTextsHaveOneMeaning) (lines : ItemTextsAreLines) (edits : EditedItemsAreOfLines) (steps : SplitsLeaveTheSteps)
    (split_lines : SplitItemsAreOfLines) (sound : RunsAreSound) (some : TracesHaveReducedRows) (parities : DeterministicParities) (rows : CoinsHaveRows) (none : DeterministicHasNoDecider) (distances : CircuitsHaveDistances)
    (distinct : LinesKeepQubitsDistinct) where
  -- an edit that puts in the item of a text has an answer
  put_answered : (s : Environment) (held : Held) (how : ItemEdit) (place : Path) (text : List ℕ) → CanBeEdited s.qubits held.items
      → (a : Answer) × IsPut s.counted held (λ item. edited_items s.qubits (edit_of how place item) held.items) text a × CanBeEdited s.qubits a.held.items
  put_answered s held how place text can = by_fault (item_fault text) refl
    where
      by_fault : (f : Option Fault) → item_fault text ≡ f
          → (a : Answer) × IsPut s.counted held (λ item. edited_items s.qubits (edit_of how place item) held.items) text a × CanBeEdited s.qubits a.held.items
      by_fault (Some f) e = (refusing held f.refusal, inl (f, e, refl), can)
      by_fault None e =
          let m = meanings text e in (
            decided s.counted held (edited_items s.qubits (edit_of how place m.0) held.items),
            inr (m.0, m.1.0, refl),
            edit_keeps edits s.qubits (edit_of how place m.0) s.counted held (puts_lines lines text m.0 m.1.0 place how) can,
          )

  -- a request has an answer
  request_answered : (s : Environment) (held : Held) (r : Request) → AsksFew r → CanBeEdited s.qubits held.items → (a : Answer) × IsAnswer s held r a × CanBeEdited s.qubits a.held.items
  request_answered s held begin few can = (replying held (greeting s.counted (session_numbers s.qubits (run_held s held) held.items)), refl, can)
  request_answered s held (put how place text) few can = put_answered s held how place text can
  request_answered s held (delete place) few can =
      (decided s.counted held (edited_items s.qubits (circuit_edit.Delete place) held.items), refl, edit_keeps edits s.qubits (circuit_edit.Delete place) s.counted held (puts_none place) can)
  request_answered s held (show what) few can =
      let shown = text_shown some s.qubits s.coins held.items (sound s.qubits s.coins can.0.0 held.items can.0.1 can.1) what in
      (replying held (reply_text s.counted shown.0), (shown.0, shown.1, refl), can)
  request_answered s held (ask r) few can =
      (counted_answer s.counted s.qubits (run_held s held) held r, refl, counted_keeps steps split_lines s.counted s.qubits (run_held s held) held r can)
  request_answered s held deterministic few can = deterministic_answered parities distinct s held can
  request_answered s held (distance everywhere most) few can = distance_asked rows none distances distinct s held everywhere most few can
  request_answered s held (refuse r) few can = (refusing held r, refl, can)

  -- requests, however many, have an answer
  pub all_answered : (s : Environment) (held : Held) (rs : List Request) → AllAskFew rs → CanBeEdited s.qubits held.items → (a : Answer) × IsAnswerToAll s held rs a × CanBeEdited s.qubits a.held.items
  all_answered s held [] few can = (replying held [], refl, can)
  all_answered s held (r ∷ rs) few can =
      let first = request_answered s held r few.0 can in
      let rest = all_answered s first.0.held rs few.1 first.2 in
      (both first.0 rest.0, (first.0, rest.0, first.1, rest.1, refl), rest.2)
