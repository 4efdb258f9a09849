-- Lines that put items after others if no block is open, and the runs and stretches of them.
use Rattle.stab_circuit.proofs.Names.{◌≡◌, refl, ap, sym, ◌∙◌, subst, ℕ, ◌+◌, ◌-◌, List, [], ◌∷◌, ◌++◌, All, Bool, true, false, nat_lt, length, take, drop, map, Option, Some, None, MatchOption, Ok, Err, if◌then◌else◌, ◌⊎◌, inl, inr, arith, append_assoc, slice_split, map-append, take-append-le, take_all, All-weaker, All-push, TooDeep, Blank, Close, Open, is_byte, content_of, pieces_after, meaning_of, StoredBlock, Stretch, Run, Items, OneItem, done, next, block, join, listed, depth, Meaning, line_meanings, IsCut, Progress, stored_progress, stepped, read_on, meaning_at, IsShallowProgress, read_outside, ReadsAhead, items_of, IsLineStretch, KeepsStretches, IsRunOf, IsLineRun, IsEnded, RunsOn, reading_on, join_done, join_assoc, listed-append, depth-join, no_length}
use Rattle.std.proofs.Common.{length-append}
use Rattle.stab_instructions.specs.declared.operation.Line.TheVariants as line
use Rattle.stab_circuit.proofs.FirstLineLemmas.{split_cut, one_line_first}
use Rattle.stab_circuit.proofs.LinePieceLemmas.{cut_pieces, ran_more}

-- no line, and lines after others
pub reads_none : ReadsAhead [] done
reads_none = record {
  on = λ n now ms. λ i. read_on (none n i) (read_outside (sym (join_done now) i)) ms;
  flat = refl;
}
  where
    none : (n : ℕ) → n ≡ n + 0
    none n = omega arith

pub reads_more : (ls ms : List (List ℕ)) (xs ys : Items) → ReadsAhead ls xs → ReadsAhead ms ys → ReadsAhead (ls ++ ms) (join xs ys)
reads_more ls ms xs ys a b = record {
  on = λ n now rs.
      ap (read_on n (read_outside now)) (meant rs)
      ∙ a.on n now (line_meanings ms ++ rs)
      ∙ b.on (n + length ls) (join now xs) rs
      ∙ (λ i. read_on (count n i) (read_outside (join_assoc now xs ys i)) rs);
  flat = omega (arith, depth-join xs ys, a.flat, b.flat);
}
  where
    meant : (rs : List Meaning) → line_meanings (ls ++ ms) ++ rs ≡ line_meanings ls ++ (line_meanings ms ++ rs)
    meant rs =
        ap (λ l. map meaning_of l ++ rs) (map-append content_of ls ms)
        ∙ ap (λ l. l ++ rs) (map-append meaning_of (map content_of ls) (map content_of ms))
        ∙ append_assoc (line_meanings ls) (line_meanings ms) rs

    count : (n : ℕ) → (n + length ls) + length ms ≡ n + length (ls ++ ms)
    count n = omega (arith, length-append ls ms)

-- what one line does that leaves no block open
abbrev Puts : List ℕ → Items → Progress → Type 0
Puts l now t = (ys : Items) × ReadsAhead (l ∷ []) ys × (t ≡ read_outside (join now ys))

not_opened : (b : Bool) (s : Progress) (t : Progress) (l : List ℕ) (now : Items) → (if b then Ok s else Err TooDeep) ≡ Ok t → length s.open_blocks ≡ 1 → length t.open_blocks ≡ 0 → Puts l now t
not_opened true s t l now e one none = let same : s ≡ t = cc in absurd (omega (arith, one, none, ap (λ p. length p.open_blocks) same))
not_opened false s t l now e one none = cc

line_puts : (n : ℕ) (l : List ℕ) (now : Items) (t : Progress) → stepped n (meaning_of (content_of l)) (read_outside now) ≡ Ok t → length t.open_blocks ≡ 0 → Puts l now t
line_puts n l now t e none = by_meaning (meaning_of (content_of l)) refl e
  where
    by_meaning : (m : Meaning) → meaning_of (content_of l) ≡ m → stepped n m (read_outside now) ≡ Ok t → Puts l now t
    by_meaning (Err r) q e = cc
    by_meaning (Ok Close) q e = cc
    by_meaning (Ok (Open c tag)) q e = not_opened (nat_lt 0 16) (record { open_blocks = record { line = n; count = c; tag = tag; before = now } ∷ []; now = done }) t l now e refl none
    by_meaning (Ok Blank) q e =
        let same : read_outside now ≡ t = cc in (
          done,
          record {
            on = λ k at ms. ap (λ w. read_on k (read_outside at) (w ∷ ms)) q ∙ ap (λ x. read_on (k + 1) (read_outside x) ms) (sym (join_done at));
            flat = refl;
          },
          sym same ∙ ap read_outside (sym (join_done now)),
        )
    by_meaning (Ok (line.Operation op)) q e =
        let same : read_outside (join now (next op done)) ≡ t = cc in
        (next op done, record { on = λ k at ms. ap (λ w. read_on k (read_outside at) (w ∷ ms)) q; flat = refl }, sym same)

-- what is stored if no block is open
pub stored_outside : (xs : List OneItem) (fs : List StoredBlock) (ys : List OneItem) → length fs ≡ 0 → stored_progress xs fs ys ≡ read_outside (join (listed xs) (listed ys))
stored_outside xs [] ys none = ap read_outside (listed-append xs ys)
stored_outside xs (f ∷ fs) ys none = absurd (omega (arith, none))

pub stored_now : (xs : List OneItem) (fs : List StoredBlock) (ys : List OneItem) → length fs ≡ 0 → stored_progress xs fs ys ≡ read_outside (stored_progress xs fs ys).now
stored_now xs fs ys none = stored_outside xs fs ys none ∙ ap (λ p. read_outside p.now) (sym (stored_outside xs fs ys none))

pub stored_nothing : (xs : List OneItem) (fs : List StoredBlock) (ys : List OneItem) → length fs ≡ 0 → ys ≡ [] → stored_progress xs fs ys ≡ read_outside (listed xs)
stored_nothing xs fs ys none empty = stored_outside xs fs ys none ∙ ap (λ l. read_outside (join (listed xs) (listed l))) empty ∙ ap read_outside (join_done (listed xs))

-- a run begins, and goes on
pub run_begins : (xs : List OneItem) (fs : List StoredBlock) (ys : List OneItem) (n : ℕ) (text : List ℕ) (run : Run) → length fs ≡ 0 → length ys ≡ 0 → run.front.now ≡ text → run.from ≡ n
    → IsRunOf xs (stored_progress xs fs ys) n text run
run_begins xs fs ys n text run none empty front from = record {
  lines = [];
  items = done;
  ran = front;
  count = omega (arith, from);
  reads = reads_none;
  read = stored_nothing xs fs ys none (no_length ys empty) ∙ ap read_outside (sym (join_done (listed xs)));
}

run_goes_on : (xs : List OneItem) (s t : Progress) (n : ℕ) (text rest first : List ℕ) (run : Run) → IsRunOf xs s n text run → slice_split (is_byte 10) text ≡ first ∷ slice_split (is_byte 10) rest
    → stepped n (meaning_of (content_of first)) s ≡ Ok t → length t.open_blocks ≡ 0 → IsRunOf xs t (n + 1) rest run
run_goes_on xs s t n text rest first run r split e none =
    let put = line_puts n first (join (listed xs) r.items) t (ap (stepped n (meaning_of (content_of first))) (sym r.read) ∙ e) none in
    record {
      lines = r.lines ++ first ∷ [];
      items = join r.items put.0;
      ran = ran_more run.front.now r.lines text first rest r.ran (split_cut text first (Some rest) split) (one_line_first text first (slice_split (is_byte 10) rest) split);
      count = omega (arith, r.count, length-append r.lines (first ∷ []));
      reads = reads_more r.lines (first ∷ []) r.items put.0 r.reads put.1;
      read = put.2 ∙ ap read_outside (join_assoc (listed xs) r.items put.0);
    }

pub no_run : (xs : List OneItem) (s : Progress) (n : ℕ) (after : Option (List ℕ)) (run : Option Run) → run ≡ None → RunsOn xs s n after run
no_run xs s n None run e = tt
no_run xs s n (Some rest) run e = subst (IsLineRun xs s n rest) (sym e) tt

pub runs_on : (xs : List OneItem) (s : Progress) (n : ℕ) (text first : List ℕ) (after : Option (List ℕ)) (old new : Option Run) (single : Bool) (fs : List StoredBlock) (ys : List OneItem)
    → IsLineRun xs s n text old → slice_split (is_byte 10) text ≡ first ∷ pieces_after 10 after → stepped n (meaning_at single s (content_of first)) s ≡ Ok (stored_progress xs fs ys)
    → (new ≡ None) ⊎ ((new ≡ old) × (single ≡ false) × (length fs ≡ 0)) → RunsOn xs (stored_progress xs fs ys) (n + 1) after new
runs_on xs s n text first after old new single fs ys r split e (inl none) = no_run xs (stored_progress xs fs ys) (n + 1) after new none
runs_on xs s n text first None old new single fs ys r split e (inr k) = tt
runs_on xs s n text first (Some rest) old new single fs ys r split e (inr k) =
    let t = stored_progress xs fs ys in
    let none : length t.open_blocks ≡ 0 = ap (λ p. length p.open_blocks) (stored_outside xs fs ys k.2) in
    let taken : stepped n (meaning_of (content_of first)) s ≡ Ok t = ap (λ b. stepped n (meaning_at b s (content_of first)) s) (sym k.1) ∙ e in
    subst (IsLineRun xs t (n + 1) rest) (sym k.0) (goes_on t none taken old r)
  where
    goes_on : (t : Progress) → length t.open_blocks ≡ 0 → stepped n (meaning_of (content_of first)) s ≡ Ok t → (run : Option Run) → IsLineRun xs s n text run → IsLineRun xs t (n + 1) rest run
    goes_on t none taken None r = tt
    goes_on t none taken (Some run) r = run_goes_on xs s t n text rest first run r split taken none

-- the items of a run are put after the first
join_cancel : (a x y : Items) → join a x ≡ join a y → x ≡ y
join_cancel done x y e = e
join_cancel (next op rest) x y e = let same : join rest x ≡ join rest y = cc in join_cancel rest x y same
join_cancel (block c t body rest) x y e = let same : join rest x ≡ join rest y = cc in join_cancel rest x y same

drop_first : (xs ys : List OneItem) → drop (length xs) (xs ++ ys) ≡ ys
drop_first [] ys = refl
drop_first (x ∷ xs) ys = drop_first xs ys

run_ends_of : (xs all : List OneItem) (fs : List StoredBlock) (ys : List OneItem) (first n : ℕ) (rest : List ℕ) (run : Run) → length fs ≡ 0 → first ≡ length xs → all ≡ xs ++ ys
    → IsRunOf xs (stored_progress xs fs ys) n rest run → IsEnded all first n rest run
run_ends_of xs all fs ys first n rest run none at same r =
    let items : r.items ≡ listed ys = sym (join_cancel (listed xs) (listed ys) r.items (ap (λ p. p.now) (sym (stored_outside xs fs ys none) ∙ r.read))) in
    let stored : ys ≡ drop first all = sym ((λ i. drop (at i) (same i)) ∙ drop_first xs ys) in
    record {
      within = omega (arith, at, ap length same, length-append xs ys);
      lines = r.lines;
      ran = r.ran;
      count = r.count;
      reads = subst (ReadsAhead r.lines) (items ∙ ap listed stored) r.reads;
    }

pub run_ends : (xs all : List OneItem) (fs : List StoredBlock) (ys : List OneItem) (first n : ℕ) (rest : List ℕ) (run : Option Run) → length fs ≡ 0 → first ≡ length xs → all ≡ xs ++ ys
    → IsLineRun xs (stored_progress xs fs ys) n rest run → MatchOption run (Unit {0}) (IsEnded all first n rest)
run_ends xs all fs ys first n rest None none at same r = tt
run_ends xs all fs ys first n rest (Some run) none at same r = run_ends_of xs all fs ys first n rest run none at same r

-- it is a stretch then
items_after : (xs : List OneItem) (s : Stretch) (first : ℕ) → s.first ≡ first → s.following ≡ length xs → items_of s xs ≡ drop first xs
items_after xs s first at end = (λ i. drop (at i) (take (end i) xs)) ∙ ap (drop first) (take_all (length xs) xs (omega arith))

-- more items
pub more_keeps : (xs all ys : List OneItem) → all ≡ xs ++ ys → KeepsStretches xs all
more_keeps xs all ys same s k =
    subst (λ l. IsLineStretch l s) (sym same)
    (record {
      order = k.order;
      within = omega (arith, length-append xs ys, k.within);
      count = k.count;
      reads = subst (λ l. ReadsAhead (slice_split (is_byte 10) s.bytes.now) (listed (drop s.first l))) (sym (take-append-le s.following xs ys k.within)) k.reads;
    })

pub keeps_all : (xs all : List OneItem) (ss ts : List Stretch) → ts ≡ ss → KeepsStretches xs all → All (IsLineStretch xs) ss → All (IsLineStretch all) ts
keeps_all xs all ss ts same keeps each = subst (All (IsLineStretch all)) (sym same) (All-weaker (IsLineStretch xs) (IsLineStretch all) keeps ss each)

pub one_more : (xs : List OneItem) (ss ts : List Stretch) (s : Stretch) → ts ≡ ss ++ s ∷ [] → All (IsLineStretch xs) ss → IsLineStretch xs s → All (IsLineStretch xs) ts
one_more xs ss ts s same each one = subst (All (IsLineStretch xs)) (sym same) (All-push (IsLineStretch xs) ss s each one)

-- copies of the items of a stretch
pub copy_stretch : (xs all : List OneItem) (s t : Stretch) → IsLineStretch xs s → all ≡ xs ++ items_of s xs → t.bytes.now ≡ s.bytes.now → t.lines ≡ s.lines → t.first ≡ length xs → t.following ≡ length all → IsLineStretch all t
copy_stretch xs all s t k same bytes lines at end =
    let there : items_of s xs ≡ items_of t all = sym (items_after all t (length xs) at end ∙ ap (drop (length xs)) same ∙ drop_first xs (items_of s xs)) in
    record {
      order = omega (arith, at, end, ap length same, length-append xs (items_of s xs));
      within = omega (arith, end);
      count = ap (λ l. length (slice_split (is_byte 10) l)) bytes ∙ k.count ∙ sym lines;
      reads = subst (λ l. ReadsAhead (slice_split (is_byte 10) t.bytes.now) (listed l)) there (subst (λ l. ReadsAhead (slice_split (is_byte 10) l) (listed (items_of s xs))) (sym bytes) k.reads);
    }

pub copy_put : (xs all d : List OneItem) (fs : List StoredBlock) (ys : List OneItem) → length fs ≡ 0 → ys ≡ [] → all ≡ xs ++ d → stored_progress all fs ys ≡ read_outside (join (stored_progress xs fs ys).now (listed d))
copy_put xs all d fs ys none empty same =
    stored_nothing all fs ys none empty
    ∙ ap (λ l. read_outside (listed l)) same
    ∙ ap read_outside (listed-append xs d)
    ∙ ap (λ p. read_outside (join p.now (listed d))) (sym (stored_nothing xs fs ys none empty))

-- the lines of a stretch are read at once
pub stretch_read : (xs : List OneItem) (s : Stretch) (n : ℕ) (text : List ℕ) (after : Option (List ℕ)) (now : Items) → IsLineStretch xs s → IsCut text s.bytes.now after
    → reading_on false n (read_outside now) (Some text) ≡ reading_on false (n + s.lines) (read_outside (join now (listed (items_of s xs)))) after
stretch_read xs s n text after now k cut =
    let pieces = slice_split (is_byte 10) s.bytes.now in
    let more = pieces_after 10 after in
    ap (λ l. read_on n (read_outside now) (map meaning_of (map content_of l))) (cut_pieces text s.bytes.now after cut)
    ∙ ap (λ l. read_on n (read_outside now) (map meaning_of l)) (map-append content_of pieces more)
    ∙ ap (read_on n (read_outside now)) (map-append meaning_of (map content_of pieces) (map content_of more))
    ∙ k.reads.on n now (map meaning_of (map content_of more))
    ∙ ap (λ m. read_on (n + m) (read_outside (join now (listed (items_of s xs)))) (map meaning_of (map content_of more))) k.count

pub stretch_shallow : (xs : List OneItem) (s : Stretch) (p t : Progress) (d : List OneItem) → IsLineStretch xs s → d ≡ items_of s xs → IsShallowProgress p → t ≡ read_outside (join p.now (listed d)) → IsShallowProgress t
stretch_shallow xs s p t d k same h e =
    let flat : depth (listed d) ≡ 0 = ap (λ l. depth (listed l)) same ∙ k.reads.flat in
    subst IsShallowProgress (sym e) (record { now = omega (arith, flat, h.now, depth-join p.now (listed d)); before = tt })
