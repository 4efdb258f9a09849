-- Laws of sending: bytes that calls write one after another, and that are flushed after them.
use Rattle.stab_report.proofs.Names.{◌≡◌, refl, sym, ap, ap₂, subst, ◌∙◌, ℕ, ◌+◌, ◌-◌, ◌<◌, ◌≤◌, zero, suc, List, [], ◌++◌, append_assoc, Result, Ok, Err, ◌⊎◌, inl, inr, arith, add-one, IsErrAnd, OutputView, Took, CutOff, WritesAllOrFault, took_more, took_and_failed, failed_within, OutOfMemory, Fault, whole, FlushesOrFault, Sends, SendsUnflushed, texts_from}
use Rattle.std.proofs.lemmas.List.{append-nil}
use Rattle.stab_report.proofs.WritingLaws.{took_some_none, left_after}

-- sums in another order
add-zero : (n : ℕ) → n + 0 ≡ n
add-zero n = grind arith

next : (n m : ℕ) → n + suc m ≡ suc (n + m)
next n m = grind arith

regroup : (first n m : ℕ) → (first + n) + m ≡ first + (n + m)
regroup first n m = grind arith

-- a number below the next is this one or before it
last_or_before : (n m : ℕ) → n < suc m → (n ≡ m) ⊎ (n < m)
last_or_before n m h = grind arith

-- the shots that follow one and those before it
abbrev pub FollowsShot : (ℕ → List ℕ) → (first shot shots : ℕ) → Type 0
FollowsShot bytes_of first shot shots = (rest : List ℕ) × (texts_from bytes_of first shots ≡ (texts_from bytes_of first shot ++ bytes_of (first + shot)) ++ rest)

shot_follows : (bytes_of : ℕ → List ℕ) (first shot shots : ℕ) → (shot ≡ shots) ⊎ FollowsShot bytes_of first shot shots → FollowsShot bytes_of first shot (suc shots)
shot_follows bytes_of first shot shots (inl e) = ([], ap (λ n. texts_from bytes_of first n ++ bytes_of (first + n)) (sym e) ∙ sym (append-nil _))
shot_follows bytes_of first shot shots (inr found) = (
  found.0 ++ bytes_of (first + shots),
  ap (λ l. l ++ bytes_of (first + shots)) found.1 ∙ append_assoc (texts_from bytes_of first shot ++ bytes_of (first + shot)) found.0 (bytes_of (first + shots)),
)

pub more_shots : (bytes_of : ℕ → List ℕ) (first shot shots : ℕ) → shot < shots → FollowsShot bytes_of first shot shots
more_shots bytes_of first shot zero h = absurd (omega arith)
more_shots bytes_of first shot (suc shots) h = shot_follows bytes_of first shot shots (found (λ less. more_shots bytes_of first shot shots less) (last_or_before shot shots h))
  where
    found : (shot < shots → FollowsShot bytes_of first shot shots) → (shot ≡ shots) ⊎ (shot < shots) → (shot ≡ shots) ⊎ FollowsShot bytes_of first shot shots
    found before (inl e) = inl e
    found before (inr less) = inr (before less)

-- Parts are joined to the whole.
pub parts_join : (bytes_of : ℕ → List ℕ) (first n m : ℕ) → texts_from bytes_of first n ++ texts_from bytes_of (first + n) m ≡ texts_from bytes_of first (n + m)
parts_join bytes_of first n zero = append-nil _ ∙ ap (texts_from bytes_of first) (sym (add-zero n))
parts_join bytes_of first n (suc m) =
    let before = texts_from bytes_of first n in
    let whole : (before ++ texts_from bytes_of (first + n) m) ++ bytes_of ((first + n) + m) ≡ texts_from bytes_of first (n + m) ++ bytes_of (first + (n + m)) =
    ap₂ (λ sent shot. sent ++ bytes_of shot) (parts_join bytes_of first n m) (regroup first n m) in
    sym (append_assoc before (texts_from bytes_of (first + n) m) (bytes_of ((first + n) + m))) ∙ (whole ∙ ap (texts_from bytes_of first) (sym (next n m)))

-- memory was refused before anything was written
pub sends_none : (old : OutputView) (bytes : List ℕ) (r : Result (Unit {0}) Fault) → IsErrAnd r (λ f. f ≡ whole OutOfMemory) → SendsUnflushed bytes old old r
sends_none old bytes (Ok u) is = absurd is
sends_none old bytes (Err f) is = inr (is, took_some_none old bytes)

-- one shot more was sent
pub sent_shot : {old mid new : OutputView} (bytes_of : ℕ → List ℕ) (first shot : ℕ) → Took old mid (texts_from bytes_of first shot) → Took mid new (bytes_of (first + shot))
    → Took old new (texts_from bytes_of first (shot + 1))
sent_shot bytes_of first shot before call = rw add-one (took_more (texts_from bytes_of first shot) (bytes_of (first + shot)) before call)

-- the position where the back of a text is cut off, within the whole
cut_position : (xs ys rest front back : List ℕ) → ys ≡ front ++ back → (xs ++ ys) ++ rest ≡ (xs ++ front) ++ (back ++ rest)
cut_position xs ys rest front back e = ap (λ l. (xs ++ l) ++ rest) e ∙ ap (λ l. l ++ rest) (sym (append_assoc xs front back)) ∙ append_assoc (xs ++ front) back rest

-- what is cut off after some text, and before the rest, is cut off
pub cut_off_after : {old mid new : OutputView} (xs ys rest : List ℕ) (f : Fault) → Took old mid xs → CutOff mid new ys f → CutOff old new ((xs ++ ys) ++ rest) f
cut_off_after xs ys rest f before (inl failed) = inl (failed.0, failed_within (xs ++ ys) rest (took_and_failed xs ys before failed.1))
cut_off_after xs ys rest f before (inr (memory, some)) = inr (memory, (xs ++ some.0, some.1 ++ rest, cut_position xs ys rest some.0 some.1 some.2, took_more xs some.0 before some.3))

-- a shot that is cut off cuts off the shots
pub shots_cut_off : {old mid new : OutputView} (bytes_of : ℕ → List ℕ) (first shot shots : ℕ) (f : Fault) → shot < shots
    → Took old mid (texts_from bytes_of first shot) → CutOff mid new (bytes_of (first + shot)) f → CutOff old new (texts_from bytes_of first shots) f
shots_cut_off {old} {mid} {new} bytes_of first shot shots f less before call =
    let more = more_shots bytes_of first shot shots less in
    let sent = texts_from bytes_of first shot in
    let cut : CutOff old new ((sent ++ bytes_of (first + shot)) ++ more.0) f = cut_off_after sent (bytes_of (first + shot)) more.0 f before call in
    subst (λ l. CutOff old new l f) (sym more.1) cut

-- a shot that fails ends the shots
pub shots_break_off : {old mid new : OutputView} (bytes_of : ℕ → List ℕ) (first shot shots : ℕ) (f : Fault) (r : Result (Unit {0}) Fault) → shot < shots
    → Took old mid (texts_from bytes_of first shot) → CutOff mid new (bytes_of (first + shot)) f → IsErrAnd r (λ y. y ≡ f) → SendsUnflushed (texts_from bytes_of first shots) old new r
shots_break_off bytes_of first shot shots f (Ok u) less before call is = absurd is
shots_break_off {old} {mid} {new} bytes_of first shot shots f (Err y) less before call is =
    subst (λ g. CutOff old new (texts_from bytes_of first shots) g) (sym is) (shots_cut_off bytes_of first shot shots f less before call)

-- a text that was cut off has these bytes
pub cut_off_as : {old new : OutputView} (text bytes : List ℕ) (f : Fault) → text ≡ bytes → WritesAllOrFault {T = Unit {0}} old new text (Err f) → CutOff old new bytes f
cut_off_as {old} {new} text bytes f same writes = subst (λ l. CutOff old new l f) same (inl writes)

-- memory was refused before more was written
pub cut_off_here : (old : OutputView) (bytes : List ℕ) → CutOff old old bytes (whole OutOfMemory)
cut_off_here old bytes = inr (refl, took_some_none old bytes)

-- one batch more was sent
pub sent_batch : {old mid new : OutputView} (bytes_of : ℕ → List ℕ) (first n m : ℕ) → Took old mid (texts_from bytes_of first n) → Took mid new (texts_from bytes_of (first + n) m)
    → Took old new (texts_from bytes_of first (n + m))
sent_batch {old} {mid} {new} bytes_of first n m before call = subst (λ l. Took old new l) (parts_join bytes_of first n m) (took_more (texts_from bytes_of first n) (texts_from bytes_of (first + n) m) before call)

-- a part and what it lacks are the whole
part_and_rest : (a b : ℕ) → a ≤ b → a + (b - a) ≡ b
part_and_rest a b h = omega arith

-- a batch that fails ends the shots
pub batches_break_off : {old mid new : OutputView} (bytes_of : ℕ → List ℕ) (first n m shots : ℕ) (f : Fault) (r : Result (Unit {0}) Fault) → n + m ≤ shots
    → Took old mid (texts_from bytes_of first n) → CutOff mid new (texts_from bytes_of (first + n) m) f → IsErrAnd r (λ y. y ≡ f) → SendsUnflushed (texts_from bytes_of first shots) old new r
batches_break_off bytes_of first n m shots f (Ok u) within before call is = absurd is
batches_break_off {old} {mid} {new} bytes_of first n m shots f (Err y) within before call is =
    let rest = texts_from bytes_of (first + (n + m)) (shots - (n + m)) in
    let whole : (texts_from bytes_of first n ++ texts_from bytes_of (first + n) m) ++ rest ≡ texts_from bytes_of first shots =
    ap (λ l. l ++ rest) (parts_join bytes_of first n m) ∙ parts_join bytes_of first (n + m) (shots - (n + m)) ∙ ap (texts_from bytes_of first) (part_and_rest (n + m) shots within) in
    let cut = cut_off_after (texts_from bytes_of first n) (texts_from bytes_of (first + n) m) rest f before call in
    subst (λ g. CutOff old new (texts_from bytes_of first shots) g) (sym is) (subst (λ l. CutOff old new l f) whole cut)

-- what is cut off is sent in part
cut_off_sends : (bytes : List ℕ) (old new : OutputView) (f : Fault) → CutOff old new bytes f → Sends {T = Unit {0}} bytes old new (Err f)
cut_off_sends bytes old new f (inl failed) = inl (failed.0, inl failed.1)
cut_off_sends bytes old new f (inr some) = inr some

-- the same, if the fault is passed on
pub sends_cut_off : (bytes : List ℕ) (old new : OutputView) (f : Fault) (r : Result (Unit {0}) Fault) → CutOff old new bytes f → IsErrAnd r (λ y. y ≡ f) → Sends bytes old new r
sends_cut_off bytes old new f (Ok u) cut is = absurd is
sends_cut_off bytes old new f (Err y) cut is = cut_off_sends bytes old new y (subst (λ g. CutOff old new bytes g) (sym is) cut)

-- what was written and then flushed is sent
pub sends_finished : {T : Type 0} (bytes : List ℕ) (old mid new : OutputView) (r : Result T Fault) → Took old mid bytes → FlushesOrFault mid new r → Sends bytes old new r
sends_finished bytes old mid new (Ok x) took flushed = left_after bytes took flushed
sends_finished bytes old mid new (Err f) took failed = inl (failed.0, inr (left_after bytes took failed.1))

-- what was written, or cut off by the output, is sent without a flush
pub sends_written : (bytes : List ℕ) (old new : OutputView) (r : Result (Unit {0}) Fault) → WritesAllOrFault old new bytes r → SendsUnflushed bytes old new r
sends_written bytes old new (Ok u) took = took
sends_written bytes old new (Err f) failed = inl failed
