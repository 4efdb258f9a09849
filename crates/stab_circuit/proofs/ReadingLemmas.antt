-- What a reader reads is what the lines stand for, and the only list of items that they stand for.
use Rattle.stab_circuit.proofs.Names.{◌≡◌, refl, ap, sym, ◌∙◌, subst, ℕ, ◌+◌, List, [], ◌∷◌, ◌++◌, Bool, true, false, nat_lt, length, Option, None, Some, Result, Ok, Err, append_assoc, append-nil, if◌then◌else◌, TooDeep, Fault, Operation, Blank, Close, Open, Items, done, next, block, join, Meaning, Joins, nothing, blank_line, operation_line, block_lines, at_line, fault_from, OpenBlock, before_reading, closed, read_on, join_done, join_assoc, chosen}
use Rattle.stab_instructions.specs.declared.operation.Line.TheVariants as line
use Rattle.stab_circuit.proofs.FaultLemmas.{lines_of, fault_of, state, open_block, length-lines_of, fault_agrees}

-- what is left to come so that the items are xs
abbrev Completes : List OpenBlock → Items → List Meaning → Items → Type 0
Completes [] now ms xs = (rest : Items) × Joins ms rest × (xs ≡ join now rest)
Completes (f ∷ fs) now ms xs = (inner after : List Meaning) × (body : Items) × (ms ≡ inner ++ Ok Close ∷ after) × Joins inner body × Completes fs (closed f (join now body)) after xs

completes_blank : (fs : List OpenBlock) (now : Items) (ms : List Meaning) (xs : Items) → Completes fs now ms xs → Completes fs now (Ok Blank ∷ ms) xs
completes_blank [] now ms xs (rest, j, e) = (rest, blank_line j, e)
completes_blank (f ∷ fs) now ms xs (inner, after, body, e, j, c) = (Ok Blank ∷ inner, after, body, ap (λ l. Ok Blank ∷ l) e, blank_line j, c)

completes_operation : (fs : List OpenBlock) (now : Items) (op : Operation) (ms : List Meaning) (xs : Items) → Completes fs (join now (next op done)) ms xs → Completes fs now (Ok (line.Operation op) ∷ ms) xs
completes_operation [] now op ms xs (rest, j, e) = (next op rest, operation_line j, e ∙ join_assoc now (next op done) rest)
completes_operation (f ∷ fs) now op ms xs (inner, after, body, e, j, c) = (
  Ok (line.Operation op) ∷ inner,
  after,
  next op body,
  ap (λ l. Ok (line.Operation op) ∷ l) e,
  operation_line j,
  subst (λ z. Completes fs (closed f z) after xs) (join_assoc now (next op done) body) c,
)

completes_opens : (fs : List OpenBlock) (now : Items) (n c : ℕ) (t : List ℕ) (ms : List Meaning) (xs : Items) → Completes (open_block n c t now ∷ fs) done ms xs → Completes fs now (Ok (Open c t) ∷ ms) xs
completes_opens [] now n c t ms xs (inner, after, body, e, j, (rest, k, x)) = (
  block c t body rest,
  subst (λ l. Joins (Ok (Open c t) ∷ l) (block c t body rest)) (sym e) (block_lines j k),
  x ∙ join_assoc now (block c t body done) rest,
)
completes_opens (g ∷ gs) now n c t ms xs (inner, after, body, e, j, (inner2, after2, body2, e2, k, o)) = (
  Ok (Open c t) ∷ (inner ++ Ok Close ∷ inner2),
  after2,
  block c t body body2,
  ap (λ l. Ok (Open c t) ∷ l) (e ∙ ap (λ l. inner ++ Ok Close ∷ l) e2 ∙ sym (append_assoc inner (Ok Close ∷ inner2) (Ok Close ∷ after2))),
  block_lines j k,
  subst (λ z. Completes gs (closed g z) after2 xs) (join_assoc now (block c t body done) body2) o,
)

completes_close : (f : OpenBlock) (fs : List OpenBlock) (now : Items) (ms : List Meaning) (xs : Items) → Completes fs (closed f now) ms xs → Completes (f ∷ fs) now (Ok Close ∷ ms) xs
completes_close f fs now ms xs c = ([], ms, done, refl, nothing, subst (λ z. Completes fs (closed f z) ms xs) (sym (join_done now)) c)

-- if a block was opened and all was read, it was not too deep
opened_ok : (n c : ℕ) (t : List ℕ) (fs : List OpenBlock) (now : Items) (ms : List Meaning) (b : Bool) (xs : Items)
    → elim (if b then Ok (state (open_block n c t now ∷ fs) done) else Err TooDeep) as (λ _. Result Items Fault) [ Ok s ↦ read_on (n + 1) s ms | Err r ↦ Err (at_line n r) ] ≡ Ok xs
    → read_on (n + 1) (state (open_block n c t now ∷ fs) done) ms ≡ Ok xs
opened_ok n c t fs now ms true xs e = e
opened_ok n c t fs now ms false xs e = cc

-- what is read is what the lines stand for
pub sound : (ms : List Meaning) (n : ℕ) (fs : List OpenBlock) (now xs : Items) → read_on n (state fs now) ms ≡ Ok xs → Completes fs now ms xs
sound [] n [] now xs e = let same : now ≡ xs = cc in (done, nothing, sym same ∙ sym (join_done now))
sound [] n (f ∷ fs) now xs e = cc
sound (Err r ∷ ms) n fs now xs e = cc
sound (Ok Blank ∷ ms) n fs now xs e = completes_blank fs now ms xs (sound ms (n + 1) fs now xs e)
sound (Ok (line.Operation op) ∷ ms) n fs now xs e = completes_operation fs now op ms xs (sound ms (n + 1) fs (join now (next op done)) xs e)
sound (Ok Close ∷ ms) n [] now xs e = cc
sound (Ok Close ∷ ms) n (f ∷ fs) now xs e = completes_close f fs now ms xs (sound ms (n + 1) fs (closed f now) xs e)
sound (Ok (Open c t) ∷ ms) n fs now xs e =
    completes_opens fs now n c t ms xs (sound ms (n + 1) (open_block n c t now ∷ fs) done xs (opened_ok n c t fs now ms (nat_lt (length fs) 16) xs e))

-- reading goes on after the lines of some items
pub record Reaches (n : ℕ) (fs : List OpenBlock) (now : Items) (all : List Meaning) (cur : Items) (more : List Meaning) : Type 0 where
  pub at : ℕ
  pub read : read_on n (state fs now) all ≡ read_on at (state fs cur) more
  pub fault : fault_from n (lines_of fs) all ≡ fault_from at (lines_of fs) more

pub choice_none : (b : Bool) (x : Option Fault) (f : Fault) → (if b then x else Some f) ≡ None → b ≡ true
choice_none true x f e = refl
choice_none false x f e = cc

pub fault_opens : (n : ℕ) (opened : List ℕ) (c : ℕ) (t : List ℕ) (ms : List Meaning)
    → fault_from n opened (Ok (Open c t) ∷ ms) ≡ (if nat_lt (length opened) 16 then fault_from (n + 1) (n ∷ opened) ms else Some (at_line n TooDeep))
fault_opens n [] c t ms = refl
fault_opens n (at ∷ outer) c t ms = refl

-- if there is no fault, few blocks are open, and it is looked for inside the next
pub few_open : (n : ℕ) (opened : List ℕ) (c : ℕ) (t : List ℕ) (ms : List Meaning) → fault_from n opened (Ok (Open c t) ∷ ms) ≡ None → nat_lt (length opened) 16 ≡ true
few_open n opened c t ms e = choice_none (nat_lt (length opened) 16) _ _ (sym (fault_opens n opened c t ms) ∙ e)

pub fault_inside : (n : ℕ) (opened : List ℕ) (c : ℕ) (t : List ℕ) (inner after more : List Meaning) → nat_lt (length opened) 16 ≡ true
    → fault_from n opened (Ok (Open c t) ∷ ((inner ++ Ok Close ∷ after) ++ more)) ≡ fault_from (n + 1) (n ∷ opened) (inner ++ Ok Close ∷ (after ++ more))
fault_inside n opened c t inner after more few =
    fault_opens n opened c t ((inner ++ Ok Close ∷ after) ++ more)
    ∙ chosen (nat_lt (length opened) 16) _ _ few
    ∙ ap (fault_from (n + 1) (n ∷ opened)) (append_assoc inner (Ok Close ∷ after) more)

read_opens : (n : ℕ) (fs : List OpenBlock) (now : Items) (c : ℕ) (t : List ℕ) (ms : List Meaning) → nat_lt (length (lines_of fs)) 16 ≡ true
    → read_on n (state fs now) (Ok (Open c t) ∷ ms) ≡ read_on (n + 1) (state (open_block n c t now ∷ fs) done) ms
read_opens n fs now c t ms h =
    let few : nat_lt (length fs) 16 ≡ true = ap (λ k. nat_lt k 16) (sym (length-lines_of fs)) ∙ h in
    ap (λ r. elim r as (λ _. Result Items Fault) [ Ok s ↦ read_on (n + 1) s ms | Err r ↦ Err (at_line n r) ]) (chosen (nat_lt (length fs) 16) (Ok (state (open_block n c t now ∷ fs) done)) (Err TooDeep) few)

-- that the lines of some items are read, whatever is around them
abbrev IsRead : List Meaning → Items → Type 0
IsRead inner body = (n : ℕ) (fs : List OpenBlock) (now : Items) (more : List Meaning) → fault_from n (lines_of fs) (inner ++ more) ≡ None → Reaches n fs now (inner ++ more) (join now body) more

block_read : (c : ℕ) (t : List ℕ) (inner after : List Meaning) (body rest : Items) → IsRead inner body → IsRead after rest → IsRead (Ok (Open c t) ∷ (inner ++ Ok Close ∷ after)) (block c t body rest)
block_read c t inner after body rest first second n fs now more e =
    let held : OpenBlock = open_block n c t now in
    let few : nat_lt (length (lines_of fs)) 16 ≡ true = few_open n (lines_of fs) c t ((inner ++ Ok Close ∷ after) ++ more) e in
    let goes = fault_inside n (lines_of fs) c t inner after more few in
    let r = first (n + 1) (held ∷ fs) done (Ok Close ∷ (after ++ more)) (sym goes ∙ e) in
    let q = second (r.at + 1) fs (closed held body) more (sym r.fault ∙ sym goes ∙ e) in
    record {
      at = q.at;
      read = read_opens n fs now c t ((inner ++ Ok Close ∷ after) ++ more) few
          ∙ ap (read_on (n + 1) (state (held ∷ fs) done)) (append_assoc inner (Ok Close ∷ after) more)
          ∙ r.read
          ∙ q.read
          ∙ ap (λ z. read_on q.at (state fs z) more) (join_assoc now (block c t body done) rest);
      fault = goes ∙ r.fault ∙ q.fault;
    }

operation_read : (op : Operation) (inner : List Meaning) (body : Items) → IsRead inner body → IsRead (Ok (line.Operation op) ∷ inner) (next op body)
operation_read op inner body go n [] now more e =
    let r = go (n + 1) [] (join now (next op done)) more e in
    record { at = r.at; read = r.read ∙ ap (λ z. read_on r.at (state [] z) more) (join_assoc now (next op done) body); fault = r.fault }
operation_read op inner body go n (f ∷ fs) now more e =
    let r = go (n + 1) (f ∷ fs) (join now (next op done)) more e in
    record { at = r.at; read = r.read ∙ ap (λ z. read_on r.at (state (f ∷ fs) z) more) (join_assoc now (next op done) body); fault = r.fault }

blank_read : (inner : List Meaning) (body : Items) → IsRead inner body → IsRead (Ok Blank ∷ inner) body
blank_read inner body go n [] now more e = let r = go (n + 1) [] now more e in record { at = r.at; read = r.read; fault = r.fault }
blank_read inner body go n (f ∷ fs) now more e = let r = go (n + 1) (f ∷ fs) now more e in record { at = r.at; read = r.read; fault = r.fault }

nothing_read : IsRead [] done
nothing_read n fs now more e = record { at = n; read = ap (λ z. read_on n (state fs z) more) (sym (join_done now)); fault = refl }

-- what the lines stand for is read, unless there is a fault
pub complete : {inner : List Meaning} {body : Items} → Joins inner body → IsRead inner body
complete nothing = nothing_read
complete (blank_line {ms} {xs} j) = blank_read ms xs (complete j)
complete (operation_line {op} {ms} {xs} j) = operation_read op ms xs (complete j)
complete (block_lines {count} {tag} {inner} {after} {body} {rest} j k) = block_read count tag inner after body rest (complete j) (complete k)

-- lines without a fault that stand for items are read as these
pub read_joined : (ms : List Meaning) (xs : Items) → Joins ms xs → fault_from 1 [] ms ≡ None → read_on 1 before_reading ms ≡ Ok xs
read_joined ms xs j e =
    let r = complete j 1 [] done [] (ap (fault_from 1 []) (append-nil ms) ∙ e) in
    ap (read_on 1 before_reading) (sym (append-nil ms)) ∙ r.read

ok_same : (r : Result Items Fault) (xs ys : Items) → r ≡ Ok xs → r ≡ Ok ys → xs ≡ ys
ok_same r xs ys e f = cc

-- so they stand for no others
pub one_list : (ms : List Meaning) (xs ys : Items) → fault_from 1 [] ms ≡ None → Joins ms xs → Joins ms ys → xs ≡ ys
one_list ms xs ys e j k = ok_same (read_on 1 before_reading ms) xs ys (read_joined ms xs j e) (read_joined ms ys k e)

-- lines that are read have no fault and stand for the items
pub joined_read : (ms : List Meaning) (xs : Items) → read_on 1 before_reading ms ≡ Ok xs → (fault_from 1 [] ms ≡ None) × Joins ms xs
joined_read ms xs e = let c = sound ms 1 [] done xs e in (sym (fault_agrees ms 1 [] done) ∙ ap fault_of e, subst (Joins ms) (sym c.2) c.1)

-- the fault that is found is the fault of the lines
pub fault_read : (ms : List Meaning) (f : Fault) → read_on 1 before_reading ms ≡ Err f → fault_from 1 [] ms ≡ Some f
fault_read ms f e = sym (fault_agrees ms 1 [] done) ∙ ap fault_of e

-- lines without a fault stand for some items
pub some_list : (ms : List Meaning) → fault_from 1 [] ms ≡ None → (xs : Items) × Joins ms xs
some_list ms e = some_read ms (read_on 1 before_reading ms) refl (sym (ap fault_of refl) ∙ fault_agrees ms 1 [] done ∙ e)
  where
    some_read : (ms : List Meaning) (r : Result Items Fault) → read_on 1 before_reading ms ≡ r → fault_of r ≡ None → (xs : Items) × Joins ms xs
    some_read ms (Ok xs) e none = (xs, (joined_read ms xs e).1)
    some_read ms (Err f) e none = cc
