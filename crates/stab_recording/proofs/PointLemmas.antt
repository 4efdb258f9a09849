-- Points: runs that go on from states on the way, checkpoints of these, and meetings, at which two runs come to points of one future.
use Rattle.stab_recording.proofs.Names.{◌≡◌, ℕ, ◌+◌, ◌-◌, ◌^◌, ◌<◌, ◌≤◌, refl, sym, ◌∙◌, ap, subst, Bool, ◌⊎◌, inl, inr, List, ◌++◌, length, take, drop, arith, length-append, length-take-le, length-drop, take-append-drop, take-take, take_all, take-add, member, SameGroup, TableauState, stabilises, Step, Lengths, Checkpoint, Meeting, Point, RunOutput, origin, joined, point_after, outputs, looked_up, ones, AgreeAt, MayHaveCoin, ProgramState, IsAt, IsRun, program_state, lengths_of, front_of, rest_of, AgreeBack, with_coin, IsRunFromStart, IsCheckpoint, moved, moved_lengths, moved_checkpoint, Meets, HaveSameFuture, after-append, outputs-append, same-future, randomness-is-coins, records-are-records, cut, front-output, rest-output, HasAtMost, outputs-short}
use Rattle.stab_recording.proofs.MeetingLemmas.{looked-last}

-- a run that goes on from a state of a run from the start

pub shows-from-start : (n : ℕ) (coins : ℕ → Bool) (xs : List Step) (a : ProgramState) → IsRunFromStart n coins xs a → IsAt n a (point_after n coins xs origin)
shows-from-start n coins xs a h = record {
  group = h.group;
  coin = ap (λ (o : RunOutput). length o.free) h.output ∙ randomness-is-coins n coins xs;
  records = ap (λ (o : RunOutput). o.records) h.output ∙ records-are-records n coins xs;
}

pub resumed : (n : ℕ) (coins : ℕ → Bool) (xs zs : List Step) (a b : ProgramState) → IsRunFromStart n coins xs a → IsRun n coins zs a b → IsRunFromStart n coins (xs ++ zs) b
resumed n coins xs zs a b h run =
    let p = point_after n coins xs origin in
    let advanced = run p (shows-from-start n coins xs a h) in
    record {
      group = subst (λ (q : Point). SameGroup n b.stabilised (member q.trace)) (sym (after-append n coins xs zs origin)) advanced.shows.group;
      output =
          advanced.output
          ∙ ap (λ o. joined o (outputs n coins zs p)) h.output
          ∙ sym (outputs-append n coins xs zs origin);
    }

-- lengths that move with others

moved-length : {X : Type 0} (xs ys zs : List X) → length (ys ++ zs) < 2 ^ 64 → moved (length xs) (length ys) (length (xs ++ zs)) ≡ length (ys ++ zs)
moved-length xs ys zs few = omega (arith, length-append xs zs, length-append ys zs)

moved-joined : (k : ℕ) (a b o : RunOutput) → k < 2 ^ 64 → HasAtMost k (joined b o) → moved_lengths (lengths_of a) (lengths_of b) (lengths_of (joined a o)) ≡ lengths_of (joined b o)
moved-joined k a b o few short = λ i. record {
  records = moved-length a.records b.records o.records (let s = short.records in omega arith) i;
  free = moved-length a.free b.free o.free (let s = short.free in omega arith) i;
  detectors = moved-length a.detectors b.detectors o.detectors (let s = short.detectors in omega arith) i;
  additions = moved-length a.additions b.additions o.additions (let s = short.additions in omega arith) i;
}

-- a checkpoint before the first step that differs is one of both runs

pub take-same : {X : Type 0} (i m : ℕ) (xs ys : List X) → i ≤ m → take m xs ≡ take m ys → take i xs ≡ take i ys
take-same i m xs ys le same = sym (take-take i m xs le) ∙ ap (take i) same ∙ take-take i m ys le

pub checkpoint-before : (n : ℕ) (coins : ℕ → Bool) (xs ys : List Step) (first : ℕ) (c : Checkpoint) → take first xs ≡ take first ys → c.step ≤ first → first ≤ length ys
    → IsCheckpoint n coins xs c → IsCheckpoint n coins ys c
checkpoint-before n coins xs ys first c same before within h = record {
  within = omega arith;
  qubits = h.qubits;
  group = subst (λ zs. SameGroup n (stabilises c.tableau) (member (point_after n coins zs origin).trace)) (take-same c.step first xs ys before same) h.group;
  lengths = h.lengths ∙ ap (λ zs. lengths_of (outputs n coins zs origin)) (take-same c.step first xs ys before same);
}

-- a run that begins at a checkpoint
pub begun-from-start : (n : ℕ) (coins : ℕ → Bool) (xs ys : List Step) (c : Checkpoint) (t : TableauState) (o : RunOutput) → IsCheckpoint n coins ys c → take c.step xs ≡ take c.step ys
    → t ≡ c.tableau → o ≡ front_of c.lengths (outputs n coins xs origin) → IsRunFromStart n coins (take c.step ys) (program_state t o)
begun-from-start n coins xs ys c t o h same tableau front = record {
  group = subst (λ u. SameGroup n (stabilises u) (member (point_after n coins (take c.step ys) origin).trace)) (sym tableau) h.group;
  output =
      front
      ∙ (λ i. front_of (lengths i) (outputs n coins xs origin))
      ∙ front-output n coins xs c.step
      ∙ ap (λ zs. outputs n coins zs origin) same;
}
  where
    lengths : c.lengths ≡ lengths_of (outputs n coins (take c.step xs) origin)
    lengths = h.lengths ∙ ap (λ zs. lengths_of (outputs n coins zs origin)) (sym same)

-- if the next coin has the same number at a checkpoint, or none decides after it, so it is at the point of the checkpoint
pub may-have-coin : (n : ℕ) (coins : ℕ → Bool) (xs : List Step) (c : Checkpoint) (free : List Bool) (coin : ℕ) → IsCheckpoint n coins xs c → free ≡ (outputs n coins xs origin).free
    → (coin ≡ c.lengths.free) ⊎ (ones (drop c.lengths.free free) ≡ 0) → MayHaveCoin n coins (drop c.step xs) (point_after n coins (take c.step xs) origin) coin
may-have-coin n coins xs c free coin h randomness (inl same) =
    inl (sym (randomness-is-coins n coins (take c.step xs)) ∙ sym (ap (λ (l : Lengths). l.free) h.lengths) ∙ sym same)
may-have-coin n coins xs c free coin h randomness (inr none) =
    inr
    (ap ones
    (sym (ap (λ (q : RunOutput). q.free) (rest-output n coins xs c.step))
    ∙ (λ i. drop (sym (ap (λ (l : Lengths). l.free) h.lengths) i) (sym randomness i)))
    ∙ none)

-- a checkpoint of one run that the other meets is at a point of the same future
pub meets-agree : (n window : ℕ) (coins : ℕ → Bool) (xs zs : List Step) (c : Checkpoint) (t : TableauState) (o : RunOutput) (records free : List Bool)
    → IsCheckpoint n coins xs c → records ≡ (outputs n coins xs origin).records → free ≡ (outputs n coins xs origin).free → IsRunFromStart n coins zs (program_state t o)
    → Meets n window t o records free c
    → MayHaveCoin n coins (drop c.step xs) (point_after n coins (take c.step xs) origin) (point_after n coins zs origin).coin
    × AgreeBack n window (with_coin (point_after n coins zs origin).coin (point_after n coins (take c.step xs) origin)) (point_after n coins zs origin)
meets-agree n window coins xs zs c t o records free h preserved randomness run meets = (
  subst (MayHaveCoin n coins (drop c.step xs) (point_after n coins (take c.step xs) origin)) shown.coin
      (may-have-coin n coins xs c free (length o.free) h randomness meets.coin),
  record {
    group = λ p size. sym (h.group p size) ∙ sym (meets.group p size) ∙ run.group p size;
    coin = refl;
    records = λ k le.
        ap (λ bits. looked_up bits k) (sym old_records)
        ∙ sym (looked-last window k o.records (take c.lengths.records records) meets.records le)
        ∙ ap (λ bits. looked_up bits k) shown.records;
  },
)
  where
    shown : IsAt n (program_state t o) (point_after n coins zs origin)
    shown = shows-from-start n coins zs (program_state t o) run

    old_records : take c.lengths.records records ≡ (point_after n coins (take c.step xs) origin).records
    old_records =
        (λ i. take (ap (λ (l : Lengths). l.records) h.lengths i) (preserved i))
        ∙ ap (λ (q : RunOutput). q.records) (front-output n coins xs c.step)
        ∙ records-are-records n coins (take c.step xs)

-- two runs that come to points of one future before step i of one and step k of the other, and have the same steps from there on

module _ (n : ℕ) (coins : ℕ → Bool) (xs ys : List Step) (i k : ℕ) (same : drop i xs ≡ drop k ys) where
  pub old_later : (m : ℕ) → point_after n coins (take (i + m) xs) origin ≡ point_after n coins (take m (drop i xs)) (point_after n coins (take i xs) origin)
  old_later m = ap (λ zs. point_after n coins zs origin) (take-add i m xs) ∙ after-append n coins (take i xs) (take m (drop i xs)) origin

  pub new_later : (m : ℕ) → point_after n coins (take (k + m) ys) origin ≡ point_after n coins (take m (drop i xs)) (point_after n coins (take k ys) origin)
  new_later m =
      ap (λ zs. point_after n coins zs origin) (take-add k m ys ∙ ap (λ zs. take k ys ++ take m zs) (sym same))
      ∙ after-append n coins (take k ys) (take m (drop i xs)) origin

  -- if they agree there, they agree some steps later
  pub agree-later : AgreeAt n (point_after n coins (take i xs) origin) (point_after n coins (take k ys) origin)
      → (m : ℕ) → AgreeAt n (point_after n coins (take (i + m) xs) origin) (point_after n coins (take (k + m) ys) origin)
  agree-later agree m =
      subst (λ p. AgreeAt n p (point_after n coins (take (k + m) ys) origin)) (sym (old_later m))
      (subst (AgreeAt n (point_after n coins (take m (drop i xs)) (point_after n coins (take i xs) origin))) (sym (new_later m))
      (same-future n coins (take m (drop i xs)) _ _ agree).1)

  old_outputs : (m : ℕ) → outputs n coins (take (i + m) xs) origin
      ≡ joined (outputs n coins (take i xs) origin) (outputs n coins (take m (drop i xs)) (point_after n coins (take i xs) origin))
  old_outputs m = ap (λ zs. outputs n coins zs origin) (take-add i m xs) ∙ outputs-append n coins (take i xs) (take m (drop i xs)) origin

  module _ (future : HaveSameFuture n coins (drop i xs) (point_after n coins (take i xs) origin) (point_after n coins (take k ys) origin)) where
    new_outputs : (m : ℕ) → outputs n coins (take (k + m) ys) origin
        ≡ joined (outputs n coins (take k ys) origin) (outputs n coins (take m (drop i xs)) (point_after n coins (take i xs) origin))
    new_outputs m =
        ap (λ zs. outputs n coins zs origin) (take-add k m ys ∙ ap (λ zs. take k ys ++ take m zs) (sym same))
        ∙ outputs-append n coins (take k ys) (take m (drop i xs)) origin
        ∙ ap (joined (outputs n coins (take k ys) origin)) (sym (future m).0)

    later_group : (m : ℕ) → SameGroup n (member (point_after n coins (take (i + m) xs) origin).trace) (member (point_after n coins (take (k + m) ys) origin).trace)
    later_group m =
        subst (λ (p : Point). SameGroup n (member p.trace) (member (point_after n coins (take (k + m) ys) origin).trace)) (sym (old_later m))
        (subst (λ (p : Point). SameGroup n (member (point_after n coins (take m (drop i xs)) (point_after n coins (take i xs) origin)).trace) (member p.trace)) (sym (new_later m))
        (future m).1)

    whole : take (length (drop i xs)) (drop i xs) ≡ drop i xs
    whole = take_all (length (drop i xs)) (drop i xs) (omega arith)

    -- after the last step they have the same group
    pub group-end : SameGroup n (member (point_after n coins xs origin).trace) (member (point_after n coins ys origin).trace)
    group-end =
        subst (λ zs. SameGroup n (member (point_after n coins zs origin).trace) (member (point_after n coins ys origin).trace)) (take-append-drop i xs)
        (subst (λ zs. SameGroup n (member (point_after n coins (take i xs ++ drop i xs) origin).trace) (member (point_after n coins zs origin).trace))
        (ap (λ zs. take k ys ++ zs) same ∙ take-append-drop k ys)
        (subst (λ (p : Point). SameGroup n (member p.trace) (member (point_after n coins (take k ys ++ drop i xs) origin).trace)) (sym (after-append n coins (take i xs) (drop i xs) origin))
        (subst (λ (p : Point). SameGroup n (member (point_after n coins (drop i xs) (point_after n coins (take i xs) origin)).trace) (member p.trace))
        (sym (after-append n coins (take k ys) (drop i xs) origin))
        (subst (λ zs. SameGroup n (member (point_after n coins zs (point_after n coins (take i xs) origin)).trace) (member (point_after n coins zs (point_after n coins (take k ys) origin)).trace))
        whole (future (length (drop i xs))).1))))

    -- what the one gives from there on is what the other gives
    pub preserved-tail : outputs n coins ys origin
        ≡ joined (outputs n coins (take k ys) origin) (rest_of (lengths_of (outputs n coins (take i xs) origin)) (outputs n coins xs origin))
    preserved-tail =
        cut n coins ys k
        ∙ ap (joined (outputs n coins (take k ys) origin))
        (ap (λ zs. outputs n coins zs (point_after n coins (take k ys) origin)) (sym same ∙ sym whole)
        ∙ sym (future (length (drop i xs))).0
        ∙ ap (λ zs. outputs n coins zs (point_after n coins (take i xs) origin)) whole
        ∙ sym (rest-output n coins xs i))

    -- a checkpoint of the one from there on, moved, is a checkpoint of the other
    pub checkpoint-moved : (s : Meeting) (c : Checkpoint) → s.old_step ≡ i → s.new_step ≡ k → s.old_lengths ≡ lengths_of (outputs n coins (take i xs) origin)
        → s.new_lengths ≡ lengths_of (outputs n coins (take k ys) origin) → i ≤ c.step → k ≤ length ys → length ys < 2 ^ 64
        → IsCheckpoint n coins xs c → IsCheckpoint n coins ys (moved_checkpoint s c)
    checkpoint-moved s c old new old_lengths new_lengths following within few h = record {
      within = omega (arith, position, inside);
      qubits = h.qubits;
      group =
          subst (λ j. SameGroup n (stabilises c.tableau) (member (point_after n coins (take j ys) origin).trace)) (sym position)
          (λ p size. old_group p size ∙ later_group (c.step - i) p size);
      lengths =
          (λ j. moved_lengths (old_lengths j) (new_lengths j) (shown j))
          ∙ moved-joined (length (take (k + (c.step - i)) ys)) (outputs n coins (take i xs) origin) (outputs n coins (take k ys) origin)
          (outputs n coins (take (c.step - i) (drop i xs)) (point_after n coins (take i xs) origin))
          (omega (arith, length-take-le (k + (c.step - i)) ys inside, inside)) short
          ∙ ap lengths_of (sym (new_outputs (c.step - i)))
          ∙ ap (λ j. lengths_of (outputs n coins (take j ys) origin)) (sym position);
    }
      where
        at : c.step ≡ i + (c.step - i)
        at = omega arith

        inside : k + (c.step - i) ≤ length ys
        inside = let w = h.within in omega (arith, ap length same, length-drop i xs, length-drop k ys)

        position : moved s.old_step s.new_step c.step ≡ k + (c.step - i)
        position = omega (arith, inside)

        old_group : SameGroup n (stabilises c.tableau) (member (point_after n coins (take (i + (c.step - i)) xs) origin).trace)
        old_group = subst (λ j. SameGroup n (stabilises c.tableau) (member (point_after n coins (take j xs) origin).trace)) at h.group

        shown : c.lengths
            ≡ lengths_of (joined (outputs n coins (take i xs) origin) (outputs n coins (take (c.step - i) (drop i xs)) (point_after n coins (take i xs) origin)))
        shown = h.lengths ∙ ap (λ j. lengths_of (outputs n coins (take j xs) origin)) at ∙ ap lengths_of (old_outputs (c.step - i))

        short : HasAtMost (length (take (k + (c.step - i)) ys))
            (joined (outputs n coins (take k ys) origin) (outputs n coins (take (c.step - i) (drop i xs)) (point_after n coins (take i xs) origin)))
        short = subst (HasAtMost (length (take (k + (c.step - i)) ys))) (new_outputs (c.step - i)) (outputs-short n coins (take (k + (c.step - i)) ys) origin)
