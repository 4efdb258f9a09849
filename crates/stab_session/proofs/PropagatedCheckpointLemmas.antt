-- Propagated checkpoints: checkpoints of a run, conjugated by a frame that was propagated past them, are checkpoints of the run that the frame makes of it.
use Rattle.stab_session.proofs.Names.{◌≡◌, ℕ, zero, suc, ◌+◌, ◌-◌, ◌^◌, ◌<◌, ◌≤◌, refl, sym, ◌∙◌, ap, subst, Bool, true, false, ◌⊎◌, inl, inr, List, [], ◌∷◌, ◌++◌, All, map, length, take, drop, replicate, slice_get, Some, arith, IfSome, length-append, length-drop, All-nil, All-cons, All-head, All-tail, slice_get_within, take-add, Letter, I, Signed, with_sign, strings_anticommute, TableauState, stabilises, member, SameGroup, IsConjugated, Step, Lengths, Point, RunOutput, origin, joined, point_after, outputs, lengths_of, AgreeAt, AgreeBack, with_coin, MayHaveCoin, outputs-append, HasAtMost, PivotsState, PropagationState, conjugated-blank, Checkpoint, Meeting, IsCheckpoint, moved, moved_lengths, moved_checkpoint, AreInOrder, ArePropagatedCheckpoints, IsLastDiffering, with_states}
use Rattle.stab_session.proofs.EndingLemmas.{IsEnded, rest-point, order-from}
use Rattle.stab_session.proofs.RestFrameLemmas.{agree-further, advanced-on-way, advanced-further}
use Rattle.stab_session.proofs.RestLemmas.{IsPropagatedRest, rest-over, rest-after, rest-ends, rest-agree, rest-may, rest-differ}

-- lengths that stay where they are

pub lengths-joined : (a d b c : RunOutput) → lengths_of a ≡ lengths_of d → lengths_of b ≡ lengths_of c → lengths_of (joined a b) ≡ lengths_of (joined d c)
lengths-joined a d b c f e = λ i. record {
  records = longer a.records d.records b.records c.records (ap (λ (l : Lengths). l.records) f) (ap (λ (l : Lengths). l.records) e) i;
  free = longer a.free d.free b.free c.free (ap (λ (l : Lengths). l.free) f) (ap (λ (l : Lengths). l.free) e) i;
  detectors = longer a.detectors d.detectors b.detectors c.detectors (ap (λ (l : Lengths). l.detectors) f) (ap (λ (l : Lengths). l.detectors) e) i;
  additions = longer a.additions d.additions b.additions c.additions (ap (λ (l : Lengths). l.additions) f) (ap (λ (l : Lengths). l.additions) e) i;
}
  where
    longer : {X : Type 0} (xs ws ys zs : List X) → length xs ≡ length ws → length ys ≡ length zs → length (xs ++ ys) ≡ length (ws ++ zs)
    longer xs ws ys zs front same = length-append xs ys ∙ (λ i. front i + same i) ∙ sym (length-append ws zs)

moved-long : {X : Type 0} (xs ys zs ws : List X) → length zs ≡ length ws → length (ys ++ ws) < 2 ^ 64 → moved (length xs) (length ys) (length (xs ++ zs)) ≡ length (ys ++ ws)
moved-long xs ys zs ws same few = omega (arith, few, same, length-append xs zs, length-append ys ws)

-- that move with others where two runs have come to points from which they give lists as long as each other's
pub moved-on : (k : ℕ) (a b o q : RunOutput) → k < 2 ^ 64 → lengths_of o ≡ lengths_of q → HasAtMost k (joined b q)
    → moved_lengths (lengths_of a) (lengths_of b) (lengths_of (joined a o)) ≡ lengths_of (joined b q)
moved-on k a b o q few same short = λ i. record {
  records = moved-long a.records b.records o.records q.records (ap (λ (l : Lengths). l.records) same) (omega (arith, few, short.records)) i;
  free = moved-long a.free b.free o.free q.free (ap (λ (l : Lengths). l.free) same) (omega (arith, few, short.free)) i;
  detectors = moved-long a.detectors b.detectors o.detectors q.detectors (ap (λ (l : Lengths). l.detectors) same) (omega (arith, few, short.detectors)) i;
  additions = moved-long a.additions b.additions o.additions q.additions (ap (λ (l : Lengths). l.additions) same) (omega (arith, few, short.additions)) i;
}

-- checkpoints in order, the first of which were conjugated

conjugated-within : (n : ℕ) (strings : List (List Letter)) (free : List Bool) (back : List Step) (from steps : ℕ) (old : PropagationState) (cs : List Checkpoint) (ts : List TableauState) (j : ℕ)
    → ArePropagatedCheckpoints n strings free back from steps old cs ts → j < length ts → IfSome (slice_get cs j) (λ c. c.step - from ≤ steps)
conjugated-within n strings free back from steps old cs [] j are lt = absurd (omega (arith, lt))
conjugated-within n strings free back from steps old [] (t ∷ ts) j are lt = tt
conjugated-within n strings free back from steps old (c ∷ cs) (t ∷ ts) zero are lt = are.0
conjugated-within n strings free back from steps old (c ∷ cs) (t ∷ ts) (suc j) are lt = conjugated-within n strings free back from steps old cs ts j are.2 (omega (arith, lt))

left-beyond : (n : ℕ) (strings : List (List Letter)) (free : List Bool) (back : List Step) (from steps : ℕ) (old : PropagationState) (cs : List Checkpoint) (ts : List TableauState)
    → ArePropagatedCheckpoints n strings free back from steps old cs ts → IfSome (slice_get cs (length ts)) (λ c. steps ≤ c.step - from)
left-beyond n strings free back from steps old [] [] are = tt
left-beyond n strings free back from steps old (c ∷ cs) [] are = All-head (λ d. steps ≤ d.step - from) c cs are
left-beyond n strings free back from steps old [] (t ∷ ts) are = tt
left-beyond n strings free back from steps old (c ∷ cs) (t ∷ ts) are = left-beyond n strings free back from steps old cs ts are.2

module _ {n : ℕ} {coins : ℕ → Bool} {xs ys back : List Step} {i k : ℕ} {strings : PivotsState} {free : List Bool} {base window : ℕ} {checkpoints : List Checkpoint}
    {conjugated : List TableauState} {old new : PropagationState} (r : IsPropagatedRest n coins xs ys back i k strings free base window checkpoints conjugated old new) where
  old_at : (m : ℕ) → point_after n coins (take (i + m) xs) origin ≡ point_after n coins (take m back) (point_after n coins (take i xs) origin)
  old_at = rest-point n coins xs back i r.old_after

  new_at : (m : ℕ) → point_after n coins (take (k + m) ys) origin ≡ point_after n coins (take m back) (point_after n coins (take k ys) origin)
  new_at = rest-point n coins ys back k r.new_after

  pub old_given : (m : ℕ) → outputs n coins (take (i + m) xs) origin
      ≡ joined (outputs n coins (take i xs) origin) (outputs n coins (take m back) (point_after n coins (take i xs) origin))
  old_given m =
      ap (λ zs. outputs n coins zs origin) (take-add i m xs)
      ∙ outputs-append n coins (take i xs) (take m (drop i xs)) origin
      ∙ ap (λ zs. joined (outputs n coins (take i xs) origin) (outputs n coins (take m zs) (point_after n coins (take i xs) origin))) r.old_after

  pub new_given : (m : ℕ) → outputs n coins (take (k + m) ys) origin
      ≡ joined (outputs n coins (take k ys) origin) (outputs n coins (take m back) (point_after n coins (take k ys) origin))
  new_given m =
      ap (λ zs. outputs n coins zs origin) (take-add k m ys)
      ∙ outputs-append n coins (take k ys) (take m (drop k ys)) origin
      ∙ ap (λ zs. joined (outputs n coins (take k ys) origin) (outputs n coins (take m zs) (point_after n coins (take k ys) origin))) r.new_after

  -- a checkpoint is this many steps after the place
  site : (j : ℕ) (c : Checkpoint) → slice_get checkpoints j ≡ Some c → c.step ≡ i + (c.step - i)
  site j c found = omega (arith, subst (λ d. IfSome d (λ e. i ≤ e.step)) found (order-from i (length xs) checkpoints j r.order))

  -- and as many steps of the edited circuit are there
  step-inside : (c : Checkpoint) → IsCheckpoint n coins xs c → i ≤ c.step → k + (c.step - i) ≤ length ys
  step-inside c is following =
      omega (
        arith,
        following,
        is.within,
        r.old_within,
        r.new_within,
        ap length r.old_after,
        ap length r.new_after,
        length-drop i xs,
        length-drop k ys,
      )

  -- a checkpoint, conjugated by letters by which the runs differ there
  module _ (c : Checkpoint) (t : TableauState) (g : List Letter) (following : i ≤ c.step) (is : IsCheckpoint n coins xs c)
      (conjugates : IsConjugated n g (stabilises c.tableau) (stabilises t))
      (differ : IsConjugated n g (member (point_after n coins (take (c.step - i) back) (point_after n coins (take i xs) origin)).trace)
      (member (point_after n coins (take (c.step - i) back) (point_after n coins (take k ys) origin)).trace)) where
    at : c.step ≡ i + (c.step - i)
    at = omega (arith, following)

    old-group : SameGroup n (stabilises c.tableau) (member (point_after n coins (take (c.step - i) back) (point_after n coins (take i xs) origin)).trace)
    old-group p size =
        is.group p size
        ∙ ap (λ m. member (point_after n coins (take m xs) origin).trace p) at
        ∙ ap (λ (q : Point). member q.trace p) (old_at (c.step - i))

    new-group : SameGroup n (stabilises t) (member (point_after n coins (take (c.step - i) back) (point_after n coins (take k ys) origin)).trace)
    new-group p size = conjugates p size ∙ old-group (with_sign (strings_anticommute g p.letters) p) size ∙ sym (differ p size)

    inside : k + (c.step - i) ≤ length ys
    inside = step-inside c is following

    moved-conjugated : (s : Meeting) → s.old_step ≡ i → s.new_step ≡ k
        → moved_lengths s.old_lengths s.new_lengths c.lengths ≡ lengths_of (outputs n coins (take (k + (c.step - i)) ys) origin)
        → length ys < 2 ^ 64 → t.qubits ≡ n → IsCheckpoint n coins ys (moved_checkpoint s (record c { tableau = t }))
    moved-conjugated s old_step new_step lengths few qubits = record {
      within = omega (arith, site, inside);
      qubits = qubits;
      group = λ p size.
          new-group p size
          ∙ ap (λ (q : Point). member q.trace p) (sym (new_at (c.step - i)))
          ∙ ap (λ m. member (point_after n coins (take m ys) origin).trace p) (sym site);
      lengths = lengths ∙ ap (λ m. lengths_of (outputs n coins (take m ys) origin)) (sym site);
    }
      where
        site : moved s.old_step s.new_step c.step ≡ k + (c.step - i)
        site = omega (arith, inside, few, old_step, new_step, following)

    -- if a stabiliser of the checkpoint is none of the conjugated one, the runs don't agree
    differs-here : (p : Signed) → length p.letters ≡ n → stabilises c.tableau p ≡ true → stabilises t p ≡ false
        → AgreeAt n (point_after n coins (take (c.step - i) back) (point_after n coins (take i xs) origin)) (point_after n coins (take (c.step - i) back) (point_after n coins (take k ys) origin)) → ⊥
    differs-here p size was none agree =
        let same : true ≡ false = sym was ∙ old-group p size ∙ agree.group p size ∙ sym (new-group p size) ∙ none in cc

  -- one after another

  module _ (s : Meeting) (old_step : s.old_step ≡ i) (new_step : s.new_step ≡ k) (few : length ys < 2 ^ 64)
      (lengths : (c : Checkpoint) → i ≤ c.step → IsCheckpoint n coins xs c
      → moved_lengths s.old_lengths s.new_lengths c.lengths ≡ lengths_of (outputs n coins (take (k + (c.step - i)) ys) origin)) where
    all-moved : (start end : ℕ) (cs : List Checkpoint) (ts : List TableauState) → i ≤ start → AreInOrder start end cs → All (IsCheckpoint n coins xs) cs
        → ArePropagatedCheckpoints n strings.strings free back i r.advanced.steps old cs ts → (length ts ≡ length cs) ⊎ (new.letters ≡ replicate n I)
        → All (IsCheckpoint n coins ys) (map (moved_checkpoint s) (with_states ts cs))
    all-moved start end [] [] le order are conjugates left = All-nil (IsCheckpoint n coins ys)
    all-moved start end [] (t ∷ ts) le order are conjugates left = absurd conjugates
    all-moved start end (c ∷ cs) [] le order are conjugates (inl same) = absurd (omega (arith, same))
    all-moved start end (c ∷ cs) [] le order are conjugates (inr blank) =
        let is = All-head (IsCheckpoint n coins xs) c cs are in
        All-cons (IsCheckpoint n coins ys) (moved_checkpoint s c) (map (moved_checkpoint s) cs)
        (moved-conjugated c c.tableau (replicate n I) (omega (arith, le, order.0)) is (conjugated-blank n (stabilises c.tableau))
        (subst (λ g. IsConjugated n g (member (point_after n coins (take (c.step - i) back) (point_after n coins (take i xs) origin)).trace)
        (member (point_after n coins (take (c.step - i) back) (point_after n coins (take k ys) origin)).trace)) blank
        (advanced-further (rest-after r) (c.step - i) (All-head (λ d. r.advanced.steps ≤ d.step - i) c cs conjugates)))
        s old_step new_step (lengths c (omega (arith, le, order.0)) is) few is.qubits)
        (all-moved c.step end cs [] (omega (arith, le, order.0)) order.1 (All-tail (IsCheckpoint n coins xs) c cs are)
        (All-tail (λ d. r.advanced.steps ≤ d.step - i) c cs conjugates) (inr blank))
    all-moved start end (c ∷ cs) (t ∷ ts) le order are conjugates left =
        let is = All-head (IsCheckpoint n coins xs) c cs are in
        All-cons (IsCheckpoint n coins ys) (moved_checkpoint s (record c { tableau = t })) (map (moved_checkpoint s) (with_states ts cs))
        (moved-conjugated c t conjugates.1.propagation.letters (omega (arith, le, order.0)) is conjugates.1.conjugated
        (advanced-on-way (rest-over r) (c.step - i) conjugates.1.propagation conjugates.0 conjugates.1.propagated) s old_step new_step (lengths c (omega (arith, le, order.0)) is) few
        (conjugates.1.qubits ∙ is.qubits))
        (all-moved c.step end cs ts (omega (arith, le, order.0)) order.1 (All-tail (IsCheckpoint n coins xs) c cs are) conjugates.2 (fewer left))
      where
        fewer : (length (t ∷ ts) ≡ length (c ∷ cs)) ⊎ (new.letters ≡ replicate n I) → (length ts ≡ length cs) ⊎ (new.letters ≡ replicate n I)
        fewer (inl same) = inl (omega (arith, same))
        fewer (inr blank) = inr blank

    -- the checkpoints of the old run after both sites, those that the frame came to conjugated, are checkpoints of the new one
    pub rest-checkpoints : All (IsCheckpoint n coins ys) (map (moved_checkpoint s) (with_states conjugated checkpoints))
    rest-checkpoints =
        all-moved i (length xs) checkpoints conjugated (omega arith) r.order r.are_checkpoints r.advanced.checkpoints
        (elim (rest-ends r) [
          | inl all ↦ inl all.1
          | inr ended ↦ inr (ended.blank 0).letters
        ])

  -- if the last that was conjugated has another state, the runs agree at none before it, since they would agree there then
  differing-before : (start end : ℕ) (cs : List Checkpoint) (ts : List TableauState) (j : ℕ) (c : Checkpoint) → i ≤ start → AreInOrder start end cs → All (IsCheckpoint n coins xs) cs
      → ArePropagatedCheckpoints n strings.strings free back i r.advanced.steps old cs ts → IsLastDiffering n cs ts → j < length ts → slice_get cs j ≡ Some c
      → AgreeAt n (point_after n coins (take (c.step - i) back) (point_after n coins (take i xs) origin)) (point_after n coins (take (c.step - i) back) (point_after n coins (take k ys) origin)) → ⊥
  differing-before start end cs [] j c le order are conjugates distinct lt found agree = omega (arith, lt)
  differing-before start end [] (t ∷ ts) j c le order are conjugates distinct lt found agree = conjugates
  differing-before start end (d ∷ cs) (t ∷ []) zero c le order are conjugates distinct lt found agree =
      let same : c ≡ d = cc in
      differs-here d t conjugates.1.propagation.letters (omega (arith, le, order.0)) (All-head (IsCheckpoint n coins xs) d cs are) conjugates.1.conjugated
      (advanced-on-way (rest-over r) (d.step - i) conjugates.1.propagation conjugates.0 conjugates.1.propagated) distinct.0 distinct.1 distinct.2 distinct.3
      (subst (λ (e : Checkpoint). AgreeAt n (point_after n coins (take (e.step - i) back) (point_after n coins (take i xs) origin))
      (point_after n coins (take (e.step - i) back) (point_after n coins (take k ys) origin))) same agree)
  differing-before start end (d ∷ cs) (t ∷ []) (suc j) c le order are conjugates distinct lt found agree = omega (arith, lt)
  differing-before start end (d ∷ []) (t ∷ u ∷ ts) j c le order are conjugates distinct lt found agree = distinct
  differing-before start end (d ∷ e ∷ cs) (t ∷ u ∷ ts) zero c le order are conjugates distinct lt found agree =
      let same : c ≡ d = cc in
      differing-before d.step end (e ∷ cs) (u ∷ ts) zero e (omega (arith, le, order.0)) order.1 (All-tail (IsCheckpoint n coins xs) d (e ∷ cs) are) conjugates.2 distinct (omega arith) refl
      (agree-further n coins back (point_after n coins (take i xs) origin) (point_after n coins (take k ys) origin) (c.step - i) (e.step - i)
      (omega (arith, order.1.0, ap (λ (x : Checkpoint). x.step) same)) agree)
  differing-before start end (d ∷ e ∷ cs) (t ∷ u ∷ ts) (suc j) c le order are conjugates distinct lt found agree =
      differing-before d.step end (e ∷ cs) (u ∷ ts) j c (omega (arith, le, order.0)) order.1 (All-tail (IsCheckpoint n coins xs) d (e ∷ cs) are) conjugates.2 distinct (omega (arith, lt)) found agree

  -- at the first that was not conjugated both agree, as far back as the steps look, and the coins of the one serve the other
  pub rest-agrees : (c : Checkpoint) → slice_get checkpoints (length conjugated) ≡ Some c
      → AgreeBack n window (with_coin (point_after n coins (take (k + (c.step - i)) ys) origin).coin (point_after n coins (take c.step xs) origin))
      (point_after n coins (take (k + (c.step - i)) ys) origin)
      × MayHaveCoin n coins (drop (c.step - i) back) (point_after n coins (take c.step xs) origin) (point_after n coins (take (k + (c.step - i)) ys) origin).coin
  rest-agrees c found =
      subst (λ x. x)
      (λ j. AgreeBack n window (with_coin (sym (new_at (c.step - i)) j).coin (old_is j)) (sym (new_at (c.step - i)) j)
      × MayHaveCoin n coins (drop (c.step - i) back) (old_is j) (sym (new_at (c.step - i)) j).coin)
      (rest-agree r ended (c.step - i) beyond, rest-may r (c.step - i))
    where
      old_is : point_after n coins (take (c.step - i) back) (point_after n coins (take i xs) origin) ≡ point_after n coins (take c.step xs) origin
      old_is = sym (ap (λ m. point_after n coins (take m xs) origin) (site (length conjugated) c found) ∙ old_at (c.step - i))

      beyond : r.advanced.steps ≤ c.step - i
      beyond = subst (λ d. IfSome d (λ e. r.advanced.steps ≤ e.step - i)) found (left-beyond n strings.strings free back i r.advanced.steps old checkpoints conjugated r.advanced.checkpoints)

      ended : IsEnded n window (point_after n coins (take r.advanced.steps back) (point_after n coins (take i xs) origin)) r.advanced.last new
      ended =
          elim (rest-ends r) [
            | inl all ↦ absurd (omega (arith, all.1, slice_get_within checkpoints (length conjugated) c found))
            | inr is ↦ is
          ]

  -- and at none that was conjugated do both agree
  pub rest-differs : (j : ℕ) (c : Checkpoint) → j < length conjugated → slice_get checkpoints j ≡ Some c
      → AgreeAt n (point_after n coins (take c.step xs) origin) (point_after n coins (take (k + (c.step - i)) ys) origin) → ⊥
  rest-differs j c lt found agree =
      elim (r.advanced.differs (omega (arith, lt))) [
        | inl some ↦ rest-differ r (c.step - i) near some both
        | inr distinct ↦ differing-before i (length xs) checkpoints conjugated j c (omega arith) r.order r.are_checkpoints r.advanced.checkpoints distinct lt found both
      ]
    where
      both : AgreeAt n (point_after n coins (take (c.step - i) back) (point_after n coins (take i xs) origin)) (point_after n coins (take (c.step - i) back) (point_after n coins (take k ys) origin))
      both =
          subst (λ p. AgreeAt n p (point_after n coins (take (c.step - i) back) (point_after n coins (take k ys) origin)))
          (ap (λ m. point_after n coins (take m xs) origin) (site j c found) ∙ old_at (c.step - i))
          (subst (AgreeAt n (point_after n coins (take c.step xs) origin)) (new_at (c.step - i)) agree)

      near : c.step - i ≤ r.advanced.steps
      near = subst (λ d. IfSome d (λ e. e.step - i ≤ r.advanced.steps)) found (conjugated-within n strings.strings free back i r.advanced.steps old checkpoints conjugated j r.advanced.checkpoints lt)
