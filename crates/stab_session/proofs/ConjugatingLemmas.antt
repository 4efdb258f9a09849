-- Conjugating: what a frame needs that is propagated over the steps after a span, and what is made of a recording then.
use Rattle.stab_session.proofs.Names.{◌≡◌, ℕ, ◌+◌, ◌-◌, ◌^◌, ◌<◌, ◌≤◌, sym, ◌∙◌, ap, subst, Bool, List, [], ◌∷◌, length, take, drop, All, Some, get_or, arith, IfSome, length-append, length-drop, length-take, drop-take, All-drop, get_or_from_slice_get, take-add, Letter, TableauState, Step, Span, Lengths, Point, RunOutput, joined, origin, point_after, outputs, lengths_of, HasAtMost, outputs-short, cut, Checkpoint, IsCheckpoint, outputs-append, longer, AreBelow, PropagationState, AreInOrder, ArePropagatedCheckpoints, IsRestFrame, Recording, IsRecording, IsSpan, IsCheckpointCount}
use Rattle.std.specs.Prelude.{slice_get}
use Rattle.stab_session.proofs.SpacingLemmas.{IsBefore}
use Rattle.stab_session.proofs.FollowLemmas.{at-get, before-first, same-rest, all-qubits}
use Rattle.stab_session.proofs.ConjugateSpacingLemmas.{in-order}

-- lists that others are put after
lengths-longer : (a b c : RunOutput) → c ≡ joined a b
    → longer (lengths_of a) (lengths_of b) ≡ lengths_of c
lengths-longer a b c is = (λ i. record {
  records = sym (length-append a.records b.records) i;
  free = sym (length-append a.free b.free) i;
  detectors = sym (length-append a.detectors b.detectors) i;
  additions = sym (length-append a.additions b.additions) i;
}) ∙ ap lengths_of (sym is)

-- checkpoints from one after a span on

module _ {n : ℕ} {coins : ℕ → Bool} {K : ℕ} {xs ys : List Step} {s : Span} {old : Recording} (count : ℕ) (preserved : IsRecording n coins K xs count old) (span : IsSpan xs ys s) where
  pub following-order : (j : ℕ) → IfSome (slice_get old.checkpoints.items j) (λ c. s.old_end ≤ c.step)
      → AreInOrder s.old_end (s.old_end + length (drop s.new_end ys)) (drop j old.checkpoints.items)
  following-order j stays =
      subst (λ L. AreInOrder s.old_end L (drop j old.checkpoints.items))
      (let w = span.old_within in omega (arith, length-drop s.new_end ys, same-rest n coins K xs count old preserved ys s span))
      (in-order K (length xs) s.old_end j old.checkpoints.items preserved.spaced.near span.old_within stays)

  pub following-qubits : (j k : ℕ) → k ≡ n → All (λ c. c.tableau.qubits ≡ k) (drop j old.checkpoints.items)
  following-qubits j k e = All-drop (λ c. c.tableau.qubits ≡ k) j old.checkpoints.items (all-qubits n coins K xs count old preserved ys s span k e)

module _ {n : ℕ} {coins : ℕ → Bool} {K : ℕ} {xs ys : List Step} {s : Span} {old : Recording} {m : ℕ} (count : ℕ) (preserved : IsRecording n coins K xs count old) (span : IsSpan xs ys s)
    (few : length ys ≤ 1048576) (counted : IsCheckpointCount (s.first + 1) old.checkpoints.items m) where
  abbrev pub before : IsBefore K (length xs) s.first m old.checkpoints.items
  before = before-first n coins K xs count old preserved ys s span m counted.within counted.before counted.following

  pub checkpoint-is : (c : Checkpoint) → c ≡ get_or old.checkpoints.items (m - 1) c → slice_get old.checkpoints.items (m - 1) ≡ Some c
  checkpoint-is c e = before.here ∙ ap (λ d. Some d) (sym (e ∙ get_or_from_slice_get old.checkpoints.items (m - 1) before.checkpoint c before.here))

  module _ (c : Checkpoint) (here : slice_get old.checkpoints.items (m - 1) ≡ Some c) where
    is : IsCheckpoint n coins xs c
    is = at-get (IsCheckpoint n coins xs) old.checkpoints.items (m - 1) c preserved.checkpoints here

    pub checkpoint-before : c.step ≤ s.first
    checkpoint-before =
        let same : before.checkpoint ≡ c = (let e : Some before.checkpoint ≡ Some c = sym before.here ∙ here in cc) in
        subst (λ (d : Checkpoint). d.step ≤ s.first) same before.within

    pub checkpoint-within : c.step ≤ length ys
    checkpoint-within = let o = span.new_order in let w = span.new_within in omega (arith, checkpoint-before)

    pub checkpoint-below : AreBelow (2 ^ 63) (length (drop c.step ys)) c.lengths
    checkpoint-below = subst (AreBelow (2 ^ 63) (length (drop c.step ys))) (sym is.lengths) (record {
      records = let r = short.records in omega (arith, r, some, rest);
      free = let r = short.free in omega (arith, r, some, rest);
      detectors = let r = short.detectors in omega (arith, r, some, rest);
      additions = let r = short.additions in omega (arith, r, some, rest);
    })
      where
        short : HasAtMost (length (take c.step xs)) (outputs n coins (take c.step xs) origin)
        short = outputs-short n coins (take c.step xs) origin

        some : length (take c.step xs) ≤ length ys
        some = omega (arith, length-take c.step xs, checkpoint-within)

        rest : length (drop c.step ys) ≤ length ys
        rest = omega (arith, length-drop c.step ys)

    -- how long the lists are before the span
    pub from-is : (from : Lengths) → ((k : ℕ) (others : ℕ → Bool) (a : Point) → from ≡ longer c.lengths (lengths_of (outputs k others (take (s.first - c.step) (drop c.step ys)) a)))
        → from ≡ lengths_of (outputs n coins (take s.first xs) origin)
    from-is from counts =
        counts n coins (point_after n coins (take c.step xs) origin)
        ∙ (λ i. longer (is.lengths i) (lengths_of (outputs n coins (between i) (point_after n coins (take c.step xs) origin))))
        ∙ lengths-longer (outputs n coins (take c.step xs) origin) (outputs n coins (take (s.first - c.step) (drop c.step xs)) (point_after n coins (take c.step xs) origin))
        (outputs n coins (take s.first xs) origin)
        (ap (λ zs. outputs n coins zs origin)
        (ap (λ k. take k xs) (omega (arith, checkpoint-before)) ∙ take-add c.step (s.first - c.step) xs)
        ∙ outputs-append n coins (take c.step xs) (take (s.first - c.step) (drop c.step xs)) origin)
      where
        between : take (s.first - c.step) (drop c.step ys) ≡ take (s.first - c.step) (drop c.step xs)
        between =
            sym (drop-take c.step (s.first - c.step) ys)
            ∙ ap (drop c.step) (ap (λ k. take k ys) (omega (arith, checkpoint-before)) ∙ sym span.before ∙ ap (λ k. take k xs) (omega (arith, checkpoint-before)))
            ∙ drop-take c.step (s.first - c.step) xs

    module _ (from : Lengths) (counts : (k : ℕ) (others : ℕ → Bool) (a : Point)
        → from ≡ longer c.lengths (lengths_of (outputs k others (take (s.first - c.step) (drop c.step ys)) a))) where
      pub from-within : from.free ≤ length old.outputs.free.items
      from-within =
          omega (
            arith,
            ap (λ (l : Lengths). l.free) (from-is from counts),
            ap (λ (o : RunOutput). length o.free) (preserved.run.output ∙ cut n coins xs s.first),
            length-append (outputs n coins (take s.first xs) origin).free (outputs n coins (drop s.first xs) (point_after n coins (take s.first xs) origin)).free,
          )

      pub from-few : (k : ℕ) → from.free + length (drop k ys) < 2 ^ 62
      from-few k =
          let short = (outputs-short n coins (take s.first xs) origin).free in
          let o = span.new_order in
          let w = span.new_within in
          omega (arith, ap (λ (l : Lengths). l.free) (from-is from counts), short, length-take s.first xs, length-drop k ys, few, o, w)

-- no more checkpoints were conjugated than there are
conjugated-few : (k : ℕ) (strings : List (List Letter)) (free : List Bool) (back : List Step) (from steps : ℕ) (w : PropagationState) (cs : List Checkpoint) (ts : List TableauState)
    → ArePropagatedCheckpoints k strings free back from steps w cs ts → length ts ≤ length cs
conjugated-few k strings free back from steps w cs [] are = omega arith
conjugated-few k strings free back from steps w [] (t ∷ ts) are = absurd are
conjugated-few k strings free back from steps w (c ∷ cs) (t ∷ ts) are = let le = conjugated-few k strings free back from steps w cs ts are.2 in omega arith

pub advanced-few : (k : ℕ) (strings : List (List Letter)) (free : List Bool) (window : ℕ) (back : List Step) (from m : ℕ) (cs : List Checkpoint) (ts : List TableauState) (w v : PropagationState)
    → IsRestFrame k strings free window back from (drop m cs) ts w v → m ≤ length cs → length ts + m ≤ length cs
advanced-few k strings free window back from m cs ts w v advanced within =
    let le = conjugated-few k strings free back from advanced.steps w (drop m cs) ts advanced.checkpoints in
    omega (arith, length-drop m cs, within)
