-- Starts of frames: the frame by which a run differs from a checkpoint of a run, and the two points that differ by it.
use Rattle.stab_recording.proofs.Names.{◌≡◌, ℕ, zero, suc, ◌+◌, ◌-◌, ◌≤◌, refl, sym, ◌∙◌, ap, subst, Bool, false, inl, inr, List, [], ◌∷◌, ◌++◌, All, length, take, drop, get_or, replicate, arith, length-append, length-drop, length-take-le, take-append-drop, take-take, take_at, drop_at, All-take, I, ◌⊕◌, Signed, with_sign, strings_anticommute, string_product, string_product-blank, member, IsStabiliserGroup, TableauState, stabilises, IsConjugated, Step, Lengths, looked_up, ones, Point, RunOutput, nothing, origin, point_after, outputs, StepFits, program_state, AgreeBack, with_coin, records-are-records, looked_up-near, flipped, PointsDifferBy, PropagationState, frame_at, DiffersBack, group-origin, length-flipped, flipped-differing, Checkpoint, IsRunFromStart, IsCheckpoint, AreCompared, IsFrameFrom}
use Rattle.stab_recording.proofs.RunCheckpointLemmas.{checkpoint-before, lengths-within, records-at}

-- if two lists are the same at first, nothing differs

same-bit : (a b : Bool) → a ≡ b → false ≡ (b ⊕ a)
same-bit a b e = grind arith

differing-after : (base : ℕ) (bits others : List Bool) → length others ≡ length bits → base ≤ length bits → take base bits ≡ take base others
    → replicate base false ++ flipped (drop base bits) (drop base others) ≡ flipped bits others
differing-after zero bits others size le same = refl
differing-after (suc base) [] others size le same = absurd (omega arith)
differing-after (suc base) (a ∷ bits) [] size le same = absurd (omega (arith, size))
differing-after (suc base) (a ∷ bits) (b ∷ others) size le same =
    λ i. same-bit a b (ap (λ l. get_or l 0 false) same) i
    ∷ differing-after base bits others (omega (arith, size)) (omega arith) (ap (drop 1) same) i

-- the frame found from a checkpoint
pub frame-found : (t : TableauState) (o old : RunOutput) (base window n m : ℕ) (c : Checkpoint) (string : Signed) (bits others : List Bool) (v u w : PropagationState) → n ≡ t.qubits
    → c.tableau.qubits ≡ t.qubits → length string.letters ≡ t.qubits → IsConjugated c.tableau.qubits string.letters (stabilises c.tableau) (stabilises t)
    → AreCompared o base window c m
    → v ≡ record { letters = replicate n I; flips = nothing; coin = c.lengths.free; number = ones (take c.lengths.free old.free) }
    → u ≡ record v { letters = string_product v.letters string.letters }
    → bits ≡ drop (c.lengths.records - m) (take c.lengths.records old.records) → others ≡ drop (length o.records - m) o.records
    → w ≡ record u { flips = record u.flips { records = u.flips.records ++ flipped bits others } } → IsFrameFrom t o old base window c w
frame-found t o old base window n m c string bits others v u w qubits alike long conjugated compared begun times bits_are others_are flips = record {
  size = ap length letters ∙ long;
  conjugated = subst (λ k. IsConjugated k w.letters (stabilises c.tableau) (stabilises t)) alike (subst (λ l. IsConjugated c.tableau.qubits l (stabilises c.tableau) (stabilises t)) (sym letters) conjugated);
  compared = m;
  are_compared = compared;
  flips =
      ap (λ (x : PropagationState). x.flips) flips
      ∙ ap (λ (x : PropagationState). record x.flips { records = x.flips.records ++ flipped bits others }) (times ∙ ap (λ (x : PropagationState). record x { letters = string_product x.letters string.letters }) begun)
      ∙ (λ i. record nothing { records = flipped (bits_are i) (others_are i) });
  coin = coin;
  placed =
      ap (λ (x : PropagationState). x.number) (flips ∙ ap (λ (x : PropagationState). record x { flips = record x.flips { records = x.flips.records ++ flipped bits others } }) times)
      ∙ ap (λ (x : PropagationState). x.number) begun
      ∙ ap (λ k. ones (take k old.free)) (sym coin);
}
  where
    letters : w.letters ≡ string.letters
    letters =
        ap (λ (x : PropagationState). x.letters) flips
        ∙ ap (λ (x : PropagationState). x.letters) times
        ∙ ap (λ (x : PropagationState). string_product x.letters string.letters) begun
        ∙ string_product-blank n string.letters (long ∙ sym qubits)

    coin : w.coin ≡ c.lengths.free
    coin = ap (λ (x : PropagationState). x.coin) flips ∙ ap (λ (x : PropagationState). x.coin) times ∙ ap (λ (x : PropagationState). x.coin) begun

-- the frame from a checkpoint begins at a point that has the newest records of the checkpoint's run, and the other one's numbers
module _ (n : ℕ) (coins : ℕ → Bool) (xs ys : List Step) (k : ℕ) (c : Checkpoint) (t : TableauState) (o old : RunOutput) (base window : ℕ) (w : PropagationState)
    (qubits : t.qubits ≡ n) (is : IsCheckpoint n coins xs c) (preserved : old ≡ outputs n coins xs origin) (run : IsRunFromStart n coins (take k ys) (program_state t o))
    (within : base ≤ length o.records) (same : take base o.records ≡ take base old.records) (fits : All (StepFits n) xs)
    (from : IsFrameFrom t o old base window c w) where
  abbrev pub here : Point
  here = point_after n coins (take c.step xs) origin

  abbrev pub there : Point
  there = point_after n coins (take k ys) origin

  -- the records of the checkpoint's run there
  abbrev olds : List Bool
  olds = take c.lengths.records old.records

  abbrev count : ℕ
  count = length o.records - from.compared

  abbrev recent : List Bool
  recent = drop (c.lengths.records - from.compared) (take c.lengths.records old.records)

  abbrev pub seen_at : Point
  seen_at = record {
    trace = (point_after n coins (take c.step xs) origin).trace;
    coin = (point_after n coins (take k ys) origin).coin;
    records = take (length o.records - from.compared) o.records ++ drop (c.lengths.records - from.compared) (take c.lengths.records old.records);
  }

  pub own : o.records ≡ there.records
  own = ap (λ (q : RunOutput). q.records) run.output ∙ records-are-records n coins (take k ys)

  pub olds_are : olds ≡ here.records
  olds_are = records-at n coins xs old c is preserved

  pub short : length olds ≡ c.lengths.records
  short =
      ap length olds_are
      ∙ ap length (sym (records-are-records n coins (take c.step xs)))
      ∙ sym (ap (λ (l : Lengths). l.records) is.lengths)

  few : AreCompared o base window c from.compared → (from.compared ≤ length o.records) × (from.compared ≤ c.lengths.records)
  few (inl alike) = (omega (arith, alike.2), omega (arith, alike.1, alike.2))
  few (inr moved) = (moved.1, moved.2)

  compared-here : from.compared ≤ length o.records
  compared-here = (few from.are_compared).0

  compared-there : from.compared ≤ c.lengths.records
  compared-there = (few from.are_compared).1

  recent-long : length recent ≡ from.compared
  recent-long = omega (arith, length-drop (c.lengths.records - from.compared) olds, short, compared-there)

  front-long : length (take count o.records) ≡ count
  front-long = length-take-le count o.records (omega arith)

  seen-long : length there.records ≡ length seen_at.records
  seen-long = omega (arith, ap length own, length-append (take count o.records) recent, front-long, recent-long, compared-here)

  take-short : (i m : ℕ) (bits : List Bool) → i ≤ m → take i bits ≡ take i (take m bits)
  take-short i m bits le = sym (take-take i m bits le)

  -- where both have as many records and the same number of the next coin
  pub seen-same : (length o.free ≡ c.lengths.free) × (length o.records ≡ c.lengths.records) × (from.compared + base ≡ length o.records) → seen_at.records ≡ here.records
  seen-same alike =
      (λ i. take (counted i) o.records ++ drop (following i) olds)
      ∙ (λ i. (same ∙ take-short base c.lengths.records old.records (omega (arith, alike.1, within))) i ++ drop base olds)
      ∙ take-append-drop base olds
      ∙ olds_are
    where
      counted : count ≡ base
      counted = omega (arith, alike.2)

      following : c.lengths.records - from.compared ≡ base
      following = omega (arith, alike.1, alike.2)

  as-far : AreCompared o base window c from.compared → (j : ℕ) → j ≤ window → looked_up here.records j ≡ looked_up seen_at.records j
  as-far (inl alike) j le = ap (λ l. looked_up l j) (sym (seen-same alike))
  as-far (inr moved) j le =
      ap (λ l. looked_up l j) (sym olds_are ∙ sym (take-append-drop (c.lengths.records - from.compared) olds))
      ∙ looked_up-near (take (c.lengths.records - from.compared) olds) recent j (omega (arith, recent-long, moved.0, le))
      ∙ sym (looked_up-near (take count o.records) recent j (omega (arith, recent-long, moved.0, le)))

  flips_are : (frame_at count w).flips ≡ flipped seen_at.records there.records
  flips_are =
      ap (λ (q : RunOutput). replicate count false ++ q.records) from.flips
      ∙ (λ i. replicate count false ++ flipped (sym (drop_at (take count o.records) recent count front-long) i) (drop count (own i)))
      ∙ differing-after count seen_at.records there.records seen-long
      (omega (arith, length-append (take count o.records) recent, front-long))
      (take_at (take count o.records) recent count front-long ∙ ap (take count) own)

  pub seen-group : IsStabiliserGroup n (member seen_at.trace)
  seen-group = group-origin n coins (take c.step xs) (All-take (StepFits n) c.step xs fits)

  pub seen-agrees : AgreeBack n window (with_coin seen_at.coin here) seen_at
  seen-agrees = record { group = λ p size. refl; coin = refl; records = as-far from.are_compared }

  pub seen-differs : PointsDifferBy n (frame_at count w) seen_at there
  seen-differs = record {
    size = from.size ∙ qubits;
    group = λ p size.
        sym (run.group p size)
        ∙ from.conjugated p (size ∙ sym qubits)
        ∙ is.group (with_sign (strings_anticommute w.letters p.letters) p) size;
    coin = refl;
    count = ap length flips_are ∙ length-flipped seen_at.records there.records;
    records = sym (flipped-differing seen_at.records there.records seen-long) ∙ ap (flipped seen_at.records) (sym flips_are);
  }

-- the frame from a checkpoint of the same run
pub frame-again : (n : ℕ) (coins : ℕ → Bool) (ys : List Step) (k : ℕ) (c : Checkpoint) (t : TableauState) (o : RunOutput) (window : ℕ) (w : PropagationState)
    → t.qubits ≡ n → IsCheckpoint n coins ys c → c.step ≤ k → k ≤ length ys → IsRunFromStart n coins (take k ys) (program_state t o) → All (StepFits n) ys
    → (from : IsFrameFrom t o o c.lengths.records window c w)
    → DiffersBack n window (frame_at (length o.records - from.compared) w) (point_after n coins (take c.step ys) origin) (point_after n coins (take k ys) origin)
frame-again n coins ys k c t o window w qubits is before within run fits from = record {
  seen = seen_at n coins (take k ys) ys k c t o o c.lengths.records window w qubits checkpoint run.output run shorter refl fit from;
  group = seen-group n coins (take k ys) ys k c t o o c.lengths.records window w qubits checkpoint run.output run shorter refl fit from;
  agree =
      subst (λ zs. AgreeBack n window (with_coin (point_after n coins (take k ys) origin).coin (point_after n coins zs origin)) (seen_at n coins (take k ys) ys k c t o o c.lengths.records window w qubits checkpoint run.output run shorter refl fit from))
      (take-take c.step k ys before)
      (seen-agrees n coins (take k ys) ys k c t o o c.lengths.records window w qubits checkpoint run.output run shorter refl fit from);
  by_frame = seen-differs n coins (take k ys) ys k c t o o c.lengths.records window w qubits checkpoint run.output run shorter refl fit from;
}
  where
    checkpoint : IsCheckpoint n coins (take k ys) c
    checkpoint = checkpoint-before n coins ys k c is before within

    shorter : c.lengths.records ≤ length o.records
    shorter = (lengths-within n coins (take k ys) o c checkpoint run.output).1

    fit : All (StepFits n) (take k ys)
    fit = All-take (StepFits n) k ys fits
