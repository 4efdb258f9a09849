-- Sites: a frame between two runs on its way past the sites of a change.
use Rattle.stab_session.proofs.Names.{◌≡◌, ℕ, zero, suc, ◌+◌, ◌-◌, ◌<◌, ◌≤◌, min, refl, sym, ◌∙◌, ap, subst, Bool, List, [], ◌∷◌, ◌++◌, append_assoc, All, length, map, take, drop, Option, get_or, arith, drop-drop, drop-take, drop_at, take_at, take-take, length-append, length-drop, All-nil, All-cons, All-append, All-get_or, Letter, string_product, TableauState, stabilises, IsConjugated, Step, Span, RunOutput, PropagationState, PropagatesOver, Checkpoint, IsCheckpoint, AreEnoughBy, interleaved, DifferAtSites, IsFrameBetween, IsBeforePiece, IsBeforeSites, PauliChange}
use Rattle.stab_session.proofs.FrameBetweenLemmas.{between-steps, between-gates, between-checkpoint}
use Rattle.stab_session.proofs.PauliSpanLemmas.{old-left, new-left}

-- it went past this many sites
pub record IsUnderWay (n : ℕ) (coins : ℕ → Bool) (xs ys : List Step) (strings : ℕ → Option (List Letter)) (free : List Bool) (base : ℕ) (front : RunOutput)
    (s : Span) (change : PauliChange) (olds news : List Step) (j old new : ℕ) (left : List Step) (w : PropagationState) : Type 0 where
  pub between : IsFrameBetween n coins xs ys strings free base front old new w
  pub left_is : left ≡ drop new ys
  pub pieces : List (List Step)
  pub lengths : map length pieces ≡ drop j change.gaps.items
  pub old_left : drop old xs ≡ interleaved olds pieces ++ drop s.old_end xs
  pub new_left : drop new ys ≡ interleaved news pieces ++ drop s.new_end ys

-- the first of some lengths
first-length : (pieces : List (List Step)) (j g : ℕ) (gaps : List ℕ) → map length pieces ≡ drop j gaps → j < length gaps → g ≡ get_or gaps j 0
    → (p : List Step) × (more : List (List Step)) × (pieces ≡ p ∷ more) × (length p ≡ g) × (map length more ≡ drop (suc j) gaps)
first-length pieces j g [] e lt is = absurd (omega (arith, lt))
first-length [] zero g (h ∷ gaps) e lt is = absurd (cc)
first-length (p ∷ more) zero g (h ∷ gaps) e lt is = (
  p,
  more,
  refl,
  (let first : length p ≡ h = cc in first ∙ sym is),
  (let rest : map length more ≡ gaps = cc in rest),
)
first-length pieces (suc j) g (h ∷ gaps) e lt is = first-length pieces j g gaps e (omega (arith, lt)) is

module _ {n : ℕ} {coins : ℕ → Bool} {xs ys : List Step} {strings : ℕ → Option (List Letter)} {free : List Bool} {base : ℕ} {front : RunOutput} {s : Span} {change : PauliChange} where
  pub under-way-first : {left : List Step} {w : PropagationState} (b : IsBeforeSites n coins xs ys strings free base front s change left w)
      → IsUnderWay n coins xs ys strings free base front s change b.differ.differ.old_gates b.differ.differ.new_gates 0 s.first s.first left w
  under-way-first b = record {
    between = b.between;
    left_is = b.left_is;
    pieces = b.differ.differ.pieces;
    lengths = b.differ.differ.lengths;
    old_left = old-left b.differ.old_order b.differ.new_order b.differ.differ;
    new_left = new-left b.differ.old_order b.differ.new_order b.differ.differ;
  }

  module _ (d : DifferAtSites n xs ys s change) {old new : ℕ} {left : List Step} {w : PropagationState} where
    -- past all sites it is at the end of the span
    pub under-way-last : (j : ℕ) → length change.gaps.items ≤ j → IsUnderWay n coins xs ys strings free base front s change d.differ.old_gates d.differ.new_gates j old new left w
        → IsFrameBetween n coins xs ys strings free base front s.old_end s.new_end w
    under-way-last j all u = by-pieces u.pieces u.lengths u.old_left u.new_left
      where
        by-pieces : (pieces : List (List Step)) → map length pieces ≡ drop j change.gaps.items → drop old xs ≡ interleaved d.differ.old_gates pieces ++ drop s.old_end xs
            → drop new ys ≡ interleaved d.differ.new_gates pieces ++ drop s.new_end ys → IsFrameBetween n coins xs ys strings free base front s.old_end s.new_end w
        by-pieces [] e old_left new_left =
            subst (λ k. IsFrameBetween n coins xs ys strings free base front s.old_end k w)
            (let w = u.between.new_within in let v = d.new_within in omega (arith, ap length new_left, length-drop new ys, length-drop s.new_end ys, w, v))
            (subst (λ k. IsFrameBetween n coins xs ys strings free base front k new w)
            (let w = u.between.old_within in let v = d.old_within in omega (arith, ap length old_left, length-drop old xs, length-drop s.old_end xs, w, v)) u.between)
        by-pieces (p ∷ more) e old_left new_left = absurd (omega (arith, ap length e, length-drop j change.gaps.items, all))

    module _ (j gap : ℕ) (lt : j < length change.gaps.items) (is : gap ≡ get_or change.gaps.items j 0)
        (u : IsUnderWay n coins xs ys strings free base front s change d.differ.old_gates d.differ.new_gates j old new left w) where
      next : (p : List Step) × (more : List (List Step)) × (u.pieces ≡ p ∷ more) × (length p ≡ gap) × (map length more ≡ drop (suc j) change.gaps.items)
      next = first-length u.pieces j gap change.gaps.items u.lengths lt is

      abbrev old_more : List Step
      old_more = next.0 ++ (interleaved d.differ.old_gates next.1 ++ drop s.old_end xs)

      abbrev new_more : List Step
      new_more = next.0 ++ (interleaved d.differ.new_gates next.1 ++ drop s.new_end ys)

      distinct : (olds more back : List Step) → olds ++ (next.0 ++ more) ++ back ≡ olds ++ (next.0 ++ (more ++ back))
      distinct olds more back = append_assoc olds (next.0 ++ more) back ∙ ap (λ l. olds ++ l) (append_assoc next.0 more back)

      old_is : drop old xs ≡ d.differ.old_gates ++ old_more
      old_is =
          u.old_left
          ∙ ap (λ pieces. interleaved d.differ.old_gates pieces ++ drop s.old_end xs) next.2
          ∙ distinct d.differ.old_gates (interleaved d.differ.old_gates next.1) (drop s.old_end xs)

      new_is : drop new ys ≡ d.differ.new_gates ++ new_more
      new_is =
          u.new_left
          ∙ ap (λ pieces. interleaved d.differ.new_gates pieces ++ drop s.new_end ys) next.2
          ∙ distinct d.differ.new_gates (interleaved d.differ.new_gates next.1) (drop s.new_end ys)

      old_there : drop (old + change.old) xs ≡ old_more
      old_there = sym (drop-drop change.old old xs) ∙ ap (drop change.old) old_is ∙ drop_at d.differ.old_gates old_more change.old d.differ.old_counted

      new_there : drop (new + change.new) ys ≡ new_more
      new_there = sym (drop-drop change.new new ys) ∙ ap (drop change.new) new_is ∙ drop_at d.differ.new_gates new_more change.new d.differ.new_counted

      -- the runs have this many steps

      old_long : (old + change.old) + gap ≤ length xs
      old_long =
          omega (
            arith,
            ap length old_is,
            length-append d.differ.old_gates old_more,
            length-append next.0 (interleaved d.differ.old_gates next.1 ++ drop s.old_end xs),
            length-drop old xs,
            d.differ.old_counted,
            next.3,
            u.between.old_within,
          )

      new_long : (new + change.new) + gap ≤ length ys
      new_long =
          omega (
            arith,
            ap length new_is,
            length-append d.differ.new_gates new_more,
            length-append next.0 (interleaved d.differ.new_gates next.1 ++ drop s.new_end ys),
            length-drop new ys,
            d.differ.new_counted,
            next.3,
            u.between.new_within,
          )

      module _ (old_next new_next : ℕ) (old_sum : old_next ≡ min (old + change.old) 18446744073709551615) (new_sum : new_next ≡ min (new + change.new) 18446744073709551615) where
        old_at : old_next ≡ old + change.old
        old_at = let f = d.old_few in omega (arith, old_sum, old_long, f)

        new_at : new_next ≡ new + change.new
        new_at = let f = d.new_few in omega (arith, new_sum, new_long, f)

        -- at the next site it takes the letters of the gates
        pub under-way-gates : (left_next : List Step) (v : PropagationState) → left_next ≡ drop change.new left → v ≡ record w { letters = string_product w.letters change.string.letters }
            → IsBeforePiece n coins xs ys strings free base front old_next new_next gap left_next v
        under-way-gates left_next v rest conjugated = record {
          between =
              subst (λ x. x) (λ i. IsFrameBetween n coins xs ys strings free base front (sym old_at i) (sym new_at i) (sym conjugated i))
              (subst (λ x. x) (λ i. IsFrameBetween n coins xs ys strings free base front (old + d.differ.old_counted i) (new + d.differ.new_counted i)
              (record w { letters = string_product w.letters change.string.letters }))
              (between-gates u.between d.differ.old_letter d.differ.new_letter d.differ.old_qubits d.differ.new_qubits d.differ.old_gates d.differ.new_gates change.string.letters d.differ.old_are d.differ.new_are
              d.differ.product old_more new_more old_is new_is));
          left_is = rest ∙ ap (drop change.new) u.left_is ∙ drop-drop change.new new ys ∙ ap (λ k. drop k ys) (sym new_at);
          shared =
              ap (λ k. take gap (drop k xs)) old_at
              ∙ ap (take gap) old_there
              ∙ take_at next.0 (interleaved d.differ.old_gates next.1 ++ drop s.old_end xs) gap next.3
              ∙ sym (take_at next.0 (interleaved d.differ.new_gates next.1 ++ drop s.new_end ys) gap next.3)
              ∙ ap (take gap) (sym new_there)
              ∙ ap (λ k. take gap (drop k ys)) (sym new_at);
          old_within = omega (arith, old_at, old_long);
          new_within = omega (arith, new_at, new_long);
          few = d.new_few;
        }

        -- and after the piece there it is before the site after it
        pub under-way-next : (old_after new_after : ℕ) (left_next left_after : List Step) (v : PropagationState) → left_next ≡ drop change.new left → left_after ≡ drop gap left_next
            → old_after ≡ min (old_next + gap) 18446744073709551615 → new_after ≡ min (new_next + gap) 18446744073709551615
            → IsFrameBetween n coins xs ys strings free base front (old_next + gap) (new_next + gap) v
            → IsUnderWay n coins xs ys strings free base front s change d.differ.old_gates d.differ.new_gates (j + 1) old_after new_after left_after v
        under-way-next old_after new_after left_next left_after v rest following old_sum_after new_sum_after there = record {
          between = subst (λ x. x) (λ i. IsFrameBetween n coins xs ys strings free base front (sym old_is_at i) (sym new_is_at i) v) there;
          left_is =
              following
              ∙ ap (drop gap) (rest ∙ ap (drop change.new) u.left_is ∙ drop-drop change.new new ys ∙ ap (λ k. drop k ys) (sym new_at))
              ∙ drop-drop gap new_next ys
              ∙ ap (λ k. drop k ys) (sym new_is_at);
          pieces = next.1;
          lengths = next.4 ∙ ap (λ k. drop k change.gaps.items) {x = suc j} {y = j + 1} (omega arith);
          old_left =
              ap (λ k. drop k xs) (old_is_at ∙ ap (λ k. k + gap) old_at)
              ∙ sym (drop-drop gap (old + change.old) xs)
              ∙ ap (drop gap) old_there
              ∙ drop_at next.0 (interleaved d.differ.old_gates next.1 ++ drop s.old_end xs) gap next.3;
          new_left =
              ap (λ k. drop k ys) (new_is_at ∙ ap (λ k. k + gap) new_at)
              ∙ sym (drop-drop gap (new + change.new) ys)
              ∙ ap (drop gap) new_there
              ∙ drop_at next.0 (interleaved d.differ.new_gates next.1 ++ drop s.new_end ys) gap next.3;
        }
          where
            old_is_at : old_after ≡ old_next + gap
            old_is_at = let f = d.old_few in omega (arith, old_sum_after, old_at, old_long, f)

            new_is_at : new_after ≡ new_next + gap
            new_is_at = let f = d.new_few in omega (arith, new_sum_after, new_at, new_long, f)

-- a frame between two runs on its way over a piece that both have

module _ {n : ℕ} {coins : ℕ → Bool} {xs ys : List Step} {strings : ℕ → Option (List Letter)} {free : List Bool} {base : ℕ} {front : RunOutput} {old new gap : ℕ} {left : List Step} {w : PropagationState}
    (b : IsBeforePiece n coins xs ys strings free base front old new gap left w) where
  pub piece-on : (gone following : ℕ) (now later : PropagationState) (here : List Step) → gone ≤ following → following ≤ gap → here ≡ drop gone left
      → IsFrameBetween n coins xs ys strings free base front (old + gone) (new + gone) now → (k : ℕ) → k ≡ n → PropagatesOver k strings (take (following - gone) here) now later
      → AreEnoughBy k strings free here (following - gone) now → IsFrameBetween n coins xs ys strings free base front (old + following) (new + following) later
  piece-on gone following now later here from to here_is there k size propagated enough =
      subst (λ x. x) (λ i. IsFrameBetween n coins xs ys strings free base front (sum old i) (sum new i) later)
      (between-steps there (following - gone) later (half old xs ∙ ap (λ zs. take (following - gone) (drop gone zs)) b.shared ∙ sym (half new ys))
      (omega (arith, from, to, b.old_within)) (omega (arith, from, to, b.new_within))
      (subst (λ x. x) (λ i. PropagatesOver (size i) strings (take (following - gone) (left_is i)) now later) propagated)
      (subst (λ x. x) (λ i. AreEnoughBy (size i) strings free (left_is i) (following - gone) now) enough))
    where
      left_is : here ≡ drop (new + gone) ys
      left_is = here_is ∙ ap (drop gone) b.left_is ∙ drop-drop gone new ys

      sum : (i : ℕ) → i + gone + (following - gone) ≡ i + following
      sum i = omega (arith, from)

      half : (i : ℕ) (zs : List Step) → take (following - gone) (drop (i + gone) zs) ≡ take (following - gone) (drop gone (take gap (drop i zs)))
      half i zs =
          ap (take (following - gone)) (sym (drop-drop gone i zs))
          ∙ sym (take-take (following - gone) (gap - gone) (drop gone (drop i zs)) (omega (arith, from, to)))
          ∙ ap (take (following - gone)) (sym (drop-take gone (gap - gone) (drop i zs)))
          ∙ ap (λ m. take (following - gone) (drop gone (take m (drop i zs)))) {x = gone + (gap - gone)} {y = gap} (omega (arith, from, to))

  -- a checkpoint that is there is made one of the new run
  pub checkpoint-on : (following : ℕ) (v : PropagationState) → following ≤ gap → IsFrameBetween n coins xs ys strings free base front (old + following) (new + following) v
      → (checkpoints passed after : List Checkpoint) (j : ℕ) (c : Checkpoint) (t : TableauState) (letters : List Letter) (step : ℕ) → c ≡ get_or checkpoints j c → j < length checkpoints
      → old + following ≡ c.step → step ≡ min (new + following) 18446744073709551615 → t.qubits ≡ c.tableau.qubits → letters ≡ v.letters
      → IsConjugated c.tableau.qubits letters (stabilises c.tableau) (stabilises t) → after ≡ passed ++ record { step = step; lengths = c.lengths; tableau = t } ∷ []
      → All (IsCheckpoint n coins xs) checkpoints → All (IsCheckpoint n coins ys) passed → All (IsCheckpoint n coins ys) after
  checkpoint-on following v to there checkpoints passed after j c t letters step same lt at sum qubits read conjugated put are before =
      subst (All (IsCheckpoint n coins ys)) (sym put)
      (All-append (IsCheckpoint n coins ys) passed (record { step = step; lengths = c.lengths; tableau = t } ∷ []) before
      (All-cons (IsCheckpoint n coins ys) (record { step = step; lengths = c.lengths; tableau = t }) []
      (subst (λ k. IsCheckpoint n coins ys (record { step = k; lengths = c.lengths; tableau = t })) (sym site)
      (between-checkpoint there c t (sym at) is qubits (subst (λ x. x) (λ i. IsConjugated (is.qubits i) (read i) (stabilises c.tableau) (stabilises t)) conjugated)))
      (All-nil (IsCheckpoint n coins ys))))
    where
      is : IsCheckpoint n coins xs c
      is = subst (IsCheckpoint n coins xs) (sym same) (All-get_or (IsCheckpoint n coins xs) checkpoints j c lt are)

      site : step ≡ new + following
      site = omega (arith, sum, to, b.new_within, b.few)
