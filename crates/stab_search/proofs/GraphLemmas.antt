-- Graphs: labels that differ by at most 1 along each edge bound the number of errors that flip an observable and no detector.
use Rattle.stab_search.proofs.Names.{◌≡◌, ℕ, zero, suc, ◌+◌, ◌≤◌, ◌<◌, ◌⊎◌, inl, inr, refl, sym, ◌∙◌, ap, subst, arith, Bool, true, false, List, [], ◌∷◌, length, map, get_or, ne_eqb, lt-ltb, le-ltb, ◌==◌, nat_lt, eqb-true, eq-eqb, cases_eq, cases_lt, false≢true, ◌⊕◌, parity-false, parity-self, parity-comm, parity-assoc, parity-mid, parity-twice, Edge, Labels, ErrorTable, odd, row, flipped_by_rows, ForEach, has, edge, AreEdges, RowsFlip, HasAtLeast, label, AreLabels, IsFar, AreCovered}
use Rattle.stab_search.proofs.ListLemmas.{by-bit, each-all, each-has, each-without, without, length-without}
use Rattle.stab_search.proofs.Totals.{total, bits as group, total-append, total-none, odd-total}
use Rattle.stab_search.proofs.FlipLemmas.{flips-without, namer, named_by, odd-named}

-- the nodes of edges, as rows
abbrev ends : List Edge → List (List ℕ)
ends edges = map (λ (e : Edge). e.first ∷ e.second ∷ []) edges

ends-row : (edges : List Edge) (r : ℕ) → r < length edges → row (ends edges) r ≡ (edge edges r).first ∷ (edge edges r).second ∷ []
ends-row [] r lt = absurd (omega arith)
ends-row (e ∷ edges) zero lt = refl
ends-row (e ∷ edges) (suc r) lt = ends-row edges r (omega arith)

total-both : (f g : ℕ → Bool) (xs : List ℕ) → total false ◌⊕◌ (λ i. f i ⊕ g i) xs ≡ total false ◌⊕◌ f xs ⊕ total false ◌⊕◌ g xs
total-both f g [] = refl
total-both f g (x ∷ xs) = ap (λ b. (f x ⊕ g x) ⊕ b) (total-both f g xs) ∙ parity-mid (f x) (g x) (total false ◌⊕◌ f xs) (total false ◌⊕◌ g xs)

-- a bit that is true is within its list
pub true-inside : (bs : List Bool) (k : ℕ) → get_or bs k false ≡ true → k < length bs
true-inside [] k e = absurd (false≢true e)
true-inside (b ∷ bs) zero e = omega arith
true-inside (b ∷ bs) (suc k) e = let later = true-inside bs k e in omega arith

parity-left_out : (a b c : Bool) → (a ⊕ b) ⊕ (c ⊕ a) ≡ c ⊕ b
parity-left_out a b c = ap (λ t. t ⊕ (c ⊕ a)) (parity-comm a b) ∙ parity-mid b a c a ∙ ap (λ t. (b ⊕ c) ⊕ t) (parity-self a) ∙ parity-false (b ⊕ c) ∙ parity-comm b c

module _ (t : ErrorTable) (edges : List Edge) (are : AreEdges t edges) where
  abbrev nodes : List (List ℕ)
  nodes = ends edges

  abbrev Inside : ℕ → Type 0
  Inside r = r < length t.rows

  named : (r x : ℕ) → Inside r → odd x (row nodes r) ≡ ((edge edges r).first == x) ⊕ ((edge edges r).second == x)
  named r x lt =
      ap (odd x) (ends-row edges r (let same = are.count in omega arith))
      ∙ ap (λ b. ((edge edges r).first == x) ⊕ b) (parity-false ((edge edges r).second == x))

  -- edge r has a node
  abbrev HasNode : ℕ → ℕ → Type 0
  HasNode r v = ((edge edges r).first ≡ v) ⊎ ((edge edges r).second ≡ v)

  node-named : (r v : ℕ) → Inside r → odd v (row nodes r) ≡ true → HasNode r v
  node-named r v lt here =
      by-bit ((edge edges r).first == v) (λ e. inl (eqb-true (edge edges r).first v e))
      (λ e. inr (eqb-true (edge edges r).second v (ap (λ b. b ⊕ ((edge edges r).second == v)) (sym e) ∙ sym (named r v lt) ∙ here)))

  -- the edges flip a detector as their rows do

  detector-flips : (xs : List ℕ) → ForEach Inside xs → (d : ℕ) → d < t.detectors → flipped_by_rows nodes xs d ≡ flipped_by_rows t.rows xs d
  detector-flips [] a d lt = refl
  detector-flips (x ∷ xs) a d lt =
      ap (λ b. b ⊕ flipped_by_rows nodes xs d) (named x d a.0 ∙ sym ((are.each x a.0).same d lt))
      ∙ ap (λ b. odd d (row t.rows x) ⊕ b) (detector-flips xs a.1 d lt)

  -- and the boundary an even number of times, if they flip no detector

  node-one : (x : ℕ) → x ≤ t.detectors → nat_lt x t.detectors ⊕ (x == t.detectors) ≡ true
  node-one x le = by_position (cases_lt x t.detectors)
    where
      by_position : (x < t.detectors) ⊎ (t.detectors ≤ x) → nat_lt x t.detectors ⊕ (x == t.detectors) ≡ true
      by_position (inl lt) = ap (λ b. b ⊕ (x == t.detectors)) (lt-ltb x t.detectors lt) ∙ ap (λ b. true ⊕ b) (ne_eqb x t.detectors (λ e. omega arith))
      by_position (inr ge) = ap (λ b. b ⊕ (x == t.detectors)) (le-ltb x t.detectors ge) ∙ eq-eqb x t.detectors (omega arith)

  abbrev one : ℕ → Bool
  one i = nat_lt i t.detectors ⊕ (i == t.detectors)

  ends-even : (xs : List ℕ) → ForEach Inside xs → total false ◌⊕◌ one (named_by nodes xs) ≡ false
  ends-even [] a = refl
  ends-even (x ∷ xs) a =
      total-append _ false ◌⊕◌ group one (row nodes x) (named_by nodes xs)
      ∙ ap (λ b. b ⊕ total false ◌⊕◌ one (named_by nodes xs))
      (ap (λ ys. total false ◌⊕◌ one ys) (ends-row edges x (let same = are.count in let lt = a.0 in omega arith))
      ∙ ap (λ b. b ⊕ (one (edge edges x).second ⊕ false)) (node-one (edge edges x).first (are.each x a.0).first)
      ∙ ap (λ b. true ⊕ (b ⊕ false)) (node-one (edge edges x).second (are.each x a.0).second))
      ∙ ends-even xs a.1

  boundary-even : (xs : List ℕ) → ForEach Inside xs → ((d : ℕ) → d < t.detectors → flipped_by_rows t.rows xs d ≡ false) → flipped_by_rows nodes xs t.detectors ≡ false
  boundary-even xs a undetected =
      sym (odd-named nodes xs t.detectors) ∙ odd-total t.detectors (named_by nodes xs)
      ∙ sym (ap (λ b. b ⊕ total false ◌⊕◌ (λ i. i == t.detectors) (named_by nodes xs)) detectors-even)
      ∙ sym (total-both (λ i. nat_lt i t.detectors) (λ i. i == t.detectors) (named_by nodes xs))
      ∙ ends-even xs a
    where
      even : (i : ℕ) → (i < t.detectors) ⊎ (t.detectors ≤ i) → (odd i (named_by nodes xs) ≡ false) ⊎ (nat_lt i t.detectors ≡ false)
      even i (inl lt) = inl (odd-named nodes xs i ∙ detector-flips xs a i lt ∙ undetected i lt)
      even i (inr ge) = inr (le-ltb i t.detectors ge)

      detectors-even : total false ◌⊕◌ (λ i. nat_lt i t.detectors) (named_by nodes xs) ≡ false
      detectors-even = total-none _ false ◌⊕◌ group (λ i. nat_lt i t.detectors) (named_by nodes xs) (λ i. even i (cases_lt i t.detectors))

  -- no node is flipped
  abbrev Unflipped : List ℕ → Type 0
  Unflipped xs = (x : ℕ) → x ≤ t.detectors → flipped_by_rows nodes xs x ≡ false

  unflipped : (xs : List ℕ) → ForEach Inside xs → ((d : ℕ) → d < t.detectors → flipped_by_rows t.rows xs d ≡ false) → Unflipped xs
  unflipped xs a undetected x le = by_position (cases_lt x t.detectors)
    where
      by_position : (x < t.detectors) ⊎ (t.detectors ≤ x) → flipped_by_rows nodes xs x ≡ false
      by_position (inl lt) = detector-flips xs a x lt ∙ undetected x lt
      by_position (inr ge) = let same : x ≡ t.detectors = omega arith in ap (flipped_by_rows nodes xs) same ∙ boundary-even xs a undetected

  module _ (o : ℕ) (bits : List Bool) (are_bits : RowsFlip t.rows o bits) where
    abbrev bit : ℕ → Bool
    bit r = get_or bits r false

    -- errors that go from a source to a node, and flip the observable by a parity
    record Connects (s : ℕ) (xs : List ℕ) (v : ℕ) (p : Bool) : Type 0 where
      pub inside : ForEach Inside xs
      pub between : (x : ℕ) → x ≤ t.detectors → flipped_by_rows nodes xs x ≡ (s == x) ⊕ (v == x)
      pub parity : flipped_by_rows t.rows xs o ≡ p

    -- without an edge of a node they come to the edge's other node
    led-before : (s : ℕ) (xs : List ℕ) (v : ℕ) (p : Bool) (r w : ℕ) → Connects s xs v p → has r xs ≡ true
        → ((x : ℕ) → odd x (row nodes r) ≡ (v == x) ⊕ (w == x)) → Connects s (without r xs) w (p ⊕ bit r)
    led-before s xs v p r w connects among nodes_are = record {
      inside = each-without Inside r xs connects.inside;
      between = λ x le.
          sym (parity-twice (odd x (row nodes r)) (flipped_by_rows nodes (without r xs) x))
          ∙ ap (λ b. odd x (row nodes r) ⊕ b) (sym (flips-without nodes r xs x among) ∙ connects.between x le)
          ∙ ap (λ b. b ⊕ ((s == x) ⊕ (v == x))) (nodes_are x)
          ∙ parity-left_out (v == x) (w == x) (s == x);
      parity =
          sym (parity-twice (odd o (row t.rows r)) (flipped_by_rows t.rows (without r xs) o))
          ∙ ap (λ b. odd o (row t.rows r) ⊕ b) (sym (flips-without t.rows r xs o among) ∙ connects.parity)
          ∙ ap (λ b. b ⊕ p) (sym (are_bits.each r (each-has Inside r xs connects.inside among)))
          ∙ parity-comm (bit r) p;
    }

    module _ (s bound : ℕ) (l : Labels) (is : AreLabels edges bits s bound l) where
      -- labels are no more than the number of errors, if they are for fewer errors
      label-step : (xs : List ℕ) (v : ℕ) (p : Bool) (r : ℕ) → Connects s xs v p → has r xs ≡ true → HasNode r v
          → ((ys : List ℕ) (w : ℕ) (q : Bool) → length xs ≡ suc (length ys) → w ≤ t.detectors → Connects s ys w q → label l w q ≤ length ys)
          → label l v p ≤ length xs
      label-step xs v p r connects among here fewer = by_node here
        where
          lt : r < length t.rows
          lt = each-has Inside r xs connects.inside among

          less : r < length edges
          less = let same = are.count in let h = lt in omega arith

          shorter : length xs ≡ suc (length (without r xs))
          shorter = length-without r xs among

          by_first : (edge edges r).first ≡ v → label l v p ≤ length xs
          by_first same =
              let led = led-before s xs v p r (edge edges r).second connects among (λ x. named r x lt ∙ ap (λ k. (k == x) ⊕ ((edge edges r).second == x)) same) in
              let fewer_label = fewer (without r xs) (edge edges r).second (p ⊕ bit r) shorter (are.each r lt).second led in
              let near : label l v p ≤ label l (edge edges r).second (p ⊕ bit r) + 1 =
              subst (λ k. label l k p ≤ label l (edge edges r).second (p ⊕ bit r) + 1) same (is.along r less p).0 in
              let count = shorter in
              omega arith

          by_second : (edge edges r).second ≡ v → label l v p ≤ length xs
          by_second same =
              let led = led-before s xs v p r (edge edges r).first connects among
              (λ x. named r x lt ∙ parity-comm ((edge edges r).first == x) ((edge edges r).second == x) ∙ ap (λ k. (k == x) ⊕ ((edge edges r).first == x)) same) in
              let fewer_label = fewer (without r xs) (edge edges r).first (p ⊕ bit r) shorter (are.each r lt).first led in
              let back : (p ⊕ bit r) ⊕ bit r ≡ p = parity-assoc p (bit r) (bit r) ∙ ap (λ b. p ⊕ b) (parity-self (bit r)) ∙ parity-false p in
              let near : label l v p ≤ label l (edge edges r).first (p ⊕ bit r) + 1 =
              subst (λ q. label l v q ≤ label l (edge edges r).first (p ⊕ bit r) + 1) back
              (subst (λ k. label l k ((p ⊕ bit r) ⊕ bit r) ≤ label l (edge edges r).first (p ⊕ bit r) + 1) same (is.along r less (p ⊕ bit r)).1) in
              let count = shorter in
              omega arith

          by_node : HasNode r v → label l v p ≤ length xs
          by_node (inl same) = by_first same
          by_node (inr same) = by_second same

      module _ (n : ℕ) (none : (xs : List ℕ) → ForEach Inside xs → length xs < n → Unflipped xs → flipped_by_rows t.rows xs o ≡ false) where
        label-here : (xs : List ℕ) (v : ℕ) (p : Bool) → length xs < n → Connects s xs v p → s ≡ v → label l v p ≤ length xs
        label-here xs v p lt connects same =
            let unflipped_here = none xs connects.inside lt (λ x le. connects.between x le ∙ ap (λ k. (s == x) ⊕ (k == x)) (sym same) ∙ parity-self (s == x)) in
            let even : p ≡ false = sym connects.parity ∙ unflipped_here in
            let none_there : label l v p ≡ 0 = ap (label l v) even ∙ ap (λ k. label l k false) (sym same) ∙ is.begin in
            omega arith

        label-most : (k : ℕ) (xs : List ℕ) (v : ℕ) (p : Bool) → length xs < k → length xs < n → v ≤ t.detectors → Connects s xs v p → label l v p ≤ length xs
        label-most zero xs v p short lt le connects = absurd (omega arith)
        label-most (suc k) xs v p short lt le connects = by_position (λ ys w q. label-most k ys w q) (cases_eq s v)
          where
            by_position : ((ys : List ℕ) (w : ℕ) (q : Bool) → length ys < k → length ys < n → w ≤ t.detectors → Connects s ys w q → label l w q ≤ length ys)
                → (s ≡ v) ⊎ (s ≡ v → ⊥) → label l v p ≤ length xs
            by_position fewer (inl same) = label-here xs v p lt connects same
            by_position fewer (inr other) =
                let found = namer nodes xs v (connects.between v le ∙ ap (λ b. b ⊕ (v == v)) (ne_eqb s v other) ∙ eq-eqb v v refl) in
                let lt_rows = each-has Inside found.0 xs connects.inside found.1.0 in
                label-step xs v p found.0 connects found.1.0 (node-named found.0 v lt_rows found.1.1) (λ ys w q count less led. fewer ys w q (omega arith) (omega arith) less led)

        -- an odd cycle with an edge of the source has as many errors as the bound
        cycle-far : (xs : List ℕ) (r : ℕ) → ForEach Inside xs → length xs ≤ n → Unflipped xs → flipped_by_rows t.rows xs o ≡ true → has r xs ≡ true → HasNode r s
            → bound ≤ length xs
        cycle-far xs r a le unflipped_xs odd_xs among here =
            let connects : Connects s xs s true = record { inside = a; between = λ x less. unflipped_xs x less ∙ sym (parity-self (s == x)); parity = odd_xs } in
            let most = label-step xs s true r connects among here (λ ys w q count less led. label-most n ys w q (omega arith) (omega arith) less led) in
            let far = is.far in
            omega arith

    -- labels from a node of each edge that flips the observable

    module _ (sources : List Bool) (bound : ℕ) (covered : AreCovered edges bits sources)
        (far : (s : ℕ) → get_or sources s false ≡ true → IsFar edges bits s bound) where
      far-odd : (n : ℕ) (none : (xs : List ℕ) → ForEach Inside xs → length xs < n → Unflipped xs → flipped_by_rows t.rows xs o ≡ false)
          (xs : List ℕ) → ForEach Inside xs → length xs ≤ n → Unflipped xs → flipped_by_rows t.rows xs o ≡ true → bound ≤ length xs
      far-odd n none xs a le unflipped_xs odd_xs =
          let found = namer t.rows xs o odd_xs in
          let lt = each-has Inside found.0 xs a found.1.0 in
          by_node found.0 found.1.0 (covered found.0 (let same = are.count in omega arith) (are_bits.each found.0 lt ∙ found.1.1))
        where
          from : (r s : ℕ) → has r xs ≡ true → HasNode r s → get_or sources s false ≡ true → bound ≤ length xs
          from r s among here is_source =
              let labels = far s is_source in
              cycle-far s bound labels.0 labels.1 n none xs r a le unflipped_xs odd_xs among here

          by_node : (r : ℕ) → has r xs ≡ true → (get_or sources (edge edges r).first false ≡ true) ⊎ (get_or sources (edge edges r).second false ≡ true) → bound ≤ length xs
          by_node r among (inl is_source) = from r (edge edges r).first among (inl refl) is_source
          by_node r among (inr is_source) = from r (edge edges r).second among (inr refl) is_source

      none-fewer : (n : ℕ) → n ≤ bound → (xs : List ℕ) → ForEach Inside xs → length xs < n → Unflipped xs → flipped_by_rows t.rows xs o ≡ false
      none-fewer zero le xs a lt unflipped_xs = absurd (omega arith)
      none-fewer (suc n) le xs a lt unflipped_xs =
          next (none-fewer n (omega arith))
        where
          next : ((ys : List ℕ) → ForEach Inside ys → length ys < n → Unflipped ys → flipped_by_rows t.rows ys o ≡ false) → flipped_by_rows t.rows xs o ≡ false
          next none =
              by-bit (flipped_by_rows t.rows xs o)
              (λ odd_xs. let more = far-odd n none xs a (omega arith) unflipped_xs odd_xs in absurd (omega arith))
              (λ even. even)

      pub at-least : HasAtLeast t o bound
      at-least xs inside undetected odd_xs = by_length (cases_lt (length xs) bound)
        where
          a : ForEach Inside xs
          a = each-all Inside xs inside

          by_length : (length xs < bound) ⊎ (bound ≤ length xs) → bound ≤ length xs
          by_length (inl lt) = absurd (false≢true (sym (none-fewer bound (omega arith) xs a lt (unflipped xs a undetected)) ∙ odd_xs))
          by_length (inr le) = le
