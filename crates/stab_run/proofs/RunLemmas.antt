-- Runs: steps one after another, and how the program follows each.
use Rattle.stab_run.proofs.Names.{◌≡◌, ℕ, ◌+◌, refl, sym, ◌∙◌, ap, subst, Bool, true, false, ◌&&◌, List, [], ◌∷◌, ◌++◌, append_assoc, append-nil, All, length, take-append_seam, drop-append_seam, All-take, All-drop, length-append, Letter, I, ◌⊕◌, Signed, single, Gate, back, Event, projected, member, is_random, SameGroup, outcome_by, is_random_by, projected_by, length-one_letter, same-applied, same-projected, same-outcome, same-random, Factor, Step, one, collapse, product, detector, parity, when, string_of, gate_of, flip_of, applied_where, outcome_at, Point, RunOutput, nothing, joined, given, trace_after, coins_of, next_point, point_after, outputs, StepFits, ProgramState, IsAt, ProgramComesTo, IsRun, applied_by}
use Rattle.stab_run.proofs.ProductLemmas.{length-string_of}

-- outputs one after another

pub joined-nothing : (a : RunOutput) → joined a nothing ≡ a
joined-nothing a = λ i. record {
  records = append-nil a.records i;
  free = append-nil a.free i;
  outcomes = append-nil a.outcomes i;
  detectors = append-nil a.detectors i;
  additions = append-nil a.additions i;
}

pub joined-assoc : (a b c : RunOutput) → joined (joined a b) c ≡ joined a (joined b c)
joined-assoc a b c = λ i. record {
  records = append_assoc a.records b.records c.records i;
  free = append_assoc a.free b.free c.free i;
  outcomes = append_assoc a.outcomes b.outcomes c.outcomes i;
  detectors = append_assoc a.detectors b.detectors c.detectors i;
  additions = append_assoc a.additions b.additions c.additions i;
}

pub after-append : (n : ℕ) (coins : ℕ → Bool) (xs ys : List Step) (p : Point) → point_after n coins (xs ++ ys) p ≡ point_after n coins ys (point_after n coins xs p)
after-append n coins [] ys p = refl
after-append n coins (x ∷ xs) ys p = after-append n coins xs ys (next_point n coins x p)

pub outputs-append : (n : ℕ) (coins : ℕ → Bool) (xs ys : List Step) (p : Point)
    → outputs n coins (xs ++ ys) p ≡ joined (outputs n coins xs p) (outputs n coins ys (point_after n coins xs p))
outputs-append n coins [] ys p = refl
outputs-append n coins (x ∷ xs) ys p =
    ap (joined (given n coins x p)) (outputs-append n coins xs ys (next_point n coins x p))
    ∙ sym (joined-assoc (given n coins x p) (outputs n coins xs (next_point n coins x p)) (outputs n coins ys (point_after n coins xs (next_point n coins x p))))

-- runs of the program one after another

pub IsRun-none : (n : ℕ) (coins : ℕ → Bool) (a : ProgramState) → IsRun n coins [] a a
IsRun-none n coins a = λ p s. record { shows = s; output = sym (joined-nothing a.output) }

pub IsRun-append : (n : ℕ) (coins : ℕ → Bool) (xs ys : List Step) (a b c : ProgramState) → IsRun n coins xs a b → IsRun n coins ys b c → IsRun n coins (xs ++ ys) a c
IsRun-append n coins xs ys a b c f g = λ p s.
    let front = f p s in
    let back = g (point_after n coins xs p) front.shows in
    record {
      shows = subst (IsAt n c) (sym (after-append n coins xs ys p)) back.shows;
      output =
          back.output
          ∙ ap (λ o. joined o (outputs n coins ys (point_after n coins xs p))) front.output
          ∙ joined-assoc a.output (outputs n coins xs p) (outputs n coins ys (point_after n coins xs p))
          ∙ ap (joined a.output) (sym (outputs-append n coins xs ys p));
    }

pub IsRun-same : (n m : ℕ) (c d : ℕ → Bool) (xs : List Step) (a b : ProgramState) → m ≡ n → d ≡ c → IsRun m d xs a b → IsRun n c xs a b
IsRun-same n m c d xs a b same_size same_coins f = subst (λ k. IsRun k c xs a b) same_size (subst (λ s. IsRun m s xs a b) same_coins f)

-- one step: if the group is right, so is all that follows from the output

one-run : (n : ℕ) (coins : ℕ → Bool) (x : Step) (a b : ProgramState) (p : Point) → IsAt n a p
    → SameGroup n b.stabilised (member (trace_after n coins x p))
    → length (given n coins x p).free ≡ coins_of x → b.output ≡ joined a.output (given n coins x p) → ProgramComesTo n coins (x ∷ []) a b p
one-run n coins x a b p s group randomness output = record {
  shows = record {
    group = group;
    coin =
        ap (λ (o : RunOutput). length o.free) output
        ∙ length-append a.output.free (given n coins x p).free
        ∙ (λ i. s.coin i + randomness i);
    records = ap (λ (o : RunOutput). o.records) output ∙ ap (λ r. r ++ (given n coins x p).records) s.records;
  };
  output = output ∙ ap (joined a.output) (sym (joined-nothing (given n coins x p)));
}

-- a gate on a qubit
pub run-gate : (n m : ℕ) (coins : ℕ → Bool) (g : Gate) (q : ℕ) (a b : Signed → Bool) (output : RunOutput) → m ≡ n
    → ((p : Signed) → length p.letters ≡ m → b p ≡ a (back g q p))
    → IsRun n coins (one g q ∷ []) (record { stabilised = a; output = output }) (record { stabilised = b; output = output })
run-gate n m coins g q a b output same members = λ p s.
    one-run n coins (one g q) (record { stabilised = a; output = output }) (record { stabilised = b; output = output }) p s
    (λ r lr. members r (lr ∙ sym same) ∙ same-applied n a (member p.trace) g q s.group r lr)
    refl (sym (joined-nothing output))

-- a detector, whose parity is gathered
pub run-detector : (n : ℕ) (coins : ℕ → Bool) (ks : List ℕ) (a : Signed → Bool) (old new : RunOutput) → new.records ≡ old.records → new.free ≡ old.free → new.outcomes ≡ old.outcomes
    → new.detectors ≡ old.detectors ++ parity old.records ks ∷ [] → new.additions ≡ old.additions
    → IsRun n coins (detector ks ∷ []) (record { stabilised = a; output = old }) (record { stabilised = a; output = new })
run-detector n coins ks a old new records free outcomes detectors additions = λ p s.
    one-run n coins (detector ks) (record { stabilised = a; output = old }) (record { stabilised = a; output = new }) p s s.group refl
    (λ i. record {
      records = (records ∙ sym (append-nil old.records)) i;
      free = (free ∙ sym (append-nil old.free)) i;
      outcomes = (outcomes ∙ sym (append-nil old.outcomes)) i;
      detectors = (detectors ∙ ap (λ r. old.detectors ++ parity r ks ∷ []) s.records) i;
      additions = (additions ∙ sym (append-nil old.additions)) i;
    })

-- what the program does if it measures a string with some outcome: it projects, applies a letter to a qubit if it resets
-- an outcome 1, and gathers the flag and the record
pub record IsMeasurement (n : ℕ) (m : Signed) (l : Letter) (q : ℕ) (recorded inverted resets : Bool) (bit : Bool) (a b : ProgramState) : Type 0 where
  pub measured : Signed → Bool
  pub projects : (r : Signed) → length r.letters ≡ n → measured r ≡ projected_by a.stabilised m bit r
  pub flips : (r : Signed) → length r.letters ≡ n → b.stabilised r ≡ applied_by (resets && bit) l q measured r
  pub output : b.output ≡ record a.output {
    records = a.output.records ++ when recorded (inverted ⊕ bit);
    free = a.output.free ++ is_random_by a.stabilised m ∷ [];
    outcomes = a.output.outcomes ++ bit ∷ [];
  }

applied-group : (n : ℕ) (bit : Bool) (l : Letter) (q : ℕ) (u : Signed → Bool) (t : List Event) → SameGroup n u (member t)
    → SameGroup n (applied_by bit l q u) (member (applied_where bit l q t))
applied-group n true l q u t same = same-applied n u (member t) (gate_of l) q same
applied-group n false l q u t same = same

joined-measured : (a : RunOutput) (rs fs os : List Bool) → joined a (record nothing { records = rs; free = fs; outcomes = os })
    ≡ record a { records = a.records ++ rs; free = a.free ++ fs; outcomes = a.outcomes ++ os }
joined-measured a rs fs os = λ i. record {
  records = a.records ++ rs;
  free = a.free ++ fs;
  outcomes = a.outcomes ++ os;
  detectors = append-nil a.detectors i;
  additions = append-nil a.additions i;
}

module _ (n : ℕ) (coins : ℕ → Bool) (m : Signed) (size : length m.letters ≡ n) (l : Letter) (q : ℕ) (recorded inverted resets bit : Bool) (a b : ProgramState)
    (bit_is : bit ≡ outcome_by a.stabilised m (coins (length a.output.free))) (h : IsMeasurement n m l q recorded inverted resets bit a b)
    (p : Point) (s : IsAt n a p) where
  same_bit : bit ≡ outcome_at coins m p.trace p.coin
  same_bit =
      bit_is
      ∙ ap (λ t. outcome_by a.stabilised m (coins t)) s.coin
      ∙ same-outcome n a.stabilised (member p.trace) m size s.group (coins p.coin)

  measured-group : (r : Signed) → length r.letters ≡ n
      → b.stabilised r ≡ member (applied_where (resets && outcome_at coins m p.trace p.coin) l q (projected m (outcome_at coins m p.trace p.coin) ∷ p.trace)) r
  measured-group r lr =
      h.flips r lr
      ∙ applied-group n (resets && bit) l q h.measured (projected m bit ∷ p.trace)
      (λ w lw. h.projects w lw ∙ same-projected n a.stabilised (member p.trace) m bit size s.group w lw) r lr
      ∙ ap (λ o. member (applied_where (resets && o) l q (projected m o ∷ p.trace)) r) same_bit

  measured-output : b.output ≡ joined a.output (record nothing {
    records = when recorded (inverted ⊕ outcome_at coins m p.trace p.coin);
    free = is_random p.trace m ∷ [];
    outcomes = outcome_at coins m p.trace p.coin ∷ [];
  })
  measured-output =
      h.output
      ∙ (λ i. record a.output {
        records = a.output.records ++ when recorded (inverted ⊕ same_bit i);
        free = a.output.free ++ same-random n a.stabilised (member p.trace) m size s.group i ∷ [];
        outcomes = a.output.outcomes ++ same_bit i ∷ [];
      })
      ∙ sym (joined-measured a.output (when recorded (inverted ⊕ outcome_at coins m p.trace p.coin)) (is_random p.trace m ∷ []) (outcome_at coins m p.trace p.coin ∷ []))

pub run-collapse : (n : ℕ) (coins : ℕ → Bool) (x : Step) (l : Letter) (q : ℕ) (recorded inverted resets : Bool)
    → x ≡ collapse l q recorded inverted resets → (a b : ProgramState) (bit : Bool)
    → bit ≡ outcome_by a.stabilised (single n q l) (coins (length a.output.free))
    → IsMeasurement n (single n q l) (flip_of l) q recorded inverted resets bit a b → IsRun n coins (x ∷ []) a b
run-collapse n coins x l q recorded inverted resets is a b bit bit_is h =
    subst (λ x. IsRun n coins (x ∷ []) a b) (sym is)
    (λ p s. one-run n coins (collapse l q recorded inverted resets) a b p s
    (measured-group n coins (single n q l) (length-one_letter n q l) (flip_of l) q recorded inverted resets bit a b bit_is h p s) refl
    (measured-output n coins (single n q l) (length-one_letter n q l) (flip_of l) q recorded inverted resets bit a b bit_is h p s))

-- a product is no reset, so nothing is applied
pub run-product : (n : ℕ) (coins : ℕ → Bool) (x : Step) (factors : List Factor) (inverted : Bool)
    → x ≡ product factors inverted → (m : Signed) → m ≡ string_of n factors → (a b : ProgramState) (bit : Bool)
    → bit ≡ outcome_by a.stabilised m (coins (length a.output.free))
    → ((r : Signed) → length r.letters ≡ n → b.stabilised r ≡ projected_by a.stabilised m bit r)
    → b.output ≡ record a.output {
      records = a.output.records ++ (inverted ⊕ bit) ∷ [];
      free = a.output.free ++ is_random_by a.stabilised m ∷ [];
      outcomes = a.output.outcomes ++ bit ∷ [];
    } → IsRun n coins (x ∷ []) a b
run-product n coins x factors inverted is m m_is a b bit m_outcome m_projects output =
    subst (λ x. IsRun n coins (x ∷ []) a b) (sym is)
    (λ p s. one-run n coins (product factors inverted) a b p s
    (measured-group n coins (string_of n factors) (length-string_of n factors) I 0 true inverted false bit a b bit_is h p s) refl
    (measured-output n coins (string_of n factors) (length-string_of n factors) I 0 true inverted false bit a b bit_is h p s))
  where
    bit_is : bit ≡ outcome_by a.stabilised (string_of n factors) (coins (length a.output.free))
    bit_is = m_outcome ∙ ap (λ w. outcome_by a.stabilised w (coins (length a.output.free))) m_is

    h : IsMeasurement n (string_of n factors) I 0 true inverted false bit a b
    h = record {
      measured = b.stabilised;
      projects = λ r lr. m_projects r lr ∙ ap (λ w. projected_by a.stabilised w bit r) m_is;
      flips = λ r lr. refl;
      output =
          output
          ∙ (λ i. record a.output { records = a.output.records ++ (inverted ⊕ bit) ∷ []; free = a.output.free ++ is_random_by a.stabilised (m_is i) ∷ []; outcomes = a.output.outcomes ++ bit ∷ [] });
    }

-- the first of the steps that are left, and the others

pub fits-steps : (n m : ℕ) (xs ys rest : List Step) → xs ≡ ys ++ rest → m ≡ n → All (StepFits n) xs → All (StepFits m) ys × All (StepFits m) rest
fits-steps n m xs ys rest e same fits =
    let all : All (StepFits m) (ys ++ rest) = subst (λ k. All (StepFits k) (ys ++ rest)) (sym same) (subst (All (StepFits n)) e fits) in (
      subst (All (StepFits m)) (take-append_seam ys rest) (All-take (StepFits m) (length ys) (ys ++ rest) all),
      subst (All (StepFits m)) (drop-append_seam ys rest) (All-drop (StepFits m) (length ys) (ys ++ rest) all),
    )
