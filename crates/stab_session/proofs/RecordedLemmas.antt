-- Stored runs: what is stored of the run of no steps, where a replay begins, and what is stored of the run that it ends.
use Rattle.stab_session.proofs.Names.{◌≡◌, ℕ, refl, sym, ◌∙◌, ap, subst, Bool, false, List, [], ◌∷◌, length, All, None, replicate, arith, take_all, drop_all, All-nil, All-cons, Signed, member, SameGroup, stabilises, Step, Checkpoint, Recording, RunOutput, nothing, origin, point_after, outputs, with_additions, StepFits, output_of, IsSpaced, lengths_of, IsCheckpoint, checkpoint_steps, IsRecording, Follows, PivotsState, most_strings}
use Rattle.stab_recording.proofs.RecordedReplayLemmas.{has_pivots-nothing}

-- the run of no steps

first-spaced : (K s : ℕ) → s ≡ 0 → IsSpaced K 0 (s ∷ [])
first-spaced K s e = subst (λ s. IsSpaced K 0 (s ∷ [])) (sym e) (record { first = refl; near = (omega arith, omega arith, tt); sparse = tt })

pub preserved-nothing : (n : ℕ) (coins : ℕ → Bool) (K : ℕ) (r : Recording) (c : Checkpoint) → r.tableau.qubits ≡ n
    → ((p : Signed) → length p.letters ≡ n → stabilises r.tableau p ≡ member [] p) → output_of r.outputs ≡ nothing → r.observables.items ≡ []
    → r.checkpoints.items ≡ c ∷ [] → c.step ≡ 0 → c.lengths ≡ lengths_of nothing → c.tableau ≡ r.tableau
    → r.strings ≡ record { qubits = n; most = most_strings n; strings = [] } → IsRecording n coins K [] 0 r
preserved-nothing n coins K r c qubits zeros empty none one first short same without_pivots = record {
  qubits = qubits;
  run = record { group = zeros; output = empty };
  observables = none ∙ ap (λ (o : RunOutput). with_additions o.additions (replicate 0 false)) (sym empty);
  fits = All-nil (StepFits n);
  few = omega arith;
  has_pivots = has_pivots-nothing n coins r.strings r.outputs.free.items r.window without_pivots (ap (λ (o : RunOutput). o.free) empty);
  few_strings = omega (arith, ap (λ (s : PivotsState). s.most) without_pivots);
  checkpoints = subst (All (IsCheckpoint n coins [])) (sym one) (All-cons (IsCheckpoint n coins []) c [] (record {
    within = omega arith;
    qubits = ap (λ t. t.qubits) same ∙ qubits;
    group =
        subst (λ xs. SameGroup n (stabilises c.tableau) (member (point_after n coins xs origin).trace)) (sym (take_all c.step [] (omega arith)))
        (λ p size. ap (λ t. stabilises t p) same ∙ zeros p size);
    lengths = short ∙ ap (λ xs. lengths_of (outputs n coins xs origin)) (sym (take_all c.step [] (omega arith)));
  }) (All-nil (IsCheckpoint n coins [])));
  spaced = subst (λ cs. IsSpaced K 0 (checkpoint_steps cs)) (sym one) (first-spaced K c.step first);
}

-- any steps follow it: all of them are put in
pub nothing-follows : (n : ℕ) (coins : ℕ → Bool) (K : ℕ) (r : Recording) → IsRecording n coins K [] 0 r → (ys : List Step) (end : ℕ) → end ≡ length ys
    → Follows r.tableau.qubits coins K ys (record { first = 0; old_end = 0; new_end = end }) None r
nothing-follows n coins K r preserved ys end is = record {
  old = [];
  count = 0;
  preserved = subst (λ m. IsRecording m coins K [] 0 r) (sym preserved.qubits) preserved;
  span = record {
    old_order = omega arith;
    new_order = omega arith;
    old_within = omega arith;
    new_within = omega (arith, is);
    before = refl;
    following = sym (drop_all end ys (omega (arith, is)));
  };
  differ = tt;
}
