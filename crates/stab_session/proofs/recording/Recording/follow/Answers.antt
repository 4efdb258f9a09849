use Rattle.stab_session.proofs.Names.{All, HasDistinctQubits, ◌≡◌, ℕ, Bool, ◌∙◌, subst, arith, Some, IfSome, IfOk, unroll, observables_of, circuit_items, Recording, Follows, HasConjugated}
use Rattle.stab_session.specs.FollowedEdits.{HasFollowed}
use Rattle.stab_session.proofs.recording.Recording.follow.Given.{Over}
use Rattle.stab_session.proofs.recording.Recording.follow.Goals as goal
use Rattle.stab_session.proofs.recording.Recording.follow.Goals.{In-Some-2, in-Some+in_ok-followed+in_default-2, in_default}

-- if the run was conjugated
conjugated : (g : Over) (c : In-Some-2 g) → HasConjugated c.args.self.now.tableau.qubits (g.C.Coins.sequence c.args.coins.now) c.args.stride (unroll (circuit_items c.args.circuit.now))
    (observables_of (circuit_items c.args.circuit.now)) c.args.span c.args.self.now c.in-Some-2.followed c.conjugate.new.self
conjugated g c =
    subst (λ o. IfSome o (λ f. (coins : ℕ → Bool) →
    Follows c.args.self.now.tableau.qubits coins c.args.stride (unroll (circuit_items c.args.circuit.now)) c.args.span (Some c.in-Some.change) c.args.self.now →
    HasConjugated c.args.self.now.tableau.qubits coins c.args.stride (unroll (circuit_items c.args.circuit.now)) (observables_of (circuit_items c.args.circuit.now)) c.args.span c.args.self.now f c.conjugate.new.self))
    c.in-Some-2.is c.in_ok-followed.ensures.conjugated (g.C.Coins.sequence c.args.coins.now)
    (subst (λ p. Follows c.args.self.now.tableau.qubits (g.C.Coins.sequence c.args.coins.now) c.args.stride (unroll (circuit_items c.args.circuit.now)) c.args.span p c.args.self.now) c.in-Some.is
    c.requires.follows)

pub replay-requires-clause-tried : goal.replay-requires-clause-tried
replay-requires-clause-tried g c =
    elim c.match-paulis.branch [
      | in-Some+in_ok-followed+in_default-2 w ↦ omega (arith, w.tried-is, w.in_ok-followed.ensures.tried)
      | in_default w ↦ omega (arith, w.tried-is)
    ]

pub returns-in-Some-2-clause-followed : goal.returns-in-Some-2-clause-followed
returns-in-Some-2-clause-followed g c =
    let done = conjugated g (goal.at.returns-in-Some-2-clause-followed g c).In-Some-2 in
    let none : c.in-Some-2.followed.tried ≡ 0 = subst (λ o. IfSome o (λ f. f.tried ≡ 0)) c.in-Some-2.is c.in_ok-followed.ensures.none_in_vain in
    record {
      preserved = done.preserved;
      distinct = subst (λ o. IfSome o (λ _. All HasDistinctQubits (unroll (circuit_items c.args.circuit.now)))) c.in-Some-2.is c.in_ok-followed.ensures.distinct;
      way = done.way;
      tried = omega (arith, none);
      asks = omega arith;
      asks_random = omega arith;
    }

pub returns-clause-followed : goal.returns-clause-followed
returns-clause-followed g c =
    let same : c.match-paulis.self ≡ c.args.self.now =
    elim c.match-paulis.branch [
      | in-Some+in_ok-followed+in_default-2 w ↦ w.self-is ∙ w.in_ok-followed.ensures.none w.in_default-2.is
      | in_default w ↦ w.self-is
    ] in
    subst (λ (r : Recording). IfOk c.replay.result (λ f. HasFollowed r.tableau.qubits (g.C.Coins.sequence c.args.coins.now) c.args.stride (unroll (circuit_items c.args.circuit.now))
    (observables_of (circuit_items c.args.circuit.now)) c.args.span (g.C.Coins.asks c.args.coins.now) (g.C.Coins.asks c.replay.new.coins) r f c.replay.new.self)) same c.replay.ensures.followed
