use Rattle.stab_recording.proofs.Names.{◌≡◌, ℕ, ◌+◌, ◌<◌, ◌≤◌, ◌∙◌, sym, ap, subst, Bool, true, List, Option, Some, length, Repeat, Checkpoint, Recurrence, Plan, Replay, IsOnWay, with_folded, IsFolding, with_state, with_cursor}
use Rattle.std.proofs.Common.{IfSome}
use Rattle.stab_recording.proofs.FoldedReplayLemmas.{folding-named}
use Rattle.stab_recording.proofs.ProgressLemmas.{further-on, costs-on}
use Rattle.stab_recording.proofs.replay.Replay.give_on.Goals as goal

pub give_once-requires-clause-folding : goal.give_once-requires-clause-folding
give_once-requires-clause-folding g c =
    let inv = c.giving.invariant in
    let t = c.requires.folding in (
      t.0,
      t.1,
      t.2,
      t.3,
      t.4,
      t.5,
      c.giving.passed,
      folding-named t.0 t.1 t.2 t.3 t.4 t.5 c.args.end c.giving.passed c.giving.self c.giving.found (sym (ap (λ (r : Replay). r.tableau.qubits) inv.rest)) (sym inv.same_coins) (sym inv.further.all)
          (inv.way t.0 t.1 t.2 t.3 t.4 t.5 t.6),
    )

pub returns-in_default-clause-way : goal.returns-in_default-clause-way
returns-in_default-clause-way g c = λ begin p checkpoints old next block folding.
    subst (λ (r : Replay). IsOnWay c.args.self.now.tableau.qubits (g.C.Coins.sequence c.args.coins.now) begin p c.args.self.now.cursor.all checkpoints old next (with_cursor c.args.self.now.cursor.all (with_state c.giving.passed r)))
    (sym ((c.in_ok-later.ensures {u = tt}).stays c.in_default.is))
    (c.giving.invariant.way begin p checkpoints old next block folding).may.way

-- what holds of an element that there is
some-one : {X : Type 0} (P : X → Type 0) (o : Option X) (x : X) → o ≡ Some x → IfSome o P → P x
some-one P o x is = subst (λ q. IfSome q P) is

pub giving-preserved : goal.giving-preserved
giving-preserved g c =
    let inv = c.giving.invariant in
    let old = c.giving.self in
    let new = c.give_once.new.self in
    let later = c.in-Some.later in
    let done = c.give_once.ensures in
    let gave = c.in_ok-later.ensures {u = tt} in
    let qubits : old.tableau.qubits ≡ c.args.self.now.tableau.qubits = ap (λ (r : Replay). r.tableau.qubits) inv.rest in
    record {
      in_range = (some-one (λ (e : Recurrence). (old.step < new.step) × (new.step ≤ c.args.end) × (e.number + 1 < length new.saved.items)) _ later c.in-Some.is gave.given).2;
      rest = done.rest ∙ ap (λ r. with_folded r new) inv.rest;
      further = further-on _ _ _ _ _ _ inv.further done.further;
      same_coins = done.same_coins ∙ inv.same_coins;
      costs = costs-on _ _ _ _ _ _ inv.costs gave.costs;
      way = λ begin p checkpoints preserved next block folding.
          folding-named begin p checkpoints preserved next block c.args.end true new later qubits inv.same_coins inv.further.all
          (some-one (λ (e : Recurrence). (begin : ℕ) (p : Plan) (checkpoints : List Checkpoint) (old : List Bool) (next : ℕ) (block : Repeat) (passed : Bool)
          → IsFolding c.giving.self.tableau.qubits (g.C.Coins.sequence c.giving.coins) begin p c.giving.self.cursor.all checkpoints old next block c.args.end passed c.giving.self c.giving.found
          → IsFolding c.giving.self.tableau.qubits (g.C.Coins.sequence c.giving.coins) begin p c.giving.self.cursor.all checkpoints old next block c.args.end true new e) _ later c.in-Some.is gave.way
          begin p checkpoints preserved next block c.giving.passed
          (folding-named begin p checkpoints preserved next block c.args.end c.giving.passed old c.giving.found (sym qubits) (sym inv.same_coins) (sym inv.further.all) (inv.way begin p checkpoints preserved next block folding)));
    }
