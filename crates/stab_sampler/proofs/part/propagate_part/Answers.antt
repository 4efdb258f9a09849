use Rattle.stab_sampler.proofs.Names.{◌≡◌, ℕ, ◌-◌, arith, ap, sym, subst, ◌∙◌, refl, List, None, All, take, All-drop, Items, Step, HasDistinctQubits, check_within, unroll, circuit_items, steps_shown, StepFits, check-fits, fits-steps, take-steps, take-none, take-empty, GoOver}
use Rattle.stab_sampler.proofs.GoLemmas.{go-none, go-append, go-as}
use Rattle.stab_sampler.proofs.part.propagate_part.Goals as goal

-- all steps of a circuit that nothing refuses are on its qubits
whole-fits : (n : ℕ) (items : Items) (xs : List Step) → check_within n items ≡ None → xs ≡ unroll items → All HasDistinctQubits xs → All (StepFits n) (unroll items)
whole-fits n items xs checked is distinct = subst (All (StepFits n)) is (check-fits n items xs checked is distinct)

pub returns-clause-fits : goal.returns-clause-fits
returns-clause-fits g c =
    whole-fits c.args.recorded_pivots.strings.now.qubits (circuit_items c.args.circuit.now) c.in_ok-cursor.cursor.all c.requires.checked c.in_ok-cursor.ensures.all c.in_ok-cursor.ensures.distinct

pub returns-in_default-clause-fits : goal.returns-in_default-clause-fits
returns-in_default-clause-fits g c =
    whole-fits c.args.recorded_pivots.strings.now.qubits (circuit_items c.args.circuit.now) c.in_ok-cursor.cursor.all c.requires.checked c.in_ok-cursor.ensures.all c.in_ok-cursor.ensures.distinct

pub loop-left-init : goal.loop-left-init
loop-left-init g c =
    let items = circuit_items c.args.circuit.now in
    let n = c.args.recorded_pivots.strings.now.qubits in
    record {
      fits = subst (All (StepFits n)) (sym c.in_ok-cursor.ensures.steps)
          (All-drop (StepFits n) c.args.from (unroll items)
          (whole-fits n items c.in_ok-cursor.cursor.all c.requires.checked c.in_ok-cursor.ensures.all c.in_ok-cursor.ensures.distinct));
      may = c.requires.may;
      same_coins = refl;
      goes = λ new rest. go-as _ _ _ _ (ap (take c.args.count) (sym c.in_ok-cursor.ensures.steps)) rest;
    }

pub propagate_instruction-requires-clause-fits : goal.propagate_instruction-requires-clause-fits
propagate_instruction-requires-clause-fits g c =
    let n = c.args.recorded_pivots.strings.now.qubits in
    (fits-steps n n c.loop-left.cursor.left (steps_shown c.in-Some.steps) c.next_steps.new.self.left c.in-Some.ensures.some refl c.loop-left.invariant.fits).0

pub loop-left-smaller : goal.loop-left-smaller
loop-left-smaller g c = omega (arith, c.in-Some.ensures.within, c.len-left.ensures.value)

pub loop-left-preserved : goal.loop-left-preserved
loop-left-preserved g c =
    let inv = c.loop-left.invariant in
    let more = c.in-Some.ensures.some in
    let done = c.in_ok-propagate_instruction.ensures {u = tt} in
    let shown = steps_shown c.in-Some.steps in
    let left = c.loop-left.left in
    let count = c.len-left.result in
    let before = c.loop-left.cursor.left in
    let following = c.next_steps.new.self.left in
    let n = c.args.recorded_pivots.strings.now.qubits in
    let now = c.loop-left.lanes in
    let next = c.propagate_instruction.new.lanes in
    record {
      fits = (fits-steps n n before shown following more refl inv.fits).1;
      may = done.goes.may;
      same_coins = done.same_coins ∙ inv.same_coins;
      goes = λ new rest.
          inv.goes new
          (go-as _ _ _ _ (take-steps left count before shown following more c.len-left.ensures.value c.in-Some.ensures.within.1)
          (go-append shown (take (left - count) following) now next new
          (subst (λ s. GoOver g.W.Word.at g.W.Word.lanes c.args.recorded_pivots s shown now next) inv.same_coins done.goes) rest));
    }

pub returns-clause-goes : goal.returns-clause-goes
returns-clause-goes g c =
    let inv = c.loop-left.invariant in
    inv.goes c.loop-left.lanes (go-as _ _ _ _ (take-none c.loop-left.left c.loop-left.cursor.left c.loop-left-test.false) (go-none c.loop-left.lanes inv.may))

pub returns-in_default-clause-goes : goal.returns-in_default-clause-goes
returns-in_default-clause-goes g c =
    let inv = c.loop-left.invariant in
    inv.goes c.loop-left.lanes (go-as _ _ _ _ (take-empty c.loop-left.left c.loop-left.cursor.left c.in_default.ensures.none.0) (go-none c.loop-left.lanes inv.may))
