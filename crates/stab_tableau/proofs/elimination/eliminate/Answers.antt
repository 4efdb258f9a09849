use Rattle.stab_tableau.proofs.Names.{refl, ◌∙◌, arith}
use Rattle.stab_tableau.proofs.EliminationStepLemmas.{start, comes-to, comes-on}
use Rattle.stab_tableau.proofs.EliminationEndLemmas.{end-step}
use Rattle.stab_tableau.proofs.elimination.eliminate.Goals as goal

pub loop-position-init : goal.loop-position-init
loop-position-init c = record { qubits = refl; number = refl; comes = λ member g b. start member c.args.rows.now b }

pub step-used-requires-clause-comes : goal.step-used-requires-clause-comes
step-used-requires-clause-comes c =
    comes-to c.loop-position.position c.loop-position.used c.args.rows.now c.loop-position.rows c.loop-position.invariant.qubits c.loop-position.invariant.comes c.requires.basis

pub loop-position-preserved : goal.loop-position-preserved
loop-position-preserved c = record {
  qubits = c.step-used.ensures.steps.qubits ∙ c.loop-position.invariant.qubits;
  number = c.step-used.ensures.steps.count ∙ c.loop-position.invariant.number;
  comes = comes-on c.loop-position.position c.loop-position.used c.step-used.result c.args.rows.now c.loop-position.rows c.step-used.new.rows c.loop-position.invariant.qubits
      c.loop-position.invariant.comes c.step-used.ensures.steps;
}

pub returns-clause-reduced : goal.returns-clause-reduced
returns-clause-reduced c = λ member g b.
    end-step member c.args.rows.now.qubits c.loop-position.position c.loop-position.used c.loop-position.rows c.loop-position.invariant.qubits (let e = c.qubits-position-end.ensures.value in let t = c.loop-position-test.false in let a = c.loop-position.auto.position-end in omega arith)
    (c.loop-position.invariant.comes member g b)
