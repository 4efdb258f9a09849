use Rattle.stab_run.proofs.Names.{arith, rules, ap, sym, ◌∙◌, stabilises, step_shown, program_state, output_of, ones, string_of}
use Rattle.stab_run.proofs.RecordLemmas.{ones_more}
use Rattle.stab_run.proofs.RunLemmas.{run-collapse, run-product}
use Rattle.stab_run.proofs.step_with_pivot.apply_step_with_pivot.Goals as goal

pub returns-in_ok-gather-in-Collapse-clause-run : goal.returns-in_ok-gather-in-Collapse-clause-run
returns-in_ok-gather-in-Collapse-clause-run g c =
    record {
      run =
          run-collapse c.args.tableau.now.qubits (g.C.Coins.sequence c.args.coins.now) (step_shown c.args.step)
          c.in-Collapse.letter c.in-Collapse.qubit c.in-Collapse.recorded c.in-Collapse.inverted c.in-Collapse.reset (ap step_shown c.in-Collapse.is)
          (program_state c.args.tableau.now (output_of c.args.outputs.now)) _ c.measure_with_pivot-measured.result.outcome (search rules)
          (record {
            measured = stabilises c.measure_with_pivot-measured.new.tableau;
            projects = c.measure_with_pivot-measured.ensures.members;
            flips = λ r lr. c.reset_if.ensures.members r (lr ∙ sym c.measure_with_pivot-measured.ensures.qubits);
            output = search rules;
          });
      pivot = search rules;
    }

pub returns-in_ok-gather-in-Collapse-clause-asks_random : goal.returns-in_ok-gather-in-Collapse-clause-asks_random
returns-in_ok-gather-in-Collapse-clause-asks_random g c =
    omega (arith, ap (λ o. ones o.free) c.in_ok-gather-in-Collapse.ensures.value, ones_more c.args.outputs.now.free.items c.measure_with_pivot-measured.result.free, c.measure_with_pivot-measured.ensures.asks)

pub returns-in_ok-gather-in-Product-clause-run : goal.returns-in_ok-gather-in-Product-clause-run
returns-in_ok-gather-in-Product-clause-run g c =
    record {
      run =
          run-product c.args.tableau.now.qubits (g.C.Coins.sequence c.args.coins.now) (step_shown c.args.step)
          c.in-Product.factors.now c.in-Product.inverted (ap step_shown c.in-Product.is)
          c.write_product.new.string (c.write_product.ensures.value ∙ ap (λ n. string_of n c.in-Product.factors.now) c.requires.same_length)
          (program_state c.args.tableau.now (output_of c.args.outputs.now)) _ c.measure_string_with_pivot-measured.result.outcome (search rules)
          c.measure_string_with_pivot-measured.ensures.members (search rules);
      pivot = search rules;
    }

pub returns-in_ok-gather-in-Product-clause-asks_random : goal.returns-in_ok-gather-in-Product-clause-asks_random
returns-in_ok-gather-in-Product-clause-asks_random g c =
    omega (arith, ap (λ o. ones o.free) c.in_ok-gather-in-Product.ensures.value, ones_more c.args.outputs.now.free.items c.measure_string_with_pivot-measured.result.free, c.measure_string_with_pivot-measured.ensures.asks)
