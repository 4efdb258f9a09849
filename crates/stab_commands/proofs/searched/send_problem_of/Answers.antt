use Rattle.stab_commands.proofs.Names.{◌≡◌, refl, subst}
use Rattle.stab_search.specs.Made.{clauses_of}
use Rattle.stab_search.specs.Problems.{Clauses, problem_text}
use Rattle.stab_search.specs.Questions.{Asks}
use Rattle.stab_commands.proofs.FoundLaws.{found_at_once}
use Rattle.stab_commands.proofs.searched.send_problem_of.Goals as goal

pub returns-in-Ok : goal.returns-in-Ok
returns-in-Ok g c =
    let p = clauses_of c.in-Ok.problem in
    let asks = subst (λ t. Asks t p) c.table.ensures.value c.in-Ok.ensures.asks in
    record {
      sends = found_at_once (λ bytes. (q : Clauses) × Asks c.args.errors.now.table q × (bytes ≡ problem_text q)) (g.O.Output.seen c.args.out.now) (g.O.Output.seen c.send_problem.new.out) (problem_text p) c.send_problem.result
          (p, asks, refl) c.send_problem.ensures.sends;
    }
