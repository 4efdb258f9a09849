use Rattle.std.proofs.Common.{◌≡◌, ◌∙◌, sym, inl, inr, rules, codes, string_bytes, true}
use Rattle.clap.specs.Words.{found_of, one_of, rows_of}
use Rattle.stab_args.specs.Asked.{IsSet, problem_fault}
use Rattle.stab_args.proofs.words.questions.uncounted.Goals as goal

pub returns-then-is_beside_problem-clause-refused : goal.returns-then-is_beside_problem-clause-refused
returns-then-is_beside_problem-clause-refused c =
    let text : string_bytes c.in_ok-reported.reported ≡ problem_fault = search rules in
    let set : IsSet (one_of (codes "wcnf") (rows_of (found_of c.args.options.now))) true = search rules in
    inr (inr (inl (
      text,
      (
        set,
        (
          c.flag-2.result,
          c.flag-3.result,
          c.args.asked,
          c.flag-2.ensures.set,
          c.flag-3.ensures.set,
          c.requires.asked,
          sym c.is_beside_problem.ensures.value ∙ c.if-is_beside_problem.true,
        ),
      ),
    )))
