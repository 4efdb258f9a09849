use Rattle.std.proofs.Common.{◌≡◌, ◌∙◌, sym, inl, inr, rules, codes, string_bytes, true}
use Rattle.clap.specs.Words.{found_of, one_of, rows_of}
use Rattle.stab_args.specs.Asked.{IsSet, count_fault}
use Rattle.stab_args.proofs.words.questions.whole_question.Goals as goal

pub returns-then-is_beside_count-clause-refused : goal.returns-then-is_beside_count-clause-refused
returns-then-is_beside_count-clause-refused c =
    let text : string_bytes c.in_ok-reported.reported ≡ count_fault = search rules in
    let set : IsSet (one_of (codes "count") (rows_of (found_of c.args.options.now))) true = search rules in
    inr (inr (inr (inl (
      text,
      (
        c.flag-wcnf.result,
        c.flag-table.result,
        c.flag-2.result,
        c.args.asked,
        record { part = c.requires.whole; wcnf = c.flag-wcnf.ensures.set; table = c.flag-table.ensures.set; each = c.flag-2.ensures.set; count = set },
        c.requires.asked,
        sym c.is_beside_count.ensures.value ∙ c.if-is_beside_count.true,
      ),
    ))))
