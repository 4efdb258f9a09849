use Rattle.stab_args.proofs.Names.{rules, ◌≡◌, ◌∙◌, ap, sym, subst, List, map, option_map, HasKind, Text, found_of, is_simple, is_simple_and_free, rows_of, subcommand_of, fault_of, texts, StoredNames, format_names, letter_names, stabsim, Err, Memory}
use Rattle.stab_args.proofs.EndingLaws.{ends_with_command, ends_with_error, ends_without_memory, found_command, has_account, has_whole_account}
use Rattle.stab_args.proofs.NameLaws.{own_name}
use Rattle.stab_args.proofs.words.parse_words.Goals as goal

pub job-requires : goal.job-requires
job-requires c =
    let names : StoredNames = record { formats = c.as_slice.result; letters = c.as_slice-2.result } in
    let words : List Text = map (λ w. w.now) c.args.words.now in
    let is = c.in_ok-app.ensures.app.0 in
    let name = c.unwrap.result.0.now in
    let options = rows_of (found_of c.unwrap.result.1.now) in
    let found = found_command c.in-Ok.matches name options
    (sym c.subcommand.ensures.name ∙ ap (option_map (λ p. p.0.now)) c.unwrap.ensures)
    (sym c.subcommand.ensures.rows ∙ ap (option_map (λ p. rows_of (found_of p.1.now))) c.unwrap.ensures) in
    let account = (c.in-Ok.ensures.matches (ap is_simple is ∙ has_account names)).1 in
    let faultless = c.in-Ok.ensures.kinds (ap is_simple_and_free is ∙ has_whole_account names) in
    record {
      named = own_name names words name options (sym (ap (λ app. fault_of app words) is) ∙ faultless) (sym (ap (λ app. subcommand_of app words) is) ∙ (sym account ∙ found));
    }

pub returns-in-Ok : goal.returns-in-Ok
returns-in-Ok c =
    let names : StoredNames = record { formats = c.as_slice.result; letters = c.as_slice-2.result } in
    let words : List Text = map (λ w. w.now) c.args.words.now in
    let is = c.in_ok-app.ensures.app.0 in
    let formats : texts names.formats.now ≡ format_names = search rules in
    let letters : texts names.letters.now ≡ letter_names = search rules in
    let name = c.unwrap.result.0.now in
    let options = rows_of (found_of c.unwrap.result.1.now) in
    let found = found_command c.in-Ok.matches name options
    (sym c.subcommand.ensures.name ∙ ap (option_map (λ p. p.0.now)) c.unwrap.ensures)
    (sym c.subcommand.ensures.rows ∙ ap (option_map (λ p. rows_of (found_of p.1.now))) c.unwrap.ensures) in
    let account = (c.in-Ok.ensures.matches (ap is_simple is ∙ has_account names)).1 in
    let faultless = c.in-Ok.ensures.kinds (ap is_simple_and_free is ∙ has_whole_account names) in
    record {
      ends = record {
        names = names;
        formats = formats;
        letters = letters;
        ends = ends_with_command (stabsim names) words name options c.job.result
            (sym (ap (λ app. fault_of app words) is) ∙ faultless, sym (ap (λ app. subcommand_of app words) is) ∙ (sym account ∙ found))
            c.job.ensures.job c.job.ensures.refused;
      };
    }

pub returns-in-Err : goal.returns-in-Err
returns-in-Err c =
    let names : StoredNames = record { formats = c.as_slice.result; letters = c.as_slice-2.result } in
    let words : List Text = map (λ w. w.now) c.args.words.now in
    let is = c.in_ok-app.ensures.app.0 in
    let formats : texts names.formats.now ≡ format_names = search rules in
    let letters : texts names.letters.now ≡ letter_names = search rules in
    let kinds = c.in-Err.ensures.kinds (ap is_simple_and_free is ∙ has_whole_account names) in
    let by_account = subst (λ app. HasKind (fault_of app words) c.in-Err.error) is kinds in
    record {
      ends = record {
        names = names;
        formats = formats;
        letters = letters;
        ends = ends_with_error (stabsim names) words c.in-Err.error c.usage_of.result by_account c.usage_of.ensures.memory c.usage_of.ensures.reported;
      };
    }

pub returns-in_err-app : goal.returns-in_err-app
returns-in_err-app c =
    let names : StoredNames = record { formats = c.as_slice.result; letters = c.as_slice-2.result } in
    let words : List Text = map (λ w. w.now) c.args.words.now in
    let formats : texts names.formats.now ≡ format_names = search rules in
    let letters : texts names.letters.now ≡ letter_names = search rules in
    let refused : c.from_residual.result ≡ Err Memory = search rules in
    record {
      ends = record {
        names = names;
        formats = formats;
        letters = letters;
        ends = ends_without_memory (stabsim names) words c.from_residual.result refused;
      };
    }
