use Rattle.stab_args.proofs.Names.{◌≡◌, Ok, arith, subst}
use Rattle.std.specs.Prelude.{decimal}
use Rattle.std.proofs.lemmas.Fmt.{parse-decimal}
use Rattle.stab_args.proofs.PartWordLaws.{not_unread, read_once}
use Rattle.stab_args.proofs.part_word.number_of.Goals as goal

pub returns-in_default-clause-none : goal.returns-in_default-clause-none
returns-in_default-clause-none c n few e =
    let read : c.parse.result ≡ Ok n = parse-decimal 64 n c.args.text.now c.parse.result (omega (arith, few)) (omega (arith, few)) e c.parse.ensures.value.0 in
    let same = read_once c.parse.result n c.in-Ok.number read c.in-Ok.is in
    c.is_written.ensures.not c.if-is_written.false (subst (λ m. c.args.text.now ≡ decimal m) same e)

pub returns-in_default-2-clause-none : goal.returns-in_default-2-clause-none
returns-in_default-2-clause-none c n few e =
    not_unread c.parse.result n c.in_default.field-0 c.in_default.is (parse-decimal 64 n c.args.text.now c.parse.result (omega (arith, few)) (omega (arith, few)) e c.parse.ensures.value.0)
