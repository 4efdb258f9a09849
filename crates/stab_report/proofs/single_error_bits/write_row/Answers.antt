use Rattle.stab_report.proofs.Names.{◌∙◌, sym, ap, false, true, length, set_all}
use Rattle.stab_report.proofs.SingleErrorBitLaws.{set_back}
use Rattle.stab_report.proofs.single_error_bits.write_row.Goals as goal

pub returns-clause-same : goal.returns-clause-same
returns-clause-same g c =
    let row = c.args.row.now in
    c.set_all-2.ensures.value
    ∙ ap (set_all row false) (c.set_all.ensures.value ∙ ap (set_all row true) c.requires.zero)
    ∙ set_back row (length c.args.bits.now)
    ∙ sym c.requires.zero
