use Rattle.stab_commands.proofs.Names.{◌∙◌, ◌++◌, sym, ap, length, shown_kinds, shown_items}
use Rattle.stab_results.specs.declared.format.Kinds.TheVariants.{Detectors}
use Rattle.stab_commands.proofs.bits.shown_of.Goals as goal

pub returns-in-Records-clause-kinds : goal.returns-in-Records-clause-kinds
returns-in-Records-clause-kinds c = sym (ap (λ s. shown_kinds s (length c.args.detectors.items)) c.in-Records.is)

pub returns-in-Records-clause-items : goal.returns-in-Records-clause-items
returns-in-Records-clause-items c = sym (ap (λ s. shown_items s c.args.records.items c.args.detectors.items c.args.observables.items) c.in-Records.is)

pub returns-in-Detectors-clause-kinds : goal.returns-in-Detectors-clause-kinds
returns-in-Detectors-clause-kinds c = ap Detectors (c.len.ensures ∙ c.args.detectors.ok.0) ∙ sym (ap (λ s. shown_kinds s (length c.args.detectors.items)) c.in-Detectors.is)

pub returns-in-Detectors-clause-items : goal.returns-in-Detectors-clause-items
returns-in-Detectors-clause-items c = sym (ap (λ s. shown_items s c.args.records.items c.args.detectors.items c.args.observables.items) c.in-Detectors.is)

pub returns-in_ok-extend_from_slice-in-DetectorsAndObservables-clause-kinds : goal.returns-in_ok-extend_from_slice-in-DetectorsAndObservables-clause-kinds
returns-in_ok-extend_from_slice-in-DetectorsAndObservables-clause-kinds c = ap Detectors (c.len.ensures ∙ c.args.detectors.ok.0) ∙ sym (ap (λ s. shown_kinds s (length c.args.detectors.items)) c.in-DetectorsAndObservables.is)

pub returns-in_ok-extend_from_slice-in-DetectorsAndObservables-clause-items : goal.returns-in_ok-extend_from_slice-in-DetectorsAndObservables-clause-items
returns-in_ok-extend_from_slice-in-DetectorsAndObservables-clause-items c =
    c.in_ok-extend_from_slice-in-DetectorsAndObservables.ensures.items ∙ ap (λ more. c.args.detectors.items ++ more) c.as_slice.ensures.value
    ∙ sym (ap (λ s. shown_items s c.args.records.items c.args.detectors.items c.args.observables.items) c.in-DetectorsAndObservables.is)
