use Rattle.stab_error_model.proofs.Names.{◌≡◌, ◌∙◌, ◌-◌, sym, ap, subst, map, length, false, arith, length-map, detectors_of, unroll, circuit_items, single_errors_of, flipped_by_single_error, IsErrorTable, AreSearched, error_shown, AreErrorRows}
use Rattle.stab_error_model.proofs.FlipLemmas.{table-is}
use Rattle.stab_error_model.proofs.PartLemmas.{searched-are, searched-stand}
use Rattle.stab_error_model.proofs.RowLemmas.{rows-ascend}
use Rattle.stab_error_model.proofs.StepLemmas.{steps-inside}
use Rattle.stab_error_model.proofs.error_table.table_of.Goals as goal

pub errors_asked-requires-clause-single_errors : goal.errors_asked-requires-clause-single_errors
errors_asked-requires-clause-single_errors c =
    let items = circuit_items c.args.circuit.now in
    c.len.ensures.value ∙ ap length (c.requires.table.are_flipped (λ t. false)) ∙ length-map (single_errors_of c.args.everywhere (unroll items)) (flipped_by_single_error c.args.n items c.args.single_errors.now.deterministic (λ t. false))

pub rows_of-requires : goal.rows_of-requires
rows_of-requires c =
    record { ascend = rows-ascend c.args.n c.args.everywhere (circuit_items c.args.circuit.now) c.args.single_errors.now.deterministic c.args.single_errors.now.rows c.requires.table }

pub searched_errors-requires : goal.searched_errors-requires
searched_errors-requires c =
    record { ascend = rows-ascend c.args.n c.args.everywhere (circuit_items c.args.circuit.now) c.args.single_errors.now.deterministic c.args.single_errors.now.rows c.requires.table }

pub returns : goal.returns
returns c =
    let n = c.args.n in
    let everywhere = c.args.everywhere in
    let items = circuit_items c.args.circuit.now in
    let deterministic = c.args.single_errors.now.deterministic in
    let rows = c.args.single_errors.now.rows in
    let whole = c.in_ok-whole.whole.items in
    let errors = c.in_ok-errors.errors.items in
    let made = c.in_ok-table.table.rows in
    let D = c.len-2.result - c.observables.result in
    let detectors = c.in_ok-table.table.detectors in
    let stand = searched-stand c.args.graphlike rows D whole errors (single_errors_of everywhere (unroll items)) c.in_ok-errors.ensures.searched c.in_ok-whole.ensures.stand in
    let fits = c.steps_fit.ensures.fits in
    let found = c.deterministic_parities.ensures.law in
    let sites = c.single_errors_flip_parities.ensures.sites in
    let adds = c.single_errors_add.ensures.law in
    let same : c.in_ok-deterministic.deterministic.items ≡ deterministic = c.in_ok-deterministic.ensures.value ∙ c.deterministic.ensures.value in
    let named : AreErrorRows rows errors made = subst (λ es. AreErrorRows rows es made) c.as_slice.ensures.value c.in_ok-table.ensures.rows in
    let count : D ≡ detectors_of (unroll items) = omega (arith, c.len-2.ensures, ap length same, c.requires.table.are_deterministic.count, c.observables.ensures.value) in
    record {
      errors = subst (λ es. AreSearched c.args.graphlike n items es (map error_shown errors)) c.in_ok-whole.ensures.errors
          (searched-are n everywhere items deterministic rows fits c.requires.table found sites adds D count c.args.graphlike whole errors c.in_ok-whole.ensures.stand c.in_ok-errors.ensures.searched);
      table = subst (λ bits. IsErrorTable n items (record { deterministic = bits; errors = map error_shown errors; table = c.in_ok-table.table })) (sym same)
          (table-is n everywhere items deterministic rows fits c.requires.table found sites adds detectors (c.in_ok-table.ensures.detectors ∙ count) errors made stand named);
      steps = steps-inside everywhere items errors stand;
      err = tt;
    }
