use Rattle.stab_report.proofs.Names.{◌≡◌, refl, ◌∙◌, ◌++◌, ◌+◌, List, SingleError, length-map, length-append, sym, ap, length, drop, map, append_assoc, append-nil, Some, None, arith, flat_map, slice_get, slice_get_within, step_shown, single_errors_on, sites_at, site_shown}
use Rattle.stab_report.specs.PlacedSingleErrors.{single_error_placed}
use Rattle.stab_report.specs.declared.single_error_list.PlacedSingleError.{PlacedSingleError}
use Rattle.stab_report.proofs.SingleErrorSiteLaws.{found_none}
use Rattle.stab_report.proofs.SingleErrorTextLaws.{drop-found, drop-missed}
use Rattle.stab_report.proofs.single_error_list.push_step.Goals as goal

-- two were pushed
two_more : (old new : List PlacedSingleError) (both : List SingleError) → length both ≡ 2 → map single_error_placed new ≡ map single_error_placed old ++ both → length new ≡ length old + 2
two_more old new both two is =
    omega (arith, two, ap length is, length-map new single_error_placed, length-map old single_error_placed, length-append (map single_error_placed old) both)

pub overflow_add-position : goal.overflow_add-position
overflow_add-position c =
    let more = two_more c.positions.single_errors.items c.push_site.new.single_errors.items (single_errors_on c.args.number (site_shown c.in-Some.site)) refl c.in_ok-push_site.ensures.single_errors in
    record { fits = omega (arith, c.len.ensures, c.len.type_inv, c.push_site.new.single_errors.ok.0, more, c.positions.invariant.pushed) }

pub positions-smaller : goal.positions-smaller
positions-smaller c =
    let sites = sites_at c.args.everywhere (step_shown c.args.step) in
    let site = site_shown c.in-Some.site in
    let found : slice_get sites c.positions.position ≡ Some site = sym c.in-Some.ensures.value in
    let less = slice_get_within sites c.positions.position site found in
    omega (arith, less)

pub positions-preserved : goal.positions-preserved
positions-preserved c =
    let sites = sites_at c.args.everywhere (step_shown c.args.step) in
    let site = site_shown c.in-Some.site in
    let found : slice_get sites c.positions.position ≡ Some site = sym c.in-Some.ensures.value in
    let less = slice_get_within sites c.positions.position site found in
    let rest = flat_map (single_errors_on c.args.number) (drop (c.positions.position + 1) sites) in
    let old = map single_error_placed c.positions.single_errors.items in
    let more = two_more c.positions.single_errors.items c.push_site.new.single_errors.items (single_errors_on c.args.number site) refl c.in_ok-push_site.ensures.single_errors in
    record {
      pushed = omega (arith, more, c.positions.invariant.pushed);
      within = omega (arith, less);
      single_errors = c.positions.invariant.single_errors
          ∙ ap (λ xs. old ++ flat_map (single_errors_on c.args.number) xs) (drop-found sites c.positions.position site found)
          ∙ sym (append_assoc old (single_errors_on c.args.number site) rest)
          ∙ ap (λ fs. fs ++ rest) (sym c.in_ok-push_site.ensures.single_errors);
    }

pub returns : goal.returns
returns c =
    let sites = sites_at c.args.everywhere (step_shown c.args.step) in
    let missed : slice_get sites c.positions.position ≡ None = sym c.site_at.ensures.value ∙ found_none c.site_at.result c.in_default.not-Some in
    let old = map single_error_placed c.positions.single_errors.items in
    record {
      single_errors = sym (append-nil old)
          ∙ ap (λ xs. old ++ flat_map (single_errors_on c.args.number) xs) (sym (drop-missed sites c.positions.position missed))
          ∙ sym c.positions.invariant.single_errors;
    }
