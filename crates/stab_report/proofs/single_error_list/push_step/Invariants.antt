use Rattle.stab_report.proofs.Names.{◌≡◌, ◌≤◌, ◌-◌, ◌+◌, ◌*◌, ◌++◌, length, drop, map, flat_map, step_shown, single_errors_on, sites_at}
use Rattle.stab_report.specs.PlacedSingleErrors.{single_error_placed}
use Rattle.stab_report.proofs.single_error_list.push_step.Given as goal

abbrev pub invariant-positions : goal.invariant-positions
invariant-positions l =
    let sites = sites_at l.everywhere (step_shown l.step) in record {
      pushed : length l.single_errors.items ≡ length l.initial.single_errors.items + 2 * l.position;
      within : l.position ≤ length sites;
      single_errors : map single_error_placed l.initial.single_errors.items ++ flat_map (single_errors_on l.number) sites ≡ map single_error_placed l.single_errors.items ++ flat_map (single_errors_on l.number) (drop l.position sites);
    }

abbrev pub decreases-positions : goal.decreases-positions
decreases-positions l = length (sites_at l.everywhere (step_shown l.step)) - l.position
