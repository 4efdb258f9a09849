use Rattle.stab_report.proofs.Names.{ℕ, List, ◌≡◌, ◌∙◌, ◌+◌, ◌<◌, ◌++◌, sym, ap₂, length, drop, Some, None, arith, flat_map, slice_get, slice_get_within, wrote_part, wrote_and_failed, failed_on, step_shown, single_error_on, single_errors_on, sites_at, table_line, table_lines, site_shown}
use Rattle.stab_gates.specs.declared.letter.Letter.TheVariants as letter
use Rattle.stab_report.proofs.SingleErrorSiteLaws.{found_none}
use Rattle.stab_report.proofs.SingleErrorTextLaws.{lines_here, lines_past, past-missed}
use Rattle.stab_report.proofs.WritingLaws.{wrote_all}
use Rattle.stab_report.proofs.single_error_lines.write_step.Goals as goal

pub overflow_add-next : goal.overflow_add-next
overflow_add-next g c =
    let rows = c.args.table.now.rows in
    let sites = sites_at c.args.everywhere (step_shown c.args.step) in
    let site = site_shown c.in-Some.site in
    let found : slice_get sites c.positions.position ≡ Some site = sym c.in-Some.ensures.value in
    let less = slice_get_within sites c.positions.position site found in
    let enough : c.positions.next + 1 < length rows = omega (arith, c.positions.invariant.next, less, c.requires.rows) in
    record { fits = omega (arith, enough, c.len.ensures.value, c.len.type_inv) }

pub row-by_z-requires : goal.row-by_z-requires
row-by_z-requires g c =
    let rows = c.args.table.now.rows in
    let sites = sites_at c.args.everywhere (step_shown c.args.step) in
    let site = site_shown c.in-Some.site in
    let found : slice_get sites c.positions.position ≡ Some site = sym c.in-Some.ensures.value in
    let less = slice_get_within sites c.positions.position site found in
    let enough : c.positions.next + 1 < length rows = omega (arith, c.positions.invariant.next, less, c.requires.rows) in
    record { in_range = enough }

pub returns-in_err-write_site-clause-writes : goal.returns-in_err-write_site-clause-writes
returns-in_err-write_site-clause-writes g c =
    let rows = c.args.table.now.rows in
    let sites = sites_at c.args.everywhere (step_shown c.args.step) in
    let site = site_shown c.in-Some.site in
    let found : slice_get sites c.positions.position ≡ Some site = sym c.in-Some.ensures.value in
    let less = slice_get_within sites c.positions.position site found in
    let enough : c.positions.next + 1 < length rows = omega (arith, c.positions.invariant.next, less, c.requires.rows) in
    let path = c.args.path.now in
    let line_x : List ℕ → List ℕ = λ row. table_line c.args.kinds path (single_error_on c.args.number site letter.X) row in
    let line_z : List ℕ → List ℕ = λ row. table_line c.args.kinds path (single_error_on c.args.number site letter.Z) row in
    let all = table_lines c.args.kinds (λ _. path) (flat_map (single_errors_on c.args.number) sites) (drop c.args.row rows) in
    let left = table_lines c.args.kinds (λ _. path) (flat_map (single_errors_on c.args.number) (drop c.positions.position sites)) (drop c.positions.next rows) in
    let rest = table_lines c.args.kinds (λ _. path) (flat_map (single_errors_on c.args.number) (drop (c.positions.position + 1) sites)) (drop (c.positions.next + 2) rows) in
    let here = lines_here c.args.kinds path c.args.number sites rows c.positions.position c.positions.next site found enough ∙ ap₂ (λ x z. (line_x x ++ line_z z) ++ rest) (sym c.row-by_x.ensures.value) (sym c.row-by_z.ensures.value) in
    failed_on (g.O.Output.seen c.args.out.now) (g.O.Output.seen c.write_site.new.out) all c.in_err-write_site.field-0.0 c.from_residual.result c.from_residual.ensures.1 c.in_err-write_site.ensures.writes.0
    (wrote_and_failed all left (line_x c.row-by_x.result.now ++ line_z c.row-by_z.result.now) rest here c.positions.invariant.wrote c.in_err-write_site.ensures.writes.1)

pub overflow_add-next-in-Some : goal.overflow_add-next-in-Some
overflow_add-next-in-Some g c =
    let rows = c.args.table.now.rows in
    let sites = sites_at c.args.everywhere (step_shown c.args.step) in
    let site = site_shown c.in-Some.site in
    let found : slice_get sites c.positions.position ≡ Some site = sym c.in-Some.ensures.value in
    let less = slice_get_within sites c.positions.position site found in
    let enough : c.positions.next + 1 < length rows = omega (arith, c.positions.invariant.next, less, c.requires.rows) in
    record { fits = omega (arith, enough, c.len.ensures.value, c.len.type_inv) }

pub positions-smaller : goal.positions-smaller
positions-smaller g c =
    let sites = sites_at c.args.everywhere (step_shown c.args.step) in
    let site = site_shown c.in-Some.site in
    let found : slice_get sites c.positions.position ≡ Some site = sym c.in-Some.ensures.value in
    let less = slice_get_within sites c.positions.position site found in
    omega (arith, less)

pub positions-preserved : goal.positions-preserved
positions-preserved g c =
    let rows = c.args.table.now.rows in
    let sites = sites_at c.args.everywhere (step_shown c.args.step) in
    let site = site_shown c.in-Some.site in
    let found : slice_get sites c.positions.position ≡ Some site = sym c.in-Some.ensures.value in
    let less = slice_get_within sites c.positions.position site found in
    let enough : c.positions.next + 1 < length rows = omega (arith, c.positions.invariant.next, less, c.requires.rows) in
    let path = c.args.path.now in
    let line_x : List ℕ → List ℕ = λ row. table_line c.args.kinds path (single_error_on c.args.number site letter.X) row in
    let line_z : List ℕ → List ℕ = λ row. table_line c.args.kinds path (single_error_on c.args.number site letter.Z) row in
    let all = table_lines c.args.kinds (λ _. path) (flat_map (single_errors_on c.args.number) sites) (drop c.args.row rows) in
    let left = table_lines c.args.kinds (λ _. path) (flat_map (single_errors_on c.args.number) (drop c.positions.position sites)) (drop c.positions.next rows) in
    let rest = table_lines c.args.kinds (λ _. path) (flat_map (single_errors_on c.args.number) (drop (c.positions.position + 1) sites)) (drop (c.positions.next + 2) rows) in
    let here = lines_here c.args.kinds path c.args.number sites rows c.positions.position c.positions.next site found enough ∙ ap₂ (λ x z. (line_x x ++ line_z z) ++ rest) (sym c.row-by_x.ensures.value) (sym c.row-by_z.ensures.value) in
    record {
      next = omega (arith, c.positions.invariant.next);
      within = omega (arith, less);
      wrote = wrote_part all left (line_x c.row-by_x.result.now ++ line_z c.row-by_z.result.now) rest here c.positions.invariant.wrote c.in_ok-write_site.ensures.writes;
    }

pub returns-clause-writes : goal.returns-clause-writes
returns-clause-writes g c =
    let rows = c.args.table.now.rows in
    let sites = sites_at c.args.everywhere (step_shown c.args.step) in
    let path = c.args.path.now in
    let missed : slice_get sites c.positions.position ≡ None = sym c.site_at.ensures.value ∙ found_none c.site_at.result c.in_default.not-Some in
    let rest = table_lines c.args.kinds (λ _. path) (flat_map (single_errors_on c.args.number) (drop c.positions.position sites)) (drop c.positions.next rows) in
    wrote_all (table_lines c.args.kinds (λ _. path) (flat_map (single_errors_on c.args.number) sites) (drop c.args.row rows)) rest
    (lines_past c.args.kinds path c.args.number sites rows c.positions.position c.positions.next missed) c.positions.invariant.wrote

pub returns-clause-next : goal.returns-clause-next
returns-clause-next g c =
    let sites = sites_at c.args.everywhere (step_shown c.args.step) in
    let missed : slice_get sites c.positions.position ≡ None = sym c.site_at.ensures.value ∙ found_none c.site_at.result c.in_default.not-Some in
    let past = past-missed sites c.positions.position missed in
    omega (arith, c.positions.invariant.next, c.positions.invariant.within, past)
