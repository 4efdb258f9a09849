use Rattle.stab_regions.proofs.Names.{◌<◌, ◌-◌, ap, sym, ◌∙◌, length, get_or, [], arith, length-reverse, get_or-reverse}
use Rattle.stab_regions.proofs.single_error_table.SingleErrorTable.row.Goals as goal

pub returns : goal.returns
returns c =
    let rows = c.self.inside.rows in
    let inside : c.args.single_error < length rows = omega (arith, c.requires.in_range, length-reverse rows, ap (λ t. length t.rows) c.self.view_is) in
    record {
      value =
          c.row.ensures.value
          ∙ ap (λ k. get_or rows (k - 1 - c.args.single_error) []) c.len.ensures.value
          ∙ sym (get_or-reverse rows c.args.single_error [] inside)
          ∙ ap (λ t. get_or t.rows c.args.single_error []) c.self.view_is;
    }
