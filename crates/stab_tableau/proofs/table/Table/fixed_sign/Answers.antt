use Rattle.stab_tableau.proofs.Names.{◌∙◌, sym, ap, arith, list_any, has_x, Signed, row_at, letter_at}
use Rattle.stab_tableau.proofs.PairedRowsLemmas.{seen-few, seen-position, seen-length, seen-read}
use Rattle.stab_tableau.proofs.table.Table.fixed_sign.Goals as goal

pub position-requires : goal.position-requires
position-requires c = record { few = seen-few c.self.inside.rows c.self.invariant.0 c.args.self.now c.self.view_is c.args.qubit c.requires.in_range }

pub first_x-requires : goal.first_x-requires
first_x-requires c =
    record { in_range = seen-position c.self.inside.rows c.self.invariant.0 c.args.self.now c.self.view_is c.args.row c.args.qubit c.position.result c.requires.in_range c.position.ensures.value }

pub position-requires-in-None : goal.position-requires-in-None
position-requires-in-None c = record { few = seen-few c.self.inside.rows c.self.invariant.0 c.args.self.now c.self.view_is c.args.qubit c.requires.in_range }

pub fixed_sign-requires : goal.fixed_sign-requires
fixed_sign-requires c = record {
  in_range = seen-position c.self.inside.rows c.self.invariant.0 c.args.self.now c.self.view_is c.args.row c.args.qubit c.position-in-None.result c.requires.in_range c.position-in-None.ensures.value;
  fixed = ap (λ k. list_any has_x (row_at c.self.inside.rows k).letters) (c.position-in-None.ensures.value ∙ sym c.position.ensures.value) ∙ c.in-None.ensures.none;
}

pub returns-in-Some-clause-none : goal.returns-in-Some-clause-none
returns-in-Some-clause-none c =
    let read = seen-read c.self.inside.rows c.self.invariant.0 c.args.self.now c.self.view_is c.args.row c.args.qubit c.position.result c.requires.in_range c.position.ensures.value in
    let e = seen-length c.self.inside.rows c.self.invariant.0 c.args.self.now c.self.view_is in
    let over = c.requires.over in (
      c.in-Some.field-0,
      (let lt = c.in-Some.ensures.in_range in omega arith),
      ap (λ (p : Signed). has_x (letter_at p.letters c.in-Some.field-0)) (sym read) ∙ c.in-Some.ensures.has_x,
    )

pub returns-in-None-clause-some : goal.returns-in-None-clause-some
returns-in-None-clause-some c =
    let first = seen-read c.self.inside.rows c.self.invariant.0 c.args.self.now c.self.view_is c.args.row c.args.qubit c.position.result c.requires.in_range c.position.ensures.value in
    let read = seen-read c.self.inside.rows c.self.invariant.0 c.args.self.now c.self.view_is c.args.row c.args.qubit c.position-in-None.result c.requires.in_range c.position-in-None.ensures.value in (
      c.fixed_sign.ensures.value ∙ ap (λ (p : Signed). p.negative) read,
      ap (λ (p : Signed). list_any has_x p.letters) (sym first) ∙ c.in-None.ensures.none,
    )
