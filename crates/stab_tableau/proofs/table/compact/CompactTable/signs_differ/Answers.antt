use Rattle.stab_tableau.proofs.Names.{Bool, ◌∙◌, sym, ap, ◌<◌, subst, ◌⊕◌, Signed}
use Rattle.stab_tableau.proofs.PairedRowsLemmas.{seen-few, seen-position, seen-read}
use Rattle.stab_tableau.proofs.FrameLemmas.{length-same}
use Rattle.stab_tableau.proofs.ConjugatedRowLemmas.{same-letters_at}
use Rattle.stab_tableau.proofs.table.compact.CompactTable.signs_differ.Goals as goal

pub position-requires : goal.position-requires
position-requires c = record { few = seen-few c.self.inside.rows c.self.invariant c.args.self.now c.self.view_is c.args.qubit c.requires.in_range }

pub signs_differ-requires : goal.signs_differ-requires
signs_differ-requires c =
    let there = subst (λ n. c.args.qubit < n) (length-same c.args.self.now c.args.table.now c.requires.same_letters) c.requires.in_range in
    record {
      in_range = seen-position c.self.inside.rows c.self.invariant c.args.self.now c.self.view_is c.args.row c.args.qubit c.position.result c.requires.in_range c.position.ensures.value;
      other_in_range = seen-position c.table.inside.rows c.table.invariant.0 c.args.table.now c.table.view_is c.args.row c.args.qubit c.position.result there c.position.ensures.value;
      same_letters =
          ap (λ (p : Signed). p.letters) (seen-read c.self.inside.rows c.self.invariant c.args.self.now c.self.view_is c.args.row c.args.qubit c.position.result c.requires.in_range c.position.ensures.value)
          ∙ same-letters_at c.args.row c.args.self.now c.args.table.now c.args.qubit c.requires.in_range c.requires.same_letters
          ∙ sym (ap (λ (p : Signed). p.letters) (seen-read c.table.inside.rows c.table.invariant.0 c.args.table.now c.table.view_is c.args.row c.args.qubit c.position.result there c.position.ensures.value));
    }

pub returns : goal.returns
returns c =
    let there = subst (λ n. c.args.qubit < n) (length-same c.args.self.now c.args.table.now c.requires.same_letters) c.requires.in_range in
    let mine = seen-read c.self.inside.rows c.self.invariant c.args.self.now c.self.view_is c.args.row c.args.qubit c.position.result c.requires.in_range c.position.ensures.value in
    let theirs = seen-read c.table.inside.rows c.table.invariant.0 c.args.table.now c.table.view_is c.args.row c.args.qubit c.position.result there c.position.ensures.value in
    let negative : Signed → Bool = λ p. p.negative in
    record { value = c.signs_differ.ensures.value ∙ (λ i. negative (mine i) ⊕ negative (theirs i)) }
