use Rattle.stab_error_model.proofs.Names.{[], ◌∷◌, ◌++◌, flip_of, each_letter, wrong_record, single_error_of_letter, Stands, back_of, reset_errors}
use Rattle.stab_error_model.proofs.ErrorListLemmas.{adds-more, adds-weaker}
use Rattle.stab_error_model.proofs.everywhere.add_measured.Goals as goal

pub returns : goal.returns
returns c =
    let front = c.args.front in
    let following = c.args.following in
    let flip = flip_of c.args.letter in
    let first = each_letter c.args.letters.now (single_error_of_letter front) in
    let one = wrong_record c.args.number (single_error_of_letter front flip) (back_of c.args.resets (single_error_of_letter following flip)) ∷ [] in
    let last = reset_errors c.args.letters.now (single_error_of_letter following) c.args.resets in
    let old = c.args.errors.now.items in
    let a = c.add_letters.new.errors.items in
    let b = c.add_record.new.errors.items in
    let new = c.add_reset.new.errors.items in record {
      adds = adds-more (λ single_errors. Stands front single_errors × Stands following single_errors) first (one ++ last) old a new
          (adds-weaker (Stands front) (λ single_errors. Stands front single_errors × Stands following single_errors) first old a (λ single_errors stand. stand.0) c.in_ok-add_letters.ensures.adds)
          (adds-more (λ single_errors. Stands front single_errors × Stands following single_errors) one last a b new c.in_ok-add_record.ensures.adds
          (adds-weaker (Stands following) (λ single_errors. Stands front single_errors × Stands following single_errors) last b new (λ single_errors stand. stand.1) c.in_ok-add_reset.ensures.adds));
    }
