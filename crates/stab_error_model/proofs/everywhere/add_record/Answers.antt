use Rattle.stab_error_model.proofs.Names.{◌≡◌, ◌∙◌, ap, [], ◌∷◌, flip_of, wrong_record, single_error_of_letter, single_error_shown, single_errors_shown, error_shown, ErrorStands, Stands, back_of}
use Rattle.stab_error_model.specs.declared.placed.Error.TheVariants as error
use Rattle.stab_error_model.proofs.ErrorListLemmas.{adds-same, adds-weaker, record-stands}
use Rattle.stab_error_model.proofs.everywhere.add_record.Goals as goal

pub returns : goal.returns
returns c =
    let front = c.args.front in
    let following = c.args.following in
    let e = error.Record c.args.number c.with.result c.taken_back.result in
    let flip : single_error_shown c.with.result ≡ single_error_of_letter front (flip_of c.args.letter) = ap single_error_shown c.with.ensures.value ∙ ap (single_error_of_letter front) c.flip-flip.ensures.value in
    let back : single_errors_shown c.taken_back.result ≡ back_of c.args.resets (single_error_of_letter following (flip_of c.args.letter)) =
    c.taken_back.ensures.value ∙ ap (λ l. back_of c.args.resets (single_error_of_letter following l)) c.flip-flip.ensures.value in
    record {
      adds = adds-same (λ single_errors. Stands front single_errors × Stands following single_errors) (error_shown e ∷ []) _ c.args.errors.now.items c.add_error.new.errors.items
          (λ i. wrong_record c.args.number (flip i) (back i) ∷ [])
          (adds-weaker (λ single_errors. ErrorStands single_errors e) (λ single_errors. Stands front single_errors × Stands following single_errors) (error_shown e ∷ []) c.args.errors.now.items c.add_error.new.errors.items
          (record-stands c.args.number c.with.result c.taken_back.result front following (ap (λ p. p.site) c.with.ensures.value) c.taken_back.ensures.site)
          c.in_ok-add_error.ensures.adds);
    }
