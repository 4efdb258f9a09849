use Rattle.stab_error_model.proofs.Names.{◌≡◌, ◌∙◌, sym, ap, subst, [], ◌∷◌, get_or_default, letter, single_error_of_letter, error_shown, ErrorStands, Stands}
use Rattle.stab_error_model.specs.declared.placed.Error.TheVariants as error
use Rattle.stab_error_model.proofs.ErrorListLemmas.{adds-same, adds-weaker, mapped-more}
use Rattle.stab_error_model.proofs.error_lists.add_letters.Goals as goal

pub letters-preserved : goal.letters-preserved
letters-preserved c =
    let ls = c.args.letters.now in
    let k = c.letters.letter-index in
    let f = c.with.result in
    let e = error.Letter f in
    let site = c.args.site in
    let there : f.site ≡ site = ap (λ p. p.site) c.with.ensures.value in
    mapped-more (λ l. letter (single_error_of_letter site l)) (Stands site) ls k f.letter c.args.errors.now.items c.letters.errors.items c.add_error.new.errors.items c.letters-test.true
    (ap (λ p. p.letter) c.with.ensures.value ∙ get_or_default ls k _ f.letter c.letters-test.true)
    c.letters.invariant
    (adds-same (Stands site) (error_shown e ∷ []) (letter (single_error_of_letter site f.letter) ∷ []) c.letters.errors.items c.add_error.new.errors.items
    (ap (λ p. letter (single_error_of_letter p f.letter) ∷ []) there)
    (adds-weaker (λ single_errors. ErrorStands single_errors e) (Stands site) (error_shown e ∷ []) c.letters.errors.items c.add_error.new.errors.items
    (λ single_errors stands. subst (λ p. Stands p single_errors) (sym there) stands) c.in_ok-add_error.ensures.adds))
