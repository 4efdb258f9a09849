use Rattle.stab_script.proofs.Names.{◌≡◌, ◌∙◌, sym, ap, ap₂, subst, bytes_eq, IfOk, request_asked, show_by}
use Rattle.stab_script.proofs.RequestLaws.{show_more}
use Rattle.stab_script.proofs.request.read_show.Goals as goal

pub returns-else-eq-7-clause-gives : goal.returns-else-eq-7-clause-gives
returns-else-eq-7-clause-gives c =
    let word = c.args.word.now in
    subst (λ asked. IfOk c.read_show_by.result (λ r. request_asked r ≡ asked))
    (ap₂ show_by c.first_word.ensures.word c.first_word.ensures.rest
    ∙ sym
    (show_more word
    (sym (c.if-eq.ensures ∙ ap (bytes_eq word) c.as_slice.ensures))
    (sym (c.if-eq-2.ensures ∙ ap (bytes_eq word) c.as_slice-else-eq.ensures))
    (sym (c.if-eq-3.ensures ∙ ap (bytes_eq word) c.as_slice-else-eq-2.ensures))
    (sym (c.if-eq-4.ensures ∙ ap (bytes_eq word) c.as_slice-else-eq-3.ensures))
    (sym (c.if-eq-5.ensures ∙ ap (bytes_eq word) c.as_slice-else-eq-4.ensures))
    (sym (c.if-eq-6.ensures ∙ ap (bytes_eq word) c.as_slice-else-eq-5.ensures))
    (sym (c.if-eq-7.ensures ∙ ap (bytes_eq word) c.as_slice-else-eq-6.ensures))))
    c.read_show_by.ensures.gives
