use Rattle.stab_recording.proofs.Names.{◌≡◌, sym, ◌∙◌, ap, false, length, refl, inr, Signed, string_product, string_product-self}
use Rattle.stab_recording.proofs.LetterStateLemmas.{none-found, some-found}
use Rattle.stab_recording.proofs.rest_of_run.drop_letters.Goals as goal

pub returns-in_default-clause-conjugate : goal.returns-in_default-clause-conjugate
returns-in_default-clause-conjugate c = λ e.
    let string : c.in_ok-string.string ≡ record { negative = false; letters = c.args.propagation.now.letters } =
    c.in_ok-string.ensures.value ∙ ap (λ l. record { negative = false; letters = l }) c.letters.ensures.value in
    inr
    (none-found c.args.propagation.now.letters c.args.checkpoint.now.tableau c.in_ok-tableau.tableau c.in_ok-string.string c.in_ok-tableau.ensures.ok string (sym c.requires.same_qubits)
    c.stabilises_a_group.ensures.law c.stabilisers_generate.ensures.law (c.sign_of-sign.ensures.none.0 c.in_default.is))

pub returns-clause-stabilise : goal.returns-clause-stabilise
returns-clause-stabilise c = λ e.
    let string : c.in_ok-string.string ≡ record { negative = false; letters = c.args.propagation.now.letters } =
    c.in_ok-string.ensures.value ∙ ap (λ l. record { negative = false; letters = l }) c.letters.ensures.value in
    some-found c.args.propagation.now.letters c.args.checkpoint.now.tableau c.in_ok-tableau.tableau c.in_ok-string.string c.in-Some.field-0 c.in_ok-tableau.ensures.ok string
    ((c.sign_of-sign.ensures.some c.in-Some.field-0).0 c.in-Some.is)

pub returns-clause-value : goal.returns-clause-value
returns-clause-value c = λ e.
    let letters = c.args.propagation.now.letters in
    c.multiply.ensures.value
    ∙ ap (λ l. record c.args.propagation.now { letters = l })
    (ap (λ (p : Signed). string_product letters p.letters) c.in_ok-string.ensures.value ∙ ap (string_product letters) c.letters.ensures.value ∙ string_product-self (length letters) letters refl)
