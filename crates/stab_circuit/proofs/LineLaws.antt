-- The laws of lines.
use Rattle.stab_circuit.proofs.Names.{◌≡◌, refl, ap, ◌∙◌, subst, ℕ, ◌+◌, zero, suc, true, List, [], ◌∷◌, ◌++◌, drop, replicate, append-nil, arith, codes, Ok, Err, before_first, prefix_len, Refusal, Line, Blank, Close, Open, is_byte, is_spacing, trimmed, trimmed_front, trimmed_end, content_of, meaning_of, is_of_line, IsLine, line_printed, Says}
use Rattle.stab_instructions.specs.declared.operation.Line.TheVariants as line
use Rattle.stab_instructions.proofs.LackLemmas.{lacks_spaces, before_lacking, any_lacking}
use Rattle.stab_instructions.proofs.SureLemmas.{IsGoodLine}
use Rattle.stab_instructions.proofs.GoodLineLemmas.{line_good}
use Rattle.stab_circuit.proofs.NeatLemmas.{IsNeat, content_again}
use Rattle.stab_circuit.proofs.PrintedLemmas.{operation_neat, open_neat, close_neat}
use Rattle.stab_circuit.proofs.MeaningLemmas.{operation_again, open_again, close_again}
use Rattle.stab_circuit.proofs.EmptyLemmas.{blank_empty, empty_blank}
use Rattle.stab_circuit.proofs.LineRefusalLemmas.{OfLine, meaning_line}

-- nothing is left of spaces
spaces_trimmed : (n : ℕ) → trimmed_front (replicate n 32) ≡ []
spaces_trimmed zero = refl
spaces_trimmed (suc n) =
    let k = prefix_len is_spacing (replicate n 32) in
    let one : 1 + k ≡ suc k = omega arith in
    ap (λ m. drop m (32 ∷ replicate n 32)) one ∙ spaces_trimmed n

spaces_left : (n : ℕ) → content_of (replicate n 32 ++ []) ≡ []
unfolding content_of
spaces_left n =
    ap (λ l. trimmed (before_first (is_byte 35) l)) (append-nil (replicate n 32))
    ∙ ap trimmed (before_lacking (is_byte 35) (replicate n 32) (lacks_spaces 35 n refl))
    ∙ ap trimmed_end (spaces_trimmed n)

-- a neat content says what it means
said : (content : List ℕ) (m : Line) → IsNeat content → meaning_of content ≡ Ok m → Says content m
said content m n e = record { one_line = any_lacking (is_byte 10) content n.lines; left = λ k. content_again k content n; means = e }

pub good_said : (m : Line) → IsGoodLine m → Says (line_printed m) m
good_said Blank g = record { one_line = refl; left = spaces_left; means = empty_blank }
good_said Close g = said (codes "}") Close close_neat close_again
good_said (Open count tag) g = said (line_printed (Open count tag)) (Open count tag) (open_neat count tag g.0 g.1) (open_again count tag g.0 g.1)
good_said (line.Operation op) g = said (line_printed (line.Operation op)) (line.Operation op) (operation_neat op g.0 g.1) (operation_again op g.0 g.1)

pub printed_again : (line : List ℕ) (m : Line) → IsLine line → meaning_of (content_of line) ≡ Ok m → Says (line_printed m) m
printed_again line m one e = good_said m (line_good line m one e)

pub blank_is_empty : (content : List ℕ) → (meaning_of content ≡ Ok Blank → content ≡ []) × (content ≡ [] → meaning_of content ≡ Ok Blank)
blank_is_empty content = (blank_empty content, λ e. ap meaning_of e ∙ empty_blank)

pub refused_as_line : (content : List ℕ) (r : Refusal) → meaning_of content ≡ Err r → is_of_line r ≡ true
refused_as_line content r e = subst OfLine e (meaning_line content).holds
