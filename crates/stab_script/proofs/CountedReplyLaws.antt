-- Laws of counted replies: what is left of a shot in the notation `dets` is a line of entries.
use Rattle.stab_script.proofs.Names.{◌≡◌, ℕ, List, [], ◌∷◌, ◌++◌, length, drop, refl, sym, ap, ◌∙◌, append_assoc, codes, append-nil, texts_joined}

-- one text alone
pub one_text_joined : (t : List ℕ) → texts_joined (t ∷ []) ≡ t
one_text_joined t = append-nil t

-- a reply after the number of its lines
pub reported_text : (number text : List ℕ) → texts_joined (codes "ok " ∷ number ∷ codes "\n" ∷ text ∷ []) ≡ codes "ok " ++ (number ++ (codes "\n" ++ text))
reported_text number text = ap (λ t. codes "ok " ++ (number ++ (codes "\n" ++ t))) (append-nil text)

-- a line of numbers after the words of the first line
pub greeting_text : (line : List ℕ) → texts_joined (codes "ready 1 " ∷ line ∷ []) ≡ codes "ready 1 " ++ line
greeting_text line = ap (λ t. codes "ready 1 " ++ t) (append-nil line)

-- two numbers and what is after them
pub two_numbers_text : (first second following : List ℕ) → texts_joined (first ∷ codes " " ∷ second ∷ following ∷ []) ≡ first ++ (codes " " ++ (second ++ following))
two_numbers_text first second following = ap (λ t. first ++ (codes " " ++ (second ++ t))) (append-nil following)

-- four texts, one put after the other
pub four_texts : {a b c d e : List ℕ} (first second third last : List ℕ) → a ≡ [] → b ≡ a ++ first → c ≡ b ++ second → d ≡ c ++ third → e ≡ d ++ last
    → e ≡ first ++ (second ++ (third ++ last))
four_texts first second third last none one two three four =
    four
    ∙ ap (λ t. t ++ last) (three ∙ ap (λ t. t ++ third) (two ∙ ap (λ t. t ++ second) (one ∙ ap (λ t. t ++ first) none)))
    ∙ append_assoc (first ++ second) third last
    ∙ append_assoc first second (third ++ last)

-- nothing put after a text
pub nothing_after : (text : List ℕ) → text ≡ text ++ []
nothing_after text = sym (append-nil text)

-- if the line end is alone there is no entry
pub no_entry : (entries : List ℕ) → length (entries ++ 10 ∷ []) ≡ 1 → entries ++ 10 ∷ [] ≡ drop 1 entries ++ 10 ∷ []
no_entry [] e = refl
no_entry (b ∷ []) e = absurd (cc)
no_entry (b ∷ c ∷ bs) e = absurd (cc)

-- else the first entry has a space in front
pub some_entry : (entries : List ℕ) → (length (entries ++ 10 ∷ []) ≡ 1 → ⊥) → drop 1 (entries ++ 10 ∷ []) ≡ drop 1 entries ++ 10 ∷ []
some_entry [] e = absurd (e refl)
some_entry (b ∷ bs) e = refl
