-- Laws of error lines: the parts that are written of an error, one after another.
use Rattle.stab_report.proofs.Names.{◌≡◌, ◌+◌, ◌-◌, suc, arith, flat_map, range_with_len, refl, sym, ap, ◌∙◌, ℕ, ◌<◌, false, List, [], ◌∷◌, ◌++◌, length, get_or, append_assoc, append-nil, codes, decimal, Some, get_or_default, length-map, letter_text, Items, Path, path_text, Kinds, SingleError, row, Error, first_single_error, ErrorTableState, IsErrorTable, error_at, kinds_of, path_at, texts_joined, letter_name, where_text, what_text, numbered_line, line_end, up_to, count_line, missing_line}

-- a letter and its qubit, by their two parts
pub joined-letter : (f : SingleError) (symbol digits : List ℕ) → symbol ≡ letter_text f.letter → digits ≡ decimal f.qubit → texts_joined (symbol ∷ digits ∷ []) ≡ letter_name f
joined-letter f symbol digits is_symbol is_digits = rw (is_symbol, is_digits, append-nil (decimal f.qubit)) refl

-- a product of two, by its five parts
pub joined-letters : (f g : SingleError) (symbol digits other others : List ℕ) → symbol ≡ letter_text f.letter → digits ≡ decimal f.qubit → other ≡ letter_text g.letter → others ≡ decimal g.qubit
    → texts_joined (symbol ∷ digits ∷ codes "*" ∷ other ∷ others ∷ []) ≡ letter_name f ++ (codes "*" ++ letter_name g)
joined-letters f g symbol digits other others is_symbol is_digits is_other is_others =
    rw (is_symbol, is_digits, is_other, is_others, append-nil (decimal g.qubit))
    (sym (append_assoc (letter_text f.letter) (decimal f.qubit) (codes "*" ++ letter_name g)))

-- a wrong record, by its two parts
pub joined-record : (number : ℕ) (digits : List ℕ) → digits ≡ decimal number → texts_joined (codes "M" ∷ digits ∷ []) ≡ codes "M" ++ decimal number
joined-record number digits is = rw (is, append-nil (decimal number)) refl

-- how many errors a least set has, by its two parts
pub joined-count : (count : ℕ) (digits : List ℕ) → digits ≡ decimal count → texts_joined (codes "distance " ∷ digits ∷ []) ≡ codes "distance " ++ decimal count
joined-count count digits is = rw (is, append-nil (decimal count)) refl

-- up to how many errors there is no set, by its three parts
pub joined-none : (most : ℕ) (digits : List ℕ) → digits ≡ decimal most → texts_joined (codes "none" ∷ codes " up to " ∷ digits ∷ []) ≡ codes "none" ++ up_to (Some most)
joined-none most digits is = rw (is, append-nil (decimal most)) refl

-- how many least sets there are, by its three parts
pub joined-sets : (count : ℕ) (digits : List ℕ) → digits ≡ decimal count → texts_joined (codes "count " ∷ digits ∷ codes "\n" ∷ []) ≡ count_line (Some count)
joined-sets count digits is = rw is refl

-- the end of a first line that names an observable, by its four parts
pub joined-end : (errors : List ℕ) (observable : ℕ) (digits : List ℕ) → digits ≡ decimal observable → texts_joined (errors ∷ codes " for L" ∷ digits ∷ codes "\n" ∷ []) ≡ line_end errors (Some observable)
joined-end errors observable digits is = rw is refl

-- the line of an observable that a circuit lacks, by its five parts
pub joined-missing : (observable count : ℕ) (digits others : List ℕ) → digits ≡ decimal observable → others ≡ decimal count
    → texts_joined (codes "stabsim: the circuit has no L" ∷ digits ∷ codes ", observables: " ∷ others ∷ codes "\n" ∷ []) ≡ missing_line observable count
joined-missing observable count digits others is_digits is_others = rw (is_digits, is_others) refl

-- where an error is, by its first part
pub joined-where : (before : ℕ) (path : Path) (front : List ℕ) → front ≡ decimal before → texts_joined (front ∷ codes " " ∷ []) ++ (path_text path ++ codes " ") ≡ where_text before path
joined-where before path front is = ap (λ l. (l ++ codes " ") ++ (path_text path ++ codes " ")) is

-- the line of the error of a number, by the error, its path and its row
pub joined-error : (items : Items) (t : ErrorTableState) (k before step : ℕ) (kinds : Kinds) (path : Path) (e : Error) (f : SingleError) (flipped : List ℕ) → kinds ≡ kinds_of items
    → e ≡ error_at t.errors k → f ≡ first_single_error e → before ≡ f.before → step ≡ f.step → path_at items step ≡ path → flipped ≡ row t.table.rows k
    → where_text before path ++ what_text kinds e flipped ≡ numbered_line items t k
joined-error items t k before step kinds path e f flipped is_kinds is_error is_first is_before is_step is_path is_row =
    let first : f ≡ first_single_error (error_at t.errors k) = is_first ∙ ap first_single_error is_error in
    let front : before ≡ (first_single_error (error_at t.errors k)).before = is_before ∙ ap (λ (x : SingleError). x.before) first in
    let here : path ≡ path_at items (first_single_error (error_at t.errors k)).step = sym is_path ∙ ap (path_at items) (is_step ∙ ap (λ (x : SingleError). x.step) first) in
    rw (is_kinds, is_error, is_row, front, here) refl

-- the error of a number, whatever is used for one beyond the end
pub found_error : (errors : List Error) (k : ℕ) (e : Error) → k < length errors → e ≡ get_or errors k e → e ≡ error_at errors k
found_error errors k e less is = is ∙ get_or_default errors k _ _ less

-- a table has a row for each error
pub rows_counted : (n : ℕ) (items : Items) (t : ErrorTableState) → IsErrorTable n items t → length t.table.rows ≡ length t.errors
rows_counted n items t is = ap length (is.are_flipped (λ _. false)) ∙ length-map t.errors _

-- the texts of the numbers from one on: its own, and those of the numbers after it
pub flat-range : (text : ℕ → List ℕ) (k n : ℕ) → k < n → flat_map text (range_with_len k (n - k)) ≡ text k ++ flat_map text (range_with_len (k + 1) (n - (k + 1)))
flat-range text k n less = ap (λ m. flat_map text (range_with_len k m)) more
  where
    more : n - k ≡ suc (n - (k + 1))
    more = omega (arith, less)
