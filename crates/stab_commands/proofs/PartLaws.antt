-- Laws of parts: what a call passes on that writes what a part of a search finds.
use Rattle.stab_commands.proofs.Names.{◌≡◌, refl, ap, subst, ℕ, List, ◌∷◌, [], length, codes, decimal, Result, OutputView, Fault, Items, DistanceOptions, SendsFound, SendsAtOnce}
use Rattle.std.specs.Prelude.{◌+◌}
use Rattle.std.specs.Option.{unwrap_or}
use Rattle.stab_search.specs.declared.answer.Answer.{Answer}
use Rattle.stab_search.specs.declared.answer.Answer.TheVariants.{Least, NoneWithin, NoneAtAll}
use Rattle.stab_search.specs.declared.search_part.PartAnswer.{PartAnswer}
use Rattle.stab_search.specs.PartNumbers.{PartNumbers}
use Rattle.stab_search.specs.SearchParts.{IsFoundIn, IsPartAnswer, Searched}
use Rattle.stab_search.specs.Tables.{ErrorTable}
use Rattle.stab_error_model.specs.ErrorTables.{ErrorTableState}
use Rattle.stab_report.specs.Distances.{AreErrorsOf}
use Rattle.stab_report.specs.PartTexts.{IsPartText, first_line, none_of, of_part, part_head, part_text}
use Rattle.stab_report.specs.Texts.{texts_joined}
use Rattle.stab_commands.specs.inner.Parts.{IsInside}
use Rattle.stab_commands.proofs.FoundLaws.{found_at_once}

-- which part it is, by its seven parts
pub joined-part : (p : PartNumbers) (digest : ℕ) (number count table : List ℕ) → number ≡ decimal (p.index + 1) → count ≡ decimal p.count → table ≡ decimal digest
    → texts_joined (codes "part " ∷ number ∷ codes "/" ∷ count ∷ codes "\ntable " ∷ table ∷ codes "\n" ∷ []) ≡ part_head p digest
joined-part p digest number count table is_number is_count is_table = rw (is_number, is_count, is_table) refl

-- the line of a number of errors of which a part has no set, by its three parts
pub joined-none_of : (k : ℕ) (digits : List ℕ) → digits ≡ decimal (k + 1) → texts_joined (codes "none of " ∷ digits ∷ codes "\n" ∷ []) ≡ none_of k
joined-none_of k digits is = rw is refl

-- the line of the first error of a set, by its three parts
pub joined-first : (first : ℕ) (digits : List ℕ) → digits ≡ decimal first → texts_joined (codes "first " ∷ digits ∷ codes "\n" ∷ []) ≡ first_line first
joined-first first digits is = rw is refl

-- the errors of a set that a part found are those of the table
found_inside : (p : PartNumbers) (t : ErrorTable) (s : Searched) (most last first : ℕ) (a : Answer) → IsFoundIn p t s most last first a → IsInside (length t.rows) a
found_inside p t s most last first (Least numbers) is = is.1.logical.inside
found_inside p t s most last first NoneWithin is = tt
found_inside p t s most last first NoneAtAll is = tt

pub part_inside : (p : PartNumbers) (t : ErrorTable) (most count : ℕ) (a : PartAnswer) → length t.rows ≡ count → IsPartAnswer p t most a → IsInside count a.answer
part_inside p t most count a same is = subst (λ n. IsInside n a.answer) same (found_inside p t is.searched most a.last a.first a.answer is.found)

-- what a part finds is sent as bytes like those that report it
pub part_sent : {T : Type 0} (p : PartNumbers) (options asked : DistanceOptions) (items : Items) (t : ErrorTableState) (a : PartAnswer) (old new : OutputView) (r : Result T Fault) → asked ≡ of_part options
    → AreErrorsOf asked items t → IsPartAnswer p t.table (unwrap_or asked.most (length t.table.rows)) a → SendsAtOnce (part_text p asked items t a) old new r
    → SendsFound (IsPartText p options items) old new r
part_sent p options asked items t a old new r same are is sent =
    found_at_once (IsPartText p options items) old new (part_text p asked items t a) r
    (record {
      t = t;
      are = subst (λ (o : DistanceOptions). AreErrorsOf o items t) same are;
      answer = a;
      is = subst (λ (o : DistanceOptions). IsPartAnswer p t.table (unwrap_or o.most (length t.table.rows)) a) same is;
      text = ap (λ (o : DistanceOptions). part_text p o items t a) same;
    })
    sent
