-- Items that some lines stand for stay such items when a round is split off.
use Rattle.stab_circuit.proofs.Names.{◌≡◌, ◌≤◌, ◌<◌, refl, ap, sym, ◌∙◌, subst, ℕ, ◌+◌, ◌-◌, ◌^◌, suc, zero, Bool, true, false, List, [], ◌∷◌, ◌++◌, take, drop, arith, nat_lt, if◌then◌else◌, Option, Some, None, Ok, Err, slice_get, PlaceOutOfRange, Open, meaning_of, line_printed, Each, each-append, line_good, Items, OneItem, operation, repeat, listed, Path, rounds_as_block, parts_of_block, parts_of_item, with_parts, split_in, split, AreOfLines, lt_holds, split_alike}
use Rattle.stab_circuit.proofs.LineLaws.{good_said}
use Rattle.stab_circuit.proofs.RoundLemmas.{IsOfLine}
use Rattle.stab_circuit.proofs.LineItemLemmas.{IsMeant, of_lines, meant_of, listed_meant, each_meant, each_take, each_drop, got_meant, block_meant, shallow_of}

-- the line of a block with other rounds, of which there are no more
opened_meant : (n count : ℕ) (tag : List ℕ) → 0 < n → n ≤ count → IsOfLine (Ok (Open count tag)) → IsOfLine (Ok (Open n tag))
opened_meant n count tag some few (line, one, e) =
    let good = line_good line (Open count tag) one (sym e) in
    let below : count < 10 ^ 18 = good.0.1 in
    let said = good_said (Open n tag) ((some, omega (arith, few, below)), good.1) in
    (line_printed (Open n tag), said.one_line, sym (ap meaning_of (said.left 0) ∙ said.means))

rounds_meant : (n count : ℕ) (tag : List ℕ) (body : Items) → n ≤ count → IsMeant (repeat count tag body) → Each IsMeant (rounds_as_block n tag body)
rounds_meant zero count tag body few g = tt
rounds_meant (suc n) count tag body few g = ((opened_meant (suc n) count tag (omega arith) few g.0, g.1), tt)

parts_meant : (round count : ℕ) (tag : List ℕ) (body : Items) → round < count → IsMeant (repeat count tag body) → Each IsMeant (parts_of_block round count tag body)
parts_meant round count tag body lt g =
    let one : IsMeant (repeat 1 tag body) = (opened_meant 1 count tag (omega arith) (omega (arith, lt)) g.0, g.1) in
    each-append IsMeant (rounds_as_block round tag body) (repeat 1 tag body ∷ rounds_as_block (count - (round + 1)) tag body)
    (rounds_meant round count tag body (omega (arith, lt)) g) (one, rounds_meant (count - (round + 1)) count tag body (omega arith) g)

-- the parts that replace an item
there_meant : (round position : ℕ) (xs ys : List OneItem) (o : Option OneItem) → slice_get xs position ≡ o → with_parts position xs (parts_of_item round o) ≡ Ok ys → Each IsMeant xs → Each IsMeant ys
there_meant round position xs ys None found e g = absurd (cc)
there_meant round position xs ys (Some (operation op)) found e g = absurd (cc)
there_meant round position xs ys (Some (repeat count tag body)) found e g = by_test (nat_lt round count) refl e
  where
    by_test : (b : Bool) → nat_lt round count ≡ b → with_parts position xs (if b then Ok (parts_of_block round count tag body) else Err PlaceOutOfRange) ≡ Ok ys → Each IsMeant ys
    by_test false t e = absurd (cc)
    by_test true t e =
        let new : take position xs ++ (parts_of_block round count tag body ++ drop (position + 1) xs) ≡ ys = cc in
        let parts = parts_meant round count tag body (lt_holds round count t) (got_meant xs position (repeat count tag body) found g) in
        subst (Each IsMeant) new
        (each-append IsMeant (take position xs) (parts_of_block round count tag body ++ drop (position + 1) xs) (each_take IsMeant position xs g)
        (each-append IsMeant (parts_of_block round count tag body) (drop (position + 1) xs) parts (each_drop IsMeant (position + 1) xs g)))

split_meant : (round : ℕ) (bs : List ℕ) (position : ℕ) (xs ys : List OneItem) → split_in round bs position xs ≡ Ok ys → Each IsMeant xs → Each IsMeant ys
split_meant round [] position xs ys e g = there_meant round position xs ys (slice_get xs position) refl e g
split_meant round (b ∷ bs) position xs ys e g = block_meant (split_in round bs position) b xs ys e (λ us vs f h. split_meant round bs position us vs f h) g

pub split_of_lines : (path : Path) (round : ℕ) (old new : List OneItem) → AreOfLines (listed old) → split path round old ≡ Ok new → AreOfLines (listed new)
split_of_lines path round old new s e =
    let alike = split_alike round path.blocks path.position old new e in
    of_lines (listed new) (listed_meant new (split_meant round path.blocks path.position old new e (each_meant old (meant_of (listed old) s)))) (omega (arith, alike.depth, shallow_of (listed old) s))
