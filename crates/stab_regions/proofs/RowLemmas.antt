-- Rows of numbers: one of them written anew, and looked up.
use Rattle.stab_regions.proofs.Names.{◌≡◌, ℕ, ◌<◌, refl, sym, subst, ◌∙◌, ap, Bool, false, List, [], length, get_or, set, get_or-set_same, get_or-set_other, true, ◌&&◌, parity-false, ◌⊕◌, odd, row, Toggles, TogglesWhere}
use Rattle.stab_parities.proofs.MergeLemmas.{row-in}

-- writing a row toggles it
pub toggles_set : (old : List (List ℕ)) (site : ℕ) (numbers new : List ℕ) → site < length old
    → ((i : ℕ) → odd i new ≡ odd i (row old site) ⊕ odd i numbers) → Toggles old (set old site new) site numbers
toggles_set old site numbers new lt same = record {
  here = λ i. ap (odd i) (get_or-set_same old site new [] lt) ∙ same i;
  elsewhere = λ k ne. get_or-set_other old site k new [] ne;
}

pub toggles_true : (bit : Bool) (old new : List (List ℕ)) (site : ℕ) (numbers : List ℕ) → bit ≡ true → Toggles old new site numbers → TogglesWhere bit old new site numbers
toggles_true bit old new site numbers e t = record {
  here = λ i. t.here i ∙ ap (λ b. odd i (row old site) ⊕ (b && odd i numbers)) (sym e);
  elsewhere = t.elsewhere;
}

pub toggles_false : (bit : Bool) (old : List (List ℕ)) (site : ℕ) (numbers : List ℕ) → bit ≡ false → TogglesWhere bit old old site numbers
toggles_false bit old site numbers e = record {
  here = λ i. sym (parity-false _) ∙ ap (λ b. odd i (row old site) ⊕ (b && odd i numbers)) (sym e);
  elsewhere = λ k ne. refl;
}

pub toggles-as : (a b : Bool) (old new : List (List ℕ)) (site : ℕ) (numbers : List ℕ) → a ≡ b → TogglesWhere a old new site numbers → TogglesWhere b old new site numbers
toggles-as a b old new site numbers e t = subst (λ bit. TogglesWhere bit old new site numbers) e t

pub toggles-by : (bit : Bool) (old new : List (List ℕ)) (site : ℕ) (rows : List (List ℕ)) (k : ℕ) (d : List ℕ) → k < length rows
    → TogglesWhere bit old new site (get_or rows k d) → TogglesWhere bit old new site (row rows k)
toggles-by bit old new site rows k d lt t = subst (TogglesWhere bit old new site) (row-in rows k d lt) t
