-- Rows that are moved: before a step, by what they show after it, with its own number's records asked for.
use Rattle.stab_regions.proofs.Names.{◌≡◌, ℕ, ◌+◌, ◌-◌, refl, sym, ◌∙◌, ap, subst, arith, Bool, true, false, List, [], ◌∷◌, ◌++◌, length, if◌then◌else◌, ◌==◌, Letter, Step, collapse, Region, with_looks, region_before, ShowsLetters, ShowsLooks, ShowsRegion, MovesRegion, Result, Ok, Err, OnOk, RegionRows, ShowsNumber, in_front_of, asked_about, BeginsRecord, corrected_by, MovesRows}
use Rattle.std.specs.Prelude.{IfOk}
use Rattle.stab_items.specs.Steps.{makes}
use Rattle.stab_regions.proofs.GateLemmas.{on_ok}

-- measurements: the record is asked for, and the measurement is moved over

pub made-end : (recorded : Bool) (l : Letter) (q : ℕ) (inverted resets : Bool) (end : ℕ) → (if recorded then end - 1 else end) ≡ end - makes (collapse l q recorded inverted resets)
made-end true l q inverted resets end = refl
made-end false l q inverted resets end = omega arith

pub asked-made : (recorded : Bool) (l : Letter) (q : ℕ) (inverted resets : Bool) (r d o i : ℕ)
    → (if recorded then (if i + 1 == r then 1 ∷ [] else []) else []) ≡ asked_about r d o i (collapse l q recorded inverted resets)
asked-made true l q inverted resets r d o i = refl
asked-made false l q inverted resets r d o i = refl

-- rows and records after a step show what they did, if they are the same
same-rows : (i : ℕ) (old_x old_z old new_x new_z new : List (List ℕ)) (r : Region) → new_x ≡ old_x → new_z ≡ old_z → new ≡ old → ShowsRegion i old_x old_z old r → ShowsRegion i new_x new_z new r
same-rows i old_x old_z old new_x new_z new r is_x is_z is shows =
    subst (λ rows. ShowsRegion i rows new_z new r) (sym is_x)
    (subst (λ rows. ShowsRegion i old_x rows new r) (sym is_z) (subst (λ rows. ShowsRegion i old_x old_z rows r) (sym is) shows))

-- a measurement x, of which the newest record is asked for and which is then moved over, as y
module _ (x y : Step) (recorded : Bool) (old begun new : RegionRows) (by_x by_z : List (List ℕ)) (begins : BeginsRecord recorded old begun) (is_x : new.by_x.items ≡ by_x)
    (is_z : new.by_z.items ≡ by_z) (long_x : length by_x ≡ length begun.by_x.items) (long_z : length by_z ≡ length begun.by_z.items) (same_record : new.record_end ≡ begun.record_end)
    (same_detector : new.detector_end ≡ begun.detector_end) (same_observable : new.observable ≡ begun.observable) where
  abbrev m : ℕ
  m = length old.by_x.items

  as-many : length begun.by_x.items ≡ m
  as-many = ap (λ rows. length rows.items) begins.by_x

  begun-shows : (i : ℕ) (r : Region) → (if recorded then (if i + 1 == old.record_end then 1 ∷ [] else []) else []) ≡ asked_about old.record_end old.detector_end old.observable i x
      → ShowsNumber old i r → ShowsNumber begun i (with_looks (asked_about old.record_end old.detector_end old.observable i x) r)
  begun-shows i r asked shows = record {
    letters =
        subst (λ rows. ShowsLetters i rows begun.by_z.items r.string.letters) (sym (ap (λ rows. rows.items) begins.by_x))
        (subst (λ rows. ShowsLetters i old.by_x.items rows r.string.letters) (sym (ap (λ rows. rows.items) begins.by_z)) shows.letters);
    looks = subst (λ ks. ShowsLooks i begun.records.items (ks ++ r.looks)) asked (begins.looks i r.looks shows.looks);
  }

  pub measured-rows : (if recorded then old.record_end - 1 else old.record_end) ≡ old.record_end - makes x
      → ((i : ℕ) → (if recorded then (if i + 1 == old.record_end then 1 ∷ [] else []) else []) ≡ asked_about old.record_end old.detector_end old.observable i x)
      → in_front_of x old.detector_end ≡ old.detector_end
      → MovesRegion (length begun.by_x.items) y begun.by_x.items begun.by_z.items begun.records.items by_x by_z new.records.items → MovesRows m x y old new
  measured-rows made asked plain moves = record {
    rows = ap length is_z ∙ long_z ∙ ap (λ rows. length rows.items) begins.by_z;
    qubits = ap length is_x ∙ long_x ∙ as-many;
    record_end = same_record ∙ begins.record_end ∙ made;
    detector_end = same_detector ∙ begins.detector_end ∙ sym plain;
    observable = same_observable ∙ begins.observable;
    regions = λ i r long shows.
        let about : Region = with_looks (asked_about old.record_end old.detector_end old.observable i x) r in
        let moved : MovesRegion m y begun.by_x.items begun.by_z.items begun.records.items by_x by_z new.records.items =
        subst (λ k. MovesRegion k y begun.by_x.items begun.by_z.items begun.records.items by_x by_z new.records.items) as-many moves in
        same-rows i by_x by_z new.records.items new.by_x.items new.by_z.items new.records.items (region_before m y about) is_x is_z refl
        (moved i about long (begun-shows i r (asked i) shows));
  }

-- a step that was moved over is the one that is given
pub rows-arrive : {A E : Type 0} (result : Result A E) (n : ℕ) (b : Bool) (x y : Step) (old new : RegionRows) → x ≡ y → OnOk result (MovesRows n y (corrected_by b y) old new)
    → OnOk result (MovesRows n x (corrected_by b x) old new)
rows-arrive result n b x y old new e = on_ok result _ _ (λ m. subst (λ z. MovesRows n z (corrected_by b z) old new) (sym e) m)

-- for any mark of a measurement's record
pub rows-arrive-whichever : {A E : Type 0} (result : Result A E) (n : ℕ) (b : Bool) (x : Step) (y : Bool → Step) (inverted : Bool) (old new : RegionRows) → x ≡ y inverted
    → OnOk result ((c : Bool) → MovesRows n (y c) (corrected_by b (y c)) old new) → OnOk result (MovesRows n x (corrected_by b x) old new)
rows-arrive-whichever result n b x y inverted old new e h = rows-arrive result n b x (y inverted) old new e (on_ok result _ _ (λ m. m inverted) h)

-- what follows of what an answer that is Ok says of its value
pub if_ok : {A E : Type 0} (r : Result A E) (P Q : A → Type 0) → ((a : A) → P a → Q a) → IfOk r P → IfOk r Q
if_ok (Ok a) P Q f p = f a p
if_ok (Err e) P Q f p = tt
