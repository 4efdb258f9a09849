-- Where frames begin: at Pauli gates that are in one circuit alone; and frames one after another.
use Rattle.stab_frames.proofs.Names.{◌≡◌, ℕ, ◌<◌, refl, sym, ◌∙◌, ap, subst, Bool, true, false, List, [], ◌∷◌, append-nil, add-zero, length, map, replicate, length-replicate, All-head, All-tail, Letter, single, string_product, length-string_product, string_product-assoc, string_product-comm, member, length-one_letter, one, flipped, Frame, PointsDifferBy, identity_frame, frame_of, frame_product, letters_on, gate_of, Point, next_point, point_after}
use Rattle.std.specs.Prelude.{All}
use Rattle.stab_gates.specs.declared.letter.Letter.TheVariants as letter
use Rattle.stab_frames.proofs.PropagatedPointLemmas.{conjugated-blank, conjugated-over, conjugated-back, conjugated-pauli}
use Rattle.stab_frames.proofs.FlipLemmas.{length-flipped, flipped-none, flipped-twice, flipped-back}

-- frames one after another

pub by_frame-same : (n : ℕ) (a : Point) → PointsDifferBy n (identity_frame n (length a.records)) a a
by_frame-same n a = record {
  size = length-replicate n letter.I;
  group = conjugated-blank n (member a.trace);
  coin = refl;
  count = length-replicate (length a.records) false;
  records = sym (flipped-none a.records);
}

pub by_frame-over : (n : ℕ) (f g : Frame) (a b c : Point) → PointsDifferBy n f a b → PointsDifferBy n g b c → PointsDifferBy n (frame_product f g) a c
by_frame-over n f g a b c h k = record {
  size = length-string_product n f.letters g.letters h.size k.size;
  group = conjugated-over n f.letters g.letters (member a.trace) (member b.trace) (member c.trace) h.group k.group;
  coin = k.coin ∙ h.coin;
  count = length-flipped f.flips g.flips ∙ h.count;
  records = k.records ∙ ap (λ r. flipped r g.flips) h.records ∙ flipped-twice a.records f.flips g.flips h.count other;
}
  where
    other : length g.flips ≡ length a.records
    other = k.count ∙ ap length h.records ∙ length-flipped a.records f.flips

pub by_frame-back : (n : ℕ) (f : Frame) (a b : Point) → PointsDifferBy n f a b → PointsDifferBy n f b a
by_frame-back n f a b h = record {
  size = h.size;
  group = conjugated-back n f.letters (member a.trace) (member b.trace) h.group;
  coin = sym h.coin;
  count = h.count ∙ sym (ap length h.records ∙ length-flipped a.records f.flips);
  records = sym (ap (λ r. flipped r f.flips) h.records ∙ flipped-back a.records f.flips h.count);
}

-- no flips in two lists of them

identity_frame-flips : (k : ℕ) (flips : List Bool) → length flips ≡ k → flipped flips (replicate k false) ≡ flips
identity_frame-flips k flips e = ap (λ m. flipped flips (replicate m false)) (sym e) ∙ flipped-none flips

-- one Pauli gate

pub by_frame-pauli : (n : ℕ) (coins : ℕ → Bool) (l : Letter) (q : ℕ) → q < n → (a : Point)
    → PointsDifferBy n (frame_of (single n q l).letters (length a.records)) a (next_point n coins (one (gate_of l) q) a)
by_frame-pauli n coins l q lt a = record {
  size = length-one_letter n q l;
  group = conjugated-pauli n l q lt (member a.trace);
  coin = add-zero a.coin;
  count = length-replicate (length a.records) false;
  records = append-nil a.records ∙ sym (flipped-none a.records);
}

-- one letter at each of some qubits
pub by_frame-paulis : (n : ℕ) (coins : ℕ → Bool) (l : Letter) (qs : List ℕ) → All (λ q. q < n) qs → (a : Point)
    → PointsDifferBy n (frame_of (letters_on n l qs) (length a.records)) a (point_after n coins (map (one (gate_of l)) qs) a)
by_frame-paulis n coins l [] fits a = by_frame-same n a
by_frame-paulis n coins l (q ∷ qs) fits a =
    let next = next_point n coins (one (gate_of l) q) a in
    let same : length next.records ≡ length a.records = ap length (append-nil a.records) in
    subst (λ (r : List Bool). PointsDifferBy n (record { letters = letters_on n l (q ∷ qs); flips = r }) a (point_after n coins (map (one (gate_of l)) (q ∷ qs)) a))
    (identity_frame-flips (length next.records) (replicate (length a.records) false) (length-replicate (length a.records) false ∙ sym same))
    (by_frame-over n (frame_of (single n q l).letters (length a.records)) (frame_of (letters_on n l qs) (length next.records)) a next
    (point_after n coins (map (one (gate_of l)) qs) next)
    (by_frame-pauli n coins l q (All-head (λ q. q < n) q qs fits) a)
    (by_frame-paulis n coins l qs (All-tail (λ q. q < n) q qs fits) next))

-- some Pauli gates instead of others

pub by_frame-exchanged : (n : ℕ) (coins : ℕ → Bool) (l m : Letter) (qs rs : List ℕ) → All (λ q. q < n) qs → All (λ q. q < n) rs → (a : Point)
    → PointsDifferBy n (frame_of (string_product (letters_on n l qs) (letters_on n m rs)) (length a.records))
    (point_after n coins (map (one (gate_of l)) qs) a) (point_after n coins (map (one (gate_of m)) rs) a)
by_frame-exchanged n coins l m qs rs left right a =
    subst (λ (r : List Bool). PointsDifferBy n (record { letters = string_product (letters_on n l qs) (letters_on n m rs); flips = r })
    (point_after n coins (map (one (gate_of l)) qs) a) (point_after n coins (map (one (gate_of m)) rs) a))
    (identity_frame-flips (length a.records) (replicate (length a.records) false) (length-replicate (length a.records) false))
    (by_frame-over n (frame_of (letters_on n l qs) (length a.records)) (frame_of (letters_on n m rs) (length a.records))
    (point_after n coins (map (one (gate_of l)) qs) a) a (point_after n coins (map (one (gate_of m)) rs) a)
    (by_frame-back n (frame_of (letters_on n l qs) (length a.records)) a (point_after n coins (map (one (gate_of l)) qs) a) (by_frame-paulis n coins l qs left a))
    (by_frame-paulis n coins m rs right a))

-- and after points that differ by a frame
pub by_frame-gates : (n : ℕ) (coins others : ℕ → Bool) (l m : Letter) (qs rs : List ℕ) → All (λ q. q < n) qs → All (λ q. q < n) rs → (f : Frame) (a b : Point)
    → PointsDifferBy n f a b → PointsDifferBy n (record f { letters = string_product f.letters (string_product (letters_on n l qs) (letters_on n m rs)) })
    (point_after n coins (map (one (gate_of l)) qs) a) (point_after n others (map (one (gate_of m)) rs) b)
by_frame-gates n coins others l m qs rs left right f a b distinct =
    subst (λ (g : Frame). PointsDifferBy n g (point_after n coins (map (one (gate_of l)) qs) a) (point_after n others (map (one (gate_of m)) rs) b))
    (λ i. record {
      letters =
          (ap (λ s. string_product s (letters_on n m rs)) (string_product-comm (letters_on n l qs) f.letters)
          ∙ string_product-assoc f.letters (letters_on n l qs) (letters_on n m rs)) i;
      flips = (identity_frame-flips (length b.records) (flipped (replicate (length a.records) false) f.flips) long ∙ flipped-zeros (length a.records) f.flips distinct.count) i;
    })
    (by_frame-over n (frame_product (frame_of (letters_on n l qs) (length a.records)) f) (frame_of (letters_on n m rs) (length b.records))
    (point_after n coins (map (one (gate_of l)) qs) a) b (point_after n others (map (one (gate_of m)) rs) b)
    (by_frame-over n (frame_of (letters_on n l qs) (length a.records)) f (point_after n coins (map (one (gate_of l)) qs) a) a b
    (by_frame-back n (frame_of (letters_on n l qs) (length a.records)) a (point_after n coins (map (one (gate_of l)) qs) a) (by_frame-paulis n coins l qs left a))
    distinct)
    (by_frame-paulis n others m rs right b))
  where
    long : length (flipped (replicate (length a.records) false) f.flips) ≡ length b.records
    long =
        length-flipped (replicate (length a.records) false) f.flips
        ∙ length-replicate (length a.records) false
        ∙ sym (length-flipped a.records f.flips)
        ∙ sym (ap length distinct.records)

    flipped-zeros : (k : ℕ) (flips : List Bool) → length flips ≡ k → flipped (replicate k false) flips ≡ flips
    flipped-zeros k flips e =
        ap (λ j. flipped (replicate j false) flips) (sym e)
        ∙ zeros flips
      where
        zeros : (bits : List Bool) → flipped (replicate (length bits) false) bits ≡ bits
        zeros [] = refl
        zeros (true ∷ bits) = ap (λ more. true ∷ more) (zeros bits)
        zeros (false ∷ bits) = ap (λ more. false ∷ more) (zeros bits)
