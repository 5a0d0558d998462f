-- Proved, for every layout at once: both round trips; a sheet is known by its bits; a reading looks at no bit past its own end.
use Rattle.std.proofs.Math.Path.{◌≡◌, refl, ap, subst}
use Rattle.std.proofs.Common.{sym, ◌∙◌, arith, take-append-drop, take-add, length-take-le}
use Rattle.std.specs.Prelude.{Bool, false, Ok, Err}
use Rattle.std.proofs.Math.Bool.{true}
use mathlib.Core.List.{List, [], ◌∷◌, ◌++◌, append_assoc}
use Prim.Native.Nat.{ℕ, zero, suc, ◌+◌, ◌^◌, ◌≤◌, ◌<◌}
use Rattle.std.proofs.Math.Dec.{ltb, leb}
use Rattle.std.proofs.Math.ListN.{length, take, drop, length-append, length-drop}
use Rattle.std.proofs.Math.Seq.{take_at, drop_at}
use borrow.Author.Tests.{leb-true, ltb-true, lt-ltb, le-leb}
use Rattle.bits.specs.Bits.{bits_of, number, Bits, none, more}
use Rattle.bits.specs.Laws.{length-bits_of, number-of-bits, number_lt, bits_of_number}
use Rattle.layout.specs.declared.Field.{Field}
use Rattle.layout.specs.Results.{Verdict}
use Rattle.layout.specs.Layout.{Layout, done, field, judge, Outcome, accepted, refused, enough, judged, before, read_l}
use Rattle.layout.specs.Layout.{Written, written, unwritten, fitting, judged_w, behind, write_l}

-- ---- a part of a list of bits

bits-take : (n : ℕ) {l : List ℕ} → Bits l → Bits (take n l)
bits-take zero h = none
bits-take (suc n) none = none
bits-take (suc n) (more h r) = more h (bits-take n r)

pub bits-drop : (n : ℕ) {l : List ℕ} → Bits l → Bits (drop n l)
bits-drop zero h = h
bits-drop (suc n) none = none
bits-drop (suc n) (more h r) = bits-drop n r

pub front-lt : (w : ℕ) (l : List ℕ) → Bits l → w ≤ length l → number (take w l) < 2 ^ w
front-lt w l b h = subst (λ (x : ℕ). number (take w l) < 2 ^ x) (length-take-le w l h) (number_lt (bits-take w b))

pub front-bits : (w : ℕ) (l : List ℕ) → Bits l → w ≤ length l → bits_of w (number (take w l)) ≡ take w l
front-bits w l b h = ap (λ (x : ℕ). bits_of x (number (take w l))) (sym (length-take-le w l h)) ∙ bits_of_number (bits-take w b)

-- ---- what an accepted outcome says of each step

pub fitting-acc : (sf : ℕ) (b : Bool) (o : Written) {bs : List ℕ} → fitting sf b o ≡ written bs → (b ≡ true) × (o ≡ written bs)
fitting-acc sf true o e = (refl, e)
fitting-acc sf false o e = let z : ◌≡◌ {A = ℕ} 0 1 = cc in absurd (omega arith)

pub judged_w-acc : (sf : ℕ) (v : Verdict) (o : Written) {bs : List ℕ} → judged_w sf v o ≡ written bs → (v ≡ Ok tt) × (o ≡ written bs)
judged_w-acc sf (Ok _) o e = (refl, e)
judged_w-acc sf (Err why) o e = let z : ◌≡◌ {A = ℕ} 0 1 = cc in absurd (omega arith)

pub behind-acc : (p : List ℕ) (o : Written) {bs : List ℕ} → behind p o ≡ written bs → (q : List ℕ) × (o ≡ written q) × (bs ≡ p ++ q)
behind-acc p (written q) e = (q, refl, cc)
behind-acc p (unwritten why) e = let z : ◌≡◌ {A = ℕ} 0 1 = cc in absurd (omega arith)

module _ {A : Type 0} where
  pub enough-acc : (sf : ℕ) (b : Bool) (o : Outcome A) {v : A} {cs : List ℕ} {n : ℕ} → enough sf b o ≡ accepted v cs n → (b ≡ true) × (o ≡ accepted v cs n)
  enough-acc sf true o e = (refl, e)
  enough-acc sf false o e = let z : ◌≡◌ {A = ℕ} 0 1 = cc in absurd (omega arith)

  pub judged-acc : (sf : ℕ) (k : Verdict) (o : Outcome A) {v : A} {cs : List ℕ} {n : ℕ} → judged sf k o ≡ accepted v cs n → (k ≡ Ok tt) × (o ≡ accepted v cs n)
  judged-acc sf (Ok _) o e = (refl, e)
  judged-acc sf (Err why) o e = let z : ◌≡◌ {A = ℕ} 0 1 = cc in absurd (omega arith)

  pub before_acc : (c w : ℕ) (o : Outcome A) {v : A} {cs : List ℕ} {n : ℕ} → before c w o ≡ accepted v cs n
      → (ds : List ℕ) × (m : ℕ) × (o ≡ accepted v ds m) × (cs ≡ c ∷ ds) × (n ≡ w + m)
  before_acc c w (accepted u ds m) {v} e = (ds, m, (let x : u ≡ v = cc in ap (λ y. accepted y ds m) x), cc, cc)
  before_acc c w (refused why) e = let z : ◌≡◌ {A = ℕ} 0 1 = cc in absurd (omega arith)

  -- ---- one field more, in each direction

  write_step : (f : Field) (next : ℕ → Layout A) (bits ds : List ℕ) (m c : ℕ) → Bits bits → f.width ≤ length bits
      → c ≡ number (take f.width bits) → judge f c ≡ Ok tt → write_l (next c) ds ≡ written (take m (drop f.width bits))
      → write_l (field f next) (c ∷ ds) ≡ written (take (f.width + m) bits)
  unfolding write_l
  write_step f next bits ds m c b le n j ih =
      let fits : ltb c (2 ^ f.width) ≡ true = lt-ltb c (2 ^ f.width) (rw n (front-lt f.width bits b le)) in
      let back : bits_of f.width c ≡ take f.width bits = ap (bits_of f.width) n ∙ front-bits f.width bits b le in
      simp (fits, j, ih, back, take-add)

  read_step : (f : Field) (next : ℕ → Layout A) (v : A) (c : ℕ) (cs q rest : List ℕ) → c < 2 ^ f.width → judge f c ≡ Ok tt
      → read_l (next c) (q ++ rest) ≡ accepted v cs (length q)
      → read_l (field f next) ((bits_of f.width c ++ q) ++ rest) ≡ accepted v (c ∷ cs) (length (bits_of f.width c ++ q))
  unfolding read_l
  read_step f next v c cs q rest fits j ih =
      let w : ℕ = f.width in
      let ln : leb w (length (bits_of w c ++ (q ++ rest))) ≡ true
      = le-leb w (length (bits_of w c ++ (q ++ rest))) (omega (arith, length-append (bits_of w c) (q ++ rest), length-bits_of w c)) in
      let t : take w (bits_of w c ++ (q ++ rest)) ≡ bits_of w c = take_at (bits_of w c) (q ++ rest) w (length-bits_of w c) in
      let d : drop w (bits_of w c ++ (q ++ rest)) ≡ q ++ rest = drop_at (bits_of w c) (q ++ rest) w (length-bits_of w c) in
      let n : number (bits_of w c) ≡ c = number-of-bits w c fits in
      rw (append_assoc, ln, t, d, n, j, ih, length-append, length-bits_of)

  -- ---- the round trips

  -- What is read, written again, gives the bits it was read from; and no more bits are read than there are.
  pub write_read : (l : Layout A) (bits : List ℕ) (cs : List ℕ) (n : ℕ) {v : A} → Bits bits → read_l l bits ≡ accepted v cs n
      → (write_l l cs ≡ written (take n bits)) × (n ≤ length bits)
  unfolding read_l write_l
  write_read (done u) bits cs n b e =
      let h : cs ≡ [] = cc in
      let k : n ≡ 0 = cc in
      subst (λ (x : ℕ). (write_l (done u) cs ≡ written (take x bits)) × (x ≤ length bits)) (sym k) (ap (write_l (done u)) h, omega arith)
  write_read (field f next) bits cs n {v} b e =
      let w : ℕ = f.width in
      let c : ℕ = number (take w bits) in
      let o : Outcome A = read_l (next c) (drop w bits) in
      let h1 : (leb w (length bits) ≡ true) × (judged f.sf (judge f c) (before c w o) ≡ accepted v cs n) = enough-acc f.sf _ _ e in
      let h2 : (judge f c ≡ Ok tt) × (before c w o ≡ accepted v cs n) = judged-acc f.sf _ _ h1.1 in
      let h3 : (ds : List ℕ) × (m : ℕ) × (o ≡ accepted v ds m) × (cs ≡ c ∷ ds) × (n ≡ w + m) = before_acc c w o h2.1 in
      let le : w ≤ length bits = leb-true _ _ h1.0 in
      let ih : (write_l (next c) h3.0 ≡ written (take h3.1 (drop w bits))) × (h3.1 ≤ length (drop w bits))
      = write_read (next c) (drop w bits) h3.0 h3.1 (bits-drop w b) h3.2 in (
        ap (write_l (field f next)) h3.3 ∙ write_step f next bits h3.0 h3.1 c b le refl h2.0 ih.0
            ∙ ap (λ (x : ℕ). written (take x bits)) (sym h3.4),
        omega (arith, h3.4, ih.1, length-drop w bits),
      )

  -- What is written reads back as the same codes and one value, whatever follows the bits.
  pub read-write : (l : Layout A) (cs : List ℕ) (bs : List ℕ) → write_l l cs ≡ written bs
      → (v : A) × ((rest : List ℕ) → read_l l (bs ++ rest) ≡ accepted v cs (length bs))
  unfolding read_l write_l
  read-write (done u) [] bs e = let h : bs ≡ [] = cc in (u, λ rest. ap (λ (x : List ℕ). accepted u [] (length x)) (sym h))
  read-write (done u) (c ∷ cs) bs e = let z : ◌≡◌ {A = ℕ} 0 1 = cc in absurd (omega arith)
  read-write (field f next) [] bs e = let z : ◌≡◌ {A = ℕ} 0 1 = cc in absurd (omega arith)
  read-write (field f next) (c ∷ cs) bs e =
      let w : ℕ = f.width in
      let o : Written = write_l (next c) cs in
      let h1 : (judge f c ≡ Ok tt) × (fitting f.sf (ltb c (2 ^ w)) (behind (bits_of w c) o) ≡ written bs) = judged_w-acc f.sf _ _ e in
      let h2 : (ltb c (2 ^ w) ≡ true) × (behind (bits_of w c) o ≡ written bs) = fitting-acc f.sf _ _ h1.1 in
      let h3 : (q : List ℕ) × (o ≡ written q) × (bs ≡ bits_of w c ++ q) = behind-acc (bits_of w c) o h2.1 in
      let fits : c < 2 ^ w = ltb-true _ _ h2.0 in
      let r = read-write (next c) cs h3.0 h3.1 in (
        r.0,
        λ rest. subst (λ (x : List ℕ). read_l (field f next) (x ++ rest) ≡ accepted r.0 (c ∷ cs) (length x)) (sym h3.2)
            (read_step f next r.0 c cs h3.0 rest fits h1.0 (r.1 rest)),
      )

  -- ---- what follows from them

  -- Two sheets that write the same bits are the same.
  pub write-injective : (l : Layout A) (cs ds : List ℕ) (bs : List ℕ) → write_l l cs ≡ written bs → write_l l ds ≡ written bs → cs ≡ ds
  write-injective l cs ds bs p q =
      let a = (read-write l cs bs p).1 [] in
      let b = (read-write l ds bs q).1 [] in
      cc

  -- Reading stops at the message's own end: the bits it read, with anything behind them, read the same.
  pub read-ends : (l : Layout A) (bits : List ℕ) (cs : List ℕ) (n : ℕ) {v : A} → Bits bits → read_l l bits ≡ accepted v cs n
      → (rest : List ℕ) → read_l l (take n bits ++ rest) ≡ accepted v cs n
  read-ends l bits cs n {v} b e rest =
      let h : (write_l l cs ≡ written (take n bits)) × (n ≤ length bits) = write_read l bits cs n b e in
      let r = read-write l cs (take n bits) h.0 in
      let back : read_l l bits ≡ accepted r.0 cs (length (take n bits))
      = ap (read_l l) (sym (take-append-drop n bits)) ∙ r.1 (drop n bits) in
      let same : r.0 ≡ v = cc in
      r.1 rest ∙ ap (λ (x : A). accepted x cs (length (take n bits))) same ∙ ap (accepted v cs) (length-take-le n bits h.1)

  -- The codes alone say what was read.
  pub read-by-codes : (l : Layout A) (bits bits' : List ℕ) (cs : List ℕ) (n n' : ℕ) {v v' : A} → Bits bits → Bits bits'
      → read_l l bits ≡ accepted v cs n → read_l l bits' ≡ accepted v' cs n' → v ≡ v'
  read-by-codes l bits bits' cs n n' {v} {v'} b b' e e' =
      let h : (write_l l cs ≡ written (take n bits)) × (n ≤ length bits) = write_read l bits cs n b e in
      let h' : (write_l l cs ≡ written (take n' bits')) × (n' ≤ length bits') = write_read l bits' cs n' b' e' in
      let same : take n bits ≡ take n' bits' = cc (h.0, h'.0) in
      let p : read_l l (take n bits ++ []) ≡ accepted v cs n = read-ends l bits cs n b e [] in
      let q : read_l l (take n' bits' ++ []) ≡ accepted v' cs n' = read-ends l bits' cs n' b' e' [] in
      let r : read_l l (take n bits ++ []) ≡ read_l l (take n' bits' ++ []) = ap (λ (x : List ℕ). read_l l (x ++ [])) same in
      cc
