-- Serves proofs, and is proved, for every layout: where two layouts that differ in one field read and write alike, and what is read behind a field.
use Rattle.std.specs.Prelude.{◌≡◌, Bool, leb, take, Ok}
use Rattle.std.proofs.Math.Path.{refl, ap, ap₂, sym}
use Rattle.std.proofs.Common.{◌∙◌, arith, le-leb, ltb-true, ltb-false}
use Rattle.std.proofs.Math.Bool.{true, false}
use mathlib.Core.List.{List, [], ◌∷◌}
use Prim.Native.Nat.{ℕ, suc, ◌+◌, ◌^◌, ◌≤◌, ◌<◌}
use Rattle.std.proofs.Math.Dec.{ltb}
use Rattle.std.proofs.Math.ListN.{length, get_or, drop, length-drop, drop_of_length-le}
use Rattle.std.proofs.Math.Seq.{drop-drop, drop-cons}
use Rattle.std.proofs.lemmas.Bool.{lt-leb}
use Rattle.answer.specs.Place.{fault_at, further}
use Rattle.answer.specs.declared.Refusal.TheVariants as refusal
use Rattle.answer.specs.declared.Fault as answer
use Rattle.bits.specs.Bits.{bits_of, number, Bits}
use Rattle.layout.specs.declared.Field.{Field}
use Rattle.layout.specs.Results.{Verdict}
use Rattle.layout.specs.Layout.{Layout, field, judge, Outcome, accepted, refused, enough, judged, before, read_l}
use Rattle.layout.specs.Layout.{Written, unwritten, fitting, judged_w, behind, write_l}
use Rattle.layout.specs.RoundTrip.{bits-drop, front-lt, enough-acc, judged-acc, before_acc}

-- ---- reading

module _ {A : Type 0} (l : List ℕ) where
  -- a fault behind a field that takes every code of its width
  pub fault-behind : Bits l → (f : Field) (next : ℕ → Layout A) (pos : ℕ) (why : answer.Fault) → ((c : ℕ) → c < 2 ^ f.width → judge f c ≡ Ok tt)
      → pos + f.width ≤ length l → ((c : ℕ) → read_l (next c) (drop (pos + f.width) l) ≡ refused why) → read_l (field f next) (drop pos l) ≡ refused (further f.width why)
  unfolding read_l
  fault-behind b f next pos why taken h e =
      let w : ℕ = f.width in
      let m : List ℕ = drop pos l in
      let long : w ≤ length m = omega (arith, length-drop pos l) in
      rw (le-leb w (length m) long, taken (number (take w m)) (front-lt w m (bits-drop pos b) long), drop-drop w pos l, e (number (take w m)))

  -- two layouts that go on alike behind a field
  pub same-behind : (f : Field) (next next' : ℕ → Layout A) (pos : ℕ)
      → ((c : ℕ) → read_l (next c) (drop (pos + f.width) l) ≡ read_l (next' c) (drop (pos + f.width) l))
      → read_l (field f next) (drop pos l) ≡ read_l (field f next') (drop pos l)
  unfolding read_l
  same-behind f next next' pos e =
      let w : ℕ = f.width in
      let m : List ℕ = drop pos l in
      let c : ℕ = number (take w m) in
      ap (λ o. enough f.sf (leb w (length m)) (judged f.sf (judge f c) (before c w o)))
      (ap (read_l (next c)) (drop-drop w pos l) ∙ e c ∙ sym (ap (read_l (next' c)) (drop-drop w pos l)))

-- two fields that judge the code there alike
pub same_here : {A : Type 0} (f g : Field) (next : ℕ → Layout A) (m : List ℕ) → f.sf ≡ g.sf → f.width ≡ g.width
    → judge f (number (take g.width m)) ≡ judge g (number (take g.width m)) → read_l (field f next) m ≡ read_l (field g next) m
unfolding read_l
same_here {A} f g next m p q j =
    let step : (n w : ℕ) → Verdict → Outcome A
    = λ n w v. enough n (leb w (length m)) (judged n v (before (number (take w m)) w (read_l (next (number (take w m))) (drop w m)))) in
    ap₂ (λ (n w : ℕ). step n w (judge f (number (take w m)))) p q ∙ ap (step g.sf g.width) j

-- or have too few bits there
pub same-short : {A : Type 0} (f g : Field) (next : ℕ → Layout A) (m : List ℕ) → f.sf ≡ g.sf → f.width ≡ g.width → length m < g.width
    → read_l (field f next) m ≡ read_l (field g next) m
unfolding read_l
same-short f g next m p q h =
    let short : leb f.width (length m) ≡ false = ap (λ (w : ℕ). leb w (length m)) q ∙ lt-leb g.width (length m) h in
    rw (short, lt-leb g.width (length m) h) (ap (λ (n : ℕ). refused (fault_at refusal.Short n 0)) p)

-- what a field of an accepted message says
pub record Goes {A : Type 0} (l : List ℕ) (f : Field) (next : ℕ → Layout A) (pos : ℕ) (v : A) : Type 0 where
  pub code : ℕ
  pub there : code ≡ number (take f.width (drop pos l))
  pub taken : judge f code ≡ Ok tt
  pub codes : List ℕ
  pub used : ℕ
  pub behind : read_l (next code) (drop (pos + f.width) l) ≡ accepted v codes used

pub accepted-goes : {A : Type 0} (l : List ℕ) (f : Field) (next : ℕ → Layout A) (pos : ℕ) {v : A} {cs : List ℕ} {n : ℕ} → read_l (field f next) (drop pos l) ≡ accepted v cs n
    → Goes l f next pos v
unfolding read_l
accepted-goes l f next pos e =
    let w : ℕ = f.width in
    let m : List ℕ = drop pos l in
    let c : ℕ = number (take w m) in
    let a = enough-acc f.sf (leb w (length m)) _ e in
    let b = judged-acc f.sf (judge f c) _ a.1 in
    let d = before_acc c w (read_l (next c) (drop w m)) b.1 in
    record { code = c; there = refl; taken = b.0; codes = d.0; used = d.1; behind = sym (ap (read_l (next c)) (drop-drop w pos l)) ∙ d.2 }

-- ---- writing

module _ {A : Type 0} where
  same_code : (f : Field) (next next' : ℕ → Layout A) (c : ℕ) (cs : List ℕ) → (c < 2 ^ f.width → write_l (next c) cs ≡ write_l (next' c) cs)
      → write_l (field f next) (c ∷ cs) ≡ write_l (field f next') (c ∷ cs)
  unfolding write_l
  same_code f next next' c cs e = go (ltb c (2 ^ f.width)) refl
    where
      go : (b : Bool) → ltb c (2 ^ f.width) ≡ b
          → judged_w f.sf (judge f c) (fitting f.sf (ltb c (2 ^ f.width)) (behind (bits_of f.width c) (write_l (next c) cs)))
          ≡ judged_w f.sf (judge f c) (fitting f.sf (ltb c (2 ^ f.width)) (behind (bits_of f.width c) (write_l (next' c) cs)))
      go true p = ap (λ o. judged_w f.sf (judge f c) (fitting f.sf (ltb c (2 ^ f.width)) (behind (bits_of f.width c) o))) (e (ltb-true c (2 ^ f.width) p))
      go false p = rw p refl

  -- two layouts that go on alike behind an entry, if that fits
  pub same_after : (f : Field) (next next' : ℕ → Layout A) (entries : List ℕ) (at : ℕ)
      → (get_or entries at 0 < 2 ^ f.width → write_l (next (get_or entries at 0)) (drop (suc at) entries) ≡ write_l (next' (get_or entries at 0)) (drop (suc at) entries))
      → write_l (field f next) (drop at entries) ≡ write_l (field f next') (drop at entries)
  unfolding write_l
  same_after f next next' entries at e = go (ltb at (length entries)) refl
    where
      go : (b : Bool) → ltb at (length entries) ≡ b → write_l (field f next) (drop at entries) ≡ write_l (field f next') (drop at entries)
      go true p =
          let here : drop at entries ≡ get_or entries at 0 ∷ drop (suc at) entries = drop-cons entries at 0 (ltb-true at (length entries) p) in
          ap (write_l (field f next)) here ∙ same_code f next next' (get_or entries at 0) (drop (suc at) entries) e ∙ sym (ap (write_l (field f next')) here)
      go false p =
          let end : drop at entries ≡ [] = drop_of_length-le entries (ltb-false at (length entries) p) in
          ap (write_l (field f next)) end ∙ sym (ap (write_l (field f next')) end)

  -- two fields that judge the entry there alike
  pub same-entry : (f g : Field) (next : ℕ → Layout A) (m : List ℕ) → f.sf ≡ g.sf → f.width ≡ g.width → judge f (get_or m 0 0) ≡ judge g (get_or m 0 0)
      → write_l (field f next) m ≡ write_l (field g next) m
  unfolding write_l
  same-entry f g next [] p q j = ap (λ (n : ℕ). unwritten (fault_at refusal.Short n 0)) p
  same-entry f g next (c ∷ cs) p q j =
      let step : (n w : ℕ) → Verdict → Written = λ n w v. judged_w n v (fitting n (ltb c (2 ^ w)) (behind (bits_of w c) (write_l (next c) cs))) in
      ap₂ (λ (n w : ℕ). step n w (judge f c)) p q ∙ ap (step g.sf g.width) j
