-- Proved, for every layout that a machine walks: a sheet is written exactly when it holds the layout, in as many bits as its fields have; bits are read exactly
-- when they begin with what such a sheet writes; and no reading has more codes than bits.
use Rattle.std.specs.Prelude.{◌≡◌, ltb, leb, take}
use Rattle.std.proofs.Math.Path.{refl, ap, ap₂}
use Rattle.std.proofs.Common.{sym, ◌∙◌, arith, lt-ltb, take-append-drop, drop-cons}
use mathlib.Core.List.{List, [], ◌∷◌, ◌++◌}
use Prim.Native.Nat.{ℕ, suc, ◌+◌, ◌^◌, ◌≤◌, ◌<◌}
use Rattle.std.proofs.Math.ListN.{length, drop, get_or, length-append}
use Rattle.std.proofs.Math.Seq.{drop-length}
use Rattle.bits.specs.Bits.{bits_of, number, Bits}
use Rattle.bits.specs.Laws.{length-bits_of}
use Rattle.layout.specs.declared.Field.{Field}
use Rattle.layout.specs.Layout.{Layout, done, field, judge, Outcome, accepted, read_l, written, fitting, judged_w, behind, write_l}
use Rattle.layout.specs.Holds.{Holds, bits_from}
use Rattle.layout.specs.Record.{record_of}
use Rattle.layout.specs.RoundTrip.{write_read, enough-acc, judged-acc, before_acc}
use Rattle.layout.specs.Walks.{Walks, ends, goes}
use Rattle.layout.specs.Run.{taken-fits}
use Rattle.layout.specs.Reaches.{written-holds, record-reads}

-- a sheet that writes these bits, so many
pub record Writes {A : Type 0} (l : Layout A) (sheet : List ℕ) (size : ℕ) : Type 0 where
  pub bits : List ℕ
  pub writes : write_l l sheet ≡ written bits
  pub many : length bits ≡ size

module _ {S A : Type 0} {field_of : S → Field} {step_of : S → ℕ → S} where
  -- from a place on, so that the induction goes along the layout
  writes-from : {s : S} {l : Layout A} → Walks field_of step_of s l → (sheet : List ℕ) (at : ℕ) → Holds l sheet at → Writes l (drop at sheet) (bits_from l sheet at)
  unfolding Holds bits_from write_l
  writes-from (ends {v = v} e) sheet at h =
      let end : drop at sheet ≡ [] = ap (λ x. drop x sheet) h ∙ drop-length sheet in
      record { bits = []; writes = ap (write_l (done v)) end; many = refl }
  writes-from (goes {f = f} {next} e fine walks) sheet at h =
      let c : ℕ = get_or sheet at 0 in
      let fits : c < 2 ^ f.width = taken-fits fine h.1 in
      let rest = writes-from (walks c fits) sheet (suc at) h.2 in
      let step : write_l (field f next) (c ∷ drop (suc at) sheet) ≡ written (bits_of f.width c ++ rest.bits)
      = ap (λ v. judged_w f.sf v (fitting f.sf (ltb c (2 ^ f.width)) (behind (bits_of f.width c) (write_l (next c) (drop (suc at) sheet))))) h.1
      ∙ ap₂ (λ b o. fitting f.sf b (behind (bits_of f.width c) o)) (lt-ltb c (2 ^ f.width) fits) rest.writes in
      record {
        bits = bits_of f.width c ++ rest.bits;
        writes = ap (write_l (field f next)) (drop-cons sheet at 0 h.0) ∙ step;
        many = length-append (bits_of f.width c) rest.bits ∙ ap₂ (λ (x y : ℕ). x + y) (length-bits_of f.width c) rest.many;
      }

  -- A sheet that holds the layout is written, in as many bits as its fields have; `written-holds` (Reaches.antt) is the other direction.
  pub holds-written : {s : S} {l : Layout A} → Walks field_of step_of s l → (sheet : List ℕ) → Holds l sheet 0 → Writes l sheet (bits_from l sheet 0)
  holds-written w sheet h = writes-from w sheet 0 h

  -- No more codes are read than bits.
  pub codes-few : {s : S} {l : Layout A} → Walks field_of step_of s l → (bits cs : List ℕ) (n : ℕ) {v : A} → read_l l bits ≡ accepted v cs n → length cs ≤ n
  unfolding read_l
  codes-few (ends e) bits cs n r =
      let z : cs ≡ [] = cc in
      omega (arith, ap length z)
  codes-few (goes {f = f} {next} e fine walks) bits cs n {v} r =
      let w : ℕ = f.width in
      let c : ℕ = number (take w bits) in
      let o : Outcome A = read_l (next c) (drop w bits) in
      let h1 = enough-acc f.sf (leb w (length bits)) _ r in
      let h2 = judged-acc f.sf (judge f c) _ h1.1 in
      let h3 = before_acc c w o h2.1 in
      let fits : c < 2 ^ w = taken-fits fine h2.0 in
      let few : length h3.0 ≤ h3.1 = codes-few (walks c fits) (drop w bits) h3.0 h3.1 h3.2 in
      let count : length cs ≡ suc (length h3.0) = ap length h3.3 in
      let wide : 0 < w = fine.some in
      omega (arith, h3.4)

-- ---- bits are read exactly when they begin with what a sheet that holds the layout writes

pub record Begins {A : Type 0} (l : Layout A) (bits : List ℕ) : Type 0 where
  pub sheet : List ℕ
  pub holds : Holds l sheet 0
  pub said : List ℕ
  pub writes : write_l l sheet ≡ written said
  pub rest : List ℕ
  pub begins : bits ≡ said ++ rest

module _ {A : Type 0} (l : Layout A) (bits : List ℕ) where
  pub begins-read : (b : Begins l bits) → read_l l bits ≡ accepted (record_of l b.sheet) b.sheet (length b.said)
  begins-read b = ap (read_l l) b.begins ∙ record-reads l b.sheet b.said b.writes b.rest

  pub read-begins : Bits bits → (cs : List ℕ) (n : ℕ) {v : A} → read_l l bits ≡ accepted v cs n → Begins l bits
  read-begins b cs n r =
      let w = (write_read l bits cs n b r).0 in
      record {
        sheet = cs;
        holds = written-holds l cs (take n bits) w;
        said = take n bits;
        writes = w;
        rest = drop n bits;
        begins = sym (take-append-drop n bits);
      }
