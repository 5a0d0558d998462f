-- Serves proofs, and is proved: tests that are met, and fields that are written out, by a test that computes.
use Rattle.std.specs.Prelude.{◌≡◌, refl, Bool, true, false, List, ℕ, ◌+◌, ◌*◌, ◌^◌, ◌≤◌, eqb, leb, length, Some, None}
use Rattle.std.proofs.lemmas.Bool.{false≢true}
use Rattle.std.proofs.Common.{arith, eqb-true, leb-true, pow_pos}
use Rattle.bits.specs.Bits.{got}
use Rattle.layout.specs.declared.Field.{Field}
use Rattle.layout.specs.Layout.{pick}
use Rattle.layout.specs.Parts.{free}
use Rattle.quick.specs.Results.{Quick}
use Rattle.quick.specs.Passes.{Full, Has, taken-up-to}

-- ---- tests

pub both : (a b : Bool) → pick a b false ≡ true → (a ≡ true) × (b ≡ true)
both true b e = (refl, e)
both false b e = absurd (false≢true e)

pub unless : (b : Bool) (q : Quick) (bits entries : ℕ) → pick b None q ≡ Some (record { bits = bits; entries = entries }) → (b ≡ false) × (q ≡ Some (record { bits = bits; entries = entries }))
unless true q bits entries e = let z : ◌≡◌ {A = ℕ} 0 1 = cc in absurd (omega arith)
unless false q bits entries e = (refl, e)

pub where-fit : (b : Bool) (q : Quick) (bits entries : ℕ) → pick b q None ≡ Some (record { bits = bits; entries = entries }) → (b ≡ true) × (q ≡ Some (record { bits = bits; entries = entries }))
where-fit true q bits entries e = (refl, e)
where-fit false q bits entries e = let z : ◌≡◌ {A = ℕ} 0 1 = cc in absurd (omega arith)

-- ---- fields

abbrev is_ranged : Field → Bool
is_ranged f = pick (leb f.width 64) (pick (eqb f.least 0) (eqb f.except f.extra) false) false

abbrev is_full : Field → Bool
is_full f = pick (is_ranged f) (pick (eqb (f.extra + 1) (2 ^ f.width)) (leb f.extra (f.most + 1)) false) false

-- a field of a word at most that takes the codes from 0 on
pub record Ranged (f : Field) : Type 0 where
  pub word : f.width ≤ 64
  pub least : f.least ≡ 0
  pub except : f.except ≡ f.extra

-- of a field that is written out, `ranged refl`
pub ranged : {f : Field} → is_ranged f ≡ true → Ranged f
ranged {f} e =
    let a = both (leb f.width 64) _ e in
    let b = both (eqb f.least 0) _ a.1 in
    record { word = leb-true f.width 64 a.0; least = eqb-true f.least 0 b.0; except = eqb-true f.except f.extra b.1 }

-- `full refl`
pub full : {f : Field} → is_full f ≡ true → Full f
full {f} e =
    let a = both (is_ranged f) _ e in
    let b = both (eqb (f.extra + 1) (2 ^ f.width)) _ a.1 in
    let r : Ranged f = ranged a.0 in
    record {
      word = r.word;
      least = r.least;
      except = r.except;
      top = eqb-true (f.extra + 1) (2 ^ f.width) b.0;
      most = leb-true f.extra (f.most + 1) b.1;
    }

pub full-free : (sf width : ℕ) → width ≤ 64 → Full (free sf width)
full-free sf width h = record { word = h; least = refl; except = refl; top = omega (arith, pow_pos width); most = omega arith }

-- a field whose code is in its range, if its bits are there
pub has-up-to : {payload : List ℕ} {f : Field} (pos end : ℕ) → Ranged f → (end ≤ 8 * length payload → got payload pos f.width ≤ f.most)
    → Has payload f pos end (got payload pos f.width)
has-up-to {payload} {f} pos end r m =
    record { word = r.word; code = λ h. refl; taken = λ h. taken-up-to f (got payload pos f.width) (omega (arith, r.least)) r.except (m h) }
