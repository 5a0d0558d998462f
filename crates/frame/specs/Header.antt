-- The start and the description of a plain frame as one code each, as the writer puts them. These serve proofs and are proved.
use Rattle.std.specs.Prelude.{◌≡◌, refl, List, ◌++◌, Bool, true, false, ◌&&◌, ℕ, ◌+◌, ◌*◌, ◌^◌, ◌<◌}
use Rattle.std.proofs.Common.{sym, ap, ap₂, ◌∙◌, append_assoc, true≢false, arith, ltb-true, lt-ltb}
use Rattle.bits.specs.Bits.{bits_of}
use Rattle.frame.specs.Fields.{tag_bits}
use Rattle.frame.specs.Write.{start_bits, in_range}
use Rattle.frame.specs.WriteLaws.{join}
use Rattle.frame.specs.declared.Parts.{Parts}

-- the bounds that `in_range` tests
pub record InRange (p : Parts) : Type 0 where
  pub type-fits : p.message_type < 128
  pub check-fits : p.check_type < 4
  pub subtype-fits : p.subtype < 16
  pub kind_fits : p.tag_kind < 2
  pub tag_fits : p.tag < 2 ^ tag_bits p.tag_kind
  pub solution-fits : p.solution < 128
  pub processor-fits : p.processor < 16

both : (a b : Bool) → (a && b) ≡ true → (a ≡ true) × (b ≡ true)
both true b e = (refl, e)
both false b e = absurd (true≢false (sym e))

pub in-range : (p : Parts) → in_range p ≡ true → InRange p
unfolding in_range
in-range p e =
    let a = both _ _ e in
    let b = both _ _ a.0 in
    let c = both _ _ b.0 in
    let d = both _ _ c.0 in
    let f = both _ _ d.0 in
    let g = both _ _ f.0 in
    record {
      type-fits = ltb-true _ _ g.0;
      check-fits = ltb-true _ _ g.1;
      subtype-fits = ltb-true _ _ f.1;
      kind_fits = ltb-true _ _ d.1;
      tag_fits = ltb-true _ _ c.1;
      solution-fits = ltb-true _ _ b.1;
      processor-fits = ltb-true _ _ a.1;
    }

pub range-in : (p : Parts) → InRange p → in_range p ≡ true
unfolding in_range
range-in p r =
    rw
    (lt-ltb _ _ r.type-fits, lt-ltb _ _ r.check-fits, lt-ltb _ _ r.subtype-fits, lt-ltb _ _ r.kind_fits, lt-ltb _ _ r.tag_fits, lt-ltb _ _ r.solution-fits, lt-ltb _ _ r.processor-fits)

-- TF001 to TF006 as one code of 32 bits
pub start-code : (p : Parts) (n y : ℕ) → InRange p → n < 1024 → y < 16
    → bits_of 32 ((((115 * 128 + p.message_type) * 1024 + n) * 8 + p.check_type) * 16 + y) ≡ start_bits p n y
start-code p n y r hn hy =
    let t : ℕ = p.message_type in
    let c : ℕ = p.check_type in
    let c-fits : c < 8 = omega (arith, r.check-fits) in
    let plain-bit : c ≡ 0 * 2 ^ 2 + c = omega arith in
    join 28 4 (((115 * 128 + t) * 1024 + n) * 8 + c) y hy
    ∙ ap (λ (l : List ℕ). l ++ bits_of 4 y)
    (join 25 3 ((115 * 128 + t) * 1024 + n) c c-fits
    ∙ ap₂ (λ (u v : List ℕ). u ++ v)
    (join 15 10 (115 * 128 + t) n hn ∙ ap (λ (l : List ℕ). l ++ bits_of 10 n) (join 8 7 115 t r.type-fits))
    (ap (bits_of 3) plain-bit ∙ join 1 2 0 c r.check-fits))
    ∙ simp append_assoc

-- TF007 to TF011 as one code, the tag of w bits
pub description-code : (w su k tag so pr : ℕ) → k < 2 → tag < 2 ^ w → so < 128 → pr < 16
    → bits_of (5 + w + 11) (((su * 2 + k) * 2 ^ w + tag) * 2048 + (so * 16 + pr)) ≡ bits_of 4 su ++ (bits_of 1 k ++ (bits_of w tag ++ (bits_of 7 so ++ bits_of 4 pr)))
description-code w su k tag so pr hk ht hs hp =
    join (5 + w) 11 ((su * 2 + k) * 2 ^ w + tag) (so * 16 + pr) (omega arith)
    ∙ ap₂ (λ (u v : List ℕ). u ++ v)
    (join 5 w (su * 2 + k) tag ht ∙ ap (λ (l : List ℕ). l ++ bits_of w tag) (join 4 1 su k hk))
    (join 7 4 so pr hp)
    ∙ simp append_assoc
