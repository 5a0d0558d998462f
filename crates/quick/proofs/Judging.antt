-- The returns of the code in lib.rt over plain variables: what the proofs of its functions cite.
use Rattle.std.specs.Prelude.{None}
use mathlib.Core.Path.{◌≡◌, ap, sym, ◌∙◌}
use mathlib.Core.List.{List}
use Prim.Native.Nat.{ℕ}
use borrow.Author.Tests.{eq-eqb, ne_eqb}
use Rattle.message.specs.Results.{Subtype}
use Rattle.message.specs.Messages.{constellation_for}
use Rattle.quick.specs.Results.{Quick}
use Rattle.quick.specs.Gad.{gad_of}
use Rattle.quick.specs.Bpac.{bpac_of}
use Rattle.quick.specs.Quick.{by_ocb, by_hpac, by_gad, by_bpac, quick_of}

-- an arm of the code's `match` on a subtype's constellation
module _ (payload : List ℕ) {x y z : Subtype} {r : Quick} where
  pub ocb-arm : x ≡ z → x ≡ y → r ≡ by_ocb payload y → r ≡ by_ocb payload z
  ocb-arm p q h = h ∙ ap (by_ocb payload) (sym q ∙ p)

  pub hpac-arm : x ≡ z → x ≡ y → r ≡ by_hpac payload y → r ≡ by_hpac payload z
  hpac-arm p q h = h ∙ ap (by_hpac payload) (sym q ∙ p)

pub gad-there : (subtype : ℕ) (payload : List ℕ) (r : Quick) → subtype ≡ 0 → r ≡ gad_of payload → r ≡ by_gad subtype payload
gad-there subtype payload r h e = rw (eq-eqb subtype 0 h) e

pub gad-other : (subtype : ℕ) (payload : List ℕ) → (subtype ≡ 0 → ⊥) → None ≡ by_gad subtype payload
gad-other subtype payload h = rw (ne_eqb subtype 0 h)

pub bpac-there : (subtype : ℕ) (payload : List ℕ) (r : Quick) → subtype ≡ 0 → r ≡ bpac_of payload → r ≡ by_bpac subtype payload
bpac-there subtype payload r h e = rw (eq-eqb subtype 0 h) e

pub bpac-other : (subtype : ℕ) (payload : List ℕ) → (subtype ≡ 0 → ⊥) → None ≡ by_bpac subtype payload
bpac-other subtype payload h = rw (ne_eqb subtype 0 h)

module _ (kind subtype : ℕ) (payload : List ℕ) (r : Quick) where
  pub quick-ocb : kind ≡ 0 → r ≡ by_ocb payload (constellation_for subtype) → r ≡ quick_of kind subtype payload
  unfolding quick_of
  quick-ocb h e = rw (eq-eqb kind 0 h) e

  module _ (a : kind ≡ 0 → ⊥) where
    pub quick-hpac : kind ≡ 1 → r ≡ by_hpac payload (constellation_for subtype) → r ≡ quick_of kind subtype payload
    unfolding quick_of
    quick-hpac h e = rw (ne_eqb kind 0 a, eq-eqb kind 1 h) e

    module _ (b : kind ≡ 1 → ⊥) where
      pub quick-gad : kind ≡ 2 → r ≡ by_gad subtype payload → r ≡ quick_of kind subtype payload
      unfolding quick_of
      quick-gad h e = rw (ne_eqb kind 0 a, ne_eqb kind 1 b, eq-eqb kind 2 h) e

      module _ (c : kind ≡ 2 → ⊥) where
        pub quick-bpac : kind ≡ 3 → r ≡ by_bpac subtype payload → r ≡ quick_of kind subtype payload
        unfolding quick_of
        quick-bpac h e = rw (ne_eqb kind 0 a, ne_eqb kind 1 b, ne_eqb kind 2 c, eq-eqb kind 3 h) e

pub quick-other : (kind subtype : ℕ) (payload : List ℕ) → (kind ≡ 0 → ⊥) → (kind ≡ 1 → ⊥) → (kind ≡ 2 → ⊥) → (kind ≡ 3 → ⊥)
    → None ≡ quick_of kind subtype payload
unfolding quick_of
quick-other kind subtype payload a b c d = rw (ne_eqb kind 0 a, ne_eqb kind 1 b, ne_eqb kind 2 c, ne_eqb kind 3 d)
