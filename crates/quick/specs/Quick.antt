-- Mirror: the code of lib.rt. It serves proofs, and it is proved that what it says reads (`quick-reads`).
use Rattle.std.specs.Prelude.{◌≡◌, Bool, true, false, List, [], ℕ, eqb, Some, None}
use Rattle.std.proofs.Common.{ap, sym, ◌∙◌, arith}
use Rattle.bits.specs.Bits.{to_bits}
use Rattle.layout.specs.Layout.{Layout, pick}
use Rattle.layout.specs.Parts.{Part, absent, present}
use Rattle.layout.specs.Run.{finished, run_l}
use Rattle.codes.specs.declared.Constellation.{Constellation}
use Rattle.codes.specs.declared.Constellation.TheVariants.{Gps, Glonass, Galileo, BeiDou, Qzss}
use Rattle.message.specs.Results.{Subtype}
use Rattle.message.specs.Messages.{Message, ocb_layout, hpac_layout, constellation_of, constellation_for, by_constellation, layout_for}
use Rattle.quick.specs.Results.{Quick}
use Rattle.quick.specs.Ocb.{ocb_of}
use Rattle.quick.specs.OcbReads.{ocb-reads}
use Rattle.quick.specs.Hpac.{hpac_quick}
use Rattle.quick.specs.HpacReads.{hpac-reads}
use Rattle.quick.specs.Gad.{gad_of}
use Rattle.quick.specs.GadReads.{gad-reads}
use Rattle.quick.specs.Bpac.{bpac_of}
use Rattle.quick.specs.BpacReads.{bpac-reads}

abbrev pub by_ocb : (payload : List ℕ) → Subtype → Quick
by_ocb payload (Some constellation) = ocb_of constellation payload
by_ocb payload None = None

abbrev pub by_hpac : (payload : List ℕ) → Subtype → Quick
by_hpac payload (Some constellation) = hpac_quick constellation payload
by_hpac payload None = None

abbrev pub by_gad : (subtype : ℕ) (payload : List ℕ) → Quick
by_gad subtype payload = pick (eqb subtype 0) (gad_of payload) None

abbrev pub by_bpac : (subtype : ℕ) (payload : List ℕ) → Quick
by_bpac subtype payload = pick (eqb subtype 0) (bpac_of payload) None

-- a payload of a type and subtype; the machine judges those of which nothing is said
unfoldable pub quick_of : (kind subtype : ℕ) (payload : List ℕ) → Quick
quick_of kind subtype payload =
    pick (eqb kind 0) (by_ocb payload (constellation_for subtype)) (
    pick (eqb kind 1) (by_hpac payload (constellation_for subtype)) (
    pick (eqb kind 2) (by_gad subtype payload) (
    pick (eqb kind 3) (by_bpac subtype payload)
    None)))

-- ---- what it says reads

-- of a layout, or of none: if it is said to read, it reads so
pub record Sound (payload : List ℕ) (q : Quick) (p : Part (Layout Message)) : Type 0 where
  pub reads : (bits entries : ℕ) → q ≡ Some (record { bits = bits; entries = entries }) → (l : Layout Message) → p ≡ present l → run_l l (to_bits payload) 0 0 [] ≡ finished entries bits []

module _ {payload : List ℕ} where
  sound-unknown : {p : Part (Layout Message)} → Sound payload None p
  sound-unknown = record { reads = λ bits entries e l q. let z : ◌≡◌ {A = ℕ} 0 1 = cc in absurd (omega arith) }

  sound-known : {q : Quick} {m : Layout Message} → ((bits entries : ℕ) → q ≡ Some (record { bits = bits; entries = entries }) → run_l m (to_bits payload) 0 0 [] ≡ finished entries bits [])
      → Sound payload q (present m)
  sound-known {m = m} f =
      record { reads = λ bits entries e l q. let same : m ≡ l = cc in ap (λ x. run_l x (to_bits payload) 0 0 []) (sym same) ∙ f bits entries e }

  sound-pick : (b : Bool) {q r : Quick} {l m : Part (Layout Message)} → Sound payload q l → Sound payload r m → Sound payload (pick b q r) (pick b l m)
  sound-pick true p q = p
  sound-pick false p q = q

  sound-by : (f : Subtype → Quick) (l : Constellation → Layout Message) → ((c : Constellation) → Sound payload (f (Some c)) (present (l c)))
      → Sound payload (f None) absent → (subtype : ℕ) → Sound payload (f (constellation_for subtype)) (by_constellation l (constellation_of subtype))
  sound-by f l there none subtype = go (eqb subtype 0) (eqb subtype 1) (eqb subtype 2) (eqb subtype 3) (eqb subtype 4)
    where
      go : (a b c d e : Bool)
          → Sound payload
          (f (pick a (Some Gps) (pick b (Some Glonass) (pick c (Some Galileo) (pick d (Some BeiDou) (pick e (Some Qzss) None))))))
          (by_constellation l (pick a (present Gps) (pick b (present Glonass) (pick c (present Galileo) (pick d (present BeiDou) (pick e (present Qzss) absent))))))
      go true b c d e = there Gps
      go false true c d e = there Glonass
      go false false true d e = there Galileo
      go false false false true e = there BeiDou
      go false false false false true = there Qzss
      go false false false false false = none

sound : (kind subtype : ℕ) (payload : List ℕ) → Sound payload (quick_of kind subtype payload) (layout_for kind subtype)
unfolding quick_of
sound kind subtype payload =
    sound-pick (eqb kind 0) (sound-by (by_ocb payload) ocb_layout (λ c. sound-known (ocb-reads c payload)) sound-unknown subtype) (
    sound-pick (eqb kind 1) (sound-by (by_hpac payload) hpac_layout (λ c. sound-known (hpac-reads c payload)) sound-unknown subtype) (
    sound-pick (eqb kind 2) (sound-pick (eqb subtype 0) (sound-known (gad-reads payload)) sound-unknown) (
    sound-pick (eqb kind 3) (sound-pick (eqb subtype 0) (sound-known (bpac-reads payload)) sound-unknown)
    sound-unknown)))

-- A payload that is said to read is read by the layout of its type and subtype, to that bit and in so many entries.
pub quick-reads : (kind subtype : ℕ) (payload : List ℕ) (bits entries : ℕ) → quick_of kind subtype payload ≡ Some (record { bits = bits; entries = entries })
    → (l : Layout Message) → layout_for kind subtype ≡ present l → run_l l (to_bits payload) 0 0 [] ≡ finished entries bits []
quick-reads kind subtype payload = (sound kind subtype payload).reads
