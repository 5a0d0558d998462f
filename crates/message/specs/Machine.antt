-- Mirror: the machine of lib.rt over all twelve payloads. It serves proofs, and it is proved that from its start it walks the payload's layout.
use Rattle.std.specs.Prelude.{◌≡◌, refl, Bool, true, false, ℕ, eqb, Some, None}
use Rattle.std.proofs.Common.{ap, sym, ◌∙◌, subst, arith}
use Rattle.layout.specs.declared.Field.{Field}
use Rattle.layout.specs.Layout.{Layout, done, pick}
use Rattle.layout.specs.Parts.{Part, absent, present}
use Rattle.layout.specs.Walks.{Walks, ends, walks-within}
use Rattle.codes.specs.declared.Constellation.{Constellation}
use Rattle.codes.specs.declared.Constellation.TheVariants.{Gps, Glonass, Galileo, BeiDou, Qzss}
use Rattle.message.specs.declared.State.{State}
use Rattle.message.specs.declared.State.TheVariants.{Ocb, Hpac, Gad, Bpac}
use Rattle.message.specs.Results.{Start}
use Rattle.message.specs.Results.{Subtype}
use Rattle.ocb.specs.declared.State.TheVariants as ocb
use Rattle.hpac.specs.declared.State.TheVariants as hpac
use Rattle.gad.specs.declared.State.TheVariants as gad
use Rattle.bpac.specs.declared.State.TheVariants as bpac
use Rattle.ocb.specs.Machine.{ocb_field, ocb_step, leads-ocb}
use Rattle.hpac.specs.Machine.{hpac_field, hpac_step, leads-hpac}
use Rattle.gad.specs.Machine.{gad_field, gad_step, leads-gad}
use Rattle.bpac.specs.Machine.{bpac_field, bpac_step, leads-bpac}
use Rattle.message.specs.Messages.{Message, ocb_message, hpac_message, gad_message, bpac_message, ocb_layout, hpac_layout, gad_layout, bpac_layout, constellation_of, constellation_for, by_constellation, layout_for}

abbrev pub field_of : State → Field
field_of (Ocb s) = ocb_field s
field_of (Hpac s) = hpac_field s
field_of (Gad s) = gad_field s
field_of (Bpac s) = bpac_field s

abbrev pub step_of : State → ℕ → State
step_of (Ocb s) c = Ocb (ocb_step s c)
step_of (Hpac s) c = Hpac (hpac_step s c)
step_of (Gad s) c = Gad (gad_step s c)
step_of (Bpac s) c = Bpac (bpac_step s c)

-- ---- where a payload starts

abbrev pub ocb_start : Subtype → Start
ocb_start (Some c) = Some (Ocb (ocb.Siou c))
ocb_start None = None

abbrev pub hpac_start : Subtype → Start
hpac_start (Some c) = Some (Hpac (hpac.Siou c))
hpac_start None = None

abbrev pub gad_start : ℕ → Start
gad_start subtype = pick (eqb subtype 0) (Some (Gad gad.Siou)) None

abbrev pub bpac_start : ℕ → Start
bpac_start subtype = pick (eqb subtype 0) (Some (Bpac bpac.Siou)) None

abbrev pub start_of : (kind subtype : ℕ) → Start
start_of kind subtype =
    pick (eqb kind 0) (ocb_start (constellation_for subtype)) (
    pick (eqb kind 1) (hpac_start (constellation_for subtype)) (
    pick (eqb kind 2) (gad_start subtype) (
    pick (eqb kind 3) (bpac_start subtype)
    None)))

-- ---- an arm of the code's `match` on a subtype's constellation

pub start-arm : (f : Subtype → Start) {x y z : Subtype} {r : Start} → x ≡ z → x ≡ y → r ≡ f y → r ≡ f z
start-arm f p q h = h ∙ ap f (sym q ∙ p)

-- ---- the machine walks the layouts

pub data Starts : Start → Part (Layout Message) → Type 0 where
  known : {s : State} {l : Layout Message} → Walks field_of step_of s l → Starts (Some s) (present l)
  unknown : Starts None absent

walks-ocb : (c : Constellation) → Walks field_of step_of (Ocb (ocb.Siou c)) (ocb_layout c)
walks-ocb c = walks-within Ocb (λ s. refl) (λ s c. refl) (leads-ocb c (λ body. done (ocb_message c body)) (λ body. ends refl))

walks-hpac : (c : Constellation) → Walks field_of step_of (Hpac (hpac.Siou c)) (hpac_layout c)
walks-hpac c = walks-within Hpac (λ s. refl) (λ s c. refl) (leads-hpac c (λ body. done (hpac_message c body)) (λ body. ends refl))

walks-gad : Walks field_of step_of (Gad gad.Siou) gad_layout
walks-gad = walks-within Gad (λ s. refl) (λ s c. refl) (leads-gad (λ body. done (gad_message body)) (λ body. ends refl))

walks-bpac : Walks field_of step_of (Bpac bpac.Siou) bpac_layout
walks-bpac = walks-within Bpac (λ s. refl) (λ s c. refl) (leads-bpac (λ body. done (bpac_message body)) (λ body. ends refl))

starts_by : (f : Subtype → Start) (l : Constellation → Layout Message) → ((c : Constellation) → Starts (f (Some c)) (present (l c)))
    → Starts (f None) absent → (subtype : ℕ) → Starts (f (constellation_for subtype)) (by_constellation l (constellation_of subtype))
starts_by f l there none subtype = go (eqb subtype 0) (eqb subtype 1) (eqb subtype 2) (eqb subtype 3) (eqb subtype 4)
  where
    go : (a b c d e : Bool)
        → Starts
        (f (pick a (Some Gps) (pick b (Some Glonass) (pick c (Some Galileo) (pick d (Some BeiDou) (pick e (Some Qzss) None))))))
        (by_constellation l (pick a (present Gps) (pick b (present Glonass) (pick c (present Galileo) (pick d (present BeiDou) (pick e (present Qzss) absent))))))
    go true b c d e = there Gps
    go false true c d e = there Glonass
    go false false true d e = there Galileo
    go false false false true e = there BeiDou
    go false false false false true = there Qzss
    go false false false false false = none

starts-pick : (b : Bool) {s t : Start} {l m : Part (Layout Message)} → Starts s l → Starts t m → Starts (pick b s t) (pick b l m)
starts-pick true p q = p
starts-pick false p q = q

-- From the start of a type and subtype the machine walks the layout of that type and subtype; it has none where there is no layout.
pub starts : (kind subtype : ℕ) → Starts (start_of kind subtype) (layout_for kind subtype)
starts kind subtype =
    starts-pick (eqb kind 0) (starts_by ocb_start ocb_layout (λ c. known (walks-ocb c)) unknown subtype) (
    starts-pick (eqb kind 1) (starts_by hpac_start hpac_layout (λ c. known (walks-hpac c)) unknown subtype) (
    starts-pick (eqb kind 2) (starts-pick (eqb subtype 0) (known walks-gad) unknown) (
    starts-pick (eqb kind 3) (starts-pick (eqb subtype 0) (known walks-bpac) unknown)
    unknown)))

-- ---- the same, from what `start_of` gave

starts-known : {x : Start} {p : Part (Layout Message)} (s : State) → Starts x p → x ≡ Some s
    → (l : Layout Message) × (p ≡ present l) × Walks field_of step_of s l
starts-known s (known {s = t} {l} w) e =
    let same : t ≡ s = cc in
    (l, refl, subst (λ x. Walks field_of step_of x l) same w)
starts-known s unknown e = let z : ◌≡◌ {A = ℕ} 0 1 = cc in absurd (omega arith)

starts-unknown : {x : Start} {p : Part (Layout Message)} → Starts x p → x ≡ None → p ≡ absent
starts-unknown (known w) e = let z : ◌≡◌ {A = ℕ} 0 1 = cc in absurd (omega arith)
starts-unknown unknown e = refl

pub start-known : (kind subtype : ℕ) (s : State) → start_of kind subtype ≡ Some s
    → (l : Layout Message) × (layout_for kind subtype ≡ present l) × Walks field_of step_of s l
start-known kind subtype s e = starts-known s (starts kind subtype) e

pub start-unknown : (kind subtype : ℕ) → start_of kind subtype ≡ None → layout_for kind subtype ≡ absent
start-unknown kind subtype e = starts-unknown (starts kind subtype) e
