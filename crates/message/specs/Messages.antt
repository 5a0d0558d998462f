-- Definitions to believe: the twelve payloads, OCB 0-0 to 0-4, HPAC 1-0 to 1-4, GAD 2-0 and BPAC 3-0.
use Rattle.std.specs.Prelude.{ℕ, eqb, Some, None}
use Rattle.layout.specs.Layout.{Layout, done, pick}
use Rattle.layout.specs.Parts.{Part, absent, present}
use Rattle.codes.specs.declared.Constellation.{Constellation}
use Rattle.codes.specs.declared.Constellation.TheVariants.{Gps, Glonass, Galileo, BeiDou, Qzss}
use Rattle.ocb.specs.Ocb as ocb
use Rattle.hpac.specs.Hpac as hpac
use Rattle.gad.specs.Gad as gad
use Rattle.bpac.specs.Bpac as bpac
use Rattle.message.specs.Results.{Subtype}

-- what the log and the views take from a payload. Every code of it, the reserved bit, SF008 and the size codes of masks too, is on the sheet.
pub data Message : Type 0 where
  ocb_message : (constellation : Constellation) (body : ocb.Ocb) → Message
  hpac_message : (constellation : Constellation) (body : hpac.Hpac) → Message
  gad_message : (body : gad.Gad) → Message
  bpac_message : (body : bpac.Bpac) → Message

abbrev pub ocb_layout : Constellation → Layout Message
ocb_layout constellation = ocb.ocb constellation (λ body. done (ocb_message constellation body))

abbrev pub hpac_layout : Constellation → Layout Message
hpac_layout constellation = hpac.hpac constellation (λ body. done (hpac_message constellation body))

abbrev pub gad_layout : Layout Message
gad_layout = gad.gad (λ body. done (gad_message body))

abbrev pub bpac_layout : Layout Message
bpac_layout = bpac.bpac (λ body. done (bpac_message body))

-- subtypes 0 to 4
abbrev pub constellation_of : ℕ → Part Constellation
constellation_of subtype =
    pick (eqb subtype 0) (present Gps) (
    pick (eqb subtype 1) (present Glonass) (
    pick (eqb subtype 2) (present Galileo) (
    pick (eqb subtype 3) (present BeiDou) (
    pick (eqb subtype 4) (present Qzss)
    absent))))

-- the same, as what `constellation_of` hands out
abbrev pub constellation_for : ℕ → Subtype
constellation_for subtype =
    pick (eqb subtype 0) (Some Gps) (
    pick (eqb subtype 1) (Some Glonass) (
    pick (eqb subtype 2) (Some Galileo) (
    pick (eqb subtype 3) (Some BeiDou) (
    pick (eqb subtype 4) (Some Qzss)
    None))))

abbrev pub by_constellation : (Constellation → Layout Message) → Part Constellation → Part (Layout Message)
by_constellation layout absent = absent
by_constellation layout (present constellation) = present (layout constellation)

-- the layout of a type and subtype; absent is UNKNOWN_TYPE
abbrev pub layout_for : ℕ → ℕ → Part (Layout Message)
layout_for kind subtype =
    pick (eqb kind 0) (by_constellation ocb_layout (constellation_of subtype)) (
    pick (eqb kind 1) (by_constellation hpac_layout (constellation_of subtype)) (
    pick (eqb kind 2) (pick (eqb subtype 0) (present gad_layout) absent) (
    pick (eqb kind 3) (pick (eqb subtype 0) (present bpac_layout) absent)
    absent)))
