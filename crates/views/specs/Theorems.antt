-- Theorems: the views look at the message that the sheet says, whatever the sheet holds, and never at a misread value: the record of each definition (gad_blocks,
-- hpac_areas, bpac_areas, satellites_in) is the one that reading the written bits gives, whatever follows them.
use Rattle.std.specs.Prelude.{◌≡◌, refl, Bool, true, false, List, [], ◌∷◌, ◌++◌, ℕ, ◌+◌, ◌*◌, ◌%◌, eqb, length, get_or}
use Rattle.std.proofs.Common.{ap, ap₂, sym, ◌∙◌, subst, arith}
use Rattle.bpac.specs.Bpac as bpac
use Rattle.codes.specs.declared.Constellation.{Constellation}
use Rattle.gad.specs.Gad as gad
use Rattle.hpac.specs.Hpac as hpac
use Rattle.layout.specs.Layout.{Layout, done, pick, accepted, read_l, written, write_l}
use Rattle.layout.specs.Reaches.{written-holds, record-reads, many, many_of, length-many}
use Rattle.layout.specs.Record.{record_of}
use Rattle.message.specs.Messages.{Message, ocb_message, hpac_message, gad_message, bpac_message, ocb_layout, hpac_layout, gad_layout, bpac_layout}
use Rattle.ocb.specs.Ocb as ocb
use Rattle.views.specs.Along.{PartMet}
use Rattle.views.specs.AlongBpac.{bpac-ends}
use Rattle.views.specs.AlongGad.{gad-ends}
use Rattle.views.specs.AlongHpac.{hpac-ends}
use Rattle.views.specs.Entries.{entries_of}
use Rattle.views.specs.SatellitePlaces.{phase_at, phases_at, code_mask_at, codes_at, bias_at, bias_start, blocks_at, state_at, satellite_from, satellite_end, numbers_in, satellites-in, ocb-record}
use Rattle.views.specs.Satellites.{orbit_entries, clock_entries, state_entries, bias_places, satellites_in}
use Rattle.views.specs.SatellitesMet.{part-met}

module _ (sheet bits rest : List ℕ) where
  -- reading gives the message m
  abbrev pub Says : Layout Message → Message → Type 0
  Says l m = read_l l (bits ++ rest) ≡ accepted m sheet (length bits)

  says : (l : Layout Message) (m : Message) → write_l l sheet ≡ written bits → record_of l sheet ≡ m → Says l m
  says l m w e = record-reads l sheet bits w rest ∙ ap (λ x. accepted x sheet (length bits)) e

  pub gad-says : write_l gad_layout sheet ≡ written bits → Says gad_layout (gad_message (record_of (gad.gad done) sheet))
  gad-says w = says gad_layout _ w (gad-ends sheet gad_message (λ m g. m ≡ gad_message g) (λ g met. refl) (written-holds gad_layout sheet bits w))

  pub bpac-says : write_l bpac_layout sheet ≡ written bits → Says bpac_layout (bpac_message (record_of (bpac.bpac done) sheet))
  bpac-says w = says bpac_layout _ w (bpac-ends sheet bpac_message (λ m b. m ≡ bpac_message b) (λ b met. refl) (written-holds bpac_layout sheet bits w))

  pub hpac-says : (c : Constellation) → write_l (hpac_layout c) sheet ≡ written bits → Says (hpac_layout c) (hpac_message c (record_of (hpac.hpac c done) sheet))
  hpac-says c w = says (hpac_layout c) _ w (hpac-ends c sheet (hpac_message c) (λ m h. m ≡ hpac_message c h) (λ h. refl) (written-holds (hpac_layout c) sheet bits w))

  pub ocb-says : (c : Constellation) → write_l (ocb_layout c) sheet ≡ written bits → Says (ocb_layout c) (ocb_message c (record_of (ocb.ocb c done) sheet))
  ocb-says c w = says (ocb_layout c) _ w (ocb-record c sheet (ocb_message c) ∙ ap (ocb_message c) (sym (ocb-record c sheet (λ body. body))))

-- ---- "the biases stay on the sheet", and stand where the view says

pub record BiasOn (sheet : List ℕ) (start : ℕ) (b : ocb.Bias) : Type 0 where
  pub phases : b.phases ≡ many (phase_at sheet) (λ x. x + 3) (bias_places start b).phases (bias_places start b).phases_at
  pub codes : b.codes ≡ many (λ x. get_or sheet x 0) (λ x. x + 1) (bias_places start b).codes (bias_places start b).codes_at

-- of a satellite that starts at an entry, as `blocks_view` has its bias block
pub data BiasesOn (sheet : List ℕ) (start : ℕ) : ocb.Use → Type 0 where
  unused : BiasesOn sheet start ocb.out_of_use
  used : {b : ocb.Blocks} → PartMet (BiasOn sheet (start + (3 + (entries_of orbit_entries b.orbit + entries_of clock_entries b.clock)))) b.bias
      → BiasesOn sheet start (ocb.in_use b)

-- of satellites that follow one another, as `nth_from` goes from one to the next
pub data AllBiasesOn (sheet : List ℕ) : (start : ℕ) → List ocb.Satellite → Type 0 where
  no-satellite : {start : ℕ} → AllBiasesOn sheet start []
  a-satellite : {start : ℕ} {s : ocb.Satellite} {ss : List ocb.Satellite} → BiasesOn sheet start s.state
      → AllBiasesOn sheet (start + state_entries s.state) ss → AllBiasesOn sheet start (s ∷ ss)

bias-on : (sheet : List ℕ) (start : ℕ) → BiasOn sheet start (bias_at sheet start)
bias-on sheet start =
    let n : length (bias_at sheet start).phases ≡ phases_at sheet start = length-many (phase_at sheet) (λ x. x + 3) (phases_at sheet start) (start + 2) in
    let m : length (bias_at sheet start).codes ≡ codes_at sheet start
    = length-many (λ x. get_or sheet x 0) (λ x. x + 1) (codes_at sheet start) (code_mask_at sheet start + 2) in
    let place : code_mask_at sheet start + 2 ≡ start + (4 + 3 * length (bias_at sheet start).phases) = omega arith in
    record {
      phases = ap (λ k. many (phase_at sheet) (λ x. x + 3) k (start + 2)) (sym n);
      codes = ap₂ (many (λ x. get_or sheet x 0) (λ x. x + 1)) (sym m) place;
    }

biases-on : (sheet : List ℕ) (yaw at : ℕ) → BiasesOn sheet at (state_at sheet yaw at)
biases-on sheet yaw at = go (eqb (get_or sheet at 0) 1)
  where
    go : (b : Bool) → BiasesOn sheet at (pick b ocb.out_of_use (ocb.in_use (blocks_at sheet yaw at)))
    go true = unused
    go false =
        used (part-met (BiasOn sheet (bias_start sheet yaw at)) (bias_at sheet (bias_start sheet yaw at)) (eqb (get_or sheet (at + 1) 0 % 2) 1) (λ e. bias-on sheet (bias_start sheet yaw at)))

all-biases-on : (sheet : List ℕ) (yaw : ℕ) (ms : List ℕ) (at : ℕ) → AllBiasesOn sheet at (many_of (satellite_from sheet yaw) (satellite_end sheet yaw) ms at)
all-biases-on sheet yaw [] at = no-satellite
all-biases-on sheet yaw (m ∷ ms) at = a-satellite (biases-on sheet yaw at) (all-biases-on sheet yaw ms (satellite_end sheet yaw at))

pub biases-stand : (c : Constellation) (sheet : List ℕ) → AllBiasesOn sheet 8 (satellites_in c sheet)
biases-stand c sheet = subst (AllBiasesOn sheet 8) (sym (satellites-in c sheet)) (all-biases-on sheet (get_or sheet 3 0) (numbers_in sheet c) 8)
