-- Serves proofs, and is proved: facts of a GAD sheet, from what follows a block to the block.
use Rattle.std.specs.Prelude.{◌≡◌, List, ℕ, suc, ◌+◌, Ok, Some, None}
use Rattle.std.proofs.Math.Path.{refl}
use Rattle.std.proofs.Common.{sym, subst, arith}
use Rattle.std.proofs.Math.ListN.{get_or}
use Rattle.gad.specs.Gad as gad
use Rattle.layout.specs.Layout.{Layout, done}
use Rattle.layout.specs.Parts.{times}
use Rattle.layout.specs.Holds.{Holds}
use Rattle.layout.specs.Record.{record_from, record_of}
use Rattle.fields.specs.Fields.{table, find, line_of, sf}
use Rattle.views.specs.declared.gadarea.GadArea.{GadArea}
use Rattle.views.specs.Results.{GadAnswer}
use Rattle.views.specs.Results.{Found}
use Rattle.views.specs.Along.{apart, EachOf, Goes, First, over-times, total, Ends, goes-ends, first_ends, code_in, answered}
use Rattle.views.specs.Gads.{gad_area}
use Rattle.views.specs.Places.{code_at}
use Rattle.views.specs.Units.{in_unit, count_in}
use Rattle.views.specs.ValuesMet.{InDegrees, Counts, degrees-of, count-of}

-- the view of a block by the codes of its fields
abbrev pub gad_seen : (code : (sf before : ℕ) → ℕ) → GadArea
gad_seen code =
    record {
      latitude = in_unit 32 (code 32 0);
      longitude = in_unit 33 (code 33 0);
      rows = count_in 34 (code 34 0);
      columns = count_in 35 (code 35 0);
      latitude_spacing = in_unit 36 (code 36 0);
      longitude_spacing = in_unit 37 (code 37 0);
    }

abbrev pub gad_found : (sheet : List ℕ) → Found → GadAnswer
gad_found sheet f = answered (Ok None) (λ p. Ok (Some (gad_seen (code_at sheet p)))) f

-- each number of the view is the value of its code
pub record GadMet (b : gad.Block) : Type 0 where
  pub latitude : InDegrees 32 b.latitude
  pub longitude : InDegrees 33 b.longitude
  pub rows : Counts 34 b.rows
  pub columns : Counts 35 b.columns
  pub latitude_spacing : InDegrees 36 b.latitude_spacing
  pub longitude_spacing : InDegrees 37 b.longitude_spacing

module _ {A A' : Type 0} {sheet : List ℕ} {Q : Layout A → Layout A' → ℕ → Type 0} (g : Goes sheet 31 Q) where
  pub over-block : (k : gad.Block → Layout A) (k' : gad.Block → Layout A') (at : ℕ) → First sheet 31 Q at
      → ((x : gad.Block) (to : ℕ) → x.id ≡ get_or sheet at 0 → to ≡ at + 7 → gad_area x ≡ gad_seen (code_in sheet (gad.block k) at) → GadMet x → Q (k x) (k' x) to)
      → Q (gad.block k) (gad.block k') at
  unfolding code_in sf line_of find table
  over-block k k' at id rest =
      id.on refl (λ _. g.on (apart refl) (λ latitude. g.on (apart refl) (λ longitude. g.on (apart refl) (λ rows. g.on (apart refl) (λ columns.
      g.on (apart refl) (λ latitude_spacing. g.on (apart refl) (λ longitude_spacing. rest _ _ refl (omega arith) refl
      (record {
        latitude = degrees-of 32 refl latitude;
        longitude = degrees-of 33 refl longitude;
        rows = count-of 34 refl rows;
        columns = count-of 35 refl columns;
        latitude_spacing = degrees-of 36 refl latitude_spacing;
        longitude_spacing = degrees-of 37 refl longitude_spacing;
      }))))))))

  -- to the first block
  pub over-head : (k : gad.Gad → Layout A) (k' : gad.Gad → Layout A')
      → ((n : ℕ) (body : List gad.Block → gad.Gad) → ((blocks : List gad.Block) → (body blocks).blocks ≡ blocks)
      → Q (times n gad.block (λ blocks. k (body blocks))) (times n gad.block (λ blocks. k' (body blocks))) 4)
      → Q (gad.gad k) (gad.gad k') 0
  unfolding sf
  over-head k k' rest =
      g.on (apart refl) (λ _. g.on (apart refl) (λ _. g.on (apart refl) (λ _. g.on (apart refl) (λ _. rest (suc (get_or sheet 3 0))
      (λ blocks. record { siou = get_or sheet 0 0; aiou = get_or sheet 1 0; blocks = blocks }) (λ blocks. refl)))))

-- What follows from the record's ends is so of the message: of what a layout makes of it, and of the record alone.
pub gad-ends : {M : Type 0} (sheet : List ℕ) (f : gad.Gad → M) (R : M → gad.Gad → Type 0)
    → ((b : gad.Gad) → EachOf GadMet b.blocks → R (f b) b)
    → Holds (gad.gad (λ b. done (f b))) sheet 0 → R (record_of (gad.gad (λ b. done (f b))) sheet) (record_of (gad.gad (λ b. done b)) sheet)
unfolding record_from
gad-ends sheet f R h =
    over-head (goes-ends sheet R 31) (λ b. done (f b)) (λ b. done b) (λ n body e.
    over-times sheet 31 (Ends sheet R) (λ b. 7) GadMet (total (λ b. 7)) refl (λ x xs. refl)
    (λ k k' at rest. over-block (goes-ends sheet R 31) k k' at (first_ends sheet R 31 at) (λ x to i e v m. rest x to e m)) n (λ xs. done (f (body xs))) (λ xs. done (body xs)) 4 (λ xs to q ms _.
    h (body xs) (subst (EachOf GadMet) (sym (e xs)) ms)))
