-- Serves proofs, and is proved: facts of a BPAC sheet, from what follows an area to the area.
use Rattle.std.specs.Prelude.{◌≡◌, Ok, Some, None}
use Rattle.std.proofs.Math.Path.{refl}
use Rattle.std.proofs.Common.{ap, sym, subst, arith}
use mathlib.Core.List.{List, [], ◌∷◌}
use Prim.Native.Nat.{ℕ, suc, ◌+◌, ◌-◌, ◌*◌, ◌/◌}
use Rattle.std.proofs.Math.Dec.{eqb}
use Rattle.std.proofs.Math.ListN.{length, get_or, length-append}
use Rattle.bpac.specs.Bpac as bpac
use Rattle.layout.specs.declared.Field.{Field}
use Rattle.layout.specs.Layout.{Layout, done, field}
use Rattle.layout.specs.Parts.{times}
use Rattle.layout.specs.Holds.{Holds}
use Rattle.layout.specs.Record.{record_from, record_of}
use Rattle.fields.specs.Fields.{table, find, line_of, sf}
use Rattle.views.specs.declared.bpacarea.BpacArea.{BpacArea}
use Rattle.views.specs.Results.{BpacAnswer}
use Rattle.views.specs.Results.{Found}
use Rattle.views.specs.Along.{apart, other_pick, EachOf, Goes, First, Over, over-times, total, Ends, goes-ends, first_ends, code_in, answered}
use Rattle.views.specs.Bpacs.{bpac_entries, bpac_area}
use Rattle.views.specs.Places.{code_at}
use Rattle.views.specs.Units.{in_unit, count_in}
use Rattle.views.specs.ValuesMet.{InDegrees, InTecu, Counts, degrees-of, tecu-of, count-of}

-- the view of an area that starts at an entry, by the codes of its fields
abbrev pub bpac_seen : (start : ℕ) (code : (sf before : ℕ) → ℕ) → BpacArea
bpac_seen start code =
    record {
      start = start;
      latitude = in_unit 73 (code 73 0);
      longitude = in_unit 74 (code 74 0);
      rows = count_in 75 (code 75 0);
      columns = count_in 76 (code 76 0);
      latitude_spacing = in_unit 77 (code 77 0);
      longitude_spacing = in_unit 78 (code 78 0);
      average = in_unit 80 (code 80 0);
    }

abbrev pub bpac_found : (sheet : List ℕ) → Found → BpacAnswer
bpac_found sheet f = answered (Ok None) (λ p. Ok (Some (bpac_seen p.at (code_at sheet p)))) f

-- each number of the view is the value of its code
pub record BpacMet (a : bpac.Area) : Type 0 where
  pub latitude : InDegrees 73 a.latitude
  pub longitude : InDegrees 74 a.longitude
  pub rows : Counts 75 a.rows
  pub columns : Counts 76 a.columns
  pub latitude_spacing : InDegrees 77 a.latitude_spacing
  pub longitude_spacing : InDegrees 78 a.longitude_spacing
  pub average : InTecu 80 a.average

module _ {A A' : Type 0} {sheet : List ℕ} {Q : Layout A → Layout A' → ℕ → Type 0} (g : Goes sheet 72 Q) where
  over-vtec : Over sheet 72 Q bpac.vtec bpac.vtec (λ v. 3) (λ v. Unit {0})
  unfolding sf
  over-vtec k k' at rest =
      g.on (apart refl) (λ _. g.on (apart refl) (λ _. g.on (other_pick (eqb (get_or sheet (suc at) 0) 0) (apart refl) (apart refl)) (λ _. rest _ _ (omega arith) tt)))

  over-group : (f : Field) → f.sf ≡ 79 → Over sheet 72 Q (field f) (field f) (λ x. 1) (λ x. Unit {0})
  unfolding sf
  over-group f e k k' at rest = g.on (apart (ap (λ sf. eqb sf 72) e)) (λ _. rest _ _ (omega arith) tt)

  over-mask : (n : ℕ) → Over sheet 72 Q (bpac.node_mask n) (bpac.node_mask n) length (λ x. Unit {0})
  unfolding sf
  over-mask n k k' at rest =
      over-times sheet 72 Q (λ x. 1) (λ x. Unit {0}) (λ (xs : List ℕ). length xs) refl (λ x xs. omega arith) (over-group _ refl) ((n - 1) / 64) _ _ at (λ groups to e _.
      g.on (apart refl) (λ _. rest _ _ (omega (arith, length-append groups (get_or sheet to 0 ∷ []))) tt))

  pub over-area : (k : bpac.Area → Layout A) (k' : bpac.Area → Layout A') (at : ℕ) → First sheet 72 Q at
      → ((x : bpac.Area) (to : ℕ) → x.id ≡ get_or sheet at 0 → to ≡ at + bpac_entries x → bpac_area at x ≡ bpac_seen at (code_in sheet (bpac.area k) at) → BpacMet x → Q (k x) (k' x) to)
      → Q (bpac.area k) (bpac.area k') at
  unfolding code_in sf line_of find table
  over-area k k' at id rest =
      let body : List ℕ → List bpac.Vtec → bpac.Area
      = λ mask nodes.
      record {
        id = get_or sheet at 0;
        latitude = get_or sheet (suc at) 0;
        longitude = get_or sheet (suc (suc at)) 0;
        rows = get_or sheet (suc (suc (suc at))) 0;
        columns = get_or sheet (suc (suc (suc (suc at)))) 0;
        latitude_spacing = get_or sheet (suc (suc (suc (suc (suc at))))) 0;
        longitude_spacing = get_or sheet (suc (suc (suc (suc (suc (suc at)))))) 0;
        average = get_or sheet (suc (suc (suc (suc (suc (suc (suc at))))))) 0;
        node_mask = mask;
        nodes = nodes;
      } in
      id.on refl (λ _. g.on (apart refl) (λ latitude. g.on (apart refl) (λ longitude. g.on (apart refl) (λ rows. g.on (apart refl) (λ columns.
      g.on (apart refl) (λ latitude_spacing. g.on (apart refl) (λ longitude_spacing. g.on (apart refl) (λ average.
      over-mask (suc (get_or sheet (suc (suc (suc at))) 0) * suc (get_or sheet (suc (suc (suc (suc at)))) 0)) (λ mask. times (bpac.set_bits mask) bpac.vtec (λ nodes. k (body mask nodes))) (λ mask. times (bpac.set_bits mask) bpac.vtec (λ nodes. k' (body mask nodes))) _ (λ mask to e _.
      over-times sheet 72 Q (λ v. 3) (λ v. Unit {0}) (λ vs. 3 * length vs) refl (λ v vs. omega arith) over-vtec (bpac.set_bits mask) (λ nodes. k (body mask nodes)) (λ nodes. k' (body mask nodes)) to (λ nodes end e' _.
      rest _ _ refl (omega arith) refl
      (record {
        latitude = degrees-of 73 refl latitude;
        longitude = degrees-of 74 refl longitude;
        rows = count-of 75 refl rows;
        columns = count-of 76 refl columns;
        latitude_spacing = degrees-of 77 refl latitude_spacing;
        longitude_spacing = degrees-of 78 refl longitude_spacing;
        average = tecu-of 80 refl average;
      })))))))))))

  -- to the first area
  pub over-head : (k : bpac.Bpac → Layout A) (k' : bpac.Bpac → Layout A')
      → ((n : ℕ) (body : List bpac.Area → bpac.Bpac) → ((areas : List bpac.Area) → (body areas).areas ≡ areas)
      → Q (times n bpac.area (λ areas. k (body areas))) (times n bpac.area (λ areas. k' (body areas))) 4)
      → Q (bpac.bpac k) (bpac.bpac k') 0
  unfolding sf
  over-head k k' rest =
      g.on (apart refl) (λ _. g.on (apart refl) (λ _. g.on (apart refl) (λ _. g.on (apart refl) (λ _. rest (suc (get_or sheet 3 0))
      (λ areas. record { siou = get_or sheet 0 0; height = get_or sheet 2 0; areas = areas }) (λ areas. refl)))))

-- What follows from the record's ends is so of the message: of what a layout makes of it, and of the record alone.
pub bpac-ends : {M : Type 0} (sheet : List ℕ) (f : bpac.Bpac → M) (R : M → bpac.Bpac → Type 0)
    → ((b : bpac.Bpac) → EachOf BpacMet b.areas → R (f b) b)
    → Holds (bpac.bpac (λ b. done (f b))) sheet 0 → R (record_of (bpac.bpac (λ b. done (f b))) sheet) (record_of (bpac.bpac (λ b. done b)) sheet)
unfolding record_from
bpac-ends sheet f R h =
    over-head (goes-ends sheet R 72) (λ b. done (f b)) (λ b. done b) (λ n body e.
    over-times sheet 72 (Ends sheet R) bpac_entries BpacMet (total bpac_entries) refl (λ x xs. refl)
    (λ k k' at rest. over-area (goes-ends sheet R 72) k k' at (first_ends sheet R 72 at) (λ x to i e v m. rest x to e m)) n (λ xs. done (f (body xs))) (λ xs. done (body xs)) 4 (λ xs to q ms _.
    h (body xs) (subst (EachOf BpacMet) (sym (e xs)) ms)))
