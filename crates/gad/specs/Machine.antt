-- Mirror: the machine of lib.rt. It serves proofs, and it is proved that it walks the layout.
use Rattle.std.specs.Prelude.{◌≡◌, ℕ, zero, suc, ◌-◌}
use Rattle.std.proofs.Math.Path.{refl}
use Rattle.layout.specs.declared.Field.{Field}
use Rattle.layout.specs.Parts.{up_to}
use Rattle.layout.specs.Walks.{goes, fine, Leads, leads-times}
use Rattle.layout.specs.Tests.{one_less}
use Rattle.fields.specs.Fields.{table, find, line_of, sf}
use Rattle.gad.specs.declared.State.{State}
use Rattle.gad.specs.declared.State.TheVariants.{Siou, Aiou, Reserved, Count, Id, Latitude, Longitude, Rows, Columns, LatitudeSpacing, LongitudeSpacing, Done}
use Rattle.gad.specs.Gad.{block, gad}

abbrev pub gad_field : State → Field
gad_field Siou = sf 5
gad_field (Aiou siou) = sf 68
gad_field (Reserved siou aiou) = sf 69
gad_field (Count siou aiou) = sf 30
gad_field (Id head) = sf 31
gad_field (Latitude head id) = sf 32
gad_field (Longitude head id latitude) = sf 33
gad_field (Rows head id latitude longitude) = sf 34
gad_field (Columns head id latitude longitude rows) = sf 35
gad_field (LatitudeSpacing head id latitude longitude rows columns) = sf 36
gad_field (LongitudeSpacing head id latitude longitude rows columns spacing) = sf 37
gad_field Done = up_to 0 0 0

-- where n blocks are still to come
abbrev pub blocks_from : (siou aiou n : ℕ) → State
blocks_from siou aiou zero = Done
blocks_from siou aiou (suc more) = Id (record { siou = siou; aiou = aiou; more = more })

abbrev pub gad_step : State → ℕ → State
gad_step Siou c = Aiou c
gad_step (Aiou siou) c = Reserved siou c
gad_step (Reserved siou aiou) c = Count siou aiou
gad_step (Count siou aiou) c = blocks_from siou aiou (suc c)
gad_step (Id head) c = Latitude head c
gad_step (Latitude head id) c = Longitude head id c
gad_step (Longitude head id latitude) c = Rows head id latitude c
gad_step (Rows head id latitude longitude) c = Columns head id latitude longitude c
gad_step (Columns head id latitude longitude rows) c = LatitudeSpacing head id latitude longitude rows c
gad_step (LatitudeSpacing head id latitude longitude rows columns) c = LongitudeSpacing head id latitude longitude rows columns c
gad_step (LongitudeSpacing head id latitude longitude rows columns spacing) c = blocks_from head.siou head.aiou head.more
gad_step Done c = Done

-- ---- an arm of the code's `match`: what it gives is the mirror's answer at the state it stands for

-- `if n == 0 { Done } else { Id(.. n - 1) }`
pub blocks_more : (siou aiou n : ℕ) → (n ≡ 0 → ⊥) → Id (record { siou = siou; aiou = aiou; more = n - 1 }) ≡ blocks_from siou aiou n
blocks_more siou aiou n h = one_less (blocks_from siou aiou) n h

-- ---- the machine walks the layout

module _ {A : Type 0} where
  leads-block : (siou aiou n : ℕ) → Leads {A = A} gad_field gad_step (blocks_from siou aiou (suc n)) block (blocks_from siou aiou n)
  unfolding sf line_of find table
  leads-block siou aiou n k rest =
      goes refl (fine tt) (λ _ _. goes refl (fine tt) (λ _ _. goes refl (fine tt) (λ _ _. goes refl (fine tt) (λ _ _. goes refl (fine tt) (λ _ _.
      goes refl (fine tt) (λ _ _. goes refl (fine tt) (λ _ _. rest _)))))))

  pub leads-gad : Leads {A = A} gad_field gad_step Siou gad Done
  unfolding sf line_of find table
  leads-gad k rest =
      goes refl (fine tt) (λ siou _. goes refl (fine tt) (λ aiou _. goes refl (fine tt) (λ _ _. goes refl (fine tt) (λ count _.
      leads-times gad_field gad_step (blocks_from siou aiou) (leads-block siou aiou) (suc count) _ (λ blocks.
      rest (record { siou = siou; aiou = aiou; blocks = blocks }))))))
