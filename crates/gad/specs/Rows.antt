-- Mirror: the rows of row.rt, and that the machine goes along them: all blocks of a GAD are one row.
use Rattle.std.specs.Prelude.{◌≡◌, refl, [], ◌∷◌, ℕ, zero, suc}
use Rattle.rows.specs.declared.Row.{Row}
use Rattle.rows.specs.Rows.{field_in, word_of, cells, cells_in, again, cells_of, no_row}
use Rattle.fields.specs.Fields.{table, find, line_of, sf}
use Rattle.rows.specs.Along.{is, Along, stays, passes}
use Rattle.gad.specs.declared.State.{State}
use Rattle.gad.specs.declared.State.TheVariants.{Siou, Aiou, Reserved, Count, Id, Latitude, Longitude, Rows, Columns, LatitudeSpacing, LongitudeSpacing, Done}
use Rattle.gad.specs.Machine.{gad_field, gad_step}

-- SF031 to SF037
abbrev pub blocks_row : ℕ → Row
blocks_row more = record { group = word_of (31 ∷ 32 ∷ 33 ∷ 34 ∷ 35 ∷ 36 ∷ 37 ∷ []); more = more; tail = 0 }

-- the row from a state on; after it the message has ended
abbrev pub gad_row : State → Row
gad_row Siou = no_row
gad_row (Aiou siou) = no_row
gad_row (Reserved siou aiou) = no_row
gad_row (Count siou aiou) = no_row
gad_row (Id head) = blocks_row head.more
gad_row (Latitude head id) = no_row
gad_row (Longitude head id latitude) = no_row
gad_row (Rows head id latitude longitude) = no_row
gad_row (Columns head id latitude longitude rows) = no_row
gad_row (LatitudeSpacing head id latitude longitude rows columns) = no_row
gad_row (LongitudeSpacing head id latitude longitude rows columns spacing) = no_row
gad_row Done = no_row

blocks-along : (siou aiou more : ℕ)
    → Along gad_field gad_step (Id (record { siou = siou; aiou = aiou; more = more }))
    (again (suc more) (31 ∷ 32 ∷ 33 ∷ 34 ∷ 35 ∷ 36 ∷ 37 ∷ []) []) (gad_step Done)
unfolding field_in sf line_of find table
blocks-along siou aiou zero =
    passes (is refl) (λ _. passes (is refl) (λ _. passes (is refl) (λ _. passes (is refl) (λ _. passes (is refl) (λ _. passes (is refl) (λ _. passes (is refl) (λ _.
    stays (λ _. refl))))))))
blocks-along siou aiou (suc more) =
    passes (is refl) (λ _. passes (is refl) (λ _. passes (is refl) (λ _. passes (is refl) (λ _. passes (is refl) (λ _. passes (is refl) (λ _. passes (is refl) (λ _.
    blocks-along siou aiou more)))))))

-- From each state that has a row the machine goes along it to the end.
pub rowed : (s : State) → ((gad_row s).group ≡ 0 → ⊥) → Along gad_field gad_step s (cells_of (gad_row s)) (gad_step Done)
unfolding cells cells_in
rowed Siou h = absurd (h refl)
rowed (Aiou siou) h = absurd (h refl)
rowed (Reserved siou aiou) h = absurd (h refl)
rowed (Count siou aiou) h = absurd (h refl)
rowed (Id head) h = blocks-along head.siou head.aiou head.more
rowed (Latitude head id) h = absurd (h refl)
rowed (Longitude head id latitude) h = absurd (h refl)
rowed (Rows head id latitude longitude) h = absurd (h refl)
rowed (Columns head id latitude longitude rows) h = absurd (h refl)
rowed (LatitudeSpacing head id latitude longitude rows columns) h = absurd (h refl)
rowed (LongitudeSpacing head id latitude longitude rows columns spacing) h = absurd (h refl)
rowed Done h = absurd (h refl)
