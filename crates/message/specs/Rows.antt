-- Mirror: the rows of row.rt over all twelve payloads, and that the machine goes along them.
use Rattle.std.specs.Prelude.{◌≡◌, refl}
use Rattle.rows.specs.declared.Row.{Row}
use Rattle.rows.specs.Rows.{cells_of, no_row}
use Rattle.rows.specs.Along.{Along, along-within}
use Rattle.message.specs.declared.State.{State}
use Rattle.message.specs.declared.State.TheVariants.{Ocb, Hpac, Gad, Bpac}
use Rattle.message.specs.Machine.{field_of, step_of}
use Rattle.ocb.specs.Rows as ocb
use Rattle.ocb.specs.Rows.{ocb_row, ocb_last}
use Rattle.hpac.specs.Rows as hpac
use Rattle.hpac.specs.Rows.{hpac_row, hpac_last}
use Rattle.gad.specs.Rows as gad
use Rattle.gad.specs.Rows.{gad_row}
use Rattle.gad.specs.declared.State.TheVariants as gad_state

-- the row from a state on
abbrev pub row_of : State → Row
row_of (Ocb s) = ocb_row s
row_of (Hpac s) = hpac_row s
row_of (Gad s) = gad_row s
row_of (Bpac s) = no_row

-- the state of its last field
abbrev pub last_of : State → State
last_of (Ocb s) = Ocb (ocb_last s)
last_of (Hpac s) = Hpac (hpac_last s)
last_of (Gad s) = Gad gad_state.Done
last_of (Bpac s) = Bpac s

-- From each state that has a row the machine goes along it, to the step from its last field.
pub rowed : (s : State) → ((row_of s).group ≡ 0 → ⊥) → Along field_of step_of s (cells_of (row_of s)) (step_of (last_of s))
rowed (Ocb s) h = along-within Ocb (λ _. refl) (λ _ _. refl) (ocb.rowed s h)
rowed (Hpac s) h = along-within Hpac (λ _. refl) (λ _ _. refl) (hpac.rowed s h)
rowed (Gad s) h = along-within Gad (λ _. refl) (λ _ _. refl) (gad.rowed s h)
rowed (Bpac s) h = absurd (h refl)
