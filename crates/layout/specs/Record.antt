-- Definitions to believe: the record that a layout builds of a sheet's entries, one entry a field in reading order. An entry that is not there counts as 0; a sheet
-- that the writer accepts lacks none (`record-reads` of Reaches.antt: it is the record that reading the written bits gives).
use Rattle.std.specs.Prelude.{List, ℕ, suc, get_or}
use Rattle.layout.specs.Layout.{Layout, done, field}

unfoldable pub record_from : {A : Type 0} → Layout A → (sheet : List ℕ) (at : ℕ) → A
record_from (done v) sheet at = v
record_from (field f next) sheet at = record_from (next (get_or sheet at 0)) sheet (suc at)

-- from the sheet's first entry on
abbrev pub record_of : {A : Type 0} → Layout A → List ℕ → A
record_of l sheet = record_from l sheet 0
