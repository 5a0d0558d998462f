-- Definitions to believe: when a sheet holds a layout, from one of its entries on, and how many bits it then says.
use Rattle.std.specs.Prelude.{◌≡◌, List, ℕ, suc, ◌+◌, ◌<◌, length, get_or, Ok}
use Rattle.layout.specs.Layout.{Layout, done, field, judge}

-- each field has its entry, and takes it; the sheet ends where the layout does
unfoldable pub Holds : {A : Type 0} → Layout A → (sheet : List ℕ) (at : ℕ) → Type 0
Holds (done v) sheet at = at ≡ length sheet
Holds (field f next) sheet at = (at < length sheet) × (judge f (get_or sheet at 0) ≡ Ok tt) × Holds (next (get_or sheet at 0)) sheet (suc at)

-- the widths of its fields, added up
unfoldable pub bits_from : {A : Type 0} → Layout A → (sheet : List ℕ) (at : ℕ) → ℕ
bits_from (done v) sheet at = 0
bits_from (field f next) sheet at = f.width + bits_from (next (get_or sheet at 0)) sheet (suc at)
