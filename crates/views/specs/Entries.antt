-- Definitions to believe: how many entries of a sheet a part has that may be absent.
use Rattle.std.specs.Prelude.{ℕ}
use Rattle.layout.specs.Parts.{Part, absent, present}

abbrev pub entries_of : {B : Type 0} → (B → ℕ) → Part B → ℕ
entries_of f absent = 0
entries_of f (present x) = f x
