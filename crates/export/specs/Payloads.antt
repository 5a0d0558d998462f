-- Definitions to believe: the answers of `sheet` in numbers.
use Rattle.std.specs.Prelude.{[], ◌∷◌, ℕ, Ok, Err}
use Rattle.export.specs.Numbers.{Told, refused_at}
use Rattle.sheet.specs.Results.{ReadAnswer}
use Rattle.sheet.specs.Results.{WriteAnswer}

-- two counts
abbrev pub counts_room : ℕ
counts_room = 2

-- the bits read and the entries written
unfoldable pub told_read : ReadAnswer → Told
told_read (Ok p) = record { number = 0; numbers = p.bits ∷ p.entries ∷ [] }
told_read (Err fault) = refused_at fault

-- the bits and the bytes written
unfoldable pub told_written : WriteAnswer → Told
told_written (Ok p) = record { number = 0; numbers = p.bits ∷ p.bytes ∷ [] }
told_written (Err fault) = refused_at fault
