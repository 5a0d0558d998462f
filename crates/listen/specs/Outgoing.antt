-- Definitions to believe: the bytes that go out while the program listens: those that go out while the lines of a portion are said, and behind each portion what waits.
use Rattle.std.specs.Prelude.{List, [], ◌∷◌, ◌++◌, ℕ}
use Rattle.text.specs.Text.{whole_output}
use Rattle.stream.specs.declared.Tray.{Tray}
use Rattle.listen.specs.declared.Stop.{Stop}
use Rattle.listen.specs.Lines.{lines_of, end_line}
use Rattle.listen.specs.Listens.{Reads, Listened}

-- of portion after portion
unfoldable pub out_in : {b b₁ o o₁ : List ℕ} {t t₁ : Tray} {ps : List (List ℕ)} → Reads b t o ps b₁ t₁ o₁ → List ℕ
out_in Reads.no_more = []
out_in (Reads.a-portion {o = o} {o₁ = p} at told rest) = whole_output o (lines_of told.events) p at ++ out_in rest

-- of a whole stream
abbrev pub out_of : {bytes out bytes₂ out₂ : List ℕ} {stop : Stop} → Listened bytes out bytes₂ out₂ stop → List ℕ
out_of {out₂ = out₂} l = out_in l.reads ++ whole_output l.out₁ (lines_of l.closes.ends.events ++ (end_line ∷ [])) out₂ l.closes.at'
