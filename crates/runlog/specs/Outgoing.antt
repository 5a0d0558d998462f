-- Definitions to believe: the bytes that go out, where the texts that are said are those of what is told (`says` of Telling.antt): those that go out while a portion is told, and behind each
-- portion what waits.
use Rattle.std.specs.Prelude.{Bool, List, [], ◌++◌, ℕ}
use Rattle.text.specs.Text.{whole_output}
use Rattle.prepare.specs.Driver.{State}
use Rattle.runlog.specs.declared.hearing.Stop.{Stop}
use Rattle.runlog.specs.Telling.{logs_of}
use Rattle.runlog.specs.Running.{Reads, AllTold}

-- of portion after portion
unfoldable pub out_in : {raw : Bool} {s s₁ : State} {o o₁ : List ℕ} {ps : List (List ℕ)} → Reads raw s o ps s₁ o₁ → List ℕ
out_in Reads.no_more = []
out_in {raw = raw} (Reads.a-portion {o = o} {o₁ = p} second at told rest) = whole_output o (logs_of raw told.told) p at ++ out_in rest

-- of a whole stream
abbrev pub out_of : {raw : Bool} {state : State} {out bytes₂ live₂ run₂ out₂ : List ℕ} {stop : Stop} → AllTold raw state out bytes₂ live₂ run₂ out₂ stop → List ℕ
out_of {raw = raw} {out₂ = out₂} a = out_in a.reads ++ whole_output a.out₁ (logs_of raw a.closes.ends.told) out₂ a.closes.at'
