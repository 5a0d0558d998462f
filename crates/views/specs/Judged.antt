-- Definitions to believe: a sheet is judged before it is looked at. One that the writer would refuse gets the writer's refusal: UNKNOWN_TYPE, the first fault, LEFTOVER,
-- LENGTH (document 01, "Payloads").
use Rattle.std.specs.Prelude.{Ok, Err}
use Rattle.answer.specs.declared.Fault.{Fault}
use Rattle.codes.specs.declared.Constellation.{Constellation}
use Rattle.layout.specs.Parts.{Part, absent, present}
use Rattle.sheet.specs.Results.{WriteAnswer}

-- the refusal of a sheet, or what is said of one that the writer accepts
abbrev pub if_taken : {B : Type 0} → WriteAnswer → (Fault → B) → B → B
if_taken (Ok p) refused rest = rest
if_taken (Err why) refused rest = refused why

-- for a subtype's constellation; `none` where it has none
abbrev pub for_constellation : {B : Type 0} → Part Constellation → (none : B) → (Constellation → B) → B
for_constellation absent none rest = none
for_constellation (present c) none rest = rest c
