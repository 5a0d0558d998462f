-- Definitions to believe: document 01's orders of checks are written as lists of stops, one a check, top to bottom.
use Rattle.std.specs.Prelude.{Bool, true, false}

-- a list of checks: the first that holds answers
abbrev pub stop : {A : Type 0} → Bool → A → A → A
stop true answer rest = answer
stop false answer rest = rest
