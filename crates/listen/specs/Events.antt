-- Serves proofs: what the functions of `listen` say of each other.
use Rattle.std.specs.Prelude.{Bool, true, false}
use Rattle.stream.specs.declared.Said.{Said}
use Rattle.stream.specs.declared.Said.TheVariants.{Frame, Noise, Hungry, Done, Refused}

abbrev pub is_event : Said → Bool
is_event (Frame f) = true
is_event (Noise n) = true
is_event Hungry = false
is_event Done = false
is_event (Refused r) = false
