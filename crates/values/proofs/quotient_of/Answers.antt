-- `quotient_of`: a number of 32 bits is exact as a float, and the division is the definition's.
use mathlib.Core.Path.{refl}
use Rattle.values.specs.Values.{quotient}
use Rattle.values.proofs.quotient_of.Goals as goal

pub returns : goal.returns
unfolding quotient
returns c = refl
