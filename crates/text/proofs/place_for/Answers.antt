-- Where it has room a text goes behind the bytes that wait, else to the start.
use Rattle.std.proofs.Common.{rules}
use Rattle.text.specs.Text.{fits, place_for}
use Rattle.text.proofs.place_for.Goals as goal

pub returns-in-Some-clause-value : goal.returns-in-Some-clause-value
unfolding place_for fits
returns-in-Some-clause-value c = search rules

pub returns-in_default-clause-value : goal.returns-in_default-clause-value
unfolding place_for fits
returns-in_default-clause-value c = search rules
