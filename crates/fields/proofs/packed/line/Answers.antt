-- The table of the code is the packed table; past it there is no field.
use Rattle.std.specs.Prelude.{refl}
use Rattle.std.proofs.Common.{rules}
use Rattle.fields.specs.declared.packed.TheConstants.{LINES}
use Rattle.fields.specs.Fields.{table, find, line_of, sf}
use Rattle.fields.specs.Packed.{packed_line, lines, packed_there, packed_none}
use Rattle.fields.proofs.packed.line.Goals as goal

pub returns-then-number-lt108 : goal.returns-then-number-lt108
unfolding packed_line sf line_of find table lines
returns-then-number-lt108 c = search (packed_there LINES refl, rules)

pub returns-else-number-lt108 : goal.returns-else-number-lt108
returns-else-number-lt108 c = search (packed_none, rules)
