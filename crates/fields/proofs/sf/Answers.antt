-- The parts of the packed line are the field's.
use Rattle.std.proofs.Common.{rules}
use Rattle.fields.specs.Packed.{field-is}
use Rattle.fields.proofs.sf.Goals as goal

pub returns : goal.returns
returns c = search (field-is, rules)
