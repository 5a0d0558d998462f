-- A word of ones moved down has as many ones as are left; moved out altogether it has none.
use Rattle.std.proofs.Common.{rules}
use Rattle.codes.proofs.Laws.{ones-left}
use Rattle.codes.proofs.masks.largest.Goals as goal

pub returns : goal.returns
returns c = search (ones-left, rules)
