-- Past the end a list gives 0.
use Rattle.std.proofs.lemmas.Option.{unwrap_or-slice_get}
use lib.ListN.{get_or-eq_default}
use borrow.Author.Rules.{rules}
use Rattle.export.proofs.numbers.at.Goals as goal

pub returns : goal.returns
returns c = search (unwrap_or-slice_get, get_or-eq_default, rules)
