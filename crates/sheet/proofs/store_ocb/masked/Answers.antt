-- A mask has as many satellites as bits that are set.
use Rattle.sheet.proofs.StoringOcb.{masked-near, masked-stored}
use borrow.Author.Rules.{rules}
use Rattle.sheet.proofs.store_ocb.masked.Goals as goal

pub satellites-requires : goal.satellites-requires
satellites-requires c = search (masked-near, rules)

pub returns : goal.returns
returns c = search (masked-stored, rules)
