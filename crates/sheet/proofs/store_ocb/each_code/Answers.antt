-- So many codes of 11 bits.
use Rattle.sheet.proofs.StoringOcb.{each-code-stored}
use borrow.Author.Rules.{rules}
use Rattle.sheet.proofs.store_ocb.each_code.Goals as goal

pub returns : goal.returns
returns c = search (each-code-stored, rules)
