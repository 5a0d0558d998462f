-- `payload_length`: three parts of a field of ten bits, which is below 1,024.
use Rattle.frame.proofs.Reading.{length-is, length-lt}
use borrow.Author.Rules.{rules}
use Rattle.frame.proofs.payload_length.Goals as goal

pub returns : goal.returns
returns c = search (length-is, length-lt, rules)
