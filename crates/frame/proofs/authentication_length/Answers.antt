-- `authentication_length`: TF015 stands behind the tag.
use Rattle.frame.proofs.Reading.{length-field}
use borrow.Author.Rules.{rules}
use Rattle.frame.proofs.authentication_length.Goals as goal

pub returns : goal.returns
returns c = search (length-field, rules)
