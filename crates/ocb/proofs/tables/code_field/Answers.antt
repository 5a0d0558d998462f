-- The callee's contract, with the field's number put in.
use Rattle.layout.specs.Tests.{sf-free}
use borrow.Author.Rules.{rules}
use Rattle.ocb.proofs.tables.code_field.Goals as goal

pub returns : goal.returns
returns c = search (sf-free, rules)
