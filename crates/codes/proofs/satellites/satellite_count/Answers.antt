-- A mask at the top of a word has as many satellites as set bits.
use Rattle.codes.specs.Stepping.{top-counted}
use borrow.Author.Rules.{rules}
use Rattle.codes.proofs.satellites.satellite_count.Goals as goal

pub returns : goal.returns
returns c = search (top-counted, rules)
