-- TF006: each half of a byte leaves its own part of the register, by its own table (Turns.antt).
use Rattle.checks.proofs.Turns.{frame_is}
use borrow.Author.Rules.{rules}
use Rattle.checks.proofs.frame_crc.Goals as goal

pub returns : goal.returns
returns c = search (frame_is, rules)
