-- The callee's contract, with what the inner calls ensure put in.
use Rattle.bpac.proofs.group_read.Goals as goal

pub returns : goal.returns
returns c = cc
