-- The callee's contract, with the field's number put in.
use Rattle.ocb.proofs.row.size_row.Goals as goal

pub returns : goal.returns
returns c = cc
