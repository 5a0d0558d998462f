-- The callee's contract, with the field's number put in.
use Rattle.ocb.proofs.tables.ephemeris_field.Goals as goal

pub returns : goal.returns
returns c = cc
