-- The tray is a fresh one.
use Rattle.runlog.proofs.hearing.first_turn.Goals as goal

pub returns : goal.returns
returns c = cc
