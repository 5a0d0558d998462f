-- One law for each way out of the loop, and one for a turn (Walking.antt).
use Rattle.sheet.proofs.Walking.{Writing}
use Rattle.sheet.proofs.row.write_cells.Given as goal

abbrev pub invariant-loop-word : goal.invariant-loop-word
invariant-loop-word l = Writing l.sheet l.initial.out l.word-2 l.pos-2 l.at-2 l.last-2 l.out l.word l.pos l.at l.last

abbrev pub decreases-loop-word : goal.decreases-loop-word
decreases-loop-word l = l.word
