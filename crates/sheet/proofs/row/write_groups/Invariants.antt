-- The group and its repeats, a turn each, then the tail (Walking.antt).
use Rattle.sheet.proofs.Walking.{Rounds}
use mathlib.Core.Path.{◌≡◌}
use lib.ListN.{length}
use Rattle.bits.specs.Bits.{to_bits}
use Rattle.rows.specs.Puts.{writing}
use Rattle.sheet.proofs.row.write_groups.Given as goal

abbrev pub invariant-loop-why : goal.invariant-loop-why
invariant-loop-why l = Rounds (writing l.sheet) l.group l.tail l.initial.more l.pos-2 l.at-2 (to_bits l.initial.out) l.more l.pos l.at l.last (to_bits l.out) × (length l.out ≡ length l.initial.out)

abbrev pub decreases-loop-why : goal.decreases-loop-why
decreases-loop-why l = l.more
