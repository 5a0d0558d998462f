-- The satellites that come are put behind those found so far; when none is to come, all are found.
use Rattle.std.proofs.Common.{rules}
use Rattle.codes.specs.Listing.{listing-starts, listing-room, listing-bytes, listing-count, listing-goes, listing-ends}
use Rattle.codes.proofs.satellites.satellites_of.Goals as goal

pub loop-number-init : goal.loop-number-init
loop-number-init c = ((tt, tt), search (listing-starts, rules))

pub offset_bounds-numbers-count : goal.offset_bounds-numbers-count
offset_bounds-numbers-count c = record { fits = listing-bytes _ _ _ _ c.loop-number.invariant.1 _ _ c.in-Some.ensures.steps }

pub bounds-numbers-count : goal.bounds-numbers-count
bounds-numbers-count c = listing-room _ _ _ _ c.loop-number.invariant.1 _ _ c.in-Some.ensures.steps

pub overflow_add-count : goal.overflow_add-count
overflow_add-count c = record { fits = listing-count _ _ _ _ c.loop-number.invariant.1 _ _ c.in-Some.ensures.steps }

pub loop-number-preserved : goal.loop-number-preserved
loop-number-preserved c = ((tt, tt), search (listing-goes, rules))

pub returns : goal.returns
returns c = search (listing-ends, rules)
