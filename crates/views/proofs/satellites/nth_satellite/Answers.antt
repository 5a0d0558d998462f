-- `nth_satellite`: past the last, or the satellite at its place.
use Rattle.views.proofs.Ocbs.{nth-field, nth-seats, nth-is}
use borrow.Author.Rules.{rules}
use Rattle.views.proofs.satellites.nth_satellite.Goals as goal

pub returns-then-count-place : goal.returns-then-count-place
returns-then-count-place c = search (nth-field, rules)

pub satellite_start-at-requires : goal.satellite_start-at-requires
satellite_start-at-requires c =
    nth-seats _ _ _ _ _ _ c.entry-size.ensures c.entry-mask.ensures c.satellite_count-count.ensures c.if-count-place.false _ c.entry-yaw.ensures c.requires

pub returns : goal.returns
returns c = search (nth-is, rules)
