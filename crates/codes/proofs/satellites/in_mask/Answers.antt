-- The set bits of a mask moved up are its satellites.
use Rattle.std.proofs.Common.{rules}
use Rattle.codes.specs.Listing.{all-come}
use Rattle.codes.proofs.satellites.in_mask.Goals as goal

pub returns : goal.returns
returns c = search (all-come, rules)
