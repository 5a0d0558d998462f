use borrow.Author.Rules.{rules}
use Rattle.stream.proofs.Loop.{shown-said, is-wanting, hungry-said, fed-noised, full-said, sees, is-empty, rest-said, some-live}
use Rattle.stream.proofs.feed.Goals as goal

pub returns-in-Accepted : goal.returns-in-Accepted
returns-in-Accepted c = search (shown-said, rules)

pub returns-then-place-input : goal.returns-then-place-input
returns-then-place-input c = search (hungry-said, rules)

pub take_more-place-requires-clause-wanting : goal.take_more-place-requires-clause-wanting
take_more-place-requires-clause-wanting c = search (is-wanting, rules)

pub returns-then-place-eq-MOST_NOISE : goal.returns-then-place-eq-MOST_NOISE
returns-then-place-eq-MOST_NOISE c = search (full-said, some-live, rules)

pub loop-place-preserved : goal.loop-place-preserved
loop-place-preserved c = search (fed-noised, rules)

pub feed_input-requires : goal.feed_input-requires
feed_input-requires c = search (sees, is-empty, rules)

pub returns : goal.returns
returns c = search (rest-said, rules)
