use borrow.Author.Rules.{rules}
use Rattle.stream.proofs.Places.{noised-start, noised-old}
use Rattle.stream.proofs.Tracking.{seen-said, spent-said, track-short, less-short, some-live, seen_next, less-skip, track-skip, most-said}
use Rattle.stream.proofs.feed_input.Goals as goal

pub slice_bounds-copy_from_slice-count-then-place-eq-MOST_NOISE : goal.slice_bounds-copy_from_slice-count-then-place-eq-MOST_NOISE
slice_bounds-copy_from_slice-count-then-place-eq-MOST_NOISE c = search (noised-old, some-live, rules)

pub slice_bounds-copy_from_slice-count-then-place-eq-MOST_NOISE-2 : goal.slice_bounds-copy_from_slice-count-then-place-eq-MOST_NOISE-2
slice_bounds-copy_from_slice-count-then-place-eq-MOST_NOISE-2 c = search (noised-old, some-live, rules)

pub slice_bounds-copy_from_slice-start-then-place-eq-MOST_NOISE : goal.slice_bounds-copy_from_slice-start-then-place-eq-MOST_NOISE
slice_bounds-copy_from_slice-start-then-place-eq-MOST_NOISE c = search (noised-old, some-live, rules)

pub returns-in-Accepted : goal.returns-in-Accepted
returns-in-Accepted c = search (seen-said, rules)

pub returns-then-held-input : goal.returns-then-held-input
returns-then-held-input c = search (spent-said, rules)

pub loop-frame-smaller-in-Short : goal.loop-frame-smaller-in-Short
loop-frame-smaller-in-Short c = search (less-short, rules)

pub loop-frame-preserved-in-Short : goal.loop-frame-preserved-in-Short
loop-frame-preserved-in-Short c = search (track-short, rules)

pub noisy-place-requires : goal.noisy-place-requires
noisy-place-requires c = search (some-live, rules)

pub say-requires-then-place-eq-MOST_NOISE : goal.say-requires-then-place-eq-MOST_NOISE
say-requires-then-place-eq-MOST_NOISE c = search (noised-start, some-live, rules)

pub returns-then-place-eq-MOST_NOISE : goal.returns-then-place-eq-MOST_NOISE
returns-then-place-eq-MOST_NOISE c = search (most-said, rules)

pub skip-place-requires : goal.skip-place-requires
skip-place-requires c = search (seen_next, rules)

pub loop-frame-smaller : goal.loop-frame-smaller
loop-frame-smaller c = search (less-skip, rules)

pub loop-frame-preserved : goal.loop-frame-preserved
loop-frame-preserved c = search (track-skip, rules)
