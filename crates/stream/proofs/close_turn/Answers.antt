-- A frame is shown; anything else is a byte of noise, which is told where the count is full (Ending.antt).
use Rattle.stream.proofs.Ending.{frame-said, noise-on, full-told}
use borrow.Author.Rules.{rules}
use Rattle.stream.proofs.close_turn.Goals as goal

pub returns-in-Accepted : goal.returns-in-Accepted
returns-in-Accepted c = search (frame-said, rules)

pub returns-then-next-eq-MOST_NOISE : goal.returns-then-next-eq-MOST_NOISE
returns-then-next-eq-MOST_NOISE c = full-told _ _ c.requires.standing _ c.check.ensures c.in_default.not-Accepted c.requires.start_lt_held _ c.noisy-next.ensures c.if-next-eq-MOST_NOISE.true _ _ c.say.ensures c.shift-then-next-eq-MOST_NOISE.ensures

pub returns : goal.returns
returns c = noise-on _ _ c.requires.standing _ c.check.ensures c.in_default.not-Accepted c.requires.start_lt_held _ c.noisy-next.ensures c.if-next-eq-MOST_NOISE.false
