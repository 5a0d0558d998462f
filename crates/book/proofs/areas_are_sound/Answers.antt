use Rattle.book.proofs.Reading.{judging-start, judging-end, judged-bad, judged-good}
use borrow.Author.Rules.{rules}
use Rattle.book.proofs.areas_are_sound.Goals as goal

pub loop-i-init : goal.loop-i-init
loop-i-init c = search (judging-start, rules)

pub returns-then-not-is_sound_at : goal.returns-then-not-is_sound_at
returns-then-not-is_sound_at c = search (judged-bad, rules)

pub loop-i-preserved : goal.loop-i-preserved
loop-i-preserved c = search (judged-good, rules)

pub returns : goal.returns
returns c = search (judging-end, rules)
