-- Each test is one part of the definition; the shown frame is checked again.
use borrow.Author.Rules.{rules}
use Rattle.stream.proofs.Judging.{unsound-held, unsound-noise, unsound-zeros, sound_none, sound-shown}
use Rattle.stream.proofs.is_sound.Goals as goal

pub returns-then-held-gt-LONGEST_FRAME : goal.returns-then-held-gt-LONGEST_FRAME
returns-then-held-gt-LONGEST_FRAME c = search (unsound-held, rules)

pub returns-then-tray-ge-MOST_NOISE : goal.returns-then-tray-ge-MOST_NOISE
returns-then-tray-ge-MOST_NOISE c = search (unsound-noise, rules)

pub returns-then-not-all_zero : goal.returns-then-not-all_zero
returns-then-not-all_zero c = search (unsound-zeros, rules)

pub returns-then-tray-eq0 : goal.returns-then-tray-eq0
returns-then-tray-eq0 c = search (sound_none, rules)

pub returns : goal.returns
returns c = search (sound-shown, rules)
