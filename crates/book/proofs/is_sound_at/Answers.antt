-- `is_sound_at`: what the first four bytes say of an area, and the last (Reading.antt).
use Rattle.book.proofs.Reading.{bytes-odd, bytes_low, bytes-latitude, bytes-longitude, bytes-north, bytes_rest}
use borrow.Author.Rules.{rules}
use Rattle.book.proofs.is_sound_at.Goals as goal

pub returns-then-bytes-at-ne0 : goal.returns-then-bytes-at-ne0
returns-then-bytes-at-ne0 c = search (bytes-odd, rules)

pub returns-then-start-least : goal.returns-then-start-least
returns-then-start-least c = search (bytes_low, rules)

pub returns-then-start-gt1800 : goal.returns-then-start-gt1800
returns-then-start-gt1800 c = search (bytes-latitude, rules)

pub returns-then-start-gt3600 : goal.returns-then-start-gt3600
returns-then-start-gt3600 c = search (bytes-longitude, rules)

pub returns-then-start-ge224 : goal.returns-then-start-ge224
returns-then-start-ge224 c = search (bytes-north, rules)

pub returns : goal.returns
returns c = search (bytes_rest, rules)
