-- Where there is no `out`, nothing is put.
use Rattle.sheet.proofs.Repeats.{put-nowhere}
use borrow.Author.Rules.{rules}
use Rattle.sheet.proofs.row.put_code.Goals as goal

pub returns-then-out-eq0 : goal.returns-then-out-eq0
returns-then-out-eq0 c = search (put-nowhere, rules)
