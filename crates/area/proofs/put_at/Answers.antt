-- `put_at`: what is put at the start of the part from `at` on stands at `at`.
use Rattle.std.proofs.Common.{rules}
use Rattle.area.proofs.Steps.{put-behind}
use Rattle.area.proofs.put_at.Goals as goal

pub returns-then-at-bytes : goal.returns-then-at-bytes
returns-then-at-bytes c = search (put-behind, rules)
