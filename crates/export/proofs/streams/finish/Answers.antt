-- The tray is the one that the numbers say.
use Rattle.stream.specs.declared.Tray.{Tray}
use Rattle.stream.specs.Tray.{finish_answer, finish_bytes}
use Rattle.export.specs.Streams.{finish_of, finish_leaves}
use Rattle.export.proofs.Laws.{is-left}
use borrow.Author.Rules.{rules}
use Rattle.export.proofs.streams.finish.Goals as goal

pub returns : goal.returns
unfolding finish_of finish_leaves
returns c = search (is-left (λ (t : Tray) bytes. finish_answer bytes t), is-left (λ (t : Tray) bytes. finish_bytes bytes t), rules)
