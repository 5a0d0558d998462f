-- The tray is the one that the numbers say.
use Rattle.stream.specs.declared.Tray.{Tray}
use Rattle.stream.specs.Tray.{call_answer, call_bytes}
use Rattle.export.specs.Streams.{call_of, call_leaves}
use Rattle.export.proofs.Laws.{is-done}
use borrow.Author.Rules.{rules}
use Rattle.export.proofs.streams.call.Goals as goal

pub returns : goal.returns
unfolding call_of call_leaves
returns c = search (is-done (λ (t : Tray) bytes input. call_answer bytes t input), is-done (λ (t : Tray) bytes input. call_bytes bytes t input), rules)
