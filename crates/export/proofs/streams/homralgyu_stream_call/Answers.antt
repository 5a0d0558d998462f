-- A slice is too short, or what was told is what the call below answers.
use Rattle.export.specs.Numbers.{laid}
use Rattle.export.specs.Streams.{told_answer, tray_told, header_told}
use Rattle.stream.specs.declared.Answer.{Answer}
use Rattle.export.proofs.Laws.{is-told, is-left}
use Rattle.export.proofs.States.{no-tray, no-told, no_header, rooms-are}
use borrow.Author.Rules.{rules}
use Rattle.export.proofs.streams.homralgyu_stream_call.Goals as goal

pub returns-then-tray-lt-TRAY-clause-value : goal.returns-then-tray-lt-TRAY-clause-value
returns-then-tray-lt-TRAY-clause-value c = search (no-tray, rules)

pub returns-then-tray-lt-TRAY-clause-bytes_after : goal.returns-then-tray-lt-TRAY-clause-bytes_after
returns-then-tray-lt-TRAY-clause-bytes_after c = search (no-tray, rules)

pub returns-then-tray-lt-TRAY-clause-tray_after : goal.returns-then-tray-lt-TRAY-clause-tray_after
returns-then-tray-lt-TRAY-clause-tray_after c = search (no-tray, rules)

pub returns-then-tray-lt-TRAY-clause-told_after : goal.returns-then-tray-lt-TRAY-clause-told_after
returns-then-tray-lt-TRAY-clause-told_after c = search (no-tray, rules)

pub returns-then-tray-lt-TRAY-clause-header_after : goal.returns-then-tray-lt-TRAY-clause-header_after
returns-then-tray-lt-TRAY-clause-header_after c = search (no-tray, rules)

pub returns-then-told-lt-TOLD-clause-value : goal.returns-then-told-lt-TOLD-clause-value
returns-then-told-lt-TOLD-clause-value c = search (no-told, rules)

pub returns-then-told-lt-TOLD-clause-bytes_after : goal.returns-then-told-lt-TOLD-clause-bytes_after
returns-then-told-lt-TOLD-clause-bytes_after c = search (no-told, rules)

pub returns-then-told-lt-TOLD-clause-tray_after : goal.returns-then-told-lt-TOLD-clause-tray_after
returns-then-told-lt-TOLD-clause-tray_after c = search (no-told, rules)

pub returns-then-told-lt-TOLD-clause-told_after : goal.returns-then-told-lt-TOLD-clause-told_after
returns-then-told-lt-TOLD-clause-told_after c = search (no-told, rules)

pub returns-then-told-lt-TOLD-clause-header_after : goal.returns-then-told-lt-TOLD-clause-header_after
returns-then-told-lt-TOLD-clause-header_after c = search (no-told, rules)

pub returns-then-header-lt-HEADER-clause-value : goal.returns-then-header-lt-HEADER-clause-value
returns-then-header-lt-HEADER-clause-value c = search (no_header, rules)

pub returns-then-header-lt-HEADER-clause-bytes_after : goal.returns-then-header-lt-HEADER-clause-bytes_after
returns-then-header-lt-HEADER-clause-bytes_after c = search (no_header, rules)

pub returns-then-header-lt-HEADER-clause-tray_after : goal.returns-then-header-lt-HEADER-clause-tray_after
returns-then-header-lt-HEADER-clause-tray_after c = search (no_header, rules)

pub returns-then-header-lt-HEADER-clause-told_after : goal.returns-then-header-lt-HEADER-clause-told_after
returns-then-header-lt-HEADER-clause-told_after c = search (no_header, rules)

pub returns-then-header-lt-HEADER-clause-header_after : goal.returns-then-header-lt-HEADER-clause-header_after
returns-then-header-lt-HEADER-clause-header_after c = search (no_header, rules)

pub returns-clause-value : goal.returns-clause-value
returns-clause-value c = search (rooms-are, is-told (λ (v : Answer). (told_answer v).number), rules)

pub returns-clause-bytes_after : goal.returns-clause-bytes_after
returns-clause-bytes_after c = search (rooms-are, rules)

pub returns-clause-tray_after : goal.returns-clause-tray_after
returns-clause-tray_after c = search (rooms-are, is-left (λ (v : Answer). laid (tray_told v)), rules)

pub returns-clause-told_after : goal.returns-clause-told_after
returns-clause-told_after c = search (rooms-are, is-left (λ (v : Answer). laid (told_answer v).numbers), rules)

pub returns-clause-header_after : goal.returns-clause-header_after
returns-clause-header_after c = search (rooms-are, is-left (λ (v : Answer). laid (header_told v)), rules)
