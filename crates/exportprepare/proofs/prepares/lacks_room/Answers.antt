-- A slice under its size, the first that is.
use Rattle.exportprepare.proofs.Prepared.{room-tray, room-desk, room-told, room-header}
use borrow.Author.Rules.{rules}
use Rattle.exportprepare.proofs.prepares.lacks_room.Goals as goal

pub returns-then-tray-lt-TRAY : goal.returns-then-tray-lt-TRAY
returns-then-tray-lt-TRAY c = search (room-tray, rules)

pub returns-then-desk-lt-DESK : goal.returns-then-desk-lt-DESK
returns-then-desk-lt-DESK c = search (room-desk, rules)

pub returns-then-told-lt-TOLD : goal.returns-then-told-lt-TOLD
returns-then-told-lt-TOLD c = search (room-told, rules)

pub returns : goal.returns
returns c = search (room-header, rules)
