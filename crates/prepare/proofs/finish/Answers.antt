-- ROOM and STATE, and then what the stream says moves the desk on (Moving.antt).
use Rattle.prepare.proofs.Moving.{only-passed, tested-sound, tested-room, finish-lies, finish-failed, finish-moved}
use borrow.Author.Rules.{rules}
use Rattle.prepare.proofs.finish.Goals as goal

pub step-requires : goal.step-requires
step-requires c =
    let passed = only-passed _ c.in_default.not-Err in
    let tested = c.test_lent.ensures in
    record { run_value = (tested-sound _ _ _ _ _ _ passed tested, tested-room _ _ _ _ _ _ passed tested); lies = finish-lies _ _ _ c.listen-heard.ensures.value _ c.listen-heard.ensures.bytes_after }

pub returns-in-Err : goal.returns-in-Err
returns-in-Err c = search (finish-failed, rules)

pub returns : goal.returns
returns c =
    finish-moved _ _ _ _ _ _ _ _ _ _ _ _ _ c.step.ensures c.listen-heard.ensures.value c.listen-heard.ensures.bytes_after _ (only-passed _ c.in_default.not-Err) c.test_lent.ensures
