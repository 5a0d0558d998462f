-- It is SHORT with no byte, and with a preamble and fewer than four (Along.antt).
use Rattle.std.proofs.Common.{rules, ◌≡◌, get_or}
use Rattle.stream.proofs.Along.{widen-one, widen-four}
use Rattle.stream.proofs.widen.Goals as goal

pub returns-in-Some-eq115 : goal.returns-in-Some-eq115
returns-in-Some-eq115 c =
    let byte : get_or c.args.input.now c.args.place.start 0 ≡ 0x73 = search rules in
    search (widen-four, rules)

pub returns-in-Some : goal.returns-in-Some
returns-in-Some c = search (widen-one, rules)
