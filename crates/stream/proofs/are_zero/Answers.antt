-- The bytes joined by or are zero exactly where each is.
use Rattle.std.proofs.Common.{rules, ◌≡◌, bit_or}
use Rattle.std.specs.Prelude.{fold}
use Rattle.stream.proofs.Zeros.{joined-zeros}
use Rattle.stream.proofs.are_zero.Goals as goal

pub returns : goal.returns
returns c =
    let f : c.fold.result ≡ fold bit_or 0 c.args.bytes.now = search rules in
    rw f (joined-zeros 0 c.args.bytes.now)
