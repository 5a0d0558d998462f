-- The windows passed over have no preamble (Seeking.antt).
use Rattle.std.proofs.Common.{rules}
use Rattle.stream.proofs.Seeking.{preamble-found}
use Rattle.stream.proofs.find_preamble.Goals as goal

pub returns-clause-value : goal.returns-clause-value
returns-clause-value c = search (preamble-found, rules)
