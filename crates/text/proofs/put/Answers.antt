-- With no room nothing is put; else the text takes the place of as many bytes.
use Rattle.std.proofs.Common.{rules}
use Rattle.text.specs.Text.{fits, end_after, out_after}
use Rattle.text.proofs.Putting.{out-put}
use Rattle.text.proofs.put.Goals as goal

pub returns-in_default-clause-value : goal.returns-in_default-clause-value
unfolding end_after fits
returns-in_default-clause-value c = search rules

pub returns-in_default-clause-out_after : goal.returns-in_default-clause-out_after
unfolding out_after fits
returns-in_default-clause-out_after c = search rules

pub returns-in_default-2-clause-value : goal.returns-in_default-2-clause-value
unfolding end_after fits
returns-in_default-2-clause-value c = search rules

pub returns-in_default-2-clause-out_after : goal.returns-in_default-2-clause-out_after
unfolding out_after fits
returns-in_default-2-clause-out_after c = search rules

pub returns-clause-value : goal.returns-clause-value
unfolding end_after fits
returns-clause-value c = search rules

pub returns-clause-out_after : goal.returns-clause-out_after
returns-clause-out_after c = search (out-put, rules)
