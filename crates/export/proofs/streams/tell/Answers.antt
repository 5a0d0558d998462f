-- A case for each thing that is said.
use Rattle.export.specs.Streams.{told_said, tray_said, header_said}
use Rattle.export.proofs.Laws.{laid_none}
use Rattle.export.proofs.States.{said-number, said-tray, said-told, said-header}
use Rattle.export.specs.Stored.{tray-there, header-there}
use borrow.Author.Rules.{rules}
use Rattle.export.proofs.streams.tell.Goals as goal

pub returns-in-Hungry-clause-value : goal.returns-in-Hungry-clause-value
unfolding told_said tray_said header_said
returns-in-Hungry-clause-value c = search (said-number, rules)

pub returns-in-Hungry-clause-tray_after : goal.returns-in-Hungry-clause-tray_after
unfolding told_said tray_said header_said
returns-in-Hungry-clause-tray_after c = search (said-tray, tray-there, rules)

pub returns-in-Hungry-clause-told_after : goal.returns-in-Hungry-clause-told_after
unfolding told_said tray_said header_said
returns-in-Hungry-clause-told_after c = search (said-told, rules)

pub returns-in-Hungry-clause-header_after : goal.returns-in-Hungry-clause-header_after
unfolding told_said tray_said header_said
returns-in-Hungry-clause-header_after c = search (said-header, laid_none, rules)

pub returns-in-Frame-clause-value : goal.returns-in-Frame-clause-value
unfolding told_said tray_said header_said
returns-in-Frame-clause-value c = search (said-number, rules)

pub returns-in-Frame-clause-tray_after : goal.returns-in-Frame-clause-tray_after
unfolding told_said tray_said header_said
returns-in-Frame-clause-tray_after c = search (said-tray, tray-there, rules)

pub returns-in-Frame-clause-told_after : goal.returns-in-Frame-clause-told_after
unfolding told_said tray_said header_said
returns-in-Frame-clause-told_after c = search (said-told, rules)

pub returns-in-Frame-clause-header_after : goal.returns-in-Frame-clause-header_after
unfolding told_said tray_said header_said
returns-in-Frame-clause-header_after c = search (said-header, header-there, rules)

pub returns-in-Noise-clause-value : goal.returns-in-Noise-clause-value
unfolding told_said tray_said header_said
returns-in-Noise-clause-value c = search (said-number, rules)

pub returns-in-Noise-clause-tray_after : goal.returns-in-Noise-clause-tray_after
unfolding told_said tray_said header_said
returns-in-Noise-clause-tray_after c = search (said-tray, tray-there, rules)

pub returns-in-Noise-clause-told_after : goal.returns-in-Noise-clause-told_after
unfolding told_said tray_said header_said
returns-in-Noise-clause-told_after c = search (said-told, rules)

pub returns-in-Noise-clause-header_after : goal.returns-in-Noise-clause-header_after
unfolding told_said tray_said header_said
returns-in-Noise-clause-header_after c = search (said-header, laid_none, rules)

pub returns-in-Done-clause-value : goal.returns-in-Done-clause-value
unfolding told_said tray_said header_said
returns-in-Done-clause-value c = search (said-number, rules)

pub returns-in-Done-clause-tray_after : goal.returns-in-Done-clause-tray_after
unfolding told_said tray_said header_said
returns-in-Done-clause-tray_after c = search (said-tray, tray-there, rules)

pub returns-in-Done-clause-told_after : goal.returns-in-Done-clause-told_after
unfolding told_said tray_said header_said
returns-in-Done-clause-told_after c = search (said-told, rules)

pub returns-in-Done-clause-header_after : goal.returns-in-Done-clause-header_after
unfolding told_said tray_said header_said
returns-in-Done-clause-header_after c = search (said-header, laid_none, rules)

pub returns-in-Refused-clause-value : goal.returns-in-Refused-clause-value
unfolding told_said tray_said header_said
returns-in-Refused-clause-value c = search (said-number, rules)

pub returns-in-Refused-clause-tray_after : goal.returns-in-Refused-clause-tray_after
unfolding told_said tray_said header_said
returns-in-Refused-clause-tray_after c = search (said-tray, laid_none, rules)

pub returns-in-Refused-clause-told_after : goal.returns-in-Refused-clause-told_after
unfolding told_said tray_said header_said
returns-in-Refused-clause-told_after c = search (said-told, laid_none, rules)

pub returns-in-Refused-clause-header_after : goal.returns-in-Refused-clause-header_after
unfolding told_said tray_said header_said
returns-in-Refused-clause-header_after c = search (said-header, laid_none, rules)
