-- The answers of this crate, as its source names them.
use Rattle.std.specs.Prelude.{ℕ, Option}
use Rattle.runlog.specs.declared.Work.{Work}
use Rattle.runlog.specs.declared.command.Log.{Log}
use Rattle.runlog.specs.declared.hearing.Stop.{Stop}

abbrev pub Byte : Type 0
Byte = Option ℕ

abbrev pub Wanted : Type 0
Wanted = Option Log

abbrev pub Job : Type 0
Job = Option Work

abbrev pub Done : Type 0
Done = Option Stop
