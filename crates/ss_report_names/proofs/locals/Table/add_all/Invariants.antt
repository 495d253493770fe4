use Rattle.std.proofs.Common.{ℕ, List, ◌++◌, take, map}
use Rattle.ss_core.specs.View.{local_of}
use Rattle.ss_report_names.specs.Names.{names_of}
use Rattle.ss_report_names.specs.Tables.{IsTable}
use Rattle.ss_report_names.proofs.locals.Table.add_all.Given as goal

abbrev pub invariant-loop-local : goal.invariant-loop-local
invariant-loop-local l = (earlier : List (List ℕ)) → IsTable earlier l.fn.self → IsTable (earlier ++ names_of (map local_of (take l.local-index l.locals))) l.self
