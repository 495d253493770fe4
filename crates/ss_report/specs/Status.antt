-- The lines of statuses.
use Rattle.std.specs.Prelude.{ℕ, List, [], ◌++◌, codes, decimal}
use Rattle.ss_core.specs.declared.names.Kind.{Kind}
use Rattle.ss_core.specs.declared.names.Place.{Place}
use Rattle.ss_report.specs.declared.status.Status.{Status}
use Rattle.ss_report.specs.declared.status.Status.TheVariants as status
use Rattle.ss_report.specs.Texts.{kind_name, place_text}

-- the number that the process ends with
abbrev pub status_number : Status → ℕ
status_number status.Ended = 0
status_number (status.Unproved countered undecided) = 1
status_number status.BadWords = 2
status_number status.ReadFault = 3
status_number (status.SourceRefused rule at) = 4
status_number status.WriteFault = 5
status_number status.Memory = 6
status_number (status.Undecided undecided) = 7
status_number status.NotAdmitted = 8
status_number status.StepsSpent = 9
status_number (status.Failed kind at) = 10
status_number (status.Stopped at) = 11

abbrev pub refused_text : ℕ → Place → List ℕ
refused_text rule at = codes "refused " ++ decimal rule ++ codes " at " ++ place_text at

abbrev pub stopped_text : Place → List ℕ
stopped_text at = codes "stopped at " ++ place_text at

abbrev pub failed_text : Kind → Place → List ℕ
failed_text kind at = codes "failed: " ++ kind_name kind ++ codes " at " ++ place_text at

-- what is said of a status
abbrev pub status_text : Status → List ℕ
status_text status.Ended = []
status_text (status.Unproved countered undecided) = codes "unproved"
status_text status.BadWords = codes "bad words"
status_text status.ReadFault = codes "read fault"
status_text (status.SourceRefused rule at) = refused_text rule at
status_text status.WriteFault = codes "write fault"
status_text status.Memory = codes "out of memory"
status_text (status.Undecided undecided) = codes "undecided"
status_text status.NotAdmitted = codes "input not admitted"
status_text status.StepsSpent = codes "steps spent"
status_text (status.Failed kind at) = failed_text kind at
status_text (status.Stopped at) = stopped_text at
