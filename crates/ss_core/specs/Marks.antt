-- The marks of fields.
use Rattle.std.specs.Prelude.{Bool, true, false}
use Rattle.ss_core.specs.declared.names.Mark.{Mark}
use Rattle.ss_core.specs.declared.names.Mark.TheVariants as mark

abbrev pub is_rep : Mark → Bool
is_rep mark.Plain = false
is_rep mark.Rep = true
is_rep mark.Peer = false

abbrev pub is_rep_or_peer : Mark → Bool
is_rep_or_peer mark.Plain = false
is_rep_or_peer mark.Rep = true
is_rep_or_peer mark.Peer = true
