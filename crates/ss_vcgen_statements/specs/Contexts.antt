-- Locals at the position of a builder.
use Rattle.std.specs.Prelude.{Option, Some, None}
use Rattle.ss_terms.specs.declared.forms.TermId.{TermId}

-- the term of a local, or this one where it has none
abbrev pub or_else : TermId → Option TermId → TermId
or_else t None = t
or_else t (Some u) = u
