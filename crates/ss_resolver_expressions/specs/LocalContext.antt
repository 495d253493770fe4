-- What is known at a place within a body, as the code holds it: the names in scope, and their numbers.
use Rattle.std.specs.Prelude.{ℕ, ◌+◌, ◌-◌, List, Some, false, option_map}
use Rattle.ss_core.specs.declared.names.Ty.{Ty}
use Rattle.ss_core.specs.declared.names.Ty.TheVariants as ty
use Rattle.ss_tables.specs.Scopes.{Local}
use Rattle.ss_tables_scopes.specs.Names.{Names}
use Rattle.ss_tables.specs.Named.{Scoped, no_names}
use Rattle.ss_tables.specs.Named as scoped
use Rattle.ss_resolver_rules.specs.declared.known.Known.{Known}
use Rattle.ss_resolver_rules.specs.declared.known.Known.TheVariants.{Variable, BoundName}

pub record LocalContext : Type 0 where
  pub names : Names
  pub numbered : Scoped Known
  -- the number of the next local
  pub next : ℕ
  -- how many quantifiers stand around
  pub bound : ℕ

abbrev pub no_locals : ℕ → LocalContext
no_locals first = record { names = no_names; numbered = no_names; next = first; bound = 0 }

abbrev pub entered : LocalContext → LocalContext
entered a = record a { names = scoped.entered a.names; numbered = scoped.entered a.numbered }

abbrev pub left : LocalContext → LocalContext
left a = record a { names = scoped.left a.names; numbered = scoped.left a.numbered }

-- one more local, of the type that it has where its name stands
abbrev pub with_local : LocalContext → List ℕ → Local → Ty → LocalContext
with_local a n l t = record a { names = scoped.with_name a.names n l; numbered = scoped.with_name a.numbered n (Variable a.next t); next = a.next + 1 }

abbrev pub bound_local : Local
bound_local = record { ty = Some ty.Int; is_param = false }

-- within a quantifier, in its member
abbrev pub within_member : LocalContext → List ℕ → LocalContext
within_member a n = record {
  names = scoped.with_name (scoped.entered a.names) n bound_local;
  numbered = scoped.with_name (scoped.entered a.numbered) n (BoundName a.bound);
  next = a.next;
  bound = a.bound + 1;
}

-- after it
abbrev pub after_member : LocalContext → LocalContext
after_member a = record { names = scoped.left a.names; numbered = scoped.left a.numbered; next = a.next; bound = a.bound - 1 }

-- this many more locals, in scopes of their own
abbrev pub past : LocalContext → ℕ → LocalContext
past a count = record a { next = a.next + count }
