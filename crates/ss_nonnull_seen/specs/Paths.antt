-- What is done to what is known, by its parts.
use Rattle.std.specs.Prelude.{ℕ, Bool, true, false, if◌then◌else◌, Option, Some, None, option_map}
use Rattle.ss_ast.specs.declared.stmt.AssignOperator.{AssignOperator}
use Rattle.ss_ast.specs.declared.stmt.AssignOperator.TheVariants as assign
use Rattle.ss_typed.specs.Tree.{ExprTree, SimpleTree}
use Rattle.ss_paths.specs.Sets.{Set, either, without, put}
use Rattle.ss_paths.specs.Fields.{Numbers}
use Rattle.ss_paths.specs.Assigned.{assigned_by}
use Rattle.ss_nonnull_rules.specs.NonNull.{NullContext, Known, known_met, is_never_null}

-- these locals aren't null, or may be
abbrev pub told : Set → Known → Known
told g k = record { facts = either k.facts g; fields = k.fields }

abbrev pub untold : Set → Known → Known
untold g k = record { facts = without k.facts g; fields = k.fields }

abbrev pub with_fact : ℕ → Bool → Known → Known
with_fact x b k = record { facts = put x b k.facts; fields = k.fields }

abbrev pub with_left : Option ℕ → Bool → Known → Known
with_left None b k = k
with_left (Some x) b k = with_fact x b k

abbrev pub assigned_known : AssignOperator → Option ℕ → Bool → Known → Known
assigned_known assign.Set x b k = with_left x b k
assigned_known assign.Add x b k = k
assigned_known assign.Subtract x b k = k
assigned_known assign.Multiply x b k = k

abbrev pub fields_known : Numbers → SimpleTree → Known → Known
fields_known n s k = record { facts = k.facts; fields = assigned_by n s k.fields }

-- after the field at place n
abbrev pub with_begun : ℕ → Bool → Known → Known
with_begun n is_begun k = record {
  facts = k.facts;
  fields = record { own = if is_begun then put n true k.fields.own else k.fields.own; above = k.fields.above };
}

abbrev pub met_paths : Option Known → Option Known → Option Known
met_paths None l = l
met_paths (Some k) None = Some k
met_paths (Some k) (Some l) = Some (known_met k l)

-- after a loop on a test
abbrev pub left_by : Bool → Set → Option Known → Option Known
left_by is_true g k = if is_true then None else option_map (told g) k

-- a declared local starts with a value that isn't null, where this is known
abbrev pub starts_never : NullContext → Option Known → Option ExprTree → Bool
starts_never s k None = false
starts_never s k (Some e) = is_never_null s k e
