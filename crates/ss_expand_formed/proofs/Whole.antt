-- The laws on elaborations, put together as the definition of formed core programs.
use Rattle.std.proofs.Common.{◌≡◌, ℕ, Some}
use Rattle.ss_core.specs.Tree.{BodyTree}
use Rattle.ss_ast.specs.Programs.{ProgramTree}
use Rattle.ss_store_rules.specs.Typed.{body_at}
use Rattle.ss_store_rules.specs.Formed.{IsFormedBody, IsFormed}
use Rattle.ss_expand_formed.proofs.AdmissibleInvariants.{all_admissible}
use Rattle.ss_expand_formed.specs.Laws.{core_of}
use Rattle.ss_expand_formed.proofs.ChainLaw.{has_chain, nothing_beside}
use Rattle.ss_expand_formed.proofs.LimitsLaw.{has_limits}
use Rattle.ss_expand_formed.proofs.Heads.{have_classes, have_flags}
use Rattle.ss_expand_formed.proofs.TypesKnown.{have_result_types}
use Rattle.ss_expand_formed.proofs.ClassConstructors.{have_constructors}
use Rattle.ss_expand_formed.proofs.MainBody.{has_main}
use Rattle.ss_expand_formed.proofs.WrittenEnds.{all_end_in_a_return}
use Rattle.ss_expand_formed.proofs.DelayedBase.{have_delayed_base}
use Rattle.ss_expand_formed.proofs.Locals.{have_targets, name_open_exposes}
use Rattle.ss_expand_formed.proofs.Packs.{pack_at_returns}
use Rattle.ss_expand_formed.proofs.Marks.{have_fields, have_params}
use Rattle.ss_expand_formed.proofs.Requires.{require_nothing_of_this}
use Rattle.ss_expand_formed.proofs.Types.{have_locals}
use Rattle.ss_expand_formed.proofs.Tables.{have_tables}
use Rattle.ss_expand_formed.proofs.ContractsEntries.{have_entries, have_exits}
use Rattle.ss_expand_formed.proofs.Named.{have_named}
use Rattle.ss_expand_formed.proofs.Invariants.{have_invariants}
use Rattle.ss_expand_formed.proofs.AssignedLaw.{read_what_is_assigned}
use Rattle.ss_expand_formed.proofs.BeginsInOrder.{start_in_order}
use Rattle.ss_expand_formed.proofs.Beginnings.{have_opening}
use Rattle.ss_expand_formed.proofs.Keeping.{keep_this_in}
use Rattle.ss_expand_formed.proofs.WritesFirst.{write_this_first}
use Rattle.ss_expand_formed.proofs.Returns.{return_with_fields}
use Rattle.ss_expand_formed.proofs.Ready.{are_ready_with_fields}
use Rattle.ss_expand_formed.proofs.TypedLaw.{have_typed_code, expose_by_class}
use Rattle.ss_expand_formed.proofs.NullsWhole.{keep_nulls_out}
use Rattle.ss_expand_formed.specs.Whole.{HasNoFault}

module _ (p : ProgramTree) (none : HasNoFault p) where
  body : (n : ℕ) (b : BodyTree) → body_at (core_of p) n ≡ Some b → IsFormedBody (core_of p) b
  body n b at = record {
    class = have_classes p n b at;
    flags = have_flags p n b at;
    params = have_params p none.names none.ownership n b at;
    locals = have_locals p none.names n b at;
    result = have_result_types p none.names n b at;
    entry = have_entries p none.names none.types none.nulls none.ownership n b at;
    exit = have_exits p none.names none.types none.nulls none.ownership n b at;
    named = have_named p none.names none.types none.nulls none.ownership n b at;
    typed = have_typed_code p none.names none.types none.ownership n b at;
    exposed = expose_by_class p none.names none.types none.ownership n b at;
    targets = have_targets p n b at;
    returns = all_end_in_a_return p none.types n b at;
    assigned = read_what_is_assigned p none.names none.types none.ownership n b at;
    exposes = name_open_exposes p n b at;
    nulls = keep_nulls_out p none.names none.types none.nulls none.construction none.ownership n b at;
    requires_of_this = require_nothing_of_this p none.construction n b at;
    order = start_in_order p none.names none.types n b at;
    opening = have_opening p none.names none.types n b at;
    delayed_base = have_delayed_base p none.names none.construction n b at;
    delayed_this = keep_this_in p none.construction n b at;
    delayed_pack = pack_at_returns p n b at;
    delayed_fields = return_with_fields p none.names none.types none.construction n b at;
    undelayed_this = write_this_first p none.types none.construction n b at;
    undelayed_fields = are_ready_with_fields p none.types none.construction n b at;
  }

  pub elaboration_is_formed : IsFormed (core_of p)
  elaboration_is_formed = record {
    chain = has_chain p none.names;
    beside = nothing_beside p;
    limits = has_limits p none.names;
    fields = have_fields p none.names none.ownership;
    invariants = have_invariants p none.names none.types none.ownership;
    admissible = all_admissible p none.names none.ownership;
    constructors = have_constructors p;
    tables = have_tables p none.names none.nulls;
    bodies = body;
    main = has_main p none.names;
  }
