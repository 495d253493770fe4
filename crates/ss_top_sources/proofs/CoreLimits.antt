-- The core program of an accepted source is formed, and within the limits on classes.
use Rattle.std.specs.Option.{option_or}
use Rattle.std.proofs.Common.{◌≡◌, List, [], ◌∷◌, ℕ, Option, Some, None, refl, sym, subst}
use Rattle.ss_core.specs.Chain.{IsWithinLimits}
use Rattle.ss_core.specs.Tree.{CoreTree}
use Rattle.ss_ast.specs.Tokens.{Tok}
use Rattle.ss_typed.specs.Tree.{TypedTree}
use Rattle.ss_faults.specs.declared.Fault.{Fault}
use Rattle.ss_faults.specs.First.{first_fault, earlier}
use Rattle.ss_resolver_names_rules.specs.Programs.{first_name_fault, program_faults}
use Rattle.ss_resolver_types_expressions.specs.Programs.{type_faults, first_type_fault}
use Rattle.ss_nonnull_rules.specs.Program.{null_faults}
use Rattle.ss_delayed_rules.specs.Program.{construction_faults}
use Rattle.ss_owners_rules.specs.Program.{ownership_faults}
use Rattle.ss_store_rules.specs.Formed.{IsFormed}
use Rattle.ss_resolver_limits.specs.Limits.{first_limit_fault}
use Rattle.ss_resolver_rules.specs.Programs.{resolved}
use Rattle.ss_resolver.specs.Phases.{source_fault, resolve_fault}
use Rattle.ss_expand_rules.specs.Elaborated.{elaborated}
use Rattle.ss_expand_formed.proofs.LimitsLaw.{has_limits}
use Rattle.ss_expand_formed.specs.Whole.{HasNoFault}
use Rattle.ss_expand_formed.proofs.Whole.{elaboration_is_formed}
use Rattle.ss_top_sources.specs.Phases.{of_first, typed_fault}
use Rattle.ss_top_sources.specs.Sources.{IsAccepted}

first_none : {A : Type 0} (o p : Option A) → option_or o p ≡ None → o ≡ None
first_none None p h = refl
first_none (Some a) p h = absurd (let e : Some a ≡ None = h in cc)

last_none : {A : Type 0} (o p : Option A) → option_or o p ≡ None → p ≡ None
last_none None p h = h
last_none (Some a) p h = absurd (let e : Some a ≡ None = h in cc)

no_faults : (fs : List Fault) → first_fault fs ≡ None → fs ≡ []
no_faults [] h = refl
no_faults (f ∷ fs) h = absurd (let e : Some (earlier f (first_fault fs)) ≡ None = h in cc)

no_source_faults : (source : List ℕ) (ts : List Tok) (p : TypedTree) (a : IsAccepted source ts p) → HasNoFault a.tree
no_source_faults source ts p a =
    let resolves = first_none (resolve_fault a.tree) (typed_fault (resolved a.tree)) a.faultless in
    let sources = first_none (source_fault a.tree) (first_limit_fault (resolved a.tree)) resolves in
    let phases = last_none (resolve_fault a.tree) (typed_fault (resolved a.tree)) a.faultless in
    let nulls = first_fault (null_faults (resolved a.tree)) in
    let later = last_none nulls (of_first (first_fault (construction_faults (resolved a.tree)) ∷ first_fault (ownership_faults (resolved a.tree)) ∷ [])) phases in
    record {
      names = no_faults (program_faults a.tree) (first_none (first_name_fault a.tree) (first_type_fault a.tree) sources);
      types = no_faults (type_faults a.tree) (last_none (first_name_fault a.tree) (first_type_fault a.tree) sources);
      nulls = no_faults (null_faults (resolved a.tree)) (first_none nulls _ phases);
      construction = no_faults (construction_faults (resolved a.tree)) (first_none (first_fault (construction_faults (resolved a.tree))) _ later);
      ownership = no_faults (ownership_faults (resolved a.tree)) (first_none (first_fault (ownership_faults (resolved a.tree))) None (last_none (first_fault (construction_faults (resolved a.tree))) _ later));
    }

pub accepted_formed : (source : List ℕ) (ts : List Tok) (p : TypedTree) → IsAccepted source ts p → IsFormed (elaborated p)
accepted_formed source ts p a = subst (λ q. IsFormed (elaborated q)) a.resolves (elaboration_is_formed a.tree (no_source_faults source ts p a))

no_name_faults : (source : List ℕ) (ts : List Tok) (p : TypedTree) (a : IsAccepted source ts p) → program_faults a.tree ≡ []
no_name_faults source ts p a = (no_source_faults source ts p a).names

pub accepted_limits : (source : List ℕ) (ts : List Tok) (p : TypedTree) → IsAccepted source ts p → IsWithinLimits (elaborated p).classes
accepted_limits source ts p a = subst (λ q. IsWithinLimits (elaborated q).classes) a.resolves (has_limits a.tree (no_name_faults source ts p a))

pub elaborated_limits : (source : List ℕ) (ts : List Tok) (p : TypedTree) (c : CoreTree) → IsAccepted source ts p → c ≡ elaborated p → IsWithinLimits c.classes
elaborated_limits source ts p c a e = subst (λ d. IsWithinLimits d.classes) (sym e) (accepted_limits source ts p a)
