-- What each body of an elaborated program assigns, and where its exposes are open.
use Rattle.std.proofs.Common.{◌≡◌, List, [], true, false, Some, refl, subst}
use Rattle.ss_ast.specs.Programs.{ProgramTree}
use Rattle.ss_typed.specs.Tree as typed
use Rattle.ss_typed.specs.Tree.{TypedTree}
use Rattle.ss_store_rules.specs.Locals.{each, targets_only, is_variable, argument_count, result_number}
use Rattle.ss_store_rules.specs.Assigned.{open_flow, open_check}
use Rattle.ss_store_rules.specs.Paths.{holds_along}
use Rattle.ss_expand_formed.specs.Laws.{core_of}
use Rattle.ss_expand_formed.specs.Locals.{HaveTargets, NameOpenExposes, HasNumbers}
use Rattle.ss_expand_formed.proofs.Shape.{assigns_own}
use Rattle.ss_expand_formed.proofs.Opens.{keeps_open}
use Rattle.ss_expand_formed.proofs.LocalsBodies.{shape_of, count_locals, count_all}

pub have_targets : (p : ProgramTree) → HaveTargets (core_of p)
have_targets p n y at =
    let h = shape_of p n y at in
    subst (λ code. each (targets_only (is_variable y)) code ≡ true) h.is_code (assigns_own y.class (argument_count y) h.first h.order (result_number y) [] 0 h.code h.count h.within h.shape)

pub name_open_exposes : (p : ProgramTree) → NameOpenExposes (core_of p)
name_open_exposes p n y at =
    let h = shape_of p n y at in
    subst (λ code. holds_along open_flow open_check code (Some (λ x t. false)) ≡ true) h.is_code (keeps_open y.class (argument_count y) h.first [] 0 h.code h.count refl h.shape (λ x t. false) refl).0

pub have_numbers : (p : TypedTree) (b : typed.BodyTree) (bs : List typed.BodyTree) → HasNumbers p b bs
have_numbers p b bs = record { outcome = count_locals p b bs; bound = count_all p b bs }
