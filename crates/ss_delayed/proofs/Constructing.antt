-- The faults of a constructor, put together.
use Rattle.std.proofs.Common.{◌≡◌, ◌++◌, ℕ, List, Option, Some, map, take, sym, ap, ◌∙◌, append_assoc}
use Rattle.ss_core.specs.declared.names.Place.{Place}
use Rattle.ss_faults.specs.declared.Fault.{Fault}
use Rattle.ss_typed.specs.declared.stmt.TypedBlock.{out-TypedBlock}
use Rattle.ss_typed.specs.declared.stmt.TypedStmt.{TypedStmt}
use Rattle.ss_typed.specs.declared.body.TypedBody.{TypedBody}
use Rattle.ss_typed.specs.Tree.{BaseTree, BodyTree, StmtTrees, TypedTree, stmt_trees}
use Rattle.ss_typed.specs.View.{block, body, stmt_of}
use Rattle.ss_paths.specs.Fields.{Numbers, field_numbers}
use Rattle.ss_paths.specs.Paths.{faults_in}
use Rattle.ss_paths.specs.Assigned.{Assigned, assigned_flow, assigned_first, assigned_by_initializers}
use Rattle.ss_delayed_rules.specs.Escapes.{NotAtAll, uses_each, uses_along}
use Rattle.ss_delayed_rules.specs.Opening.{opening, written_base}
use Rattle.ss_delayed_rules.specs.Constructors.{escapes, unassigned_faults, end_check, end_faults, arguments_of, place_of_base, undelayed_faults}
use Rattle.ss_typed.specs.Shapes.{closing_brace}
use Rattle.ss_delayed.specs.Walked.{Known, walked_in, walked_along, ended_in}
use Rattle.ss_delayed.specs.Openings.{opening_faults}
use Rattle.ss_delayed.proofs.Blocks.{block_shown}
use Rattle.ss_delayed.proofs.Walking.{walked_in_is, walked_along_is, ended_in_is}

-- the ends of a delayed constructor
pub ends_noted : (p : TypedTree) (b : BodyTree) (n : Numbers) (q : Place) (f0 f1 f2 : List Fault) (k : Known) → n ≡ field_numbers p b.class → q ≡ closing_brace b.block
    → k ≡ walked_in n b.block (Some (assigned_first p b)) → f1 ≡ f0 ++ ended_in (unassigned_faults p b.class q) n b.block (Some (assigned_first p b))
    → f2 ≡ f1 ++ unassigned_faults p b.class q k → f2 ≡ f0 ++ end_faults p b
ends_noted p b n q f0 f1 f2 k n_is q_is k_is f1_is f2_is =
    let a : Known = Some (assigned_first p b) in
    let m = field_numbers p b.class in
    let r = closing_brace b.block in
    f2_is
    ∙ ap (λ x. x ++ unassigned_faults p b.class q k) f1_is
    ∙ append_assoc f0 (ended_in (unassigned_faults p b.class q) n b.block a) (unassigned_faults p b.class q k)
    ∙ ap (λ z. f0 ++ (ended_in (unassigned_faults p b.class q) n b.block a ++ unassigned_faults p b.class q z)) k_is
    ∙ ap (λ z. f0 ++ (ended_in (unassigned_faults p b.class q) z b.block a ++ unassigned_faults p b.class q (walked_in z b.block a))) n_is
    ∙ ap (λ z. f0 ++ (ended_in (unassigned_faults p b.class z) m b.block a ++ unassigned_faults p b.class z (walked_in m b.block a))) q_is
    ∙ ap (λ x. f0 ++ (x ++ unassigned_faults p b.class r (walked_in m b.block a))) (sym (ended_in_is p b.class r m b.block a))
    ∙ ap (λ z. f0 ++ (faults_in (assigned_flow m) (end_check p b.class r) b.block a ++ unassigned_faults p b.class r z)) (sym (walked_in_is m b.block a))

pub ends_found : (p : TypedTree) (b : TypedBody) (n : Numbers) (a : Assigned) (f0 f1 f2 : List Fault) (k : Known) → n ≡ field_numbers p b.class.0 → a ≡ assigned_first p (body b)
    → k ≡ walked_in n (block b.block) (Some a) → f1 ≡ f0 ++ ended_in (unassigned_faults p b.class.0 (out-TypedBlock b.block).end) n (block b.block) (Some a)
    → f2 ≡ f1 ++ unassigned_faults p b.class.0 (out-TypedBlock b.block).end k → f2 ≡ f0 ++ end_faults p (body b)
ends_found p b n a f0 f1 f2 k n_is a_is k_is f1_is f2_is =
    ends_noted p (body b) n (out-TypedBlock b.block).end f0 f1 f2 k n_is (sym (ap closing_brace (block_shown b.block)))
    (k_is ∙ ap (λ (x : Assigned). walked_in n (block b.block) (Some x)) a_is)
    (f1_is ∙ ap (λ (x : Assigned). f0 ++ ended_in (unassigned_faults p b.class.0 (out-TypedBlock b.block).end) n (block b.block) (Some x)) a_is)
    f2_is

-- what stands before `base(..)`
pub opening_noted : (p : TypedTree) (t : ℕ) (n : Numbers) (q : Place) (ss : StmtTrees) (f0 f1 : List Fault) (k : Known) → n ≡ field_numbers p t
    → k ≡ walked_along n ss (Some (assigned_by_initializers p t)) → f1 ≡ f0 ++ unassigned_faults p t q k → f1 ≡ f0 ++ opening_faults p t q ss
opening_noted p t n q ss f0 f1 k n_is k_is f1_is =
    let a : Known = Some (assigned_by_initializers p t) in
    f1_is ∙ ap (λ z. f0 ++ unassigned_faults p t q z) (k_is ∙ ap (λ m. walked_along m ss a) n_is ∙ sym (walked_along_is (field_numbers p t) ss a))

pub opening_found : (p : TypedTree) (b : TypedBody) (n : Numbers) (a : Assigned) (q : Place) (count : ℕ) (ss : List TypedStmt) (k : Known) (f0 f1 : List Fault) → n ≡ field_numbers p b.class.0
    → a ≡ assigned_by_initializers p b.class.0 → ss ≡ (out-TypedBlock b.block).statements.items → k ≡ walked_along n (stmt_trees (map stmt_of (take count ss))) (Some a)
    → f1 ≡ f0 ++ unassigned_faults p b.class.0 q k
    → f1 ≡ f0 ++ opening_faults p b.class.0 q (stmt_trees (map stmt_of (take count (out-TypedBlock b.block).statements.items)))
opening_found p b n a q count ss k f0 f1 n_is a_is ss_is k_is f1_is =
    opening_noted p b.class.0 n q (stmt_trees (map stmt_of (take count ss))) f0 f1 k n_is
    (k_is ∙ ap (λ (x : Assigned). walked_along n (stmt_trees (map stmt_of (take count ss))) (Some x)) a_is) f1_is
    ∙ ap (λ (xs : List TypedStmt). f0 ++ opening_faults p b.class.0 q (stmt_trees (map stmt_of (take count xs)))) ss_is

-- a constructor that isn't delayed
pub undelayed_noted : (p : TypedTree) (b : BodyTree) (ss : StmtTrees) (w : Option BaseTree) (q : Place) (f0 f1 f2 : List Fault) → opening p b ≡ ss
    → f1 ≡ f0 ++ escapes (uses_along NotAtAll ss ++ uses_each NotAtAll (arguments_of (written_base b)))
    → w ≡ written_base b → q ≡ place_of_base b w → f2 ≡ f1 ++ opening_faults p b.class q ss → f2 ≡ f0 ++ undelayed_faults p b
undelayed_noted p b ss w q f0 f1 f2 ss_is f1_is w_is q_is f2_is =
    f2_is
    ∙ ap (λ x. x ++ opening_faults p b.class q ss) f1_is
    ∙ append_assoc f0 (escapes (uses_along NotAtAll ss ++ uses_each NotAtAll (arguments_of (written_base b)))) (opening_faults p b.class q ss)
    ∙ ap (λ z. f0 ++ (escapes (uses_along NotAtAll ss ++ uses_each NotAtAll (arguments_of (written_base b))) ++ opening_faults p b.class z ss)) (q_is ∙ ap (place_of_base b) w_is)
    ∙ ap (λ z. f0 ++ (escapes (uses_along NotAtAll z ++ uses_each NotAtAll (arguments_of (written_base b))) ++ opening_faults p b.class (place_of_base b (written_base b)) z)) (sym ss_is)
