-- What is done at a point, and what is known after it.
use Rattle.std.proofs.Common.{◌≡◌, ◌++◌, ◌+◌, ◌<◌, ◌≤◌, ℕ, suc, length, map, drop, get_or, List, [], ◌∷◌, Bool, Option, Some, None, refl, sym, ap, ◌∙◌, add-one, append_assoc, append-nil}
use Rattle.std.specs.Prelude.{option_map}
use Rattle.ss_faults.specs.declared.Fault.{Fault}
use Rattle.ss_ast.specs.declared.stmt.AssignOperator.{AssignOperator}
use Rattle.ss_ast.specs.declared.stmt.AssignOperator.TheVariants as assign
use Rattle.ss_typed.specs.declared.stmt.TypedDeclarator.{TypedDeclarator}
use Rattle.ss_typed.specs.Tree.{ExprTree, LocalOf, DeclaratorTree, SimpleTree, AssignOf}
use Rattle.ss_typed.specs.View.{declarator}
use Rattle.ss_nonnull_rules.specs.NonNull.{NullContext, Known, is_never_null, starts_non_null, known_declared, known_done}
use Rattle.ss_nonnull_rules.specs.Faults.{starts, inside, wanted_if}
use Rattle.ss_core.specs.declared.names.Ty.{Ty}
use Rattle.ss_typed.specs.Types.{type_of}
use Rattle.ss_nonnull_seen.proofs.Seeing.{joined}
use Rattle.ss_typed.specs.Shapes.{local_of}
use Rattle.std.proofs.lemmas.List.{drop_all}
use Rattle.ss_ast.proofs.Loops.{drop_item}
use Rattle.ss_nonnull_seen.specs.Paths.{with_fact, assigned_known, fields_known, starts_never}
use Rattle.ss_nonnull.specs.Walks.{known_after_all, all_faults}

-- ---- declared locals

never_is : (s : NullContext) (k : Known) (o : Option ExprTree) → starts_never s (Some k) o ≡ starts_non_null s k o
never_is s k None = refl
never_is s k (Some e) = refl

pub declared_known : (s : NullContext) (d : DeclaratorTree) (b : Bool) (k l : Option Known)
    → b ≡ starts_never s k d.initial → l ≡ option_map (with_fact d.local b) k → l ≡ option_map (known_declared s d) k
declared_known s d b None l is q = q
declared_known s d b (Some k) l is q = q ∙ ap (λ (x : Bool). Some (with_fact d.local x k)) (is ∙ never_is s k d.initial)

more_known : (s : NullContext) (d : DeclaratorTree) (ds : List DeclaratorTree) (k : Option Known) → known_after_all s (d ∷ ds) k ≡ known_after_all s ds (option_map (known_declared s d) k)
more_known s d ds None = refl
more_known s d ds (Some k) = refl

none_known : (s : NullContext) (k : Option Known) → known_after_all s [] k ≡ k
none_known s None = refl
none_known s (Some k) = refl

-- a loop over declared locals
pub one_known : (s : NullContext) (list : List TypedDeclarator) (i : ℕ) (d : TypedDeclarator) (k l total : Option Known)
    → i < length list → d ≡ get_or list i d → l ≡ option_map (known_declared s (declarator d)) k
    → known_after_all s (map declarator (drop i list)) k ≡ total → known_after_all s (map declarator (drop (i + 1) list)) l ≡ total
one_known s list i d k l total within is q h =
    ap (λ (n : ℕ). known_after_all s (map declarator (drop n list)) l) (add-one i)
    ∙ ap (known_after_all s (map declarator (drop (suc i) list))) q
    ∙ sym (more_known s (declarator d) (map declarator (drop (suc i) list)) k)
    ∙ ap (λ (ds : List TypedDeclarator). known_after_all s (map declarator ds) k) (sym (drop_item list i d within is))
    ∙ h

pub one_noted : (s : NullContext) (list : List TypedDeclarator) (i : ℕ) (d : TypedDeclarator) (k l : Option Known) (f0 f1 total : List Fault)
    → i < length list → d ≡ get_or list i d → l ≡ option_map (known_declared s (declarator d)) k
    → f1 ≡ f0 ++ starts s k (declarator d).place (declarator d).ty (declarator d).initial
    → f0 ++ all_faults s (map declarator (drop i list)) k ≡ total → f1 ++ all_faults s (map declarator (drop (i + 1) list)) l ≡ total
one_noted s list i d k l f0 f1 total within is q noted h =
    let ds = map declarator (drop (suc i) list) in
    let here = starts s k (declarator d).place (declarator d).ty (declarator d).initial in
    ap (λ (n : ℕ). f1 ++ all_faults s (map declarator (drop n list)) l) (add-one i)
    ∙ ap (λ (m : Option Known). f1 ++ all_faults s ds m) q
    ∙ ap (λ (f : List Fault). f ++ all_faults s ds (option_map (known_declared s (declarator d)) k)) noted
    ∙ append_assoc f0 here (all_faults s ds (option_map (known_declared s (declarator d)) k))
    ∙ ap (λ (xs : List TypedDeclarator). f0 ++ all_faults s (map declarator xs) k) (sym (drop_item list i d within is))
    ∙ h

pub all_known : (s : NullContext) (list : List TypedDeclarator) (i : ℕ) (k total : Option Known) → length list ≤ i
    → known_after_all s (map declarator (drop i list)) k ≡ total → k ≡ total
all_known s list i k total l h =
    sym (none_known s k) ∙ ap (λ (ds : List TypedDeclarator). known_after_all s (map declarator ds) k) (sym (drop_all i list l)) ∙ h

pub all_noted : (s : NullContext) (list : List TypedDeclarator) (i : ℕ) (k : Option Known) (f total : List Fault) → length list ≤ i
    → f ++ all_faults s (map declarator (drop i list)) k ≡ total → f ≡ total
all_noted s list i k f total l h =
    sym (append-nil f) ∙ ap (λ (ds : List TypedDeclarator). f ++ all_faults s (map declarator ds) k) (sym (drop_all i list l)) ∙ h

-- ---- assignments

left_is : (s : NullContext) (l : ExprTree) (o : AssignOperator) (e : ExprTree) (k : Known)
    → fields_known s.numbers (AssignOf l o e) (assigned_known o (local_of l) (is_never_null s (Some k) e) k) ≡ known_done s (AssignOf l o e) k
left_is s (LocalOf p x t) assign.Set e k = refl
left_is s l assign.Set e k = refl
left_is s l assign.Add e k = refl
left_is s l assign.Subtract e k = refl
left_is s l assign.Multiply e k = refl

pub assigned_is : (s : NullContext) (st : SimpleTree) (l : ExprTree) (o : AssignOperator) (e : ExprTree) (x : Option ℕ) (b : Bool) (k r : Option Known)
    → st ≡ AssignOf l o e → x ≡ local_of l → b ≡ is_never_null s k e
    → r ≡ option_map (λ (m : Known). fields_known s.numbers st (assigned_known o x b m)) k → r ≡ option_map (known_done s st) k
assigned_is s st l o e x b None r st_is x_is b_is q = q
assigned_is s st l o e x b (Some k) r st_is x_is b_is q =
    q
    ∙ ap (λ (t : SimpleTree). Some (fields_known s.numbers t (assigned_known o x b k))) st_is
    ∙ ap (λ (y : Option ℕ). Some (fields_known s.numbers (AssignOf l o e) (assigned_known o y b k))) x_is
    ∙ ap (λ (c : Bool). Some (fields_known s.numbers (AssignOf l o e) (assigned_known o (local_of l) c k))) b_is
    ∙ ap Some (left_is s l o e k)
    ∙ ap (λ (t : SimpleTree). Some (known_done s t k)) (sym st_is)

-- one change after another
pub twice : (f g : Known → Known) (k l m : Option Known) → l ≡ option_map f k → m ≡ option_map g l → m ≡ option_map (λ (x : Known). g (f x)) k
twice f g None l m p q = q ∙ ap (option_map g) p
twice f g (Some k) l m p q = q ∙ ap (option_map g) p

pub assign_noted : (s : NullContext) (k : Option Known) (l e : ExprTree) (t : Option Ty) (f0 f1 f2 : List Fault)
    → t ≡ type_of l → f1 ≡ f0 ++ inside s k l → f2 ≡ f1 ++ (inside s k e ++ wanted_if s k e t) → f2 ≡ f0 ++ ((inside s k l ++ inside s k e) ++ wanted_if s k e (type_of l))
assign_noted s k l e t f0 f1 f2 is q r =
    joined f0 f1 f2 (inside s k l) (inside s k e ++ wanted_if s k e t) q r
    ∙ ap (λ (u : Option Ty). f0 ++ (inside s k l ++ (inside s k e ++ wanted_if s k e u))) is
    ∙ ap (λ (x : List Fault). f0 ++ x) (sym (append_assoc (inside s k l) (inside s k e) (wanted_if s k e (type_of l))))
