-- Compound assignments, declarations, printing and `base(..)`, after the code before them.
use Rattle.std.proofs.Common.{◌≡◌, ℕ, Option, Some, None, List, [], ◌∷◌, ◌++◌, Bool, true, false, cond, refl, ap, sym, ◌∙◌, append_assoc}
use Rattle.std.specs.Global.{Box}
use Rattle.std.specs.Prelude.{◌||◌, ◌==◌}
use Rattle.std.proofs.lemmas.List.{append-nil}
use Rattle.ss_core.specs.declared.names.Place.{Place}
use Rattle.ss_core.specs.declared.names.Ty.{Ty}
use Rattle.ss_core.specs.declared.expr.Operator.{Operator}
use Rattle.ss_core.specs.Tree as core
use Rattle.ss_core.specs.Tree.{BinaryExpr, PrintStmt, CallStmt, BaseConstructor}
use Rattle.ss_typed.specs.declared.expr.TypedExpr.{TypedExpr}
use Rattle.ss_typed.specs.View.{expr}
use Rattle.ss_typed.specs.Tree.{ExprTree, BinaryOf, Arguments, DeclaratorTree}
use Rattle.ss_expand_rules.specs.Program.{number_of, Constructor}
use Rattle.ss_typed.specs.Lookups.{constructor_of, param_types_in}
use Rattle.ss_expand_rules.specs.Numbers.{plain}
use Rattle.ss_expand_rules.specs.Calls.{has_call}
use Rattle.ss_typed.specs.Shapes.{place_of}
use Rattle.ss_expand_rules.specs.Code.{Coded, after, then_code}
use Rattle.ss_expand_rules.specs.Lifting.{ElaborationContext, Source, Pure, put, Lifted, Valued, Listed, lifted, right_side, value, arguments_of}
use Rattle.ss_expand_rules.specs.Simple.{into_local, write_value, assign_settled, Settled, settle, assign, assign_after, update_settled, declared_as, declare, print_value, ready_after, base_with, base_of}
use Rattle.ss_expand_expressions.specs.Sources.{lifted_after, valued_after, listed_after}
use Rattle.ss_expand_expressions.specs.Operands.{valued_as}
use Rattle.ss_expand_lifting.specs.declared.lefts.Left.{Left}
use Rattle.ss_expand_lifting.specs.declared.lefts.Left.TheVariants as left
use Rattle.ss_expand_lifting.specs.Lefts.{IsLeft, part_tree}
use Rattle.ss_expand_lifting.specs.Made.{settled_after, settled_target, initial_of}
use Rattle.ss_expand_lifting.proofs.Joins.{lifted_as, listed_as, with_call, without_call}
use Rattle.ss_expand_lifting.proofs.Codes.{coded_as, settled_as_is, local_after, then_after, field_assigned, element_assigned, assign_other}

-- ---- operations on what is assigned

calls_of : (call more : Bool) (t e : ExprTree) → call ≡ has_call t → more ≡ has_call e → (call || more) ≡ (has_call t || has_call e)
calls_of call more t e h k = ap (λ b. b || more) h ∙ ap (λ b. has_call t || b) k

pub operation_called : (s : ElaborationContext) (p : Place) (o : Operator) (t e : ExprTree) (before : List core.StmtTree) (types : List Ty) (kept call more : Bool) (l : Lifted)
    → kept ≡ (call || more) → call ≡ has_call t → more ≡ has_call e → kept ≡ true
    → l ≡ lifted_after before (lifted s (BinaryOf p o t e) types) → l ≡ lifted_after before (right_side s (BinaryOf p o t e) types)
operation_called s p o t e before types kept call more l is h k holds made =
    made ∙ ap (lifted_after before) (sym (with_call s (BinaryOf p o t e) types (sym (calls_of call more t e h k) ∙ sym is ∙ holds)))

pub operation_plain : (s : ElaborationContext) (p : Place) (o : Operator) (t e : ExprTree) (before now : List core.StmtTree) (left right value : core.ExprTree) (types made : List Ty)
    → valued_as now left made ≡ valued_after before (valued_as [] (plain s.numbers t) types) → right ≡ plain s.numbers e → value ≡ BinaryExpr p o left right
    → (has_call t || has_call e) ≡ false
    → lifted_as now (Pure value) made ≡ lifted_after before (right_side s (BinaryOf p o t e) types)
operation_plain s p o t e before now left right value types made h k is none =
    ap (λ x. lifted_as now (Pure x) made) (is ∙ ap (BinaryExpr p o left) k)
    ∙ ap (λ (v : Valued). lifted_as v.code (Pure (BinaryExpr p o v.value (plain s.numbers e))) v.made) h
    ∙ ap (lifted_after before) (sym (without_call s (BinaryOf p o t e) types none))

pub no_calls : (kept call more : Bool) (t e : ExprTree) → kept ≡ (call || more) → call ≡ has_call t → more ≡ has_call e → kept ≡ false → (has_call t || has_call e) ≡ false
no_calls kept call more t e is h k fails = sym (calls_of call more t e h k) ∙ sym is ∙ fails

-- ---- assignments

pub assigned_after : (s : ElaborationContext) (target e : ExprTree) (before : List core.StmtTree) (types : List Ty) (kept call more : Bool) (d : Coded)
    → kept ≡ (call || more) → call ≡ has_call target → more ≡ has_call e → kept ≡ true
    → d ≡ after before (assign_after s e (settle s target types)) → d ≡ after before (assign s target e types)
assigned_after s target e before types kept call more d is h k holds made =
    made ∙ ap (λ b. after before (cond b (assign_after s e (settle s target types)) (assign_settled s target e types))) (sym (sym (calls_of call more target e h k) ∙ sym is ∙ holds))

pub assigned_as_it_is : (s : ElaborationContext) (target e : ExprTree) (before : List core.StmtTree) (types : List Ty) (kept call more : Bool) (d : Coded)
    → kept ≡ (call || more) → call ≡ has_call target → more ≡ has_call e → kept ≡ false
    → d ≡ after before (assign_settled s target e types) → d ≡ after before (assign s target e types)
assigned_as_it_is s target e before types kept call more d is h k fails made =
    made ∙ ap (λ b. after before (cond b (assign_after s e (settle s target types)) (assign_settled s target e types))) (sym (no_calls kept call more target e is h k fails))

pub update_is_after : (s : ElaborationContext) (o : Operator) (e : ExprTree) (before now : List core.StmtTree) (target : ExprTree) (made : List Ty) (t : Settled) (d : Coded)
    → settled_as_is now target made ≡ settled_after before t
    → d ≡ after now (assign_settled s target (BinaryOf (place_of target) o target e) made) → d ≡ after before (update_settled s o e t)
update_is_after s o e before now target made t d h k =
    let whole = assign_settled s t.target (BinaryOf (place_of t.target) o t.target e) t.made in
    k ∙ ap (λ (x : Settled). after x.code (assign_settled s x.target (BinaryOf (place_of x.target) o x.target e) x.made)) h
    ∙ ap (λ code. coded_as code whole.made) (append_assoc before t.code whole.code)

-- a left side that is no local gets a written value
pub value_assigned : (s : ElaborationContext) (target e : ExprTree) (types : List Ty) (l : Left) → IsLeft target l → ((p : Place) (x : ℕ) (k : Ty) → l ≡ left.Local p x k → ⊥)
    → write_value s target (value s e types) ≡ assign_settled s target e types
value_assigned s target e types (left.Local p x k) h n = absurd (n p x k refl)
value_assigned s target e types (left.Field p part f k) h n = field_assigned s target p (part_tree part) f.0 k e types h
value_assigned s target e types (left.Element p part i) h n = element_assigned s target p (part_tree part) (expr i.now) e types h
value_assigned s target e types left.Other h n = sym (assign_other s target e types h)

-- the left side that stands for another
pub kept_target : (e : ExprTree) (now : List core.StmtTree) (made : List Ty) (t u : Option (Box TypedExpr)) (s : Settled)
    → t ≡ u → settled_as_is now (settled_target e t) made ≡ s → settled_as_is now (settled_target e u) made ≡ s
kept_target e now made t u s h k = ap (λ x. settled_as_is now (settled_target e x) made) (sym h) ∙ k

-- ---- declarations

into_declared : (s : ElaborationContext) (d : DeclaratorTree) (i : Option ExprTree) (types : List Ty) → into_local d.place d.local (initial_of s d i types) ≡ declared_as s d i types
into_declared s d None types = refl
into_declared s d (Some e) types = refl

pub declared_after : (s : ElaborationContext) (d : DeclaratorTree) (i : Option ExprTree) (before now more : List core.StmtTree) (x : Source) (types made : List Ty)
    → lifted_as now x made ≡ lifted_after before (initial_of s d i types) → more ≡ now ++ put d.place d.local x ∷ [] → coded_as more made ≡ after before (declared_as s d i types)
declared_after s d i before now more x types made h k =
    ap (λ code. coded_as code made) k ∙ local_after d.place d.local before now x made (initial_of s d i types) h ∙ ap (after before) (into_declared s d i types)

-- one more of these
pub declared_next : (s : ElaborationContext) (d : DeclaratorTree) (ds : List DeclaratorTree) (before now : List core.StmtTree) (types made : List Ty)
    → coded_as now made ≡ after before (declared_as s d d.initial types) → after now (declare s ds made) ≡ after before (declare s (d ∷ ds) types)
declared_next s d ds before now types made h = then_after before now (declared_as s d d.initial types) (declare s ds) made (after now (declare s ds made)) h refl

-- ---- printing

pub printed_after : (p : Place) (line : Bool) (before now more : List core.StmtTree) (v : core.ExprTree) (made : List Ty) (w : Valued)
    → valued_as now v made ≡ valued_after before w → more ≡ now ++ PrintStmt p (Some v) line ∷ [] → coded_as more made ≡ after before (print_value p line w)
printed_after p line before now more v made w h k =
    ap (λ code. coded_as code made) k
    ∙ ap (λ (x : Valued). coded_as (x.code ++ PrintStmt p (Some x.value) line ∷ []) x.made) h
    ∙ ap (λ code. coded_as code w.made) (append_assoc before w.code (PrintStmt p (Some w.value) line ∷ []))

-- ---- `base(..)`

pub base_after : (s : ElaborationContext) (p : Place) (t n : ℕ) (before now called more : List core.StmtTree) (values : List core.ExprTree) (made : List Ty) (l : Listed)
    → listed_as now values made ≡ listed_after before l → n ≡ number_of s.program (Constructor t)
    → called ≡ now ++ CallStmt p None (BaseConstructor n) values ∷ [] → more ≡ called ++ ready_after s p t
    → coded_as more made ≡ after before (base_with s p t l)
base_after s p t n before now called more values made l h number k ready =
    let call : List core.ExprTree → core.StmtTree = λ vs. CallStmt p None (BaseConstructor (number_of s.program (Constructor t))) vs in
    ap (λ code. coded_as code made) (ready ∙ ap (λ code. code ++ ready_after s p t) (k ∙ ap (λ m. now ++ CallStmt p None (BaseConstructor m) values ∷ []) number) ∙ append_assoc now (call values ∷ []) (ready_after s p t))
    ∙ ap (λ (x : Listed). coded_as (x.code ++ call x.values ∷ ready_after s p t) x.made) h
    ∙ ap (λ code. coded_as code l.made) (append_assoc before l.code (call l.values ∷ ready_after s p t))

pub no_base : (s : ElaborationContext) (p : Place) (es : Arguments) (t u : ℕ) (before now : List core.StmtTree) (types : List Ty)
    → t ≡ u → (t == 0) ≡ true → now ≡ before ++ ready_after s p t → coded_as now types ≡ after before (base_of s p es u types)
no_base s p es t u before now types same none h =
    ap (λ code. coded_as code types) h
    ∙ ap (λ b. after before (cond b (coded_as (ready_after s p t) types) (base_with s p t (arguments_of s (param_types_in (constructor_of s.program t)) es types)))) (sym none)
    ∙ ap (λ n. after before (base_of s p es n types)) same

pub some_base : (s : ElaborationContext) (p : Place) (es : Arguments) (t u : ℕ) (before : List core.StmtTree) (types : List Ty) (d : Coded)
    → t ≡ u → (t == 0) ≡ false → d ≡ after before (base_with s p t (arguments_of s (param_types_in (constructor_of s.program t)) es types))
    → d ≡ after before (base_of s p es u types)
some_base s p es t u before types d same some h =
    h
    ∙ ap (λ b. after before (cond b (coded_as (ready_after s p t) types) (base_with s p t (arguments_of s (param_types_in (constructor_of s.program t)) es types)))) (sym some)
    ∙ ap (λ n. after before (base_of s p es n types)) same
