-- What each form of an expression with a call is lifted to.
use Rattle.std.proofs.Common.{◌≡◌, ◌<◌, ◌≤◌, ◌+◌, ℕ, suc, length, get_or, add-one, Bool, true, false, List, [], ◌∷◌, ◌++◌, Option, Vec, Box, Global, take, drop, refl, subst, sym, ap, ◌∙◌}
use Rattle.std.specs.Prelude.{◌||◌}
use Rattle.std.proofs.lemmas.List.{drop_all}
use Rattle.ss_core.specs.declared.names.Place.{Place}
use Rattle.ss_core.specs.declared.names.ClassId.{ClassId}
use Rattle.ss_core.specs.declared.names.BodyId.{BodyId}
use Rattle.ss_core.specs.declared.names.Ty.{Ty}
use Rattle.ss_core.specs.declared.expr.Operator.{Operator}
use Rattle.ss_core.specs.declared.expr.Expr.{Expr}
use Rattle.ss_core.specs.View as view
use Rattle.ss_core.specs.Tree as core
use Rattle.ss_core.specs.Tree.{BinaryExpr, IffExpr, NegateExpr, NotExpr, CastExpr, LocalExpr, Dispatched, Static, Base, IfStmt, NoCode}
use Rattle.ss_core.specs.View.{code_of}
use Rattle.ss_typed.specs.declared.expr.TypedExpr.{TypedExpr}
use Rattle.ss_typed.specs.declared.expr.TypedExpr.TheVariants as variant
use Rattle.ss_typed.specs.declared.expr.TypedLink.{TypedLink}
use Rattle.ss_typed.specs.declared.expr.TypedStep.{TypedStep}
use Rattle.ss_typed.specs.Tree.{ExprTree, IffOf, ImpliesOf, BinaryOf, NegateOf, NotOf, CastOf, NewOf, NewArrayOf, CallOf, StaticOf, BaseOf, Arguments, Argument, arguments}
use Rattle.ss_typed.specs.View.{expr, exprs}
use Rattle.ss_expand_rules.specs.Program as program
use Rattle.ss_typed.specs.Lookups as lookups
use Rattle.ss_expand_rules.specs.Calls.{has_call, have_call, is_lazy_operator}
use Rattle.ss_typed.specs.Shapes.{place_of}
use Rattle.ss_expand_rules.specs.Numbers.{plain}
use Rattle.ss_expand_rules.specs.Lifting.{ElaborationContext, Source, Pure, Created, CreatedArray, Called, put, Lifted, lifted, right_side, operand, lazily_in, lazily_with, in_temporary, negated, called, dispatched, operands_of, and_operands, in_temporaries, types_of_method, static_class, arguments_of, first_type, other_types, any_object, next}
use Rattle.ss_core.specs.declared.names.Ty.TheVariants as ty
use Rattle.ss_typed.specs.Parts.{link_after, linked, step_after, stepped}
use Rattle.ss_expand_expressions.specs.Sources.{lifted_after, valued_after, listed_after}
use Rattle.ss_expand_expressions.specs.Operands.{IsBegun, valued_as}
use Rattle.std.proofs.lemmas.List.{map-append}
use Rattle.ss_ast.proofs.Loops.{drop_item}
use Rattle.ss_typed.proofs.Grouping.{chain_is, path_is}
use Rattle.ss_expand_lifting.specs.Operations.{is_and, size_of, test_of, receiver_of, values_of}
use Rattle.ss_expand_lifting.proofs.Joins.{lifted_as, listed_as, with_call, unlifted_after, strict_operation, lazy_operation, negated_with, negated_without, unary_after, unary_kept, binary_kept, array_after, begun_after, lazily_after, receiver_and_arguments, listed_onto, one_more_argument, no_more_arguments}
use Rattle.ss_expand_lifting.proofs.Forms.{iff_is, implies_is, negate_is, not_is, cast_is, new_is, new_array_is, static_is, base_is}
use Rattle.ss_expand_lifting.proofs.Links.{linked_split, stepped_split}

pub iff_lifts : (s : ElaborationContext) (p : Place) (a b : Box TypedExpr Global) (e x y : TypedExpr) (before : List core.StmtTree) (r : Lifted) (types : List Ty)
    → e ≡ variant.Iff p a b → x ≡ a.value → y ≡ b.value
    → r ≡ lifted_after before (lifted s (IffOf p (expr x) (expr y)) types) → r ≡ lifted_after before (lifted s (expr e) types)
iff_lifts s p a b e x y before r types is xs ys h =
    h ∙ ap (λ z. lifted_after before (lifted s (IffOf p (expr z) (expr y)) types)) xs
    ∙ ap (λ z. lifted_after before (lifted s (IffOf p (expr a.value) (expr z)) types)) ys
    ∙ ap (λ z. lifted_after before (lifted s z types)) (sym (ap expr is ∙ iff_is p a b))

pub negate_lifts : (s : ElaborationContext) (p : Place) (a : Box TypedExpr Global) (e x : TypedExpr) (before : List core.StmtTree) (r : Lifted) (types : List Ty)
    → e ≡ variant.Negate p a → x ≡ a.value
    → r ≡ lifted_after before (lifted s (NegateOf p (expr x)) types) → r ≡ lifted_after before (lifted s (expr e) types)
negate_lifts s p a e x before r types is xs h =
    h ∙ ap (λ z. lifted_after before (lifted s (NegateOf p (expr z)) types)) xs
    ∙ ap (λ z. lifted_after before (lifted s z types)) (sym (ap expr is ∙ negate_is p a))

pub not_lifts : (s : ElaborationContext) (p : Place) (a : Box TypedExpr Global) (e x : TypedExpr) (before : List core.StmtTree) (r : Lifted) (types : List Ty)
    → e ≡ variant.Not p a → x ≡ a.value
    → r ≡ lifted_after before (lifted s (NotOf p (expr x)) types) → r ≡ lifted_after before (lifted s (expr e) types)
not_lifts s p a e x before r types is xs h =
    h ∙ ap (λ z. lifted_after before (lifted s (NotOf p (expr z)) types)) xs
    ∙ ap (λ z. lifted_after before (lifted s z types)) (sym (ap expr is ∙ not_is p a))

pub cast_lifts : (s : ElaborationContext) (p : Place) (c : ClassId) (non_null : Bool) (a : Box TypedExpr Global) (e x : TypedExpr) (w : Ty) (before now : List core.StmtTree) (v value : core.ExprTree) (types made : List Ty)
    → e ≡ variant.Cast p c non_null a → x ≡ a.value → w ≡ any_object
    → valued_as now v made ≡ valued_after before (operand s.numbers w (expr x) (lifted s (expr x)) types)
    → value ≡ CastExpr p c.0 non_null v → lifted_as now (Pure value) made ≡ lifted_after before (lifted s (expr e) types)
cast_lifts s p c non_null a e x w before now v value types made is xs any h k =
    unary_kept (CastExpr p c.0 non_null) s (expr x) w before now v value types made any h k
    ∙ ap (λ z. lifted_after before (lifted s (CastOf p c.0 non_null (expr z)) types)) xs
    ∙ ap (λ z. lifted_after before (lifted s z types)) (sym (ap expr is ∙ cast_is p c non_null a))

pub begun_there : (s : ElaborationContext) (p q : Place) (l m : Lifted) (x : ℕ) (code : List core.StmtTree) (made : List Ty)
    → q ≡ p → l ≡ m → IsBegun s.numbers q l x code made → IsBegun s.numbers p m x code made
begun_there s p q l m x code made at is h = subst (λ (z : Lifted). IsBegun s.numbers p z x code made) is (subst (λ (z : Place). IsBegun s.numbers z l x code made) at h)

pub implies_lifts : (s : ElaborationContext) (p : Place) (a b : Box TypedExpr Global) (e x y : TypedExpr) (before mid : List core.StmtTree) (r : Lifted) (types kept : List Ty) (n : ℕ) (q : Place) (goes : Bool)
    → e ≡ variant.Implies p a b → x ≡ a.value → y ≡ b.value → q ≡ p → goes ≡ false
    → IsBegun s.numbers (place_of (expr x)) (lifted_after before (negated s.numbers (expr x) (lifted s (expr x)) types)) n mid kept
    → r ≡ lazily_in q (expr y) (test_of q goes) n (valued_as mid (LocalExpr q n) kept) (right_side s (expr y))
    → r ≡ lifted_after before (lifted s (expr e) types)
implies_lifts s p a b e x y before mid r types kept n q goes is xs ys at fails begun l =
    let left = negated s.numbers (expr x) (lifted s (expr x)) types in
    let v = LocalExpr (place_of (expr x)) n in
    l ∙ ap (λ z. lazily_in z (expr y) (test_of z goes) n (valued_as mid (LocalExpr z n) kept) (right_side s (expr y))) at
    ∙ ap (λ z. lazily_in p (expr y) (test_of p z) n (valued_as mid (LocalExpr p n) kept) (right_side s (expr y))) fails
    ∙ lazily_after s.numbers p (expr x) (expr y) (test_of p false) before mid left (right_side s (expr y)) v kept n
    begun.number
    (begun_after s.numbers (place_of (expr x)) ty.Bool before (valued_as mid v kept) (lifted_after before left) left begun.kept refl)
    ∙ ap (λ z. lifted_after before (lifted s (ImpliesOf p (expr z) (expr y)) types)) xs
    ∙ ap (λ z. lifted_after before (lifted s (ImpliesOf p (expr a.value) (expr z)) types)) ys
    ∙ ap (λ z. lifted_after before (lifted s z types)) (sym (ap expr is ∙ implies_is p a b))

pub chain_lifts : (s : ElaborationContext) (p : Place) (first : Box TypedExpr Global) (links : Vec TypedLink Global) (e x : TypedExpr) (ls rest : List TypedLink) (n : ℕ) (before now : List core.StmtTree) (r : Source) (types made : List Ty)
    → e ≡ variant.Chain p first links → x ≡ first.value → ls ≡ links.items → rest ≡ drop n ls → has_call (expr e) ≡ true
    → lifted_as now r made ≡ lifted_after before (right_side s (linked p (linked p (expr x) (take n ls)) rest) types)
    → lifted_as now r made ≡ lifted_after before (lifted s (expr e) types)
chain_lifts s p first links e x ls rest n before now r types made is xs lss rs call h =
    h ∙ ap (λ z. lifted_after before (right_side s (linked p (linked p (expr x) (take n ls)) z) types)) rs
    ∙ ap (λ z. lifted_after before (right_side s z types)) (linked_split p (expr x) ls n ∙ ap (λ z. linked p (expr x) z) lss ∙ ap (λ z. linked p (expr z) links.items) xs ∙ sym (ap expr is ∙ chain_is p first links))
    ∙ ap (lifted_after before) (with_call s (expr e) types call)

pub path_lifts : (s : ElaborationContext) (p : Place) (first : Box TypedExpr Global) (steps : Vec TypedStep Global) (e x : TypedExpr) (ls rest : List TypedStep) (n : ℕ) (before now : List core.StmtTree) (r : Source) (types made : List Ty)
    → e ≡ variant.Path p first steps → x ≡ first.value → ls ≡ steps.items → rest ≡ drop n ls → has_call (expr e) ≡ true
    → lifted_as now r made ≡ lifted_after before (right_side s (stepped p (stepped p (expr x) (take n ls)) rest) types)
    → lifted_as now r made ≡ lifted_after before (lifted s (expr e) types)
path_lifts s p first steps e x ls rest n before now r types made is xs lss rs call h =
    h ∙ ap (λ z. lifted_after before (right_side s (stepped p (stepped p (expr x) (take n ls)) z) types)) rs
    ∙ ap (λ z. lifted_after before (right_side s z types)) (stepped_split p (expr x) ls n ∙ ap (λ z. stepped p (expr x) z) lss ∙ ap (λ z. stepped p (expr z) steps.items) xs ∙ sym (ap expr is ∙ path_is p first steps))
    ∙ ap (lifted_after before) (with_call s (expr e) types call)

pub new_called : (s : ElaborationContext) (p : Place) (c : ClassId) (xs : List TypedExpr) (ts : List Ty) (before now : List core.StmtTree) (vs : List core.ExprTree) (types made : List Ty)
    → ts ≡ lookups.param_types_in (lookups.constructor_of s.program c.0) → listed_as now vs made ≡ listed_after before (arguments_of s ts (arguments (exprs xs)) types)
    → lifted_as now (Created p c.0 vs) made ≡ lifted_after before (lifted s (NewOf p c.0 (arguments (exprs xs))) types)
new_called s p c xs ts before now vs types made t h =
    ap (called (Created p c.0)) h ∙ ap (λ z. lifted_after before (called (Created p c.0) (arguments_of s z (arguments (exprs xs)) types))) t

pub new_lifts : (s : ElaborationContext) (p : Place) (c : ClassId) (es : Vec TypedExpr Global) (e : TypedExpr) (xs : List TypedExpr) (before : List core.StmtTree) (r : Lifted) (types : List Ty)
    → e ≡ variant.New p c es → xs ≡ es.items
    → r ≡ lifted_after before (lifted s (NewOf p c.0 (arguments (exprs xs))) types) → r ≡ lifted_after before (lifted s (expr e) types)
new_lifts s p c es e xs before r types is list h =
    h ∙ ap (λ z. lifted_after before (lifted s (NewOf p c.0 (arguments (exprs z))) types)) list
    ∙ ap (λ z. lifted_after before (lifted s z types)) (sym (ap expr is ∙ new_is p c es))

pub new_array_lifts : (s : ElaborationContext) (p : Place) (c : ClassId) (a : Box TypedExpr Global) (e x : TypedExpr) (before : List core.StmtTree) (r : Lifted) (types : List Ty)
    → e ≡ variant.NewArray p c a → x ≡ a.value
    → r ≡ lifted_after before (lifted s (NewArrayOf p c.0 (expr x)) types) → r ≡ lifted_after before (lifted s (expr e) types)
new_array_lifts s p c a e x before r types is xs h =
    h ∙ ap (λ z. lifted_after before (lifted s (NewArrayOf p c.0 (expr z)) types)) xs
    ∙ ap (λ z. lifted_after before (lifted s z types)) (sym (ap expr is ∙ new_array_is p c a))

pub static_called : (s : ElaborationContext) (p : Place) (n : BodyId) (t : Option Ty) (xs : List TypedExpr) (ts : List Ty) (m : ℕ) (before now : List core.StmtTree) (vs : List core.ExprTree) (types made : List Ty)
    → ts ≡ lookups.param_types_in (lookups.body_at s.program n.0) → m ≡ program.number_of_written s.program n.0
    → listed_as now vs made ≡ listed_after before (arguments_of s ts (arguments (exprs xs)) types)
    → lifted_as now (Called p (Static m) vs) made ≡ lifted_after before (lifted s (StaticOf p n.0 t (arguments (exprs xs))) types)
static_called s p n t xs ts m before now vs types made q k h =
    ap (called (Called p (Static m))) h
    ∙ ap (λ z. lifted_after before (called (Called p (Static z)) (arguments_of s ts (arguments (exprs xs)) types))) k
    ∙ ap (λ z. lifted_after before (called (Called p (Static (program.number_of_written s.program n.0))) (arguments_of s z (arguments (exprs xs)) types))) q

pub static_lifts : (s : ElaborationContext) (p : Place) (n : BodyId) (t : Option Ty) (es : Vec TypedExpr Global) (e : TypedExpr) (xs : List TypedExpr) (before : List core.StmtTree) (r : Lifted) (types : List Ty)
    → e ≡ variant.Static p n t es → xs ≡ es.items
    → r ≡ lifted_after before (lifted s (StaticOf p n.0 t (arguments (exprs xs))) types) → r ≡ lifted_after before (lifted s (expr e) types)
static_lifts s p n t es e xs before r types is list h =
    h ∙ ap (λ z. lifted_after before (lifted s (StaticOf p n.0 t (arguments (exprs z))) types)) list
    ∙ ap (λ z. lifted_after before (lifted s z types)) (sym (ap expr is ∙ static_is p n t es))

pub base_called : (s : ElaborationContext) (p : Place) (m : ℕ) (t : Option Ty) (xs : List TypedExpr) (ts : List Ty) (a n : ℕ) (before now : List core.StmtTree) (vs : List core.ExprTree) (types made : List Ty)
    → a ≡ program.above_of s.program s.body.class → ts ≡ lookups.param_types_in (program.method_at s.program a m) → n ≡ program.number_in_table s.program a m
    → listed_as now vs made ≡ listed_after before (arguments_of s ts (arguments (exprs xs)) types)
    → lifted_as now (Called p (Base n) vs) made ≡ lifted_after before (lifted s (BaseOf p m t (arguments (exprs xs))) types)
base_called s p m t xs ts a n before now vs types made above q k h =
    ap (called (Called p (Base n))) h
    ∙ ap (λ z. lifted_after before (called (Called p (Base z)) (arguments_of s ts (arguments (exprs xs)) types))) (k ∙ ap (λ z. program.number_in_table s.program z m) above)
    ∙ ap (λ z. lifted_after before (called (Called p (Base (program.number_in_table s.program (program.above_of s.program s.body.class) m))) (arguments_of s z (arguments (exprs xs)) types))) (q ∙ ap (λ z. lookups.param_types_in (program.method_at s.program z m)) above)

pub base_lifts : (s : ElaborationContext) (p : Place) (m : ℕ) (t : Option Ty) (es : Vec TypedExpr Global) (e : TypedExpr) (xs : List TypedExpr) (before : List core.StmtTree) (r : Lifted) (types : List Ty)
    → e ≡ variant.Base p m t es → xs ≡ es.items
    → r ≡ lifted_after before (lifted s (BaseOf p m t (arguments (exprs xs))) types) → r ≡ lifted_after before (lifted s (expr e) types)
base_lifts s p m t es e xs before r types is list h =
    h ∙ ap (λ z. lifted_after before (lifted s (BaseOf p m t (arguments (exprs z))) types)) list
    ∙ ap (λ z. lifted_after before (lifted s z types)) (sym (ap expr is ∙ base_is p m t es))

-- ---- calls of instance methods

pub call_lifts : (s : ElaborationContext) (p : Place) (e : ExprTree) (m : ℕ) (t : Option Ty) (es : Arguments) (k : ℕ) (ts : List Ty) (kept in_arguments : Bool) (before now after : List core.StmtTree) (r : core.ExprTree) (vs : List core.ExprTree) (x : Source) (types made more : List Ty)
    → k ≡ static_class e → ts ≡ types_of_method s k m → in_arguments ≡ have_call es → kept ≡ (has_call e || in_arguments)
    → valued_as now r made ≡ valued_after before (receiver_of s in_arguments e types)
    → listed_as after vs more ≡ listed_after now (values_of s ts kept es made)
    → x ≡ Called p (Dispatched r k m) vs → lifted_as after x more ≡ lifted_after before (lifted s (CallOf p e m t es) types)
call_lifts s p e m t es k ts kept in_arguments before now after r vs x types made more class q a b h l n =
    ap (λ y. lifted_as after y more) n
    ∙ ap (called (dispatched p k m)) (receiver_and_arguments s ts e es kept in_arguments before now after r vs types made more a b h l)
    ∙ ap (λ z. lifted_after before (called (dispatched p k m) (operands_of s.numbers (Argument e es) (λ made. and_operands (operand s.numbers any_object e (lifted s e) made) (in_temporaries s z es)) types))) q
    ∙ ap (λ z. lifted_after before (called (dispatched p z m) (operands_of s.numbers (Argument e es) (λ made. and_operands (operand s.numbers any_object e (lifted s e) made) (in_temporaries s (types_of_method s z m) es)) types))) class

-- ---- the end of a lazy operation

pub lazily_ends : (p : Place) (b : ExprTree) (test : core.ExprTree → core.ExprTree) (x : ℕ) (before now inner : List core.StmtTree) (t v : core.ExprTree) (right : Place) (second r : Source) (types made : List Ty) (l : Lifted)
    → lifted_as inner second made ≡ l → t ≡ test (LocalExpr p x) → right ≡ place_of b
    → now ≡ before ++ IfStmt p t (code_of (inner ++ put right x second ∷ [])) NoCode ∷ [] → r ≡ Pure (LocalExpr p x)
    → lifted_as now r made ≡ lazily_with p b test x (valued_as before v types) l
lazily_ends p b test x before now inner t v right second r types made l h a q n k =
    ap (λ code. lifted_as code r made) n
    ∙ ap (λ y. lifted_as (before ++ IfStmt p t (code_of (inner ++ put right x second ∷ [])) NoCode ∷ []) y made) k
    ∙ ap (λ y. lifted_as (before ++ IfStmt p y (code_of (inner ++ put right x second ∷ [])) NoCode ∷ []) (Pure (LocalExpr p x)) made) a
    ∙ ap (λ y. lifted_as (before ++ IfStmt p (test (LocalExpr p x)) (code_of (inner ++ put y x second ∷ [])) NoCode ∷ []) (Pure (LocalExpr p x)) made) q
    ∙ ap (λ (y : Lifted). lifted_as (before ++ IfStmt p (test (LocalExpr p x)) (code_of (y.code ++ put (place_of b) x y.source ∷ [])) NoCode ∷ []) (Pure (LocalExpr p x)) y.made) h

-- ---- arguments one by one

pub argument_joins : (s : ElaborationContext) (es : List TypedExpr) (i : ℕ) (x : TypedExpr) (ts us : List Ty) (w : Ty) (before now : List core.StmtTree) (vs ws : List Expr) (v : Expr) (types made : List Ty)
    → i < length es → x ≡ get_or es i x → w ≡ first_type ts → us ≡ other_types ts → ws ≡ vs ++ v ∷ []
    → valued_as now (view.expr v) made ≡ valued_after before (operand s.numbers w (expr x) (lifted s (expr x)) types)
    → listed_onto now (view.exprs ws) (in_temporaries s us (arguments (exprs (drop (i + 1) es))) made) ≡ listed_onto before (view.exprs vs) (in_temporaries s ts (arguments (exprs (drop i es))) types)
argument_joins s es i x ts us w before now vs ws v types made lt g first others more h =
    ap (λ z. listed_onto now (view.exprs z) (in_temporaries s us (arguments (exprs (drop (i + 1) es))) made)) more
    ∙ ap (λ z. listed_onto now z (in_temporaries s us (arguments (exprs (drop (i + 1) es))) made)) (map-append view.expr vs (v ∷ []))
    ∙ ap (λ z. listed_onto now (view.exprs vs ++ view.expr v ∷ []) (in_temporaries s z (arguments (exprs (drop (i + 1) es))) made)) others
    ∙ ap (λ k. listed_onto now (view.exprs vs ++ view.expr v ∷ []) (in_temporaries s (other_types ts) (arguments (exprs (drop k es))) made)) (add-one i)
    ∙ one_more_argument s ts (expr x) (arguments (exprs (drop (suc i) es))) before now (view.exprs vs) (view.expr v) types made (h ∙ ap (λ z. valued_after before (operand s.numbers z (expr x) (lifted s (expr x)) types)) first)
    ∙ ap (λ z. listed_onto before (view.exprs vs) (in_temporaries s ts (arguments (exprs z)) types)) (sym (drop_item es i x lt g))

pub arguments_join : (s : ElaborationContext) (es : List TypedExpr) (i : ℕ) (ts us : List Ty) (before now : List core.StmtTree) (vs : List Expr) (types made : List Ty)
    → length es ≤ i
    → listed_onto now (view.exprs vs) (in_temporaries s us (arguments (exprs (drop i es))) made) ≡ listed_onto before [] (in_temporaries s ts (arguments (exprs es)) types)
    → listed_as now (view.exprs vs) made ≡ listed_after before (in_temporaries s ts (arguments (exprs es)) types)
arguments_join s es i ts us before now vs types made le h =
    sym (no_more_arguments now (view.exprs vs) made) ∙ ap (λ z. listed_onto now (view.exprs vs) (in_temporaries s us (arguments (exprs z)) made)) (sym (drop_all i es le)) ∙ h

-- ---- operations on an operand that stands before them

pub operation_lifts_lazily : (s : ElaborationContext) (p : Place) (o : Operator) (e b : ExprTree) (before begun mid : List core.StmtTree) (first : Source) (r : Lifted) (q : Place) (v : core.ExprTree) (types made kept : List Ty) (n : ℕ) (holds : Bool)
    → is_lazy_operator o ≡ true → lifted_as begun first made ≡ lifted_after before (right_side s e types)
    → q ≡ place_of e → n ≡ next s.numbers made → valued_as mid v kept ≡ in_temporary s.numbers q ty.Bool (lifted_as begun first made)
    → holds ≡ is_and o → r ≡ lazily_in p b (test_of p holds) n (valued_as mid v kept) (right_side s b)
    → r ≡ lifted_after before (lifted s (BinaryOf p o e b) types)
operation_lifts_lazily s p o e b before begun mid first r q v types made kept n holds lazy h place m k f l =
    l ∙ ap (λ x. lazily_in p b (test_of p x) n (valued_as mid v kept) (right_side s b)) f
    ∙ lazily_after s.numbers p e b (test_of p (is_and o)) before mid (right_side s e types) (right_side s b) v kept n
    (m ∙ ap (λ (z : Lifted). next s.numbers z.made) h)
    (begun_after s.numbers (place_of e) ty.Bool before (valued_as mid v kept) (lifted_as begun first made) (right_side s e types) (k ∙ ap (λ z. in_temporary s.numbers z ty.Bool (lifted_as begun first made)) place) h)
    ∙ ap (lifted_after before) (sym (lazy_operation s.numbers p o e b (lifted s e) (lifted s b) types lazy))

pub operation_lifts_strictly : (s : ElaborationContext) (p : Place) (o : Operator) (e b : ExprTree) (w u : Ty) (before now after : List core.StmtTree) (left right value : core.ExprTree) (types made more : List Ty)
    → is_lazy_operator o ≡ false → w ≡ any_object → u ≡ any_object → valued_as now left made ≡ valued_after before (operand s.numbers w e (lifted s e) types)
    → valued_as after right more ≡ valued_after now (operand s.numbers u b (lifted s b) made) → value ≡ BinaryExpr p o left right
    → lifted_as after (Pure value) more ≡ lifted_after before (lifted s (BinaryOf p o e b) types)
operation_lifts_strictly s p o e b w u before now after left right value types made more strict any also h k v =
    binary_kept (BinaryExpr p o) s e b w u before now after left right value types made more any also h k v
    ∙ ap (lifted_after before) (sym (strict_operation s.numbers p o e b (lifted s e) (lifted s b) types strict))

-- ---- the negation of a lazy operation's left side

pub negation_lifts : (s : ElaborationContext) (a : ExprTree) (before now : List core.StmtTree) (q : Place) (v value : core.ExprTree) (types made : List Ty)
    → has_call a ≡ true → valued_as now v made ≡ valued_after before (operand s.numbers ty.Bool a (lifted s a) types) → q ≡ place_of a → value ≡ NotExpr q v
    → lifted_as now (Pure value) made ≡ lifted_after before (negated s.numbers a (lifted s a) types)
negation_lifts s a before now q v value types made call h place k =
    unary_after (NotExpr (place_of a)) before now (operand s.numbers ty.Bool a (lifted s a) types) v value made h (k ∙ ap (λ z. NotExpr z v) place)
    ∙ ap (lifted_after before) (sym (negated_with s.numbers a (lifted s a) types call))

pub negation_stays : (s : ElaborationContext) (a : ExprTree) (before : List core.StmtTree) (q : Place) (v value : core.ExprTree) (types : List Ty)
    → has_call a ≡ false → v ≡ plain s.numbers a → q ≡ place_of a → value ≡ NotExpr q v
    → lifted_as before (Pure value) types ≡ lifted_after before (negated s.numbers a (lifted s a) types)
negation_stays s a before q v value types none h place k =
    unlifted_after before (NotExpr (place_of a) (plain s.numbers a)) value types (k ∙ ap (λ z. NotExpr z v) place ∙ ap (NotExpr (place_of a)) h)
    ∙ ap (lifted_after before) (sym (negated_without s.numbers a (lifted s a) types none))

-- ---- links and steps after an operand

pub link_lifts : (s : ElaborationContext) (p : Place) (e f : ExprTree) (l m : TypedLink) (before now : List core.StmtTree) (r : Source) (types made : List Ty)
    → l ≡ m → link_after m p e ≡ f → lifted_as now r made ≡ lifted_after before (lifted s f types) → lifted_as now r made ≡ lifted_after before (lifted s (link_after l p e) types)
link_lifts s p e f l m before now r types made is form h =
    h ∙ ap (λ z. lifted_after before (lifted s z types)) (sym (ap (λ (y : TypedLink). link_after y p e) is ∙ form))

pub step_lifts : (s : ElaborationContext) (p : Place) (e f : ExprTree) (l m : TypedStep) (before now : List core.StmtTree) (r : Source) (types made : List Ty)
    → l ≡ m → step_after m p e ≡ f → lifted_as now r made ≡ lifted_after before (lifted s f types) → lifted_as now r made ≡ lifted_after before (lifted s (step_after l p e) types)
step_lifts s p e f l m before now r types made is form h =
    h ∙ ap (λ z. lifted_after before (lifted s z types)) (sym (ap (λ (y : TypedStep). step_after y p e) is ∙ form))
