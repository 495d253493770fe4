-- Facts of the code's walk over an expression, joined. What is known at a place is the same before and after each part.
use Rattle.std.proofs.Common.{ℕ, ◌≡◌, ◌<◌, ◌≤◌, ◌+◌, ◌++◌, length, take, drop, get_or, map, List, [], ◌∷◌, Option, Some, Vec, Box, Global, refl, sym, ap, subst, ◌∙◌}
use Rattle.ss_core.specs.declared.names.Place.{Place}
use Rattle.ss_core.specs.declared.names.Ty.{Ty}
use Rattle.ss_core.specs.declared.names.Ty.TheVariants as ty
use Rattle.ss_ast.specs.declared.expr.Expr.{Expr}
use Rattle.ss_ast.specs.declared.expr.Name.{Name}
use Rattle.ss_ast.specs.declared.expr.TypeName.{TypeName}
use Rattle.ss_ast.specs.declared.expr.TypeRef.{TypeRef}
use Rattle.ss_core.specs.declared.expr.Quantifier.{Quantifier}
use Rattle.ss_core.specs.declared.expr.Operator.{Operator}
use Rattle.ss_ast.specs.declared.expr.Expr.TheViews as view
use Rattle.ss_ast.specs.declared.expr.Expr.TheVariants as plain
use Rattle.ss_ast.specs.declared.expr.Link.{Link}
use Rattle.ss_ast.specs.declared.expr.Link.TheVariants as link
use Rattle.ss_ast.specs.declared.expr.Postfix.{Postfix}
use Rattle.ss_ast.specs.declared.expr.Postfix.TheVariants as postfix
use Rattle.ss_ast.specs.Expressions.{Behind, grouped, arguments, expr_tree, name_tree, type_tree, type_name_tree}
use Rattle.ss_ast.specs.Expressions as text
use Rattle.ss_tables.specs.Statics.{static}
use Rattle.ss_typed.specs.Tree as typed
use Rattle.ss_resolver_rules.specs.Names.{within}
use Rattle.ss_resolver_rules.specs.Expressions.{expr, class_named_by}
use Rattle.ss_resolver_expressions.specs.declared.context.ResolutionContext.{ResolutionContext}
use Rattle.ss_resolver_expressions.specs.LocalContext.{LocalContext, within_member, after_member}
use Rattle.ss_ast.specs.Parts.{link_after, postfix_after}
use Rattle.ss_resolver_expressions.specs.Environments.{Part, AnOther, env_of, part, part_value}
use Rattle.ss_resolver_expressions.proofs.PartIs.{value_is}
use Rattle.ss_ast.proofs.Grouping.{grouped_more}
use Rattle.std.proofs.lemmas.List.{take_all}
use Rattle.ss_ast.proofs.Grouping as shapes
use Rattle.ss_resolver_expressions.proofs.Done.{member_left}

-- ---- the same part where as much is known

back : (s : ResolutionContext) (n m : LocalContext) (x : Part) (t : text.ExprTree) → m ≡ n → x ≡ part (env_of s n) t → x ≡ part (env_of s m) t
back s n m x t same h = h ∙ ap (λ k. part (env_of s k) t) (sym same)

here : (s : ResolutionContext) (n m : LocalContext) (y : Part) (u t : text.ExprTree) → m ≡ n → t ≡ u → y ≡ part (env_of s m) u → y ≡ part (env_of s n) t
here s n m y u t same is h = h ∙ ap (λ k. part (env_of s k) u) same ∙ ap (part (env_of s n)) (sym is)

back_tree : (s : ResolutionContext) (n m : LocalContext) (x : typed.ExprTree) (t : text.ExprTree) → m ≡ n → x ≡ expr (env_of s n) t → x ≡ expr (env_of s m) t
back_tree s n m x t same h = h ∙ ap (λ k. expr (env_of s k) t) (sym same)

here_tree : (s : ResolutionContext) (n m : LocalContext) (x : typed.ExprTree) (t : text.ExprTree) → m ≡ n → x ≡ expr (env_of s m) t → x ≡ expr (env_of s n) t
here_tree s n m x t same h = h ∙ ap (λ k. expr (env_of s k) t) same

-- ---- the arms of a walk

pub this_walked : (s : ResolutionContext) (n : LocalContext) (p : Place) (e : Expr) (y : Part)
    → e ≡ plain.This p → ((k : LocalContext) → y ≡ part (env_of s k) (text.ThisOf p)) → y ≡ part (env_of s n) (expr_tree e)
this_walked s n p e y is whole = whole n ∙ ap (part (env_of s n)) (sym (ap expr_tree is ∙ shapes.this_is p))

pub result_walked : (s : ResolutionContext) (n : LocalContext) (p : Place) (e : Expr) (y : Part)
    → e ≡ plain.Result p → ((k : LocalContext) → y ≡ part (env_of s k) (text.ResultOf p)) → y ≡ part (env_of s n) (expr_tree e)
result_walked s n p e y is whole = whole n ∙ ap (part (env_of s n)) (sym (ap expr_tree is ∙ shapes.result_is p))

pub chain_walked : (s : ResolutionContext) (n m : LocalContext) (p : Place) (first : Box Expr Global) (links : Vec Link Global) (e f : Expr) (ls : List Link) (x y : Part)
    → e ≡ view.Chain p first links → f ≡ first.value → ls ≡ links.items → m ≡ n → x ≡ part (env_of s n) (expr_tree f)
    → ((t : text.ExprTree) → x ≡ part (env_of s m) t → y ≡ part (env_of s m) (grouped p t (map link_after ls)))
    → y ≡ part (env_of s n) (expr_tree e)
chain_walked s n m p first links e f ls x y is f_is ls_is same h longer =
    let whole : expr_tree e ≡ grouped p (expr_tree f) (map link_after ls) =
    ap expr_tree is ∙ shapes.chain_is p first links
    ∙ ap (λ (v : Expr). grouped p (expr_tree v) (map link_after links.items)) (sym f_is)
    ∙ ap (λ (xs : List Link). grouped p (expr_tree f) (map link_after xs)) (sym ls_is) in
    here s n m y _ (expr_tree e) same whole (longer (expr_tree f) (back s n m x (expr_tree f) same h))

pub path_walked : (s : ResolutionContext) (n m : LocalContext) (p : Place) (first : Box Expr Global) (postfixes : Vec Postfix Global) (e f : Expr) (ls : List Postfix) (x y : Part)
    → e ≡ view.Path p first postfixes → f ≡ first.value → ls ≡ postfixes.items → m ≡ n → x ≡ part (env_of s n) (expr_tree f)
    → ((t : text.ExprTree) → x ≡ part (env_of s m) t → y ≡ part (env_of s m) (grouped p t (map postfix_after ls)))
    → y ≡ part (env_of s n) (expr_tree e)
path_walked s n m p first postfixes e f ls x y is f_is ls_is same h longer =
    let whole : expr_tree e ≡ grouped p (expr_tree f) (map postfix_after ls) =
    ap expr_tree is ∙ shapes.path_is p first postfixes
    ∙ ap (λ (v : Expr). grouped p (expr_tree v) (map postfix_after postfixes.items)) (sym f_is)
    ∙ ap (λ (xs : List Postfix). grouped p (expr_tree f) (map postfix_after xs)) (sym ls_is) in
    here s n m y _ (expr_tree e) same whole (longer (expr_tree f) (back s n m x (expr_tree f) same h))

pub paren_walked : (s : ResolutionContext) (n m : LocalContext) (p : Place) (f : Expr) (x y : Part) → m ≡ n → x ≡ part (env_of s n) (expr_tree f)
    → ((at : Place) → (t : text.ExprTree) → x ≡ part (env_of s m) t → y ≡ part (env_of s m) (text.ParenOf at t))
    → y ≡ part (env_of s n) (text.ParenOf p (expr_tree f))
paren_walked s n m p f x y same h whole =
    here s n m y (text.ParenOf p (expr_tree f)) (text.ParenOf p (expr_tree f)) same refl (whole p (expr_tree f) (back s n m x (expr_tree f) same h))

pub paren_read : (s : ResolutionContext) (n : LocalContext) (p : Place) (inner : Box Expr Global) (e f : Expr) (y : Part)
    → e ≡ view.Paren p inner → f ≡ inner.value → y ≡ part (env_of s n) (text.ParenOf p (expr_tree f)) → y ≡ part (env_of s n) (expr_tree e)
paren_read s n p inner e f y is f_is whole =
    here s n n y (text.ParenOf p (expr_tree f)) (expr_tree e) refl (ap expr_tree is ∙ shapes.paren_is p inner ∙ ap (λ (v : Expr). text.ParenOf p (expr_tree v)) (sym f_is)) whole

pub old_walked : (s : ResolutionContext) (n m : LocalContext) (p : Place) (f : Expr) (x y : Part) → m ≡ n → x ≡ part (env_of s n) (expr_tree f)
    → ((t : text.ExprTree) → x ≡ part (env_of s m) t → y ≡ part (env_of s m) (text.OldOf p t))
    → y ≡ part (env_of s n) (text.OldOf p (expr_tree f))
old_walked s n m p f x y same h whole =
    here s n m y (text.OldOf p (expr_tree f)) (text.OldOf p (expr_tree f)) same refl (whole (expr_tree f) (back s n m x (expr_tree f) same h))

pub old_read : (s : ResolutionContext) (n : LocalContext) (p : Place) (inner : Box Expr Global) (e f : Expr) (y : Part)
    → e ≡ view.Old p inner → f ≡ inner.value → y ≡ part (env_of s n) (text.OldOf p (expr_tree f)) → y ≡ part (env_of s n) (expr_tree e)
old_read s n p inner e f y is f_is whole =
    here s n n y (text.OldOf p (expr_tree f)) (expr_tree e) refl (ap expr_tree is ∙ shapes.old_is p inner ∙ ap (λ (v : Expr). text.OldOf p (expr_tree v)) (sym f_is)) whole

pub negate_walked : (s : ResolutionContext) (n : LocalContext) (p : Place) (inner : Box Expr Global) (e f : Expr) (a : typed.ExprTree) (y : Part)
    → e ≡ view.Negate p inner → f ≡ inner.value → a ≡ expr (env_of s n) (expr_tree f) → y ≡ AnOther (Some ty.Int) (typed.NegateOf p a)
    → y ≡ part (env_of s n) (expr_tree e)
negate_walked s n p inner e f a y is f_is h w =
    w ∙ ap (λ v. AnOther (Some ty.Int) (typed.NegateOf p v)) (h ∙ ap (λ (v : Expr). expr (env_of s n) (expr_tree v)) f_is)
    ∙ ap (part (env_of s n)) (sym (ap expr_tree is ∙ shapes.negate_is p inner))

pub not_walked : (s : ResolutionContext) (n : LocalContext) (p : Place) (inner : Box Expr Global) (e f : Expr) (a : typed.ExprTree) (y : Part)
    → e ≡ view.Not p inner → f ≡ inner.value → a ≡ expr (env_of s n) (expr_tree f) → y ≡ AnOther (Some ty.Bool) (typed.NotOf p a)
    → y ≡ part (env_of s n) (expr_tree e)
not_walked s n p inner e f a y is f_is h w =
    w ∙ ap (λ v. AnOther (Some ty.Bool) (typed.NotOf p v)) (h ∙ ap (λ (v : Expr). expr (env_of s n) (expr_tree v)) f_is)
    ∙ ap (part (env_of s n)) (sym (ap expr_tree is ∙ shapes.not_is p inner))

pub iff_walked : (s : ResolutionContext) (n m : LocalContext) (p : Place) (a b : Box Expr Global) (e f g : Expr) (u v : typed.ExprTree) (y : Part)
    → e ≡ view.Iff p a b → f ≡ a.value → g ≡ b.value → m ≡ n → u ≡ expr (env_of s n) (expr_tree f) → v ≡ expr (env_of s m) (expr_tree g)
    → y ≡ AnOther (Some ty.Bool) (typed.IffOf p u v)
    → y ≡ part (env_of s n) (expr_tree e)
iff_walked s n m p a b e f g u v y is f_is g_is same h i w =
    w ∙ ap (λ u. AnOther (Some ty.Bool) (typed.IffOf p u v)) (h ∙ ap (λ (v : Expr). expr (env_of s n) (expr_tree v)) f_is)
    ∙ ap (λ v. AnOther (Some ty.Bool) (typed.IffOf p (expr (env_of s n) (expr_tree a.value)) v)) (here_tree s n m v (expr_tree g) same i ∙ ap (λ (v : Expr). expr (env_of s n) (expr_tree v)) g_is)
    ∙ ap (part (env_of s n)) (sym (ap expr_tree is ∙ shapes.iff_is p a b))

pub implies_walked : (s : ResolutionContext) (n m : LocalContext) (p : Place) (a b : Box Expr Global) (e f g : Expr) (u v : typed.ExprTree) (y : Part)
    → e ≡ view.Implies p a b → f ≡ a.value → g ≡ b.value → m ≡ n → u ≡ expr (env_of s n) (expr_tree f) → v ≡ expr (env_of s m) (expr_tree g)
    → y ≡ AnOther (Some ty.Bool) (typed.ImpliesOf p u v)
    → y ≡ part (env_of s n) (expr_tree e)
implies_walked s n m p a b e f g u v y is f_is g_is same h i w =
    w ∙ ap (λ u. AnOther (Some ty.Bool) (typed.ImpliesOf p u v)) (h ∙ ap (λ (v : Expr). expr (env_of s n) (expr_tree v)) f_is)
    ∙ ap (λ v. AnOther (Some ty.Bool) (typed.ImpliesOf p (expr (env_of s n) (expr_tree a.value)) v)) (here_tree s n m v (expr_tree g) same i ∙ ap (λ (v : Expr). expr (env_of s n) (expr_tree v)) g_is)
    ∙ ap (part (env_of s n)) (sym (ap expr_tree is ∙ shapes.implies_is p a b))

pub cast_read : (s : ResolutionContext) (n : LocalContext) (p : Place) (c : TypeRef) (inner : Box Expr Global) (e f : Expr) (y : Part)
    → e ≡ view.Cast p c inner → f ≡ inner.value → y ≡ part (env_of s n) (text.CastOf p (type_tree c) (expr_tree f)) → y ≡ part (env_of s n) (expr_tree e)
cast_read s n p c inner e f y is f_is whole =
    whole
    ∙ ap (λ (v : Expr). part (env_of s n) (text.CastOf p (type_tree c) (expr_tree v))) f_is
    ∙ ap (part (env_of s n)) (sym (ap expr_tree is ∙ shapes.cast_is p c inner))

pub new_read : (s : ResolutionContext) (n : LocalContext) (p : Place) (name : Name) (es : Vec Expr Global) (e : Expr) (fs : List Expr) (y : Part)
    → e ≡ view.New p name es → fs ≡ es.items → y ≡ part (env_of s n) (text.NewOf p (name_tree name) (arguments (map expr_tree fs))) → y ≡ part (env_of s n) (expr_tree e)
new_read s n p name es e fs y is fs_is whole =
    whole
    ∙ ap (λ (xs : List Expr). part (env_of s n) (text.NewOf p (name_tree name) (arguments (map expr_tree xs)))) fs_is
    ∙ ap (part (env_of s n)) (sym (ap expr_tree is ∙ shapes.new_is p name es))

pub new_array_read : (s : ResolutionContext) (n : LocalContext) (p q : Place) (c : TypeName) (size : Box Expr Global) (e f : Expr) (y : Part)
    → e ≡ view.NewArray p q c size → f ≡ size.value → y ≡ part (env_of s n) (text.NewArrayOf p q (type_name_tree c) (expr_tree f)) → y ≡ part (env_of s n) (expr_tree e)
new_array_read s n p q c size e f y is f_is whole =
    whole
    ∙ ap (λ (v : Expr). part (env_of s n) (text.NewArrayOf p q (type_name_tree c) (expr_tree v))) f_is
    ∙ ap (part (env_of s n)) (sym (ap expr_tree is ∙ shapes.new_array_is p q c size))

pub quantified_walked : (s : ResolutionContext) (n m k : LocalContext) (p : Place) (q : Quantifier) (name : Name) (low high member : Box Expr Global) (e f g h : Expr) (u v w : typed.ExprTree) (y : Part)
    → e ≡ view.Quantified p q name low high member → f ≡ low.value → g ≡ high.value → h ≡ member.value → m ≡ n → k ≡ m
    → u ≡ expr (env_of s n) (expr_tree f) → v ≡ expr (env_of s m) (expr_tree g) → w ≡ expr (within (env_of s k) (name_tree name)) (expr_tree h)
    → y ≡ AnOther (Some ty.Bool) (typed.QuantifiedOf p q (name_tree name).text u v w)
    → y ≡ part (env_of s n) (expr_tree e)
quantified_walked s n m k p q name low high member e f g h u v w y is f_is g_is h_is first second i j l whole =
    let made : typed.ExprTree → typed.ExprTree → typed.ExprTree → Part = λ a b c. AnOther (Some ty.Bool) (typed.QuantifiedOf p q (name_tree name).text a b c) in
    let x : Expr → typed.ExprTree = λ a. expr (env_of s n) (expr_tree a) in
    let inside : Expr → typed.ExprTree = λ a. expr (within (env_of s n) (name_tree name)) (expr_tree a) in
    whole
    ∙ ap (λ a. made a v w) (i ∙ ap x f_is)
    ∙ ap (λ b. made (x low.value) b w) (here_tree s n m v (expr_tree g) first j ∙ ap x g_is)
    ∙ ap (made (x low.value) (x high.value)) (l ∙ ap (λ a. expr (within (env_of s a) (name_tree name)) (expr_tree h)) (second ∙ first) ∙ ap inside h_is)
    ∙ ap (part (env_of s n)) (sym (ap expr_tree is ∙ shapes.quantified_is p q name low high member))

-- ---- an expression whose value is read, and the member of a quantifier

pub resolved : (s : ResolutionContext) (n m : LocalContext) (e : Expr) (x : Part) (y : typed.ExprTree)
    → m ≡ n → x ≡ part (env_of s n) (expr_tree e) → y ≡ part_value (env_of s m) x → y ≡ expr (env_of s n) (expr_tree e)
resolved s n m e x y same h w =
    w ∙ ap (λ k. part_value (env_of s k) x) same ∙ ap (part_value (env_of s n)) h ∙ value_is (env_of s n) (expr_tree e)

pub member_resolved : (s : ResolutionContext) (n m : LocalContext) (name : Name) (letters : List ℕ) (e : Expr) (y : typed.ExprTree)
    → letters ≡ (name_tree name).text → m ≡ within_member n letters → y ≡ expr (env_of s m) (expr_tree e) → y ≡ expr (within (env_of s n) (name_tree name)) (expr_tree e)
member_resolved s n m name letters e y is entered h = h ∙ ap (λ k. expr (env_of s k) (expr_tree e)) (entered ∙ ap (within_member n) is)

pub member_kept : (n m k j : LocalContext) (letters : List ℕ) → m ≡ within_member n letters → k ≡ m → j ≡ after_member k → j ≡ n
member_kept n m k j letters entered same done = done ∙ ap after_member (same ∙ entered) ∙ member_left n letters

-- ---- what stands after

-- a link, which gives what it makes a type
linked : (s : ResolutionContext) (n : LocalContext) (u v : text.ExprTree) (y : typed.ExprTree) (k : Option Ty) → u ≡ v → AnOther (static (env_of s n).scope v) (expr (env_of s n) v) ≡ part (env_of s n) v
    → k ≡ static (env_of s n).scope u → y ≡ expr (env_of s n) v → AnOther k y ≡ part (env_of s n) u
linked s n u v y k is other known made =
    ap (λ t. AnOther t y) (known ∙ ap (static (env_of s n).scope) is) ∙ ap (AnOther (static (env_of s n).scope v)) made ∙ other ∙ ap (part (env_of s n)) (sym is)

pub operation_walked : (s : ResolutionContext) (n m : LocalContext) (p : Place) (o : Operator) (b : Expr) (l : Link) (right y : typed.ExprTree) (x : Part) (k : Option Ty) (t : text.ExprTree)
    → l ≡ link.Operation o b → m ≡ n → right ≡ expr (env_of s n) (expr_tree b)
    → ((t u : text.ExprTree) → x ≡ part (env_of s m) t → right ≡ expr (env_of s m) u → y ≡ expr (env_of s m) (text.BinaryOf p o t u))
    → k ≡ static (env_of s n).scope (link_after l p t) → x ≡ part (env_of s n) t → AnOther k y ≡ part (env_of s n) (link_after l p t)
operation_walked s n m p o b l right y x k t is same r whole known h =
    let made = whole t (expr_tree b) (back s n m x t same h) (back_tree s n m right (expr_tree b) same r) in
    linked s n (link_after l p t) (text.BinaryOf p o t (expr_tree b)) y k (ap (λ (l : Link). link_after l p t) is ∙ shapes.operation_is o b p t) refl known
    (here_tree s n m y (text.BinaryOf p o t (expr_tree b)) same made)

pub is_walked : (s : ResolutionContext) (n : LocalContext) (p : Place) (c : TypeRef) (l : Link) (y : typed.ExprTree) (k : Option Ty) (t : text.ExprTree)
    → l ≡ link.Is c → k ≡ static (env_of s n).scope (link_after l p t) → y ≡ expr (env_of s n) (text.IsOf p t (type_tree c)) → AnOther k y ≡ part (env_of s n) (link_after l p t)
is_walked s n p c l y k t is known made =
    linked s n (link_after l p t) (text.IsOf p t (type_tree c)) y k (ap (λ (l : Link). link_after l p t) is ∙ shapes.is_is c p t) refl known made

pub as_walked : (s : ResolutionContext) (n : LocalContext) (p : Place) (c : TypeRef) (l : Link) (y : typed.ExprTree) (k : Option Ty) (t : text.ExprTree)
    → l ≡ link.As c → k ≡ static (env_of s n).scope (link_after l p t) → y ≡ expr (env_of s n) (text.AsOf p t (type_tree c)) → AnOther k y ≡ part (env_of s n) (link_after l p t)
as_walked s n p c l y k t is known made =
    linked s n (link_after l p t) (text.AsOf p t (type_tree c)) y k (ap (λ (l : Link). link_after l p t) is ∙ shapes.as_is c p t) refl known made

pub member_walked : (s : ResolutionContext) (n : LocalContext) (p : Place) (name : Name) (l : Postfix) (y : Part) (t : text.ExprTree)
    → l ≡ postfix.Member name → y ≡ part (env_of s n) (text.MemberOf p t (name_tree name)) → y ≡ part (env_of s n) (postfix_after l p t)
member_walked s n p name l y t is h = h ∙ ap (part (env_of s n)) (sym (ap (λ (l : Postfix). postfix_after l p t) is ∙ shapes.member_is name p t))

pub element_walked : (s : ResolutionContext) (n m : LocalContext) (p : Place) (b : Expr) (l : Postfix) (index : typed.ExprTree) (x y : Part) (t : text.ExprTree)
    → l ≡ postfix.Element b → m ≡ n → index ≡ expr (env_of s n) (expr_tree b)
    → ((t u : text.ExprTree) → x ≡ part (env_of s m) t → index ≡ expr (env_of s m) u → y ≡ part (env_of s m) (text.ElementOf p t u))
    → x ≡ part (env_of s n) t → y ≡ part (env_of s n) (postfix_after l p t)
element_walked s n m p b l index x y t is same r whole h =
    here s n m y (text.ElementOf p t (expr_tree b)) (postfix_after l p t) same (ap (λ (l : Postfix). postfix_after l p t) is ∙ shapes.element_is b p t)
    (whole t (expr_tree b) (back s n m x t same h) (back_tree s n m index (expr_tree b) same r))

pub call_walked : (s : ResolutionContext) (n m : LocalContext) (p : Place) (es : Vec Expr Global) (fs : List Expr) (l : Postfix) (values : List typed.ExprTree) (classes : List ℕ) (x y : Part) (t : text.ExprTree)
    → l ≡ postfix.Call es → fs ≡ es.items → m ≡ n → values ≡ map (expr (env_of s n)) (map expr_tree fs) → classes ≡ map (class_named_by (env_of s n)) (map expr_tree fs)
    → ((t : text.ExprTree) → (ts : List text.ExprTree) → x ≡ part (env_of s m) t → values ≡ map (expr (env_of s m)) ts → classes ≡ map (class_named_by (env_of s m)) ts → y ≡ part (env_of s m) (text.CallOf p t (arguments ts)))
    → x ≡ part (env_of s n) t → y ≡ part (env_of s n) (postfix_after l p t)
call_walked s n m p es fs l values classes x y t is fs_is same v c whole h =
    let ts = map expr_tree fs in
    here s n m y (text.CallOf p t (arguments ts)) (postfix_after l p t) same
    (ap (λ (l : Postfix). postfix_after l p t) is ∙ shapes.call_is es p t ∙ ap (λ (xs : List Expr). text.CallOf p t (arguments (map expr_tree xs))) (sym fs_is))
    (whole t ts (back s n m x t same h) (v ∙ ap (λ k. map (expr (env_of s k)) ts) (sym same)) (c ∙ ap (λ k. map (class_named_by (env_of s k)) ts) (sym same)))

-- ---- loops

-- one more part after those that a loop has gone over
pub one_more_part : {X : Type 0} (behind : X → Behind) (s : ResolutionContext) (n m : LocalContext) (p : Place) (xs : List X) (i : ℕ) (item : X) (first x y : Part)
    → m ≡ n → i < length xs → item ≡ get_or xs i item
    → ((t : text.ExprTree) → x ≡ part (env_of s m) t → y ≡ part (env_of s m) (behind item p t))
    → ((t : text.ExprTree) → first ≡ part (env_of s n) t → x ≡ part (env_of s n) (grouped p t (map behind (take i xs))))
    → (t : text.ExprTree) → first ≡ part (env_of s n) t → y ≡ part (env_of s n) (grouped p t (map behind (take (i + 1) xs)))
one_more_part behind s n m p xs i item first x y same l g longer so_far t h =
    let done : text.ExprTree = grouped p t (map behind (take i xs)) in
    here s n m y (behind item p done) (grouped p t (map behind (take (i + 1) xs))) same (grouped_more behind p t xs i item l g)
    (longer done (back s n m x done same (so_far t h)))

-- where all are gone over
pub all_parts : {X : Type 0} (behind : X → Behind) (s : ResolutionContext) (n : LocalContext) (p : Place) (xs : List X) (i : ℕ) (first x : Part) → length xs ≤ i
    → ((t : text.ExprTree) → first ≡ part (env_of s n) t → x ≡ part (env_of s n) (grouped p t (map behind (take i xs))))
    → (t : text.ExprTree) → first ≡ part (env_of s n) t → x ≡ part (env_of s n) (grouped p t (map behind xs))
all_parts {X = X} behind s n p xs i first x l so_far t h = so_far t h ∙ ap (λ (ys : List X). part (env_of s n) (grouped p t (map behind ys))) (take_all i xs l)
