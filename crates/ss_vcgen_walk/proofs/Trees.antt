-- The trees of expressions, by their forms.
use Rattle.std.proofs.Common.{◌≡◌, ℕ, ℤ, Bool, Box, String, Global, sym, ap, ◌∙◌}
use Rattle.std.specs.Prelude.{string_bytes}
use Rattle.ss_core.specs.declared.names.Place.{Place}
use Rattle.ss_core.specs.declared.names.ClassId.{ClassId}
use Rattle.ss_core.specs.declared.expr.Quantifier.{Quantifier}
use Rattle.ss_core.specs.declared.expr.StateWord.{StateWord}
use Rattle.ss_core.specs.declared.expr.OwnerTest.{OwnerTest}
use Rattle.ss_core.specs.declared.expr.DefaultCondition.{DefaultCondition}
use Rattle.ss_core.specs.declared.expr.Expr.{Expr}
use Rattle.ss_core.specs.declared.expr.Expr.TheFolds.{fold-roll-Expr}
use Rattle.ss_core.specs.declared.expr.Expr.TheVariants.{Int, rolls-Int, Bool as BoolVariant, rolls-Bool, Null, rolls-Null, Local, rolls-Local, Iff, rolls-Iff, Implies, rolls-Implies, Negate, rolls-Negate, Not, rolls-Not, Cast, rolls-Cast, Old, rolls-Old, Quantified, rolls-Quantified, State, rolls-State, Owners, rolls-Owners, Default, rolls-Default}
use Rattle.ss_core.specs.declared.expr.Expr.TheOpen as shape
use Rattle.ss_core.specs.Tree.{ExprTree, IntExpr, BoolExpr, NullExpr, LocalExpr, NegateExpr, NotExpr, ImpliesExpr, IffExpr, CastExpr, OldExpr, QuantifiedExpr, StateExpr, OwnersExpr, DefaultExpr}
use Rattle.ss_core.specs.View.{Behind, expr_step, link_step, step_step, expr, word_tree, owners_tree, default_tree}

pub int_is : (p : Place) (n : ℤ) → expr (Int p n) ≡ IntExpr p n
int_is p n = ap expr (sym (rolls-Int p n)) ∙ fold-roll-Expr ExprTree Behind Behind expr_step link_step step_step (shape.Int p n)

pub bool_is : (p : Place) (b : Bool) → expr (BoolVariant p b) ≡ BoolExpr p b
bool_is p b = ap expr (sym (rolls-Bool p b)) ∙ fold-roll-Expr ExprTree Behind Behind expr_step link_step step_step (shape.Bool p b)

pub null_is : (p : Place) → expr (Null p) ≡ NullExpr p
null_is p = ap expr (sym (rolls-Null p)) ∙ fold-roll-Expr ExprTree Behind Behind expr_step link_step step_step (shape.Null p)

pub local_is : (p : Place) (x : ℕ) → expr (Local p x) ≡ LocalExpr p x
local_is p x = ap expr (sym (rolls-Local p x)) ∙ fold-roll-Expr ExprTree Behind Behind expr_step link_step step_step (shape.Local p x)

pub iff_is : (p : Place) (a b : Box Expr Global) → expr (Iff p a b) ≡ IffExpr p (expr a.value) (expr b.value)
iff_is p a b = ap expr (sym (rolls-Iff p a b)) ∙ fold-roll-Expr ExprTree Behind Behind expr_step link_step step_step (shape.Iff p a b)

pub implies_is : (p : Place) (a b : Box Expr Global) → expr (Implies p a b) ≡ ImpliesExpr p (expr a.value) (expr b.value)
implies_is p a b = ap expr (sym (rolls-Implies p a b)) ∙ fold-roll-Expr ExprTree Behind Behind expr_step link_step step_step (shape.Implies p a b)

pub negate_is : (p : Place) (a : Box Expr Global) → expr (Negate p a) ≡ NegateExpr p (expr a.value)
negate_is p a = ap expr (sym (rolls-Negate p a)) ∙ fold-roll-Expr ExprTree Behind Behind expr_step link_step step_step (shape.Negate p a)

pub not_is : (p : Place) (a : Box Expr Global) → expr (Not p a) ≡ NotExpr p (expr a.value)
not_is p a = ap expr (sym (rolls-Not p a)) ∙ fold-roll-Expr ExprTree Behind Behind expr_step link_step step_step (shape.Not p a)

pub cast_is : (p : Place) (t : ClassId) (non_null : Bool) (a : Box Expr Global) → expr (Cast p t non_null a) ≡ CastExpr p t.0 non_null (expr a.value)
cast_is p t non_null a = ap expr (sym (rolls-Cast p t non_null a)) ∙ fold-roll-Expr ExprTree Behind Behind expr_step link_step step_step (shape.Cast p t non_null a)

pub old_is : (p : Place) (a : Box Expr Global) → expr (Old p a) ≡ OldExpr p (expr a.value)
old_is p a = ap expr (sym (rolls-Old p a)) ∙ fold-roll-Expr ExprTree Behind Behind expr_step link_step step_step (shape.Old p a)

pub quantified_is : (p : Place) (q : Quantifier) (n : String Global) (low high a : Box Expr Global) → expr (Quantified p q n low high a) ≡ QuantifiedExpr p q (string_bytes n) (expr low.value) (expr high.value) (expr a.value)
quantified_is p q n low high a = ap expr (sym (rolls-Quantified p q n low high a)) ∙ fold-roll-Expr ExprTree Behind Behind expr_step link_step step_step (shape.Quantified p q n low high a)

pub state_is : (p : Place) (w : StateWord) (a : Box Expr Global) → expr (State p w a) ≡ StateExpr p (word_tree w) (expr a.value)
state_is p w a = ap expr (sym (rolls-State p w a)) ∙ fold-roll-Expr ExprTree Behind Behind expr_step link_step step_step (shape.State p w a)

pub owners_is : (p : Place) (w : OwnerTest) (a b : Box Expr Global) → expr (Owners p w a b) ≡ OwnersExpr p (owners_tree w) (expr a.value) (expr b.value)
owners_is p w a b = ap expr (sym (rolls-Owners p w a b)) ∙ fold-roll-Expr ExprTree Behind Behind expr_step link_step step_step (shape.Owners p w a b)

pub default_is : (p : Place) (d : DefaultCondition) → expr (Default p d) ≡ DefaultExpr p (default_tree d)
default_is p d = ap expr (sym (rolls-Default p d)) ∙ fold-roll-Expr ExprTree Behind Behind expr_step link_step step_step (shape.Default p d)

-- ---- with the operands as they are found

pub iff_so : (e : Expr) (p : Place) (a b : Box Expr Global) (x y : Expr) → e ≡ Iff p a b → x ≡ a.value → y ≡ b.value → IffExpr p (expr x) (expr y) ≡ expr e
iff_so e p a b x y is h k = ap (λ u. IffExpr p (expr u) (expr y)) h ∙ ap (λ u. IffExpr p (expr a.value) (expr u)) k ∙ sym (iff_is p a b) ∙ ap expr (sym is)

pub implies_so : (e : Expr) (p : Place) (a b : Box Expr Global) (x y : Expr) → e ≡ Implies p a b → x ≡ a.value → y ≡ b.value → ImpliesExpr p (expr x) (expr y) ≡ expr e
implies_so e p a b x y is h k = ap (λ u. ImpliesExpr p (expr u) (expr y)) h ∙ ap (λ u. ImpliesExpr p (expr a.value) (expr u)) k ∙ sym (implies_is p a b) ∙ ap expr (sym is)

pub owners_so : (e : Expr) (p : Place) (w : OwnerTest) (a b : Box Expr Global) (x y : Expr) → e ≡ Owners p w a b → x ≡ a.value → y ≡ b.value → OwnersExpr p (owners_tree w) (expr x) (expr y) ≡ expr e
owners_so e p w a b x y is h k = ap (λ u. OwnersExpr p (owners_tree w) (expr u) (expr y)) h ∙ ap (λ u. OwnersExpr p (owners_tree w) (expr a.value) (expr u)) k ∙ sym (owners_is p w a b) ∙ ap expr (sym is)

pub negate_so : (e : Expr) (p : Place) (a : Box Expr Global) (x : Expr) → e ≡ Negate p a → x ≡ a.value → NegateExpr p (expr x) ≡ expr e
negate_so e p a x is h = ap (λ u. NegateExpr p (expr u)) h ∙ sym (negate_is p a) ∙ ap expr (sym is)

pub not_so : (e : Expr) (p : Place) (a : Box Expr Global) (x : Expr) → e ≡ Not p a → x ≡ a.value → NotExpr p (expr x) ≡ expr e
not_so e p a x is h = ap (λ u. NotExpr p (expr u)) h ∙ sym (not_is p a) ∙ ap expr (sym is)

pub cast_so : (e : Expr) (p : Place) (t : ClassId) (non_null : Bool) (a : Box Expr Global) (x : Expr) → e ≡ Cast p t non_null a → x ≡ a.value → CastExpr p t.0 non_null (expr x) ≡ expr e
cast_so e p t non_null a x is h = ap (λ u. CastExpr p t.0 non_null (expr u)) h ∙ sym (cast_is p t non_null a) ∙ ap expr (sym is)

pub old_so : (e : Expr) (p : Place) (a : Box Expr Global) (x : Expr) → e ≡ Old p a → x ≡ a.value → OldExpr p (expr x) ≡ expr e
old_so e p a x is h = ap (λ u. OldExpr p (expr u)) h ∙ sym (old_is p a) ∙ ap expr (sym is)

pub state_so : (e : Expr) (p : Place) (w : StateWord) (a : Box Expr Global) (x : Expr) → e ≡ State p w a → x ≡ a.value → StateExpr p (word_tree w) (expr x) ≡ expr e
state_so e p w a x is h = ap (λ u. StateExpr p (word_tree w) (expr u)) h ∙ sym (state_is p w a) ∙ ap expr (sym is)

pub quantified_so : (e : Expr) (p : Place) (q : Quantifier) (n : String Global) (low high a : Box Expr Global) (x y z : Expr) → e ≡ Quantified p q n low high a → x ≡ low.value → y ≡ high.value → z ≡ a.value →
    QuantifiedExpr p q (string_bytes n) (expr x) (expr y) (expr z) ≡ expr e
quantified_so e p q n low high a x y z is h k l =
    ap (λ u. QuantifiedExpr p q (string_bytes n) (expr u) (expr y) (expr z)) h
    ∙ ap (λ u. QuantifiedExpr p q (string_bytes n) (expr low.value) (expr u) (expr z)) k
    ∙ ap (λ u. QuantifiedExpr p q (string_bytes n) (expr low.value) (expr high.value) (expr u)) l
    ∙ sym (quantified_is p q n low high a) ∙ ap expr (sym is)
