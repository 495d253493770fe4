-- The derived tests of equality compare the forms of terms and formulas.
use Rattle.std.proofs.Common.{◌≡◌, ℕ, List, Bool, true, ◌&&◌, eqb, ℤ, refl, ap, subst, ◌∙◌, rules}
use Rattle.std.proofs.lemmas.Bool.{and_parts, eqb-true, eq-eqb, false≢true}
use Rattle.std.proofs.lemmas.Slice.Eq.{slice_eq-Decides}
use Rattle.std.specs.Bool.{Decides, beq}
use Rattle.std.specs.Ordering.{int_eq}
use Rattle.std.specs.Cmp.Lexicographic.{pointwise}
use Rattle.ss_logic.specs.declared.Sort.{Sort}
use Rattle.ss_logic.specs.contracts.SortPartialEq.TheImpl as sort_eq
use Rattle.ss_terms.specs.Forms.{BoundShape, AppShape, term_shape, LiteralShape, AndShape, OrShape, ForallShape, ExistsShape, shape_of}
use Rattle.ss_terms.specs.declared.forms.TermId.{TermId}
use Rattle.ss_terms.specs.declared.forms.FormulaId.{FormulaId}
use Rattle.ss_terms.specs.declared.forms.Symbol.{Symbol}
use Rattle.ss_terms.specs.declared.forms.Symbol.TheVariants as symbol
use Rattle.ss_terms.specs.declared.forms.Predicate.{Predicate}
use Rattle.ss_terms.specs.declared.forms.Term.{Term}
use Rattle.ss_terms.specs.declared.forms.Term.TheVariants as term
use Rattle.ss_terms.specs.declared.forms.Formula.{Formula}
use Rattle.ss_terms.specs.declared.forms.Formula.TheVariants as formula
use Rattle.ss_terms.specs.contracts.forms.TermPartialEq.TheImpl as term_eq
use Rattle.ss_terms.specs.contracts.forms.TermIdPartialEq.TheImpl as term_id_eq
use Rattle.ss_terms.specs.contracts.forms.FormulaIdPartialEq.TheImpl as id_eq
use Rattle.ss_terms.specs.contracts.forms.SymbolPartialEq.TheImpl as symbol_eq
use Rattle.ss_terms.specs.contracts.forms.PredicatePartialEq.TheImpl as predicate_eq
use Rattle.ss_terms.specs.contracts.forms.FormulaPartialEq.TheImpl as formula_eq

abbrev pub is_same_term : Term → Term → Bool
is_same_term = (term_eq.ghosts).eq

abbrev pub is_same_formula : Formula → Formula → Bool
is_same_formula = (formula_eq.ghosts).eq

pub term_id : (x y : TermId) → x.0 ≡ y.0 → x ≡ y
term_id x y e = ap (λ n. let i : TermId = record { 0 = n } in i) e

pub formula_id : (x y : FormulaId) → x.0 ≡ y.0 → x ≡ y
formula_id x y e = ap (λ n. let i : FormulaId = record { 0 = n } in i) e

term_id_Decides : (a b : TermId) → Decides ((term_id_eq.ghosts).eq a b) (a ≡ b)
term_id_Decides a b = search rules

id_Decides : (a b : FormulaId) → Decides ((id_eq.ghosts).eq a b) (a ≡ b)
id_Decides a b = search rules

beq_Decides : (a b : Bool) → Decides (beq a b) (a ≡ b)
beq_Decides a b = search rules

eqb_Decides : (a b : ℕ) → Decides (eqb a b) (a ≡ b)
eqb_Decides a b = (eqb-true a b, eq-eqb a b)

pub sort_Decides : (a b : Sort) → Decides ((sort_eq.ghosts).eq a b) (a ≡ b)
sort_Decides a b = search rules

number_Decides : (n m : ℤ) → Decides (int_eq n m) (n ≡ m)
number_Decides n m = search rules

-- the derived test of functions, which has too many cases for one search
abbrev pub is_same_symbol : Symbol → Symbol → Bool
is_same_symbol = (symbol_eq.ghosts).eq

from_same : (f g : Symbol) → is_same_symbol f g ≡ true → f ≡ g
from_same (symbol.Number n) (symbol.Number m) e = ap symbol.Number ((number_Decides n m).0 e)
from_same (symbol.Fixed b) (symbol.Fixed c) e = ap symbol.Fixed ((beq_Decides b c).0 e)
from_same symbol.Null symbol.Null e = refl
from_same (symbol.ClassName i) (symbol.ClassName j) e = ap symbol.ClassName (eqb-true i j e)
from_same (symbol.Constant s k) (symbol.Constant r j) e =
    let p = and_parts ((sort_eq.ghosts).eq s r) (eqb k j) e in
    ap (λ x. symbol.Constant x k) ((sort_Decides s r).0 p.0) ∙ ap (symbol.Constant r) (eqb-true k j p.1)
from_same symbol.Add symbol.Add e = refl
from_same symbol.Subtract symbol.Subtract e = refl
from_same symbol.Multiply symbol.Multiply e = refl
from_same symbol.Quotient symbol.Quotient e = refl
from_same symbol.Remainder symbol.Remainder e = refl
from_same (symbol.Field i) (symbol.Field j) e = ap symbol.Field (eqb-true i j e)
from_same (symbol.Element s) (symbol.Element r) e = ap symbol.Element ((sort_Decides s r).0 e)
from_same symbol.Length symbol.Length e = refl
from_same symbol.TypeOf symbol.TypeOf e = refl
from_same symbol.Level symbol.Level e = refl
from_same symbol.Owner symbol.Owner e = refl
from_same symbol.Pair symbol.Pair e = refl
from_same symbol.Next symbol.Next e = refl
from_same (symbol.Set i) (symbol.Set j) e = ap symbol.Set (eqb-true i j e)
from_same symbol.Put symbol.Put e = refl
from_same (symbol.Unpack i) (symbol.Unpack j) e = ap symbol.Unpack (eqb-true i j e)
from_same (symbol.Pack i) (symbol.Pack j) e = ap symbol.Pack (eqb-true i j e)
from_same (symbol.Capture i) (symbol.Capture j) e = ap symbol.Capture (eqb-true i j e)
from_same symbol.Join symbol.Join e = refl
from_same (symbol.New i) (symbol.New j) e = ap symbol.New (eqb-true i j e)
from_same (symbol.NewArray i) (symbol.NewArray j) e = ap symbol.NewArray (eqb-true i j e)
from_same symbol.MakeReady symbol.MakeReady e = refl
from_same _ _ e = absurd (false≢true e)

same_as_itself : (f : Symbol) → is_same_symbol f f ≡ true
same_as_itself (symbol.Number n) = (number_Decides n n).1 refl
same_as_itself (symbol.Fixed b) = (beq_Decides b b).1 refl
same_as_itself symbol.Null = refl
same_as_itself (symbol.ClassName i) = eq-eqb i i refl
same_as_itself (symbol.Constant s k) = rw ((sort_Decides s s).1 refl, eq-eqb k k refl) refl
same_as_itself symbol.Add = refl
same_as_itself symbol.Subtract = refl
same_as_itself symbol.Multiply = refl
same_as_itself symbol.Quotient = refl
same_as_itself symbol.Remainder = refl
same_as_itself (symbol.Field i) = eq-eqb i i refl
same_as_itself (symbol.Element s) = (sort_Decides s s).1 refl
same_as_itself symbol.Length = refl
same_as_itself symbol.TypeOf = refl
same_as_itself symbol.Level = refl
same_as_itself symbol.Owner = refl
same_as_itself symbol.Pair = refl
same_as_itself symbol.Next = refl
same_as_itself (symbol.Set i) = eq-eqb i i refl
same_as_itself symbol.Put = refl
same_as_itself (symbol.Unpack i) = eq-eqb i i refl
same_as_itself (symbol.Pack i) = eq-eqb i i refl
same_as_itself (symbol.Capture i) = eq-eqb i i refl
same_as_itself symbol.Join = refl
same_as_itself (symbol.New i) = eq-eqb i i refl
same_as_itself (symbol.NewArray i) = eq-eqb i i refl
same_as_itself symbol.MakeReady = refl

pub symbol_Decides : (a b : Symbol) → Decides ((symbol_eq.ghosts).eq a b) (a ≡ b)
symbol_Decides a b = (from_same a b, λ e. subst (λ x. is_same_symbol a x ≡ true) e (same_as_itself a))

pub predicate_Decides : (a b : Predicate) → Decides ((predicate_eq.ghosts).eq a b) (a ≡ b)
predicate_Decides a b = search rules

terms_Decides : (ts us : List TermId) → Decides (pointwise (term_id_eq.ghosts).eq ts us) (ts ≡ us)
terms_Decides ts us = slice_eq-Decides term_id_Decides ts us (pointwise (term_id_eq.ghosts).eq ts us) refl

formulas_Decides : (fs gs : List FormulaId) → Decides (pointwise (id_eq.ghosts).eq fs gs) (fs ≡ gs)
formulas_Decides fs gs = slice_eq-Decides id_Decides fs gs (pointwise (id_eq.ghosts).eq fs gs) refl

pub sorts_Decides : (ss rs : List Sort) → Decides (pointwise (sort_eq.ghosts).eq ss rs) (ss ≡ rs)
sorts_Decides ss rs = slice_eq-Decides sort_Decides ss rs (pointwise (sort_eq.ghosts).eq ss rs) refl

-- two tests decide whether both parts are the same
both : {P Q R : Type 0} (a b : Bool) → Decides a P → Decides b Q → (P → Q → R) → (R → P) → (R → Q) → Decides (a && b) R
both a b d e make first second = (λ h. let p = and_parts a b h in make (d.0 p.0) (e.0 p.1), λ r. rw (d.1 (first r), e.1 (second r)) refl)

one : {P R : Type 0} (a : Bool) → Decides a P → (P → R) → (R → P) → Decides a R
one a d make part = (λ h. make (d.0 h), λ r. d.1 (part r))

pub is_same_term-Decides : (a b : Term) → Decides (is_same_term a b) (term_shape a ≡ term_shape b)
is_same_term-Decides (term.Bound k) (term.Bound j) = one _ (eqb_Decides k j) (λ e. ap BoundShape e) (λ e. cc)
is_same_term-Decides (term.App f ts) (term.App g us) =
    both _ _ (symbol_Decides f g) (terms_Decides ts.items us.items) (λ e s. ap (λ h. AppShape h ts.items) e ∙ ap (AppShape g) s) (λ e. cc) (λ e. cc)
is_same_term-Decides _ _ = (λ e. absurd (false≢true e), λ e. cc)

pub is_same_formula-Decides : (a b : Formula) → Decides (is_same_formula a b) (shape_of a ≡ shape_of b)
is_same_formula-Decides (formula.Literal h p ts) (formula.Literal k q us) = (from, to)
  where
    from : is_same_formula (formula.Literal h p ts) (formula.Literal k q us) ≡ true → LiteralShape h p ts.items ≡ LiteralShape k q us.items
    from e =
        let x = and_parts (beq h k) _ e in
        let y = and_parts ((predicate_eq.ghosts).eq p q) _ x.1 in
        let a = (beq_Decides h k).0 x.0 in
        let b = (predicate_Decides p q).0 y.0 in
        let c = (terms_Decides ts.items us.items).0 y.1 in cc

    to : LiteralShape h p ts.items ≡ LiteralShape k q us.items → is_same_formula (formula.Literal h p ts) (formula.Literal k q us) ≡ true
    to e =
        let a : h ≡ k = cc in
        let b : p ≡ q = cc in
        let c : ts.items ≡ us.items = cc in
        rw ((beq_Decides h k).1 a, (predicate_Decides p q).1 b, (terms_Decides ts.items us.items).1 c) refl
is_same_formula-Decides (formula.And fs) (formula.And gs) = one _ (formulas_Decides fs.items gs.items) (λ e. ap AndShape e) (λ e. cc)
is_same_formula-Decides (formula.Or fs) (formula.Or gs) = one _ (formulas_Decides fs.items gs.items) (λ e. ap OrShape e) (λ e. cc)
is_same_formula-Decides (formula.Forall ss f) (formula.Forall rs g) =
    both _ _ (sorts_Decides ss.items rs.items) (id_Decides f g) (λ e s. ap (λ x. ForallShape x f) e ∙ ap (ForallShape rs.items) s) (λ e. cc) (λ e. cc)
is_same_formula-Decides (formula.Exists ss f) (formula.Exists rs g) =
    both _ _ (sorts_Decides ss.items rs.items) (id_Decides f g) (λ e s. ap (λ x. ExistsShape x f) e ∙ ap (ExistsShape rs.items) s) (λ e. cc) (λ e. cc)
is_same_formula-Decides _ _ = (λ e. absurd (false≢true e), λ e. cc)
