-- When an expression of code has a value, part by part: each part with the kind and the place with which a run fails where it isn't so.
--
-- That an object isn't null is no part where its static type says so, nor is a cast to a class above.
use Rattle.std.specs.Prelude.{ℕ, pos, List, [], ◌∷◌, ◌++◌, map, Bool, true, false, Option, Some, None, if◌then◌else◌}
use Rattle.ss_core.specs.declared.names.Kind.{Kind}
use Rattle.ss_core.specs.declared.names.Kind.TheVariants as kind
use Rattle.ss_core.specs.declared.names.Place.{Place}
use Rattle.ss_core.specs.declared.names.Ty.{Ty}
use Rattle.ss_core.specs.declared.names.Ty.TheVariants as ty
use Rattle.ss_core.specs.declared.expr.Operator.{Operator}
use Rattle.ss_core.specs.declared.expr.Operator.TheVariants as op
use Rattle.ss_core.specs.Tree.{ClassTree, WordTree, New, ExprTree, IntExpr, BoolExpr, NullExpr, LocalExpr, FieldExpr, ElementExpr, LengthExpr, NegateExpr, NotExpr, BinaryExpr, ImpliesExpr, IffExpr, IsExpr, AsExpr, CastExpr, OldExpr, QuantifiedExpr, StateExpr, OwnersExpr, DefaultExpr}
use Rattle.ss_core.specs.Chain.{sub}
use Rattle.ss_store_rules.specs.Types.{type_of}
use Rattle.ss_store_rules.specs.NonNull.{Known, Site, is_never_null, known_right}
use Rattle.ss_logic.specs.declared.Sort.TheVariants as sort
use Rattle.ss_logic.specs.Terms.{Term, app}
use Rattle.ss_logic.specs.Terms as term
use Rattle.ss_logic.specs.Formulas.{Formula, Forall, neg}
use Rattle.ss_logic.specs.Shapes.{number, null_term, class_term, equal, at_most, sub_atom, allocated}
use Rattle.ss_logic.specs.Shapes as shape
use Rattle.ss_logic.specs.Express.{or_of, Meant, over, over_two, said, Context, at_entry, with_bound, fits_int, out_of_range, meant, not_null, index_fits, not_zero}

-- what has to be so, and the check that fails where it isn't
pub record Part : Type 0 where
  pub kind : Kind
  pub place : Place
  pub formula : Formula

abbrev pub part : Kind → Place → Formula → List Part
part k p f = record { kind = k; place = p; formula = f } ∷ []

abbrev pub with_formula : (Formula → Formula) → Part → Part
with_formula g x = record x { formula = g x.formula }

-- each part under a condition
abbrev pub parts_under : Formula → List Part → List Part
parts_under f parts = map (with_formula (λ g. or_of (neg f ∷ g ∷ []))) parts

-- ---- objects

-- the object isn't null, unless its type says so
abbrev pub null_part : Site → Known → ExprTree → Context → Place → List Part
null_part s k e c p = if is_never_null s k c.inside_old e then [] else part kind.Null p (not_null (meant e c))

-- its state may be read: inside `old` it was allocated at entry
abbrev pub readable_parts : Site → Known → ExprTree → Context → Place → List Part
readable_parts s k e c p = null_part s k e c p ++ (if c.inside_old then part kind.Null p (over (meant e c) (allocated c.entry)) else [])

abbrev pub word_parts : WordTree → Site → Known → ExprTree → Context → Place → List Part
word_parts New s k e c p = null_part s k e c p
word_parts w s k e c p = readable_parts s k e c p

-- ---- classes

abbrev pub is_upwards : List ClassTree → Option Ty → ℕ → Bool
is_upwards cs (Some (ty.Ref c non_null)) t = sub cs c.0 t
is_upwards cs (Some ty.Null) t = true
is_upwards cs a t = false

-- null, or an object of the class
abbrev pub fits_class : ℕ → Meant → Formula
fits_class t m = over m (λ x. or_of (equal x null_term ∷ sub_atom (shape.type_of x) (class_term t) ∷ []))

abbrev pub cast_part : ExprTree → ℕ → Context → Place → List Part
cast_part e t c p = if is_upwards c.classes (type_of c.classes c.types e) t then [] else part kind.Cast p (fits_class t (meant e c))

-- ---- operations

-- the result has 32 bits
abbrev pub result_part : term.Symbol → Meant → Meant → Place → List Part
result_part f a b p = part kind.Overflow p (over_two a b (λ x y. fits_int (app f (x ∷ y ∷ []))))

-- what an operation asks beside what its operands ask
abbrev pub operation_part : Operator → Meant → Meant → Place → List Part
operation_part op.Add a b p = result_part term.Add a b p
operation_part op.Subtract a b p = result_part term.Subtract a b p
operation_part op.Multiply a b p = result_part term.Multiply a b p
operation_part op.Divide a b p = part kind.ZeroDivisor p (not_zero b) ++ result_part term.Quotient a b p
operation_part op.Remainder a b p = part kind.ZeroDivisor p (not_zero b) ++ result_part term.Quotient a b p
operation_part o a b p = []

-- the right operand is evaluated where the left one doesn't decide
abbrev pub right_parts : Operator → Meant → List Part → List Part
right_parts op.And a parts = parts_under (said a) parts
right_parts op.Or a parts = parts_under (neg (said a)) parts
right_parts o a parts = parts

-- ---- expressions, from the left

abbrev pub parts : ExprTree → Site → Known → Context → List Part
parts (IntExpr p n) s k c = []
parts (BoolExpr p b) s k c = []
parts (NullExpr p) s k c = []
parts (LocalExpr p x) s k c = []
parts (FieldExpr p e f) s k c = parts e s k c ++ readable_parts s k e c p
parts (ElementExpr p a i) s k c = parts a s k c ++ parts i s k c ++ readable_parts s k a c p ++ part kind.Index p (index_fits (meant a c) (meant i c))
parts (LengthExpr p e) s k c = parts e s k c ++ null_part s k e c p
parts (NegateExpr p e) s k c = parts e s k c ++ part kind.Overflow p (over (meant e c) (λ x. fits_int (app term.Subtract (number (pos 0) ∷ x ∷ []))))
parts (NotExpr p e) s k c = parts e s k c
parts (BinaryExpr p o a b) s k c = parts a s k c ++ right_parts o (meant a c) (parts b s (known_right o a k) c) ++ operation_part o (meant a c) (meant b c) p
parts (ImpliesExpr p a b) s k c = parts a s k c ++ parts_under (said (meant a c)) (parts b s k c)
parts (IffExpr p a b) s k c = parts a s k c ++ parts b s k c
parts (IsExpr p e t) s k c = parts e s k c
parts (AsExpr p e t) s k c = parts e s k c
parts (CastExpr p t non_null e) s k c = parts e s k c ++ (if non_null then null_part s k e c p else []) ++ cast_part e t c p
parts (OldExpr p e) s k c = parts e s k (at_entry c)
parts (QuantifiedExpr p q name low high e) s k c =
    parts low s k c ++ parts high s k c
    ++ map (with_formula (λ f. Forall (sort.Whole ∷ []) (or_of (out_of_range c (meant low c) (meant high c) ++ f ∷ [])))) (parts e s k (with_bound c))
parts (StateExpr p w e) s k c = parts e s k c ++ word_parts w s k e c p
parts (OwnersExpr p w a b) s k c = parts a s k c ++ parts b s k c ++ readable_parts s k a c p ++ readable_parts s k b c p
parts (DefaultExpr p d) s k c = []
