-- When an expression has a value, part by part, with those that hold by the types: each is marked where it is checked.
use Rattle.std.specs.Prelude.{ℕ, pos, List, [], ◌∷◌, ◌++◌, map, Bool, true, not, if◌then◌else◌}
use Rattle.ss_core.specs.declared.names.Kind.{Kind}
use Rattle.ss_core.specs.declared.names.Kind.TheVariants as kind
use Rattle.ss_core.specs.declared.names.Place.{Place}
use Rattle.ss_core.specs.declared.expr.Operator.{Operator}
use Rattle.ss_core.specs.declared.expr.Operator.TheVariants as op
use Rattle.ss_core.specs.Tree.{WordTree, New, ExprTree, IntExpr, BoolExpr, NullExpr, LocalExpr, FieldExpr, ElementExpr, LengthExpr, NegateExpr, NotExpr, BinaryExpr, ImpliesExpr, IffExpr, IsExpr, AsExpr, CastExpr, OldExpr, QuantifiedExpr, StateExpr, OwnersExpr, DefaultExpr}
use Rattle.ss_store_rules.specs.Types.{type_of}
use Rattle.ss_store_rules.specs.NonNull.{Known, Site, is_never_null, known_right}
use Rattle.ss_logic.specs.declared.Sort.TheVariants as sort
use Rattle.ss_logic.specs.Terms.{app}
use Rattle.ss_logic.specs.Terms as term
use Rattle.ss_logic.specs.Formulas.{Formula, Forall, neg}
use Rattle.ss_logic.specs.Shapes.{number, allocated}
use Rattle.ss_logic.specs.Express.{or_of, Meant, over, over_two, said, Context, at_entry, with_bound, fits_int, out_of_range, meant, not_null, index_fits, not_zero}
use Rattle.ss_vcgen_heaps.specs.Parts.{Part, with_formula, fits_class, is_upwards}

pub record Marked : Type 0 where
  pub part : Part
  pub checked : Bool

abbrev pub marked_part : Kind → Place → Bool → Formula → List Marked
marked_part k p checked f = record { part = record { kind = k; place = p; formula = f }; checked = checked } ∷ []

abbrev pub with_marked : (Formula → Formula) → Marked → Marked
with_marked g m = record m { part = with_formula g m.part }

abbrev pub marked_under : Formula → List Marked → List Marked
marked_under f ms = map (with_marked (λ g. or_of (neg f ∷ g ∷ []))) ms

abbrev pub marked_null : Site → Known → ExprTree → Context → Place → List Marked
marked_null s k e c p = marked_part kind.Null p (not (is_never_null s k c.inside_old e)) (not_null (meant e c))

abbrev pub marked_readable : Site → Known → ExprTree → Context → Place → List Marked
marked_readable s k e c p = marked_null s k e c p ++ (if c.inside_old then marked_part kind.Null p true (over (meant e c) (allocated c.entry)) else [])

abbrev pub marked_word : WordTree → Site → Known → ExprTree → Context → Place → List Marked
marked_word New s k e c p = marked_null s k e c p
marked_word w s k e c p = marked_readable s k e c p

abbrev pub marked_cast : ExprTree → ℕ → Context → Place → List Marked
marked_cast e t c p = marked_part kind.Cast p (not (is_upwards c.classes (type_of c.classes c.types e) t)) (fits_class t (meant e c))

abbrev pub marked_result : term.Symbol → Meant → Meant → Place → List Marked
marked_result f a b p = marked_part kind.Overflow p true (over_two a b (λ x y. fits_int (app f (x ∷ y ∷ []))))

abbrev pub marked_operation : Operator → Meant → Meant → Place → List Marked
marked_operation op.Add a b p = marked_result term.Add a b p
marked_operation op.Subtract a b p = marked_result term.Subtract a b p
marked_operation op.Multiply a b p = marked_result term.Multiply a b p
marked_operation op.Divide a b p = marked_part kind.ZeroDivisor p true (not_zero b) ++ marked_result term.Quotient a b p
marked_operation op.Remainder a b p = marked_part kind.ZeroDivisor p true (not_zero b) ++ marked_result term.Quotient a b p
marked_operation o a b p = []

abbrev pub marked_right : Operator → Meant → List Marked → List Marked
marked_right op.And a ms = marked_under (said a) ms
marked_right op.Or a ms = marked_under (neg (said a)) ms
marked_right o a ms = ms

-- for each value of the bound name that is in range
abbrev pub in_range : Context → Meant → Meant → Formula → Formula
in_range c low high f = Forall (sort.Whole ∷ []) (or_of (out_of_range c low high ++ f ∷ []))

abbrev pub marked : ExprTree → Site → Known → Context → List Marked
marked (IntExpr p n) s k c = []
marked (BoolExpr p b) s k c = []
marked (NullExpr p) s k c = []
marked (LocalExpr p x) s k c = []
marked (FieldExpr p e f) s k c = marked e s k c ++ marked_readable s k e c p
marked (ElementExpr p a i) s k c = marked a s k c ++ marked i s k c ++ marked_readable s k a c p ++ marked_part kind.Index p true (index_fits (meant a c) (meant i c))
marked (LengthExpr p e) s k c = marked e s k c ++ marked_null s k e c p
marked (NegateExpr p e) s k c = marked e s k c ++ marked_part kind.Overflow p true (over (meant e c) (λ x. fits_int (app term.Subtract (number (pos 0) ∷ x ∷ []))))
marked (NotExpr p e) s k c = marked e s k c
marked (BinaryExpr p o a b) s k c = marked a s k c ++ marked_right o (meant a c) (marked b s (known_right o a k) c) ++ marked_operation o (meant a c) (meant b c) p
marked (ImpliesExpr p a b) s k c = marked a s k c ++ marked_under (said (meant a c)) (marked b s k c)
marked (IffExpr p a b) s k c = marked a s k c ++ marked b s k c
marked (IsExpr p e t) s k c = marked e s k c
marked (AsExpr p e t) s k c = marked e s k c
marked (CastExpr p t non_null e) s k c = marked e s k c ++ (if non_null then marked_null s k e c p else []) ++ marked_cast e t c p
marked (OldExpr p e) s k c = marked e s k (at_entry c)
marked (QuantifiedExpr p q name low high e) s k c = marked low s k c ++ marked high s k c ++ map (with_marked (in_range c (meant low c) (meant high c))) (marked e s k (with_bound c))
marked (StateExpr p w e) s k c = marked e s k c ++ marked_word w s k e c p
marked (OwnersExpr p w a b) s k c = marked a s k c ++ marked b s k c ++ marked_readable s k a c p ++ marked_readable s k b c p
marked (DefaultExpr p d) s k c = []

-- what all of them say
abbrev pub formulas_of : List Marked → List Formula
formulas_of ms = map (λ (m : Marked). m.part.formula) ms

-- those that are checked
abbrev pub checked_of : List Marked → List Part
checked_of [] = []
checked_of (m ∷ ms) = if m.checked then m.part ∷ checked_of ms else checked_of ms
