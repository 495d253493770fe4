-- What is seen of an expression, part by part.
use Rattle.std.proofs.Common.{◌≡◌, ◌++◌, ℕ, List, Bool, true, false, Option, Some, None, refl, sym, ap, ◌∙◌, append_assoc}
use Rattle.std.specs.Prelude.{option_map}
use Rattle.ss_core.specs.declared.names.Place.{Place}
use Rattle.ss_faults.specs.declared.Fault.{Fault}
use Rattle.ss_core.specs.declared.names.Ty.{Ty}
use Rattle.ss_core.specs.declared.names.Ty.TheVariants as ty
use Rattle.ss_core.specs.declared.expr.Operator.{Operator}
use Rattle.ss_core.specs.declared.expr.Operator.TheVariants as op
use Rattle.ss_typed.specs.Tree.{ExprTree, BinaryOf, IsOf, AsOf, FieldOf, ElementOf, LengthOf, CallOf, Arguments}
use Rattle.ss_typed.specs.Types.{class_type}
use Rattle.ss_typed.specs.Assigned.{listed}
use Rattle.ss_paths.specs.Sets.{only, among}
use Rattle.ss_paths.proofs.Among.{either_none}
use Rattle.ss_nonnull_rules.specs.Facts.{the_one}
use Rattle.ss_nonnull_rules.specs.NonNull.{NullContext, Known, known_right}
use Rattle.ss_nonnull_rules.specs.Faults.{inside, handed, wanted_if, parameters, method_of, class_of}
use Rattle.ss_nonnull_seen.specs.Seen.{Seen, seen, plain, class_tested, operated, field_read, element_read, called, lacking, learnt_at, side_of, Leads}
use Rattle.ss_nonnull_seen.specs.Paths.{told}

pub one_among : (x : Option ℕ) → among (listed x) ≡ the_one x
one_among None = refl
one_among (Some x) = either_none (only x)

-- one list after another
pub joined : (before mid now x y : List Fault) → mid ≡ before ++ x → now ≡ mid ++ y → now ≡ before ++ (x ++ y)
joined before mid now x y p q = q ∙ ap (λ (l : List Fault). l ++ y) p ∙ append_assoc before x y

-- ---- operations

pub operated_is : (s : NullContext) (k l m : Option Known) (p : Place) (o : Operator) (a b : ExprTree) → operated p o (seen s k a) (seen s l b) ≡ seen s m (BinaryOf p o a b)
operated_is s k l m p op.And a b = refl
operated_is s k l m p op.Or a b = refl
operated_is s k l m p op.NotEqual a b = refl
operated_is s k l m p op.Equal a b = refl
operated_is s k l m p op.Less a b = refl
operated_is s k l m p op.LessEqual a b = refl
operated_is s k l m p op.Greater a b = refl
operated_is s k l m p op.GreaterEqual a b = refl
operated_is s k l m p op.Add a b = refl
operated_is s k l m p op.Subtract a b = refl
operated_is s k l m p op.Multiply a b = refl
operated_is s k l m p op.Divide a b = refl
operated_is s k l m p op.Remainder a b = refl

-- what is known where the right operand is read, where the left one says something and where it doesn't
pub right_learns : (s : NullContext) (k l : Option Known) (o : Operator) (b : Bool) (a : ExprTree) → Some b ≡ learnt_at o → option_map (told (side_of b (seen s k a))) l ≡ option_map (known_right o a) l
right_learns s k l op.And true a h = refl
right_learns s k l op.And false a h = absurd cc
right_learns s k l op.Or false a h = refl
right_learns s k l op.Or true a h = absurd cc
right_learns s k l o b a h = absurd cc

same_known : (l : Option Known) → option_map (λ (k : Known). k) l ≡ l
same_known None = refl
same_known (Some k) = refl

pub right_keeps : (l : Option Known) (o : Operator) (a : ExprTree) → None ≡ learnt_at o → l ≡ option_map (known_right o a) l
right_keeps l op.And a h = absurd cc
right_keeps l op.Or a h = absurd cc
right_keeps l o a h = sym (same_known l)

pub right_known : (s : NullContext) (k more : Option Known) (o : Operator) (b : Bool) (v : Seen) (left : ExprTree)
    → more ≡ option_map (told (side_of b v)) k → Some b ≡ learnt_at o → v ≡ seen s k left → more ≡ option_map (known_right o left) k
right_known s k more o b v left q o_is v_is =
    q ∙ ap (λ (w : Seen). option_map (told (side_of b w)) k) v_is ∙ right_learns s k k o b left o_is

-- ---- one part more

pub operation_leads : (s : NullContext) (k : Option Known) (f0 f1 : List Fault) (from to right : Seen) (p : Place) (o : Operator) (b : ExprTree)
    → ((left : ExprTree) → from ≡ seen s k left → right ≡ seen s (option_map (known_right o left) k) b)
    → ((left : ExprTree) → from ≡ seen s k left → f1 ≡ f0 ++ inside s (option_map (known_right o left) k) b)
    → to ≡ operated p o from right → Leads s k f0 from f1 to (λ (e : ExprTree). BinaryOf p o e b)
operation_leads s k f0 f1 from to right p o b is noted q = record {
  on = λ e before w. record {
    is =
        q ∙ ap (λ (v : Seen). operated p o v right) w.is
        ∙ ap (λ (v : Seen). operated p o (seen s k e) v) (is e w.is)
        ∙ operated_is s k (option_map (known_right o e) k) k p o e b;
    noted = joined before f0 f1 (inside s k e) (inside s (option_map (known_right o e) k) b) w.noted (noted e w.is);
  };
}

pub tested_leads : (s : NullContext) (k : Option Known) (f : List Fault) (from to : Seen) (p : Place) (t : ℕ)
    → to ≡ class_tested p from → Leads s k f from f to (λ (e : ExprTree). IsOf p e t)
tested_leads s k f from to p t q = record {
  on = λ e before w. record {
    is = q ∙ ap (class_tested p) w.is;
    noted = w.noted;
  };
}

pub converted_leads : (s : NullContext) (k : Option Known) (f : List Fault) (from to : Seen) (p : Place) (t : ℕ)
    → to ≡ plain p (Some (class_type t false)) false → Leads s k f from f to (λ (e : ExprTree). AsOf p e t)
converted_leads s k f from to p t q = record { on = λ e before w. record { is = q; noted = w.noted } }

pub field_leads : (s : NullContext) (k : Option Known) (f : List Fault) (from to : Seen) (p : Place) (n : ℕ) (t : Ty)
    → to ≡ field_read s k p n t from → Leads s k f from f to (λ (e : ExprTree). FieldOf p e n t)
field_leads s k f from to p n t q = record { on = λ e before w. record { is = q ∙ ap (field_read s k p n t) w.is; noted = w.noted } }

pub element_leads : (s : NullContext) (k : Option Known) (f0 f1 : List Fault) (from to : Seen) (p : Place) (i : ExprTree)
    → to ≡ element_read p from → f1 ≡ f0 ++ inside s k i → Leads s k f0 from f1 to (λ (e : ExprTree). ElementOf p e i)
element_leads s k f0 f1 from to p i q noted = record {
  on = λ e before w. record {
    is = q ∙ ap (element_read p) w.is;
    noted = joined before f0 f1 (inside s k e) (inside s k i) w.noted noted;
  };
}

pub length_leads : (s : NullContext) (k : Option Known) (f : List Fault) (from to : Seen) (p : Place)
    → to ≡ plain p (Some ty.Int) false → Leads s k f from f to (λ (e : ExprTree). LengthOf p e)
length_leads s k f from to p q = record { on = λ e before w. record { is = q; noted = w.noted } }

pub call_leads : (s : NullContext) (k : Option Known) (f0 f1 : List Fault) (from to : Seen) (p : Place) (m : ℕ) (t : Option Ty) (es : Arguments) (ts : List Ty)
    → to ≡ called p t → ts ≡ parameters s.program (method_of s.program (class_of from.ty) m) → f1 ≡ f0 ++ handed s k es ts
    → Leads s k f0 from f1 to (λ (e : ExprTree). CallOf p e m t es)
call_leads s k f0 f1 from to p m t es ts q is noted = record {
  on = λ e before w. record {
    is = q;
    noted =
        joined before f0 f1 (inside s k e) (handed s k es ts) w.noted noted
        ∙ ap (λ (us : List Ty). before ++ (inside s k e ++ handed s k es us)) is
        ∙ ap (λ (v : Seen). before ++ (inside s k e ++ handed s k es (parameters s.program (method_of s.program (class_of v.ty) m)))) w.is;
  };
}

-- ---- a value where one is wanted

pub lacking_is : (s : NullContext) (k : Option Known) (e : ExprTree) (t : Option Ty) → lacking t (seen s k e) ≡ wanted_if s k e t
lacking_is s k e None = refl
lacking_is s k e (Some t) = refl

pub wanted_noted : (s : NullContext) (k : Option Known) (e : ExprTree) (t : Option Ty) (v : Seen) (f0 f1 f2 : List Fault)
    → v ≡ seen s k e → f1 ≡ f0 ++ inside s k e → f2 ≡ f1 ++ lacking t v → f2 ≡ f0 ++ (inside s k e ++ wanted_if s k e t)
wanted_noted s k e t v f0 f1 f2 is p q =
    joined f0 f1 f2 (inside s k e) (lacking t v) p q
    ∙ ap (λ (w : Seen). f0 ++ (inside s k e ++ lacking t w)) is
    ∙ ap (λ (l : List Fault). f0 ++ (inside s k e ++ l)) (lacking_is s k e t)
