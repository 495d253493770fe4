-- What holds of the code that is lifted out of an expression, and of what is left of it.
use Rattle.std.proofs.Common.{◌≡◌, ℕ, ◌+◌, List, [], ◌∷◌, ◌++◌, length, Bool, true, Option, Some, refl}
use Rattle.std.specs.Prelude.{◌&&◌}
use Rattle.std.specs.List.{list_all}
use Rattle.std.proofs.lemmas.Bool.{and_parts, and_from}
use Rattle.ss_core.specs.declared.names.Place.{Place}
use Rattle.ss_core.specs.declared.names.Ty.{Ty}
use Rattle.ss_core.specs.declared.names.Ty.TheVariants as ty
use Rattle.ss_core.specs.declared.expr.Operator.{Operator}
use Rattle.ss_core.specs.declared.expr.Operator.TheVariants as op
use Rattle.ss_core.specs.Tree as core
use Rattle.ss_core.specs.Tree.{NullExpr, LocalExpr, FieldExpr, ElementExpr, LengthExpr, NegateExpr, NotExpr, BinaryExpr, IffExpr, IsExpr, AsExpr, CastExpr, CalleeTree, Dispatched, Static, Base, AssignStmt, NewStmt, NewArrayStmt, CallStmt, IfStmt, CodeTree, NoCode}
use Rattle.ss_core.specs.View.{code_of}
use Rattle.ss_typed.specs.Tree.{ExprTree, IffOf, ImpliesOf, BinaryOf, IsOf, AsOf, NegateOf, NotOf, CastOf, FieldOf, ElementOf, LengthOf, NewOf, NewArrayOf, CallOf, StaticOf, BaseOf, Arguments, NoMore, Argument}
use Rattle.ss_typed.specs.Types.{type_of}
use Rattle.ss_expand_rules.specs.Numbers.{Numbers, plain, plain_arguments}
use Rattle.ss_expand_rules.specs.Calls.{has_call, have_call, is_lazy}
use Rattle.ss_typed.specs.Shapes.{place_of}
use Rattle.ss_expand_rules.specs.Program.{above_of, number_of_written}
use Rattle.ss_expand_rules.specs.Lifting.{ElaborationContext, Source, Pure, Created, CreatedArray, Called, put, Lifted, Valued, Listed, unlifted, next, temporary_type, any_object, in_local, in_temporary, valued_from, valued, lifted_of, operand, unary, binary, lazily, holds, fails, negated, operation, implication, first_type, other_types, no_operands, operands_of, and_operands, only_of, dispatched, static_class, base_number, types_of_constructor, types_of_written, types_of_method, lifted, in_temporaries, right_side, value, arguments_of}
use Rattle.ss_store_rules.specs.Locals.{each}
use Rattle.ss_expand_formed.proofs.Shape.{Code, each-append}
use Rattle.ss_expand_formed.proofs.Choices.{where_chosen}

-- A property of expressions and one of arguments that their parts have too, a test that the expressions which they become pass, and one that the
-- statements which are made of them pass.
pub record Keeps (ns : Numbers) (F : ExprTree → Type 0) (A : Arguments → Type 0) (P : core.ExprTree → Bool) (test : core.StmtTree → Bool) : Type 0 where
  -- parts
  pub iff_parts : (p : Place) (a b : ExprTree) → F (IffOf p a b) → F a × F b
  pub implies_parts : (p : Place) (a b : ExprTree) → F (ImpliesOf p a b) → F a × F b
  pub binary_parts : (p : Place) (o : Operator) (a b : ExprTree) → F (BinaryOf p o a b) → F a × F b
  pub element_parts : (p : Place) (a b : ExprTree) → F (ElementOf p a b) → F a × F b
  pub is_part : (p : Place) (e : ExprTree) (t : ℕ) → F (IsOf p e t) → F e
  pub as_part : (p : Place) (e : ExprTree) (t : ℕ) → F (AsOf p e t) → F e
  pub negate_part : (p : Place) (e : ExprTree) → F (NegateOf p e) → F e
  pub not_part : (p : Place) (e : ExprTree) → F (NotOf p e) → F e
  pub cast_part : (p : Place) (t : ℕ) (non_null : Bool) (e : ExprTree) → F (CastOf p t non_null e) → F e
  pub length_part : (p : Place) (e : ExprTree) → F (LengthOf p e) → F e
  -- what is no `this`
  pub field_part : (p : Place) (e : ExprTree) (f : ℕ) (t : Ty) → has_call e ≡ true → F (FieldOf p e f t) → F e
  pub new_parts : (p : Place) (t : ℕ) (es : Arguments) → F (NewOf p t es) → A es
  pub array_part : (p : Place) (t : ℕ) (e : ExprTree) → F (NewArrayOf p t e) → F e
  pub call_parts : (p : Place) (e : ExprTree) (m : ℕ) (t : Option Ty) (es : Arguments) → F (CallOf p e m t es) → F e × A es
  pub static_parts : (p : Place) (n : ℕ) (t : Option Ty) (es : Arguments) → F (StaticOf p n t es) → A es
  pub base_parts : (p : Place) (m : ℕ) (t : Option Ty) (es : Arguments) → F (BaseOf p m t es) → A es
  pub argument_parts : (e : ExprTree) (es : Arguments) → A (Argument e es) → F e × A es
  -- expressions
  pub plain_passes : (e : ExprTree) → F e → P (plain ns e) ≡ true
  pub temporary_passes : (p : Place) (n : ℕ) → P (LocalExpr p (ns.first_temporary + n)) ≡ true
  pub null_passes : (p : Place) → P (NullExpr p) ≡ true
  pub iff_passes : (p : Place) (a b : core.ExprTree) → P a ≡ true → P b ≡ true → P (IffExpr p a b) ≡ true
  pub binary_passes : (p : Place) (o : Operator) (a b : core.ExprTree) → P a ≡ true → P b ≡ true → P (BinaryExpr p o a b) ≡ true
  pub element_passes : (p : Place) (a b : core.ExprTree) → P a ≡ true → P b ≡ true → P (ElementExpr p a b) ≡ true
  pub is_passes : (p : Place) (e : core.ExprTree) (t : ℕ) → P e ≡ true → P (IsExpr p e t) ≡ true
  pub as_passes : (p : Place) (e : core.ExprTree) (t : ℕ) → P e ≡ true → P (AsExpr p e t) ≡ true
  pub negate_passes : (p : Place) (e : core.ExprTree) → P e ≡ true → P (NegateExpr p e) ≡ true
  pub not_passes : (p : Place) (e : core.ExprTree) → P e ≡ true → P (NotExpr p e) ≡ true
  pub cast_passes : (p : Place) (t : ℕ) (non_null : Bool) (e : core.ExprTree) → P e ≡ true → P (CastExpr p t non_null e) ≡ true
  pub field_passes : (p : Place) (e : core.ExprTree) (f : ℕ) → P e ≡ true → P (FieldExpr p e f) ≡ true
  pub length_passes : (p : Place) (e : core.ExprTree) → P e ≡ true → P (LengthExpr p e) ≡ true
  -- statements
  pub assign_passes : (p : Place) (x : ℕ) (e : core.ExprTree) → P e ≡ true → test (AssignStmt p x e) ≡ true
  pub new_passes : (p : Place) (x : Option ℕ) (t : ℕ) (es : List core.ExprTree) → list_all P es ≡ true → test (NewStmt p x t es) ≡ true
  pub array_passes : (p : Place) (x : Option ℕ) (t : ℕ) (e : core.ExprTree) → P e ≡ true → test (NewArrayStmt p x t e) ≡ true
  pub call_passes : (p : Place) (x : Option ℕ) (e : core.ExprTree) (t m : ℕ) (es : List core.ExprTree) → P e ≡ true → list_all P es ≡ true → test (CallStmt p x (Dispatched e t m) es) ≡ true
  pub static_passes : (p : Place) (x : Option ℕ) (n : ℕ) (es : List core.ExprTree) → list_all P es ≡ true → test (CallStmt p x (Static n) es) ≡ true
  pub base_passes : (p q : Place) (m : ℕ) (t : Option Ty) (given : Arguments) → F (BaseOf p m t given) → (x : Option ℕ) (n : ℕ) (es : List core.ExprTree) → list_all P es ≡ true → test (CallStmt q x (Base n) es) ≡ true
  pub if_passes : (p : Place) (e : core.ExprTree) (a b : CodeTree) → P e ≡ true → test (IfStmt p e a b) ≡ true

module _ (F : ExprTree → Type 0) (A : Arguments → Type 0) (P : core.ExprTree → Bool) (test : core.StmtTree → Bool) where
  abbrev pub Runs : Code → Type 0
  Runs code = each test (code_of code) ≡ true

  -- the statement that is made of it passes
  abbrev pub Fit : Source → Type 0
  Fit (Pure e) = P e ≡ true
  Fit (Created p t es) = list_all P es ≡ true
  Fit (CreatedArray p t e) = P e ≡ true
  Fit (Called p callee es) = (x : Option ℕ) → test (CallStmt p x callee es) ≡ true

  abbrev pub FitLift : Lifted → Type 0
  FitLift l = Runs l.code × Fit l.source

  abbrev pub FitValue : Valued → Type 0
  FitValue v = Runs v.code × (P v.value ≡ true)

  abbrev pub FitList : Listed → Type 0
  FitList l = Runs l.code × (list_all P l.values ≡ true)

  module _ (s : ElaborationContext) (k : Keeps s.numbers F A P test) where
    pub put_fits : (p : Place) (x : ℕ) (v : Source) → Fit v → Runs (put p x v ∷ [])
    put_fits p x (Pure e) h = and_from _ _ (k.assign_passes p x e h) refl
    put_fits p x (Created q t es) h = and_from _ _ (k.new_passes q (Some x) t es h) refl
    put_fits p x (CreatedArray q t e) h = and_from _ _ (k.array_passes q (Some x) t e h) refl
    put_fits p x (Called q callee es) h = and_from _ _ (h (Some x)) refl

    pub local_fits : (p : Place) (n : ℕ) (t : Ty) (l : Lifted) → FitLift l → FitValue (in_local p (s.numbers.first_temporary + n) t l)
    local_fits p n t l h = (each-append test l.code (put p (s.numbers.first_temporary + n) l.source ∷ []) h.0 (put_fits p (s.numbers.first_temporary + n) l.source h.1), k.temporary_passes p n)

    pub temporary_fits : (p : Place) (t : Ty) (l : Lifted) → FitLift l → FitValue (in_temporary s.numbers p t l)
    temporary_fits p t l h = local_fits p (length l.made) t l h

    valued_from_fits : (e : ExprTree) (l : Lifted) (v : Source) → FitLift l → Fit v → FitValue (valued_from s.numbers e l v)
    valued_from_fits e l (Pure x) h g = (h.0, g)
    valued_from_fits e l (Created p t es) h g = temporary_fits (place_of e) (temporary_type any_object (type_of e)) l h
    valued_from_fits e l (CreatedArray p t n) h g = temporary_fits (place_of e) (temporary_type any_object (type_of e)) l h
    valued_from_fits e l (Called p callee es) h g = temporary_fits (place_of e) (temporary_type any_object (type_of e)) l h

    pub valued_fits : (e : ExprTree) (l : Lifted) → FitLift l → FitValue (valued s.numbers e l)
    valued_fits e l h = valued_from_fits e l l.source h h.1

    -- ---- operands

    lifted_of_fits : (e : ExprTree) (f : List Ty → Lifted) (made : List Ty) → F e → (has_call e ≡ true → FitLift (f made)) → FitLift (lifted_of s.numbers e f made)
    lifted_of_fits e f made h g = where_chosen FitLift (has_call e) (f made) (unlifted (plain s.numbers e) made) g (λ no. (refl, k.plain_passes e h))

    operand_fits : (t : Ty) (e : ExprTree) (f : List Ty → Lifted) (made : List Ty) → F e → (has_call e ≡ true → FitLift (f made)) → FitValue (operand s.numbers t e f made)
    operand_fits t e f made h g =
        where_chosen FitValue (is_lazy e && has_call e) (valued s.numbers e (f made)) (in_temporary s.numbers (place_of e) (temporary_type t (type_of e)) (lifted_of s.numbers e f made))
        (λ yes. valued_fits e (f made) (g (and_parts (is_lazy e) (has_call e) yes).1))
        (λ no. temporary_fits (place_of e) (temporary_type t (type_of e)) (lifted_of s.numbers e f made) (lifted_of_fits e f made h g))

    binary_fits : (f : core.ExprTree → core.ExprTree → core.ExprTree) → ((x y : core.ExprTree) → P x ≡ true → P y ≡ true → P (f x y) ≡ true) → (a : Valued) (b : List Ty → Valued) → FitValue a → FitValue (b a.made) → FitLift (binary f a b)
    binary_fits f closed a b h g = (each-append test a.code (b a.made).code h.0 g.0, closed a.value (b a.made).value h.1 g.1)

    -- ---- lazy operations

    lazily_fits : (p : Place) (a b : ExprTree) (asked : core.ExprTree → core.ExprTree) → ((x : core.ExprTree) → P x ≡ true → P (asked x) ≡ true) → (first : Lifted) (second : List Ty → Lifted) → FitLift first → ((made : List Ty) → FitLift (second made)) →
        FitLift (lazily s.numbers p a b asked first second)
    lazily_fits p a b asked closed first second h g =
        let n = next s.numbers first.made in
        let t = in_temporary s.numbers (place_of a) ty.Bool first in
        let r = second t.made in
        let one = temporary_fits (place_of a) ty.Bool first h in
        let two = g t.made in
        let test_of = asked (LocalExpr p n) in
        let passes = closed (LocalExpr p n) (k.temporary_passes p (length first.made)) in
        let inside = each-append test r.code (put (place_of b) n r.source ∷ []) two.0 (put_fits (place_of b) n r.source two.1) in
        let branch = IfStmt p test_of (code_of (r.code ++ put (place_of b) n r.source ∷ [])) NoCode in
        let last : Runs (branch ∷ []) = and_from _ _ (and_from _ _ (and_from _ _ (k.if_passes p test_of (code_of (r.code ++ put (place_of b) n r.source ∷ [])) NoCode passes) inside) refl) refl in
        (each-append test t.code (branch ∷ []) one.0 last, k.temporary_passes p (length first.made))

    negated_fits : (a : ExprTree) (f : List Ty → Lifted) (made : List Ty) → F a → (has_call a ≡ true → FitLift (f made)) → FitLift (negated s.numbers a f made)
    negated_fits a f made h g =
        where_chosen FitLift (has_call a) (unary (NotExpr (place_of a)) (operand s.numbers ty.Bool a f made)) (unlifted (NotExpr (place_of a) (plain s.numbers a)) made)
        (λ yes. let v = operand_fits ty.Bool a f made h g in (v.0, k.not_passes (place_of a) (operand s.numbers ty.Bool a f made).value v.1))
        (λ no. (refl, k.not_passes (place_of a) (plain s.numbers a) (k.plain_passes a h)))

    abbrev Lifting : ExprTree → (List Ty → Lifted) → Type 0
    Lifting e f = (made : List Ty) → has_call e ≡ true → FitLift (f made)

    operation_fits : (p : Place) (o : Operator) (a b : ExprTree) (f g : List Ty → Lifted) (made : List Ty) → F a → F b → Lifting a f → Lifting b g → FitLift (operation s.numbers p o a b f g made)
    operation_fits p op.And a b f g made h i u v = lazily_fits p a b holds (λ x l. l) (lifted_of s.numbers a f made) (lifted_of s.numbers b g) (lifted_of_fits a f made h (u made)) (λ m. lifted_of_fits b g m i (v m))
    operation_fits p op.Or a b f g made h i u v = lazily_fits p a b (fails p) (k.not_passes p) (lifted_of s.numbers a f made) (lifted_of s.numbers b g) (lifted_of_fits a f made h (u made)) (λ m. lifted_of_fits b g m i (v m))
    operation_fits p o a b f g made h i u v =
        let one = operand s.numbers any_object a f made in
        binary_fits (BinaryExpr p o) (k.binary_passes p o) one (operand s.numbers any_object b g) (operand_fits any_object a f made h (u made)) (operand_fits any_object b g one.made i (v one.made))

    implication_fits : (p : Place) (a b : ExprTree) (f g : List Ty → Lifted) (made : List Ty) → F a → F b → Lifting a f → Lifting b g → FitLift (implication s.numbers p a b f g made)
    implication_fits p a b f g made h i u v = lazily_fits p a b (fails p) (k.not_passes p) (negated s.numbers a f made) (lifted_of s.numbers b g) (negated_fits a f made h (u made)) (λ m. lifted_of_fits b g m i (v m))

    -- ---- calls

    pub plain_all : (es : Arguments) → A es → list_all P (plain_arguments s.numbers es) ≡ true
    plain_all NoMore h = refl
    plain_all (Argument e es) h = let parts = k.argument_parts e es h in and_from _ _ (k.plain_passes e parts.0) (plain_all es parts.1)

    and_operands_fit : (v : Valued) (f : List Ty → Listed) → FitValue v → FitList (f v.made) → FitList (and_operands v f)
    and_operands_fit v f h g = (each-append test v.code (f v.made).code h.0 g.0, and_from _ _ h.1 g.1)

    operands_fit : (es : Arguments) (f : List Ty → Listed) (made : List Ty) → list_all P (plain_arguments s.numbers es) ≡ true → FitList (f made) → FitList (operands_of s.numbers es f made)
    operands_fit es f made h g = where_chosen FitList (have_call es) (f made) (record { code = []; values = plain_arguments s.numbers es; made = made }) (λ yes. g) (λ no. (refl, h))

    only_fits : (p : Place) (es : List core.ExprTree) → list_all P es ≡ true → P (only_of p es) ≡ true
    only_fits p [] h = k.null_passes p
    only_fits p (e ∷ es) h = (and_parts (P e) (list_all P es) h).0

    dispatched_fits : (p : Place) (t m : ℕ) (es : List core.ExprTree) → list_all P es ≡ true → Fit (dispatched p t m es)
    dispatched_fits p t m [] h = λ x. k.call_passes p x (NullExpr p) t m [] (k.null_passes p) refl
    dispatched_fits p t m (e ∷ es) h = let both = and_parts (P e) (list_all P es) h in λ x. k.call_passes p x e t m es both.0 both.1

    -- ---- expressions with a call inside

    mutual
      lifted_fits : (e : ExprTree) (made : List Ty) → F e → has_call e ≡ true → FitLift (lifted s e made)
      lifted_fits (IffOf p a b) made h c =
          let parts = k.iff_parts p a b h in
          let one = operand s.numbers any_object a (lifted s a) made in
          binary_fits (IffExpr p) (k.iff_passes p) one (operand s.numbers any_object b (lifted s b)) (operand_fits any_object a (lifted s a) made parts.0 (λ d. lifted_fits a made parts.0 d)) (operand_fits any_object b (lifted s b) one.made parts.1 (λ d. lifted_fits b one.made parts.1 d))
      lifted_fits (ImpliesOf p a b) made h c = let parts = k.implies_parts p a b h in implication_fits p a b (lifted s a) (lifted s b) made parts.0 parts.1 (λ m. lifted_fits a m parts.0) (λ m. lifted_fits b m parts.1)
      lifted_fits (BinaryOf p o a b) made h c = let parts = k.binary_parts p o a b h in operation_fits p o a b (lifted s a) (lifted s b) made parts.0 parts.1 (λ m. lifted_fits a m parts.0) (λ m. lifted_fits b m parts.1)
      lifted_fits (IsOf p e t) made h c = let v = operand_fits any_object e (lifted s e) made (k.is_part p e t h) (λ d. lifted_fits e made (k.is_part p e t h) d) in (v.0, k.is_passes p (operand s.numbers any_object e (lifted s e) made).value t v.1)
      lifted_fits (AsOf p e t) made h c = let v = operand_fits any_object e (lifted s e) made (k.as_part p e t h) (λ d. lifted_fits e made (k.as_part p e t h) d) in (v.0, k.as_passes p (operand s.numbers any_object e (lifted s e) made).value t v.1)
      lifted_fits (NegateOf p e) made h c = let v = operand_fits any_object e (lifted s e) made (k.negate_part p e h) (λ d. lifted_fits e made (k.negate_part p e h) d) in (v.0, k.negate_passes p (operand s.numbers any_object e (lifted s e) made).value v.1)
      lifted_fits (NotOf p e) made h c = let v = operand_fits any_object e (lifted s e) made (k.not_part p e h) (λ d. lifted_fits e made (k.not_part p e h) d) in (v.0, k.not_passes p (operand s.numbers any_object e (lifted s e) made).value v.1)
      lifted_fits (CastOf p t non_null e) made h c = let v = operand_fits any_object e (lifted s e) made (k.cast_part p t non_null e h) (λ d. lifted_fits e made (k.cast_part p t non_null e h) d) in (v.0, k.cast_passes p t non_null (operand s.numbers any_object e (lifted s e) made).value v.1)
      lifted_fits (FieldOf p e f t) made h c = let v = operand_fits any_object e (lifted s e) made (k.field_part p e f t c h) (λ d. lifted_fits e made (k.field_part p e f t c h) d) in (v.0, k.field_passes p (operand s.numbers any_object e (lifted s e) made).value f v.1)
      lifted_fits (ElementOf p a b) made h c =
          let parts = k.element_parts p a b h in
          let one = operand s.numbers any_object a (lifted s a) made in
          binary_fits (ElementExpr p) (k.element_passes p) one (operand s.numbers any_object b (lifted s b)) (operand_fits any_object a (lifted s a) made parts.0 (λ d. lifted_fits a made parts.0 d)) (operand_fits any_object b (lifted s b) one.made parts.1 (λ d. lifted_fits b one.made parts.1 d))
      lifted_fits (LengthOf p e) made h c = let v = operand_fits any_object e (lifted s e) made (k.length_part p e h) (λ d. lifted_fits e made (k.length_part p e h) d) in (v.0, k.length_passes p (operand s.numbers any_object e (lifted s e) made).value v.1)
      lifted_fits (NewOf p t es) made h c =
          let given = k.new_parts p t es h in
          let l = operands_fit es (in_temporaries s (types_of_constructor s t) es) made (plain_all es given) (temporaries_fit (types_of_constructor s t) es made given) in (l.0, l.1)
      lifted_fits (NewArrayOf p t e) made h c =
          let part = k.array_part p t e h in
          let f = λ (m : List Ty). and_operands (operand s.numbers any_object e (lifted s e) m) no_operands in
          let l = operands_fit (Argument e NoMore) f made (and_from _ _ (k.plain_passes e part) refl) (and_operands_fit (operand s.numbers any_object e (lifted s e) made) no_operands (operand_fits any_object e (lifted s e) made part (λ d. lifted_fits e made part d)) (refl, refl)) in
          (l.0, only_fits p (operands_of s.numbers (Argument e NoMore) f made).values l.1)
      lifted_fits (CallOf p e m t es) made h c =
          let parts = k.call_parts p e m t es h in
          let ts = types_of_method s (static_class e) m in
          let one = operand s.numbers any_object e (lifted s e) made in
          let f = λ (z : List Ty). and_operands (operand s.numbers any_object e (lifted s e) z) (in_temporaries s ts es) in
          let l = operands_fit (Argument e es) f made (and_from _ _ (k.plain_passes e parts.0) (plain_all es parts.1)) (and_operands_fit one (in_temporaries s ts es) (operand_fits any_object e (lifted s e) made parts.0 (λ d. lifted_fits e made parts.0 d)) (temporaries_fit ts es one.made parts.1)) in
          (l.0, dispatched_fits p (static_class e) m (operands_of s.numbers (Argument e es) f made).values l.1)
      lifted_fits (StaticOf p n t es) made h c =
          let given = k.static_parts p n t es h in
          let ts = types_of_written s n in
          let l = operands_fit es (in_temporaries s ts es) made (plain_all es given) (temporaries_fit ts es made given) in
          (l.0, λ x. k.static_passes p x (number_of_written s.program n) (operands_of s.numbers es (in_temporaries s ts es) made).values l.1)
      lifted_fits (BaseOf p m t es) made h c =
          let given = k.base_parts p m t es h in
          let ts = types_of_method s (above_of s.program s.body.class) m in
          let l = operands_fit es (in_temporaries s ts es) made (plain_all es given) (temporaries_fit ts es made given) in
          (l.0, λ x. k.base_passes p p m t es h x (base_number s m) (operands_of s.numbers es (in_temporaries s ts es) made).values l.1)
      lifted_fits e made h c = (refl, k.plain_passes e h)

      temporaries_fit : (ts : List Ty) (es : Arguments) (made : List Ty) → A es → FitList (in_temporaries s ts es made)
      temporaries_fit ts NoMore made h = (refl, refl)
      temporaries_fit ts (Argument e es) made h =
          let parts = k.argument_parts e es h in
          let one = operand s.numbers (first_type ts) e (lifted s e) made in
          and_operands_fit one (in_temporaries s (other_types ts) es) (operand_fits (first_type ts) e (lifted s e) made parts.0 (λ d. lifted_fits e made parts.0 d)) (temporaries_fit (other_types ts) es one.made parts.1)

    pub right_fits : (e : ExprTree) (made : List Ty) → F e → FitLift (right_side s e made)
    right_fits e made h = lifted_of_fits e (lifted s e) made h (λ c. lifted_fits e made h c)

    pub value_fits : (e : ExprTree) (made : List Ty) → F e → FitValue (value s e made)
    value_fits e made h = valued_fits e (right_side s e made) (right_fits e made h)

    pub arguments_fit : (ts : List Ty) (es : Arguments) (made : List Ty) → A es → FitList (arguments_of s ts es made)
    arguments_fit ts es made h = operands_fit es (in_temporaries s ts es) made (plain_all es h) (temporaries_fit ts es made h)
