-- Conditions as a caller sees them.
use Rattle.std.proofs.Common.{◌≡◌, Bool, true, false, List, [], ◌∷◌, map, refl, sym, ap, ◌∙◌, true≢false}
use Rattle.std.specs.Prelude.{if◌then◌else◌}
use Rattle.ss_core.specs.declared.expr.Expr.TheOpen as shape
use Rattle.ss_core.specs.declared.expr.Expr.TheOpen.{Link-F, Step-F}
use Rattle.ss_core.specs.declared.names.Place.{Place}
use Rattle.ss_core.specs.Tree.{AtLevel, Unpacked, ThisUnowned, Defaults, OwnedFull, Full, ConsistentArgument, FullArgument, Captured, ExprTree, IntExpr, BoolExpr, NullExpr, LocalExpr, FieldExpr, ElementExpr, LengthExpr, NegateExpr, NotExpr, BinaryExpr, ImpliesExpr, IffExpr, IsExpr, AsExpr, CastExpr, OldExpr, QuantifiedExpr, StateExpr, OwnersExpr, DefaultExpr}
use Rattle.ss_core.specs.View.{Behind, link_step, step_step}
use Rattle.ss_logic.specs.Express.{and_of, default_said, holds_formula, Context}
use Rattle.ss_vcgen_heaps.specs.Contracts.{seen_condition}
use Rattle.ss_vcgen_contracts.specs.Seen.{is_at_level, condition_of}

pub link_no_level : (s : Link-F ExprTree Behind Behind) (p : Place) (t : ExprTree) → is_at_level (link_step s p t) ≡ false
link_no_level (shape.Operation o b) p t = refl
link_no_level (shape.Is c) p t = refl
link_no_level (shape.As c) p t = refl

pub step_no_level : (s : Step-F ExprTree Behind Behind) (p : Place) (t : ExprTree) → is_at_level (step_step s p t) ≡ false
step_no_level (shape.Field f) p t = refl
step_no_level (shape.Element i) p t = refl
step_no_level shape.Length p t = refl

no_level : {X : Type 0} → false ≡ true → X
no_level h = absurd (true≢false (sym h))

-- the condition that `this` is at a level is seen as that it is consistent
pub level_seen : (e : ExprTree) (c : Context) → is_at_level e ≡ true → holds_formula (seen_condition e) c ≡ and_of (default_said c (ConsistentArgument 0) ∷ [])
level_seen (DefaultExpr p (AtLevel t)) c h = refl
level_seen (DefaultExpr p Unpacked) c h = no_level h
level_seen (DefaultExpr p ThisUnowned) c h = no_level h
level_seen (DefaultExpr p (Defaults t)) c h = no_level h
level_seen (DefaultExpr p (OwnedFull t)) c h = no_level h
level_seen (DefaultExpr p Full) c h = no_level h
level_seen (DefaultExpr p (ConsistentArgument x)) c h = no_level h
level_seen (DefaultExpr p (FullArgument x)) c h = no_level h
level_seen (DefaultExpr p (Captured x a)) c h = no_level h
level_seen (IntExpr p n) c h = no_level h
level_seen (BoolExpr p b) c h = no_level h
level_seen (NullExpr p) c h = no_level h
level_seen (LocalExpr p x) c h = no_level h
level_seen (FieldExpr p e f) c h = no_level h
level_seen (ElementExpr p a i) c h = no_level h
level_seen (LengthExpr p e) c h = no_level h
level_seen (NegateExpr p e) c h = no_level h
level_seen (NotExpr p e) c h = no_level h
level_seen (BinaryExpr p o a b) c h = no_level h
level_seen (ImpliesExpr p a b) c h = no_level h
level_seen (IffExpr p a b) c h = no_level h
level_seen (IsExpr p e t) c h = no_level h
level_seen (AsExpr p e t) c h = no_level h
level_seen (CastExpr p t n e) c h = no_level h
level_seen (OldExpr p e) c h = no_level h
level_seen (QuantifiedExpr p q n l u e) c h = no_level h
level_seen (StateExpr p w e) c h = no_level h
level_seen (OwnersExpr p w a b) c h = no_level h

-- each other condition is seen as it is
pub others_seen : (e : ExprTree) → is_at_level e ≡ false → seen_condition e ≡ e
others_seen (DefaultExpr p (AtLevel t)) h = absurd (true≢false h)
others_seen (DefaultExpr p Unpacked) h = refl
others_seen (DefaultExpr p ThisUnowned) h = refl
others_seen (DefaultExpr p (Defaults t)) h = refl
others_seen (DefaultExpr p (OwnedFull t)) h = refl
others_seen (DefaultExpr p Full) h = refl
others_seen (DefaultExpr p (ConsistentArgument x)) h = refl
others_seen (DefaultExpr p (FullArgument x)) h = refl
others_seen (DefaultExpr p (Captured x a)) h = refl
others_seen (IntExpr p n) h = refl
others_seen (BoolExpr p b) h = refl
others_seen (NullExpr p) h = refl
others_seen (LocalExpr p x) h = refl
others_seen (FieldExpr p e f) h = refl
others_seen (ElementExpr p a i) h = refl
others_seen (LengthExpr p e) h = refl
others_seen (NegateExpr p e) h = refl
others_seen (NotExpr p e) h = refl
others_seen (BinaryExpr p o a b) h = refl
others_seen (ImpliesExpr p a b) h = refl
others_seen (IffExpr p a b) h = refl
others_seen (IsExpr p e t) h = refl
others_seen (AsExpr p e t) h = refl
others_seen (CastExpr p t n e) h = refl
others_seen (OldExpr p e) h = refl
others_seen (QuantifiedExpr p q n l u e) h = refl
others_seen (StateExpr p w e) h = refl
others_seen (OwnersExpr p w a b) h = refl

-- as it is written, or where it isn't that condition
pub condition_is : (seen at : Bool) (e : ExprTree) → at ≡ is_at_level e → (if seen then at else false) ≡ false → condition_of seen e ≡ e
condition_is false at e h k = refl
condition_is true at e h k = others_seen e (sym h ∙ k)

pub level_is : (seen : Bool) (e : ExprTree) (c : Context) → (if seen then is_at_level e else false) ≡ true → holds_formula (condition_of seen e) c ≡ and_of (default_said c (ConsistentArgument 0) ∷ [])
level_is true e c h = level_seen e c h
level_is false e c h = no_level h

pub unseen : (es : List ExprTree) → map (condition_of false) es ≡ es
unseen [] = refl
unseen (e ∷ es) = ap (λ xs. e ∷ xs) (unseen es)
