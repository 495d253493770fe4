-- What stands before a dot, in an expression without faults of names and types.
use Rattle.std.proofs.Common.{◌≡◌, ℕ, [], Bool, true, false, Option, Some, None, refl, sym, ◌∙◌, ap}
use Rattle.std.specs.Prelude.{◌||◌, is_some, if◌then◌else◌}
use Rattle.ss_core.specs.declared.names.Ty.{Ty}
use Rattle.ss_ast.specs.Expressions.{ExprTree, NameOf, BaseOf}
use Rattle.ss_tables.specs.Classes.{class_named}
use Rattle.ss_tables.specs.Words.{is_console, is_owner}
use Rattle.ss_tables.specs.Scopes.{Scope, local_named}
use Rattle.ss_tables.specs.Statics.{Receiver, TheConsole, TheOwner, AClass, AValue, is_member, class_or_value, receiver, static}
use Rattle.ss_resolver_names_rules.specs.Faults.{unless, unknown}
use Rattle.ss_resolver_names_rules.specs.Expressions.{expr_faults}
use Rattle.ss_resolver_types_heads.specs.Expressions.{AsValue, BeforeDot, name_faults, is_value_receiver, faults}
use Rattle.ss_expand_formed.proofs.ExpressionsScopes.{refusing, expr_context, receiver_alike}

-- a bare name before a dot, by what it may be
abbrev name_is : Bool → Bool → Bool → Bool → Option ℕ → Option Ty → Receiver
name_is l c o m k v = if l then AValue v else if c then TheConsole else if o then TheOwner else if m then AValue v else class_or_value k v

module _ (stat condition lacks : Bool) (s : Scope) (free : s ≡ refusing false false s) where
  pub receiver_of : (members this : Bool) → (stat ≡ false → (members ≡ false) × (this ≡ false)) → (y : ExprTree) → faults (expr_context stat condition lacks s) BeforeDot y ≡ [] → receiver (refusing members this s) y (static (refusing members this s) y) ≡ receiver s y (static s y)
  receiver_of members this only y h = by stat only h ∙ ap (λ z. receiver z y (static z y)) (sym free)
    where
      by : (b : Bool) → (b ≡ false → (members ≡ false) × (this ≡ false)) → faults (expr_context b condition lacks s) BeforeDot y ≡ [] → receiver (refusing members this s) y (static (refusing members this s) y) ≡ receiver (refusing false false s) y (static (refusing false false s) y)
      by true o g = receiver_alike condition lacks members this s y g
      by false o g = let e = o refl in rw (e.0, e.1) refl

value_same : (t u : Option Ty) → AValue t ≡ AValue u → u ≡ t
value_same t u h = let e : t ≡ u = cc in sym e

module _ (stat condition lacks : Bool) (s : Scope) where
  -- a value before a dot has no fault as a value
  pub value_faults : (y : ExprTree) (t : Option Ty) → receiver s y (static s y) ≡ AValue t → faults (expr_context stat condition lacks s) BeforeDot y ≡ [] → (faults (expr_context stat condition lacks s) AsValue y ≡ []) × (t ≡ static s y)
  value_faults (NameOf q m) t r h = by (is_some (local_named s m)) (is_console m) (is_owner m) (is_member s.classes s.class m) (class_named s.classes m) (static s (NameOf q m)) r h
    where
      by : (l c o b : Bool) (k : Option ℕ) (v : Option Ty) → name_is l c o b k v ≡ AValue t → (if is_value_receiver (name_is l c o b k None) then name_faults (expr_context stat condition lacks s) q m else []) ≡ [] → (name_faults (expr_context stat condition lacks s) q m ≡ []) × (t ≡ v)
      by true c o b k v e g = (g, value_same v t e)
      by false true o b k v e g = absurd (let z : ⊥ = cc in z)
      by false false true b k v e g = absurd (let z : ⊥ = cc in z)
      by false false false true k v e g = (g, value_same v t e)
      by false false false false (Some k) v e g = absurd (let z : ⊥ = cc in z)
      by false false false false None v e g = (g, value_same v t e)
  value_faults (BaseOf q) t r h = absurd (let z : ⊥ = cc in z)
  value_faults y t r h = (h, value_same (static s y) t r)

-- before a dot a class is named by a name that is unknown as a value
pub class_unknown : (s : Scope) (y : ExprTree) (k : ℕ) → receiver s y (static s y) ≡ AClass k → expr_faults s y ≡ [] → ⊥
class_unknown s (NameOf q m) k r h = by (is_some (local_named s m)) (is_console m) (is_owner m) (is_member s.classes s.class m) (class_named s.classes m) (static s (NameOf q m)) r h
  where
    by : (l c o b : Bool) (j : Option ℕ) (v : Option Ty) → name_is l c o b j v ≡ AClass k → unless (l || b) (unknown q) ≡ [] → ⊥
    by true c o b j v e g = cc
    by false true o b j v e g = cc
    by false false true b j v e g = cc
    by false false false true j v e g = cc
    by false false false false (Some i) v e g = cc
    by false false false false None v e g = cc
class_unknown s (BaseOf q) k r h = cc
class_unknown s y k r h = cc
