-- Paths read from the left have the faults of expressions.
use Rattle.std.proofs.Common.{ℕ, ◌≡◌, List, [], ◌∷◌, ◌++◌, Bool, true, false, cond, Option, Some, None, option_and_then, is_some, refl, sym, ap, ◌∙◌, append-nil, append_assoc}
use Rattle.std.specs.Prelude.{◌||◌}
use Rattle.ss_core.specs.declared.names.Place.{Place}
use Rattle.ss_core.specs.declared.names.Ty.{Ty}
use Rattle.ss_ast.specs.Expressions.{NameTree, ExprTree, IffOf, ImpliesOf, BinaryOf, IsOf, AsOf, NegateOf, NotOf, CastOf, MemberOf, ElementOf, CallOf, NumberOf, TextOf, TruthOf, NullOf, ThisOf, BaseOf, ResultOf, NameOf, ParenOf, OldOf, NewOf, NewArrayOf, QuantifiedOf, Arguments}
use Rattle.ss_tables.specs.Types.{class_of, element_type}
use Rattle.ss_tables.specs.Words.{is_console, is_owner, is_state_word}
use Rattle.ss_tables.specs.Classes.{class_named}
use Rattle.ss_tables.specs.Scopes.{Scope, local_named}
use Rattle.ss_tables.specs.Statics.{Receiver, TheConsole, TheOwner, TheBase, AClass, AValue, is_member, is_known, class_or_value, name_receiver, name_type, read_type, member_callee, call_type, receiver, static, callee}
use Rattle.ss_resolver_names_rules.specs.Faults.{Faults, unless, unknown}
use Rattle.ss_resolver_names_rules.specs.Expressions.{has_member, before_dot, read_faults, called_faults, callee_faults, asked_class, class_argument, class_named_by, expr_faults, arguments_faults}
use Rattle.ss_resolver_names_rules.specs.Prefixes.{Prefix, ABareName, AnOther, prefix_value, prefix_receiver, prefix_callee, prefix_asked, bare_place, member_pending, pending, member_called, called, asked, dotted, prefix, settled}
use Rattle.ss_resolver_scoping.proofs.Readings.{receiver_is}
use Rattle.ss_resolver_names_members.proofs.Appending.{one_more, two_more}

pub asked_is : (s : Scope) (e : ExprTree) → prefix_asked (prefix s e) ≡ class_argument s e
asked_is s (MemberOf p e n) = ap (asked_class n.text) (receiver_is s e)
asked_is s e = refl

-- ---- faults

-- what is known of a bare name before a dot, where it is known or not as a value
abbrev Bare : Receiver → Bool → Type 0
Bare TheConsole b = Unit {0}
Bare TheOwner b = Unit {0}
Bare TheBase b = ⊥
Bare (AClass k) b = b ≡ false
Bare (AValue t) b = Unit {0}

bare_of : (l c o m : Bool) (k : Option ℕ) (t : Option Ty) → Bare (cond l (AValue t) (cond c TheConsole (cond o TheOwner (cond m (AValue t) (class_or_value k t))))) (l || m)
bare_of true c o m k t = tt
bare_of false true o m k t = tt
bare_of false false true m k t = tt
bare_of false false false true k t = tt
bare_of false false false false (Some k) t = refl
bare_of false false false false None t = tt

bare : (s : Scope) (n : List ℕ) (t : Option Ty) → Bare (name_receiver s n t) (is_known s n)
bare s n t = bare_of (is_some (local_named s n)) (is_console n) (is_owner n) (is_member s.classes s.class n) (class_named s.classes n) t

-- a bare name before a dot
name_read : (s : Scope) (p : Place) (m : List ℕ) (n : NameTree) (r : Receiver) → Bare r (is_known s m)
    → [] ++ dotted s (ABareName p m) n r ++ member_pending (Some p) r ≡ before_dot r (unless (is_known s m) (unknown p)) ++ read_faults s n r
name_read s p m n TheConsole h = append-nil _
name_read s p m n TheOwner h = append-nil _
name_read s p m n TheBase h = absurd h
name_read s p m n (AClass k) h = ap (λ b. unless b (unknown p) ++ []) (sym h)
name_read s p m n (AValue t) h = append-nil _

name_called : (s : Scope) (p : Place) (m : List ℕ) (n : NameTree) (r : Receiver) → Bare r (is_known s m)
    → [] ++ dotted s (ABareName p m) n r ++ member_called s (Some p) n r ≡ called_faults s n r (before_dot r (unless (is_known s m) (unknown p)) ++ read_faults s n r)
name_called s p m n TheConsole h = append-nil _
name_called s p m n TheOwner h = append-nil _
name_called s p m n TheBase h = absurd h
name_called s p m n (AClass k) h =
    ap (λ b. cond (is_state_word n.text) (unless b (unknown p) ++ []) (unless (is_member s.classes k n.text) (unknown n.place))) (sym h)
name_called s p m n (AValue t) h = append-nil _

-- a member that an expression with a value doesn't have
abbrev no_member : Scope → NameTree → Option Ty → Faults
no_member s n t = unless (is_state_word n.text || has_member s.classes n.text (option_and_then class_of t)) (unknown n.place)

value_read : (x y u e : Faults) → x ++ y ≡ e → x ++ (y ++ u) ++ [] ≡ e ++ u
value_read x y u e h = append-nil (x ++ (y ++ u)) ∙ sym (append_assoc x y u) ∙ ap (λ l. l ++ u) h

member_read : (s : Scope) (e : ExprTree) (n : NameTree) → settled s e ++ pending s (prefix s e) ≡ expr_faults s e
    → settled s e ++ dotted s (prefix s e) n (prefix_receiver s (prefix s e)) ++ member_pending (bare_place (prefix s e)) (prefix_receiver s (prefix s e))
    ≡ before_dot (prefix_receiver s (prefix s e)) (expr_faults s e) ++ read_faults s n (prefix_receiver s (prefix s e))
member_read s (NameOf p m) n h = name_read s p m n (name_receiver s m (name_type s m)) (bare s m (name_type s m))
member_read s (BaseOf p) n h = refl
member_read s e n h = value_read (settled s e) (pending s (prefix s e)) (no_member s n (prefix_value s (prefix s e))) (expr_faults s e) h

member_is_called : (s : Scope) (e : ExprTree) (n : NameTree) → settled s e ++ pending s (prefix s e) ≡ expr_faults s e
    → settled s e ++ dotted s (prefix s e) n (prefix_receiver s (prefix s e)) ++ member_called s (bare_place (prefix s e)) n (prefix_receiver s (prefix s e))
    ≡ called_faults s n (prefix_receiver s (prefix s e)) (before_dot (prefix_receiver s (prefix s e)) (expr_faults s e) ++ read_faults s n (prefix_receiver s (prefix s e)))
member_is_called s (NameOf p m) n h = name_called s p m n (name_receiver s m (name_type s m)) (bare s m (name_type s m))
member_is_called s (BaseOf p) n h = refl
member_is_called s e n h = value_read (settled s e) (pending s (prefix s e)) (no_member s n (prefix_value s (prefix s e))) (expr_faults s e) h

mutual
  pub value_faults : (s : Scope) (e : ExprTree) → settled s e ++ pending s (prefix s e) ≡ expr_faults s e
  value_faults s (NameOf p n) = refl
  value_faults s (BaseOf p) = refl
  value_faults s (MemberOf p e n) =
      member_read s e n (value_faults s e) ∙ ap (λ r. before_dot r (expr_faults s e) ++ read_faults s n r) (receiver_is s e)
  value_faults s (ElementOf p e i) = append-nil _ ∙ ap (λ l. l ++ expr_faults s i) (value_faults s e)
  value_faults s (CallOf p e es) =
      append-nil _ ∙ ap (λ l. l ++ arguments_faults s (prefix_asked (prefix s e)) es) (called_value s e)
      ∙ ap (λ a. callee_faults s e (expr_faults s e) ++ arguments_faults s a es) (asked_is s e)
  value_faults s e = append-nil (expr_faults s e)

  pub called_value : (s : Scope) (e : ExprTree) → settled s e ++ called s (prefix s e) ≡ callee_faults s e (expr_faults s e)
  called_value s (NameOf p n) = refl
  called_value s (BaseOf p) = refl
  called_value s (MemberOf p e n) =
      member_is_called s e n (value_faults s e)
      ∙ ap (λ r. called_faults s n r (before_dot r (expr_faults s e) ++ read_faults s n r)) (receiver_is s e)
  called_value s (ElementOf p e i) = append-nil _ ∙ ap (λ l. l ++ expr_faults s i) (value_faults s e)
  called_value s (CallOf p e es) =
      append-nil _ ∙ ap (λ l. l ++ arguments_faults s (prefix_asked (prefix s e)) es) (called_value s e)
      ∙ ap (λ a. callee_faults s e (expr_faults s e) ++ arguments_faults s a es) (asked_is s e)
  called_value s e = append-nil (expr_faults s e)

pub asked_value : (s : Scope) (e : ExprTree) → settled s e ++ asked s (prefix s e) ≡ class_named_by s e (expr_faults s e)
asked_value s (NameOf p n) = refl
asked_value s e = value_faults s e

-- ---- what a reader that goes along a path has noted

pub read_noted : (s : Scope) (e : ExprTree) (found mid new : Faults) (x : Prefix) → mid ≡ found ++ settled s e → x ≡ prefix s e → new ≡ mid ++ pending s x → new ≡ found ++ expr_faults s e
read_noted s e found mid new x m p n =
    one_more found mid new (settled s e) (pending s (prefix s e)) m (n ∙ ap (λ y. mid ++ pending s y) p) ∙ ap (λ f. found ++ f) (value_faults s e)

pub asked_noted : (s : Scope) (e : ExprTree) (found mid new : Faults) (x : Prefix) → mid ≡ found ++ settled s e → x ≡ prefix s e → new ≡ mid ++ asked s x → new ≡ found ++ class_named_by s e (expr_faults s e)
asked_noted s e found mid new x m p n =
    one_more found mid new (settled s e) (asked s (prefix s e)) m (n ∙ ap (λ y. mid ++ asked s y) p) ∙ ap (λ f. found ++ f) (asked_value s e)

pub member_noted : (s : Scope) (p : Place) (e : ExprTree) (n : NameTree) (found old new : Faults) (x : Prefix) → old ≡ found ++ settled s e → x ≡ prefix s e → new ≡ old ++ dotted s x n (prefix_receiver s x) → new ≡ found ++ settled s (MemberOf p e n)
member_noted s p e n found old new x o b d =
    one_more found old new (settled s e) (dotted s (prefix s e) n (prefix_receiver s (prefix s e))) o (d ∙ ap (λ y. old ++ dotted s y n (prefix_receiver s y)) b)

pub element_noted : (s : Scope) (p : Place) (e i : ExprTree) (found old mid new : Faults) (x : Prefix) → old ≡ found ++ settled s e → x ≡ prefix s e → mid ≡ old ++ pending s x → new ≡ mid ++ expr_faults s i → new ≡ found ++ settled s (ElementOf p e i)
element_noted s p e i found old mid new x o b d c =
    two_more found old mid new (settled s e) (pending s (prefix s e)) (expr_faults s i) o (d ∙ ap (λ y. old ++ pending s y) b) c

pub call_noted : (s : Scope) (p : Place) (e : ExprTree) (es : Arguments) (found old mid new : Faults) (x : Prefix) → old ≡ found ++ settled s e → x ≡ prefix s e → mid ≡ old ++ called s x → new ≡ mid ++ arguments_faults s (prefix_asked x) es → new ≡ found ++ settled s (CallOf p e es)
call_noted s p e es found old mid new x o b d c =
    two_more found old mid new (settled s e) (called s (prefix s e)) (arguments_faults s (prefix_asked (prefix s e)) es) o (d ∙ ap (λ y. old ++ called s y) b)
    (c ∙ ap (λ y. mid ++ arguments_faults s (prefix_asked y) es) b)

-- a link reads what stands before it
pub link_noted : (s : Scope) (e : ExprTree) (found old mid new y : Faults) (x : Prefix) → old ≡ found ++ settled s e → x ≡ prefix s e → mid ≡ old ++ pending s x → new ≡ mid ++ y → new ≡ found ++ (expr_faults s e ++ y)
link_noted s e found old mid new y x o b d n = one_more found mid new (expr_faults s e) y (read_noted s e found old mid x o b d) n

-- an expression that begins nothing, by a form of it that says so
pub link_begun : (s : Scope) (u v : ExprTree) (t : Option Ty) → u ≡ v → AnOther (static s v) ≡ prefix s v → t ≡ static s u → AnOther t ≡ prefix s u
link_begun s u v t is begun h = ap AnOther h ∙ ap (λ w. AnOther (static s w)) is ∙ begun ∙ ap (prefix s) (sym is)
