-- Paths read from the left have the faults of expressions, and as much is known of them.
use Rattle.std.proofs.Common.{◌≡◌, ◌++◌, ◌+◌, ℕ, List, [], ◌∷◌, Bool, Option, option_and_then, refl, sym, ap, subst, ◌∙◌, append_assoc, append-nil}
use Rattle.std.specs.Prelude.{not}
use Rattle.ss_core.specs.declared.names.Place.{Place}
use Rattle.ss_core.specs.declared.names.Ty.{Ty}
use Rattle.ss_core.specs.declared.expr.Operator.{Operator}
use Rattle.ss_ast.specs.declared.expr.Expr.{Expr}
use Rattle.ss_ast.specs.declared.expr.TypeRef.{TypeRef}
use Rattle.ss_ast.specs.declared.expr.Link.{Link}
use Rattle.ss_ast.specs.declared.expr.Link.TheVariants as link
use Rattle.ss_ast.specs.Expressions.{NameTree, TypeTree, ExprTree, Arguments, BinaryOf, IsOf, AsOf, MemberOf, ElementOf, CallOf, BaseOf, NameOf, expr_tree, type_tree}
use Rattle.ss_ast.specs.Parts.{link_after}
use Rattle.ss_ast.proofs.Grouping.{operation_is, is_is, as_is}
use Rattle.ss_tables.specs.Types.{class_of, element_type}
use Rattle.ss_tables.specs.Scopes.{Scope}
use Rattle.ss_tables.specs.Statics.{Callee, callee, count, receiver, static}
use Rattle.ss_faults.specs.declared.Fault.{Fault}
use Rattle.ss_resolver_types_heads.specs.declared.heads.Form.TheVariants as form
use Rattle.ss_resolver_types_heads.specs.Wants.{Want, AnInt, AReference, AnArray, Known, known, misfit}
use Rattle.ss_resolver_types_heads.specs.Calls.{ExprContext, Called, called, whole_call, argument_wants}
use Rattle.ss_resolver_types_heads.specs.Expressions.{AsValue, BeforeDot, AsCallee, faults, faults_as, word_faults, is_question, operand, operand_faults, no_class, condition_faults, argument_faults}
use Rattle.ss_resolver_types_heads.specs.Heads.{Head, AMember, AValueOf, ending, value_at, known_at, receiver_at, callee_at, called_at, rest_read, rest_dot, rest_as, IsWalked, Leads, dotted, dot_faults, element, call, call_faults, operation_faults, class_test_faults}

-- ---- what is known of a head is known of the expression

pub known_is : (s : Scope) (e : ExprTree) → known_at s (ending s e) ≡ known s e
known_is s (NameOf p n) = refl
known_is s e = refl

pub receiver_is : (s : Scope) (e : ExprTree) → receiver_at s (ending s e) ≡ receiver s e (static s e)
receiver_is s (NameOf p n) = refl
receiver_is s e = refl

pub callee_is : (s : Scope) (e : ExprTree) → callee_at s (ending s e) ≡ callee s e
callee_is s (NameOf p n) = refl
callee_is s e = refl

pub called_is : (a : ExprContext) (n : ℕ) (e : ExprTree) → called_at a n (ending a.scope e) ≡ called a n e
called_is a n (NameOf p x) = refl
called_is a n e = refl

-- ---- its faults

pub read_is : (a : ExprContext) (e : ExprTree) → faults a AsCallee e ++ rest_read a (ending a.scope e) ≡ faults a AsValue e
read_is a (NameOf p n) = refl
read_is a (BaseOf p) = refl
read_is a (MemberOf p e n) = ap (λ (l : List Fault). l ++ rest_read a (ending a.scope (MemberOf p e n))) (append-nil (faults a BeforeDot e ++ word_faults a.scope.classes (known a.scope e) n.text (receiver a.scope e (static a.scope e))))
read_is a e = append-nil (faults a AsCallee e)

pub dot_is : (a : ExprContext) (e : ExprTree) → faults a AsCallee e ++ rest_dot a (ending a.scope e) ≡ faults a BeforeDot e
dot_is a (NameOf p n) = refl
dot_is a (BaseOf p) = refl
dot_is a (MemberOf p e n) = ap (λ (l : List Fault). l ++ rest_dot a (ending a.scope (MemberOf p e n))) (append-nil (faults a BeforeDot e ++ word_faults a.scope.classes (known a.scope e) n.text (receiver a.scope e (static a.scope e))))
dot_is a e = append-nil (faults a AsCallee e)

-- one list after another
pub joined : (before mid now x y : List Fault) → mid ≡ before ++ x → now ≡ mid ++ y → now ≡ before ++ (x ++ y)
joined before mid now x y p q = q ∙ ap (λ l. l ++ y) p ∙ append_assoc before x y

pub read_noted : (a : ExprContext) (before f0 f1 : List Fault) (h : Head) (e : ExprTree) → IsWalked a before f0 h e → f1 ≡ f0 ++ rest_read a h → f1 ≡ before ++ faults a AsValue e
read_noted a before f0 f1 h e w q =
    joined before f0 f1 (faults a AsCallee e) (rest_read a h) w.noted q
    ∙ ap (λ x. before ++ (faults a AsCallee e ++ rest_read a x)) w.is
    ∙ ap (λ l. before ++ l) (read_is a e)

pub dot_noted : (a : ExprContext) (before f0 f1 : List Fault) (h : Head) (e : ExprTree) → IsWalked a before f0 h e → f1 ≡ f0 ++ rest_dot a h → f1 ≡ before ++ faults a BeforeDot e
dot_noted a before f0 f1 h e w q =
    joined before f0 f1 (faults a AsCallee e) (rest_dot a h) w.noted q
    ∙ ap (λ x. before ++ (faults a AsCallee e ++ rest_dot a x)) w.is
    ∙ ap (λ l. before ++ l) (dot_is a e)

pub known_here : (a : ExprContext) (before f0 : List Fault) (h : Head) (e : ExprTree) → IsWalked a before f0 h e → known_at a.scope h ≡ known a.scope e
known_here a before f0 h e w = ap (known_at a.scope) w.is ∙ known_is a.scope e

pub as_noted : (a : ExprContext) (want : Want) (before f0 f1 : List Fault) (h : Head) (e : ExprTree) → IsWalked a before f0 h e → f1 ≡ f0 ++ rest_as a want h → f1 ≡ before ++ faults_as a want e
as_noted a want before f0 f1 h e w q =
    joined before (f0 ++ rest_read a h) f1 (faults a AsValue e) (misfit a.scope.classes want (known_at a.scope h))
    (read_noted a before f0 (f0 ++ rest_read a h) h e w refl)
    (q ∙ sym (append_assoc f0 (rest_read a h) (misfit a.scope.classes want (known_at a.scope h))))
    ∙ ap (λ v. before ++ (faults a AsValue e ++ misfit a.scope.classes want v)) (known_here a before f0 h e w)

pub test_noted : (a : ExprContext) (before f0 f1 : List Fault) (h : Head) (e : ExprTree) (t : TypeTree) → IsWalked a before f0 h e → f1 ≡ f0 ++ class_test_faults a h t → f1 ≡ before ++ (faults_as a AReference e ++ no_class t)
test_noted a before f0 f1 h e t w q =
    joined before (f0 ++ rest_as a AReference h) f1 (faults_as a AReference e) (no_class t)
    (as_noted a AReference before f0 (f0 ++ rest_as a AReference h) h e w refl)
    (q ∙ sym (append_assoc f0 (rest_as a AReference h) (no_class t)))

regrouped : (w x y z : List Fault) → w ++ ((x ++ y) ++ z) ≡ ((w ++ x) ++ y) ++ z
regrouped w x y z = sym (append_assoc w (x ++ y) z) ∙ ap (λ l. l ++ z) (sym (append_assoc w x y))

-- ---- one part more

pub member_walked : (a : ExprContext) (before f0 f1 : List Fault) (h out : Head) (e : ExprTree) (p : Place) (n : NameTree)
    → out ≡ dotted a.scope p h n → IsWalked a before f0 h e → f1 ≡ f0 ++ dot_faults a h n → IsWalked a before f1 out (MemberOf p e n)
member_walked a before f0 f1 h out e p n o w q = record {
  is = o ∙ ap (λ x. dotted a.scope p x n) w.is ∙ at_head;
  noted =
      joined before (f0 ++ rest_dot a h) f1 (faults a BeforeDot e) (word_faults a.scope.classes (known_at a.scope h) n.text (receiver_at a.scope h))
      (dot_noted a before f0 (f0 ++ rest_dot a h) h e w refl)
      (q ∙ sym (append_assoc f0 (rest_dot a h) (word_faults a.scope.classes (known_at a.scope h) n.text (receiver_at a.scope h))))
      ∙ ap (λ x. before ++ (faults a BeforeDot e ++ word_faults a.scope.classes (known_at a.scope x) n.text (receiver_at a.scope x))) w.is
      ∙ ap (λ v. before ++ (faults a BeforeDot e ++ word_faults a.scope.classes v n.text (receiver_at a.scope (ending a.scope e)))) (known_is a.scope e)
      ∙ ap (λ r. before ++ (faults a BeforeDot e ++ word_faults a.scope.classes (known a.scope e) n.text r)) (receiver_is a.scope e)
      ∙ ap (λ l. before ++ l) (sym (append-nil (faults a BeforeDot e ++ word_faults a.scope.classes (known a.scope e) n.text (receiver a.scope e (static a.scope e)))));
}
  where
    at_head : dotted a.scope p (ending a.scope e) n ≡ ending a.scope (MemberOf p e n)
    at_head =
        ap (λ v. AMember p (receiver_at a.scope (ending a.scope e)) v n) (known_is a.scope e)
        ∙ ap (λ r. AMember p r (known a.scope e) n) (receiver_is a.scope e)

pub element_walked : (a : ExprContext) (before f0 f1 f2 : List Fault) (h out : Head) (e i : ExprTree) (p : Place)
    → out ≡ element a.scope p h → IsWalked a before f0 h e → f1 ≡ f0 ++ rest_as a AnArray h → f2 ≡ f1 ++ faults_as a AnInt i
    → IsWalked a before f2 out (ElementOf p e i)
element_walked a before f0 f1 f2 h out e i p o w q r = record {
  is = o ∙ ap (λ (v : Known). AValueOf form.Element (value_at p (option_and_then element_type (option_and_then class_of v.ty)))) (known_here a before f0 h e w);
  noted = joined before f1 f2 (faults_as a AnArray e) (faults_as a AnInt i) (as_noted a AnArray before f0 f1 h e w q) r;
}

pub call_walked : (a : ExprContext) (before f0 f1 : List Fault) (h out : Head) (f : ExprTree) (p : Place) (es : Arguments)
    → out ≡ call a.scope.classes p (count es) (callee_at a.scope h) → IsWalked a before f0 h f → f1 ≡ f0 ++ call_faults a p (not (is_question (callee_at a.scope h))) (called_at a (count es) h) es
    → IsWalked a before f1 out (CallOf p f es)
call_walked a before f0 f1 h out f p es o w q = record {
  is = o ∙ ap (call a.scope.classes p (count es)) same_callee;
  noted =
      joined before f0 f1 (faults a AsCallee f) (call_faults a p (not (is_question (callee_at a.scope h))) (called_at a (count es) h) es) w.noted q
      ∙ ap (λ c. before ++ (faults a AsCallee f ++ call_faults a p (not (is_question c)) (called_at a (count es) h) es)) same_callee
      ∙ ap (λ c. before ++ (faults a AsCallee f ++ call_faults a p (not (is_question (callee a.scope f))) c es)) same_called
      ∙ ap (λ l. before ++ l) (regrouped (faults a AsCallee f) (condition_faults a p (not (is_question (callee a.scope f)))) (whole_call p (count es) (called a (count es) f)) (argument_faults a (argument_wants (count es) (called a (count es) f)) es));
}
  where
    same_callee : callee_at a.scope h ≡ callee a.scope f
    same_callee = ap (callee_at a.scope) w.is ∙ callee_is a.scope f

    same_called : called_at a (count es) h ≡ called a (count es) f
    same_called = ap (called_at a (count es)) w.is ∙ called_is a (count es) f

pub operation_walked : (a : ExprContext) (before f0 f1 f2 f3 : List Fault) (h out : Head) (e f : ExprTree) (p : Place) (o : Operator)
    → out ≡ AValueOf form.Other (value_at p (static a.scope (BinaryOf p o e f))) → IsWalked a before f0 h e → f1 ≡ f0 ++ rest_read a h → f2 ≡ f1 ++ faults a AsValue f
    → f3 ≡ f2 ++ operand_faults a.scope.classes p (operand o) (known_at a.scope h) (known a.scope f)
    → IsWalked a before f3 out (BinaryOf p o e f)
operation_walked a before f0 f1 f2 f3 h out e f p o b w q r t = record {
  is = b;
  noted =
      joined before f2 f3 (faults a AsValue e ++ faults a AsValue f) (operand_faults a.scope.classes p (operand o) (known_at a.scope h) (known a.scope f))
      (joined before f1 f2 (faults a AsValue e) (faults a AsValue f) (read_noted a before f0 f1 h e w q) r) t
      ∙ ap (λ v. before ++ (faults a AsValue e ++ faults a AsValue f ++ operand_faults a.scope.classes p (operand o) v (known a.scope f))) (known_here a before f0 h e w);
}

pub is_walked : (a : ExprContext) (before f0 f1 : List Fault) (h out : Head) (e : ExprTree) (p : Place) (t : TypeTree)
    → out ≡ AValueOf form.Other (value_at p (static a.scope (IsOf p e t))) → IsWalked a before f0 h e → f1 ≡ f0 ++ class_test_faults a h t
    → IsWalked a before f1 out (IsOf p e t)
is_walked a before f0 f1 h out e p t o w q = record { is = o; noted = test_noted a before f0 f1 h e t w q }

pub as_walked : (a : ExprContext) (before f0 f1 : List Fault) (h out : Head) (e : ExprTree) (p : Place) (t : TypeTree)
    → out ≡ AValueOf form.Other (value_at p (static a.scope (AsOf p e t))) → IsWalked a before f0 h e → f1 ≡ f0 ++ class_test_faults a h t
    → IsWalked a before f1 out (AsOf p e t)
as_walked a before f0 f1 h out e p t o w q = record { is = o; noted = test_noted a before f0 f1 h e t w q }

-- ---- one part more, after any expression

pub dot_leads : (a : ExprContext) (f0 f1 : List Fault) (h out : Head) (p : Place) (n : NameTree)
    → out ≡ dotted a.scope p h n → f1 ≡ f0 ++ dot_faults a h n → Leads a f0 h f1 out (λ e. MemberOf p e n)
dot_leads a f0 f1 h out p n o q = record { on = λ e before w. member_walked a before f0 f1 h out e p n o w q }

pub element_leads : (a : ExprContext) (f0 f1 f2 : List Fault) (h out : Head) (p : Place) (i : ExprTree)
    → out ≡ element a.scope p h → f1 ≡ f0 ++ rest_as a AnArray h → f2 ≡ f1 ++ faults_as a AnInt i → Leads a f0 h f2 out (λ e. ElementOf p e i)
element_leads a f0 f1 f2 h out p i o q r = record { on = λ e before w. element_walked a before f0 f1 f2 h out e i p o w q r }

pub call_leads : (a : ExprContext) (f0 f1 : List Fault) (h out : Head) (p : Place) (es : Arguments) (k : Callee) (b : Bool) (d : Called) (n : ℕ)
    → k ≡ callee_at a.scope h → b ≡ is_question k → n ≡ count es → d ≡ called_at a n h
    → out ≡ call a.scope.classes p n k → f1 ≡ f0 ++ call_faults a p (not b) d es → Leads a f0 h f1 out (λ e. CallOf p e es)
call_leads a f0 f1 h out p es k b d n k_is b_is n_is d_is o q =
    let made = o ∙ ap (λ m. call a.scope.classes p m k) n_is ∙ ap (call a.scope.classes p (count es)) k_is in
    let found =
    q ∙ ap (λ x. f0 ++ call_faults a p (not x) d es) (b_is ∙ ap is_question k_is)
    ∙ ap (λ x. f0 ++ call_faults a p (not (is_question (callee_at a.scope h))) x es) (d_is ∙ ap (λ m. called_at a m h) n_is) in
    record { on = λ e before w. call_walked a before f0 f1 h out e p es made w found }

-- ---- a link more, after any expression

-- what stands after, by its form
led : (a : ExprContext) (f0 f1 : List Fault) (h out : Head) (behind shape : ExprTree → ExprTree) → ((e : ExprTree) → behind e ≡ shape e)
    → Leads a f0 h f1 out shape → Leads a f0 h f1 out behind
led a f0 f1 h out behind shape same leads = record { on = λ e before w. subst (λ (u : ExprTree). IsWalked a before f1 out u) (sym (same e)) (leads.on e before w) }

-- what is known of it, where its type is that of each expression with the link after it
typed : (s : Scope) (p : Place) (t : Option Ty) (out : Head) (behind shape : ExprTree → ExprTree) → ((e : ExprTree) → behind e ≡ shape e)
    → out ≡ AValueOf form.Other (value_at p t) → ((e : ExprTree) → t ≡ static s (behind e)) → (e : ExprTree) → out ≡ AValueOf form.Other (value_at p (static s (shape e)))
typed s p t out behind shape same made is e = made ∙ ap (λ (u : Option Ty). AValueOf form.Other (value_at p u)) (is e ∙ ap (static s) (same e))

-- the faults of an operation, noted one after another
pub operation_noted : (a : ExprContext) (f0 f1 f2 f3 : List Fault) (h : Head) (p : Place) (want : Option Want) (f : ExprTree) (v w : Known)
    → v ≡ known_at a.scope h → f1 ≡ f0 ++ rest_read a h → w ≡ known a.scope f → f2 ≡ f1 ++ faults a AsValue f → f3 ≡ f2 ++ operand_faults a.scope.classes p want v w
    → f3 ≡ f0 ++ operation_faults a p want h f
operation_noted a f0 f1 f2 f3 h p want f v w left q right r t =
    joined f0 f2 f3 (rest_read a h ++ faults a AsValue f) (operand_faults a.scope.classes p want (known_at a.scope h) (known a.scope f))
    (joined f0 f1 f2 (rest_read a h) (faults a AsValue f) q r)
    (t ∙ ap (λ x. f2 ++ operand_faults a.scope.classes p want x w) left ∙ ap (λ x. f2 ++ operand_faults a.scope.classes p want (known_at a.scope h) x) right)

pub operation_leads : (a : ExprContext) (f0 f1 : List Fault) (h out : Head) (l : Link) (p : Place) (o : Operator) (b : Expr) (t : Option Ty)
    → l ≡ link.Operation o b → out ≡ AValueOf form.Other (value_at p t) → ((e : ExprTree) → t ≡ static a.scope (link_after l p e))
    → f1 ≡ f0 ++ operation_faults a p (operand o) h (expr_tree b) → Leads a f0 h f1 out (link_after l p)
operation_leads a f0 f1 h out l p o b t is made has_type noted =
    let f = expr_tree b in
    let read = f0 ++ rest_read a h in
    let same : (e : ExprTree) → link_after l p e ≡ BinaryOf p o e f = λ e. ap (λ (m : Link). link_after m p e) is ∙ operation_is o b p e in
    let put = noted ∙ regrouped f0 (rest_read a h) (faults a AsValue f) (operand_faults a.scope.classes p (operand o) (known_at a.scope h) (known a.scope f)) in
    led a f0 f1 h out (link_after l p) (λ e. BinaryOf p o e f) same (record {
      on = λ e before w. operation_walked a before f0 read (read ++ faults a AsValue f) f1 h out e f p o (typed a.scope p t out (link_after l p) (λ e. BinaryOf p o e f) same made has_type e) w refl refl put;
    })

pub is_leads : (a : ExprContext) (f0 f1 : List Fault) (h out : Head) (l : Link) (p : Place) (c : TypeRef) (t : Option Ty)
    → l ≡ link.Is c → out ≡ AValueOf form.Other (value_at p t) → ((e : ExprTree) → t ≡ static a.scope (link_after l p e))
    → f1 ≡ f0 ++ class_test_faults a h (type_tree c) → Leads a f0 h f1 out (link_after l p)
is_leads a f0 f1 h out l p c t is made has_type noted =
    let same : (e : ExprTree) → link_after l p e ≡ IsOf p e (type_tree c) = λ e. ap (λ (m : Link). link_after m p e) is ∙ is_is c p e in
    led a f0 f1 h out (link_after l p) (λ e. IsOf p e (type_tree c)) same (record {
      on = λ e before w. is_walked a before f0 f1 h out e p (type_tree c) (typed a.scope p t out (link_after l p) (λ e. IsOf p e (type_tree c)) same made has_type e) w noted;
    })

pub as_leads : (a : ExprContext) (f0 f1 : List Fault) (h out : Head) (l : Link) (p : Place) (c : TypeRef) (t : Option Ty)
    → l ≡ link.As c → out ≡ AValueOf form.Other (value_at p t) → ((e : ExprTree) → t ≡ static a.scope (link_after l p e))
    → f1 ≡ f0 ++ class_test_faults a h (type_tree c) → Leads a f0 h f1 out (link_after l p)
as_leads a f0 f1 h out l p c t is made has_type noted =
    let same : (e : ExprTree) → link_after l p e ≡ AsOf p e (type_tree c) = λ e. ap (λ (m : Link). link_after m p e) is ∙ as_is c p e in
    led a f0 f1 h out (link_after l p) (λ e. AsOf p e (type_tree c)) same (record {
      on = λ e before w. as_walked a before f0 f1 h out e p (type_tree c) (typed a.scope p t out (link_after l p) (λ e. AsOf p e (type_tree c)) same made has_type e) w noted;
    })
