-- After `Console` and `Owner` stand words that are known there, where names have no fault.
use Rattle.std.proofs.Common.{◌≡◌, ℕ, zero, suc, List, [], ◌++◌, Bool, true, false, Option, Some, None, refl, ◌∙◌, ap}
use Rattle.std.specs.Prelude.{◌&&◌, is_some, if◌then◌else◌}
use Rattle.std.proofs.lemmas.Bool.{and_from}
use Rattle.ss_core.specs.declared.names.Place.{Place}
use Rattle.ss_core.specs.declared.names.Ty.{Ty}
use Rattle.ss_ast.specs.Expressions.{NameTree, ExprTree, IffOf, ImpliesOf, BinaryOf, IsOf, AsOf, NegateOf, NotOf, CastOf, MemberOf, ElementOf, CallOf, NumberOf, TextOf, TruthOf, NullOf, ThisOf, BaseOf, ResultOf, NameOf, ParenOf, OldOf, NewOf, NewArrayOf, QuantifiedOf, Arguments, NoMore, Argument}
use Rattle.ss_tables.specs.Words.{is_console, is_owner, is_print, is_owner_word}
use Rattle.ss_tables.specs.Classes.{class_named}
use Rattle.ss_tables.specs.Scopes.{Scope, local_named, within_quantifier}
use Rattle.ss_tables.specs.Statics.{Receiver, TheConsole, TheOwner, TheBase, AClass, AValue, AWord, NoCallee, is_member, may_have_levels, level_callee, class_or_value, receiver, static}
use Rattle.ss_resolver_names_rules.specs.Faults.{Faults, unless, unknown, class_faults, type_faults, type_name_faults}
use Rattle.ss_resolver_names_rules.specs.Expressions.{read_faults, before_dot, called_faults, callee_faults, class_argument, class_named_by, argument_faults, after_argument, expr_faults, arguments_faults}
use Rattle.ss_expand_formed.proofs.Facts.{none_left}

-- ---- what stands before a dot

-- a bare name there, by what it may be
abbrev pub named : Bool → Bool → Bool → Bool → Option ℕ → Option Ty → Receiver
named local console owner is_of_class k t = if local then AValue t else if console then TheConsole else if owner then TheOwner else if is_of_class then AValue t else class_or_value k t

abbrev pub called_word : List ℕ → Receiver → Bool
called_word n TheConsole = is_print n
called_word n TheOwner = is_owner_word n
called_word n r = true

named_word : (n : List ℕ) (l c o m : Bool) (k : Option ℕ) (t u : Option Ty) → called_word n (named l c o m k t) ≡ called_word n (named l c o m k u)
named_word n true c o m k t u = refl
named_word n false true o m k t u = refl
named_word n false false true m k t u = refl
named_word n false false false true k t u = refl
named_word n false false false false (Some k) t u = refl
named_word n false false false false None t u = refl

-- whatever its type, whatever `result` is, and whether members are refused
pub same_word : (n : List ℕ) (s : Scope) (refuses : Bool) (r t u : Option Ty) (x : ExprTree) → called_word n (receiver (record s { refuses_members = refuses; outcome = r }) x t) ≡ called_word n (receiver s x u)
same_word n s refuses r t u (NameOf p q) = named_word n (is_some (local_named s q)) (is_console q) (is_owner q) (is_member s.classes s.class q) (class_named s.classes q) t u
same_word n s refuses r t u x = refl

-- what may be asked about its level is asked
pub level_word : (t : Option Ty) → may_have_levels t ≡ true → (k : ℕ) × (level_callee t ≡ AWord k)
level_word None h = (0, refl)
level_word (Some t) h = (1, ap (λ (b : Bool). if b then AWord 1 else NoCallee) h)

-- ---- the words that are called

abbrev mutual
  pub calls_words : Scope → ExprTree → Bool
  calls_words s (IffOf p a b) = calls_words s a && calls_words s b
  calls_words s (ImpliesOf p a b) = calls_words s a && calls_words s b
  calls_words s (BinaryOf p o a b) = calls_words s a && calls_words s b
  calls_words s (IsOf p e t) = calls_words s e
  calls_words s (AsOf p e t) = calls_words s e
  calls_words s (NegateOf p e) = calls_words s e
  calls_words s (NotOf p e) = calls_words s e
  calls_words s (CastOf p t e) = calls_words s e
  calls_words s (MemberOf p e n) = calls_words s e
  calls_words s (ElementOf p e i) = calls_words s e && calls_words s i
  calls_words s (CallOf p f es) = callee_words s f && args_words s es
  calls_words s (NumberOf p n) = true
  calls_words s (TextOf p x) = true
  calls_words s (TruthOf p b) = true
  calls_words s (NullOf p) = true
  calls_words s (ThisOf p) = true
  calls_words s (BaseOf p) = true
  calls_words s (ResultOf p) = true
  calls_words s (NameOf p n) = true
  calls_words s (ParenOf p e) = calls_words s e
  calls_words s (OldOf p e) = calls_words s e
  calls_words s (NewOf p n es) = args_words s es
  calls_words s (NewArrayOf p q t e) = calls_words s e
  calls_words s (QuantifiedOf p q n low high e) = calls_words s low && (calls_words s high && calls_words (within_quantifier s n) e)

  pub callee_words : Scope → ExprTree → Bool
  callee_words s (MemberOf p e n) = called_word n.text (receiver s e None) && calls_words s e
  callee_words s f = true

  pub args_words : Scope → Arguments → Bool
  args_words s NoMore = true
  args_words s (Argument e es) = calls_words s e && args_words s es

-- ---- where names have no fault

is_unless : (b : Bool) (p : Place) → unless b (unknown p) ≡ [] → b ≡ true
is_unless true p h = refl
is_unless false p h = absurd (let x : ⊥ = cc in x)

abbrev Fine : Scope → ExprTree → Type 0
Fine s e = expr_faults s e ≡ [] → calls_words s e ≡ true

dot_fine : (s : Scope) (e : ExprTree) → Fine s e → before_dot (receiver s e (static s e)) (expr_faults s e) ≡ [] → calls_words s e ≡ true
dot_fine s (NameOf p n) f h = refl
dot_fine s e f h = f h

word_fine : (s : Scope) (n : NameTree) (r : Receiver) (fs : Faults) → called_faults s n r (before_dot r fs ++ read_faults s n r) ≡ [] → called_word n.text r ≡ true
word_fine s n TheConsole fs h = is_unless (is_print n.text) n.place h
word_fine s n TheOwner fs h = is_unless (is_owner_word n.text) n.place h
word_fine s n TheBase fs h = refl
word_fine s n (AClass k) fs h = refl
word_fine s n (AValue t) fs h = refl

member_fine : (s : Scope) (n : NameTree) (e : ExprTree) → Fine s e → called_faults s n (receiver s e (static s e)) (before_dot (receiver s e (static s e)) (expr_faults s e) ++ read_faults s n (receiver s e (static s e))) ≡ [] →
    (called_word n.text (receiver s e None) && calls_words s e) ≡ true
member_fine s n (NameOf p q) f h =
    let r = receiver s (NameOf p q) (static s (NameOf p q)) in
    and_from _ _ (same_word n.text s s.refuses_members s.outcome None (static s (NameOf p q)) (NameOf p q) ∙ word_fine s n r (expr_faults s (NameOf p q)) h) refl
member_fine s n (BaseOf p) f h = refl
member_fine s n e f h = f (none_left (expr_faults s e) (read_faults s n (receiver s e (static s e))) h).0

named_fine : (s : Scope) (e : ExprTree) → Fine s e → class_named_by s e (expr_faults s e) ≡ [] → calls_words s e ≡ true
named_fine s (NameOf p n) f h = refl
named_fine s e f h = f h

argument_fine : (s : Scope) (which : Option ℕ) (e : ExprTree) → Fine s e → argument_faults s which e (expr_faults s e) ≡ [] → calls_words s e ≡ true
argument_fine s None e f h = f h
argument_fine s (Some zero) e f h = named_fine s e f h
argument_fine s (Some (suc n)) e f h = f h

two_fine : (s : Scope) (a b : ExprTree) → Fine s a → Fine s b → expr_faults s a ++ expr_faults s b ≡ [] → (calls_words s a && calls_words s b) ≡ true
two_fine s a b f g h = let both = none_left (expr_faults s a) (expr_faults s b) h in and_from _ _ (f both.0) (g both.1)

mutual
  pub words_called : (s : Scope) (e : ExprTree) → Fine s e
  words_called s (IffOf p a b) h = two_fine s a b (words_called s a) (words_called s b) h
  words_called s (ImpliesOf p a b) h = two_fine s a b (words_called s a) (words_called s b) h
  words_called s (BinaryOf p o a b) h = two_fine s a b (words_called s a) (words_called s b) h
  words_called s (IsOf p e t) h = words_called s e (none_left (expr_faults s e) (type_faults s.classes t) h).0
  words_called s (AsOf p e t) h = words_called s e (none_left (expr_faults s e) (type_faults s.classes t) h).0
  words_called s (NegateOf p e) h = words_called s e h
  words_called s (NotOf p e) h = words_called s e h
  words_called s (CastOf p t e) h = words_called s e (none_left (type_faults s.classes t) (expr_faults s e) h).1
  words_called s (MemberOf p e n) h = dot_fine s e (words_called s e) (none_left (before_dot (receiver s e (static s e)) (expr_faults s e)) (read_faults s n (receiver s e (static s e))) h).0
  words_called s (ElementOf p e i) h = two_fine s e i (words_called s e) (words_called s i) h
  words_called s (CallOf p f es) h =
      let both = none_left (callee_faults s f (expr_faults s f)) (arguments_faults s (class_argument s f) es) h in
      and_from _ _ (callee_called s f both.0) (args_called s (class_argument s f) es both.1)
  words_called s (ParenOf p e) h = words_called s e h
  words_called s (OldOf p e) h = words_called s e h
  words_called s (NewOf p n es) h = args_called s None es (none_left (class_faults s.classes n.text n.place) (arguments_faults s None es) h).1
  words_called s (NewArrayOf p q t e) h = words_called s e (none_left (type_name_faults s.classes q t) (expr_faults s e) h).1
  words_called s (QuantifiedOf p q n low high e) h =
      let rest = none_left (expr_faults s low ++ expr_faults s high) (expr_faults (within_quantifier s n) e) h in
      let bounds = none_left (expr_faults s low) (expr_faults s high) rest.0 in
      and_from _ _ (words_called s low bounds.0) (and_from _ _ (words_called s high bounds.1) (words_called (within_quantifier s n) e rest.1))
  words_called s e h = refl

  callee_called : (s : Scope) (f : ExprTree) → callee_faults s f (expr_faults s f) ≡ [] → callee_words s f ≡ true
  callee_called s (MemberOf p e n) h = member_fine s n e (words_called s e) h
  callee_called s f h = refl

  pub args_called : (s : Scope) (which : Option ℕ) (es : Arguments) → arguments_faults s which es ≡ [] → args_words s es ≡ true
  args_called s which NoMore h = refl
  args_called s which (Argument e es) h =
      let both = none_left (argument_faults s which e (expr_faults s e)) (arguments_faults s (after_argument which) es) h in
      and_from _ _ (argument_fine s which e (words_called s e) both.0) (args_called s (after_argument which) es both.1)
