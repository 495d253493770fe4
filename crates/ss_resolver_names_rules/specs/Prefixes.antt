-- Paths read from the left: what is known of an expression before what stands after it. A name alone and a member after `base` or a
-- class have faults that the next part decides.
use Rattle.std.specs.Prelude.{◌≡◌, ℕ, Bool, true, false, ◌||◌, List, [], ◌++◌, Option, Some, None, option_and_then, option_map, if◌then◌else◌}
use Rattle.ss_core.specs.declared.names.Place.{Place}
use Rattle.ss_core.specs.declared.names.Ty.{Ty}
use Rattle.ss_ast.specs.Expressions.{NameTree, ExprTree, IffOf, ImpliesOf, BinaryOf, IsOf, AsOf, NegateOf, NotOf, CastOf, MemberOf, ElementOf, CallOf, NumberOf, TextOf, TruthOf, NullOf, ThisOf, BaseOf, ResultOf, NameOf, ParenOf, OldOf, NewOf, NewArrayOf, QuantifiedOf}
use Rattle.ss_tables.specs.Words.{is_print, is_owner_word, is_state_word}
use Rattle.ss_tables.specs.Types.{class_of, element_type}
use Rattle.ss_tables.specs.Scopes.{Scope}
use Rattle.ss_tables.specs.Statics.{Receiver, TheConsole, TheOwner, TheBase, AClass, AValue, Callee, ABase, NoCallee, is_member, is_known, name_receiver, name_type, read_type, name_callee, member_callee, count, called_with, call_type, static}
use Rattle.ss_resolver_names_rules.specs.Faults.{Faults, unless, unknown, class_faults}
use Rattle.ss_resolver_names_rules.specs.Expressions.{expr_faults, arguments_faults, has_member, is_inherited, read_faults, asked_class}

pub data Prefix : Type 0 where
  -- a bare name
  ABareName : Place → List ℕ → Prefix
  -- the word `base`
  ABaseWord : Prefix
  -- a member after a dot, with the place of the bare name before it where one stands there
  AMember : Option Place → Receiver → NameTree → Prefix
  -- any other expression, with its static type
  AnOther : Option Ty → Prefix

-- its static type
abbrev pub prefix_value : Scope → Prefix → Option Ty
prefix_value s (ABareName p n) = name_type s n
prefix_value s ABaseWord = None
prefix_value s (AMember b r n) = read_type s.classes n.text r
prefix_value s (AnOther t) = t

-- what it is before a dot
abbrev pub prefix_receiver : Scope → Prefix → Receiver
prefix_receiver s (ABareName p n) = name_receiver s n (name_type s n)
prefix_receiver s ABaseWord = TheBase
prefix_receiver s (AMember b r n) = AValue (read_type s.classes n.text r)
prefix_receiver s (AnOther t) = AValue t

-- what a call of it calls
abbrev pub prefix_callee : Scope → Prefix → Callee
prefix_callee s (ABareName p n) = name_callee s n
prefix_callee s ABaseWord = ABase
prefix_callee s (AMember b r n) = member_callee s n.text r
prefix_callee s (AnOther t) = NoCallee

-- which argument of the call names a class
abbrev pub prefix_asked : Prefix → Option ℕ
prefix_asked (ABareName p n) = None
prefix_asked ABaseWord = None
prefix_asked (AMember b r n) = asked_class n.text r
prefix_asked (AnOther t) = None

abbrev pub bare_place : Prefix → Option Place
bare_place (ABareName p n) = Some p
bare_place ABaseWord = None
bare_place (AMember b r n) = None
bare_place (AnOther t) = None

-- ---- what the next part decides

abbrev pub unknown_at : Option Place → Faults
unknown_at None = []
unknown_at (Some p) = unknown p

-- a class before a dot where nothing is called
abbrev pub member_pending : Option Place → Receiver → Faults
member_pending b TheConsole = []
member_pending b TheOwner = []
member_pending b TheBase = []
member_pending b (AClass k) = unknown_at b
member_pending b (AValue t) = []

-- the faults that an expression has besides where its value is read
abbrev pub pending : Scope → Prefix → Faults
pending s (ABareName p n) = unless (is_known s n) (unknown p)
pending s ABaseWord = []
pending s (AMember b r n) = member_pending b r
pending s (AnOther t) = []

abbrev pub member_called : Scope → Option Place → NameTree → Receiver → Faults
member_called s b n TheConsole = []
member_called s b n TheOwner = []
member_called s b n TheBase = unless (is_state_word n.text || is_inherited s.classes s.class n.text) (unknown n.place)
member_called s b n (AClass k) = if is_state_word n.text then unknown_at b else unless (is_member s.classes k n.text) (unknown n.place)
member_called s b n (AValue t) = []

-- .. where it is called
abbrev pub called : Scope → Prefix → Faults
called s (ABareName p n) = unless (is_known s n) (unknown p)
called s ABaseWord = []
called s (AMember b r n) = member_called s b n r
called s (AnOther t) = []

-- .. where it is to be the name of a class
abbrev pub asked : Scope → Prefix → Faults
asked s (ABareName p n) = class_faults s.classes n p
asked s ABaseWord = []
asked s (AMember b r n) = member_pending b r
asked s (AnOther t) = []

-- .. where a dot and a name stand after it
abbrev pub dotted : Scope → Prefix → NameTree → Receiver → Faults
dotted s x n TheConsole = unless (is_print n.text) (unknown n.place)
dotted s x n TheOwner = unless (is_owner_word n.text) (unknown n.place)
dotted s x n TheBase = []
dotted s x n (AClass k) = []
dotted s x n (AValue t) = pending s x ++ unless (is_state_word n.text || has_member s.classes n.text (option_and_then class_of t)) (unknown n.place)

-- ---- the prefix that an expression is

abbrev pub prefix : Scope → ExprTree → Prefix
prefix s (NameOf p n) = ABareName p n
prefix s (BaseOf p) = ABaseWord
prefix s (MemberOf p e n) = AMember (bare_place (prefix s e)) (prefix_receiver s (prefix s e)) n
prefix s (ElementOf p e i) = AnOther (option_and_then element_type (option_and_then class_of (prefix_value s (prefix s e))))
prefix s (CallOf p e es) = AnOther (call_type s.classes (called_with (count es) (prefix_callee s (prefix s e))))
prefix s (IffOf p a b) = AnOther (static s (IffOf p a b))
prefix s (ImpliesOf p a b) = AnOther (static s (ImpliesOf p a b))
prefix s (BinaryOf p o a b) = AnOther (static s (BinaryOf p o a b))
prefix s (IsOf p e t) = AnOther (static s (IsOf p e t))
prefix s (AsOf p e t) = AnOther (static s (AsOf p e t))
prefix s (NegateOf p e) = AnOther (static s (NegateOf p e))
prefix s (NotOf p e) = AnOther (static s (NotOf p e))
prefix s (CastOf p t e) = AnOther (static s (CastOf p t e))
prefix s (NumberOf p n) = AnOther (static s (NumberOf p n))
prefix s (TextOf p x) = AnOther (static s (TextOf p x))
prefix s (TruthOf p b) = AnOther (static s (TruthOf p b))
prefix s (NullOf p) = AnOther (static s (NullOf p))
prefix s (ThisOf p) = AnOther (static s (ThisOf p))
prefix s (ResultOf p) = AnOther (static s (ResultOf p))
prefix s (ParenOf p e) = AnOther (static s (ParenOf p e))
prefix s (OldOf p e) = AnOther (static s (OldOf p e))
prefix s (NewOf p n es) = AnOther (static s (NewOf p n es))
prefix s (NewArrayOf p q t e) = AnOther (static s (NewArrayOf p q t e))
prefix s (QuantifiedOf p q n low high e) = AnOther (static s (QuantifiedOf p q n low high e))

-- the faults that are settled, whatever stands after it
abbrev pub settled : Scope → ExprTree → Faults
settled s (NameOf p n) = []
settled s (BaseOf p) = []
settled s (MemberOf p e n) = settled s e ++ dotted s (prefix s e) n (prefix_receiver s (prefix s e))
settled s (ElementOf p e i) = settled s e ++ pending s (prefix s e) ++ expr_faults s i
settled s (CallOf p e es) = settled s e ++ called s (prefix s e) ++ arguments_faults s (prefix_asked (prefix s e)) es
settled s (IffOf p a b) = expr_faults s (IffOf p a b)
settled s (ImpliesOf p a b) = expr_faults s (ImpliesOf p a b)
settled s (BinaryOf p o a b) = expr_faults s (BinaryOf p o a b)
settled s (IsOf p e t) = expr_faults s (IsOf p e t)
settled s (AsOf p e t) = expr_faults s (AsOf p e t)
settled s (NegateOf p e) = expr_faults s (NegateOf p e)
settled s (NotOf p e) = expr_faults s (NotOf p e)
settled s (CastOf p t e) = expr_faults s (CastOf p t e)
settled s (NumberOf p n) = expr_faults s (NumberOf p n)
settled s (TextOf p x) = expr_faults s (TextOf p x)
settled s (TruthOf p b) = expr_faults s (TruthOf p b)
settled s (NullOf p) = expr_faults s (NullOf p)
settled s (ThisOf p) = expr_faults s (ThisOf p)
settled s (ResultOf p) = expr_faults s (ResultOf p)
settled s (ParenOf p e) = expr_faults s (ParenOf p e)
settled s (OldOf p e) = expr_faults s (OldOf p e)
settled s (NewOf p n es) = expr_faults s (NewOf p n es)
settled s (NewArrayOf p q t e) = expr_faults s (NewArrayOf p q t e)
settled s (QuantifiedOf p q n low high e) = expr_faults s (QuantifiedOf p q n low high e)
