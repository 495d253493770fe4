-- The invariants of a class name no local but those of quantifiers.
use Rattle.std.proofs.Common.{◌≡◌, ℕ, List, Bool, true, false, Option, Some, None, refl}
use Rattle.std.specs.Prelude.{◌&&◌, if◌then◌else◌}
use Rattle.std.specs.Str.{bytes_eq}
use Rattle.std.proofs.lemmas.Bool.{and_from, false≢true}
use Rattle.std.specs.Option.{option_or}
use Rattle.ss_core.specs.declared.names.Place.{Place}
use Rattle.ss_ast.specs.Expressions.{NameTree}
use Rattle.ss_ast.specs.Expressions as text
use Rattle.ss_tables.specs.Members.{FieldTree}
use Rattle.ss_tables.specs.Classes.{Declared, field_of, is_array_number, declared_place}
use Rattle.ss_tables.specs.Words.{is_state_read}
use Rattle.ss_tables.specs.Statics.{static}
use Rattle.ss_typed.specs.Tree.{ExprTree, LocalOf, IffOf, ImpliesOf, BinaryOf, IsOf, AsOf, NegateOf, NotOf, CastOf, FieldOf, ElementOf, LengthOf, QuantifiedOf}
use Rattle.ss_resolver_rules.specs.Numbers.{class_in}
use Rattle.ss_resolver_rules.specs.Names.{Env, known, within}
use Rattle.ss_resolver_rules.specs.declared.known.Known.{Known}
use Rattle.ss_resolver_rules.specs.declared.known.Known.TheVariants.{Variable, BoundName}
use Rattle.ss_resolver_rules.specs.Expressions.{this, read_field, known_or_field, field_after, member, expr, call, args}
use Rattle.ss_expand_formed.proofs.OwnReads.{is_asked, called_asked}

-- No local is named. What a call or a word of conditions holds isn't looked at.
abbrev pub is_bare : ExprTree → Bool
is_bare (LocalOf p x t) = false
is_bare (FieldOf p e f t) = is_bare e
is_bare (ElementOf p a i) = is_bare a && is_bare i
is_bare (LengthOf p e) = is_bare e
is_bare (NegateOf p e) = is_bare e
is_bare (NotOf p e) = is_bare e
is_bare (BinaryOf p o a b) = is_bare a && is_bare b
is_bare (ImpliesOf p a b) = is_bare a && is_bare b
is_bare (IffOf p a b) = is_bare a && is_bare b
is_bare (IsOf p e t) = is_bare e
is_bare (AsOf p e t) = is_bare e
is_bare (CastOf p t non_null e) = is_bare e
is_bare (QuantifiedOf p q name low high e) = is_bare low && (is_bare high && is_bare e)
is_bare e = true

asked_bare : (x : ExprTree) → is_asked x ≡ true → is_bare x ≡ true
asked_bare (LocalOf p x t) h = absurd (false≢true h)
asked_bare (FieldOf p e f t) h = absurd (false≢true h)
asked_bare (ElementOf p a i) h = absurd (false≢true h)
asked_bare (LengthOf p e) h = absurd (false≢true h)
asked_bare (NegateOf p e) h = absurd (false≢true h)
asked_bare (NotOf p e) h = absurd (false≢true h)
asked_bare (BinaryOf p o a b) h = absurd (false≢true h)
asked_bare (ImpliesOf p a b) h = absurd (false≢true h)
asked_bare (IffOf p a b) h = absurd (false≢true h)
asked_bare (IsOf p e t) h = absurd (false≢true h)
asked_bare (AsOf p e t) h = absurd (false≢true h)
asked_bare (CastOf p t non_null e) h = absurd (false≢true h)
asked_bare (QuantifiedOf p q name low high e) h = absurd (false≢true h)
asked_bare x h = refl

-- ---- names

abbrev is_bound : Option Known → Bool
is_bound None = true
is_bound (Some (BoundName k)) = true
is_bound (Some (Variable x t)) = false

-- no name is that of a parameter or a local
abbrev pub HasNoLocal : Env → Type 0
HasNoLocal e = (n : List ℕ) → is_bound (known e n) ≡ true

bound_or : (b : Bool) (k : ℕ) (o : Option Known) → is_bound o ≡ true → is_bound (option_or (if b then Some (BoundName k) else None) o) ≡ true
bound_or true k o h = refl
bound_or false k o h = h

within_none : (e : Env) (m : NameTree) → HasNoLocal e → HasNoLocal (within e m)
within_none e m none n = bound_or (bytes_eq n m.text) e.bound (known e n) (none n)

-- ---- expressions

field_bare : (e : Env) (p : Place) (o : ExprTree) (f : Option (Declared FieldTree)) → is_bare o ≡ true → is_bare (read_field e p o f) ≡ true
field_bare e p o None h = refl
field_bare e p o (Some f) h = h

name_bare : (e : Env) (p : Place) (n : List ℕ) (k : Option Known) → is_bound k ≡ true → is_bare (known_or_field e p n k) ≡ true
name_bare e p n (Some (Variable x t)) h = absurd (false≢true h)
name_bare e p n (Some (BoundName k)) h = refl
name_bare e p n None h = field_bare e p (this e p) (field_of e.scope.classes e.scope.class n) refl

bare_if : (b : Bool) (x y : ExprTree) → is_bare x ≡ true → is_bare y ≡ true → is_bare (if b then x else y) ≡ true
bare_if true x y h g = h
bare_if false x y h g = g

after_bare : (e : Env) (p : Place) (o : ExprTree) (n : List ℕ) (k : Option ℕ) → is_bare o ≡ true → is_bare (field_after e p o n k) ≡ true
after_bare e p o n None h = h
after_bare e p o n (Some k) h = field_bare e p o (field_of e.scope.classes k n) h

member_bare : (e : Env) (p : Place) (o : ExprTree) (n : List ℕ) (t : ℕ) → is_bare o ≡ true → is_bare (member e p o n t) ≡ true
member_bare e p o n t h = bare_if (is_state_read n) _ _ refl (bare_if (is_array_number t) _ _ h (after_bare e p o n (declared_place t) h))

pub expr_bare : (e : Env) (a : text.ExprTree) → HasNoLocal e → is_bare (expr e a) ≡ true
expr_bare e (text.NameOf p n) none = name_bare e p n (known e n) (none n)
expr_bare e (text.ParenOf p a) none = expr_bare e a none
expr_bare e (text.NegateOf p a) none = expr_bare e a none
expr_bare e (text.NotOf p a) none = expr_bare e a none
expr_bare e (text.IffOf p a b) none = and_from _ _ (expr_bare e a none) (expr_bare e b none)
expr_bare e (text.ImpliesOf p a b) none = and_from _ _ (expr_bare e a none) (expr_bare e b none)
expr_bare e (text.BinaryOf p o a b) none = and_from _ _ (expr_bare e a none) (expr_bare e b none)
expr_bare e (text.IsOf p a t) none = expr_bare e a none
expr_bare e (text.AsOf p a t) none = expr_bare e a none
expr_bare e (text.CastOf p t a) none = expr_bare e a none
expr_bare e (text.MemberOf p a n) none = member_bare e p (expr e a) n.text (class_in (static e.scope a)) (expr_bare e a none)
expr_bare e (text.ElementOf p a i) none = and_from _ _ (expr_bare e a none) (expr_bare e i none)
expr_bare e (text.CallOf p f es) none = asked_bare (call e p es (args e es) f) (called_asked e p es (args e es) f)
expr_bare e (text.QuantifiedOf p q n low high a) none = and_from _ _ (expr_bare e low none) (and_from _ _ (expr_bare e high none) (expr_bare (within e n) a (within_none e n none)))
expr_bare e a none = refl
