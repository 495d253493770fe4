-- In a static method nothing of `this` is read, where types have no fault.
use Rattle.std.proofs.Common.{◌≡◌, ℕ, List, [], ◌∷◌, ◌++◌, Bool, true, false, Option, Some, None, refl, sym, ◌∙◌, ap, subst, ⊎_elim}
use Rattle.std.specs.Prelude.{◌&&◌, ◌||◌, not, is_some, is_none, codes, option_and_then, if◌then◌else◌}
use Rattle.std.specs.Str.{bytes_eq}
use Rattle.std.specs.List.{list_all}
use Rattle.std.proofs.lemmas.Bool.{and_parts, and_from, cases_Bool, false≢true}
use Rattle.std.specs.Option.{option_or}
use Rattle.ss_core.specs.declared.names.Place.{Place}
use Rattle.ss_core.specs.declared.names.Ty.{Ty}
use Rattle.ss_core.specs.declared.names.Ty.TheVariants as ty
use Rattle.ss_core.specs.Tree.{SameOwner, OwnedAt}
use Rattle.ss_ast.specs.Expressions.{NameTree, TypeTree, Arguments}
use Rattle.ss_ast.specs.Expressions as text
use Rattle.ss_ast.specs.Programs.{ParamTree, ClassTree}
use Rattle.ss_tables.specs.Members.{FieldTree, MethodTree, is_static}
use Rattle.ss_tables.specs.Classes.{Declared, class_named, field_of, method_of, is_array_number, declared_place}
use Rattle.ss_tables.specs.Types.{class_of, element_type}
use Rattle.ss_tables.specs.Words.{is_console, is_owner, is_print, is_owner_word, is_state_read, is_state_call, is_state_word, is_length}
use Rattle.ss_tables.specs.Scopes.{Local, Scope, local_named}
use Rattle.ss_tables.specs.Named.{named_in, named_among}
use Rattle.ss_tables.specs.Statics.{Receiver, TheConsole, TheOwner, TheBase, AClass, AValue, Callee, AMethod, APrint, AWord, NoCallee, is_member, is_of_kind, may_have_levels, level_callee, constructor_params, receiver, static, count, type_of_local, type_of_field, unless_refused, read_type, method_callee, member_callee, owner_count, called_with, call_type}
use Rattle.ss_faults.specs.declared.Fault.{Fault}
use Rattle.ss_typed.specs.Tree.{ExprTree, OwnersOf}
use Rattle.ss_typed.specs.Tree as typed
use Rattle.ss_resolver_rules.specs.Names.{Env, known, enter, within}
use Rattle.ss_resolver_rules.specs.declared.known.Known.{Known}
use Rattle.ss_resolver_rules.specs.declared.known.Known.TheVariants.{Variable, BoundName}
use Rattle.ss_resolver_rules.specs.Numbers.{class_in}
use Rattle.ss_resolver_rules.specs.Expressions.{this, read_field, known_or_field, third_class, owner_question, called_after, called_bare, expr, args}
use Rattle.ss_resolver_types_heads.specs.Faults.{bad_type, fault_where}
use Rattle.ss_resolver_types_heads.specs.Wants.{Want, AnInt, ABool, AReference, AnArray, AnyValue, OfType, Printable, OfDeclared, OfClass, ClassName, Known as Value, known as value_of, wrong}
use Rattle.ss_resolver_types_heads.specs.Calls.{ExprContext, Called, Taking, Refused, Unknown, param_wants, constructed, taking, method_or_field, called_on_class, called_method, called_name, called_owner, called_on_declared, called_on_object, class_of_known, has_no_members, asks_level, called_value, called_member, wants_of, is_wrong_call, argument_wants, whole_call}
use Rattle.ss_resolver_types_heads.specs.Expressions.{AsValue, BeforeDot, AsCallee, wanted, is_misused, is_value_receiver, word_faults, read_faults, condition_faults, argument, newly, faults, argument_faults, no_class, operand_faults, operand, conditional, bound}
use Rattle.ss_expand_formed.proofs.Facts.{none_left, or_false}
use Rattle.ss_expand_formed.proofs.Choosing.{on_either}
use Rattle.ss_expand_formed.proofs.AssignedReading.{May, reads, read_all}
use Rattle.ss_expand_formed.proofs.Scopes.{member_reads, method_reads, called_reads}
use Rattle.ss_expand_formed.proofs.Words.{named, called_word, same_word, level_word, calls_words, callee_words, args_words}

-- nothing of `this`
abbrev pub quiet : May
quiet = record { this = false; result = true; locals = λ x. true }

-- what is of `this` is refused
abbrev pub refusing : Scope → Scope
refusing s = record s { refuses_members = true; refuses_this = true }

-- a name in scope is one for the resolver too
pub record Match (e : Env) : Type 0 where
  pub inner : (n : List ℕ) → is_some (named_in e.inner n) ≡ is_some (named_in e.scope.inner n)
  pub outer : (n : List ℕ) → is_some (named_among e.outer n) ≡ is_some (named_among e.scope.outer n)

pub either_some : {A B : Type 0} (a c : Option A) (b d : Option B) → is_some a ≡ is_some b → is_some c ≡ is_some d → is_some (option_or a c) ≡ is_some (option_or b d)
either_some (Some a) c (Some b) d h g = refl
either_some None c None d h g = g
either_some (Some a) c None d h g = absurd (false≢true (sym h))
either_some None c (Some b) d h g = absurd (false≢true h)

matched : (e : Env) → Match e → (n : List ℕ) → is_some (known e n) ≡ is_some (local_named e.scope n)
matched e h n = either_some (named_in e.inner n) (named_among e.outer n) (named_in e.scope.inner n) (named_among e.scope.outer n) (h.inner n) (h.outer n)

pub enter_match : (e : Env) → Match e → Match (enter e)
enter_match e h = record { inner = λ n. refl; outer = matched e h }

within_match : (e : Env) (x : NameTree) → Match e → Match (within e x)
within_match e x h = record { inner = λ n. by (BoundName e.bound) (record { ty = Some ty.Int; is_param = false }) (bytes_eq n x.text); outer = matched e h }
  where
    by : (k : Known) (l : Local) (b : Bool) → is_some (if b then Some k else None) ≡ is_some (if b then Some l else None)
    by k l true = refl
    by k l false = refl

no_fault : (b : Bool) (f : Fault) → fault_where b f ≡ [] → b ≡ false
no_fault true f h = absurd (let x : ⊥ = cc in x)
no_fault false f h = refl

-- ---- bare names

read_none : (m : May) (e : Env) (p : Place) (o : ExprTree) (f : Option (Declared FieldTree)) → is_some f ≡ false → reads m (read_field e p o f) ≡ true
read_none m e p o None h = refl
read_none m e p o (Some f) h = absurd (false≢true (sym h))

misused_field : (l : Option Local) (f : Option (Declared FieldTree)) (m : Bool) → (is_none l && (if is_some f then true else m)) ≡ false → is_some l ≡ false → is_some f ≡ false
misused_field (Some l) f m h g = absurd (false≢true (sym g))
misused_field None None m h g = refl
misused_field None (Some f) m h g = absurd (false≢true (sym h))

misused_type : (cs : List ClassTree) (l : Option Local) (f : Option (Declared FieldTree)) (m refuses : Bool) → (is_none l && (if is_some f then true else m)) ≡ false →
    (if is_some l then type_of_local l else unless_refused true (type_of_field cs f)) ≡ (if is_some l then type_of_local l else unless_refused refuses (type_of_field cs f))
misused_type cs (Some l) f m refuses h = refl
misused_type cs None None m true h = refl
misused_type cs None None m false h = refl
misused_type cs None (Some f) m refuses h = absurd (false≢true (sym h))

known_reads : (e : Env) (p : Place) (n : List ℕ) (k : Option Known) → (is_some k ≡ false → is_some (field_of e.scope.classes e.scope.class n) ≡ false) → reads quiet (known_or_field e p n k) ≡ true
known_reads e p n (Some (Variable x t)) h = refl
known_reads e p n (Some (BoundName k)) h = refl
known_reads e p n None h = read_none quiet e p (this e p) (field_of e.scope.classes e.scope.class n) (h refl)

-- ---- what stands before a dot

-- `Console`, `Owner` or `base`
abbrev is_word : Receiver → Bool
is_word TheConsole = true
is_word TheOwner = true
is_word TheBase = true
is_word (AClass k) = false
is_word (AValue t) = false

-- a value has this type
abbrev HasType : Receiver → Option Ty → Type 0
HasType (AValue t) u = u ≡ t
HasType r u = Unit {0}

named_type : (l c o m : Bool) (k : Option ℕ) (t : Option Ty) → HasType (named l c o m k t) t
named_type true c o m k t = refl
named_type false true o m k t = tt
named_type false false true m k t = tt
named_type false false false true k t = refl
named_type false false false false (Some k) t = tt
named_type false false false false None t = refl

receiver_type : (s : Scope) (x : text.ExprTree) (t : Option Ty) → HasType (receiver s x t) t
receiver_type s (text.NameOf p n) t = named_type (is_some (local_named s n)) (is_console n) (is_owner n) (is_member s.classes s.class n) (class_named s.classes n) t
receiver_type s (text.BaseOf p) t = tt
receiver_type s x t = refl

named_other : (l c o m : Bool) (k : Option ℕ) (t u v : Option Ty) → is_value_receiver (named l c o m k v) ≡ false → named l c o m k t ≡ named l c o m k u
named_other true c o m k t u v h = absurd (false≢true (sym h))
named_other false true o m k t u v h = refl
named_other false false true m k t u v h = refl
named_other false false false true k t u v h = absurd (false≢true (sym h))
named_other false false false false (Some k) t u v h = refl
named_other false false false false None t u v h = absurd (false≢true (sym h))

-- the name of a class means nothing else
named_class : (l c o m : Bool) (k : Option ℕ) (t v : Option Ty) → is_value_receiver (named l c o m k v) ≡ false → is_word (named l c o m k t) ≡ false → (l ≡ false) × (m ≡ false)
named_class true c o m k t v h g = absurd (false≢true (sym h))
named_class false true o m k t v h g = absurd (false≢true (sym g))
named_class false false true m k t v h g = absurd (false≢true (sym g))
named_class false false false true k t v h g = absurd (false≢true (sym h))
named_class false false false false k t v h g = (refl, refl)

-- ---- wants

-- what wants a value, which isn't printed
abbrev is_plain : Want → Bool
is_plain ClassName = false
is_plain Printable = false
is_plain w = true

abbrev are_plain : List Want → Bool
are_plain ws = list_all is_plain ws

abbrev takes_plain : Called → Type 0
takes_plain c = are_plain (wants_of c) ≡ true

params_plain : (cs : List ClassTree) (ps : List ParamTree) → are_plain (param_wants cs ps) ≡ true
params_plain cs [] = refl
params_plain cs (p ∷ ps) = params_plain cs ps

taking_plain : (cs : List ClassTree) (b : Bool) (m : Declared MethodTree) → takes_plain (taking cs b m)
taking_plain cs b m = on_either takes_plain (is_of_kind b m.member) (Taking (param_wants cs m.member.params)) Refused (params_plain cs m.member.params) refl

method_plain : (cs : List ClassTree) (b : Bool) (m : Option (Declared MethodTree)) (f : Option (Declared FieldTree)) → takes_plain (method_or_field cs b m f)
method_plain cs b (Some m) f = taking_plain cs b m
method_plain cs b None f = on_either takes_plain (is_some f) Refused Unknown refl refl

declared_plain : (cs : List ClassTree) (n : List ℕ) (k : Option ℕ) → takes_plain (called_on_declared cs n k)
declared_plain cs n None = refl
declared_plain cs n (Some k) = method_plain cs false (method_of cs k n) (field_of cs k n)

object_plain : (cs : List ClassTree) (n : List ℕ) (k : Option ℕ) → takes_plain (called_on_object cs n k)
object_plain cs n None = refl
object_plain cs n (Some c) =
    on_either takes_plain (is_array_number c) (if is_length n then Refused else Unknown) (called_on_declared cs n (declared_place c))
    (on_either takes_plain (is_length n) Refused Unknown refl refl) (declared_plain cs n (declared_place c))

constructed_plain : (cs : List ClassTree) (k : Option ℕ) → takes_plain (constructed cs k)
constructed_plain cs None = refl
constructed_plain cs (Some k) = params_plain cs (constructor_params cs k)

argument_plain : (k : ℕ) (c : Called) → takes_plain c → are_plain (argument_wants k c) ≡ true
argument_plain k c h = on_either (λ (ws : List Want). are_plain ws ≡ true) (is_wrong_call k c) [] (wants_of c) refl h

within_argument : (a : ExprContext) (w : Want) (x : text.ExprTree) (fs : List Fault) → is_plain w ≡ true → argument a w x fs ≡ [] → fs ≡ []
within_argument a AnInt x fs i h = (none_left fs (wrong a.scope AnInt x) h).0
within_argument a ABool x fs i h = (none_left fs (wrong a.scope ABool x) h).0
within_argument a AReference x fs i h = (none_left fs (wrong a.scope AReference x) h).0
within_argument a AnArray x fs i h = (none_left fs (wrong a.scope AnArray x) h).0
within_argument a AnyValue x fs i h = (none_left fs (wrong a.scope AnyValue x) h).0
within_argument a (OfType t) x fs i h = (none_left fs (wrong a.scope (OfType t) x) h).0
within_argument a OfDeclared x fs i h = (none_left fs (wrong a.scope OfDeclared x) h).0
within_argument a (OfClass d) x fs i h = (none_left fs (wrong a.scope (OfClass d) x) h).0
within_argument a Printable x fs i h = absurd (false≢true i)
within_argument a ClassName x fs i h = absurd (false≢true i)

-- the first want, where there is one, and those after it
abbrev head_plain : List Want → Bool
head_plain [] = true
head_plain (w ∷ ws) = is_plain w

abbrev others : List Want → List Want
others [] = []
others (w ∷ ws) = ws

first_argument : (a : ExprContext) (ws : List Want) (x : text.ExprTree) (es : Arguments) → head_plain ws ≡ true → argument_faults a ws (text.Argument x es) ≡ [] → (faults a AsValue x ≡ []) × (argument_faults a (others ws) es ≡ [])
first_argument a [] x es i h = none_left (faults a AsValue x) (argument_faults a [] es) h
first_argument a (w ∷ ws) x es i h = let both = none_left (argument a w x (faults a AsValue x)) (argument_faults a ws es) h in (within_argument a w x (faults a AsValue x) i both.0, both.1)

plain_head : (ws : List Want) → are_plain ws ≡ true → (head_plain ws ≡ true) × (are_plain (others ws) ≡ true)
plain_head [] h = (refl, refl)
plain_head (w ∷ ws) h = and_parts (is_plain w) (are_plain ws) h

-- ---- one expression

module _ (r : Option Ty) (lacks : Bool) where
  -- in a static method
  abbrev pub expr_context : Scope → Bool → ExprContext
  expr_context s c = record { scope = refusing s; is_static = true; in_condition = c; lacks_result = lacks }

  -- as names are looked up there
  abbrev pub plainly : Scope → Scope
  plainly s = record s { refuses_members = true; outcome = r }

  -- nothing of `this` is read, and what is of `this` isn't missed by the type
  pub record Quiet (e : Env) (x : text.ExprTree) : Type 0 where
    pub is_quiet : reads quiet (expr e x) ≡ true
    pub same : static (refusing e.scope) x ≡ static e.scope x

  abbrev pub Claim : Env → text.ExprTree → Type 0
  Claim e x = (c : Bool) → faults (expr_context e.scope c) AsValue x ≡ [] → calls_words (plainly e.scope) x ≡ true → Quiet e x

  abbrev pub Claims : Env → Arguments → Type 0
  Claims e text.NoMore = Unit {0}
  Claims e (text.Argument x es) = Claim e x × Claims e es

  -- of what stands before the dot of what is called
  abbrev CalleeClaim : Env → text.ExprTree → Type 0
  CalleeClaim e (text.MemberOf p x n) = Claim e x
  CalleeClaim e f = Unit {0}

  -- ---- before a dot

  record Dot (e : Env) (x : text.ExprTree) : Type 0 where
    is_quiet : is_word (receiver e.scope x (static e.scope x)) ≡ false → reads quiet (expr e x) ≡ true
    same : receiver (refusing e.scope) x (static (refusing e.scope) x) ≡ receiver e.scope x (static e.scope x)

  name_dot : (e : Env) → Match e → (p : Place) (n : List ℕ) → Claim e (text.NameOf p n) → (c : Bool) → faults (expr_context e.scope c) BeforeDot (text.NameOf p n) ≡ [] → calls_words (plainly e.scope) (text.NameOf p n) ≡ true → Dot e (text.NameOf p n)
  name_dot e match p n claim c h w =
      let s = e.scope in
      let x = text.NameOf p n in
      let l = is_some (local_named s n) in
      let m = is_member s.classes s.class n in
      let k = class_named s.classes n in
      ⊎_elim
      (λ yes.
      let q = claim c (rw yes at h) w in
      record { is_quiet = λ i. q.is_quiet; same = ap (named l (is_console n) (is_owner n) m k) q.same })
      (λ no. record {
        is_quiet = λ i.
            let both = named_class l (is_console n) (is_owner n) m k (static s x) None no i in
            known_reads e p n (known e n) (λ j. (or_false (is_some (field_of s.classes s.class n)) (is_some (method_of s.classes s.class n)) both.1).0);
        same = named_other l (is_console n) (is_owner n) m k (static (refusing s) x) (static s x) None no;
      })
      (cases_Bool (is_value_receiver (named l (is_console n) (is_owner n) m k None)))

  dot_of : (e : Env) → Match e → (x : text.ExprTree) → Claim e x → (c : Bool) → faults (expr_context e.scope c) BeforeDot x ≡ [] → calls_words (plainly e.scope) x ≡ true → Dot e x
  dot_of e match (text.NameOf p n) claim c h w = name_dot e match p n claim c h w
  dot_of e match (text.BaseOf p) claim c h w = record { is_quiet = λ i. absurd (false≢true (sym i)); same = refl }
  dot_of e match x claim c h w = let q = claim c h w in record { is_quiet = λ i. q.is_quiet; same = ap AValue q.same }

  -- ---- arguments

  args_quiet : (e : Env) (c : Bool) (ws : List Want) → are_plain ws ≡ true → (es : Arguments) → Claims e es → argument_faults (expr_context e.scope c) ws es ≡ [] → args_words (plainly e.scope) es ≡ true → read_all quiet (args e es) ≡ true
  args_quiet e c ws i text.NoMore claims h w = refl
  args_quiet e c ws i (text.Argument x es) claims h w =
      let plain = plain_head ws i in
      let both = first_argument (expr_context e.scope c) ws x es plain.0 h in
      let words = and_parts (calls_words (plainly e.scope) x) (args_words (plainly e.scope) es) w in
      and_from _ _ (claims.0 c both.0 words.0).is_quiet (args_quiet e c (others ws) plain.1 es claims.1 both.1 words.1)

  -- the first two of them
  front_quiet : (e : Env) (c : Bool) (p : Place) (n : List ℕ) (all : Arguments) (ws : List Want) → head_plain ws ≡ true → head_plain (others ws) ≡ true → (es : Arguments) → Claims e es → argument_faults (expr_context e.scope c) ws es ≡ [] → args_words (plainly e.scope) es ≡ true →
      reads quiet (owner_question e p n all (args e es)) ≡ true
  front_quiet e c p n all ws i j text.NoMore claims h w = refl
  front_quiet e c p n all ws i j (text.Argument x text.NoMore) claims h w =
      let both = first_argument (expr_context e.scope c) ws x text.NoMore i h in
      (claims.0 c both.0 (and_parts (calls_words (plainly e.scope) x) true w).0).is_quiet
  front_quiet e c p n all ws i j (text.Argument x (text.Argument y es)) claims h w =
      let one = first_argument (expr_context e.scope c) ws x (text.Argument y es) i h in
      let two = first_argument (expr_context e.scope c) (others ws) y es j one.1 in
      let words = and_parts (calls_words (plainly e.scope) x) (calls_words (plainly e.scope) y && args_words (plainly e.scope) es) w in
      let more = and_parts (calls_words (plainly e.scope) y) (args_words (plainly e.scope) es) words.1 in
      let pair = and_from _ _ (claims.0 c one.0 words.0).is_quiet (claims.1.0 c two.0 more.0).is_quiet in
      on_either (λ (z : ExprTree). reads quiet z ≡ true) (bytes_eq n (codes "Same")) (OwnersOf p SameOwner (expr e x) (expr e y)) (OwnersOf p (OwnedAt (third_class e all)) (expr e x) (expr e y)) pair pair

  -- ---- calls by a bare name

  -- what the resolver takes for the call, where the types find no fault
  record Bare (e : Env) (p q : Place) (given : typed.Arguments) (refusing_callee callee : Callee) : Type 0 where
    same : refusing_callee ≡ callee
    is_quiet : read_all quiet given ≡ true → reads quiet (called_bare e p q given callee) ≡ true

  and_false : (b : Bool) → (b && false) ≡ false
  and_false true = refl
  and_false false = refl

  kind_same : (refuses fixed : Bool) (m : Declared MethodTree) → fixed ≡ true → (if not fixed then NoCallee else AMethod m) ≡ (if refuses && not fixed then NoCallee else AMethod m)
  kind_same true true m h = refl
  kind_same false true m h = refl
  kind_same refuses false m h = absurd (false≢true h)

  method_bare : (e : Env) (p q : Place) (given : typed.Arguments) (k : ℕ) (cs : List ClassTree) (refuses : Bool) (m : Declared MethodTree) → is_wrong_call k (called_method cs true (Some m)) ≡ false → Bare e p q given (method_callee true (Some m)) (method_callee refuses (Some m))
  method_bare e p q given k cs refuses m h =
      ⊎_elim
      (λ yes.
      let no : (refuses && not (is_static m.member)) ≡ false = rw yes (and_false refuses) in
      record {
        same = kind_same refuses (is_static m.member) m yes;
        is_quiet = λ g. rw no (method_reads quiet e p e.scope.class (this e q) given m (λ i. absurd (false≢true (sym i ∙ yes))) g);
      })
      (λ no. absurd (false≢true (sym (rw no at h))))
      (cases_Bool (is_static m.member))

  callee_bare : (e : Env) (p q : Place) (given : typed.Arguments) (k : ℕ) (cs : List ClassTree) (refuses hidden : Bool) (m : Option (Declared MethodTree)) → is_wrong_call k (if hidden then Refused else called_method cs true m) ≡ false →
      Bare e p q given (if hidden then NoCallee else method_callee true m) (if hidden then NoCallee else method_callee refuses m)
  callee_bare e p q given k cs refuses true m h = absurd (false≢true (sym h))
  callee_bare e p q given k cs refuses false None h = record { same = refl; is_quiet = λ g. refl }
  callee_bare e p q given k cs refuses false (Some m) h = method_bare e p q given k cs refuses m h

  method_takes : (cs : List ClassTree) (m : Option (Declared MethodTree)) → takes_plain (called_method cs true m)
  method_takes cs None = refl
  method_takes cs (Some m) = on_either takes_plain (not (is_static m.member)) Refused (Taking (param_wants cs m.member.params)) refl (params_plain cs m.member.params)

  -- ---- calls after a dot

  record Behind (e : Env) (p : Place) (o : ExprTree) (n : List ℕ) (es : Arguments) (t : Receiver) : Type 0 where
    same : member_callee (refusing e.scope) n t ≡ member_callee e.scope n t
    is_quiet : reads quiet (called_after e p t o n es (args e es) (member_callee e.scope n t)) ≡ true

  print_quiet : (e : Env) (p : Place) (o : ExprTree) (n : List ℕ) (es : Arguments) (is line : Bool) → is ≡ true → reads quiet (called_after e p TheConsole o n es (args e es) (if is then APrint line else NoCallee)) ≡ true
  print_quiet e p o n es true line h = refl
  print_quiet e p o n es false line h = absurd (false≢true h)

  owner_quiet : (e : Env) (p : Place) (o : ExprTree) (n : List ℕ) (es : Arguments) (is : Bool) (k : ℕ) → is ≡ true → reads quiet (owner_question e p n es (args e es)) ≡ true → reads quiet (called_after e p TheOwner o n es (args e es) (if is then AWord k else NoCallee)) ≡ true
  owner_quiet e p o n es true k h g = g
  owner_quiet e p o n es false k h g = absurd (false≢true h)

  level_quiet : (e : Env) (p : Place) (o : ExprTree) (n : List ℕ) (es : Arguments) (t : Option Ty) (is : Bool) (other : Callee) → is ≡ true → may_have_levels t ≡ true → reads quiet o ≡ true →
      reads quiet (called_after e p (AValue t) o n es (args e es) (if is then level_callee t else other)) ≡ true
  level_quiet e p o n es t true other h i g = subst (λ k. reads quiet (called_after e p (AValue t) o n es (args e es) k) ≡ true) (sym (level_word t i).1) g
  level_quiet e p o n es t false other h i g = absurd (false≢true h)

  owner_wants : (n : List ℕ) → (head_plain (wants_of (called_owner n)) ≡ true) × (head_plain (others (wants_of (called_owner n))) ≡ true)
  owner_wants n = by (bytes_eq n (codes "None")) (bytes_eq n (codes "Same")) (bytes_eq n (codes "Is"))
    where
      by : (a b c : Bool) →
          (head_plain (wants_of (if a then Taking (AReference ∷ []) else if b then Taking (AReference ∷ AReference ∷ []) else if c then Taking (AReference ∷ AReference ∷ ClassName ∷ []) else Unknown)) ≡ true)
          × (head_plain (others (wants_of (if a then Taking (AReference ∷ []) else if b then Taking (AReference ∷ AReference ∷ []) else if c then Taking (AReference ∷ AReference ∷ ClassName ∷ []) else Unknown))) ≡ true)
      by true b c = (refl, refl)
      by false true c = (refl, refl)
      by false false true = (refl, refl)
      by false false false = (refl, refl)

  not_refused : (k : ℕ) (read empty may : Bool) (ws : List Want) → is_wrong_call k (if read then Refused else if not empty && may then Taking ws else Refused) ≡ false → may ≡ true
  not_refused k true n may ws h = absurd (false≢true (sym h))
  not_refused k false true may ws h = absurd (false≢true (sym h))
  not_refused k false false true ws h = refl
  not_refused k false false false ws h = absurd (false≢true (sym h))

  value_takes : (cs : List ClassTree) (v : Value) (n : List ℕ) → is_state_call n ≡ false → takes_plain (called_value cs v n)
  value_takes cs v n h = by (is_state_call n) h
    where
      by : (b : Bool) → b ≡ false → takes_plain (if is_state_read n then Refused else if b then asks_level v else if has_no_members v then Refused else called_on_object cs n (class_of_known v))
      by true i = absurd (false≢true (sym i))
      by false i =
          on_either takes_plain (is_state_read n) Refused (if has_no_members v then Refused else called_on_object cs n (class_of_known v)) refl
          (on_either takes_plain (has_no_members v) Refused (called_on_object cs n (class_of_known v)) refl (object_plain cs n (class_of_known v)))

  class_takes : (cs : List ClassTree) (k : ℕ) (n : List ℕ) → takes_plain (if is_state_word n then Unknown else called_on_class cs true k n)
  class_takes cs k n = on_either takes_plain (is_state_word n) Unknown (called_on_class cs true k n) refl (method_plain cs true (method_of cs k n) (field_of cs k n))

  front_wants : (k : ℕ) (c : Called) → (head_plain (wants_of c) ≡ true) × (head_plain (others (wants_of c)) ≡ true) → (head_plain (argument_wants k c) ≡ true) × (head_plain (others (argument_wants k c)) ≡ true)
  front_wants k c h = on_either (λ (ws : List Want). (head_plain ws ≡ true) × (head_plain (others ws) ≡ true)) (is_wrong_call k c) [] (wants_of c) (refl, refl) h

  after_quiet : (e : Env) (p : Place) (o : ExprTree) (n : List ℕ) (es : Arguments) (c : Bool) (v : Value) (t : Receiver) → HasType t v.ty → (is_word t ≡ false → reads quiet o ≡ true) → called_word n t ≡ true → Claims e es →
      is_wrong_call (count es) (called_member (expr_context e.scope c) (count es) v n t) ≡ false →
      argument_faults (expr_context e.scope c) (argument_wants (count es) (called_member (expr_context e.scope c) (count es) v n t)) es ≡ [] → args_words (plainly e.scope) es ≡ true → Behind e p o n es t
  after_quiet e p o n es c v TheConsole of_type is word claims right h w = record { same = refl; is_quiet = print_quiet e p o n es (is_print n) _ word }
  after_quiet e p o n es c v TheOwner of_type is word claims right h w =
      let front = front_wants (count es) (called_owner n) (owner_wants n) in
      record { same = refl; is_quiet = owner_quiet e p o n es (is_owner_word n) (owner_count n) word (front_quiet e c p n es (argument_wants (count es) (called_owner n)) front.0 front.1 es claims h w) }
  after_quiet e p o n es c v TheBase of_type is word claims right h w = absurd (false≢true (sym right))
  after_quiet e p o n es c v (AClass k) of_type is word claims right h w =
      let wants = argument_plain (count es) (called_member (expr_context e.scope c) (count es) v n (AClass k)) (class_takes e.scope.classes k n) in
      record { same = refl; is_quiet = called_reads quiet e p (AClass k) o n es (args e es) (member_callee e.scope n (AClass k)) (is refl) (args_quiet e c _ wants es claims h w) }
  after_quiet e p o n es c v (AValue t) of_type is word claims right h w = record {
    same = refl;
    is_quiet =
        ⊎_elim
        (λ yes.
        let asked : is_wrong_call (count es) (if is_state_read n then Refused else asks_level v) ≡ false = rw yes at right in
        let may = not_refused (count es) (is_state_read n) v.is_nothing (may_have_levels v.ty) (ClassName ∷ []) asked in
        level_quiet e p o n es t (is_state_call n) _ yes (subst (λ u. may_have_levels u ≡ true) of_type may) (is refl))
        (λ no.
        let wants = argument_plain (count es) (called_value e.scope.classes v n) (value_takes e.scope.classes v n no) in
        called_reads quiet e p (AValue t) o n es (args e es) (member_callee e.scope n (AValue t)) (is refl) (args_quiet e c (argument_wants (count es) (called_value e.scope.classes v n)) wants es claims h w))
        (cases_Bool (is_state_call n));
  }

  -- ---- calls

  call_quiet : (e : Env) → Match e → (p : Place) (es : Arguments) → Claims e es → (f : text.ExprTree) → CalleeClaim e f → Claim e (text.CallOf p f es)
  call_quiet e match p es claims (text.NameOf q n) callee_claim c h w =
      let s = e.scope in
      let a = expr_context s c in
      let k = count es in
      let meant = called_name a n in
      let rest = none_left (condition_faults a p _ ++ whole_call p k meant) (argument_faults a (argument_wants k meant) es) h in
      let front = none_left (condition_faults a p _) (whole_call p k meant) rest.0 in
      let fits = no_fault (is_wrong_call k meant) (bad_type p) front.1 in
      let hidden = is_some (local_named s n) || is_some (field_of s.classes s.class n) in
      let b = callee_bare e p q (args e es) k s.classes s.refuses_members hidden (method_of s.classes s.class n) fits in
      let wants = argument_plain k meant (on_either takes_plain hidden Refused (called_method s.classes true (method_of s.classes s.class n)) refl (method_takes s.classes (method_of s.classes s.class n))) in
      record {
        is_quiet = b.is_quiet (args_quiet e c (argument_wants k meant) wants es claims rest.1 (and_parts true (args_words (plainly s) es) w).1);
        same = ap (λ z. call_type s.classes (called_with k z)) b.same;
      }
  call_quiet e match p es claims (text.MemberOf q x n) claim c h w =
      let s = e.scope in
      let a = expr_context s c in
      let k = count es in
      let v = value_of (refusing s) x in
      let t = receiver (refusing s) x (static (refusing s) x) in
      let u = receiver s x (static s x) in
      let meant = called_member a k v n.text t in
      let rest = none_left (faults a AsCallee (text.MemberOf q x n) ++ condition_faults a p _ ++ whole_call p k meant) (argument_faults a (argument_wants k meant) es) h in
      let front = none_left (faults a AsCallee (text.MemberOf q x n) ++ condition_faults a p _) (whole_call p k meant) rest.0 in
      let before = none_left (faults a AsCallee (text.MemberOf q x n)) (condition_faults a p _) front.0 in
      let dots = none_left (faults a BeforeDot x ++ word_faults s.classes v n.text t) [] before.0 in
      let dotted = none_left (faults a BeforeDot x) (word_faults s.classes v n.text t) dots.0 in
      let words = and_parts (callee_words (plainly s) (text.MemberOf q x n)) (args_words (plainly s) es) w in
      let named_words = and_parts (called_word n.text (receiver (plainly s) x None)) (calls_words (plainly s) x) words.0 in
      let d = dot_of e match x claim c dotted.0 named_words.1 in
      let fits = subst (λ z. is_wrong_call k (called_member a k v n.text z) ≡ false) d.same (no_fault (is_wrong_call k meant) (bad_type p) front.1) in
      let given = subst (λ z. argument_faults a (argument_wants k (called_member a k v n.text z)) es ≡ []) d.same rest.1 in
      let of_type = subst (λ z. HasType z v.ty) d.same (receiver_type (refusing s) x (static (refusing s) x)) in
      let word = sym (same_word n.text s true r None (static s x) x) ∙ named_words.0 in
      let b = after_quiet e p (expr e x) n.text es c v u of_type d.is_quiet word claims fits given words.1 in
      record { is_quiet = b.is_quiet; same = ap (λ z. call_type s.classes (called_with k z)) (ap (member_callee (refusing s) n.text) d.same ∙ b.same) }
  call_quiet e match p es claims f callee_claim c h w = record { is_quiet = refl; same = refl }

  -- the arguments of a call after a dot are what it wants
  pub call_given : (e : Env) → Match e → (p q : Place) (x : text.ExprTree) (n : NameTree) (es : Arguments) → Claim e x → (c : Bool) → faults (expr_context e.scope c) AsValue (text.CallOf p (text.MemberOf q x n) es) ≡ [] →
      calls_words (plainly e.scope) (text.CallOf p (text.MemberOf q x n) es) ≡ true →
      argument_faults (expr_context e.scope c) (argument_wants (count es) (called_member (expr_context e.scope c) (count es) (value_of (refusing e.scope) x) n.text (receiver e.scope x (static e.scope x)))) es ≡ []
  call_given e match p q x n es claim c h w =
      let s = e.scope in
      let a = expr_context s c in
      let k = count es in
      let v = value_of (refusing s) x in
      let t = receiver (refusing s) x (static (refusing s) x) in
      let meant = called_member a k v n.text t in
      let rest = none_left (faults a AsCallee (text.MemberOf q x n) ++ condition_faults a p _ ++ whole_call p k meant) (argument_faults a (argument_wants k meant) es) h in
      let front = none_left (faults a AsCallee (text.MemberOf q x n) ++ condition_faults a p _) (whole_call p k meant) rest.0 in
      let before = none_left (faults a AsCallee (text.MemberOf q x n)) (condition_faults a p _) front.0 in
      let dots = none_left (faults a BeforeDot x ++ word_faults s.classes v n.text t) [] before.0 in
      let dotted = none_left (faults a BeforeDot x) (word_faults s.classes v n.text t) dots.0 in
      let words = and_parts (callee_words (plainly s) (text.MemberOf q x n)) (args_words (plainly s) es) w in
      let named_words = and_parts (called_word n.text (receiver (plainly s) x None)) (calls_words (plainly s) x) words.0 in
      let d = dot_of e match x claim c dotted.0 named_words.1 in
      subst (λ z. argument_faults a (argument_wants k (called_member a k v n.text z)) es ≡ []) d.same rest.1

  -- ---- expressions

  two_quiet : (e : Env) (x y : text.ExprTree) → Quiet e x → Quiet e y → (reads quiet (expr e x) && reads quiet (expr e y)) ≡ true
  two_quiet e x y h g = and_from _ _ h.is_quiet g.is_quiet

  -- both are wanted
  wanted_two : (e : Env) (c : Bool) (v z : Want) (x y : text.ExprTree) → Claim e x → Claim e y → wanted (expr_context e.scope c) v x (faults (expr_context e.scope c) AsValue x) ++ wanted (expr_context e.scope c) z y (faults (expr_context e.scope c) AsValue y) ≡ [] →
      (calls_words (plainly e.scope) x && calls_words (plainly e.scope) y) ≡ true → Quiet e x × Quiet e y
  wanted_two e c v z x y f g h w =
      let a = expr_context e.scope c in
      let both = none_left (wanted a v x (faults a AsValue x)) (wanted a z y (faults a AsValue y)) h in
      let words = and_parts (calls_words (plainly e.scope) x) (calls_words (plainly e.scope) y) w in
      (f c (none_left (faults a AsValue x) (wrong a.scope v x) both.0).0 words.0, g c (none_left (faults a AsValue y) (wrong a.scope z y) both.1).0 words.1)

  wanted_one : (e : Env) (c : Bool) (v : Want) (x : text.ExprTree) → Claim e x → wanted (expr_context e.scope c) v x (faults (expr_context e.scope c) AsValue x) ≡ [] → calls_words (plainly e.scope) x ≡ true → Quiet e x
  wanted_one e c v x f h w = let a = expr_context e.scope c in f c (none_left (faults a AsValue x) (wrong a.scope v x) h).0 w

  read_quiet : (s : Scope) (o : ExprTree) (v : Value) (n : List ℕ) (p : Place) (t : Receiver) → (is_word t ≡ false → reads quiet o ≡ true) → read_faults s.classes p v n t ≡ [] → reads quiet o ≡ true
  read_quiet s o v n p TheConsole h g = absurd (let x : ⊥ = cc in x)
  read_quiet s o v n p TheOwner h g = absurd (let x : ⊥ = cc in x)
  read_quiet s o v n p TheBase h g = absurd (let x : ⊥ = cc in x)
  read_quiet s o v n p (AClass k) h g = h refl
  read_quiet s o v n p (AValue t) h g = h refl

  member_quiet : (e : Env) → Match e → (p : Place) (x : text.ExprTree) (n : NameTree) → Claim e x → Claim e (text.MemberOf p x n)
  member_quiet e match p x n claim c h w =
      let s = e.scope in
      let a = expr_context s c in
      let v = value_of (refusing s) x in
      let t = receiver (refusing s) x (static (refusing s) x) in
      let parts = none_left (faults a BeforeDot x ++ word_faults s.classes v n.text t) (read_faults s.classes p v n.text t) h in
      let front = none_left (faults a BeforeDot x) (word_faults s.classes v n.text t) parts.0 in
      let d = dot_of e match x claim c front.0 w in
      let read = subst (λ z. read_faults s.classes p v n.text z ≡ []) d.same parts.1 in
      record {
        is_quiet = member_reads quiet e p (expr e x) n.text (class_in (static s x)) (read_quiet s (expr e x) v n.text p (receiver s x (static s x)) d.is_quiet read);
        same = ap (read_type s.classes n.text) d.same;
      }

  name_quiet : (e : Env) → Match e → (p : Place) (n : List ℕ) → Claim e (text.NameOf p n)
  name_quiet e match p n c h w =
      let s = e.scope in
      let f = field_of s.classes s.class n in
      let m = is_some (method_of s.classes s.class n) in
      let not_misused = no_fault (is_misused (expr_context s c) n) (bad_type p) h in
      record {
        is_quiet = known_reads e p n (known e n) (λ i. misused_field (local_named s n) f m not_misused (sym (matched e match n) ∙ i));
        same = misused_type s.classes (local_named s n) f m s.refuses_members not_misused;
      }

  mutual
    pub all_quiet : (e : Env) → Match e → (x : text.ExprTree) → Claim e x
    all_quiet e match (text.ThisOf p) c h w = absurd (let x : ⊥ = cc in x)
    all_quiet e match (text.BaseOf p) c h w = absurd (let x : ⊥ = cc in x)
    all_quiet e match (text.NameOf p n) c h w = name_quiet e match p n c h w
    all_quiet e match (text.ParenOf p x) c h w = let q = all_quiet e match x c h w in record { is_quiet = q.is_quiet; same = q.same }
    all_quiet e match (text.OldOf p x) c h w = let q = wanted_one e c AnyValue x (all_quiet e match x) h w in record { is_quiet = q.is_quiet; same = q.same }
    all_quiet e match (text.NegateOf p x) c h w = record { is_quiet = (wanted_one e c AnInt x (all_quiet e match x) h w).is_quiet; same = refl }
    all_quiet e match (text.NotOf p x) c h w = record { is_quiet = (wanted_one e c ABool x (all_quiet e match x) h w).is_quiet; same = refl }
    all_quiet e match (text.IffOf p x y) c h w = let q = wanted_two e c ABool ABool x y (all_quiet e match x) (all_quiet e match y) h w in record { is_quiet = two_quiet e x y q.0 q.1; same = refl }
    all_quiet e match (text.ImpliesOf p x y) c h w = let q = wanted_two e c ABool ABool x y (all_quiet e match x) (all_quiet e match y) h w in record { is_quiet = two_quiet e x y q.0 q.1; same = refl }
    all_quiet e match (text.BinaryOf p o x y) c h w =
        let a = expr_context e.scope c in
        let rest = none_left (faults a AsValue x ++ faults a AsValue y) (operand_faults e.scope.classes p (operand o) (value_of (refusing e.scope) x) (value_of (refusing e.scope) y)) h in
        let both = none_left (faults a AsValue x) (faults a AsValue y) rest.0 in
        let words = and_parts (calls_words (plainly e.scope) x) (calls_words (plainly e.scope) y) w in
        record { is_quiet = two_quiet e x y (all_quiet e match x c both.0 words.0) (all_quiet e match y c both.1 words.1); same = refl }
    all_quiet e match (text.IsOf p x t) c h w =
        let a = expr_context e.scope c in
        record { is_quiet = (wanted_one e c AReference x (all_quiet e match x) (none_left (wanted a AReference x (faults a AsValue x)) (no_class t) h).0 w).is_quiet; same = refl }
    all_quiet e match (text.AsOf p x t) c h w =
        let a = expr_context e.scope c in
        record { is_quiet = (wanted_one e c AReference x (all_quiet e match x) (none_left (wanted a AReference x (faults a AsValue x)) (no_class t) h).0 w).is_quiet; same = refl }
    all_quiet e match (text.CastOf p t x) c h w =
        let a = expr_context e.scope c in
        record { is_quiet = (wanted_one e c AReference x (all_quiet e match x) (none_left (no_class t) (wanted a AReference x (faults a AsValue x)) h).1 w).is_quiet; same = refl }
    all_quiet e match (text.MemberOf p x n) c h w = member_quiet e match p x n (all_quiet e match x) c h w
    all_quiet e match (text.ElementOf p x y) c h w =
        let q = wanted_two e c AnArray AnInt x y (all_quiet e match x) (all_quiet e match y) h w in
        record { is_quiet = two_quiet e x y q.0 q.1; same = ap (λ t. option_and_then element_type (option_and_then class_of t)) q.0.same }
    all_quiet e match (text.CallOf p f es) c h w = call_quiet e match p es (all_claims e match es) f (callee_claim e match f) c h w
    all_quiet e match (text.NewOf p n es) c h w =
        let a = expr_context e.scope c in
        let meant = newly a n in
        let rest = none_left (condition_faults a p true ++ whole_call p (count es) meant) (argument_faults a (argument_wants (count es) meant) es) h in
        let wants = argument_plain (count es) meant (constructed_plain e.scope.classes (class_named e.scope.classes n.text)) in
        record { is_quiet = args_quiet e c (argument_wants (count es) meant) wants es (all_claims e match es) rest.1 w; same = refl }
    all_quiet e match (text.NewArrayOf p q t x) c h w =
        let a = expr_context e.scope c in
        record { is_quiet = (wanted_one e c AnInt x (all_quiet e match x) (none_left (condition_faults a p true) (wanted a AnInt x (faults a AsValue x)) h).1 w).is_quiet; same = refl }
    all_quiet e match (text.QuantifiedOf p q n low high x) c h w =
        let a = expr_context e.scope c in
        let i = within e n in
        let lows = wanted a AnInt low (faults (conditional a) AsValue low) in
        let highs = wanted a AnInt high (faults (conditional a) AsValue high) in
        let rest = none_left (lows ++ highs) (wanted (bound a n) ABool x (faults (bound a n) AsValue x)) h in
        let bounds = none_left lows highs rest.0 in
        let words = and_parts (calls_words (plainly e.scope) low) (calls_words (plainly e.scope) high && calls_words (plainly i.scope) x) w in
        let more = and_parts (calls_words (plainly e.scope) high) (calls_words (plainly i.scope) x) words.1 in
        let one = all_quiet e match low true (none_left (faults (conditional a) AsValue low) (wrong a.scope AnInt low) bounds.0).0 words.0 in
        let two = all_quiet e match high true (none_left (faults (conditional a) AsValue high) (wrong a.scope AnInt high) bounds.1).0 more.0 in
        let three = all_quiet i (within_match e n match) x true (none_left (faults (bound a n) AsValue x) (wrong (bound a n).scope ABool x) rest.1).0 more.1 in
        record { is_quiet = and_from _ _ one.is_quiet (and_from _ _ two.is_quiet three.is_quiet); same = refl }
    all_quiet e match x c h w = record { is_quiet = refl; same = refl }

    pub all_claims : (e : Env) → Match e → (es : Arguments) → Claims e es
    all_claims e match text.NoMore = tt
    all_claims e match (text.Argument x es) = (all_quiet e match x, all_claims e match es)

    callee_claim : (e : Env) → Match e → (f : text.ExprTree) → CalleeClaim e f
    callee_claim e match (text.MemberOf p x n) = all_quiet e match x
    callee_claim e match f = tt
