-- What a constructor asks at its entry says nothing of `this`.
use Rattle.std.proofs.Common.{◌≡◌, ℕ, zero, suc, ◌+◌, ◌<◌, List, [], ◌∷◌, ◌++◌, length, map, Bool, true, false, Some, refl, sym, ◌∙◌, ap, subst, arith, ⊎_elim}
use Rattle.std.specs.Prelude.{not, ◌==◌, ◌&&◌, ◌||◌, nat_le, nat_lt, slice_get, option_and_then, if◌then◌else◌}
use Rattle.std.specs.List.{list_all}
use Rattle.std.proofs.lemmas.Bool.{and_parts, and_from, or_left, or_right, cases_Bool, ne_eqb, leb-true}
use Rattle.std.proofs.lemmas.List.{length-map}
use Rattle.std.proofs.lemmas.Option.{same_Some}
use Rattle.std.proofs.lemmas.List.Folds.{list_all-append}
use Rattle.ss_core.specs.declared.names.Place.{Place}
use Rattle.ss_core.specs.Tree as core
use Rattle.ss_core.specs.Tree.{DefaultTree, DefaultExpr}
use Rattle.ss_ast.specs.Programs.{ClauseTree, RequiresOf, EnsuresOf, ModifiesOf, ClassTree, ProgramTree}
use Rattle.ss_tables.specs.Members.{ConstructorTree}
use Rattle.ss_typed.specs.Tree.{ExprTree, IntOf, BoolOf, NullOf, ThisOf, LocalOf, ResultOf, BoundOf, IffOf, ImpliesOf, BinaryOf, IsOf, AsOf, NegateOf, NotOf, CastOf, FieldOf, ElementOf, LengthOf, OldOf, QuantifiedOf, StateOf, OwnersOf, NewOf, NewArrayOf, CallOf, StaticOf, BaseOf, BodyTree, TypedTree}
use Rattle.ss_delayed_rules.specs.Escapes.{NotAtAll, uses, uses_in_all}
use Rattle.ss_delayed_rules.specs.Constructors.{at, escapes, delayed_faults, undelayed_faults, constructor_faults}
use Rattle.ss_delayed_rules.specs.Program.{classes_faults, body_faults, bodies_faults, construction_faults}
use Rattle.ss_resolver_rules.specs.Names.{Env, class_env}
use Rattle.ss_resolver_rules.specs.Programs.{entry_in, param, param_env, method_body, constructor_body, resolved}
use Rattle.ss_expand_rules.specs.Numbers.{Numbers, plain, all_plain}
use Rattle.ss_expand_rules.specs.Program.{table, method_at, Origin}
use Rattle.ss_typed.specs.Lookups.{body_at}
use Rattle.ss_expand_rules.specs.Contracts.{first_param, conditions, default_entry}
use Rattle.ss_expand_rules.specs.Bodies.{contract_numbers, written_body}
use Rattle.ss_store_rules.specs.Locals.{is_default}
use Rattle.ss_store_rules.specs.Construction.{is_without_this, requires_nothing_of_this}
use Rattle.ss_expand_formed.specs.Laws.{core_of}
use Rattle.ss_expand_formed.proofs.Facts.{none_left, all_at, not_true}
use Rattle.ss_expand_formed.proofs.Bodies.{IsMade, WrittenConstructor, ImplicitConstructor, WrittenMethod, Wrapper, origin_of}
use Rattle.ss_expand_formed.proofs.Resolved.{bodies_pass, entry_is}
use Rattle.ss_expand_formed.proofs.Entries.{method_entry}
use Rattle.ss_expand_formed.proofs.Choosing.{all_three, three_parts}
use Rattle.ss_expand_formed.proofs.Shape.{is_from}
use Rattle.ss_expand_formed.proofs.Resolving.{is_numbered, params_numbered}
use Rattle.ss_expand_formed.specs.Members.{RequireNothingOfThis}
use Rattle.ss_expand_formed.proofs.Reading.{locals_pass, reads_in_scope}

-- ---- expressions

abbrev is_other : ℕ → Bool
is_other x = not (x == 0)

other : (x : ℕ) → 0 < x → is_other x ≡ true
other x l = let no = ne_eqb x 0 (λ e. omega arith) in rw no refl

-- an expression without `this`, over other locals, stays so
module _ (f : ℕ → Bool) (more : (x : ℕ) → f x ≡ true → is_other x ≡ true) (outcome bound first : ℕ) (after : 0 < outcome) (behind : 0 < bound) where
  abbrev ns : Numbers
  ns = record { meant = []; first_temporary = first; outcome = outcome; first_bound = bound }

  abbrev Stays : ExprTree → Type 0
  Stays e = is_without_this (plain ns e) ≡ true

  stays : (e : ExprTree) → uses NotAtAll e ≡ [] → locals_pass f e ≡ true → Stays e
  stays (ThisOf p t) h g = absurd (let z : ⊥ = cc in z)
  stays (LocalOf p x t) h g = more x g
  stays (ResultOf p t) h g = other outcome after
  stays (BoundOf p n) h g = other (bound + n) (omega arith)
  stays (IffOf p a b) h g = let u = none_left (uses NotAtAll a) (uses NotAtAll b) h in let l = and_parts (locals_pass f a) (locals_pass f b) g in and_from _ _ (stays a u.0 l.0) (stays b u.1 l.1)
  stays (ImpliesOf p a b) h g = let u = none_left (uses NotAtAll a) (uses NotAtAll b) h in let l = and_parts (locals_pass f a) (locals_pass f b) g in and_from _ _ (stays a u.0 l.0) (stays b u.1 l.1)
  stays (BinaryOf p o a b) h g = let u = none_left (uses NotAtAll a) (uses NotAtAll b) h in let l = and_parts (locals_pass f a) (locals_pass f b) g in and_from _ _ (stays a u.0 l.0) (stays b u.1 l.1)
  stays (ElementOf p a b) h g = let u = none_left (uses NotAtAll a) (uses NotAtAll b) h in let l = and_parts (locals_pass f a) (locals_pass f b) g in and_from _ _ (stays a u.0 l.0) (stays b u.1 l.1)
  stays (OwnersOf p w a b) h g = let u = none_left (uses NotAtAll a) (uses NotAtAll b) h in let l = and_parts (locals_pass f a) (locals_pass f b) g in and_from _ _ (stays a u.0 l.0) (stays b u.1 l.1)
  stays (IsOf p e t) h g = stays e h g
  stays (AsOf p e t) h g = stays e h g
  stays (NegateOf p e) h g = stays e h g
  stays (NotOf p e) h g = stays e h g
  stays (CastOf p t non_null e) h g = stays e h g
  stays (FieldOf p e k t) h g = stays e h g
  stays (LengthOf p e) h g = stays e h g
  stays (OldOf p e) h g = stays e h g
  stays (StateOf p w e) h g = stays e h g
  stays (QuantifiedOf p q name low high e) h g =
      let u = none_left (uses NotAtAll low ++ uses NotAtAll high) (uses NotAtAll e) h in
      let v = none_left (uses NotAtAll low) (uses NotAtAll high) u.0 in
      let l = three_parts (locals_pass f low) (locals_pass f high) (locals_pass f e) g in
      all_three _ _ _ (stays low v.0 l.0) (stays high v.1 l.1) (stays e u.1 l.2)
  stays (IntOf p n) h g = refl
  stays (BoolOf p b) h g = refl
  stays (NullOf p) h g = refl
  stays (NewOf p t es) h g = refl
  stays (NewArrayOf p t e) h g = refl
  stays (CallOf p e m t es) h g = refl
  stays (StaticOf p n t es) h g = refl
  stays (BaseOf p m t es) h g = refl

  all_stay : (es : List ExprTree) → uses_in_all NotAtAll es ≡ [] → list_all (locals_pass f) es ≡ true → list_all (λ e. is_default e || is_without_this e) (all_plain ns es) ≡ true
  all_stay [] h g = refl
  all_stay (e ∷ es) h g =
      let u = none_left (uses NotAtAll e) (uses_in_all NotAtAll es) h in
      let l = and_parts (locals_pass f e) (list_all (locals_pass f) es) g in
      and_from _ _ (or_right (is_default (plain ns e)) _ (stays e u.0 l.0)) (all_stay es u.1 l.1)

defaults_pass : (p : Place) (ds : List DefaultTree) → list_all (λ e. is_default e || is_without_this e) (conditions p ds) ≡ true
defaults_pass p [] = refl
defaults_pass p (d ∷ ds) = defaults_pass p ds

-- ---- written constructors

-- the conditions of a constructor read its parameters, which stand after `this`
abbrev reads_params : BodyTree → Bool
reads_params b = not b.flags.ctor || not b.flags.is_static && list_all (locals_pass (is_from 1 (1 + length b.params))) b.entry

entry_passes : (e : Env) → is_numbered 1 e ≡ true → (cs : List ClauseTree) → list_all (locals_pass (is_from 1 e.next)) (entry_in e cs) ≡ true
entry_passes e h [] = refl
entry_passes e h (RequiresOf a ∷ cs) = and_from _ _ (reads_in_scope 1 e h a) (entry_passes e h cs)
entry_passes e h (EnsuresOf a ∷ cs) = entry_passes e h cs
entry_passes e h (ModifiesOf ms ∷ cs) = entry_passes e h cs

constructor_reads : (cs : List ClassTree) (k : ℕ) (c : ConstructorTree) → reads_params (constructor_body cs k c) ≡ true
constructor_reads cs k c =
    let e0 : Env = record (class_env cs k) { next = 1 } in
    let r = params_numbered 1 e0 c.params refl (omega arith) in
    let e = param_env cs k false c.params in
    let size : e.next ≡ 1 + length (map (param e) c.params) = r.next ∙ ap (λ n. 1 + n) (sym (length-map c.params (param e))) in
    subst (λ n. list_all (locals_pass (is_from 1 n)) (entry_in e c.clauses) ≡ true) size (entry_passes e r.names c.clauses)

all_read : (p : ProgramTree) → list_all reads_params (resolved p).bodies ≡ true
all_read p = bodies_pass reads_params p.classes (λ k d l. constructor_reads p.classes k d) (λ k m l. refl) 0 p.classes (omega arith)

from_one : (n x : ℕ) → is_from 1 n x ≡ true → is_other x ≡ true
from_one n x h = let l = leb-true 1 x (and_parts (nat_le 1 x) (nat_lt x n) h).0 in other x (omega arith)

no_escapes : (ps : List Place) → escapes ps ≡ [] → ps ≡ []
no_escapes [] h = refl
no_escapes (q ∷ ps) h = absurd (let z : ⊥ = cc in z)

body_none : (p : TypedTree) (bs : List BodyTree) (n : ℕ) (b : BodyTree) → bodies_faults p bs ≡ [] → slice_get bs n ≡ Some b → body_faults p b ≡ []
body_none p [] n b h e = absurd (let z : ⊥ = cc in z)
body_none p (x ∷ bs) zero b h e = ap (body_faults p) (sym (same_Some _ _ e)) ∙ (none_left (body_faults p x) (bodies_faults p bs) h).0
body_none p (x ∷ bs) (suc n) b h e = body_none p bs n b (none_left (body_faults p x) (bodies_faults p bs) h).1 e

-- a written constructor
written_asks : (p : TypedTree) (b : BodyTree) → b.flags.ctor ≡ true → reads_params b ≡ true → body_faults p b ≡ [] → requires_nothing_of_this (written_body p b (b ∷ [])) ≡ true
written_asks p b ctor reads none =
    let both = and_parts (not b.flags.is_static) (list_all (locals_pass (is_from 1 (1 + length b.params))) b.entry) (rw ctor at reads) in
    let whole : constructor_faults p b ≡ [] = rw ctor at none in
    let uses_none = no_escapes (uses_in_all NotAtAll b.entry) (none_left (escapes (uses_in_all NotAtAll b.entry)) (if b.flags.delayed then delayed_faults p b else undelayed_faults p b) whole).0 in
    let one : first_param b ≡ 1 = rw (not_true b.flags.is_static both.0) refl in
    let ns = contract_numbers p b in
    let asked = list_all-append (λ e. is_default e || is_without_this e) (conditions b.place (default_entry b b.class)) (all_plain ns b.entry)
    ∙ rw (defaults_pass b.place (default_entry b b.class), all_stay (is_from 1 (1 + length b.params)) (from_one (1 + length b.params)) ns.outcome ns.first_bound ns.first_temporary (omega arith) (omega arith) b.entry uses_none both.1) refl in
    or_right (not b.flags.ctor) _ asked

written_is : (p : TypedTree) (b : BodyTree) → reads_params b ≡ true → body_faults p b ≡ [] → requires_nothing_of_this (written_body p b (b ∷ [])) ≡ true
written_is p b reads none =
    ⊎_elim
    (λ yes. written_asks p b yes reads none)
    (λ no. or_left (not b.flags.ctor) _ (ap not no))
    (cases_Bool b.flags.ctor)

-- ---- all bodies

-- a method is no constructor
method_no_constructor : (p : ProgramTree) (t m : ℕ) (b : BodyTree) → method_at (resolved p) t m ≡ Some b → b.flags.ctor ≡ false
method_no_constructor p t m b h =
    let e = entry_is (resolved p) (slice_get (table (resolved p) t) m) b h in
    let x = method_entry p t m e.0 e.1 in
    let there : body_at (resolved p) e.0.body ≡ Some b = ap (option_and_then (λ (z : core.EntryTree). body_at (resolved p) z.body)) (sym e.1) ∙ h in
    let same : method_body p.classes x.class x.method ≡ b = same_Some _ _ (sym x.is ∙ there) in
    ap (λ (z : BodyTree). z.flags.ctor) (sym same)

made_asks : (p : ProgramTree) → bodies_faults (resolved p) (resolved p).bodies ≡ [] → (o : Origin) (y : core.BodyTree) → IsMade (resolved p) o y → requires_nothing_of_this y ≡ true
made_asks p none o y (WrittenConstructor {n = n} {b = b} is em en eb) = written_is (resolved p) b (all_at reads_params (resolved p).bodies n b (all_read p) eb) (body_none (resolved p) (resolved p).bodies n b none eb)
made_asks p none o y (ImplicitConstructor is ec em empty) = refl
made_asks p none o y (WrittenMethod {t = t} {m = m} {b = b} is eb own) = or_left (not b.flags.ctor) _ (ap not (method_no_constructor p t m b eb))
made_asks p none o y (Wrapper is eb own em) = refl

pub require_nothing_of_this : (p : ProgramTree) → construction_faults (resolved p) ≡ [] → RequireNothingOfThis (core_of p)
unfolding construction_faults
require_nothing_of_this p construction n y at =
    let none = (none_left (classes_faults (resolved p) 0 (resolved p).members) (bodies_faults (resolved p) (resolved p).bodies) construction).1 in
    let from = origin_of (resolved p) n y at in
    made_asks p none from.origin y from.made
