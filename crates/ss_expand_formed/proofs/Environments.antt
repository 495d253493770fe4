-- Places of a program: in a class, after parameters, in a method and in a constructor.
use Rattle.std.proofs.Common.{◌≡◌, ℕ, suc, ◌+◌, ◌<◌, List, [], ◌∷◌, ◌++◌, length, map, Bool, true, false, Option, Some, None, refl, ap, subst, arith}
use Rattle.std.specs.Prelude.{slice_get, is_some, option_map, if◌then◌else◌}
use Rattle.std.proofs.lemmas.Bool.{false≢true}
use Rattle.ss_core.specs.declared.names.Ty.{Ty}
use Rattle.ss_core.specs.Tree as core
use Rattle.ss_ast.specs.Expressions.{TypeTree}
use Rattle.ss_ast.specs.Programs.{ParamTree, ProgramTree}
use Rattle.ss_tables.specs.Members.{MethodTree, ConstructorTree, is_static}
use Rattle.ss_tables.specs.Classes.{class_number}
use Rattle.ss_tables.specs.Types.{written_type}
use Rattle.ss_tables.specs.Scopes.{Scope, Local, Locals, class_scope}
use Rattle.ss_tables.specs.Named.{named_in, with_named}
use Rattle.ss_tables.specs.Scopes as scopes
use Rattle.ss_typed.specs.Tree.{BodyTree}
use Rattle.ss_typed.specs.Tree as typed
use Rattle.ss_typed.specs.Types.{class_type}
use Rattle.ss_resolver_rules.specs.Names.{Known_names, declare_params}
use Rattle.ss_resolver_rules.specs.declared.known.Known.{Known}
use Rattle.ss_resolver_rules.specs.declared.known.Known.TheVariants.{Variable}
use Rattle.ss_resolver_rules.specs.Numbers.{type_id}
use Rattle.ss_resolver_rules.specs.Programs.{param_env, method_env, result_env}
use Rattle.ss_expand_formed.proofs.Fit.{Context}
use Rattle.ss_expand_formed.proofs.Names.{Stands, Alike, Meets, meets_in}
use Rattle.ss_expand_formed.proofs.ExpressionsPlaces.{At, scope_at, env_at, IsPlace}

-- ---- one name more

module _ (types : List Ty) (k : ℕ) where
  meets_some : (o : Option Local) (q : Option Known) → Meets types k o q → is_some o ≡ is_some q
  meets_some None None h = refl
  meets_some None (Some m) h = absurd h
  meets_some (Some l) None h = absurd h
  meets_some (Some l) (Some m) h = refl

  alike_append : (ls : Locals) (ms : Known_names) (n : List ℕ) (l : Local) (m : Known) → Alike types k ls ms → Stands types k l m → Alike types k (ls ++ (n, l) ∷ []) (ms ++ (n, m) ∷ [])
  alike_append [] [] n l m h g = (refl, g, tt)
  alike_append [] (q ∷ qs) n l m h g = absurd h
  alike_append (o ∷ os) [] n l m h g = absurd h
  alike_append (o ∷ os) (q ∷ qs) n l m h g = (h.0, h.1, alike_append os qs n l m h.2 g)

  pub alike_with : (ls : Locals) (ms : Known_names) (n : List ℕ) (l : Local) (m : Known) → Alike types k ls ms → Stands types k l m → Alike types k (with_named ls n l) (with_named ms n m)
  alike_with ls ms n l m h g =
      subst (λ b. Alike types k (with_named ls n l) (if b then ms else ms ++ (n, m) ∷ [])) (meets_some (named_in ls n) (named_in ms n) (meets_in types k ls ms n h)) (by (is_some (named_in ls n)))
    where
      by : (b : Bool) → Alike types k (if b then ls else ls ++ (n, l) ∷ []) (if b then ms else ms ++ (n, m) ∷ [])
      by true = h
      by false = alike_append ls ms n l m h g

-- ---- the context of a body

abbrev pub this_in : BodyTree → List Ty
this_in b = if b.flags.is_static then [] else class_type b.class true ∷ []

abbrev pub param_types : BodyTree → List Ty
param_types b = map (λ (q : typed.ParamTree). q.ty) b.params

-- its arguments, and locals of these types after them
abbrev pub context_with : BodyTree → List Ty → Context
context_with b ls = record { is_static = b.flags.is_static; class = b.class; locals = this_in b ++ param_types b ++ ls; result = b.result }

abbrev pub context_of : BodyTree → Context
context_of b = context_with b (map (λ (l : core.LocalTree). l.ty) b.locals)

-- the context of the invariants of a class, and of what its fields begin with
abbrev pub class_context : ℕ → Context
class_context k = record { is_static = false; class = class_number k; locals = class_type (class_number k) true ∷ []; result = None }

-- ---- environments

module _ (p : ProgramTree) where
  -- after a local of this type, which may be a parameter
  abbrev pub with_at : Bool → At → TypeTree → List ℕ → At
  with_at is_param a t n = record a {
    names = with_named a.names n (record { ty = written_type p.classes t; is_param = is_param });
    numbers = with_named a.numbers n (Variable a.next (type_id p.classes t));
    next = a.next + 1;
  }

  abbrev pub params_at : At → List ParamTree → At
  params_at a [] = a
  params_at a (q ∷ qs) = params_at (with_at true a q.ty q.name.text) qs

  pub params_env : (a : At) (ps : List ParamTree) → declare_params (env_at p a) ps ≡ env_at p (params_at a ps)
  params_env a [] = refl
  params_env a (q ∷ qs) = params_env (with_at true a q.ty q.name.text) qs

  -- a scope as a phase has it
  abbrev pub viewed : Bool → Bool → Option Ty → Scope → Scope
  viewed members this outcome s = record s { refuses_members = members; refuses_this = this; outcome = outcome }

  pub params_scope : (members this : Bool) (o : Option Ty) (a : At) (ps : List ParamTree) → scopes.declare_params (viewed members this o (scope_at p a)) ps ≡ viewed members this o (scope_at p (params_at a ps))
  params_scope members this o a [] = refl
  params_scope members this o a (q ∷ qs) = params_scope members this o (with_at true a q.ty q.name.text) qs

  -- in a class, where the next local has this number
  abbrev pub class_at : ℕ → ℕ → At
  class_at k next = record { class = k; outcome = None; names = []; more_names = []; numbers = []; more_numbers = []; next = next; bound = 0 }

  abbrev pub first_number : Bool → ℕ
  first_number static = if static then 0 else 1

  abbrev pub giving : Option Ty → At → At
  giving o a = record a { outcome = o }

  -- in a constructor, and in a method
  abbrev pub constructor_at : ℕ → ConstructorTree → At
  constructor_at k d = params_at (class_at k 1) d.params

  abbrev pub method_at : ℕ → MethodTree → At
  method_at k m = giving (option_map (type_id p.classes) m.result) (params_at (class_at k (first_number (is_static m))) m.params)

  pub constructor_env : (k : ℕ) (d : ConstructorTree) → param_env p.classes k false d.params ≡ env_at p (constructor_at k d)
  constructor_env k d = params_env (class_at k 1) d.params

  pub method_env_is : (k : ℕ) (m : MethodTree) → method_env p.classes k m ≡ env_at p (method_at k m)
  method_env_is k m = ap (λ e. result_env e (option_map (type_id p.classes) m.result)) (params_env (class_at k (first_number (is_static m))) m.params)

  -- ---- places

  module _ (x : Context) (static lacks answer : Bool) where
    -- one local more, whose type the context has at its number
    pub place_with : (is_param : Bool) (a : At) (t : TypeTree) (n : List ℕ) → IsPlace p x static lacks answer a → written_type p.classes t ≡ Some (type_id p.classes t) → slice_get x.locals a.next ≡ Some (type_id p.classes t) → IsPlace p x static lacks answer (with_at is_param a t n)
    place_with is_param a t n h type at = record {
      class = h.class;
      this = h.this;
      in_static = h.in_static;
      in_class = h.in_class;
      outcome = h.outcome;
      answer_is = h.answer_is;
      inner = alike_with x.locals a.bound a.names a.numbers n (record { ty = written_type p.classes t; is_param = is_param }) (Variable a.next (type_id p.classes t)) h.inner (type, at);
      outer = h.outer;
    }

    pub place_params : (a : At) (ps : List ParamTree) → IsPlace p x static lacks answer a → ((i : ℕ) (q : ParamTree) → slice_get ps i ≡ Some q → written_type p.classes q.ty ≡ Some (type_id p.classes q.ty)) →
        ((i : ℕ) (q : ParamTree) → slice_get ps i ≡ Some q → slice_get x.locals (a.next + i) ≡ Some (type_id p.classes q.ty)) → IsPlace p x static lacks answer (params_at a ps)
    place_params a [] h types at = h
    place_params a (q ∷ qs) h types at =
        let z : a.next + 0 ≡ a.next = omega arith in
        place_params (with_at true a q.ty q.name.text) qs (place_with true a q.ty q.name.text h (types 0 q refl) (subst (λ n. slice_get x.locals n ≡ Some (type_id p.classes q.ty)) z (at 0 q refl))) (λ i r e. types (suc i) r e)
        (λ i r e. let s : a.next + 1 + i ≡ a.next + suc i = omega arith in rw s (at (suc i) r e))

  -- ---- a class

  pub class_place : (k : ℕ) → k < length p.classes → IsPlace p (class_context k) false false false (class_at k 1)
  class_place k l = record {
    class = l;
    this = λ e. refl;
    in_static = λ e. refl;
    in_class = refl;
    outcome = λ t e. e;
    answer_is = λ e g. absurd (false≢true e);
    inner = tt;
    outer = tt;
  }
