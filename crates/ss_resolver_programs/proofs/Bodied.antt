-- A body by its parts.
use Rattle.std.proofs.Common.{ℕ, ◌≡◌, List, [], Bool, false, Option, None, option_map, map, refl, ap, subst, ◌∙◌}
use Rattle.std.specs.Prelude.{if◌then◌else◌}
use Rattle.ss_core.specs.declared.names.Place.{Place}
use Rattle.ss_core.specs.declared.names.Ty.{Ty}
use Rattle.ss_core.specs.Tree.{LocalTree}
use Rattle.ss_core.specs.View.{local_of}
use Rattle.ss_ast.specs.Expressions.{NameTree}
use Rattle.ss_ast.specs.Statements as text
use Rattle.ss_ast.specs.Programs as written
use Rattle.ss_tables.specs.Members.{MethodTree, ConstructorTree, is_static}
use Rattle.ss_tables.specs.Classes.{class_number}
use Rattle.ss_tables_lookup.specs.declared.types.StaticType.{StaticType}
use Rattle.ss_tables_lookup.specs.Classes.{trees}
use Rattle.ss_tables_lookup.specs.Views.{type_of}
use Rattle.ss_typed.specs.declared.body.TypedFlags.{TypedFlags}
use Rattle.ss_typed.specs.Tree.{ExprTree, BlockTree, ParamTree, ModifiedTree, BaseTree, BodyTree}
use Rattle.ss_typed.specs.View as view
use Rattle.ss_resolver_rules.specs.Numbers.{type_id}
use Rattle.ss_resolver_rules.specs.Names.{Env, class_env, declare_params}
use Rattle.ss_resolver_rules.specs.Statements as resolved
use Rattle.ss_resolver_rules.specs.Programs.{param, locals, entry_in, exit_in, modifies_in, base_of, param_env, result_env, method_env, method_flags, constructor_flags, method_body, constructor_body}
use Rattle.ss_resolver_expressions.specs.LocalContext.{LocalContext, no_locals}
use Rattle.ss_resolver_expressions.specs.Environments.{env_of}
use Rattle.ss_resolver_expressions.specs.declared.context.ResolutionContext.{ResolutionContext}
use Rattle.ss_resolver_programs.specs.declared.bodies.Parts.{Parts}
use Rattle.ss_resolver_programs.specs.Parts.{AreParts}
use Rattle.ss_resolver_programs.specs.Terms.{terms_of}

abbrev with_outcome : ResolutionContext → ℕ → Bool → Bool → Option StaticType → Env
with_outcome s first refuses_members refuses_this o = record {
  scope = record {
    classes = trees s.within.tables.now;
    class = s.within.class;
    refuses_members = refuses_members;
    refuses_this = refuses_this;
    outcome = option_map type_of o;
    inner = [];
    outer = [];
  };
  inner = [];
  outer = [];
  next = first;
  bound = 0;
}

-- before the parameters of a body
begins : (s : ResolutionContext) (first : ℕ) → s.within.outcome ≡ None → s.within.refuses_members ≡ false → s.within.refuses_this ≡ false
    → env_of s (no_locals first) ≡ record (class_env (trees s.within.tables.now) s.within.class) { next = first }
begins s first h calls this =
    ap (with_outcome s first s.within.refuses_members s.within.refuses_this) h
    ∙ ap (λ (b : Bool). with_outcome s first b s.within.refuses_this None) calls
    ∙ ap (λ (b : Bool). with_outcome s first false b None) this

-- within them
pub params_are : (s : ResolutionContext) (first : ℕ) (a a1 : LocalContext) (ps : List written.ParamTree)
    → s.within.outcome ≡ None → s.within.refuses_members ≡ false → s.within.refuses_this ≡ false → a ≡ no_locals first → env_of s a1 ≡ declare_params (env_of s a) ps
    → env_of s a1 ≡ declare_params (record (class_env (trees s.within.tables.now) s.within.class) { next = first }) ps
params_are s first a a1 ps none calls this h b = b ∙ ap (λ e. declare_params e ps) (ap (env_of s) h ∙ begins s first none calls this)

-- where the result has its type
pub result_is : (s : ResolutionContext) (o : Option StaticType) (t : Option Ty) (a : LocalContext) → option_map type_of o ≡ t → result_env (env_of s a) (option_map type_of o) ≡ result_env (env_of s a) t
result_is s o t a h = ap (result_env (env_of s a)) h

-- each part in the environment that those before it leave
pub parts_are : (s : ResolutionContext) (a a1 a2 a3 : LocalContext) (ps : List written.ParamTree) (cs : List written.ClauseTree) (t : text.BlockTree) (p : Parts)
    → map view.param p.params.items ≡ map (param (env_of s a)) ps → map local_of p.locals.items ≡ locals (env_of s a) t
    → view.exprs p.entry.items ≡ entry_in (env_of s a) cs → a1 ≡ a → view.exprs p.exit.items ≡ exit_in (env_of s a1) cs → a2 ≡ a1
    → terms_of p.modifies ≡ modifies_in (env_of s a2) cs → a3 ≡ a2 → view.block p.block ≡ resolved.block (env_of s a3) t
    → AreParts (env_of s a) ps cs t p
parts_are s a a1 a2 a3 ps cs t p params locals entry k1 exit k2 modifies k3 block = record {
  params = params;
  locals = locals;
  entry = entry;
  exit = exit ∙ ap (λ n. exit_in (env_of s n) cs) k1;
  modifies = modifies ∙ ap (λ n. modifies_in (env_of s n) cs) (k2 ∙ k1);
  block = block ∙ ap (λ n. resolved.block (env_of s n) t) (k3 ∙ k2 ∙ k1);
}

abbrev pub made : ℕ → List ℕ → Place → TypedFlags → List NameTree → List ParamTree → List LocalTree → Option Ty → List ExprTree → List ExprTree → Option (List ModifiedTree) → Option BaseTree → BlockTree → BodyTree
made a0 a1 a2 a3 a4 a5 a6 a7 a8 a9 a10 a11 a12 = record { class = a0; name = a1; place = a2; flags = a3; attributes = a4; params = a5; locals = a6; result = a7; entry = a8; exit = a9; modifies = a10; base = a11; block = a12 }

-- with the parts that the definitions give, where the heading is the same
pub body_is : (e : Env) (ps : List written.ParamTree) (cs : List written.ClauseTree) (t : text.BlockTree) (p : Parts)
    (a0 b0 : ℕ) (a1 b1 : List ℕ) (a2 b2 : Place) (a3 b3 : TypedFlags) (a4 b4 : List NameTree) (a7 b7 : Option Ty) (a11 b11 : Option BaseTree)
    → AreParts e ps cs t p → a0 ≡ b0 → a1 ≡ b1 → a2 ≡ b2 → a3 ≡ b3 → a4 ≡ b4 → a7 ≡ b7 → a11 ≡ b11
    → made a0 a1 a2 a3 a4 (map view.param p.params.items) (map local_of p.locals.items) a7 (view.exprs p.entry.items) (view.exprs p.exit.items) (terms_of p.modifies) a11 (view.block p.block)
    ≡ made b0 b1 b2 b3 b4 (map (param e) ps) (locals e t) b7 (entry_in e cs) (exit_in e cs) (modifies_in e cs) b11 (resolved.block e t)
body_is e ps cs t p a0 b0 a1 b1 a2 b2 a3 b3 a4 b4 a7 b7 a11 b11 h h0 h1 h2 h3 h4 h7 h11 =
    ap (λ z. made z a1 a2 a3 a4 (map view.param p.params.items) (map local_of p.locals.items) a7 (view.exprs p.entry.items) (view.exprs p.exit.items) (terms_of p.modifies) a11 (view.block p.block)) h0
    ∙ ap (λ z. made b0 z a2 a3 a4 (map view.param p.params.items) (map local_of p.locals.items) a7 (view.exprs p.entry.items) (view.exprs p.exit.items) (terms_of p.modifies) a11 (view.block p.block)) h1
    ∙ ap (λ z. made b0 b1 z a3 a4 (map view.param p.params.items) (map local_of p.locals.items) a7 (view.exprs p.entry.items) (view.exprs p.exit.items) (terms_of p.modifies) a11 (view.block p.block)) h2
    ∙ ap (λ z. made b0 b1 b2 z a4 (map view.param p.params.items) (map local_of p.locals.items) a7 (view.exprs p.entry.items) (view.exprs p.exit.items) (terms_of p.modifies) a11 (view.block p.block)) h3
    ∙ ap (λ z. made b0 b1 b2 b3 z (map view.param p.params.items) (map local_of p.locals.items) a7 (view.exprs p.entry.items) (view.exprs p.exit.items) (terms_of p.modifies) a11 (view.block p.block)) h4
    ∙ ap (λ z. made b0 b1 b2 b3 b4 z (map local_of p.locals.items) a7 (view.exprs p.entry.items) (view.exprs p.exit.items) (terms_of p.modifies) a11 (view.block p.block)) h.params
    ∙ ap (λ z. made b0 b1 b2 b3 b4 (map (param e) ps) z a7 (view.exprs p.entry.items) (view.exprs p.exit.items) (terms_of p.modifies) a11 (view.block p.block)) h.locals
    ∙ ap (λ z. made b0 b1 b2 b3 b4 (map (param e) ps) (locals e t) z (view.exprs p.entry.items) (view.exprs p.exit.items) (terms_of p.modifies) a11 (view.block p.block)) h7
    ∙ ap (λ z. made b0 b1 b2 b3 b4 (map (param e) ps) (locals e t) b7 z (view.exprs p.exit.items) (terms_of p.modifies) a11 (view.block p.block)) h.entry
    ∙ ap (λ z. made b0 b1 b2 b3 b4 (map (param e) ps) (locals e t) b7 (entry_in e cs) z (terms_of p.modifies) a11 (view.block p.block)) h.exit
    ∙ ap (λ z. made b0 b1 b2 b3 b4 (map (param e) ps) (locals e t) b7 (entry_in e cs) (exit_in e cs) z a11 (view.block p.block)) h.modifies
    ∙ ap (λ z. made b0 b1 b2 b3 b4 (map (param e) ps) (locals e t) b7 (entry_in e cs) (exit_in e cs) (modifies_in e cs) z (view.block p.block)) h11
    ∙ ap (λ z. made b0 b1 b2 b3 b4 (map (param e) ps) (locals e t) b7 (entry_in e cs) (exit_in e cs) (modifies_in e cs) b11 z) h.block

-- the same parts for equal parameters and clauses
same_parts : (e : Env) (ps qs : List written.ParamTree) (cs ds : List written.ClauseTree) (t : text.BlockTree) (p : Parts) → ps ≡ qs → cs ≡ ds → AreParts e ps cs t p → AreParts e qs ds t p
same_parts e ps qs cs ds t p hp hc h = subst (λ l. AreParts e qs l t p) hc (subst (λ l. AreParts e l cs t p) hp h)

-- the parts of a method, in the environment of its body
pub method_parts_are : (s x : ResolutionContext) (a : LocalContext) (m : MethodTree) (ps qs : List written.ParamTree) (ds : List written.ClauseTree) (p : Parts) (first : ℕ) (static : Bool)
    → ps ≡ m.params → qs ≡ m.params → ds ≡ m.clauses
    → ((b : LocalContext) → env_of x b ≡ result_env (env_of s b) (option_map (type_id (trees s.within.tables.now)) m.result))
    → static ≡ is_static m → first ≡ (if static then 0 else 1)
    → env_of s a ≡ declare_params (record (class_env (trees s.within.tables.now) s.within.class) { next = first }) ps
    → AreParts (env_of x a) qs ds m.body p
    → AreParts (method_env (trees s.within.tables.now) s.within.class m) m.params m.clauses m.body p
method_parts_are s x a m ps qs ds p first static hps hqs hds hx hs hf ha hp =
    let cs = trees s.within.tables.now in
    let k = s.within.class in
    let e = param_env cs k (is_static m) m.params in
    let t = option_map (type_id cs) m.result in
    let number : first ≡ (if is_static m then 0 else 1) = hf ∙ ap (λ (b : Bool). if b then 0 else 1) hs in
    let here : env_of s a ≡ e = ha ∙ ap (declare_params (record (class_env cs k) { next = first })) hps ∙ ap (λ n. declare_params (record (class_env cs k) { next = n }) m.params) number in
    let there : env_of x a ≡ method_env cs k m = hx a ∙ ap (λ d. result_env d t) here in
    same_parts (method_env cs k m) qs m.params ds m.clauses m.body p hqs hds (subst (λ d. AreParts d qs ds m.body p) there hp)

pub method_is : (s : ResolutionContext) (m : MethodTree) (p : Parts) (class : ℕ) (name : List ℕ) (flags : TypedFlags) (attributes : List NameTree) (result : Option Ty)
    → AreParts (method_env (trees s.within.tables.now) s.within.class m) m.params m.clauses m.body p
    → class ≡ class_number s.within.class → name ≡ m.name.text → flags ≡ method_flags m → attributes ≡ m.attributes → result ≡ option_map (type_id (trees s.within.tables.now)) m.result
    → made class name m.name.place flags attributes (map view.param p.params.items) (map local_of p.locals.items) result (view.exprs p.entry.items) (view.exprs p.exit.items) (terms_of p.modifies) None (view.block p.block)
    ≡ method_body (trees s.within.tables.now) s.within.class m
method_is s m p class name flags attributes result parts hc hn hg hm hr =
    let cs = trees s.within.tables.now in
    let k = s.within.class in
    body_is (method_env cs k m) m.params m.clauses m.body p class (class_number k) name m.name.text m.name.place m.name.place flags (method_flags m) attributes m.attributes result (option_map (type_id cs) m.result) None None
    parts hc hn refl hg hm hr refl

-- where the parameters of a constructor are in scope
pub constructor_env_is : (s : ResolutionContext) (a : LocalContext) (m : ConstructorTree) (ps : List written.ParamTree) → ps ≡ m.params
    → env_of s a ≡ declare_params (record (class_env (trees s.within.tables.now) s.within.class) { next = 1 }) ps
    → env_of s a ≡ param_env (trees s.within.tables.now) s.within.class false m.params
constructor_env_is s a m ps hps ha = ha ∙ ap (declare_params (record (class_env (trees s.within.tables.now) s.within.class) { next = 1 })) hps

-- its parts there
pub based_parts_are : (s : ResolutionContext) (a a1 : LocalContext) (m : ConstructorTree) (qs : List written.ParamTree) (ds : List written.ClauseTree) (p : Parts)
    → qs ≡ m.params → ds ≡ m.clauses → a1 ≡ a → AreParts (env_of s a1) qs ds m.body p → AreParts (env_of s a) m.params m.clauses m.body p
based_parts_are s a a1 m qs ds p hqs hds ka hp =
    same_parts (env_of s a) qs m.params ds m.clauses m.body p hqs hds (subst (λ d. AreParts d qs ds m.body p) (ap (env_of s) ka) hp)

pub constructor_is : (s : ResolutionContext) (m : ConstructorTree) (p : Parts) (class : ℕ) (name : List ℕ) (flags : TypedFlags) (attributes : List NameTree) (base : Option BaseTree)
    → AreParts (param_env (trees s.within.tables.now) s.within.class false m.params) m.params m.clauses m.body p
    → base ≡ option_map (base_of (param_env (trees s.within.tables.now) s.within.class false m.params)) m.base
    → class ≡ class_number s.within.class → name ≡ m.name.text → flags ≡ constructor_flags m → attributes ≡ m.attributes
    → made class name m.name.place flags attributes (map view.param p.params.items) (map local_of p.locals.items) None (view.exprs p.entry.items) (view.exprs p.exit.items) (terms_of p.modifies) base (view.block p.block)
    ≡ constructor_body (trees s.within.tables.now) s.within.class m
constructor_is s m p class name flags attributes base parts hb hc hn hg hm =
    let e = param_env (trees s.within.tables.now) s.within.class false m.params in
    body_is e m.params m.clauses m.body p class (class_number s.within.class) name m.name.text m.name.place m.name.place flags (constructor_flags m) attributes m.attributes None None base (option_map (base_of e) m.base)
    parts hc hn refl hg hm refl hb
