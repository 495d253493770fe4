-- What is in scope in the contract of a method: its parameters.
use Rattle.std.proofs.Common.{◌≡◌, ℕ, zero, suc, ◌+◌, ◌<◌, List, [], ◌∷◌, ◌++◌, length, map, Bool, true, false, Option, Some, None, refl, sym, ◌∙◌, ap, subst, arith}
use Rattle.std.specs.Prelude.{slice_get, is_some, option_map, if◌then◌else◌}
use Rattle.std.proofs.lemmas.Option.{same_Some, slice_get-map}
use Rattle.ss_core.specs.declared.names.Ty.{Ty}
use Rattle.ss_ast.specs.Expressions.{TypeTree}
use Rattle.ss_ast.specs.Programs.{ParamTree, ClassTree, ProgramTree}
use Rattle.ss_tables.specs.Classes.{class_number}
use Rattle.ss_tables.specs.Types.{written_type}
use Rattle.ss_tables.specs.Scopes.{Scope, Local, Locals, class_scope}
use Rattle.ss_tables.specs.Named.{named_in, with_named}
use Rattle.ss_tables.specs.Scopes as scopes
use Rattle.ss_tables.specs.Statics.{result_type}
use Rattle.ss_typed.specs.Types.{class_type}
use Rattle.ss_resolver_names_rules.specs.Faults.{type_faults, twice_in}
use Rattle.ss_resolver_names_rules.specs.Members.{params_faults, written_type_faults}
use Rattle.ss_resolver_names_rules.specs.Programs.{program_faults}
use Rattle.ss_resolver_rules.specs.Names.{Known_names, Env, declare_param, declare_params}
use Rattle.ss_resolver_rules.specs.declared.known.Known.{Known}
use Rattle.ss_resolver_rules.specs.declared.known.Known.TheVariants.{Variable}
use Rattle.ss_resolver_rules.specs.Numbers.{type_id}
use Rattle.ss_expand_formed.proofs.Facts.{none_left}
use Rattle.ss_expand_formed.proofs.ChainLaw.{type_known}
use Rattle.ss_expand_formed.proofs.Fit.{Context}
use Rattle.ss_expand_formed.proofs.Names.{Stands, Alike, Meets, meets_in}
use Rattle.ss_expand_formed.proofs.Classes.{type_there}
use Rattle.ss_expand_formed.proofs.ExpressionsPlaces.{At, IsPlace}

-- ---- names after parameters

-- in the scope
abbrev pub names_after : List ClassTree → Locals → List ParamTree → Locals
names_after cs ls [] = ls
names_after cs ls (p ∷ ps) = names_after cs (with_named ls p.name.text (record { ty = written_type cs p.ty; is_param = true })) ps

-- and with numbers, from n on
abbrev pub numbers_after : List ClassTree → Known_names → ℕ → List ParamTree → Known_names
numbers_after cs ks n [] = ks
numbers_after cs ks n (p ∷ ps) = numbers_after cs (with_named ks p.name.text (Variable n (type_id cs p.ty))) (n + 1) ps

abbrev pub next_behind : ℕ → List ParamTree → ℕ
next_behind n [] = n
next_behind n (p ∷ ps) = next_behind (n + 1) ps

pub scope_after : (s : Scope) (ps : List ParamTree) → scopes.declare_params s ps ≡ record s { inner = names_after s.classes s.inner ps }
scope_after s [] = refl
scope_after s (p ∷ ps) = scope_after (scopes.declare s p.name.text (record { ty = written_type s.classes p.ty; is_param = true })) ps

pub env_after : (e : Env) (ps : List ParamTree) → declare_params e ps ≡ record e { scope = record (e.scope) { inner = names_after e.scope.classes e.scope.inner ps }; inner = numbers_after e.scope.classes e.inner e.next ps; next = next_behind e.next ps }
env_after e [] = refl
env_after e (p ∷ ps) = env_after (declare_param e p) ps

-- ---- the place of a contract

abbrev pub first_number : Bool → ℕ
first_number static = if static then 0 else 1

abbrev pub place_of : List ClassTree → ℕ → Bool → Option Ty → List ParamTree → At
place_of cs k static outcome ps = record {
  class = k;
  outcome = outcome;
  names = names_after cs [] ps;
  more_names = [];
  numbers = numbers_after cs [] (first_number static) ps;
  more_numbers = [];
  next = next_behind (first_number static) ps;
  bound = 0;
}

-- the types of parameters are known
abbrev pub AreThere : List ClassTree → List ParamTree → Type 0
AreThere cs ps = (i : ℕ) (q : ParamTree) → slice_get ps i ≡ Some q → written_type cs q.ty ≡ Some (type_id cs q.ty)

appended : (types : List Ty) (ls : Locals) (ks : Known_names) (l : List ℕ × Local) (k : List ℕ × Known) → Alike types 0 ls ks → l.0 ≡ k.0 → Stands types 0 l.1 k.1 → Alike types 0 (ls ++ l ∷ []) (ks ++ k ∷ [])
appended types [] [] l k h name g = (name, g, tt)
appended types [] (m ∷ ks) l k h name g = absurd h
appended types (n ∷ ls) [] l k h name g = absurd h
appended types (n ∷ ls) (m ∷ ks) l k h name g = (h.0, h.1, appended types ls ks l k h.2 name g)

more_alike : (types : List Ty) (ls : Locals) (ks : Known_names) (x : List ℕ) (l : Local) (k : Known) → Alike types 0 ls ks → Stands types 0 l k → Alike types 0 (with_named ls x l) (with_named ks x k)
more_alike types ls ks x l k h g = by (named_in ls x) (named_in ks x) (meets_in types 0 ls ks x h)
  where
    by : (o : Option Local) (q : Option Known) → Meets types 0 o q → Alike types 0 (if is_some o then ls else ls ++ (x, l) ∷ []) (if is_some q then ks else ks ++ (x, k) ∷ [])
    by None None m = appended types ls ks (x, l) (x, k) h refl g
    by None (Some q) m = absurd m
    by (Some o) None m = absurd m
    by (Some o) (Some q) m = h

-- the names mean the same locals
pub after_alike : (cs : List ClassTree) (types : List Ty) (n : ℕ) (ls : Locals) (ks : Known_names) (ps : List ParamTree) → Alike types 0 ls ks → AreThere cs ps → ((i : ℕ) (q : ParamTree) → slice_get ps i ≡ Some q → slice_get types (n + i) ≡ Some (type_id cs q.ty)) →
    Alike types 0 (names_after cs ls ps) (numbers_after cs ks n ps)
after_alike cs types n ls ks [] h there at = h
after_alike cs types n ls ks (p ∷ ps) h there at =
    let zero_more : n + 0 ≡ n = omega arith in
    let here : slice_get types n ≡ Some (type_id cs p.ty) = ap (slice_get types) (sym zero_more) ∙ at 0 p refl in
    after_alike cs types (n + 1) (with_named ls p.name.text (record { ty = written_type cs p.ty; is_param = true })) (with_named ks p.name.text (Variable n (type_id cs p.ty))) ps
    (more_alike types ls ks p.name.text (record { ty = written_type cs p.ty; is_param = true }) (Variable n (type_id cs p.ty)) h (there 0 p refl, here))
    (λ i q e. there (suc i) q e)
    (λ i q e. let s : n + 1 + i ≡ n + suc i = omega arith in ap (slice_get types) s ∙ at (suc i) q e)

module _ (p : ProgramTree) (faultless : program_faults p ≡ []) where
  -- types without faults are known
  known_there : (t : TypeTree) → type_faults p.classes t ≡ [] → written_type p.classes t ≡ Some (type_id p.classes t)
  known_there t h = type_there p faultless t (type_known p faultless t h)

  pub params_there : (s : Scope) → s.classes ≡ p.classes → (ps : List ParamTree) → params_faults s ps ≡ [] → (i : ℕ) (q : ParamTree) → slice_get ps i ≡ Some q → type_faults p.classes q.ty ≡ []
  params_there s same [] h i q e = absurd (let z : ⊥ = cc in z)
  params_there s same (x ∷ ps) h zero q e =
      let next = scopes.declare s x.name.text (record { ty = written_type s.classes x.ty; is_param = true }) in
      let both = none_left (type_faults s.classes x.ty ++ twice_in s.inner x.name) (params_faults next ps) h in
      let first = (none_left (type_faults s.classes x.ty) (twice_in s.inner x.name) both.0).0 in
      subst (λ (y : ParamTree). type_faults p.classes y.ty ≡ []) (same_Some _ _ e) (subst (λ cs. type_faults cs x.ty ≡ []) same first)
  params_there s same (x ∷ ps) h (suc i) q e =
      let next = scopes.declare s x.name.text (record { ty = written_type s.classes x.ty; is_param = true }) in
      let both = none_left (type_faults s.classes x.ty ++ twice_in s.inner x.name) (params_faults next ps) h in
      params_there next same ps both.1 i q e

  pub result_there : (r : Option TypeTree) → written_type_faults p.classes r ≡ [] → result_type p.classes r ≡ option_map (type_id p.classes) r
  result_there None h = refl
  result_there (Some t) h = known_there t h

  -- ---- the context of a contract

  abbrev pub context_of : ℕ → Bool → Option Ty → List ParamTree → Context
  context_of k static outcome ps = record {
    is_static = static;
    class = class_number k;
    locals = (if static then [] else class_type (class_number k) true ∷ []) ++ map (λ (q : ParamTree). type_id p.classes q.ty) ps;
    result = outcome;
  }

  param_there : (static : Bool) (k : ℕ) (ps : List ParamTree) (i : ℕ) (q : ParamTree) → slice_get ps i ≡ Some q → slice_get ((if static then [] else class_type (class_number k) true ∷ []) ++ map (λ (x : ParamTree). type_id p.classes x.ty) ps) (first_number static + i) ≡ Some (type_id p.classes q.ty)
  param_there true k ps i q e =
      let z : 0 + i ≡ i = omega arith in
      ap (slice_get (map (λ (x : ParamTree). type_id p.classes x.ty) ps)) z ∙ slice_get-map (λ (x : ParamTree). type_id p.classes x.ty) ps i ∙ ap (option_map (λ (x : ParamTree). type_id p.classes x.ty)) e
  param_there false k ps i q e =
      let z : 1 + i ≡ suc i = omega arith in
      ap (slice_get (class_type (class_number k) true ∷ map (λ (x : ParamTree). type_id p.classes x.ty) ps)) z ∙ slice_get-map (λ (x : ParamTree). type_id p.classes x.ty) ps i ∙ ap (option_map (λ (x : ParamTree). type_id p.classes x.ty)) e

  pub is_place : (k : ℕ) → k < length p.classes → (static lacks answer : Bool) (outcome : Option Ty) (ps : List ParamTree) → AreThere p.classes ps → (answer ≡ true → lacks ≡ false → (t : Ty) × (outcome ≡ Some t)) →
      IsPlace p (context_of k static outcome ps) static lacks answer (place_of p.classes k static outcome ps)
  is_place k l static lacks answer outcome ps there answered = record {
    class = l;
    this = λ h. ap (λ (s : Bool). slice_get ((if s then [] else class_type (class_number k) true ∷ []) ++ map (λ (x : ParamTree). type_id p.classes x.ty) ps) 0) h;
    in_static = λ h. h;
    in_class = refl;
    outcome = λ t h. h;
    answer_is = answered;
    inner = after_alike p.classes (context_of k static outcome ps).locals (first_number static) [] [] ps tt there (λ i q e. param_there static k ps i q e);
    outer = tt;
  }
