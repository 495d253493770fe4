-- The conditions of the contracts of a source without faults are sound.
use Rattle.std.proofs.Common.{◌≡◌, ℕ, zero, suc, ◌+◌, ◌*◌, List, [], ◌∷◌, ◌++◌, length, map, Bool, true, false, Option, Some, None, refl, sym, ◌∙◌, ap, subst, arith}
use Rattle.std.specs.Prelude.{slice_get, option_map, is_some, if◌then◌else◌}
use Rattle.std.proofs.lemmas.Bool.{false≢true, lt-ltb}
use Rattle.std.proofs.lemmas.Option.{same_Some}
use Rattle.ss_core.specs.declared.names.Ty.{Ty}
use Rattle.ss_core.specs.declared.names.Ty.TheVariants as ty
use Rattle.ss_core.specs.Chain.{is_type, is_class}
use Rattle.ss_ast.specs.Expressions.{TypeTree}
use Rattle.ss_ast.specs.Expressions as text
use Rattle.ss_ast.specs.Programs.{ParamTree, ClauseTree, RequiresOf, EnsuresOf, ModifiesOf, ClassTree, ProgramTree}
use Rattle.ss_tables.specs.Classes.{class_number}
use Rattle.ss_tables.specs.Scopes.{Scope, class_scope}
use Rattle.ss_tables.specs.Scopes as scopes
use Rattle.ss_tables.specs.Statics.{result_type}
use Rattle.ss_typed.specs.Tree as typed
use Rattle.ss_typed.specs.Tree.{ExprTree, BodyTree}
use Rattle.ss_typed.specs.Types.{class_type}
use Rattle.ss_owners_rules.specs.Words.{Allowed, Questions, EveryWord, allows_result, misplaced, misplaced_in_all}
use Rattle.ss_resolver_names_rules.specs.Faults.{type_faults}
use Rattle.ss_resolver_names_rules.specs.Expressions.{expr_faults}
use Rattle.ss_resolver_names_rules.specs.Members as names
use Rattle.ss_resolver_names_rules.specs.Members.{in_method, written_type_faults}
use Rattle.ss_resolver_names_rules.specs.Programs.{program_faults}
use Rattle.ss_resolver_types_heads.specs.Wants.{ABool, wrong}
use Rattle.ss_resolver_types_heads.specs.Expressions.{AsValue, faults}
use Rattle.ss_resolver_types_expressions.specs.Members as types
use Rattle.ss_resolver_rules.specs.Numbers.{type_id}
use Rattle.ss_resolver_rules.specs.Expressions.{expr}
use Rattle.ss_resolver_rules.specs.Programs.{entry_in, exit_in, resolved}
use Rattle.ss_expand_formed.specs.Laws.{core_of}
use Rattle.ss_expand_formed.proofs.Facts.{none_left}
use Rattle.ss_expand_formed.proofs.ChainLaw.{size, type_known}
use Rattle.ss_expand_formed.proofs.Fit.{Context, Fit}
use Rattle.ss_expand_formed.proofs.ExpressionsScopes.{refusing, expr_context}
use Rattle.ss_expand_formed.proofs.Classes.{type_there}
use Rattle.ss_expand_formed.proofs.ExpressionsPlaces.{has_answer, all_answered, At, scope_at, env_at, IsKnown, IsPlace}
use Rattle.ss_expand_formed.proofs.Conditions.{condition_sound}
use Rattle.ss_expand_formed.proofs.ContractsConditions.{contract_context, IsSoundCondition}
use Rattle.ss_expand_formed.proofs.Scenes.{context_of, scope_after, names_after, is_place, result_there}
use Rattle.ss_expand_formed.proofs.ContractsSources.{HasClauses, body_of, place_in}

-- where no `result` is allowed, none stands
abbrev pub Answered : ProgramTree → Type 0
Answered p =
    (x : Context) → IsKnown p x → (static lacks : Bool) (a : At) → IsPlace p x static lacks false a → (w : Allowed) → allows_result w ≡ false → (y : text.ExprTree) → expr_faults (refusing static false (scope_at p a)) y ≡ [] →
    faults (expr_context static true lacks (scope_at p a)) AsValue y ≡ [] → misplaced w (expr (env_at p a) y) ≡ [] → has_answer false y ≡ true

abbrev pub AllSound : ProgramTree → BodyTree → Allowed → List ExprTree → Type 0
AllSound p d w es = (n : ℕ) (e : ExprTree) → slice_get es n ≡ Some e → IsSoundCondition (resolved p) (core_of p).classes d w e

more_sound : (p : ProgramTree) (d : BodyTree) (w : Allowed) (e : ExprTree) (es : List ExprTree) → IsSoundCondition (resolved p) (core_of p).classes d w e → AllSound p d w es → AllSound p d w (e ∷ es)
more_sound p d w e es h g zero x i = subst (IsSoundCondition (resolved p) (core_of p).classes d w) (same_Some _ _ i) h
more_sound p d w e es h g (suc n) x i = g n x i

outcome_is : (cs : List ClassTree) (r : Option TypeTree) → types.type_of_result (types.outcome_of cs r) ≡ result_type cs r
outcome_is cs None = refl
outcome_is cs (Some t) = refl

gives_where : (cs : List ClassTree) (r : Option TypeTree) → types.gives_none (types.outcome_of cs r) ≡ false → (t : Ty) × (option_map (type_id cs) r ≡ Some t)
gives_where cs None h = absurd (let z : ⊥ = cc in z)
gives_where cs (Some t) h = (type_id cs t, refl)

pub some_where : (o : Option Ty) → is_some o ≡ true → (t : Ty) × (o ≡ Some t)
some_where None h = absurd (false≢true h)
some_where (Some t) h = (t, refl)

-- ---- the place of a contract

module _ (p : ProgramTree) (faultless : program_faults p ≡ []) (d : BodyTree) (h : HasClauses p d) where
  abbrev outcome : Option Ty
  outcome = option_map (type_id p.classes) h.result

  abbrev here : At
  here = place_in p.classes h.class h.static h.result h.params

  abbrev context_here : Context
  context_here = context_of p faultless h.class h.static outcome h.params

  pub context_is : contract_context d ≡ context_here
  context_is =
      ap (λ (z : Bool). record { is_static = z; class = d.class; locals = (if z then [] else ty.Ref (record { 0 = d.class }) true ∷ []) ++ map (λ (q : typed.ParamTree). q.ty) d.params; result = d.result }) h.is_static
      ∙ ap (λ (z : ℕ). record { is_static = h.static; class = z; locals = (if h.static then [] else ty.Ref (record { 0 = z }) true ∷ []) ++ map (λ (q : typed.ParamTree). q.ty) d.params; result = d.result }) h.of_class
      ∙ ap (λ (z : List Ty). record { is_static = h.static; class = class_number h.class; locals = (if h.static then [] else class_type (class_number h.class) true ∷ []) ++ z; result = d.result }) h.takes
      ∙ ap (λ (z : Option Ty). record { is_static = h.static; class = class_number h.class; locals = context_here.locals; result = z }) h.gives

  param_types_known : (ps : List ParamTree) → ((i : ℕ) (q : ParamTree) → slice_get ps i ≡ Some q → type_faults p.classes q.ty ≡ []) → (n : ℕ) (t : Ty) → slice_get (map (λ (q : ParamTree). type_id p.classes q.ty) ps) n ≡ Some t → is_type (core_of p).classes t ≡ true
  param_types_known [] g n t e = absurd (let z : ⊥ = cc in z)
  param_types_known (q ∷ ps) g zero t e = subst (λ u. is_type (core_of p).classes u ≡ true) (same_Some _ _ e) (type_known p faultless q.ty (g 0 q refl))
  param_types_known (q ∷ ps) g (suc n) t e = param_types_known ps (λ i r k. g (suc i) r k) n t e

  this_known : is_class (core_of p).classes (class_number h.class) ≡ true
  this_known = let s = size p in let l = h.within in lt-ltb (class_number h.class) (4 + 2 * length (core_of p).classes) (omega arith)

  locals_known : (static : Bool) (n : ℕ) (t : Ty) → slice_get ((if static then [] else class_type (class_number h.class) true ∷ []) ++ map (λ (q : ParamTree). type_id p.classes q.ty) h.params) n ≡ Some t → is_type (core_of p).classes t ≡ true
  locals_known true n t e = param_types_known h.params h.params_known n t e
  locals_known false zero t e = subst (λ u. is_type (core_of p).classes u ≡ true) (same_Some _ _ e) this_known
  locals_known false (suc n) t e = param_types_known h.params h.params_known n t e

  result_is_known : (r : Option TypeTree) → written_type_faults p.classes r ≡ [] → (t : Ty) → option_map (type_id p.classes) r ≡ Some t → is_type (core_of p).classes t ≡ true
  result_is_known None g t e = absurd (let z : ⊥ = cc in z)
  result_is_known (Some u) g t e = subst (λ v. is_type (core_of p).classes v ≡ true) (same_Some _ _ e) (type_known p faultless u g)

  pub known_here : IsKnown p context_here
  known_here = record { locals = λ n t e. locals_known h.static n t e; result = λ t e. result_is_known h.result h.result_known t e }

  pub place_here : (lacks answer : Bool) → (answer ≡ true → lacks ≡ false → (t : Ty) × (outcome ≡ Some t)) → IsPlace p context_here h.static lacks answer here
  place_here lacks answer g = is_place p faultless h.class h.within h.static lacks answer outcome h.params (λ i q e. type_there p faultless q.ty (type_known p faultless q.ty (h.params_known i q e))) g

  -- the scope of the phase of names, and that of the phase of types
  result_is : result_type p.classes h.result ≡ outcome
  result_is = result_there p faultless h.result h.result_known

  pub names_scope : scopes.declare_params (in_method (class_scope p.classes h.class) h.static (result_type p.classes h.result)) h.params ≡ refusing h.static false (scope_at p here)
  names_scope =
      scope_after (in_method (class_scope p.classes h.class) h.static (result_type p.classes h.result)) h.params
      ∙ ap (λ (o : Option Ty). record { classes = p.classes; class = h.class; refuses_members = h.static; refuses_this = false; outcome = o; inner = names_after p.classes [] h.params; outer = [] }) result_is

  pub types_scope : types.method_scope p.classes h.class (body_of p.classes h.static h.result) h.params ≡ refusing h.static h.static (scope_at p here)
  types_scope =
      scope_after (record (class_scope p.classes h.class) { refuses_members = h.static; refuses_this = h.static; outcome = types.type_of_result (types.outcome_of p.classes h.result) }) h.params
      ∙ ap (λ (o : Option Ty). record { classes = p.classes; class = h.class; refuses_members = h.static; refuses_this = h.static; outcome = o; inner = names_after p.classes [] h.params; outer = [] }) (outcome_is p.classes h.result ∙ result_is)

  -- a condition without faults, whose words may stand there
  sound_condition : (w : Allowed) (lacks answer : Bool) → IsPlace p context_here h.static lacks answer here → (y : text.ExprTree) → has_answer answer y ≡ true → expr_faults (refusing h.static false (scope_at p here)) y ≡ [] →
      faults (expr_context h.static true lacks (scope_at p here)) AsValue y ++ wrong (refusing h.static h.static (scope_at p here)) ABool y ≡ [] → misplaced w (expr (env_at p here) y) ≡ [] → IsSoundCondition (resolved p) (core_of p).classes d w (expr (env_at p here) y)
  sound_condition w lacks answer place y answers none typed_none words =
      let c = condition_sound p faultless context_here known_here h.static lacks answer here place y answers none typed_none in
      record { sound = record { fit = subst (λ (x : Context). Fit (resolved p) (core_of p).classes x 0 (expr (env_at p here) y)) (sym context_is) c.fit; callless = c.calls; words = words }; truth = c.type }

  -- where `result` has a type it has an answer, and elsewhere it isn't there
  answer_here : Answered p → (o : Option Ty) → outcome ≡ o → (w : Allowed) → allows_result w ≡ false → (y : text.ExprTree) → expr_faults (refusing h.static false (scope_at p here)) y ≡ [] → faults (expr_context h.static true false (scope_at p here)) AsValue y ≡ [] →
      misplaced w (expr (env_at p here) y) ≡ [] → has_answer (is_some o) y ≡ true
  answer_here answered None e w without y none typed_none words = answered context_here known_here h.static false here (place_here false false (λ z. absurd (false≢true z))) w without y none typed_none words
  answer_here answered (Some t) e w without y none typed_none words = all_answered y

  asked_sound : Answered p → (y : text.ExprTree) → expr_faults (refusing h.static false (scope_at p here)) y ≡ [] → faults (expr_context h.static true false (scope_at p here)) AsValue y ++ wrong (refusing h.static h.static (scope_at p here)) ABool y ≡ [] → misplaced Questions (expr (env_at p here) y) ≡ [] →
      IsSoundCondition (resolved p) (core_of p).classes d Questions (expr (env_at p here) y)
  asked_sound answered y none typed_none words =
      let both = none_left (faults (expr_context h.static true false (scope_at p here)) AsValue y) (wrong (refusing h.static h.static (scope_at p here)) ABool y) typed_none in
      sound_condition Questions false (is_some outcome) (place_here false (is_some outcome) (λ z i. some_where outcome z)) y (answer_here answered outcome refl Questions refl y none both.0 words) none typed_none words

  promised_sound : (y : text.ExprTree) → expr_faults (refusing h.static false (scope_at p here)) y ≡ [] →
      faults (expr_context h.static true (types.gives_none (types.outcome_of p.classes h.result)) (scope_at p here)) AsValue y ++ wrong (refusing h.static h.static (scope_at p here)) ABool y ≡ [] → misplaced EveryWord (expr (env_at p here) y) ≡ [] →
      IsSoundCondition (resolved p) (core_of p).classes d EveryWord (expr (env_at p here) y)
  promised_sound y none typed_none words =
      let lacks = types.gives_none (types.outcome_of p.classes h.result) in
      sound_condition EveryWord lacks true (place_here lacks true (λ z i. gives_where p.classes h.result i)) y (all_answered y) none typed_none words

  abbrev names_here : Scope
  names_here = refusing h.static false (scope_at p here)

  abbrev types_here : Scope
  types_here = refusing h.static h.static (scope_at p here)

  entries_sound : Answered p → (cs : List ClauseTree) → names.clauses_faults names_here cs ≡ [] → types.clauses_faults (body_of p.classes h.static h.result) types_here cs ≡ [] → misplaced_in_all Questions (entry_in (env_at p here) cs) ≡ [] → AllSound p d Questions (entry_in (env_at p here) cs)
  entries_sound answered [] none typed_none words = λ n e i. absurd (let z : ⊥ = cc in z)
  entries_sound answered (RequiresOf y ∷ cs) none typed_none words =
      let a = none_left (expr_faults names_here y) (names.clauses_faults names_here cs) none in
      let b = none_left (types.clause_faults (body_of p.classes h.static h.result) types_here (RequiresOf y)) (types.clauses_faults (body_of p.classes h.static h.result) types_here cs) typed_none in
      let c = none_left (misplaced Questions (expr (env_at p here) y)) (misplaced_in_all Questions (entry_in (env_at p here) cs)) words in
      more_sound p d Questions (expr (env_at p here) y) (entry_in (env_at p here) cs) (asked_sound answered y a.0 b.0 c.0) (entries_sound answered cs a.1 b.1 c.1)
  entries_sound answered (EnsuresOf y ∷ cs) none typed_none words =
      entries_sound answered cs (none_left (expr_faults names_here y) (names.clauses_faults names_here cs) none).1 (none_left (types.clause_faults (body_of p.classes h.static h.result) types_here (EnsuresOf y)) (types.clauses_faults (body_of p.classes h.static h.result) types_here cs) typed_none).1 words
  entries_sound answered (ModifiesOf ms ∷ cs) none typed_none words =
      entries_sound answered cs (none_left (names.modified_faults names_here ms) (names.clauses_faults names_here cs) none).1 (none_left (types.clause_faults (body_of p.classes h.static h.result) types_here (ModifiesOf ms)) (types.clauses_faults (body_of p.classes h.static h.result) types_here cs) typed_none).1 words

  exits_sound : (cs : List ClauseTree) → names.clauses_faults names_here cs ≡ [] → types.clauses_faults (body_of p.classes h.static h.result) types_here cs ≡ [] → misplaced_in_all EveryWord (exit_in (env_at p here) cs) ≡ [] → AllSound p d EveryWord (exit_in (env_at p here) cs)
  exits_sound [] none typed_none words = λ n e i. absurd (let z : ⊥ = cc in z)
  exits_sound (EnsuresOf y ∷ cs) none typed_none words =
      let a = none_left (expr_faults names_here y) (names.clauses_faults names_here cs) none in
      let b = none_left (types.clause_faults (body_of p.classes h.static h.result) types_here (EnsuresOf y)) (types.clauses_faults (body_of p.classes h.static h.result) types_here cs) typed_none in
      let c = none_left (misplaced EveryWord (expr (env_at p here) y)) (misplaced_in_all EveryWord (exit_in (env_at p here) cs)) words in
      more_sound p d EveryWord (expr (env_at p here) y) (exit_in (env_at p here) cs) (promised_sound y a.0 b.0 c.0) (exits_sound cs a.1 b.1 c.1)
  exits_sound (RequiresOf y ∷ cs) none typed_none words =
      exits_sound cs (none_left (expr_faults names_here y) (names.clauses_faults names_here cs) none).1 (none_left (types.clause_faults (body_of p.classes h.static h.result) types_here (RequiresOf y)) (types.clauses_faults (body_of p.classes h.static h.result) types_here cs) typed_none).1 words
  exits_sound (ModifiesOf ms ∷ cs) none typed_none words =
      exits_sound cs (none_left (names.modified_faults names_here ms) (names.clauses_faults names_here cs) none).1 (none_left (types.clause_faults (body_of p.classes h.static h.result) types_here (ModifiesOf ms)) (types.clauses_faults (body_of p.classes h.static h.result) types_here cs) typed_none).1 words

  named_none : names.clauses_faults names_here h.clauses ≡ []
  named_none = subst (λ s. names.clauses_faults s h.clauses ≡ []) names_scope h.names

  typed_none : types.clauses_faults (body_of p.classes h.static h.result) types_here h.clauses ≡ []
  typed_none = subst (λ s. types.clauses_faults (body_of p.classes h.static h.result) s h.clauses ≡ []) types_scope h.types

  pub entry_sound : Answered p → misplaced_in_all Questions d.entry ≡ [] → AllSound p d Questions d.entry
  entry_sound answered words = subst (AllSound p d Questions) (sym h.entry) (entries_sound answered h.clauses named_none typed_none (subst (λ es. misplaced_in_all Questions es ≡ []) h.entry words))

  pub exit_sound : misplaced_in_all EveryWord d.exit ≡ [] → AllSound p d EveryWord d.exit
  exit_sound words = subst (AllSound p d EveryWord) (sym h.exit) (exits_sound h.clauses named_none typed_none (subst (λ es. misplaced_in_all EveryWord es ≡ []) h.exit words))
