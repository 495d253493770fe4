-- The code of each body of an elaborated program has the types of the language, and exposes objects by their classes.
use Rattle.std.proofs.Common.{◌≡◌, ℕ, ◌+◌, ◌*◌, List, [], ◌∷◌, true, false, Some, None, refl, sym, subst}
use Rattle.std.specs.Prelude.{not, ◌&&◌, ◌||◌, slice_get, is_none}
use Rattle.std.specs.List.{list_all}
use Rattle.std.proofs.lemmas.Bool.{and_parts}
use Rattle.ss_core.specs.declared.names.Place.{Place}
use Rattle.ss_core.specs.Tree as core
use Rattle.ss_core.specs.Chain.{is_type, declared}
use Rattle.ss_ast.specs.Programs.{ProgramTree}
use Rattle.ss_typed.specs.Tree.{BodyTree, TypedTree}
use Rattle.ss_resolver_names_rules.specs.Programs.{program_faults}
use Rattle.ss_resolver_types_expressions.specs.Programs.{type_faults}
use Rattle.ss_resolver_rules.specs.Programs.{resolved}
use Rattle.ss_owners_rules.specs.Program.{ownership_faults}
use Rattle.ss_expand_rules.specs.Program.{table, Origin}
use Rattle.ss_typed.specs.Lookups.{constructor_of}
use Rattle.ss_expand_rules.specs.Contracts.{declarations}
use Rattle.ss_expand_rules.specs.Constructors.{implicit_constructor}
use Rattle.ss_expand_rules.specs.Bodies.{statements, written_body, wrapper_body}
use Rattle.ss_store_rules.specs.Locals.{each}
use Rattle.ss_store_rules.specs.Typed.{are_declared, is_typed, has_exposable}
use Rattle.ss_store_rules.specs.Typed as store
use Rattle.ss_store_rules.specs.Formed.{has_flags}
use Rattle.ss_expand_formed.specs.Laws.{core_of}
use Rattle.ss_expand_formed.proofs.Facts.{not_true}
use Rattle.ss_expand_formed.proofs.Bodies.{IsMade, WrittenConstructor, ImplicitConstructor, WrittenMethod, Wrapper, origin_of}
use Rattle.ss_expand_formed.proofs.Places.{source_of}
use Rattle.ss_expand_formed.proofs.Resolved.{method_is}
use Rattle.ss_expand_formed.proofs.Numbered.{IsOrigin, origin_is}
use Rattle.ss_expand_formed.proofs.ChainLaw.{has_chain}
use Rattle.ss_expand_formed.proofs.Heads.{have_flags, have_classes}
use Rattle.ss_expand_formed.proofs.TypesKnown.{have_param_types, have_result_types}
use Rattle.ss_expand_formed.proofs.Numbers.{param_types, params_types}
use Rattle.ss_expand_formed.proofs.StatementsBodies.{InBody}
use Rattle.ss_expand_formed.proofs.StatementsWritten.{written_typed, written_exposes}
use Rattle.ss_expand_formed.proofs.Callees.{same_fields}
use Rattle.ss_expand_formed.proofs.StatementsCalls.{has_calls}
use Rattle.ss_expand_formed.proofs.StatementsWrappers.{wrapper_typed, wrapper_exposes}
use Rattle.ss_expand_formed.proofs.Inherits.{inherited_takes}
use Rattle.ss_expand_formed.proofs.FitsBodies.{none_written, implicit_fits, each_fits}
use Rattle.ss_expand_formed.specs.Typed.{HaveTypedCode, ExposeByClass}

-- a constructor has a `this`
moves : (y : core.BodyTree) → has_flags y ≡ true → y.flags.ctor ≡ true → y.flags.is_static ≡ false
moves y h ctor =
    let one = (and_parts (not y.flags.ctor || not y.flags.is_static && is_none y.result) (not y.flags.delayed || y.flags.ctor) h).0 in
    let here : (not y.flags.is_static && is_none y.result) ≡ true = rw ctor at one in
    not_true y.flags.is_static (and_parts (not y.flags.is_static) (is_none y.result) here).0

module _ (p : ProgramTree) (faultless : program_faults p ≡ []) (typed_well : type_faults p ≡ []) (owned : ownership_faults (resolved p) ≡ []) where
  abbrev P : TypedTree
  P = resolved p

  abbrev target : core.CoreTree
  target = core_of p

  abbrev cs : List core.ClassTree
  cs = target.classes

  -- both tests of each statement
  abbrev Passes : core.BodyTree → Type 0
  Passes y = (each (is_typed target y) y.code ≡ true) × (each (has_exposable cs y) y.code ≡ true)

  written_passes : (b : BodyTree) (bs : List BodyTree) (i : ℕ) → store.body_at target i ≡ Some (written_body P b bs) → InBody P cs b (statements P b) → Passes (written_body P b bs)
  written_passes b bs i at fits =
      let y = written_body P b bs in
      let class = have_classes p i y at in
      let moving = moves y (have_flags p i y at) in
      let chain = has_chain p faultless in
      let calls = has_calls p faultless b bs class in
      let known : list_all (is_type cs) (param_types b.params) ≡ true = subst (λ ts. are_declared cs ts ≡ true) (params_types b.params) (have_param_types p faultless i y at) in
      (written_typed target P b bs chain (same_fields P) calls moving class known fits, written_exposes target P b bs chain (same_fields P) calls moving class known fits)

  implicit_stands : (t : ℕ) (c : core.ClassTree) → declared P.classes t ≡ Some c → constructor_of P t ≡ None → (q : Place) → InBody P cs (implicit_constructor t c.name q) (statements P (implicit_constructor t c.name q))
  implicit_stands t c there none q =
      let s = source_of p t c there in
      let without : constructor_of P (4 + 2 * s.place) ≡ None = subst (λ u. constructor_of P u ≡ None) s.number none in
      subst (λ u. InBody P cs (implicit_constructor u c.name q) (statements P (implicit_constructor u c.name q))) (sym s.number) (implicit_fits p faultless typed_well owned s.place s.tree s.there (none_written p faultless typed_well owned s.place s.tree s.there without) c.name q)

  made_passes : (i : ℕ) (y : core.BodyTree) → store.body_at target i ≡ Some y → (o : Origin) → IsOrigin P o → IsMade P o y → Passes y
  made_passes i y at o origin (WrittenConstructor {n = n} {b = b} is em en eb) = written_passes b (b ∷ []) i at (each_fits p faultless typed_well owned n b eb)
  made_passes i y at o origin (ImplicitConstructor {t = t} {c = c} {m = m} is ec em none) = let b = implicit_constructor t c.name m.place in written_passes b (b ∷ []) i at (implicit_stands t c ec none m.place)
  made_passes i y at o origin (WrittenMethod {t = t} {m = m} {b = b} is eb own) =
      let r = method_is P (slice_get (table P t) m) b eb in
      written_passes b (declarations P t m) i at (each_fits p faultless typed_well owned r.0 b r.1)
  made_passes i y at o origin (Wrapper {t = t} {m = m} {b = b} {ms = ms} is eb own em) =
      let bs = declarations P t m in
      let x = wrapper_body P ms.place t m b bs in
      let takes = inherited_takes p faultless t m b (subst (IsOrigin P) is origin) eb own x refl refl in
      let params : are_declared cs (param_types b.params) ≡ true = subst (λ ts. are_declared cs ts ≡ true) (params_types b.params) (have_param_types p faultless i x at) in
      (wrapper_typed target P ms.place t m b bs params (have_result_types p faultless i x at) takes, wrapper_exposes target P ms.place t m b bs (have_classes p i x at))

  passes_each : (i : ℕ) (y : core.BodyTree) → store.body_at target i ≡ Some y → Passes y
  passes_each i y at = let from = origin_of P i y at in made_passes i y at from.origin (origin_is P from.place from.origin from.there) from.made

  pub have_typed_code : HaveTypedCode target
  have_typed_code i y at = (passes_each i y at).0

  pub expose_by_class : ExposeByClass target
  expose_by_class i y at = (passes_each i y at).1
