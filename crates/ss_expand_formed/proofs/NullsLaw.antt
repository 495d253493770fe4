-- Each body of the elaboration of a source without faults keeps nulls out, where resolved statements fit.
use Rattle.std.proofs.Common.{◌≡◌, ℕ, zero, suc, ◌+◌, ◌*◌, List, [], ◌∷◌, true, Some, None, refl, sym, subst, arith, ⊎_elim}
use Rattle.std.specs.Prelude.{slice_get}
use Rattle.std.proofs.lemmas.Bool.{cases_Bool, false≢true}
use Rattle.std.proofs.lemmas.Option.{slice_get_within}
use Rattle.ss_core.specs.declared.names.Place.{Place}
use Rattle.ss_core.specs.declared.names.Ty.TheVariants as ty
use Rattle.ss_core.specs.Tree as core
use Rattle.ss_core.specs.Chain.{is_declared, declared}
use Rattle.ss_ast.specs.Programs.{ClassTree, ProgramTree}
use Rattle.ss_typed.specs.Tree.{BodyTree, TypedTree}
use Rattle.ss_nonnull_rules.specs.Program as nulls
use Rattle.ss_nonnull_rules.specs.Program.{null_faults}
use Rattle.ss_delayed_rules.specs.Program as delayed
use Rattle.ss_delayed_rules.specs.Program.{construction_faults}
use Rattle.ss_resolver_names_rules.specs.Programs.{program_faults}
use Rattle.ss_resolver_types_expressions.specs.Programs.{type_faults}
use Rattle.ss_resolver_rules.specs.Programs.{resolved}
use Rattle.ss_expand_rules.specs.Program.{table, Origin}
use Rattle.ss_typed.specs.Lookups.{body_at, constructor_of}
use Rattle.ss_expand_rules.specs.Contracts.{declarations}
use Rattle.ss_expand_rules.specs.Constructors.{implicit_constructor}
use Rattle.ss_expand_rules.specs.Bodies.{statements, written_body}
use Rattle.ss_store_rules.specs.NonNull.{keeps_nulls_out}
use Rattle.ss_expand_formed.specs.Laws.{core_of, OfEach}
use Rattle.ss_expand_formed.proofs.Facts.{none_left}
use Rattle.ss_expand_formed.proofs.Places.{source_of}
use Rattle.ss_expand_formed.proofs.Bodies.{IsMade, WrittenConstructor, ImplicitConstructor, WrittenMethod, Wrapper, origin_of}
use Rattle.ss_expand_formed.proofs.Resolved.{method_is, number_declared}
use Rattle.ss_expand_formed.proofs.ChainLaw.{size}
use Rattle.ss_expand_formed.proofs.Environments.{context_of}
use Rattle.ss_expand_formed.proofs.StatementsBodies.{InBody}
use Rattle.ss_expand_formed.proofs.NullsInNames.{HasNames}
use Rattle.ss_expand_formed.proofs.NullsInStatements.{stmts_fit}
use Rattle.ss_expand_formed.proofs.NullsInSources.{names_of, has_names}
use Rattle.ss_expand_formed.proofs.NullsInBodies.{methods_keep_out}
use Rattle.ss_expand_formed.proofs.ThisInConstructors.{names_others}
use Rattle.ss_expand_formed.proofs.NullsInAllConstructors.{of_class, Fit, Fitting, written_keeps_nulls_out, implicit_keeps_nulls_out, statements_others}

-- an implicit constructor has no local but `this`
only_this : (t : ℕ) (name : List ℕ) (w : Place) (x : ℕ) → slice_get (context_of (implicit_constructor t name w)).locals x ≡ Some ty.Null → ⊥
only_this t name w zero h = let z : ⊥ = cc in z
only_this t name w (suc x) h = let z : ⊥ = cc in z

-- the resolved statements of each body fit
module _ (p : ProgramTree) (faultless : program_faults p ≡ []) (types : type_faults p ≡ [])
    (written_fit : (n : ℕ) (b : BodyTree) → body_at (resolved p) n ≡ Some b → InBody (resolved p) (core_of p).classes b (statements (resolved p) b))
    (implicit_fit : (k : ℕ) (c : ClassTree) → slice_get p.classes k ≡ Some c → constructor_of (resolved p) (4 + 2 * k) ≡ None → (name : List ℕ) (w : Place) → InBody (resolved p) (core_of p).classes (implicit_constructor (4 + 2 * k) name w) (statements (resolved p) (implicit_constructor (4 + 2 * k) name w))) where
  abbrev q : TypedTree
  q = resolved p

  module _ (pure_classes : nulls.classes_faults q 0 q.members ≡ []) (pure_bodies : nulls.bodies_faults q q.bodies ≡ []) (construction : delayed.classes_faults q 0 q.members ≡ []) (constructors : delayed.bodies_faults q q.bodies ≡ []) where
    written_keep : (n : ℕ) (b : BodyTree) (bs : List BodyTree) → body_at q n ≡ Some b → b.flags.ctor ≡ true → keeps_nulls_out (core_of p) (written_body q b bs) ≡ true
    written_keep n b bs at ctor =
        let o = of_class p n b at ctor in
        let fit : Fit p faultless types b = written_fit n b at in
        let others = statements_others p faultless types o.place o.tree o.there construction b o.class ctor o.result (names_others p n b at ctor) in
        let fitting : Fitting p faultless types b bs = stmts_fit (core_of p) q b bs (has_names p faultless n b bs at) (statements q b) fit (λ moving. others) in
        written_keeps_nulls_out p faultless types pure_classes pure_bodies construction constructors n b bs at ctor fit fitting

    implicit_keep : (t : ℕ) (x : core.ClassTree) (w : Place) (bs : List BodyTree) → declared q.classes t ≡ Some x → constructor_of q t ≡ None → keeps_nulls_out (core_of p) (written_body q (implicit_constructor t x.name w) bs) ≡ true
    implicit_keep t x w bs there empty =
        let b = implicit_constructor t x.name w in
        let s = source_of p t x there in
        let fit : Fit p faultless types b = subst (λ u. Fit p faultless types (implicit_constructor u x.name w)) (sym s.number) (implicit_fit s.place s.tree s.there (subst (λ u. constructor_of q u ≡ None) s.number empty) x.name w) in
        let others = statements_others p faultless types s.place s.tree s.there construction b s.number refl refl (record { given = refl; block = tt }) in
        let l = slice_get_within p.classes s.place s.tree s.there in
        let all = size p in
        let known : is_declared (core_of p).classes t ≡ true = subst (λ u. is_declared (core_of p).classes u ≡ true) (sym s.number) (number_declared (core_of p).classes s.place (omega arith)) in
        let names : HasNames (core_of p) q b bs = names_of p faultless b bs known (only_this t x.name w) in
        let fitting : Fitting p faultless types b bs = stmts_fit (core_of p) q b bs names (statements q b) fit (λ moving. others) in
        implicit_keeps_nulls_out p faultless types pure_classes pure_bodies construction constructors t x w bs there fit fitting

    made_keep : (o : Origin) (y : core.BodyTree) → IsMade q o y → y.flags.ctor ≡ true → keeps_nulls_out (core_of p) y ≡ true
    made_keep o y (WrittenConstructor {n = n} {b = b} is em en eb) ctor = written_keep n b (b ∷ []) eb ctor
    made_keep o y (ImplicitConstructor {t = t} {c = c} {m = m} is ec em empty) ctor = implicit_keep t c m.place (implicit_constructor t c.name m.place ∷ []) ec empty
    made_keep o y (WrittenMethod {t = t} {m = m} {b = b} is eb own) ctor = let at = method_is q (slice_get (table q t) m) b eb in written_keep at.0 b (declarations q t m) at.1 ctor
    made_keep o y (Wrapper is eb own em) ctor = absurd (false≢true ctor)

  -- Of each body of the elaboration that is a constructor.
  pub constructors_keep : null_faults q ≡ [] → construction_faults q ≡ [] → (o : Origin) (y : core.BodyTree) → IsMade q o y → y.flags.ctor ≡ true → keeps_nulls_out (core_of p) y ≡ true
  unfolding null_faults construction_faults
  constructors_keep pure built o y made ctor =
      let one = none_left (nulls.classes_faults q 0 q.members) (nulls.bodies_faults q q.bodies) pure in
      let two = none_left (delayed.classes_faults q 0 q.members) (delayed.bodies_faults q q.bodies) built in
      made_keep one.0 one.1 two.0 two.1 o y made ctor

  -- Of each body.
  pub keep_nulls_out : null_faults q ≡ [] → construction_faults q ≡ [] → OfEach (core_of p) (λ b. keeps_nulls_out (core_of p) b ≡ true)
  keep_nulls_out pure built n y at =
      ⊎_elim
      (λ ctor. let from = origin_of q n y at in constructors_keep pure built from.origin y from.made ctor)
      (λ method. methods_keep_out p faultless written_fit pure n y at method)
      (cases_Bool y.flags.ctor)
