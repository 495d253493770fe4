-- What the elaboration of a program without faults of names has of what its bodies name.
use Rattle.std.proofs.Common.{◌≡◌, ℕ, zero, suc, ◌+◌, ◌*◌, List, [], ◌∷◌, ◌++◌, map, Bool, true, false, Option, Some, None, refl, sym, ◌∙◌, ap, subst, arith, ⊎_elim}
use Rattle.std.specs.Prelude.{◌==◌, slice_get, if◌then◌else◌}
use Rattle.std.specs.List.{list_all}
use Rattle.std.proofs.lemmas.Bool.{and_parts, false≢true}
use Rattle.std.proofs.lemmas.Option.{slice_get_within}
use Rattle.ss_core.specs.declared.names.Ty.TheVariants as ty
use Rattle.ss_core.specs.Tree as core
use Rattle.ss_core.specs.Chain as chain
use Rattle.ss_core.specs.Chain.{is_declared}
use Rattle.ss_ast.specs.Programs.{ParamTree, ClassTree, ProgramTree}
use Rattle.ss_tables.specs.Members.{MethodTree, is_static}
use Rattle.ss_tables.specs.Classes.{above}
use Rattle.ss_typed.specs.Tree.{BodyTree, TypedTree}
use Rattle.ss_typed.specs.Tree as typed
use Rattle.ss_typed.specs.Lookups.{body_at, constructor_in, constructor_of, param_types_in}
use Rattle.ss_typed.specs.Constructors.{written_constructor}
use Rattle.ss_nonnull_rules.specs.Faults.{parameters, constructor_parameters}
use Rattle.ss_resolver_names_rules.specs.Programs.{program_faults}
use Rattle.ss_resolver_rules.specs.Numbers.{number_or_object}
use Rattle.ss_resolver_rules.specs.Programs.{members, param_env, method_env, resolved}
use Rattle.ss_expand_rules.specs.Program.{above_of}
use Rattle.ss_store_rules.specs.Typed.{is_local}
use Rattle.ss_expand_formed.specs.Laws.{core_of}
use Rattle.ss_expand_formed.proofs.Facts.{all_at}
use Rattle.ss_expand_formed.proofs.Entries.{map_from, append_from}
use Rattle.ss_expand_formed.proofs.Places.{members_at, class_at}
use Rattle.ss_expand_formed.proofs.Resolved.{number_declared}
use Rattle.ss_expand_formed.proofs.Cycles.{above_within}
use Rattle.ss_expand_formed.proofs.ChainLaw.{size}
use Rattle.ss_expand_formed.proofs.ClassConstructors.{place_of_declared}
use Rattle.ss_expand_formed.proofs.TypesKnown.{known, are_known, all_known}
use Rattle.ss_expand_formed.proofs.Declared.{have_declared_types}
use Rattle.ss_expand_formed.proofs.ConstructionStatements.{InAll}
use Rattle.ss_expand_formed.proofs.Sources.{of_each}
use Rattle.ss_expand_formed.proofs.ReadLocals.{Other, OtherSimple, IsInside, block_other}
use Rattle.ss_expand_formed.proofs.Keeping.{params_inside}
use Rattle.ss_expand_formed.proofs.Environments.{this_in, param_types, context_of}
use Rattle.ss_expand_formed.proofs.Callees.{same_fields, tree_at}
use Rattle.ss_expand_formed.proofs.StatementsCalls.{has_calls}
use Rattle.ss_expand_formed.proofs.NullsInNames.{written_params, HasNames}

module _ (p : ProgramTree) where
  abbrev P : TypedTree
  P = resolved p

  abbrev C : List core.ClassTree
  C = (core_of p).classes

  -- ---- parameters of constructors

  class_takes : (k : ℕ) (c : ClassTree) → slice_get p.classes k ≡ Some c → constructor_parameters P (4 + 2 * k) ≡ param_types_in (constructor_of P (4 + 2 * k))
  class_takes k c at =
      ap (λ m. parameters P (written_constructor m)) (members_at p k c at)
      ∙ written_params P (members p.classes k c).constructor
      ∙ sym (ap (λ m. param_types_in (constructor_in P m)) (members_at p k c at))

  pub constructors_take : (t : ℕ) → is_declared C t ≡ true → constructor_parameters P t ≡ param_types_in (constructor_of P t)
  constructors_take t there =
      let at = place_of_declared C t there in
      let l = at.2 in
      let s = size p in
      let c = tree_at p.classes at.0 (omega arith) in
      subst (λ u. constructor_parameters P u ≡ param_types_in (constructor_of P u)) (sym at.1) (class_takes at.0 c.0 c.1)

  -- ---- the class above

  above_known : (o : Option ℕ) (k : ℕ) → above p.classes k ≡ o → (number_or_object o == 0) ≡ false → is_declared C (number_or_object o) ≡ true
  above_known None k e h = absurd (false≢true (sym h))
  above_known (Some j) k e h = let l = above_within p.classes k j e in let s = size p in number_declared C j (omega arith)

  abbrev HasAbove : ℕ → Type 0
  HasAbove t = (above_of P t == 0) ≡ false → is_declared C (above_of P t) ≡ true

  class_above : (k : ℕ) (c : ClassTree) → slice_get p.classes k ≡ Some c → HasAbove (4 + 2 * k)
  class_above k c at =
      let over : above_of P (4 + 2 * k) ≡ number_or_object (above p.classes k) = ap chain.above_of (class_at p k c at) in
      subst (λ u. (u == 0) ≡ false → is_declared C u ≡ true) (sym over) (above_known (above p.classes k) k refl)

  above_declared : (t : ℕ) → is_declared C t ≡ true → HasAbove t
  above_declared t there =
      let at = place_of_declared C t there in
      let l = at.2 in
      let s = size p in
      let c = tree_at p.classes at.0 (omega arith) in
      subst HasAbove (sym at.1) (class_above at.0 c.0 c.1)

  class_declared : (k : ℕ) (c : ClassTree) → slice_get p.classes k ≡ Some c → is_declared C (4 + 2 * k) ≡ true
  class_declared k c at = let l = slice_get_within p.classes k c at in let s = size p in number_declared C k (omega arith)

  pub body_declared : (n : ℕ) (w : BodyTree) → body_at P n ≡ Some w → is_declared C w.class ≡ true
  body_declared = of_each p (λ w. is_declared C w.class ≡ true) (λ k c at n d e. class_declared k c at) (λ k c at n m e. class_declared k c at)

  -- ---- locals of a method aren't `this`

  moving_inside : (k : ℕ) (static : Bool) (ps : List ParamTree) → static ≡ false → IsInside (param_env p.classes k static ps)
  moving_inside k true ps e = absurd (false≢true (sym e))
  moving_inside k false ps e = params_inside p k ps

  method_inside : (k : ℕ) (m : MethodTree) → is_static m ≡ false → IsInside (method_env p.classes k m)
  method_inside k m e = let i = moving_inside k (is_static m) m.params e in record { names = i.names; next = i.next }

  pub block_others : (n : ℕ) (w : BodyTree) → body_at P n ≡ Some w → w.flags.is_static ≡ false → InAll OtherSimple Other w.block
  block_others = of_each p (λ w. w.flags.is_static ≡ false → InAll OtherSimple Other w.block)
      (λ k c at n d e moving. block_other (param_env p.classes k false d.params) (params_inside p k d.params) d.body)
      (λ k c at n m e moving. block_other (method_env p.classes k m) (method_inside k m moving) m.body)

  -- ---- no local is of the type of null

  module _ (faultless : program_faults p ≡ []) where
    no_null_this : (static : Bool) (t x : ℕ) → slice_get (if static then [] else ty.Ref (record { 0 = t }) true ∷ []) x ≡ Some ty.Null → ⊥
    no_null_this true t x h = (let z : ⊥ = cc in z)
    no_null_this false t zero h = (let z : ⊥ = cc in z)
    no_null_this false t (suc x) h = (let z : ⊥ = cc in z)

    no_null_param : (n : ℕ) (w : BodyTree) → body_at P n ≡ Some w → (x : ℕ) → slice_get (param_types w) x ≡ Some ty.Null → ⊥
    no_null_param n w at x h =
        let q = map_from (λ (q : typed.ParamTree). q.ty) w.params x ty.Null h in
        let all = (and_parts _ (list_all (λ (q : typed.ParamTree). known p faultless q.ty) w.params) (all_at (are_known p faultless) P.bodies n w (all_known p faultless) at)).1 in
        false≢true (ap (known p faultless) (sym q.2) ∙ all_at (λ (q : typed.ParamTree). known p faultless q.ty) w.params x q.0 all q.1)

    no_null_local : (n : ℕ) (w : BodyTree) → body_at P n ≡ Some w → (x : ℕ) → slice_get (map (λ (l : core.LocalTree). l.ty) w.locals) x ≡ Some ty.Null → ⊥
    no_null_local n w at x h =
        let q = map_from (λ (l : core.LocalTree). l.ty) w.locals x ty.Null h in
        let all = all_at (λ (b : BodyTree). list_all (is_local C) b.locals) P.bodies n w (have_declared_types p faultless) at in
        let here = (and_parts (chain.is_type C q.0.ty) _ (all_at (is_local C) w.locals x q.0 all q.1)).0 in
        false≢true (ap (chain.is_type C) (sym q.2) ∙ here)

    pub no_null : (n : ℕ) (w : BodyTree) → body_at P n ≡ Some w → (x : ℕ) → slice_get (context_of w).locals x ≡ Some ty.Null → ⊥
    no_null n w at x h =
        ⊎_elim
        (λ l.
        ⊎_elim
        (λ this. no_null_this w.flags.is_static w.class this.0 this.1)
        (λ q. no_null_param n w at q.0 q.1)
        (append_from (this_in w) (param_types w) l.0 ty.Null l.1))
        (λ q. no_null_local n w at q.0 q.1)
        (append_from (this_in w ++ param_types w) (map (λ (l : core.LocalTree). l.ty) w.locals) x ty.Null h)

    -- of a body of a declared class
    pub names_of : (w : BodyTree) (bs : List BodyTree) → is_declared C w.class ≡ true → ((x : ℕ) → slice_get (context_of w).locals x ≡ Some ty.Null → ⊥) → HasNames (core_of p) P w bs
    names_of w bs class without = record {
      same = same_fields P;
      calls = has_calls p faultless w bs class;
      constructors = constructors_take;
      above = above_declared w.class class;
      no_null = without;
    }

    pub has_names : (n : ℕ) (w : BodyTree) (bs : List BodyTree) → body_at P n ≡ Some w → HasNames (core_of p) P w bs
    has_names n w bs at = names_of w bs (body_declared n w at) (no_null n w at)
