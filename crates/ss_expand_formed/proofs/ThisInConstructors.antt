-- How constructors of a source without faults of construction use `this`.
use Rattle.std.proofs.Common.{◌≡◌, ℕ, ◌+◌, ◌*◌, [], ◌++◌, Bool, true, false, Option, Some, None, refl, sym, ◌∙◌, subst}
use Rattle.std.specs.Prelude.{slice_get, if◌then◌else◌}
use Rattle.std.proofs.lemmas.Bool.{false≢true}
use Rattle.ss_ast.specs.Programs.{ClassTree, ProgramTree}
use Rattle.ss_ast.specs.declared.stmt.AssignOperator.TheVariants as operator
use Rattle.ss_typed.specs.Tree.{ThisOf, FieldOf, AssignOf, StmtTree, SimpleOf, ReturnOf, StmtTrees, NoMore, Before, BlockTree, BlockOf, BaseTree, BodyTree, TypedTree}
use Rattle.ss_delayed_rules.specs.Escapes.{Use, ForFields, NotAtAll, uses_each, uses_in, uses_in_all, uses_at, uses_along}
use Rattle.ss_paths.specs.Fields.{field_numbers}
use Rattle.ss_paths.specs.Assigned.{assigned_by_initializers, assigned_flow}
use Rattle.ss_paths.specs.Paths.{at_end}
use Rattle.ss_delayed_rules.specs.Opening.{opening, written_base}
use Rattle.ss_delayed_rules.specs.Constructors.{escapes, end_faults, base_faults, arguments_of, unassigned_faults, place_of_base, delayed_faults, undelayed_faults}
use Rattle.ss_delayed_rules.specs.Program.{classes_faults, body_faults}
use Rattle.ss_resolver_rules.specs.Programs.{param_env, resolved}
use Rattle.ss_expand_rules.specs.Program.{field_at}
use Rattle.ss_typed.specs.Lookups.{body_at}
use Rattle.ss_expand_rules.specs.Constructors.{before_all, initializers, after_initial, base_alone, with_base}
use Rattle.ss_typed.specs.Shapes.{closing_brace, in_block, has_base}
use Rattle.ss_expand_formed.proofs.Facts.{none_left}
use Rattle.ss_expand_formed.proofs.Choices.{where_chosen}
use Rattle.ss_expand_formed.proofs.ConstructionStatements.{InAll, Along}
use Rattle.ss_expand_formed.proofs.Sources.{of_each}
use Rattle.ss_expand_formed.proofs.Numbering.{is_declared_in}
use Rattle.ss_expand_formed.proofs.OwnFields.{initializers_own}
use Rattle.ss_expand_formed.proofs.ReadLocals.{Other, Others, OtherSimple, block_other}
use Rattle.ss_expand_formed.proofs.Keeping.{along_before, along_block, along_base, no_escapes, initializers_fine, params_inside, base_other}
use Rattle.ss_expand_formed.proofs.Begins.{written_is}
use Rattle.ss_expand_formed.proofs.Uses.{Fine, AreFine}
use Rattle.ss_expand_formed.proofs.Fine.{FineSimple, stmts_fine}
use Rattle.ss_expand_formed.proofs.Initial.{OnlyInitial, initial_of}
use Rattle.ss_expand_formed.proofs.Splits.{along_opening, given_others}

-- ---- lists of statements

uses_before : (u : Use) (xs ys : StmtTrees) → uses_along u xs ≡ [] → uses_along u ys ≡ [] → uses_along u (before_all xs ys) ≡ []
uses_before u NoMore ys h g = g
uses_before u (Before x xs) ys h g = let both = none_left (uses_at u x) (uses_along u xs) h in rw (both.0, uses_before u xs ys both.1 g) refl

uses_of_block : (u : Use) (b : BlockTree) → uses_in u b ≡ [] → uses_along u (in_block b) ≡ []
uses_of_block u (BlockOf q ss end) h = h

pub initial_others : (own : ℕ → Bool) (ss : StmtTrees) → OnlyInitial own ss → Along OtherSimple Other ss
initial_others own NoMore h = tt
initial_others own (Before (SimpleOf (AssignOf (FieldOf q (ThisOf r v) f t) operator.Set e)) ss) h = ((refl, h.1.locals), initial_others own ss h.2)
initial_others own (Before s ss) h = absurd h

-- ---- a constructor

-- no local of it is `this`
pub record NamesOthers (b : BodyTree) : Type 0 where
  pub given : Others (arguments_of b.base)
  pub block : InAll OtherSimple Other b.block

-- it uses `this` for its fields alone
pub record UsesFields (b : BodyTree) : Type 0 where
  pub given : uses_each ForFields (arguments_of b.base) ≡ []
  pub block : uses_in ForFields b.block ≡ []

pub uses_fields : (q : TypedTree) (b : BodyTree) → body_faults q b ≡ [] → b.flags.ctor ≡ true → b.flags.delayed ≡ true → UsesFields b
uses_fields q b h ctor late =
    let whole : escapes (uses_in_all NotAtAll b.entry) ++ (if b.flags.delayed then delayed_faults q b else undelayed_faults q b) ≡ [] = rw ctor at h in
    let half = (none_left (escapes (uses_in_all NotAtAll b.entry)) (if b.flags.delayed then delayed_faults q b else undelayed_faults q b) whole).1 in
    let mine : delayed_faults q b ≡ [] = rw late at half in
    let front = (none_left (escapes (uses_each ForFields (arguments_of b.base) ++ uses_in ForFields b.block) ++ end_faults q b) (base_faults q b.class b.place) mine).0 in
    let first = (none_left (escapes (uses_each ForFields (arguments_of b.base) ++ uses_in ForFields b.block)) (end_faults q b) front).0 in
    let both = none_left (uses_each ForFields (arguments_of b.base)) (uses_in ForFields b.block) (no_escapes (uses_each ForFields (arguments_of b.base) ++ uses_in ForFields b.block) first) in
    record { given = both.0; block = both.1 }

-- it uses `this` for nothing up to `base(..)` but to write fields of it
pub record WritesFirst (q : TypedTree) (b : BodyTree) : Type 0 where
  pub front : uses_along NotAtAll (opening q b) ≡ []
  pub given : uses_each NotAtAll (arguments_of (written_base b)) ≡ []

pub writes_first : (q : TypedTree) (b : BodyTree) → body_faults q b ≡ [] → b.flags.ctor ≡ true → b.flags.delayed ≡ false → WritesFirst q b
writes_first q b h ctor early =
    let whole : escapes (uses_in_all NotAtAll b.entry) ++ (if b.flags.delayed then delayed_faults q b else undelayed_faults q b) ≡ [] = rw ctor at h in
    let half = (none_left (escapes (uses_in_all NotAtAll b.entry)) (if b.flags.delayed then delayed_faults q b else undelayed_faults q b) whole).1 in
    let mine : undelayed_faults q b ≡ [] = rw early at half in
    let ends = unassigned_faults q b.class (place_of_base b (written_base b)) (at_end (assigned_flow (field_numbers q b.class)) (opening q b) (Some (assigned_by_initializers q b.class))) in
    let first = (none_left (escapes (uses_along NotAtAll (opening q b) ++ uses_each NotAtAll (arguments_of (written_base b)))) ends mine).0 in
    let both = none_left (uses_along NotAtAll (opening q b)) (uses_each NotAtAll (arguments_of (written_base b))) (no_escapes (uses_along NotAtAll (opening q b) ++ uses_each NotAtAll (arguments_of (written_base b))) first) in
    record { front = both.0; given = both.1 }

module _ (q : TypedTree) (b : BodyTree) where
  -- what stands before `base(..)` in the block, and its arguments, are without `this`
  pub front_fine : NamesOthers b → WritesFirst q b → Along (FineSimple NotAtAll) (Fine NotAtAll) (opening q b)
  front_fine others h =
      let block = along_block OtherSimple Other b.block others.block in
      stmts_fine NotAtAll (opening q b) h.front (along_opening OtherSimple Other q b.class (base_alone b) b.base (in_block b.block) block)

  pub given_fine : NamesOthers b → WritesFirst q b → AreFine NotAtAll (arguments_of (written_base b))
  given_fine others h =
      let block = along_block OtherSimple Other b.block others.block in
      record { unused = h.given; locals = subst (λ o. Others (arguments_of o)) (sym (written_is b b.base)) (given_others b.base (in_block b.block) others.given block) }

  abbrev last : StmtTrees
  last = Before (ReturnOf (closing_brace b.block) None) NoMore

  -- its statements after the beginnings of fields
  abbrev pub behind_fields : StmtTrees
  behind_fields = before_all (with_base q b b.base (in_block b.block)) last

  pub others_after : NamesOthers b → Along OtherSimple Other behind_fields
  others_after h =
      along_before OtherSimple Other (with_base q b b.base (in_block b.block)) last
      (along_base OtherSimple Other q b b.base (in_block b.block) (λ place. h.given) (λ place. refl) (along_block OtherSimple Other b.block h.block))
      (tt, tt)

  based : b.flags.delayed ≡ true → (base : Option BaseTree) (ss : StmtTrees) → uses_each ForFields (arguments_of base) ≡ [] → uses_along ForFields ss ≡ [] → uses_along ForFields (with_base q b base ss) ≡ []
  based late (Some o) ss h g = rw (h, g) refl
  based late None ss h g =
      where_chosen (λ (xs : StmtTrees). uses_along ForFields xs ≡ []) (has_base ss) ss (if b.flags.delayed then Before (base_alone b) ss else after_initial q b.class (base_alone b) ss) (λ yes. g)
      (λ no. where_chosen (λ (xs : StmtTrees). uses_along ForFields xs ≡ []) b.flags.delayed (Before (base_alone b) ss) (after_initial q b.class (base_alone b) ss) (λ yes. g) (λ other. absurd (false≢true (sym other ∙ late))))

  pub fields_behind : b.flags.delayed ≡ true → UsesFields b → uses_along ForFields behind_fields ≡ []
  fields_behind late h = uses_before ForFields (with_base q b b.base (in_block b.block)) last (based late b.base (in_block b.block) h.given (uses_of_block ForFields b.block h.block)) refl

-- ---- a source

module _ (p : ProgramTree) where
  pub names_others : (n : ℕ) (b : BodyTree) → body_at (resolved p) n ≡ Some b → b.flags.ctor ≡ true → NamesOthers b
  names_others = of_each p (λ b. b.flags.ctor ≡ true → NamesOthers b)
      (λ k c at n d e ctor. record { given = base_other (param_env p.classes k false d.params) (params_inside p k d.params) d.base; block = block_other (param_env p.classes k false d.params) (params_inside p k d.params) d.body })
      (λ k c at n m e ctor. absurd (false≢true ctor))

  -- the beginnings of the fields of a class
  pub initializers_initial : classes_faults (resolved p) 0 (resolved p).members ≡ [] → (k : ℕ) (c : ClassTree) → slice_get p.classes k ≡ Some c → (t : ℕ) → t ≡ 4 + 2 * k → (own : ℕ → Bool) → ((f : ℕ) → is_declared_in t (field_at (resolved p) f) ≡ true → own f ≡ true) → OnlyInitial own (initializers (resolved p) t)
  initializers_initial pure k c at t is own has =
      subst (λ u. ((f : ℕ) → is_declared_in u (field_at (resolved p) f) ≡ true → own f ≡ true) → OnlyInitial own (initializers (resolved p) u)) (sym is)
      (λ each. initial_of (resolved p) (4 + 2 * k) own each (initializers (resolved p) (4 + 2 * k)) (initializers_own p k c at) (initializers_fine p pure NotAtAll k c at)) has
