-- The elaboration of a constructor keeps nulls out, piece by piece as the phase of null goes through it.
use Rattle.std.proofs.Common.{◌≡◌, ℕ, ◌+◌, ◌-◌, ◌*◌, ◌<◌, List, [], Bool, true, false, Option, Some, None, refl, sym, ◌∙◌, ap, subst, arith, ⊎_elim}
use Rattle.std.specs.Prelude.{not, slice_get, if◌then◌else◌}
use Rattle.std.proofs.lemmas.Bool.{and_parts, cases_Bool, false≢true}
use Rattle.ss_core.specs.declared.names.Place.{Place}
use Rattle.ss_core.specs.declared.names.Ty.{Ty}
use Rattle.ss_core.specs.Tree as core
use Rattle.ss_ast.specs.Programs.{ClassTree, ProgramTree}
use Rattle.ss_typed.specs.Tree.{Arguments, BaseCallOf, StmtTree, SimpleOf, ReturnOf, StmtTrees, NoMore, Before, BaseTree, BodyTree, TypedTree}
use Rattle.ss_typed.specs.Tree as typed
use Rattle.ss_paths.specs.Sets.{none}
use Rattle.ss_paths.specs.Fields.{is_among, field_numbers, own_fields}
use Rattle.ss_paths.specs.Assigned.{Assigned, has_field, assigned_by_initializers, assigned_first}
use Rattle.ss_typed.specs.Shapes.{has_base, closing_brace, in_block}
use Rattle.ss_paths.specs.Paths as phase
use Rattle.ss_nonnull_rules.specs.NonNull as source
use Rattle.ss_nonnull_rules.specs.Faults as faults
use Rattle.ss_nonnull_rules.specs.Faults.{handed_to_base, null_check}
use Rattle.ss_nonnull_rules.specs.Program as nulls
use Rattle.ss_nonnull_rules.specs.Program.{null_context_of, initializer_context, only_fields, base_faults}
use Rattle.ss_delayed_rules.specs.Escapes.{NotAtAll}
use Rattle.ss_delayed_rules.specs.Opening.{first_run, before_base, opening_of, opening, base_in, written_base}
use Rattle.ss_delayed_rules.specs.Constructors.{arguments_of}
use Rattle.ss_resolver_rules.specs.Programs.{members, resolved}
use Rattle.ss_expand_rules.specs.Simple.{has_delayed_constructor}
use Rattle.ss_expand_rules.specs.Contracts.{first_param}
use Rattle.ss_expand_rules.specs.Constructors.{before_all, initializers, after_initial, base_alone, with_base}
use Rattle.ss_expand_rules.specs.Bodies as bodies
use Rattle.ss_expand_rules.specs.Bodies.{temporary_count, written_body}
use Rattle.ss_store_rules.specs.NonNull.{known_at_entry, keeps_nulls_out}
use Rattle.ss_expand_formed.proofs.Facts.{none_left}
use Rattle.ss_expand_formed.proofs.Begins.{before_all_assoc, base_or, written_is}
use Rattle.ss_expand_formed.proofs.Uses.{AreFine}
use Rattle.ss_expand_formed.proofs.Fit.{Context}
use Rattle.ss_expand_formed.specs.Fitting.{Frame, base_fits, all_fitting, Agrees, Builds, Covers}
use Rattle.ss_expand_formed.specs.Bodies.{body_frame, method_frame, nothing_known}
use Rattle.ss_expand_formed.proofs.NullsPlain.{not_none}
use Rattle.ss_expand_formed.proofs.Numbers.{after_copies}
use Rattle.ss_expand_formed.proofs.NullsDelayed.{none_assigned}
use Rattle.ss_expand_formed.proofs.NullsMethods.{faults_before_return, faults_of_block, agrees, body_from}
use Rattle.ss_expand_formed.proofs.Seams.{fitting_parts, Less, HoldFrom, from_less, all_hold, after_simple, behind_all}
use Rattle.ss_expand_formed.proofs.AfterBase.{after_base}
use Rattle.ss_expand_formed.proofs.Refit.{refit_base}
use Rattle.ss_expand_formed.proofs.Initial.{OnlyInitial, initial_simple, initial_fit}
use Rattle.ss_expand_formed.proofs.Initializers.{own_less, after_initializers}
use Rattle.ss_expand_formed.proofs.Splits.{split_at_base, split_at_run}

-- its statements: the beginnings of fields, `base(..)` and the block, and a return
pub parts_of : (q : TypedTree) (b : BodyTree) → b.flags.ctor ≡ true → b.result ≡ None → bodies.statements q b ≡ before_all (initializers q b.class) (before_all (with_base q b b.base (in_block b.block)) (Before (ReturnOf (closing_brace b.block) None) NoMore))
parts_of q b ctor result = rw (ctor, result) (before_all_assoc (initializers q b.class) (with_base q b b.base (in_block b.block)) (Before (ReturnOf (closing_brace b.block) None) NoMore))

-- a constructor of the class k of the program, as the phases see it
pub record IsConstructor (p : ProgramTree) (k : ℕ) (c : ClassTree) (b : BodyTree) : Type 0 where
  pub there : slice_get p.classes k ≡ Some c
  pub class : b.class ≡ 4 + 2 * k
  pub ctor : b.flags.ctor ≡ true
  pub static : b.flags.is_static ≡ false
  pub result : b.result ≡ None
  -- no fault of null
  pub begins : nulls.initializers_from (resolved p) (4 + 2 * k) 0 (members p.classes k c).fields (own_fields (resolved p) (4 + 2 * k)) ≡ []
  pub base : base_faults (resolved p) b b.base ≡ []
  pub block : phase.faults_in (source.known_flow (null_context_of (resolved p) b)) (null_check (null_context_of (resolved p) b)) b.block (only_fields (assigned_first (resolved p) b)) ≡ []

abbrev null_context_with : TypedTree → ℕ → Bool → Option Ty → source.NullContext
null_context_with q t constructs result = record { program = q; class = t; numbers = field_numbers q t; constructs = constructs; in_old = false; result = result }

module _ (c : core.CoreTree) (p : ProgramTree) (k : ℕ) (tree : ClassTree) (b : BodyTree) (is : IsConstructor p k tree b) (bs : List BodyTree) where
  abbrev q : TypedTree
  q = resolved p

  abbrev ss : StmtTrees
  ss = in_block b.block

  abbrev last : StmtTrees
  last = Before (ReturnOf (closing_brace b.block) None) NoMore

  -- what the phase knows after the beginnings of fields, and at the beginning of the block
  abbrev initialized : source.Known
  initialized = record { facts = none; fields = assigned_by_initializers q b.class }

  abbrev first : source.Known
  first = record { facts = none; fields = assigned_first q b }

  statements_are : bodies.statements q b ≡ before_all (initializers q b.class) (before_all (with_base q b b.base ss) last)
  statements_are = parts_of q b is.ctor is.result

  -- the block and its return have no fault
  block_pure : phase.faults_along (source.known_flow (null_context_of q b)) (null_check (null_context_of q b)) (before_all ss last) (Some first) ≡ []
  block_pure =
      let F = source.known_flow (null_context_of q b) in
      let K = null_check (null_context_of q b) in
      faults_before_return F K (λ m. refl) (closing_brace b.block) ss (Some first) (faults_of_block F K (λ m. refl) b.block (Some first) is.block)

  after_this : b.flags.ctor ≡ true → 0 < after_copies b 0
  after_this ctor = let one : first_param b ≡ 1 = ap (λ (v : Bool). if v then 0 else 1) is.static in omega arith

  -- ---- in any frame

  module _ (fields : ℕ → Bool) (free : Bool) where
    abbrev z : Frame
    z = body_frame c q b bs fields free

    module _ (builds : Builds z) where
      agree : Agrees z
      agree = agrees c q b bs fields free builds after_this

      whole : free ≡ false → all_fitting z (initializers q b.class) ≡ true → HoldFrom z initialized (before_all (with_base q b b.base ss) last) → keeps_nulls_out c (written_body q b bs) ≡ true
      whole bound fit rest =
          let t = 4 + 2 * k in
          let context : null_context_of q b ≡ initializer_context q t = ap (λ u. null_context_with q u b.flags.ctor b.result) is.class ∙ ap (λ v. null_context_with q t v b.result) is.ctor ∙ ap (λ r. null_context_with q t true r) is.result in
          let covers : Covers z nothing_known (known_at_entry (written_body q b bs)) = record {
            facts = λ x h. not_none x h;
            mine = λ x h. not_none x h;
            fields = λ f o h. none_assigned _ f h;
            free = λ h f. absurd (false≢true (sym bound ∙ h));
          } in
          let more = before_all (with_base q b b.base ss) last in
          let inner : HoldFrom z nothing_known (before_all (initializers q t) more) =
          after_initializers p k tree is.there z agree builds context is.begins (subst (λ u. all_fitting z (initializers q u) ≡ true) is.class fit) more (subst (λ u. HoldFrom z (record { facts = none; fields = assigned_by_initializers q u }) more) is.class rest) in
          let all : HoldFrom z nothing_known (bodies.statements q b) = subst (HoldFrom z nothing_known) (sym statements_are) (subst (λ u. HoldFrom z nothing_known (before_all (initializers q u) more)) (sym is.class) inner) in
          body_from c q b bs fields free builds after_this nothing_known (λ x h. not_none x h) covers (λ l known made. all [] l known made)

  -- ---- a delayed constructor

  module _ (late : b.flags.delayed ≡ true) (fields : ℕ → Bool) (builds : Builds (z fields false)) (fit : all_fitting (z fields false) (bodies.statements q b) ≡ true) where
    abbrev v : Frame
    v = z fields false

    -- after `base(..)`, and after what is read of the block
    based_less : (place : Place) (es : Arguments) → Less v first (source.known_done v.context (BaseCallOf place es) initialized)
    based_less place es = record { facts = λ x i. i; fields = λ f o h. own_less v.context.numbers f first.fields (source.known_done v.context (BaseCallOf place es) initialized).fields (λ i h. h) (λ h. refl) h }

    late_called : (place : Place) (es : Arguments) → handed_to_base v.context (Some initialized) es ≡ [] → all_fitting v (Before (SimpleOf (BaseCallOf place es)) (before_all ss last)) ≡ true → HoldFrom v initialized (Before (SimpleOf (BaseCallOf place es)) (before_all ss last))
    late_called place es clean g =
        let both = and_parts (base_fits v es) (all_fitting v (before_all ss last)) g in
        after_simple v (agree fields false builds) builds initialized first (BaseCallOf place es) (before_all ss last) both.0 clean (based_less place es) (all_hold v (agree fields false builds) builds first (before_all ss last) both.1 block_pure)

    late_rest : (base : Option BaseTree) → base_faults q b base ≡ [] → all_fitting v (before_all (with_base q b base ss) last) ≡ true → HoldFrom v initialized (before_all (with_base q b base ss) last)
    late_rest (Some o) clean g = late_called o.place o.arguments clean g
    late_rest None clean g =
        ⊎_elim
        (λ yes.
        let is_block : with_base q b None ss ≡ ss = ap (λ (w : Bool). if w then ss else if b.flags.delayed then Before (base_alone b) ss else after_initial q b.class (base_alone b) ss) yes in
        let found : has_base ss ≡ true = yes in
        let less : Less v first initialized = record { facts = λ x i. i; fields = λ f o h. own_less v.context.numbers f first.fields initialized.fields (λ i own. own) (λ above. absurd (false≢true (sym (ap not found) ∙ above))) h } in
        let mine = subst (λ xs. all_fitting v (before_all xs last) ≡ true) is_block g in
        subst (λ xs. HoldFrom v initialized (before_all xs last)) (sym is_block) (from_less v first initialized (before_all ss last) less (all_hold v (agree fields false builds) builds first (before_all ss last) mine block_pure)))
        (λ no.
        let is_called : with_base q b None ss ≡ Before (base_alone b) ss =
        ap (λ (w : Bool). if w then ss else if b.flags.delayed then Before (base_alone b) ss else after_initial q b.class (base_alone b) ss) no ∙ ap (λ (w : Bool). if w then Before (base_alone b) ss else after_initial q b.class (base_alone b) ss) late in
        let mine = subst (λ xs. all_fitting v (before_all xs last) ≡ true) is_called g in
        subst (λ xs. HoldFrom v initialized (before_all xs last)) (sym is_called) (late_called b.place typed.Arguments.NoMore refl mine))
        (cases_Bool (has_base ss))

    pub late_keeps : keeps_nulls_out c (written_body q b bs) ≡ true
    late_keeps =
        let parts = fitting_parts v (initializers q b.class) (before_all (with_base q b b.base ss) last) (subst (λ xs. all_fitting v xs ≡ true) statements_are fit) in
        whole fields false builds refl parts.0 (late_rest b.base is.base parts.1)

  -- ---- a constructor that isn't delayed

  -- where only fields that the class declares are asked for
  among_less : (f : ℕ) (a d : Assigned) → is_among (field_numbers q b.class) f ≡ true → ((i : ℕ) → a.own i ≡ true → d.own i ≡ true) → has_field (field_numbers q b.class) a f ≡ true → has_field (field_numbers q b.class) d f ≡ true
  among_less f a d among own h = by (is_among (field_numbers q b.class) f) among h
    where
      by : (w : Bool) → w ≡ true → (if w then a.own (f - (field_numbers q b.class).first) else a.above) ≡ true → (if w then d.own (f - (field_numbers q b.class).first) else d.above) ≡ true
      by true e i = own (f - (field_numbers q b.class).first) i
      by false e i = absurd (false≢true e)

  module _ (early : b.flags.delayed ≡ false) (object : has_delayed_constructor q 0 ≡ true) where
    abbrev own : ℕ → Bool
    own f = is_among (field_numbers q b.class) f

    -- before `base(..)`, and after it
    abbrev before : Frame
    before = z own false

    abbrev behind : Frame
    behind = method_frame c q b bs

    builds_before : Builds before
    builds_before = record { delayed = refl; above = λ f h g. absurd (false≢true (sym g ∙ h)); inherited = λ f h g. absurd (false≢true (sym g ∙ h)) }

    builds_after : Builds behind
    builds_after = record { delayed = refl; above = λ f h g. absurd (false≢true h); inherited = λ f h g. absurd (false≢true h) }

    abbrev nowhere : Context
    nowhere = record { is_static = false; class = 0; locals = []; result = None }

    -- arguments without `this`
    base_before : (es : Arguments) → AreFine NotAtAll es → base_fits behind es ≡ true → base_fits before es ≡ true
    base_before es fine h = refit_base c q b bs own is.static NotAtAll c.classes nowhere (λ a d t f u i. absurd (false≢true i)) es fine (λ i. absurd (false≢true i)) h

    initial_before : (xs : StmtTrees) → OnlyInitial own xs → all_fitting behind xs ≡ true → all_fitting before xs ≡ true
    initial_before xs only h = initial_fit c q b bs own is.static c.classes nowhere xs only h

    first_less : Less before first initialized
    first_less = record { facts = λ x i. i; fields = λ f o h. among_less f first.fields initialized.fields o (λ i h. h) h }

    -- what stands after `base(..)` is as in a method
    called : (k m : source.Known) (place : Place) (es : Arguments) (more : StmtTrees) → AreFine NotAtAll es → handed_to_base before.context (Some k) es ≡ [] → ((x : ℕ) → m.facts x ≡ true → k.facts x ≡ true) →
        phase.faults_along (source.known_flow before.context) (null_check before.context) more (Some m) ≡ [] → all_fitting behind (Before (SimpleOf (BaseCallOf place es)) more) ≡ true → HoldFrom before k (Before (SimpleOf (BaseCallOf place es)) more)
    called k m place es more fine clean less pure g =
        let both = and_parts (base_fits behind es) (all_fitting behind more) g in
        after_base c q b bs own early object (agree own false builds_before) builds_before k m place es more (base_before es fine both.0) clean less (all_hold behind (agree (λ f. false) true builds_after) builds_after m more both.1 pure)

    -- `base(..)` stands in the block
    in_block_called : has_base ss ≡ true → OnlyInitial own (before_base ss) → AreFine NotAtAll (arguments_of (base_in ss)) → all_fitting behind (before_all ss last) ≡ true → HoldFrom before initialized (before_all ss last)
    in_block_called found only fine g =
        let r = split_at_base ss found in
        let front = before_base ss in
        let x = BaseCallOf r.place r.given in
        let rest = before_all r.rest last in
        let seen = Before (SimpleOf x) rest in
        let parted : before_all ss last ≡ before_all front seen = ap (λ xs. before_all xs last) r.is ∙ before_all_assoc front (Before (SimpleOf x) r.rest) last in
        let parts = fitting_parts behind front seen (subst (λ xs. all_fitting behind xs ≡ true) parted g) in
        let pure = subst (λ xs. phase.faults_along (source.known_flow (null_context_of q b)) (null_check (null_context_of q b)) xs (Some first) ≡ []) parted block_pure in
        let given : AreFine NotAtAll r.given = subst (λ o. AreFine NotAtAll (arguments_of o)) r.base fine in
        let all : HoldFrom before first (before_all front seen) = behind_all before (agree own false builds_before) builds_before front seen seen first (initial_simple own front only) (initial_before front only parts.0) pure
        (λ m clean.
        let next = source.known_done before.context x m in
        let both = none_left (faults.done_faults before.context x (Some m)) (phase.faults_along (source.known_flow before.context) (null_check before.context) rest (Some next)) clean in
        called m next r.place r.given rest given both.0 (λ y i. i) both.1 parts.1) in
        from_less before first initialized (before_all ss last) first_less (subst (HoldFrom before first) (sym parted) all)

    -- nothing writes it: it is implied after the first assignments
    implied_called : OnlyInitial own (first_run q b.class ss) → all_fitting behind (before_all (after_initial q b.class (base_alone b) ss) last) ≡ true → HoldFrom before initialized (before_all (after_initial q b.class (base_alone b) ss) last)
    implied_called only g =
        let r = split_at_run q b.class (base_alone b) ss in
        let front = first_run q b.class ss in
        let seen = before_all r.rest last in
        let more = Before (base_alone b) seen in
        let parted : before_all ss last ≡ before_all front seen = ap (λ xs. before_all xs last) r.is ∙ before_all_assoc front r.rest last in
        let whole_parted : before_all (after_initial q b.class (base_alone b) ss) last ≡ before_all front more = ap (λ xs. before_all xs last) r.base ∙ before_all_assoc front (Before (base_alone b) r.rest) last in
        let parts = fitting_parts behind front more (subst (λ xs. all_fitting behind xs ≡ true) whole_parted g) in
        let pure = subst (λ xs. phase.faults_along (source.known_flow (null_context_of q b)) (null_check (null_context_of q b)) xs (Some first) ≡ []) parted block_pure in
        let all : HoldFrom before first (before_all front more) = behind_all before (agree own false builds_before) builds_before front seen more first (initial_simple own front only) (initial_before front only parts.0) pure
        (λ m clean. called m m b.place typed.Arguments.NoMore seen (record { unused = refl; locals = refl }) refl (λ y i. i) clean parts.1) in
        from_less before first initialized (before_all (after_initial q b.class (base_alone b) ss) last) first_less (subst (HoldFrom before first) (sym whole_parted) all)

    early_rest : (base : Option BaseTree) → base_faults q b base ≡ [] → OnlyInitial own (opening_of q b.class base ss) → AreFine NotAtAll (arguments_of (base_or base ss)) → all_fitting behind (before_all (with_base q b base ss) last) ≡ true → HoldFrom before initialized (before_all (with_base q b base ss) last)
    early_rest (Some o) clean only fine g = called initialized first o.place o.arguments (before_all ss last) fine clean (λ y i. i) block_pure g
    early_rest None clean only fine g =
        ⊎_elim
        (λ yes.
        let is_block : with_base q b None ss ≡ ss = ap (λ (w : Bool). if w then ss else if b.flags.delayed then Before (base_alone b) ss else after_initial q b.class (base_alone b) ss) yes in
        let found : has_base ss ≡ true = yes in
        let front : OnlyInitial own (before_base ss) = subst (λ (w : Bool). OnlyInitial own (if w then before_base ss else first_run q b.class ss)) found only in
        subst (λ xs. HoldFrom before initialized (before_all xs last)) (sym is_block) (in_block_called found front fine (subst (λ xs. all_fitting behind (before_all xs last) ≡ true) is_block g)))
        (λ no.
        let is_run : with_base q b None ss ≡ after_initial q b.class (base_alone b) ss =
        ap (λ (w : Bool). if w then ss else if b.flags.delayed then Before (base_alone b) ss else after_initial q b.class (base_alone b) ss) no ∙ ap (λ (w : Bool). if w then Before (base_alone b) ss else after_initial q b.class (base_alone b) ss) early in
        let front : OnlyInitial own (first_run q b.class ss) = subst (λ (w : Bool). OnlyInitial own (if w then before_base ss else first_run q b.class ss)) no only in
        subst (λ xs. HoldFrom before initialized (before_all xs last)) (sym is_run) (implied_called front (subst (λ xs. all_fitting behind (before_all xs last) ≡ true) is_run g)))
        (cases_Bool (has_base ss))

    pub early_keeps : all_fitting behind (bodies.statements q b) ≡ true → OnlyInitial own (initializers q b.class) → OnlyInitial own (opening q b) → AreFine NotAtAll (arguments_of (written_base b)) → keeps_nulls_out c (written_body q b bs) ≡ true
    early_keeps fit begin only fine =
        let parts = fitting_parts behind (initializers q b.class) (before_all (with_base q b b.base ss) last) (subst (λ xs. all_fitting behind xs ≡ true) statements_are fit) in
        let given : AreFine NotAtAll (arguments_of (base_or b.base ss)) = subst (λ o. AreFine NotAtAll (arguments_of o)) (written_is b b.base) fine in
        whole own false builds_before refl (initial_before (initializers q b.class) begin parts.0) (early_rest b.base is.base only given parts.1)
