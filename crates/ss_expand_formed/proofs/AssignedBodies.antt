-- Elaborated bodies read what is assigned, where the resolved ones read what is in scope.
use Rattle.std.proofs.Common.{◌≡◌, ℕ, zero, suc, ◌+◌, ◌≤◌, ◌<◌, List, [], ◌∷◌, ◌++◌, length, Bool, true, false, Option, Some, None, refl, ◌∙◌, ap, arith, ⊎_elim}
use Rattle.std.specs.Prelude.{◌&&◌, ◌||◌, not, nat_le, nat_lt, slice_get, unwrap_or, option_to_list, if◌then◌else◌}
use Rattle.std.specs.List.{list_all}
use Rattle.std.proofs.lemmas.Bool.{and_parts, and_from, or_left, cases_Bool, le-leb, lt-ltb, leb-true, ltb-true, false≢true}
use Rattle.std.proofs.lemmas.List.{length-map, length-append}
use Rattle.std.proofs.lemmas.List.Folds.{list_all-append}
use Rattle.std.proofs.lemmas.Option.{slice_get_past}
use Rattle.ss_core.specs.declared.names.Place.{Place}
use Rattle.ss_core.specs.declared.names.Ty.{Ty}
use Rattle.ss_core.specs.declared.names.Ty.TheVariants as ty
use Rattle.ss_core.specs.Tree as core
use Rattle.ss_core.specs.Tree.{LocalExpr, AssignStmt, CallStmt, UnpackStmt, PackStmt, ReturnStmt, Base}
use Rattle.ss_core.specs.Chain.{DeclaredField}
use Rattle.ss_typed.specs.Tree.{ExprTree, BlockTree, BlockOf, StmtTree, StmtTrees, Before, ParamTree, BaseTree, MembersTree, BodyTree, TypedTree, ReturnOf}
use Rattle.ss_typed.specs.Tree as typed
use Rattle.ss_expand_rules.specs.Program.{field_at, above_of, number_in_table}
use Rattle.ss_typed.specs.Lookups.{members_of}
use Rattle.ss_typed.proofs.ByClass.{of_members}
use Rattle.ss_expand_rules.specs.Numbers.{number}
use Rattle.ss_expand_rules.specs.Contracts.{first_param}
use Rattle.ss_expand_rules.specs.Lifting.{Pure, Called}
use Rattle.ss_paths.specs.Opening.{is_first}
use Rattle.ss_expand_rules.specs.Constructors.{before_all, initialize, initializers_from, initializers_in, after_initial, base_alone, with_base, constructor_stmts}
use Rattle.ss_typed.specs.Shapes.{closing_brace, in_block, has_base}
use Rattle.ss_expand_rules.specs.Bodies.{block_assigns, this_meant, meant_from, first_copy, meant, numbers, copying_from, copying, with_return, statements, elaboration_context, code_with, temporary_count, written_body, own_params, wrapper_result, returned, first_of_wrapper, wrapper_body, param_of}
use Rattle.ss_store_rules.specs.Locals.{this_types, types_of, local_types, argument_count, is_argument}
use Rattle.ss_store_rules.specs.Assigned.{reads_what_is_assigned}
use Rattle.ss_expand_formed.proofs.Facts.{all_at}
use Rattle.ss_expand_formed.proofs.Choosing.{on_either}
use Rattle.ss_expand_formed.proofs.LocalsBodies.{first, count_all}
use Rattle.ss_expand_formed.proofs.Flows.{Known, More, same, further, ReadsAll, all_reads_more, Flows, weaken, join, empty, more_step, Puts, puts, unpack, pack, returns}
use Rattle.ss_expand_formed.proofs.AssignedReading.{May, read_all, may_read, all_read, block_reads, behind, stmt_reads, Wider, reads_wider}
use Rattle.ss_expand_formed.proofs.Walk.{Fits, Knows, stmts_read}

-- ---- the statements of a body

-- what the value that a field begins with may read
abbrev pub in_class : May
in_class = record { this = true; result = false; locals = λ x. false }

abbrev pub base_read : May → Option BaseTree → Bool
base_read m None = true
base_read m (Some base) = read_all m base.arguments

abbrev pub members_read : MembersTree → Bool
members_read c = list_all (λ (f : typed.FieldTree). may_read in_class f.initial) c.fields

in_class_wider : (m : May) → m.this ≡ true → Wider in_class m
in_class_wider m h = record { this = λ i. h; result = λ i. absurd (false≢true i); locals = λ x i. absurd (false≢true i) }

module _ (own : ℕ → Bool) where
  return_read : (m : May) (q : Place) (ss : StmtTrees) → all_read own m ss ≡ true → all_read own m (before_all ss (Before (ReturnOf q None) typed.NoMore)) ≡ true
  return_read m q typed.NoMore h = refl
  return_read m q (Before s ss) h = let both = and_parts (stmt_reads own m s) (all_read own (behind m s) ss) h in and_from _ _ both.0 (return_read (behind m s) q ss both.1)

  with_return_read : (m : May) (b : BodyTree) (r : Option Ty) (ss : StmtTrees) → all_read own m ss ≡ true → all_read own m (with_return b r ss) ≡ true
  with_return_read m b None ss h = return_read m (closing_brace b.block) ss h
  with_return_read m b (Some t) ss h = h

  in_block_read : (m : May) (b : BlockTree) → block_reads own m b ≡ true → all_read own m (in_block b) ≡ true
  in_block_read m (BlockOf q ss end) h = h

  module _ (p : TypedTree) where
    after_read : (m : May) (t : ℕ) (b : BodyTree) (ss : StmtTrees) → all_read own m ss ≡ true → all_read own m (after_initial p t (base_alone b) ss) ≡ true
    after_read m t b typed.NoMore h = refl
    after_read m t b (Before x xs) h =
        let both = and_parts (stmt_reads own m x) (all_read own (behind m x) xs) h in
        on_either (λ (z : StmtTrees). all_read own m z ≡ true) (is_first p t x) (Before x (after_initial p t (base_alone b) xs)) (Before (base_alone b) (Before x xs)) (and_from _ _ both.0 (after_read (behind m x) t b xs both.1)) h

    with_base_read : (m : May) (b : BodyTree) (base : Option BaseTree) → base_read m base ≡ true → (ss : StmtTrees) → all_read own m ss ≡ true → all_read own m (with_base p b base ss) ≡ true
    with_base_read m b (Some base) g ss h = and_from _ _ g h
    with_base_read m b None g ss h =
        on_either (λ (z : StmtTrees). all_read own m z ≡ true) (has_base ss) ss (if b.flags.delayed then Before (base_alone b) ss else after_initial p b.class (base_alone b) ss) h
        (on_either (λ (z : StmtTrees). all_read own m z ≡ true) b.flags.delayed (Before (base_alone b) ss) (after_initial p b.class (base_alone b) ss) h (after_read m b.class b ss h))

    abbrev may_members : Option MembersTree → Bool
    may_members None = true
    may_members (Some c) = members_read c

    members_found : (cs : List MembersTree) (i : ℕ) → list_all members_read cs ≡ true → may_members (slice_get cs i) ≡ true
    members_found [] zero h = refl
    members_found [] (suc i) h = refl
    members_found (c ∷ cs) zero h = (and_parts (members_read c) (list_all members_read cs) h).0
    members_found (c ∷ cs) (suc i) h = members_found cs i (and_parts (members_read c) (list_all members_read cs) h).1

    module _ (m : May) (this : m.this ≡ true) (more : StmtTrees) (after_them : all_read own m more ≡ true) where
      one_read : (t n : ℕ) (f : typed.FieldTree) (e : Option ExprTree) → may_read in_class e ≡ true → (d : Option DeclaredField) (rest : StmtTrees) → all_read own m (before_all rest more) ≡ true → all_read own m (before_all (initialize t n f e d rest) more) ≡ true
      one_read t n f None g d rest h = h
      one_read t n f (Some e) g None rest h = h
      one_read t n f (Some e) g (Some d) rest h = and_from _ _ (and_from _ _ this (reads_wider in_class m (in_class_wider m this) e g)) h

      fields_read : (t n : ℕ) (fs : List typed.FieldTree) → list_all (λ (f : typed.FieldTree). may_read in_class f.initial) fs ≡ true → all_read own m (before_all (initializers_from p t n fs) more) ≡ true
      fields_read t n [] h = after_them
      fields_read t n (f ∷ fs) h =
          let both = and_parts (may_read in_class f.initial) (list_all (λ (z : typed.FieldTree). may_read in_class z.initial) fs) h in
          one_read t n f f.initial both.0 (field_at p n) (initializers_from p t (n + 1) fs) (fields_read t (n + 1) fs both.1)

      initial_read : (t : ℕ) (c : Option MembersTree) → may_members c ≡ true → all_read own m (before_all (initializers_in p t c) more) ≡ true
      initial_read t None h = after_them
      initial_read t (Some c) h = fields_read t _ c.fields h

    statements_read : (m : May) (b : BodyTree) → list_all members_read p.members ≡ true → (b.flags.ctor ≡ true → m.this ≡ true) → base_read m b.base ≡ true → block_reads own m b.block ≡ true → all_read own m (statements p b) ≡ true
    statements_read m b ms this base h =
        let inner = in_block_read m b.block h in
        let by = λ (c : Bool) (i : c ≡ true → m.this ≡ true). ctor_read c i inner in
        with_return_read m b b.result (if b.flags.ctor then constructor_stmts p b else in_block b.block) (by b.flags.ctor this)
      where
        ctor_read : (c : Bool) → (c ≡ true → m.this ≡ true) → all_read own m (in_block b.block) ≡ true → all_read own m (if c then constructor_stmts p b else in_block b.block) ≡ true
        ctor_read true i inner =
            let ss = with_base p b b.base (in_block b.block) in
            let last = with_base_read m b b.base base (in_block b.block) inner in
            initial_read m (i refl) ss last b.class (members_of p b.class) (of_members (λ (z : Option MembersTree). may_members z ≡ true) refl p b.class (λ j. members_found p.members j ms))
        ctor_read false i inner = inner

-- ---- numbers

abbrev pub arguments : BodyTree → ℕ
arguments b = first_param b + length b.params

this_count : BodyTree → ℕ
this_count b = if b.flags.is_static then 0 else 1

this_length : (static : Bool) (t : Ty) → length (if static then [] else t ∷ []) ≡ (if static then 0 else 1)
this_length true t = refl
this_length false t = refl

-- the arguments of an elaborated body are `this`, where it has one, and its parameters
pub count_of : (y : core.BodyTree) → argument_count y ≡ (if y.flags.is_static then 0 else 1) + length y.params
count_of y =
    length-append (this_types y) (types_of y.params)
    ∙ ap (λ n. n + length (types_of y.params)) (this_length y.flags.is_static (ty.Ref (record { 0 = y.class }) true))
    ∙ ap (λ n. (if y.flags.is_static then 0 else 1) + n) (length-map y.params (λ (l : core.LocalTree). l.ty))

count_arguments : (p : TypedTree) (b : BodyTree) (bs : List BodyTree) → argument_count (written_body p b bs) ≡ arguments b
count_arguments p b bs = count_of (written_body p b bs) ∙ ap (λ n. first_param b + n) (length-map b.params param_of)

module _ (block : BlockTree) where
  meant_length : (copy x : ℕ) (qs : List ParamTree) → length (meant_from block copy x qs) ≡ length qs
  meant_length copy x [] = refl
  meant_length copy x (q ∷ qs) =
      ⊎_elim
      (λ yes. rw yes (ap suc (meant_length (copy + 1) (x + 1) qs)))
      (λ no. rw no (ap suc (meant_length copy (x + 1) qs)))
      (cases_Bool (block_assigns x block))

all_meant : (b : BodyTree) → length (meant b) ≡ arguments b
all_meant b = by b.flags.is_static
  where
    by : (static : Bool) → length ((if static then [] else 0 ∷ []) ++ meant_from b.block (first_copy b) (first_param b) b.params) ≡ (if static then 0 else 1) + length b.params
    by true = let n = meant_length b.block (first_copy b) (first_param b) b.params in omega arith
    by false = let n = meant_length b.block (first_copy b) (first_param b) b.params in omega arith

-- ---- copies

-- each of the parameters is meant by a local that is assigned
record Copied (k : Known) (ms : List ℕ) (l : Known) : Type 0 where
  more : More k l
  meant : list_all l ms ≡ true

module _ (y : core.BodyTree) (block : BlockTree) where
  copies_by : (copy x : ℕ) (q : ParamTree) (qs : List ParamTree) (k : Known) → k x ≡ true →
      ((a : Known) → More k a → Flows y a (copying_from block (copy + 1) (x + 1) qs) (Copied a (meant_from block (copy + 1) (x + 1) qs))) → Flows y k (copying_from block copy (x + 1) qs) (Copied k (meant_from block copy (x + 1) qs)) →
      (b : Bool) → Flows y k (if b then AssignStmt q.place copy (LocalExpr q.place x) ∷ copying_from block (copy + 1) (x + 1) qs else copying_from block copy (x + 1) qs) (Copied k (if b then copy ∷ meant_from block (copy + 1) (x + 1) qs else x ∷ meant_from block copy (x + 1) qs))
  copies_by copy x q qs k here one other true =
      let ms = meant_from block (copy + 1) (x + 1) qs in
      let code = copying_from block (copy + 1) (x + 1) qs in
      join y k (Puts y k copy) (Copied k (copy ∷ ms)) (AssignStmt q.place copy (LocalExpr q.place x) ∷ []) code (puts y k q.place copy (Pure (LocalExpr q.place x)) (and_from _ _ (or_left _ _ here) refl))
      (λ a i. weaken y a (Copied a ms) (Copied k (copy ∷ ms)) code (λ c j. record { more = further k a c i.more j.more; meant = and_from _ _ (j.more copy i.has) j.meant }) (one a i.more))
  copies_by copy x q qs k here one other false =
      let ms = meant_from block copy (x + 1) qs in
      weaken y k (Copied k ms) (Copied k (x ∷ ms)) (copying_from block copy (x + 1) qs) (λ c j. record { more = j.more; meant = and_from _ _ (j.more x here) j.meant }) other

  copies_flow : (copy x : ℕ) (qs : List ParamTree) (k : Known) → ((z : ℕ) → x ≤ z → z < x + length qs → k z ≡ true) → Flows y k (copying_from block copy x qs) (Copied k (meant_from block copy x qs))
  copies_flow copy x [] k h = empty y k (Copied k []) (record { more = same k; meant = refl })
  copies_flow copy x (q ∷ qs) k h =
      let later : (l : Known) → More k l → (z : ℕ) → x + 1 ≤ z → z < x + 1 + length qs → l z ≡ true = λ l more z low high. more z (h z (omega arith) (omega arith)) in
      copies_by copy x q qs k (h x (omega arith) (omega arith)) (λ a more. copies_flow (copy + 1) (x + 1) qs a (later a more)) (copies_flow copy (x + 1) qs k (later k (same k))) (block_assigns x block)

-- ---- written bodies

-- what the code of a body may read: its arguments
abbrev pub may_of : BodyTree → May
may_of b = record { this = not b.flags.is_static; result = false; locals = λ x. nat_lt x (arguments b) }

-- a local that it declares stands after its arguments
abbrev pub own_of : BodyTree → ℕ → Bool
own_of b x = nat_le (arguments b) x

abbrev pub is_read : BodyTree → Bool
is_read b = (not b.flags.ctor || not b.flags.is_static) && (base_read (may_of b) b.base && block_reads (own_of b) (may_of b) b.block)

has_this : (ctor static : Bool) → (not ctor || not static) ≡ true → ctor ≡ true → not static ≡ true
has_this true static h i = h
has_this false static h i = absurd (false≢true i)

module _ (p : TypedTree) (b : BodyTree) (bs : List BodyTree) where
  abbrev y : core.BodyTree
  y = written_body p b bs

  abbrev n : ℕ
  n = temporary_count p b

  keeps : (x : ℕ) → arguments b ≤ x → number (numbers b n) x ≡ x
  keeps x l = let size = all_meant b in ap (λ o. unwrap_or o x) (slice_get_past (meant b) x (omega arith))

  fits : Fits y (own_of b) (numbers b n)
  fits = record {
    temporaries = λ x l. let m : first b ≤ x = l in keeps x (omega arith);
    declared = λ x h. keeps x (leb-true (arguments b) x h);
    bound = λ i. let all = count_all p b bs in le-leb (length (local_types y)) ((numbers b n).first_bound + i) (omega arith);
  }

  argument : (z : ℕ) → z < arguments b → is_argument y z ≡ true
  argument z l = let count = count_arguments p b bs in lt-ltb z (argument_count y) (omega arith)

  module _ (l : Known) (copied : Copied (is_argument y) (meant_from b.block (first_copy b) (first_param b) b.params) l) where
    this_known : not b.flags.is_static ≡ true → l 0 ≡ true
    this_known h = copied.more 0 (argument 0 (by b.flags.is_static h))
      where
        by : (static : Bool) → not static ≡ true → 0 < (if static then 0 else 1) + length b.params
        by true h = absurd (false≢true h)
        by false h = omega arith

    meant_known : list_all l (meant b) ≡ true
    meant_known = list_all-append l (this_meant b) (meant_from b.block (first_copy b) (first_param b) b.params) ∙ rw (by b.flags.is_static this_known, copied.meant) refl
      where
        by : (static : Bool) → (not static ≡ true → l 0 ≡ true) → list_all l (if static then [] else 0 ∷ []) ≡ true
        by true h = refl
        by false h = and_from _ _ (h refl) refl

    found : (x : ℕ) → l x ≡ true → (o : Option ℕ) → slice_get (meant b) x ≡ o → l (unwrap_or o x) ≡ true
    found x h None e = h
    found x h (Some c) e = all_at l (meant b) x c meant_known e

    knows : (b.flags.ctor ≡ true → not b.flags.is_static ≡ true) → Knows y (own_of b) l (numbers b n) b.flags.ctor (may_of b) []
    knows built = record {
      this = this_known;
      built = λ h. this_known (built h);
      result = refl;
      locals = λ x h. found x (copied.more x (argument x (ltb-true x (arguments b) h))) (slice_get (meant b) x) refl;
      exposes = refl;
    }

  pub written_reads : list_all members_read p.members ≡ true → is_read b ≡ true → reads_what_is_assigned y ≡ true
  written_reads ms h =
      let both = and_parts (not b.flags.ctor || not b.flags.is_static) (base_read (may_of b) b.base && block_reads (own_of b) (may_of b) b.block) h in
      let rest = and_parts (base_read (may_of b) b.base) (block_reads (own_of b) (may_of b) b.block) both.1 in
      let built = has_this b.flags.ctor b.flags.is_static both.0 in
      let more = (code_with p b n).code in
      (join y (is_argument y) (Copied (is_argument y) (meant_from b.block (first_copy b) (first_param b) b.params)) (More (is_argument y)) (copying b) more
      (copies_flow y b.block (first_copy b) (first_param b) b.params (is_argument y) (λ z low high. argument z high))
      (λ l i.
      weaken y l (More l) (More (is_argument y)) more (λ c j. further (is_argument y) l c i.more j)
      (stmts_read y (own_of b) (elaboration_context p b n) fits (may_of b) (statements p b) (statements_read (own_of b) p (may_of b) b ms built rest.0 rest.1) [] l (knows l i built)))).checks

-- ---- wrappers

module _ (p : TypedTree) (q : Place) (t m : ℕ) (b : BodyTree) (bs : List BodyTree) where
  abbrev w : core.BodyTree
  w = wrapper_body p q t m b bs

  own_read : (i : ℕ) (qs : List ParamTree) (k : Known) → ((z : ℕ) → i ≤ z → z < i + length qs → k z ≡ true) → ReadsAll w k (own_params q i qs)
  own_read i [] k h = refl
  own_read i (x ∷ qs) k h = and_from _ _ (or_left _ _ (h i (omega arith) (omega arith))) (own_read (i + 1) qs k (λ z low high. h z (omega arith) (omega arith)))

  record Ended (k : Known) (r : Option ℕ) (l : Known) : Type 0 where
    more : More k l
    result : ReadsAll w l (option_to_list (returned q r))

  call_flow : (i : ℕ) (args : List core.ExprTree) (r : Option ℕ) (k : Known) → ReadsAll w k args → Flows w k (CallStmt q r (Base i) args ∷ []) (Ended k r)
  call_flow i args None k h = weaken w k (More k) (Ended k None) (CallStmt q None (Base i) args ∷ []) (λ l more. record { more = more; result = refl }) (more_step w k (CallStmt q None (Base i) args) refl h)
  call_flow i args (Some z) k h =
      weaken w k (Puts w k z) (Ended k (Some z)) (CallStmt q (Some z) (Base i) args ∷ []) (λ l g. record { more = g.more; result = and_from _ _ (or_left _ _ g.has) refl })
      (puts w k q z (Called q (Base i) args) h)

  pub wrapper_reads : reads_what_is_assigned w ≡ true
  wrapper_reads =
      let x = first_of_wrapper b in
      let i = number_in_table p (above_of p t) m in
      let args = own_params q 1 b.params in
      let r = wrapper_result b.result (x + 1) in
      let k = is_argument w in
      let count : argument_count w ≡ 1 + length b.params = count_of w ∙ ap (λ n. 1 + n) (length-map b.params param_of) in
      let argument : (z : ℕ) → z < 1 + length b.params → k z ≡ true = λ z l. lt-ltb z (argument_count w) (omega arith) in
      let call = CallStmt q r (Base i) args in
      let leave = ReturnStmt q (returned q r) in
      (join w k (Puts w k x) (More k) (AssignStmt q x (LocalExpr q 0) ∷ []) (UnpackStmt q x t ∷ call ∷ PackStmt q x t ∷ leave ∷ []) (puts w k q x (Pure (LocalExpr q 0)) (and_from _ _ (or_left _ _ (argument 0 (omega arith))) refl))
      (λ a g.
      join w a (More a) (More k) (UnpackStmt q x t ∷ []) (call ∷ PackStmt q x t ∷ leave ∷ []) (unpack w a q x t g.has)
      (λ c more.
      join w c (Ended c r) (More k) (call ∷ []) (PackStmt q x t ∷ leave ∷ []) (call_flow i args r c (own_read 1 b.params c (λ z low high. more z (g.more z (argument z high)))))
      (λ d e.
      join w d (More d) (More k) (PackStmt q x t ∷ []) (leave ∷ []) (pack w d q x t (e.more x (more x g.has)))
      (λ f j. returns w f (More k) q (returned q r) (all_reads_more w d f j (option_to_list (returned q r)) e.result)))))).checks
