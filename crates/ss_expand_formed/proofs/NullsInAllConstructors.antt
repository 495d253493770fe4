-- Each constructor of the elaboration of a source without faults keeps nulls out, where its statements fit.
use Rattle.std.proofs.Common.{◌≡◌, ℕ, zero, suc, ◌+◌, ◌*◌, List, [], ◌∷◌, ◌++◌, length, true, false, Some, None, refl, sym, ◌∙◌, ap, subst, arith, ⊎_elim}
use Rattle.std.specs.Prelude.{slice_get}
use Rattle.std.proofs.lemmas.Bool.{cases_Bool, false≢true}
use Rattle.std.proofs.lemmas.Option.{same_Some}
use Rattle.ss_core.specs.declared.names.Place.{Place}
use Rattle.ss_core.specs.Tree as core
use Rattle.ss_core.specs.Chain.{declared}
use Rattle.ss_core.specs.Kinds.{class_number}
use Rattle.ss_ast.specs.Programs.{ClassTree, ProgramTree}
use Rattle.ss_typed.specs.Tree.{StmtTree, SimpleOf, StmtTrees, NoMore, Before, MembersTree, BodyTree, TypedTree}
use Rattle.ss_paths.specs.Fields.{own_fields, is_among, field_numbers}
use Rattle.ss_paths.specs.Assigned.{assigned_first}
use Rattle.ss_paths.specs.Paths.{faults_in}
use Rattle.ss_nonnull_rules.specs.NonNull as source
use Rattle.ss_nonnull_rules.specs.Faults.{null_check}
use Rattle.ss_nonnull_rules.specs.Overrides.{override_faults}
use Rattle.ss_nonnull_rules.specs.Program as nulls
use Rattle.ss_nonnull_rules.specs.Program.{null_context_of, only_fields, base_faults, null_faults}
use Rattle.ss_delayed_rules.specs.Opening.{opening}
use Rattle.ss_delayed_rules.specs.Program as delayed
use Rattle.ss_delayed_rules.specs.Program.{construction_faults}
use Rattle.ss_resolver_names_rules.specs.Programs.{program_faults}
use Rattle.ss_resolver_types_expressions.specs.Programs.{type_faults}
use Rattle.ss_resolver_rules.specs.Programs.{members, resolved}
use Rattle.ss_typed.specs.Lookups.{body_at}
use Rattle.ss_expand_rules.specs.Contracts.{first_param}
use Rattle.ss_expand_rules.specs.Constructors.{before_all, initializers, implicit_constructor}
use Rattle.ss_expand_rules.specs.Bodies.{statements, written_body}
use Rattle.ss_store_rules.specs.NonNull.{keeps_nulls_out}
use Rattle.ss_expand_formed.specs.Laws.{core_of}
use Rattle.ss_expand_formed.proofs.Facts.{none_left}
use Rattle.ss_expand_formed.proofs.Places.{each_at, source_of}
use Rattle.ss_expand_formed.proofs.ConstructionStatements.{Along}
use Rattle.ss_expand_formed.proofs.ReadLocals.{Other, OtherSimple}
use Rattle.ss_expand_formed.proofs.Sources.{of_each}
use Rattle.ss_expand_formed.proofs.Delayed.{ready_below_object}
use Rattle.ss_expand_formed.proofs.Keeping.{along_before, body_none}
use Rattle.ss_expand_formed.proofs.OwnFields.{OnlyOwn}
use Rattle.ss_expand_formed.proofs.Builds.{BuildsNothing, Builds, all_built}
use Rattle.ss_expand_formed.proofs.Environments.{context_of}
use Rattle.ss_expand_formed.proofs.Fits.{FitAll}
use Rattle.ss_expand_formed.specs.Fitting.{all_fitting}
use Rattle.ss_expand_formed.specs.Bodies.{body_frame, method_frame}
use Rattle.ss_expand_formed.proofs.NullsFound as found
use Rattle.ss_expand_formed.proofs.Seams.{fitting_parts, fitting_both}
use Rattle.ss_expand_formed.proofs.Initial.{initial_of, initial_fit}
use Rattle.ss_expand_formed.proofs.NullsReading.{stmts_again}
use Rattle.ss_expand_formed.proofs.NullsInConstructors.{parts_of, IsConstructor, late_keeps, early_keeps}
use Rattle.ss_expand_formed.proofs.NullsOwned.{owned, builds_owned, own_among, own_owned, owns}
use Rattle.ss_expand_formed.proofs.ThisInConstructors.{initial_others, NamesOthers, UsesFields, uses_fields, WritesFirst, writes_first, front_fine, given_fine, behind_fields, others_after, fields_behind, names_others, initializers_initial}

-- ---- lists of statements

own_after : (p : TypedTree) (t : ℕ) (xs ys : StmtTrees) → OnlyOwn p t (before_all xs ys) → OnlyOwn p t ys
own_after p t NoMore ys h = h
own_after p t (Before (SimpleOf x) xs) ys h = own_after p t xs ys h.1
own_after p t (Before x xs) ys h = absurd h

-- ---- a constructor of the source

pub record OfClass (p : ProgramTree) (b : BodyTree) : Type 0 where
  pub place : ℕ
  pub tree : ClassTree
  pub there : slice_get p.classes place ≡ Some tree
  pub class : b.class ≡ 4 + 2 * place
  pub static : b.flags.is_static ≡ false
  pub result : b.result ≡ None

pub of_class : (p : ProgramTree) (n : ℕ) (b : BodyTree) → body_at (resolved p) n ≡ Some b → b.flags.ctor ≡ true → OfClass p b
of_class p = of_each p (λ b. b.flags.ctor ≡ true → OfClass p b)
    (λ k c at n d e ctor. record { place = k; tree = c; there = at; class = refl; static = refl; result = refl })
    (λ k c at n m e ctor. absurd (false≢true ctor))

class_pure : (q : TypedTree) (j : ℕ) (cs : List MembersTree) (i : ℕ) (m : MembersTree) → nulls.classes_faults q j cs ≡ [] → slice_get cs i ≡ Some m → nulls.initializers_from q (class_number (j + i)) 0 m.fields (own_fields q (class_number (j + i))) ≡ []
class_pure q j [] i m h e = absurd (let z : ⊥ = cc in z)
class_pure q j (x ∷ cs) zero m h e =
    let here : j + 0 ≡ j = omega arith in
    rw here (ap (λ (y : MembersTree). nulls.initializers_from q (class_number j) 0 y.fields (own_fields q (class_number j))) (sym (same_Some _ _ e)) ∙ (none_left (nulls.initializers_from q (class_number j) 0 x.fields (own_fields q (class_number j))) (nulls.classes_faults q (j + 1) cs) h).0)
class_pure q j (x ∷ cs) (suc i) m h e =
    let next : j + suc i ≡ j + 1 + i = omega arith in
    rw next (class_pure q (j + 1) cs i m (none_left (nulls.initializers_from q (class_number j) 0 x.fields (own_fields q (class_number j))) (nulls.classes_faults q (j + 1) cs) h).1 e)

module _ (p : ProgramTree) (faultless : program_faults p ≡ []) (types : type_faults p ≡ []) where
  abbrev q : TypedTree
  q = resolved p

  abbrev cs : List core.ClassTree
  cs = (core_of p).classes

  -- what the phase of types gives of the statements of a constructor, and what names mean in its elaboration
  abbrev pub Fit : BodyTree → Type 0
  Fit b = FitAll q cs (context_of b) b.flags.ctor (first_param b + length b.params) (statements q b)

  abbrev pub Fitting : BodyTree → List BodyTree → Type 0
  Fitting b bs = all_fitting (method_frame (core_of p) q b bs) (statements q b) ≡ true

  fit_parts : (b : BodyTree) (xs ys : StmtTrees) → FitAll q cs (context_of b) b.flags.ctor (first_param b + length b.params) (before_all xs ys) → FitAll q cs (context_of b) b.flags.ctor (first_param b + length b.params) ys
  fit_parts b NoMore ys h = h
  fit_parts b (Before x xs) ys h = fit_parts b xs ys h.1

  module _ (pure_classes : nulls.classes_faults q 0 q.members ≡ []) (pure_bodies : nulls.bodies_faults q q.bodies ≡ []) (construction : delayed.classes_faults q 0 q.members ≡ []) (constructors : delayed.bodies_faults q q.bodies ≡ []) where
    begins_pure : (k : ℕ) (c : ClassTree) → slice_get p.classes k ≡ Some c → nulls.initializers_from q (4 + 2 * k) 0 (members p.classes k c).fields (own_fields q (4 + 2 * k)) ≡ []
    begins_pure k c at =
        let z : 0 + k ≡ k = omega arith in
        let there : slice_get q.members k ≡ Some (members p.classes k c) = each_at (members p.classes) 0 p.classes k c at ∙ ap (λ i. Some (members p.classes i c)) z in
        subst (λ i. nulls.initializers_from q (4 + 2 * i) 0 (members p.classes k c).fields (own_fields q (4 + 2 * i)) ≡ []) z (class_pure q 0 q.members k (members p.classes k c) pure_classes there)

    is_constructor : (n : ℕ) (b : BodyTree) → body_at q n ≡ Some b → b.flags.ctor ≡ true → (o : OfClass p b) → IsConstructor p o.place o.tree b
    is_constructor n b at ctor o =
        let block = faults_in (source.known_flow (null_context_of q b)) (null_check (null_context_of q b)) b.block (only_fields (assigned_first q b)) in
        let both = none_left (override_faults q b ++ base_faults q b b.base) block (found.body_at q q.bodies n b pure_bodies at) in
        record {
          there = o.there;
          class = o.class;
          ctor = ctor;
          static = o.static;
          result = o.result;
          begins = begins_pure o.place o.tree o.there;
          base = (none_left (override_faults q b) (base_faults q b b.base) both.0).1;
          block = both.1;
        }

    -- ---- a delayed constructor

    late_keeps_nulls_out : (k : ℕ) (tree : ClassTree) (b : BodyTree) (bs : List BodyTree) → IsConstructor p k tree b → b.flags.delayed ≡ true → NamesOthers b → UsesFields b → Fit b → Fitting b bs → keeps_nulls_out (core_of p) (written_body q b bs) ≡ true
    late_keeps_nulls_out k tree b bs is late others uses fit fitting =
        let own = owned p faultless k tree is.there b is.class is.static bs in
        let parted = parts_of q b is.ctor is.result in
        let z = body_frame (core_of p) q b bs own false in
        let rest = behind_fields q b in
        let parts = fitting_parts (method_frame (core_of p) q b bs) (initializers q b.class) rest (subst (λ xs. all_fitting (method_frame (core_of p) q b bs) xs ≡ true) parted fitting) in
        let mine = fit_parts b (initializers q b.class) rest (subst (FitAll q cs (context_of b) b.flags.ctor (first_param b + length b.params)) parted fit) in
        let first = initializers_initial p construction k tree is.there b.class is.class own (own_owned p faultless k tree is.there b is.class is.static bs) in
        let one : all_fitting z (initializers q b.class) ≡ true = initial_fit (core_of p) q b bs own is.static cs (context_of b) (initializers q b.class) first parts.0 in
        let two : all_fitting z rest ≡ true = stmts_again (core_of p) q b bs own is.static cs (context_of b) b.flags.ctor (first_param b + length b.params) (owns p faultless k tree is.there b is.class is.static bs) rest (fields_behind q b late uses) (others_after q b others) mine parts.1 in
        late_keeps (core_of p) p k tree b is bs late own (builds_owned p faultless k tree is.there b is.class is.static bs) (subst (λ xs. all_fitting z xs ≡ true) (sym parted) (fitting_both z (initializers q b.class) rest one two))

    -- ---- one that isn't delayed

    early_keeps_nulls_out : (n k : ℕ) (tree : ClassTree) (b : BodyTree) (bs : List BodyTree) → body_at q n ≡ Some b → IsConstructor p k tree b → b.flags.delayed ≡ false → NamesOthers b → WritesFirst q b → Fitting b bs → keeps_nulls_out (core_of p) (written_body q b bs) ≡ true
    early_keeps_nulls_out n k tree b bs at is early others writes fitting =
        let own = λ (f : ℕ). is_among (field_numbers q b.class) f in
        let mine = own_among p faultless k tree is.there b is.class is.static bs in
        let first = initializers_initial p construction k tree is.there b.class is.class own mine in
        let whole : OnlyOwn q b.class (before_all (initializers q b.class) (opening q b)) = ⊎_elim (λ (r : BuildsNothing b). absurd (false≢true (sym r.ctor ∙ is.ctor))) (λ (r : Builds q b). subst (OnlyOwn q b.class) (r.begins.as_early early) r.begins.own) (all_built p types n b at) in
        let front = initial_of q b.class own mine (opening q b) (own_after q b.class (initializers q b.class) (opening q b) whole) (front_fine q b others writes) in
        early_keeps (core_of p) p k tree b is bs early (ready_below_object p) fitting first front (given_fine q b others writes)

    -- ---- each of them

    pub written_keeps_nulls_out : (n : ℕ) (b : BodyTree) (bs : List BodyTree) → body_at q n ≡ Some b → b.flags.ctor ≡ true → Fit b → Fitting b bs → keeps_nulls_out (core_of p) (written_body q b bs) ≡ true
    written_keeps_nulls_out n b bs at ctor fit fitting =
        let o = of_class p n b at ctor in
        let is = is_constructor n b at ctor o in
        ⊎_elim
        (λ late. late_keeps_nulls_out o.place o.tree b bs is late (names_others p n b at ctor) (uses_fields q b (body_none q q.bodies n b constructors at) ctor late) fit fitting)
        (λ early. early_keeps_nulls_out n o.place o.tree b bs at is early (names_others p n b at ctor) (writes_first q b (body_none q q.bodies n b constructors at) ctor early) fitting)
        (cases_Bool b.flags.delayed)

    pub implicit_keeps_nulls_out : (t : ℕ) (x : core.ClassTree) (w : Place) (bs : List BodyTree) → declared q.classes t ≡ Some x → Fit (implicit_constructor t x.name w) → Fitting (implicit_constructor t x.name w) bs → keeps_nulls_out (core_of p) (written_body q (implicit_constructor t x.name w) bs) ≡ true
    implicit_keeps_nulls_out t x w bs there fit fitting =
        let b = implicit_constructor t x.name w in
        let s = source_of p t x there in
        let is : IsConstructor p s.place s.tree b = record {
          there = s.there;
          class = s.number;
          ctor = refl;
          static = refl;
          result = refl;
          begins = begins_pure s.place s.tree s.there;
          base = refl;
          block = refl;
        } in
        late_keeps_nulls_out s.place s.tree b bs is refl (record { given = refl; block = tt }) (record { given = refl; block = refl }) fit fitting

  -- the statements of a constructor name no local that is `this`
  pub statements_others : (k : ℕ) (c : ClassTree) → slice_get p.classes k ≡ Some c → delayed.classes_faults q 0 q.members ≡ [] → (b : BodyTree) → b.class ≡ 4 + 2 * k → b.flags.ctor ≡ true → b.result ≡ None → NamesOthers b → Along OtherSimple Other (statements q b)
  statements_others k c at construction b class ctor none others =
      let first = initial_others (λ f. true) (initializers q b.class) (initializers_initial p construction k c at b.class class (λ f. true) (λ f h. refl)) in
      let all = along_before OtherSimple Other (initializers q b.class) (behind_fields q b) first (others_after q b others) in
      subst (Along OtherSimple Other) (sym (parts_of q b ctor none)) all
