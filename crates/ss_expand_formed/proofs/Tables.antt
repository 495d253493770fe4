-- At the place of each method of the class above, a table has the same body or one that stands for it.
use Rattle.std.proofs.Common.{◌≡◌, ◌≢◌, ℕ, suc, ◌+◌, ◌*◌, ◌<◌, List, [], ◌∷◌, ◌++◌, length, map, Bool, true, false, Option, Some, None, refl, sym, ◌∙◌, ap, subst, arith, ⊎_elim}
use Rattle.std.specs.Prelude.{not, ◌==◌, ◌&&◌, ◌||◌, slice_get, option_map, option_and_then, if◌then◌else◌}
use Rattle.std.specs.List.{list_all, list_any}
use Rattle.std.proofs.lemmas.Slice.Eq.{bytes_eq-Decides}
use Rattle.std.proofs.lemmas.Option.{same_Some, slice_get_within, slice_get-map}
use Rattle.std.proofs.lemmas.Bool.{and_parts, and_from, cases_Bool, or_left, or_right, eqb-true, eq-eqb, ne_eqb, false≢true}
use Rattle.std.proofs.lemmas.List.Folds.{list_any-append, list_all-append}
use Rattle.ss_core.specs.declared.names.Place.{Place}
use Rattle.ss_core.specs.Tree as core
use Rattle.ss_core.specs.Tree.{DefaultTree}
use Rattle.ss_core.specs.Chain as chain
use Rattle.ss_core.specs.Chain.{is_declared}
use Rattle.ss_ast.specs.Programs.{ClassTree, ProgramTree}
use Rattle.ss_tables.specs.Classes.{members_in, members_at, above}
use Rattle.ss_typed.specs.Tree.{ExprTree, IntOf, ParamTree, BodyTree}
use Rattle.ss_nonnull_rules.specs.Program.{null_faults}
use Rattle.ss_resolver_names_rules.specs.Programs.{program_faults}
use Rattle.ss_resolver_names_rules.specs.Faults.{is_listed}
use Rattle.ss_resolver_rules.specs.Numbers.{number_or_object, method_names, declared_entry, overridden, added, table}
use Rattle.ss_resolver_rules.specs.Programs.{method_body, resolved}
use Rattle.ss_expand_rules.specs.Program as program
use Rattle.ss_expand_rules.specs.Program.{method_at, table_of, Method, is_declared_by, is_wrapped, is_own, place_in, written, number_of, number_of_written, entry_number, entries_from}
use Rattle.ss_typed.specs.Lookups.{body_at, members_of}
use Rattle.ss_expand_rules.specs.Numbers.{Numbers, plain, all_plain}
use Rattle.ss_expand_rules.specs.Contracts.{first_param, where_asked, of_argument, of_param, of_params, default_entry, default_exit, conditions, entry_of_first, all_exits, declared_at as declares, declarations}
use Rattle.ss_expand_rules.specs.Bodies.{written_body, wrapper_body}
use Rattle.ss_expand_rules.specs.Elaborated.{wrapper_at, method_body as elaborated_method}
use Rattle.ss_store_rules.specs.Typed as store
use Rattle.ss_store_rules.specs.Tables.{StandsFor, is_level, is_at_level, is_shared, Shared, Overrides, Replaces, AreTables}
use Rattle.ss_expand_formed.specs.Laws.{core_of}
use Rattle.ss_expand_formed.specs.Tables.{HaveInherited}
use Rattle.ss_core.proofs.Declared.{declared_at}
use Rattle.ss_core.specs.Types.{is_class_type}
use Rattle.ss_expand_formed.proofs.Choosing.{all_more}
use Rattle.ss_expand_formed.proofs.Facts.{not_true}
use Rattle.ss_expand_formed.proofs.Searching.{place_found, any_at, at_front}
use Rattle.ss_expand_formed.proofs.Places.{members_at as members_there, class_at}
use Rattle.ss_expand_formed.proofs.Entries.{method_entry}
use Rattle.ss_expand_formed.proofs.Numbered.{OfMethod, numbered}
use Rattle.ss_expand_formed.proofs.Cycles.{above_within}
use Rattle.ss_expand_formed.proofs.ClassConstructors.{place_of_declared}
use Rattle.ss_expand_formed.proofs.ChainLaw.{written_at, there_at, size, up}
use Rattle.ss_expand_formed.proofs.TableNames.{have_table_names}
use Rattle.ss_expand_formed.proofs.TableOwn.{have_own_methods}
use Rattle.ss_expand_formed.proofs.TableMethods.{entries_from_is, have_table_methods}
use Rattle.ss_expand_formed.proofs.Levels.{declared_last, declarations_step}
use Rattle.ss_expand_formed.proofs.Apart.{table_apart}
use Rattle.ss_expand_formed.proofs.Readings.{contract_reads, after_params, method_reads}
use Rattle.ss_expand_formed.proofs.Normal.{HasContract}
use Rattle.ss_expand_formed.proofs.Headings.{SameHeading, same_heading}
use Rattle.ss_expand_formed.proofs.Contracts.{written_contract, wrapper_contract, this_entry, entry_is, reads_alike, stands_for}
use Rattle.ss_expand_formed.proofs.Inherited.{name_at, own_method, method_here, AreLike, IsInherited, tree_at, table_of_below, inherited_at, overrides_at}

-- ---- bodies that serve the classes below too

plain_above : (ns : Numbers) (e : ExprTree) → is_at_level (plain ns e) ≡ false
plain_above ns (IntOf p n) = refl
plain_above ns e = refl

all_plain_above : (ns : Numbers) (es : List ExprTree) → list_any is_at_level (all_plain ns es) ≡ false
all_plain_above ns [] = refl
all_plain_above ns (e ∷ es) = rw (plain_above ns e) (all_plain_above ns es)

defaults_above : (p : Place) (ds : List DefaultTree) → list_any is_at_level (conditions p ds) ≡ list_any is_level ds
defaults_above p [] = refl
defaults_above p (d ∷ ds) = ap (λ b. is_level d || b) (defaults_above p ds)

or_none : (a b : Bool) → a ≡ false → b ≡ false → (a || b) ≡ false
or_none true b h g = h
or_none false b h g = g

asked_above : (asked : Bool) (d : DefaultTree) → is_level d ≡ false → list_any is_level (where_asked asked d) ≡ false
asked_above true d h = or_none (is_level d) false h refl
asked_above false d h = refl

argument_above : (b : BodyTree) (x : ℕ) → is_level (of_argument b x) ≡ false
argument_above b x =
    ⊎_elim
    (λ yes. rw yes refl)
    (λ no. rw no refl)
    (cases_Bool b.flags.pure)

params_above : (b : BodyTree) (x : ℕ) (qs : List ParamTree) → list_any is_level (of_params b x qs) ≡ false
params_above b x [] = refl
params_above b x (q ∷ qs) =
    let one = asked_above (is_class_type q.ty && not b.flags.no_default_contract) (of_argument b x) (argument_above b x) in
    let two = asked_above q.captured (core.Captured x (not b.flags.is_static)) refl in
    list_any-append is_level (of_param b x q) (of_params b (x + 1) qs)
    ∙ or_none _ _ (list_any-append is_level (where_asked (is_class_type q.ty && not b.flags.no_default_contract) (of_argument b x)) (where_asked q.captured (core.Captured x (not b.flags.is_static))) ∙ or_none _ _ one two) (params_above b (x + 1) qs)

-- a method without a wrapper, that isn't static, is pure or has no default contract
this_above : (undefaulted static pure : Bool) (t : ℕ) → (not static && not pure && not undefaulted) ≡ false → list_any is_level (this_entry undefaulted static pure t) ≡ false
this_above true static pure t h = refl
this_above false true pure t h = refl
this_above false false true t h = refl
this_above false false false t h = absurd (false≢true (sym h))

exit_above : (undefaulted pure static : Bool) (t : ℕ) → (not static && not pure && not undefaulted) ≡ false → list_any is_level (if undefaulted || pure || static then [] else core.AtLevel t ∷ []) ≡ false
exit_above true pure static t h = refl
exit_above false true static t h = refl
exit_above false false true t h = refl
exit_above false false false t h = absurd (false≢true (sym h))

serves_below : (y : core.BodyTree) (b : BodyTree) (t : ℕ) (bs : List BodyTree) → HasContract y b t bs → b.flags.ctor ≡ false → is_wrapped (Some b) ≡ false → is_shared y ≡ true
serves_below y b t bs is method plain_one =
    let es = all_plain is.numbers (entry_of_first bs) in
    let xs = all_plain is.numbers (all_exits bs) in
    let at_entry : list_any is_at_level y.entry ≡ false =
    ap (list_any is_at_level) is.entry ∙ list_any-append is_at_level (conditions is.place (default_entry b t)) es
    ∙ or_none _ _ (defaults_above is.place (default_entry b t) ∙ ap (list_any is_level) (entry_is b t method) ∙ list_any-append is_level (this_entry b.flags.no_default_contract b.flags.is_static b.flags.pure t) (of_params b (first_param b) b.params)
    ∙ or_none _ _ (this_above b.flags.no_default_contract b.flags.is_static b.flags.pure t plain_one) (params_above b (first_param b) b.params)) (all_plain_above is.numbers (entry_of_first bs)) in
    let at_exit : list_any is_at_level y.exit ≡ false =
    ap (list_any is_at_level) is.exit ∙ list_any-append is_at_level (conditions is.place (default_exit b t)) xs
    ∙ or_none _ _ (defaults_above is.place (default_exit b t) ∙ exit_above b.flags.no_default_contract b.flags.pure b.flags.is_static t plain_one) (all_plain_above is.numbers (all_exits bs)) in
    rw (at_entry, at_exit) refl

-- ---- bodies of entries

-- what an entry of the table of class k names in the elaboration
record NamesBody (p : ProgramTree) (k m : ℕ) (e : core.EntryTree) (b : BodyTree) (bs : List BodyTree) : Type 0 where
  body : core.BodyTree
  there : store.body_at (core_of p) (entry_number (resolved p) (4 + 2 * k) m e.body) ≡ Some body
  for_class : ℕ
  contract : HasContract body b for_class bs
  own : is_own (4 + 2 * k) (Some b) ≡ true → body.class ≡ 4 + 2 * k

module _ (p : ProgramTree) (faultless : program_faults p ≡ []) where
  in_program : (k : ℕ) (c : ClassTree) → slice_get p.classes k ≡ Some c → program.table (resolved p) (4 + 2 * k) ≡ table p.classes k
  in_program k c at = ap table_of (class_at p k c at)

  -- entries that name one body have one name
  one_name : (k : ℕ) (c : ClassTree) → slice_get p.classes k ≡ Some c → (i j : ℕ) (x y : core.EntryTree) → slice_get (table p.classes k) i ≡ Some x → slice_get (table p.classes k) j ≡ Some y → x.body ≡ y.body → x.name ≡ y.name
  one_name k c at i j x y ex ey same =
      let one = method_entry p (4 + 2 * k) i x (ap (λ es. slice_get es i) (in_program k c at) ∙ ex) in
      let two = method_entry p (4 + 2 * k) j y (ap (λ es. slice_get es j) (in_program k c at) ∙ ey) in
      let bodies : method_body p.classes one.class one.method ≡ method_body p.classes two.class two.method = same_Some _ _ (sym one.is ∙ ap (body_at (resolved p)) same ∙ two.is) in
      (bytes_eq-Decides x.name one.method.name.text).0 one.named ∙ ap (λ (b : BodyTree). b.name) bodies ∙ sym ((bytes_eq-Decides y.name two.method.name.text).0 two.named)

  -- so a body stands at one place of a table
  place_is : (k : ℕ) (c : ClassTree) → slice_get p.classes k ≡ Some c → (m : ℕ) (e : core.EntryTree) → slice_get (table p.classes k) m ≡ Some e → place_in e.body (table p.classes k) ≡ m
  place_is k c at m e h =
      let f = place_found (λ (x : core.EntryTree). x.body == e.body) (table p.classes k) (any_at (λ (x : core.EntryTree). x.body == e.body) (table p.classes k) m e h (eq-eqb e.body e.body refl)) in
      let q = place_in e.body (table p.classes k) in
      let name = one_name k c at q m f.it e f.there h (eqb-true f.it.body e.body f.passes) in
      (table_apart p faultless k).apart q m e.name (name_at (table p.classes k) q f.it f.there ∙ ap Some name) (name_at (table p.classes k) m e h)

  -- the body of a method that the class declares
  declared_there : (k : ℕ) (c : ClassTree) → slice_get p.classes k ≡ Some c → (m : ℕ) (e : core.EntryTree) → slice_get (table p.classes k) m ≡ Some e → (b : BodyTree) → body_at (resolved p) e.body ≡ Some b → b.class ≡ 4 + 2 * k →
      store.body_at (core_of p) (number_of (resolved p) (Method (4 + 2 * k) m)) ≡ Some (written_body (resolved p) b (declarations (resolved p) (4 + 2 * k) m))
  declared_there k c at m e h b is class =
      let t = 4 + 2 * k in
      let mine : is_declared_by t (Some b) ≡ true = eq-eqb b.class t class in
      let own : is_own t (body_at (resolved p) e.body) ≡ true = ap (is_own t) is ∙ or_left (is_declared_by t (Some b)) (is_wrapped (Some b)) mine in
      let in_table : slice_get (program.table (resolved p) t) m ≡ Some e = ap (λ es. slice_get es m) (in_program k c at) ∙ h in
      numbered p (Method t m) (OfMethod {t = t} {m = m} {e = e} (class_at p k c at) in_table own)
      ∙ ap (option_and_then (elaborated_method (resolved p) t m)) (method_here p k c at m e h ∙ is)
      ∙ ap (λ x. if x then Some (written_body (resolved p) b (declarations (resolved p) t m)) else wrapper_at (resolved p) t m b (members_of (resolved p) t)) mine

  -- the number of a written method
  written_number : (k : ℕ) (c : ClassTree) → slice_get p.classes k ≡ Some c → (m : ℕ) (e : core.EntryTree) → slice_get (table p.classes k) m ≡ Some e → (b : BodyTree) → body_at (resolved p) e.body ≡ Some b → b.class ≡ 4 + 2 * k →
      number_of_written (resolved p) e.body ≡ number_of (resolved p) (Method (4 + 2 * k) m)
  written_number k c at m e h b is class =
      ap (λ o. number_of (resolved p) (written (resolved p) e.body o)) is
      ∙ ap (λ t. number_of (resolved p) (Method t (place_in e.body (program.table (resolved p) t)))) class
      ∙ ap (λ es. number_of (resolved p) (Method (4 + 2 * k) (place_in e.body es))) (in_program k c at)
      ∙ ap (λ n. number_of (resolved p) (Method (4 + 2 * k) n)) (place_is k c at m e h)

  -- the wrapper of a method that the class inherits
  wrapper_there : (k : ℕ) (c : ClassTree) → slice_get p.classes k ≡ Some c → (m : ℕ) (e : core.EntryTree) → slice_get (table p.classes k) m ≡ Some e → (b : BodyTree) → body_at (resolved p) e.body ≡ Some b → is_declared_by (4 + 2 * k) (Some b) ≡ false → is_own (4 + 2 * k) (Some b) ≡ true →
      store.body_at (core_of p) (number_of (resolved p) (Method (4 + 2 * k) m)) ≡ Some (wrapper_body (resolved p) c.name.place (4 + 2 * k) m b (declarations (resolved p) (4 + 2 * k) m))
  wrapper_there k c at m e h b is other own_b =
      let t = 4 + 2 * k in
      let own : is_own t (body_at (resolved p) e.body) ≡ true = ap (is_own t) is ∙ own_b in
      let in_table : slice_get (program.table (resolved p) t) m ≡ Some e = ap (λ es. slice_get es m) (in_program k c at) ∙ h in
      numbered p (Method t m) (OfMethod {t = t} {m = m} {e = e} (class_at p k c at) in_table own)
      ∙ ap (option_and_then (elaborated_method (resolved p) t m)) (method_here p k c at m e h ∙ is)
      ∙ ap (λ x. if x then Some (written_body (resolved p) b (declarations (resolved p) t m)) else wrapper_at (resolved p) t m b (members_of (resolved p) t)) other
      ∙ ap (wrapper_at (resolved p) t m b) (members_there p k c at)

  names_body : (k : ℕ) (c : ClassTree) → slice_get p.classes k ≡ Some c → (m : ℕ) (e : core.EntryTree) → slice_get (table p.classes k) m ≡ Some e → (i : IsInherited p k m e) → NamesBody p k m e (method_body p.classes i.class i.method) (i.before ++ method_body p.classes i.class i.method ∷ [])
  names_body k c at m e h i =
      let t = 4 + 2 * k in
      let b = method_body p.classes i.class i.method in
      let bs = i.before ++ b ∷ [] in
      let choice = λ (x : Bool). store.body_at (core_of p) (if x then number_of (resolved p) (Method t m) else number_of_written (resolved p) e.body) in
      ⊎_elim
      (λ own.
      let owned : is_own t (body_at (resolved p) e.body) ≡ true = ap (is_own t) i.is ∙ own in
      ⊎_elim
      (λ mine. record {
        body = written_body (resolved p) b bs;
        there = ap choice owned ∙ declared_there k c at m e h b i.is (eqb-true b.class t mine) ∙ ap (λ ds. Some (written_body (resolved p) b ds)) i.declared;
        for_class = b.class;
        contract = written_contract (resolved p) b bs;
        own = λ x. eqb-true b.class t mine;
      })
      (λ other.
      let wrapped : is_wrapped (Some b) ≡ true = rw other at own in
      let three = and_parts (not b.flags.is_static && not b.flags.pure) (not b.flags.no_default_contract) wrapped in
      let two = and_parts (not b.flags.is_static) (not b.flags.pure) three.0 in
      record {
        body = wrapper_body (resolved p) c.name.place t m b bs;
        there = ap choice owned ∙ wrapper_there k c at m e h b i.is other own ∙ ap (λ ds. Some (wrapper_body (resolved p) c.name.place t m b ds)) i.declared;
        for_class = t;
        contract = wrapper_contract (resolved p) c.name.place t m b bs (not_true b.flags.is_static two.0) (not_true b.flags.pure two.1);
        own = λ x. refl;
      })
      (cases_Bool (is_declared_by t (Some b))))
      (λ shared.
      let unowned : is_own t (body_at (resolved p) e.body) ≡ false = ap (is_own t) i.is ∙ shared in
      record {
        body = written_body (resolved p) b bs;
        there = ap choice unowned ∙ ap (store.body_at (core_of p)) (written_number i.class i.tree i.there m e i.in_class b i.is refl) ∙ declared_there i.class i.tree i.there m e i.in_class b i.is refl ∙ ap (λ ds. Some (written_body (resolved p) b ds)) i.own;
        for_class = b.class;
        contract = written_contract (resolved p) b bs;
        own = λ x. absurd (false≢true (sym shared ∙ x));
      })
      (cases_Bool (is_own t (Some b)))

-- ---- what a table has at the place of a method of the class above

module _ (p : ProgramTree) (faultless : program_faults p ≡ []) (no_nulls : null_faults (resolved p) ≡ []) where
  like_reads : (b : BodyTree) (xs : List BodyTree) → AreLike p b xs → list_all (contract_reads (first_param b) (after_params b)) xs ≡ true
  like_reads b [] h = refl
  like_reads b (x ∷ xs) h = let l = h 0 x refl in and_from _ _ (reads_alike x b l.0 x l.1) (like_reads b xs (λ n y e. h (suc n) y e))

  module _ (k j : ℕ) (c : ClassTree) (at : slice_get p.classes k ≡ Some c) (up : above p.classes k ≡ Some j) (d : ClassTree) (at_above : slice_get p.classes j ≡ Some d) (m : ℕ) (e x : core.EntryTree) (h : slice_get (table p.classes j) m ≡ Some e) (g : slice_get (table p.classes k) m ≡ Some x) (i : IsInherited p j m e) (n : IsInherited p k m x) where
    abbrev old_body : BodyTree
    old_body = method_body p.classes i.class i.method

    abbrev new_body : BodyTree
    new_body = method_body p.classes n.class n.method

    abbrev before_old : List BodyTree
    before_old = i.before ++ old_body ∷ []

    abbrev before_new : List BodyTree
    before_new = n.before ++ new_body ∷ []

    abbrev from : NamesBody p j m e old_body before_old
    from = names_body p faultless j d at_above m e h i

    abbrev to : NamesBody p k m x new_body before_new
    to = names_body p faultless k c at m x g n

    -- what is declared for the method of the class is declared after what is declared for that of the class above
    declared_after : before_new ≡ before_old ++ declared_last (declares (resolved p) m (4 + 2 * k))
    declared_after =
        sym n.declared ∙ declarations_step p faultless k m (slice_get_within p.classes k c at)
        ∙ ap (λ o. declarations (resolved p) (number_or_object o) m ++ declared_last (declares (resolved p) m (4 + 2 * k))) up
        ∙ ap (λ bs. bs ++ declared_last (declares (resolved p) m (4 + 2 * k))) i.declared

    stands : SameHeading new_body old_body → StandsFor from.body to.body
    stands head =
        let read = list_all-append (contract_reads (first_param new_body) (after_params new_body)) n.before (new_body ∷ []) ∙ rw (like_reads new_body n.before n.alike, method_reads p.classes n.class n.method) refl in
        let read_old = all_more (contract_reads (first_param new_body) (after_params new_body)) (contract_reads (first_param old_body) (after_params old_body)) (λ y l. reads_alike new_body old_body head y l) before_new read in
        stands_for from.body to.body old_body new_body from.for_class to.for_class i.before before_new (declared_last (declares (resolved p) m (4 + 2 * k))) from.contract to.contract declared_after head refl refl read_old

    abbrev Replaced : Type 0
    Replaced = (old new : core.EntryTree) → old.body ≡ entry_number (resolved p) (4 + 2 * j) m e.body → new.body ≡ entry_number (resolved p) (4 + 2 * k) m x.body → Replaces (4 + 2 * k) old new from.body to.body

    -- an override
    overrides_there : is_listed (method_names c.members) e.name ≡ true → declared_entry p.classes k e.name ≡ x → Replaced
    overrides_there listed is old new is_old is_new =
        let w = own_method p k c at e.name listed in
        let mine : method_body p.classes k w.method ≡ new_body = same_Some _ _ (sym w.is ∙ ap (λ (y : core.EntryTree). body_at (resolved p) y.body) is ∙ n.is) in
        let both = overrides_at p faultless no_nulls k j c at up m e h w old_body i.is in
        let class : new_body.class ≡ 4 + 2 * k = ap (λ (b : BodyTree). b.class) (sym mine) in
        let own : is_own (4 + 2 * k) (Some new_body) ≡ true = or_left (is_declared_by (4 + 2 * k) (Some new_body)) (is_wrapped (Some new_body)) (eq-eqb new_body.class (4 + 2 * k) class) in
        Overrides (to.own own) (from.contract.static ∙ both.1) (stands (subst (λ (b : BodyTree). SameHeading b old_body) mine both.0))

    -- a wrapper, or the same body
    kept_there : is_listed (method_names c.members) e.name ≡ false → e ≡ x → Replaced
    kept_there other is old new is_old is_new =
        let t = 4 + 2 * k in
        let u = 4 + 2 * j in
        let same : new_body ≡ old_body = same_Some _ _ (sym n.is ∙ ap (λ (y : core.EntryTree). body_at (resolved p) y.body) (sym is) ∙ i.is) in
        let apart : new_body.class ≢ t = λ class.
        let number : n.class ≡ k = omega arith in
        let tree : n.tree ≡ c = same_Some _ _ (sym n.there ∙ ap (slice_get p.classes) number ∙ at) in
        false≢true (sym other ∙ ap (λ (y : core.EntryTree). is_listed (method_names c.members) y.name) is ∙ subst (λ (z : ClassTree). is_listed (method_names z.members) x.name ≡ true) tree n.listed) in
        let undeclared : is_declared_by t (Some new_body) ≡ false = ne_eqb new_body.class t apart in
        ⊎_elim
        (λ wrapped.
        let three = and_parts (not new_body.flags.is_static && not new_body.flags.pure) (not new_body.flags.no_default_contract) wrapped in
        let two = and_parts (not new_body.flags.is_static) (not new_body.flags.pure) three.0 in
        let instance : old_body.flags.is_static ≡ false = ap (λ (b : BodyTree). b.flags.is_static) (sym same) ∙ not_true new_body.flags.is_static two.0 in
        let own : is_own t (Some new_body) ≡ true = or_right (is_declared_by t (Some new_body)) (is_wrapped (Some new_body)) wrapped in
        Overrides (to.own own) (from.contract.static ∙ instance) (stands (subst (λ (b : BodyTree). SameHeading new_body b) same (same_heading new_body))))
        (λ unwrapped.
        let plain_old : is_wrapped (Some old_body) ≡ false = ap (λ (b : BodyTree). is_wrapped (Some b)) (sym same) ∙ unwrapped in
        let unowned : is_own t (body_at (resolved p) x.body) ≡ false = ap (is_own t) n.is ∙ or_none _ _ undeclared unwrapped in
        let new_is : entry_number (resolved p) t m x.body ≡ number_of_written (resolved p) e.body =
        ap (λ b. if b then number_of (resolved p) (Method t m) else number_of_written (resolved p) x.body) unowned ∙ ap (λ (y : core.EntryTree). number_of_written (resolved p) y.body) (sym is) in
        let choice = λ (b : Bool). if b then number_of (resolved p) (Method u m) else number_of_written (resolved p) e.body in
        let old_is : entry_number (resolved p) u m e.body ≡ number_of_written (resolved p) e.body =
        ⊎_elim
        (λ mine.
        let owned : is_own u (body_at (resolved p) e.body) ≡ true = ap (is_own u) i.is ∙ or_left (is_declared_by u (Some old_body)) (is_wrapped (Some old_body)) mine in
        ap choice owned ∙ sym (written_number p faultless j d at_above m e h old_body i.is (eqb-true old_body.class u mine)))
        (λ theirs.
        let unowned_there : is_own u (body_at (resolved p) e.body) ≡ false = ap (is_own u) i.is ∙ or_none _ _ theirs plain_old in
        ap choice unowned_there)
        (cases_Bool (is_declared_by u (Some old_body))) in
        Shared (is_new ∙ new_is ∙ sym old_is ∙ sym is_old) (or_right from.body.flags.is_static (is_shared from.body) (serves_below from.body old_body from.for_class before_old from.contract refl plain_old)))
        (cases_Bool (is_wrapped (Some new_body)))

    replaces_there : overridden p.classes k e ≡ x → Replaced
    replaces_there is =
        let here = λ (b : Bool) (q : is_listed (method_names (members_at p.classes k)) e.name ≡ b). subst (λ (o : Option ClassTree). is_listed (method_names (members_in o)) e.name ≡ b) at q in
        ⊎_elim
        (λ yes. overrides_there (here true yes) (rw yes at is))
        (λ no. kept_there (here false no) (rw no at is))
        (cases_Bool (is_listed (method_names (members_at p.classes k)) e.name))

  table_stands : (k : ℕ) → k < length p.classes → store.table (core_of p).classes (4 + 2 * k) ≡ entries_from (resolved p) (4 + 2 * k) 0 (table p.classes k)
  table_stands k l = let y = there_at p k l in ap store.table_of (declared_at (core_of p).classes k ∙ y.1) ∙ (written_at p k y.0 y.1).table

  replaces_below : (k : ℕ) → k < length p.classes → (o : Option ℕ) → above p.classes k ≡ o → (m : ℕ) (old new : core.EntryTree) (y z : core.BodyTree) → slice_get (store.table (core_of p).classes (number_or_object o)) m ≡ Some old → slice_get (store.table (core_of p).classes (4 + 2 * k)) m ≡ Some new →
      store.body_at (core_of p) old.body ≡ Some y → store.body_at (core_of p) new.body ≡ Some z → Replaces (4 + 2 * k) old new y z
  replaces_below k l None up m old new y z ho hn by bz = absurd (let w : ⊥ = cc in w)
  replaces_below k l (Some j) up m old new y z ho hn by bz =
      let within = above_within p.classes k j up in
      let zero_more : 0 + m ≡ m = omega arith in
      let c = tree_at p faultless k l in
      let d = tree_at p faultless j within in
      let ro = entries_from_is (resolved p) (4 + 2 * j) 0 (table p.classes j) m old (ap (λ es. slice_get es m) (sym (table_stands j within)) ∙ ho) in
      let rn = entries_from_is (resolved p) (4 + 2 * k) 0 (table p.classes k) m new (ap (λ es. slice_get es m) (sym (table_stands k l)) ∙ hn) in
      let e = ro.0 in
      let x = rn.0 in
      let i = inherited_at p faultless no_nulls j within m e ro.1 in
      let n = inherited_at p faultless no_nulls k l m x rn.1 in
      let over = table p.classes j in
      let xs = map (overridden p.classes k) over in
      let in_front : slice_get xs m ≡ Some (overridden p.classes k e) = slice_get-map (overridden p.classes k) over m ∙ ap (option_map (overridden p.classes k)) ro.1 in
      let whole : slice_get (table p.classes k) m ≡ Some (overridden p.classes k e) =
      ap (λ es. slice_get es m) (table_of_below p faultless k j l up) ∙ at_front xs (added p.classes k over) m (slice_get_within xs m (overridden p.classes k e) in_front) ∙ in_front in
      let is : overridden p.classes k e ≡ x = same_Some _ _ (sym whole ∙ rn.1) in
      let is_old : old.body ≡ entry_number (resolved p) (4 + 2 * j) m e.body = ap (λ (w : core.EntryTree). w.body) ro.2 ∙ ap (λ q. entry_number (resolved p) (4 + 2 * j) q e.body) zero_more in
      let is_new : new.body ≡ entry_number (resolved p) (4 + 2 * k) m x.body = ap (λ (w : core.EntryTree). w.body) rn.2 ∙ ap (λ q. entry_number (resolved p) (4 + 2 * k) q x.body) zero_more in
      let first = names_body p faultless j d.0 d.1 m e ro.1 i in
      let second = names_body p faultless k c.0 c.1 m x rn.1 n in
      let same_first : first.body ≡ y = same_Some _ _ (sym first.there ∙ ap (store.body_at (core_of p)) (sym is_old) ∙ by) in
      let same_second : second.body ≡ z = same_Some _ _ (sym second.there ∙ ap (store.body_at (core_of p)) (sym is_new) ∙ bz) in
      subst (λ b. Replaces (4 + 2 * k) old new y b) same_second (subst (λ b. Replaces (4 + 2 * k) old new b second.body) same_first (replaces_there k j c.0 c.1 up d.0 d.1 m e x ro.1 rn.1 i n is old new is_old is_new))

pub have_inherited : (p : ProgramTree) → program_faults p ≡ [] → null_faults (resolved p) ≡ [] → HaveInherited (core_of p)
have_inherited p faultless no_nulls t declared_there m old new from to ho hn by bz =
    let at = place_of_declared (core_of p).classes t declared_there in
    let l = at.2 in
    let s = size p in
    let within : at.0 < length p.classes = omega arith in
    let over : chain.above (core_of p).classes t ≡ number_or_object (above p.classes at.0) = ap (chain.above (core_of p).classes) at.1 ∙ up p faultless at.0 within in
    let ho' : slice_get (store.table (core_of p).classes (number_or_object (above p.classes at.0))) m ≡ Some old = ap (λ u. slice_get (store.table (core_of p).classes u) m) (sym over) ∙ ho in
    let hn' : slice_get (store.table (core_of p).classes (4 + 2 * at.0)) m ≡ Some new = ap (λ u. slice_get (store.table (core_of p).classes u) m) (sym at.1) ∙ hn in
    subst (λ u. Replaces u old new from to) (sym at.1) (replaces_below p faultless no_nulls at.0 within (above p.classes at.0) refl m old new from to ho' hn' by bz)

pub have_tables : (p : ProgramTree) → program_faults p ≡ [] → null_faults (resolved p) ≡ [] → AreTables (core_of p)
have_tables p faultless no_nulls t declared_there = record {
  methods = have_table_methods p faultless t declared_there;
  names = have_table_names p faultless t declared_there;
  own = have_own_methods p faultless t declared_there;
  inherited = have_inherited p faultless no_nulls t declared_there;
}
