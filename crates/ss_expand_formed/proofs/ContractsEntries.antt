-- The conditions at entry and at exit of each body have their types, and read what they may.
use Rattle.std.proofs.Common.{◌≡◌, ℕ, zero, suc, List, [], ◌∷◌, Bool, true, false, Some, None, refl, ◌∙◌, ap, subst, inl, inr, ◌⊎◌, ⊎_elim}
use Rattle.std.specs.Prelude.{slice_get}
use Rattle.std.specs.List.{list_all}
use Rattle.std.proofs.lemmas.Bool.{and_parts, and_from}
use Rattle.std.proofs.lemmas.Option.{same_Some}
use Rattle.std.proofs.lemmas.List.Folds.{list_all-append}
use Rattle.std.proofs.lemmas.List.Concat.{flat_map-cons}
use Rattle.std.proofs.lemmas.List.{map-append}
use Rattle.ss_core.specs.declared.names.Place.{Place}
use Rattle.ss_core.specs.Tree as core
use Rattle.ss_core.specs.Tree.{DefaultTree}
use Rattle.ss_core.proofs.Chains.{below_self}
use Rattle.ss_core.specs.Chain.{below}
use Rattle.ss_ast.specs.Programs.{ProgramTree}
use Rattle.ss_typed.specs.Tree.{ExprTree, BodyTree}
use Rattle.ss_nonnull_rules.specs.Program.{null_faults}
use Rattle.ss_owners_rules.specs.Words.{Questions, EveryWord}
use Rattle.ss_owners_rules.specs.Program.{ownership_faults}
use Rattle.ss_resolver_names_rules.specs.Programs.{program_faults}
use Rattle.ss_resolver_types_expressions.specs.Programs.{type_faults}
use Rattle.ss_resolver_rules.specs.Programs.{resolved}
use Rattle.ss_expand_rules.specs.Numbers.{plain, all_plain}
use Rattle.ss_typed.specs.Lookups.{body_at}
use Rattle.ss_expand_rules.specs.Contracts.{conditions, default_entry, default_exit, entry_of_first, modifies_of_first, all_exits}
use Rattle.ss_store_rules.specs.Changes.{is_array}
use Rattle.ss_store_rules.specs.Typed.{is_local, is_entry, is_exit, is_default_of}
use Rattle.ss_expand_formed.specs.Laws.{core_of}
use Rattle.ss_expand_formed.proofs.ChainLaw.{has_chain}
use Rattle.ss_expand_formed.proofs.Marks.{have_params}
use Rattle.ss_expand_formed.proofs.Headings.{SameHeading, same_heading}
use Rattle.ss_expand_formed.proofs.Normal.{HasContract}
use Rattle.ss_expand_formed.specs.ContractParts.{HaveEntries, HaveExits}
use Rattle.ss_expand_formed.proofs.Origins.{Declares, OfConstructor, OfImplicit, OfTable, contract_of}
use Rattle.ss_expand_formed.proofs.Defaults.{may_capture, captures_allowed, entry_own, exit_own}
use Rattle.ss_expand_formed.proofs.ContractsConditions.{entry_here, exit_here}
use Rattle.ss_expand_formed.proofs.ContractsSources.{HasClauses}
use Rattle.ss_expand_formed.proofs.Soundness.{Answered, AllSound, entry_sound, exit_sound}
use Rattle.ss_expand_formed.proofs.Answers.{answers}
use Rattle.ss_expand_formed.proofs.ContractsDeclared.{clauses_of, IsWorded, worded, no_array, declared_for}

-- ---- the declarations of a body

-- a declaration d of the contract b of the body y
pub record IsPart (p : ProgramTree) (y : core.BodyTree) (b d : BodyTree) : Type 0 where
  pub heading : SameHeading d b
  pub under : below (core_of p).classes y.class d.class ≡ true
  pub no_array : is_array (core_of p).classes d.class ≡ false
  pub clauses : HasClauses p d
  pub words : IsWorded d

abbrev pub AreParts : ProgramTree → core.BodyTree → BodyTree → List BodyTree → Type 0
AreParts p y b bs = (n : ℕ) (d : BodyTree) → slice_get bs n ≡ Some d → IsPart p y b d

module _ (p : ProgramTree) (faultless : program_faults p ≡ []) (typed_well : type_faults p ≡ []) (no_nulls : null_faults (resolved p) ≡ []) (owned : ownership_faults (resolved p) ≡ []) where
  part_at : (y : core.BodyTree) (b d : BodyTree) (n : ℕ) → body_at (resolved p) n ≡ Some d → SameHeading d b → below (core_of p).classes y.class d.class ≡ true → IsPart p y b d
  part_at y b d n at heading under =
      let h = clauses_of p faultless typed_well n d at in
      record { heading = heading; under = under; no_array = ap (is_array (core_of p).classes) h.of_class ∙ no_array (core_of p).classes h.class; clauses = h; words = worded (resolved p) owned n d at }

  -- of a body that isn't an implicit constructor, whose contract is empty
  pub parts_of : (y : core.BodyTree) (b : BodyTree) (bs : List BodyTree) → Declares (resolved p) b y.class bs → AreParts p y b bs ⊎ ((entry_of_first bs ≡ []) × (all_exits bs ≡ []) × (modifies_of_first bs ≡ None))
  parts_of y b bs (OfConstructor u n m em en eb class) = inl (λ i d e. one i d e)
    where
      one : (i : ℕ) (d : BodyTree) → slice_get (b ∷ []) i ≡ Some d → IsPart p y b d
      one zero d e =
          let same : b ≡ d = same_Some _ _ e in
          subst (IsPart p y b) same (part_at y b b n eb (same_heading b) (ap (below (core_of p).classes y.class) class ∙ below_self (core_of p).classes y.class))
      one (suc i) d e = absurd (let z : ⊥ = cc in z)
  parts_of y b bs (OfImplicit c m ec em none is) = inr (ap (λ (x : BodyTree). x.entry) is, ap (λ (x : BodyTree). all_exits (x ∷ [])) is, ap (λ (x : BodyTree). x.modifies) is)
  parts_of y b bs (OfTable m h) = inl (λ i d e. let f = declared_for p faultless no_nulls y.class m b h i d e in part_at y b d f.number f.is f.heading f.under)

  module _ (y : core.BodyTree) (b : BodyTree) (bs : List BodyTree) (is : HasContract y b y.class bs) where
    abbrev C : List core.ClassTree
    C = (core_of p).classes

    conditions_pass : (test : core.ExprTree → Bool) → ((q : Place) (d : DefaultTree) → test (core.DefaultExpr q d) ≡ is_default_of y d) → (q : Place) (ds : List DefaultTree) → list_all (is_default_of y) ds ≡ true → list_all test (conditions q ds) ≡ true
    conditions_pass test same q [] h = refl
    conditions_pass test same q (d ∷ ds) h = let both = and_parts (is_default_of y d) (list_all (is_default_of y) ds) h in and_from _ _ (same q d ∙ both.0) (conditions_pass test same q ds both.1)

    plain_pass : (test : core.ExprTree → Bool) (es : List ExprTree) → ((n : ℕ) (e : ExprTree) → slice_get es n ≡ Some e → test (plain is.numbers e) ≡ true) → list_all test (all_plain is.numbers es) ≡ true
    plain_pass test [] h = refl
    plain_pass test (e ∷ es) h = and_from _ _ (h 0 e refl) (plain_pass test es (λ n x g. h (suc n) x g))

    entry_pass : (d : BodyTree) → IsPart p y b d → AllSound p d Questions d.entry → (n : ℕ) (e : ExprTree) → slice_get d.entry n ≡ Some e → is_entry C y (plain is.numbers e) ≡ true
    entry_pass d part sound n e g = entry_here (resolved p) C (has_chain p faultless) y b bs is d part.heading (λ i. part.under) part.no_array e (sound n e g)

    exit_pass : (d : BodyTree) → IsPart p y b d → AllSound p d EveryWord d.exit → (n : ℕ) (e : ExprTree) → slice_get d.exit n ≡ Some e → is_exit C y (plain is.numbers e) ≡ true
    exit_pass d part sound n e g = exit_here (resolved p) C (has_chain p faultless) y b bs is d part.heading (λ i. part.under) part.no_array e (sound n e g)

    first_pass : Answered p → (ds : List BodyTree) → AreParts p y b ds → list_all (is_entry C y) (all_plain is.numbers (entry_of_first ds)) ≡ true
    first_pass answered [] parts = refl
    first_pass answered (d ∷ ds) parts =
        let part = parts 0 d refl in
        plain_pass (is_entry C y) d.entry (entry_pass d part (entry_sound p faultless d part.clauses answered part.words.entry))

    exits_pass : (ds : List BodyTree) → AreParts p y b ds → list_all (is_exit C y) (all_plain is.numbers (all_exits ds)) ≡ true
    exits_pass [] parts = refl
    exits_pass (d ∷ ds) parts =
        let part = parts 0 d refl in
        let here = plain_pass (is_exit C y) d.exit (exit_pass d part (exit_sound p faultless d part.clauses part.words.exit)) in
        ap (λ es. list_all (is_exit C y) (all_plain is.numbers es)) (flat_map-cons (λ (x : BodyTree). x.exit) d ds)
        ∙ ap (list_all (is_exit C y)) (map-append (plain is.numbers) d.exit (all_exits ds))
        ∙ list_all-append (is_exit C y) (all_plain is.numbers d.exit) (all_plain is.numbers (all_exits ds))
        ∙ rw (here, exits_pass ds (λ n x g. parts (suc n) x g)) refl

    entries_all : Answered p → Declares (resolved p) b y.class bs → list_all may_capture b.params ≡ true → list_all (is_entry C y) y.entry ≡ true
    entries_all answered from captured =
        let written : list_all (is_entry C y) (all_plain is.numbers (entry_of_first bs)) ≡ true = ⊎_elim (λ parts. first_pass answered bs parts) (λ none. ap (λ es. list_all (is_entry C y) (all_plain is.numbers es)) none.0) (parts_of y b bs from) in
        ap (list_all (is_entry C y)) is.entry ∙ list_all-append (is_entry C y) (conditions is.place (default_entry b y.class)) (all_plain is.numbers (entry_of_first bs))
        ∙ rw (conditions_pass (is_entry C y) (λ q d. refl) is.place (default_entry b y.class) (entry_own y b bs is captured), written) refl

    exits_all : Declares (resolved p) b y.class bs → list_all (is_exit C y) y.exit ≡ true
    exits_all from =
        let written : list_all (is_exit C y) (all_plain is.numbers (all_exits bs)) ≡ true = ⊎_elim (λ parts. exits_pass bs parts) (λ none. ap (λ es. list_all (is_exit C y) (all_plain is.numbers es)) none.1) (parts_of y b bs from) in
        ap (list_all (is_exit C y)) is.exit ∙ list_all-append (is_exit C y) (conditions is.place (default_exit b y.class)) (all_plain is.numbers (all_exits bs))
        ∙ rw (conditions_pass (is_exit C y) (λ q d. refl) is.place (default_exit b y.class) (exit_own y b bs is), written) refl

pub have_exits : (p : ProgramTree) → program_faults p ≡ [] → type_faults p ≡ [] → null_faults (resolved p) ≡ [] → ownership_faults (resolved p) ≡ [] → HaveExits (core_of p)
have_exits p faultless typed_well no_nulls owned n y at =
    let c = contract_of p n y at in
    exits_all p faultless typed_well no_nulls owned y c.body c.declarations c.contract c.declares

have_entries_if : (p : ProgramTree) → Answered p → program_faults p ≡ [] → type_faults p ≡ [] → null_faults (resolved p) ≡ [] → ownership_faults (resolved p) ≡ [] → HaveEntries (core_of p)
have_entries_if p answered faultless typed_well no_nulls owned n y at =
    let c = contract_of p n y at in
    let params = have_params p faultless owned n y at in
    let captured = captures_allowed (core_of p).classes c.body.params (subst (λ ls. list_all (is_local (core_of p).classes) ls ≡ true) c.contract.params params) in
    entries_all p faultless typed_well no_nulls owned y c.body c.declarations c.contract answered c.declares captured

pub have_entries : (p : ProgramTree) → program_faults p ≡ [] → type_faults p ≡ [] → null_faults (resolved p) ≡ [] → ownership_faults (resolved p) ≡ [] → HaveEntries (core_of p)
have_entries p faultless typed_well no_nulls owned = have_entries_if p (λ x known static lacks a place w without y named typed words. answers p x static lacks w without a y named typed words) faultless typed_well no_nulls owned
