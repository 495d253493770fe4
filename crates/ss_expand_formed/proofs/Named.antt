-- What each body may change is over its arguments, and of the types that it takes.
use Rattle.std.proofs.Common.{◌≡◌, ℕ, suc, List, [], ◌∷◌, ◌++◌, map, Bool, true, false, Option, Some, None, refl, sym, ◌∙◌, ap, subst, arith, inl, inr, ◌⊎◌, ⊎_elim}
use Rattle.std.specs.Prelude.{not, ◌||◌, slice_get, if◌then◌else◌}
use Rattle.std.specs.List.{list_all}
use Rattle.std.proofs.lemmas.Bool.{and_from, or_cases, eq-eqb, false≢true}
use Rattle.std.proofs.lemmas.List.Folds.{list_all-append}
use Rattle.ss_core.specs.declared.names.Place.{Place}
use Rattle.ss_core.specs.Tree as core
use Rattle.ss_ast.specs.Programs.{ProgramTree}
use Rattle.ss_typed.specs.Tree.{ModifiedTree, BodyTree}
use Rattle.ss_nonnull_rules.specs.Program.{null_faults}
use Rattle.ss_owners_rules.specs.Program.{ownership_faults}
use Rattle.ss_resolver_names_rules.specs.Programs.{program_faults}
use Rattle.ss_resolver_types_expressions.specs.Programs.{type_faults}
use Rattle.ss_resolver_rules.specs.Programs.{resolved}
use Rattle.ss_expand_rules.specs.Program.{table}
use Rattle.ss_expand_rules.specs.Contracts.{named, this_upto, written_terms, terms_of_method, entry_of_first, modifies_of_first, all_exits}
use Rattle.ss_store_rules.specs.Typed.{is_named}
use Rattle.ss_expand_formed.specs.Laws.{core_of}
use Rattle.ss_expand_formed.proofs.Facts.{all_at, not_true}
use Rattle.ss_expand_formed.proofs.Resolved.{bodies_pass, method_is}
use Rattle.ss_expand_formed.proofs.ChainLaw.{has_chain}
use Rattle.ss_expand_formed.proofs.Normal.{HasContract}
use Rattle.ss_expand_formed.specs.ContractParts.{HaveNamed}
use Rattle.ss_expand_formed.proofs.Origins.{Declares, OfConstructor, OfImplicit, OfTable, contract_of}
use Rattle.ss_expand_formed.proofs.ContractsConditions.{term_here}
use Rattle.ss_expand_formed.proofs.Terms.{AllTerms, TermsIn, terms_of}
use Rattle.ss_expand_formed.proofs.ContractsEntries.{IsPart, AreParts, parts_of}

-- a constructor isn't static
abbrev has_this : BodyTree → Bool
has_this b = not b.flags.ctor || not b.flags.is_static

all_have_this : (p : ProgramTree) → list_all has_this (resolved p).bodies ≡ true
all_have_this p = bodies_pass has_this p.classes (λ k d l. refl) (λ k m l. refl) 0 p.classes (omega arith)

instance_of : (b : BodyTree) → has_this b ≡ true → b.flags.ctor ≡ true → b.flags.is_static ≡ false
instance_of b h ctor = ⊎_elim (λ no. absurd (false≢true (sym (ap not ctor) ∙ no))) (λ yes. not_true b.flags.is_static yes) (or_cases (not b.flags.ctor) (not b.flags.is_static) h)

constructor_instance : (p : ProgramTree) (b : BodyTree) (t : ℕ) (bs : List BodyTree) → Declares (resolved p) b t bs → b.flags.ctor ≡ true → b.flags.is_static ≡ false
constructor_instance p b t bs (OfConstructor u n m em en eb class) ctor = instance_of b (all_at has_this (resolved p).bodies n b (all_have_this p) eb) ctor
constructor_instance p b t bs (OfImplicit c m ec em none is) ctor = ap (λ (x : BodyTree). x.flags.is_static) is
constructor_instance p b t bs (OfTable m h) ctor =
    let at = method_is (resolved p) (slice_get (table (resolved p) t) m) b h in
    instance_of b (all_at has_this (resolved p).bodies at.0 b (all_have_this p) at.1) ctor

module _ (p : ProgramTree) (faultless : program_faults p ≡ []) (typed_well : type_faults p ≡ []) (no_nulls : null_faults (resolved p) ≡ []) (owned : ownership_faults (resolved p) ≡ []) (y : core.BodyTree) (b : BodyTree) (bs : List BodyTree) (is : HasContract y b y.class bs) (from : Declares (resolved p) b y.class bs) where
  abbrev C : List core.ClassTree
  C = (core_of p).classes

  -- the terms are those of the first declaration
  abbrev Pass : Option (List ModifiedTree) → Type 0
  Pass ms = list_all (is_named C y) (written_terms is.numbers y.class ms) ≡ true

  all_pass : (d : BodyTree) → IsPart p y b d → (ms : List ModifiedTree) → AllTerms p d ms → list_all (is_named C y) (map (named is.numbers y.class) ms) ≡ true
  all_pass d part [] h = refl
  all_pass d part (m ∷ ms) h = and_from _ _ (term_here (resolved p) C (has_chain p faultless) y b bs is d part.heading (λ i. part.under) part.no_array m (h 0 m refl)) (all_pass d part ms (λ n x e. h (suc n) x e))

  terms_pass : (d : BodyTree) → IsPart p y b d → (ms : Option (List ModifiedTree)) → TermsIn p d ms → Pass ms
  terms_pass d part None h = refl
  terms_pass d part (Some ms) h = all_pass d part ms h

  first_pass : (ds : List BodyTree) → AreParts p y b ds → Pass (modifies_of_first ds)
  first_pass [] parts = refl
  first_pass (d ∷ ds) parts = let part = parts 0 d refl in terms_pass d part d.modifies (terms_of p faultless d part.clauses part.words.modifies)

  written_pass : Pass (modifies_of_first bs)
  written_pass = by (parts_of p faultless typed_well no_nulls owned y b bs from)
    where
      by : AreParts p y b bs ⊎ ((entry_of_first bs ≡ []) × (all_exits bs ≡ []) × (modifies_of_first bs ≡ None)) → Pass (modifies_of_first bs)
      by (inl parts) = first_pass bs parts
      by (inr none) = subst Pass (sym none.2) refl

  this_pass : (q : Place) → b.flags.is_static ≡ false → list_all (is_named C y) (this_upto q y.class) ≡ true
  this_pass q instance = and_from _ _ (and_from _ _ (ap not (is.static ∙ instance)) (eq-eqb y.class y.class refl)) refl

  method_pass : (q : Place) (ms : Option (List ModifiedTree)) → Pass ms → list_all (is_named C y) (terms_of_method is.numbers q b y.class ms) ≡ true
  method_pass q None h = by b.flags.is_static refl
    where
      by : (s : Bool) → b.flags.is_static ≡ s → list_all (is_named C y) (if s then [] else this_upto q y.class) ≡ true
      by true e = refl
      by false e = this_pass q e
  method_pass q (Some ms) h = h

  kind_pass : (q : Place) (ms : Option (List ModifiedTree)) → Pass ms → (pure ctor : Bool) → b.flags.ctor ≡ ctor →
      list_all (is_named C y) (if pure then [] else if ctor then this_upto q y.class ++ written_terms is.numbers y.class ms else terms_of_method is.numbers q b y.class ms) ≡ true
  kind_pass q ms h true ctor e = refl
  kind_pass q ms h false true e =
      list_all-append (is_named C y) (this_upto q y.class) (written_terms is.numbers y.class ms)
      ∙ and_from (list_all (is_named C y) (this_upto q y.class)) (list_all (is_named C y) (written_terms is.numbers y.class ms)) (this_pass q (constructor_instance p b y.class bs from e)) h
  kind_pass q ms h false false e = method_pass q ms h

  pub named_pass : list_all (is_named C y) y.named ≡ true
  named_pass = subst (λ ns. list_all (is_named C y) ns ≡ true) (sym is.named) (kind_pass is.place (modifies_of_first bs) written_pass b.flags.pure b.flags.ctor refl)

pub have_named : (p : ProgramTree) → program_faults p ≡ [] → type_faults p ≡ [] → null_faults (resolved p) ≡ [] → ownership_faults (resolved p) ≡ [] → HaveNamed (core_of p)
have_named p faultless typed_well no_nulls owned n y at =
    let c = contract_of p n y at in
    named_pass p faultless typed_well no_nulls owned y c.body c.declarations c.contract c.declares
