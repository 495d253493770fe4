-- What is named by terms is what is named by values.
use Rattle.std.proofs.Common.{◌≡◌, ℕ, List, [], ◌∷◌, ◌++◌, map, Bool, true, false, ◌&&◌, ◌||◌, eqb, Ok, Err, refl, sym, ◌∙◌, ap, subst}
use Rattle.std.specs.Prelude.{flat_map}
use Rattle.std.specs.List.{list_any, list_all}
use Rattle.std.proofs.lemmas.Bool.{false≢true, true≢false, and_parts, eqb-true, eq-eqb}
use Rattle.ss_core.specs.Tree.{ClassTree, NamedTree, FieldOf, AllOf, ElementsOf, UptoOf, BodyTree}
use Rattle.ss_core.specs.Chain.{sub, NoAlso}
use Rattle.ss_core.proofs.Chains.{sub-below}
use Rattle.ss_store_rules.specs.declared.Value.TheVariants as value
use Rattle.ss_store_rules.specs.Numbers.{Outcome}
use Rattle.ss_store_rules.specs.Changes.{field_class}
use Rattle.ss_store_rules.specs.Locals.{local_types}
use Rattle.ss_store_rules.specs.Types.{is_reference, type_of}
use Rattle.ss_machine_rules.specs.declared.Named.{Named}
use Rattle.ss_machine_rules.specs.Frame as frame
use Rattle.ss_machine_rules.specs.Frame.{defined_value, named_of, subject_of, named_by}
use Rattle.ss_logic.specs.Values.{reference, Heap, truth, thing, as_thing, Structure}
use Rattle.ss_logic.specs.Terms.{Term, value_of}
use Rattle.ss_logic.specs.Formulas.{Formula, True, AllTrue, formulas_from}
use Rattle.ss_logic.specs.Express.{and_of, Choice, Meant, One, Either, Says, not_null, Context, meant, defined}
use Rattle.ss_logic.specs.Frames.{NamedTerm}
use Rattle.ss_logic.specs.FrameMeans.{Each, IsNamed, NamesNoField, NamesNoLevel, NamesNoElement}
use Rattle.ss_logic_means.specs.Means.{Agree, NoneOf, Denotes, Reads}
use Rattle.ss_logic_means.specs.Scenes.{has_no_default}
use Rattle.ss_logic_means.proofs.Denoting.{All-append, All-parts}
use Rattle.ss_logic_means.proofs.Operations.{Gives}
use Rattle.ss_logic_means.proofs.Classes.{IsReferenceOf, not_null_means}
use Rattle.ss_vcgen_heaps.specs.Contracts.{named_term, naming_parts, named_as, named_terms}
use Rattle.ss_logic_tables.specs.Spans.{is_typed_name, SpanTerms, SpanValues, IsSpan, span_of}
use Rattle.ss_logic_tables.proofs.Standing.{ContextOf, Outcome_of, entry_reads, entry_refers}

-- ---- lists

each_append : {X : Type 0} (P : X → Type 0) (xs ys : List X) → Each P xs → Each P ys → Each P (xs ++ ys)
each_append P [] ys a b = b
each_append P (x ∷ xs) ys a b = (a.0, each_append P xs ys a.1 b)

each_parts : {X : Type 0} (P : X → Type 0) (xs ys : List X) → Each P (xs ++ ys) → Each P xs × Each P ys
each_parts P [] ys a = (tt, a)
each_parts P (x ∷ xs) ys a = let p = each_parts P xs ys a.1 in ((a.0, p.0), p.1)

any_append : {X : Type 0} (p : X → Bool) (xs ys : List X) → list_any p (xs ++ ys) ≡ (list_any p xs || list_any p ys)
any_append p [] ys = refl
any_append p (x ∷ xs) ys = head (p x) (any_append p xs ys)
  where
    head : (a : Bool) → list_any p (xs ++ ys) ≡ (list_any p xs || list_any p ys) → (a || list_any p (xs ++ ys)) ≡ ((a || list_any p xs) || list_any p ys)
    head true e = refl
    head false e = e

pub neither_parts : (a b : Bool) → (a || b) ≡ false → (a ≡ false) × (b ≡ false)
neither_parts true b h = absurd (true≢false h)
neither_parts false b h = (refl, h)

pub neither_from : (a b : Bool) → a ≡ false → b ≡ false → (a || b) ≡ false
neither_from true b h k = absurd (true≢false h)
neither_from false b h k = k

-- ---- what one name names of the object at o

module _ (cs : List ClassTree) (m : Structure) (h : Heap) (o : ℕ) (N : NamedTerm → Type 0) (asks : NamedTree → Bool) (test : Named → Bool) where
  abbrev Point : NamedTree → Formula → Term → Type 0
  Point n g u = asks n ≡ true → IsNamed cs m (reference o) g u → ⊥

  -- The terms say of the object what the test says.
  pub record Speaks : Type 0 where
    pub to : (n : NamedTree) (g : Formula) (u : Term) → N (named_term n g u) → Point n g u
    pub from : (n : NamedTree) (g : Formula) (u : Term) → Point n g u → N (named_term n g u)
    pub same : (n : NamedTree) (q : ℕ) → test (named_of n q) ≡ (asks n && eqb q o)

  module _ (k : Speaks) (n : NamedTree) (ps : List Formula) (x : Meant) where
    abbrev Guards : List Formula
    Guards = ps ++ not_null x ∷ []

    abbrev All : List Formula → Type 0
    All fs = AllTrue cs m [] (formulas_from fs)

    no_truth : (f : Formula) (q : ℕ) → Denotes cs m [] (Says f) (thing (reference q)) → ⊥
    no_truth f q d = d.some ((λ t. let no : truth true ≡ thing (reference q) = d.agree.0 t in let bad : ⊥ = cc in bad), ((λ t. let no : truth false ≡ thing (reference q) = d.agree.1.0 t in let bad : ⊥ = cc in bad), tt))

    -- the object that is named
    here : (q : ℕ) (u : Term) → eqb q o ≡ true → value_of cs m [] u ≡ thing (reference q) → reference o ≡ as_thing (value_of cs m [] u)
    here q u e is = ap reference (sym (eqb-true q o e)) ∙ sym (ap as_thing is)

    -- ---- an object
    module _ (q : ℕ) (all : All ps) (d : Denotes cs m [] x (thing (reference q))) (there : True cs m [] (not_null x)) where
      guards : All Guards
      guards = All-append cs m [] ps (not_null x ∷ []) all (there, tt)

      none_chosen : (xs : List Choice) → Agree cs m [] xs (thing (reference q)) → Each N (map (λ (y : Choice). named_term n (and_of (Guards ++ y.condition ∷ [])) y.value) xs) → asks n ≡ true → eqb q o ≡ true → NoneOf cs m [] xs
      none_chosen [] a e s i = tt
      none_chosen (y ∷ xs) a e s i = (
        (λ c. k.to n (and_of (Guards ++ y.condition ∷ [])) y.value e.0 s (All-append cs m [] Guards (y.condition ∷ []) guards (c, tt), here q y.value i (a.0 c))),
        none_chosen xs a.1 e.1 s i,
      )

    named_here : (q : ℕ) (y : Meant) → x ≡ y → All ps → Denotes cs m [] y (thing (reference q)) → True cs m [] (not_null x) → Each N (named_as n Guards y) → asks n ≡ true → eqb q o ≡ true → ⊥
    named_here q (One u) is all d there e s i = k.to n (and_of Guards) u e.0 s (All-append cs m [] ps (not_null x ∷ []) all (there, tt), here q u i (d.agree.0 tt))
    named_here q (Either xs) is all d there e s i = d.some (none_chosen q all (subst (λ z. Denotes cs m [] z (thing (reference q))) (sym is) d) there xs d.agree e s i)
    named_here q (Says f) is all d there e s i = no_truth f q d

    other : (q : ℕ) (u : Term) → (asks n && eqb q o) ≡ false → value_of cs m [] u ≡ thing (reference q) → (g : Formula) → Point n g u
    other q u f is g s i =
        let at : reference o ≡ reference q = i.1 ∙ ap as_thing is in
        let same : o ≡ q = cc in
        false≢true (sym f ∙ both (asks n) (eqb q o) s (eq-eqb q o (sym same)))
      where
        both : (a b : Bool) → a ≡ true → b ≡ true → (a && b) ≡ true
        both true b p r = r
        both false b p r = absurd (false≢true p)

    others_chosen : (q : ℕ) → (asks n && eqb q o) ≡ false → (xs : List Choice) → Agree cs m [] xs (thing (reference q)) → Each N (map (λ (y : Choice). named_term n (and_of (Guards ++ y.condition ∷ [])) y.value) xs)
    others_chosen q f [] a = tt
    others_chosen q f (y ∷ xs) a = (
      k.from n (and_of (Guards ++ y.condition ∷ [])) y.value (λ s i. other q y.value f (a.0 (All-parts cs m [] Guards (y.condition ∷ []) i.0).1.0) (and_of (Guards ++ y.condition ∷ [])) s i),
      others_chosen q f xs a.1,
    )

    not_named_here : (q : ℕ) (y : Meant) → Denotes cs m [] y (thing (reference q)) → (asks n && eqb q o) ≡ false → Each N (named_as n Guards y)
    not_named_here q (One u) d f = (k.from n (and_of Guards) u (other q u f (d.agree.0 tt) (and_of Guards)), tt)
    not_named_here q (Either xs) d f = others_chosen q f xs d.agree
    not_named_here q (Says g) d f = tt

    -- ---- nothing, where the guards aren't true
    module _ (never : All Guards → ⊥) where
      none_named : (xs : List Choice) → Each N (map (λ (y : Choice). named_term n (and_of (Guards ++ y.condition ∷ [])) y.value) xs)
      none_named [] = tt
      none_named (y ∷ xs) = (k.from n (and_of (Guards ++ y.condition ∷ [])) y.value (λ s i. never (All-parts cs m [] Guards (y.condition ∷ []) i.0).0), none_named xs)

      nothing_named : (y : Meant) → Each N (named_as n Guards y)
      nothing_named (One u) = (k.from n (and_of Guards) u (λ s i. never i.0), tt)
      nothing_named (Either xs) = none_named xs
      nothing_named (Says g) = tt

    -- ---- by the outcome
    any_one : (q : ℕ) → (asks n ≡ true → eqb q o ≡ true → ⊥) → list_any test (named_of n q ∷ []) ≡ false
    any_one q f = ap (λ b. b || false) (k.same n q) ∙ off (asks n) (eqb q o) f
      where
        off : (a b : Bool) → (a ≡ true → b ≡ true → ⊥) → ((a && b) || false) ≡ false
        off true true f = absurd (f refl refl)
        off true false f = refl
        off false b f = refl

    one_any : (q : ℕ) → list_any test (named_of n q ∷ []) ≡ false → (asks n && eqb q o) ≡ false
    one_any q f = sym (k.same n q) ∙ (neither_parts (test (named_of n q)) false f).0

    pub name_to : (r : Outcome) → Reads cs m [] ps x r → Gives (IsReferenceOf h) r → Each N (named_as n Guards x) → list_any test (named_by n (defined_value r)) ≡ false
    name_to (Err u) rx g e = refl
    name_to (Ok value.Null) rx g e = refl
    name_to (Ok (value.Int i)) rx g e = refl
    name_to (Ok (value.Bool i)) rx g e = refl
    name_to (Ok (value.Obj q)) rx g e = any_one q (λ s i. named_here q x refl rx.0 rx.1 ((not_null_means cs m [] h x (value.Obj q) (g (value.Obj q) refl) rx.1).1 refl) e s i)

    pub name_from : (r : Outcome) → Reads cs m [] ps x r → Gives (IsReferenceOf h) r → list_any test (named_by n (defined_value r)) ≡ false → Each N (named_as n Guards x)
    name_from (Err u) rx g f = nothing_named (λ a. rx (All-parts cs m [] ps (not_null x ∷ []) a).0) x
    name_from (Ok value.Null) rx g f = nothing_named (λ a. false≢true ((not_null_means cs m [] h x value.Null tt rx.1).0 (All-parts cs m [] ps (not_null x ∷ []) a).1.0)) x
    name_from (Ok (value.Int i)) rx g f = absurd (g (value.Int i) refl)
    name_from (Ok (value.Bool i)) rx g f = absurd (g (value.Bool i) refl)
    name_from (Ok (value.Obj q)) rx g f = not_named_here q x rx.1 (one_any q f)

-- ---- all that is named

module _ (cs : List ClassTree) (m : Structure) (b : BodyTree) (t : SpanTerms) (v : SpanValues) (sp : IsSpan cs m b t v) (o : ℕ) (N : NamedTerm → Type 0) (asks : NamedTree → Bool) (test : Named → Bool) (k : Speaks cs m v.after o N asks test) where
  abbrev S : Context
  S = ContextOf cs m b t v sp t.before

  abbrev Values_named : List NamedTree → List Named
  Values_named ns = flat_map (λ n. named_by n (frame.value_at_entry (span_of cs m b v) (subject_of n))) ns

  names_to : (ns : List NamedTree) → list_all (is_typed_name cs b) ns ≡ true → Each N (named_terms ns S) → list_any test (Values_named ns) ≡ false
  names_to [] h e = refl
  names_to (n ∷ ns) h e =
      let p = and_parts (is_typed_name cs b n) (list_all (is_typed_name cs b) ns) h in
      let q = and_parts (has_no_default (subject_of n)) (is_reference (type_of cs (local_types b) (subject_of n))) p.0 in
      let parts = each_parts N (named_as n (naming_parts (subject_of n) S) (meant (subject_of n) S)) (named_terms ns S) e in
      let first = name_to cs m v.after o N asks test k n (defined (subject_of n) S) (meant (subject_of n) S) (Outcome_of cs m b t v sp (subject_of n) q.0 q.1) (entry_reads cs m b t v sp (subject_of n) q.0 q.1) (entry_refers cs m b t v sp (subject_of n) q.0 q.1) parts.0 in
      any_append test (named_by n (frame.value_at_entry (span_of cs m b v) (subject_of n))) (Values_named ns) ∙ neither_from _ _ first (names_to ns p.1 parts.1)

  names_from : (ns : List NamedTree) → list_all (is_typed_name cs b) ns ≡ true → list_any test (Values_named ns) ≡ false → Each N (named_terms ns S)
  names_from [] h f = tt
  names_from (n ∷ ns) h f =
      let p = and_parts (is_typed_name cs b n) (list_all (is_typed_name cs b) ns) h in
      let q = and_parts (has_no_default (subject_of n)) (is_reference (type_of cs (local_types b) (subject_of n))) p.0 in
      let parts = neither_parts _ _ (sym (any_append test (named_by n (frame.value_at_entry (span_of cs m b v) (subject_of n))) (Values_named ns)) ∙ f) in
      each_append N (named_as n (naming_parts (subject_of n) S) (meant (subject_of n) S)) (named_terms ns S)
      (name_from cs m v.after o N asks test k n (defined (subject_of n) S) (meant (subject_of n) S) (Outcome_of cs m b t v sp (subject_of n) q.0 q.1) (entry_reads cs m b t v sp (subject_of n) q.0 q.1) (entry_refers cs m b t v sp (subject_of n) q.0 q.1) parts.0)
      (names_from ns p.1 parts.1)

  pub named_to : Each N (named_terms b.named S) → list_any test (frame.all_named (span_of cs m b v)) ≡ false
  named_to = names_to b.named sp.body.named

  pub named_from : list_any test (frame.all_named (span_of cs m b v)) ≡ false → Each N (named_terms b.named S)
  named_from = names_from b.named sp.body.named

-- ---- fields, levels and elements

module _ (cs : List ClassTree) (m : Structure) (h : Heap) (o : ℕ) where
  abbrev pub asks_field : ℕ → NamedTree → Bool
  asks_field f (FieldOf e g) = eqb g f
  asks_field f (AllOf e) = true
  asks_field f (ElementsOf e) = false
  asks_field f (UptoOf e u) = sub cs u (field_class cs f)

  swap : (a b : Bool) → (a && b) ≡ (b && a)
  swap true true = refl
  swap true false = refl
  swap false true = refl
  swap false false = refl

  pub fields_speak : NoAlso cs → (f : ℕ) → Speaks cs m h o (NamesNoField cs m f (reference o)) (asks_field f) (frame.names_field cs o f)
  fields_speak beside f = record { to = to; from = from; same = same }
    where
      to : (n : NamedTree) (g : Formula) (u : Term) → NamesNoField cs m f (reference o) (named_term n g u) → asks_field f n ≡ true → IsNamed cs m (reference o) g u → ⊥
      to (FieldOf e k) g u denied a i = denied (eqb-true k f a) i
      to (AllOf e) g u denied a i = denied i
      to (ElementsOf e) g u denied a i = false≢true a
      to (UptoOf e k) g u denied a i = denied a i

      from : (n : NamedTree) (g : Formula) (u : Term) → (asks_field f n ≡ true → IsNamed cs m (reference o) g u → ⊥) → NamesNoField cs m f (reference o) (named_term n g u)
      from (FieldOf e k) g u denied = λ s i. denied (eq-eqb k f s) i
      from (AllOf e) g u denied = λ i. denied refl i
      from (ElementsOf e) g u denied = tt
      from (UptoOf e k) g u denied = λ s i. denied s i

      same : (n : NamedTree) (q : ℕ) → frame.names_field cs o f (named_of n q) ≡ (asks_field f n && eqb q o)
      same (FieldOf e k) q = swap (eqb q o) (eqb k f)
      same (AllOf e) q = refl
      same (ElementsOf e) q = refl
      same (UptoOf e k) q = ap (λ c. eqb q o && c) (sym (sub-below cs beside k (field_class cs f))) ∙ swap (eqb q o) (sub cs k (field_class cs f))

  abbrev pub asks_level : NamedTree → Bool
  asks_level (FieldOf e g) = false
  asks_level (AllOf e) = true
  asks_level (ElementsOf e) = false
  asks_level (UptoOf e u) = true

  pub levels_speak : Speaks cs m h o (NamesNoLevel cs m (reference o)) asks_level (frame.names_level o)
  levels_speak = record { to = to; from = from; same = same }
    where
      to : (n : NamedTree) (g : Formula) (u : Term) → NamesNoLevel cs m (reference o) (named_term n g u) → asks_level n ≡ true → IsNamed cs m (reference o) g u → ⊥
      to (FieldOf e k) g u denied a i = false≢true a
      to (AllOf e) g u denied a i = denied i
      to (ElementsOf e) g u denied a i = false≢true a
      to (UptoOf e k) g u denied a i = denied i

      from : (n : NamedTree) (g : Formula) (u : Term) → (asks_level n ≡ true → IsNamed cs m (reference o) g u → ⊥) → NamesNoLevel cs m (reference o) (named_term n g u)
      from (FieldOf e k) g u denied = tt
      from (AllOf e) g u denied = λ i. denied refl i
      from (ElementsOf e) g u denied = tt
      from (UptoOf e k) g u denied = λ i. denied refl i

      same : (n : NamedTree) (q : ℕ) → frame.names_level o (named_of n q) ≡ (asks_level n && eqb q o)
      same (FieldOf e k) q = refl
      same (AllOf e) q = refl
      same (ElementsOf e) q = refl
      same (UptoOf e k) q = refl

  abbrev pub asks_elements : NamedTree → Bool
  asks_elements (FieldOf e g) = false
  asks_elements (AllOf e) = false
  asks_elements (ElementsOf e) = true
  asks_elements (UptoOf e u) = false

  pub elements_speak : Speaks cs m h o (NamesNoElement cs m (reference o)) asks_elements (frame.names_elements o)
  elements_speak = record { to = to; from = from; same = same }
    where
      to : (n : NamedTree) (g : Formula) (u : Term) → NamesNoElement cs m (reference o) (named_term n g u) → asks_elements n ≡ true → IsNamed cs m (reference o) g u → ⊥
      to (FieldOf e k) g u denied a i = false≢true a
      to (AllOf e) g u denied a i = false≢true a
      to (ElementsOf e) g u denied a i = denied i
      to (UptoOf e k) g u denied a i = false≢true a

      from : (n : NamedTree) (g : Formula) (u : Term) → (asks_elements n ≡ true → IsNamed cs m (reference o) g u → ⊥) → NamesNoElement cs m (reference o) (named_term n g u)
      from (FieldOf e k) g u denied = tt
      from (AllOf e) g u denied = tt
      from (ElementsOf e) g u denied = λ i. denied refl i
      from (UptoOf e k) g u denied = tt

      same : (n : NamedTree) (q : ℕ) → frame.names_elements o (named_of n q) ≡ (asks_elements n && eqb q o)
      same (FieldOf e k) q = refl
      same (AllOf e) q = refl
      same (ElementsOf e) q = refl
      same (UptoOf e k) q = refl
