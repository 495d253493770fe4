-- Conditions and terms of a contract, in each body that has it.
use Rattle.std.proofs.Common.{inl, ◌≡◌, ℕ, zero, suc, ◌+◌, ◌<◌, List, [], ◌∷◌, ◌++◌, length, map, Bool, true, false, Option, Some, None, refl, sym, ◌∙◌, ap, subst, arith, length-append, ⊎_elim}
use Rattle.std.specs.Prelude.{not, ◌==◌, ◌&&◌, ◌||◌, slice_get, unwrap_or, is_some, option_to_list, if◌then◌else◌}
use Rattle.std.proofs.lemmas.Bool.{and_from, cases_Bool, or_left, or_right, eq-eqb, ne_eqb, lt-ltb, le-leb, false≢true}
use Rattle.std.proofs.lemmas.Option.{slice_get_within}
use Rattle.std.proofs.lemmas.List.{length-map}
use Rattle.ss_core.specs.declared.names.Place.{Place}
use Rattle.ss_core.specs.declared.names.Ty.{Ty}
use Rattle.ss_core.specs.declared.names.Ty.TheVariants as ty
use Rattle.ss_core.specs.Tree as core
use Rattle.ss_core.specs.Tree.{DefaultTree}
use Rattle.ss_core.specs.Chain.{IsChain, all_fields}
use Rattle.ss_core.specs.Types.{nullable}
use Rattle.ss_typed.specs.Tree.{ExprTree, IntOf, BoolOf, NullOf, ThisOf, LocalOf, ResultOf, BoundOf, IffOf, ImpliesOf, BinaryOf, IsOf, AsOf, NegateOf, NotOf, CastOf, FieldOf, ElementOf, LengthOf, OldOf, QuantifiedOf, StateOf, OwnersOf, NewOf, NewArrayOf, CallOf, StaticOf, BaseOf, ModifiedTree, OneOf, AllOf, ElementsOf, ParamTree, BodyTree, TypedTree}
use Rattle.ss_typed.specs.Types.{class_type, type_of}
use Rattle.ss_owners_rules.specs.Words.{Allowed, NoWord, Questions, EveryWord, allows_result, allows_old, allows_state, allows_question, unless, misplaced}
use Rattle.ss_expand_rules.specs.Calls.{has_call}
use Rattle.ss_typed.specs.Shapes.{is_this}
use Rattle.ss_expand_rules.specs.Numbers.{Numbers, number, plain}
use Rattle.ss_expand_rules.specs.Contracts.{named}
use Rattle.ss_expand_rules.specs.Bodies.{results}
use Rattle.ss_store_rules.specs.Changes.{below, is_array}
use Rattle.ss_store_rules.specs.Locals.{types_of, argument_types, local_types, argument_count, is_argument, result_number, is_result, is_bound, reads_only}
use Rattle.ss_store_rules.specs.Types.{Words, is_allowed, is_bool, has_class, is_reference, field_read_type, where_typed, typed, code_type, is_condition}
use Rattle.ss_store_rules.specs.Types as types
use Rattle.ss_store_rules.specs.Typed.{is_contract, is_entry, is_exit, is_named_by, is_named}
use Rattle.ss_expand_formed.proofs.Facts.{none_left}
use Rattle.ss_expand_formed.proofs.Searching.{at_back}
use Rattle.ss_expand_formed.proofs.Fit.{Context, Fit, IsRead}
use Rattle.ss_expand_formed.proofs.Plain.{Reads, bare, bare_bool, bare_reference, bare_class}
use Rattle.ss_expand_formed.proofs.ExpressionsWords.{words, Apart, plain_words}
use Rattle.ss_expand_formed.proofs.Readings.{after_params}
use Rattle.ss_expand_formed.proofs.Normal.{HasContract}
use Rattle.ss_expand_formed.proofs.Headings.{SameHeading}
use Rattle.ss_expand_formed.proofs.Contracts.{types_kept}
use Rattle.ss_expand_formed.proofs.Arguments.{in_arguments}
use Rattle.ss_expand_formed.proofs.Narrow.{Narrows, Same, Lower, AreNarrowed, bool_same, reference_same, array_same, below_stays, narrow_type}

-- ---- what is known of the contract of a written body

-- its conditions and terms see `this` and the parameters
abbrev pub contract_context : BodyTree → Context
contract_context d = record {
  is_static = d.flags.is_static;
  class = d.class;
  locals = (if d.flags.is_static then [] else ty.Ref (record { 0 = d.class }) true ∷ []) ++ map (λ (q : ParamTree). q.ty) d.params;
  result = d.result;
}

-- an expression of the contract with these words, without calls
pub record IsSound (P : TypedTree) (C : List core.ClassTree) (d : BodyTree) (w : Allowed) (e : ExprTree) : Type 0 where
  pub fit : Fit P C (contract_context d) 0 e
  pub callless : has_call e ≡ false
  pub words : misplaced w e ≡ []

pub record IsSoundCondition (P : TypedTree) (C : List core.ClassTree) (d : BodyTree) (w : Allowed) (e : ExprTree) : Type 0 where
  pub sound : IsSound P C d w e
  pub truth : is_bool (type_of e) ≡ true

pub data IsSoundTerm (P : TypedTree) (C : List core.ClassTree) (d : BodyTree) : ModifiedTree → Type 0 where
  SoundField : {e : ExprTree} {f : ℕ} (t : Ty) → IsSound P C d NoWord e → IsRead C (type_of e) f t → IsSoundTerm P C d (OneOf e f)
  SoundObject : {e : ExprTree} → IsSound P C d NoWord e → is_reference (type_of e) ≡ true → (is_this e ≡ true → d.flags.is_static ≡ false) → IsSoundTerm P C d (AllOf e)
  SoundElements : {e : ExprTree} → IsSound P C d NoWord e → has_class (is_array C) (type_of e) ≡ true → IsSoundTerm P C d (ElementsOf e)

-- ---- which locals an expression reads

module _ (P : TypedTree) (C : List core.ClassTree) (x : Context) (ns : Numbers) (among : ℕ → Bool) (w : Allowed) (locals : (n : ℕ) (t : Ty) → slice_get x.locals n ≡ Some t → among n ≡ true) (meant : ns.meant ≡ []) (outcome : allows_result w ≡ true → among ns.outcome ≡ true) (bound : (n : ℕ) → among (ns.first_bound + n) ≡ true) where
  abbrev ReadsOnly : ExprTree → Type 0
  ReadsOnly e = reads_only among (plain ns e) ≡ true

  allowed_if : (b : Bool) (p : Place) → unless b p ≡ [] → b ≡ true
  allowed_if true p h = refl
  allowed_if false p h = absurd (let z : ⊥ = cc in z)

  pub plain_reads : (k : ℕ) (e : ExprTree) → Fit P C x k e → misplaced w e ≡ [] → ReadsOnly e
  plain_reads k (IntOf p n) f h = refl
  plain_reads k (BoolOf p v) f h = refl
  plain_reads k (NullOf p) f h = refl
  plain_reads k (ThisOf p t) f h = locals 0 (class_type t true) f
  plain_reads k (LocalOf p n t) f h = ap among (ap (λ (ms : List ℕ). unwrap_or (slice_get ms n) n) meant) ∙ locals n t f
  plain_reads k (ResultOf p t) f h = outcome (allowed_if (allows_result w) p h)
  plain_reads k (BoundOf p n) f h = bound n
  plain_reads k (IffOf p a c) f h = let left = none_left (misplaced w a) (misplaced w c) h in and_from _ _ (plain_reads k a f.0 left.0) (plain_reads k c f.1 left.1)
  plain_reads k (ImpliesOf p a c) f h = let left = none_left (misplaced w a) (misplaced w c) h in and_from _ _ (plain_reads k a f.0 left.0) (plain_reads k c f.1 left.1)
  plain_reads k (BinaryOf p o a c) f h = let left = none_left (misplaced w a) (misplaced w c) h in and_from _ _ (plain_reads k a f.0 left.0) (plain_reads k c f.1 left.1)
  plain_reads k (IsOf p e t) f h = plain_reads k e f.0 h
  plain_reads k (AsOf p e t) f h = plain_reads k e f.0 h
  plain_reads k (NegateOf p e) f h = plain_reads k e f.0 h
  plain_reads k (NotOf p e) f h = plain_reads k e f.0 h
  plain_reads k (CastOf p t non_null e) f h = plain_reads k e f.0 h
  plain_reads k (FieldOf p e g t) f h = plain_reads k e f.0 h
  plain_reads k (ElementOf p a c) f h = let left = none_left (misplaced w a) (misplaced w c) h in and_from _ _ (plain_reads k a f.0 left.0) (plain_reads k c f.1 left.1)
  plain_reads k (LengthOf p e) f h = plain_reads k e f.0 h
  plain_reads k (OldOf p e) f h = plain_reads k e f (none_left (unless (allows_old w) p) (misplaced w e) h).1
  plain_reads k (QuantifiedOf p q name low high e) f h =
      let left = none_left (misplaced w low ++ misplaced w high) (misplaced w e) h in
      let first = none_left (misplaced w low) (misplaced w high) left.0 in
      and_from _ _ (and_from _ _ (plain_reads k low f.0 first.0) (plain_reads k high f.1 first.1)) (plain_reads (suc k) e f.2 left.1)
  plain_reads k (StateOf p v e) f h = plain_reads k e f.0 (none_left (unless (allows_state w v) p) (misplaced w e) h).1
  plain_reads k (OwnersOf p v a c) f h =
      let left = none_left (unless (allows_question w) p ++ misplaced w a) (misplaced w c) h in
      let first = none_left (unless (allows_question w) p) (misplaced w a) left.0 in
      and_from _ _ (plain_reads k a f.0 first.1) (plain_reads k c f.1 left.1)
  plain_reads k (NewOf p t es) f h = refl
  plain_reads k (NewArrayOf p t e) f h = refl
  plain_reads k (CallOf p e m t es) f h = refl
  plain_reads k (StaticOf p n t es) f h = refl
  plain_reads k (BaseOf p m t es) f h = refl

-- ---- locals of a body that has the contract

narrowed_if : (C : List core.ClassTree) (static : Bool) (a b : Ty) (ps ls rs : List Ty) → (static ≡ false → Narrows C (Some (nullable a)) (Some (nullable b))) → AreNarrowed C ((if static then [] else a ∷ []) ++ ps ++ ls ++ rs) ((if static then [] else b ∷ []) ++ ps ++ ls ++ rs)
narrowed_if C true a b ps ls rs h = record { count = refl; each = λ n. Same refl }
narrowed_if C false a b ps ls rs h = record { count = refl; each = at }
  where
    at : (n : ℕ) → Narrows C (bare (slice_get ((a ∷ []) ++ ps ++ ls ++ rs) n)) (bare (slice_get ((b ∷ []) ++ ps ++ ls ++ rs) n))
    at zero = h refl
    at (suc n) = Same refl

module _ (P : TypedTree) (C : List core.ClassTree) (chain : IsChain C) (y : core.BodyTree) (b : BodyTree) (bs : List BodyTree) (is : HasContract y b y.class bs) (d : BodyTree) (same : SameHeading d b) (under : d.flags.is_static ≡ false → below C y.class d.class ≡ true) (no_array : is_array C d.class ≡ false) where
  -- the body as one of the class that wrote the contract
  abbrev above : core.BodyTree
  above = record y { class = d.class }

  also_above : HasContract above b y.class bs
  also_above = record { params = is.params; result = is.result; static = is.static; pure = is.pure; numbers = is.numbers; place = is.place; size = count_same y.flags.is_static (types_of y.params) ∙ is.size; meant = is.meant; outcome = is.outcome; bound = is.bound; entry = is.entry; exit = is.exit; named = is.named }
    where
      count_same : (s : Bool) (ts : List Ty) → length ((if s then [] else ty.Ref (record { 0 = d.class }) true ∷ []) ++ ts) ≡ length ((if s then [] else ty.Ref (record { 0 = y.class }) true ∷ []) ++ ts)
      count_same true ts = refl
      count_same false ts = refl

  arguments_above : argument_types above ≡ (contract_context d).locals
  arguments_above =
      ap (λ (s : Bool). (if s then [] else ty.Ref (record { 0 = d.class }) true ∷ []) ++ types_of y.params) (is.static ∙ sym same.static)
      ∙ ap (λ ts. (if d.flags.is_static then [] else ty.Ref (record { 0 = d.class }) true ∷ []) ++ ts) (ap types_of is.params ∙ types_kept b.params ∙ sym same.types)

  count_above : argument_count above ≡ after_params b
  count_above = also_above.size

  in_above : (n : ℕ) (t : Ty) → slice_get (contract_context d).locals n ≡ Some t → slice_get (local_types above) n ≡ Some t
  in_above n t h = in_arguments above b y.class bs also_above n t (ap (λ ts. slice_get ts n) arguments_above ∙ h)

  number_is : (n : ℕ) → number is.numbers n ≡ n
  number_is n = ap (λ (ms : List ℕ). unwrap_or (slice_get ms n) n) is.meant

  outcome_at : (r : Option Ty) (t : Ty) → r ≡ Some t → slice_get ((argument_types above ++ types_of y.locals) ++ option_to_list r) is.numbers.outcome ≡ Some t
  outcome_at None t h = absurd (let z : ⊥ = cc in z)
  outcome_at (Some u) t h =
      let one = length-append (argument_types above) (types_of y.locals) in
      let two : length (types_of y.locals) ≡ length y.locals = length-map y.locals (λ (l : core.LocalTree). l.ty) in
      let three = count_above in
      let four = is.outcome in
      let place : is.numbers.outcome ≡ length (argument_types above ++ types_of y.locals) + 0 = omega arith in
      ap (slice_get ((argument_types above ++ types_of y.locals) ++ u ∷ [])) place ∙ at_back (argument_types above ++ types_of y.locals) (u ∷ []) 0 ∙ h

  results_count : (r : Option Ty) → length (option_to_list r) ≡ results r
  results_count None = refl
  results_count (Some t) = refl

  bound_above : length (local_types above) ≡ is.numbers.first_bound
  bound_above =
      let one = length-append (argument_types above) (types_of y.locals) in
      let two : length (types_of y.locals) ≡ length y.locals = length-map y.locals (λ (l : core.LocalTree). l.ty) in
      let three = length-append (argument_types above ++ types_of y.locals) (option_to_list y.result) in
      let four = results_count y.result in
      let five : results y.result ≡ results b.result = ap results is.result in
      let six = count_above in
      let seven = is.bound in
      omega arith

  this_above : (k : ℕ) → slice_get (contract_context d).locals 0 ≡ Some (class_type k true) → bare (slice_get (local_types above) 0) ≡ bare (Some (class_type k true))
  this_above k h = ap bare (in_above 0 (class_type k true) h)

  read : Reads C (contract_context d) is.numbers (local_types above)
  read = record {
    locals = λ n t h. ap bare (ap (slice_get (local_types above)) (number_is n) ∙ in_above n t h);
    this = λ k h. inl (this_above k h);
    result = λ t h. ap bare (outcome_at y.result t (is.result ∙ sym same.result ∙ h));
    bound = bound_above;
  }

  lowered : d.flags.is_static ≡ false → Narrows C (Some (nullable (ty.Ref (record { 0 = d.class }) true))) (Some (nullable (ty.Ref (record { 0 = y.class }) true)))
  lowered h = Lower d.class y.class false false refl refl (under h) no_array

  narrowed : AreNarrowed C (local_types above) (local_types y)
  narrowed = narrowed_if C y.flags.is_static (ty.Ref (record { 0 = d.class }) true) (ty.Ref (record { 0 = y.class }) true) (types_of y.params) (types_of y.locals) (option_to_list y.result) (λ h. lowered (same.static ∙ sym is.static ∙ h))

  -- ---- numbers

  count_here : argument_count y ≡ after_params b
  count_here = is.size

  argument_here : (n : ℕ) (t : Ty) → slice_get (contract_context d).locals n ≡ Some t → n < argument_count y
  argument_here n t h =
      let l = slice_get_within (argument_types above) n t (ap (λ ts. slice_get ts n) arguments_above ∙ h) in
      let one = count_above in
      let two = count_here in
      omega arith

  no_result : (n : ℕ) → n < result_number y → is_result y n ≡ false
  no_result n l = ap (λ z. is_some y.result && z) (ne_eqb n (result_number y) (λ e. omega arith)) ∙ and_none (is_some y.result)
    where
      and_none : (z : Bool) → (z && false) ≡ false
      and_none true = refl
      and_none false = refl

  past_result : (r : Option Ty) (n : ℕ) → y.result ≡ r → (is_some r && is.numbers.first_bound + n == result_number y) ≡ false
  past_result None n h = refl
  past_result (Some t) n h =
      let one : results b.result ≡ 1 = ap results (sym is.result ∙ h) in
      let two = is.bound in
      let three = count_here in
      ne_eqb (is.numbers.first_bound + n) (result_number y) (λ e. omega arith)

  apart : Apart y (contract_context d) is.numbers
  apart = record {
    locals = λ n t h. let l = argument_here n t h in ap (is_result y) (number_is n) ∙ no_result n (omega arith);
    this = λ t h. let l = argument_here 0 t h in no_result 0 (omega arith);
    bound = λ n. past_result y.result n refl;
  }

  bound_here : (n : ℕ) → is_bound y (is.numbers.first_bound + n) ≡ true
  bound_here n =
      let one = bound_above in
      let two = narrowed.count in
      le-leb (length (local_types y)) (is.numbers.first_bound + n) (omega arith)

  -- ---- expressions

  typed_here : (w : Allowed) (e : ExprTree) → IsSound P C d w e → typed C y (words w) (plain is.numbers e) ≡ types.type_of C (local_types y) (plain is.numbers e)
  typed_here w e s = ap (λ z. if z then types.type_of C (local_types y) (plain is.numbers e) else None) (plain_words P C y (contract_context d) is.numbers apart w 0 e s.fit s.callless s.words)

  narrow_here : (w : Allowed) (e : ExprTree) → IsSound P C d w e → Narrows C (bare (type_of e)) (typed C y (words w) (plain is.numbers e))
  narrow_here w e s = subst (Narrows C (bare (type_of e))) (sym (typed_here w e s)) (narrow_type P C chain (contract_context d) is.numbers (local_types above) (local_types y) read this_above narrowed e s.fit s.callless)

  condition_here : (w : Allowed) (e : ExprTree) → IsSoundCondition P C d w e → is_condition C y (words w) (plain is.numbers e) ≡ true
  condition_here w e s = bool_same C (bare (type_of e)) (typed C y (words w) (plain is.numbers e)) (narrow_here w e s.sound) ∙ bare_bool (type_of e) ∙ s.truth

  -- those at entry, and what is named, read arguments and bound names
  abbrev arguments_only : ℕ → Bool
  arguments_only n = is_argument y n || is_bound y n

  reads_arguments : (w : Allowed) → allows_result w ≡ false → (e : ExprTree) → IsSound P C d w e → reads_only arguments_only (plain is.numbers e) ≡ true
  reads_arguments w without e s =
      plain_reads P C (contract_context d) is.numbers arguments_only w
      (λ n t h. or_left (is_argument y n) (is_bound y n) (lt-ltb n (argument_count y) (argument_here n t h)))
      is.meant
      (λ h. absurd (false≢true (sym without ∙ h)))
      (λ n. or_right (is_argument y (is.numbers.first_bound + n)) (is_bound y (is.numbers.first_bound + n)) (bound_here n))
      0 e s.fit s.words

  -- those at exit the result too
  abbrev with_result : ℕ → Bool
  with_result n = is_argument y n || is_result y n || is_bound y n

  outcome_here : (r : Option Ty) → y.result ≡ r → (is_argument y is.numbers.outcome || (is_some r && is.numbers.outcome == result_number y) || is_bound y is.numbers.outcome) ≡ true
  outcome_here None h =
      let zero_results : results b.result ≡ 0 = ap results (sym is.result ∙ h) in
      let one = is.outcome in
      let two = is.bound in
      let bounds = bound_above in
      let count = narrowed.count in
      or_right (is_argument y is.numbers.outcome || false) (is_bound y is.numbers.outcome) (le-leb (length (local_types y)) is.numbers.outcome (omega arith))
  outcome_here (Some t) h =
      let one = is.outcome in
      let two = count_here in
      or_left _ (is_bound y is.numbers.outcome) (or_right (is_argument y is.numbers.outcome) _ (eq-eqb is.numbers.outcome (result_number y) (omega arith)))

  reads_with_result : (w : Allowed) (e : ExprTree) → IsSound P C d w e → reads_only with_result (plain is.numbers e) ≡ true
  reads_with_result w e s =
      plain_reads P C (contract_context d) is.numbers with_result w
      (λ n t h. or_left _ (is_bound y n) (or_left (is_argument y n) (is_result y n) (lt-ltb n (argument_count y) (argument_here n t h))))
      is.meant
      (λ h. outcome_here y.result refl)
      (λ n. or_right _ (is_bound y (is.numbers.first_bound + n)) (bound_here n))
      0 e s.fit s.words

  contract_is : (w : Words) (among : ℕ → Bool) (e : ExprTree) → is_contract C y w among (plain is.numbers e) ≡ (is_condition C y w (plain is.numbers e) && reads_only among (plain is.numbers e))
  contract_is w among (IntOf p n) = refl
  contract_is w among e = refl

  pub entry_here : (e : ExprTree) → IsSoundCondition P C d Questions e → is_entry C y (plain is.numbers e) ≡ true
  entry_here e s = contract_is (words Questions) arguments_only e ∙ and_from _ _ (condition_here Questions e s) (reads_arguments Questions refl e s.sound)

  pub exit_here : (e : ExprTree) → IsSoundCondition P C d EveryWord e → is_exit C y (plain is.numbers e) ≡ true
  exit_here e s = contract_is (words EveryWord) with_result e ∙ and_from _ _ (condition_here EveryWord e s) (reads_with_result EveryWord e s.sound)

  named_here : (test : Option Ty → Bool) (e : ExprTree) → IsSound P C d NoWord e → test (code_type C y (plain is.numbers e)) ≡ true → is_named_by C y test (plain is.numbers e) ≡ true
  named_here test e s h = and_from _ _ h (reads_arguments NoWord refl e s)

  this_is : (e : ExprTree) → is_this e ≡ true → (p : Place) × (plain is.numbers e ≡ core.LocalExpr p 0)
  this_is (ThisOf p t) h = (p, refl)
  this_is e h = absurd (false≢true h)

  pub term_here : (m : ModifiedTree) → IsSoundTerm P C d m → is_named C y (named is.numbers y.class m) ≡ true
  term_here (OneOf e f) (SoundField t s r) =
      let test = λ (c : ℕ). below C c r.field.class in
      let has : has_class test (code_type C y (plain is.numbers e)) ≡ true = below_stays C chain r.field.class (bare (type_of e)) (code_type C y (plain is.numbers e)) (narrow_here NoWord e s) (bare_class test (type_of e) ∙ r.has) in
      named_here (λ a. is_some (field_read_type C a (slice_get (all_fields C) f))) e s
      (ap (λ o. is_some (field_read_type C (code_type C y (plain is.numbers e)) o)) r.there ∙ ap (λ z. is_some (where_typed z (nullable r.field.field.ty))) has)
  term_here (AllOf e) (SoundObject s h instance) =
      ⊎_elim
      (λ this.
      let local = this_is e this in
      ap (λ z. is_named C y (if z then core.UptoOf (plain is.numbers e) y.class else core.AllOf (plain is.numbers e))) this
      ∙ ap (λ z. is_named C y (core.UptoOf z y.class)) local.1
      ∙ and_from _ _ (ap not (is.static ∙ sym same.static ∙ instance this)) (eq-eqb y.class y.class refl))
      (λ other.
      ap (λ z. is_named C y (if z then core.UptoOf (plain is.numbers e) y.class else core.AllOf (plain is.numbers e))) other
      ∙ named_here is_reference e s (reference_same C (bare (type_of e)) (code_type C y (plain is.numbers e)) (narrow_here NoWord e s) ∙ bare_reference (type_of e) ∙ h))
      (cases_Bool (is_this e))
  term_here (ElementsOf e) (SoundElements s h) =
      let over : has_class (is_array C) (bare (type_of e)) ≡ true = bare_class (is_array C) (type_of e) ∙ h in
      named_here (has_class (is_array C)) e s (ap (has_class (is_array C)) (array_same C (bare (type_of e)) (code_type C y (plain is.numbers e)) (narrow_here NoWord e s) over) ∙ over)
