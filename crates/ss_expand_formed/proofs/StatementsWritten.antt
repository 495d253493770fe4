-- The code of a written body passes, where its resolved statements fit.
use Rattle.std.proofs.Common.{◌≡◌, ℕ, zero, suc, ◌+◌, ◌-◌, ◌<◌, ◌≤◌, List, [], ◌∷◌, ◌++◌, length, Bool, true, false, Option, Some, None, refl, sym, ◌∙◌, ap, subst, arith, inl, inr, ◌⊎◌, ⊎_elim, append_assoc}
use Rattle.std.specs.Prelude.{◌==◌, if◌then◌else◌, slice_get, is_some, option_to_list, unwrap_or}
use Rattle.std.specs.List.{list_all}
use Rattle.std.proofs.lemmas.Bool.{and_parts, and_from, cases_Bool, cases_lt, ne_eqb, false≢true}
use Rattle.std.proofs.lemmas.Option.{slice_get_within, slice_get_past}
use Rattle.std.proofs.lemmas.List.{length-append, length-map}
use Rattle.ss_core.specs.declared.names.Ty.{Ty}
use Rattle.ss_core.specs.declared.names.Ty.TheVariants as ty
use Rattle.ss_core.specs.Tree as core
use Rattle.ss_core.specs.Tree.{LocalExpr, AssignStmt}
use Rattle.ss_core.specs.View.{code_of}
use Rattle.ss_core.specs.Chain.{is_type, is_declared, all_fields, IsChain}
use Rattle.ss_core.proofs.Chains.{below_self, sub_self}
use Rattle.ss_core.specs.Types.{nullable}
use Rattle.ss_typed.specs.Tree.{BlockTree, ParamTree, BodyTree, TypedTree}
use Rattle.ss_typed.specs.Types.{class_type}
use Rattle.ss_expand_rules.specs.Numbers.{number}
use Rattle.ss_expand_rules.specs.Contracts.{first_param}
use Rattle.ss_expand_rules.specs.Bodies.{block_assigns, assigned_from, assigned_params, meant_from, first_copy, meant, results, numbers, copies, temporaries_from, temporary_types, temporary_count, copying_from, copying, statements, code_with, code, written_body}
use Rattle.ss_store_rules.specs.Locals.{types_of, this_types, argument_types, local_types, result_number, is_result, each}
use Rattle.ss_store_rules.specs.Types.{fits_type, code_type}
use Rattle.ss_store_rules.specs.Typed.{fits_declared, is_typed, is_exposable, has_exposable}
use Rattle.ss_expand_formed.proofs.Facts.{and_false}
use Rattle.ss_expand_formed.proofs.Choices.{each_more}
use Rattle.ss_expand_formed.proofs.Searching.{at_back}
use Rattle.ss_expand_formed.proofs.Shape.{each-append}
use Rattle.ss_expand_formed.proofs.Counted.{stmts_same}
use Rattle.ss_expand_formed.proofs.Locals.{have_numbers}
use Rattle.ss_expand_formed.proofs.Growing.{begins_append}
use Rattle.ss_expand_formed.proofs.Numbers.{in_middle, types_append, param_types, params_types, copies_types, temporaries_types}
use Rattle.ss_expand_formed.proofs.Environments.{context_of}
use Rattle.ss_expand_formed.proofs.Plain.{bare}
use Rattle.ss_expand_formed.proofs.ContractNumbers.{result_there, contract_apart}
use Rattle.ss_expand_formed.proofs.Fits.{FitAll}
use Rattle.ss_expand_formed.proofs.Wider.{Wider}
use Rattle.ss_expand_formed.proofs.Values.{Frame, HasCalls, Agrees, passes, Passing, HasMade, code_is, local_is}
use Rattle.ss_expand_formed.proofs.StatementsPass.{stmts_pass}

-- ---- what a parameter is meant by

module _ (block : BlockTree) where
  -- its own number, or that of a copy of its type
  abbrev Means : ℕ → ℕ → List ParamTree → ℕ → ℕ → Ty → Type 0
  Means copy x qs i m t = (m ≡ x + i) ⊎ ((j : ℕ) × (m ≡ copy + j) × (slice_get (param_types (assigned_from block x qs)) j ≡ Some t))

  meant_type : (copy x : ℕ) (qs : List ParamTree) (i m : ℕ) (t : Ty) → slice_get (param_types qs) i ≡ Some t → slice_get (meant_from block copy x qs) i ≡ Some m → Means copy x qs i m t
  meant_type copy x [] i m t h g = absurd (let z : ⊥ = cc in z)
  meant_type copy x (q ∷ qs) zero m t h g =
      ⊎_elim
      (λ yes.
      let is : Some copy ≡ Some m = rw yes at g in
      rw yes (inr (0, (let e : copy ≡ m = cc in omega arith), h)))
      (λ no.
      let is : Some x ≡ Some m = rw no at g in
      inl (let e : x ≡ m = cc in omega arith))
      (cases_Bool (block_assigns x block))
  meant_type copy x (q ∷ qs) (suc i) m t h g =
      ⊎_elim
      (λ yes.
      let r = meant_type (copy + 1) (x + 1) qs i m t h (rw yes at g) in
      ⊎_elim (λ e. inl (omega arith)) (λ k. let e = k.1 in rw yes (inr (suc k.0, omega arith, k.2))) r)
      (λ no.
      let r = meant_type copy (x + 1) qs i m t h (rw no at g) in
      ⊎_elim (λ e. inl (omega arith)) (λ k. rw no (inr (k.0, k.1, k.2))) r)
      (cases_Bool (block_assigns x block))

  meant_long : (copy x : ℕ) (qs : List ParamTree) → length (meant_from block copy x qs) ≡ length qs
  meant_long copy x [] = refl
  meant_long copy x (q ∷ qs) = ⊎_elim (λ yes. rw yes (ap suc (meant_long (copy + 1) (x + 1) qs))) (λ no. rw no (ap suc (meant_long copy (x + 1) qs))) (cases_Bool (block_assigns x block))

meant_after : (static : Bool) (ms : List ℕ) (i : ℕ) → slice_get ((if static then [] else 0 ∷ []) ++ ms) ((if static then 0 else 1) + i) ≡ slice_get ms i
meant_after true ms i = let e : 0 + i ≡ i = omega arith in ap (slice_get ms) e
meant_after false ms i = let e : 1 + i ≡ suc i = omega arith in ap (slice_get (0 ∷ ms)) e

this_number : (static : Bool) (ms : List ℕ) (n : ℕ) → n < (if static then 0 else 1) → unwrap_or (slice_get ((if static then [] else 0 ∷ []) ++ ms) n) n ≡ n
this_number true ms n l = absurd (omega arith)
this_number false ms zero l = refl
this_number false ms (suc n) l = absurd (omega arith)

look : (o : Option ℕ) (x : ℕ) → ((m : ℕ) × (o ≡ Some m) × (unwrap_or o x ≡ m)) ⊎ ((o ≡ None) × (unwrap_or o x ≡ x))
look None x = inr (refl, refl)
look (Some m) x = inl (m, refl, refl)

found : (ts : List Ty) (i : ℕ) → i < length ts → (t : Ty) × (slice_get ts i ≡ Some t)
found [] i l = absurd (omega arith)
found (t ∷ ts) zero l = (t, refl)
found (t ∷ ts) (suc i) l = found ts i (omega arith)

module _ (c : core.CoreTree) (p : TypedTree) (b : BodyTree) (bs : List BodyTree) where
  abbrev pub y : core.BodyTree
  y = written_body p b bs

  abbrev N : ℕ
  N = temporary_count p b

  abbrev A : List Ty
  A = this_types y

  abbrev P : List Ty
  P = param_types b.params

  abbrev L : List Ty
  L = types_of b.locals

  abbrev Q : List Ty
  Q = param_types (assigned_params b)

  abbrev T : List Ty
  T = temporary_types p b

  -- all locals but the result
  abbrev front : List Ty
  front = argument_types y ++ types_of y.locals

  front_is : front ≡ (A ++ P) ++ ((L ++ Q) ++ T)
  front_is =
      ap (λ ts. (A ++ ts) ++ types_of (b.locals ++ copies b ++ temporaries_from 0 T)) (params_types b.params)
      ∙ ap (λ ts. (A ++ P) ++ ts) (types_append (b.locals ++ copies b) (temporaries_from 0 T) ∙ ap (λ ts. ts ++ types_of (temporaries_from 0 T)) (types_append b.locals (copies b) ∙ ap (λ ts. L ++ ts) (copies_types (assigned_params b))) ∙ ap (λ ts. (L ++ Q) ++ ts) (temporaries_types 0 T))

  front_long : length front ≡ result_number y
  front_long = length-append (argument_types y) (types_of y.locals) ∙ ap (λ n. length (argument_types y) + n) (length-map y.locals (λ (l : core.LocalTree). l.ty))

  abbrev pub frame : Frame
  frame = record {
    program = c;
    body = y;
    typed = p;
    written = b;
    numbers = numbers b N;
    context = record { is_static = b.flags.is_static; class = b.class; locals = front; result = b.result };
    first = first_param b + length b.params;
  }

  this_size : first_param b ≡ length A
  this_size = by b.flags.is_static
    where
      by : (static : Bool) → (if static then 0 else 1) ≡ length (if static then [] else ty.Ref (record { 0 = b.class }) true ∷ [])
      by true = refl
      by false = refl

  param_size : length P ≡ length b.params
  param_size = length-map b.params (λ (q : ParamTree). q.ty)

  local_size : length L ≡ length b.locals
  local_size = length-map b.locals (λ (l : core.LocalTree). l.ty)

  copy_size : length Q ≡ length (assigned_params b)
  copy_size = length-map (assigned_params b) (λ (q : ParamTree). q.ty)

  pub in_locals : (n : ℕ) (t : Ty) → slice_get front n ≡ Some t → slice_get (local_types y) n ≡ Some t
  in_locals n t h = begins_append front (option_to_list b.result) n t h

  param_at : (i : ℕ) (t : Ty) → slice_get P i ≡ Some t → slice_get front (first_param b + i) ≡ Some t
  param_at i t h =
      let e : (A ++ P) ++ ((L ++ Q) ++ T) ≡ A ++ (P ++ ((L ++ Q) ++ T)) = simp append_assoc in
      ap (λ ts. slice_get ts (first_param b + i)) (front_is ∙ e) ∙ in_middle A P ((L ++ Q) ++ T) (first_param b) i t this_size h

  copy_at : (i : ℕ) (t : Ty) → slice_get Q i ≡ Some t → slice_get front (first_copy b + i) ≡ Some t
  copy_at i t h =
      let e : (A ++ P) ++ ((L ++ Q) ++ T) ≡ (A ++ (P ++ L)) ++ (Q ++ T) = simp append_assoc in
      let one = length-append A (P ++ L) in
      let two = length-append P L in
      let n : first_copy b ≡ length (A ++ (P ++ L)) = omega (arith, this_size, param_size, local_size) in
      ap (λ ts. slice_get ts (first_copy b + i)) (front_is ∙ e) ∙ in_middle (A ++ (P ++ L)) Q T (first_copy b) i t n h

  abbrev first_temporary : ℕ
  first_temporary = first_copy b + length (assigned_params b)

  temporary_at : (i : ℕ) (t : Ty) → slice_get T i ≡ Some t → slice_get front (first_temporary + i) ≡ Some t
  temporary_at i t h =
      let e : (A ++ P) ++ ((L ++ Q) ++ T) ≡ (A ++ (P ++ (L ++ Q))) ++ T = simp append_assoc in
      let one = length-append A (P ++ (L ++ Q)) in
      let two = length-append P (L ++ Q) in
      let three = length-append L Q in
      let n : first_temporary ≡ length (A ++ (P ++ (L ++ Q))) = omega (arith, this_size, param_size, local_size, copy_size) in
      ap (λ ts. slice_get ts (first_temporary + i)) (front_is ∙ e) ∙ ap (λ k. slice_get ((A ++ (P ++ (L ++ Q))) ++ T) (k + i)) n ∙ at_back (A ++ (P ++ (L ++ Q))) T i ∙ h

  pub context_at : (n : ℕ) (t : Ty) → slice_get (context_of b).locals n ≡ Some t → slice_get front n ≡ Some t
  context_at n t h =
      let e : (A ++ P) ++ ((L ++ Q) ++ T) ≡ (A ++ P ++ L) ++ (Q ++ T) = simp append_assoc in
      ap (λ ts. slice_get ts n) (front_is ∙ e) ∙ begins_append (A ++ P ++ L) (Q ++ T) n t h

  pub wider : Wider (context_of b) frame.context
  wider = record { is_static = refl; class = refl; locals = context_at; result = refl }

  -- ---- numbers

  abbrev ms : List ℕ
  ms = meant_from b.block (first_copy b) (first_param b) b.params

  pub past_params : (n : ℕ) → first_param b + length b.params ≤ n → number (numbers b N) n ≡ n
  past_params n l =
      let i = n - first_param b in
      let e : first_param b + i ≡ n = omega arith in
      let size = meant_long b.block (first_copy b) (first_param b) b.params in
      ap (λ o. unwrap_or o n) (ap (slice_get (meant b)) (sym e) ∙ meant_after b.flags.is_static ms i ∙ slice_get_past ms i (omega arith))

  -- a local is meant by one of its type
  pub number_at : (n : ℕ) (t : Ty) → slice_get front n ≡ Some t → slice_get front (number (numbers b N) n) ≡ Some t
  number_at n t h =
      ⊎_elim
      (λ this. ap (slice_get front) (this_number b.flags.is_static ms n this) ∙ h)
      (λ behind.
      ⊎_elim
      (λ param. param_number (n - first_param b) (let e : first_param b + (n - first_param b) ≡ n = omega arith in e) param)
      (λ past. ap (slice_get front) (past_params n past) ∙ h)
      (cases_lt n (first_param b + length b.params)))
      (cases_lt n (first_param b))
    where
      param_number : (i : ℕ) → first_param b + i ≡ n → n < first_param b + length b.params → slice_get front (number (numbers b N) n) ≡ Some t
      param_number i e l =
          let looked : slice_get (meant b) n ≡ slice_get ms i = ap (slice_get (meant b)) (sym e) ∙ meant_after b.flags.is_static ms i in
          ⊎_elim
          (λ k.
          let is : number (numbers b N) n ≡ k.0 = k.2 in
          ⊎_elim
          (λ own. ap (slice_get front) (is ∙ own ∙ e) ∙ h)
          (λ copy. ap (slice_get front) (is ∙ copy.1) ∙ copy_at copy.0 t copy.2)
          (meant_type b.block (first_copy b) (first_param b) b.params i k.0 t (param_there i e l) (sym looked ∙ k.1)))
          (λ none. ap (slice_get front) none.1 ∙ h)
          (look (slice_get (meant b) n) n)
        where
          param_there : (i : ℕ) → first_param b + i ≡ n → n < first_param b + length b.params → slice_get P i ≡ Some t
          param_there i e l =
              let s = param_size in
              let f = found P i (omega arith) in
              f.1 ∙ sym (param_at i f.0 f.1) ∙ ap (slice_get front) e ∙ h

  front_apart : (n : ℕ) (t : Ty) → slice_get front n ≡ Some t → is_result y n ≡ false
  front_apart n t h =
      let l = slice_get_within front n t h in
      let e = front_long in
      and_false (is_some b.result) (n == result_number y) (ne_eqb n (result_number y) (λ same. omega arith))

  -- ---- the code

  module _ (chain : IsChain c.classes) (fields : all_fields c.classes ≡ all_fields p.classes) (calls : HasCalls frame) (static : b.flags.ctor ≡ true → b.flags.is_static ≡ false) (class : is_declared c.classes b.class ≡ true) (known : list_all (is_type c.classes) P ≡ true) where
    this_exposable : b.flags.is_static ≡ false → is_exposable c.classes y 0 b.class ≡ true
    this_exposable s = and_from _ _ class (rw s (below_self c.classes b.class))

    agrees : Agrees frame
    agrees = record {
      chain = chain;
      fields = fields;
      reads = record {
        locals = λ n t h. ap bare (in_locals (number (numbers b N) n) t (number_at n t h));
        this = λ d h. inl (ap bare (in_locals 0 (class_type d true) h));
        result = λ t h. ap bare (result_there p b bs t h);
        bound = (have_numbers p b bs).bound;
      };
      apart = record {
        locals = λ n t h. front_apart (number (numbers b N) n) t (number_at n t h);
        this = λ t h. front_apart 0 t h;
        bound = (contract_apart p b bs).bound;
      };
      exact = λ t h. in_locals 0 (class_type t true) h;
      declared = past_params;
      result = refl;
      returned = refl;
      class = refl;
      this = λ k. this_exposable (static k);
      calls = calls;
    }

    type_fits : (t : Ty) → is_type c.classes t ≡ true → fits_type c.classes (nullable t) t ≡ true
    type_fits ty.Int h = refl
    type_fits ty.Bool h = refl
    type_fits ty.Null h = absurd (false≢true h)
    type_fits (ty.Ref t n) h = sub_self c.classes t.0

    copying_passes : (copy x : ℕ) (qs : List ParamTree) → ((i : ℕ) (t : Ty) → slice_get (param_types qs) i ≡ Some t → slice_get front (x + i) ≡ Some t) → ((i : ℕ) (t : Ty) → slice_get (param_types (assigned_from b.block x qs)) i ≡ Some t → slice_get front (copy + i) ≡ Some t) →
        list_all (is_type c.classes) (param_types qs) ≡ true → Passing frame (copying_from b.block copy x qs)
    copying_passes copy x [] param copied types_known = refl
    copying_passes copy x (q ∷ qs) param copied types_known =
        let both = and_parts (is_type c.classes q.ty) (list_all (is_type c.classes) (param_types qs)) types_known in
        ⊎_elim
        (λ yes.
        let there : (i : ℕ) (t : Ty) → slice_get (q.ty ∷ param_types (assigned_from b.block (x + 1) qs)) i ≡ Some t → slice_get front (copy + i) ≡ Some t = rw yes at copied in
        let here : slice_get front x ≡ Some q.ty = subst (λ k. slice_get front k ≡ Some q.ty) (let e : x + 0 ≡ x = omega arith in e) (param 0 q.ty refl) in
        let new : slice_get front copy ≡ Some q.ty = subst (λ k. slice_get front k ≡ Some q.ty) (let e : copy + 0 ≡ copy = omega arith in e) (there 0 q.ty refl) in
        let read = code_is frame agrees (LocalExpr q.place x) (Some (nullable q.ty)) (local_is frame agrees q.place x q.ty (in_locals x q.ty here) (front_apart x q.ty here)) in
        let fit : is_typed c y (AssignStmt q.place copy (LocalExpr q.place x)) ≡ true = ap (λ a. fits_declared c.classes a (slice_get (local_types y) copy)) read ∙ ap (fits_declared c.classes (Some (nullable q.ty))) (in_locals copy q.ty new) ∙ type_fits q.ty both.0 in
        let rest = copying_passes (copy + 1) (x + 1) qs (shifted x (param_types qs) q.ty param) (shifted copy (param_types (assigned_from b.block (x + 1) qs)) q.ty there) both.1 in
        rw yes (and_from _ _ (and_from _ _ fit refl) rest))
        (λ other.
        let there : (i : ℕ) (t : Ty) → slice_get (param_types (assigned_from b.block (x + 1) qs)) i ≡ Some t → slice_get front (copy + i) ≡ Some t = rw other at copied in
        rw other (copying_passes copy (x + 1) qs (shifted x (param_types qs) q.ty param) there both.1))
        (cases_Bool (block_assigns x b.block))
      where
        shifted : (at : ℕ) (ts : List Ty) (u : Ty) → ((i : ℕ) (t : Ty) → slice_get (u ∷ ts) i ≡ Some t → slice_get front (at + i) ≡ Some t) → (i : ℕ) (t : Ty) → slice_get ts i ≡ Some t → slice_get front (at + 1 + i) ≡ Some t
        shifted at ts u h i t e = subst (λ k. slice_get front k ≡ Some t) (let e : at + suc i ≡ at + 1 + i = omega arith in e) (h (suc i) t e)

    -- each statement of the elaborated code passes
    pub written_passes : FitAll p c.classes (context_of b) b.flags.ctor (first_param b + length b.params) (statements p b) → each (passes frame) (code_of (code p b)) ≡ true
    written_passes f =
        let first = first_temporary in
        let same : (code_with p b N).made ≡ temporary_types p b = stmts_same p b (meant b) first (first + N) (first + 0) (first + N + results b.result) (first + 0 + results b.result) [] (statements p b) [] in
        let made : HasMade frame (code_with p b N).made = λ i t h. (let there = temporary_at i t (ap (λ ts. slice_get ts i) (sym same) ∙ h) in (in_locals (first_temporary + i) t there, front_apart (first_temporary + i) t there, there)) in
        each-append (passes frame) (copying b) (code_with p b N).code (copying_passes (first_copy b) (first_param b) b.params param_at copy_at known) (stmts_pass frame agrees (context_of b) wider [] (statements p b) [] refl f made)

    pub written_typed : FitAll p c.classes (context_of b) b.flags.ctor (first_param b + length b.params) (statements p b) → each (is_typed c y) y.code ≡ true
    written_typed f = each_more (passes frame) (is_typed c y) (λ s h. (and_parts (is_typed c y s) (has_exposable c.classes y s) h).0) y.code (written_passes f)

    pub written_exposes : FitAll p c.classes (context_of b) b.flags.ctor (first_param b + length b.params) (statements p b) → each (has_exposable c.classes y) y.code ≡ true
    written_exposes f = each_more (passes frame) (has_exposable c.classes y) (λ s h. (and_parts (is_typed c y s) (has_exposable c.classes y s) h).1) y.code (written_passes f)
