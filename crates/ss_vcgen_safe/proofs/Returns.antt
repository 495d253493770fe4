-- Returns: the conditions at exit and the frame condition hold.
use Rattle.std.proofs.Common.{◌≡◌, ℕ, zero, suc, List, [], ◌∷◌, ◌++◌, length, Bool, true, false, not, ◌&&◌, ◌||◌, Ok, refl, sym, ◌∙◌, ap, subst, length-append, arith}
use Rattle.std.specs.Prelude.{Option, Some, None, is_some, is_none, slice_get, option_to_list, if◌then◌else◌}
use Rattle.std.specs.List.{list_all}
use Rattle.std.proofs.lemmas.Bool.{false≢true, and_parts}
use Rattle.ss_core.specs.declared.names.Kind.TheVariants as kind
use Rattle.ss_core.specs.declared.names.Place.{Place}
use Rattle.ss_core.specs.declared.names.Ty.{Ty}
use Rattle.ss_core.specs.Tree.{ClassTree, ExprTree, LocalTree, ReturnStmt, BodyTree}
use Rattle.ss_store_rules.specs.declared.Value.{Value as ObjectValue}
use Rattle.ss_store_rules.specs.declared.Value.TheVariants as value
use Rattle.ss_store_rules.specs.Store.{Object}
use Rattle.ss_store_rules.specs.Assigned.{reads_assigned}
use Rattle.ss_store_rules.specs.Good.{has_type, IsReady}
use Rattle.ss_store_rules.specs.Locals.{argument_types, local_types, types_of, result_number}
use Rattle.ss_store_rules.specs.NonNull.{is_this_object}
use Rattle.ss_store_rules.specs.States.{AreGoodLocals}
use Rattle.ss_store_rules.specs.Typed.{has_type_in, is_returned}
use Rattle.ss_store_rules.specs.Types.{code_type}
use Rattle.ss_store_rules.specs.Values.{setting}
use Rattle.ss_store_rules.specs.Values as run
use Rattle.ss_machine_rules.specs.Frame.{is_kept}
use Rattle.ss_machine_rules.specs.States.{put, locals_at_entry}
use Rattle.ss_machine_rules.specs.Steps.{all_hold, result_local, result_value}
use Rattle.ss_machine_typed.specs.Settings.{AreGoodArguments}
use Rattle.ss_machine_typed.proofs.First.{entered_locals, put_locals}
use Rattle.ss_machine_good.proofs.Calls.{one_ready}
use Rattle.ss_machine_good.proofs.Steps.{value_fits}
use Rattle.ss_logic.specs.Values.{Table, Structure}
use Rattle.ss_logic.specs.Express.{Meant, element_sort}
use Rattle.ss_logic_means.specs.Sorts.{HasSort}
use Rattle.ss_logic_tables.specs.Spans.{AreArguments}
use Rattle.ss_logic_tables.proofs.Contexts.{term_argument, plain_exit_arguments, exit_arguments}
use Rattle.ss_sound_runs.proofs.Exits.{exits_read}
use Rattle.ss_sound_runs.proofs.Spans.{frames_read}
use Rattle.ss_vcgen_heaps.specs.Contracts.{defaults_meant, contract_context, conditions}
use Rattle.ss_vcgen_heaps.specs.Positions.{Position, Walk, check, check_all, evaluate, meant_at, with_term, term_for}
use Rattle.ss_vcgen_heaps.specs.Obligations.{arguments_at, result_settled, frame_formula, return_with, AreValid}
use Rattle.ss_sound_outcomes.specs.Points.{Activation, Point, scene}
use Rattle.ss_sound_outcomes.specs.Outcomes.{Has, with_local, locals_at_exit}
use Rattle.ss_vcgen_safe.specs.At.{IsAlike, activation}
use Rattle.ss_vcgen_safe.proofs.Alike.{alike_self}
use Rattle.ss_vcgen_safe.proofs.Keeps.{checked, conditions_checked}
use Rattle.ss_vcgen_safe.proofs.Leads.{leads_check, leads_check_all, leads_evaluate, leads_with_term}
use Rattle.ss_vcgen_safe.proofs.Same.{same_check_all, same_evaluate, at_like}
use Rattle.ss_vcgen_safe.specs.Goes.{IsEntered, IsHere, Goes}
use Rattle.ss_vcgen_safe.proofs.Evaluates.{good_at, evaluated, meaning_on}
use Rattle.ss_vcgen_safe.proofs.Settles.{fitting_sort, IsSettled, settled_one}
use Rattle.ss_vcgen_safe.proofs.Arguments.{has_arguments, arguments_good, arguments_are, frame_holds, exit_means}
use Rattle.ss_vcgen_safe.proofs.Plain.{has_value, fitting_is_some}

-- ---- the locals where a body is left

get_end : {A : Type 0} (xs : List A) (y : A) (n : ℕ) → n ≡ length xs → slice_get (xs ++ y ∷ []) n ≡ Some y
get_end [] y zero e = refl
get_end [] y (suc n) e = absurd (omega (arith, e))
get_end (x ∷ xs) y zero e = absurd (omega (arith, e))
get_end (x ∷ xs) y (suc n) e = get_end xs y n (omega (arith, e))

local_count : (ls : List LocalTree) → length (types_of ls) ≡ length ls
local_count [] = refl
local_count (l ∷ ls) = ap suc (local_count ls)

result_type : (b : BodyTree) (t : Ty) → b.result ≡ Some t → slice_get (local_types b) (result_number b) ≡ Some t
result_type b t is =
    let front = argument_types b ++ types_of b.locals in
    let sum = length-append (argument_types b) (types_of b.locals) in
    let others = local_count b.locals in
    ap (λ (o : Option Ty). slice_get (front ++ option_to_list o) (result_number b)) is ∙ get_end front t (result_number b) (omega (arith, sum, others))

pub exit_good : (cs : List ClassTree) (s : List Object) (b : BodyTree) (arguments : List ObjectValue) → AreGoodArguments cs s b arguments → (v : ObjectValue) → ((t : Ty) → b.result ≡ Some t → (has_type cs s t v ≡ true) × IsReady s v) → AreGoodLocals cs s b (locals_at_exit b arguments v)
exit_good cs s b arguments good v may = one_of b.result refl
  where
    one_of : (o : Option Ty) → b.result ≡ o → AreGoodLocals cs s b (put (if is_some o then Some (result_number b) else None) v (locals_at_entry b arguments))
    one_of None e = entered_locals cs s b arguments good
    one_of (Some t) e = let h = may t e in put_locals cs s b (locals_at_entry b arguments) (result_number b) t v (entered_locals cs s b arguments good) (result_type b t e) h.0 h.1

-- a body with a result is no constructor
no_constructor : (ctor static delayed : Bool) (r : Option Ty) (t : Ty) → ((not ctor || not static && is_none r) && (not delayed || ctor)) ≡ true → r ≡ Some t → ctor ≡ false
no_constructor false static delayed r t h e = refl
no_constructor true static delayed r t h e =
    let none = (and_parts (not static) (is_none r) (and_parts (not static && is_none r) (not delayed || true) h).0).1 in
    absurd (false≢true (sym (ap (λ (o : Option Ty). is_none o) e) ∙ none))

module _ (w : Walk) (before : List Object) (table : Table) (arguments : List ObjectValue) (entered : IsEntered w before arguments) (xs : ℕ → Bool) (p : Point) where
  abbrev cs : List ClassTree
  cs = w.program.classes

  abbrev b : BodyTree
  b = w.body

  abbrev a : Activation
  a = activation w before table

  -- what a return asks of its result
  abbrev Leaves : ObjectValue → Type 0
  Leaves v = let q = with_local (result_local b) v p in (all_hold b.exit (scene a q) ≡ true) × (is_kept (record { classes = cs; body = b; locals = q.locals; entry = before; now = p.store; outside = [] }) ≡ true)

  -- at the position k, where the result means ms
  abbrev met_at : Place → Position → List Meant → Position
  met_at at k ms = check_all w kind.Postcondition at (conditions b.exit (contract_context cs b k.store w.entry (arguments_at w k) ms)) k

  left_at : (at : Place) (m : Structure) (k : Position) → IsHere w before table arguments xs m k p → (ms : List Meant) (v : ObjectValue) → ((t : Ty) → b.result ≡ Some t → (has_type cs p.store t v ≡ true) × IsReady p.store v) →
      ((m' : Structure) → IsAlike k.next m m' → AreArguments cs m' (local_types b) (arguments_at w k ++ defaults_meant (types_of b.locals) ++ ms) (locals_at_exit b arguments v)) →
      AreValid cs (check w kind.Frame at (frame_formula w [] (met_at at k ms)) (met_at at k ms)).listed → Leaves v
  left_at at m k here ms v may meant valid =
      let met = met_at at k ms in
      let f = frame_formula w [] met in
      let c = contract_context cs b k.store w.entry (arguments_at w k) ms in
      let s = setting cs p.store before (locals_at_exit b arguments v) in
      let good = exit_good cs p.store b arguments (arguments_good w before table arguments entered xs m k p here) v may in
      let held = conditions_checked w before table m p kind.Postcondition at b.exit c s k (λ m' alike. exit_means w before table arguments entered xs m k p here m' alike ms v good (meant m' alike))
      ((leads_check w kind.Frame at f met).listed valid) here.at.agrees in
      let here' : IsHere w before table arguments xs m met p =
      record { at = at_like w before table xs m m k met p (same_check_all w kind.Postcondition at (conditions b.exit c) k).like held.1 here.at; assigned = here.assigned; same = here.same } in
      let kept = checked w before table m p kind.Frame at f met valid here'.at.agrees in
      let self = alike_self met.next m in
      let frame = frame_holds w before table arguments entered xs m met p here' m self [] [] tt (kept.0 m self) in
      let has = has_arguments w before table arguments entered xs m k p here in (
        exits_read w.program b entered.body before p.store arguments p.locals v has ∙ held.0,
        frames_read w.program b entered.body before p.store [] arguments p.locals v has ∙ frame,
      )

  module _ (at : Place) (m : Structure) (k : Position) (here : IsHere w before table arguments xs m k p) where
    -- a return without a result
    plain_return : b.result ≡ None → AreValid cs (return_with w at None k).listed → Leaves value.Null
    plain_return none valid =
        left_at at m k here [] value.Null (λ t e. let no : ⊥ = cc in absurd no)
        (λ m' alike. plain_exit_arguments cs m' b (arguments_at w k) arguments (arguments_are w before table arguments entered xs m k p here m' alike) none value.Null) valid

    module _ (e : ExprTree) (t : Ty) (is : b.result ≡ Some t) (reads : reads_assigned b xs e ≡ true) (typed : has_type_in cs b e t ≡ true) (valid : AreValid cs (return_with w at (Some e) k).listed) where
      abbrev there : Position
      there = evaluate w e k

      sort_is : element_sort (code_type cs b e) ≡ element_sort b.result
      sort_is = fitting_sort cs (code_type cs b e) t typed ∙ ap element_sort (sym is)

      abbrev after_it : Position
      after_it = with_term (element_sort b.result) (meant_at w e there) there

      abbrev result_is : List Meant
      result_is = result_settled w (Some e) there

      value_may : (v : ObjectValue) → run.value_of e (scene a p) ≡ Ok v → (u : Ty) → b.result ≡ Some u → (has_type cs p.store u v ≡ true) × IsReady p.store v
      value_may v has u e' =
          let good = good_at w before table entered.program xs m k p here.at in
          let plain = no_constructor b.flags.ctor b.flags.is_static b.flags.delayed b.result t entered.body.flags is in
          let same : t ≡ u = let both : Some t ≡ Some u = sym is ∙ e' in cc in
          subst (λ (r : Ty). (has_type cs p.store r v ≡ true) × IsReady p.store v) same
          (value_fits (scene a p) b b.flags.ctor good e t v typed has, one_ready (scene a p) b b.flags.ctor good e t v typed (ap (λ c. c && is_this_object e) plain) has)

      with_result : (v : ObjectValue) → run.value_of e (scene a p) ≡ Ok v → IsSettled w before table xs m p there e (element_sort b.result) v → Leaves v
      with_result v has z =
          let m' = z.term.m' in
          let here' : IsHere w before table arguments xs m' after_it p = record { at = z.at; assigned = here.assigned; same = here.same } in
          left_at at m' after_it here' result_is v (value_may v has)
          (λ m'' alike.
          exit_arguments cs m'' b (arguments_at w after_it) arguments (arguments_are w before table arguments entered xs m' after_it p here' m'' alike) t is _ v
          (term_argument cs m'' t (term_for (element_sort b.result) (meant_at w e there) there) v (subst (λ (o : Option Ty). HasSort cs [] (element_sort o) (term_for (element_sort b.result) (meant_at w e there) there)) is z.term.sorted) (z.term.is m'' alike [])))
          valid

      evaluated_valid : AreValid cs there.listed
      evaluated_valid =
          let met = met_at at after_it result_is in
          let c = contract_context cs b after_it.store w.entry (arguments_at w after_it) result_is in
          (leads_with_term w (element_sort b.result) (meant_at w e there) there).listed
          ((leads_check_all w kind.Postcondition at (conditions b.exit c) after_it).listed ((leads_check w kind.Frame at (frame_formula w [] met) met).listed valid))

      -- a return of a result
      result_return : Has (run.value_of e (scene a p)) Leaves
      result_return =
          let ev = evaluated w before table entered.program xs m k p here.at e reads (fitting_is_some cs (code_type cs b e) t typed) evaluated_valid in
          let means = meaning_on w m m k there e ev.value (same_evaluate w e k).like (leads_evaluate w e k).rises (alike_self k.next m) ev.means in
          has_value (run.value_of e (scene a p)) ev.value Leaves ev.is (with_result ev.value ev.is (settled_one w before table xs m p there e (element_sort b.result) ev.value sort_is ev.at means))

    returned : (e : Option ExprTree) (r : Option Ty) → b.result ≡ r → is_returned cs b r e ≡ true → (list_all (reads_assigned b xs) (option_to_list e) && true) ≡ true → AreValid cs (return_with w at e k).listed → Has (result_value e (scene a p)) Leaves
    returned None None is typed reads valid = plain_return is valid
    returned None (Some t) is typed reads valid = absurd (false≢true typed)
    returned (Some e) None is typed reads valid = absurd (false≢true typed)
    returned (Some e) (Some t) is typed reads valid =
        result_return e t is (and_parts (reads_assigned b xs e) true (and_parts (list_all (reads_assigned b xs) (e ∷ [])) true reads).0).0 typed valid

-- A return whose obligations are valid leaves the body with the conditions at exit and the frame condition.
pub return_goes : (w : Walk) (before : List Object) (table : Table) (arguments : List ObjectValue) → IsEntered w before arguments → (at : Place) (e : Option ExprTree) (Q : Point → Type 0) → Goes w before table arguments (ReturnStmt at e) Q
return_goes w before table arguments entered at e Q xs m k p coded here valid ends = returned w before table arguments entered xs p at m k here e w.body.result refl coded.typed coded.assigned valid
