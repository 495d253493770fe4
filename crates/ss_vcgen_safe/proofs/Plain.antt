-- The statements that change no store: assignments, `assert`, `assume` and what prints.
use Rattle.std.proofs.Common.{◌≡◌, ℕ, ◌<◌, List, [], ◌∷◌, length, Bool, true, false, ◌||◌, Ok, refl, sym, ◌∙◌, ap, subst, arith}
use Rattle.std.specs.Prelude.{Option, Some, None, is_some, slice_get}
use Rattle.std.specs.List.{list_all}
use Rattle.std.proofs.lemmas.Bool.{false≢true, and_parts}
use Rattle.std.proofs.lemmas.Option.{slice_get_within}
use Rattle.ss_core.specs.declared.names.Kind.TheVariants as kind
use Rattle.ss_core.specs.declared.names.Place.{Place}
use Rattle.ss_core.specs.declared.names.Ty.{Ty}
use Rattle.ss_core.specs.Tree.{ClassTree, ExprTree, AssignStmt, AssertStmt, AssumeStmt, PrintStmt, PrintTextStmt}
use Rattle.ss_store_rules.specs.declared.Value.{Value as ObjectValue}
use Rattle.ss_store_rules.specs.Store.{Object}
use Rattle.ss_store_rules.specs.Numbers.{Outcome}
use Rattle.ss_store_rules.specs.Reads.{as_bool}
use Rattle.ss_store_rules.specs.Assigned.{assigned_flow, reads_assigned}
use Rattle.ss_store_rules.specs.Good.{has_type}
use Rattle.ss_store_rules.specs.Locals.{local_types, is_target}
use Rattle.ss_store_rules.specs.NonNull.{site_of, is_never_null, learned}
use Rattle.ss_store_rules.specs.Paths as paths
use Rattle.ss_store_rules.specs.Types.{is_int, is_bool, in_code, in_assert, has_fitting, code_type}
use Rattle.ss_store_rules.specs.Values.{holds}
use Rattle.ss_store_rules.specs.Values as run
use Rattle.ss_machine_typed.proofs.Sound.{value_sound}
use Rattle.ss_machine_good.specs.Known.{IsNotNull, IsTrueOf}
use Rattle.ss_machine_good.proofs.Frames.{declared_some, bool_typed}
use Rattle.ss_machine_good.proofs.NonNull.{never_null}
use Rattle.ss_machine_good.proofs.Puts.{put_true}
use Rattle.ss_machine_good.proofs.Steps.{value_fits, code_typed, fitting_some}
use Rattle.ss_machine_good.proofs.Tests.{learned_true}
use Rattle.ss_machine_good.proofs.Behind.{variable_apart}
use Rattle.ss_logic.specs.Values.{Table, sort_of_value, Structure}
use Rattle.ss_logic.specs.Express.{element_sort}
use Rattle.ss_logic_means.specs.Means.{standing, Denotes}
use Rattle.ss_vcgen_heaps.specs.Positions.{Position, Walk, meant_at, evaluate, holds_at, define, new_term, set_local, check, assume}
use Rattle.ss_vcgen_heaps.specs.Obligations.{local_sort, behind, AreValid}
use Rattle.ss_sound_outcomes.specs.Points.{Activation, Point, scene}
use Rattle.ss_sound_outcomes.specs.Outcomes.{Has, GoesOn, with_local, Safely}
use Rattle.ss_vcgen_safe.specs.At.{IsAlike, Stays, activation}
use Rattle.ss_vcgen_safe.proofs.Alike.{alike_self}
use Rattle.ss_vcgen_safe.proofs.Keeps.{checked, assumed}
use Rattle.ss_vcgen_safe.proofs.PositionsJoins.{typed_sort}
use Rattle.ss_vcgen_safe.proofs.Same.{same_evaluate, same_check, same_assume, at_like}
use Rattle.ss_vcgen_safe.proofs.PositionsTerms.{standing_numbered, defined_at}
use Rattle.ss_vcgen_safe.specs.Values.{HasMeaning, IsEvaluated}
use Rattle.ss_vcgen_safe.specs.Goes.{IsCoded, IsEntered, IsHere, EndsIn, Goes}
use Rattle.ss_vcgen_safe.proofs.Evaluates.{good_at, evaluated, condition_at}
use Rattle.ss_vcgen_safe.proofs.Puts.{put_arguments, known_agrees, put_agrees}
use Rattle.ss_vcgen_safe.proofs.Behind.{here_after}

-- what holds of the value holds where it is the outcome
pub has_value : (o : Outcome) (v : ObjectValue) (P : ObjectValue → Type 0) → o ≡ Ok v → P v → Has o P
has_value o v P is h = subst (λ r. Has r P) (sym is) h

pub fitting_is_some : (cs : List ClassTree) (o : Option Ty) (t : Ty) → has_fitting cs o t ≡ true → is_some o ≡ true
fitting_is_some cs None t h = absurd (false≢true h)
fitting_is_some cs (Some a) t h = refl

pub printed_is_some : (o : Option Ty) → (is_int o || is_bool o) ≡ true → is_some o ≡ true
printed_is_some None h = absurd (false≢true h)
printed_is_some (Some t) h = refl

module _ (w : Walk) (before : List Object) (table : Table) (arguments : List ObjectValue) (entered : IsEntered w before arguments) where
  abbrev cs : List ClassTree
  cs = w.program.classes

  abbrev a : Activation
  a = activation w before table

  -- ---- assignments

  module _ (at : Place) (x : ℕ) (e : ExprTree) (xs : ℕ → Bool) (m : Structure) (k : Position) (p : Point) (coded : IsCoded w xs k.known (AssignStmt at x e)) (here : IsHere w before table arguments xs m k p)
      (valid : AreValid cs (behind w (AssignStmt at x e) k).listed) where
    reads : reads_assigned w.body xs e ≡ true
    reads = (and_parts (reads_assigned w.body xs e) true (and_parts (list_all (reads_assigned w.body xs) (e ∷ [])) true coded.assigned).0).0

    fits : (t : Ty) × (slice_get (local_types w.body) x ≡ Some t) × (has_fitting cs (code_type cs w.body e) t ≡ true)
    fits = declared_some cs (code_type cs w.body e) (slice_get (local_types w.body) x) coded.typed

    is_typed : is_some (code_type cs w.body e) ≡ true
    is_typed = fitting_is_some cs (code_type cs w.body e) fits.0 fits.2

    abbrev there : Position
    there = evaluate w e k

    module _ (v : ObjectValue) (has : run.value_of e (scene a p) ≡ Ok v) where
      type_of_value : (t : Ty) × (code_type cs w.body e ≡ Some t) × (has_type cs p.store t v ≡ true)
      type_of_value =
          let t = fitting_some cs (code_type cs w.body e) fits.0 fits.2 in
          (t.0, t.1, value_sound e (scene a p) (local_types w.body) w.body.flags.ctor (good_at w before table entered.program xs m k p here.at) t.0 v (code_typed cs w.body e t.0 t.1) has)

      not_null : is_never_null (site_of w.program w.body) k.known false e ≡ true → IsNotNull v
      not_null h =
          let t = type_of_value in
          never_null w.body xs k.known e (scene a p) (good_at w before table entered.program xs m k p here.at) here.at.sound.was_ready here.at.assigned here.at.known false refl reads t.0 (code_typed cs w.body e t.0 t.1) h v has

      is_within : x < length (local_types w.body)
      is_within = slice_get_within (local_types w.body) x fits.0 fits.1

      sort_is : sort_of_value (standing v) ≡ local_sort w x
      sort_is = typed_sort cs p.store fits.0 v (value_fits (scene a p) w.body w.body.flags.ctor (good_at w before table entered.program xs m k p here.at) e fits.0 v fits.2 has) ∙ ap element_sort (sym fits.1)

      known_behind : IsTrueOf w.body.flags.ctor (behind w (AssignStmt at x e) k).known (scene a (with_local (Some x) v p))
      known_behind =
          let good = good_at w before table entered.program xs m k p here.at in
          let t = type_of_value in
          let count = here.at.sound.locals.count in
          put_true (scene a p) x v (let l = is_within in omega (arith, l, count)) w.body.flags.ctor (is_never_null (site_of w.program w.body) k.known false e) (learned k.known e) k.known here.at.known
          (variable_apart w.body x entered.body.flags coded.targets) not_null
          (λ u vu. learned_true (scene a p) (local_types w.body) w.body.flags.ctor good k.known here.at.known e u
          (code_typed cs w.body e t.0 t.1 ∙ ap (λ (y : Ty). Some y) (bool_typed cs p.store t.0 v u t.2 vu))
          (v, has, ap as_bool vu))

      goes_after : IsEvaluated w before table xs m k p e → HasMeaning w m k e v → (Q : Point → Type 0) → EndsIn w before table arguments (paths.behind assigned_flow (AssignStmt at x e) xs) m k (behind w (AssignStmt at x e) k) Q →
          GoesOn a (AssignStmt at x e) Q p (with_local (Some x) v p)
      goes_after ev means Q ends sound b =
          let st = AssignStmt at x e in
          let x' = meant_at w e k in
          let s = local_sort w x in
          let same = same_evaluate w e k in
          let q = with_local (Some x) v p in
          let denotes = subst (λ n. Stays n m (λ m'. Denotes cs m' [] x' (standing v))) (sym same.next) means.is in
          let z = defined_at w before table m there p s (standing v) (standing_numbered v) sort_is ev.at.agrees x' denotes in
          let d = define s x' there in
          let g = put_agrees w before table z.m' d p x (new_term s there) v is_within here.at.sound.locals.count z.is z.sorted z.agrees in
          let alike = subst (λ n. IsAlike n m z.m') same.next z.alike in
          ends (λ y. is_target st y || xs y) z.m' q refl alike
          (here_after w before table arguments xs m k p st refl coded here z.m' q sound b (put_arguments w.body (Some x) v p.locals coded.targets)
          (known_agrees w before table z.m' (set_local x (new_term s there) d) q (behind w st k).known g) known_behind)

    assigned_goes : (Q : Point → Type 0) → EndsIn w before table arguments (paths.behind assigned_flow (AssignStmt at x e) xs) m k (behind w (AssignStmt at x e) k) Q → Safely a (AssignStmt at x e) p Q
    assigned_goes Q ends =
        let ev = evaluated w before table entered.program xs m k p here.at e reads is_typed valid in
        has_value (run.value_of e (scene a p)) ev.value (λ v. GoesOn a (AssignStmt at x e) Q p (with_local (Some x) v p)) ev.is (goes_after ev.value ev.is ev ev.means Q ends)

  pub assign_goes : (at : Place) (x : ℕ) (e : ExprTree) (Q : Point → Type 0) → Goes w before table arguments (AssignStmt at x e) Q
  assign_goes at x e Q xs m k p coded here valid ends = assigned_goes at x e xs m k p coded here valid Q ends

  -- ---- conditions, and what prints

  pub assert_goes : (at : Place) (e : ExprTree) (Q : Point → Type 0) → Goes w before table arguments (AssertStmt at e) Q
  assert_goes at e Q xs m k p coded here valid ends =
      let reads = (and_parts (reads_assigned w.body xs e) true (and_parts (list_all (reads_assigned w.body xs) (e ∷ [])) true coded.assigned).0).0 in
      let f = holds_at w k e in
      let c = checked w before table m p kind.Assert at f k valid here.at.agrees in
      let self = alike_self k.next m in (
        (condition_at w before table entered.program xs m k p here.at in_assert e coded.typed reads m self).0 (c.0 m self),
        ends xs m p refl self
            (record { at = at_like w before table xs m m k (check w kind.Assert at f k) p (same_check w kind.Assert at f k).like c.1 here.at; assigned = here.assigned; same = here.same }),
      )

  pub assume_goes : (at : Place) (e : ExprTree) (Q : Point → Type 0) → Goes w before table arguments (AssumeStmt at e) Q
  assume_goes at e Q xs m k p coded here valid ends holds =
      let reads = (and_parts (reads_assigned w.body xs e) true (and_parts (list_all (reads_assigned w.body xs) (e ∷ [])) true coded.assigned).0).0 in
      let f = holds_at w k e in
      let means = condition_at w before table entered.program xs m k p here.at in_code e coded.typed reads in
      let g = assumed w before table m p f k (λ m' b. (means m' b).1 holds) here.at.agrees in
      ends xs m p refl (alike_self k.next m) (record { at = at_like w before table xs m m k (assume f k) p (same_assume f k).like g here.at; assigned = here.assigned; same = here.same })

  pub print_goes : (at : Place) (e : Option ExprTree) (newline : Bool) (Q : Point → Type 0) → Goes w before table arguments (PrintStmt at e newline) Q
  print_goes at None newline Q xs m k p coded here valid ends = ends xs m p refl (alike_self k.next m) here
  print_goes at (Some e) newline Q xs m k p coded here valid ends =
      let reads = (and_parts (reads_assigned w.body xs e) true (and_parts (list_all (reads_assigned w.body xs) (e ∷ [])) true coded.assigned).0).0 in
      let z = evaluated w before table entered.program xs m k p here.at e reads (printed_is_some (code_type cs w.body e) coded.typed) valid in
      has_value (run.value_of e (scene a p)) z.value (λ v. Q p) z.is (ends xs m p refl (alike_self k.next m) (record { at = z.at; assigned = here.assigned; same = here.same }))

  pub text_goes : (at : Place) (text : List ℕ) (newline : Bool) (Q : Point → Type 0) → Goes w before table arguments (PrintTextStmt at text newline) Q
  text_goes at text newline Q xs m k p coded here valid ends = ends xs m p refl (alike_self k.next m) here
