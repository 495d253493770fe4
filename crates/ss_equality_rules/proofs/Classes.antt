-- What is kept of the classes, after each change.
use Rattle.std.proofs.Common.{◌≡◌, ◌≢◌, ℕ, zero, suc, ◌<◌, ◌≤◌, List, [], ◌∷◌, ◌++◌, length, take, Option, Some, None, refl, sym, ◌∙◌, ap, subst, inl, inr, ◌⊎◌, ⊎_elim, arith, get_or, set, length-set}
use Rattle.std.specs.Prelude.{slice_get}
use Rattle.std.proofs.lemmas.List.{take_all, take_at, length_push, get_or-set_same, get_or-set_other}
use Rattle.std.proofs.lemmas.Bool.{cases_eq}
use Rattle.std.proofs.lemmas.Option.{slice_get_within}
use Rattle.ss_terms.specs.declared.forms.TermId.{TermId}
use Rattle.ss_terms.specs.declared.forms.Symbol.{Symbol}
use Rattle.ss_terms.specs.Forms.{TermShape, AppShape}
use Rattle.ss_equality_rules.specs.declared.Join.{Join}
use Rattle.ss_equality_rules.specs.Names.{Has, IsJoin, IsLog, grouped, AreClasses}
use Rattle.ss_equality_rules.specs.Classes.{HasUsersOf}
use Rattle.ss_equality_rules.proofs.Lists.{at_left, at_last, pushed, front_pushed}
use Rattle.ss_equality_rules.proofs.Names.{front_log, longer_log, given_up_once, grouped_push, joined_to, joined_other, uses_class}

-- ---- a list after a write

pub set_cases : {A : Type 0} (xs : List A) (i : ℕ) (y : A) (j : ℕ) (x : A) → slice_get (set xs i y) j ≡ Some x → ((i ≡ j) × (y ≡ x)) ⊎ ((i ≢ j) × (slice_get xs j ≡ Some x))
set_cases [] i y j x e = cc
set_cases (z ∷ xs) zero y zero x e = inl (refl, cc)
set_cases (z ∷ xs) zero y (suc j) x e = inr ((λ (h : zero ≡ suc j). absurd (omega (arith, h))), e)
set_cases (z ∷ xs) (suc i) y zero x e = inr ((λ (h : suc i ≡ zero). absurd (omega (arith, h))), e)
set_cases (z ∷ xs) (suc i) y (suc j) x e = ⊎_elim
    (λ a. inl (ap suc a.0, a.1))
    (λ a. inr ((λ (h : suc i ≡ suc j). a.0 (omega (arith, h))), a.1))
    (set_cases xs i y j x e)

none_there : {A : Type 0} (j : ℕ) (x : A) → slice_get {X = A} [] j ≡ Some x → ⊥
none_there j x e = cc

all_of : (es : List Join) (e : Join) → take (length es) (es ++ e ∷ []) ≡ es
all_of es e = front_pushed es e (length es) (omega arith) ∙ take_all (length es) es (omega arith)

-- ---- no term, and one more

grouped_start : (g : ℕ → List ℕ) (r : ℕ) → grouped g [] r ≡ g r
unfolding grouped
grouped_start g r = refl

pub no_classes : AreClasses [] [] [] []
no_classes = record {
  log = record { joins = λ j e at. absurd (none_there j e at) };
  ends_long = omega arith;
  lists_long = omega arith;
  going = λ a at j e at_e. absurd (none_there j e at_e);
  gone = λ a j at. absurd (none_there a (Some j) at);
  first = λ r. [];
  users = record { listed = λ w f xs i x at at_x. absurd (none_there w (AppShape f xs) at) };
  lists_are = λ r. sym (grouped_start (λ z. []) r);
  counts = λ j e at. absurd (none_there j e at);
}

pub entered : (fs : List TermShape) (us us' : List (List ℕ)) (ends ends' : List (Option ℕ)) (n : TermShape) → AreClasses fs us ends [] →
    length fs < length us' → length fs < length ends' → ((a j : ℕ) → slice_get ends' a ≡ Some (Some j) → slice_get ends a ≡ Some (Some j)) →
    ((r w : ℕ) → Has (get_or us r []) w → Has (get_or us' r []) w) →
    ((f : Symbol) (xs : List TermId) → n ≡ AppShape f xs → (i : ℕ) (x : TermId) → slice_get xs i ≡ Some x → Has (get_or us' x.0 []) (length fs)) →
    AreClasses (fs ++ n ∷ []) us' ends' []
entered fs us us' ends ends' n are long ends_long ends_old kept listed = record {
  log = record { joins = λ j e at. absurd (none_there j e at) };
  ends_long = omega (arith, length_push fs n, ends_long);
  lists_long = omega (arith, length_push fs n, long);
  going = λ a at j e at_e. absurd (none_there j e at_e);
  gone = λ a j at. are.gone a j (ends_old a j at);
  first = λ r. get_or us' r [];
  users = record {
    listed = λ w f xs i x at at_x. ⊎_elim
        (λ old. kept x.0 w (subst (λ l. Has l w) (sym (are.lists_are x.0 ∙ grouped_start are.first x.0)) (are.users.listed w f xs i x old at_x)))
        (λ new. subst (λ z. Has (get_or us' x.0 []) z) (sym new.0) (listed f xs new.1 i x at_x))
        (pushed fs n (AppShape f xs) w at);
  };
  lists_are = λ r. sym (grouped_start (λ z. get_or us' z []) r);
  counts = λ j e at. absurd (none_there j e at);
}

-- ---- one more join

module _ (fs : List TermShape) (us : List (List ℕ)) (ends : List (Option ℕ)) (es : List Join) (are : AreClasses fs us ends es) (e : Join) (is : IsJoin (length fs) es e) where
  pub joined_classes : e.count ≡ length (get_or us e.to []) →
      AreClasses fs (set us e.to (get_or us e.to [] ++ get_or us e.from [])) (set ends e.from (Some (length es))) (es ++ e ∷ [])
  joined_classes count = record {
    log = longer_log (length fs) es e are.log is;
    ends_long = omega (arith, length-set ends e.from (Some (length es)), are.ends_long);
    lists_long = omega (arith, length-set us e.to (get_or us e.to [] ++ get_or us e.from []), are.lists_long);
    going = λ a at j d at_d. ⊎_elim
        (λ here. absurd (let no : ◌≡◌ {A = Option ℕ} (Some (length es)) None = here.1 in cc))
        (λ there. ⊎_elim
        (λ old. are.going a there.1 j d old)
        (λ new. (λ (f : d.from ≡ a). there.0 (ap (λ z. z.from) new.1 ∙ f)))
        (pushed es e d j at_d))
        (set_cases ends e.from (Some (length es)) a None at);
    gone = λ a j at. ⊎_elim
        (λ here. let same : length es ≡ j = let s : ◌≡◌ {A = Option ℕ} (Some (length es)) (Some j) = here.1 in cc in
        (e, ap (slice_get (es ++ e ∷ [])) (sym same) ∙ at_last es e, here.0))
        (λ there. let g = are.gone a j there.1 in (g.0, at_left es (e ∷ []) j g.0 g.1, g.2))
        (set_cases ends e.from (Some (length es)) a (Some j) at);
    first = are.first;
    users = are.users;
    lists_are = λ r. ⊎_elim
        (λ here. ap (λ z. get_or (set us e.to (get_or us e.to [] ++ get_or us e.from [])) z []) here
        ∙ get_or-set_same us e.to (get_or us e.to [] ++ get_or us e.from []) [] (omega (arith, is.to_below, are.lists_long))
        ∙ ap (λ l. l ++ get_or us e.from []) (are.lists_are e.to) ∙ ap (λ l. grouped are.first es e.to ++ l) (are.lists_are e.from)
        ∙ sym (grouped_push are.first es e r ∙ joined_to (grouped are.first es) e r here))
        (λ other. get_or-set_other us e.to r (get_or us e.to [] ++ get_or us e.from []) [] other ∙ are.lists_are r
        ∙ sym (grouped_push are.first es e r ∙ joined_other (grouped are.first es) e r other))
        (cases_eq r e.to);
    counts = λ j d at. ⊎_elim
        (λ old. are.counts j d old ∙ ap (λ ds. length (grouped are.first ds d.to)) (sym (front_pushed es e j (omega (arith, slice_get_within es j d old)))))
        (λ new. subst (λ z. z.count ≡ length (grouped are.first (take j (es ++ e ∷ [])) z.to)) new.1
        (count ∙ ap length (are.lists_are e.to) ∙ ap (λ ds. length (grouped are.first ds e.to)) (sym (ap (λ i. take i (es ++ e ∷ [])) new.0 ∙ all_of es e))))
        (pushed es e d j at);
  }

  -- the users of the class that is renamed
  pub users_of : HasUsersOf fs es e.from (get_or (set us e.to (get_or us e.to [] ++ get_or us e.from [])) e.from [])
  users_of = record {
    listed = λ w f xs i x at at_x name_is.
        subst (λ l. Has l w)
        (ap (grouped are.first es) name_is ∙ sym (get_or-set_other us e.to e.from (get_or us e.to [] ++ get_or us e.from []) [] is.apart ∙ are.lists_are e.from))
        (uses_class are.first es x.0 w (are.users.listed w f xs i x at at_x));
  }

-- ---- one join less

pub undone_classes : (fs : List TermShape) (us : List (List ℕ)) (ends : List (Option ℕ)) (es : List Join) (e : Join) → AreClasses fs us ends (es ++ e ∷ []) →
    AreClasses fs (set us e.to (take e.count (get_or us e.to []))) (set ends e.from None) es
undone_classes fs us ends es e are = record {
  log = front;
  ends_long = omega (arith, length-set ends e.from None, are.ends_long);
  lists_long = omega (arith, length-set us e.to (take e.count (get_or us e.to [])), are.lists_long);
  going = λ a at j d at_d. ⊎_elim
      (λ here. (λ (f : d.from ≡ a). given_up_once (length fs) (es ++ e ∷ []) are.log j (length es) d e (at_left es (e ∷ []) j d at_d) (at_last es e) (f ∙ sym here.0) (slice_get_within es j d at_d)))
      (λ there. are.going a there.1 j d (at_left es (e ∷ []) j d at_d))
      (set_cases ends e.from None a None at);
  gone = λ a j at. ⊎_elim
      (λ here. absurd (let no : ◌≡◌ {A = Option ℕ} None (Some j) = here.1 in cc))
      (λ there. let g = are.gone a j there.1 in ⊎_elim
      (λ old. (g.0, old, g.2))
      (λ new. absurd (there.0 (ap (λ z. z.from) new.1 ∙ g.2)))
      (pushed es e g.0 j g.1))
      (set_cases ends e.from None a (Some j) at);
  first = are.first;
  users = are.users;
  lists_are = λ r. ⊎_elim
      (λ here. ap (λ z. get_or (set us e.to (take e.count (get_or us e.to []))) z []) here
      ∙ get_or-set_same us e.to (take e.count (get_or us e.to [])) [] (omega (arith, is.to_below, are.lists_long))
      ∙ ap (take e.count) (are.lists_are e.to ∙ grouped_push are.first es e e.to ∙ joined_to (grouped are.first es) e e.to refl)
      ∙ take_at (grouped are.first es e.to) (grouped are.first es e.from) e.count (sym count)
      ∙ ap (grouped are.first es) (sym here))
      (λ other. get_or-set_other us e.to r (take e.count (get_or us e.to [])) [] other ∙ are.lists_are r ∙ grouped_push are.first es e r ∙ joined_other (grouped are.first es) e r other)
      (cases_eq r e.to);
  counts = λ j d at. are.counts j d (at_left es (e ∷ []) j d at) ∙ ap (λ ds. length (grouped are.first ds d.to)) (front_pushed es e j (omega (arith, slice_get_within es j d at)));
}
  where
    is : IsJoin (length fs) es e
    is = subst (λ ds. IsJoin (length fs) ds e) (all_of es e) (are.log.joins (length es) e (at_last es e))

    front : IsLog (length fs) es
    front = subst (IsLog (length fs)) (all_of es e) (front_log (length fs) (length es) (es ++ e ∷ []) are.log)

    count : e.count ≡ length (grouped are.first es e.to)
    count = are.counts (length es) e (at_last es e) ∙ ap (λ ds. length (grouped are.first ds e.to)) (all_of es e)

-- more room, and more users, before the first join
pub widened : (fs : List TermShape) (us us' : List (List ℕ)) (ends ends' : List (Option ℕ)) → AreClasses fs us ends [] →
    length fs ≤ length us' → length fs ≤ length ends' → ((a j : ℕ) → slice_get ends' a ≡ Some (Some j) → slice_get ends a ≡ Some (Some j)) →
    ((r w : ℕ) → Has (get_or us r []) w → Has (get_or us' r []) w) → AreClasses fs us' ends' []
widened fs us us' ends ends' are long ends_long ends_old kept = record {
  log = record { joins = λ j e at. absurd (none_there j e at) };
  ends_long = ends_long;
  lists_long = long;
  going = λ a at j e at_e. absurd (none_there j e at_e);
  gone = λ a j at. are.gone a j (ends_old a j at);
  first = λ r. get_or us' r [];
  users = record { listed = λ w f xs i x at at_x. kept x.0 w (subst (λ l. Has l w) (sym (are.lists_are x.0 ∙ grouped_start are.first x.0)) (are.users.listed w f xs i x at at_x)) };
  lists_are = λ r. sym (grouped_start (λ z. get_or us' z []) r);
  counts = λ j e at. absurd (none_there j e at);
}

pub no_end_pushed : (ends : List (Option ℕ)) (a j : ℕ) → slice_get (ends ++ None ∷ []) a ≡ Some (Some j) → slice_get ends a ≡ Some (Some j)
no_end_pushed ends a j at = ⊎_elim (λ old. old) (λ new. absurd (let no : ◌≡◌ {A = Option ℕ} None (Some j) = new.1 in cc)) (pushed ends None (Some j) a at)
