-- What is reached goes on.
use Rattle.std.proofs.Common.{◌≡◌, ◌<◌, ◌≤◌, List, [], ◌∷◌, ◌++◌, length, refl, sym, ◌∙◌, ap, subst, ◌⊎◌, ⊎_elim, arith}
use Rattle.std.specs.List.{Contains}
use Rattle.std.proofs.lemmas.Bool.{cases_lt}
use Rattle.std.proofs.lemmas.List.{length-map}
use Rattle.ss_core.specs.Tree.{ClassTree}
use Rattle.ss_logic.specs.Formulas.{Formula, Formulas, Literal, And, Or, Forall, Exists, no_formulas, formula_then, neg, neg_all}
use Rattle.ss_logic.proofs.Truth.{neg_neg}
use Rattle.ss_logic_countermodels.specs.Refuting.{told_in, all_told_in}
use Rattle.ss_terms.specs.Forms.{formula_at}
use Rattle.ss_deriv.specs.declared.line.Line.{Line}
use Rattle.ss_deriv.specs.Lines.{lines_of}
use Rattle.ss_search_clashes.specs.Closing.{Closes}
use Rattle.ss_logic.specs.Includes.{Includes}
use Rattle.ss_logic.proofs.Lists.{contains_none, contains_split}
use Rattle.ss_search_procedure_rules.proofs.Occurring.{from_collected}
use Rattle.ss_search_path.proofs.Going.{goes_nowhere, goes_through, path_goes}
use Rattle.ss_search_path.specs.Paths.{IsSame, IsPath}
use Rattle.ss_search_reached.specs.Following.{Occur}
use Rattle.ss_search_reached.proofs.Fronts.{front_long, front_includes, front_as_long}
use Rattle.ss_search_reaching.specs.declared.reaching.Reaching.{Reaching}
use Rattle.ss_search_reaching.specs.Reaching.{facts_of, Grows, ReachesFrom}
use Rattle.ss_search_reaching.proofs.Learning.{nothing_grows, grows_more}
use Rattle.ss_search_procedure.specs.declared.setting.Settling.{Settling}
use Rattle.ss_search_procedure.specs.Decisions.{bank_of, settled_ones, reached_in, IsSetting, IsState, IsAmong, GoesOn, IsShown, ReachesBy, ClosesBy, HasLed}

-- a formula and its negation tell the same
mutual
  told_neg : (f : Formula) → told_in (neg f) ≡ told_in f
  told_neg (Literal sign p ts) = refl
  told_neg (And fs) = all_told_neg fs
  told_neg (Or fs) = all_told_neg fs
  told_neg (Forall ss f) = ap (λ g. Forall ss g ∷ []) (neg_neg f)
  told_neg (Exists ss f) = refl

  all_told_neg : (fs : Formulas) → all_told_in (neg_all fs) ≡ all_told_in fs
  all_told_neg no_formulas = refl
  all_told_neg (formula_then f fs) = ap (λ gs. gs ++ all_told_in (neg_all fs)) (told_neg f) ∙ ap (λ gs. told_in f ++ gs) (all_told_neg fs)

-- ---- what goes on

module _ (s : Settling) where
  pub includes : (old new : Reaching) → GoesOn s old new → Includes (reached_in s new) (reached_in s old)
  includes old new g = front_includes (reached_in s old) (reached_in s new) g.grows.reached.front

  pub longer : (old new : Reaching) → GoesOn s old new → length old.reached.known.items ≤ length new.reached.known.items
  longer old new g =
      let l = front_long (reached_in s old) (reached_in s new) g.grows.reached.front in
      omega (arith, l, length-map old.reached.known.items (formula_at (bank_of s)), length-map new.reached.known.items (formula_at (bank_of s)))

  -- where a formula is new there are more
  pub much_longer : (old new : Reaching) (f : Formula) → GoesOn s old new → Contains (reached_in s new) f → (Contains (reached_in s old) f → ⊥) → length old.reached.known.items < length new.reached.known.items
  much_longer old new f g there unknown = ⊎_elim
      (λ (h : length old.reached.known.items < length new.reached.known.items). h)
      (λ (h : length new.reached.known.items ≤ length old.reached.known.items).
      let few : length (reached_in s new) ≤ length (reached_in s old) =
      omega (arith, h, length-map old.reached.known.items (formula_at (bank_of s)), length-map new.reached.known.items (formula_at (bank_of s))) in
      absurd (unknown (subst (λ fs. Contains fs f) (front_as_long (reached_in s old) (reached_in s new) g.grows.reached.front few) there)))
      (cases_lt (length old.reached.known.items) (length new.reached.known.items))

  pub stays : (r : Reaching) → IsState s r → GoesOn s r r
  stays r h = record { state = h; grows = nothing_grows s.given r h.reaching }

  pub on_and_on : (x y z : Reaching) → GoesOn s x y → GoesOn s y z → GoesOn s x z
  on_and_on x y z g h = record { state = h.state; grows = grows_more s.given x y z g.grows h.grows }

  -- what grows without what is new goes on
  pub on_grows : (old new : Reaching) → IsState s old → Grows s.given old new → GoesOn s old new
  on_grows old new h g = record {
    state = record {
      reaching = g.state;
      decisions = λ p o. h.decisions p (g.reached.occurs p o);
      known = λ x c. front_includes (reached_in s old) (reached_in s new) g.reached.front x (h.known x c);
    };
    grows = g;
  }

  pub among_negation : (f g : Formula) → g ≡ neg f → IsAmong s f → IsAmong s g
  among_negation f g e h = record { told = λ x t. h.told x (subst (λ gs. Contains gs x) (told_neg f) (subst (λ k. Contains (told_in k) x) e t)) }

  pub among_occurs : IsSetting s → (r : Reaching) → IsState s r → (f : Formula) → IsAmong s f → Occur (reached_in s r) (f ∷ [])
  among_occurs h r state f among p o =
      let told : Contains (told_in f) p = ⊎_elim (λ e. subst (λ g. Contains (told_in g) p) (sym e) o.2) (λ n. absurd (contains_none o.0 n)) (contains_split f [] o.0 o.1) in
      let from = from_collected told_in (settled_ones s) p (subst (λ fs. Contains fs p) h.decisions (among.told p told)) in
      (from.0, state.known from.0 from.1, from.2)

  -- ---- what is shown

  pub reaches_nothing : (r : Reaching) → ReachesBy s r r
  reaches_nothing r cs premises goal h = record { shows = h.shows; goes_on = goes_nowhere cs premises goal (bank_of s) r.path r.path (record { before = refl; behind = refl; known = refl }) }

  pub reaches_on : (x y z : Reaching) → ReachesBy s x y → ReachesBy s y z → ReachesBy s x z
  reaches_on x y z one two cs premises goal h =
      let a = one cs premises goal h in
      let b = two cs premises goal (record { bank = h.bank; formed = h.formed; shows = a.shows }) in
      record { shows = b.shows; goes_on = goes_through cs premises goal (bank_of s) x.path y.path z.path a.goes_on b.goes_on }

  pub reaches_from : (old new : Reaching) → ReachesFrom s.given old new → ReachesBy s old new
  reaches_from old new r cs premises goal h = r cs premises goal h.shows

  -- what is shown still, where the path is the same
  pub reaches_same : (old new : Reaching) → IsSame old.path new.path → ((cs : List ClassTree) → IsShown cs s old → IsShown cs s new) → ReachesBy s old new
  reaches_same old new same shown cs premises goal h = record { shows = (shown cs h).shows; goes_on = goes_nowhere cs premises goal (bank_of s) old.path new.path same }

  pub shown_on : (old new : Reaching) → ReachesBy s old new → (cs : List ClassTree) → IsShown cs s old → IsShown cs s new
  shown_on old new r cs h = record { bank = h.bank; formed = h.formed; shows = (r cs [] (And no_formulas) h).shows }

  -- lines that close the case from a later state close it from an earlier one
  pub closes_on : (x y z : Reaching) (lines : List Line) → ReachesBy s x y → ClosesBy s y z lines → ClosesBy s x z lines
  closes_on x y z lines to closes cs premises goal h = closes cs premises goal (shown_on x y to cs h)

  -- ---- from nothing

  pub led_on : (cs : List ClassTree) (premises : List Formula) (goal : Formula) (old new : Reaching) → HasLed cs premises goal s old → ReachesBy s old new → IsPath cs premises goal (bank_of s) [] new.path
  led_on cs premises goal old new led to = path_goes cs premises goal (bank_of s) [] old.path new.path led.path (to cs premises goal led.shown).goes_on

  pub led_to_end : (old new : Reaching) (lines : List Line) → ((cs : List ClassTree) × (premises : List Formula) × (goal : Formula) × HasLed cs premises goal s old) → ReachesBy s old new → ClosesBy s old new lines →
      (cs : List ClassTree) × (premises : List Formula) × (goal : Formula) × IsPath cs premises goal (bank_of s) [] new.path × Closes cs premises goal (facts_of s.given new) (lines_of (bank_of s) lines)
  led_to_end old new lines led to closes = (led.0, led.1, led.2, led_on led.0 led.1 led.2 old new led.3 to, closes led.0 led.1 led.2 led.3.shown)
