-- What follows in a turn, and where it stands.
use Rattle.std.proofs.Common.{◌≡◌, ℕ, zero, suc, ◌+◌, ◌<◌, List, [], ◌∷◌, ◌++◌, length, map, take, get_or, true, Result, Ok, Err, Option, Some, None, refl, sym, ◌∙◌, ap, subst, ⊎_elim, Vec, Global, arith}
use Rattle.std.specs.Prelude.{slice_get, IfNone, IfOk, OnOk}
use Rattle.std.proofs.lemmas.Bool.{false≢true}
use Rattle.std.proofs.lemmas.List.{length-map, map_push}
use Rattle.ss_core.specs.Tree.{ClassTree}
use Rattle.ss_logic.specs.Formulas.{Formula, is_well_formed}
use Rattle.ss_equality_rules.proofs.Lists.{pushed}
use Rattle.ss_terms.specs.declared.forms.FormulaId.{FormulaId}
use Rattle.ss_terms.specs.Forms.{Forms, formula_at}
use Rattle.ss_deriv.specs.declared.line.Line.{Line}
use Rattle.ss_deriv.specs.Lines.{lines_of}
use Rattle.ss_equality_rules.specs.declared.Merge.{Merge}
use Rattle.ss_equality_rules.specs.Equal as equal
use Rattle.ss_equality_rules.specs.Equal.{AreClassesOf}
use Rattle.ss_search_procedure_rules.specs.Closed.{is_basic}
use Rattle.ss_search_clashes.specs.Closing.{Closes}
use Rattle.ss_search_reached.proofs.Branches.{one_follows, none_follows}
use Rattle.ss_search_reached.proofs.Fronts.{front_itself}
use Rattle.ss_search_reached.proofs.Remembering.{remembers_alike}
use Rattle.ss_search_reached.proofs.Turns.{no_shorter, still_reached, grows_alike}
use Rattle.ss_search_clashes.specs.Cases.{AreAt, CloseCase}
use Rattle.ss_search_reached.specs.declared.looking.Looking.{Looking}
use Rattle.ss_search_reached.specs.Following.{AreUnits}
use Rattle.ss_search_clashes.specs.Said.{AreKnown}
use Rattle.ss_search_path.specs.declared.path.Path.{Path}
use Rattle.ss_search_path.specs.Paths.{known_on, GoesOn}
use Rattle.ss_search_path.proofs.Going.{goes_through, goes_nowhere}
use Rattle.ss_search_path.specs.declared.standing.Given.{Given}
use Rattle.ss_search_path.specs.declared.standing.Standing.{Standing}
use Rattle.ss_search_path.specs.declared.standing.Standing.TheVariants.{Fact, Guarded}
use Rattle.ss_search_path.specs.Standing.{AreChosen, IsOpenedFact, IsGuardedAt, Stands}
use Rattle.ss_search_path.proofs.StandingFacts.{known_more, longer_stands, basic_fact}
use Rattle.ss_search_reaching.specs.declared.basic.Refuting.{Refuting}
use Rattle.ss_search_reaching.specs.Refuting.{bank_of, or_of, AreShown}
use Rattle.ss_search_reaching.proofs.Shown.{map_at, shown_longer}
use Rattle.ss_search_reaching.specs.declared.branches.Beside.{Beside}
use Rattle.ss_search_reaching.specs.declared.branches.Resolved.{Resolved}
use Rattle.ss_search_reaching.specs.declared.branches.Resolved.TheVariants as resolved
use Rattle.ss_search_reaching.specs.declared.reaching.Reaching.{Reaching}
use Rattle.ss_search_reaching.specs.Reaching.{place_of, facts_of, IsReaching, Shows, Grows, ReachesOn, ReachesFrom}
use Rattle.ss_search_reaching.proofs.Learning.{grows_more}
use Rattle.ss_search_reaching.proofs.Spread.{longer_shows}
use Rattle.ss_search_reaching.specs.declared.turns.Turn.{Turn}
use Rattle.ss_search_reaching.specs.declared.turns.Turn.TheVariants as turn
use Rattle.ss_search_reaching.specs.Units as units
use Rattle.ss_search_reaching.specs.Units.{IsResolved, formulas_in, AllStand, UnitFrom, UnitGuarded, UnitStanding}
use Rattle.ss_search_reaching.specs.Turns.{IfOpen, IfFollows, IsAdded, LeadsToAll, UnitsFrom, Turns, TurnFrom}

abbrev pub Pairs : Type 0
Pairs = Vec (FormulaId × Standing) Global

-- what an element of the list is made of
map_from_at : {A B : Type 0} (f : A → B) (xs : List A) (i : ℕ) (y : B) → slice_get (map f xs) i ≡ Some y → (x : A) × (slice_get xs i ≡ Some x) × (f x ≡ y)
map_from_at f [] i y e = cc
map_from_at f (x ∷ xs) zero y e = (x, refl, cc)
map_from_at f (x ∷ xs) (suc i) y e = map_from_at f xs i y e

-- ---- all stand where the facts are more

pub longer_all : (cs : List ClassTree) (g : Given) (old new : List Formula) → take (length old) new ≡ old → (us : List (FormulaId × Standing)) → AllStand cs g old us → AllStand cs g new us
longer_all cs g old new kept us h = record { each = λ i u at. longer_stands cs g old new kept u.1 (formula_at g.bank.now u.0) (h.each i u at) }

pub one_more_all : (cs : List ClassTree) (g : Given) (facts : List Formula) (us : List (FormulaId × Standing)) (u : FormulaId × Standing) → AllStand cs g facts us → Stands cs g facts u.1 (formula_at g.bank.now u.0) → AllStand cs g facts (us ++ u ∷ [])
one_more_all cs g facts us u h stands = record {
  each = λ i v at. ⊎_elim
      (λ before. h.each i v before)
      (λ last. subst (λ (w : FormulaId × Standing). Stands cs g facts w.1 (formula_at g.bank.now w.0)) last.1 stands)
      (pushed us u v i at);
}

-- nothing follows, and the path stays
pub nothing_leads : (p : Beside) (ms : List Merge) (old : Path) (s : Standing) (f : Formula) → UnitStanding p ms old s f old resolved.Open
nothing_leads p ms old s f cs premises goal shown stands = record { goes_on = goes_nowhere cs premises goal (bank_of p.refuting) old old (record { before = refl; behind = refl; known = refl }); grounded = tt }

pub no_units_yet : (p : Beside) (ms : List Merge) (old : Path) (standings : List Standing) (us : Pairs) → us.items ≡ [] → UnitsFrom p.refuting ms old standings old (turn.Open us)
no_units_yet p ms old standings us e cs premises goal shown each = record {
  goes_on = goes_nowhere cs premises goal (bank_of p.refuting) old old (record { before = refl; behind = refl; known = refl });
  grounded = subst (AllStand cs p.refuting.given (known_on (bank_of p.refuting) old)) (sym e) (record { each = λ i u at. cc });
}

-- ---- one formula more was looked at

module _ (p : Beside) (ms : List Merge) (standings : List Standing) (old now new : Path) (us : Pairs) (kept : take (length old.known.items) now.known.items ≡ old.known.items) (after : take (length now.known.items) new.known.items ≡ now.known.items)
    (i : ℕ) (f : FormulaId) (s : Standing) (f_at : slice_get p.refuting.known.now i ≡ Some f) (s_at : slice_get standings i ≡ Some s) (leads : UnitsFrom p.refuting ms old standings now (turn.Open us)) where
  module _ (u : Resolved) (one : UnitStanding p ms now s (formula_at (bank_of p.refuting) f) new u) (cs : List ClassTree) (premises : List Formula) (goal : Formula) (shown : AreShown cs p.refuting ms (known_on (bank_of p.refuting) old))
      (each : (k : ℕ) (g : FormulaId) (t : Standing) → slice_get p.refuting.known.now k ≡ Some g → slice_get standings k ≡ Some t → Stands cs p.refuting.given (known_on (bank_of p.refuting) old) t (formula_at (bank_of p.refuting) g)) where
    before : LeadsToAll cs premises goal p.refuting.given old now (turn.Open us)
    before = leads cs premises goal shown each

    step : units.LeadsToOne cs premises goal p.refuting.given now new u
    step =
        let front = known_more (bank_of p.refuting) old now kept in
        one cs premises goal (shown_longer cs p.refuting ms (known_on (bank_of p.refuting) old) (known_on (bank_of p.refuting) now) front shown)
        (longer_stands cs p.refuting.given (known_on (bank_of p.refuting) old) (known_on (bank_of p.refuting) now) front s (formula_at (bank_of p.refuting) f) (each i f s f_at s_at))

    on : GoesOn cs premises goal (bank_of p.refuting) old new
    on = goes_through cs premises goal (bank_of p.refuting) old now new before.goes_on step.goes_on

    all_before : AllStand cs p.refuting.given (known_on (bank_of p.refuting) new) us.items
    all_before = longer_all cs p.refuting.given (known_on (bank_of p.refuting) now) (known_on (bank_of p.refuting) new) (known_more (bank_of p.refuting) now new after) us.items before.grounded

  pub turn_closed : (lines : Vec Line Global) → UnitStanding p ms now s (formula_at (bank_of p.refuting) f) new (resolved.Closed lines) → UnitsFrom p.refuting ms old standings new (turn.Closed lines)
  turn_closed lines one cs premises goal shown each =
      let here = step (resolved.Closed lines) one cs premises goal shown each in
      record { goes_on = on (resolved.Closed lines) one cs premises goal shown each; grounded = here.grounded }

  pub turn_one : (part : FormulaId) (t : Standing) (more : Pairs) → more.items ≡ us.items ++ (part, t) ∷ [] → UnitStanding p ms now s (formula_at (bank_of p.refuting) f) new (resolved.One part t) → UnitsFrom p.refuting ms old standings new (turn.Open more)
  turn_one part t more e one cs premises goal shown each =
      let here = step (resolved.One part t) one cs premises goal shown each in
      record {
        goes_on = on (resolved.One part t) one cs premises goal shown each;
        grounded = subst (AllStand cs p.refuting.given (known_on (bank_of p.refuting) new)) (sym e)
            (one_more_all cs p.refuting.given (known_on (bank_of p.refuting) new) us.items (part, t) (all_before (resolved.One part t) one cs premises goal shown each) here.grounded);
      }

  pub turn_open : UnitStanding p ms now s (formula_at (bank_of p.refuting) f) new resolved.Open → UnitsFrom p.refuting ms old standings new (turn.Open us)
  turn_open one cs premises goal shown each = record { goes_on = on resolved.Open one cs premises goal shown each; grounded = all_before resolved.Open one cs premises goal shown each }

-- ---- an `or` that stands

pub fact_leads : (p : Beside) (ms : List Merge) (old new : Path) (place from : ℕ) (parts : List FormulaId) (f : Formula) (u : Resolved) → f ≡ or_of (bank_of p.refuting) parts → UnitFrom p ms old place from parts new u → UnitStanding p ms old (Fact place from) f new u
fact_leads p ms old new place from parts f u e leads cs premises goal shown stands =
    leads cs premises goal (record { shown = shown; fact = subst (λ (x : Formula). IsOpenedFact cs p.refuting.given (known_on (bank_of p.refuting) old) place from x) e stands })

pub guarded_leads : (p : Beside) (ms : List Merge) (old new : Path) (origin : ℕ) (parts : List FormulaId) (f : Formula) (u : Resolved) → f ≡ or_of (bank_of p.refuting) parts → UnitGuarded p ms old origin parts new u → UnitStanding p ms old (Guarded origin) f new u
guarded_leads p ms old new origin parts f u e leads cs premises goal shown stands =
    leads cs premises goal shown (subst (λ (x : Formula). IsGuardedAt cs p.refuting.given origin x) e stands)

-- ---- what is shown

-- a literal or quantified formula that stands is the fact at the place of its standing
basic_stands : (cs : List ClassTree) (g : Given) (facts : List Formula) (s : Standing) (f : Formula) → is_basic f ≡ true → Stands cs g facts s f → (slice_get facts (place_of s) ≡ Some f) × (is_well_formed cs [] f ≡ true)
basic_stands cs g facts (Fact place from) f basic h = basic_fact cs g facts place from f basic h
basic_stands cs g facts (Guarded origin) f basic h =
    absurd (false≢true (ap is_basic (sym h.guarded.is) ∙ basic))

pub shows_at : (cs : List ClassTree) (g : Given) (r : Reaching) → IsReaching g r → Shows cs g r → AreAt cs g.bank.now (facts_of g r) r.reached.known.items r.places.items
shows_at cs g r state h = record {
  each = λ i place f f_at place_at basic.
      let there = map_from_at place_of r.standings.items i place (ap (λ (ns : List ℕ). slice_get ns i) (sym state.places) ∙ place_at) in
      let at = basic_stands cs g (facts_of g r) there.0 (formula_at g.bank.now f) basic (h.standing.each i (formula_at g.bank.now f) there.0 (map_at (formula_at g.bank.now) r.reached.known.items i f f_at) there.1) in
      record { at = ap (slice_get (facts_of g r)) (sym there.2) ∙ at.0; formed = at.1 };
}

pub none_then : {X P : Type 0} (o : Option X) → IfNone o P → o ≡ None → P
none_then None h e = h
none_then (Some x) h e = cc

-- as many facts as there are numbers
pub known_merges : (cs : List ClassTree) (g : Given) (r : Reaching) (count : ℕ) → count ≡ length r.path.known.items → Shows cs g r → AreKnown cs g.bank.now r.reached.congruence.merges count (facts_of g r)
known_merges cs g r count e h = subst (λ (n : ℕ). AreKnown cs g.bank.now r.reached.congruence.merges n (facts_of g r)) (length-map r.path.known.items (formula_at g.bank.now) ∙ sym e) h.merges

-- ---- what one look adds

module _ (p : Beside) (ms : List Merge) (standings : List Standing) (old now new : Path) (us : Pairs) (kept : take (length old.known.items) now.known.items ≡ old.known.items) (after : take (length now.known.items) new.known.items ≡ now.known.items)
    (i : ℕ) (f : FormulaId) (s : Standing) (f_at : slice_get p.refuting.known.now i ≡ Some f) (s_at : slice_get standings i ≡ Some s) (leads : UnitsFrom p.refuting ms old standings now (turn.Open us)) where
  pub turn_next : (u : Resolved) (more : Pairs) → IsAdded u us.items more.items None → UnitStanding p ms now s (formula_at (bank_of p.refuting) f) new u → UnitsFrom p.refuting ms old standings new (turn.Open more)
  turn_next (resolved.Closed lines) more added one = let no : None ≡ Some lines = added in cc
  turn_next (resolved.One part t) more added one = turn_one p ms standings old now new us kept after i f s f_at s_at leads part t more added.1 one
  turn_next resolved.Open more added one = λ cs premises goal shown each.
      let l = turn_open p ms standings old now new us kept after i f s f_at s_at leads one cs premises goal shown each in
      record { goes_on = l.goes_on; grounded = subst (AllStand cs p.refuting.given (known_on (bank_of p.refuting) new)) (sym added.1) l.grounded }

  pub turn_ends : (u : Resolved) (more : List (FormulaId × Standing)) (v : Vec Line Global) → IsAdded u us.items more (Some v) → UnitStanding p ms now s (formula_at (bank_of p.refuting) f) new u → UnitsFrom p.refuting ms old standings new (turn.Closed v)
  turn_ends (resolved.Closed lines) more v added one =
      let same : v ≡ lines = cc in
      subst (λ (w : Vec Line Global). UnitsFrom p.refuting ms old standings new (turn.Closed w)) (sym same) (turn_closed p ms standings old now new us kept after i f s f_at s_at leads lines one)
  turn_ends (resolved.One part t) more v added one = let no : Some v ≡ None = added.0 in cc
  turn_ends resolved.Open more v added one = let no : Some v ≡ None = added.0 in cc

-- ---- what follows of the known formulas that were looked at

module _ (s : Looking) where
  abbrev b : Forms
  b = s.bank.now

  abbrev known : List FormulaId
  known = s.known.now

  pub next_units : (i : ℕ) (d : FormulaId) (us more : List (FormulaId × Standing)) (u : Resolved) → i < length known → AreUnits b known (take i known) (formulas_in us) → IsResolved s (formula_at b (get_or known i d)) u → IsAdded u us more None →
      AreUnits b known (take (i + 1) known) (formulas_in more)
  next_units i d us more (resolved.Closed lines) h are is added = let no : None ≡ Some lines = added in cc
  next_units i d us more (resolved.One part t) h are is added =
      subst (AreUnits b known (take (i + 1) known)) (sym (ap formulas_in added.1 ∙ map_push (λ (w : FormulaId × Standing). w.0) us (part, t))) (one_follows s i d (formulas_in us) part h are is)
  next_units i d us more resolved.Open h are is added = subst (λ (ws : List (FormulaId × Standing)). AreUnits b known (take (i + 1) known) (formulas_in ws)) (sym added.1) (none_follows s i d (formulas_in us) h are is)

-- ---- one turn: spread, then asked what follows, and that is learnt

module _ (g : Given) (before spread asked last : Reaching) where
  pub turned_grows : (t : Turn) → Grows g before spread → Turns g spread asked t → Grows g asked last → Grows g before last
  turned_grows t one two three = grows_more g before spread last one (grows_more g spread asked last two.grows three)

  pub turned_reaches : (us : Pairs) → ReachesFrom g before spread → TurnFrom g spread asked (turn.Open us) →
      ((cs : List ClassTree) (premises : List Formula) (goal : Formula) → Shows cs g asked → AllStand cs g (facts_of g asked) us.items → ReachesOn cs premises goal g asked last) → ReachesFrom g before last
  turned_reaches us one two three cs premises goal h =
      let a = one cs premises goal h in
      let k = two cs premises goal a.shows in
      let l = three cs premises goal k.0 k.1.grounded in
      record {
        shows = l.shows;
        goes_on = goes_through cs premises goal g.bank.now before.path spread.path last.path a.goes_on (goes_through cs premises goal g.bank.now spread.path asked.path last.path k.1.goes_on l.goes_on);
      }

  -- where nothing was added, the classes are still those of the merges
  pub still_classes : (t : Turn) → Grows g before spread → Turns g spread asked t → Grows g asked last → length last.reached.known.items ≡ length before.reached.known.items →
      (length last.reached.known.items ≡ length asked.reached.known.items → last.reached.congruence ≡ asked.reached.congruence) → last.reached.classes.items ≡ asked.reached.classes.items →
      AreClassesOf asked.reached.congruence.terms asked.reached.congruence.merges asked.reached.classes.items → AreClassesOf last.reached.congruence.terms last.reached.congruence.merges last.reached.classes.items
  still_classes t one two three long still classes are =
      let early = no_shorter g.bank.now before.reached spread.reached one.reached in
      let later = no_shorter g.bank.now asked.reached last.reached three.reached in
      let asked_long = ap length two.known in
      let same = still (omega (arith, early, later, asked_long, long)) in
      subst (λ (k : equal.Equations). AreClassesOf k.terms k.merges last.reached.classes.items) (sym same) (subst (λ (ns : List ℕ). AreClassesOf asked.reached.congruence.terms asked.reached.congruence.merges ns) (sym classes) are)

module _ (g : Given) (before spread asked : Reaching) (lines : Vec Line Global) (one : ReachesFrom g before spread) (two : TurnFrom g spread asked (turn.Closed lines)) where
  pub closed_reaches : ReachesFrom g before asked
  closed_reaches cs premises goal h =
      let a = one cs premises goal h in
      let k = two cs premises goal a.shows in
      record { shows = k.0; goes_on = goes_through cs premises goal g.bank.now before.path spread.path asked.path a.goes_on k.1.goes_on }

  pub closed_closes : (cs : List ClassTree) (premises : List Formula) (goal : Formula) → Shows cs g before → Closes cs premises goal (facts_of g asked) (lines_of g.bank.now lines.items)
  closed_closes cs premises goal h = let k = two cs premises goal (one cs premises goal h).shows in k.1.grounded

pub if_open : (P : Type 0) (t : Turn) (us : Pairs) → t ≡ turn.Open us → IfOpen P t → P
if_open P t us e h = subst (IfOpen P) e h

pub learnt_here : (g : Given) (asked last : Reaching) (us : Pairs) (vs : List (FormulaId × Standing)) → vs ≡ us.items →
    ((cs : List ClassTree) (premises : List Formula) (goal : Formula) → Shows cs g asked → AllStand cs g (facts_of g asked) vs → ReachesOn cs premises goal g asked last) →
    (cs : List ClassTree) (premises : List Formula) (goal : Formula) → Shows cs g asked → AllStand cs g (facts_of g asked) us.items → ReachesOn cs premises goal g asked last
learnt_here g asked last us vs e h cs premises goal shows all = h cs premises goal shows (subst (AllStand cs g (facts_of g asked)) (sym e) all)

-- ---- asked beside the table

pub all_clauses : {A E : Type 0} (r : Result A E) {P Q : Type 0} {F : A → Type 0} (G : A → Type 0) → OnOk r P → OnOk r Q → IfOk r F → ((x : A) → P → Q → F x → G x) → IfOk r G
all_clauses (Ok x) G p q f k = k x p q f
all_clauses (Err e) G p q f k = tt

module _ (g : Given) (old : Reaching) (k : equal.Equations) (path : Path) where
  abbrev pub asked_state : Reaching
  asked_state = record {
    reached = record { known = old.reached.known; numbers = old.reached.numbers; congruence = k; merges = old.reached.merges; classes = old.reached.classes };
    standings = old.standings;
    places = old.places;
    path = path;
  }

  pub asked_grows : IsReaching g old → k ≡ old.reached.congruence → take (length old.path.known.items) path.known.items ≡ old.path.known.items → Grows g old asked_state
  asked_grows h e kept =
      let r = still_reached g.bank.now old.reached asked_state.reached h.reached refl refl refl e in
      record {
        state = record { reached = r; long = h.long; places = h.places };
        reached = grows_alike g.bank.now old.reached asked_state.reached r refl;
        standings = front_itself old.standings.items;
        merges = remembers_alike g.bank.now old.reached asked_state.reached h.reached refl e;
        facts = kept;
      }

  -- what is shown stays so, and each known formula stands as is said
  pub asked_shows : (cs : List ClassTree) → k ≡ old.reached.congruence → take (length old.path.known.items) path.known.items ≡ old.path.known.items → Shows cs g old → Shows cs g asked_state
  asked_shows cs e kept h =
      let l = longer_shows g old path kept cs h in
      record { standing = l.standing; merges = subst (λ (c : equal.Equations). AreKnown cs g.bank.now c.merges (length (known_on g.bank.now path)) (known_on g.bank.now path)) (sym e) l.merges }

  pub asked_from : (s : Refuting) (standings : List Standing) (t : Turn) → s.given ≡ g → s.known.now ≡ old.reached.known.items → s.places.now ≡ old.places.items → standings ≡ old.standings.items → IsReaching g old → k ≡ old.reached.congruence →
      take (length old.path.known.items) path.known.items ≡ old.path.known.items → UnitsFrom s old.reached.congruence.merges old.path standings path t → TurnFrom g old asked_state t
  asked_from s standings t given known places stand state e kept leads cs premises goal h =
      let shown : AreShown cs s old.reached.congruence.merges (known_on s.given.bank.now old.path) = record {
        chosen = subst (λ (w : Given). AreChosen cs w (known_on w.bank.now old.path)) (sym given) h.standing.chosen;
        at = subst (λ (w : Given). AreAt cs w.bank.now (known_on w.bank.now old.path) s.known.now s.places.now) (sym given)
            (subst (λ (fs : List FormulaId). AreAt cs g.bank.now (facts_of g old) fs s.places.now) (sym known) (subst (λ (ns : List ℕ). AreAt cs g.bank.now (facts_of g old) old.reached.known.items ns) (sym places) (shows_at cs g old state h)));
        merges = subst (λ (w : Given). AreKnown cs w.bank.now old.reached.congruence.merges (length (known_on w.bank.now old.path)) (known_on w.bank.now old.path)) (sym given) h.merges;
      } in (
        asked_shows cs e kept h,
        subst (λ (w : Given). LeadsToAll cs premises goal w old.path path t) given (leads cs premises goal shown
            (λ i f st f_at st_at. subst (λ (w : Given). Stands cs w (known_on w.bank.now old.path) st (formula_at w.bank.now f)) (sym given)
            (h.standing.each i (formula_at g.bank.now f) st (map_at (formula_at g.bank.now) old.reached.known.items i f (ap (λ (fs : List FormulaId). slice_get fs i) (sym known) ∙ f_at)) (ap (λ (ss : List Standing). slice_get ss i) (sym stand) ∙ st_at)))),
      )

-- ---- the classes are kept

module _ (g : Given) (old : Reaching) (ns : Vec ℕ Global) where
  abbrev pub reclassed : Reaching
  reclassed = record {
    reached = record { known = old.reached.known; numbers = old.reached.numbers; congruence = old.reached.congruence; merges = old.reached.merges; classes = ns };
    standings = old.standings;
    places = old.places;
    path = old.path;
  }

  pub reclassed_state : IsReaching g old → IsReaching g reclassed
  reclassed_state h = record { reached = still_reached g.bank.now old.reached reclassed.reached h.reached refl refl refl refl; long = h.long; places = h.places }

  pub reclassed_shows : (cs : List ClassTree) → Shows cs g old → Shows cs g reclassed
  reclassed_shows cs h = record { standing = h.standing; merges = h.merges }

  reclassed_follows : (t : Turn) → IfFollows g reclassed t → IfFollows g old t
  reclassed_follows (turn.Closed lines) h = tt
  reclassed_follows (turn.Open us) h = h

  pub reclassed_turns : (new : Reaching) (t : Turn) → Turns g reclassed new t → Turns g old new t
  reclassed_turns new t h = record {
    grows = record {
      state = h.grows.state;
      reached = record { reached = h.grows.reached.reached; front = h.grows.reached.front; occurs = h.grows.reached.occurs };
      standings = h.grows.standings;
      merges = record { counts = h.grows.merges.counts; begins = h.grows.merges.begins; next = h.grows.merges.next };
      facts = h.grows.facts;
    };
    known = h.known;
    follows = reclassed_follows t h.follows;
  }

  pub reclassed_from : (new : Reaching) (t : Turn) → TurnFrom g reclassed new t → TurnFrom g old new t
  reclassed_from new t h cs premises goal shows = h cs premises goal (reclassed_shows cs shows)

  pub clash_turns : (lines : Vec Line Global) → IsReaching g old → Turns g old reclassed (turn.Closed lines)
  clash_turns lines h =
      let state = reclassed_state h in
      record {
        grows = record {
          state = state;
          reached = grows_alike g.bank.now old.reached reclassed.reached state.reached refl;
          standings = front_itself old.standings.items;
          merges = remembers_alike g.bank.now old.reached reclassed.reached h.reached refl refl;
          facts = front_itself old.path.known.items;
        };
        known = refl;
        follows = tt;
      }

  pub clash_from : (lines : Vec Line Global) (count : ℕ) (fs : List FormulaId) (places : List ℕ) → count ≡ length old.path.known.items → fs ≡ old.reached.known.items → places ≡ old.places.items → IsReaching g old →
      CloseCase g.bank.now old.reached.congruence.merges count (λ cs facts. AreAt cs g.bank.now facts fs places) lines.items → TurnFrom g old reclassed (turn.Closed lines)
  clash_from lines count fs places many known_is places_is state closes cs premises goal h = (
    reclassed_shows cs h,
    record {
      goes_on = goes_nowhere cs premises goal g.bank.now old.path old.path (record { before = refl; behind = refl; known = refl });
      grounded = closes.closes cs premises goal (facts_of g old) (known_merges cs g old count many h)
          (subst (λ (xs : List FormulaId). AreAt cs g.bank.now (facts_of g old) xs places) (sym known_is) (subst (λ (ps : List ℕ). AreAt cs g.bank.now (facts_of g old) old.reached.known.items ps) (sym places_is) (shows_at cs g old state h)));
    },
  )

pub open_always : (P : Type 0) (t : Turn) → P → IfOpen P t
open_always P (turn.Closed lines) h = tt
open_always P (turn.Open us) h = h
