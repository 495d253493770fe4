-- The run at the sides of a test, and after both.
use Rattle.std.proofs.Common.{◌≡◌, ℕ, ◌+◌, List, length, Bool, true, false, inl, inr, sym, ◌∙◌, subst}
use Rattle.ss_store_rules.specs.Store.{Object}
use Rattle.ss_store_rules.specs.Locals.{local_types}
use Rattle.ss_store_rules.specs.NonNull.{Known, known_met}
use Rattle.ss_store_rules.specs.Values.{Setting}
use Rattle.ss_machine_good.specs.Known.{IsTrueOf}
use Rattle.ss_machine_good.proofs.Meets.{met_one, met_other}
use Rattle.ss_logic.specs.Values.{Table, Structure}
use Rattle.ss_logic.specs.Formulas.{Formula, neg}
use Rattle.ss_vcgen_heaps.specs.Positions.{Guard, Always, When, Never, Position, Walk, first_side, second_side, join_from, join}
use Rattle.ss_sound_outcomes.specs.Points.{Point, scene}
use Rattle.ss_vcgen_safe.specs.At.{IsAlike, Stays, IsTrueIn, HoldIn, IsOn, IsOff, Rises, activation, Agrees, HaveTerms, IsAt, Leads}
use Rattle.ss_vcgen_safe.proofs.Alike.{alike_self, alike_twice, alike_lower, stays_on, store_on, local_on}
use Rattle.ss_vcgen_safe.proofs.Sides.{skipped, first_taken, second_taken}
use Rattle.ss_vcgen_safe.proofs.Ends.{first_end, join_agrees}

-- ---- what is known of null after both sides

known_first : (w : Walk) (b : Bool) (s : Setting) (m : Structure) (first second : Position) (g h : Guard) → IsOn g m → IsTrueOf b first.known s → IsTrueOf b (join_from g h w known_met first second).known s
known_first w b s m first second Never h on is = absurd on
known_first w b s m first second Always Never on is = is
known_first w b s m first second Always Always on is = met_one b first.known second.known s is
known_first w b s m first second Always (When n) on is = met_one b first.known second.known s is
known_first w b s m first second (When i) Never on is = is
known_first w b s m first second (When i) Always on is = met_one b first.known second.known s is
known_first w b s m first second (When i) (When n) on is = met_one b first.known second.known s is

known_second : (w : Walk) (b : Bool) (s : Setting) (m : Structure) (first second : Position) (g h : Guard) → IsOn h m → IsTrueOf b second.known s → IsTrueOf b (join_from g h w known_met first second).known s
known_second w b s m first second Never h on is = is
known_second w b s m first second Always Never on is = absurd on
known_second w b s m first second Always Always on is = met_other b first.known second.known s is
known_second w b s m first second Always (When n) on is = met_other b first.known second.known s is
known_second w b s m first second (When i) Never on is = absurd on
known_second w b s m first second (When i) Always on is = met_other b first.known second.known s is
known_second w b s m first second (When i) (When n) on is = met_other b first.known second.known s is

module _ (w : Walk) (before : List Object) (table : Table) where
  -- In some structure that is alike below the counters of k the run is at the position k'.
  pub record GoesTo (xs : ℕ → Bool) (m : Structure) (k k' : Position) (p : Point) : Type 0 where
    pub m' : Structure
    pub alike : IsAlike k.next m m'
    pub at : IsAt w before table xs m' k' p

  -- ---- into a side

  module _ (xs : ℕ → Bool) (m : Structure) (k : Position) (p : Point) (f : Formula) (tested : Known) (i : IsAt w before table xs m k p) where
    pub record IntoFirst : Type 0 where
      pub to : GoesTo xs m k (first_side f tested k) p
      -- the other side isn't reached
      pub other : Stays (first_side f tested k).next to.m' (λ m''. m''.truths (k.next.truths + 1) ≡ false)

    pub into_first : IsTrueOf w.body.flags.ctor tested (scene (activation w before table) p) → Stays k.next m (IsTrueIn w.program.classes f) → IntoFirst
    into_first known t =
        let z = first_taken w before table m k p f tested i.agrees t in
        record {
          to = record { m' = z.m'; alike = z.alike; at = record { agrees = z.agrees; known = known; assigned = i.assigned; terms = i.terms; sound = i.sound } };
          other = z.other;
        }

    pub record IntoSecond (g : Guard) (untested : Known) (first : Position) : Type 0 where
      pub to : GoesTo xs m k (second_side g untested k first) p
      pub off : Stays first.next to.m' (IsOff first.guard)

    pub into_second : (g : Guard) (untested : Known) (first : Position) → ((m'' : Structure) → m''.truths (k.next.truths + 1) ≡ true → IsOn g m'') → Leads w (first_side f tested k) first →
        IsTrueOf w.body.flags.ctor untested (scene (activation w before table) p) → Stays k.next m (IsTrueIn w.program.classes (neg f)) → IntoSecond g untested first
    into_second g untested first is x known t =
        let z = second_taken w before table m k p f tested i.agrees g untested first is x t in
        record {
          to = record { m' = z.m'; alike = z.alike; at = record { agrees = z.agrees; known = known; assigned = i.assigned; terms = i.terms; sound = i.sound } };
          off = z.off;
        }

  -- ---- after both sides

  module _ (first second : Position) (m : Structure) (q : Point) (xs us : ℕ → Bool) (less : (x : ℕ) → us x ≡ true → xs x ≡ true) (terms : HaveTerms us (join w known_met first second).locals)
      (first_count : length first.locals ≡ length (local_types w.body)) (second_count : length second.locals ≡ length (local_types w.body)) where
    -- the end of the first side, where the second one is gone over from the position `other`
    pub behind_first : (other : Position) → IsAt w before table xs m first q → other.next ≡ first.next → other.premises ≡ first.premises → Stays first.next m (IsOff other.guard) → Leads w other second → GoesTo us m first (join w known_met first second) q
    behind_first other i next premises off x =
        let cs = w.program.classes in
        let s = skipped w other second m x (subst (λ n. Stays n m (IsOff other.guard)) (sym next) off)
        (subst (λ n. Stays n m (HoldIn cs other.premises)) (sym next) (subst (λ fs. Stays first.next m (HoldIn cs fs)) (sym premises) i.agrees.premises)) in
        let rises : Rises first.next second.next = subst (λ n. Rises n second.next) next x.rises in
        let alike : IsAlike first.next m s.m' = subst (λ n. IsAlike n m s.m') next s.alike in
        let a = i.agrees in
        let end : Agrees w before table s.m' (first_end first second) q = record {
          table_is = alike.table ∙ a.table_is;
          entry = store_on cs table first.next second.next m s.m' w.entry before rises alike a.entry;
          store_is = store_on cs table first.next second.next m s.m' first.store q.store rises alike a.store_is;
          count = a.count;
          locals = λ y t there. local_on w before table first.next second.next m s.m' q y t rises alike (a.locals y t there);
          guard = stays_on (IsOn first.guard) first.next second.next m s.m' rises alike a.guard;
          premises = s.hold;
        } in
        let z = join_agrees w before table known_met first second s.m' q i.sound first_count second_count (inl (end, s.off)) in
        record {
          m' = z.m';
          alike = alike_twice first.next m s.m' z.m' alike (alike_lower first.next second.next s.m' z.m' rises z.alike);
          at = record {
            agrees = z.agrees;
            known = known_first w w.body.flags.ctor (scene (activation w before table) q) m first second first.guard second.guard (a.guard m (alike_self first.next m)) i.known;
            assigned = λ y h. i.assigned y (less y h);
            terms = terms;
            sound = i.sound;
          };
        }

    -- the end of the second side, over the first one, whose end isn't reached
    pub behind_second : IsAt w before table xs m second q → Stays second.next m (IsOff first.guard) → GoesTo us m second (join w known_met first second) q
    behind_second i off =
        let z = join_agrees w before table known_met first second m q i.sound first_count second_count (inr (off, i.agrees)) in
        record {
          m' = z.m';
          alike = z.alike;
          at = record {
            agrees = z.agrees;
            known = known_second w w.body.flags.ctor (scene (activation w before table) q) m first second first.guard second.guard (i.agrees.guard m (alike_self second.next m)) i.known;
            assigned = λ y h. i.assigned y (less y h);
            terms = terms;
            sound = i.sound;
          };
        }
