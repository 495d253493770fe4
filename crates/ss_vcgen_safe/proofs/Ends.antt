-- After an `if`: the position agrees where the side that was run does at its end.
use Rattle.std.proofs.Common.{◌≡◌, ℕ, List, [], ◌∷◌, length, true, ◌⊎◌, inl, inr, ⊎_elim, eqb, refl, sym, ◌∙◌, subst, arith}
use Rattle.std.specs.Prelude.{slice_get}
use Rattle.std.proofs.lemmas.Bool.{true≢false, eq-eqb}
use Rattle.ss_core.specs.Tree.{ClassTree}
use Rattle.ss_store_rules.specs.Store.{Object}
use Rattle.ss_store_rules.specs.Locals.{local_types}
use Rattle.ss_store_rules.specs.NonNull.{Known}
use Rattle.ss_store_rules.specs.Values.{local_value}
use Rattle.ss_logic.specs.declared.Sort.TheVariants as sort
use Rattle.ss_logic.specs.Values.{Heap, IsNumbered, Table, Value, store, as_store, Structure}
use Rattle.ss_logic.specs.Terms.{Term, value_of}
use Rattle.ss_logic.specs.Objects.{IsGoodStore, objects_of}
use Rattle.ss_logic.proofs.Numbered.{store_numbered}
use Rattle.ss_logic.specs.Express.{element_sort}
use Rattle.ss_logic_means.specs.Means.{standing}
use Rattle.ss_vcgen_heaps.specs.Positions.{Guard, Always, When, Never, Counters, Position, Walk, join_term, join_locals, join_guard, join_both, join_from, join}
use Rattle.ss_sound_outcomes.specs.Points.{Point, scene, IsSound}
use Rattle.ss_vcgen_safe.specs.At.{IsAlike, Stays, HoldIn, IsOn, IsOff, Rises, IsStore, activation, Agrees}
use Rattle.ss_vcgen_safe.proofs.Alike.{rises_self, rises_twice, alike_self, alike_twice, alike_lower, table_on, with_truths, truths_new, truths_alike, store_on}
use Rattle.ss_vcgen_safe.proofs.Guards.{hold_more, either_guard, join_first_on, join_second_on}
use Rattle.ss_vcgen_safe.proofs.Leads.{leads_join_term, leads_join_locals, joined_count}
use Rattle.ss_vcgen_safe.proofs.PositionsTerms.{standing_numbered}
use Rattle.ss_vcgen_safe.proofs.Sides.{truth_stays}
use Rattle.ss_vcgen_safe.proofs.PositionsJoins.{local_sorted, Ran, ran_on, IsTerm, term_on, IsReached, term_joined, AreTerms, terms_on, all_joined}

-- the end of the first side, with what is new on the second
abbrev pub first_end : Position → Position → Position
first_end first second = record second { locals = first.locals; store = first.store; guard = first.guard; known = first.known }

pub record JoinAgrees (w : Walk) (before : List Object) (table : Table) (m : Structure) (second k : Position) (p : Point) : Type 0 where
  pub m' : Structure
  pub alike : IsAlike second.next m m'
  pub agrees : Agrees w before table m' k p

-- the heap of a term is numbered
heap_numbered : (cs : List ClassTree) (m : Structure) (t : Term) (h : Heap) → value_of cs m [] t ≡ store h → IsNumbered h
heap_numbered cs m t h e = subst (λ v. IsNumbered (as_store v)) e (store_numbered cs m t)

module _ (w : Walk) (before : List Object) (table : Table) (meet : Known → Known → Known) (first second : Position) (m : Structure) (p : Point) where
  -- One side was run to its end, and the other wasn't reached.
  abbrev pub IsEnd : Type 0
  IsEnd = (Agrees w before table m (first_end first second) p × Stays second.next m (IsOff second.guard)) ⊎ (Stays second.next m (IsOff first.guard) × Agrees w before table m second p)

  abbrev vals : ℕ → Value
  vals x = standing (local_value (scene (activation w before table) p) x)

  -- what both have in common
  record Common : Type 0 where
    table_is : m.table ≡ table
    entry : IsStore w.program.classes table second.next m w.entry before
    premises : Stays second.next m (HoldIn w.program.classes second.premises)
    heap : Heap
    numbered : IsNumbered heap
    good : IsGoodStore w.program.classes table heap
    objects : objects_of w.program.classes table heap ≡ p.store
    ran :
        Ran second.next m first.guard second.guard (AreTerms w.program.classes first.guard second.guard second.next m (local_types w.body) vals first.locals × IsTerm w.program.classes second.next m sort.Store (store heap) first.store)
        (AreTerms w.program.classes first.guard second.guard second.next m (local_types w.body) vals second.locals × IsTerm w.program.classes second.next m sort.Store (store heap) second.store)

  common : IsEnd → Common
  common (inl e) =
      let g = e.0 in
      record {
        table_is = g.table_is;
        entry = g.entry;
        premises = g.premises;
        heap = g.store_is.heap;
        numbered = heap_numbered w.program.classes m first.store g.store_is.heap (g.store_is.is m (alike_self second.next m) []);
        good = g.store_is.good;
        objects = g.store_is.objects;
        ran = inl (g.guard, e.1, (λ i t there. let l = g.locals i t there in (l.is, l.sorted), (g.store_is.is, g.store_is.sorted)));
      }
  common (inr e) =
      let g = e.1 in
      record {
        table_is = g.table_is;
        entry = g.entry;
        premises = g.premises;
        heap = g.store_is.heap;
        numbered = heap_numbered w.program.classes m second.store g.store_is.heap (g.store_is.is m (alike_self second.next m) []);
        good = g.store_is.good;
        objects = g.store_is.objects;
        ran = inr (e.0, g.guard, (λ i t there. let l = g.locals i t there in (l.is, l.sorted), (g.store_is.is, g.store_is.sorted)));
      }

  -- the parts of what was run
  ran_locals : (n : Counters) (m' : Structure) (P Q R S : Type 0) → Ran n m' first.guard second.guard (P × R) (Q × S) → Ran n m' first.guard second.guard P Q
  ran_locals n m' P Q R S (inl r) = inl (r.0, r.1, r.2.0)
  ran_locals n m' P Q R S (inr r) = inr (r.0, r.1, r.2.0)

  ran_stores : (n : Counters) (m' : Structure) (P Q R S : Type 0) → Ran n m' first.guard second.guard (P × R) (Q × S) → Ran n m' first.guard second.guard R S
  ran_stores n m' P Q R S (inl r) = inl (r.0, r.1, r.2.1)
  ran_stores n m' P Q R S (inr r) = inr (r.0, r.1, r.2.1)

  guard_rises : Rises second.next (join_guard first.guard second.guard second).next
  guard_rises sort.Truth = omega arith
  guard_rises s = rises_self second.next s

  -- the guard of the join is made true
  record GuardSet : Type 0 where
    m' : Structure
    alike : IsAlike second.next m m'
    reached : IsReached w.program.classes m' (join_guard first.guard second.guard second)

  guard_set : Common → GuardSet
  guard_set c =
      let n = second.next.truths in
      let k = join_guard first.guard second.guard second in
      let m' = with_truths m n (λ j. eqb j n) in
      let alike = truths_alike m n (λ j. eqb j n) second.next (omega arith) in
      let back : (m'' : Structure) → IsAlike k.next m' m'' → IsAlike second.next m m'' = λ m'' a. alike_twice second.next m m' m'' alike (alike_lower second.next k.next m' m'' guard_rises a) in
      record {
        m' = m';
        alike = alike;
        reached = record {
          guard = truth_stays k.next m' n true (omega arith) (truths_new m n (λ j. eqb j n) n (omega arith) ∙ eq-eqb n n refl);
          premises =
              λ m'' a. hold_more w.program.classes m'' second.premises (either_guard w.program.classes m'' first.guard second.guard n ∷ []) (c.premises m'' (back m'' a)) (
                ⊎_elim (λ r. join_first_on w.program.classes m'' first.guard second.guard n (r.0 m'' (back m'' a))) (λ r. join_second_on w.program.classes m'' first.guard second.guard n (r.1 m'' (back m'' a))) c.ran,
                tt,
              );
        };
      }

  module _ (sound : IsSound (activation w before table) p) (first_count : length first.locals ≡ length (local_types w.body)) (second_count : length second.locals ≡ length (local_types w.body)) where
    both_agree : Common → JoinAgrees w before table m second (join_both w meet first second) p
    both_agree c =
        let cs = w.program.classes in
        let g = first.guard in
        let h = second.guard in
        let ts = local_types w.body in
        let k = join_guard g h second in
        let s = guard_set c in
        let locals_ran = ran_locals second.next m (AreTerms cs g h second.next m ts vals first.locals) (AreTerms cs g h second.next m ts vals second.locals) (IsTerm cs second.next m sort.Store (store c.heap) first.store) (IsTerm cs second.next m sort.Store (store c.heap) second.store) c.ran in
        let stores_ran = ran_stores second.next m (AreTerms cs g h second.next m ts vals first.locals) (AreTerms cs g h second.next m ts vals second.locals) (IsTerm cs second.next m sort.Store (store c.heap) first.store) (IsTerm cs second.next m sort.Store (store c.heap) second.store) c.ran in
        let z = all_joined cs g h w s.m' ts vals first.locals second.locals k (λ i t there. local_sorted w before table p sound i t there) (λ i. standing_numbered (local_value (scene (activation w before table) p) i)) s.reached
        (ran_on second.next k.next m s.m' g h (AreTerms cs g h second.next m ts vals first.locals) (AreTerms cs g h second.next m ts vals second.locals) (AreTerms cs g h k.next s.m' ts vals first.locals) (AreTerms cs g h k.next s.m' ts vals second.locals)
        guard_rises s.alike (terms_on cs g h second.next k.next m s.m' ts vals first.locals guard_rises s.alike) (terms_on cs g h second.next k.next m s.m' ts vals second.locals guard_rises s.alike) locals_ran) in
        let r = join_locals g h ts first.locals second.locals k in
        let to_locals = (leads_join_locals w g h ts first.locals second.locals k).rises in
        let rises = rises_twice second.next k.next r.1.next guard_rises to_locals in
        let alike = alike_twice second.next m s.m' z.m' s.alike (alike_lower second.next k.next s.m' z.m' guard_rises z.alike) in
        let y = term_joined cs g h z.m' r.1 sort.Store first.store second.store (store c.heap) c.numbered refl z.reached
        (ran_on second.next r.1.next m z.m' g h (IsTerm cs second.next m sort.Store (store c.heap) first.store) (IsTerm cs second.next m sort.Store (store c.heap) second.store) (IsTerm cs r.1.next z.m' sort.Store (store c.heap) first.store) (IsTerm cs r.1.next z.m' sort.Store (store c.heap) second.store)
        rises alike (term_on cs second.next r.1.next m z.m' sort.Store (store c.heap) first.store rises alike) (term_on cs second.next r.1.next m z.m' sort.Store (store c.heap) second.store rises alike) stores_ran) in
        let k' = join_term g h sort.Store first.store second.store r.1 in
        let to_end = (leads_join_term w g h sort.Store first.store second.store r.1).rises in
        let all_rises = rises_twice second.next r.1.next k'.next rises to_end in
        let all_alike = alike_twice second.next m z.m' y.m' alike (alike_lower second.next r.1.next z.m' y.m' rises y.alike) in
        record {
          m' = y.m';
          alike = all_alike;
          agrees = record {
            table_is = table_on second.next m y.m' table all_alike c.table_is;
            entry = store_on cs table second.next k'.next m y.m' w.entry before all_rises all_alike c.entry;
            store_is = record { heap = c.heap; is = y.is.0; sorted = y.is.1; good = c.good; objects = c.objects };
            count = joined_count w g h ts first.locals second.locals k first_count second_count;
            locals = λ x t there. let l = term_on cs r.1.next k'.next z.m' y.m' (element_sort (slice_get ts x)) (vals x) t to_end y.alike (z.are x t there) in record { is = l.0; sorted = l.1 };
            guard = y.reached.guard;
            premises = y.reached.premises;
          };
        }

    abbrev Result : Position → Type 0
    Result k = JoinAgrees w before table m second k p

    on_and_off : (g : Guard) → IsOn g m → IsOff g m → ⊥
    on_and_off Always a b = b
    on_and_off (When n) a b = true≢false (sym a ∙ b)
    on_and_off Never a b = a

    second_end : IsEnd → first.guard ≡ Never → Result second
    second_end (inl e) is = absurd (subst (λ g. IsOn g m) is (e.0.guard m (alike_self second.next m)))
    second_end (inr e) is = record { m' = m; alike = alike_self second.next m; agrees = e.1 }

    first_alone : IsEnd → second.guard ≡ Never → Result (first_end first second)
    first_alone (inl e) is = record { m' = m; alike = alike_self second.next m; agrees = e.0 }
    first_alone (inr e) is = absurd (subst (λ g. IsOn g m) is (e.1.guard m (alike_self second.next m)))

    join_from_agrees : (g h : Guard) → first.guard ≡ g → second.guard ≡ h → IsEnd → Result (join_from g h w meet first second)
    join_from_agrees Never h a b e = second_end e a
    join_from_agrees Always Never a b e = first_alone e b
    join_from_agrees Always Always a b e = both_agree (common e)
    join_from_agrees Always (When n) a b e = both_agree (common e)
    join_from_agrees (When i) Never a b e = first_alone e b
    join_from_agrees (When i) Always a b e = both_agree (common e)
    join_from_agrees (When i) (When n) a b e = both_agree (common e)

    pub join_agrees : IsEnd → JoinAgrees w before table m second (join w meet first second) p
    join_agrees e = join_from_agrees first.guard second.guard refl refl e
