-- From a position to those after it: counters rise, obligations stay listed, and code that isn't reached adds only true premises.
use Rattle.std.proofs.Common.{◌≡◌, ℕ, zero, suc, ◌≤◌, ◌+◌, List, [], ◌∷◌, ◌++◌, length, Bool, true, false, refl, sym, ◌∙◌, ap, subst, arith}
use Rattle.std.specs.Prelude.{Option, Some, None, slice_set, if◌then◌else◌}
use Rattle.ss_core.specs.declared.names.Kind.{Kind}
use Rattle.ss_core.specs.declared.names.Place.{Place}
use Rattle.ss_core.specs.declared.names.Ty.{Ty}
use Rattle.ss_core.specs.Tree.{ClassTree, ExprTree}
use Rattle.ss_store_rules.specs.Locals.{local_types}
use Rattle.ss_store_rules.specs.NonNull.{Known}
use Rattle.ss_logic.specs.declared.Sort.{Sort}
use Rattle.ss_logic.specs.declared.Sort.TheVariants as sort
use Rattle.ss_logic.specs.Values.{Structure}
use Rattle.ss_logic.specs.Terms.{Term}
use Rattle.ss_logic.specs.Formulas.{Formula, IsValid, neg}
use Rattle.ss_logic.specs.Equal.{same_term}
use Rattle.ss_logic.specs.Shapes.{equal}
use Rattle.ss_logic.specs.Express.{Meant, One, Either, Says, element_sort}
use Rattle.ss_vcgen_heaps.specs.Parts.{Part, parts}
use Rattle.ss_vcgen_heaps.specs.Positions.{Obligation, Guard, Always, When, Never, Position, Walk, under, side, good, assume, assume_all, check, check_all, check_unless, check_parts, new_term, with_new, set_local, set_store, with_store, ended, site, context_at, evaluate, evaluate_all, has_value, define, with_term, settled, first_side, second_side, join_term, join_locals, join_guard, join_both, join_from, join, if_reached}
use Rattle.ss_vcgen_heaps.specs.Obligations.{AreValid}
use Rattle.ss_vcgen_safe.specs.At.{IsOff, IsQuiet, HoldIn, Rises, Leads}
use Rattle.ss_vcgen_safe.proofs.Alike.{rises_self, rises_twice, rises_new}
use Rattle.ss_vcgen_safe.proofs.Guards.{hold_more, under_off, side_off, either_guard, join_off}

-- ---- lists of obligations, and numbers of truth values

pub valid_first : (cs : List ClassTree) (os others : List Obligation) → AreValid cs (os ++ others) → AreValid cs os
valid_first cs [] others v = tt
valid_first cs (o ∷ os) others v = (v.0, valid_first cs os others v.1)

pub valid_last : (cs : List ClassTree) (os : List Obligation) (o : Obligation) → AreValid cs (os ++ o ∷ []) → IsValid cs o.premises o.goal
valid_last cs [] o v = v.0
valid_last cs (x ∷ os) o v = valid_last cs os o v.1

pub quiet_between : (m : Structure) (from to first last : ℕ) → from ≤ first → last ≤ to → IsQuiet from to m → IsQuiet first last m
quiet_between m from to first last l h q i a b = q i (omega (arith, l, a)) (omega (arith, h, b))

pub length_set : {A : Type 0} (xs : List A) (i : ℕ) (x : A) → length (slice_set xs i x) ≡ length xs
length_set [] i x = refl
length_set (y ∷ xs) zero x = refl
length_set (y ∷ xs) (suc i) x = ap suc (length_set xs i x)

module _ (w : Walk) where
  -- ---- one after the other

  pub leads_self : (k : Position) → Leads w k k
  leads_self k = record { rises = rises_self k.next; listed = λ v. v; count = λ e. e; off = λ m q o. o; hold = λ m q o h. h }

  pub leads_twice : (a b c : Position) → Leads w a b → Leads w b c → Leads w a c
  leads_twice a b c x y = record {
    rises = rises_twice a.next b.next c.next x.rises y.rises;
    listed = λ v. x.listed (y.listed v);
    count = λ e. y.count (x.count e);
    off = λ m q o. y.off m (second m q) (x.off m (first m q) o);
    hold = λ m q o h. y.hold m (second m q) (x.off m (first m q) o) (x.hold m (first m q) o h);
  }
    where
      first : (m : Structure) → IsQuiet a.next.truths c.next.truths m → IsQuiet a.next.truths b.next.truths m
      first m q = quiet_between m a.next.truths c.next.truths a.next.truths b.next.truths (omega arith) (y.rises sort.Truth) q

      second : (m : Structure) → IsQuiet a.next.truths c.next.truths m → IsQuiet b.next.truths c.next.truths m
      second m q = quiet_between m a.next.truths c.next.truths b.next.truths c.next.truths (x.rises sort.Truth) (omega arith) q

  pub leads_known : (k : Position) (known : Known) → Leads w k (record k { known = known })
  leads_known k known = record { rises = rises_self k.next; listed = λ v. v; count = λ e. e; off = λ m q o. o; hold = λ m q o h. h }

  pub leads_set_store : (s : Term) (k : Position) → Leads w k (set_store s k)
  leads_set_store s k = record { rises = rises_self k.next; listed = λ v. v; count = λ e. e; off = λ m q o. o; hold = λ m q o h. h }

  pub leads_set_local : (x : ℕ) (t : Term) (k : Position) → Leads w k (set_local x t k)
  leads_set_local x t k = record { rises = rises_self k.next; listed = λ v. v; count = λ e. length_set k.locals x (Some t) ∙ e; off = λ m q o. o; hold = λ m q o h. h }

  pub leads_ended : (k : Position) → Leads w k (ended k)
  leads_ended k = record { rises = rises_self k.next; listed = λ v. v; count = λ e. e; off = λ m q o. tt; hold = λ m q o h. h }

  pub leads_new : (s : Sort) (k : Position) → Leads w k (with_new s k)
  leads_new s k = record { rises = rises_new s k.next; listed = λ v. v; count = λ e. e; off = λ m q o. o; hold = λ m q o h. h }

  -- ---- premises and checks

  pub leads_assume : (f : Formula) (k : Position) → Leads w k (assume f k)
  leads_assume f k = record {
    rises = rises_self k.next;
    listed = λ v. v;
    count = λ e. e;
    off = λ m q o. o;
    hold = λ m q o h. hold_more w.program.classes m k.premises (under k.guard f ∷ []) h (under_off w.program.classes m k.guard f o, tt);
  }

  pub leads_assume_all : (fs : List Formula) (k : Position) → Leads w k (assume_all fs k)
  leads_assume_all [] k = leads_self k
  leads_assume_all (f ∷ fs) k = leads_twice k (assume f k) (assume_all fs (assume f k)) (leads_assume f k) (leads_assume_all fs (assume f k))

  pub leads_check : (kind : Kind) (at : Place) (f : Formula) (k : Position) → Leads w k (check w kind at f k)
  leads_check kind at f k = record {
    rises = rises_self k.next;
    listed = λ v. valid_first w.program.classes k.listed _ v;
    count = λ e. e;
    off = λ m q o. o;
    hold = λ m q o h. hold_more w.program.classes m k.premises (under k.guard f ∷ []) h (under_off w.program.classes m k.guard f o, tt);
  }

  pub leads_check_all : (kind : Kind) (at : Place) (fs : List Formula) (k : Position) → Leads w k (check_all w kind at fs k)
  leads_check_all kind at [] k = leads_self k
  leads_check_all kind at (f ∷ fs) k =
      let k' = check w kind at f k in
      leads_twice k k' (check_all w kind at fs k') (leads_check kind at f k) (leads_check_all kind at fs k')

  pub leads_check_unless : (known : Bool) (kind : Kind) (at : Place) (f : Formula) (k : Position) → Leads w k (check_unless known w kind at f k)
  leads_check_unless true kind at f k = leads_self k
  leads_check_unless false kind at f k = leads_check kind at f k

  pub leads_check_parts : (ps : List Part) (k : Position) → Leads w k (check_parts w ps k)
  leads_check_parts [] k = leads_self k
  leads_check_parts (p ∷ ps) k =
      let k' = check w p.kind p.place p.formula k in
      leads_twice k k' (check_parts w ps k') (leads_check p.kind p.place p.formula k) (leads_check_parts ps k')

  pub leads_evaluate : (e : ExprTree) (k : Position) → Leads w k (evaluate w e k)
  leads_evaluate e k = leads_check_parts (parts e (site w) k.known (context_at w k)) k

  pub leads_evaluate_all : (es : List ExprTree) (k : Position) → Leads w k (evaluate_all w es k)
  leads_evaluate_all [] k = leads_self k
  leads_evaluate_all (e ∷ es) k = leads_twice k (evaluate w e k) (evaluate_all w es (evaluate w e k)) (leads_evaluate e k) (leads_evaluate_all es (evaluate w e k))

  pub leads_with_store : (s : Term) (k : Position) → Leads w k (with_store s k)
  leads_with_store s k = leads_twice k (set_store s k) (assume (good s) (set_store s k)) (leads_set_store s k) (leads_assume (good s) (set_store s k))

  -- ---- terms for what is meant

  pub leads_define : (s : Sort) (x : Meant) (k : Position) → Leads w k (define s x k)
  leads_define s x k = leads_twice k (with_new s k) (assume (has_value s (new_term s k) x) (with_new s k)) (leads_new s k) (leads_assume (has_value s (new_term s k) x) (with_new s k))

  pub leads_with_term : (s : Sort) (x : Meant) (k : Position) → Leads w k (with_term s x k)
  leads_with_term s (One t) k = leads_self k
  leads_with_term s (Either xs) k = leads_define s (Either xs) k
  leads_with_term s (Says f) k = leads_define s (Says f) k

  pub leads_settled : (x : Meant) (s : Sort) (k : Position) → Leads w k (settled x s k)
  leads_settled x s k = leads_with_term s x k

  -- ---- branches

  pub rises_first : (f : Formula) (known : Known) (k : Position) → Rises k.next (first_side f known k).next
  rises_first f known k sort.Truth = omega arith
  rises_first f known k s = rises_self k.next s

  pub leads_first : (f : Formula) (known : Known) (k : Position) → Leads w k (first_side f known k)
  leads_first f known k = record {
    rises = rises_first f known k;
    listed = λ v. v;
    count = λ e. e;
    off = λ m q o. q k.next.truths (omega arith) (omega arith);
    hold =
        λ m q o h. hold_more w.program.classes m k.premises (side k.guard k.next.truths f ∷ side k.guard (k.next.truths + 1) (neg f) ∷ []) h
        (side_off w.program.classes m k.guard k.next.truths f (q k.next.truths (omega arith) (omega arith)), (side_off w.program.classes m k.guard (k.next.truths + 1) (neg f) (q (k.next.truths + 1) (omega arith) (omega arith)), tt));
  }

  -- from a test to the beginning of its other side, over the first one
  pub leads_second : (f : Formula) (known other : Known) (g : Guard) (k first : Position) → ((m : Structure) → m.truths (k.next.truths + 1) ≡ false → IsOff g m) → Leads w (first_side f known k) first → Leads w k (second_side g other k first)
  leads_second f known other g k first is x =
      let y = leads_twice k (first_side f known k) first (leads_first f known k) x in
      record {
        rises = y.rises;
        listed = y.listed;
        count = λ e. e;
        off = λ m q o. is m (q (k.next.truths + 1) (omega arith) (let l = x.rises sort.Truth in omega (arith, l)));
        hold = y.hold;
      }

  pub leads_if_reached : (g : Guard) (k a b : Position) → Leads w k a → Leads w k b → Leads w k (if_reached g a b)
  leads_if_reached Always k a b x y = x
  leads_if_reached (When n) k a b x y = x
  leads_if_reached Never k a b x y = y

  -- ---- joins

  -- After two sides of which none is reached.
  pub record LeadsBoth (first second k : Position) : Type 0 where
    pub rises : Rises second.next k.next
    pub listed : AreValid w.program.classes k.listed → AreValid w.program.classes second.listed
    pub count : length first.locals ≡ length (local_types w.body) → length second.locals ≡ length (local_types w.body) → length k.locals ≡ length (local_types w.body)
    pub off : (m : Structure) → IsQuiet second.next.truths k.next.truths m → IsOff first.guard m → IsOff second.guard m → IsOff k.guard m
    pub hold : (m : Structure) → IsQuiet second.next.truths k.next.truths m → IsOff first.guard m → IsOff second.guard m → HoldIn w.program.classes second.premises m → HoldIn w.program.classes k.premises m

  -- with the constants of a join
  pub record LeadsJoined (g h : Guard) (k k' : Position) : Type 0 where
    pub rises : Rises k.next k'.next
    pub listed : AreValid w.program.classes k'.listed → AreValid w.program.classes k.listed
    pub guard : k'.guard ≡ k.guard
    pub hold : (m : Structure) → IsOff g m → IsOff h m → HoldIn w.program.classes k.premises m → HoldIn w.program.classes k'.premises m

  joined_self : (g h : Guard) (k : Position) → LeadsJoined g h k k
  joined_self g h k = record { rises = rises_self k.next; listed = λ v. v; guard = refl; hold = λ m a b t. t }

  joined_twice : (g h : Guard) (a b c : Position) → LeadsJoined g h a b → LeadsJoined g h b c → LeadsJoined g h a c
  joined_twice g h a b c x y = record { rises = rises_twice a.next b.next c.next x.rises y.rises; listed = λ v. x.listed (y.listed v); guard = y.guard ∙ x.guard; hold = λ m p q t. y.hold m p q (x.hold m p q t) }

  pub leads_join_term : (g h : Guard) (s : Sort) (x y : Term) (k : Position) → LeadsJoined g h k (join_term g h s x y k)
  leads_join_term g h s x y k = one_of (same_term x y)
    where
      one_of : (d : Bool) → LeadsJoined g h k (if d then k else record (with_new s k) { premises = k.premises ++ under g (equal (new_term s k) x) ∷ under h (equal (new_term s k) y) ∷ [] })
      one_of true = joined_self g h k
      one_of false = record {
        rises = rises_new s k.next;
        listed = λ v. v;
        guard = refl;
        hold = λ m a b t. hold_more w.program.classes m k.premises _ t (under_off w.program.classes m g _ a, (under_off w.program.classes m h _ b, tt));
      }

  pub leads_join_locals : (g h : Guard) (ts : List Ty) (xs ys : List (Option Term)) (k : Position) → LeadsJoined g h k (join_locals g h ts xs ys k).1
  leads_join_locals g h [] xs ys k = joined_self g h k
  leads_join_locals g h (t ∷ ts) [] ys k = joined_self g h k
  leads_join_locals g h (t ∷ ts) (None ∷ xs) [] k = joined_self g h k
  leads_join_locals g h (t ∷ ts) (Some x ∷ xs) [] k = joined_self g h k
  leads_join_locals g h (t ∷ ts) (None ∷ xs) (b ∷ ys) k = leads_join_locals g h ts xs ys k
  leads_join_locals g h (t ∷ ts) (Some x ∷ xs) (None ∷ ys) k = leads_join_locals g h ts xs ys k
  leads_join_locals g h (t ∷ ts) (Some x ∷ xs) (Some y ∷ ys) k =
      let s = element_sort (Some t) in
      let k' = join_term g h s x y k in
      joined_twice g h k k' (join_locals g h ts xs ys k').1 (leads_join_term g h s x y k) (leads_join_locals g h ts xs ys k')

  pub joined_count : (g h : Guard) (ts : List Ty) (xs ys : List (Option Term)) (k : Position) → length xs ≡ length ts → length ys ≡ length ts → length (join_locals g h ts xs ys k).0 ≡ length ts
  joined_count g h [] xs ys k a b = refl
  joined_count g h (t ∷ ts) [] ys k a b = absurd (omega (arith, a))
  joined_count g h (t ∷ ts) (None ∷ xs) [] k a b = absurd (omega (arith, b))
  joined_count g h (t ∷ ts) (Some x ∷ xs) [] k a b = absurd (omega (arith, b))
  joined_count g h (t ∷ ts) (None ∷ xs) (y ∷ ys) k a b = ap suc (joined_count g h ts xs ys k (omega (arith, a)) (omega (arith, b)))
  joined_count g h (t ∷ ts) (Some x ∷ xs) (None ∷ ys) k a b = ap suc (joined_count g h ts xs ys k (omega (arith, a)) (omega (arith, b)))
  joined_count g h (t ∷ ts) (Some x ∷ xs) (Some y ∷ ys) k a b = ap suc (joined_count g h ts xs ys (join_term g h (element_sort (Some t)) x y k) (omega (arith, a)) (omega (arith, b)))

  module _ (meet : Known → Known → Known) (first second : Position) where
    leads_both : LeadsBoth first second (join_both w meet first second)
    leads_both =
        let g = first.guard in
        let h = second.guard in
        let k = join_guard g h second in
        let r = join_locals g h (local_types w.body) first.locals second.locals k in
        let x = leads_join_locals g h (local_types w.body) first.locals second.locals k in
        let y = leads_join_term g h sort.Store first.store second.store r.1 in
        let z = joined_twice g h k r.1 (join_term g h sort.Store first.store second.store r.1) x y in
        record {
          rises = rises_twice second.next k.next _ guard_rises z.rises;
          listed = z.listed;
          count = joined_count g h (local_types w.body) first.locals second.locals k;
          off = λ m q a b. off_from m (sym z.guard) (q second.next.truths (omega arith) (let l = z.rises sort.Truth in omega (arith, l)));
          hold =
              λ m q a b t. z.hold m a b (hold_more w.program.classes m second.premises (either_guard w.program.classes m g h second.next.truths ∷ []) t
              (join_off w.program.classes m g h second.next.truths (q second.next.truths (omega arith) (let l = z.rises sort.Truth in omega (arith, l))), tt));
        }
      where
        guard_rises : Rises second.next (join_guard first.guard second.guard second).next
        guard_rises sort.Truth = omega arith
        guard_rises s = rises_self second.next s

        off_from : (m : Structure) {g : Guard} → When second.next.truths ≡ g → m.truths second.next.truths ≡ false → IsOff g m
        off_from m e t = subst (λ g. IsOff g m) e t

    leads_second_alone : LeadsBoth first second second
    leads_second_alone = record { rises = rises_self second.next; listed = λ v. v; count = λ a b. b; off = λ m q a b. b; hold = λ m q a b t. t }

    leads_first_alone : LeadsBoth first second (record second { locals = first.locals; store = first.store; guard = first.guard; known = first.known })
    leads_first_alone = record { rises = rises_self second.next; listed = λ v. v; count = λ a b. a; off = λ m q a b. a; hold = λ m q a b t. t }

    leads_join_from : (g h : Guard) → LeadsBoth first second (join_from g h w meet first second)
    leads_join_from Never h = leads_second_alone
    leads_join_from Always Never = leads_first_alone
    leads_join_from Always Always = leads_both
    leads_join_from Always (When n) = leads_both
    leads_join_from (When i) Never = leads_first_alone
    leads_join_from (When i) Always = leads_both
    leads_join_from (When i) (When n) = leads_both

    pub leads_join : LeadsBoth first second (join w meet first second)
    leads_join = leads_join_from first.guard second.guard

    -- from where both sides begin
    pub leads_joined : (k : Position) → Leads w k first → Leads w k second → Rises first.next second.next → Leads w k (join w meet first second)
    leads_joined k a b r =
        let z = leads_join in
        let k' = join w meet first second in
        record {
          rises = rises_twice k.next second.next k'.next b.rises z.rises;
          listed = λ v. b.listed (z.listed v);
          count = λ e. z.count (a.count e) (b.count e);
          off = λ m q o. z.off m (later m q) (a.off m (to_first m q) o) (b.off m (to_second m q) o);
          hold = λ m q o h. z.hold m (later m q) (a.off m (to_first m q) o) (b.off m (to_second m q) o) (b.hold m (to_second m q) o h);
        }
      where
        later : (m : Structure) → IsQuiet k.next.truths (join w meet first second).next.truths m → IsQuiet second.next.truths (join w meet first second).next.truths m
        later m q = quiet_between m k.next.truths (join w meet first second).next.truths second.next.truths (join w meet first second).next.truths (b.rises sort.Truth) (omega arith) q

        to_second : (m : Structure) → IsQuiet k.next.truths (join w meet first second).next.truths m → IsQuiet k.next.truths second.next.truths m
        to_second m q = quiet_between m k.next.truths (join w meet first second).next.truths k.next.truths second.next.truths (omega arith) (leads_join.rises sort.Truth) q

        to_first : (m : Structure) → IsQuiet k.next.truths (join w meet first second).next.truths m → IsQuiet k.next.truths first.next.truths m
        to_first m q =
            let i = leads_join.rises sort.Truth in
            let j = r sort.Truth in
            quiet_between m k.next.truths (join w meet first second).next.truths k.next.truths first.next.truths (omega arith) (omega (arith, i, j)) q
