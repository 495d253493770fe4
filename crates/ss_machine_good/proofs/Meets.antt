-- What is known where paths meet and at the heads of loops is so.
use Rattle.std.proofs.Common.{◌≡◌, ℕ, Bool, true, false, ◌&&◌, not, Option, Some, None, refl, ◌∙◌, ap, ⊎_elim}
use Rattle.std.specs.Prelude.{if◌then◌else◌, option_map}
use Rattle.std.proofs.lemmas.Bool.{false≢true, and_parts, or_cases}
use Rattle.ss_core.specs.Tree.{StmtTree, BodyTree, CoreTree}
use Rattle.ss_store_rules.specs.Values.{Setting}
use Rattle.ss_store_rules.specs.Locals.{assigns}
use Rattle.ss_store_rules.specs.Paths.{Check}
use Rattle.ss_store_rules.specs.NonNull.{Facts, no_facts, both, Known, at_this_end, side_met, known_met, known_head, known_flow}
use Rattle.ss_machine_good.specs.Flows.{stmt_of, IsSound}
use Rattle.ss_machine_good.specs.Known.{AreNotNull, IsSide, IsTrueOf}
use Rattle.ss_machine_good.proofs.Within.{but_assigned, again_true}

both_true : (f g : Facts) (c : Setting) → AreNotNull f c → AreNotNull g c → AreNotNull (both f g) c
both_true f g c hf hg x h = ⊎_elim (λ a. hf x a) (λ b. hg x b) (or_cases (f x) (g x) h)

-- a side that is reached on one path, and whatever there is on the other
side_one : (F : Facts) (c : Setting) → AreNotNull F c → (q : Option Facts) → (f : Facts) × (side_met (Some F) q ≡ Some f) × AreNotNull f c
side_one F c so None = (F, refl, so)
side_one F c so (Some G) = ((λ y. F y && G y), refl, λ y h. so y (and_parts (F y) (G y) h).0)

side_other : (G : Facts) (c : Setting) → AreNotNull G c → (o : Option Facts) → (f : Facts) × (side_met o (Some G) ≡ Some f) × AreNotNull f c
side_other G c so None = (G, refl, so)
side_other G c so (Some F) = ((λ y. F y && G y), refl, λ y h. so y (and_parts (F y) (G y) h).1)

pub met_one : (constructs : Bool) (k l : Known) (c : Setting) → IsTrueOf constructs k c → IsTrueOf constructs (known_met k l) c
met_one constructs k l c is = record {
  facts = λ x h. is.facts x (and_parts (k.facts x) (l.facts x) h).0;
  sides = λ x v e.
      let s = is.sides x v e in
      let end : at_this_end k x v ≡ Some (both k.facts s.facts) = ap (option_map (both k.facts)) s.there in
      let r = side_one (both k.facts s.facts) c (both_true k.facts s.facts c is.facts s.so) (at_this_end l x v) in
      record { facts = r.0; there = ap (λ o. side_met o (at_this_end l x v)) end ∙ r.1; so = r.2 };
  fields = λ ctor f h. is.fields ctor f (and_parts (k.fields f) (l.fields f) h).0;
}

pub met_other : (constructs : Bool) (k l : Known) (c : Setting) → IsTrueOf constructs l c → IsTrueOf constructs (known_met k l) c
met_other constructs k l c is = record {
  facts = λ x h. is.facts x (and_parts (k.facts x) (l.facts x) h).1;
  sides = λ x v e.
      let s = is.sides x v e in
      let end : at_this_end l x v ≡ Some (both l.facts s.facts) = ap (option_map (both l.facts)) s.there in
      let r = side_other (both l.facts s.facts) c (both_true l.facts s.facts c is.facts s.so) (at_this_end k x v) in
      record { facts = r.0; there = ap (λ o. side_met (at_this_end k x v) o) end ∙ r.1; so = r.2 };
  fields = λ ctor f h. is.fields ctor f (and_parts (k.fields f) (l.fields f) h).1;
}

head_side : (s : StmtTree) (k : Known) (c : Setting) (x : ℕ) (v : Bool) → IsSide k c x v → (b : Bool) →
    (f : Facts) × ((if b then Some no_facts else but_assigned s (k.sides x v)) ≡ Some f) × AreNotNull f c
head_side s k c x v is true = (no_facts, refl, λ y h. absurd (false≢true h))
head_side s k c x v is false = ((λ y. is.facts y && not (assigns s y)), ap (but_assigned s) is.there, λ y h. is.so y (and_parts (is.facts y) _ h).0)

pub head_true : (constructs : Bool) (s : StmtTree) (k : Known) (c : Setting) → IsTrueOf constructs k c → IsTrueOf constructs (known_head s k) c
head_true constructs s k c is = record {
  facts = λ x h. is.facts x (and_parts (k.facts x) _ h).0;
  sides = λ x v e. let r = head_side s k c x v (is.sides x v e) (assigns s x) in record { facts = r.0; there = r.1; so = r.2 };
  fields = is.fields;
}

-- what is known of null stays true along paths, whatever is checked
pub known_sound : (c : CoreTree) (b : BodyTree) (k : Check Known) (constructs : Bool) → IsSound (known_flow c b) k (IsTrueOf constructs)
known_sound c b k constructs = record {
  meet_one = met_one constructs;
  meet_other = met_other constructs;
  head = λ l m x checked so. head_true constructs (stmt_of l) m x so;
  again = λ l m n x checked is so. again_true c b constructs l m n x is so;
}
