-- One reading after another.
use Rattle.std.proofs.Common.{◌≡◌, ℕ, ◌+◌, ◌<◌, List, [], ◌∷◌, ◌++◌, length, map, take, get_or, true, refl, sym, ◌∙◌, ap, append_assoc, Result, Ok, Err}
use Rattle.std.specs.Prelude.{IfOk}
use Rattle.std.proofs.lemmas.List.{take_more, map_push, append-nil}
use Rattle.ss_core.specs.declared.names.Kind.TheVariants as kind
use Rattle.ss_logic.specs.Formulas.{Formula}
use Rattle.ss_logic.specs.Express as spec
use Rattle.ss_terms.specs.declared.forms.FormulaId.{FormulaId}
use Rattle.ss_terms.specs.Forms.{Forms, formula_at, IsGrown}
use Rattle.ss_terms.proofs.Grown.{IsGrown-then}
use Rattle.ss_vcgen_express.specs.declared.meant.Meant.{Meant}
use Rattle.ss_vcgen_express.specs.declared.context.Context.{Context}
use Rattle.ss_vcgen_express.specs.Marked.{Marked, marked_part, with_marked}
use Rattle.ss_vcgen_express.specs.Numbers.{meant_at, IsFormula, IsMeant}
use Rattle.ss_vcgen_express.specs.Contexts.{context_at}
use Rattle.ss_vcgen_walk.specs.declared.parts.Part.{Part}
use Rattle.ss_vcgen_walk.specs.declared.singles.Single.{Single}
use Rattle.ss_vcgen_walk.specs.declared.singles.Single.TheVariants as single
use Rattle.ss_vcgen_walk.specs.declared.twos.Two.{Two}
use Rattle.ss_vcgen_walk.specs.declared.twos.Two.TheVariants as two
use Rattle.ss_vcgen_walk.specs.Asked.{asked_readable}
use Rattle.ss_vcgen_walk.specs.Forms.{single_meant, single_asks, two_meant, two_asks, second_asks, asks_after}
use Rattle.ss_vcgen_walk.specs.Parts.{marked_at, parts_at, HasParts, AreParts}
use Rattle.ss_vcgen_walk.specs.Reading.{Expressed}
use Rattle.ss_vcgen_walk.proofs.Growing.{HasParts-grown, HasParts-push}

-- ---- parts

pub parts_are : (a : Forms) (ps : List Part) → HasParts a ps → AreParts a ps (λ b. parts_at b ps)
parts_are a ps h = record { has = h; are = λ b k. refl }

-- nothing is added yet
pub parts_none : (a : Forms) (ps : List Part) → HasParts a ps → AreParts a ps (λ b. parts_at b ps ++ [])
parts_none a ps h = record { has = h; are = λ b k. sym (append-nil (parts_at b ps)) }

pub AreParts-grown : {a c : Forms} {ps : List Part} {say : Forms → List Marked} → IsGrown a c → AreParts a ps say → AreParts c ps say
AreParts-grown {a} {c} {ps} g h = record { has = HasParts-grown g ps h.has; are = λ b k. h.are b (IsGrown-then a c b g k) }

-- one more
pub part_more : (a c : Forms) (before after : List Part) (p : Part) (says : Forms → Formula) → IsGrown a c → HasParts a before → after ≡ before ++ p ∷ [] → IsFormula c p.formula says →
    AreParts c after (λ b. parts_at b before ++ marked_part p.kind p.place p.checked (says b))
part_more a c before after p says g h e is = record {
  has = rw e (HasParts-push c before p (HasParts-grown g before h) is.has);
  are = λ b k. ap (parts_at b) e ∙ map_push (marked_at b) before p ∙ ap (λ f. parts_at b before ++ marked_part p.kind p.place p.checked f) (is.is b k);
}

-- what comes after these
pub parts_then : (a c : Forms) (ps qs : List Part) (say : Forms → List Marked) (more : Forms → List Marked → List Marked) → IsGrown a c → AreParts a ps say → AreParts c qs (λ b. more b (parts_at b ps)) → AreParts c qs (λ b. more b (say b))
parts_then a c ps qs say more g h is = record { has = is.has; are = λ b k. is.are b k ∙ ap (more b) (h.are b (IsGrown-then a c b g k)) }

-- the same in other words
pub parts_so : (c : Forms) (qs : List Part) (say other : Forms → List Marked) → ((b : Forms) → IsGrown c b → say b ≡ other b) → AreParts c qs say → AreParts c qs other
parts_so c qs say other same h = record { has = h.has; are = λ b k. h.are b k ∙ same b k }

-- two more lists
pub parts_both : (a c : Forms) (before ps qs : List Part) (x y : Forms → List Marked) → IsGrown a c → AreParts a ps (λ b. parts_at b before ++ x b) → AreParts c qs (λ b. parts_at b ps ++ y b) → AreParts c qs (λ b. parts_at b before ++ (x b ++ y b))
parts_both a c before ps qs x y g h is = record { has = is.has; are = λ b k. is.are b k ∙ ap (λ l. l ++ y b) (h.are b (IsGrown-then a c b g k)) ∙ append_assoc (parts_at b before) (x b) (y b) }

-- one more of a list, with another formula
pub parts_next : (before : List Part) (change : Forms → Formula → Formula) (a c : Forms) (list : List Part) (i : ℕ) (d : Part) (made after : List Part) (f : FormulaId) → IsGrown a c → i < length list →
    after ≡ made ++ record (get_or list i d) { formula = f } ∷ [] → AreParts a made (λ b. parts_at b before ++ map (with_marked (change b)) (parts_at b (take i list))) → IsFormula c f (λ b. change b (formula_at b (get_or list i d).formula)) →
    AreParts c after (λ b. parts_at b before ++ map (with_marked (change b)) (parts_at b (take (i + 1) list)))
parts_next before change a c list i d made after f g at e was is =
    let x = get_or list i d in
    record {
      has = rw e (HasParts-push c made (record x { formula = f }) (HasParts-grown g made was.has) is.has);
      are = λ b k.
          ap (parts_at b) e
          ∙ map_push (marked_at b) made (record x { formula = f })
          ∙ ap (λ l. l ++ marked_at b (record x { formula = f }) ∷ []) (was.are b (IsGrown-then a c b g k))
          ∙ ap (λ h. (parts_at b before ++ map (with_marked (change b)) (parts_at b (take i list))) ++ marked_part x.kind x.place x.checked h) (is.is b k)
          ∙ append_assoc (parts_at b before) (map (with_marked (change b)) (parts_at b (take i list))) (with_marked (change b) (marked_at b x) ∷ [])
          ∙ ap (λ l. parts_at b before ++ l) (sym (map_push (with_marked (change b)) (parts_at b (take i list)) (marked_at b x))
          ∙ ap (map (with_marked (change b))) (sym (map_push (marked_at b) (take i list) x))
          ∙ ap (λ l. map (with_marked (change b)) (parts_at b l)) (sym (take_more list i d at)));
    }

-- the same as it is
pub parts_next_same : (before : List Part) (a : Forms) (list : List Part) (i : ℕ) (d : Part) (made after : List Part) → i < length list →
    after ≡ made ++ get_or list i d ∷ [] → HasParts a (get_or list i d ∷ []) → AreParts a made (λ b. parts_at b before ++ parts_at b (take i list)) →
    AreParts a after (λ b. parts_at b before ++ parts_at b (take (i + 1) list))
parts_next_same before a list i d made after at e h was =
    let x = get_or list i d in
    record {
      has = rw e (HasParts-push a made x was.has h.0);
      are = λ b k.
          ap (parts_at b) e
          ∙ map_push (marked_at b) made x
          ∙ ap (λ l. l ++ marked_at b x ∷ []) (was.are b k)
          ∙ append_assoc (parts_at b before) (parts_at b (take i list)) (marked_at b x ∷ [])
          ∙ ap (λ l. parts_at b before ++ l) (sym (map_push (marked_at b) (take i list) x)
          ∙ ap (λ l. parts_at b l) (sym (take_more list i d at)));
    }

-- ---- values with their parts

pub expressed_by : {E : Type 0} (r : Result Meant E) (c : Forms) (ps : List Part) (says : Forms → spec.Meant) (say : Forms → List Marked) → IfOk r (λ m. IsMeant c m says) → AreParts c ps say → IfOk r (λ m. Expressed c m ps says say)
expressed_by (Ok m) c ps says say h are = record { meant = h; parts = are }
expressed_by (Err e) c ps says say h are = tt

-- the same in other words
pub meant_so : {E : Type 0} (r : Result Meant E) (c : Forms) (says other : Forms → spec.Meant) → ((b : Forms) → IsGrown c b → says b ≡ other b) → IfOk r (λ m. IsMeant c m says) → IfOk r (λ m. IsMeant c m other)
meant_so (Ok m) c says other same h = record { has = h.has; is = λ b k. h.is b k ∙ same b k }
meant_so (Err e) c says other same h = tt

-- no parts are added
pub expressed_alone : {E : Type 0} (r : Result Meant E) (a c : Forms) (ps : List Part) (says : Forms → spec.Meant) → IsGrown a c → HasParts a ps → IfOk r (λ m. IsMeant c m says) → IfOk r (λ m. Expressed c m ps says (λ b. parts_at b ps ++ []))
expressed_alone (Ok m) a c ps says g h is = record { meant = is; parts = record { has = HasParts-grown g ps h; are = λ b k. sym (append-nil (parts_at b ps)) } }
expressed_alone (Err e) a c ps says g h is = tt

-- ---- forms after their operands

single_apart : (form : Single) (xs ys : List Marked) (c : spec.Context) (m : spec.Meant) → single_asks form (xs ++ ys) c m ≡ xs ++ single_asks form ys c m
single_apart (single.Negate p) xs ys c m = append_assoc xs ys _
single_apart single.Not xs ys c m = refl
single_apart (single.Is t) xs ys c m = refl
single_apart (single.As t) xs ys c m = refl
single_apart (single.Field p f checked) xs ys c m = append_assoc xs ys _
single_apart (single.Length p checked) xs ys c m = append_assoc xs ys _
single_apart (single.State p w checked) xs ys c m = append_assoc xs ys _

pub single_after : {E : Type 0} (r : Result Meant E) (form : Single) (sc : Context) (a c : Forms) (m : Meant) (ps qs before : List Part) (says : Forms → spec.Meant) (more : Forms → List Marked) → IsGrown a c →
    Expressed a m ps says (λ b. parts_at b before ++ more b) →
    IfOk r (λ n. Expressed c n qs (λ b. single_meant form (context_at b sc) (meant_at b m)) (λ b. single_asks form (parts_at b ps) (context_at b sc) (meant_at b m))) →
    IfOk r (λ n. Expressed c n qs (λ b. single_meant form (context_at b sc) (says b)) (λ b. parts_at b before ++ single_asks form (more b) (context_at b sc) (says b)))
single_after (Ok n) form sc a c m ps qs before says more g e h = record {
  meant = record { has = h.meant.has; is = λ b k. h.meant.is b k ∙ ap (single_meant form (context_at b sc)) (e.meant.is b (IsGrown-then a c b g k)) };
  parts = record {
    has = h.parts.has;
    are = λ b k.
        let g2 = IsGrown-then a c b g k in
        h.parts.are b k
        ∙ ap (λ l. single_asks form l (context_at b sc) (meant_at b m)) (e.parts.are b g2)
        ∙ ap (single_asks form (parts_at b before ++ more b) (context_at b sc)) (e.meant.is b g2)
        ∙ single_apart form (parts_at b before) (more b) (context_at b sc) (says b);
  };
}
single_after (Err z) form sc a c m ps qs before says more g e h = tt

three_apart : (xs ys u v : List Marked) → ((xs ++ ys) ++ u) ++ v ≡ xs ++ ((ys ++ u) ++ v)
three_apart xs ys u v = ap (λ l. l ++ v) (append_assoc xs ys u) ∙ append_assoc xs (ys ++ u) v

after_apart : (form : Two) (xs ys : List Marked) (c : spec.Context) (x y : spec.Meant) → asks_after form (xs ++ ys) c x y ≡ xs ++ asks_after form ys c x y
after_apart (two.Operation p o bools) xs ys c x y = append_assoc xs ys _
after_apart (two.Element p s checked) xs ys c x y = three_apart xs ys (asked_readable checked c x p) (marked_part kind.Index p true (spec.index_fits x y))
after_apart two.Implies xs ys c x y = refl
after_apart two.Iff xs ys c x y = refl
after_apart (two.Owners p w first second) xs ys c x y = three_apart xs ys (asked_readable first c x p) (asked_readable second c y p)

two_apart : (form : Two) (xs ys qs : List Marked) (c : spec.Context) (x y : spec.Meant) → two_asks form (xs ++ ys) qs c x y ≡ xs ++ two_asks form ys qs c x y
two_apart form xs ys qs c x y = ap (λ l. asks_after form l c x y) (append_assoc xs ys (second_asks form x qs)) ∙ after_apart form xs (ys ++ second_asks form x qs) c x y

-- after the first operand
pub first_after : {E : Type 0} (r : Result Meant E) (form : Two) (sc : Context) (a c : Forms) (m : Meant) (ps qs before : List Part) (says other : Forms → spec.Meant) (more others : Forms → List Marked) → IsGrown a c →
    Expressed a m ps says (λ b. parts_at b before ++ more b) →
    IfOk r (λ n. Expressed c n qs (λ b. two_meant form (context_at b sc) (meant_at b m) (other b)) (λ b. two_asks form (parts_at b ps) (others b) (context_at b sc) (meant_at b m) (other b))) →
    IfOk r (λ n. Expressed c n qs (λ b. two_meant form (context_at b sc) (says b) (other b)) (λ b. parts_at b before ++ two_asks form (more b) (others b) (context_at b sc) (says b) (other b)))
first_after (Ok n) form sc a c m ps qs before says other more others g e h = record {
  meant = record { has = h.meant.has; is = λ b k. h.meant.is b k ∙ ap (λ x. two_meant form (context_at b sc) x (other b)) (e.meant.is b (IsGrown-then a c b g k)) };
  parts = record {
    has = h.parts.has;
    are = λ b k.
        let g2 = IsGrown-then a c b g k in
        h.parts.are b k
        ∙ ap (λ l. two_asks form l (others b) (context_at b sc) (meant_at b m) (other b)) (e.parts.are b g2)
        ∙ ap (λ x. two_asks form (parts_at b before ++ more b) (others b) (context_at b sc) x (other b)) (e.meant.is b g2)
        ∙ two_apart form (parts_at b before) (more b) (others b) (context_at b sc) (says b) (other b);
  };
}
first_after (Err z) form sc a c m ps qs before says other more others g e h = tt

-- after the second operand, whose parts are a list of their own
pub second_after : {E : Type 0} (r : Result Meant E) (form : Two) (sc : Context) (a c : Forms) (m n : Meant) (ps qs list : List Part) (other : Forms → spec.Meant) (others : Forms → List Marked) → IsGrown a c →
    Expressed a n list other others →
    IfOk r (λ v. Expressed c v qs (λ b. two_meant form (context_at b sc) (meant_at b m) (meant_at b n)) (λ b. two_asks form (parts_at b ps) (parts_at b list) (context_at b sc) (meant_at b m) (meant_at b n))) →
    IfOk r (λ v. Expressed c v qs (λ b. two_meant form (context_at b sc) (meant_at b m) (other b)) (λ b. two_asks form (parts_at b ps) (others b) (context_at b sc) (meant_at b m) (other b)))
second_after (Ok v) form sc a c m n ps qs list other others g e h = record {
  meant = record { has = h.meant.has; is = λ b k. h.meant.is b k ∙ ap (two_meant form (context_at b sc) (meant_at b m)) (e.meant.is b (IsGrown-then a c b g k)) };
  parts = record {
    has = h.parts.has;
    are = λ b k.
        let g2 = IsGrown-then a c b g k in
        h.parts.are b k
        ∙ ap (λ l. two_asks form (parts_at b ps) l (context_at b sc) (meant_at b m) (meant_at b n)) (e.parts.are b g2)
        ∙ ap (two_asks form (parts_at b ps) (others b) (context_at b sc) (meant_at b m)) (e.meant.is b g2);
  };
}
second_after (Err z) form sc a c m n ps qs list other others g e h = tt

-- into a list that was empty
pub fresh : (a : Forms) (m : Meant) (ps before : List Part) (says : Forms → spec.Meant) (more : Forms → List Marked) → before ≡ [] → Expressed a m ps says (λ b. parts_at b before ++ more b) → Expressed a m ps says more
fresh a m ps before says more e h = record { meant = h.meant; parts = record { has = h.parts.has; are = λ b k. h.parts.are b k ∙ ap (λ l. parts_at b l ++ more b) e } }
