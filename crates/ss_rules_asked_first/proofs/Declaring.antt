-- Names of classes, one after the other.
use Rattle.std.proofs.Common.{◌≡◌, ℕ, zero, suc, ◌+◌, ◌*◌, ◌<◌, ◌≤◌, List, [], ◌∷◌, ◌++◌, length, map, take, get_or, refl, sym, ◌∙◌, ap, subst, arith, Bool, true, false, if◌then◌else◌}
use Rattle.std.proofs.lemmas.List.{append-nil, map_push, take_more}
use Rattle.ss_core.specs.Tree.{ClassTree}
use Rattle.ss_core.specs.View as view
use Rattle.ss_core.specs.declared.class.Class.{Class}
use Rattle.ss_logic.specs.Terms.{Term}
use Rattle.ss_logic.specs.Shapes.{class_term}
use Rattle.ss_logic.specs.Asked as spec
use Rattle.ss_terms.specs.Forms.{Forms}
use Rattle.ss_rules_asked.specs.declared.asked.Argument.{Argument}
use Rattle.ss_rules_asked.specs.declared.asked.Argument.TheVariants as argument
use Rattle.ss_rules_asked.specs.Numbers.{argument_at, arguments_at, HasArguments}
use Rattle.ss_rules_asked.proofs.Grown.{HasArguments-push}
use Rattle.ss_rules_asked_first.specs.Named.{AreArguments}

abbrev pub one_class : ℕ → ClassTree → List Term
one_class t c = if spec.is_empty c.invariants then [] else class_term t ∷ []

names-push : (t : ℕ) (cs : List ClassTree) (c : ClassTree) → spec.classes_from t (cs ++ c ∷ []) ≡ spec.classes_from t cs ++ class_term (t + 2 * length cs) ∷ []
names-push t [] c = let e : t ≡ t + 2 * 0 = omega arith in ap (λ n. class_term n ∷ []) e
names-push t (d ∷ cs) c =
    let e : t + 2 + 2 * length cs ≡ t + 2 * suc (length cs) = omega arith in
    ap (λ ts. class_term t ∷ ts) (names-push (t + 2) cs c ∙ ap (λ n. spec.classes_from (t + 2) cs ++ class_term n ∷ []) e)

kept : (x : Term) (bare : Bool) (ts us : List Term) → (if bare then ts ++ us else x ∷ (ts ++ us)) ≡ (if bare then ts else x ∷ ts) ++ us
kept x true ts us = refl
kept x false ts us = refl

invariants-push : (t : ℕ) (cs : List ClassTree) (c : ClassTree) → spec.with_invariants_from t (cs ++ c ∷ []) ≡ spec.with_invariants_from t cs ++ one_class (t + 2 * length cs) c
invariants-push t [] c = let e : t ≡ t + 2 * 0 = omega arith in ap (λ n. one_class n c) e
invariants-push t (d ∷ cs) c =
    let e : t + 2 + 2 * length cs ≡ t + 2 * suc (length cs) = omega arith in
    let rest = spec.with_invariants_from (t + 2) cs in
    let more = one_class (t + 2 * suc (length cs)) c in
    ap (λ ts. if spec.is_empty d.invariants then ts else class_term t ∷ ts) (invariants-push (t + 2) cs c ∙ ap (λ n. rest ++ one_class n c) e)
    ∙ kept (class_term t) (spec.is_empty d.invariants) rest more

count : (cs : List Class) (i : ℕ) → i < length cs → length (map view.class_of (take i cs)) ≡ i
count [] i within = absurd (omega arith)
count (c ∷ cs) zero within = refl
count (c ∷ cs) (suc i) within = ap suc (count cs i (omega arith))

next_classes : (cs : List Class) (i : ℕ) (d : Class) → i < length cs → map view.class_of (take (i + 1) cs) ≡ map view.class_of (take i cs) ++ view.class_of (get_or cs i d) ∷ []
next_classes cs i d within = ap (map view.class_of) (take_more cs i d within) ∙ map_push view.class_of (take i cs) (get_or cs i d)

pub names_next : (b : Forms) (cs : List Class) (i : ℕ) (d : Class) (xs more : List Argument) (t : ℕ) → i < length cs → t ≡ 4 + 2 * i → AreArguments b xs (spec.classes_from 4 (map view.class_of (take i cs))) →
    more ≡ xs ++ argument.Class t ∷ [] → AreArguments b more (spec.classes_from 4 (map view.class_of (take (i + 1) cs)))
names_next b cs i d xs more t within n before e = record {
  has = subst (HasArguments b) (sym e) (HasArguments-push b xs (argument.Class t) before.has tt);
  are =
      let same : t ≡ 4 + 2 * length (map view.class_of (take i cs)) = omega (arith, count cs i within, n) in
      ap (arguments_at b) e
      ∙ map_push (argument_at b) xs (argument.Class t)
      ∙ ap (λ ts. ts ++ class_term t ∷ []) before.are
      ∙ ap (λ k. spec.classes_from 4 (map view.class_of (take i cs)) ++ class_term k ∷ []) same
      ∙ sym (ap (spec.classes_from 4) (next_classes cs i d within) ∙ names-push 4 (map view.class_of (take i cs)) (view.class_of (get_or cs i d)));
}

pub invariants_next : (b : Forms) (cs : List Class) (i : ℕ) (d : Class) (xs more : List Argument) (t : ℕ) → i < length cs → t ≡ 4 + 2 * i → AreArguments b xs (spec.with_invariants_from 4 (map view.class_of (take i cs))) →
    AreArguments b more (arguments_at b xs ++ one_class t (view.class_of (get_or cs i d))) → AreArguments b more (spec.with_invariants_from 4 (map view.class_of (take (i + 1) cs)))
invariants_next b cs i d xs more t within n before next = record {
  has = next.has;
  are =
      let same : t ≡ 4 + 2 * length (map view.class_of (take i cs)) = omega (arith, count cs i within, n) in
      next.are
      ∙ ap (λ ts. ts ++ one_class t (view.class_of (get_or cs i d))) before.are
      ∙ ap (λ k. spec.with_invariants_from 4 (map view.class_of (take i cs)) ++ one_class k (view.class_of (get_or cs i d))) same
      ∙ sym (ap (spec.with_invariants_from 4) (next_classes cs i d within) ∙ invariants-push 4 (map view.class_of (take i cs)) (view.class_of (get_or cs i d)));
}

-- ---- one class, where it has invariants

pub class_pushed : (b : Forms) (xs more : List Argument) (t : ℕ) (bare : Bool) → HasArguments b xs → bare ≡ false → more ≡ xs ++ argument.Class t ∷ [] → AreArguments b more (arguments_at b xs ++ (if bare then [] else class_term t ∷ []))
class_pushed b xs more t bare h f e = record {
  has = subst (HasArguments b) (sym e) (HasArguments-push b xs (argument.Class t) h tt);
  are = ap (arguments_at b) e ∙ map_push (argument_at b) xs (argument.Class t) ∙ sym (ap (λ v. arguments_at b xs ++ (if v then [] else class_term t ∷ [])) f);
}

pub class_kept : (b : Forms) (xs : List Argument) (t : ℕ) (bare : Bool) → HasArguments b xs → bare ≡ true → AreArguments b xs (arguments_at b xs ++ (if bare then [] else class_term t ∷ []))
class_kept b xs t bare h e = record { has = h; are = sym (ap (λ v. arguments_at b xs ++ (if v then [] else class_term t ∷ [])) e ∙ append-nil (arguments_at b xs)) }
