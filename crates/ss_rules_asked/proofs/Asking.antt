-- Lists of instances that are asked for.
use Rattle.std.proofs.Common.{◌≡◌, ℕ, ◌+◌, ◌<◌, List, [], ◌∷◌, ◌++◌, length, map, take, get_or, refl, sym, ◌∙◌, ap, subst, append_assoc, Result, Ok, Err}
use Rattle.std.specs.Prelude.{flat_map, OnOk}
use Rattle.std.proofs.lemmas.List.{append-nil, map_push, take_more, flat_map_more}
use Rattle.ss_logic.specs.Asked as spec
use Rattle.ss_terms.specs.Forms.{Forms}
use Rattle.ss_rules_asked.specs.declared.asked.Argument.{Argument}
use Rattle.ss_rules_asked.specs.declared.asked.Asked.{Asked}
use Rattle.ss_rules_asked.specs.Numbers.{asked_in, asked_at, asked_with, rule_at, arguments_at, HasAsked, HasRule, HasArguments, Asks}

-- nothing more is asked for
pub nothing_asked : (b : Forms) (xs : List Asked) (these : List spec.Asked) → HasAsked b xs → these ≡ [] → Asks b xs (asked_in b xs ++ these)
nothing_asked b xs these h e = record { has = h; are = sym (ap (λ ys. asked_in b xs ++ ys) e ∙ append-nil (asked_in b xs)) }

HasAsked-push : (b : Forms) (xs : List Asked) (a : Asked) → HasAsked b xs → HasRule b a.rule → HasArguments b a.arguments.items → HasAsked b (xs ++ a ∷ [])
HasAsked-push b [] a h r k = (r, k, tt)
HasAsked-push b (x ∷ xs) a h r k = (h.0, h.1, HasAsked-push b xs a h.2 r k)

pub one_asked : (b : Forms) (xs ys : List Asked) (a : Asked) (us : List Argument) → ys ≡ xs ++ a ∷ [] → a.arguments.items ≡ us → HasAsked b xs → HasRule b a.rule → HasArguments b us →
    Asks b ys (asked_in b xs ++ asked_with (rule_at b a.rule) (arguments_at b us) ∷ [])
one_asked b xs ys a us e same h r k = record {
  has = subst (HasAsked b) (sym e) (HasAsked-push b xs a h r (subst (HasArguments b) (sym same) k));
  are = ap (asked_in b) e ∙ map_push (asked_at b) xs a ∙ ap (λ vs. asked_in b xs ++ asked_with (rule_at b a.rule) (arguments_at b vs) ∷ []) same;
}

-- one more item of a list
pub asked_next : {X Y : Type 0} (b : Forms) (at : X → Y) (what : Y → List spec.Asked) (start : List spec.Asked) (xs ys : List Asked) (items : List X) (i : ℕ) (d : X) → i < length items →
    Asks b xs (start ++ flat_map what (map at (take i items))) → Asks b ys (asked_in b xs ++ what (at (get_or items i d))) → Asks b ys (start ++ flat_map what (map at (take (i + 1) items)))
asked_next b at what start xs ys items i d within before next = record {
  has = next.has;
  are =
      next.are
      ∙ ap (λ zs. zs ++ what (at (get_or items i d))) before.are
      ∙ flat_map_more what start (map at (take i items)) (at (get_or items i d))
      ∙ ap (λ zs. start ++ flat_map what zs) (sym (map_push at (take i items) (get_or items i d)))
      ∙ ap (λ zs. start ++ flat_map what (map at zs)) (sym (take_more items i d within));
}

-- and then more
pub asked_then : {E : Type 0} (r : Result (Unit {0}) E) (b : Forms) (xs ys zs : List Asked) (first second both : List spec.Asked) → both ≡ first ++ second → Asks b ys (asked_in b xs ++ first) →
    OnOk r (Asks b zs (asked_in b ys ++ second)) → OnOk r (Asks b zs (asked_in b xs ++ both))
asked_then (Ok u) b xs ys zs first second both e before h = record {
  has = h.has;
  are = h.are ∙ ap (λ vs. vs ++ second) before.are ∙ append_assoc (asked_in b xs) first second ∙ ap (λ vs. asked_in b xs ++ vs) (sym e);
}
asked_then (Err z) b xs ys zs first second both e before h = tt

pub asked_and : (b : Forms) (xs ys zs : List Asked) (first second : List spec.Asked) → Asks b ys (asked_in b xs ++ first) → Asks b zs (asked_in b ys ++ second) → Asks b zs (asked_in b xs ++ (first ++ second))
asked_and b xs ys zs first second before h = record {
  has = h.has;
  are = h.are ∙ ap (λ vs. vs ++ second) before.are ∙ append_assoc (asked_in b xs) first second;
}

pub ok_asks : {E : Type 0} (r : Result (Unit {0}) E) (b : Forms) (ys : List Asked) (these those : List spec.Asked) → these ≡ those → OnOk r (Asks b ys these) → OnOk r (Asks b ys those)
ok_asks (Ok u) b ys these those e h = record { has = h.has; are = h.are ∙ e }
ok_asks (Err z) b ys these those e h = tt
