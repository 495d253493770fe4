-- Arguments from several places, and instances at each of several.
use Rattle.std.proofs.Common.{◌≡◌, ℕ, ◌+◌, ◌<◌, List, [], ◌∷◌, ◌++◌, length, map, take, get_or, refl, sym, ◌∙◌, ap, subst, append_assoc, Result, Ok, Err}
use Rattle.std.specs.Prelude.{flat_map, OnOk}
use Rattle.std.proofs.lemmas.List.{append-nil, map_push, map-append, take_more, flat_map_more}
use Rattle.ss_logic.specs.Terms.{Term}
use Rattle.ss_logic.specs.Asked as spec
use Rattle.ss_terms.specs.Forms.{Forms}
use Rattle.ss_rules_asked.specs.declared.asked.Argument.{Argument}
use Rattle.ss_rules_asked.specs.declared.asked.Asked.{Asked}
use Rattle.ss_rules_asked.proofs.Asking.{asked_next}
use Rattle.ss_rules_asked.specs.Numbers.{argument_at, arguments_at, asked_in, HasArguments, Asks}

pub ok_asks : {E : Type 0} (r : Result (Unit {0}) E) (b : Forms) (ys : List Asked) (these those : List spec.Asked) → these ≡ those → OnOk r (Asks b ys these) → OnOk r (Asks b ys those)
ok_asks (Ok u) b ys these those e h = record { has = h.has; are = h.are ∙ e }
ok_asks (Err z) b ys these those e h = tt

has-append : (b : Forms) (xs ys : List Argument) → HasArguments b xs → HasArguments b ys → HasArguments b (xs ++ ys)
has-append b [] ys h k = k
has-append b (x ∷ xs) ys h k = (h.0, has-append b xs ys h.1 k)

pub has_joined : (b : Forms) (all first middle last : List Argument) → all ≡ first ++ middle ++ last → HasArguments b first → HasArguments b middle → HasArguments b last → HasArguments b all
has_joined b all first middle last e f m l = subst (HasArguments b) (sym e) (has-append b (first ++ middle) last (has-append b first middle f m) l)

pub are_joined : (b : Forms) (all first middle last : List Argument) → all ≡ first ++ middle ++ last → arguments_at b all ≡ arguments_at b first ++ arguments_at b middle ++ arguments_at b last
are_joined b all first middle last e =
    ap (arguments_at b) e
    ∙ map-append (argument_at b) (first ++ middle) last
    ∙ ap (λ ts. ts ++ arguments_at b last) (map-append (argument_at b) first middle)

-- one more of those at each of which an instance is asked for
pub one_next : {X Y : Type 0} (b : Forms) (at : X → Y) (what : Y → spec.Asked) (start : List spec.Asked) (xs ys : List Asked) (items : List X) (i : ℕ) (d : X) → i < length items →
    Asks b xs (start ++ map what (map at (take i items))) → Asks b ys (asked_in b xs ++ what (at (get_or items i d)) ∷ []) → Asks b ys (start ++ map what (map at (take (i + 1) items)))
one_next b at what start xs ys items i d within before next = record {
  has = next.has;
  are =
      next.are
      ∙ ap (λ zs. zs ++ what (at (get_or items i d)) ∷ []) before.are
      ∙ append_assoc start (map what (map at (take i items))) (what (at (get_or items i d)) ∷ [])
      ∙ ap (λ zs. start ++ zs) (sym (map_push what (map at (take i items)) (at (get_or items i d))))
      ∙ ap (λ zs. start ++ map what zs) (sym (map_push at (take i items) (get_or items i d)))
      ∙ ap (λ zs. start ++ map what (map at zs)) (sym (take_more items i d within));
}

-- and one more sentence
pub sentence_next : {X : Type 0} (b : Forms) (what : X → List spec.Asked) (start : List spec.Asked) (xs ys : List Asked) (items : List X) (i : ℕ) (d : X) → i < length items →
    Asks b xs (start ++ flat_map what (take i items)) → Asks b ys (asked_in b xs ++ what (get_or items i d)) → Asks b ys (start ++ flat_map what (take (i + 1) items))
sentence_next b what start xs ys items i d within before next = record {
  has = next.has;
  are =
      next.are
      ∙ ap (λ zs. zs ++ what (get_or items i d)) before.are
      ∙ flat_map_more what start (take i items) (get_or items i d)
      ∙ ap (λ zs. start ++ flat_map what zs) (sym (take_more items i d within));
}

-- where the items are those of a list under another name
pub one_next_in : {X Y : Type 0} (b : Forms) (at : X → Y) (what : Y → spec.Asked) (start : List spec.Asked) (xs ys : List Asked) (ds items : List X) → ds ≡ items → (i : ℕ) (d : X) → i < length ds →
    Asks b xs (start ++ map what (map at (take i items))) → Asks b ys (asked_in b xs ++ what (at (get_or ds i d)) ∷ []) → Asks b ys (start ++ map what (map at (take (i + 1) items)))
one_next_in b at what start xs ys ds items e i d within before next =
    subst (λ zs. Asks b ys (start ++ map what (map at (take (i + 1) zs)))) e (one_next b at what start xs ys ds i d within (subst (λ zs. Asks b xs (start ++ map what (map at (take i zs)))) (sym e) before) next)

pub asked_next_in : {X Y : Type 0} (b : Forms) (at : X → Y) (what : Y → List spec.Asked) (start : List spec.Asked) (xs ys : List Asked) (ds items : List X) → ds ≡ items → (i : ℕ) (d : X) → i < length ds →
    Asks b xs (start ++ flat_map what (map at (take i items))) → Asks b ys (asked_in b xs ++ what (at (get_or ds i d))) → Asks b ys (start ++ flat_map what (map at (take (i + 1) items)))
asked_next_in b at what start xs ys ds items e i d within before next =
    subst (λ zs. Asks b ys (start ++ flat_map what (map at (take (i + 1) zs)))) e (asked_next b at what start xs ys ds i d within (subst (λ zs. Asks b xs (start ++ flat_map what (map at (take i zs)))) (sym e) before) next)
