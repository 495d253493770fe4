-- Lists that are gathered item by item.
use Rattle.std.proofs.Common.{◌≡◌, ℕ, ◌+◌, ◌<◌, ◌≤◌, List, [], ◌∷◌, ◌++◌, length, map, take, drop, get_or, true, false, Option, refl, sym, ◌∙◌, ap, append_assoc}
use Rattle.std.specs.Prelude.{option_to_list, flat_map, if◌then◌else◌}
use Rattle.std.proofs.lemmas.List.{take_more, take_all, drop_more, drop_all, map-append, append-nil}
use Rattle.std.proofs.lemmas.Grind.{flat_map-append}
use Rattle.ss_core.specs.declared.body.Modifies.{Modifies}
use Rattle.ss_core.specs.declared.body.Local.{Local}
use Rattle.ss_core.specs.Tree.{NamedTree, LocalTree}
use Rattle.ss_core.specs.View as view
use Rattle.ss_store_rules.specs.declared.Value.{Value}
use Rattle.ss_machine_rules.specs.declared.Named.{Named}
use Rattle.ss_machine_rules.specs.Frame.{captured_among}

-- what the first i terms name
abbrev pub named_upto : (NamedTree → List Named) → List Modifies → ℕ → List Named
named_upto h terms i = flat_map h (map view.named_of (take i terms))

pub named_more : (h : NamedTree → List Named) (terms : List Modifies) (i : ℕ) (d : Modifies) (o : Option Named) (before : List Named) → i < length terms → option_to_list o ≡ h (view.named_of (get_or terms i d)) → before ≡ named_upto h terms i → before ++ option_to_list o ≡ named_upto h terms (i + 1)
named_more h terms i d o before l here is =
    let x = get_or terms i d in
    ap (λ b. b ++ option_to_list o) is
    ∙ ap (λ b. named_upto h terms i ++ b) (here ∙ sym (append-nil (h (view.named_of x))))
    ∙ sym (flat_map-append h (map view.named_of (take i terms)) (view.named_of x ∷ []))
    ∙ ap (flat_map h) (sym (map-append view.named_of (take i terms) (x ∷ [])))
    ∙ ap (λ ts. flat_map h (map view.named_of ts)) (sym (take_more terms i d l))

pub named_all : (h : NamedTree → List Named) (terms : List Modifies) (i : ℕ) (all : List Named) → length terms ≤ i → all ≡ named_upto h terms i → all ≡ flat_map h (map view.named_of terms)
named_all h terms i all past is = is ∙ ap (λ ts. flat_map h (map view.named_of ts)) (take_all i terms past)

-- ---- captured parameters

-- what stands after the first i parameters
abbrev pub captured_after : List Local → List Value → ℕ → List Value
captured_after params values i = captured_among (map view.local_of (drop i params)) (drop i values)

none_among : (ps : List LocalTree) → captured_among ps [] ≡ []
none_among [] = refl
none_among (p ∷ ps) = refl

pub none_after : (params : List Local) (values : List Value) (i : ℕ) → length values ≤ i → captured_after params values i ≡ []
none_after params values i past = ap (captured_among (map view.local_of (drop i params))) (drop_all i values past) ∙ none_among (map view.local_of (drop i params))

pub none_left : (params : List Local) (values : List Value) (i : ℕ) → length params ≤ i → captured_after params values i ≡ []
none_left params values i past = ap (λ ps. captured_among (map view.local_of ps) (drop i values)) (drop_all i params past)

after_at : (params : List Local) (values : List Value) (i : ℕ) (p : Local) (v : Value) → i < length params → i < length values → captured_after params values i ≡ (if (get_or params i p).captured then get_or values i v ∷ captured_after params values (i + 1) else captured_after params values (i + 1))
after_at params values i p v l m = ap (λ ps. captured_among (map view.local_of ps) (drop i values)) (drop_more params i p l) ∙ ap (captured_among (map view.local_of (get_or params i p ∷ drop (i + 1) params))) (drop_more values i v m)

pub captured_more : (params : List Local) (values : List Value) (i : ℕ) (p : Local) (v : Value) (before whole : List Value) → i < length params → i < length values → (get_or params i p).captured ≡ true → before ++ captured_after params values i ≡ whole → (before ++ get_or values i v ∷ []) ++ captured_after params values (i + 1) ≡ whole
captured_more params values i p v before whole l m marked is =
    append_assoc before (get_or values i v ∷ []) (captured_after params values (i + 1))
    ∙ ap (λ b. before ++ (if b then get_or values i v ∷ captured_after params values (i + 1) else captured_after params values (i + 1))) (sym marked)
    ∙ ap (λ r. before ++ r) (sym (after_at params values i p v l m))
    ∙ is

pub captured_same : (params : List Local) (values : List Value) (i : ℕ) (p : Local) (v : Value) (before whole : List Value) → i < length params → i < length values → (get_or params i p).captured ≡ false → before ++ captured_after params values i ≡ whole → before ++ captured_after params values (i + 1) ≡ whole
captured_same params values i p v before whole l m unmarked is =
    ap (λ b. before ++ (if b then get_or values i v ∷ captured_after params values (i + 1) else captured_after params values (i + 1))) (sym unmarked)
    ∙ ap (λ r. before ++ r) (sym (after_at params values i p v l m))
    ∙ is
