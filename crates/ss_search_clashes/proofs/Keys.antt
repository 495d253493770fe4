-- Signatures that stand for one key are one, and what was said of them.
use Rattle.std.proofs.Common.{◌≡◌, ℕ, List, [], ◌∷◌, ◌++◌, Bool, true, false, ◌&&◌, eqb, Some, None, cond, refl, sym, ◌∙◌, ap, subst, inl, inr, ◌⊎◌}
use Rattle.std.specs.Prelude.{if◌then◌else◌}
use Rattle.std.specs.Bool.{Decides}
use Rattle.std.specs.Cmp.Lexicographic.{pointwise}
use Rattle.std.specs.Map.{lookup}
use Rattle.std.proofs.lemmas.Bool.{and_parts, eqb-true, eq-eqb, false≢true}
use Rattle.std.proofs.lemmas.Slice.Eq.{slice_eq-Decides}
use Rattle.ss_logic.specs.Equal.{same_predicate, equal_predicates}
use Rattle.ss_logic_countermodels.specs.Refuting.{same_classes}
use Rattle.ss_terms.specs.Forms.{predicate_of}
use Rattle.ss_terms.proofs.Symbols.{predicates_differ}
use Rattle.ss_terms.proofs.Same.{predicate_Decides}
use Rattle.ss_search_procedure_rules.proofs.Fitting.{classes_themselves, predicate_itself}
use Rattle.ss_search_clashes.specs.declared.signatures.Signature.{Signature}
use Rattle.ss_search_clashes.specs.declared.signatures.Signature.TheVariants as signature
use Rattle.ss_search_clashes.specs.declared.signatures.Said.{Said}
use Rattle.ss_search_clashes.specs.contracts.signatures.SignaturePartialEq.TheImpl as signature_eq
use Rattle.ss_search_clashes.specs.Says.{Key, AtomKey, QuantifiedKey, ValueKey, key_of, same_key, Sayings, sayings_in, said_of, IsStep}

-- ---- equal keys

pub same_classes_equal : (ns ks : List ℕ) → same_classes ns ks ≡ true → ns ≡ ks
same_classes_equal [] [] h = refl
same_classes_equal [] (k ∷ ks) h = absurd (false≢true h)
same_classes_equal (n ∷ ns) [] h = absurd (false≢true h)
same_classes_equal (n ∷ ns) (k ∷ ks) h =
    let p = and_parts (eqb n k) (same_classes ns ks) h in
    ap (λ x. x ∷ ns) (eqb-true n k p.0) ∙ ap (λ xs. k ∷ xs) (same_classes_equal ns ks p.1)

pub same_key_equal : (x y : Key) → same_key x y ≡ true → x ≡ y
same_key_equal (AtomKey p ns) (AtomKey q ks) h =
    let r = and_parts (same_predicate p q) (same_classes ns ks) h in
    ap (λ s. AtomKey s ns) (equal_predicates p q r.0) ∙ ap (AtomKey q) (same_classes_equal ns ks r.1)
same_key_equal (QuantifiedKey n) (QuantifiedKey k) h = ap QuantifiedKey (eqb-true n k h)
same_key_equal (ValueKey n) (ValueKey k) h = ap ValueKey (eqb-true n k h)
same_key_equal _ _ h = absurd (false≢true h)

pub same_key_itself : (x : Key) → same_key x x ≡ true
same_key_itself (AtomKey p ns) = ap (λ v. v && same_classes ns ns) (predicate_itself p) ∙ classes_themselves ns
same_key_itself (QuantifiedKey n) = eq-eqb n n refl
same_key_itself (ValueKey n) = eq-eqb n n refl

-- ---- the derived test

abbrev pub is_same : Signature → Signature → Bool
is_same = (signature_eq.ghosts).eq

numbers_Decides : (ns ks : List ℕ) → Decides (pointwise eqb ns ks) (ns ≡ ks)
numbers_Decides ns ks = slice_eq-Decides (λ a b. (eqb-true a b, eq-eqb a b)) ns ks (pointwise eqb ns ks) refl

both_ways : (a b : Bool) → (a ≡ true → b ≡ true) → (b ≡ true → a ≡ true) → a ≡ b
both_ways true b f g = sym (f refl)
both_ways false true f g = g refl
both_ways false false f g = refl

keys_same : (x y : Key) → x ≡ y → same_key x y ≡ true
keys_same x y e = subst (λ z. same_key x z ≡ true) e (same_key_itself x)

both_true : (a b : Bool) → a ≡ true → b ≡ true → (a && b) ≡ true
both_true a b p q = ap (λ v. v && b) p ∙ q

is_same_key : (x y : Signature) → is_same x y ≡ same_key (key_of x) (key_of y)
is_same_key (signature.Atom f ns) (signature.Atom g ks) =
    both_ways _ _
    (λ h.
    let p = and_parts _ (pointwise eqb ns.items ks.items) h in
    keys_same _ _ (ap (λ s. AtomKey (predicate_of s) ns.items) ((predicate_Decides f g).0 p.0) ∙ ap (AtomKey (predicate_of g)) ((numbers_Decides ns.items ks.items).0 p.1)))
    (λ h.
    let e : AtomKey (predicate_of f) ns.items ≡ AtomKey (predicate_of g) ks.items = same_key_equal _ _ h in
    let s : predicate_of f ≡ predicate_of g = cc in
    let n : ns.items ≡ ks.items = cc in
    both_true _ _ ((predicate_Decides f g).1 (predicates_differ f g s)) ((numbers_Decides ns.items ks.items).1 n))
is_same_key (signature.Quantified n) (signature.Quantified k) = refl
is_same_key (signature.Value n) (signature.Value k) = refl
is_same_key _ _ = refl

-- ---- what was said

pub said_found : (x : Signature) (es : List (Signature × Said)) → lookup (is_same x) es ≡ said_of (sayings_in es) (key_of x)
said_found x [] = refl
said_found x (e ∷ es) = ap (λ v. cond v (Some e.1) (lookup (is_same x) es)) (is_same_key x e.0) ∙ ap (λ o. cond (same_key (key_of x) (key_of e.0)) (Some e.1) o) (said_found x es)

pub said_new : (gs : Sayings) (k : Key) (s : Said) → said_of gs k ≡ None → said_of (gs ++ (k, s) ∷ []) k ≡ Some s
said_new [] k s h = ap (λ v. if v then Some s else None) (same_key_itself k)
said_new (e ∷ gs) k s h = by (same_key k e.0) h (said_new gs k s)
  where
    by : (v : Bool) → (if v then Some e.1 else said_of gs k) ≡ None → (said_of gs k ≡ None → said_of (gs ++ (k, s) ∷ []) k ≡ Some s) → (if v then Some e.1 else said_of (gs ++ (k, s) ∷ []) k) ≡ Some s
    by true n more = cc
    by false n more = more n

said_kept : (gs : Sayings) (e : Key × Said) (k : Key) (s : Said) → said_of gs k ≡ Some s → said_of (gs ++ e ∷ []) k ≡ Some s
said_kept [] e k s h = cc
said_kept (f ∷ gs) e k s h = by (same_key k f.0) h (said_kept gs e k s)
  where
    by : (v : Bool) → (if v then Some f.1 else said_of gs k) ≡ Some s → (said_of gs k ≡ Some s → said_of (gs ++ e ∷ []) k ≡ Some s) → (if v then Some f.1 else said_of (gs ++ e ∷ []) k) ≡ Some s
    by true g more = g
    by false g more = more g

said_more : (gs : Sayings) (e : Key × Said) (k : Key) (s : Said) → said_of (gs ++ e ∷ []) k ≡ Some s → (said_of gs k ≡ Some s) ⊎ ((e.0 ≡ k) × (e.1 ≡ s))
said_more [] e k s h = by (same_key k e.0) refl h
  where
    by : (v : Bool) → same_key k e.0 ≡ v → (if v then Some e.1 else None) ≡ Some s → (said_of [] k ≡ Some s) ⊎ ((e.0 ≡ k) × (e.1 ≡ s))
    by true q g = inr (sym (same_key_equal k e.0 q), let is : e.1 ≡ s = cc in is)
    by false q g = let no : None ≡ Some s = g in cc
said_more (f ∷ gs) e k s h = by (same_key k f.0) h (said_more gs e k s)
  where
    by : (v : Bool) → (if v then Some f.1 else said_of (gs ++ e ∷ []) k) ≡ Some s → (said_of (gs ++ e ∷ []) k ≡ Some s → (said_of gs k ≡ Some s) ⊎ ((e.0 ≡ k) × (e.1 ≡ s))) →
        ((if v then Some f.1 else said_of gs k) ≡ Some s) ⊎ ((e.0 ≡ k) × (e.1 ≡ s))
    by true g more = inl g
    by false g more = more g

pub pushed_step : (gs : Sayings) (k : Key) (said : Said) → IsStep gs (gs ++ (k, said) ∷ []) k said
pushed_step gs k said = record { kept = λ x s h. said_kept gs (k, said) x s h; more = λ x s h. said_more gs (k, said) x s h }

pub same_step : (gs : Sayings) (k : Key) (said : Said) → IsStep gs gs k said
same_step gs k said = record { kept = λ x s h. h; more = λ x s h. inl h }
