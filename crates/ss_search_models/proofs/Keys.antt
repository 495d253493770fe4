-- Signatures that stand for one key are one, and what was given to them.
use Rattle.std.proofs.Common.{◌≡◌, ℕ, List, [], ◌∷◌, ◌++◌, Bool, true, false, ◌&&◌, eqb, Some, None, cond, refl, sym, ◌∙◌, ap, subst, rules, if◌then◌else◌}
use Rattle.std.proofs.lemmas.Bool.{and_parts, eqb-true, eq-eqb, false≢true}
use Rattle.std.proofs.lemmas.Slice.Eq.{slice_eq-Decides}
use Rattle.std.specs.Bool.{Decides}
use Rattle.std.specs.Cmp.Lexicographic.{pointwise}
use Rattle.std.specs.Map.{lookup}
use Rattle.ss_logic.specs.Terms.{Symbol}
use Rattle.ss_logic.specs.Formulas.{Predicate}
use Rattle.ss_logic.specs.Equal.{same_symbol, same_predicate, equal_symbols, equal_predicates, answer_from}
use Rattle.ss_logic_countermodels.specs.Refuting.{same_classes}
use Rattle.ss_terms.specs.Forms.{symbol_of, predicate_of}
use Rattle.ss_terms.proofs.Symbols.{symbols_differ, predicates_differ}
use Rattle.ss_search_models.specs.declared.signatures.Signature.{Signature}
use Rattle.ss_search_models.specs.declared.signatures.Signature.TheVariants as signature
use Rattle.ss_search_models.specs.declared.signatures.Given.{Given}
use Rattle.ss_search_models.specs.declared.signatures.Given.TheVariants as given
use Rattle.ss_search_models.specs.contracts.signatures.SignaturePartialEq.TheImpl as signature_eq
use Rattle.ss_search_models.specs.contracts.signatures.GivenPartialEq.TheImpl as given_eq
use Rattle.ss_search_models.specs.Keys.{Key, FunctionKey, AtomKey, ValueKey, key_of, same_key, Givens, givens_in, given_to}
use Rattle.ss_terms.proofs.Same.{symbol_Decides, predicate_Decides}

-- ---- equal keys

same_classes_equal : (ns ks : List ℕ) → same_classes ns ks ≡ true → ns ≡ ks
same_classes_equal [] [] h = refl
same_classes_equal [] (k ∷ ks) h = absurd (false≢true h)
same_classes_equal (n ∷ ns) [] h = absurd (false≢true h)
same_classes_equal (n ∷ ns) (k ∷ ks) h =
    let p = and_parts (eqb n k) (same_classes ns ks) h in
    ap (λ x. x ∷ ns) (eqb-true n k p.0) ∙ ap (λ xs. k ∷ xs) (same_classes_equal ns ks p.1)

same_classes_itself : (ns : List ℕ) → same_classes ns ns ≡ true
same_classes_itself [] = refl
same_classes_itself (n ∷ ns) = ap (λ v. v && same_classes ns ns) (eq-eqb n n refl) ∙ same_classes_itself ns

same_symbol_itself : (f : Symbol) → same_symbol f f ≡ true
unfolding same_symbol
same_symbol_itself f = answer_from _ refl

same_predicate_itself : (p : Predicate) → same_predicate p p ≡ true
unfolding same_predicate
same_predicate_itself p = answer_from _ refl

pub same_key_equal : (x y : Key) → same_key x y ≡ true → x ≡ y
same_key_equal (FunctionKey f ns) (FunctionKey g ks) h =
    let p = and_parts (same_symbol f g) (same_classes ns ks) h in
    ap (λ s. FunctionKey s ns) (equal_symbols f g p.0) ∙ ap (FunctionKey g) (same_classes_equal ns ks p.1)
same_key_equal (AtomKey p ns) (AtomKey q ks) h =
    let r = and_parts (same_predicate p q) (same_classes ns ks) h in
    ap (λ s. AtomKey s ns) (equal_predicates p q r.0) ∙ ap (AtomKey q) (same_classes_equal ns ks r.1)
same_key_equal (ValueKey n) (ValueKey k) h = ap ValueKey (eqb-true n k h)
same_key_equal _ _ h = absurd (false≢true h)

same_key_itself : (x : Key) → same_key x x ≡ true
same_key_itself (FunctionKey f ns) = ap (λ v. v && same_classes ns ns) (same_symbol_itself f) ∙ same_classes_itself ns
same_key_itself (AtomKey p ns) = ap (λ v. v && same_classes ns ns) (same_predicate_itself p) ∙ same_classes_itself ns
same_key_itself (ValueKey n) = eq-eqb n n refl

-- ---- the derived test

abbrev pub is_same : Signature → Signature → Bool
is_same = (signature_eq.ghosts).eq

numbers_Decides : (ns ks : List ℕ) → Decides (pointwise eqb ns ks) (ns ≡ ks)
numbers_Decides ns ks = slice_eq-Decides (λ a b. (eqb-true a b, eq-eqb a b)) ns ks (pointwise eqb ns ks) refl

both_ways : (a b : Bool) → (a ≡ true → b ≡ true) → (b ≡ true → a ≡ true) → a ≡ b
both_ways true b f g = sym (f refl)
both_ways false true f g = g refl
both_ways false false f g = refl

keys_same : (x y : Key) → x ≡ y → same_key x y ≡ true
keys_same x y e = subst (λ z. same_key x z ≡ true) e (same_key_itself x)

both_true : (a b : Bool) → a ≡ true → b ≡ true → (a && b) ≡ true
both_true a b p q = ap (λ v. v && b) p ∙ q

is_same_key : (x y : Signature) → is_same x y ≡ same_key (key_of x) (key_of y)
is_same_key (signature.Function f ns) (signature.Function g ks) =
    both_ways _ _
    (λ h.
    let p = and_parts _ (pointwise eqb ns.items ks.items) h in
    keys_same _ _ (ap (λ s. FunctionKey (symbol_of s) ns.items) ((symbol_Decides f g).0 p.0) ∙ ap (FunctionKey (symbol_of g)) ((numbers_Decides ns.items ks.items).0 p.1)))
    (λ h.
    let e : FunctionKey (symbol_of f) ns.items ≡ FunctionKey (symbol_of g) ks.items = same_key_equal _ _ h in
    let s : symbol_of f ≡ symbol_of g = cc in
    let n : ns.items ≡ ks.items = cc in
    both_true _ _ ((symbol_Decides f g).1 (symbols_differ f g s)) ((numbers_Decides ns.items ks.items).1 n))
is_same_key (signature.Atom f ns) (signature.Atom g ks) =
    both_ways _ _
    (λ h.
    let p = and_parts _ (pointwise eqb ns.items ks.items) h in
    keys_same _ _ (ap (λ s. AtomKey (predicate_of s) ns.items) ((predicate_Decides f g).0 p.0) ∙ ap (AtomKey (predicate_of g)) ((numbers_Decides ns.items ks.items).0 p.1)))
    (λ h.
    let e : AtomKey (predicate_of f) ns.items ≡ AtomKey (predicate_of g) ks.items = same_key_equal _ _ h in
    let s : predicate_of f ≡ predicate_of g = cc in
    let n : ns.items ≡ ks.items = cc in
    both_true _ _ ((predicate_Decides f g).1 (predicates_differ f g s)) ((numbers_Decides ns.items ks.items).1 n))
is_same_key (signature.Value n) (signature.Value k) = refl
is_same_key _ _ = refl

-- ---- what was given

pub given_found : (x : Signature) (es : List (Signature × Given)) → lookup (is_same x) es ≡ given_to (givens_in es) (key_of x)
given_found x [] = refl
given_found x (e ∷ es) = ap (λ v. cond v (Some e.1) (lookup (is_same x) es)) (is_same_key x e.0) ∙ ap (λ o. cond (same_key (key_of x) (key_of e.0)) (Some e.1) o) (given_found x es)

pub given_new : (gs : Givens) (k : Key) (g : Given) → given_to gs k ≡ None → given_to (gs ++ (k, g) ∷ []) k ≡ Some g
given_new [] k g h = ap (λ v. if v then Some g else None) (same_key_itself k)
given_new (e ∷ gs) k g h = by (same_key k e.0) h (given_new gs k g)
  where
    by : (v : Bool) → (if v then Some e.1 else given_to gs k) ≡ None → (given_to gs k ≡ None → given_to (gs ++ (k, g) ∷ []) k ≡ Some g) → (if v then Some e.1 else given_to (gs ++ (k, g) ∷ []) k) ≡ Some g
    by true n more = cc
    by false n more = more n

pub given_kept : (gs : Givens) (e : Key × Given) (k : Key) (g : Given) → given_to gs k ≡ Some g → given_to (gs ++ e ∷ []) k ≡ Some g
given_kept [] e k g h = cc
given_kept (f ∷ gs) e k g h = by (same_key k f.0) h (given_kept gs e k g)
  where
    by : (v : Bool) → (if v then Some f.1 else given_to gs k) ≡ Some g → (given_to gs k ≡ Some g → given_to (gs ++ e ∷ []) k ≡ Some g) → (if v then Some f.1 else given_to (gs ++ e ∷ []) k) ≡ Some g
    by true s more = s
    by false s more = more s

pub given_same : (a b : Given) → (given_eq.ghosts).eq a b ≡ true → a ≡ b
given_same (given.Class n) (given.Class k) h = ap given.Class (eqb-true n k h)
given_same (given.Truth v) (given.Truth w) h = search rules
given_same (given.Value t) (given.Value u) h = search rules
given_same _ _ h = absurd (false≢true h)
