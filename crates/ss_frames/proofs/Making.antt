-- Formulas that are made in several steps, as the bank grows.
use Rattle.std.proofs.Common.{◌≡◌, ℕ, List, [], ◌∷◌, ◌++◌, map, length, Bool, true, false, refl, sym, ◌∙◌, ap, subst, Result, Ok, Err, Vec, Global}
use Rattle.std.specs.Prelude.{IfOk}
use Rattle.ss_core.specs.declared.names.ClassId.{ClassId}
use Rattle.ss_core.specs.Tree.{ClassTree}
use Rattle.ss_core.specs.Chain.{all_fields}
use Rattle.ss_logic.specs.Terms.{terms_from}
use Rattle.ss_logic.specs.Formulas.{Predicate, Allocated, Committed, Formula, Literal, And, Or, neg, formulas_from}
use Rattle.ss_logic.specs.Shapes.{equal, allocated, committed, owner_of}
use Rattle.ss_logic.specs.Frames as logic
use Rattle.ss_logic.specs.Frames.{the_object, in_group_of, owned_by, is_free, is_outside, lifted, is_named, names_level, names_elements, all_named, iff, unless, level_kept, fields_kept, object_kept, objects_kept, array_kept, elements_kept, others_full, kept}
use Rattle.ss_logic.specs.Express.{and_of}
use Rattle.ss_terms.specs.declared.forms.TermId.{TermId}
use Rattle.ss_terms.specs.declared.forms.FormulaId.{FormulaId}
use Rattle.ss_terms.specs.Forms.{Forms, term_at, terms_at, formula_at, formulas_at, HasTerm, HasTerms, IsGrown}
use Rattle.ss_terms.proofs.Grown.{IsGrown-refl, IsGrown-then}
use Rattle.ss_frames.specs.declared.calls.NamedTerm.{NamedTerm}
use Rattle.ss_frames.specs.declared.calls.CallTerms.{CallTerms}
use Rattle.ss_frames.specs.Calls.{owner_at, call_at, guard_of, object_of, HasNamed, HasOwned, HasCall, IsTerm, IsMade, AreMade, group_at, owned_at}
use Rattle.ss_frames.proofs.Growing.{IsMade-grown, AreMade-grown, call_at-grown, AreMade-append, AreMade-one, AreMade-then, AreMade-as, group_at-grown, owned_at-grown, neg_or, unless_says}

pub list_made : {E : Type 0} (r : Result (Vec FormulaId Global) E) (b : Forms) (fs : List FormulaId) (xs : List Formula) → IfOk r (λ v. v.items ≡ fs) → AreMade b fs xs → IfOk r (λ v. AreMade b v.items xs)
list_made (Ok v) b fs xs e h = AreMade-as b fs v.items xs e h
list_made (Err z) b fs xs e h = tt

-- of the call, where the bank was smaller
pub call_made : (X : logic.CallTerms → Formula) (a b c : Forms) (m : CallTerms) (f : FormulaId) → IsGrown a b → HasCall a m → IsMade c f (X (call_at b m)) → IsMade c f (X (call_at a m))
call_made X a b c m f g h made = (made.0, made.1 ∙ ap X (call_at-grown a b g m h))

pub calls_made : (X : logic.CallTerms → List Formula) (a b c : Forms) (m : CallTerms) (fs : List FormulaId) → IsGrown a b → HasCall a m → AreMade c fs (X (call_at b m)) → AreMade c fs (X (call_at a m))
calls_made X a b c m fs g h made = (made.0, made.1 ∙ ap X (call_at-grown a b g m h))

pub atom_says : (a b : Forms) → IsGrown a b → (holds : Bool) (p : Predicate) (store object : TermId) → HasTerm a store → IsTerm a object the_object →
    Literal holds p (terms_from (terms_at b (store ∷ object ∷ []))) ≡ Literal holds p (terms_from (term_at a store ∷ the_object ∷ []))
atom_says a b g holds p store object h k =
    ap (λ t. Literal holds p (terms_from (t ∷ term_at b object ∷ []))) (g.same_terms store h)
    ∙ ap (λ t. Literal holds p (terms_from (term_at a store ∷ t ∷ []))) (g.same_terms object k.0 ∙ k.1)

-- ---- what is free

groups_as : (a b : Forms) → IsGrown a b → (store : TermId) (es : List TermId) → HasTerm a store → HasTerms a es → map (group_at b store) es ≡ map (in_group_of (term_at a store)) (terms_at a es)
groups_as a b g store [] h k = refl
groups_as a b g store (e ∷ es) h k = ap (λ x. x ∷ map (group_at b store) es) (group_at-grown a b g store e h k.0) ∙ ap (λ xs. group_at a store e ∷ xs) (groups_as a b g store es h k.1)

owners_as : (a b : Forms) → IsGrown a b → (store : TermId) (ws : List (TermId × ClassId)) → HasTerm a store → HasOwned a ws → map (owned_at b store) ws ≡ map (owned_by (term_at a store)) (map (owner_at a) ws)
owners_as a b g store [] h k = refl
owners_as a b g store (w ∷ ws) h k = ap (λ x. x ∷ map (owned_at b store) ws) (owned_at-grown a b g store w h k.0) ∙ ap (λ xs. owned_at a store w ∷ xs) (owners_as a b g store ws h k.1)

pub bound_made : (a b c d : Forms) → IsGrown a b → IsGrown b c → IsGrown c d → (m : CallTerms) → HasCall a m → (first groups owners all : List FormulaId) →
    AreMade b first (neg (allocated (term_at a m.before) the_object) ∷ committed (term_at a m.before) the_object ∷ []) →
    AreMade c groups (map (group_at b m.before) m.captured.items) → AreMade d owners (map (owned_at c m.before) m.owned.items) → all ≡ first ++ groups ++ owners →
    AreMade d all (neg (allocated (term_at a m.before) the_object) ∷ is_free (call_at a m))
bound_made a b c d ab bc cd m h first groups owners all f g o e =
    let ac = IsGrown-then a b c ab bc in
    let bd = IsGrown-then b c d bc cd in
    let g' = AreMade-grown c d cd groups _ (g.0, g.1 ∙ groups_as a b ab m.before m.captured.items h.before h.captured) in
    let o' : AreMade d owners (map (owned_by (term_at a m.before)) (call_at a m).owned) = (o.0, o.1 ∙ owners_as a c ac m.before m.owned.items h.before h.owned) in
    AreMade-as d (first ++ groups ++ owners) all _ e
    (AreMade-append d (first ++ groups) owners _ _ (AreMade-append d first groups _ _ (AreMade-grown b d bd first _ f) g') o')

-- ---- what is named

pub named_made : (a b c : Forms) → IsGrown a b → IsGrown b c → (n : ℕ) (x : NamedTerm) (object : TermId) → HasNamed a x → IsTerm a object the_object → (guard same : FormulaId) (f : FormulaId) (o : TermId) →
    f ≡ guard_of x → o ≡ object_of x → IsMade b guard (lifted n (formula_at a f)) → IsMade c same (equal (term_at b object) (term_at b o)) →
    AreMade c (guard ∷ same ∷ []) (lifted n (formula_at a (guard_of x)) ∷ equal the_object (term_at a (object_of x)) ∷ [])
named_made a b c ab bc n x object h k guard same f o ef eo g s =
    let first = IsMade-grown b c bc guard _ (g.0, g.1 ∙ ap (λ i. lifted n (formula_at a i)) ef) in
    let says : equal (term_at b object) (term_at b o) ≡ equal the_object (term_at a (object_of x)) =
    ap (λ t. equal t (term_at b o)) (ab.same_terms object k.0 ∙ k.1) ∙ ap (λ i. equal the_object (term_at b i)) eo ∙ ap (equal the_object) (ab.same_terms (object_of x) h.1) in
    AreMade-then c guard _ (same ∷ []) _ first (AreMade-one c same _ (s.0, s.1 ∙ says))

-- ---- objects

-- committed in both stores, or in neither
abbrev pub are_committed_of : Bool → logic.CallTerms → Formula
are_committed_of holds k = and_of (Literal holds Committed (terms_from (k.after ∷ the_object ∷ [])) ∷ Literal holds Committed (terms_from (k.before ∷ the_object ∷ [])) ∷ [])

pub committed_made : (a b c : Forms) → IsGrown a b → IsGrown b c → (m : CallTerms) → HasCall a m → (both neither : FormulaId) → IsMade b both (are_committed_of true (call_at a m)) → IsMade c neither (are_committed_of false (call_at b m)) →
    AreMade c (both ∷ neither ∷ []) (are_committed_of true (call_at a m) ∷ are_committed_of false (call_at a m) ∷ [])
committed_made a b c ab bc m h both neither f g =
    AreMade-then c both _ (neither ∷ []) _ (IsMade-grown b c bc both _ f) (AreMade-one c neither _ (call_made (are_committed_of false) a b c m neither ab h g))

pub object_made : (cs : List ClassTree) (a b c d e : Forms) → IsGrown a b → IsGrown b c → IsGrown c d → IsGrown d e → (m : CallTerms) → HasCall a m → (level both owner : FormulaId) (fields all : List FormulaId) (count : ℕ) →
    count ≡ length (all_fields cs) → IsMade b level (level_kept (call_at a m)) →
    IsMade c both (iff (committed (term_at b m.after) the_object) (committed (term_at b m.before) the_object)) →
    IsMade d owner (equal (owner_of (term_at c m.after) the_object) (owner_of (term_at c m.before) the_object)) →
    AreMade e fields (fields_kept cs (call_at d m) 0 count) → all ≡ (level ∷ both ∷ owner ∷ []) ++ fields →
    AreMade e all (level_kept (call_at a m) ∷ iff (committed (term_at a m.after) the_object) (committed (term_at a m.before) the_object) ∷ equal (owner_of (term_at a m.after) the_object) (owner_of (term_at a m.before) the_object) ∷ fields_kept cs (call_at a m) 0 (length (all_fields cs)))
object_made cs a b c d e ab bc cd de m h level both owner fields all count n l t o f is =
    let ac = IsGrown-then a b c ab bc in
    let ad = IsGrown-then a c d ac cd in
    let be = IsGrown-then b d e (IsGrown-then b c d bc cd) de in
    let ce = IsGrown-then c d e cd de in
    let l' = IsMade-grown b e be level _ l in
    let t' = IsMade-grown c e ce both _ (call_made (λ k. iff (committed k.after the_object) (committed k.before the_object)) a b c m both ab h t) in
    let o' = IsMade-grown d e de owner _ (call_made (λ k. equal (owner_of k.after the_object) (owner_of k.before the_object)) a c d m owner ac h o) in
    let f' : AreMade e fields (fields_kept cs (call_at a m) 0 (length (all_fields cs))) = calls_made (λ k. fields_kept cs k 0 (length (all_fields cs))) a d e m fields ad h (subst (λ j. AreMade e fields (fields_kept cs (call_at d m) 0 j)) n f) in
    AreMade-as e ((level ∷ both ∷ owner ∷ []) ++ fields) all _ is (AreMade-then e level _ (both ∷ owner ∷ fields) _ l' (AreMade-then e both _ (owner ∷ fields) _ t' (AreMade-then e owner _ fields _ o' f')))

-- ---- the three parts

abbrev pub not_bound_of : logic.CallTerms → List Formula
not_bound_of k = neg (allocated k.before the_object) ∷ is_free k

-- of a call of this bank, where they were made in an earlier one
pub calls_now : (X : logic.CallTerms → List Formula) (a b c : Forms) (m : CallTerms) (fs gs : List FormulaId) → IsGrown a b → IsGrown b c → HasCall a m → gs ≡ fs → AreMade b fs (X (call_at a m)) → AreMade c gs (X (call_at c m))
calls_now X a b c m fs gs ab bc h e made =
    let later = AreMade-grown b c bc fs _ made in
    AreMade-as c fs gs _ e (later.0, later.1 ∙ ap X (sym (call_at-grown a c (IsGrown-then a b c ab bc) m h)))

pub objects_made : (cs : List ClassTree) (a b c : Forms) → IsGrown a b → IsGrown b c → (m : CallTerms) → HasCall a m → (free : List FormulaId) (keeps : FormulaId) → AreMade a free (not_bound_of (call_at a m)) → IsMade c keeps (object_kept cs (call_at b m)) →
    unless (formulas_at c free) (formula_at c keeps) ≡ unless (not_bound_of (call_at a m)) (object_kept cs (call_at a m))
objects_made cs a b c ab bc m h free keeps f k =
    unless_says c free free _ keeps _ (AreMade-grown a c (IsGrown-then a b c ab bc) free _ f) refl (call_made (object_kept cs) a b c m keeps ab h k)

pub element_parts : (a b c : Forms) → IsGrown a b → IsGrown b c → (m : CallTerms) → HasCall a m → (free named parts : List FormulaId) → AreMade a free (not_bound_of (call_at a m)) → AreMade b named (all_named names_elements (call_at b m).named) →
    parts ≡ free ++ named → AreMade c parts (not_bound_of (call_at a m) ++ all_named names_elements (call_at a m).named)
element_parts a b c ab bc m h free named parts f n e =
    let f' = AreMade-grown a b ab free _ f in
    let n' = calls_made (λ k. all_named names_elements k.named) a b b m named ab h n in
    AreMade-grown b c bc parts _ (AreMade-as b (free ++ named) parts _ e (AreMade-append b free named _ _ f' n'))

abbrev pub not_changed_of : logic.CallTerms → List Formula
not_changed_of k = neg (allocated k.after the_object) ∷ and_of (allocated k.before the_object ∷ map neg (is_free k)) ∷ []

pub other_parts : (a b c : Forms) → IsGrown a b → IsGrown b c → (m : CallTerms) → (first outside parts : List FormulaId) → AreMade b first (not_changed_of (call_at a m)) → AreMade a outside (is_outside (call_at a m)) → parts ≡ first ++ outside →
    AreMade c parts (not_changed_of (call_at a m) ++ is_outside (call_at a m))
other_parts a b c ab bc m first outside parts f o e =
    AreMade-grown b c bc parts _ (AreMade-as b (first ++ outside) parts _ e (AreMade-append b first outside _ _ f (AreMade-grown a b ab outside _ o)))

pub changed_made : (a b c : Forms) → IsGrown a b → IsGrown b c → (m : CallTerms) (object : TermId) → HasTerm a m.after → IsTerm a object the_object → (new changed bound : FormulaId) (free : List FormulaId) → AreMade a free (not_bound_of (call_at a m)) →
    IsMade b new (Literal false Allocated (terms_from (terms_at a (m.after ∷ object ∷ [])))) → IsMade c changed (Or (formulas_from (formulas_at b free))) → IsMade c bound (neg (formula_at c changed)) →
    AreMade c (new ∷ bound ∷ []) (not_changed_of (call_at a m))
changed_made a b c ab bc m object h k new changed bound free f n o e =
    let f' = AreMade-grown a b ab free _ f in
    let n' = IsMade-grown b c bc new _ (n.0, n.1 ∙ atom_says a a (IsGrown-refl a) false Allocated m.after object h k) in
    let says : formula_at c bound ≡ And (formulas_from (map neg (not_bound_of (call_at a m)))) = e.1 ∙ ap neg (o.1 ∙ ap (λ xs. Or (formulas_from xs)) f'.1) ∙ neg_or (not_bound_of (call_at a m)) in
    AreMade-then c new _ (bound ∷ []) _ n' (AreMade-one c bound _ (e.0, says))

pub all_made : (cs : List ClassTree) (a c d e f : Forms) → IsGrown a c → IsGrown c d → IsGrown d e → IsGrown e f → (m : CallTerms) → HasCall a m → (objects elements others : FormulaId) →
    IsMade d objects (objects_kept cs (call_at c m)) → IsMade e elements (elements_kept (call_at d m)) → IsMade f others (others_full (call_at e m)) →
    AreMade f (objects ∷ elements ∷ others ∷ []) (objects_kept cs (call_at a m) ∷ elements_kept (call_at a m) ∷ others_full (call_at a m) ∷ [])
all_made cs a c d e f ac cd de ef m h objects elements others o l z =
    let ad = IsGrown-then a c d ac cd in
    let ae = IsGrown-then a d e ad de in
    let o' = IsMade-grown d f (IsGrown-then d e f de ef) objects _ (call_made (objects_kept cs) a c d m objects ac h o) in
    let l' = IsMade-grown e f ef elements _ (call_made elements_kept a d e m elements ad h l) in
    let z' = call_made others_full a e f m others ae h z in
    AreMade-then f objects _ (elements ∷ others ∷ []) _ o' (AreMade-then f elements _ (others ∷ []) _ l' (AreMade-one f others _ z'))
