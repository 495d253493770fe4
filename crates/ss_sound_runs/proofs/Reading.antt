-- The value of a condition is that of its normal form, read in the arguments, the result and the bound names alone.
use Rattle.std.proofs.Common.{◌≡◌, ℕ, ℤ, List, [], ◌∷◌, ◌++◌, Bool, true, ◌&&◌, Ok, refl, sym, ◌∙◌, ap, append_assoc}
use Rattle.std.specs.Prelude.{slice_get, unwrap_or, if◌then◌else◌}
use Rattle.std.specs.Int.{int_gap}
use Rattle.std.proofs.Math.Path.{fun_ext}
use Rattle.std.proofs.lemmas.Bool.{false≢true, and_parts}
use Rattle.ss_core.specs.declared.expr.Quantifier.{Quantifier}
use Rattle.ss_core.specs.Tree.{ClassTree, StateExpr, ExprTree, IntExpr, BoolExpr, NullExpr, LocalExpr, FieldExpr, ElementExpr, LengthExpr, NegateExpr, NotExpr, BinaryExpr, ImpliesExpr, IffExpr, IsExpr, AsExpr, CastExpr, OldExpr, QuantifiedExpr, OwnersExpr, DefaultExpr, BodyTree}
use Rattle.ss_store_rules.specs.declared.Value.{Value}
use Rattle.ss_store_rules.specs.declared.Value.TheVariants as value
use Rattle.ss_store_rules.specs.Store.{Object}
use Rattle.ss_store_rules.specs.Numbers.{Outcome}
use Rattle.ss_store_rules.specs.Reads.{as_int}
use Rattle.ss_store_rules.specs.Values.{Setting, and_then, truth, operation, implication, equivalence, field_value, element_value, length_value, is_of, cast, quantified, word_value, owners_value, value_of}
use Rattle.ss_store_rules.specs.Locals.{everywhere, is_local_among}
use Rattle.ss_store_rules.specs.Types.{Words, is_allowed}
use Rattle.ss_store_rules.specs.Tables.{normal_number, normal_condition}

-- the value of a local, or null
abbrev pub local_in : List Value → ℕ → Value
local_in locals x = unwrap_or (slice_get locals x) value.Null

-- Each of these locals has the value that its number in the normal form has, however many bound names stand after.
abbrev pub ReadsSame : BodyTree → (ℕ → Bool) → List Value → List Value → Type 0
ReadsSame b among L N = (bound : List Value) (x : ℕ) → among x ≡ true → local_in (L ++ bound) x ≡ local_in (N ++ bound) (normal_number b x)

module _ (cs : List ClassTree) (s entry : List Object) where
  abbrev pub read_at : Bool → List Value → Setting
  read_at old locals = record { classes = cs; store = s; entry = entry; inside_old = old; locals = locals }

  module _ (b : BodyTree) (w : Words) (among : ℕ → Bool) (L N : List Value) (same : ReadsSame b among L N) where
    abbrev In : Bool → List Value → ExprTree → Outcome
    In old bound e = value_of e (read_at old (L ++ bound))

    abbrev Normal : Bool → List Value → ExprTree → Outcome
    Normal old bound e = value_of (normal_condition b e) (read_at old (N ++ bound))

    abbrev over : Quantifier → Outcome → Outcome → (ℤ → Outcome) → Outcome
    over q low high member = and_then low (λ v. and_then high (λ w. quantified q member (int_gap (as_int v) (as_int w)) (as_int v)))

    pub normal_value : (e : ExprTree) → everywhere (is_allowed b w) e ≡ true → everywhere (is_local_among among) e ≡ true → (old : Bool) (bound : List Value) → In old bound e ≡ Normal old bound e
    normal_value (IntExpr p n) g h old bound = refl
    normal_value (BoolExpr p v) g h old bound = refl
    normal_value (NullExpr p) g h old bound = refl
    normal_value (LocalExpr p x) g h old bound = ap Ok (same bound x h)
    normal_value (FieldExpr p e f) g h old bound = ap (λ (r : Outcome). and_then r (λ v. field_value (read_at old (L ++ bound)) p v f)) (normal_value e g h old bound)
    normal_value (ElementExpr p a i) g h old bound =
        let gs = and_parts (everywhere (is_allowed b w) a) (everywhere (is_allowed b w) i) g in
        let hs = and_parts (everywhere (is_local_among among) a) (everywhere (is_local_among among) i) h in
        ap (λ (r : Outcome). and_then r (λ v. and_then (In old bound i) (λ n. element_value (read_at old (L ++ bound)) p v (as_int n)))) (normal_value a gs.0 hs.0 old bound)
        ∙ ap (λ (r : Outcome). and_then (Normal old bound a) (λ v. and_then r (λ n. element_value (read_at old (L ++ bound)) p v (as_int n)))) (normal_value i gs.1 hs.1 old bound)
    normal_value (LengthExpr p e) g h old bound = ap (λ (r : Outcome). and_then r (λ v. length_value (read_at old (L ++ bound)) p v)) (normal_value e g h old bound)
    normal_value (NegateExpr p e) g h old bound = rw (normal_value e g h old bound) refl
    normal_value (NotExpr p e) g h old bound = rw (normal_value e g h old bound) refl
    normal_value (BinaryExpr p o x y) g h old bound =
        let gs = and_parts (everywhere (is_allowed b w) x) (everywhere (is_allowed b w) y) g in
        let hs = and_parts (everywhere (is_local_among among) x) (everywhere (is_local_among among) y) h in
        ap (λ (r : Outcome). operation o p r (In old bound y)) (normal_value x gs.0 hs.0 old bound) ∙ ap (operation o p (Normal old bound x)) (normal_value y gs.1 hs.1 old bound)
    normal_value (ImpliesExpr p x y) g h old bound =
        let gs = and_parts (everywhere (is_allowed b w) x) (everywhere (is_allowed b w) y) g in
        let hs = and_parts (everywhere (is_local_among among) x) (everywhere (is_local_among among) y) h in
        ap (λ (r : Outcome). implication r (In old bound y)) (normal_value x gs.0 hs.0 old bound) ∙ ap (implication (Normal old bound x)) (normal_value y gs.1 hs.1 old bound)
    normal_value (IffExpr p x y) g h old bound =
        let gs = and_parts (everywhere (is_allowed b w) x) (everywhere (is_allowed b w) y) g in
        let hs = and_parts (everywhere (is_local_among among) x) (everywhere (is_local_among among) y) h in
        ap (λ (r : Outcome). equivalence r (In old bound y)) (normal_value x gs.0 hs.0 old bound) ∙ ap (equivalence (Normal old bound x)) (normal_value y gs.1 hs.1 old bound)
    normal_value (IsExpr p e t) g h old bound = ap (λ (r : Outcome). and_then r (λ v. truth (is_of (read_at old (L ++ bound)) t v))) (normal_value e g h old bound)
    normal_value (AsExpr p e t) g h old bound = ap (λ (r : Outcome). and_then r (λ v. Ok (if is_of (read_at old (L ++ bound)) t v then v else value.Null))) (normal_value e g h old bound)
    normal_value (CastExpr p t non_null e) g h old bound = ap (λ (r : Outcome). and_then r (λ v. cast (read_at old (L ++ bound)) p t non_null v)) (normal_value e g h old bound)
    normal_value (OldExpr p e) g h old bound = normal_value e (and_parts _ (everywhere (is_allowed b w) e) g).1 h true bound
    normal_value (QuantifiedExpr p q name low high e) g h old bound =
        let gs = and_parts (everywhere (is_allowed b w) low && everywhere (is_allowed b w) high) (everywhere (is_allowed b w) e) g in
        let hs = and_parts (everywhere (is_local_among among) low && everywhere (is_local_among among) high) (everywhere (is_local_among among) e) h in
        let gb = and_parts (everywhere (is_allowed b w) low) (everywhere (is_allowed b w) high) gs.0 in
        let hb = and_parts (everywhere (is_local_among among) low) (everywhere (is_local_among among) high) hs.0 in
        let member = λ (i : ℤ).
        ap (λ (l : List Value). value_of e (read_at old l)) (append_assoc L bound (value.Int i ∷ []))
        ∙ normal_value e gs.1 hs.1 old (bound ++ value.Int i ∷ [])
        ∙ ap (λ (l : List Value). value_of (normal_condition b e) (read_at old l)) (sym (append_assoc N bound (value.Int i ∷ []))) in
        ap (λ (r : Outcome). over q r (In old bound high) (λ i. value_of e (read_at old ((L ++ bound) ++ value.Int i ∷ [])))) (normal_value low gb.0 hb.0 old bound)
        ∙ ap (λ (r : Outcome). over q (Normal old bound low) r (λ i. value_of e (read_at old ((L ++ bound) ++ value.Int i ∷ [])))) (normal_value high gb.1 hb.1 old bound)
        ∙ ap (over q (Normal old bound low) (Normal old bound high)) (fun_ext member)
    normal_value (StateExpr p k e) g h old bound = ap (λ (r : Outcome). and_then r (λ v. word_value (read_at old (L ++ bound)) p k v)) (normal_value e (and_parts _ (everywhere (is_allowed b w) e) g).1 h old bound)
    normal_value (OwnersExpr p k x y) g h old bound =
        let gs = and_parts (w.states && everywhere (is_allowed b w) x) (everywhere (is_allowed b w) y) g in
        let gx = and_parts w.states (everywhere (is_allowed b w) x) gs.0 in
        let hs = and_parts (everywhere (is_local_among among) x) (everywhere (is_local_among among) y) h in
        ap (λ (r : Outcome). and_then r (λ v. and_then (In old bound y) (λ u. owners_value (read_at old (L ++ bound)) p k v u))) (normal_value x gx.1 hs.0 old bound)
        ∙ ap (λ (r : Outcome). and_then (Normal old bound x) (λ v. and_then r (λ u. owners_value (read_at old (L ++ bound)) p k v u))) (normal_value y gs.1 hs.1 old bound)
    normal_value (DefaultExpr p d) g h old bound = absurd (false≢true g)
