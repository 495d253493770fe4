-- Arguments: each gets a term with its value.
use Rattle.std.proofs.Common.{◌≡◌, List, [], ◌∷◌, refl, sym, ◌∙◌, ap, subst}
use Rattle.ss_core.specs.Tree.{ExprTree}
use Rattle.ss_store_rules.specs.Store.{Object}
use Rattle.ss_store_rules.specs.Types.{code_type}
use Rattle.ss_store_rules.specs.declared.Value.{Value as ObjectValue}
use Rattle.ss_logic.specs.declared.Sort.{Sort}
use Rattle.ss_logic.specs.Values.{Table, sort_of_value, Structure}
use Rattle.ss_logic.specs.Terms.{Term}
use Rattle.ss_logic.specs.Express.{Meant, One, Context, choices, element_sort, meant}
use Rattle.ss_logic_means.specs.Means.{standing, Denotes}
use Rattle.ss_logic_means.specs.Sorts.{HasSort, HaveSort}
use Rattle.ss_vcgen_heaps.specs.Positions.{Counters, Position, Walk, context_at, meant_at, term_for, settled}
use Rattle.ss_vcgen_heaps.specs.Obligations.{classes_of, settle_all, arguments_settled}
use Rattle.ss_sound_outcomes.specs.Points.{Point}
use Rattle.ss_vcgen_safe.specs.At.{IsAlike, Stays, HasValue, Rises, Agrees}
use Rattle.ss_vcgen_safe.proofs.Alike.{alike_self, alike_twice, alike_lower, stays_on}
use Rattle.ss_vcgen_safe.proofs.Leads.{leads_settled}
use Rattle.ss_vcgen_safe.proofs.PositionsStatements.{leads_settle_all}
use Rattle.ss_vcgen_safe.proofs.PositionsTerms.{standing_numbered, term_at}
use Rattle.ss_vcgen_safe.proofs.Same.{IsLike, like_with_term}

-- an expression stands in the same context at a position with the same locals and store
pub context_like : (w : Walk) (k k' : Position) → IsLike k k' → context_at w k' ≡ context_at w k
context_like w k k' l = ap (λ (s : Term). context_at w (record k' { store = s })) l.store ∙ ap (λ ls. context_at w (record k { locals = ls })) l.locals

module _ (w : Walk) (before : List Object) (table : Table) (p : Point) where
  abbrev pub argument_sort : ExprTree → Sort
  argument_sort e = element_sort (code_type (classes_of w) w.body e)

  -- What the expression means in the context has its sort, and the value.
  pub record IsDenoted (next : Counters) (m : Structure) (c : Context) (e : ExprTree) (v : ObjectValue) : Type 0 where
    pub sorted : HaveSort w.program.classes [] (argument_sort e) (choices (meant e c))
    pub denotes : Stays next m (λ m'. Denotes w.program.classes m' [] (meant e c) (standing v))
    pub of : sort_of_value (standing v) ≡ argument_sort e

  -- one by one
  abbrev pub AreDenoted : Counters → Structure → Context → List ExprTree → List ObjectValue → Type 0
  AreDenoted next m c [] [] = Unit {0}
  AreDenoted next m c [] (v ∷ vs) = ⊥
  AreDenoted next m c (e ∷ es) [] = ⊥
  AreDenoted next m c (e ∷ es) (v ∷ vs) = IsDenoted next m c e v × AreDenoted next m c es vs

  denoted_on : (n n' : Counters) (m m' : Structure) (c : Context) (es : List ExprTree) (vs : List ObjectValue) → Rises n n' → IsAlike n m m' → AreDenoted n m c es vs → AreDenoted n' m' c es vs
  denoted_on n n' m m' c [] [] r a h = tt
  denoted_on n n' m m' c [] (v ∷ vs) r a h = h
  denoted_on n n' m m' c (e ∷ es) [] r a h = h
  denoted_on n n' m m' c (e ∷ es) (v ∷ vs) r a h = (record { sorted = h.0.sorted; denotes = stays_on _ n n' m m' r a h.0.denotes; of = h.0.of }, denoted_on n n' m m' c es vs r a h.1)

  -- A term with its sort and the value.
  pub record IsArgument (next : Counters) (m : Structure) (e : ExprTree) (x : Meant) (v : ObjectValue) : Type 0 where
    pub term : Term
    pub one : x ≡ One term
    pub sorted : HasSort w.program.classes [] (argument_sort e) term
    pub is : Stays next m (HasValue w.program.classes term (standing v))

  abbrev pub AreArguments : Counters → Structure → List ExprTree → List Meant → List ObjectValue → Type 0
  AreArguments next m [] [] [] = Unit {0}
  AreArguments next m (e ∷ es) (x ∷ xs) (v ∷ vs) = IsArgument next m e x v × AreArguments next m es xs vs
  AreArguments next m es xs vs = ⊥

  -- In some structure that is alike the position after agrees, and each argument has its term.
  pub record AreSettled (m : Structure) (k : Position) (es : List ExprTree) (vs : List ObjectValue) : Type 0 where
    pub m' : Structure
    pub alike : IsAlike k.next m m'
    pub agrees : Agrees w before table m' (settle_all w es k) p
    pub are : AreArguments (settle_all w es k).next m' es (arguments_settled w es k) vs

  settled_in : (c : Context) (es : List ExprTree) (vs : List ObjectValue) (k : Position) (m : Structure) → context_at w k ≡ c → Agrees w before table m k p → AreDenoted k.next m c es vs → AreSettled m k es vs
  settled_in c [] [] k m same g h = record { m' = m; alike = alike_self k.next m; agrees = g; are = tt }
  settled_in c [] (v ∷ vs) k m same g h = absurd h
  settled_in c (e ∷ es) [] k m same g h = absurd h
  settled_in c (e ∷ es) (v ∷ vs) k m same g h =
      let cs = w.program.classes in
      let s = argument_sort e in
      let x = meant_at w e k in
      let k' = settled x s k in
      let z = term_at w before table m k p s (standing v) (standing_numbered v) h.0.of g x (subst (λ (d : Context). HaveSort cs [] s (choices (meant e d))) (sym same) h.0.sorted)
      (subst (λ (d : Context). Stays k.next m (λ m'. Denotes cs m' [] (meant e d) (standing v))) (sym same) h.0.denotes) in
      let rises = (leads_settled w x s k).rises in
      let y = settled_in c es vs k' z.m' (context_like w k k' (like_with_term w s x k) ∙ same) z.agrees (denoted_on k.next k'.next m z.m' c es vs rises z.alike h.1) in
      let end = settle_all w es k' in
      record {
        m' = y.m';
        alike = alike_twice k.next m z.m' y.m' z.alike (alike_lower k.next k'.next z.m' y.m' rises y.alike);
        agrees = y.agrees;
        are = (record { term = term_for s x k; one = refl; sorted = z.sorted; is = stays_on (HasValue cs (term_for s x k) (standing v)) k'.next end.next z.m' y.m' (leads_settle_all w es k').rises y.alike z.is }, y.are);
      }

  pub settled_at : (es : List ExprTree) (vs : List ObjectValue) (k : Position) (m : Structure) → Agrees w before table m k p → AreDenoted k.next m (context_at w k) es vs → AreSettled m k es vs
  settled_at es vs k m g h = settled_in (context_at w k) es vs k m refl g h
