-- Contracts of elaborated bodies in normal form.
use Rattle.std.proofs.Common.{◌≡◌, ℕ, ◌+◌, ◌-◌, ◌<◌, ◌≤◌, List, [], ◌∷◌, ◌++◌, length, map, Bool, true, false, Option, Some, None, refl, sym, ◌∙◌, ap, subst, arith, ⊎_elim}
use Rattle.std.specs.Prelude.{slice_get, unwrap_or, nat_lt, nat_le, if◌then◌else◌}
use Rattle.std.specs.List.{list_all}
use Rattle.std.proofs.lemmas.Bool.{and_parts, cases_Bool, lt-ltb, le-ltb, ltb-true}
use Rattle.std.proofs.lemmas.List.{map-append}
use Rattle.std.proofs.lemmas.List.Folds.{list_all-append}
use Rattle.std.proofs.lemmas.List.Concat.{flat_map-cons}
use Rattle.ss_core.specs.declared.names.Place.{Place}
use Rattle.ss_core.specs.Tree as core
use Rattle.ss_core.specs.Tree.{DefaultTree, LocalExpr, DefaultExpr, NamedTree, UptoOf}
use Rattle.ss_typed.specs.Tree.{ExprTree, IntOf, BoolOf, NullOf, ThisOf, LocalOf, ResultOf, BoundOf, IffOf, ImpliesOf, BinaryOf, IsOf, AsOf, NegateOf, NotOf, CastOf, FieldOf, ElementOf, LengthOf, OldOf, QuantifiedOf, StateOf, OwnersOf, NewOf, NewArrayOf, CallOf, StaticOf, BaseOf, ModifiedTree, OneOf, AllOf, ElementsOf, BodyTree}
use Rattle.ss_typed.specs.Shapes.{is_this}
use Rattle.ss_expand_rules.specs.Numbers.{Numbers, number, plain, all_plain}
use Rattle.ss_expand_rules.specs.Contracts.{conditions, default_entry, default_exit, entry_of_first, modifies_of_first, all_exits, named, this_upto, written_terms, terms_of_method, terms, entry_conditions, exit_conditions, named_terms}
use Rattle.ss_expand_rules.specs.Bodies.{results, param_of}
use Rattle.ss_store_rules.specs.Locals.{argument_count}
use Rattle.ss_store_rules.specs.Tables.{normal_number, normal_default, no_place, normal_condition, normal_named, normal_entry, normal_exit, all_normal_named}
use Rattle.ss_expand_formed.proofs.Choosing.{three_parts}
use Rattle.ss_expand_formed.proofs.Readings.{reads, term_reads, terms_read, contract_reads, after_params}

-- A body of the core program has the contract of the written body b in the class t, whose method has these declarations.
pub record HasContract (y : core.BodyTree) (b : BodyTree) (t : ℕ) (bs : List BodyTree) : Type 0 where
  pub params : y.params ≡ map param_of b.params
  pub result : y.result ≡ b.result
  pub static : y.flags.is_static ≡ b.flags.is_static
  pub pure : y.flags.pure ≡ b.flags.pure
  pub numbers : Numbers
  pub place : Place
  pub size : argument_count y ≡ after_params b
  pub meant : numbers.meant ≡ []
  pub outcome : numbers.outcome ≡ after_params b + length y.locals
  pub bound : numbers.first_bound ≡ after_params b + length y.locals + results b.result
  pub entry : y.entry ≡ entry_conditions numbers place b t bs
  pub exit : y.exit ≡ exit_conditions numbers place b t bs
  pub named : y.named ≡ named_terms numbers place b t bs

-- ---- numbers in normal form: after n arguments stand the results and then the bound names

abbrev pub settled : ℕ → ℕ → Numbers
settled n results = record { meant = []; first_temporary = 0; outcome = n; first_bound = n + results }

abbrev pub normal_defaults : List DefaultTree → List core.ExprTree
normal_defaults ds = map (λ d. DefaultExpr no_place (normal_default d)) ds

abbrev pub normal_term : Numbers → ModifiedTree → NamedTree
normal_term ns (OneOf e f) = core.FieldOf (plain ns e) f
normal_term ns (AllOf e) = if is_this e then UptoOf (LocalExpr no_place 0) 0 else core.AllOf (plain ns e)
normal_term ns (ElementsOf e) = core.ElementsOf (plain ns e)

abbrev pub normal_terms_of : Bool → Numbers → Option (List ModifiedTree) → List NamedTree
normal_terms_of static ns None = if static then [] else UptoOf (LocalExpr no_place 0) 0 ∷ []
normal_terms_of static ns (Some ms) = map (normal_term ns) ms

-- of a method
abbrev pub normal_terms : Bool → Bool → Numbers → Option (List ModifiedTree) → List NamedTree
normal_terms pure static ns ms = if pure then [] else normal_terms_of static ns ms

module _ (y : core.BodyTree) (ns : Numbers) (low n r : ℕ) (meant : ns.meant ≡ []) (size : argument_count y ≡ n) (outcome : ns.outcome ≡ n + length y.locals) (bound : ns.first_bound ≡ n + length y.locals + r) where
  number_is : (x : ℕ) → number ns x ≡ x
  number_is x = ap (λ (ms : List ℕ). unwrap_or (slice_get ms x) x) meant

  argument_stays : (x : ℕ) → x < n → normal_number y x ≡ x
  argument_stays x l = ap (λ b. if b then x else x - length y.locals) (lt-ltb x (argument_count y) (subst (λ m. x < m) (sym size) l))

  this_stays : normal_number y 0 ≡ 0
  this_stays =
      ⊎_elim
      (λ yes. ap (λ b. if b then 0 else 0 - length y.locals) yes)
      (λ no. let z : 0 - length y.locals ≡ 0 = omega arith in ap (λ b. if b then 0 else 0 - length y.locals) no ∙ z)
      (cases_Bool (nat_lt 0 (argument_count y)))

  past_locals : (x d : ℕ) → x ≡ n + length y.locals + d → normal_number y x ≡ n + d
  past_locals x d e =
      let l : n ≤ x = omega arith in
      let z : x - length y.locals ≡ n + d = omega arith in
      ap (λ b. if b then x else x - length y.locals) (le-ltb x (argument_count y) (subst (λ m. m ≤ x) (sym size) l)) ∙ z

  normal : (e : ExprTree) → reads low n e ≡ true → normal_condition y (plain ns e) ≡ plain (settled n r) e
  normal (ThisOf p t) h = ap (LocalExpr p) this_stays
  normal (LocalOf p x t) h =
      let l = ltb-true x n (and_parts (nat_le low x) (nat_lt x n) h).1 in
      ap (LocalExpr p) (ap (normal_number y) (number_is x) ∙ argument_stays x l)
  normal (ResultOf p t) h = let z : n + 0 ≡ n = omega arith in let o : ns.outcome ≡ n + length y.locals + 0 = omega arith in ap (LocalExpr p) (past_locals ns.outcome 0 o ∙ z)
  normal (BoundOf p k) h = let o : ns.first_bound + k ≡ n + length y.locals + (r + k) = omega arith in let z : n + (r + k) ≡ n + r + k = omega arith in ap (LocalExpr p) (past_locals (ns.first_bound + k) (r + k) o ∙ z)
  normal (IffOf p a b) h = let both = and_parts (reads low n a) (reads low n b) h in rw (normal a both.0, normal b both.1) refl
  normal (ImpliesOf p a b) h = let both = and_parts (reads low n a) (reads low n b) h in rw (normal a both.0, normal b both.1) refl
  normal (BinaryOf p o a b) h = let both = and_parts (reads low n a) (reads low n b) h in rw (normal a both.0, normal b both.1) refl
  normal (ElementOf p a b) h = let both = and_parts (reads low n a) (reads low n b) h in rw (normal a both.0, normal b both.1) refl
  normal (OwnersOf p w a b) h = let both = and_parts (reads low n a) (reads low n b) h in rw (normal a both.0, normal b both.1) refl
  normal (IsOf p e t) h = rw (normal e h) refl
  normal (AsOf p e t) h = rw (normal e h) refl
  normal (NegateOf p e) h = rw (normal e h) refl
  normal (NotOf p e) h = rw (normal e h) refl
  normal (CastOf p t non_null e) h = rw (normal e h) refl
  normal (FieldOf p e f t) h = rw (normal e h) refl
  normal (LengthOf p e) h = rw (normal e h) refl
  normal (OldOf p e) h = rw (normal e h) refl
  normal (StateOf p w e) h = rw (normal e h) refl
  normal (QuantifiedOf p q name from to e) h =
      let l = three_parts (reads low n from) (reads low n to) (reads low n e) h in
      rw (normal from l.0, normal to l.1, normal e l.2) refl
  normal (IntOf p k) h = refl
  normal (BoolOf p b) h = refl
  normal (NullOf p) h = refl
  normal (NewOf p t es) h = refl
  normal (NewArrayOf p t e) h = refl
  normal (CallOf p e m t es) h = refl
  normal (StaticOf p m t es) h = refl
  normal (BaseOf p m t es) h = refl

  all_normal : (es : List ExprTree) → list_all (reads low n) es ≡ true → map (normal_condition y) (all_plain ns es) ≡ all_plain (settled n r) es
  all_normal [] h = refl
  all_normal (e ∷ es) h = let both = and_parts (reads low n e) (list_all (reads low n) es) h in rw (normal e both.0) (ap (λ xs. plain (settled n r) e ∷ xs) (all_normal es both.1))

  defaults_normal : (p : Place) (ds : List DefaultTree) → map (normal_condition y) (conditions p ds) ≡ normal_defaults ds
  defaults_normal p [] = refl
  defaults_normal p (d ∷ ds) = ap (λ xs. DefaultExpr no_place (normal_default d) ∷ xs) (defaults_normal p ds)

  conditions_normal : (p : Place) (ds : List DefaultTree) (es : List ExprTree) → list_all (reads low n) es ≡ true → map (normal_condition y) (conditions p ds ++ all_plain ns es) ≡ normal_defaults ds ++ all_plain (settled n r) es
  conditions_normal p ds es h = map-append (normal_condition y) (conditions p ds) (all_plain ns es) ∙ rw (defaults_normal p ds, all_normal es h) refl

  all_named : (t : ℕ) (e : ExprTree) → reads low n e ≡ true → normal_named y (if is_this e then UptoOf (plain ns e) t else core.AllOf (plain ns e)) ≡ (if is_this e then UptoOf (LocalExpr no_place 0) 0 else core.AllOf (plain (settled n r) e))
  all_named t e h =
      ⊎_elim
      (λ yes. rw yes refl)
      (λ no. rw no (ap core.AllOf (normal e h)))
      (cases_Bool (is_this e))

  term_normal : (t : ℕ) (m : ModifiedTree) → term_reads low n m ≡ true → normal_named y (named ns t m) ≡ normal_term (settled n r) m
  term_normal t (OneOf e f) h = ap (λ x. core.FieldOf x f) (normal e h)
  term_normal t (AllOf e) h = all_named t e h
  term_normal t (ElementsOf e) h = ap core.ElementsOf (normal e h)

  terms_normal : (t : ℕ) (ms : List ModifiedTree) → list_all (term_reads low n) ms ≡ true → map (normal_named y) (map (named ns t) ms) ≡ map (normal_term (settled n r)) ms
  terms_normal t [] h = refl
  terms_normal t (m ∷ ms) h = let both = and_parts (term_reads low n m) (list_all (term_reads low n) ms) h in rw (term_normal t m both.0) (ap (λ xs. normal_term (settled n r) m ∷ xs) (terms_normal t ms both.1))

  method_terms : (p : Place) (b : BodyTree) (t : ℕ) (ms : Option (List ModifiedTree)) → terms_read low n ms ≡ true → map (normal_named y) (terms_of_method ns p b t ms) ≡ normal_terms_of b.flags.is_static (settled n r) ms
  method_terms p b t None h =
      ⊎_elim
      (λ yes. rw yes refl)
      (λ no. rw no refl)
      (cases_Bool b.flags.is_static)
  method_terms p b t (Some ms) h = terms_normal t ms h

  named_normal : (p : Place) (b : BodyTree) (t : ℕ) (ms : Option (List ModifiedTree)) → b.flags.ctor ≡ false → terms_read low n ms ≡ true → map (normal_named y) (terms ns p b t ms) ≡ normal_terms b.flags.pure b.flags.is_static (settled n r) ms
  named_normal p b t ms method h =
      ⊎_elim
      (λ yes. rw yes refl)
      (λ no. ap (λ x. map (normal_named y) (if x then [] else if b.flags.ctor then this_upto p t ++ written_terms ns t ms else terms_of_method ns p b t ms)) no
      ∙ ap (λ x. map (normal_named y) (if x then this_upto p t ++ written_terms ns t ms else terms_of_method ns p b t ms)) method
      ∙ method_terms p b t ms h
      ∙ ap (λ x. if x then [] else normal_terms_of b.flags.is_static (settled n r) ms) (sym no))
      (cases_Bool b.flags.pure)

-- ---- declarations that read these parameters

first_entry_read : (low n : ℕ) (bs : List BodyTree) → list_all (contract_reads low n) bs ≡ true → list_all (reads low n) (entry_of_first bs) ≡ true
first_entry_read low n [] h = refl
first_entry_read low n (b ∷ bs) h =
    let here = (and_parts (contract_reads low n b) (list_all (contract_reads low n) bs) h).0 in
    (three_parts (list_all (reads low n) b.entry) (list_all (reads low n) b.exit) (terms_read low n b.modifies) here).0

first_terms_read : (low n : ℕ) (bs : List BodyTree) → list_all (contract_reads low n) bs ≡ true → terms_read low n (modifies_of_first bs) ≡ true
first_terms_read low n [] h = refl
first_terms_read low n (b ∷ bs) h =
    let here = (and_parts (contract_reads low n b) (list_all (contract_reads low n) bs) h).0 in
    (three_parts (list_all (reads low n) b.entry) (list_all (reads low n) b.exit) (terms_read low n b.modifies) here).2

all_exits_read : (low n : ℕ) (bs : List BodyTree) → list_all (contract_reads low n) bs ≡ true → list_all (reads low n) (all_exits bs) ≡ true
all_exits_read low n [] h = refl
all_exits_read low n (b ∷ bs) h =
    let both = and_parts (contract_reads low n b) (list_all (contract_reads low n) bs) h in
    let here = (three_parts (list_all (reads low n) b.entry) (list_all (reads low n) b.exit) (terms_read low n b.modifies) both.0).1 in
    ap (list_all (reads low n)) (flat_map-cons (λ (x : BodyTree). x.exit) b bs) ∙ list_all-append (reads low n) b.exit (all_exits bs) ∙ rw (here, all_exits_read low n bs both.1) refl

-- ---- contracts

module _ (y : core.BodyTree) (b : BodyTree) (t : ℕ) (bs : List BodyTree) (is : HasContract y b t bs) (low n r : ℕ) (same : after_params b ≡ n) (also : results b.result ≡ r) (read : list_all (contract_reads low n) bs ≡ true) where
  size : argument_count y ≡ n
  size = is.size ∙ same

  outcome : is.numbers.outcome ≡ n + length y.locals
  outcome = is.outcome ∙ ap (λ k. k + length y.locals) same

  bound : is.numbers.first_bound ≡ n + length y.locals + r
  bound = is.bound ∙ ap (λ k. k + length y.locals + results b.result) same ∙ ap (λ k. n + length y.locals + k) also

  pub entry_normal : normal_entry y ≡ normal_defaults (default_entry b t) ++ all_plain (settled n r) (entry_of_first bs)
  entry_normal = ap (map (normal_condition y)) is.entry ∙ conditions_normal y is.numbers low n r is.meant size outcome bound is.place (default_entry b t) (entry_of_first bs) (first_entry_read low n bs read)

  pub exit_normal : normal_exit y ≡ normal_defaults (default_exit b t) ++ all_plain (settled n r) (all_exits bs)
  exit_normal = ap (map (normal_condition y)) is.exit ∙ conditions_normal y is.numbers low n r is.meant size outcome bound is.place (default_exit b t) (all_exits bs) (all_exits_read low n bs read)

  pub terms_of_normal : b.flags.ctor ≡ false → all_normal_named y ≡ normal_terms b.flags.pure b.flags.is_static (settled n r) (modifies_of_first bs)
  terms_of_normal method = ap (map (normal_named y)) is.named ∙ named_normal y is.numbers low n r is.meant size outcome bound is.place b t (modifies_of_first bs) method (first_terms_read low n bs read)
