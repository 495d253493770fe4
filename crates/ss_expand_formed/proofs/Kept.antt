-- What isn't assigned stays known along code.
use Rattle.std.proofs.Common.{◌≡◌, ℕ, List, Bool, true, false, Option, Some, None, refl, sym, ◌∙◌, ap}
use Rattle.std.specs.Prelude.{not, ◌==◌, ◌&&◌, ◌||◌, if◌then◌else◌, option_map}
use Rattle.std.proofs.lemmas.Bool.{and_parts, and_from, or_left, false≢true}
use Rattle.ss_core.specs.Tree.{ExprTree, CalleeTree, BaseConstructor, StmtTree, AssignStmt, WriteStmt, NewStmt, NewArrayStmt, CallStmt, ReadyStmt, IfStmt, LoopStmt, ReturnStmt, CodeTree, NoCode, Then, BodyTree, CoreTree}
use Rattle.ss_store_rules.specs.Locals.{each, each_inside, is_kept_in, is_target, assigns}
use Rattle.ss_store_rules.specs.Typed.{callee_of}
use Rattle.ss_store_rules.specs.Paths.{Flow, is_literal_true, met, left, behind, at_end, where_reached}
use Rattle.ss_store_rules.specs.NonNull.{Known, is_non_null_type, with_local, with_kept, result_of, with_base, known_after, known_flow}

-- ---- any kind of knowledge

-- Something holds after code, where it holds before, if the statements that pass a test keep it.
module _ {S : Type 0} (f : Flow S) (P : S → Bool) (test : StmtTree → Bool)
    (after : (s : StmtTree) (k : S) → each_inside test s ≡ true → P k ≡ true → P (f.after s k) ≡ true)
    (tested : (e : ExprTree) (v : Bool) (k : S) → P k ≡ true → P (f.tested e v k) ≡ true)
    (meet : (k l : S) → P k ≡ true → P l ≡ true → P (f.meet k l) ≡ true)
    (head : (s : StmtTree) (k : S) → each_inside test s ≡ true → P k ≡ true → P (f.head s k) ≡ true) where
  met_keeps : (k l : Option S) → where_reached P k ≡ true → where_reached P l ≡ true → where_reached P (met f k l) ≡ true
  met_keeps None l h i = i
  met_keeps (Some k) None h i = h
  met_keeps (Some k) (Some l) h i = meet k l h i

  tested_keeps : (e : ExprTree) (v : Bool) (k : Option S) → where_reached P k ≡ true → where_reached P (option_map (f.tested e v) k) ≡ true
  tested_keeps e v None h = refl
  tested_keeps e v (Some k) h = tested e v k h

  left_if : (b : Bool) (k : Option S) → where_reached P k ≡ true → where_reached P (if b then None else k) ≡ true
  left_if true k h = refl
  left_if false k h = h

  mutual
    after_keeps : (s : StmtTree) (k : S) → each_inside test s ≡ true → P k ≡ true → where_reached P (behind f s k) ≡ true
    after_keeps (IfStmt p e a b) k t h =
        let both = and_parts (test (IfStmt p e a b) && each test a) (each test b) t in
        let front = and_parts (test (IfStmt p e a b)) (each test a) both.0 in
        met_keeps _ _ (keeps a (Some (f.tested e true k)) front.1 (tested e true k h)) (keeps b (Some (f.tested e false k)) both.1 (tested e false k h))
    after_keeps (LoopStmt p is prelude e body os) k t h =
        let s = LoopStmt p is prelude e body os in
        let both = and_parts (test s && each test prelude) (each test body) t in
        let front = and_parts (test s) (each test prelude) both.0 in
        left_if (is_literal_true e) _ (tested_keeps e false _ (keeps prelude (Some (f.head s k)) front.1 (head s k t h)))
    after_keeps (ReturnStmt p e) k t h = refl
    after_keeps s k t h = after s k t h

    pub keeps : (code : CodeTree) (k : Option S) → each test code ≡ true → where_reached P k ≡ true → where_reached P (at_end f code k) ≡ true
    keeps NoCode k t h = h
    keeps (Then s code) None t h = refl
    keeps (Then s code) (Some k) t h =
        let both = and_parts (each_inside test s) (each test code) t in
        keeps code (behind f s k) both.1 (after_keeps s k both.0 h)

-- ---- locals and fields

mutual
  inside_true : (s : StmtTree) → each_inside (λ (u : StmtTree). true) s ≡ true
  inside_true (IfStmt p e a b) = and_from _ _ (each_true a) (each_true b)
  inside_true (LoopStmt p is prelude e body os) = and_from _ _ (each_true prelude) (each_true body)
  inside_true s = refl

  each_true : (code : CodeTree) → each (λ (u : StmtTree). true) code ≡ true
  each_true NoCode = refl
  each_true (Then s code) = and_from _ _ (inside_true s) (each_true code)

abbrev pub spares : ℕ → StmtTree → Bool
spares y s = not (is_target s y)

module _ (c : CoreTree) (b : BodyTree) where
  other : (x y : ℕ) (m n : Bool) → not (x == y) ≡ true → n ≡ true → (if x == y then m else n) ≡ true
  other x y m n h i = by (x == y) h
    where
      by : (e : Bool) → not e ≡ true → (if e then m else n) ≡ true
      by true h = absurd (false≢true h)
      by false h = i

  kept_other : (x : Option ℕ) (y : ℕ) (m : Bool) (k : Known) → not (is_kept_in x y) ≡ true → k.facts y ≡ true → (with_kept x m k).facts y ≡ true
  kept_other None y m k h i = i
  kept_other (Some x) y m k h i = other x y m (k.facts y) h i

  pub base_same : (callee : CalleeTree) (k : Known) → (with_base c b callee k).facts ≡ k.facts
  base_same (BaseConstructor n) k = refl
  base_same callee k = refl

  after_other : (y : ℕ) (s : StmtTree) (k : Known) → each_inside (spares y) s ≡ true → k.facts y ≡ true → (known_after c b s k).facts y ≡ true
  after_other y (AssignStmt p x e) k t h = other x y _ (k.facts y) t h
  after_other y (NewStmt p x u es) k t h = kept_other x y true k t h
  after_other y (NewArrayStmt p x u e) k t h = kept_other x y true k t h
  after_other y (CallStmt p x callee es) k t h =
      let m = is_non_null_type (result_of (callee_of c b callee)) in
      ap (λ f. f y) (base_same callee (with_kept x m k)) ∙ kept_other x y m k t h
  after_other y s k t h = h

  unassigned : (y : ℕ) (s : StmtTree) → each_inside (spares y) s ≡ true → not (assigns s y) ≡ true
  unassigned y s t = ap (λ z. not (not z)) t

  -- a local that the code doesn't assign
  pub facts_kept : (y : ℕ) (code : CodeTree) (k : Option Known) → each (spares y) code ≡ true → where_reached (λ (z : Known). z.facts y) k ≡ true → where_reached (λ (z : Known). z.facts y) (at_end (known_flow c b) code k) ≡ true
  facts_kept y code k t h =
      keeps (known_flow c b) (λ (z : Known). z.facts y) (spares y) (after_other y) (λ e v k h. or_left _ _ h) (λ k l h i. and_from _ _ h i) (λ s k u h. and_from _ _ h (unassigned y s u)) code k t h

  kept_fields : (x : Option ℕ) (m : Bool) (k : Known) → (with_kept x m k).fields ≡ k.fields
  kept_fields None m k = refl
  kept_fields (Some x) m k = refl

  base_fields : (f : ℕ) (callee : CalleeTree) (k : Known) → k.fields f ≡ true → (with_base c b callee k).fields f ≡ true
  base_fields f (BaseConstructor n) k h = or_left _ _ (or_left _ _ h)
  base_fields f callee k h = h

  pub after_fields : (f : ℕ) (s : StmtTree) (k : Known) → k.fields f ≡ true → (known_after c b s k).fields f ≡ true
  after_fields f (AssignStmt p x e) k h = h
  after_fields f (WriteStmt p o g m t e) k h = or_left _ _ h
  after_fields f (NewStmt p x u es) k h = ap (λ z. z f) (kept_fields x true k) ∙ h
  after_fields f (NewArrayStmt p x u e) k h = ap (λ z. z f) (kept_fields x true k) ∙ h
  after_fields f (CallStmt p x callee es) k h =
      let m = is_non_null_type (result_of (callee_of c b callee)) in
      base_fields f callee (with_kept x m k) (ap (λ z. z f) (kept_fields x m k) ∙ h)
  after_fields f (ReadyStmt p) k h = refl
  after_fields f s k h = h

  -- a field that has its value has it after any code
  pub fields_kept : (f : ℕ) (code : CodeTree) (k : Option Known) → where_reached (λ (z : Known). z.fields f) k ≡ true → where_reached (λ (z : Known). z.fields f) (at_end (known_flow c b) code k) ≡ true
  fields_kept f code k h =
      keeps (known_flow c b) (λ (z : Known). z.fields f) (λ s. true) (λ s k u h. after_fields f s k h) (λ e v k h. h) (λ k l h i. and_from _ _ h i) (λ s k u h. h) code k (each_true code) h
