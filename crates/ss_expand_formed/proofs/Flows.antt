-- What is assigned along elaborated code, piece by piece. What is assigned before it is assigned after it.
use Rattle.std.proofs.Common.{◌≡◌, ℕ, List, [], ◌∷◌, ◌++◌, map, Bool, true, false, Option, Some, None, refl, sym, ◌∙◌, ap, subst}
use Rattle.std.specs.Prelude.{◌&&◌, ◌||◌, reverse, option_to_list}
use Rattle.std.specs.List.{list_all}
use Rattle.std.proofs.lemmas.Bool.{and_parts, and_from, or_left, or_right, eq-eqb, false≢true}
use Rattle.ss_core.specs.declared.names.Place.{Place}
use Rattle.ss_core.specs.Tree as core
use Rattle.ss_core.specs.Tree.{ExprTree, IntExpr, BoolExpr, NullExpr, LocalExpr, FieldExpr, ElementExpr, LengthExpr, NegateExpr, NotExpr, BinaryExpr, ImpliesExpr, IffExpr, IsExpr, AsExpr, CastExpr, OldExpr, QuantifiedExpr, StateExpr, OwnersExpr, DefaultExpr, ExposedTree, AssignStmt, NewStmt, NewArrayStmt, CallStmt, IfStmt, LoopStmt, UnpackStmt, PackStmt, ReturnStmt}
use Rattle.ss_core.specs.View.{code_of}
use Rattle.ss_expand_rules.specs.Lifting.{Opened, Source, Pure, Created, CreatedArray, Called, put}
use Rattle.ss_expand_rules.specs.Statements.{exposed, pack_of}
use Rattle.ss_store_rules.specs.Locals.{everywhere, is_local_among, receiver, evaluated, is_target, is_bound}
use Rattle.ss_store_rules.specs.Paths.{is_literal_true, met, left, at_end, in_body, where_reached, holds_along}
use Rattle.ss_store_rules.specs.Assigned.{assigned_flow, assigned_check, operands, reads_assigned}
use Rattle.ss_expand_formed.proofs.Choosing.{on_either, all_more, all_reverse}
use Rattle.ss_expand_formed.proofs.Along.{at_none, holds_none, at_end-append, holds-append}
use Rattle.ss_expand_formed.proofs.Shape.{Code, is_step}

-- which locals are assigned
abbrev pub Known : Type 0
Known = ℕ → Bool

-- more are
abbrev pub More : Known → Known → Type 0
More k l = (x : ℕ) → k x ≡ true → l x ≡ true

-- it holds where the end is reached
abbrev pub Ends : (Known → Type 0) → Option Known → Type 0
Ends P None = Unit {0}
Ends P (Some k) = P k

ends_weaken : (P Q : Known → Type 0) → ((k : Known) → P k → Q k) → (o : Option Known) → Ends P o → Ends Q o
ends_weaken P Q more None h = tt
ends_weaken P Q more (Some k) h = more k h

pub same : (k : Known) → More k k
same k x h = h

pub further : (k l m : Known) → More k l → More l m → More k m
further k l m h g x i = g x (h x i)

-- ---- what is read

-- what is read of some locals is read of more
everywhere_more : (f g : ExprTree → Bool) → ((e : ExprTree) → f e ≡ true → g e ≡ true) → (e : ExprTree) → everywhere f e ≡ true → everywhere g e ≡ true
everywhere_more f g more (IntExpr p n) h = more _ h
everywhere_more f g more (BoolExpr p b) h = more _ h
everywhere_more f g more (NullExpr p) h = more _ h
everywhere_more f g more (LocalExpr p x) h = more _ h
everywhere_more f g more (FieldExpr p e n) h = let both = and_parts (f (FieldExpr p e n)) (everywhere f e) h in and_from _ _ (more _ both.0) (everywhere_more f g more e both.1)
everywhere_more f g more (ElementExpr p a i) h =
    let both = and_parts (f (ElementExpr p a i) && everywhere f a) (everywhere f i) h in
    let first = and_parts (f (ElementExpr p a i)) (everywhere f a) both.0 in
    and_from _ _ (and_from _ _ (more _ first.0) (everywhere_more f g more a first.1)) (everywhere_more f g more i both.1)
everywhere_more f g more (LengthExpr p e) h = let both = and_parts (f (LengthExpr p e)) (everywhere f e) h in and_from _ _ (more _ both.0) (everywhere_more f g more e both.1)
everywhere_more f g more (NegateExpr p e) h = let both = and_parts (f (NegateExpr p e)) (everywhere f e) h in and_from _ _ (more _ both.0) (everywhere_more f g more e both.1)
everywhere_more f g more (NotExpr p e) h = let both = and_parts (f (NotExpr p e)) (everywhere f e) h in and_from _ _ (more _ both.0) (everywhere_more f g more e both.1)
everywhere_more f g more (BinaryExpr p o a i) h =
    let both = and_parts (f (BinaryExpr p o a i) && everywhere f a) (everywhere f i) h in
    let first = and_parts (f (BinaryExpr p o a i)) (everywhere f a) both.0 in
    and_from _ _ (and_from _ _ (more _ first.0) (everywhere_more f g more a first.1)) (everywhere_more f g more i both.1)
everywhere_more f g more (ImpliesExpr p a i) h =
    let both = and_parts (f (ImpliesExpr p a i) && everywhere f a) (everywhere f i) h in
    let first = and_parts (f (ImpliesExpr p a i)) (everywhere f a) both.0 in
    and_from _ _ (and_from _ _ (more _ first.0) (everywhere_more f g more a first.1)) (everywhere_more f g more i both.1)
everywhere_more f g more (IffExpr p a i) h =
    let both = and_parts (f (IffExpr p a i) && everywhere f a) (everywhere f i) h in
    let first = and_parts (f (IffExpr p a i)) (everywhere f a) both.0 in
    and_from _ _ (and_from _ _ (more _ first.0) (everywhere_more f g more a first.1)) (everywhere_more f g more i both.1)
everywhere_more f g more (IsExpr p e t) h = let both = and_parts (f (IsExpr p e t)) (everywhere f e) h in and_from _ _ (more _ both.0) (everywhere_more f g more e both.1)
everywhere_more f g more (AsExpr p e t) h = let both = and_parts (f (AsExpr p e t)) (everywhere f e) h in and_from _ _ (more _ both.0) (everywhere_more f g more e both.1)
everywhere_more f g more (CastExpr p t n e) h = let both = and_parts (f (CastExpr p t n e)) (everywhere f e) h in and_from _ _ (more _ both.0) (everywhere_more f g more e both.1)
everywhere_more f g more (OldExpr p e) h = let both = and_parts (f (OldExpr p e)) (everywhere f e) h in and_from _ _ (more _ both.0) (everywhere_more f g more e both.1)
everywhere_more f g more (QuantifiedExpr p q name low high e) h =
    let all = and_parts (f (QuantifiedExpr p q name low high e) && everywhere f low && everywhere f high) (everywhere f e) h in
    let both = and_parts (f (QuantifiedExpr p q name low high e) && everywhere f low) (everywhere f high) all.0 in
    let first = and_parts (f (QuantifiedExpr p q name low high e)) (everywhere f low) both.0 in
    and_from _ _ (and_from _ _ (and_from _ _ (more _ first.0) (everywhere_more f g more low first.1)) (everywhere_more f g more high both.1)) (everywhere_more f g more e all.1)
everywhere_more f g more (StateExpr p w e) h = let both = and_parts (f (StateExpr p w e)) (everywhere f e) h in and_from _ _ (more _ both.0) (everywhere_more f g more e both.1)
everywhere_more f g more (OwnersExpr p w a i) h =
    let both = and_parts (f (OwnersExpr p w a i) && everywhere f a) (everywhere f i) h in
    let first = and_parts (f (OwnersExpr p w a i)) (everywhere f a) both.0 in
    and_from _ _ (and_from _ _ (more _ first.0) (everywhere_more f g more a first.1)) (everywhere_more f g more i both.1)
everywhere_more f g more (DefaultExpr p d) h = more _ h

among_more : (f g : ℕ → Bool) → ((x : ℕ) → f x ≡ true → g x ≡ true) → (e : ExprTree) → is_local_among f e ≡ true → is_local_among g e ≡ true
among_more f g more (LocalExpr p x) h = more x h
among_more f g more e h = refl

or_more : (a b c : Bool) → (a ≡ true → b ≡ true) → (a || c) ≡ true → (b || c) ≡ true
or_more true b c more h = or_left b c (more refl)
or_more false b c more h = or_right b c h

-- the expressions from which a value comes
abbrev pub sources : Source → List ExprTree
sources (Pure e) = e ∷ []
sources (Created p t es) = es
sources (CreatedArray p t e) = e ∷ []
sources (Called p callee es) = receiver callee ++ es

module _ (y : core.BodyTree) where
  abbrev pub Reads : Known → ExprTree → Type 0
  Reads k e = reads_assigned y k e ≡ true

  abbrev pub ReadsAll : Known → List ExprTree → Type 0
  ReadsAll k es = list_all (reads_assigned y k) es ≡ true

  pub reads_more : (k l : Known) → More k l → (e : ExprTree) → Reads k e → Reads l e
  reads_more k l more e h =
      everywhere_more (is_local_among (λ x. k x || is_bound y x)) (is_local_among (λ x. l x || is_bound y x))
      (among_more (λ x. k x || is_bound y x) (λ x. l x || is_bound y x) (λ x i. or_more (k x) (l x) (is_bound y x) (more x) i)) e h

  pub all_reads_more : (k l : Known) → More k l → (es : List ExprTree) → ReadsAll k es → ReadsAll l es
  all_reads_more k l more es h = all_more (reads_assigned y k) (reads_assigned y l) (reads_more k l more) es h

  -- ---- code

  -- from these locals the checks hold, and at the end this holds of those that are assigned there
  pub record Flows (k : Known) (code : Code) (P : Known → Type 0) : Type 0 where
    pub checks : holds_along assigned_flow (assigned_check y) (code_of code) (Some k) ≡ true
    pub ends : Ends P (at_end assigned_flow (code_of code) (Some k))

  -- the same from where it may not be reached
  pub record FlowsFrom (o : Option Known) (code : Code) (P : Known → Type 0) : Type 0 where
    pub checks : holds_along assigned_flow (assigned_check y) (code_of code) o ≡ true
    pub ends : Ends P (at_end assigned_flow (code_of code) o)

  from_any : (P Q : Known → Type 0) (code : Code) → ((k : Known) → P k → Flows k code Q) → (o : Option Known) → Ends P o → FlowsFrom o code Q
  from_any P Q code flows None h = record { checks = holds_none assigned_flow (assigned_check y) (code_of code); ends = subst (Ends Q) (sym (at_none assigned_flow (code_of code))) tt }
  from_any P Q code flows (Some k) h = let f = flows k h in record { checks = f.checks; ends = f.ends }

  pub weaken : (k : Known) (P Q : Known → Type 0) (code : Code) → ((l : Known) → P l → Q l) → Flows k code P → Flows k code Q
  weaken k P Q code more h = record { checks = h.checks; ends = ends_weaken P Q more (at_end assigned_flow (code_of code) (Some k)) h.ends }

  pub join : (k : Known) (P Q : Known → Type 0) (xs ys : Code) → Flows k xs P → ((l : Known) → P l → Flows l ys Q) → Flows k (xs ++ ys) Q
  join k P Q xs ys h g =
      let r = from_any P Q ys g (at_end assigned_flow (code_of xs) (Some k)) h.ends in
      record {
        checks = holds-append assigned_flow (assigned_check y) xs ys (Some k) h.checks r.checks;
        ends = subst (Ends Q) (sym (at_end-append assigned_flow xs ys (Some k))) r.ends;
      }

  -- more after the one and the other
  pub more_join : (k : Known) (xs ys : Code) → Flows k xs (More k) → ((l : Known) → More k l → Flows l ys (More l)) → Flows k (xs ++ ys) (More k)
  more_join k xs ys h g = join k (More k) (More k) xs ys h (λ l more. weaken l (More l) (More k) ys (λ m i. further k l m more i) (g l more))

  pub empty : (k : Known) (P : Known → Type 0) → P k → Flows k [] P
  empty k P h = record { checks = refl; ends = h }

  abbrev after_step : core.StmtTree → Known → Known
  after_step x k = λ z. is_target x z || k z

  -- neither an `if`, a loop, a return, an unpack nor a pack
  pub step : (k : Known) (P : Known → Type 0) (x : core.StmtTree) → is_step x ≡ true → ReadsAll k (evaluated x) → P (after_step x k) → Flows k (x ∷ []) P
  step k P (IfStmt p e a b) is h g = absurd (false≢true is)
  step k P (LoopStmt p invariants prelude e body exposes) is h g = absurd (false≢true is)
  step k P (UnpackStmt p z t) is h g = absurd (false≢true is)
  step k P (PackStmt p z t) is h g = absurd (false≢true is)
  step k P (ReturnStmt p e) is h g = absurd (false≢true is)
  step k P x is h g = record { checks = and_from _ _ (and_from _ _ h refl) refl; ends = g }

  pub more_step : (k : Known) (x : core.StmtTree) → is_step x ≡ true → ReadsAll k (evaluated x) → Flows k (x ∷ []) (More k)
  more_step k x is h = step k (More k) x is h (λ z i. or_right (is_target x z) (k z) i)

  -- the value is put into a local
  pub record Puts (k : Known) (x : ℕ) (l : Known) : Type 0 where
    pub more : More k l
    pub has : l x ≡ true

  put_step : (p : Place) (x : ℕ) (s : Source) → (is_step (put p x s) ≡ true) × (is_target (put p x s) x ≡ true) × (evaluated (put p x s) ≡ sources s)
  put_step p x (Pure e) = (refl, eq-eqb x x refl, refl)
  put_step p x (Created q t es) = (refl, eq-eqb x x refl, refl)
  put_step p x (CreatedArray q t e) = (refl, eq-eqb x x refl, refl)
  put_step p x (Called q callee es) = (refl, eq-eqb x x refl, refl)

  pub puts : (k : Known) (p : Place) (x : ℕ) (s : Source) → ReadsAll k (sources s) → Flows k (put p x s ∷ []) (Puts k x)
  puts k p x s h =
      let facts = put_step p x s in
      step k (Puts k x) (put p x s) facts.0 (ap (list_all (reads_assigned y k)) facts.2 ∙ h)
      (record { more = λ z i. or_right (is_target (put p x s) z) (k z) i; has = or_left (is_target (put p x s) x) (k x) facts.1 })

  -- ---- exposes and returns

  pub unpack : (k : Known) (p : Place) (x t : ℕ) → k x ≡ true → Flows k (UnpackStmt p x t ∷ []) (More k)
  unpack k p x t h = record { checks = and_from _ _ (and_from _ _ h refl) refl; ends = same k }

  pub pack : (k : Known) (p : Place) (x t : ℕ) → k x ≡ true → Flows k (PackStmt p x t ∷ []) (More k)
  pack k p x t h = record { checks = and_from _ _ (and_from _ _ h refl) refl; ends = same k }

  abbrev pub are_known : Known → List Opened → Bool
  are_known k os = list_all (λ (o : Opened). k o.local) os

  pub known_more : (k l : Known) → More k l → (os : List Opened) → are_known k os ≡ true → are_known l os ≡ true
  known_more k l more os h = all_more (λ (o : Opened). k o.local) (λ (o : Opened). l o.local) (λ o i. more o.local i) os h

  all_packs : (k : Known) (os : List Opened) → are_known k os ≡ true → Flows k (map pack_of os) (More k)
  all_packs k [] h = empty k (More k) (same k)
  all_packs k (o ∷ os) h =
      let both = and_parts (k o.local) (are_known k os) h in
      more_join k (pack_of o ∷ []) (map pack_of os) (pack k o.place o.local o.class both.0) (λ l more. all_packs l os (known_more k l more os both.1))

  pub packs_flow : (k : Known) (os : List Opened) → are_known k os ≡ true → Flows k (map pack_of (reverse os)) (More k)
  packs_flow k os h = all_packs k (reverse os) (all_reverse (λ (o : Opened). k o.local) os h)

  pub returns : (k : Known) (P : Known → Type 0) (p : Place) (e : Option ExprTree) → ReadsAll k (option_to_list e) → Flows k (ReturnStmt p e ∷ []) P
  returns k P p e h = record { checks = and_from _ _ (and_from _ _ h refl) refl; ends = tt }

  -- ---- branches and loops

  met_more : (k : Known) (a b : Option Known) → Ends (More k) a → Ends (More k) b → Ends (More k) (met assigned_flow a b)
  met_more k None b h g = g
  met_more k (Some a) None h g = h
  met_more k (Some a) (Some b) h g = λ x i. and_from _ _ (h x i) (g x i)

  pub branch : (k : Known) (p : Place) (e : ExprTree) (xs ys : Code) → Reads k e → Flows k xs (More k) → Flows k ys (More k) → Flows k (IfStmt p e (code_of xs) (code_of ys) ∷ []) (More k)
  branch k p e xs ys r a b = record {
    checks = and_from _ _ (and_from _ _ (and_from _ _ (and_from _ _ (and_from _ _ r refl) refl) a.checks) b.checks) refl;
    ends = met_more k (at_end assigned_flow (code_of xs) (Some k)) (at_end assigned_flow (code_of ys) (Some k)) a.ends b.ends;
  }

  -- the value is read of what is known
  pub record Gives (k : Known) (e : ExprTree) (l : Known) : Type 0 where
    pub more : More k l
    pub reads : Reads l e

  all_exposed : (os : List Opened) (k : Known) → list_all k (map (λ (x : ExposedTree). x.local) (map exposed os)) ≡ are_known k os
  all_exposed [] k = refl
  all_exposed (o ∷ os) k = ap (λ b. k o.local && b) (all_exposed os k)

  module _ (k : Known) (p : Place) (is : List ExprTree) (e : ExprTree) (os : List Opened) (xs ys : Code) (ins : ReadsAll k is) (around : are_known k os ≡ true) (turn : (l : Known) → More k l → Flows l ys (More l)) where
    abbrev whole : core.StmtTree
    whole = LoopStmt p is (code_of xs) e (code_of ys) (map exposed os)

    head_again : (l : Known) → More k l → (list_all (reads_assigned y l) is && list_all l (operands whole)) ≡ true
    head_again l more = and_from _ _ (all_reads_more k l more is ins) (all_exposed os l ∙ known_more k l more os around)

    reached_again : (l : Known) → More k l → (o : Option Known) → Ends (More l) o → where_reached (λ m. list_all (reads_assigned y m) is && list_all m (operands whole)) o ≡ true
    reached_again l more None h = refl
    reached_again l more (Some m) h = head_again m (further k l m more h)

    record Turns (o : Option Known) : Type 0 where
      test : where_reached (λ l. reads_assigned y l e) o ≡ true
      body : holds_along assigned_flow (assigned_check y) (code_of ys) (in_body assigned_flow e o) ≡ true
      again : where_reached (λ m. list_all (reads_assigned y m) is && list_all m (operands whole)) (at_end assigned_flow (code_of ys) (in_body assigned_flow e o)) ≡ true
      ends : Ends (More k) (left assigned_flow e o)

    turns : (o : Option Known) → Ends (Gives k e) o → Turns o
    turns None h = record {
      test = refl;
      body = holds_none assigned_flow (assigned_check y) (code_of ys);
      again = ap (where_reached (λ m. list_all (reads_assigned y m) is && list_all m (operands whole))) (at_none assigned_flow (code_of ys));
      ends = on_either (Ends (More k)) (is_literal_true e) None None tt tt;
    }
    turns (Some l) h =
        let f = turn l h.more in
        record {
          test = h.reads;
          body = f.checks;
          again = reached_again l h.more (at_end assigned_flow (code_of ys) (Some l)) f.ends;
          ends = on_either (Ends (More k)) (is_literal_true e) None (Some l) tt h.more;
        }

    pub loop : Flows k xs (Gives k e) → Flows k (LoopStmt p is (code_of xs) e (code_of ys) (map exposed os) ∷ []) (More k)
    loop h =
        let r = turns (at_end assigned_flow (code_of xs) (Some k)) h.ends in
        record {
          checks = and_from _ _ (and_from _ _ (and_from _ _ (and_from _ _ (and_from _ _ (head_again k (same k)) h.checks) r.test) r.body) r.again) refl;
          ends = r.ends;
        }
