-- What is known after a value that is put into a local.
use Rattle.std.proofs.Common.{◌≡◌, ℕ, ◌≤◌, [], ◌∷◌, ◌++◌, Bool, true, false, Option, Some, None, refl, sym, ◌∙◌, ap, arith}
use Rattle.std.specs.Prelude.{not, ◌==◌, ◌||◌, if◌then◌else◌}
use Rattle.std.proofs.lemmas.Bool.{and_from, eq-eqb, ne_eqb, false≢true}
use Rattle.ss_core.specs.declared.names.Place.{Place}
use Rattle.ss_core.specs.declared.names.Ty.{Ty}
use Rattle.ss_core.specs.declared.names.Ty.TheVariants as ty
use Rattle.ss_core.specs.Tree as core
use Rattle.ss_core.specs.Tree.{LocalExpr, CalleeTree, BaseConstructor, NoCode}
use Rattle.ss_core.specs.View.{code_of}
use Rattle.ss_core.specs.Types.{nullable}
use Rattle.ss_nonnull_rules.specs.NonNull as source
use Rattle.ss_expand_rules.specs.Numbers.{number}
use Rattle.ss_expand_rules.specs.Lifting.{Source, Pure, Created, CreatedArray, Called, put, temporary_type}
use Rattle.ss_store_rules.specs.Good.{is_non_null}
use Rattle.ss_store_rules.specs.Typed.{constructor_of, callee_of}
use Rattle.ss_store_rules.specs.Paths.{Flow, behind, at_end, Check, holds_at, holds_along}
use Rattle.ss_store_rules.specs.NonNull.{Facts, no_facts, Known, learned, site_of, is_non_null_type, is_this_object, is_never_null, with_local, says_nothing, result_of, with_base, known_after, known_flow, may_stand_at, may_enter, null_check}
use Rattle.ss_expand_formed.proofs.Kept.{base_same, after_fields}
use Rattle.ss_expand_formed.proofs.Shape.{Code}
use Rattle.ss_expand_formed.proofs.Along.{at_end-append, holds-append}
use Rattle.ss_expand_formed.specs.Fitting.{Frame, local_type, Agrees, Covers}

nullable_type : (t : Ty) → is_non_null (nullable t) ≡ false
nullable_type ty.Int = refl
nullable_type ty.Bool = refl
nullable_type ty.Null = refl
nullable_type (ty.Ref t non_null) = refl

-- a temporary may hold null
pub temporary_nullable : (t : Ty) (u : Option Ty) → is_non_null (temporary_type t u) ≡ false
temporary_nullable t None = nullable_type t
temporary_nullable t (Some ty.Null) = nullable_type t
temporary_nullable t (Some ty.Int) = refl
temporary_nullable t (Some ty.Bool) = refl
temporary_nullable t (Some (ty.Ref u non_null)) = refl

module _ (z : Frame) where
  abbrev pub flow : Flow Known
  flow = known_flow z.program z.body

  abbrev pub check : Check Known
  check = null_check z.program z.body

  -- ---- where a value comes from

  -- where it has this truth value
  abbrev pub source_says : Known → Source → Bool → Facts
  source_says l (Pure e) v = learned l e v
  source_says l (Created p t es) v = no_facts
  source_says l (CreatedArray p t e) v = no_facts
  source_says l (Called p callee es) v = no_facts

  abbrev pub source_never : Known → Source → Bool
  source_never l (Pure e) = is_never_null (site_of z.program z.body) l false e
  source_never l (Created p t es) = true
  source_never l (CreatedArray p t e) = true
  source_never l (Called p callee es) = is_non_null_type (result_of (callee_of z.program z.body callee))

  -- what is called may be entered
  abbrev pub source_enters : Known → Source → Bool
  source_enters l (Pure e) = true
  source_enters l (Created p t es) = may_enter z.program z.body l es (constructor_of z.program t)
  source_enters l (CreatedArray p t e) = true
  source_enters l (Called p callee es) = may_enter z.program z.body l es (callee_of z.program z.body callee)

  abbrev pub source_is_this : Source → Bool
  source_is_this (Pure e) = is_this_object e
  source_is_this d = false

  -- ---- code that runs to its end

  pub record Runs (l : Known) (xs : Code) (now : Known) : Type 0 where
    pub at : at_end flow (code_of xs) (Some l) ≡ Some now
    pub checked : holds_along flow check (code_of xs) (Some l) ≡ true

  pub runs_nothing : (l : Known) → Runs l [] l
  runs_nothing l = record { at = refl; checked = refl }

  pub runs_join : (l m n : Known) (xs ys : Code) → Runs l xs m → Runs m ys n → Runs l (xs ++ ys) n
  runs_join l m n xs ys a b = record {
    at = at_end-append flow xs ys (Some l) ∙ ap (at_end flow (code_of ys)) a.at ∙ b.at;
    checked = holds-append flow check xs ys (Some l) a.checked (ap (holds_along flow check (code_of ys)) a.at ∙ b.checked);
  }

  pub runs_one : (l n : Known) (x : core.StmtTree) → behind flow x l ≡ Some n → holds_at flow check x l ≡ true → Runs l (x ∷ []) n
  runs_one l n x h i = record { at = h; checked = and_from _ _ i refl }

  -- ---- after it

  abbrev pub putting : Place → ℕ → Source → Known → Known
  putting p x d l = known_after z.program z.body (put p x d) l

  put_after : (p : Place) (x : ℕ) (d : Source) (l : Known) → behind flow (put p x d) l ≡ Some (putting p x d l)
  put_after p x (Pure e) l = refl
  put_after p x (Created q t es) l = refl
  put_after p x (CreatedArray q t e) l = refl
  put_after p x (Called q callee es) l = refl

  pub put_facts : (p : Place) (x : ℕ) (d : Source) (l : Known) (y : ℕ) → (putting p x d l).facts y ≡ (if x == y then source_never l d else l.facts y)
  put_facts p x (Pure e) l y = refl
  put_facts p x (Created q t es) l y = refl
  put_facts p x (CreatedArray q t e) l y = refl
  put_facts p x (Called q callee es) l y =
      ap (λ f. f y) (base_same z.program z.body callee (with_local x (is_non_null_type (result_of (callee_of z.program z.body callee))) says_nothing l))

  base_sides : (callee : CalleeTree) (k : Known) → (with_base z.program z.body callee k).sides ≡ k.sides
  base_sides (BaseConstructor n) k = refl
  base_sides callee k = refl

  local_sides : (x : ℕ) (m : Bool) (f : Bool → Facts) (l : Known) (v : Bool) → (with_local x m f l).sides x v ≡ Some (f v)
  local_sides x m f l v = rw (eq-eqb x x refl) refl

  pub put_sides : (p : Place) (x : ℕ) (d : Source) (l : Known) (v : Bool) → (putting p x d l).sides x v ≡ Some (source_says l d v)
  put_sides p x (Pure e) l v = local_sides x (is_never_null (site_of z.program z.body) l false e) (learned l e) l v
  put_sides p x (Created q t es) l v = local_sides x true says_nothing l v
  put_sides p x (CreatedArray q t e) l v = local_sides x true says_nothing l v
  put_sides p x (Called q callee es) l v =
      let m = is_non_null_type (result_of (callee_of z.program z.body callee)) in
      ap (λ f. f x v) (base_sides callee (with_local x m says_nothing l)) ∙ local_sides x m says_nothing l v

  -- ---- what is asked of it

  stand_at : (l : Known) (e : core.ExprTree) (t : Option Ty) → (is_non_null_type t ≡ true → is_never_null (site_of z.program z.body) l false e ≡ true) → may_stand_at z.program z.body l e t ≡ true
  stand_at l e None h = refl
  stand_at l e (Some t) h = by (is_non_null t) refl
    where
      by : (b : Bool) → is_non_null t ≡ b → (not b || is_never_null (site_of z.program z.body) l false e) ≡ true
      by true i = h i
      by false i = refl

  keep_at : (b m : Bool) → (b ≡ true → m ≡ true) → (not b || m) ≡ true
  keep_at true m h = h refl
  keep_at false m h = refl

  pub put_holds : (p : Place) (x : ℕ) (d : Source) (l : Known) → source_enters l d ≡ true → (is_non_null_type (local_type z x) ≡ true → source_never l d ≡ true) → holds_at flow check (put p x d) l ≡ true
  put_holds p x (Pure e) l h i = stand_at l e (local_type z x) i
  put_holds p x (Created q t es) l h i = h
  put_holds p x (CreatedArray q t e) l h i = refl
  put_holds p x (Called q callee es) l h i = and_from _ _ h (keep_at (is_non_null_type (local_type z x)) _ i)

  pub put_runs : (p : Place) (x : ℕ) (d : Source) (l : Known) → source_enters l d ≡ true → (is_non_null_type (local_type z x) ≡ true → source_never l d ≡ true) → Runs l (put p x d ∷ []) (putting p x d l)
  put_runs p x d l h i = runs_one l (putting p x d l) (put p x d) (put_after p x d l) (put_holds p x d l h i)

  -- a local that holds null, as a temporary does
  pub nullable_local : {X : Type 0} (x : ℕ) (t : Ty) → local_type z x ≡ Some t → is_non_null t ≡ false → is_non_null_type (local_type z x) ≡ true → X
  nullable_local x t h i j = absurd (false≢true (sym i ∙ ap is_non_null_type (sym h) ∙ j))

  pub put_field : (p : Place) (x : ℕ) (d : Source) (l : Known) (f : ℕ) → l.fields f ≡ true → (putting p x d l).fields f ≡ true
  put_field p x d l f h = after_fields z.program z.body f (put p x d) l h

  -- a temporary is none of the locals of the body
  pub put_covers : Agrees z → (p : Place) (x : ℕ) (d : Source) (k : source.Known) (l : Known) → z.numbers.first_temporary ≤ x → Covers z k l → Covers z k (putting p x d l)
  put_covers agrees p x d k l from h = record {
    facts = λ y i.
        let below = agrees.own y (agrees.known y (h.mine y i)) in
        let other = ne_eqb x (number z.numbers y) (λ e. omega arith) in
        put_facts p x d l (number z.numbers y) ∙ rw other (h.facts y i);
    mine = h.mine;
    fields = λ f own i. put_field p x d l f (h.fields f own i);
    free = λ i f. put_field p x d l f (h.free i f);
  }
