-- The block of a constructor, taken apart at its `base(..)`, or where one is implied.
use Rattle.std.proofs.Common.{◌≡◌, ℕ, Bool, true, false, Option, Some, None, refl, sym, ◌∙◌, ap, subst, ⊎_elim}
use Rattle.std.specs.Prelude.{◌||◌, if◌then◌else◌}
use Rattle.std.proofs.lemmas.Bool.{cases_Bool, false≢true}
use Rattle.ss_core.specs.declared.names.Place.{Place}
use Rattle.ss_typed.specs.Tree.{ExprTree, Arguments, SimpleTree, BaseCallOf, StmtTree, SimpleOf, StmtTrees, NoMore, Before, BaseTree, TypedTree}
use Rattle.ss_typed.specs.Shapes.{has_base, is_base}
use Rattle.ss_delayed_rules.specs.Opening.{is_first, first_run, before_base, opening_of, base_in}
use Rattle.ss_delayed_rules.specs.Constructors.{arguments_of}
use Rattle.ss_expand_rules.specs.Constructors.{before_all, after_initial}
use Rattle.ss_expand_formed.proofs.Facts.{or_false}
use Rattle.ss_expand_formed.proofs.Choices.{where_chosen}
use Rattle.ss_expand_formed.proofs.ConstructionStatements.{Along}
use Rattle.ss_expand_formed.proofs.Begins.{base_or}
use Rattle.ss_expand_formed.proofs.ReadLocals.{Other, Others, OtherSimple}

-- ---- a written `base(..)`

the_base : (P : StmtTree → Type 0) (s : StmtTree) → is_base s ≡ true → ((q : Place) (es : Arguments) → P (SimpleOf (BaseCallOf q es))) → P s
the_base P (SimpleOf (BaseCallOf q es)) h f = f q es
the_base P s h f = absurd (false≢true h)

pub record SplitAtBase (ss : StmtTrees) : Type 0 where
  pub place : Place
  pub given : Arguments
  pub rest : StmtTrees
  pub is : ss ≡ before_all (before_base ss) (Before (SimpleOf (BaseCallOf place given)) rest)
  pub base : base_in ss ≡ Some (record { place = place; arguments = given })

behind_one : (s : StmtTree) (ss : StmtTrees) → is_base s ≡ false → base_in (Before s ss) ≡ base_in ss
behind_one (SimpleOf (BaseCallOf q es)) ss h = absurd (false≢true (sym h))
behind_one s ss h = refl

pub split_at_base : (ss : StmtTrees) → has_base ss ≡ true → SplitAtBase ss
split_at_base NoMore h = absurd (false≢true h)
split_at_base (Before s ss) h = by (is_base s) refl (λ i. split_at_base ss i)
  where
    by : (v : Bool) → is_base s ≡ v → (has_base ss ≡ true → SplitAtBase ss) → SplitAtBase (Before s ss)
    by true e go = the_base (λ (x : StmtTree). SplitAtBase (Before x ss)) s e (λ q es. record { place = q; given = es; rest = ss; is = refl; base = refl })
    by false e go =
        let r = go (subst (λ (v : Bool). (v || has_base ss) ≡ true) e h) in
        let more = Before (SimpleOf (BaseCallOf r.place r.given)) r.rest in
        record {
          place = r.place;
          given = r.given;
          rest = r.rest;
          is = ap (Before s) r.is ∙ sym (ap (λ (v : Bool). before_all (if v then NoMore else Before s (before_base ss)) more) e);
          base = behind_one s ss e ∙ r.base;
        }

-- ---- an implied one

pub record SplitAtRun (p : TypedTree) (t : ℕ) (s : StmtTree) (ss : StmtTrees) : Type 0 where
  pub rest : StmtTrees
  pub is : ss ≡ before_all (first_run p t ss) rest
  pub base : after_initial p t s ss ≡ before_all (first_run p t ss) (Before s rest)

pub split_at_run : (p : TypedTree) (t : ℕ) (s : StmtTree) (ss : StmtTrees) → SplitAtRun p t s ss
split_at_run p t s NoMore = record { rest = NoMore; is = refl; base = refl }
split_at_run p t s (Before x ss) = by (is_first p t x) refl (split_at_run p t s ss)
  where
    by : (v : Bool) → is_first p t x ≡ v → SplitAtRun p t s ss → SplitAtRun p t s (Before x ss)
    by true e r = record {
      rest = r.rest;
      is = ap (Before x) r.is ∙ sym (ap (λ (v : Bool). before_all (if v then Before x (first_run p t ss) else NoMore) r.rest) e);
      base = ap (λ (v : Bool). if v then Before x (after_initial p t s ss) else Before s (Before x ss)) e ∙ ap (Before x) r.base ∙ sym (ap (λ (v : Bool). before_all (if v then Before x (first_run p t ss) else NoMore) (Before s r.rest)) e);
    }
    by false e r = record {
      rest = Before x ss;
      is = sym (ap (λ (v : Bool). before_all (if v then Before x (first_run p t ss) else NoMore) (Before x ss)) e);
      base = ap (λ (v : Bool). if v then Before x (after_initial p t s ss) else Before s (Before x ss)) e ∙ sym (ap (λ (v : Bool). before_all (if v then Before x (first_run p t ss) else NoMore) (Before s (Before x ss))) e);
    }

-- ---- what holds along a block holds of its parts

module _ (G : SimpleTree → Type 0) (F : ExprTree → Type 0) where
  along_parts : (xs ys : StmtTrees) → Along G F (before_all xs ys) → Along G F xs × Along G F ys
  along_parts NoMore ys h = (tt, h)
  along_parts (Before x xs) ys h = let rest = along_parts xs ys h.1 in ((h.0, rest.0), rest.1)

  -- of what stands before `base(..)`
  pub along_opening : (p : TypedTree) (t : ℕ) (s : StmtTree) (base : Option BaseTree) (ss : StmtTrees) → Along G F ss → Along G F (opening_of p t base ss)
  along_opening p t s (Some o) ss h = tt
  along_opening p t s None ss h =
      where_chosen (Along G F) (has_base ss) (before_base ss) (first_run p t ss)
      (λ yes. let r = split_at_base ss yes in (along_parts (before_base ss) (Before (SimpleOf (BaseCallOf r.place r.given)) r.rest) (subst (Along G F) r.is h)).0)
      (λ no. let r = split_at_run p t s ss in (along_parts (first_run p t ss) r.rest (subst (Along G F) r.is h)).0)

none_in : (ss : StmtTrees) → has_base ss ≡ false → base_in ss ≡ None
none_in NoMore h = refl
none_in (Before s ss) h = let both = or_false (is_base s) (has_base ss) h in behind_one s ss both.0 ∙ none_in ss both.1

-- and of the arguments of `base(..)`
pub given_others : (base : Option BaseTree) (ss : StmtTrees) → Others (arguments_of base) → Along OtherSimple Other ss → Others (arguments_of (base_or base ss))
given_others (Some o) ss given h = given
given_others None ss given h =
    ⊎_elim
    (λ yes.
    let r = split_at_base ss yes in
    let rest = (along_parts OtherSimple Other (before_base ss) (Before (SimpleOf (BaseCallOf r.place r.given)) r.rest) (subst (Along OtherSimple Other) r.is h)).1 in
    subst (λ o. Others (arguments_of o)) (sym r.base) rest.0)
    (λ no. subst (λ o. Others (arguments_of o)) (sym (none_in ss no)) refl)
    (cases_Bool (has_base ss))
