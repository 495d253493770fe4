-- How what is known in the elaboration goes along with what the phase of null knows, where paths branch, meet and end.
use Rattle.std.proofs.Common.{◌≡◌, ℕ, ◌-◌, List, [], ◌∷◌, ◌++◌, Bool, true, false, Option, Some, None, refl, sym, ◌∙◌, ap, subst}
use Rattle.std.specs.Prelude.{◌&&◌, if◌then◌else◌}
use Rattle.std.proofs.lemmas.Bool.{and_parts, and_from, or_left, or_right, false≢true}
use Rattle.ss_core.specs.declared.names.Place.{Place}
use Rattle.ss_core.specs.Tree as core
use Rattle.ss_core.specs.Tree.{ExposedTree, IfStmt, LoopStmt, NoCode}
use Rattle.ss_core.specs.View.{code_of}
use Rattle.ss_typed.specs.Tree.{ExprTree}
use Rattle.ss_paths.specs.Sets.{Set, both}
use Rattle.ss_paths.specs.Fields.{Numbers, is_among}
use Rattle.ss_paths.specs.Assigned.{Assigned, has_field, both_assigned}
use Rattle.ss_paths.specs.Paths as phase
use Rattle.ss_typed.specs.Shapes.{is_true}
use Rattle.ss_nonnull_rules.specs.NonNull as source
use Rattle.ss_nonnull_rules.specs.Facts.{says}
use Rattle.ss_expand_rules.specs.Lifting.{Valued}
use Rattle.ss_store_rules.specs.Paths.{is_literal_true, met, left, at_end, where_reached, in_body, holds_along}
use Rattle.ss_store_rules.specs.NonNull.{Known, known_tested, known_head}
use Rattle.ss_expand_formed.proofs.Shape.{Code}
use Rattle.ss_expand_formed.proofs.Along.{at_none, holds_none, at_end-append, holds-append}
use Rattle.ss_expand_formed.proofs.Truths.{of_or}
use Rattle.ss_expand_formed.specs.Fitting.{Frame, fits, Agrees, Covers}
use Rattle.ss_expand_formed.proofs.NullsPlain.{either_is, says_mine}
use Rattle.ss_expand_formed.proofs.Putting.{flow, check, Runs}
use Rattle.ss_expand_formed.proofs.Lifted.{Values}
use Rattle.ss_expand_formed.proofs.Assignments.{Done}

both_is : (f g : Set) (x : ℕ) → both f g x ≡ true → (f x && g x) ≡ true
unfolding both
both_is f g x h = h

both_have : (n : Numbers) (a b : Assigned) (f : ℕ) → has_field n (both_assigned a b) f ≡ true → (has_field n a f ≡ true) × (has_field n b f ≡ true)
both_have n a b f h = by (is_among n f) h
  where
    by : (c : Bool) → (if c then both a.own b.own (f - n.first) else a.above && b.above) ≡ true → ((if c then a.own (f - n.first) else a.above) ≡ true) × ((if c then b.own (f - n.first) else b.above) ≡ true)
    by true i = and_parts (a.own (f - n.first)) (b.own (f - n.first)) (both_is a.own b.own (f - n.first) i)
    by false i = and_parts a.above b.above i

module _ (z : Frame) (agrees : Agrees z) where
  abbrev pub along : phase.Flow source.Known
  along = source.known_flow z.context

  -- where the elaboration gets there, the phase does, and knows no more
  abbrev pub CoversWhere : Option source.Known → Option Known → Type 0
  CoversWhere None None = Unit
  CoversWhere None (Some l) = ⊥
  CoversWhere (Some k) None = Unit
  CoversWhere (Some k) (Some l) = Covers z k l

  pub nowhere : (k : Option source.Known) → CoversWhere k None
  nowhere None = tt
  nowhere (Some k) = tt

  -- code that keeps nulls out, after which this is known
  pub record Goes (l : Known) (k : Option source.Known) (xs : Code) : Type 0 where
    pub held : holds_along (flow z) (check z) (code_of xs) (Some l) ≡ true
    pub covers : CoversWhere k (at_end (flow z) (code_of xs) (Some l))

  pub goes_done : (l : Known) (k : source.Known) (xs : Code) → Done z agrees l k xs → Goes l (Some k) xs
  goes_done l k xs h = record { held = h.runs.checked; covers = subst (CoversWhere (Some k)) (sym h.runs.at) h.covers }

  pub runs_goes : (l m : Known) (k : Option source.Known) (xs ys : Code) → Runs z l xs m → Goes m k ys → Goes l k (xs ++ ys)
  runs_goes l m k xs ys h g = record {
    held = holds-append (flow z) (check z) xs ys (Some l) h.checked (ap (holds_along (flow z) (check z) (code_of ys)) h.at ∙ g.held);
    covers = subst (CoversWhere k) (sym (at_end-append (flow z) xs ys (Some l) ∙ ap (at_end (flow z) (code_of ys)) h.at)) g.covers;
  }

  -- code after code
  pub goes_then : (l : Known) (a b : Option source.Known) (xs ys : Code) → Goes l a xs → (a ≡ None → b ≡ None) → ((k : source.Known) (m : Known) → a ≡ Some k → Covers z k m → Goes m b ys) → Goes l b (xs ++ ys)
  goes_then l a b xs ys h none rest = by (at_end (flow z) (code_of xs) (Some l)) refl a h.covers none rest
    where
      by : (o : Option Known) → at_end (flow z) (code_of xs) (Some l) ≡ o → (a : Option source.Known) → CoversWhere a o → (a ≡ None → b ≡ None) → ((k : source.Known) (m : Known) → a ≡ Some k → Covers z k m → Goes m b ys) → Goes l b (xs ++ ys)
      by None e a c none rest = record {
        held = holds-append (flow z) (check z) xs ys (Some l) h.held (ap (holds_along (flow z) (check z) (code_of ys)) e ∙ holds_none (flow z) (check z) (code_of ys));
        covers = subst (CoversWhere b) (sym (at_end-append (flow z) xs ys (Some l) ∙ ap (at_end (flow z) (code_of ys)) e ∙ at_none (flow z) (code_of ys))) (nowhere b);
      }
      by (Some m) e None c none rest = absurd c
      by (Some m) e (Some k) c none rest = runs_goes l m b xs ys (record { at = e; checked = h.held }) (rest k m refl c)

  -- ---- tests

  pub tested_covers : (k : source.Known) (l : Known) (e : ExprTree) (v : Valued) (u : Bool) → (h : Values z agrees k l e v) → fits z e ≡ true → Covers z (source.known_tested e u k) (known_tested v.value u h.now)
  tested_covers k l e v u h f = record {
    facts = λ x i. of_or (k.facts x) (says e u x) _ (λ j. or_left _ _ (h.covers.facts x j)) (λ j. or_right _ _ (h.told u x j)) (either_is k.facts (says e u) x i);
    mine = λ x i. of_or (k.facts x) (says e u x) _ (h.covers.mine x) (λ j. says_mine z e u x f j) (either_is k.facts (says e u) x i);
    fields = h.covers.fields;
    free = h.covers.free;
  }

  -- ---- where paths meet

  met_left : (k m : source.Known) (l : Known) → Covers z k l → Covers z (source.known_met k m) l
  met_left k m l c = record {
    facts = λ x i. c.facts x (and_parts (k.facts x) (m.facts x) (both_is k.facts m.facts x i)).0;
    mine = λ x i. c.mine x (and_parts (k.facts x) (m.facts x) (both_is k.facts m.facts x i)).0;
    fields = λ f o i. c.fields f o (both_have z.context.numbers k.fields m.fields f i).0;
    free = c.free;
  }

  met_right : (k m : source.Known) (l : Known) → Covers z m l → Covers z (source.known_met k m) l
  met_right k m l c = record {
    facts = λ x i. c.facts x (and_parts (k.facts x) (m.facts x) (both_is k.facts m.facts x i)).1;
    mine = λ x i. c.mine x (and_parts (k.facts x) (m.facts x) (both_is k.facts m.facts x i)).1;
    fields = λ f o i. c.fields f o (both_have z.context.numbers k.fields m.fields f i).1;
    free = c.free;
  }

  met_covers : (k m : Option source.Known) (l n : Option Known) → CoversWhere k l → CoversWhere m n → CoversWhere (phase.met along k m) (met (flow z) l n)
  met_covers None m None n c d = d
  met_covers None m (Some l) n c d = absurd c
  met_covers (Some k) None None None c d = tt
  met_covers (Some k) None None (Some n) c d = absurd d
  met_covers (Some k) None (Some l) None c d = c
  met_covers (Some k) None (Some l) (Some n) c d = absurd d
  met_covers (Some k) (Some m) None None c d = tt
  met_covers (Some k) (Some m) None (Some n) c d = met_right k m n d
  met_covers (Some k) (Some m) (Some l) None c d = met_left k m l c
  met_covers (Some k) (Some m) (Some l) (Some n) c d = record {
    facts = λ x i. let j = and_parts (k.facts x) (m.facts x) (both_is k.facts m.facts x i) in and_from _ _ (c.facts x j.0) (d.facts x j.1);
    mine = λ x i. c.mine x (and_parts (k.facts x) (m.facts x) (both_is k.facts m.facts x i)).0;
    fields = λ f o i. let j = both_have z.context.numbers k.fields m.fields f i in and_from _ _ (c.fields f o j.0) (d.fields f o j.1);
    free = λ i f. and_from _ _ (c.free i f) (d.free i f);
  }

  pub branch_goes : (k : source.Known) (l : Known) (e : ExprTree) (v : Valued) (p : Place) (a b : Option source.Known) (xs ys : Code) → (h : Values z agrees k l e v) → Goes (known_tested v.value true h.now) a xs → Goes (known_tested v.value false h.now) b ys →
      Goes l (phase.met along a b) (v.code ++ IfStmt p v.value (code_of xs) (code_of ys) ∷ [])
  branch_goes k l e v p a b xs ys h one other =
      runs_goes l h.now (phase.met along a b) v.code (IfStmt p v.value (code_of xs) (code_of ys) ∷ []) h.runs (record {
        held = and_from _ _ (and_from _ _ one.held other.held) refl;
        covers = met_covers a b _ _ one.covers other.covers;
      })

  -- ---- loops

  any_test : (o : Option Known) → where_reached (λ (x : Known). true) o ≡ true
  any_test None = refl
  any_test (Some x) = refl

  left_covers : (b c : Bool) (k : source.Known) (l : Known) → (b ≡ true → c ≡ true) → Covers z k l → CoversWhere (if b then None else Some k) (if c then None else Some l)
  left_covers true true k l h g = tt
  left_covers true false k l h g = absurd (false≢true (h refl))
  left_covers false true k l h g = tt
  left_covers false false k l h g = g

  -- what is known at the head of the loop is this
  pub loop_goes : (k : source.Known) (l : Known) (e : ExprTree) (v : Valued) (p : Place) (is : List core.ExprTree) (ys : Code) (xs : List ExposedTree) →
      (h : Values z agrees k (known_head (LoopStmt p is (code_of v.code) v.value (code_of ys) xs) l) e v) → fits z e ≡ true → (is_true e ≡ true → is_literal_true v.value ≡ true) → holds_along (flow z) (check z) (code_of ys) (Some (known_tested v.value true h.now)) ≡ true →
      Goes l (phase.left along e k) (LoopStmt p is (code_of v.code) v.value (code_of ys) xs ∷ [])
  loop_goes k l e v p is ys xs h f lit turn =
      let tested = at_end (flow z) (code_of v.code) (Some (known_head (LoopStmt p is (code_of v.code) v.value (code_of ys) xs) l)) in
      record {
        held = and_from _ _ (and_from _ _ (and_from _ _ (and_from _ _ h.runs.checked (any_test tested)) (ap (λ o. holds_along (flow z) (check z) (code_of ys) (in_body (flow z) v.value o)) h.runs.at ∙ turn)) (any_test (at_end (flow z) (code_of ys) (in_body (flow z) v.value tested)))) refl;
        covers = subst (λ o. CoversWhere (phase.left along e k) (left (flow z) v.value o)) (sym h.runs.at) (left_covers (is_true e) (is_literal_true v.value) (source.known_tested e false k) (known_tested v.value false h.now) lit (tested_covers k (known_head (LoopStmt p is (code_of v.code) v.value (code_of ys) xs) l) e v false h f));
      }
