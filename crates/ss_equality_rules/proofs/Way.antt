-- One step on the way from a merge to a whole log.
use Rattle.std.proofs.Common.{◌≡◌, ℕ, zero, suc, ◌+◌, ◌-◌, ◌<◌, ◌≤◌, List, [], ◌∷◌, ◌++◌, length, map, take, Option, Some, None, refl, sym, ◌∙◌, ap, subst, inl, inr, ◌⊎◌, ⊎_elim, arith, append_assoc, add-one}
use Rattle.std.specs.Prelude.{slice_get, slice_index_or}
use Rattle.std.proofs.lemmas.List.{take_all}
use Rattle.std.proofs.lemmas.Bool.{cases_eq, cases_lt}
use Rattle.std.proofs.lemmas.Option.{slice_get_within}
use Rattle.ss_terms.specs.declared.forms.TermId.{TermId}
use Rattle.ss_terms.specs.declared.forms.Symbol.{Symbol}
use Rattle.ss_terms.specs.declared.forms.Term.{Term}
use Rattle.ss_terms.specs.Forms.{TermShape, AppShape, term_shape}
use Rattle.ss_terms.specs.Bank.{number}
use Rattle.ss_equality_rules.specs.declared.Merge.{Merge}
use Rattle.ss_equality_rules.specs.declared.Join.{Join}
use Rattle.ss_equality_rules.specs.declared.Pending.{Pending}
use Rattle.ss_equality_rules.specs.Names.{Has, name, named, renamed, IsLog}
use Rattle.ss_equality_rules.specs.Classes.{Classed, HasJoin}
use Rattle.ss_equality_rules.specs.Whole.{Signature, IsCause, IsSigned, IsWhole, Respects, IsOnTheWay, IsKeyOf, Goes, Begins, numbers}
use Rattle.ss_equality_rules.proofs.Lists.{at_left, at_last, pushed, front_pushed, has_left, has_last, has_pushed, has_first, has_more, has_cases, has_none}
use Rattle.ss_equality_rules.proofs.Names.{renamed_from, renamed_other, name_push, name_name}
use Rattle.ss_equality_rules.proofs.Equal.{names_of}

same_application : (f g : Symbol) (xs ys : List TermId) (o : Option TermShape) → o ≡ Some (AppShape f xs) → o ≡ Some (AppShape g ys) → (f ≡ g) × (xs ≡ ys)
same_application f g xs ys o p q = let e : Some (AppShape f xs) ≡ Some (AppShape g ys) = sym p ∙ q in (cc, cc)

-- the names of names
pub names_named : (n : ℕ) (es : List Join) (xs : List TermId) → IsLog n es → map (named es) (map (named es) xs) ≡ map (named es) xs
names_named n es [] log = refl
names_named n es (x ∷ xs) log =
    let first : named es (named es x) ≡ named es x = ap number (name_name n es log x.0) in
    let rest : map (named es) (map (named es) xs) ≡ map (named es) xs = names_named n es xs log in
    cc

-- ---- a term gets its signature

module _ (c : Classed) (log : IsLog (length c.forms) c.log) (sigs : List Signature) (ps : List Pending) (w : ℕ) (ws : List ℕ) where
  pub no_signature : IsKeyOf c w None → Goes c c sigs sigs ps ps (w ∷ ws) ws
  no_signature none = record {
    goes = λ ms on. record {
      caused = on.caused;
      signatures = on.signatures;
      causes = on.causes;
      left_below = on.left_below;
      right_below = on.right_below;
      signed = λ q r v f xs at. ⊎_elim (λ s. inl s) (λ h. ⊎_elim (λ k. inr k) (λ e. absurd (none f xs (ap (slice_get c.forms) e ∙ at))) (has_cases w ws v h)) (on.signed q r v f xs at);
      merged = on.merged;
    };
  }

  module _ (k : Term) (key : IsKeyOf c w (Some k)) where
    pub new_signature : Goes c c sigs (sigs ++ (term_shape k, w) ∷ []) ps ps (w ∷ ws) ws
    new_signature = record {
      goes = λ ms on. record {
        caused = on.caused;
        signatures = record { term = λ i f ks v at. ⊎_elim (λ a. on.signatures.term i f ks v a) (λ a. fresh f ks v a.1) (pushed sigs (term_shape k, w) (AppShape f ks, v) i at) };
        causes = on.causes;
        left_below = on.left_below;
        right_below = on.right_below;
        signed = λ q r v f xs at. ⊎_elim
            (λ s. inl (more q f xs v s))
            (λ h. ⊎_elim (λ a. inr a) (λ e. inl (this q v f xs e at)) (has_cases w ws v h))
            (on.signed q r v f xs at);
        merged = on.merged;
      };
    }
      where
        all : List Signature
        all = sigs ++ (term_shape k, w) ∷ []

        fresh : (f : Symbol) (ks : List TermId) (v : ℕ) → ◌≡◌ {A = Signature} (term_shape k, w) (AppShape f ks, v) →
            (xs : List TermId) × (slice_get c.forms v ≡ Some (AppShape f xs)) × (map (named c.log) xs ≡ map (named c.log) ks)
        fresh f ks v e =
            let shape : AppShape key.0 (map (named c.log) key.1) ≡ AppShape f ks = sym key.3 ∙ ap (λ s. s.0) e in
            let is_w : w ≡ v = ap (λ s. s.1) e in
            let is_f : key.0 ≡ f = cc in
            let is_ks : map (named c.log) key.1 ≡ ks = cc in (
              key.1,
              sym (ap (slice_get c.forms) is_w) ∙ key.2 ∙ ap (λ g. Some (AppShape g key.1)) is_f,
              sym (names_named (length c.forms) c.log key.1 log) ∙ ap (map (named c.log)) is_ks,
            )

        more : (q : ℕ → ℕ) (f : Symbol) (xs : List TermId) (v : ℕ) → IsSigned c.log sigs q f xs v → IsSigned c.log (sigs ++ (term_shape k, w) ∷ []) q f xs v
        more q f xs v s = record { term = s.term; found = has_left sigs ((term_shape k, w) ∷ []) (AppShape f (map (named c.log) xs), s.term) s.found; same = s.same }

        this : (q : ℕ → ℕ) (v : ℕ) (f : Symbol) (xs : List TermId) → w ≡ v → slice_get c.forms v ≡ Some (AppShape f xs) → IsSigned c.log (sigs ++ (term_shape k, w) ∷ []) q f xs v
        this q v f xs e at =
            let p = same_application key.0 f key.1 xs (slice_get c.forms v) (sym (ap (slice_get c.forms) e) ∙ key.2) at in
            let shape : term_shape k ≡ AppShape f (map (named c.log) xs) = key.3 ∙ ap (λ g. AppShape g (map (named c.log) key.1)) p.0 ∙ ap (λ ys. AppShape f (map (named c.log) ys)) p.1 in
            record { term = w; found = subst (λ s. Has (sigs ++ (term_shape k, w) ∷ []) (s, w)) shape (has_last sigs (term_shape k, w)); same = ap q (sym e) }

    module _ (v : ℕ) (found : Has sigs (term_shape k, v)) (p : Pending) (left : p.left ≡ w) (right : p.right ≡ v) (why : p.why ≡ None) where
      pub signature_found : Goes c c sigs sigs ps (ps ++ p ∷ []) (w ∷ ws) ws
      signature_found = record {
        goes = λ ms on. let on' = on in record {
          caused = on.caused;
          signatures = on.signatures;
          causes = λ r h. ⊎_elim (λ a. on.causes r a) (λ e. subst (λ z. IsCause c.forms ms c.log z.left z.right z.why) e (cause ms on)) (has_pushed ps p r h);
          left_below = λ r h. ⊎_elim (λ a. on.left_below r a) (λ e. subst (λ z. z.left < length c.forms) e left_inside) (has_pushed ps p r h);
          right_below = λ r h. ⊎_elim (λ a. on.right_below r a) (λ e. subst (λ z. z.right < length c.forms) e (right_inside ms on)) (has_pushed ps p r h);
          signed = λ q r x f xs at. ⊎_elim
              (λ s. inl s)
              (λ h. ⊎_elim (λ a. inr a) (λ e. inl (this q (r.waiting p (has_last ps p)) x f xs e at)) (has_cases w ws x h))
              (on.signed q (fewer q r) x f xs at);
          merged = λ q r j m at. on.merged q (fewer q r) j m at;
        };
      }
        where
          fewer : (q : ℕ → ℕ) → Respects c.log (ps ++ p ∷ []) q → Respects c.log ps q
          fewer q r = record { classes = r.classes; waiting = λ z h. r.waiting z (has_left ps (p ∷ []) z h) }

          other : (ms : List Merge) → IsOnTheWay c.forms ms c.log sigs ps (w ∷ ws) → (ys : List TermId) × (slice_get c.forms v ≡ Some (AppShape key.0 ys)) × (map (named c.log) ys ≡ map (named c.log) (map (named c.log) key.1))
          other ms on = on.signatures.term found.at key.0 (map (named c.log) key.1) v (found.is ∙ ap (λ s. Some (s, v)) key.3)

          cause : (ms : List Merge) → IsOnTheWay c.forms ms c.log sigs ps (w ∷ ws) → IsCause c.forms ms c.log p.left p.right p.why
          cause ms on = subst (λ o. IsCause c.forms ms c.log p.left p.right o) (sym why) (
              let ys = other ms on in
              record {
                function = key.0;
                lefts = key.1;
                rights = ys.0;
                left = ap (slice_get c.forms) left ∙ key.2;
                right = ap (slice_get c.forms) right ∙ ys.1;
                same = sym (ys.2 ∙ names_named (length c.forms) c.log key.1 log);
              })

          left_inside : p.left < length c.forms
          left_inside = subst (λ z. z < length c.forms) (sym left) (slice_get_within c.forms w (AppShape key.0 key.1) key.2)

          right_inside : (ms : List Merge) → IsOnTheWay c.forms ms c.log sigs ps (w ∷ ws) → p.right < length c.forms
          right_inside ms on = let ys = other ms on in subst (λ z. z < length c.forms) (sym right) (slice_get_within c.forms v (AppShape key.0 ys.0) ys.1)

          this : (q : ℕ → ℕ) → q p.left ≡ q p.right → (x : ℕ) (f : Symbol) (xs : List TermId) → w ≡ x → slice_get c.forms x ≡ Some (AppShape f xs) → IsSigned c.log sigs q f xs x
          this q same x f xs e at =
              let r = same_application key.0 f key.1 xs (slice_get c.forms x) (sym (ap (slice_get c.forms) e) ∙ key.2) at in
              let shape : term_shape k ≡ AppShape f (map (named c.log) xs) = key.3 ∙ ap (λ g. AppShape g (map (named c.log) key.1)) r.0 ∙ ap (λ ys. AppShape f (map (named c.log) ys)) r.1 in
              record { term = v; found = subst (λ s. Has sigs (s, v)) shape found; same = ap q (sym (left ∙ e)) ∙ same ∙ ap q right }

pub goes_on : (a b c : Classed) (s t u : List Signature) (ps qs rs : List Pending) (us vs ws : List ℕ) → Goes a b s t ps qs us vs → Goes b c t u qs rs vs ws → Goes a c s u ps rs us ws
goes_on a b c s t u ps qs rs us vs ws g h = record { goes = λ ms on. h.goes ms (g.goes ms on) }

pub goes_nowhere : (c : Classed) (s : List Signature) (ps : List Pending) (ws : List ℕ) → Goes c c s s ps ps ws ws
goes_nowhere c s ps ws = record { goes = λ ms on. on }

pub begins_itself : {A : Type 0} (xs : List A) → Begins xs xs
begins_itself xs = record { rest = []; is = nothing_more xs }
  where
    nothing_more : {A : Type 0} (ys : List A) → ys ≡ ys ++ []
    nothing_more [] = refl
    nothing_more (y ∷ ys) = ap (λ zs. y ∷ zs) (nothing_more ys)

pub begins_on : {A : Type 0} (xs ys zs : List A) → Begins xs ys → Begins ys zs → Begins xs zs
begins_on xs ys zs b d = record { rest = b.rest ++ d.rest; is = d.is ∙ ap (λ l. l ++ d.rest) b.is ∙ append_assoc xs b.rest d.rest }

pub begins_pushed : {A : Type 0} (xs : List A) (x : A) (ys : List A) → ys ≡ xs ++ x ∷ [] → Begins xs ys
begins_pushed xs x ys e = record { rest = x ∷ []; is = e }

pub begins_same : {A : Type 0} (xs ys : List A) → ys ≡ xs → Begins xs ys
begins_same xs ys e = subst (Begins xs) (sym e) (begins_itself xs)

-- ---- two classes are joined

-- where no argument is in the class that is renamed, the signature stays
names_kept : (es : List Join) (e : Join) (xs : List TermId) → ((i : ℕ) × (x : TermId) × (slice_get xs i ≡ Some x) × (name es x.0 ≡ e.from)) ⊎ (map (named (es ++ e ∷ [])) xs ≡ map (named es) xs)
names_kept es e [] = inr refl
names_kept es e (x ∷ xs) = ⊎_elim
    (λ from. inl (0, x, refl, from))
    (λ other. ⊎_elim
    (λ p. inl (suc p.0, p.1, p.2, p.3))
    (λ rest.
    let first : named (es ++ e ∷ []) x ≡ named es x = ap number (name_push es e x.0 ∙ renamed_other e (name es x.0) other) in
    inr cc)
    (names_kept es e xs))
    (cases_eq (name es x.0) e.from)

names_later : (es : List Join) (e : Join) (xs ys : List TermId) → map (named es) xs ≡ map (named es) ys → map (named (es ++ e ∷ [])) xs ≡ map (named (es ++ e ∷ [])) ys
names_later es e [] [] h = refl
names_later es e [] (y ∷ ys) h = cc
names_later es e (x ∷ xs) [] h = cc
names_later es e (x ∷ xs) (y ∷ ys) h =
    let head : named es x ≡ named es y = cc in
    let tail : map (named es) xs ≡ map (named es) ys = cc in
    let first : named (es ++ e ∷ []) x ≡ named (es ++ e ∷ []) y = ap number (name_push es e x.0 ∙ ap (renamed e) (names_of es x y head) ∙ sym (name_push es e y.0)) in
    let rest : map (named (es ++ e ∷ [])) xs ≡ map (named (es ++ e ∷ [])) ys = names_later es e xs ys tail in
    cc

cause_later : (fs : List TermShape) (ms : List Merge) (es : List Join) (e : Join) (x y : ℕ) (why : Option ℕ) → IsCause fs ms es x y why → IsCause fs ms (es ++ e ∷ []) x y why
cause_later fs ms es e x y (Some k) c = c
cause_later fs ms es e x y None c = record { function = c.function; lefts = c.lefts; rights = c.rights; left = c.left; right = c.right; same = names_later es e c.lefts c.rights c.same }

cause_back : (fs : List TermShape) (ms : List Merge) (es : List Join) (x y : ℕ) (why : Option ℕ) → IsCause fs ms es x y why → IsCause fs ms es y x why
cause_back fs ms es x y (Some k) c = record { merge = c.merge; at = c.at; sides = ⊎_elim (λ p. inr p) (λ p. inl p) c.sides }
cause_back fs ms es x y None c = record { function = c.function; lefts = c.rights; rights = c.lefts; left = c.right; right = c.left; same = sym c.same }

module _ (old new : Classed) (sigs : List Signature) (ps : List Pending) (p : Pending) where
  pub one_class : (new ≡ old) × (p.left < length old.forms → p.right < length old.forms → name old.log p.left ≡ name old.log p.right) → Goes old new sigs sigs (ps ++ p ∷ []) ps [] []
  one_class h = subst (λ c. Goes old c sigs sigs (ps ++ p ∷ []) ps [] []) (sym h.0) (record {
    goes = λ ms on. record {
      caused = on.caused;
      signatures = on.signatures;
      causes = λ r k. on.causes r (has_left ps (p ∷ []) r k);
      left_below = λ r k. on.left_below r (has_left ps (p ∷ []) r k);
      right_below = λ r k. on.right_below r (has_left ps (p ∷ []) r k);
      signed = λ q r. on.signed q (more q (h.1 (on.left_below p (has_last ps p)) (on.right_below p (has_last ps p))) r);
      merged = λ q r. on.merged q (more q (h.1 (on.left_below p (has_last ps p)) (on.right_below p (has_last ps p))) r);
    };
  })
    where
      more : (q : ℕ → ℕ) → name old.log p.left ≡ name old.log p.right → Respects old.log ps q → Respects old.log (ps ++ p ∷ []) q
      more q same r = record {
        classes = r.classes;
        waiting = λ z k. ⊎_elim (λ a. r.waiting z a) (λ e. subst (λ y. q y.left ≡ q y.right) e (r.classes p.left p.right same)) (has_pushed ps p z k);
      }

  -- the join is of the sides of the pair, one way or the other
  module _ (from to left right : ℕ) (forms : new.forms ≡ old.forms) (j : HasJoin old new from to left right p.why) (sides : (left ≡ p.left) × (right ≡ p.right) ⊎ ((left ≡ p.right) × (right ≡ p.left))) where
    abbrev E : Join
    E = j.join

    abbrev Later : List Join
    Later = old.log ++ j.join ∷ []

    ends_equal : name Later E.left ≡ name Later E.right
    ends_equal =
        name_push old.log E E.left ∙ renamed_from E (name old.log E.left) j.is.left
        ∙ sym (name_push old.log E E.right ∙ renamed_other E (name old.log E.right) (λ f. j.is.apart (sym f ∙ j.is.right)) ∙ j.is.right)

    sides_equal : name Later p.left ≡ name Later p.right
    sides_equal = ⊎_elim
        (λ s. ap (name Later) (sym (j.left_is ∙ s.0)) ∙ ends_equal ∙ ap (name Later) (j.right_is ∙ s.1))
        (λ s. ap (name Later) (sym (j.right_is ∙ s.1)) ∙ sym ends_equal ∙ ap (name Later) (j.left_is ∙ s.0))
        sides

    join_cause : (ms : List Merge) → IsCause old.forms ms old.log p.left p.right p.why → IsCause old.forms ms old.log E.left E.right E.why
    join_cause ms c = subst (λ o. IsCause old.forms ms old.log E.left E.right o) (sym j.why_is) (⊎_elim
        (λ s. subst (λ a. IsCause old.forms ms old.log a E.right p.why) (sym (j.left_is ∙ s.0)) (subst (λ b. IsCause old.forms ms old.log p.left b p.why) (sym (j.right_is ∙ s.1)) c))
        (λ s. subst (λ a. IsCause old.forms ms old.log a E.right p.why) (sym (j.left_is ∙ s.0)) (subst (λ b. IsCause old.forms ms old.log p.right b p.why) (sym (j.right_is ∙ s.1)) (cause_back old.forms ms old.log p.left p.right p.why c)))
        sides)

    wider : (q : ℕ → ℕ) → Respects Later ps q → Respects old.log (ps ++ p ∷ []) q
    wider q r = record {
      classes = λ x y e. r.classes x y (name_push old.log E x ∙ ap (renamed E) e ∙ sym (name_push old.log E y));
      waiting = λ z k. ⊎_elim (λ a. r.waiting z a) (λ e. subst (λ y. q y.left ≡ q y.right) e (r.classes p.left p.right sides_equal)) (has_pushed ps p z k);
    }

    resigned : (q : ℕ → ℕ) (w : ℕ) (f : Symbol) (xs : List TermId) → slice_get old.forms w ≡ Some (AppShape f xs) → IsSigned old.log sigs q f xs w → IsSigned Later sigs q f xs w ⊎ Has (slice_index_or new.users from []) w
    resigned q w f xs at s = ⊎_elim
        (λ a. inr (j.users.listed w f xs a.0 a.1 at a.2 (a.3 ∙ j.from_is)))
        (λ same. inl (record { term = s.term; found = subst (λ k. Has sigs (AppShape f k, s.term)) (sym same) s.found; same = s.same }))
        (names_kept old.log E xs)

    on_later : (ms : List Merge) → IsOnTheWay old.forms ms old.log sigs (ps ++ p ∷ []) [] → IsOnTheWay old.forms ms Later sigs ps (slice_index_or new.users from [])
    on_later ms on = record {
      caused = record {
        cause = λ i d at. ⊎_elim
            (λ a. subst (λ ds. IsCause old.forms ms ds d.left d.right d.why) (sym (front_pushed old.log E i (omega (arith, slice_get_within old.log i d a)))) (on.caused.cause i d a))
            (λ a. last ms on i d a)
            (pushed old.log E d i at);
      };
      signatures = record { term = λ i f ks v at. let t = on.signatures.term i f ks v at in (t.0, t.1, names_later old.log E t.0 ks t.2) };
      causes = λ r k. cause_later old.forms ms old.log E r.left r.right r.why (on.causes r (has_left ps (p ∷ []) r k));
      left_below = λ r k. on.left_below r (has_left ps (p ∷ []) r k);
      right_below = λ r k. on.right_below r (has_left ps (p ∷ []) r k);
      signed = λ q r w f xs at. ⊎_elim (λ s. resigned q w f xs at s) (λ h. absurd (has_none w h)) (on.signed q (wider q r) w f xs at);
      merged = λ q r. on.merged q (wider q r);
    }
      where
        all : take (length old.log) (old.log ++ j.join ∷ []) ≡ old.log
        all = front_pushed old.log j.join (length old.log) (omega arith) ∙ take_all (length old.log) old.log (omega arith)

        last : (ms : List Merge) → IsOnTheWay old.forms ms old.log sigs (ps ++ p ∷ []) [] → (i : ℕ) (d : Join) → (i ≡ length old.log) × (j.join ≡ d) → IsCause old.forms ms (take i (old.log ++ j.join ∷ [])) d.left d.right d.why
        last ms on i d a =
            subst (λ k. IsCause old.forms ms (take k (old.log ++ j.join ∷ [])) d.left d.right d.why) (sym a.0)
            (subst (λ ds. IsCause old.forms ms ds d.left d.right d.why) (sym all)
            (subst (λ z. IsCause old.forms ms old.log z.left z.right z.why) a.1 (join_cause ms (on.causes p (has_last ps p)))))

    pub two_classes : Goes old new sigs sigs (ps ++ p ∷ []) ps [] (slice_index_or new.users from [])
    two_classes = record {
      goes = λ ms on.
          subst (λ fs. IsOnTheWay fs ms new.log sigs ps (slice_index_or new.users from [])) (sym forms)
          (subst (λ es. IsOnTheWay old.forms ms es sigs ps (slice_index_or new.users from [])) (sym j.log) (on_later ms on));
    }

-- ---- the first and the last step

more_merges : (fs : List TermShape) (ms : List Merge) (m : Merge) (es : List Join) (x y : ℕ) (why : Option ℕ) → IsCause fs ms es x y why → IsCause fs (ms ++ m ∷ []) es x y why
more_merges fs ms m es x y (Some k) c = record { merge = c.merge; at = at_left ms (m ∷ []) k c.merge c.at; sides = c.sides }
more_merges fs ms m es x y None c = c

module _ (fs : List TermShape) (ms : List Merge) (es : List Join) (sigs : List Signature) where
  pub merge_waits : IsWhole fs ms es sigs → (m : Merge) (p : Pending) → p.left ≡ m.left.0 → p.right ≡ m.right.0 → p.why ≡ Some (length ms) → m.left.0 < length fs → m.right.0 < length fs → IsOnTheWay fs (ms ++ m ∷ []) es sigs (p ∷ []) []
  merge_waits whole m p left right why in_left in_right = record {
    caused = record { cause = λ j e at. more_merges fs ms m (take j es) e.left e.right e.why (whole.caused.cause j e at) };
    signatures = whole.signatures;
    causes = λ r h. subst (λ z. IsCause fs (ms ++ m ∷ []) es z.left z.right z.why) (only r h) (subst (λ o. IsCause fs (ms ++ m ∷ []) es p.left p.right o) (sym why) (record { merge = m; at = at_last ms m; sides = inl (sym left, sym right) }));
    left_below = λ r h. subst (λ z. z.left < length fs) (only r h) (subst (λ a. a < length fs) (sym left) in_left);
    right_below = λ r h. subst (λ z. z.right < length fs) (only r h) (subst (λ a. a < length fs) (sym right) in_right);
    signed = λ q r w f xs at. let s = whole.signed w f xs at in inl (record { term = s.term; found = s.found; same = r.classes w s.term s.same });
    merged = λ q r k d at. ⊎_elim
        (λ a. r.classes d.left.0 d.right.0 (whole.merged k d a))
        (λ a. subst (λ z. q z.left.0 ≡ q z.right.0) a.1 (ap q (sym left) ∙ r.waiting p (has_first p []) ∙ ap q right))
        (pushed ms m d k at);
  }
    where
      only : (r : Pending) → Has (p ∷ []) r → p ≡ r
      only r h = ⊎_elim (λ n. absurd (has_none r n)) (λ e. e) (has_cases p [] r h)

  pub nothing_waits : IsOnTheWay fs ms es sigs [] [] → IsWhole fs ms es sigs
  nothing_waits on = record {
    caused = on.caused;
    signatures = on.signatures;
    signed = λ w f xs at. ⊎_elim (λ s. s) (λ h. absurd (has_none w h)) (on.signed (name es) itself w f xs at);
    merged = on.merged (name es) itself;
  }
    where
      itself : Respects es [] (name es)
      itself = record { classes = λ x y e. e; waiting = λ p h. absurd (has_none p h) }

pub all_wait : (fs : List TermShape) (ws : List ℕ) → ((w : ℕ) → w < length fs → Has ws w) → IsOnTheWay fs [] [] [] [] ws
all_wait fs ws all = record {
  caused = record { cause = λ j e at. absurd (let no : None ≡ Some e = at in cc) };
  signatures = record { term = λ i f ks v at. absurd (let no : ◌≡◌ {A = Option Signature} None (Some (AppShape f ks, v)) = at in cc) };
  causes = λ p h. absurd (has_none p h);
  left_below = λ p h. absurd (has_none p h);
  right_below = λ p h. absurd (has_none p h);
  signed = λ q r w f xs at. inr (all w (slice_get_within fs w (AppShape f xs) at));
  merged = λ q r k m at. absurd (let no : None ≡ Some m = at in cc);
}

-- ---- all numbers

pub numbers_have : (from n w : ℕ) → from ≤ w → w < from + n → Has (numbers from n) w
unfolding numbers
numbers_have from zero w l h = absurd (omega (arith, l, h))
numbers_have from (suc n) w l h = ⊎_elim
    (λ more. has_more from (numbers (suc from) n) w (numbers_have (suc from) n w more (omega (arith, h))))
    (λ here. subst (λ z. Has (from ∷ numbers (suc from) n) z) (omega (arith, here, l)) (has_first from (numbers (suc from) n)))
    (cases_lt from w)

pub numbers_next : (from n : ℕ) → from < n → numbers from (n - from) ≡ from ∷ numbers (from + 1) (n - (from + 1))
unfolding numbers
numbers_next from n h =
    let left : n - from ≡ suc (n - (from + 1)) = omega (arith, h) in
    ap (numbers from) left ∙ ap (λ z. from ∷ numbers z (n - (from + 1))) (sym (add-one from))

pub numbers_end : (from n : ℕ) → n ≤ from → numbers from (n - from) ≡ []
unfolding numbers
numbers_end from n h = let left : n - from ≡ 0 = omega (arith, h) in ap (numbers from) left
