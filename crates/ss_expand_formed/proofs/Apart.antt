-- Each name stands once in a table of methods.
use Rattle.std.proofs.Common.{◌≡◌, ℕ, zero, suc, List, [], ◌∷◌, ◌++◌, map, Bool, true, false, Option, Some, None, refl, sym, ◌∙◌, ap, subst, ⊎_elim}
use Rattle.std.specs.Prelude.{not, slice_get, filter}
use Rattle.std.specs.Str.{bytes_eq}
use Rattle.std.proofs.lemmas.Slice.Eq.{bytes_eq-Decides}
use Rattle.std.proofs.lemmas.Option.{same_Some}
use Rattle.std.proofs.lemmas.Bool.{cases_Bool, or_left, or_right, false≢true}
use Rattle.std.proofs.lemmas.List.{map-append}
use Rattle.std.proofs.lemmas.List.Folds.{list_any-append}
use Rattle.ss_core.specs.Tree as core
use Rattle.ss_ast.specs.declared.class.Modifier.{Modifier}
use Rattle.ss_ast.specs.Expressions.{NameTree}
use Rattle.ss_ast.specs.Programs.{MemberKindTree, FieldsOf, InvariantOf, MethodOf, ConstructorOf, MemberTree, ClassTree, ProgramTree}
use Rattle.ss_tables.specs.Members.{MethodTree, methods_of_kind, methods_in}
use Rattle.ss_tables.specs.Classes.{members_in, members_at, chain}
use Rattle.ss_core.specs.declared.rules.Rule.TheVariants as rule
use Rattle.ss_resolver_names_rules.specs.Faults.{fault, is_listed, with_name, twice, twice_among}
use Rattle.ss_resolver_names_rules.specs.Members.{kind_names, member_names}
use Rattle.ss_resolver_names_rules.specs.Programs.{program_faults}
use Rattle.ss_resolver_rules.specs.Numbers.{names_of, method_names, declared_entry, overridden, added, table_along, table}
use Rattle.ss_expand_formed.proofs.Facts.{none_left}
use Rattle.ss_expand_formed.proofs.Searching.{any_at, filtered_from}
use Rattle.ss_expand_formed.proofs.Entries.{append_from}
use Rattle.ss_expand_formed.proofs.Members.{class_parts}

-- each name stands at one place
pub record AreApart (ns : List (List ℕ)) : Type 0 where
  pub apart : (i j : ℕ) (n : List ℕ) → slice_get ns i ≡ Some n → slice_get ns j ≡ Some n → i ≡ j

-- ---- lists

pub apart_rest : (n : List ℕ) (ns : List (List ℕ)) → AreApart (n ∷ ns) → AreApart ns
apart_rest n ns h = record { apart = λ i j x ei ej. let e : suc i ≡ suc j = h.apart (suc i) (suc j) x ei ej in cc }

apart_first : (n : List ℕ) (ns : List (List ℕ)) → AreApart ns → ((j : ℕ) → slice_get ns j ≡ Some n → ⊥) → AreApart (n ∷ ns)
apart_first n ns h other = record { apart = both }
  where
    both : (i j : ℕ) (x : List ℕ) → slice_get (n ∷ ns) i ≡ Some x → slice_get (n ∷ ns) j ≡ Some x → i ≡ j
    both zero zero x ei ej = refl
    both zero (suc j) x ei ej = absurd (other j (ej ∙ sym ei))
    both (suc i) zero x ei ej = absurd (other i (ei ∙ sym ej))
    both (suc i) (suc j) x ei ej = ap suc (h.apart i j x ei ej)

apart_none : AreApart []
apart_none = record { apart = λ i j x ei ej. absurd (let z : ⊥ = cc in z) }

-- without some of them
apart_filter : (test : List ℕ → Bool) (ns : List (List ℕ)) → AreApart ns → AreApart (filter test ns)
apart_filter test [] h = h
apart_filter test (n ∷ ns) h =
    let rest = apart_filter test ns (apart_rest n ns h) in
    ⊎_elim
    (λ yes. rw yes (apart_first n (filter test ns) rest (λ j e. let f = filtered_from test ns j n e in let z : 0 ≡ suc f.0 = h.apart 0 (suc f.0) n refl f.1 in let no : ⊥ = cc in no)))
    (λ other. rw other rest)
    (cases_Bool (test n))

-- after others of which they are none
apart_append : (xs ys : List (List ℕ)) → AreApart xs → AreApart ys → ((i j : ℕ) (n : List ℕ) → slice_get xs i ≡ Some n → slice_get ys j ≡ Some n → ⊥) → AreApart (xs ++ ys)
apart_append [] ys hx hy other = hy
apart_append (x ∷ xs) ys hx hy other =
    apart_first x (xs ++ ys) (apart_append xs ys (apart_rest x xs hx) hy (λ i j n ei ej. other (suc i) j n ei ej)) (λ j e.
    ⊎_elim
    (λ l. let z : 0 ≡ suc l.0 = hx.apart 0 (suc l.0) x refl l.1 in let no : ⊥ = cc in no)
    (λ r. other 0 r.0 x refl r.1)
    (append_from xs ys j x e))

-- ---- names of methods

still : (t : List ℕ) (before : List (List ℕ)) (u : List ℕ) → is_listed before t ≡ true → is_listed (with_name before u) t ≡ true
still t before u l =
    ⊎_elim
    (λ yes. rw yes l)
    (λ other. rw other (list_any-append (bytes_eq t) before (u ∷ []) ∙ or_left (is_listed before t) _ l))
    (cases_Bool (is_listed before u))

now_listed : (before : List (List ℕ)) (u : List ℕ) → is_listed (with_name before u) u ≡ true
now_listed before u =
    ⊎_elim
    (λ yes. rw yes yes)
    (λ other. rw other (list_any-append (bytes_eq u) before (u ∷ []) ∙ or_right (is_listed before u) _ (or_left (bytes_eq u u) false ((bytes_eq-Decides u u).1 refl))))
    (cases_Bool (is_listed before u))

-- what is listed before doesn't come again
not_again : (t : List ℕ) (before : List (List ℕ)) (ns : List NameTree) → twice_among before ns ≡ [] → is_listed before t ≡ true → (i : ℕ) (n : NameTree) → slice_get ns i ≡ Some n → n.text ≡ t → ⊥
not_again t before [] h l i n e same = let z : ⊥ = cc in z
not_again t before (x ∷ ns) h l zero n e same =
    let both = none_left (twice before x) (twice_among (with_name before x.text) ns) h in
    let it : x.text ≡ t = ap (λ (y : NameTree). y.text) (same_Some _ _ e) ∙ same in
    let listed : is_listed before x.text ≡ true = subst (λ u. is_listed before u ≡ true) (sym it) l in
    let bad : fault rule.Twice x.place ≡ [] = rw listed at both.0 in
    let z : ⊥ = cc in z
not_again t before (x ∷ ns) h l (suc i) n e same =
    let both = none_left (twice before x) (twice_among (with_name before x.text) ns) h in
    not_again t (with_name before x.text) ns both.1 (still t before x.text l) i n e same

after_names : (before : List (List ℕ)) (xs ys : List NameTree) → twice_among before (xs ++ ys) ≡ [] → (now : List (List ℕ)) × (twice_among now ys ≡ [])
after_names before [] ys h = (before, h)
after_names before (x ∷ xs) ys h =
    let both = none_left (twice before x) (twice_among (with_name before x.text) (xs ++ ys)) h in
    after_names (with_name before x.text) xs ys both.1

place_behind : {X : Type 0} (xs ys : List X) (i : ℕ) (x : X) → slice_get ys i ≡ Some x → (k : ℕ) × (slice_get (xs ++ ys) k ≡ Some x)
place_behind [] ys i x h = (i, h)
place_behind (z ∷ xs) ys i x h = let r = place_behind xs ys i x h in (suc r.0, r.1)

-- each method's name is that of a member
abbrev HasName : List ℕ → List NameTree → Type 0
HasName x ns = (k : ℕ) × (n : NameTree) × (slice_get ns k ≡ Some n) × (n.text ≡ x)

after_kind : (xs ys : List NameTree) (x : List ℕ) → HasName x ys → HasName x (xs ++ ys)
after_kind xs ys x r = let q = place_behind xs ys r.0 r.1 r.2 in (q.0, r.1, q.1, r.3)

kind_named : (attributes : List NameTree) (words : List Modifier) (kind : MemberKindTree) (ms : List MemberTree) (x : List ℕ) → ((i : ℕ) → slice_get (method_names ms) i ≡ Some x → HasName x (member_names ms)) →
    (i : ℕ) → slice_get (map (λ (m : MethodTree). m.name.text) (methods_of_kind attributes words kind ++ methods_in ms)) i ≡ Some x → HasName x (kind_names kind ++ member_names ms)
kind_named attributes words (FieldsOf d) ms x rest i h = after_kind (kind_names (FieldsOf d)) (member_names ms) x (rest i h)
kind_named attributes words (InvariantOf e) ms x rest i h = rest i h
kind_named attributes words (ConstructorOf n ps base cs b) ms x rest i h = rest i h
kind_named attributes words (MethodOf r n ps cs b) ms x rest zero h = (0, n, refl, same_Some _ _ h)
kind_named attributes words (MethodOf r n ps cs b) ms x rest (suc i) h = after_kind (n ∷ []) (member_names ms) x (rest i h)

method_named : (ms : List MemberTree) (x : List ℕ) (i : ℕ) → slice_get (method_names ms) i ≡ Some x → HasName x (member_names ms)
method_named [] x i h = absurd (let z : ⊥ = cc in z)
method_named (m ∷ ms) x i h = kind_named m.attributes m.modifiers m.kind ms x (method_named ms x) i h

kind_apart : (attributes : List NameTree) (words : List Modifier) (kind : MemberKindTree) (before : List (List ℕ)) (ms : List MemberTree) → ((now : List (List ℕ)) → twice_among now (member_names ms) ≡ [] → AreApart (method_names ms)) →
    twice_among before (kind_names kind ++ member_names ms) ≡ [] → AreApart (map (λ (m : MethodTree). m.name.text) (methods_of_kind attributes words kind ++ methods_in ms))
kind_apart attributes words (FieldsOf d) before ms rest h = let r = after_names before (kind_names (FieldsOf d)) (member_names ms) h in rest r.0 r.1
kind_apart attributes words (InvariantOf e) before ms rest h = rest before h
kind_apart attributes words (ConstructorOf n ps base cs b) before ms rest h = rest before h
kind_apart attributes words (MethodOf r n ps cs b) before ms rest h =
    let both = none_left (twice before n) (twice_among (with_name before n.text) (member_names ms)) h in
    apart_first n.text (method_names ms) (rest (with_name before n.text) both.1) (λ j e.
    let w = method_named ms n.text j e in
    not_again n.text (with_name before n.text) (member_names ms) both.1 (now_listed before n.text) w.0 w.1 w.2 w.3)

methods_apart : (before : List (List ℕ)) (ms : List MemberTree) → twice_among before (member_names ms) ≡ [] → AreApart (method_names ms)
methods_apart before [] h = apart_none
methods_apart before (m ∷ ms) h = kind_apart m.attributes m.modifiers m.kind before ms (λ now k. methods_apart now ms k) h

-- ---- names of tables

overridden_name : (cs : List ClassTree) (k : ℕ) (e : core.EntryTree) → (overridden cs k e).name ≡ e.name
overridden_name cs k e =
    ⊎_elim
    (λ yes. rw yes refl)
    (λ other. rw other refl)
    (cases_Bool (is_listed (method_names (members_at cs k)) e.name))

overridden_names : (cs : List ClassTree) (k : ℕ) (es : List core.EntryTree) → names_of (map (overridden cs k) es) ≡ names_of es
overridden_names cs k [] = refl
overridden_names cs k (e ∷ es) = rw (overridden_name cs k e) (ap (λ ns. e.name ∷ ns) (overridden_names cs k es))

added_names : (cs : List ClassTree) (k : ℕ) (ns : List (List ℕ)) → names_of (map (declared_entry cs k) ns) ≡ ns
added_names cs k [] = refl
added_names cs k (n ∷ ns) = ap (λ xs. n ∷ xs) (added_names cs k ns)

filter_passes : (test : List ℕ → Bool) (ns : List (List ℕ)) (i : ℕ) (n : List ℕ) → slice_get (filter test ns) i ≡ Some n → test n ≡ true
filter_passes test [] i n h = absurd (let z : ⊥ = cc in z)
filter_passes test (x ∷ ns) i n h =
    ⊎_elim
    (λ yes. front i (λ j e. filter_passes test ns j n e) (rw yes at h) yes)
    (λ other. filter_passes test ns i n (rw other at h))
    (cases_Bool (test x))
  where
    front : (j : ℕ) → ((k : ℕ) → slice_get (filter test ns) k ≡ Some n → test n ≡ true) → slice_get (x ∷ filter test ns) j ≡ Some n → test x ≡ true → test n ≡ true
    front zero rest e passed = subst (λ y. test y ≡ true) (same_Some _ _ e) passed
    front (suc j) rest e passed = rest j e

module _ (p : ProgramTree) (faultless : program_faults p ≡ []) where
  pub members_apart : (k : ℕ) → AreApart (method_names (members_at p.classes k))
  members_apart k = look (slice_get p.classes k) refl
    where
      look : (o : Option ClassTree) → slice_get p.classes k ≡ o → AreApart (method_names (members_in o))
      look None e = apart_none
      look (Some c) e = methods_apart [] c.members (class_parts p faultless k c e).twice

  along_apart : (ks : List ℕ) → AreApart (names_of (table_along p.classes ks))
  along_apart [] = apart_none
  along_apart (k ∷ ks) =
      let over = table_along p.classes ks in
      let test = λ (n : List ℕ). not (is_listed (names_of over) n) in
      let new = filter test (method_names (members_at p.classes k)) in
      let is : names_of (table_along p.classes (k ∷ ks)) ≡ names_of over ++ new =
      map-append (λ (e : core.EntryTree). e.name) (map (overridden p.classes k) over) (added p.classes k over) ∙ ap (λ ns. ns ++ names_of (added p.classes k over)) (overridden_names p.classes k over) ∙ ap (λ ns. names_of over ++ ns) (added_names p.classes k new) in
      subst AreApart (sym is) (apart_append (names_of over) new (along_apart ks) (apart_filter test (method_names (members_at p.classes k)) (members_apart k)) (λ i j n ei ej.
      let listed : is_listed (names_of over) n ≡ true = any_at (bytes_eq n) (names_of over) i n ei ((bytes_eq-Decides n n).1 refl) in
      let fresh : not (is_listed (names_of over) n) ≡ true = filter_passes test (method_names (members_at p.classes k)) j n ej in
      let bad : false ≡ true = rw listed at fresh in
      false≢true bad))

  pub table_apart : (k : ℕ) → AreApart (names_of (table p.classes k))
  table_apart k = along_apart (chain p.classes k)
