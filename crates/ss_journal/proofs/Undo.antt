-- What was logged takes changes back.
use Rattle.std.proofs.Common.{◌≡◌, ℕ, zero, suc, ◌+◌, ◌<◌, ◌≤◌, List, [], ◌∷◌, ◌++◌, length, take, Bool, true, false, not, ◌||◌, Option, Some, None, Result, Ok, Err, OnOk, OnErr, refl, sym, ◌∙◌, ap, subst, arith, ◌⊎◌, ⊎_elim}
use Rattle.std.specs.Prelude.{◌==◌, if◌then◌else◌, nat_lt, is_some, slice_get, unwrap_or}
use Rattle.std.specs.Option.{option_or}
use Rattle.std.proofs.lemmas.Bool.{eq-eqb, eqb-true, lt-ltb, ltb-true}
use Rattle.std.proofs.lemmas.List.{take_all}
use Rattle.std.specs.declared.alloc.AllocError.{AllocError}
use Rattle.ss_store_rules.specs.Store.{Object}
use Rattle.ss_store_rules.specs.Reads.{no_object, object_at}
use Rattle.ss_store_rules.specs.Changes.{changed_from, changed}
use Rattle.ss_journal.specs.declared.changes.OldHeader.{OldHeader}
use Rattle.ss_journal.specs.Shapes.{OldContent, Segment}
use Rattle.ss_journal.specs.Undo.{header_of, content_of, with_header, with_content, IsHeaderOf, IsContentOf, restored, store_at, entries_of, joined, with_old_header, with_old_content}
use Rattle.ss_journal.specs.Saved.{has_header, has_content, HasMore, AreSame}

-- ---- stores object by object

pub changed-again_from : (n : ℕ) (f g : ℕ → Object → Object) (s : List Object) → changed_from n f (changed_from n g s) ≡ changed_from n (λ q x. f q (g q x)) s
changed-again_from n f g [] = refl
changed-again_from n f g (x ∷ xs) = ap (λ r. f n (g n x) ∷ r) (changed-again_from (n + 1) f g xs)

same_from : (n : ℕ) (f g : ℕ → Object → Object) (s : List Object) → ((q : ℕ) (x : Object) → slice_get s q ≡ Some x → f (n + q) x ≡ g (n + q) x) → changed_from n f s ≡ changed_from n g s
same_from n f g [] h = refl
same_from n f g (x ∷ xs) h =
    let z : n + 0 ≡ n = omega arith in
    let here : f n x ≡ g n x = rw z at (h 0 x refl) in
    let rest = same_from (n + 1) f g xs (λ q y e. let m : n + suc q ≡ n + 1 + q = omega arith in rw m at (h (suc q) y e)) in
    cc

-- two changes that do the same with each object of the store
pub same_changed : (f g : ℕ → Object → Object) (s : List Object) → ((q : ℕ) (x : Object) → slice_get s q ≡ Some x → f q x ≡ g q x) → changed f s ≡ changed g s
same_changed f g s h = same_from 0 f g s (λ q x e. let z : 0 + q ≡ q = omega arith in rw z (h q x e))

take-changed_from : (n count : ℕ) (f : ℕ → Object → Object) (s : List Object) → take count (changed_from n f s) ≡ changed_from n f (take count s)
take-changed_from n zero f s = refl
take-changed_from n (suc count) f [] = refl
take-changed_from n (suc count) f (x ∷ xs) = ap (λ r. f n x ∷ r) (take-changed_from (n + 1) count f xs)

pub get_taken : (n : ℕ) (s : List Object) (q : ℕ) (x : Object) → slice_get (take n s) q ≡ Some x → (slice_get s q ≡ Some x) × (nat_lt q n ≡ true)
get_taken zero s q x e = cc
get_taken (suc n) [] q x e = cc
get_taken (suc n) (y ∷ s) zero x e = (e, lt-ltb 0 (suc n) (omega arith))
get_taken (suc n) (y ∷ s) (suc q) x e =
    let r = get_taken n s q x e in
    let l : suc q < suc n = let m = ltb-true q n r.1 in omega (arith, m) in
    (r.0, lt-ltb (suc q) (suc n) l)

-- ---- more is logged

pub more_same : (s : List Object) (gs : List Segment) → HasMore s gs gs
more_same s gs = record { entries = refl; counts = refl; headers = λ q e. e; contents = λ q e. e }

pub more_again : (s : List Object) (a b d : List Segment) → HasMore s a b → HasMore s b d → HasMore s a d
more_again s a b d one two = record {
  entries = two.entries ∙ one.entries;
  counts = two.counts ∙ one.counts;
  headers = λ q e. two.headers q (one.headers q e);
  contents = λ q e. two.contents q (one.contents q e);
}

either_more : {X : Type 0} (b : Bool) (h : X) (r t e : Option X) → t ≡ option_or r e → (if b then Some h else t) ≡ option_or (if b then Some h else r) e
either_more true h r t e is = refl
either_more false h r t e is = is

or_some : {X : Type 0} (b : Bool) (r e : Option X) → (b || is_some r) ≡ true → (b || is_some (option_or r e)) ≡ true
or_some true r e i = refl
or_some false (Some h) e i = refl
or_some false None e i = cc

or_last : {X : Type 0} (b : Bool) (r : Option X) (h : X) → (b || is_some (option_or r (Some h))) ≡ true
or_last true r h = refl
or_last false (Some x) h = refl
or_last false None h = refl

header_more : (hs : List OldHeader) (o : OldHeader) (q : ℕ) → header_of (hs ++ o ∷ []) q ≡ option_or (header_of hs q) (if q == o.position then Some o else None)
header_more [] o q = refl
header_more (h ∷ hs) o q = either_more (q == h.position) h (header_of hs q) (header_of (hs ++ o ∷ []) q) (if q == o.position then Some o else None) (header_more hs o q)

content_more : (cs : List OldContent) (o : OldContent) (q : ℕ) → content_of (cs ++ o ∷ []) q ≡ option_or (content_of cs q) (if q == o.position then Some o else None)
content_more [] o q = refl
content_more (c ∷ cs) o q = either_more (q == c.position) c (content_of cs q) (content_of (cs ++ o ∷ []) q) (if q == o.position then Some o else None) (content_more cs o q)

header_same : (r : Option OldHeader) (b : Bool) (o : OldHeader) (x : Object) → (b ≡ true → IsHeaderOf o x) → with_header (option_or r (if b then Some o else None)) x ≡ with_header r x
header_same (Some h) b o x is = refl
header_same None true o x is = let e = is refl in rw (e.level, e.committed, e.owner, e.ready) refl
header_same None false o x is = refl

content_same : (r : Option OldContent) (b : Bool) (o : OldContent) (x : Object) → (b ≡ true → IsContentOf o x) → with_content (option_or r (if b then Some o else None)) x ≡ with_content r x
content_same (Some h) b o x is = refl
content_same None true o x is = let e = is refl in rw (e.fields, e.elements) refl
content_same None false o x is = refl

content_after : (r : Option OldHeader) (o : OldContent) (x : Object) → IsContentOf o x → IsContentOf o (with_header r x)
content_after None o x is = is
content_after (Some h) o x is = record { fields = is.fields; elements = is.elements }

object_is : (s : List Object) (n q p : ℕ) (x : Object) → slice_get (take n s) q ≡ Some x → (q == p) ≡ true → object_at s p ≡ x
object_is s n q p x e b =
    let is : q ≡ p = eqb-true q p b in
    ap (λ i. object_at s i) (sym is) ∙ ap (λ o. unwrap_or o no_object) (get_taken n s q x e).0

pub header_logged : (s : List Object) (gs : List Segment) (o : OldHeader) → IsHeaderOf o (object_at s o.position) → HasMore s gs (with_old_header o gs)
header_logged s [] o is = more_same s []
header_logged s (g ∷ gs) o is = record {
  entries = ap (λ t. t ∷ entries_of gs t)
      (same_changed _ (restored g) (take g.count s)
      (λ q x e. ap (with_content (content_of g.contents q))
      (ap (λ r. with_header r x) (header_more g.headers o q)
      ∙ header_same (header_of g.headers q) (q == o.position) o x (λ b. subst (IsHeaderOf o) (object_is s g.count q o.position x e b) is))));
  counts = refl;
  headers = λ q e. ap (λ r. not (nat_lt q g.count) || is_some r) (header_more g.headers o q) ∙ or_some (not (nat_lt q g.count)) (header_of g.headers q) (if q == o.position then Some o else None) e;
  contents = λ q e. e;
}

pub header_has : (gs : List Segment) (o : OldHeader) (q : ℕ) → o.position ≡ q → has_header (with_old_header o gs) q ≡ true
header_has [] o q is = refl
header_has (g ∷ gs) o q is =
    ap (λ r. not (nat_lt q g.count) || is_some r) (header_more g.headers o q)
    ∙ ap (λ b. not (nat_lt q g.count) || is_some (option_or (header_of g.headers q) (if b then Some o else None))) (eq-eqb q o.position (sym is))
    ∙ or_last (not (nat_lt q g.count)) (header_of g.headers q) o

pub content_logged : (s : List Object) (gs : List Segment) (o : OldContent) → IsContentOf o (object_at s o.position) → HasMore s gs (with_old_content o gs)
content_logged s [] o is = more_same s []
content_logged s (g ∷ gs) o is = record {
  entries = ap (λ t. t ∷ entries_of gs t)
      (same_changed _ (restored g) (take g.count s)
      (λ q x e. ap (λ r. with_content r (with_header (header_of g.headers q) x)) (content_more g.contents o q)
      ∙ content_same (content_of g.contents q) (q == o.position) o (with_header (header_of g.headers q) x)
      (λ b. content_after (header_of g.headers q) o x (subst (IsContentOf o) (object_is s g.count q o.position x e b) is))));
  counts = refl;
  headers = λ q e. e;
  contents = λ q e. ap (λ r. not (nat_lt q g.count) || is_some r) (content_more g.contents o q) ∙ or_some (not (nat_lt q g.count)) (content_of g.contents q) (if q == o.position then Some o else None) e;
}

pub content_has : (gs : List Segment) (o : OldContent) (q : ℕ) → o.position ≡ q → has_content (with_old_content o gs) q ≡ true
content_has [] o q is = refl
content_has (g ∷ gs) o q is =
    ap (λ r. not (nat_lt q g.count) || is_some r) (content_more g.contents o q)
    ∙ ap (λ b. not (nat_lt q g.count) || is_some (option_or (content_of g.contents q) (if b then Some o else None))) (eq-eqb q o.position (sym is))
    ∙ or_last (not (nat_lt q g.count)) (content_of g.contents q) o

-- ---- changes

some_header : (r : Option OldHeader) (x y : Object) → is_some r ≡ true → ((h : OldHeader) → with_header (Some h) y ≡ with_header (Some h) x) → with_header r y ≡ with_header r x
some_header None x y has same = cc
some_header (Some h) x y has same = same h

some_content : (r : Option OldContent) (x y : Object) → is_some r ≡ true → ((c : OldContent) → with_content (Some c) y ≡ with_content (Some c) x) → with_content r y ≡ with_content r x
some_content None x y has same = cc
some_content (Some c) x y has same = same c

if_old : (b d : Bool) → b ≡ true → (not b || d) ≡ true → d ≡ true
if_old true d t e = e
if_old false d t e = cc

-- the change leaves the fields and elements of each object, and its class
abbrev pub IsOfHeaders : (ℕ → Object → Object) → Type 0
IsOfHeaders f = (q : ℕ) (x : Object) (h : OldHeader) → with_header (Some h) (f q x) ≡ with_header (Some h) x

-- the change leaves all but the fields and elements of each object
abbrev pub IsOfContents : (ℕ → Object → Object) → Type 0
IsOfContents f = (q : ℕ) (x : Object) (r : Option OldHeader) (c : OldContent) → with_content (Some c) (with_header r (f q x)) ≡ with_content (Some c) (with_header r x)

entry_same : (g : Segment) (f : ℕ → Object → Object) (s : List Object) → ((q : ℕ) (x : Object) → slice_get (take g.count s) q ≡ Some x → restored g q (f q x) ≡ restored g q x) → store_at g (changed f s) ≡ store_at g s
entry_same g f s same = ap (changed (restored g)) (take-changed_from 0 g.count f s) ∙ changed-again_from 0 (restored g) f (take g.count s) ∙ same_changed (λ q x. restored g q (f q x)) (restored g) (take g.count s) same

-- a change of headers, where each object is as before or its header is logged, leaves the entries
pub entries_stay : (gs : List Segment) (f : ℕ → Object → Object) (s : List Object) → IsOfHeaders f → ((q : ℕ) (x : Object) → slice_get s q ≡ Some x → (f q x ≡ x) ⊎ (has_header gs q ≡ true)) → entries_of gs (changed f s) ≡ entries_of gs s
entries_stay [] f s of why = refl
entries_stay (g ∷ gs) f s of why =
    ap (λ t. t ∷ entries_of gs t)
    (entry_same g f s (λ q x e. ⊎_elim
    (λ same. ap (restored g q) same)
    (λ has. ap (with_content (content_of g.contents q)) (some_header (header_of g.headers q) x (f q x) (if_old (nat_lt q g.count) (is_some (header_of g.headers q)) (get_taken g.count s q x e).1 has) (of q x)))
    (why q x (get_taken g.count s q x e).0)))

-- and so does a change of fields and elements, where they are logged
pub entries_stay_too : (gs : List Segment) (f : ℕ → Object → Object) (s : List Object) → IsOfContents f → ((q : ℕ) (x : Object) → slice_get s q ≡ Some x → (f q x ≡ x) ⊎ (has_content gs q ≡ true)) → entries_of gs (changed f s) ≡ entries_of gs s
entries_stay_too [] f s of why = refl
entries_stay_too (g ∷ gs) f s of why =
    ap (λ t. t ∷ entries_of gs t)
    (entry_same g f s (λ q x e. ⊎_elim
    (λ same. ap (restored g q) same)
    (λ has. some_content (content_of g.contents q) (with_header (header_of g.headers q) x) (with_header (header_of g.headers q) (f q x)) (if_old (nat_lt q g.count) (is_some (content_of g.contents q)) (get_taken g.count s q x e).1 has) (of q x (header_of g.headers q)))
    (why q x (get_taken g.count s q x e).0)))

-- ---- entries and exits of bodies

untouched_from : (n : ℕ) (s : List Object) (k : ℕ) → changed_from n (restored (record { count = k; headers = []; contents = [] })) s ≡ s
untouched_from n [] k = refl
untouched_from n (x ∷ s) k = ap (λ r. x ∷ r) (untouched_from (n + 1) s k)

-- a body that is entered now has the store of now as that of its entry
pub entries-entered : (gs : List Segment) (s : List Object) → entries_of (record { count = length s; headers = []; contents = [] } ∷ gs) s ≡ s ∷ entries_of gs s
entries-entered gs s =
    let e : store_at (record { count = length s; headers = []; contents = [] }) s ≡ s = ap (changed_from 0 (restored (record { count = length s; headers = []; contents = [] }))) (take_all (length s) s (omega arith)) ∙ untouched_from 0 s (length s) in
    ap (λ t. t ∷ entries_of gs t) e

header_joined : (hs ks : List OldHeader) (q : ℕ) → header_of (hs ++ ks) q ≡ option_or (header_of hs q) (header_of ks q)
header_joined [] ks q = refl
header_joined (h ∷ hs) ks q = either_more (q == h.position) h (header_of hs q) (header_of (hs ++ ks) q) (header_of ks q) (header_joined hs ks q)

content_joined : (bs cs : List OldContent) (q : ℕ) → content_of (bs ++ cs) q ≡ option_or (content_of bs q) (content_of cs q)
content_joined [] cs q = refl
content_joined (b ∷ bs) cs q = either_more (q == b.position) b (content_of bs q) (content_of (bs ++ cs) q) (content_of cs q) (content_joined bs cs q)

both_joined : (a b : Option OldHeader) (c d : Option OldContent) (x : Object) → with_content (option_or c d) (with_header (option_or a b) x) ≡ with_content c (with_header a (with_content d (with_header b x)))
both_joined None None None None x = refl
both_joined None None None (Some d) x = refl
both_joined None None (Some c) None x = refl
both_joined None None (Some c) (Some d) x = refl
both_joined None (Some b) None None x = refl
both_joined None (Some b) None (Some d) x = refl
both_joined None (Some b) (Some c) None x = refl
both_joined None (Some b) (Some c) (Some d) x = refl
both_joined (Some a) None None None x = refl
both_joined (Some a) None None (Some d) x = refl
both_joined (Some a) None (Some c) None x = refl
both_joined (Some a) None (Some c) (Some d) x = refl
both_joined (Some a) (Some b) None None x = refl
both_joined (Some a) (Some b) None (Some d) x = refl
both_joined (Some a) (Some b) (Some c) None x = refl
both_joined (Some a) (Some b) (Some c) (Some d) x = refl

take_part : (i j : ℕ) (xs : List Object) → i ≤ j → take i (take j xs) ≡ take i xs
take_part zero j xs l = refl
take_part (suc i) zero xs l = absurd (omega (arith, l))
take_part (suc i) (suc j) [] l = refl
take_part (suc i) (suc j) (x ∷ xs) l = ap (λ r. x ∷ r) (take_part i j xs (omega (arith, l)))

-- where a body is left, the stores at the entries of the others stay
pub entries-left : (g h : Segment) (gs : List Segment) (s : List Object) → h.count ≤ g.count → entries_of (joined (g ∷ h ∷ gs)) s ≡ store_at h (store_at g s) ∷ entries_of gs (store_at h (store_at g s))
entries-left g h gs s l =
    let j : Segment = record { count = h.count; headers = h.headers ++ g.headers; contents = h.contents ++ g.contents } in
    let each : changed (restored j) (take h.count s) ≡ changed (λ q x. restored h q (restored g q x)) (take h.count s) =
    same_changed (restored j) (λ q x. restored h q (restored g q x)) (take h.count s)
    (λ q x e. ap (λ r. with_content r (with_header (header_of (h.headers ++ g.headers) q) x)) (content_joined h.contents g.contents q)
    ∙ ap (λ r. with_content (option_or (content_of h.contents q) (content_of g.contents q)) (with_header r x)) (header_joined h.headers g.headers q)
    ∙ both_joined (header_of h.headers q) (header_of g.headers q) (content_of h.contents q) (content_of g.contents q) x) in
    let before : store_at h (store_at g s) ≡ changed (λ q x. restored h q (restored g q x)) (take h.count s) =
    ap (changed (restored h)) (take-changed_from 0 h.count (restored g) (take g.count s) ∙ ap (changed (restored g)) (take_part h.count g.count s l))
    ∙ changed-again_from 0 (restored h) (restored g) (take h.count s) in
    ap (λ t. t ∷ entries_of gs t) (each ∙ sym before)

-- ---- what a call that logs gives

pub header_saved : (s : List Object) (old new : List Segment) (o : OldHeader) (q : ℕ) (r : Result (Unit {0}) AllocError) → o.position ≡ q → IsHeaderOf o (object_at s q) → OnOk r (new ≡ with_old_header o old) → OnErr r (new ≡ old) → HasMore s old new
header_saved s old new o q (Ok u) p is ok err = subst (λ gs. HasMore s old gs) (sym ok) (header_logged s old o (subst (λ i. IsHeaderOf o (object_at s i)) (sym p) is))
header_saved s old new o q (Err e) p is ok err = subst (λ gs. HasMore s old gs) (sym err) (more_same s old)

pub header_there : (old new : List Segment) (o : OldHeader) (q : ℕ) (r : Result (Unit {0}) AllocError) → o.position ≡ q → OnOk r (new ≡ with_old_header o old) → OnOk r (has_header new q ≡ true)
header_there old new o q (Ok u) p ok = ap (λ gs. has_header gs q) ok ∙ header_has old o q p
header_there old new o q (Err e) p ok = tt

pub content_saved : (s : List Object) (old new : List Segment) (o : OldContent) (r : Result (Unit {0}) AllocError) → IsContentOf o (object_at s o.position) → OnOk r (new ≡ with_old_content o old) → OnErr r (new ≡ old) → HasMore s old new
content_saved s old new o (Ok u) is ok err = subst (λ gs. HasMore s old gs) (sym ok) (content_logged s old o is)
content_saved s old new o (Err e) is ok err = subst (λ gs. HasMore s old gs) (sym err) (more_same s old)

pub content_there : (old new : List Segment) (o : OldContent) (r : Result (Unit {0}) AllocError) → OnOk r (new ≡ with_old_content o old) → OnOk r (has_content new o.position ≡ true)
content_there old new o (Ok u) ok = ap (λ gs. has_content gs o.position) ok ∙ content_has old o o.position refl
content_there old new o (Err e) ok = tt

-- ---- entries that may go

pub same_again : (a b d : List Segment) → AreSame a b → AreSame b d → AreSame a d
same_again a b d one two = record { entries = λ s. two.entries s ∙ one.entries s; counts = two.counts ∙ one.counts }

or_same : {X : Type 0} (r : Option X) (b : Bool) (h : X) → (b ≡ true → is_some r ≡ true) → option_or r (if b then Some h else None) ≡ r
or_same (Some x) b h some = refl
or_same None true h some = let e = some refl in cc
or_same None false h some = refl

-- the entry of an object that is new since the entry of the body, or that has an earlier one
pub header_goes : (g : Segment) (gs : List Segment) (h : OldHeader) → (not (nat_lt h.position g.count) || is_some (header_of g.headers h.position)) ≡ true → AreSame (with_old_header h (g ∷ gs)) (g ∷ gs)
header_goes g gs h has = record {
  entries = λ s. sym (ap (λ t. t ∷ entries_of gs t)
      (same_changed _ (restored g) (take g.count s)
      (λ q x e. ap (with_content (content_of g.contents q))
      (ap (λ r. with_header r x)
      (header_more g.headers h q
      ∙ or_same (header_of g.headers q) (q == h.position) h
      (λ b. let is : q ≡ h.position = eqb-true q h.position b in
      subst (λ i. is_some (header_of g.headers i) ≡ true) (sym is)
      (if_old (nat_lt h.position g.count) (is_some (header_of g.headers h.position)) (subst (λ i. nat_lt i g.count ≡ true) is (get_taken g.count s q x e).1) has)))))));
  counts = refl;
}

pub content_goes : (g : Segment) (gs : List Segment) (c : OldContent) → (not (nat_lt c.position g.count) || is_some (content_of g.contents c.position)) ≡ true → AreSame (with_old_content c (g ∷ gs)) (g ∷ gs)
content_goes g gs c has = record {
  entries = λ s. sym (ap (λ t. t ∷ entries_of gs t)
      (same_changed _ (restored g) (take g.count s)
      (λ q x e. ap (λ r. with_content r (with_header (header_of g.headers q) x))
      (content_more g.contents c q
      ∙ or_same (content_of g.contents q) (q == c.position) c
      (λ b. let is : q ≡ c.position = eqb-true q c.position b in
      subst (λ i. is_some (content_of g.contents i) ≡ true) (sym is)
      (if_old (nat_lt c.position g.count) (is_some (content_of g.contents c.position)) (subst (λ i. nat_lt i g.count ≡ true) is (get_taken g.count s q x e).1) has))))));
  counts = refl;
}
