-- The running body's entries and their places.
use Rattle.std.proofs.Common.{◌≡◌, ℕ, zero, suc, ◌-◌, ◌≤◌, List, [], ◌∷◌, ◌++◌, length, map, take, drop, reverse, Bool, true, false, not, ◌||◌, Option, Some, None, refl, sym, ◌∙◌, ap, subst, arith}
use Rattle.std.specs.Prelude.{◌==◌, if◌then◌else◌, nat_lt, slice_get, is_some, option_map}
use Rattle.std.proofs.lemmas.Bool.{ltb-true}
use Rattle.std.proofs.lemmas.List.{map-append, drop-map}
use Rattle.std.proofs.lemmas.Option.{slice_get_within}
use Rattle.ss_journal.specs.declared.changes.OldHeader.{OldHeader}
use Rattle.ss_journal.specs.declared.journal.Mark.{Mark}
use Rattle.ss_journal.specs.Shapes.{OldContent, Segment}
use Rattle.ss_journal.specs.Undo.{header_of, content_of, headers_of, contents_of}
use Rattle.ss_journal.specs.Places.{place_of, at_place}
use Rattle.ss_journal.specs.Marks.{segments, AreWithin, IsLog, header_positions, content_positions}
use Rattle.ss_journal.proofs.Marks.{newest as newest_mark, after_split}

take_map : {X : Type 0} (f : X → ℕ) (n : ℕ) (xs : List X) → take n (map f xs) ≡ map f (take n xs)
take_map f zero xs = refl
take_map f (suc n) [] = refl
take_map f (suc n) (x ∷ xs) = ap (λ r. f x ∷ r) (take_map f n xs)

map_length : {X : Type 0} (f : X → ℕ) (xs : List X) → length (map f xs) ≡ length xs
map_length f [] = refl
map_length f (x ∷ xs) = ap suc (map_length f xs)

taken_map : {X : Type 0} (f : X → ℕ) (xs : List X) → take (length (map f xs) - 1) (map f xs) ≡ map f (take (length xs - 1) xs)
taken_map f xs = ap (λ n. take (n - 1) (map f xs)) (map_length f xs) ∙ take_map f (length xs - 1) xs

has_step : {X : Type 0} (b : Bool) (r : Option ℕ) (h : X) (e : Option X) → is_some r ≡ is_some e → is_some (if b then Some 0 else option_map suc r) ≡ is_some (if b then Some h else e)
has_step true r h e is = refl
has_step false None h e is = is
has_step false (Some i) h e is = is

marked : (xs ds : List Mark) (m : Mark) → ds ≡ xs → Some m ≡ slice_get ds (length ds - 1) → slice_get xs (length xs - 1) ≡ Some m
marked xs ds m same item = ap (λ zs. slice_get zs (length zs - 1)) (sym same) ∙ sym item

last_at : {X : Type 0} (n : ℕ) (xs : List X) (x : X) → length xs ≡ suc n → Some x ≡ slice_get xs n → xs ≡ take n xs ++ x ∷ []
last_at n [] x l e = absurd (omega (arith, l))
last_at zero (y ∷ []) x l e = let same : y ≡ x = cc in ap (λ z. z ∷ []) same
last_at zero (y ∷ z ∷ xs) x l e = absurd (omega (arith, l))
last_at (suc n) (y ∷ xs) x l e = ap (λ r. y ∷ r) (last_at n xs x (omega (arith, l)) e)

pub last_split : {X : Type 0} (xs : List X) (x : X) → Some x ≡ slice_get xs (length xs - 1) → xs ≡ take (length xs - 1) xs ++ x ∷ []
last_split xs x e = let l = slice_get_within xs (length xs - 1) x (sym e) in last_at (length xs - 1) xs x (omega (arith, l)) e

pub new_or : (p n : ℕ) (b : Bool) → n ≤ p → (not (nat_lt p n) || b) ≡ true
new_or p n b l = by_lt (nat_lt p n) refl
  where
    by_lt : (t : Bool) → nat_lt p n ≡ t → (not t || b) ≡ true
    by_lt true e = let k = ltb-true p n e in absurd (omega (arith, l, k))
    by_lt false e = refl

pub or_has : (a b : Bool) → b ≡ true → (a || b) ≡ true
or_has true b e = refl
or_has false b e = e

-- ---- headers

header_step : (b : Bool) (h : OldHeader) (hs : List OldHeader) (e : Option OldHeader) (r : Option ℕ) → e ≡ at_place hs r → (if b then Some h else e) ≡ at_place (h ∷ hs) (if b then Some 0 else option_map suc r)
header_step true h hs e r is = refl
header_step false h hs e None is = is
header_step false h hs e (Some i) is = is

-- the first entry is at its place
pub header_at_place : (hs : List OldHeader) (q : ℕ) → at_place hs (place_of (header_positions hs) q) ≡ header_of hs q
header_at_place [] q = refl
header_at_place (h ∷ hs) q = sym (header_step (q == h.position) h hs (header_of hs q) (place_of (header_positions hs) q) (sym (header_at_place hs q)))

pub header_has : (hs : List OldHeader) (q : ℕ) → is_some (place_of (header_positions hs) q) ≡ is_some (header_of hs q)
header_has [] q = refl
header_has (h ∷ hs) q = has_step (q == h.position) (place_of (header_positions hs) q) h (header_of hs q) (header_has hs q)

-- those of the running body, by its mark
running_headers : (xs ds : List Mark) (hs : List OldHeader) (cs : List OldContent) (now : List Segment) (m : Mark) → ds ≡ xs → Some m ≡ slice_get ds (length ds - 1) → segments (reverse xs) hs cs ≡ now → headers_of now ≡ drop m.headers hs
running_headers xs ds hs cs now m same item view = sym (ap headers_of view) ∙ ap (λ ms. headers_of (segments ms hs cs)) (newest_mark xs m (marked xs ds m same item))

pub header_places : (xs ds : List Mark) (hs : List OldHeader) (cs : List OldContent) (ps rs : List ℕ) (now : List Segment) (m : Mark) → IsLog (reverse xs) hs cs ps rs → ds ≡ xs → Some m ≡ slice_get ds (length ds - 1) → segments (reverse xs) hs cs ≡ now → drop m.headers ps ≡ header_positions (headers_of now)
header_places xs ds hs cs ps rs now m log same item view =
    ap (drop m.headers) log.headers ∙ drop-map (λ (h : OldHeader). h.position) m.headers hs ∙ ap header_positions (sym (running_headers xs ds hs cs now m same item view))

pub header_logged : (xs ds : List Mark) (hs : List OldHeader) (cs : List OldContent) (ps rs : List ℕ) (now : List Segment) (m : Mark) (q : ℕ) → IsLog (reverse xs) hs cs ps rs → ds ≡ xs → Some m ≡ slice_get ds (length ds - 1) → segments (reverse xs) hs cs ≡ now → is_some (place_of (drop m.headers ps) q) ≡ is_some (header_of (headers_of now) q)
header_logged xs ds hs cs ps rs now m q log same item view =
    ap (λ zs. is_some (place_of zs q)) (header_places xs ds hs cs ps rs now m log same item view) ∙ header_has (headers_of now) q

pub header_repeats : (xs ds : List Mark) (hs : List OldHeader) (cs : List OldContent) (ps rs : List ℕ) (now : List Segment) (m : Mark) (b : Bool) (before : List OldHeader) (last : OldHeader) → IsLog (reverse xs) hs cs ps rs → ds ≡ xs → Some m ≡ slice_get ds (length ds - 1) → segments (reverse xs) hs cs ≡ now → ((ys : List ℕ) (q : ℕ) → ps ≡ ys ++ q ∷ [] → b ≡ is_some (place_of (drop m.headers ys) q)) → headers_of now ≡ before ++ last ∷ [] → b ≡ is_some (header_of before last.position)
header_repeats xs ds hs cs ps rs now m b before last log same item view repeats is =
    let within : AreWithin (m ∷ reverse (take (length xs - 1) xs)) (length hs) (length cs) = subst (λ ms. AreWithin ms (length hs) (length cs)) (newest_mark xs m (marked xs ds m same item)) log.within in
    let split = after_split m.headers hs before last within.0 (sym (running_headers xs ds hs cs now m same item view) ∙ is) in
    let rest = take (length hs - 1) hs in
    repeats (header_positions rest) last.position (log.headers ∙ ap header_positions split.0 ∙ map-append (λ (h : OldHeader). h.position) rest (last ∷ []))
    ∙ ap (λ zs. is_some (place_of zs last.position)) (drop-map (λ (h : OldHeader). h.position) m.headers rest ∙ ap header_positions split.1)
    ∙ header_has before last.position

-- the last one goes
pub header_less : (hs ks : List OldHeader) (ps qs : List ℕ) → ks ≡ take (length hs - 1) hs → ps ≡ header_positions hs → qs ≡ take (length ps - 1) ps → qs ≡ header_positions ks
header_less hs ks ps qs cut log less =
    less ∙ ap (λ zs. take (length zs - 1) zs) log ∙ taken_map (λ (h : OldHeader). h.position) hs ∙ ap header_positions (sym cut)

pub header_pushed : (hs ks : List OldHeader) (h : OldHeader) (ps qs : List ℕ) → ks ≡ hs ++ h ∷ [] → ps ≡ header_positions hs → qs ≡ ps ++ h.position ∷ [] → qs ≡ header_positions ks
header_pushed hs ks h ps qs is log more = more ∙ ap (λ zs. zs ++ h.position ∷ []) log ∙ sym (map-append (λ (h : OldHeader). h.position) hs (h ∷ [])) ∙ ap header_positions (sym is)

-- ---- contents

content_step : (b : Bool) (h : OldContent) (hs : List OldContent) (e : Option OldContent) (r : Option ℕ) → e ≡ at_place hs r → (if b then Some h else e) ≡ at_place (h ∷ hs) (if b then Some 0 else option_map suc r)
content_step true h hs e r is = refl
content_step false h hs e None is = is
content_step false h hs e (Some i) is = is

-- the first entry is at its place
pub content_at_place : (hs : List OldContent) (q : ℕ) → at_place hs (place_of (content_positions hs) q) ≡ content_of hs q
content_at_place [] q = refl
content_at_place (h ∷ hs) q = sym (content_step (q == h.position) h hs (content_of hs q) (place_of (content_positions hs) q) (sym (content_at_place hs q)))

pub content_has : (hs : List OldContent) (q : ℕ) → is_some (place_of (content_positions hs) q) ≡ is_some (content_of hs q)
content_has [] q = refl
content_has (h ∷ hs) q = has_step (q == h.position) (place_of (content_positions hs) q) h (content_of hs q) (content_has hs q)

-- those of the running body, by its mark
running_contents : (xs ds : List Mark) (hs : List OldHeader) (cs : List OldContent) (now : List Segment) (m : Mark) → ds ≡ xs → Some m ≡ slice_get ds (length ds - 1) → segments (reverse xs) hs cs ≡ now → contents_of now ≡ drop m.contents cs
running_contents xs ds hs cs now m same item view = sym (ap contents_of view) ∙ ap (λ ms. contents_of (segments ms hs cs)) (newest_mark xs m (marked xs ds m same item))

pub content_places : (xs ds : List Mark) (hs : List OldHeader) (cs : List OldContent) (ps rs : List ℕ) (now : List Segment) (m : Mark) → IsLog (reverse xs) hs cs ps rs → ds ≡ xs → Some m ≡ slice_get ds (length ds - 1) → segments (reverse xs) hs cs ≡ now → drop m.contents rs ≡ content_positions (contents_of now)
content_places xs ds hs cs ps rs now m log same item view =
    ap (drop m.contents) log.contents ∙ drop-map (λ (h : OldContent). h.position) m.contents cs ∙ ap content_positions (sym (running_contents xs ds hs cs now m same item view))

pub content_logged : (xs ds : List Mark) (hs : List OldHeader) (cs : List OldContent) (ps rs : List ℕ) (now : List Segment) (m : Mark) (q : ℕ) → IsLog (reverse xs) hs cs ps rs → ds ≡ xs → Some m ≡ slice_get ds (length ds - 1) → segments (reverse xs) hs cs ≡ now → is_some (place_of (drop m.contents rs) q) ≡ is_some (content_of (contents_of now) q)
content_logged xs ds hs cs ps rs now m q log same item view =
    ap (λ zs. is_some (place_of zs q)) (content_places xs ds hs cs ps rs now m log same item view) ∙ content_has (contents_of now) q

pub content_repeats : (xs ds : List Mark) (hs : List OldHeader) (cs : List OldContent) (ps rs : List ℕ) (now : List Segment) (m : Mark) (b : Bool) (before : List OldContent) (last : OldContent) → IsLog (reverse xs) hs cs ps rs → ds ≡ xs → Some m ≡ slice_get ds (length ds - 1) → segments (reverse xs) hs cs ≡ now → ((ys : List ℕ) (q : ℕ) → rs ≡ ys ++ q ∷ [] → b ≡ is_some (place_of (drop m.contents ys) q)) → contents_of now ≡ before ++ last ∷ [] → b ≡ is_some (content_of before last.position)
content_repeats xs ds hs cs ps rs now m b before last log same item view repeats is =
    let within : AreWithin (m ∷ reverse (take (length xs - 1) xs)) (length hs) (length cs) = subst (λ ms. AreWithin ms (length hs) (length cs)) (newest_mark xs m (marked xs ds m same item)) log.within in
    let split = after_split m.contents cs before last within.1 (sym (running_contents xs ds hs cs now m same item view) ∙ is) in
    let rest = take (length cs - 1) cs in
    repeats (content_positions rest) last.position (log.contents ∙ ap content_positions split.0 ∙ map-append (λ (h : OldContent). h.position) rest (last ∷ []))
    ∙ ap (λ zs. is_some (place_of zs last.position)) (drop-map (λ (h : OldContent). h.position) m.contents rest ∙ ap content_positions split.1)
    ∙ content_has before last.position

-- the last one goes
pub content_less : (hs ks : List OldContent) (ps qs : List ℕ) → ks ≡ take (length hs - 1) hs → ps ≡ content_positions hs → qs ≡ take (length ps - 1) ps → qs ≡ content_positions ks
content_less hs ks ps qs cut log less =
    less ∙ ap (λ zs. take (length zs - 1) zs) log ∙ taken_map (λ (h : OldContent). h.position) hs ∙ ap content_positions (sym cut)

pub content_pushed : (hs ks : List OldContent) (h : OldContent) (ps qs : List ℕ) → ks ≡ hs ++ h ∷ [] → ps ≡ content_positions hs → qs ≡ ps ++ h.position ∷ [] → qs ≡ content_positions ks
content_pushed hs ks h ps qs is log more = more ∙ ap (λ zs. zs ++ h.position ∷ []) log ∙ sym (map-append (λ (h : OldContent). h.position) hs (h ∷ [])) ∙ ap content_positions (sym is)
