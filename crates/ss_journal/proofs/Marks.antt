-- The log by its marks.
use Rattle.std.proofs.Common.{◌≡◌, ℕ, zero, suc, ◌+◌, ◌-◌, ◌<◌, ◌≤◌, List, [], ◌∷◌, ◌++◌, length, take, drop, true, not, ◌||◌, reverse, get_or, Some, None, refl, sym, ◌∙◌, ap, subst, arith}
use Rattle.std.specs.Prelude.{slice_get, nat_lt, is_some}
use Rattle.std.proofs.lemmas.List.{take_more, take_all, drop_all, drop-append-le, take-append-le, reverse-append, length-append}
use Rattle.std.proofs.lemmas.Option.{slice_get-get_or}
use Rattle.ss_journal.specs.declared.changes.OldHeader.{OldHeader}
use Rattle.ss_journal.specs.declared.journal.Mark.{Mark}
use Rattle.ss_journal.specs.Shapes.{OldContent}
use Rattle.ss_journal.specs.Undo.{header_of, content_of, count_of, headers_of, contents_of, joined, with_old_header, with_old_content}
use Rattle.ss_journal.specs.Marks.{segments, AreWithin}
use Rattle.ss_journal.specs.Saved.{AreSame}
use Rattle.ss_journal.proofs.Undo.{header_goes, content_goes}

split_last : (x : Mark) (xs : List Mark) → x ∷ xs ≡ take (length xs) (x ∷ xs) ++ get_or (x ∷ xs) (length xs) x ∷ []
split_last x xs =
    let l : length xs < length (x ∷ xs) = omega arith in
    let e : length (x ∷ xs) ≤ length xs + 1 = omega arith in
    sym (take_all (length xs + 1) (x ∷ xs) e) ∙ take_more (x ∷ xs) (length xs) x l

reversed : (x : Mark) (xs : List Mark) → reverse (x ∷ xs) ≡ get_or (x ∷ xs) (length xs) x ∷ reverse (take (length xs) (x ∷ xs))
reversed x xs = ap reverse (split_last x xs) ∙ reverse-append (take (length xs) (x ∷ xs)) (get_or (x ∷ xs) (length xs) x ∷ [])

-- the last mark is the newest
pub newest : (xs : List Mark) (m : Mark) → slice_get xs (length xs - 1) ≡ Some m → reverse xs ≡ m ∷ reverse (take (length xs - 1) xs)
newest [] m e = cc
newest (x ∷ xs) m e =
    let n : length (x ∷ xs) - 1 ≡ length xs = omega arith in
    let l : length xs < length (x ∷ xs) = omega arith in
    let is : get_or (x ∷ xs) (length xs) x ≡ m = let a = sym (slice_get-get_or (x ∷ xs) (length xs) x l) ∙ ap (slice_get (x ∷ xs)) (sym n) ∙ e in cc in
    reversed x xs ∙ ap (λ y. y ∷ reverse (take (length xs) (x ∷ xs))) is ∙ ap (λ i. m ∷ reverse (take i (x ∷ xs))) (sym n)

pub no_marks : (xs : List Mark) → slice_get xs (length xs - 1) ≡ None → xs ≡ []
no_marks [] e = refl
no_marks (x ∷ xs) e =
    let n : length (x ∷ xs) - 1 ≡ length xs = omega arith in
    let l : length xs < length (x ∷ xs) = omega arith in
    let a = sym (slice_get-get_or (x ∷ xs) (length xs) x l) ∙ ap (slice_get (x ∷ xs)) (sym n) ∙ e in
    cc

pub reverse-pushed : (xs : List Mark) (m : Mark) → reverse (xs ++ m ∷ []) ≡ m ∷ reverse xs
reverse-pushed xs m = reverse-append xs (m ∷ [])

-- ---- a body is entered

pub segments-entered : (ms : List Mark) (hs : List OldHeader) (cs : List OldContent) (n : ℕ) → segments (record { count = n; headers = length hs; contents = length cs } ∷ ms) hs cs ≡ record { count = n; headers = []; contents = [] } ∷ segments ms hs cs
segments-entered ms hs cs n =
    rw (drop_all (length hs) hs (omega arith), drop_all (length cs) cs (omega arith), take_all (length hs) hs (omega arith), take_all (length cs) cs (omega arith)) refl

-- ---- more is logged

pub within_more : (ms : List Mark) (h c i d : ℕ) → h ≤ i → c ≤ d → AreWithin ms h c → AreWithin ms i d
within_more [] h c i d a b w = tt
within_more (m ∷ ms) h c i d a b w = let x = w.0 in let y = w.1 in (omega (arith, x, a), omega (arith, y, b), w.2)

pub segments-header : (ms : List Mark) (hs : List OldHeader) (cs : List OldContent) (o : OldHeader) → AreWithin ms (length hs) (length cs) → segments ms (hs ++ o ∷ []) cs ≡ with_old_header o (segments ms hs cs)
segments-header [] hs cs o w = refl
segments-header (m ∷ ms) hs cs o w = rw (drop-append-le m.headers hs (o ∷ []) w.0, take-append-le m.headers hs (o ∷ []) w.0) refl

pub segments-content : (ms : List Mark) (hs : List OldHeader) (cs : List OldContent) (o : OldContent) → AreWithin ms (length hs) (length cs) → segments ms hs (cs ++ o ∷ []) ≡ with_old_content o (segments ms hs cs)
segments-content [] hs cs o w = refl
segments-content (m ∷ ms) hs cs o w = rw (drop-append-le m.contents cs (o ∷ []) w.1, take-append-le m.contents cs (o ∷ []) w.1) refl

-- ---- a body is left

drop_part : {X : Type 0} (i j : ℕ) (xs : List X) → i ≤ j → j ≤ length xs → drop i xs ≡ drop i (take j xs) ++ drop j xs
drop_part zero zero xs l m = refl
drop_part zero (suc j) [] l m = refl
drop_part zero (suc j) (x ∷ xs) l m = ap (λ r. x ∷ r) (drop_part 0 j xs (omega arith) (omega (arith, m)))
drop_part (suc i) zero xs l m = absurd (omega (arith, l))
drop_part (suc i) (suc j) [] l m = refl
drop_part (suc i) (suc j) (x ∷ xs) l m = drop_part i j xs (omega (arith, l)) (omega (arith, m))

take_part : {X : Type 0} (i j : ℕ) (xs : List X) → i ≤ j → take i xs ≡ take i (take j xs)
take_part zero j xs l = refl
take_part (suc i) zero xs l = absurd (omega (arith, l))
take_part (suc i) (suc j) [] l = refl
take_part (suc i) (suc j) (x ∷ xs) l = ap (λ r. x ∷ r) (take_part i j xs (omega (arith, l)))

pub segments-left : (m : Mark) (ms : List Mark) (hs : List OldHeader) (cs : List OldContent) → AreWithin (m ∷ ms) (length hs) (length cs) → segments ms hs cs ≡ joined (segments (m ∷ ms) hs cs)
segments-left m [] hs cs w = refl
segments-left m (k ∷ ms) hs cs w =
    rw (drop_part k.headers m.headers hs w.2.0 w.0, drop_part k.contents m.contents cs w.2.1 w.1, take_part k.headers m.headers hs w.2.0, take_part k.contents m.contents cs w.2.1) refl

pub left_segments : (xs : List Mark) (hs : List OldHeader) (cs : List OldContent) → AreWithin (reverse xs) (length hs) (length cs) → segments (reverse (take (length xs - 1) xs)) hs cs ≡ joined (segments (reverse xs) hs cs)
left_segments [] hs cs w = refl
left_segments (x ∷ xs) hs cs w =
    let n : length (x ∷ xs) - 1 ≡ length xs = omega arith in
    let last = get_or (x ∷ xs) (length xs) x in
    let rest = reverse (take (length xs) (x ∷ xs)) in
    let within : AreWithin (last ∷ rest) (length hs) (length cs) = subst (λ ms. AreWithin ms (length hs) (length cs)) (reversed x xs) w in
    ap (λ i. segments (reverse (take i (x ∷ xs))) hs cs) n
    ∙ segments-left last rest hs cs within
    ∙ ap (λ ms. joined (segments ms hs cs)) (sym (reversed x xs))

pub left_within : (xs : List Mark) (h c : ℕ) → AreWithin (reverse xs) h c → AreWithin (reverse (take (length xs - 1) xs)) h c
left_within [] h c w = w
left_within (x ∷ xs) h c w =
    let n : length (x ∷ xs) - 1 ≡ length xs = omega arith in
    let last = get_or (x ∷ xs) (length xs) x in
    let rest = reverse (take (length xs) (x ∷ xs)) in
    let within : AreWithin (last ∷ rest) h c = subst (λ ms. AreWithin ms h c) (reversed x xs) w in
    subst (λ i. AreWithin (reverse (take i (x ∷ xs))) h c) (sym n) (within_more rest last.headers last.contents h c within.0 within.1 within.2)

pub within_pushed : {X : Type 0} (ms : List Mark) (hs ks : List X) (x : X) (c : ℕ) → ks ≡ hs ++ x ∷ [] → AreWithin ms (length hs) c → AreWithin ms (length ks) c
within_pushed ms hs ks x c is w =
    let l : length ks ≡ length hs + 1 = ap length is ∙ length-append hs (x ∷ []) in
    within_more ms (length hs) c (length ks) c (omega (arith, l)) (omega arith) w

pub within_pushed_too : {X : Type 0} (ms : List Mark) (hs ks : List X) (x : X) (h : ℕ) → ks ≡ hs ++ x ∷ [] → AreWithin ms h (length hs) → AreWithin ms h (length ks)
within_pushed_too ms hs ks x h is w =
    let l : length ks ≡ length hs + 1 = ap length is ∙ length-append hs (x ∷ []) in
    within_more ms h (length hs) h (length ks) (omega arith) (omega (arith, l)) w

-- ---- the last entry goes

ends : {X : Type 0} (before : List X) (h : X) → take (length (before ++ h ∷ []) - 1) (before ++ h ∷ []) ≡ before
ends [] h = refl
ends (b ∷ before) h =
    let l = length-append before (h ∷ []) in
    let n : length (b ∷ (before ++ h ∷ [])) - 1 ≡ suc (length (before ++ h ∷ []) - 1) = omega (arith, l) in
    ap (λ i. take i (b ∷ (before ++ h ∷ []))) n ∙ ap (λ r. b ∷ r) (ends before h)

-- all but the last, where the part from m on is known
pub after_split : {X : Type 0} (m : ℕ) (hs before : List X) (h : X) → m ≤ length hs → drop m hs ≡ before ++ h ∷ [] → (hs ≡ take (length hs - 1) hs ++ h ∷ []) × (drop m (take (length hs - 1) hs) ≡ before) × (m ≤ length (take (length hs - 1) hs))
after_split zero hs before h l e =
    let t : take (length hs - 1) hs ≡ before = ap (λ xs. take (length xs - 1) xs) e ∙ ends before h in
    (e ∙ ap (λ b. b ++ h ∷ []) (sym t), t, omega arith)
after_split (suc m) [] before h l e = absurd (omega (arith, l))
after_split (suc m) (x ∷ xs) before h l e =
    let r = after_split m xs before h (omega (arith, l)) e in
    let some = ap length r.0 ∙ length-append (take (length xs - 1) xs) (h ∷ []) in
    let k : length (x ∷ xs) - 1 ≡ suc (length xs - 1) = omega (arith, some) in
    let t : take (length (x ∷ xs) - 1) (x ∷ xs) ≡ x ∷ take (length xs - 1) xs = ap (λ i. take i (x ∷ xs)) k in
    let less = r.2 in
    let longer : suc m ≤ length (x ∷ take (length xs - 1) xs) = omega (arith, less) in
    (ap (λ ys. x ∷ ys) r.0 ∙ ap (λ ys. ys ++ h ∷ []) (sym t), ap (drop (suc m)) t ∙ r.1, subst (λ ys. suc m ≤ length ys) (sym t) longer)

not_empty : {X : Type 0} (before : List X) (h : X) → [] ≡ before ++ h ∷ [] → ⊥
not_empty [] h e = cc
not_empty (b ∷ before) h e = cc

pub header_dropped : (ms : List Mark) (m : Mark) (hs ks : List OldHeader) (cs : List OldContent) (h : OldHeader) → hs ≡ ks ++ h ∷ [] → m.headers ≤ length ks → AreWithin (m ∷ ms) (length hs) (length cs) → (not (nat_lt h.position m.count) || is_some (header_of (drop m.headers ks) h.position)) ≡ true → AreSame (segments (m ∷ ms) hs cs) (segments (m ∷ ms) ks cs)
header_dropped ms m hs ks cs h is below w has =
    let within : AreWithin (m ∷ ms) (length ks) (length cs) = (below, w.1, w.2) in
    subst (λ gs. AreSame gs (segments (m ∷ ms) ks cs)) (sym (ap (λ xs. segments (m ∷ ms) xs cs) is ∙ segments-header (m ∷ ms) ks cs h within))
    (header_goes (record { count = m.count; headers = drop m.headers ks; contents = drop m.contents cs }) (segments ms (take m.headers ks) (take m.contents cs)) h has)

pub content_dropped : (ms : List Mark) (m : Mark) (hs : List OldHeader) (cs ds : List OldContent) (c : OldContent) → cs ≡ ds ++ c ∷ [] → m.contents ≤ length ds → AreWithin (m ∷ ms) (length hs) (length cs) → (not (nat_lt c.position m.count) || is_some (content_of (drop m.contents ds) c.position)) ≡ true → AreSame (segments (m ∷ ms) hs cs) (segments (m ∷ ms) hs ds)
content_dropped ms m hs cs ds c is below w has =
    let within : AreWithin (m ∷ ms) (length hs) (length ds) = (w.0, below, w.2) in
    subst (λ gs. AreSame gs (segments (m ∷ ms) hs ds)) (sym (ap (λ xs. segments (m ∷ ms) hs xs) is ∙ segments-content (m ∷ ms) hs ds c within))
    (content_goes (record { count = m.count; headers = drop m.headers hs; contents = drop m.contents ds }) (segments ms (take m.headers hs) (take m.contents ds)) c has)

pub header_trimmed : (ms : List Mark) (hs ks : List OldHeader) (cs : List OldContent) (before : List OldHeader) (h : OldHeader) (n : ℕ) → headers_of (segments ms hs cs) ≡ before ++ h ∷ [] → n ≡ count_of (segments ms hs cs) → AreWithin ms (length hs) (length cs) → (not (nat_lt h.position n) || is_some (header_of before h.position)) ≡ true → ks ≡ take (length hs - 1) hs → AreWithin ms (length ks) (length cs) × AreSame (segments ms hs cs) (segments ms ks cs)
header_trimmed [] hs ks cs before h n last count w has is = absurd (not_empty before h last)
header_trimmed (m ∷ ms) hs ks cs before h n last count w has is =
    let r = after_split m.headers hs before h w.0 last in
    let split : hs ≡ ks ++ h ∷ [] = r.0 ∙ ap (λ xs. xs ++ h ∷ []) (sym is) in
    let below : m.headers ≤ length ks = subst (λ xs. m.headers ≤ length xs) (sym is) r.2 in
    let these : drop m.headers ks ≡ before = ap (drop m.headers) is ∙ r.1 in
    let has' : (not (nat_lt h.position m.count) || is_some (header_of (drop m.headers ks) h.position)) ≡ true =
    ap (λ k. not (nat_lt h.position k) || is_some (header_of (drop m.headers ks) h.position)) (sym count)
    ∙ ap (λ xs. not (nat_lt h.position n) || is_some (header_of xs h.position)) these ∙ has in
    ((below, w.1, w.2), header_dropped ms m hs ks cs h split below w has')

pub content_trimmed : (ms : List Mark) (hs : List OldHeader) (cs ds before : List OldContent) (c : OldContent) (n : ℕ) → contents_of (segments ms hs cs) ≡ before ++ c ∷ [] → n ≡ count_of (segments ms hs cs) → AreWithin ms (length hs) (length cs) → (not (nat_lt c.position n) || is_some (content_of before c.position)) ≡ true → ds ≡ take (length cs - 1) cs → AreWithin ms (length hs) (length ds) × AreSame (segments ms hs cs) (segments ms hs ds)
content_trimmed [] hs cs ds before c n last count w has is = absurd (not_empty before c last)
content_trimmed (m ∷ ms) hs cs ds before c n last count w has is =
    let r = after_split m.contents cs before c w.1 last in
    let split : cs ≡ ds ++ c ∷ [] = r.0 ∙ ap (λ xs. xs ++ c ∷ []) (sym is) in
    let below : m.contents ≤ length ds = subst (λ xs. m.contents ≤ length xs) (sym is) r.2 in
    let these : drop m.contents ds ≡ before = ap (drop m.contents) is ∙ r.1 in
    let has' : (not (nat_lt c.position m.count) || is_some (content_of (drop m.contents ds) c.position)) ≡ true =
    ap (λ k. not (nat_lt c.position k) || is_some (content_of (drop m.contents ds) c.position)) (sym count)
    ∙ ap (λ xs. not (nat_lt c.position n) || is_some (content_of xs c.position)) these ∙ has in
    ((w.0, below, w.2), content_dropped ms m hs cs ds c split below w has')
