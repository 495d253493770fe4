-- Reading classes and programs finds what the grammar says.
use Rattle.std.proofs.Common.{◌≡◌, ℕ, suc, ◌-◌, List, [], ◌∷◌, ◌++◌, Option, Some, None, Ok, Bool, true, false, refl, sym, ap, subst, arith}
use Rattle.ss_core.specs.declared.names.Place.{Place}
use Rattle.ss_ast.specs.declared.token.Word.{Word}
use Rattle.ss_ast.specs.declared.token.Word.TheVariants as word
use Rattle.ss_ast.specs.declared.token.Symbol.TheVariants as symbol
use Rattle.ss_ast.specs.Tokens.{Kind, AWord, ASymbol, AName, ANumber, AText, AnEnd}
use Rattle.ss_ast.specs.Expressions.{NameTree}
use Rattle.ss_ast.specs.Programs.{ProgramTree}
use Rattle.ss_grammar.specs.Language.{Done, After, Take, Bind, Many, Starts, Finds}
use Rattle.ss_grammar.specs.Reading.{◌>>=◌, take}
use Rattle.ss_grammar_expressions.specs.First.{Chosen}
use Rattle.ss_grammar_expressions.specs.Heads.{Piece, AToken, LeftOut, is, found, the, the_word, a_name}
use Rattle.ss_grammar_expressions.specs.Grammar.{AnyName, no_place}
use Rattle.ss_grammar_expressions.specs.Parser.{give, name_at}
use Rattle.ss_grammar_expressions.proofs.First.{Alive}
use Rattle.ss_grammar_expressions.proofs.Sets.{PartOf, token, seq, many, done}
use Rattle.ss_grammar_expressions.proofs.Levels.{the_in, the_word_in, of, symbol, word_then}
use Rattle.ss_grammar_expressions.proofs.Pieces.{name_in}
use Rattle.ss_grammar_expressions.proofs.Expressions.{name_to}
use Rattle.ss_grammar_statements.proofs.Parts.{perhaps}
use Rattle.ss_grammar_programs.specs.Again.{Again}
use Rattle.ss_grammar_programs.specs.Heads.{the_end, an_access, begins_class, class_kind, begins_member}
use Rattle.ss_grammar_programs.specs.Grammar.{Opening, push, dropped, Member, ClassEnd, Above, ClassNamed, Accesses, Class, SkippedName, UsingEnd, Usings, Declarations, Program}
use Rattle.ss_grammar_programs.specs.Parser.{members, class_end, class_body, class_above, class_named, accesses, class_decl, classes, skipped_name, dotted, using_end, usings, declarations, program}
use Rattle.ss_grammar_programs.proofs.Again.{repeated}
use Rattle.ss_grammar_programs.proofs.Pieces.{accesses_set, members_set, classes_set, end_in, access_in, class_in}
use Rattle.ss_grammar_programs.proofs.Opening.{lower, made, less_one, opening_to}
use Rattle.ss_grammar_programs.proofs.Members.{members_to}

-- ---- access words and `using` lines

access_to : (n : ℕ) → PartOf n (λ d. Take an_access Done) accesses_set [] false (λ d. take an_access give)
access_to n = token n an_access accesses_set access_in (λ p d. Done p) [] [] true (λ p d. give p) (λ p. done n p) (of (AWord word.Public)) no_place refl

access_alive : (t : Piece) → is an_access t ≡ true → Alive (λ d. Take an_access Done) t
access_alive t h = at (an_access t) refl h
  where
    at : (o : Option Place) → an_access t ≡ o → found o ≡ true → Alive (λ d. Take an_access Done) t
    at None e k = absurd cc
    at (Some p) e k = (0, record { more = []; value = p; reads = subst (λ (o : Option Place). After {T = Piece} {A = Place} o (Done {T = Piece} {A = Place}) [] p) (sym e) (refl, refl) })

accesses_to : (n : ℕ) → PartOf n (λ d. Accesses) accesses_set accesses_set true (λ d. accesses)
unfolding accesses
accesses_to n = repeated n (λ _. is an_access) (λ a _. a) accesses_set (λ _. access_in) (λ d. Take an_access Done) accesses_set [] (λ d. take an_access give) (access_to n) refl (λ lt _ t h. access_alive t h) tt

-- one access word by itself
one_access : (t : Piece) (p : Place) → an_access t ≡ Some p → Accesses (t ∷ []) tt
one_access t p e = (1, subst (λ (b : Bool). Chosen b (Bind (Take an_access Done) (λ _. Done tt)) (Done tt) (t ∷ []) tt) (sym (ap found e)) (record { first = p; front = t ∷ []; back = []; parts = refl; reads = subst (λ (o : Option Place). After {T = Piece} {A = Place} o (Done {T = Piece} {A = Place}) [] p) (sym e) (refl, refl); goes_on = (refl, refl) }))

skipped_to : (n : ℕ) → PartOf n (λ d. SkippedName) (32 ∷ []) [] false (λ d. skipped_name)
unfolding skipped_name
skipped_to n = token n a_name (32 ∷ []) name_in (λ _ d. Done tt) [] [] true (λ _ d. give tt) (λ _. done n tt) (of (AName [])) (record { text = []; place = no_place }) refl

dotted_to : (n : ℕ) → PartOf n (λ d. Many (the symbol.Dot) (λ _. SkippedName) dropped tt) (22 ∷ []) (22 ∷ []) true (λ d. dotted)
unfolding dotted
dotted_to n = many n (the symbol.Dot) (22 ∷ []) (the_in symbol.Dot) (λ _ d. SkippedName) dropped (32 ∷ []) [] (λ _ d. skipped_name) (λ _. skipped_to n) refl tt

using_end_to : (n : ℕ) → PartOf n (λ d. UsingEnd) (32 ∷ []) [] false (λ d. using_end)
unfolding using_end
using_end_to n = seq n false false (λ d. SkippedName) (λ _ d. Bind (Many (the symbol.Dot) (λ _. SkippedName) dropped tt) (λ _. Take (the symbol.Semicolon) (λ _. Done tt))) (32 ∷ []) [] (22 ∷ 19 ∷ []) [] (λ d. skipped_name) (λ _ d ts. dotted ts >>= λ x. take (the symbol.Semicolon) (λ _. give tt) x.1) (skipped_to n)
    (λ _. seq n true false (λ d. Many (the symbol.Dot) (λ _. SkippedName) dropped tt) (λ _ d. Take (the symbol.Semicolon) (λ _. Done tt)) (22 ∷ []) (22 ∷ []) (19 ∷ []) [] (λ d. dotted) (λ _ d. take (the symbol.Semicolon) (λ _. give tt)) (dotted_to n)
    (λ _. symbol n symbol.Semicolon (λ _ d. Done tt) [] [] true (λ _ d. give tt) refl (λ _. done n tt)) refl) refl

usings_to : (n : ℕ) → PartOf n (λ d. Usings) (40 ∷ []) (40 ∷ []) true (λ d. usings)
unfolding usings
usings_to n = many n (the_word word.Using) (40 ∷ []) (the_word_in word.Using) (λ _ d. UsingEnd) dropped (32 ∷ []) [] (λ _ d. using_end) (λ _. using_end_to n) refl tt

above_to : (n : ℕ) → PartOf n (λ d. Above) (20 ∷ []) (20 ∷ []) true (λ d. class_above)
unfolding class_above
above_to n = perhaps n (the symbol.Colon) (20 ∷ []) (the_in symbol.Colon) (λ _ d. Bind AnyName (λ x. Done (Some x))) (32 ∷ []) [] false (λ _ d ts. name_at ts >>= λ x. Ok (Some x.0, x.1)) (λ _. made n (λ d. AnyName) (32 ∷ []) [] (λ d. name_at) (λ x. Some x) (name_to n)) None

-- ---- classes and programs

class_end_to : (n : ℕ) (x : NameTree) (a : Option NameTree) → PartOf (suc n) (ClassEnd x a) (members_set ++ 14 ∷ []) [] false (class_end x a)
unfolding class_end
class_end_to n x a = seq (suc n) true false (λ d. Again (λ _. begins_member) (Member d) push []) (λ ms d. Take (the symbol.CloseBrace) (λ _. Done (record { name = x; above = a; members = ms }))) members_set members_set (14 ∷ []) [] members (λ ms d. take (the symbol.CloseBrace) (λ _. give (record { name = x; above = a; members = ms }))) (members_to n)
    (λ ms. symbol (suc n) symbol.CloseBrace (λ _ d. Done (record { name = x; above = a; members = ms })) [] [] true (λ _ d. give (record { name = x; above = a; members = ms })) refl (λ _. done (suc n) (record { name = x; above = a; members = ms }))) refl

class_body_to : (n : ℕ) (x : NameTree) (a : Option NameTree) → PartOf (suc n) (Opening (the symbol.OpenBrace) (λ _. ClassEnd x a) (record { name = x; above = a; members = [] })) (36 ∷ 13 ∷ []) [] false (λ d. class_body d x a)
unfolding class_body
class_body_to n x a = opening_to n (the symbol.OpenBrace) (13 ∷ []) (the_in symbol.OpenBrace) (λ _. ClassEnd x a) (λ _. class_end x a) (record { name = x; above = a; members = [] }) (members_set ++ 14 ∷ []) false (λ _. lower n (ClassEnd x a) (members_set ++ 14 ∷ []) [] false (class_end x a) (class_end_to n x a)) (λ d _. class_end x a (d - 1)) (λ d _ ts. ap (λ c. class_end x a c ts) (less_one d))

class_named_to : (n : ℕ) → PartOf (suc n) ClassNamed (32 ∷ []) [] false class_named
unfolding class_named
class_named_to n = seq (suc n) false false (λ d. AnyName) (λ x d. Bind Above (λ a. Opening (the symbol.OpenBrace) (λ _. ClassEnd x a) (record { name = x; above = a; members = [] }) d)) (32 ∷ []) [] (20 ∷ 36 ∷ 13 ∷ []) [] (λ d. name_at) (λ x d ts. class_above ts >>= λ a. class_body d x a.0 a.1) (name_to (suc n))
    (λ x. seq (suc n) true false (λ d. Above) (λ a. Opening (the symbol.OpenBrace) (λ _. ClassEnd x a) (record { name = x; above = a; members = [] })) (20 ∷ []) (20 ∷ []) (36 ∷ 13 ∷ []) [] (λ d. class_above) (λ a d. class_body d x a) (above_to (suc n)) (class_body_to n x) refl) refl

class_word_to : (n : ℕ) → PartOf (suc n) (λ d. Take (the_word word.Class) (λ _. ClassNamed d)) (41 ∷ []) [] false (λ d. take (the_word word.Class) (λ _. class_named d))
class_word_to n = word_then (suc n) word.Class (λ _. ClassNamed) (32 ∷ []) [] false (λ _. class_named) refl (λ _. class_named_to n)

class_to : (n : ℕ) → PartOf (suc n) Class classes_set [] false class_decl
unfolding class_decl
class_to n = seq (suc n) true false (λ d. Accesses) (λ _ d. Take (the_word word.Class) (λ _. ClassNamed d)) accesses_set accesses_set (41 ∷ []) [] (λ d. accesses) (λ _ d. take (the_word word.Class) (λ _. class_named d)) (accesses_to (suc n)) (λ _. class_word_to n) refl

abbrev a_class : Starts (Take (the_word word.Class) (λ _. ClassNamed 0)) []
a_class = (class_word_to 0).good.some

by_access : (t : Piece) (p : Place) → an_access t ≡ Some p → Alive Class t
by_access t p e = (0, record { more = a_class.more; value = a_class.value; reads = record { first = tt; front = t ∷ []; back = a_class.more; parts = refl; reads = one_access t p e; goes_on = a_class.reads } })

abbrev class_at : Place → Piece
class_at p = AToken (record { kind = AWord word.Class; place = p })

by_class : (p : Place) → Alive Class (class_at p)
by_class p =
    let s = (class_named_to 0).good.some in
    (0, record { more = s.more; value = s.value; reads = record { first = tt; front = []; back = class_at p ∷ s.more; parts = refl; reads = (0, (refl, refl)); goes_on = s.reads } })

class_alive : (t : Piece) → begins_class t ≡ true → Alive Class t
class_alive LeftOut h = absurd cc
class_alive (AToken t) h = at t.kind t.place h
  where
    word_at : (w : Word) (p : Place) → class_kind (AWord w) ≡ true → Alive Class (AToken (record { kind = AWord w; place = p }))
    word_at word.Class p h = by_class p
    word_at word.Public p h = by_access (AToken (record { kind = AWord word.Public; place = p })) p refl
    word_at word.Private p h = by_access (AToken (record { kind = AWord word.Private; place = p })) p refl
    word_at word.Protected p h = by_access (AToken (record { kind = AWord word.Protected; place = p })) p refl
    word_at word.Internal p h = by_access (AToken (record { kind = AWord word.Internal; place = p })) p refl
    word_at _ p h = absurd cc

    at : (k : Kind) (p : Place) → class_kind k ≡ true → Alive Class (AToken (record { kind = k; place = p }))
    at (AWord w) p h = word_at w p h
    at (ASymbol s) p h = absurd cc
    at (AName x) p h = absurd cc
    at (ANumber x) p h = absurd cc
    at (AText x) p h = absurd cc
    at AnEnd p h = absurd cc

classes_to : (n : ℕ) → PartOf (suc n) (λ d. Again (λ _. begins_class) (Class d) push []) classes_set classes_set true classes
unfolding classes
classes_to n = repeated (suc n) (λ _. begins_class) push classes_set (λ _. class_in) Class classes_set [] class_decl (class_to n) refl (λ lt _ t h. class_alive t h) []

pub declarations_to : (n : ℕ) → PartOf (suc n) Declarations (40 ∷ classes_set) (classes_set ++ 40 ∷ []) true declarations
unfolding declarations
declarations_to n = seq (suc n) true true (λ d. Usings) (λ _ d. Again (λ _. begins_class) (Class d) push []) (40 ∷ []) (40 ∷ []) classes_set classes_set (λ d. usings) (λ _ d. classes d) (usings_to (suc n)) (λ _. classes_to n) refl

pub program_to : (n : ℕ) → PartOf (suc n) Program (40 ∷ classes_set ++ 35 ∷ []) [] false program
unfolding program
program_to n = seq (suc n) true false Declarations (λ cs d. Take the_end (λ p. Done (record { classes = cs; last = p }))) (40 ∷ classes_set) (classes_set ++ 40 ∷ []) (35 ∷ []) [] declarations (λ cs d. take the_end (λ p. give (record { classes = cs; last = p }))) (declarations_to n)
    (λ cs. token (suc n) the_end (35 ∷ []) end_in (λ p d. Done (record { classes = cs; last = p })) [] [] true (λ p d. give (record { classes = cs; last = p })) (λ p. done (suc n) (record { classes = cs; last = p })) (of AnEnd) no_place refl) refl

pub program_finds : (d : ℕ) (ts : List Piece) → Finds Program d ts (program d ts)
program_finds d ts = (program_to d).finds d (omega arith) ts

pub declarations_find : (d : ℕ) (ts : List Piece) → Finds Declarations d ts (declarations d ts)
declarations_find d ts = (declarations_to d).finds d (omega arith) ts

pub program_one : (d e : ℕ) (ts : List Piece) (a b : ProgramTree) → Program d ts a → Program e ts b → a ≡ b
program_one d e ts a b p q = (program_to 0).good.facts.one ts a b (d, p) (e, q)
