-- What a member is, told apart by its first tokens, is one of the plain productions.
use Rattle.std.proofs.Common.{◌≡◌, ℕ, List, [], ◌∷◌, Option, Some, Bool, true, false, refl, ap, subst, ◌⊎◌, inl, inr}
use Rattle.ss_core.specs.declared.names.Place.{Place}
use Rattle.ss_ast.specs.declared.token.Word.{Word}
use Rattle.ss_ast.specs.declared.token.Word.TheVariants as word
use Rattle.ss_ast.specs.Tokens.{Kind, AWord, ASymbol, AName, ANumber, AText, AnEnd}
use Rattle.ss_ast.specs.Expressions.{NameTree, TypeTree, IntType, BoolType, ObjectType}
use Rattle.ss_ast.specs.Programs.{MemberKindTree}
use Rattle.ss_grammar.specs.Language.{Done, After, Take, Bind}
use Rattle.ss_grammar_expressions.specs.First.{Chosen, Choose}
use Rattle.ss_grammar_expressions.specs.Heads.{Piece, AToken, LeftOut, TypeHead, type_head}
use Rattle.ss_grammar_expressions.specs.Grammar.{AnyName, head_of}
use Rattle.ss_grammar_programs.specs.Heads.{head_kind, member_head, type_follows, fields_follow}
use Rattle.ss_grammar_programs.specs.Grammar.{TypeFrom, FullType, Fields, Method, Constructor, FieldsOrMethod, Typed, KindAfter, MemberKind}
use Rattle.ss_grammar_programs.specs.Written.{IsFields, IsTypedMethod, Plainly, fields, invariant, void_method, typed_method, constructor}

abbrev token_at : Place → Kind → Piece
token_at p k = AToken (record { kind = k; place = p })

chosen : {A : Type 0} (b : Bool) (L M : List Piece → A → Type 0) (ts : List Piece) (v : A) → Chosen b L M ts v → L ts v ⊎ M ts v
chosen true L M ts v p = inl p
chosen false L M ts v p = inr p

-- one of the two
choice : {A : Type 0} (f : Piece → Bool) (L M : List Piece → A → Type 0) (ts : List Piece) (v : A) → Choose f L M ts v → L ts v ⊎ M ts v
choice f L M [] v p = inr p
choice f L M (t ∷ ts) v p = chosen (f t) L M (t ∷ ts) v p

module _ (d : ℕ) where
  -- after the first token of a type
  typed : (p : Place) (c : Kind) (h : TypeHead) (ts : List Piece) (k : MemberKindTree) → ((us : List Piece) → TypeFrom d h us ≡ After (type_head (token_at p c)) (TypeFrom d) us) → Typed d h ts k → Plainly d (token_at p c ∷ ts) k
  typed p c h ts k e q = at (choice fields_follow (Fields d q.first q.goes_on.first) (Method d (Some q.first) q.goes_on.first) q.goes_on.back k q.goes_on.goes_on)
    where
      first : FullType d (token_at p c ∷ q.front) q.first
      first = subst (λ (L : TypeTree → Type 0). L q.first) (e q.front) q.reads

      at : Fields d q.first q.goes_on.first q.goes_on.back k ⊎ Method d (Some q.first) q.goes_on.first q.goes_on.back k → Plainly d (token_at p c ∷ ts) k
      at (inl r) = fields (record { first = q.first; front = token_at p c ∷ q.front; back = q.back; parts = ap (λ us. token_at p c ∷ us) q.parts; reads = first; goes_on = record { first = q.goes_on.first; front = q.goes_on.front; back = q.goes_on.back; parts = q.goes_on.parts; reads = q.goes_on.reads; goes_on = r } })
      at (inr r) = typed_method (record { first = q.first; front = token_at p c ∷ q.front; back = q.back; parts = ap (λ us. token_at p c ∷ us) q.parts; reads = first; goes_on = record { first = q.goes_on.first; front = q.goes_on.front; back = q.goes_on.back; parts = q.goes_on.parts; reads = q.goes_on.reads; goes_on = r } })

  of_word : (p : Place) (w : Word) (ts : List Piece) (k : MemberKindTree) → After (head_kind p (AWord w)) (KindAfter d) ts k → Plainly d (token_at p (AWord w) ∷ ts) k
  of_word p word.Invariant ts k q = invariant q
  of_word p word.Void ts k q = void_method q
  of_word p word.Int ts k q = typed p (AWord word.Int) (record { place = p; name = IntType }) ts k (λ us. refl) q
  of_word p word.Bool ts k q = typed p (AWord word.Bool) (record { place = p; name = BoolType }) ts k (λ us. refl) q
  of_word p word.Object ts k q = typed p (AWord word.Object) (record { place = p; name = ObjectType }) ts k (λ us. refl) q
  of_word p _ ts k q = absurd q

  of_name : (n : NameTree) (ts : List Piece) (k : MemberKindTree) → Choose type_follows (Typed d (head_of n)) (Constructor d n) ts k → Plainly d (token_at n.place (AName n.text) ∷ ts) k
  of_name n ts k q = at (choice type_follows (Typed d (head_of n)) (Constructor d n) ts k q)
    where
      at : Typed d (head_of n) ts k ⊎ Constructor d n ts k → Plainly d (token_at n.place (AName n.text) ∷ ts) k
      at (inl r) = typed n.place (AName n.text) (head_of n) ts k (λ us. refl) r
      at (inr r) = constructor (record { first = n; front = token_at n.place (AName n.text) ∷ []; back = ts; parts = refl; reads = (refl, refl); goes_on = r })

  of_kind : (p : Place) (c : Kind) (ts : List Piece) (k : MemberKindTree) → After (head_kind p c) (KindAfter d) ts k → Plainly d (token_at p c ∷ ts) k
  of_kind p (AWord w) ts k q = of_word p w ts k q
  of_kind p (AName n) ts k q = of_name (record { text = n; place = p }) ts k q
  of_kind p (ASymbol s) ts k q = absurd q
  of_kind p (ANumber n) ts k q = absurd q
  of_kind p (AText n) ts k q = absurd q
  of_kind p AnEnd ts k q = absurd q

pub is_plain : (d : ℕ) (ts : List Piece) (k : MemberKindTree) → MemberKind d ts k → Plainly d ts k
is_plain d [] k q = absurd q
is_plain d (LeftOut ∷ ts) k q = absurd q
is_plain d (AToken t ∷ ts) k q = of_kind d t.place t.kind ts k q
