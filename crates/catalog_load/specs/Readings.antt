-- What a text is as a catalogue: its relations, or the first fault with its place.
use Rattle.std.specs.Prelude.{◌≡◌, ◌⊎◌, ℕ, List, [], ◌∷◌, ◌++◌, map, Some, None, Result, Ok, Err}
use Rattle.postquel_tokens.specs.declared.fault.Spot.{Spot}
use Rattle.postquel_tokens.specs.declared.fault.What.{What}
use Rattle.postquel_tokens.specs.declared.fault.What.TheVariants as what
use Rattle.postquel_tokens.specs.declared.fault.TextErr.{TextErr}
use Rattle.postquel_tokens.specs.declared.fault.TextErr.TheVariants.{Fault, NoMemory}
use Rattle.postquel_tokens.specs.declared.token.Token.{Token}
use Rattle.postquel_tokens.specs.Lex.{lex_of}
use Rattle.rows.specs.declared.plain.Relation.{Relation}
use Rattle.catalog_load.specs.declared.form.RelationForm.{RelationForm}
use Rattle.catalog_load.specs.Catalogs.{IsForm, fault_of, relation_of}

-- the tokens of a text before its end
pub record IsLexed (text : List ℕ) (tokens : List Token) (end : Token) : Type 0 where
  pub gives : lex_of text ≡ Ok (tokens ++ end ∷ [])

-- some catalogue begins with these tokens
pub record Begins (used : List Token) : Type 0 where
  pub entries : List RelationForm
  pub more : List Token
  pub is : IsForm entries (used ++ more)

-- no catalogue goes on with the first of the other tokens, or where there is none, the tokens are no catalogue
abbrev pub NoneWith : List Token → List Token → Type 0
NoneWith used [] = (entries : List RelationForm) → IsForm entries used → ⊥
NoneWith used (t ∷ rest) = (entries : List RelationForm) (w : List Token) → IsForm entries (used ++ t ∷ w) → ⊥

-- the place of the first of these tokens, or else of the end
abbrev pub spot_of : List Token → Spot → Spot
spot_of [] end = end
spot_of (t ∷ ts) end = t.spot

-- the first token with which no catalogue has the tokens so far as a prefix stands there, or else the end
pub record IsUnexpected (tokens : List Token) (end : Spot) (there : Spot) : Type 0 where
  pub used : List Token
  pub rest : List Token
  pub parts : tokens ≡ used ++ rest
  pub place : there ≡ spot_of rest end
  pub begins : Begins used
  pub none : NoneWith used rest

-- the tokens of the text are these entries
pub record Writes (text : List ℕ) (entries : List RelationForm) : Type 0 where
  pub tokens : List Token
  pub end : Token
  pub lexed : IsLexed text tokens end
  pub form : IsForm entries tokens

-- the text has a token that no catalogue goes on with, and it stands there
pub record HasUnexpected (text : List ℕ) (there : Spot) : Type 0 where
  pub tokens : List Token
  pub end : Token
  pub lexed : IsLexed text tokens end
  pub unexpected : IsUnexpected tokens end.spot there

-- A text is these relations, where its entries have no fault. Else its first fault is that of its tokens, an unexpected token, or the
-- first fault of its entries.
abbrev pub IsReading : List ℕ → Result (List Relation) (What × Spot) → Type 0
IsReading text (Ok catalog) = (entries : List RelationForm) × Writes text entries × (fault_of entries ≡ None) × (catalog ≡ map relation_of entries)
IsReading text (Err f) =
    (lex_of text ≡ Err f)
    ⊎ ((f.0 ≡ what.Unexpected) × HasUnexpected text f.1)
    ⊎ ((entries : List RelationForm) × Writes text entries × (fault_of entries ≡ Some (record { what = f.0; spot = f.1 })))

-- what was read is that, unless memory ran out
abbrev pub Tells : List ℕ → Result (List Relation) TextErr → Type 0
Tells text (Ok catalog) = IsReading text (Ok catalog)
Tells text (Err (Fault line col w)) = IsReading text (Err (w, record { line = line; col = col }))
Tells text (Err NoMemory) = Unit {0}

-- the entries of the text, or a fault of it
abbrev pub WritesOr : {A : Type 0} → (A → List RelationForm) → List ℕ → Result A TextErr → Type 0
WritesOr view text (Ok found) = Writes text (view found)
WritesOr view text (Err e) = Tells text (Err e)

-- a text has one reading
abbrev pub OneCatalog : Type 0
OneCatalog = (text : List ℕ) (a b : Result (List Relation) (What × Spot)) → IsReading text a → IsReading text b → a ≡ b
