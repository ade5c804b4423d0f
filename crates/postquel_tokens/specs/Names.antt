-- The names that mean something to the readers of scripts and catalogues.
use Rattle.std.specs.Prelude.{ℕ, Bool, true, false, if◌then◌else◌, List, [], ◌∷◌, Option, Some, None, codes}
use Rattle.std.specs.Str.{bytes_eq}
use Rattle.postquel_tokens.specs.declared.name.Key.{Key}
use Rattle.postquel_tokens.specs.declared.name.Key.TheVariants as key

-- the names that no variable, column or relation may have
abbrev pub key_names : List (List ℕ × Key)
key_names =
    (codes "retrieve", key.Retrieve)
    ∷ (codes "unique", key.Unique)
    ∷ (codes "from", key.From)
    ∷ (codes "in", key.In)
    ∷ (codes "where", key.Where)
    ∷ (codes "sort", key.Sort)
    ∷ (codes "by", key.By)
    ∷ (codes "using", key.Using)
    ∷ (codes "and", key.And)
    ∷ (codes "or", key.Or)
    ∷ (codes "not", key.Not)
    ∷ (codes "true", key.True)
    ∷ (codes "false", key.False)
    ∷ (codes "all", key.All)
    ∷ (codes "into", key.Into)
    ∷ (codes "null", key.Null)
    ∷ (codes "is", key.Is)
    ∷ (codes "machine", key.Machine)
    ∷ []

-- the names of folds
abbrev pub fold_names : List (List ℕ)
fold_names = codes "count" ∷ codes "min" ∷ codes "max" ∷ codes "sum" ∷ []

-- what a table has at a text
abbrev pub lookup : {A : Type 0} → List (List ℕ × A) → List ℕ → Option A
lookup [] text = None
lookup (k ∷ ks) text = if bytes_eq k.0 text then Some k.1 else lookup ks text

abbrev pub is_among : List (List ℕ) → List ℕ → Bool
is_among [] text = false
is_among (first ∷ rest) text = if bytes_eq first text then true else is_among rest text

-- the key that a name is
unfoldable pub key_of : List ℕ → Option Key
key_of = lookup key_names

abbrev pub is_fold : List ℕ → Bool
is_fold text = is_among fold_names text
