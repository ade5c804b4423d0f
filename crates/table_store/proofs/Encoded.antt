-- Rows and the items that encode them.
use Rattle.std.proofs.Common.{◌≡◌, ℕ, zero, suc, ◌+◌, List, [], ◌∷◌, ◌++◌, take, Some, None, true, refl, sym, ap, subst, ◌∙◌, append_assoc, arith}
use Rattle.std.specs.Prelude.{slice_get}
use Rattle.heap_page.specs.Blocks.{joined}
use Rattle.rows.specs.declared.plain.Column.{Column}
use Rattle.rows.specs.declared.value.Value.{Value}
use Rattle.rows.specs.RowBytes.{Decodes}
use Rattle.table_store.specs.Readings.{AreDecoded, HasStranger}
use Rattle.table_store.specs.Steps.{Added}

pub take_one : {X : Type 0} (xs : List X) (i : ℕ) (x : X) → slice_get xs i ≡ Some x → take (i + 1) xs ≡ take i xs ++ x ∷ []
take_one [] i x e = absurd cc
take_one (y ∷ xs) zero x e = let h : y ≡ x = cc in rw h refl
take_one (y ∷ xs) (suc i) x e = let k : suc i + 1 ≡ suc (i + 1) = omega arith in rw k (ap (λ (ys : List _). y ∷ ys) (take_one xs i x e))

pub encoded_append : (columns : List Column) (rows : List (List Value)) (items : List (List ℕ)) (rows2 : List (List Value)) (items2 : List (List ℕ)) →
    AreDecoded columns rows items → AreDecoded columns rows2 items2 → AreDecoded columns (rows ++ rows2) (items ++ items2)
encoded_append columns [] [] rows2 items2 h k = k
encoded_append columns [] (i ∷ is) rows2 items2 h k = elim h [ ]
encoded_append columns (r ∷ rs) [] rows2 items2 h k = elim h [ ]
encoded_append columns (r ∷ rs) (i ∷ is) rows2 items2 h k = (h.0, encoded_append columns rs is rows2 items2 h.1 k)

pub joined_append : {X : Type 0} (bs cs : List (List X)) → joined (bs ++ cs) ≡ joined bs ++ joined cs
joined_append [] cs = refl
joined_append (b ∷ bs) cs = ap (λ (ys : List _). b ++ ys) (joined_append bs cs) ∙ sym (append_assoc b (joined bs) (joined cs))

-- one more row
pub added_one : (columns : List Column) (items : List (List ℕ)) (slot : ℕ) (item : List ℕ) (row : List Value) (old mid : List (List Value)) →
    slice_get items slot ≡ Some item → Decodes columns item (Some row) → Added columns (take slot items) old mid true → Added columns (take (slot + 1) items) old (mid ++ row ∷ []) true
added_one columns items slot item row old mid at d h = (
  h.0 ++ row ∷ [],
  ap (λ (ys : List _). ys ++ row ∷ []) h.1 ∙ append_assoc old h.0 (row ∷ []),
  subst (AreDecoded columns (h.0 ++ row ∷ [])) (sym (take_one items slot item at)) (encoded_append columns h.0 (take slot items) (row ∷ []) (item ∷ []) h.2 (d, tt)),
)

none_some : {X : Type 0} (x : X) → None ≡ Some x → ⊥
none_some x e = absurd cc

pub stranger : (columns : List Column) (items : List (List ℕ)) (slot : ℕ) (item : List ℕ) → slice_get items slot ≡ Some item → Decodes columns item None → HasStranger columns items
stranger columns items slot item at d = (slot, item, at, λ row e. none_some row (d.complete row e))
