-- The values of a row have bytes.
use Rattle.std.proofs.Common.{◌≡◌, suc, List, [], ◌∷◌, length, refl, ap}
use Rattle.std.specs.List.{All, AllByRecursion}
use Rattle.std.proofs.lemmas.List.Elements.{All-from_recursion}
use Rattle.rows.specs.declared.value.Value.{Value}
use Rattle.rows.specs.declared.value.Value.TheVariants.{Null, Number, Word, Truth}
use Rattle.rows.specs.declared.plain.Column.{Column}
use Rattle.rows.specs.declared.field.ColType.{ColType}
use Rattle.rows.specs.declared.field.ColType.TheVariants as col
use Rattle.rows.specs.RowBytes.{IsRowOf, IsValueOf, IsOfType}
use Rattle.rows.specs.RowFields.{IsStorable}

pub row_length : (cs : List Column) (vs : List Value) → IsRowOf cs vs → length vs ≡ length cs
row_length [] [] h = refl
row_length [] (v ∷ vs) h = elim h [ ]
row_length (c ∷ cs) [] h = elim h [ ]
row_length (c ∷ cs) (v ∷ vs) h = ap suc (row_length cs vs h.1)

of_type : (t : ColType) (v : Value) → IsOfType t v → IsStorable v
of_type t Null h = tt
of_type col.Int4 (Number n) h = h
of_type col.Int4 (Word w) h = elim h [ ]
of_type t (Truth b) h = tt
of_type col.Text (Number n) h = elim h [ ]
of_type col.Text (Word w) h = h.1
of_type col.Bool (Number n) h = elim h [ ]
of_type col.Bool (Word w) h = elim h [ ]

storable : (c : Column) (v : Value) → IsValueOf c v → IsStorable v
storable c Null h = tt
storable c (Number n) h = of_type c.col_type (Number n) h
storable c (Word w) h = of_type c.col_type (Word w) h
storable c (Truth b) h = tt

each_storable : (cs : List Column) (vs : List Value) → IsRowOf cs vs → AllByRecursion IsStorable vs
each_storable [] [] h = tt
each_storable [] (v ∷ vs) h = elim h [ ]
each_storable (c ∷ cs) [] h = elim h [ ]
each_storable (c ∷ cs) (v ∷ vs) h = (storable c v h.0, each_storable cs vs h.1)

pub row_storable : (cs : List Column) (vs : List Value) → IsRowOf cs vs → All IsStorable vs
row_storable cs vs h = All-from_recursion IsStorable vs (each_storable cs vs h)
