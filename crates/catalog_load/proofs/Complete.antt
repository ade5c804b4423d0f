-- The machine reads each catalogue, and stops where no catalogue goes on.
use Rattle.std.proofs.Common.{◌≡◌, ◌∙◌, ℕ, ◌<◌, Bool, true, false, cond, List, [], ◌∷◌, ◌++◌, length, Option, Some, None, Result, Ok, refl, sym, ap, subst, codes, append_assoc, arith, append-nil}
use Rattle.std.specs.List.{AllByRecursion, flat_map}
use Rattle.postquel_tokens.specs.declared.form.Ident.{Ident}
use Rattle.postquel_tokens.specs.declared.token.Token.{Token}
use Rattle.postquel_tokens.specs.declared.token.Sign.TheVariants as sign
use Rattle.catalog_load.specs.declared.form.ColumnForm.{ColumnForm}
use Rattle.catalog_load.specs.declared.form.RelationForm.{RelationForm}
use Rattle.catalog_load.specs.declared.machine.Place.{Place}
use Rattle.catalog_load.specs.declared.machine.Place.TheVariants as place
use Rattle.catalog_load.specs.Catalogs.{IsPiece, Mark, Named, Piece, Quoted, Spell, Word, column_pieces, columns_pieces, entry_pieces, head_pieces, index_pieces, more_columns, type_word}
use Rattle.catalog_load.specs.Machine.{State, finish, new_entry, new_column, nullable_column, run, step, with_column, with_index}
use Rattle.catalog_load.proofs.Tokens.{name_passes, type_passes}
use Rattle.catalog_load.proofs.Leading.{HasColumns}

-- one step of the machine
pub go : (es : List RelationForm) (p : Place) (t : Token) (ts : List Token) (s : State) → step es p t ≡ Some s → run es p (t ∷ ts) ≡ run s.0 s.1 ts
unfolding run
go es p t ts s e = rw e refl

abbrev pub Reading : Type 0
Reading = Result (List RelationForm) (List Token)

-- the text is cut so that the tail is spelled by the rest
abbrev pub Passes : Reading → List Piece → (List Token → Reading) → Type 0
Passes from tail to = (rest : List Token) × Spell tail rest × ((w : List Token) → from ≡ to rest)

name_step : (es : List RelationForm) (e : RelationForm) (c : ColumnForm) (t : Token) → IsPiece (Named c.name) t → step es (place.Column e) t ≡ Some (es, place.Equal e c.name)
name_step es e c t h = rw (name_passes t c.name h) refl

equal_step : (es : List RelationForm) (e : RelationForm) (n : Ident) (t : Token) → IsPiece (Mark sign.Equal) t → step es (place.Equal e n) t ≡ Some (es, place.Type e n)
equal_step es e n t h = rw h refl

type_step : (es : List RelationForm) (e : RelationForm) (c : ColumnForm) (t : Token) → IsPiece (Word (type_word c.col_type)) t → step es (place.Type e c.name) t ≡ Some (es, place.BehindType e (new_column c.name c.col_type))
type_step es e c t h = rw (type_passes t c.col_type h) refl

null_step : (es : List RelationForm) (e : RelationForm) (c : ColumnForm) (t : Token) → IsPiece (Word (codes "null")) t → step es (place.BehindType e c) t ≡ Some (es, place.BehindNull e (nullable_column c))
null_step es e c t h = rw h refl

comma_type : (es : List RelationForm) (e : RelationForm) (c : ColumnForm) (t : Token) → IsPiece (Mark sign.Comma) t → step es (place.BehindType e c) t ≡ Some (es, place.Column (with_column e c))
comma_type es e c t h = rw h refl

comma_null : (es : List RelationForm) (e : RelationForm) (c : ColumnForm) (t : Token) → IsPiece (Mark sign.Comma) t → step es (place.BehindNull e c) t ≡ Some (es, place.Column (with_column e c))
comma_null es e c t h = rw h refl

right_type : (es : List RelationForm) (e : RelationForm) (c : ColumnForm) (t : Token) → IsPiece (Mark sign.Right) t → step es (place.BehindType e c) t ≡ Some (es, place.BehindColumns (with_column e c))
right_type es e c t h = rw h refl

right_null : (es : List RelationForm) (e : RelationForm) (c : ColumnForm) (t : Token) → IsPiece (Mark sign.Right) t → step es (place.BehindNull e c) t ≡ Some (es, place.BehindColumns (with_column e c))
right_null es e c t h = rw h refl

-- behind a column's parts the machine stands behind its type or its `null`
abbrev pub BehindIt : List RelationForm → RelationForm → ColumnForm → Place → Type 0
BehindIt es e c p = ((t : Token) → IsPiece (Mark sign.Comma) t → step es p t ≡ Some (es, place.Column (with_column e c))) × ((t : Token) → IsPiece (Mark sign.Right) t → step es p t ≡ Some (es, place.BehindColumns (with_column e c)))

three : (es : List RelationForm) (e : RelationForm) (c : ColumnForm) (a b d : Token) (w : List Token) → IsPiece (Named c.name) a → IsPiece (Mark sign.Equal) b → IsPiece (Word (type_word c.col_type)) d
    → run es (place.Column e) (a ∷ b ∷ d ∷ w) ≡ run es (place.BehindType e (new_column c.name c.col_type)) w
three es e c a b d w x y z = go es _ a _ _ (name_step es e c a x) ∙ go es _ b _ _ (equal_step es e c.name b y) ∙ go es _ d _ _ (type_step es e c d z)

column_by : (es : List RelationForm) (e : RelationForm) (c : ColumnForm) (nullable : Bool) (tail : List Piece) (u : List Token) → c.nullable ≡ nullable → Spell ((Named c.name ∷ Mark sign.Equal ∷ Word (type_word c.col_type) ∷ cond nullable (Word (codes "null") ∷ []) []) ++ tail) u
    → (rest : List Token) × (p : Place) × Spell tail rest × BehindIt es e c p × ((w : List Token) → run es (place.Column e) (u ++ w) ≡ run es p (rest ++ w))
column_by es e c true tail (a ∷ b ∷ d ∷ n ∷ rest) is h =
    let same : nullable_column (new_column c.name c.col_type) ≡ c = rw (← is) refl in
    (rest, place.BehindNull e c, h.1.1.1.1, (comma_null es e c, right_null es e c), (λ w. three es e c a b d (n ∷ (rest ++ w)) h.0 h.1.0 h.1.1.0 ∙ go es _ n _ _ (null_step es e (new_column c.name c.col_type) n h.1.1.1.0) ∙ ap (λ x. run es (place.BehindNull e x) (rest ++ w)) same))
column_by es e c true tail [] is h = absurd h
column_by es e c true tail (a ∷ []) is h = absurd h.1
column_by es e c true tail (a ∷ b ∷ []) is h = absurd h.1.1
column_by es e c true tail (a ∷ b ∷ d ∷ []) is h = absurd h.1.1.1
column_by es e c false tail (a ∷ b ∷ d ∷ rest) is h =
    let same : new_column c.name c.col_type ≡ c = rw (← is) refl in
    (rest, place.BehindType e c, h.1.1.1, (comma_type es e c, right_type es e c), (λ w. three es e c a b d (rest ++ w) h.0 h.1.0 h.1.1.0 ∙ ap (λ x. run es (place.BehindType e x) (rest ++ w)) same))
column_by es e c false tail [] is h = absurd h
column_by es e c false tail (a ∷ []) is h = absurd h.1
column_by es e c false tail (a ∷ b ∷ []) is h = absurd h.1.1

abbrev pub with_columns : RelationForm → List ColumnForm → RelationForm
with_columns e cs = record { name = e.name; file = e.file; columns = e.columns ++ cs; index = e.index }

with_one : (e : RelationForm) (c : ColumnForm) (cs : List ColumnForm) → with_columns (with_column e c) cs ≡ with_columns e (c ∷ cs)
with_one e c cs = ap (λ x. record { name = e.name; file = e.file; columns = x; index = e.index }) (append_assoc e.columns (c ∷ []) cs)

assoc_tail : (c : ColumnForm) (cs : List ColumnForm) (tail : List Piece) → (column_pieces c ++ more_columns cs) ++ tail ≡ column_pieces c ++ (more_columns cs ++ tail)
assoc_tail c cs tail = append_assoc (column_pieces c) (more_columns cs) tail

abbrev pub Stands : List RelationForm → RelationForm → ColumnForm → List Piece → List Token → Type 0
Stands es e c tail u = (rest : List Token) × (p : Place) × Spell tail rest × BehindIt es e c p × ((w : List Token) → run es (place.Column e) (u ++ w) ≡ run es p (rest ++ w))

abbrev pub Closes : List RelationForm → RelationForm → List ColumnForm → List Piece → List Token → Type 0
Closes es e cs tail u = (rest : List Token) × Spell tail rest × ((w : List Token) → run es (place.Column e) (u ++ w) ≡ run es (place.BehindColumns (with_columns e cs)) (rest ++ w))

last_column : (es : List RelationForm) (e : RelationForm) (c : ColumnForm) (tail : List Piece) (u : List Token) → Stands es e c (Mark sign.Right ∷ tail) u → Closes es e (c ∷ []) tail u
last_column es e c tail u ([], p, s, b, r) = absurd s
last_column es e c tail u (t ∷ rest, p, s, b, r) = (rest, s.1, (λ w. r w ∙ go es p t (rest ++ w) _ (b.1 t s.0)))

next_column : (es : List RelationForm) (e : RelationForm) (c d : ColumnForm) (ds : List ColumnForm) (after tail : List Piece) (u : List Token) → Stands es e c (Mark sign.Comma ∷ after) u
    → ((rest : List Token) → Spell after rest → Closes es (with_column e c) (d ∷ ds) tail rest) → Closes es e (c ∷ d ∷ ds) tail u
next_column es e c d ds after tail u ([], p, s, b, r) more = absurd s
next_column es e c d ds after tail u (t ∷ rest, p, s, b, r) more =
    let m = more rest s.1 in
    (m.0, m.1, (λ w. r w ∙ go es p t (rest ++ w) _ (b.0 t s.0) ∙ m.2 w ∙ ap (λ x. run es (place.BehindColumns x) (m.0 ++ w)) (with_one e c (d ∷ ds))))

pub columns_run : (es : List RelationForm) (e : RelationForm) (c : ColumnForm) (cs : List ColumnForm) (tail : List Piece) (u : List Token) → Spell (columns_pieces (c ∷ cs) ++ Mark sign.Right ∷ tail) u → Closes es e (c ∷ cs) tail u
columns_run es e c [] tail u h = last_column es e c tail u (column_by es e c c.nullable (Mark sign.Right ∷ tail) u refl (subst (λ (ps : List Piece). Spell ps u) (assoc_tail c [] (Mark sign.Right ∷ tail)) h))
columns_run es e c (d ∷ ds) tail u h =
    next_column es e c d ds (columns_pieces (d ∷ ds) ++ Mark sign.Right ∷ tail) tail u (column_by es e c c.nullable (Mark sign.Comma ∷ (columns_pieces (d ∷ ds) ++ Mark sign.Right ∷ tail)) u refl (subst (λ (ps : List Piece). Spell ps u) (assoc_tail c (d ∷ ds) (Mark sign.Right ∷ tail)) h))
    (λ rest s. columns_run es (with_column e c) d ds tail rest s)

-- between entries: what `relation` leads to, and the entries where the text ends
abbrev pub IsBetween : List RelationForm → Place → List RelationForm → Type 0
IsBetween es p all = ((t : Token) → IsPiece (Word (codes "relation")) t → step es p t ≡ Some (all, place.Name)) × (finish es p ≡ Some all)

pub between_relation : (es : List RelationForm) → IsBetween es place.Relation es
between_relation es = ((λ t h. rw h refl), refl)

between_columns : (es : List RelationForm) (e : RelationForm) → IsBetween es (place.BehindColumns e) (es ++ e ∷ [])
between_columns es e = ((λ t h. rw h refl), refl)

word_name : (es : List RelationForm) (n : Ident) (t : Token) → IsPiece (Named n) t → step es place.Name t ≡ Some (es, place.From n)
word_name es n t h = rw (name_passes t n h) refl

from_step : (es : List RelationForm) (n : Ident) (t : Token) → IsPiece (Word (codes "from")) t → step es (place.From n) t ≡ Some (es, place.File n)
from_step es n t h = rw h refl

file_step : (es : List RelationForm) (n : Ident) (text : List ℕ) (t : Token) → IsPiece (Quoted text) t → step es (place.File n) t ≡ Some (es, place.Open (new_entry n text))
file_step es n text t h = rw h refl

left_step : (es : List RelationForm) (e : RelationForm) (t : Token) → IsPiece (Mark sign.Left) t → step es (place.Open e) t ≡ Some (es, place.Column e)
left_step es e t h = rw h refl

index_step : (es : List RelationForm) (e : RelationForm) (t : Token) → IsPiece (Word (codes "index")) t → step es (place.BehindColumns e) t ≡ Some (es, place.Index e)
index_step es e t h = rw h refl

indexed_step : (es : List RelationForm) (e : RelationForm) (n : Ident) (t : Token) → IsPiece (Named n) t → step es (place.Index e) t ≡ Some (es ++ with_index e n ∷ [], place.Relation)
indexed_step es e n t h = rw (name_passes t n h) refl

abbrev pub Arrives : List RelationForm → Place → List Token → List Piece → List RelationForm → Type 0
Arrives es p u tail all = (fs : List RelationForm) × (q : Place) × (rest : List Token) × Spell tail rest × IsBetween fs q all × (run es p u ≡ run fs q rest)

-- behind the columns: an index or none
index_run : (all : List RelationForm) (r : RelationForm) (index : Option Ident) (tail : List Piece) (u : List Token) → Spell (index_pieces index ++ tail) u
    → Arrives all (place.BehindColumns (record { name = r.name; file = r.file; columns = r.columns; index = None })) u tail (all ++ record { name = r.name; file = r.file; columns = r.columns; index = index } ∷ [])
index_run all r None tail u h = (all, place.BehindColumns (record { name = r.name; file = r.file; columns = r.columns; index = None }), u, h, between_columns all (record { name = r.name; file = r.file; columns = r.columns; index = None }), refl)
index_run all r (Some n) tail (a ∷ b ∷ rest) h = (
  all ++ record { name = r.name; file = r.file; columns = r.columns; index = Some n } ∷ [],
  place.Relation,
  rest,
  h.1.1,
  between_relation (all ++ record { name = r.name; file = r.file; columns = r.columns; index = Some n } ∷ []),
  go all _ a (b ∷ rest) _ (index_step all _ a h.0) ∙ go all _ b rest _ (indexed_step all (record { name = r.name; file = r.file; columns = r.columns; index = None }) n b h.1.0),
)
index_run all r (Some n) tail [] h = absurd h
index_run all r (Some n) tail (a ∷ []) h = absurd h.1

-- a whole entry
entry_run : (es : List RelationForm) (p : Place) (all : List RelationForm) (n : Ident) (f : List ℕ) (c : ColumnForm) (cs : List ColumnForm) (i : Option Ident) (tail : List Piece) (u : List Token)
    → IsBetween es p all → Spell (Word (codes "relation") ∷ Named n ∷ Word (codes "from") ∷ Quoted f ∷ Mark sign.Left ∷ (columns_pieces (c ∷ cs) ++ Mark sign.Right ∷ (index_pieces i ++ tail))) u
    → Arrives es p u tail (all ++ record { name = n; file = f; columns = c ∷ cs; index = i } ∷ [])
entry_run es p all n f c cs i tail (t1 ∷ t2 ∷ t3 ∷ t4 ∷ t5 ∷ u) b h =
    let m = columns_run all (new_entry n f) c cs (index_pieces i ++ tail) u h.1.1.1.1.1 in
    let k = index_run all (record { name = n; file = f; columns = c ∷ cs; index = None }) i tail m.0 m.1 in
    let end : (w : List Token) → w ++ [] ≡ w = λ w. append-nil w in
    let cols = ap (run all (place.Column (new_entry n f))) (sym (end u)) ∙ m.2 [] ∙ ap (run all (place.BehindColumns (record { name = n; file = f; columns = c ∷ cs; index = None }))) (end m.0) in (
      k.0,
      k.1,
      k.2,
      k.3,
      k.4,
      go es p t1 _ _ (b.0 t1 h.0) ∙ go all _ t2 _ _ (word_name all n t2 h.1.0) ∙ go all _ t3 _ _ (from_step all n t3 h.1.1.0) ∙ go all _ t4 _ _ (file_step all n f t4 h.1.1.1.0) ∙ go all _ t5 _ _ (left_step all (new_entry n f) t5 h.1.1.1.1.0) ∙ cols ∙ k.5,
    )
entry_run es p all n f c cs i tail [] b h = absurd h
entry_run es p all n f c cs i tail (t1 ∷ []) b h = absurd h.1
entry_run es p all n f c cs i tail (t1 ∷ t2 ∷ []) b h = absurd h.1.1
entry_run es p all n f c cs i tail (t1 ∷ t2 ∷ t3 ∷ []) b h = absurd h.1.1.1
entry_run es p all n f c cs i tail (t1 ∷ t2 ∷ t3 ∷ t4 ∷ []) b h = absurd h.1.1.1.1

entry_tail : (r : RelationForm) (tail : List Piece) → entry_pieces r ++ tail ≡ head_pieces r ++ (columns_pieces r.columns ++ Mark sign.Right ∷ (index_pieces r.index ++ tail))
entry_tail r tail = append_assoc (head_pieces r) (columns_pieces r.columns ++ Mark sign.Right ∷ index_pieces r.index) tail ∙ ap (λ l. head_pieces r ++ l) (append_assoc (columns_pieces r.columns) (Mark sign.Right ∷ index_pieces r.index) tail)

one_entry : (es : List RelationForm) (p : Place) (all : List RelationForm) (r : RelationForm) (cs : List ColumnForm) (tail : List Piece) (u : List Token) → IsBetween es p all → r.columns ≡ cs → 0 < length cs
    → Spell (head_pieces r ++ (columns_pieces cs ++ Mark sign.Right ∷ (index_pieces r.index ++ tail))) u → Arrives es p u tail (all ++ record { name = r.name; file = r.file; columns = cs; index = r.index } ∷ [])
one_entry es p all r [] tail u b is some h = absurd (omega arith)
one_entry es p all r (c ∷ cs) tail u b is some h = entry_run es p all r.name r.file c cs r.index tail u b h

pub all_run : (rs : List RelationForm) (es : List RelationForm) (p : Place) (all : List RelationForm) (u : List Token) → AllByRecursion HasColumns rs → IsBetween es p all → Spell (flat_map entry_pieces rs) u → run es p u ≡ Ok (all ++ rs)
unfolding run
all_run [] es p all [] some b h = rw (b.1, append-nil all) refl
all_run [] es p all (t ∷ u) some b h = absurd h
all_run (r ∷ rs) es p all u some b h =
    let one = one_entry es p all r r.columns (flat_map entry_pieces rs) u b refl some.0 (subst (λ (ps : List Piece). Spell ps u) (entry_tail r (flat_map entry_pieces rs)) h) in
    let rest = all_run rs one.0 one.1 (all ++ r ∷ []) one.2 some.1 one.4 one.3 in
    one.5 ∙ rest ∙ ap Ok (append_assoc all (r ∷ []) rs)
