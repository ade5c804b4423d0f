-- The machine reads exactly the catalogues.
use Rattle.std.proofs.Common.{◌≡◌, ◌∙◌, ◌<◌, Bool, true, false, cond, List, [], ◌∷◌, ◌++◌, length, Option, Some, None, refl, sym, ap, subst, codes, append_assoc, arith}
use Rattle.std.specs.Option.{option_map}
use Rattle.std.proofs.lemmas.List.{append-nil}
use Rattle.std.proofs.lemmas.Grind.{flat_map-append}
use Rattle.postquel_tokens.specs.declared.token.Token.{Token}
use Rattle.postquel_tokens.specs.declared.token.Sign.TheVariants as sign
use Rattle.catalog_load.specs.declared.form.ColumnForm.{ColumnForm}
use Rattle.catalog_load.specs.declared.form.RelationForm.{RelationForm}
use Rattle.catalog_load.specs.declared.machine.Place.{Place}
use Rattle.catalog_load.specs.declared.machine.Place.TheVariants as place
use Rattle.catalog_load.specs.Catalogs.{IsPiece, Mark, Named, Piece, Quoted, Word, column_pieces, columns_pieces, head_pieces, more_columns, type_word}
use Rattle.catalog_load.specs.Machine.{behind_column, behind_type, is_mark, is_word, mark_is, name_of, new_column, new_entry, nullable_column, quoted_of, type_of, with_column, within, word_is}
use Rattle.catalog_load.proofs.Tokens.{comma_told, equal_told, left_told, name_told, quoted_told, right_told, type_told, word_told}

abbrev pub opened : List ColumnForm → List Piece
opened [] = []
opened (c ∷ cs) = columns_pieces (c ∷ cs) ++ Mark sign.Comma ∷ []

abbrev pub columns_so_far : RelationForm → List Piece
columns_so_far e = head_pieces e ++ opened e.columns

abbrev pub closed : RelationForm → List Piece
closed e = head_pieces e ++ columns_pieces e.columns ++ Mark sign.Right ∷ []

-- the parts of the entry at a place
abbrev pub so_far : Place → List Piece
so_far place.Relation = []
so_far place.Name = Word (codes "relation") ∷ []
so_far (place.From n) = Word (codes "relation") ∷ Named n ∷ []
so_far (place.File n) = Word (codes "relation") ∷ Named n ∷ Word (codes "from") ∷ []
so_far (place.Open e) = Word (codes "relation") ∷ Named e.name ∷ Word (codes "from") ∷ Quoted e.file ∷ []
so_far (place.Column e) = columns_so_far e
so_far (place.Equal e n) = columns_so_far e ++ Named n ∷ []
so_far (place.Type e n) = columns_so_far e ++ Named n ∷ Mark sign.Equal ∷ []
so_far (place.BehindType e c) = columns_so_far e ++ column_pieces c
so_far (place.BehindNull e c) = columns_so_far e ++ column_pieces c
so_far (place.BehindColumns e) = closed e
so_far (place.Index e) = closed e ++ Word (codes "index") ∷ []

-- what is true of the entry at a place
abbrev pub Open : Place → Type 0
Open place.Relation = Unit {0}
Open place.Name = Unit {0}
Open (place.From n) = Unit {0}
Open (place.File n) = Unit {0}
Open (place.Open e) = (e.columns ≡ []) × (e.index ≡ None)
Open (place.Column e) = e.index ≡ None
Open (place.Equal e n) = e.index ≡ None
Open (place.Type e n) = e.index ≡ None
Open (place.BehindType e c) = (e.index ≡ None) × (c.nullable ≡ false)
Open (place.BehindNull e c) = (e.index ≡ None) × (c.nullable ≡ true)
Open (place.BehindColumns e) = (e.index ≡ None) × (0 < length e.columns)
Open (place.Index e) = (e.index ≡ None) × (0 < length e.columns)

abbrev pub HasColumns : RelationForm → Type 0
HasColumns r = 0 < length r.columns

-- the next place, and the part that leads there
abbrev pub Leads : Place → Token → Place → Type 0
Leads p t q = (piece : Piece) × IsPiece piece t × (so_far q ≡ so_far p ++ piece ∷ []) × Open q

some_is : {A B : Type 0} (f : A → B) (o : Option A) (y : B) → option_map f o ≡ Some y → (x : A) × (o ≡ Some x) × (f x ≡ y)
some_is f None y e = cc
some_is f (Some x) y e = (x, refl, (let same : f x ≡ y = cc in same))

if_some : {A : Type 0} (b : Bool) (x y : A) → cond b (Some x) None ≡ Some y → (b ≡ true) × (x ≡ y)
if_some true x y e = (refl, (let same : x ≡ y = cc in same))
if_some false x y e = cc

more_one : (cs : List ColumnForm) (c : ColumnForm) → more_columns (cs ++ c ∷ []) ≡ more_columns cs ++ Mark sign.Comma ∷ column_pieces c
more_one cs c = flat_map-append (λ (x : ColumnForm). Mark sign.Comma ∷ column_pieces x) cs (c ∷ []) ∙ ap (λ l. more_columns cs ++ Mark sign.Comma ∷ l) (append-nil (column_pieces c))

pub joined : (cs : List ColumnForm) (c : ColumnForm) → columns_pieces (cs ++ c ∷ []) ≡ opened cs ++ column_pieces c
joined [] c = append-nil (column_pieces c)
joined (a ∷ cs) c =
    ap (λ l. column_pieces a ++ l) (more_one cs c)
    ∙ sym (append_assoc (column_pieces a) (more_columns cs) (Mark sign.Comma ∷ column_pieces c))
    ∙ sym (append_assoc (columns_pieces (a ∷ cs)) (Mark sign.Comma ∷ []) (column_pieces c))

pub opened_more : (cs : List ColumnForm) (c : ColumnForm) → opened (cs ++ c ∷ []) ≡ columns_pieces (cs ++ c ∷ []) ++ Mark sign.Comma ∷ []
opened_more [] c = refl
opened_more (a ∷ cs) c = refl

some_more : {A : Type 0} (xs : List A) (x : A) → 0 < length (xs ++ x ∷ [])
some_more [] x = omega arith
some_more (y ∷ xs) x = omega arith

column_leads : (e : RelationForm) (c : ColumnForm) (p q : Place) (t : Token) → e.index ≡ None → so_far p ≡ columns_so_far e ++ column_pieces c → behind_column e c t ≡ Some q → Leads p t q
column_leads e c p q t none is h = by (mark_is sign.Comma t.kind) (mark_is sign.Right t.kind) refl refl h where
  columns : columns_so_far e ++ column_pieces c ≡ head_pieces e ++ columns_pieces (e.columns ++ c ∷ [])
  columns = append_assoc (head_pieces e) (opened e.columns) (column_pieces c) ∙ ap (λ l. head_pieces e ++ l) (sym (joined e.columns c))

  by : (a b : Bool) → mark_is sign.Comma t.kind ≡ a → mark_is sign.Right t.kind ≡ b → cond a (Some (place.Column (with_column e c))) (cond b (Some (place.BehindColumns (with_column e c))) None) ≡ Some q → Leads p t q
  by true b x y h =
      let same : place.Column (with_column e c) ≡ q = cc in
      let parts = ap (λ l. l ++ Mark sign.Comma ∷ []) (is ∙ columns) ∙ append_assoc (head_pieces e) (columns_pieces (e.columns ++ c ∷ [])) (Mark sign.Comma ∷ []) ∙ ap (λ l. head_pieces e ++ l) (sym (opened_more e.columns c)) in
      subst (λ (r : Place). Leads p t r) same (Mark sign.Comma, comma_told t.kind x, sym parts, none)
  by false true x y h =
      let same : place.BehindColumns (with_column e c) ≡ q = cc in
      let parts = ap (λ l. l ++ Mark sign.Right ∷ []) (is ∙ columns) ∙ append_assoc (head_pieces e) (columns_pieces (e.columns ++ c ∷ [])) (Mark sign.Right ∷ []) in
      subst (λ (r : Place). Leads p t r) same (Mark sign.Right, right_told t.kind y, sym parts, (none, some_more e.columns c))
  by false false x y h = cc

null_pieces : (c : ColumnForm) → c.nullable ≡ false → column_pieces (nullable_column c) ≡ column_pieces c ++ Word (codes "null") ∷ []
null_pieces c e = rw e refl

type_leads : (e : RelationForm) (c : ColumnForm) (q : Place) (t : Token) → e.index ≡ None → c.nullable ≡ false → behind_type e c t ≡ Some q → Leads (place.BehindType e c) t q
type_leads e c q t none plain h = by (word_is (codes "null") t.kind) refl h where
  by : (a : Bool) → word_is (codes "null") t.kind ≡ a → cond a (Some (place.BehindNull e (nullable_column c))) (behind_column e c t) ≡ Some q → Leads (place.BehindType e c) t q
  by true x h =
      let same : place.BehindNull e (nullable_column c) ≡ q = cc in
      let parts = append_assoc (columns_so_far e) (column_pieces c) (Word (codes "null") ∷ []) ∙ ap (λ l. columns_so_far e ++ l) (sym (null_pieces c plain)) in
      subst (λ (r : Place). Leads (place.BehindType e c) t r) same (Word (codes "null"), word_told (codes "null") t.kind x, sym parts, (none, refl))
  by false x h = column_leads e c (place.BehindType e c) q t none refl h

pub leads : (p q : Place) (t : Token) → Open p → within p t ≡ Some q → Leads p t q
leads place.Relation q t o h =
    let s = if_some (is_word (codes "relation") t) place.Name q h in
    subst (λ (r : Place). Leads place.Relation t r) s.1 (Word (codes "relation"), word_told (codes "relation") t.kind s.0, refl, tt)
leads place.Name q t o h =
    let s = some_is place.From (name_of t) q h in
    subst (λ (r : Place). Leads place.Name t r) s.2 (Named s.0, name_told t s.0 s.1, refl, tt)
leads (place.From n) q t o h =
    let s = if_some (is_word (codes "from") t) (place.File n) q h in
    subst (λ (r : Place). Leads (place.From n) t r) s.1 (Word (codes "from"), word_told (codes "from") t.kind s.0, refl, tt)
leads (place.File n) q t o h =
    let s = some_is (λ file. place.Open (new_entry n file)) (quoted_of t) q h in
    subst (λ (r : Place). Leads (place.File n) t r) s.2 (Quoted s.0, quoted_told t s.0 s.1, refl, (refl, refl))
leads (place.Open e) q t o h =
    let s = if_some (is_mark sign.Left t) (place.Column e) q h in
    let none : opened e.columns ≡ [] = ap opened o.0 in
    subst (λ (r : Place). Leads (place.Open e) t r) s.1 (Mark sign.Left, left_told t.kind s.0, ap (λ l. head_pieces e ++ l) none, o.1)
leads (place.Column e) q t o h =
    let s = some_is (place.Equal e) (name_of t) q h in
    subst (λ (r : Place). Leads (place.Column e) t r) s.2 (Named s.0, name_told t s.0 s.1, refl, o)
leads (place.Equal e n) q t o h =
    let s = if_some (is_mark sign.Equal t) (place.Type e n) q h in
    subst (λ (r : Place). Leads (place.Equal e n) t r) s.1 (Mark sign.Equal, equal_told t.kind s.0, sym (append_assoc (columns_so_far e) (Named n ∷ []) (Mark sign.Equal ∷ [])), o)
leads (place.Type e n) q t o h =
    let s = some_is (λ k. place.BehindType e (new_column n k)) (type_of t) q h in
    subst (λ (r : Place). Leads (place.Type e n) t r) s.2 (Word (type_word s.0), type_told t s.0 s.1, sym (append_assoc (columns_so_far e) (Named n ∷ Mark sign.Equal ∷ []) (Word (type_word s.0) ∷ [])), (o, refl))
leads (place.BehindType e c) q t o h = type_leads e c q t o.0 o.1 h
leads (place.BehindNull e c) q t o h = column_leads e c (place.BehindNull e c) q t o.0 refl h
leads (place.BehindColumns e) q t o h = cc
leads (place.Index e) q t o h = cc
