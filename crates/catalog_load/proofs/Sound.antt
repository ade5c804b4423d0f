-- What the machine reads is a catalogue.
use Rattle.std.proofs.Common.{◌≡◌, ◌∙◌, Bool, true, false, cond, List, [], ◌∷◌, ◌++◌, Option, Some, None, refl, sym, ap, subst, codes, append_assoc, append-nil}
use Rattle.std.specs.List.{AllByRecursion, flat_map}
use Rattle.std.specs.Option.{option_map}
use Rattle.std.proofs.lemmas.Grind.{flat_map-append}
use Rattle.std.proofs.lemmas.List.Elements.{All-from_recursion}
use Rattle.postquel_tokens.specs.declared.form.Ident.{Ident}
use Rattle.postquel_tokens.specs.declared.token.Token.{Token}
use Rattle.postquel_tokens.specs.declared.token.Sign.TheVariants as sign
use Rattle.catalog_load.specs.declared.form.RelationForm.{RelationForm}
use Rattle.catalog_load.specs.declared.machine.Place.{Place}
use Rattle.catalog_load.specs.declared.machine.Place.TheVariants as place
use Rattle.catalog_load.specs.Catalogs.{IsForm, IsPiece, Mark, Named, Piece, Spell, Word, columns_pieces, entry_pieces, head_pieces}
use Rattle.catalog_load.specs.Machine.{State, behind_columns, finish, indexed, name_of, stay, step, with_index, within, word_is}
use Rattle.catalog_load.proofs.Tokens.{name_told, word_told}
use Rattle.catalog_load.proofs.Leading.{HasColumns, Leads, Open, closed, leads, so_far}

-- the parts of the entries and of the one that is being read
abbrev pub parts : List RelationForm → Place → List Piece
parts es p = flat_map entry_pieces es ++ so_far p

pub record Holds (es : List RelationForm) (p : Place) (used : List Token) : Type 0 where
  pub spell : Spell (parts es p) used
  pub columns : AllByRecursion HasColumns es
  pub entry : Open p

spell_one : (ps : List Piece) (ts : List Token) (p : Piece) (t : Token) → Spell ps ts → IsPiece p t → Spell (ps ++ p ∷ []) (ts ++ t ∷ [])
spell_one [] [] p t h is = (is, tt)
spell_one [] (u ∷ ts) p t h is = absurd h
spell_one (q ∷ ps) [] p t h is = absurd h
spell_one (q ∷ ps) (u ∷ ts) p t h is = (h.0, spell_one ps ts p t h.1 is)

all_more : (es : List RelationForm) (e : RelationForm) → AllByRecursion HasColumns es → HasColumns e → AllByRecursion HasColumns (es ++ e ∷ [])
all_more [] e h is = (is, tt)
all_more (x ∷ es) e h is = (h.0, all_more es e h.1 is)

pub entries_more : (es : List RelationForm) (e : RelationForm) → flat_map entry_pieces (es ++ e ∷ []) ≡ flat_map entry_pieces es ++ entry_pieces e
entries_more es e = flat_map-append entry_pieces es (e ∷ []) ∙ ap (λ l. flat_map entry_pieces es ++ l) (append-nil (entry_pieces e))

-- a whole entry is one that is closed, where it has no index
pub closed_is : (e : RelationForm) → e.index ≡ None → closed e ≡ entry_pieces e
closed_is e none = rw none refl

pub indexed_is : (e : RelationForm) (n : Ident) → e.index ≡ None → entry_pieces (with_index e n) ≡ (closed e ++ Word (codes "index") ∷ []) ++ Named n ∷ []
indexed_is e n none = end (columns_pieces e.columns) where
  end : (cs : List Piece) → (head_pieces e ++ cs ++ Mark sign.Right ∷ Word (codes "index") ∷ Named n ∷ []) ≡ ((head_pieces e ++ cs ++ Mark sign.Right ∷ []) ++ Word (codes "index") ∷ []) ++ Named n ∷ []
  end cs = sym (append_assoc (head_pieces e ++ cs ++ Mark sign.Right ∷ []) (Word (codes "index") ∷ []) (Named n ∷ []) ∙ append_assoc (head_pieces e) (cs ++ Mark sign.Right ∷ []) (Word (codes "index") ∷ Named n ∷ []) ∙ ap (λ l. head_pieces e ++ l) (append_assoc cs (Mark sign.Right ∷ []) (Word (codes "index") ∷ Named n ∷ [])))

module _ (es : List RelationForm) (used : List Token) (t : Token) where
  -- a step inside of an entry
  inside : (p q : Place) → Holds es p used → Leads p t q → Holds es q (used ++ t ∷ [])
  inside p q h l =
      let more = append_assoc (flat_map entry_pieces es) (so_far p) (l.0 ∷ []) ∙ ap (λ x. flat_map entry_pieces es ++ x) (sym l.2) in
      record { spell = subst (λ (ps : List Piece). Spell ps (used ++ t ∷ [])) more (spell_one (parts es p) used l.0 t h.spell l.1); columns = h.columns; entry = l.3 }

  abbrev Next : State → Type 0
  Next s = Holds s.0 s.1 (used ++ t ∷ [])

  staying : (p : Place) (o : Option Place) (s : State) → Holds es p used → ((q : Place) → o ≡ Some q → Leads p t q) → stay es o ≡ Some s → Next s
  staying p None s h l e = cc
  staying p (Some q) s h l e = let same : (es, q) ≡ s = cc in subst Next same (inside p q h (l q refl))

  behind : (e : RelationForm) (s : State) → Holds es (place.BehindColumns e) used → behind_columns es e t ≡ Some s → Next s
  behind e s h is = by (word_is (codes "index") t.kind) (word_is (codes "relation") t.kind) refl refl is where
    by : (a b : Bool) → word_is (codes "index") t.kind ≡ a → word_is (codes "relation") t.kind ≡ b → cond a (Some (es, place.Index e)) (cond b (Some (es ++ e ∷ [], place.Name)) None) ≡ Some s → Next s
    by true b x y is =
        let same : (es, place.Index e) ≡ s = cc in
        subst Next same (inside (place.BehindColumns e) (place.Index e) h (Word (codes "index"), word_told (codes "index") t.kind x, refl, h.entry))
    by false true x y is =
        let same : (es ++ e ∷ [], place.Name) ≡ s = cc in
        let whole = ap (λ l. flat_map entry_pieces es ++ l) (closed_is e h.entry.0) ∙ sym (entries_more es e) in
        subst Next same (record {
          spell = subst (λ (ps : List Piece). Spell (ps ++ Word (codes "relation") ∷ []) (used ++ t ∷ [])) whole (spell_one (parts es (place.BehindColumns e)) used (Word (codes "relation")) t h.spell (word_told (codes "relation") t.kind y));
          columns = all_more es e h.columns h.entry.1;
          entry = tt;
        })
    by false false x y is = cc

  index : (e : RelationForm) (s : State) → Holds es (place.Index e) used → indexed es e t ≡ Some s → Next s
  index e s h is = by (name_of t) refl is where
    by : (o : Option Ident) → name_of t ≡ o → option_map (λ name. (es ++ with_index e name ∷ [], place.Relation)) o ≡ Some s → Next s
    by None n is = cc
    by (Some name) n is =
        let same : (es ++ with_index e name ∷ [], place.Relation) ≡ s = cc in
        let whole = append_assoc (flat_map entry_pieces es) (closed e ++ Word (codes "index") ∷ []) (Named name ∷ []) ∙ ap (λ l. flat_map entry_pieces es ++ l) (sym (indexed_is e name h.entry.0)) ∙ sym (entries_more es (with_index e name)) ∙ sym (append-nil (flat_map entry_pieces (es ++ with_index e name ∷ []))) in
        subst Next same (record {
          spell = subst (λ (ps : List Piece). Spell ps (used ++ t ∷ [])) whole (spell_one (parts es (place.Index e)) used (Named name) t h.spell (name_told t name n));
          columns = all_more es (with_index e name) h.columns h.entry.1;
          entry = tt;
        })

  pub stepped : (p : Place) (s : State) → Holds es p used → step es p t ≡ Some s → Next s
  stepped (place.BehindColumns e) s h is = behind e s h is
  stepped (place.Index e) s h is = index e s h is
  stepped place.Relation s h is = staying place.Relation (within place.Relation t) s h (λ q. leads place.Relation q t h.entry) is
  stepped place.Name s h is = staying place.Name (within place.Name t) s h (λ q. leads place.Name q t h.entry) is
  stepped (place.From n) s h is = staying (place.From n) (within (place.From n) t) s h (λ q. leads (place.From n) q t h.entry) is
  stepped (place.File n) s h is = staying (place.File n) (within (place.File n) t) s h (λ q. leads (place.File n) q t h.entry) is
  stepped (place.Open e) s h is = staying (place.Open e) (within (place.Open e) t) s h (λ q. leads (place.Open e) q t h.entry) is
  stepped (place.Column e) s h is = staying (place.Column e) (within (place.Column e) t) s h (λ q. leads (place.Column e) q t h.entry) is
  stepped (place.Equal e n) s h is = staying (place.Equal e n) (within (place.Equal e n) t) s h (λ q. leads (place.Equal e n) q t h.entry) is
  stepped (place.Type e n) s h is = staying (place.Type e n) (within (place.Type e n) t) s h (λ q. leads (place.Type e n) q t h.entry) is
  stepped (place.BehindType e c) s h is = staying (place.BehindType e c) (within (place.BehindType e c) t) s h (λ q. leads (place.BehindType e c) q t h.entry) is
  stepped (place.BehindNull e c) s h is = staying (place.BehindNull e c) (within (place.BehindNull e c) t) s h (λ q. leads (place.BehindNull e c) q t h.entry) is

-- where the text may end, the entries are what was used
pub ended : (es : List RelationForm) (p : Place) (used : List Token) (all : List RelationForm) → Holds es p used → finish es p ≡ Some all → IsForm all used
ended es place.Relation used all h is =
    let same : es ≡ all = cc in
    subst (λ (x : List RelationForm). IsForm x used) same (record { columns = All-from_recursion HasColumns es h.columns; spell = subst (λ (ps : List Piece). Spell ps used) (append-nil (flat_map entry_pieces es)) h.spell })
ended es (place.BehindColumns e) used all h is =
    let same : es ++ e ∷ [] ≡ all = cc in
    let whole = ap (λ l. flat_map entry_pieces es ++ l) (closed_is e h.entry.0) ∙ sym (entries_more es e) in
    subst (λ (x : List RelationForm). IsForm x used) same (record { columns = All-from_recursion HasColumns (es ++ e ∷ []) (all_more es e h.columns h.entry.1); spell = subst (λ (ps : List Piece). Spell ps used) whole h.spell })
ended es place.Name used all h is = cc
ended es (place.From n) used all h is = cc
ended es (place.File n) used all h is = cc
ended es (place.Open e) used all h is = cc
ended es (place.Column e) used all h is = cc
ended es (place.Equal e n) used all h is = cc
ended es (place.Type e n) used all h is = cc
ended es (place.BehindType e c) used all h is = cc
ended es (place.BehindNull e c) used all h is = cc
ended es (place.Index e) used all h is = cc
