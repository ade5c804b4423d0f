-- The reading of a text as a catalogue.
use Rattle.std.proofs.Common.{◌≡◌, inl, inr, ◌∙◌, ℕ, ◌<◌, List, [], ◌∷◌, ◌++◌, length, map, Option, Some, None, Result, Ok, Err, refl, sym, ap, subst, codes, append_assoc, append-nil}
use Rattle.std.specs.List.{All, AllByRecursion}
use Rattle.std.proofs.lemmas.List.Elements.{All-head, All-tail}
use Rattle.postquel_tokens.specs.declared.form.Ident.{Ident}
use Rattle.postquel_tokens.specs.declared.fault.Spot.{Spot}
use Rattle.postquel_tokens.specs.declared.fault.TextErr.{TextErr}
use Rattle.postquel_tokens.specs.declared.fault.TextErr.TheVariants as text_err
use Rattle.postquel_tokens.specs.declared.token.Token.{Token}
use Rattle.postquel_tokens.specs.declared.token.TokenKind.{TokenKind}
use Rattle.postquel_tokens.specs.declared.token.TokenKind.TheVariants as kind
use Rattle.postquel_tokens.specs.declared.token.Sign.TheVariants as sign
use Rattle.catalog_load.specs.declared.form.ColumnForm.{ColumnForm}
use Rattle.catalog_load.specs.declared.form.RelationForm.{RelationForm}
use Rattle.catalog_load.specs.declared.machine.Place.{Place}
use Rattle.catalog_load.specs.declared.machine.Place.TheVariants as place
use Rattle.postquel_tokens.specs.Names.{key_of}
use Rattle.catalog_load.specs.Catalogs.{IsForm, fault_of, relation_of, is_key}
use Rattle.catalog_load.specs.Machine.{State, Told, finish, going_on, or_end, run, step}
use Rattle.catalog_load.specs.Readings.{Begins, IsLexed, IsReading, IsUnexpected, NoneWith, Tells, Writes, WritesOr, spot_of}
use Rattle.catalog_load.specs.Checks.{Checked, catalog_from, unless}
use Rattle.catalog_load.specs.declared.form.Flaw.{Flaw}
use Rattle.rows.specs.declared.plain.Relation.{Relation}
use Rattle.catalog_load.proofs.Leading.{HasColumns}
use Rattle.catalog_load.proofs.Sound.{Holds, ended, stepped}
use Rattle.catalog_load.proofs.Complete.{all_run, between_relation, go}

-- the machine at a place that some tokens lead to
abbrev pub At : List Token → State → Type 0
At used s = Holds s.0 s.1 used

abbrev token_of : TokenKind → Token
token_of k = record { kind = k; spot = record { line = 1; col = 1 } }

-- one token more
longer : (used : List Token) (t : Token) → Begins (used ++ t ∷ []) → Begins used
longer used t b = record { entries = b.entries; more = t ∷ b.more; is = subst (λ (ts : List Token). IsForm b.entries ts) (append_assoc used (t ∷ []) b.more) b.is }

whole : (used : List Token) (entries : List RelationForm) → IsForm entries used → Begins used
whole used entries h = record { entries = entries; more = []; is = subst (λ (ts : List Token). IsForm entries ts) (sym (append-nil used)) h }

module _ (es : List RelationForm) (used : List Token) where
  from_end : Holds es place.Relation used → Begins used
  from_end h = whole used es (ended es place.Relation used es h refl)

  from_columns : (e : RelationForm) → Holds es (place.BehindColumns e) used → Begins used
  from_columns e h = whole used (es ++ e ∷ []) (ended es (place.BehindColumns e) used (es ++ e ∷ []) h refl)

from_index : (es : List RelationForm) (used : List Token) (e : RelationForm) → Holds es (place.Index e) used → Begins used
unfolding is_key key_of
from_index es used e h = longer used (token_of (kind.Name [])) (from_end _ _ (stepped es used (token_of (kind.Name [])) (place.Index e) _ h refl))

from_null : (es : List RelationForm) (used : List Token) (e : RelationForm) (c : ColumnForm) → Holds es (place.BehindNull e c) used → Begins used
from_null es used e c h = longer used (token_of (kind.Mark sign.Right)) (from_columns _ _ _ (stepped es used (token_of (kind.Mark sign.Right)) (place.BehindNull e c) _ h refl))

from_behind : (es : List RelationForm) (used : List Token) (e : RelationForm) (c : ColumnForm) → Holds es (place.BehindType e c) used → Begins used
from_behind es used e c h = longer used (token_of (kind.Mark sign.Right)) (from_columns _ _ _ (stepped es used (token_of (kind.Mark sign.Right)) (place.BehindType e c) _ h refl))

from_type : (es : List RelationForm) (used : List Token) (e : RelationForm) (n : Ident) → Holds es (place.Type e n) used → Begins used
from_type es used e n h = longer used (token_of (kind.Name (codes "int4"))) (from_behind _ _ _ _ (stepped es used (token_of (kind.Name (codes "int4"))) (place.Type e n) _ h refl))

from_equal : (es : List RelationForm) (used : List Token) (e : RelationForm) (n : Ident) → Holds es (place.Equal e n) used → Begins used
from_equal es used e n h = longer used (token_of (kind.Mark sign.Equal)) (from_type _ _ _ _ (stepped es used (token_of (kind.Mark sign.Equal)) (place.Equal e n) _ h refl))

from_column : (es : List RelationForm) (used : List Token) (e : RelationForm) → Holds es (place.Column e) used → Begins used
unfolding is_key key_of
from_column es used e h = longer used (token_of (kind.Name [])) (from_equal _ _ _ _ (stepped es used (token_of (kind.Name [])) (place.Column e) _ h refl))

from_open : (es : List RelationForm) (used : List Token) (e : RelationForm) → Holds es (place.Open e) used → Begins used
from_open es used e h = longer used (token_of (kind.Mark sign.Left)) (from_column _ _ _ (stepped es used (token_of (kind.Mark sign.Left)) (place.Open e) _ h refl))

from_file : (es : List RelationForm) (used : List Token) (n : Ident) → Holds es (place.File n) used → Begins used
from_file es used n h = longer used (token_of (kind.Word [])) (from_open _ _ _ (stepped es used (token_of (kind.Word [])) (place.File n) _ h refl))

from_from : (es : List RelationForm) (used : List Token) (n : Ident) → Holds es (place.From n) used → Begins used
from_from es used n h = longer used (token_of (kind.Name (codes "from"))) (from_file _ _ _ (stepped es used (token_of (kind.Name (codes "from"))) (place.From n) _ h refl))

from_name : (es : List RelationForm) (used : List Token) → Holds es place.Name used → Begins used
unfolding is_key key_of
from_name es used h = longer used (token_of (kind.Name [])) (from_from _ _ _ (stepped es used (token_of (kind.Name [])) place.Name _ h refl))

-- from each place some catalogue can be reached
begins : (es : List RelationForm) (p : Place) (used : List Token) → Holds es p used → Begins used
begins es place.Relation used h = from_end es used h
begins es place.Name used h = from_name es used h
begins es (place.From n) used h = from_from es used n h
begins es (place.File n) used h = from_file es used n h
begins es (place.Open e) used h = from_open es used e h
begins es (place.Column e) used h = from_column es used e h
begins es (place.Equal e n) used h = from_equal es used e n h
begins es (place.Type e n) used h = from_type es used e n h
begins es (place.BehindType e c) used h = from_behind es used e c h
begins es (place.BehindNull e c) used h = from_null es used e c h
begins es (place.BehindColumns e) used h = from_columns es used e h
begins es (place.Index e) used h = from_index es used e h

-- the machine stops there
abbrev pub Stops : List RelationForm → Place → List Token → Type 0
Stops es p [] = finish es p ≡ None
Stops es p (t ∷ rest) = step es p t ≡ None

-- where the machine stopped
pub record Stopped (es : List RelationForm) (p : Place) (ts rest : List Token) (used : List Token) : Type 0 where
  pub more : List Token
  pub entries : List RelationForm
  pub at : Place
  pub parts : ts ≡ more ++ rest
  pub holds : Holds entries at (used ++ more)
  pub leads : (w : List Token) → run es p (more ++ w) ≡ run entries at w
  pub stops : Stops entries at rest

none_finished : (o : Option (List RelationForm)) (rest : List Token) → or_end o ≡ Err rest → (o ≡ None) × ([] ≡ rest)
none_finished None rest e = (refl, (let same : [] ≡ rest = cc in same))
none_finished (Some es) rest e = cc

-- what the machine answers is a catalogue, or it stopped
pub answers : (es : List RelationForm) (p : Place) (ts used : List Token) → Holds es p used
    → ((all : List RelationForm) → run es p ts ≡ Ok all → IsForm all (used ++ ts)) × ((rest : List Token) → run es p ts ≡ Err rest → Stopped es p ts rest used)
unfolding run
answers es p [] used h = (right (finish es p) refl, wrong) where
  right : (o : Option (List RelationForm)) → finish es p ≡ o → (all : List RelationForm) → or_end o ≡ Ok all → IsForm all (used ++ [])
  right None is all e = cc
  right (Some found) is all e =
      let same : found ≡ all = cc in
      subst (λ (x : List RelationForm). IsForm x (used ++ [])) same (subst (λ (ts : List Token). IsForm found ts) (sym (append-nil used)) (ended es p used found h is))

  wrong : (rest : List Token) → or_end (finish es p) ≡ Err rest → Stopped es p [] rest used
  wrong rest e =
      let n = none_finished (finish es p) rest e in
      subst (λ (r : List Token). Stopped es p [] r used) n.1 (record { more = []; entries = es; at = p; parts = refl; holds = subst (λ (ts : List Token). Holds es p ts) (sym (append-nil used)) h; leads = λ w. refl; stops = n.0 })
answers es p (t ∷ ts) used h = by (step es p t) refl (λ s e. answers s.0 s.1 ts (used ++ t ∷ []) (stepped es used t p s h e)) where
  by : (o : Option State) → step es p t ≡ o
      → ((s : State) → step es p t ≡ Some s → ((all : List RelationForm) → run s.0 s.1 ts ≡ Ok all → IsForm all ((used ++ t ∷ []) ++ ts)) × ((rest : List Token) → run s.0 s.1 ts ≡ Err rest → Stopped s.0 s.1 ts rest (used ++ t ∷ [])))
      → ((all : List RelationForm) → going_on o (t ∷ ts) (λ fs q. run fs q ts) ≡ Ok all → IsForm all (used ++ t ∷ ts)) × ((rest : List Token) → going_on o (t ∷ ts) (λ fs q. run fs q ts) ≡ Err rest → Stopped es p (t ∷ ts) rest used)
  by None is more = (
    (λ all e. cc),
    (λ rest e.
        let same : t ∷ ts ≡ rest = cc in
        subst (λ (r : List Token). Stopped es p (t ∷ ts) r used) same (record { more = []; entries = es; at = p; parts = refl; holds = subst (λ (us : List Token). Holds es p us) (sym (append-nil used)) h; leads = λ w. refl; stops = is })),
  )
  by (Some s) is more =
      let m = more s is in (
        (λ all e. subst (λ (us : List Token). IsForm all us) (append_assoc used (t ∷ []) ts) (m.0 all e)),
        (λ rest e.
            let k = m.1 rest e in
            record { more = t ∷ k.more; entries = k.entries; at = k.at; parts = ap (λ l. t ∷ l) k.parts; holds = subst (λ (us : List Token). Holds k.entries k.at us) (append_assoc used (t ∷ []) k.more) k.holds; leads = λ w. go es p t (k.more ++ w) s is ∙ k.leads w; stops = k.stops }),
      )

recursed : (entries : List RelationForm) → All (λ r. 0 < length r.columns) entries → AllByRecursion HasColumns entries
recursed [] h = tt
recursed (r ∷ entries) h = (All-head HasColumns r entries h, recursed entries (All-tail HasColumns r entries h))

-- a catalogue is read
pub complete : (entries : List RelationForm) (tokens : List Token) → IsForm entries tokens → run [] place.Relation tokens ≡ Ok entries
complete entries tokens h = all_run entries [] place.Relation [] tokens (recursed entries h.columns) (between_relation []) h.spell

start : Holds [] place.Relation []
start = record { spell = tt; columns = tt; entry = tt }

pub is_form : (entries : List RelationForm) (tokens : List Token) → run [] place.Relation tokens ≡ Ok entries → IsForm entries tokens
is_form entries tokens e = (answers [] place.Relation tokens [] start).0 entries e

none_with : (used rest : List Token) (es : List RelationForm) (p : Place) → ((w : List Token) → run [] place.Relation (used ++ w) ≡ run es p w) → Stops es p rest → NoneWith used rest
unfolding run
none_with used [] es p leads stops = λ entries h.
    let e = sym (complete entries used h) ∙ ap (run [] place.Relation) (sym (append-nil used)) ∙ leads [] in
    let bad : Ok entries ≡ or_end None = e ∙ ap or_end stops in
    cc
none_with used (t ∷ rest) es p leads stops = λ entries w h.
    let e = sym (complete entries (used ++ t ∷ w) h) ∙ leads (t ∷ w) in
    let bad : Ok entries ≡ Err (t ∷ w) = e ∙ ap (λ o. going_on o (t ∷ w) (λ fs q. run fs q w)) stops in
    cc

pub is_unexpected : (tokens rest : List Token) (end there : Spot) → run [] place.Relation tokens ≡ Err rest → there ≡ spot_of rest end → IsUnexpected tokens end there
is_unexpected tokens rest end there e is =
    let k = (answers [] place.Relation tokens [] start).1 rest e in
    record { used = k.more; rest = rest; parts = k.parts; place = is; begins = begins k.entries k.at k.more k.holds; none = none_with k.more rest k.entries k.at k.leads k.stops }

module _ (text : List ℕ) (tokens : List Token) (end : Token) (lexed : IsLexed text tokens end) where
  written_by : {A : Type 0} (view : A → List RelationForm) (r : Result A TextErr) (o : Result (List RelationForm) (List Token)) → run [] place.Relation tokens ≡ o → Told view end.spot r o → WritesOr view text r
  written_by view (Ok found) (Ok entries) is told = record { tokens = tokens; end = end; lexed = lexed; form = is_form (view found) tokens (is ∙ ap Ok told) }
  written_by view (Ok found) (Err rest) is told = absurd told
  written_by view (Err (text_err.Fault line col w)) (Ok entries) is told = absurd told
  written_by view (Err (text_err.Fault line col w)) (Err rest) is told = inr (inl (told.0, record { tokens = tokens; end = end; lexed = lexed; unexpected = is_unexpected tokens rest end.spot (record { line = line; col = col }) is told.1 }))
  written_by view (Err text_err.NoMemory) o is told = tt

  pub written : {A : Type 0} (view : A → List RelationForm) (r : Result A TextErr) → Told view end.spot r (run [] place.Relation tokens) → WritesOr view text r
  written view r told = written_by view r (run [] place.Relation tokens) refl told

module _ (text : List ℕ) (entries : List RelationForm) (writes : Writes text entries) where
  right_by : (o : Option Flaw) (catalog : List Relation) → fault_of entries ≡ o → unless o (map relation_of entries) ≡ Ok catalog → IsReading text (Ok catalog)
  right_by None catalog is e = let same : map relation_of entries ≡ catalog = cc in (entries, writes, is, sym same)
  right_by (Some flaw) catalog is e = cc

  pub right : (catalog : List Relation) → catalog_from [] entries ≡ Ok catalog → IsReading text (Ok catalog)
  right catalog e = right_by (fault_of entries) catalog refl e

  wrong_by : (o : Option Flaw) (flaw : Flaw) → fault_of entries ≡ o → unless o (map relation_of entries) ≡ Err flaw → IsReading text (Err (flaw.what, flaw.spot))
  wrong_by None flaw is e = cc
  wrong_by (Some f) flaw is e = let same : f ≡ flaw = cc in inr (inr (entries, writes, is ∙ ap Some same))

  pub wrong : {A : Type 0} (view : A → List Relation) (e : TextErr) → Checked view (Err e) (catalog_from [] entries) → Tells text (Err e)
  wrong view (text_err.Fault line col w) h = wrong_by (fault_of entries) (record { what = w; spot = record { line = line; col = col } }) refl h
  wrong view text_err.NoMemory h = tt
