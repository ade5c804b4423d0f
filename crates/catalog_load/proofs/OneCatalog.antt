-- Two readings of one text are equal.
use Rattle.std.proofs.Common.{◌≡◌, ◌⊎◌, inl, inr, ◌∙◌, ℕ, List, [], ◌∷◌, ◌++◌, length, map, Option, Some, None, Result, Ok, Err, refl, sym, ap, subst, append_assoc, append-nil, arith, length-append}
use Rattle.postquel_tokens.specs.declared.fault.Spot.{Spot}
use Rattle.postquel_tokens.specs.declared.fault.What.{What}
use Rattle.postquel_tokens.specs.declared.fault.What.TheVariants as what
use Rattle.postquel_tokens.specs.declared.token.Token.{Token}
use Rattle.postquel_tokens.specs.Lex.{lex_of}
use Rattle.rows.specs.declared.plain.Relation.{Relation}
use Rattle.catalog_load.specs.declared.form.Flaw.{Flaw}
use Rattle.catalog_load.specs.declared.form.RelationForm.{RelationForm}
use Rattle.catalog_load.specs.Catalogs.{IsForm, fault_of, relation_of}
use Rattle.catalog_load.specs.Readings.{Begins, HasUnexpected, IsLexed, IsReading, IsUnexpected, NoneWith, OneCatalog, Writes, spot_of}
use Rattle.catalog_load.proofs.Answering.{complete}

-- ---- the tokens of a text

-- the last token and those before it
same_tokens : (ts us : List Token) (e f : Token) → ts ++ e ∷ [] ≡ us ++ f ∷ [] → (ts ≡ us) × (e ≡ f)
same_tokens [] [] e f is = (refl, (let same : e ≡ f = cc in same))
same_tokens [] (u ∷ us) e f is = absurd (omega (arith, ap length is, length-append us (f ∷ [])))
same_tokens (t ∷ ts) [] e f is = absurd (omega (arith, ap length is, length-append ts (e ∷ [])))
same_tokens (t ∷ ts) (u ∷ us) e f is =
    let first : t ≡ u = cc in
    let rest : ts ++ e ∷ [] ≡ us ++ f ∷ [] = cc in
    let more = same_tokens ts us e f rest in
    ((let front : ts ≡ us = more.0 in cc), more.1)

one_lexed : (text : List ℕ) (ts us : List Token) (e f : Token) → IsLexed text ts e → IsLexed text us f → (ts ≡ us) × (e ≡ f)
one_lexed text ts us e f x y =
    let both : Ok (ts ++ e ∷ []) ≡ Ok (us ++ f ∷ []) = sym x.gives ∙ y.gives in
    same_tokens ts us e f (let same : ts ++ e ∷ [] ≡ us ++ f ∷ [] = cc in same)

not_lexed : (text : List ℕ) (f : What × Spot) (ts : List Token) (e : Token) → lex_of text ≡ Err f → IsLexed text ts e → ⊥
not_lexed text f ts e is x =
    let both : Err f ≡ Ok (ts ++ e ∷ []) = sym is ∙ x.gives in
    cc

-- ---- the entries of a text

-- the tokens tell the entries, since the machine finds these
one_form : (es fs : List RelationForm) (ts : List Token) → IsForm es ts → IsForm fs ts → es ≡ fs
one_form es fs ts x y =
    let both : Ok es ≡ Ok fs = sym (complete es ts x) ∙ complete fs ts y in
    let same : es ≡ fs = cc in
    same

both_write : (text : List ℕ) (es fs : List RelationForm) → Writes text es → Writes text fs → es ≡ fs
both_write text es fs x y =
    let l = one_lexed text x.tokens y.tokens x.end y.end x.lexed y.lexed in
    one_form es fs y.tokens (subst (IsForm es) l.0 x.form) y.form

-- ---- an unexpected token

stopped : (used rest : List Token) (es : List RelationForm) → IsForm es (used ++ rest) → NoneWith used rest → ⊥
stopped used [] es h none = none es (subst (IsForm es) (append-nil used) h)
stopped used (t ∷ w) es h none = none es w h

write_unexpected : (text : List ℕ) (es : List RelationForm) (there : Spot) → Writes text es → HasUnexpected text there → ⊥
write_unexpected text es there x y =
    let l = one_lexed text x.tokens y.tokens x.end y.end x.lexed y.lexed in
    let u = y.unexpected in
    stopped u.used u.rest es (subst (IsForm es) (l.0 ∙ u.parts) x.form) u.none

-- no catalogue begins with these and the token that isn't expected behind them
blocked : (used rest : List Token) (t : Token) (w x : List Token) → rest ≡ t ∷ x → NoneWith used rest → Begins (used ++ t ∷ w) → ⊥
blocked used rest t w x is none b = subst (NoneWith used) is none b.entries (w ++ b.more) (subst (IsForm b.entries) (append_assoc used (t ∷ w) b.more) b.is)

-- the second part goes on with the first token behind the first part
abbrev GoesOn : List Token → List Token → List Token → Type 0
GoesOn u r v = (t : Token) × (w : List Token) × (x : List Token) × (v ≡ u ++ t ∷ w) × (r ≡ t ∷ x)

abbrev Cuts : List Token → List Token → List Token → List Token → Type 0
Cuts u r v q = (r ≡ q) ⊎ (GoesOn u r v ⊎ GoesOn v q u)

one_more : (y z : Token) (u r v q : List Token) → y ≡ z → Cuts u r v q → Cuts (y ∷ u) r (z ∷ v) q
one_more y z u r v q e (inl c) = inl c
one_more y z u r v q e (inr (inl (t, w, x, p, s))) = inr (inl (t, w, x, cc, s))
one_more y z u r v q e (inr (inr (t, w, x, p, s))) = inr (inr (t, w, x, cc, s))

cuts : (u r v q : List Token) → u ++ r ≡ v ++ q → Cuts u r v q
cuts [] r [] q e = inl e
cuts [] r (z ∷ v) q e = inr (inl (z, v, v ++ q, refl, e))
cuts (y ∷ u) r [] q e = inr (inr (y, u, u ++ r, refl, sym e))
cuts (y ∷ u) r (z ∷ v) q e =
    let first : y ≡ z = cc in
    let rest : u ++ r ≡ v ++ q = cc in
    one_more y z u r v q first (cuts u r v q rest)

one_place : (ts : List Token) (end p q : Spot) → IsUnexpected ts end p → IsUnexpected ts end q → p ≡ q
one_place ts end p q a b = elim (cuts a.used a.rest b.used b.rest (sym a.parts ∙ b.parts)) [
  | inl c ↦ a.place ∙ ap (λ (r : List Token). spot_of r end) c ∙ sym b.place
  | inr c ↦ elim c [
    | inl d ↦ absurd (blocked a.used a.rest d.0 d.1 d.2 d.4 a.none (subst Begins d.3 b.begins))
    | inr d ↦ absurd (blocked b.used b.rest d.0 d.1 d.2 d.4 b.none (subst Begins d.3 a.begins))
  ]
]

both_unexpected : (text : List ℕ) (p q : Spot) → HasUnexpected text p → HasUnexpected text q → p ≡ q
both_unexpected text p q x y =
    let l = one_lexed text x.tokens y.tokens x.end y.end x.lexed y.lexed in
    one_place y.tokens y.end.spot p q (subst (λ (e : Token). IsUnexpected y.tokens e.spot p) l.1 (subst (λ (ts : List Token). IsUnexpected ts x.end.spot p) l.0 x.unexpected)) y.unexpected

-- ---- the form of a text: its entries, or a fault of its tokens

abbrev Outcome : Type 0
Outcome = Result (List RelationForm) (What × Spot)

abbrev HasFault : List ℕ → What × Spot → Type 0
HasFault text f = (lex_of text ≡ Err f) ⊎ ((f.0 ≡ what.Unexpected) × HasUnexpected text f.1)

abbrev HasForm : List ℕ → Outcome → Type 0
HasForm text (Ok es) = Writes text es
HasForm text (Err f) = HasFault text f

fault_unwritten : (text : List ℕ) (es : List RelationForm) (f : What × Spot) → Writes text es → HasFault text f → ⊥
fault_unwritten text es f x (inl e) = not_lexed text f x.tokens x.end e x.lexed
fault_unwritten text es f x (inr u) = write_unexpected text es f.1 x u.1

pair : (f g : What × Spot) → f.0 ≡ g.0 → f.1 ≡ g.1 → f ≡ g
pair (w, p) (v, q) e h = cc

one_fault : (text : List ℕ) (f g : What × Spot) → HasFault text f → HasFault text g → f ≡ g
one_fault text f g (inl x) (inl y) = let both : Err f ≡ Err g = sym x ∙ y in (let same : f ≡ g = cc in same)
one_fault text f g (inl x) (inr y) = absurd (not_lexed text f y.1.tokens y.1.end x y.1.lexed)
one_fault text f g (inr x) (inl y) = absurd (not_lexed text g x.1.tokens x.1.end y x.1.lexed)
one_fault text f g (inr x) (inr y) = pair f g (x.0 ∙ sym y.0) (both_unexpected text f.1 g.1 x.1 y.1)

same_form : (text : List ℕ) (a b : Outcome) → HasForm text a → HasForm text b → a ≡ b
same_form text (Ok es) (Ok fs) x y = ap Ok (both_write text es fs x y)
same_form text (Ok es) (Err g) x y = absurd (fault_unwritten text es g x y)
same_form text (Err f) (Ok fs) x y = absurd (fault_unwritten text fs f y x)
same_form text (Err f) (Err g) x y = ap Err (one_fault text f g x y)

-- ---- what a form means

abbrev Reading : Type 0
Reading = Result (List Relation) (What × Spot)

abbrev checked : Option Flaw → List Relation → Reading
checked None catalog = Ok catalog
checked (Some flaw) catalog = Err (flaw.what, flaw.spot)

abbrev meaning : Outcome → Reading
meaning (Ok es) = checked (fault_of es) (map relation_of es)
meaning (Err f) = Err f

form : (text : List ℕ) (a : Reading) → IsReading text a → (o : Outcome) × HasForm text o × (a ≡ meaning o)
form text (Ok catalog) (es, x, none, is) = (Ok es, x, rw (none, is) refl)
form text (Err f) (inl e) = (Err f, inl e, refl)
form text (Err f) (inr (inl u)) = (Err f, inr u, refl)
form text (Err f) (inr (inr (es, x, some))) = (Ok es, x, rw some refl)

pub one_catalog : OneCatalog
one_catalog text a b x y =
    let p = form text a x in
    let q = form text b y in
    p.2 ∙ ap meaning (same_form text p.0 q.0 p.1 q.1) ∙ sym q.2
