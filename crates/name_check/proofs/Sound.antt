-- What has no fault has a type.
use Rattle.std.proofs.Common.{◌≡◌, ◌<◌, ◌≤◌, ℕ, nat_abs, nat_lt, Bool, true, false, List, [], ◌∷◌, ◌++◌, length, Option, Some, None, Result, Ok, Err, refl, sym, ap, ◌∙◌, subst, arith, length-append, if◌then◌else◌, slice_get, All, IfSome}
use Rattle.std.specs.Option.{option_or, unwrap_or}
use Rattle.std.specs.Result.{result_err}
use Rattle.std.proofs.lemmas.Bool.Decides.{nat_tests}
use Rattle.postquel_tokens.specs.declared.fault.Spot.{Spot}
use Rattle.postquel_tokens.specs.declared.form.Ident.{Ident}
use Rattle.postquel_tokens.specs.declared.fault.TextErr.{TextErr}
use Rattle.postquel_tokens.specs.declared.form.UnaryOp.{UnaryOp}
use Rattle.postquel_tokens.specs.declared.form.BinaryOp.{BinaryOp}
use Rattle.postquel_tokens.specs.declared.fault.What.TheVariants as what
use Rattle.postquel_tokens.specs.Forms as phrase
use Rattle.postquel_tokens.specs.Forms.{Phrase}
use Rattle.rel_meaning.specs.declared.query.Var.{Var}
use Rattle.rows.specs.declared.plain.LayoutColumn.{LayoutColumn}
use Rattle.name_check.specs.declared.heading.Heading.{Heading}
use Rattle.name_check.specs.declared.heading.HeadColumn.{HeadColumn}
use Rattle.name_check.specs.Places.{same}
use Rattle.name_check.specs.Types.{at, before, between, integer, truth}
use Rattle.name_check.specs.Faults.{var_named, column_named, heading_named, added, added_over, added_unless, grown, names_in, range_fault, range_fault_at, column_fault, column_fault_at, columns_of, column_type, fault_in, meaning_in, type_in, before_fault, between_fault, NumbersFit}
use Rattle.name_check.proofs.Scope.{place_item, place_last, same_self, grown_keeps}
use Rattle.name_check.proofs.Places.{place_within}
use Rattle.std.proofs.lemmas.List.Elements.{All-nil, All-cons, All-append, All-head, All-tail, All-push}
use Rattle.name_check.proofs.Typed.{before_typed, between_typed}
use Rattle.name_check.proofs.Agreed.{number_fits, column_test}

pub both_none : (o p : Option TextErr) → option_or o p ≡ None → (o ≡ None) × (p ≡ None)
both_none None p e = (refl, e)
both_none (Some f) p e = cc

abbrev pub HasType : Option LayoutColumn → Type 0
HasType o = (c : LayoutColumn) × (o ≡ Some c)

found : (name : Ident) (o : Option ℕ) → range_fault_at name o ≡ None → (k : ℕ) × (o ≡ Some k)
found name None e = cc
found name (Some k) e = (k, refl)

found_column : (col : Ident) (o : Option ℕ) → column_fault_at col o ≡ None → (k : ℕ) × (o ≡ Some k)
found_column col None e = cc
found_column col (Some k) e = (k, refl)

fine : (o : Result LayoutColumn TextErr) → result_err o ≡ None → (c : LayoutColumn) × (o ≡ Ok c)
fine (Ok c) e = (c, refl)
fine (Err f) e = cc

column_is : (hs : List Heading) (vars : List Var) (var col : Ident) (k : ℕ) (c : HeadColumn) → column_named (columns_of hs vars (unwrap_or (var_named vars var.text) 0)) col.text ≡ Some k →
    slice_get (columns_of hs vars (unwrap_or (var_named vars var.text) 0)) k ≡ Some c → type_in hs vars (phrase.Dotted var col) ≡ Some c.layout
column_is hs vars var col k c e h = rw (e, h) refl

column_typed : (hs : List Heading) (vars : List Var) (var col : Ident) → fault_in hs vars (phrase.Dotted var col) ≡ None → HasType (type_in hs vars (phrase.Dotted var col))
column_typed hs vars var col e =
    let parts : (range_fault vars var ≡ None) × (column_fault hs vars var col ≡ None) = both_none (range_fault vars var) (column_fault hs vars var col) e in
    let k : (k : ℕ) × (column_named (columns_of hs vars (unwrap_or (var_named vars var.text) 0)) col.text ≡ Some k) =
    found_column col (column_named (columns_of hs vars (unwrap_or (var_named vars var.text) 0)) col.text) parts.1 in
    let there : (c : HeadColumn) × (slice_get (columns_of hs vars (unwrap_or (var_named vars var.text) 0)) k.0 ≡ Some c) =
    place_item (column_test col) (columns_of hs vars (unwrap_or (var_named vars var.text) 0)) k.0 k.1 in
    (there.0.layout, column_is hs vars var col k.0 there.0 k.1 there.1)

before_fine : (hs : List Heading) (vars : List Var) (op : UnaryOp) (spot : Spot) (e : Phrase) → HasType (type_in hs vars e) → before_fault op spot (type_in hs vars e) ≡ None → HasType (type_in hs vars (phrase.Unary op spot e))
before_fine hs vars op spot e a h =
    let c : (c : LayoutColumn) × (before op spot a.0 ≡ Ok c) = fine (before op spot a.0) (subst (λ o. before_fault op spot o ≡ None) a.1 h) in
    (c.0, before_typed (column_type hs vars) op spot (meaning_in hs vars e) a.0 c.0 a.1 c.1)

between_fine : (hs : List Heading) (vars : List Var) (op : BinaryOp) (spot : Spot) (e f : Phrase) → HasType (type_in hs vars e) → HasType (type_in hs vars f) → between_fault op spot (type_in hs vars e) (type_in hs vars f) ≡ None →
    HasType (type_in hs vars (phrase.Binary op spot e f))
between_fine hs vars op spot e f a b h =
    let g : between_fault op spot (Some a.0) (Some b.0) ≡ None = subst (λ o. between_fault op spot o (Some b.0) ≡ None) a.1 (subst (λ o. between_fault op spot (type_in hs vars e) o ≡ None) b.1 h) in
    let c : (c : LayoutColumn) × (between op spot a.0 b.0 ≡ Ok c) = fine (between op spot a.0 b.0) g in
    (c.0, between_typed (column_type hs vars) op spot (meaning_in hs vars e) (meaning_in hs vars f) a.0 b.0 c.0 a.1 b.1 c.1)

null_is : (hs : List Heading) (vars : List Var) (spot : Spot) (e : Phrase) (negated : Bool) (c : LayoutColumn) → type_in hs vars e ≡ Some c → type_in hs vars (phrase.IsNull spot e negated) ≡ Some truth
null_is hs vars spot e negated c h = rw h refl

-- an expression without a fault is well typed and bounded
pub typed : (hs : List Heading) (vars : List Var) (e : Phrase) → NumbersFit e → fault_in hs vars e ≡ None → HasType (type_in hs vars e)
typed hs vars (phrase.Number n) h e = (integer (nat_abs n), number_fits (nat_abs n) h)
typed hs vars (phrase.Word w) h e = (_, refl)
typed hs vars (phrase.Truth b) h e = (_, refl)
typed hs vars (phrase.Dotted var col) h e = column_typed hs vars var col e
typed hs vars (phrase.Unary op spot f) h e =
    let parts : (fault_in hs vars f ≡ None) × (before_fault op spot (type_in hs vars f) ≡ None) = both_none (fault_in hs vars f) (before_fault op spot (type_in hs vars f)) e in
    before_fine hs vars op spot f (typed hs vars f h parts.0) parts.1
typed hs vars (phrase.Binary op spot f g) h e =
    let parts : (fault_in hs vars f ≡ None) × (option_or (fault_in hs vars g) (between_fault op spot (type_in hs vars f) (type_in hs vars g)) ≡ None) =
    both_none (fault_in hs vars f) (option_or (fault_in hs vars g) (between_fault op spot (type_in hs vars f) (type_in hs vars g))) e in
    let more : (fault_in hs vars g ≡ None) × (between_fault op spot (type_in hs vars f) (type_in hs vars g) ≡ None) = both_none (fault_in hs vars g) (between_fault op spot (type_in hs vars f) (type_in hs vars g)) parts.1 in
    between_fine hs vars op spot f g (typed hs vars f h.0 parts.0) (typed hs vars g h.1 more.0) more.1
typed hs vars (phrase.IsNull spot f negated) h e = let c : HasType (type_in hs vars f) = typed hs vars f h e in (truth, null_is hs vars spot f negated c.0 c.1)

some_same : (a b : ℕ) → Some a ≡ Some b → a ≡ b
some_same a b e = cc

-- a name of a variable whose number is below 6
pub record Low (vars : List Var) (name : List ℕ) : Type 0 where
  pub place : ℕ
  pub there : var_named vars name ≡ Some place
  pub low : place < 6

low : (vars : List Var) (name : Ident) → range_fault vars name ≡ None → Low vars name.text
low vars name e = by (var_named vars name.text) refl e where
  under : (k : ℕ) (b : Bool) → nat_lt k 6 ≡ b → (if b then None else Some (at name.spot what.TooManyRanges)) ≡ None → k < 6
  under k true l e = grind (arith, nat_tests)
  under k false l e = cc

  by : (o : Option ℕ) → var_named vars name.text ≡ o → range_fault_at name o ≡ None → Low vars name.text
  by None h e = cc
  by (Some k) h e = record { place = k; there = h; low = under k (nat_lt k 6) refl e }

pub names_low : (hs : List Heading) (vars : List Var) (e : Phrase) → fault_in hs vars e ≡ None → All (Low vars) (names_in e)
names_low hs vars (phrase.Number n) e = All-nil (Low vars)
names_low hs vars (phrase.Word w) e = All-nil (Low vars)
names_low hs vars (phrase.Truth b) e = All-nil (Low vars)
names_low hs vars (phrase.Dotted var col) e = All-cons (Low vars) var.text [] (low vars var (both_none (range_fault vars var) (column_fault hs vars var col) e).0) (All-nil (Low vars))
names_low hs vars (phrase.Unary op spot f) e = names_low hs vars f (both_none (fault_in hs vars f) (before_fault op spot (type_in hs vars f)) e).0
names_low hs vars (phrase.Binary op spot f g) e =
    let parts : (fault_in hs vars f ≡ None) × (option_or (fault_in hs vars g) (between_fault op spot (type_in hs vars f) (type_in hs vars g)) ≡ None) =
    both_none (fault_in hs vars f) (option_or (fault_in hs vars g) (between_fault op spot (type_in hs vars f) (type_in hs vars g))) e in
    All-append (Low vars) (names_in f) (names_in g) (names_low hs vars f parts.0) (names_low hs vars g (both_none (fault_in hs vars g) (between_fault op spot (type_in hs vars f) (type_in hs vars g)) parts.1).0)
names_low hs vars (phrase.IsNull spot f negated) e = names_low hs vars f e

pub low_of : (vars : List Var) (name : Ident) → range_fault vars name ≡ None → Low vars name.text
low_of = low

-- variables whose relations are there
abbrev pub Known : List Heading → Var → Type 0
Known hs v = v.relation < length hs

-- as many variables as may be, all over relations that are there
pub record Bounded (hs : List Heading) (vars : List Var) : Type 0 where
  pub few : length vars ≤ 6
  pub known : All (Known hs) vars

added_bounded : (hs : List Heading) (vars : List Var) (name : List ℕ) (rest : List (List ℕ)) → Bounded hs vars → Low (grown hs (added hs vars name) rest) name → Bounded hs (added hs vars name)
added_bounded hs vars name rest h = by (var_named vars name) refl where
  over : var_named vars name ≡ None → (o : Option ℕ) → heading_named hs name ≡ o → Low (grown hs (added_over vars name o) rest) name → Bounded hs (added_over vars name o)
  over e None g l = h
  over e (Some r) g l =
      let last : var_named (vars ++ record { name = name; relation = r } ∷ []) name ≡ Some (length vars) =
      place_last (λ (v : Var). same v.name name) vars (record { name = name; relation = r }) e ∙ ap (λ b. if b then Some (length vars) else None) (same_self name) in
      let kept : var_named (grown hs (vars ++ record { name = name; relation = r } ∷ []) rest) name ≡ Some (length vars) = grown_keeps hs (vars ++ record { name = name; relation = r } ∷ []) rest name (length vars) last in
      let place : l.place ≡ length vars = some_same l.place (length vars) (sym l.there ∙ kept) in
      let least : length vars < 6 = omega (arith, l.low, place) in
      let there : r < length hs = subst (λ o. IfSome o (λ k. k < length hs)) g (place_within (λ (x : Heading). same x.name name) hs) in
      record { few = omega (arith, length-append vars (record { name = name; relation = r } ∷ [])); known = All-push (Known hs) vars (record { name = name; relation = r }) h.known there }

  by : (o : Option ℕ) → var_named vars name ≡ o → Low (grown hs (added_unless hs vars name o) rest) name → Bounded hs (added_unless hs vars name o)
  by None e l = over e (heading_named hs name) refl l
  by (Some k) e l = h

pub grown_bounded : (hs : List Heading) (vars : List Var) (names rest : List (List ℕ)) → Bounded hs vars → All (Low (grown hs vars (names ++ rest))) names → Bounded hs (grown hs vars names)
grown_bounded hs vars [] rest h l = h
grown_bounded hs vars (name ∷ names) rest h l =
    grown_bounded hs (added hs vars name) names rest (added_bounded hs vars name (names ++ rest) h (All-head (Low (grown hs vars ((name ∷ names) ++ rest))) name names l)) (All-tail (Low (grown hs vars ((name ∷ names) ++ rest))) name names l)
