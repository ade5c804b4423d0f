-- The check of an expression finds its first fault, or what it means.
use Rattle.std.proofs.Common.{◌≡◌, ◌<◌, ◌≤◌, ℕ, nat_abs, nat_le, Bool, true, List, ◌∷◌, ◌++◌, Option, Some, None, Result, Ok, Err, length, nat_lt, refl, sym, ap, ◌∙◌, subst, arith, append_assoc, slice_get, if◌then◌else◌}
use Rattle.std.specs.Option.{option_or, unwrap_or}
use Rattle.std.specs.Result.{result_err}
use Rattle.std.proofs.lemmas.Bool.Decides.{nat_tests}
use Rattle.postquel_tokens.specs.declared.fault.Spot.{Spot}
use Rattle.postquel_tokens.specs.declared.form.Ident.{Ident}
use Rattle.postquel_tokens.specs.declared.fault.TextErr.{TextErr}
use Rattle.postquel_tokens.specs.declared.form.UnaryOp.{UnaryOp}
use Rattle.postquel_tokens.specs.declared.form.BinaryOp.{BinaryOp}
use Rattle.postquel_tokens.specs.declared.fault.What.TheVariants as what
use Rattle.postquel_tokens.specs.Forms as phrase
use Rattle.postquel_tokens.specs.Forms.{Phrase}
use Rattle.rel_meaning.specs.Expression as ex
use Rattle.rel_meaning.specs.declared.query.Var.{Var}
use Rattle.rows.specs.declared.plain.LayoutColumn.{LayoutColumn}
use Rattle.rel_meaning.specs.Typing.{type_of, integer_within}
use Rattle.name_check.specs.declared.heading.Heading.{Heading}
use Rattle.name_check.specs.declared.heading.HeadColumn.{HeadColumn}
use Rattle.name_check.specs.declared.checking.RangeRef.{RangeRef}
use Rattle.name_check.specs.Places.{same}
use Rattle.name_check.specs.Types.{at, before, between, integer}
use Rattle.name_check.specs.Built.{built_before, built_between}
use Rattle.name_check.specs.Checked as step
use Rattle.name_check.specs.Checked.{Meant, checked, and_then, with_vars, with_type, meant_before, meant_between}
use Rattle.name_check.specs.Faults.{var_named, column_named, added, grown, names_in, range_fault, range_fault_at, column_fault, columns_at, columns_of, var_columns, column_type, fault_in, type_in, before_fault, between_fault, NumbersFit}
use Rattle.name_check.specs.Agreed.{Fits, Grew, Agrees, RangeAgrees}
use Rattle.name_check.proofs.Scope.{grown_append, place_item}
use Rattle.name_check.proofs.Typed.{before_typed, between_typed}
use Rattle.name_check.proofs.Ranged.{range_agrees}

pub number_fits : (n : ℕ) → n ≤ 9223372036854775807 → integer_within n ≡ Some (integer n)
number_fits n h = let e : nat_le n 9223372036854775807 ≡ true = grind (arith, nat_tests) in ap (λ b. if b then Some (integer n) else None) e

pub low_fault : (name : Ident) (k : ℕ) → k < 6 → range_fault_at name (Some k) ≡ None
low_fault name k h = let e : nat_lt k 6 ≡ true = grind (arith, nat_tests) in ap (λ b. if b then None else Some (at name.spot what.TooManyRanges)) e

abbrev pub column_test : Ident → HeadColumn → Bool
column_test col c = same c.name col.text

column_agrees : (hs : List Heading) (vars now : List Var) (var col : Ident) (outcome : Result (RangeRef × List Var) TextErr) → RangeAgrees vars now var outcome →
    Agrees hs vars now (phrase.Dotted var col) (and_then outcome (λ r vs. with_vars (λ m. m) vs (step.column_in (step.columns_of hs r.relation) r.var col)))
column_agrees hs vars now var col (Err f) h = ap (λ o. option_or o (column_fault hs vars var col)) h
column_agrees hs vars now var col (Ok p) h = by (column_named (step.columns_of hs p.0.relation) col.text) refl where
  columns : columns_of hs vars p.0.var ≡ step.columns_of hs p.0.relation
  columns = ap (var_columns hs) h.0.there ∙ ap (λ r. columns_at (slice_get hs r)) h.0.relation

  free : range_fault vars var ≡ None
  free = ap (range_fault_at var) h.0.named ∙ low_fault var p.0.var h.0.low

  found : column_named (columns_of hs vars (unwrap_or (var_named vars var.text) 0)) col.text ≡ column_named (step.columns_of hs p.0.relation) col.text
  found = ap (λ o. column_named (columns_of hs vars (unwrap_or o 0)) col.text) h.0.named ∙ ap (λ cs. column_named cs col.text) columns

  by : (o : Option ℕ) → column_named (step.columns_of hs p.0.relation) col.text ≡ o →
      Agrees hs vars now (phrase.Dotted var col) (with_vars (λ (m : Meant). m) p.1 (step.column_by (step.columns_of hs p.0.relation) p.0.var col o))
  by None e = rw (free, found, e) refl
  by (Some k) e =
      let there : (c : HeadColumn) × (slice_get (step.columns_of hs p.0.relation) k ≡ Some c) = place_item (column_test col) (step.columns_of hs p.0.relation) k e in (
        record {
          free = rw (free, found, e) refl;
          means = rw (found, e, h.0.named) refl;
          typed = rw (columns, there.1) refl;
        },
        h.1,
      )

before_agrees : (hs : List Heading) (vars now : List Var) (op : UnaryOp) (spot : Spot) (e : Phrase) (outcome : Result (Meant × List Var) TextErr) → Agrees hs vars now e outcome →
    Agrees hs vars now (phrase.Unary op spot e) (and_then outcome (λ a vs. with_vars (λ m. m) vs (meant_before op spot a)))
before_agrees hs vars now op spot e (Err f) h = ap (λ o. option_or o (before_fault op spot (type_in hs vars e))) h
before_agrees hs vars now op spot e (Ok p) h = by (before op spot p.0.layout) refl where
  typed : type_in hs vars e ≡ Some p.0.layout
  typed = ap (λ m. type_of m (column_type hs vars)) h.0.means ∙ h.0.typed

  by : (o : Result LayoutColumn TextErr) → before op spot p.0.layout ≡ o → Agrees hs vars now (phrase.Unary op spot e) (with_vars (λ (m : Meant). m) p.1 (with_type (built_before op p.0.expr) o))
  by (Err f) g = rw (h.0.free, typed) (ap result_err g)
  by (Ok c) g = (
    record {
      free = rw (h.0.free, typed) (ap result_err g);
      means = ap (built_before op) h.0.means;
      typed = before_typed (column_type hs vars) op spot p.0.expr p.0.layout c h.0.typed g;
    },
    h.1,
  )

between_agrees : (hs : List Heading) (vars mid now : List Var) (op : BinaryOp) (spot : Spot) (e f : Phrase) (first : Result (Meant × List Var) TextErr) (second : List Var → Result (Meant × List Var) TextErr) →
    Agrees hs vars mid e first → (length mid ≤ 6 → Agrees hs vars now f (second mid)) →
    Agrees hs vars now (phrase.Binary op spot e f) (and_then first (λ a vs. and_then (second vs) (λ b ws. with_vars (λ m. m) ws (meant_between op spot a b))))
between_agrees hs vars mid now op spot e f (Err x) second h k = ap (λ o. option_or o (option_or (fault_in hs vars f) (between_fault op spot (type_in hs vars e) (type_in hs vars f)))) h
between_agrees hs vars mid now op spot e f (Ok p) second h k = next (second p.1) (subst (λ vs. Agrees hs vars now f (second vs)) (sym h.1.same) (k h.1.few)) where
  typed : type_in hs vars e ≡ Some p.0.layout
  typed = ap (λ m. type_of m (column_type hs vars)) h.0.means ∙ h.0.typed

  by : (q : Meant × List Var) → Fits hs vars f q.0 × Grew q.1 now → (o : Result LayoutColumn TextErr) → between op spot p.0.layout q.0.layout ≡ o →
      Agrees hs vars now (phrase.Binary op spot e f) (with_vars (λ (m : Meant). m) q.1 (with_type (built_between op p.0.expr q.0.expr) o))
  by q l o g =
      let other : type_in hs vars f ≡ Some q.0.layout = ap (λ m. type_of m (column_type hs vars)) l.0.means ∙ l.0.typed in
      let fault : fault_in hs vars (phrase.Binary op spot e f) ≡ result_err o = rw (h.0.free, l.0.free, typed, other) (ap result_err g) in
      elim o as (λ o. between op spot p.0.layout q.0.layout ≡ o → fault_in hs vars (phrase.Binary op spot e f) ≡ result_err o → Agrees hs vars now (phrase.Binary op spot e f) (with_vars (λ (m : Meant). m) q.1 (with_type (built_between op p.0.expr q.0.expr) o))) [
        | Err x ↦ λ g fault. fault
        | Ok c ↦ λ g fault. (
          record {
            free = fault;
            means = rw (h.0.means, l.0.means) refl;
            typed = between_typed (column_type hs vars) op spot p.0.expr q.0.expr p.0.layout q.0.layout c h.0.typed l.0.typed g;
          },
          l.1,
        )
      ] g fault

  next : (o : Result (Meant × List Var) TextErr) → Agrees hs vars now f o → Agrees hs vars now (phrase.Binary op spot e f) (and_then o (λ b ws. with_vars (λ m. m) ws (meant_between op spot p.0 b)))
  next (Err x) l = rw (h.0.free, l) refl
  next (Ok q) l = by q l (between op spot p.0.layout q.0.layout) refl

null_agrees : (hs : List Heading) (vars now : List Var) (spot : Spot) (e : Phrase) (negated : Bool) (outcome : Result (Meant × List Var) TextErr) → Agrees hs vars now e outcome →
    Agrees hs vars now (phrase.IsNull spot e negated) (and_then outcome (λ a vs. Ok (step.tested negated a, vs)))
null_agrees hs vars now spot e negated (Err f) h = h
null_agrees hs vars now spot e negated (Ok p) h = (record { free = h.0.free; means = ap (λ m. ex.is_null m negated) h.0.means; typed = rw h.0.typed refl }, h.1)

pub agrees : (hs : List Heading) (vars : List Var) (more : List (List ℕ)) (e : Phrase) → NumbersFit e → length vars ≤ 6 →
    Agrees hs (grown hs vars (names_in e ++ more)) (grown hs vars (names_in e)) e (checked hs vars e)
agrees hs vars more (phrase.Number n) h few = (record { free = refl; means = refl; typed = number_fits (nat_abs n) h }, record { same = refl; few = few })
agrees hs vars more (phrase.Word w) h few = (record { free = refl; means = refl; typed = refl }, record { same = refl; few = few })
agrees hs vars more (phrase.Truth b) h few = (record { free = refl; means = refl; typed = refl }, record { same = refl; few = few })
agrees hs vars more (phrase.Dotted var col) h few = column_agrees hs (grown hs vars (var.text ∷ more)) (added hs vars var.text) var col (step.range hs vars var) (range_agrees hs vars more var few)
agrees hs vars more (phrase.Unary op spot e) h few = before_agrees hs (grown hs vars (names_in e ++ more)) (grown hs vars (names_in e)) op spot e (checked hs vars e) (agrees hs vars more e h few)
agrees hs vars more (phrase.Binary op spot e f) h few =
    rw (append_assoc, grown_append hs vars (names_in e) (names_in f))
    (between_agrees hs (grown hs vars (names_in e ++ (names_in f ++ more))) (grown hs vars (names_in e)) (grown hs (grown hs vars (names_in e)) (names_in f)) op spot e f (checked hs vars e) (λ vs. checked hs vs f)
    (agrees hs vars (names_in f ++ more) e h.0 few)
    (λ low. rw (grown_append hs vars (names_in e) (names_in f ++ more)) (agrees hs (grown hs vars (names_in e)) more f h.1 low)))
agrees hs vars more (phrase.IsNull spot e negated) h few = null_agrees hs (grown hs vars (names_in e ++ more)) (grown hs vars (names_in e)) spot e negated (checked hs vars e) (agrees hs vars more e h few)
