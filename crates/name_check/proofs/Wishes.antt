-- The check of targets finds their first fault, or what they show.
use Rattle.std.proofs.Common.{◌≡◌, ◌≤◌, ℕ, Bool, true, false, List, [], ◌∷◌, ◌++◌, map, Option, Some, None, Result, Ok, Err, length, refl, sym, ap, ◌∙◌, subst, append_assoc, append-nil, if◌then◌else◌, All, slice_get}
use Rattle.std.proofs.lemmas.List.Elements.{All-head, All-tail}
use Rattle.std.specs.List.{flat_map}
use Rattle.std.specs.Option.{option_or, unwrap_or}
use Rattle.postquel_tokens.specs.declared.form.Ident.{Ident}
use Rattle.postquel_tokens.specs.declared.fault.TextErr.{TextErr}
use Rattle.postquel_tokens.specs.Forms as phrase
use Rattle.postquel_tokens.specs.Forms.{Phrase, Wish, Condition}
use Rattle.rel_meaning.specs.declared.query.Var.{Var}
use Rattle.rel_meaning.specs.Typing.{is_truth}
use Rattle.name_check.specs.declared.heading.Heading.{Heading}
use Rattle.name_check.specs.declared.checking.RangeRef.{RangeRef}
use Rattle.postquel_tokens.specs.declared.fault.What.TheVariants as what
use Rattle.name_check.specs.Types.{at}
use Rattle.name_check.specs.Checked as step
use Rattle.name_check.specs.Checked.{Meant, checked, and_then, with_vars}
use Rattle.name_check.specs.Faults.{added, grown, names_in, range_fault_at, columns_at, columns_of, var_columns, type_in}
use Rattle.name_check.specs.Sentences.{Shown, shown, all_shown, wish_names, wish_shown, wish_spot, head_of, output_by, is_fold, plain_outputs, fold_outputs, sum_fault, columns_fault, test_names, or_fault, WishNumbers, TestNumbers}
use Rattle.name_check.specs.Folds.{op_of, wish_ops}
use Rattle.name_check.specs.Steps.{named_as, shown_checked, Chosen, with_columns, wishes_checked, test_checked, test_type}
use Rattle.name_check.specs.Agreed.{Fits, Agrees, RangeAgrees}
use Rattle.name_check.specs.Whole.{ShownFits, ShownAgrees, WishesAgree, with_wishes, TestAgrees}
use Rattle.name_check.proofs.Scope.{grown_append}
use Rattle.name_check.proofs.Ranged.{range_agrees}
use Rattle.name_check.proofs.Agreed.{agrees, low_fault}

shown_fits : (hs : List Heading) (vars : List Var) (name : List ℕ) (e : Phrase) (m : Meant) → Fits hs vars e m → shown hs vars name e ∷ [] ≡ named_as name m
shown_fits hs vars name e m h = rw (h.means, h.typed) refl

named_agrees : (hs : List Heading) (vars now : List Var) (name : Ident) (e : Phrase) (outcome : Result (Meant × List Var) TextErr) → Agrees hs vars now e outcome →
    ShownAgrees hs vars now (phrase.Titled name e) (and_then outcome (λ m vs. Ok (named_as name.text m, vs)))
named_agrees hs vars now name e (Err f) h = h
named_agrees hs vars now name e (Ok p) h = (record { free = h.0.free; means = shown_fits hs vars name.text e p.0 h.0 }, h.1)

column_agrees : (hs : List Heading) (vars now : List Var) (v c : Ident) (outcome : Result (Meant × List Var) TextErr) → Agrees hs vars now (phrase.Dotted v c) outcome →
    ShownAgrees hs vars now (phrase.Column v c) (and_then outcome (λ m vs. Ok (named_as c.text m, vs)))
column_agrees hs vars now v c (Err f) h = h
column_agrees hs vars now v c (Ok p) h = (record { free = h.0.free; means = shown_fits hs vars c.text (phrase.Dotted v c) p.0 h.0 }, h.1)

fold_agrees : (hs : List Heading) (vars now : List Var) (name fold : Ident) (e : Phrase) (outcome : Result (Meant × List Var) TextErr) → Agrees hs vars now e outcome →
    ShownAgrees hs vars now (phrase.Folded name fold e) (and_then outcome (λ m vs. with_vars (named_as name.text) vs (or_fault m (sum_fault fold (Some m.layout)))))
fold_agrees hs vars now name fold e (Err f) h = ap (λ o. option_or o (sum_fault fold (type_in hs vars e))) h
fold_agrees hs vars now name fold e (Ok p) h = by (sum_fault fold (Some p.0.layout)) refl where
  by : (o : Option TextErr) → sum_fault fold (Some p.0.layout) ≡ o → ShownAgrees hs vars now (phrase.Folded name fold e) (with_vars (named_as name.text) p.1 (or_fault p.0 o))
  by (Some f) g = rw (h.0.free, h.0.means, h.0.typed) g
  by None g = (record { free = rw (h.0.free, h.0.means, h.0.typed) g; means = shown_fits hs vars name.text e p.0 h.0 }, h.1)

all_agrees : (hs : List Heading) (vars now : List Var) (v : Ident) (outcome : Result (RangeRef × List Var) TextErr) → RangeAgrees vars now v outcome →
    ShownAgrees hs vars now (phrase.Every v) (and_then outcome (λ r vs. Ok (all_shown r.var 0 (step.columns_of hs r.relation), vs)))
all_agrees hs vars now v (Err f) h = h
all_agrees hs vars now v (Ok p) h = (
  record {
    free = ap (range_fault_at v) h.0.named ∙ low_fault v p.0.var h.0.low;
    means = ap (λ o. all_shown (unwrap_or o 0) 0 (columns_of hs vars (unwrap_or o 0))) h.0.named ∙ ap (all_shown p.0.var 0) columns;
  },
  h.1,
) where
  columns : columns_of hs vars p.0.var ≡ step.columns_of hs p.0.relation
  columns = ap (var_columns hs) h.0.there ∙ ap (λ r. columns_at (slice_get hs r)) h.0.relation

pub shown_agrees : (hs : List Heading) (vars : List Var) (more : List (List ℕ)) (w : Wish) → WishNumbers w → length vars ≤ 6 →
    ShownAgrees hs (grown hs vars (wish_names w ++ more)) (grown hs vars (wish_names w)) w (shown_checked hs vars w)
shown_agrees hs vars more (phrase.Titled name e) h few = named_agrees hs (grown hs vars (names_in e ++ more)) (grown hs vars (names_in e)) name e (checked hs vars e) (agrees hs vars more e h few)
shown_agrees hs vars more (phrase.Column v c) h few = column_agrees hs (grown hs vars (v.text ∷ more)) (added hs vars v.text) v c (step.column hs vars v c) (agrees hs vars more (phrase.Dotted v c) tt few)
shown_agrees hs vars more (phrase.Folded name fold e) h few = fold_agrees hs (grown hs vars (names_in e ++ more)) (grown hs vars (names_in e)) name fold e (checked hs vars e) (agrees hs vars more e h few)
shown_agrees hs vars more (phrase.Every v) h few = all_agrees hs (grown hs vars (v.text ∷ more)) (added hs vars v.text) v (step.range hs vars v) (range_agrees hs vars more v few)

-- one more target's columns, and then those of others
plain_next : (b : Bool) {A : Type 0} (old new rest : List A) → old ++ ((if b then [] else new) ++ rest) ≡ (if b then old else old ++ new) ++ rest
plain_next true old new rest = refl
plain_next false old new rest = sym (append_assoc old new rest)

folds_next : (b : Bool) {A : Type 0} (old new rest : List A) → old ++ ((if b then new else []) ++ rest) ≡ (if b then old ++ new else old) ++ rest
folds_next true old new rest = sym (append_assoc old new rest)
folds_next false old new rest = refl

with_next : (hs : List Heading) (vars : List Var) (out : Chosen) (w : Wish) (ws : List Wish) (new : List Shown) → wish_shown hs vars w ≡ new →
    with_wishes hs vars out (w ∷ ws) ≡ with_wishes hs vars (with_columns w out new) ws
with_next hs vars out w ws new e =
    let plain : out.plain ++ flat_map (plain_outputs hs vars) (w ∷ ws) ≡ (if is_fold w then out.plain else out.plain ++ map output_by new) ++ flat_map (plain_outputs hs vars) ws =
    rw e (plain_next (is_fold w) out.plain (map output_by new) (flat_map (plain_outputs hs vars) ws)) in
    let folds : out.operands ++ flat_map (fold_outputs hs vars) (w ∷ ws) ≡ (if is_fold w then out.operands ++ map output_by new else out.operands) ++ flat_map (fold_outputs hs vars) ws =
    rw e (folds_next (is_fold w) out.operands (map output_by new) (flat_map (fold_outputs hs vars) ws)) in
    let head : out.head ++ flat_map (λ w. map head_of (wish_shown hs vars w)) (w ∷ ws) ≡ (out.head ++ map head_of new) ++ flat_map (λ w. map head_of (wish_shown hs vars w)) ws =
    rw e (sym (append_assoc out.head (map head_of new) (flat_map (λ w. map head_of (wish_shown hs vars w)) ws))) in
    let ops : out.ops ++ flat_map (wish_ops hs vars) (w ∷ ws) ≡ (out.ops ++ map (λ s. op_of w) new) ++ flat_map (wish_ops hs vars) ws =
    rw e (sym (append_assoc out.ops (map (λ s. op_of w) new) (flat_map (wish_ops hs vars) ws))) in
    cc

next_agrees : (hs : List Heading) (limited : Bool) (vars now : List Var) (out : Chosen) (w : Wish) (ws : List Wish) (new : List Shown) → ShownFits hs vars w new →
    columns_fault limited (wish_spot w) out.head new ≡ None → (outcome : Result (Chosen × List Var) TextErr) → WishesAgree hs limited vars now (with_columns w out new) ws outcome →
    WishesAgree hs limited vars now out (w ∷ ws) outcome
next_agrees hs limited vars now out w ws new h e (Err f) k = rw (h.free, h.means, e) k
next_agrees hs limited vars now out w ws new h e (Ok p) k = (record { free = rw (h.free, h.means, e) k.0.free; means = with_next hs vars out w ws new h.means ∙ k.0.means }, k.1)

wish_agrees : (hs : List Heading) (limited : Bool) (vars mid now : List Var) (out : Chosen) (w : Wish) (ws : List Wish) (outcome : Result (List Shown × List Var) TextErr) → ShownAgrees hs vars mid w outcome →
    (rest : Chosen → List Var → Result (Chosen × List Var) TextErr) → ((out : Chosen) → length mid ≤ 6 → WishesAgree hs limited vars now out ws (rest out mid)) →
    WishesAgree hs limited vars now out (w ∷ ws) (and_then (and_then outcome (λ new vs. or_fault (with_columns w out new, vs) (columns_fault limited (wish_spot w) out.head new))) rest)
wish_agrees hs limited vars mid now out w ws (Err f) h rest k = rw h refl
wish_agrees hs limited vars mid now out w ws (Ok p) h rest k = by (columns_fault limited (wish_spot w) out.head p.0) refl where
  by : (o : Option TextErr) → columns_fault limited (wish_spot w) out.head p.0 ≡ o → WishesAgree hs limited vars now out (w ∷ ws) (and_then (or_fault (with_columns w out p.0, p.1) o) rest)
  by (Some f) e = rw (h.0.free, h.0.means, e) refl
  by None e = next_agrees hs limited vars now out w ws p.0 h.0 e (rest (with_columns w out p.0) p.1)
      (subst (λ vs. WishesAgree hs limited vars now (with_columns w out p.0) ws (rest (with_columns w out p.0) vs)) (sym h.1.same) (k (with_columns w out p.0) h.1.few))

pub wishes_agree : (hs : List Heading) (limited : Bool) (vars : List Var) (more : List (List ℕ)) (out : Chosen) (ws : List Wish) → All WishNumbers ws → length vars ≤ 6 →
    WishesAgree hs limited (grown hs vars (flat_map wish_names ws ++ more)) (grown hs vars (flat_map wish_names ws)) out ws (wishes_checked hs limited vars out ws)
wishes_agree hs limited vars more out [] h few = (record { free = refl; means = rw (append-nil out.plain, append-nil out.operands, append-nil out.head, append-nil out.ops) refl }, record { same = refl; few = few })
wishes_agree hs limited vars more out (w ∷ ws) h few =
    rw (append_assoc (wish_names w) (flat_map wish_names ws) more, grown_append hs vars (wish_names w) (flat_map wish_names ws))
    (wish_agrees hs limited (grown hs vars (wish_names w ++ (flat_map wish_names ws ++ more))) (grown hs vars (wish_names w)) (grown hs (grown hs vars (wish_names w)) (flat_map wish_names ws)) out w ws (shown_checked hs vars w)
    (shown_agrees hs vars (flat_map wish_names ws ++ more) w (All-head WishNumbers w ws h) few)
    (λ out vs. wishes_checked hs limited vs out ws)
    (λ out low. rw (grown_append hs vars (wish_names w) (flat_map wish_names ws ++ more)) (wishes_agree hs limited (grown hs vars (wish_names w)) more out ws (All-tail WishNumbers w ws h) low)))

test_fits : (hs : List Heading) (vars : List Var) (c : Condition) (outcome : Result (Meant × List Var) TextErr) → Agrees hs vars vars c.phrase outcome →
    TestAgrees hs vars (Some c) (and_then outcome (λ m vs. with_vars (λ m. Some m.expr) vs (test_type c m)))
test_fits hs vars c (Err f) h = rw h refl
test_fits hs vars c (Ok p) h = by (is_truth (Some p.0.layout)) refl where
  by : (b : Bool) → is_truth (Some p.0.layout) ≡ b → TestAgrees hs vars (Some c) (with_vars (λ (m : Meant). Some m.expr) p.1 (if b then Ok p.0 else Err (at c.spot what.TypeMismatch)))
  by false e = rw (h.0.free, h.0.means, h.0.typed, e) refl
  by true e = (record { free = rw (h.0.free, h.0.means, h.0.typed, e) refl; means = ap (λ m. Some m) h.0.means }, h.1.same)

pub test_agrees : (hs : List Heading) (vars : List Var) (test : Option Condition) → TestNumbers test → length vars ≤ 6 →
    TestAgrees hs (grown hs vars (test_names test)) test (test_checked hs vars test)
test_agrees hs vars None h few = (record { free = refl; means = refl }, refl)
test_agrees hs vars (Some c) h few =
    test_fits hs (grown hs vars (names_in c.phrase)) c (checked hs vars c.phrase)
    (subst (λ ns. Agrees hs (grown hs vars ns) (grown hs vars (names_in c.phrase)) c.phrase (checked hs vars c.phrase)) (append-nil (names_in c.phrase)) (agrees hs vars [] c.phrase h few))
