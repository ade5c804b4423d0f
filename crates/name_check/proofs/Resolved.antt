-- The checks of a script give its queries or its first fault.
use Rattle.std.proofs.Common.{◌≡◌, ◌<◌, ◌≤◌, ℕ, Bool, true, false, nat_lt, All, List, [], ◌∷◌, ◌++◌, map, length, Option, Some, None, is_some, Result, Ok, Err, refl, sym, ap, ◌∙◌, arith, append_assoc, append-nil, length-append, if◌then◌else◌}
use Rattle.std.specs.List.{flat_map}
use Rattle.std.specs.Option.{option_map, option_or, unwrap_or}
use Rattle.std.proofs.lemmas.Bool.Decides.{nat_tests}
use Rattle.std.proofs.lemmas.List.Elements.{All-head, All-tail}
use Rattle.rows.specs.declared.order.SortKey.{SortKey}
use Rattle.postquel_tokens.specs.declared.fault.What.TheVariants as what
use Rattle.postquel_tokens.specs.declared.fault.TextErr.{TextErr}
use Rattle.postquel_tokens.specs.declared.form.RangeForm.{RangeForm}
use Rattle.postquel_tokens.specs.declared.form.KeyForm.{KeyForm}
use Rattle.postquel_tokens.specs.declared.form.IntoForm.{IntoForm}
use Rattle.postquel_tokens.specs.Forms.{Sentence}
use Rattle.rel_meaning.specs.declared.query.Var.{Var}
use Rattle.rel_meaning.specs.Expression.{Expression, Question}
use Rattle.name_check.specs.declared.heading.Heading.{Heading}
use Rattle.name_check.specs.declared.heading.HeadColumn.{HeadColumn}
use Rattle.name_check.specs.Types.{at}
use Rattle.name_check.specs.Checked.{and_then, with_vars}
use Rattle.name_check.specs.Faults.{column_named, grown, meaning_in}
use Rattle.name_check.specs.Sentences.{var_of, vars_of, wish_names, test_names, has_fold, into_fault, range_form_fault, ranges_fault, wishes_fault, test_fault, keys_fault, sort_key, head_in, sentence_fault, question_in, kept_heading, headings_after, script_fault, questions_in, queries_of, or_fault, HasNumbers}
use Rattle.name_check.specs.Headers.{kept_name}
use Rattle.name_check.specs.Steps.{bind, unless, result_of, Asked, Chosen, no_columns, found_of, ranges_checked, wishes_checked, test_checked, key_by, keys_checked, to_end, sentence_checked, kept_by, script_checked}
use Rattle.name_check.specs.Whole.{WishesAgree, with_wishes, TestAgrees, asked, asked_in}
use Rattle.name_check.proofs.Scope.{grown_append}
use Rattle.name_check.proofs.Wishes.{wishes_agree, test_agrees}

key_tested : (k : KeyForm) (o : Option ℕ) → key_by k o ≡ or_fault (record { column = unwrap_or o 0; down = k.down }) (if is_some o then None else Some (at k.target.spot what.NoSortTarget))
key_tested k None = refl
key_tested k (Some n) = refl

bound : {A B : Type 0} (a : A) (b : B) (o p : Option TextErr) (f : A → Result B TextErr) → f a ≡ or_fault b p → bind (or_fault a o) f ≡ or_fault b (option_or o p)
bound a b None p f e = e
bound a b (Some x) p f e = refl

pub keys_agree : (head : List HeadColumn) (found : List SortKey) (ks : List KeyForm) → keys_checked head found ks ≡ or_fault (found ++ map (sort_key head) ks) (keys_fault head ks)
keys_agree head found [] = ap (λ ks. Ok ks) (sym (append-nil found))
keys_agree head found (k ∷ ks) =
    rw (key_tested k (column_named head k.target.text))
    (bound (sort_key head k) (found ++ (sort_key head k ∷ map (sort_key head) ks)) (if is_some (column_named head k.target.text) then None else Some (at k.target.spot what.NoSortTarget)) (keys_fault head ks) (λ key. keys_checked head (found ++ key ∷ []) ks)
    (keys_agree head (found ++ sort_key head k ∷ []) ks ∙ ap (λ found. or_fault found (keys_fault head ks)) (append_assoc found (sort_key head k ∷ []) (map (sort_key head) ks))))

pub ranges_agree : (hs : List Heading) (vars : List Var) (rs : List RangeForm) → ranges_checked hs vars rs ≡ or_fault (vars ++ map (var_of hs) rs) (ranges_fault hs vars rs)
ranges_agree hs vars [] = ap (λ vs. Ok vs) (sym (append-nil vars))
ranges_agree hs vars (r ∷ rs) =
    bound (vars ++ var_of hs r ∷ []) (vars ++ (var_of hs r ∷ map (var_of hs) rs)) (range_form_fault hs vars r) (ranges_fault hs (vars ++ var_of hs r ∷ []) rs) (λ vs. ranges_checked hs vs rs)
    (ranges_agree hs (vars ++ var_of hs r ∷ []) rs ∙ ap (λ vs. or_fault vs (ranges_fault hs (vars ++ var_of hs r ∷ []) rs)) (append_assoc vars (var_of hs r ∷ []) (map (var_of hs) rs)))

range_few : (vars : List Var) (v : Var) (b : Bool) (x : Option TextErr) (f : TextErr) → nat_lt (length vars) 6 ≡ b → (if b then x else Some f) ≡ None → length (vars ++ v ∷ []) ≤ 6
range_few vars v true x f l e = let low : length vars < 6 = grind (arith, nat_tests) in omega (arith, length-append vars (v ∷ []))
range_few vars v false x f l e = cc

both_none : (o p : Option TextErr) → option_or o p ≡ None → (o ≡ None) × (p ≡ None)
both_none None p e = (refl, e)
both_none (Some f) p e = cc

pub ranges_few : (hs : List Heading) (vars : List Var) (rs : List RangeForm) → length vars ≤ 6 → ranges_fault hs vars rs ≡ None → length (vars ++ map (var_of hs) rs) ≤ 6
ranges_few hs vars [] few e = rw (append-nil vars) few
ranges_few hs vars (r ∷ rs) few e =
    let parts : (range_form_fault hs vars r ≡ None) × (ranges_fault hs (vars ++ var_of hs r ∷ []) rs ≡ None) = both_none (range_form_fault hs vars r) (ranges_fault hs (vars ++ var_of hs r ∷ []) rs) e in
    rw (← append_assoc vars (var_of hs r ∷ []) (map (var_of hs) rs))
    (ranges_few hs (vars ++ var_of hs r ∷ []) rs (range_few vars (var_of hs r) (nat_lt (length vars) 6) _ _ refl parts.0) parts.1)

-- behind the ranges
keys_of : (hs : List Heading) (s : Sentence) (o : Option TextErr) (vars : List Var) (keys : List SortKey) → vars ≡ vars_of hs s → map (sort_key (head_in hs s)) s.keys ≡ keys →
    result_of (with_vars (λ keys. found_of (has_fold s) s (with_wishes hs (vars_of hs s) no_columns s.wishes) (option_map (λ c. meaning_in hs (vars_of hs s) c.phrase) s.test) keys vars) vars (or_fault keys o)) ≡ or_fault (asked hs s) o
keys_of hs s None vars keys e k = rw (e, ← k) refl
keys_of hs s (Some f) vars keys e k = refl

keys_end : (hs : List Heading) (s : Sentence) (vars : List Var) → vars ≡ vars_of hs s →
    result_of (with_vars (λ keys. found_of (has_fold s) s (with_wishes hs (vars_of hs s) no_columns s.wishes) (option_map (λ c. meaning_in hs (vars_of hs s) c.phrase) s.test) keys vars) vars (keys_checked (head_in hs s) [] s.keys)) ≡ or_fault (asked hs s) (keys_fault (head_in hs s) s.keys)
keys_end hs s vars e = rw (keys_agree (head_in hs s) [] s.keys) (keys_of hs s (keys_fault (head_in hs s) s.keys) vars (map (sort_key (head_in hs s)) s.keys) e refl)

test_end : (hs : List Heading) (s : Sentence) (outcome : Result (Option Expression × List Var) TextErr) → TestAgrees hs (vars_of hs s) s.test outcome →
    result_of (and_then outcome (λ test vars. with_vars (λ keys. found_of (has_fold s) s (with_wishes hs (vars_of hs s) no_columns s.wishes) test keys vars) vars (keys_checked (head_in hs s) [] s.keys))) ≡
    or_fault (asked hs s) (option_or (test_fault hs (vars_of hs s) s.test) (keys_fault (head_in hs s) s.keys))
test_end hs s (Err f) h = rw h refl
test_end hs s (Ok p) h = rw (h.0.free, ← h.0.means) (keys_end hs s p.1 h.1)

wishes_end : (hs : List Heading) (s : Sentence) (mid : List Var) (outcome : Result (Chosen × List Var) TextErr) → WishesAgree hs (is_some s.kept) (vars_of hs s) mid no_columns s.wishes outcome →
    (length mid ≤ 6 → TestAgrees hs (vars_of hs s) s.test (test_checked hs mid s.test)) →
    result_of (and_then outcome (λ out vars. and_then (test_checked hs vars s.test) (λ test vars. with_vars (λ keys. found_of (has_fold s) s out test keys vars) vars (keys_checked out.head [] s.keys)))) ≡
    or_fault (asked hs s) (option_or (wishes_fault hs (is_some s.kept) (vars_of hs s) [] s.wishes) (option_or (test_fault hs (vars_of hs s) s.test) (keys_fault (head_in hs s) s.keys)))
wishes_end hs s mid (Err f) h k = rw h refl
wishes_end hs s mid (Ok p) h k = rw (h.0.free, ← h.0.means, h.1.same) (test_end hs s (test_checked hs mid s.test) (k h.1.few))

to_end_agrees : (hs : List Heading) (s : Sentence) → HasNumbers s → length (map (var_of hs) s.ranges) ≤ 6 → to_end hs (has_fold s) s (map (var_of hs) s.ranges) ≡
    or_fault (asked hs s) (option_or (wishes_fault hs (is_some s.kept) (vars_of hs s) [] s.wishes) (option_or (test_fault hs (vars_of hs s) s.test) (keys_fault (head_in hs s) s.keys)))
to_end_agrees hs s h few =
    wishes_end hs s (grown hs (map (var_of hs) s.ranges) (flat_map wish_names s.wishes)) (wishes_checked hs (is_some s.kept) (map (var_of hs) s.ranges) no_columns s.wishes)
    (wishes_agree hs (is_some s.kept) (map (var_of hs) s.ranges) (test_names s.test) no_columns s.wishes h.wishes few)
    (λ low. rw (grown_append hs (map (var_of hs) s.ranges) (flat_map wish_names s.wishes) (test_names s.test)) (test_agrees hs (grown hs (map (var_of hs) s.ranges) (flat_map wish_names s.wishes)) s.test h.test low))

pub sentence_agrees : (hs : List Heading) (s : Sentence) → HasNumbers s → sentence_checked hs s ≡ or_fault (asked hs s) (sentence_fault hs s)
sentence_agrees hs s h = rw (ranges_agree hs [] s.ranges) (into (into_fault hs (has_fold s) s.kept)) where
  rest : (o : Option TextErr) → ranges_fault hs [] s.ranges ≡ o → bind (or_fault (map (var_of hs) s.ranges) o) (to_end hs (has_fold s) s) ≡
      or_fault (asked hs s) (option_or o (option_or (wishes_fault hs (is_some s.kept) (vars_of hs s) [] s.wishes) (option_or (test_fault hs (vars_of hs s) s.test) (keys_fault (head_in hs s) s.keys))))
  rest None e = to_end_agrees hs s h (ranges_few hs [] s.ranges (omega arith) e)
  rest (Some f) e = refl

  into : (o : Option TextErr) → unless o (bind (or_fault (map (var_of hs) s.ranges) (ranges_fault hs [] s.ranges)) (to_end hs (has_fold s) s)) ≡
      or_fault (asked hs s) (option_or o (option_or (ranges_fault hs [] s.ranges) (option_or (wishes_fault hs (is_some s.kept) (vars_of hs s) [] s.wishes) (option_or (test_fault hs (vars_of hs s) s.test) (keys_fault (head_in hs s) s.keys)))))
  into None = rest (ranges_fault hs [] s.ranges) refl
  into (Some f) = refl

kept_same : (hs : List Heading) (s : Sentence) (o : Option IntoForm) → kept_by (head_in hs s) (kept_name o) ≡ kept_heading hs s o
kept_same hs s None = refl
kept_same hs s (Some into) = refl

script_agrees : (hs : List Heading) (found : List Asked) (ss : List Sentence) → All HasNumbers ss → script_checked hs found ss ≡ or_fault (found ++ asked_in hs ss) (script_fault hs ss)
script_agrees hs found [] h = ap (λ qs. Ok qs) (sym (append-nil found))
script_agrees hs found (s ∷ ss) h =
    rw (sentence_agrees hs s (All-head HasNumbers s ss h))
    (bound (asked hs s) (found ++ (asked hs s ∷ asked_in (headings_after hs s) ss)) (sentence_fault hs s) (script_fault (headings_after hs s) ss) (λ a. script_checked (hs ++ kept_by a.head a.into) (found ++ a ∷ []) ss)
    (rw (kept_same hs s s.kept)
    (script_agrees (headings_after hs s) (found ++ asked hs s ∷ []) ss (All-tail HasNumbers s ss h) ∙
    ap (λ qs. or_fault qs (script_fault (headings_after hs s) ss)) (append_assoc found (asked hs s ∷ []) (asked_in (headings_after hs s) ss)))))

pub resolves : (hs : List Heading) (ss : List Sentence) → All HasNumbers ss → script_checked hs [] ss ≡ or_fault (asked_in hs ss) (script_fault hs ss)
resolves hs ss h = script_agrees hs [] ss h
