-- A statement without a fault is a query that may be asked.
use Rattle.std.proofs.Common.{◌≡◌, ◌<◌, ℕ, ◌+◌, Bool, true, false, nat_lt, ◌||◌, All, List, [], ◌∷◌, ◌++◌, map, length, Option, Some, None, is_some, IsSome, IfSome, IsTrue, Ok, refl, sym, ap, ◌∙◌, subst, arith, append_assoc, append-nil, length-append, if◌then◌else◌, slice_get}
use Rattle.std.specs.List.{flat_map, list_any}
use Rattle.std.specs.Option.{option_map, option_or, unwrap_or}
use Rattle.std.proofs.lemmas.List.Elements.{All-nil, All-cons, All-append, All-head, All-tail, All-weaker}
use Rattle.postquel_tokens.specs.declared.form.RangeForm.{RangeForm}
use Rattle.postquel_tokens.specs.declared.form.KeyForm.{KeyForm}
use Rattle.postquel_tokens.specs.declared.fault.What.TheVariants as what
use Rattle.postquel_tokens.specs.declared.fault.TextErr.{TextErr}
use Rattle.postquel_tokens.specs.Forms as phrase
use Rattle.postquel_tokens.specs.Forms.{Phrase, Wish, Sentence, Condition}
use Rattle.rel_meaning.specs.declared.query.Var.{Var}
use Rattle.rel_meaning.specs.Expression as ex
use Rattle.rel_meaning.specs.Expression.{Expression, Output, Question}
use Rattle.rel_meaning.specs.Typing.{type_of, is_truth}
use Rattle.name_check.specs.declared.heading.Heading.{Heading}
use Rattle.name_check.specs.declared.heading.HeadColumn.{HeadColumn}
use Rattle.name_check.specs.Places.{same}
use Rattle.name_check.specs.Types.{at}
use Rattle.name_check.specs.Faults.{var_named, heading_named, column_named, columns_of, column_type, grown, fault_in, meaning_in, type_in, NumbersFit}
use Rattle.name_check.specs.Sentences.{shown, all_shown, var_of, vars_of, wish_names, test_names, wish_shown, output_by, is_fold, has_fold, plain_outputs, fold_outputs, inner_fault, sum_fault, into_fault, range_form_fault, ranges_fault, columns_fault, wishes_fault, wish_spot, head_of, test_fault, keys_fault, head_in, sentence_fault, headings_after, script_fault, questions_in, queries_of, or_fault, question_in, sort_key, HasNumbers, WishNumbers}
use Rattle.name_check.specs.Resolved.{MayAsk, MayAskEach}
use Rattle.name_check.proofs.Places.{place_within}
use Rattle.name_check.proofs.Any.{length_map}
use Rattle.name_check.proofs.Sound.{both_none, typed, Low, low_of, names_low, Known, Bounded, grown_bounded}
use Rattle.name_check.proofs.Resolved.{ranges_few}

-- targets
abbrev pub IsTyped : List Heading → List Var → Output → Type 0
IsTyped hs vars t = IsSome (type_of t.expr (column_type hs vars))

some : {A : Type 0} (o : Option A) → ((a : A) × (o ≡ Some a)) → IsSome o
some o h = rw h.1 refl

pub inner_free : (hs : List Heading) (limited : Bool) (vars : List Var) (before : List HeadColumn) (ws : List Wish) → wishes_fault hs limited vars before ws ≡ None → All (λ w. inner_fault hs vars w ≡ None) ws
inner_free hs limited vars before [] e = All-nil (λ w. inner_fault hs vars w ≡ None)
inner_free hs limited vars before (w ∷ ws) e =
    let after : List HeadColumn = before ++ map head_of (wish_shown hs vars w) in
    let parts : (inner_fault hs vars w ≡ None) × (option_or (columns_fault limited (wish_spot w) before (wish_shown hs vars w)) (wishes_fault hs limited vars (before ++ map head_of (wish_shown hs vars w)) ws) ≡ None) =
    both_none (inner_fault hs vars w) (option_or (columns_fault limited (wish_spot w) before (wish_shown hs vars w)) (wishes_fault hs limited vars (before ++ map head_of (wish_shown hs vars w)) ws)) e in
    All-cons (λ w. inner_fault hs vars w ≡ None) w ws parts.0
    (inner_free hs limited vars (before ++ map head_of (wish_shown hs vars w)) ws (both_none (columns_fault limited (wish_spot w) before (wish_shown hs vars w)) (wishes_fault hs limited vars (before ++ map head_of (wish_shown hs vars w)) ws) parts.1).1)

one_typed : (hs : List Heading) (vars : List Var) (name : List ℕ) (e : Phrase) → NumbersFit e → fault_in hs vars e ≡ None → All (IsTyped hs vars) (map output_by (shown hs vars name e ∷ []))
one_typed hs vars name e h f = All-cons (IsTyped hs vars) (record { name = name; expr = meaning_in hs vars e }) [] (some (type_in hs vars e) (typed hs vars e h f)) (All-nil (IsTyped hs vars))

pub at_end : {A : Type 0} (xs : List A) (y : A) (ys : List A) → slice_get (xs ++ (y ∷ ys)) (length xs) ≡ Some y
at_end [] y ys = refl
at_end (x ∷ xs) y ys = at_end xs y ys

all_typed : (hs : List Heading) (vars : List Var) (var : ℕ) (front cs : List HeadColumn) (k : ℕ) → columns_of hs vars var ≡ front ++ cs → k ≡ length front → All (IsTyped hs vars) (map output_by (all_shown var k cs))
all_typed hs vars var front [] k e h = All-nil (IsTyped hs vars)
all_typed hs vars var front (c ∷ cs) k e h =
    let there : slice_get (columns_of hs vars var) k ≡ Some c = rw (e, h) (at_end front c cs) in
    All-cons (IsTyped hs vars) (record { name = c.name; expr = ex.column var k }) (map output_by (all_shown var (k + 1) cs))
    (some (column_type hs vars var k) (c.layout, ap (option_map (λ c. c.layout)) there))
    (all_typed hs vars var (front ++ c ∷ []) cs (k + 1) (e ∙ sym (append_assoc front (c ∷ []) cs)) (omega (arith, h, length-append front (c ∷ []))))

wish_typed : (hs : List Heading) (vars : List Var) (w : Wish) → WishNumbers w → inner_fault hs vars w ≡ None → All (IsTyped hs vars) (map output_by (wish_shown hs vars w))
wish_typed hs vars (phrase.Titled name e) h f = one_typed hs vars name.text e h f
wish_typed hs vars (phrase.Column v c) h f = one_typed hs vars c.text (phrase.Dotted v c) tt f
wish_typed hs vars (phrase.Folded name fold e) h f = one_typed hs vars name.text e h (both_none (fault_in hs vars e) (sum_fault fold (type_in hs vars e)) f).0
wish_typed hs vars (phrase.Every v) h f = all_typed hs vars (unwrap_or (var_named vars v.text) 0) [] (columns_of hs vars (unwrap_or (var_named vars v.text) 0)) 0 refl refl

plain_typed : (hs : List Heading) (vars : List Var) (ws : List Wish) → All WishNumbers ws → All (λ w. inner_fault hs vars w ≡ None) ws → All (IsTyped hs vars) (flat_map (plain_outputs hs vars) ws)
plain_typed hs vars [] h f = All-nil (IsTyped hs vars)
plain_typed hs vars (w ∷ ws) h f =
    All-append (IsTyped hs vars) (plain_outputs hs vars w) (flat_map (plain_outputs hs vars) ws)
    (elim (is_fold w) as (λ b. All (IsTyped hs vars) (if b then [] else map output_by (wish_shown hs vars w))) [
      | true ↦ All-nil (IsTyped hs vars)
      | false ↦ wish_typed hs vars w (All-head WishNumbers w ws h) (All-head (λ w. inner_fault hs vars w ≡ None) w ws f)
    ])
    (plain_typed hs vars ws (All-tail WishNumbers w ws h) (All-tail (λ w. inner_fault hs vars w ≡ None) w ws f))

folds_typed : (hs : List Heading) (vars : List Var) (ws : List Wish) → All WishNumbers ws → All (λ w. inner_fault hs vars w ≡ None) ws → All (IsTyped hs vars) (flat_map (fold_outputs hs vars) ws)
folds_typed hs vars [] h f = All-nil (IsTyped hs vars)
folds_typed hs vars (w ∷ ws) h f =
    All-append (IsTyped hs vars) (fold_outputs hs vars w) (flat_map (fold_outputs hs vars) ws)
    (elim (is_fold w) as (λ b. All (IsTyped hs vars) (if b then map output_by (wish_shown hs vars w) else [])) [
      | true ↦ wish_typed hs vars w (All-head WishNumbers w ws h) (All-head (λ w. inner_fault hs vars w ≡ None) w ws f)
      | false ↦ All-nil (IsTyped hs vars)
    ])
    (folds_typed hs vars ws (All-tail WishNumbers w ws h) (All-tail (λ w. inner_fault hs vars w ≡ None) w ws f))

-- the test
is_bool : (b : Bool) (f : TextErr) → (if b then None else Some f) ≡ None → IsTrue b
is_bool true f e = refl
is_bool false f e = cc

test_may : (hs : List Heading) (vars : List Var) (test : Option Condition) → test_fault hs vars test ≡ None →
    IfSome (option_map (λ c. meaning_in hs vars c.phrase) test) (λ t. IsTrue (is_truth (type_of t (column_type hs vars))))
test_may hs vars None e = tt
test_may hs vars (Some c) e =
    is_bool (is_truth (type_in hs vars c.phrase)) (at c.spot what.TypeMismatch)
    (both_none (fault_in hs vars c.phrase) (if is_truth (type_in hs vars c.phrase) then None else Some (at c.spot what.TypeMismatch)) e).1

-- the range variables
wish_low : (hs : List Heading) (vars : List Var) (w : Wish) → inner_fault hs vars w ≡ None → All (Low vars) (wish_names w)
wish_low hs vars (phrase.Titled name e) f = names_low hs vars e f
wish_low hs vars (phrase.Column v c) f = names_low hs vars (phrase.Dotted v c) f
wish_low hs vars (phrase.Folded name fold e) f = names_low hs vars e (both_none (fault_in hs vars e) (sum_fault fold (type_in hs vars e)) f).0
wish_low hs vars (phrase.Every v) f = All-cons (Low vars) v.text [] (low_of vars v f) (All-nil (Low vars))

wishes_low : (hs : List Heading) (vars : List Var) (ws : List Wish) → All (λ w. inner_fault hs vars w ≡ None) ws → All (Low vars) (flat_map wish_names ws)
wishes_low hs vars [] f = All-nil (Low vars)
wishes_low hs vars (w ∷ ws) f =
    All-append (Low vars) (wish_names w) (flat_map wish_names ws) (wish_low hs vars w (All-head (λ w. inner_fault hs vars w ≡ None) w ws f)) (wishes_low hs vars ws (All-tail (λ w. inner_fault hs vars w ≡ None) w ws f))

test_low : (hs : List Heading) (vars : List Var) (test : Option Condition) → test_fault hs vars test ≡ None → All (Low vars) (test_names test)
test_low hs vars None e = All-nil (Low vars)
test_low hs vars (Some c) e = names_low hs vars c.phrase (both_none (fault_in hs vars c.phrase) (if is_truth (type_in hs vars c.phrase) then None else Some (at c.spot what.TypeMismatch)) e).0

range_known : (hs : List Heading) (before : List Var) (r : RangeForm) → range_form_fault hs before r ≡ None → Known hs (var_of hs r)
range_known hs before r e = room (nat_lt (length before) 6) e where
  known : (o : Option ℕ) → IfSome o (λ k. k < length hs) → (if is_some o then None else Some (at r.relation.spot what.NoRelation)) ≡ None → unwrap_or o 0 < length hs
  known None h e = cc
  known (Some k) h e = h

  double : (b : Bool) → (if b then Some (at r.var.spot what.DoubleRange) else if is_some (heading_named hs r.relation.text) then None else Some (at r.relation.spot what.NoRelation)) ≡ None → Known hs (var_of hs r)
  double true e = cc
  double false e = known (heading_named hs r.relation.text) (place_within (λ (h : Heading). same h.name r.relation.text) hs) e

  room : (b : Bool) → (if b then (if is_some (var_named before r.var.text) then Some (at r.var.spot what.DoubleRange) else if is_some (heading_named hs r.relation.text) then None else Some (at r.relation.spot what.NoRelation))
      else Some (at r.var.spot what.TooManyRanges)) ≡ None → Known hs (var_of hs r)
  room true e = double (is_some (var_named before r.var.text)) e
  room false e = cc

ranges_known : (hs : List Heading) (before : List Var) (rs : List RangeForm) → ranges_fault hs before rs ≡ None → All (Known hs) (map (var_of hs) rs)
ranges_known hs before [] e = All-nil (Known hs)
ranges_known hs before (r ∷ rs) e =
    let parts : (range_form_fault hs before r ≡ None) × (ranges_fault hs (before ++ var_of hs r ∷ []) rs ≡ None) = both_none (range_form_fault hs before r) (ranges_fault hs (before ++ var_of hs r ∷ []) rs) e in
    All-cons (Known hs) (var_of hs r) (map (var_of hs) rs) (range_known hs before r parts.0) (ranges_known hs (before ++ var_of hs r ∷ []) rs parts.1)

-- sort keys
key_low : (head : List HeadColumn) (ks : List KeyForm) → keys_fault head ks ≡ None → All (λ k. k.column < length head) (map (sort_key head) ks)
key_low head [] e = All-nil (λ k. k.column < length head)
key_low head (k ∷ ks) e =
    let parts : ((if is_some (column_named head k.target.text) then None else Some (at k.target.spot what.NoSortTarget)) ≡ None) × (keys_fault head ks ≡ None) =
    both_none (if is_some (column_named head k.target.text) then None else Some (at k.target.spot what.NoSortTarget)) (keys_fault head ks) e in
    All-cons (λ k. k.column < length head) (sort_key head k) (map (sort_key head) ks)
    (there k (column_named head k.target.text) (place_within (λ (c : HeadColumn). same c.name k.target.text) head) parts.0) (key_low head ks parts.1) where
      there : (k : KeyForm) (o : Option ℕ) → IfSome o (λ n. n < length head) → (if is_some o then None else Some (at k.target.spot what.NoSortTarget)) ≡ None → unwrap_or o 0 < length head
      there k None h e = cc
      there k (Some n) h e = h

pub split_any : (a b : Bool) → (a || b) ≡ false → (a ≡ false) × (b ≡ false)
split_any true b e = cc
split_any false b e = (refl, e)

same_length : (hs : List Heading) (vars : List Var) (ws : List Wish) → list_any is_fold ws ≡ false →
    length (flat_map (plain_outputs hs vars) ws) ≡ length (flat_map (λ w. map head_of (wish_shown hs vars w)) ws)
same_length hs vars [] e = refl
same_length hs vars (w ∷ ws) e =
    let parts : (is_fold w ≡ false) × (list_any is_fold ws ≡ false) = split_any (is_fold w) (list_any is_fold ws) e in
    let rest : length (flat_map (plain_outputs hs vars) ws) ≡ length (flat_map (λ w. map head_of (wish_shown hs vars w)) ws) = same_length hs vars ws parts.1 in
    let plain : plain_outputs hs vars w ≡ map output_by (wish_shown hs vars w) = ap (λ b. if b then [] else map output_by (wish_shown hs vars w)) parts.0 in
    let first : length (plain_outputs hs vars w) ≡ length (map head_of (wish_shown hs vars w)) = ap length plain ∙ (length_map output_by (wish_shown hs vars w) ∙ sym (length_map head_of (wish_shown hs vars w))) in
    omega (arith, first, rest, length-append (plain_outputs hs vars w) (flat_map (plain_outputs hs vars) ws), length-append (map head_of (wish_shown hs vars w)) (flat_map (λ w. map head_of (wish_shown hs vars w)) ws))

keys_may : (hs : List Heading) (s : Sentence) → keys_fault (head_in hs s) s.keys ≡ None → (b : Bool) → has_fold s ≡ b →
    All (λ k. k.column < length (flat_map (plain_outputs hs (vars_of hs s)) s.wishes ++ flat_map (fold_outputs hs (vars_of hs s)) s.wishes)) (if b then [] else map (sort_key (head_in hs s)) s.keys)
keys_may hs s e true h = All-nil (λ k. k.column < length (flat_map (plain_outputs hs (vars_of hs s)) s.wishes ++ flat_map (fold_outputs hs (vars_of hs s)) s.wishes))
keys_may hs s e false h =
    All-weaker (λ k. k.column < length (head_in hs s)) (λ k. k.column < length (flat_map (plain_outputs hs (vars_of hs s)) s.wishes ++ flat_map (fold_outputs hs (vars_of hs s)) s.wishes))
    (λ k l. omega (arith, l, same_length hs (vars_of hs s) s.wishes h, length-append (flat_map (plain_outputs hs (vars_of hs s)) s.wishes) (flat_map (fold_outputs hs (vars_of hs s)) s.wishes)))
    (map (sort_key (head_in hs s)) s.keys) (key_low (head_in hs s) s.keys e)

asked_may : (hs : List Heading) (s : Sentence) → HasNumbers s → ranges_fault hs [] s.ranges ≡ None → All (λ w. inner_fault hs (vars_of hs s) w ≡ None) s.wishes → test_fault hs (vars_of hs s) s.test ≡ None →
    keys_fault (head_in hs s) s.keys ≡ None → MayAsk hs (question_in hs s)
asked_may hs s h ranges wishes test keys = record {
  few = bounded.few;
  relations = bounded.known;
  targets = All-append (IsTyped hs (vars_of hs s)) (flat_map (plain_outputs hs (vars_of hs s)) s.wishes) (flat_map (fold_outputs hs (vars_of hs s)) s.wishes)
      (plain_typed hs (vars_of hs s) s.wishes h.wishes wishes) (folds_typed hs (vars_of hs s) s.wishes h.wishes wishes);
  test = test_may hs (vars_of hs s) s.test test;
  keys = keys_may hs s keys (has_fold s) refl;
} where
  low : All (Low (vars_of hs s)) (flat_map wish_names s.wishes ++ test_names s.test)
  low = All-append (Low (vars_of hs s)) (flat_map wish_names s.wishes) (test_names s.test) (wishes_low hs (vars_of hs s) s.wishes wishes) (test_low hs (vars_of hs s) s.test test)

  bounded : Bounded hs (vars_of hs s)
  bounded = grown_bounded hs (map (var_of hs) s.ranges) (flat_map wish_names s.wishes ++ test_names s.test) [] (record { few = ranges_few hs [] s.ranges (omega arith) ranges; known = ranges_known hs [] s.ranges ranges })
      (subst (λ ns. All (Low (grown hs (map (var_of hs) s.ranges) ns)) (flat_map wish_names s.wishes ++ test_names s.test)) (sym (append-nil (flat_map wish_names s.wishes ++ test_names s.test))) low)

pub may_ask : (hs : List Heading) (s : Sentence) → HasNumbers s → sentence_fault hs s ≡ None → MayAsk hs (question_in hs s)
may_ask hs s h e =
    let p : (ranges_fault hs [] s.ranges ≡ None) × (option_or (wishes_fault hs (is_some s.kept) (vars_of hs s) [] s.wishes) (option_or (test_fault hs (vars_of hs s) s.test) (keys_fault (head_in hs s) s.keys)) ≡ None) =
    both_none (ranges_fault hs [] s.ranges) (option_or (wishes_fault hs (is_some s.kept) (vars_of hs s) [] s.wishes) (option_or (test_fault hs (vars_of hs s) s.test) (keys_fault (head_in hs s) s.keys)))
    (both_none (into_fault hs (has_fold s) s.kept) (option_or (ranges_fault hs [] s.ranges) (option_or (wishes_fault hs (is_some s.kept) (vars_of hs s) [] s.wishes) (option_or (test_fault hs (vars_of hs s) s.test) (keys_fault (head_in hs s) s.keys)))) e).1 in
    let q : (wishes_fault hs (is_some s.kept) (vars_of hs s) [] s.wishes ≡ None) × (option_or (test_fault hs (vars_of hs s) s.test) (keys_fault (head_in hs s) s.keys) ≡ None) =
    both_none (wishes_fault hs (is_some s.kept) (vars_of hs s) [] s.wishes) (option_or (test_fault hs (vars_of hs s) s.test) (keys_fault (head_in hs s) s.keys)) p.1 in
    let r : (test_fault hs (vars_of hs s) s.test ≡ None) × (keys_fault (head_in hs s) s.keys ≡ None) = both_none (test_fault hs (vars_of hs s) s.test) (keys_fault (head_in hs s) s.keys) q.1 in
    asked_may hs s h p.0 (inner_free hs (is_some s.kept) (vars_of hs s) [] s.wishes q.0) r.0 r.1

pub each_may : (hs : List Heading) (ss : List Sentence) → All HasNumbers ss → script_fault hs ss ≡ None → MayAskEach hs ss
each_may hs [] h e = tt
each_may hs (s ∷ ss) h e =
    let parts : (sentence_fault hs s ≡ None) × (script_fault (headings_after hs s) ss ≡ None) = both_none (sentence_fault hs s) (script_fault (headings_after hs s) ss) e in
    (may_ask hs s (All-head HasNumbers s ss h) parts.0, each_may (headings_after hs s) ss (All-tail HasNumbers s ss h) parts.1)

fault_none : {A : Type 0} (a b : A) (o : Option TextErr) → or_fault a o ≡ Ok b → o ≡ None
fault_none a b None e = refl
fault_none a b (Some f) e = cc

pub answered_may : (hs : List Heading) (ss : List Sentence) (qs : List Question) → All HasNumbers ss → queries_of hs ss ≡ Ok qs → MayAskEach hs ss
answered_may hs ss qs h e = each_may hs ss h (fault_none (questions_in hs ss) qs (script_fault hs ss) e)
