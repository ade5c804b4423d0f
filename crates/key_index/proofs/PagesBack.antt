-- What breaks no rule is the page of its items.
use Rattle.std.proofs.Common.{◌≡◌, ℕ, zero, suc, ◌-◌, ◌<◌, ◌≤◌, Bool, true, false, cond, eqb, ltb, not, List, [], ◌∷◌, ◌++◌, length, take, drop, flat_map, refl, sym, ap, subst, ◌∙◌, append_assoc, length-append, arith, Option, Some, None, inl, inr}
use Rattle.std.specs.Prelude.{slice_range}
use Rattle.std.specs.Int.{w16, w32, to_be_bytes}
use Rattle.std.specs.List.{AllByRecursion, list_all}
use Rattle.std.specs.Option.{option_and_then}
use Rattle.std.specs.Str.{bytes_eq}
use Rattle.std.proofs.lemmas.Bool.{cases_Bool, and_parts, eqb-true, eqb-false, ltb-false}
use Rattle.std.proofs.lemmas.List.{drop_at, length-drop, take-append-drop}
use Rattle.std.proofs.lemmas.Option.{none-some}
use Rattle.std.proofs.lemmas.Slice.Eq.{bytes_eq-Decides}
use Rattle.heap_page.specs.declared.head.FileKind.TheVariants.{Index}
use Rattle.heap_page.specs.Fields.{long_at, short_at}
use Rattle.heap_page.specs.Pages.{head_fault, magic_of, zeros}
use Rattle.heap_page.proofs.Parts.{IsBytes, IsBytes-drop, drop_split, long_back, short_back}
use Rattle.rows.specs.declared.field.ColType.{ColType}
use Rattle.rows.specs.declared.value.Value.{Value}
use Rattle.rows.specs.RowBytes.{IsOfType, value_bytes}
use Rattle.rows.specs.RowFields.{Front, typed_front}
use Rattle.rows.proofs.RowValues.{cond_false, cond_true, some_same, typed_back}
use Rattle.key_index.specs.Bytes.{head_of, item_bytes, page_of, tail_bytes}
use Rattle.key_index.specs.Entries.{Item}
use Rattle.key_index.specs.Readings.{item_front, items_in, page_fault, page_items, prepend, rest_fault, tail_front}

-- what stands behind a part is bytes too
behind_bytes : (bytes front behind : List ℕ) → bytes ≡ front ++ behind → IsBytes bytes → IsBytes behind
behind_bytes bytes front behind e small = subst IsBytes (ap (λ (xs : List ℕ). drop (length front) xs) e ∙ drop_at front behind (length front) refl) (IsBytes-drop (length front) bytes small)

-- ---- one item

record TailBack (level : ℕ) (key : Value) (bytes : List ℕ) (e : Item) (rest : List ℕ) : Type 0 where
  key_is : e.key ≡ key
  same : bytes ≡ tail_bytes level e ++ rest

abbrev leaf_item : Value → ℕ → List ℕ → Item
leaf_item key number bytes = record { key = key; page = long_at bytes 0; slot = short_at bytes 4; left = number }

abbrev node_item : Value → List ℕ → Item
node_item key bytes = record { key = key; page = long_at bytes 0; slot = 0; left = long_at bytes 4 }

two_parts : (whole a a' b b' rest : List ℕ) → a' ≡ a → b' ≡ b → whole ≡ a ++ (b ++ rest) → whole ≡ (a' ++ b') ++ rest
two_parts whole a a' b b' rest p q h = rw (p, q) (h ∙ sym (append_assoc a b rest))

leaf_whole : (bytes : List ℕ) → IsBytes bytes → 6 ≤ length bytes → bytes ≡ (to_be_bytes w32 (long_at bytes 0) ++ to_be_bytes w16 (short_at bytes 4)) ++ drop 6 bytes
leaf_whole bytes small le =
    let f0 : to_be_bytes w32 (long_at bytes 0) ≡ slice_range bytes 0 4 = long_back bytes 0 small (omega (arith, le)) in
    let f4 : to_be_bytes w16 (short_at bytes 4) ≡ slice_range bytes 4 6 = short_back bytes 4 small (omega (arith, le)) in
    two_parts bytes (slice_range bytes 0 4) _ (slice_range bytes 4 6) _ (drop 6 bytes) f0 f4 (drop_split bytes 0 4 (omega arith) ∙ ap (λ (ys : List ℕ). slice_range bytes 0 4 ++ ys) (drop_split bytes 4 6 (omega arith)))

node_whole : (bytes : List ℕ) → IsBytes bytes → 8 ≤ length bytes → bytes ≡ (to_be_bytes w32 (long_at bytes 0) ++ to_be_bytes w32 (long_at bytes 4)) ++ drop 8 bytes
node_whole bytes small le =
    let f0 : to_be_bytes w32 (long_at bytes 0) ≡ slice_range bytes 0 4 = long_back bytes 0 small (omega (arith, le)) in
    let f4 : to_be_bytes w32 (long_at bytes 4) ≡ slice_range bytes 4 8 = long_back bytes 4 small (omega (arith, le)) in
    two_parts bytes (slice_range bytes 0 4) _ (slice_range bytes 4 8) _ (drop 8 bytes) f0 f4 (drop_split bytes 0 4 (omega arith) ∙ ap (λ (ys : List ℕ). slice_range bytes 0 4 ++ ys) (drop_split bytes 4 8 (omega arith)))

tail_is : (level : ℕ) (key : Value) (bytes : List ℕ) (x e : Item) (behind rest : List ℕ) → ◌≡◌ {A = Option (Item × List ℕ)} (Some (x, behind)) (Some (e, rest)) → x.key ≡ key → bytes ≡ tail_bytes level x ++ behind → TailBack level key bytes e rest
tail_is level key bytes x e behind rest h k whole =
    let pair : ◌≡◌ {A = Item × List ℕ} (x, behind) (e, rest) = some_same (x, behind) (e, rest) h in
    subst (λ (q : Item × List ℕ). TailBack level key bytes q.0 q.1) pair (record { key_is = k; same = whole })

tail_back : (level number : ℕ) (key : Value) (bytes : List ℕ) (e : Item) (rest : List ℕ) → IsBytes bytes → tail_front level number key bytes ≡ Some (e, rest) → TailBack level key bytes e rest
tail_back zero number key bytes e rest small h =
    elim (cases_Bool (ltb (length bytes) 6)) [
      | inl short ↦ absurd (none-some (e, rest) (cond_true _ _ _ _ short h))
      | inr long ↦ tail_is 0 key bytes (leaf_item key number bytes) e (drop 6 bytes) rest (cond_false _ _ _ _ long h) refl (leaf_whole bytes small (ltb-false _ _ long))
    ]
tail_back (suc level) number key bytes e rest small h =
    elim (cases_Bool (ltb (length bytes) 8)) [
      | inl short ↦ absurd (none-some (e, rest) (cond_true _ _ _ _ short h))
      | inr long ↦ tail_is (suc level) key bytes (node_item key bytes) e (drop 8 bytes) rest (cond_false _ _ _ _ long h) refl (node_whole bytes small (ltb-false _ _ long))
    ]

record ItemBack (t : ColType) (level : ℕ) (bytes : List ℕ) (e : Item) (rest : List ℕ) : Type 0 where
  typed : IsOfType t e.key
  same : bytes ≡ item_bytes level e ++ rest

item_back : (t : ColType) (level number : ℕ) (bytes : List ℕ) (e : Item) (rest : List ℕ) → IsBytes bytes → item_front t level number bytes ≡ Some (e, rest) → ItemBack t level bytes e rest
item_back t level number bytes e rest small h = by (typed_front t bytes) refl h where
  by : (o : Option Front) → typed_front t bytes ≡ o → option_and_then (λ (front : Front). tail_front level number front.0 front.1) o ≡ Some (e, rest) → ItemBack t level bytes e rest
  by None is k = absurd (none-some (e, rest) k)
  by (Some f) is k =
      let v = typed_back t bytes f.0 f.1 small is in
      let b = tail_back level number f.0 f.1 e rest (behind_bytes bytes (value_bytes f.0) f.1 v.are_bytes small) k in
      record {
        typed = subst (λ (x : Value). IsOfType t x) (sym b.key_is) v.is_value;
        same = v.are_bytes ∙ (ap (λ (ys : List ℕ). value_bytes f.0 ++ ys) b.same ∙ (sym (append_assoc (value_bytes f.0) (tail_bytes level e) rest) ∙ ap (λ (x : Value). (value_bytes x ++ tail_bytes level e) ++ rest) (sym b.key_is)));
      }

-- ---- the items of a page

record ItemsBack (t : ColType) (level n : ℕ) (bytes : List ℕ) (items : List Item) (rest : List ℕ) : Type 0 where
  len : length items ≡ n
  typed : AllByRecursion (λ (e : Item). IsOfType t e.key) items
  same : bytes ≡ flat_map (item_bytes level) items ++ rest

items_back : (t : ColType) (level number n : ℕ) (bytes : List ℕ) (items : List Item) (rest : List ℕ) → IsBytes bytes → items_in t level number n bytes ≡ Some (items, rest) → ItemsBack t level n bytes items rest
items_back t level number zero bytes items rest small h =
    let pair : ◌≡◌ {A = List Item × List ℕ} ([], bytes) (items, rest) = some_same ([], bytes) (items, rest) h in
    subst (λ (q : List Item × List ℕ). ItemsBack t level 0 bytes q.0 q.1) pair (record { len = refl; typed = tt; same = refl })
items_back t level number (suc n) bytes items rest small h = by (λ b es r s k. items_back t level (suc number) n b es r s k) (item_front t level number bytes) refl h where
  by : ((b : List ℕ) (es : List Item) (r : List ℕ) → IsBytes b → items_in t level (suc number) n b ≡ Some (es, r) → ItemsBack t level n b es r) → (o : Option (Item × List ℕ)) → item_front t level number bytes ≡ o →
      option_and_then (λ (front : Item × List ℕ). prepend (front.0 ∷ []) (items_in t level (suc number) n front.1)) o ≡ Some (items, rest) → ItemsBack t level (suc n) bytes items rest
  by more None is k = absurd (none-some (items, rest) k)
  by more (Some f) is k = go (items_in t level (suc number) n f.1) refl k where
    go : (r : Option (List Item × List ℕ)) → items_in t level (suc number) n f.1 ≡ r → prepend (f.0 ∷ []) r ≡ Some (items, rest) → ItemsBack t level (suc n) bytes items rest
    go None at e = absurd (none-some (items, rest) e)
    go (Some q) at e =
        let pair : ◌≡◌ {A = List Item × List ℕ} (f.0 ∷ q.0, q.1) (items, rest) = some_same (f.0 ∷ q.0, q.1) (items, rest) e in
        let one = item_back t level number bytes f.0 f.1 small is in
        let others = more f.1 q.0 q.1 (behind_bytes bytes (item_bytes level f.0) f.1 one.same small) at in
        subst (λ (p : List Item × List ℕ). ItemsBack t level (suc n) bytes p.0 p.1) pair (record {
          len = ap suc others.len;
          typed = (one.typed, others.typed);
          same = one.same ∙ (ap (λ (ys : List ℕ). item_bytes level f.0 ++ ys) others.same ∙ sym (append_assoc (item_bytes level f.0) (flat_map (item_bytes level) q.0) q.1));
        })

-- ---- the head

passed : (b : Bool) (rule : ℕ) (rest : Option ℕ) → cond (not b) (Some rule) rest ≡ None → (b ≡ true) × (rest ≡ None)
passed true rule rest e = (refl, e)
passed false rule rest e = absurd cc

absent : (b : Bool) (rule : ℕ) (rest : Option ℕ) → cond b (Some rule) rest ≡ None → (b ≡ false) × (rest ≡ None)
absent false rule rest e = (refl, e)
absent true rule rest e = absurd cc

record IsHead (file number : ℕ) (bytes : List ℕ) : Type 0 where
  magic : take 4 bytes ≡ magic_of Index
  version : short_at bytes 4 ≡ 1
  zero_is : short_at bytes 18 ≡ 0
  file_is : long_at bytes 8 ≡ file
  number_is : long_at bytes 12 ≡ number

head_says : (file number : ℕ) (bytes : List ℕ) → head_fault Index file number bytes ≡ None → IsHead file number bytes
unfolding head_fault
head_says file number bytes h =
    let a = passed (bytes_eq (take 4 bytes) (magic_of Index)) 1 _ h in
    let b = passed (eqb (short_at bytes 4) 1) 2 _ a.1 in
    let c = passed (eqb (short_at bytes 18) 0) 3 _ b.1 in
    let d = passed (eqb (long_at bytes 8) file) 4 _ c.1 in
    let e = passed (eqb (long_at bytes 12) number) 5 _ d.1 in
    record {
      magic = (bytes_eq-Decides (take 4 bytes) (magic_of Index)).0 a.0;
      version = eqb-true _ _ b.0;
      zero_is = eqb-true _ _ c.0;
      file_is = eqb-true _ _ d.0;
      number_is = eqb-true _ _ e.0;
    }

all_parts : (m m' a a' b b' c c' d d' e e' z z' rest : List ℕ) → m ≡ m' → a ≡ a' → b ≡ b' → c ≡ c' → d ≡ d' → e ≡ e' → z ≡ z' →
    m ++ (a ++ (b ++ (c ++ (d ++ (e ++ (z ++ rest)))))) ≡ (m' ++ (a' ++ (b' ++ (c' ++ (d' ++ (e' ++ z')))))) ++ rest
all_parts m m' a a' b b' c c' d d' e e' z z' rest p0 p1 p2 p3 p4 p5 p6 = rw (p0, p1, p2, p3, p4, p5, p6) (simp append_assoc)

head_back : (file number : ℕ) (bytes : List ℕ) → IsBytes bytes → length bytes ≡ 8192 → IsHead file number bytes → bytes ≡ head_of file number (short_at bytes 16) (short_at bytes 6) ++ drop 20 bytes
unfolding head_of
head_back file number bytes small len h =
    let b0 : bytes ≡ take 4 bytes ++ drop 4 bytes = sym (take-append-drop 4 bytes) in
    let b4 = drop_split bytes 4 6 (omega arith) in
    let b6 = drop_split bytes 6 8 (omega arith) in
    let b8 = drop_split bytes 8 12 (omega arith) in
    let b12 = drop_split bytes 12 16 (omega arith) in
    let b16 = drop_split bytes 16 18 (omega arith) in
    let b18 = drop_split bytes 18 20 (omega arith) in
    let f4 : to_be_bytes w16 1 ≡ slice_range bytes 4 6 = ap (to_be_bytes w16) (sym h.version) ∙ short_back bytes 4 small (omega (arith, len)) in
    let f6 : to_be_bytes w16 (short_at bytes 6) ≡ slice_range bytes 6 8 = short_back bytes 6 small (omega (arith, len)) in
    let f8 : to_be_bytes w32 file ≡ slice_range bytes 8 12 = ap (to_be_bytes w32) (sym h.file_is) ∙ long_back bytes 8 small (omega (arith, len)) in
    let f12 : to_be_bytes w32 number ≡ slice_range bytes 12 16 = ap (to_be_bytes w32) (sym h.number_is) ∙ long_back bytes 12 small (omega (arith, len)) in
    let f16 : to_be_bytes w16 (short_at bytes 16) ≡ slice_range bytes 16 18 = short_back bytes 16 small (omega (arith, len)) in
    let f18 : to_be_bytes w16 0 ≡ slice_range bytes 18 20 = ap (to_be_bytes w16) (sym h.zero_is) ∙ short_back bytes 18 small (omega (arith, len)) in
    b0 ∙ ap (λ (ys : List ℕ). take 4 bytes ++ ys) (b4 ∙ ap (λ (ys : List ℕ). slice_range bytes 4 6 ++ ys) (b6 ∙ ap (λ (ys : List ℕ). slice_range bytes 6 8 ++ ys) (b8
    ∙ ap (λ (ys : List ℕ). slice_range bytes 8 12 ++ ys) (b12 ∙ ap (λ (ys : List ℕ). slice_range bytes 12 16 ++ ys) (b16 ∙ ap (λ (ys : List ℕ). slice_range bytes 16 18 ++ ys) b18)))))
    ∙ all_parts _ _ _ _ _ _ _ _ _ _ _ _ _ _ (drop 20 bytes) h.magic (sym f4) (sym f6) (sym f8) (sym f12) (sym f16) (sym f18)

-- ---- the page

all_zero : (xs : List ℕ) → list_all (λ b. eqb b 0) xs ≡ true → xs ≡ zeros (length xs)
all_zero [] h = refl
all_zero (x ∷ xs) h =
    let two = and_parts (eqb x 0) (list_all (λ b. eqb b 0) xs) h in
    rw (eqb-true x 0 two.0) (ap (λ (ys : List ℕ). 0 ∷ ys) (all_zero xs two.1))

record BodySays (t : ColType) (level left : ℕ) (bytes : List ℕ) : Type 0 where
  at_level : short_at bytes 16 ≡ level
  some : short_at bytes 6 ≡ 0 → ⊥
  items : List Item
  rest : List ℕ
  holds : page_items t level left bytes ≡ Some (items, rest)
  free : list_all (λ b. eqb b 0) rest ≡ true

body_says : (t : ColType) (level left : ℕ) (bytes : List ℕ) → page_fault t level left bytes ≡ None → BodySays t level left bytes
unfolding page_fault
body_says t level left bytes h =
    let a = passed (eqb (short_at bytes 16) level) 6 _ h in
    let b = absent (eqb (short_at bytes 6) 0) 7 _ a.1 in
    by (page_items t level left bytes) refl b.1 (eqb-true _ _ a.0) (eqb-false _ _ b.0)
  where
    by : (o : Option (List Item × List ℕ)) → page_items t level left bytes ≡ o → rest_fault o ≡ None → short_at bytes 16 ≡ level → (short_at bytes 6 ≡ 0 → ⊥) → BodySays t level left bytes
    by None is e at some = absurd cc
    by (Some r) is e at some = record { at_level = at; some = some; items = r.0; rest = r.1; holds = is; free = zero (list_all (λ b. eqb b 0) r.1) e } where
      zero : (b : Bool) → cond {A = Option ℕ} b None (Some 8) ≡ None → b ≡ true
      zero true e = refl
      zero false e = absurd cc

-- the items that are read of bytes that break no rule
pub items_read : (t : ColType) (level left : ℕ) (bytes : List ℕ) → IsBytes bytes → length bytes ≡ 8192 → page_fault t level left bytes ≡ None →
    (items : List Item) × (rest : List ℕ) × (page_items t level left bytes ≡ Some (items, rest)) × (0 < length items) × AllByRecursion (λ (e : Item). IsOfType t e.key) items
items_read t level left bytes small len k =
    let body = body_says t level left bytes k in
    let b = items_back t level left (short_at bytes 6) (drop 20 bytes) body.items body.rest (IsBytes-drop 20 bytes small) body.holds in
    let none = body.some in
    (body.items, body.rest, body.holds, omega (arith, b.len, none), b.typed)

pub page_back : (t : ColType) (file page level left : ℕ) (bytes : List ℕ) → IsBytes bytes → length bytes ≡ 8192 → head_fault Index file page bytes ≡ None → page_fault t level left bytes ≡ None → (items : List Item) (rest : List ℕ) →
    page_items t level left bytes ≡ Some (items, rest) → bytes ≡ page_of file page level items
unfolding page_of
page_back t file page level left bytes small len h k items rest holds =
    let head = head_says file page bytes h in
    let body = body_says t level left bytes k in
    let same : ◌≡◌ {A = List Item × List ℕ} (body.items, body.rest) (items, rest) = some_same (body.items, body.rest) (items, rest) (sym body.holds ∙ holds) in
    let free_is : list_all (λ b. eqb b 0) rest ≡ true = subst (λ (q : List Item × List ℕ). list_all (λ b. eqb b 0) q.1 ≡ true) same body.free in
    let b = items_back t level left (short_at bytes 6) (drop 20 bytes) items rest (IsBytes-drop 20 bytes small) holds in
    let flat = flat_map (item_bytes level) items in
    let size : length rest ≡ 8172 - length flat = omega (arith, len, length-drop 20 bytes, ap length b.same, length-append flat rest) in
    let free : rest ≡ zeros (8172 - length flat) = all_zero rest free_is ∙ ap zeros size in
    let front : head_of file page (short_at bytes 16) (short_at bytes 6) ≡ head_of file page level (length items) = ap (λ (l : ℕ). head_of file page l (short_at bytes 6)) body.at_level ∙ ap (λ (n : ℕ). head_of file page level n) (sym b.len) in
    head_back file page bytes small len head ∙ (ap (λ (xs : List ℕ). xs ++ drop 20 bytes) front ∙ ap (λ (xs : List ℕ). head_of file page level (length items) ++ xs) (b.same ∙ ap (λ (xs : List ℕ). flat ++ xs) free))
