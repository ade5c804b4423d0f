-- The levels of an index as the code keeps them.
use Rattle.std.proofs.Common.{◌≡◌, ℕ, zero, suc, ◌+◌, ◌<◌, ◌≤◌, true, false, ltb, List, [], ◌∷◌, ◌++◌, length, get_or, drop, refl, sym, ap, ap₂, subst, ◌∙◌, arith, length-append, append_assoc, drop_at}
use Rattle.std.specs.Global.{Vec}
use Rattle.std.specs.List.{All, AllByRecursion}
use Rattle.std.proofs.lemmas.Bool.{lt-ltb, le-ltb}
use Rattle.std.proofs.lemmas.List.{append-nil, length-map, drop_all}
use Rattle.heap_page.specs.Blocks.{AreBlocks, blocks_of, joined, laid, weight_of}
use Rattle.heap_page.proofs.Cut.{laid_more, laid_next, laid_end, weight-append}
use Rattle.rows.specs.declared.plain.KeyEntry.{KeyEntry}
use Rattle.rows.specs.declared.field.ColType.{ColType}
use Rattle.rows.specs.declared.field.ColType.TheVariants as col
use Rattle.rows.specs.declared.plain.KeyIndex.{KeyIndex}
use Rattle.rows.specs.declared.value.Value.{Value}
use Rattle.rows.specs.declared.value.Value.TheVariants.{Null, Number, Word, Truth}
use Rattle.rows.specs.RowBytes.{IsOfType, value_bytes}
use Rattle.rows.specs.RowFields.{IsStorable}
use Rattle.key_index.specs.Bytes.{tail_bytes, weight}
use Rattle.key_index.specs.Entries.{AreEntries, IsEntry, Item, items_from, items_of}
use Rattle.key_index.specs.Files.{index_of, index_pages, level_pages, pages_of_levels}
use Rattle.key_index.specs.Levels.{AreLevels, firsts, levels_from, levels_of, up}
use Rattle.key_index.specs.declared.node.Node.{Node}
use Rattle.key_index.specs.declared.node.Level.{Level}
use Rattle.key_index.specs.Nodes.{AreKeys, IsLevel, IsNode, key_at, leaf_nodes, level_blocks, node_item, node_items, nodes_over, place_at, starts_of}
use Rattle.key_index.proofs.Keys.{weight_bounds}
use Rattle.key_index.proofs.Indexed.{length-level, length-pages}
use Rattle.key_index.proofs.Made.{IsSmall, cut, few_levels, few_pages, fewer, levels_made}

pub key_got : (es : List KeyEntry) (place : ℕ) (d : KeyEntry) → place < length es → key_at es place ≡ (get_or es place d).key
key_got [] place d lt = absurd (omega arith)
key_got (x ∷ es) zero d lt = refl
key_got (x ∷ es) (suc place) d lt = key_got es place d (omega arith)

pub storable_small : (v : Value) → IsStorable v → length (value_bytes v) ≤ 2002
storable_small Null h = omega arith
storable_small (Number n) h = omega arith
storable_small (Word w) h = omega (arith, h)
storable_small (Truth true) h = omega arith
storable_small (Truth false) h = omega arith

pub weight_is : (level : ℕ) (e : Item) → weight level e ≡ length (value_bytes e.key) + length (tail_bytes level e)
weight_is level e = length-append (value_bytes e.key) (tail_bytes level e)

pub tail_leaf : (level : ℕ) (e : Item) → level ≡ 0 → length (tail_bytes level e) ≡ 6
tail_leaf zero e h = refl
tail_leaf (suc level) e h = absurd (omega (arith, h))

pub tail_above : (level : ℕ) (e : Item) → (level ≡ 0 → ⊥) → length (tail_bytes level e) ≡ 8
tail_above zero e h = absurd (h refl)
tail_above (suc level) e h = refl

key_of_place : (es : List KeyEntry) (place : ℕ) → place < length es → (e : KeyEntry) × (e ≡ get_or es place e) × (key_at es place ≡ e.key)
key_of_place [] place lt = absurd (omega arith)
key_of_place (x ∷ es) zero lt = (x, refl, refl)
key_of_place (x ∷ es) (suc place) lt = key_of_place es place (omega arith)

small_item : (es : List KeyEntry) (n : Node) → AreKeys es → IsNode es n → IsSmall (node_item es n)
small_item es n keys h =
    let f = key_of_place es n.place h.0 in
    let k : IsStorable (get_or es n.place f.0).key = keys n.place f.0 h.0 in
    storable_small (key_at es n.place) (rw (f.2) (rw (f.1) k))

pub small_items : (es : List KeyEntry) (nodes : List Node) → AreKeys es → All (IsNode es) nodes → AllByRecursion IsSmall (node_items es nodes)
small_items es [] keys h = tt
small_items es (n ∷ nodes) keys h = (small_item es n keys (h 0 n (omega arith)), small_items es nodes keys (λ k d lt. h (suc k) d (omega arith)))

-- ---- the leaves

pub leaf_here : (s i : ℕ) (es : List KeyEntry) (e : KeyEntry) → i < length es → e ≡ get_or es i e →
    leaf_nodes (s + i) (drop i es) ≡ record { place = s + i; page = e.page; slot = e.slot } ∷ leaf_nodes (s + (i + 1)) (drop (i + 1) es)
leaf_here s i [] e lt h = absurd (omega arith)
leaf_here s zero (x ∷ es) e lt h =
    let a : suc (s + 0) ≡ s + 1 = omega arith in
    ap (λ (k : ℕ). record { place = s + 0; page = x.page; slot = x.slot } ∷ leaf_nodes k es) a ∙ ap (λ (y : KeyEntry). record { place = s + 0; page = y.page; slot = y.slot } ∷ leaf_nodes (s + 1) es) (sym h)
leaf_here s (suc i) (x ∷ es) e lt h =
    let a : s + suc i ≡ suc s + i = omega arith in
    let b : suc i + 1 ≡ suc (i + 1) = omega arith in
    let c : s + suc (i + 1) ≡ suc s + (i + 1) = omega arith in
    rw (a, b, c) (leaf_here (suc s) i es e (omega arith) h)

key_behind : (front es : List KeyEntry) (i : ℕ) → key_at (front ++ es) (length front + i) ≡ key_at es i
key_behind [] es i = let e : 0 + i ≡ i = omega arith in ap (key_at es) e
key_behind (x ∷ front) es i = let e : suc (length front) + i ≡ suc (length front + i) = omega arith in ap (key_at (x ∷ (front ++ es))) e ∙ key_behind front es i

leaf_items : (front es : List KeyEntry) → node_items (front ++ es) (leaf_nodes (length front) es) ≡ items_from (length front) es
leaf_items front [] = refl
leaf_items front (e ∷ es) =
    let z : length front + 0 ≡ length front = omega arith in
    let key : key_at (front ++ e ∷ es) (length front) ≡ e.key = ap (key_at (front ++ e ∷ es)) (sym z) ∙ key_behind front (e ∷ es) 0 in
    let all : (front ++ e ∷ []) ++ es ≡ front ++ e ∷ es = append_assoc front (e ∷ []) es in
    let len : length (front ++ e ∷ []) ≡ suc (length front) = length-append front (e ∷ []) ∙ omega arith in
    let rest : node_items (front ++ e ∷ es) (leaf_nodes (suc (length front)) es) ≡ items_from (suc (length front)) es =
    subst (λ (xs : List KeyEntry). node_items xs (leaf_nodes (suc (length front)) es) ≡ items_from (suc (length front)) es) all
    (subst (λ (n : ℕ). node_items ((front ++ e ∷ []) ++ es) (leaf_nodes n es) ≡ items_from n es) len (leaf_items (front ++ e ∷ []) es)) in
    ap₂ (λ (k : Value) (xs : List Item). record { key = k; page = e.page; slot = e.slot; left = length front } ∷ xs) key rest

pub leaves_are : (es : List KeyEntry) → node_items es (leaf_nodes 0 es) ≡ items_of es
leaves_are es = leaf_items [] es

leaves_inside : (slots : List KeyEntry) (s n : ℕ) → s + length slots ≤ n → All (λ (e : KeyEntry). e.slot < 65536) slots → (k : ℕ) (d : Node) → k < length (leaf_nodes s slots) → ((get_or (leaf_nodes s slots) k d).place < n) × ((get_or (leaf_nodes s slots) k d).slot < 65536)
leaves_inside [] s n le h k d lt = absurd (omega arith)
leaves_inside (e ∷ es) s n le h zero d lt = (omega (arith, le), h 0 e (omega arith))
leaves_inside (e ∷ es) s n le h (suc k) d lt = leaves_inside es (suc s) n (omega (arith, le)) (λ j x l. h (suc j) x (omega arith)) k d (omega arith)

pub leaves_nodes : (es : List KeyEntry) → All (λ (e : KeyEntry). e.slot < 65536) es → All (IsNode es) (leaf_nodes 0 es)
leaves_nodes es h = leaves_inside es 0 (length es) (omega arith) h

pub length-leaves : (s : ℕ) (es : List KeyEntry) → length (leaf_nodes s es) ≡ length es
length-leaves s [] = refl
length-leaves s (e ∷ es) = ap suc (length-leaves (suc s) es)

-- ---- cutting

starts_last : (s : ℕ) (bs : List (List Item)) (b : List Item) → starts_of s (bs ++ b ∷ []) ≡ starts_of s bs ++ (s + length (joined bs)) ∷ []
starts_last s [] b = let e : s ≡ s + 0 = omega arith in ap (λ (k : ℕ). k ∷ []) e
starts_last s (c ∷ bs) b =
    let e : s + length c + length (joined bs) ≡ s + length (c ++ joined bs) = omega (arith, length-append c (joined bs)) in
    ap (λ (xs : List ℕ). s ∷ xs) (starts_last (s + length c) bs b ∙ ap (λ (k : ℕ). starts_of (s + length c) bs ++ k ∷ []) e)

joined_last : (bs : List (List Item)) (b : List Item) → joined (bs ++ b ∷ []) ≡ joined bs ++ b
joined_last [] b = append-nil b
joined_last (c ∷ bs) b = ap (λ (xs : List Item). c ++ xs) (joined_last bs b) ∙ sym (append_assoc c (joined bs) b)

pub record Cutting (level : ℕ) (blocks : List (List Item)) (starts : List ℕ) (used place : ℕ) (rest : List Item) : Type 0 where
  pub done : List (List Item)
  pub part : List Item
  pub all : blocks ≡ done ++ laid (weight level) 8172 part rest
  pub used_is : used ≡ weight_of (weight level) part
  pub within : used ≤ 8172
  pub begun : starts ≡ starts_of 0 (done ++ part ∷ [])
  pub at : length (joined done) + length part ≡ place

module _ (level : ℕ) (blocks : List (List Item)) where
  pub cut_starts : (items : List Item) → blocks ≡ laid (weight level) 8172 [] items → Cutting level blocks (0 ∷ []) 0 0 items
  cut_starts items e = record { done = []; part = []; all = e; used_is = refl; within = omega arith; begun = refl; at = refl }

  pub cut_more : (starts : List ℕ) (used place size : ℕ) (x : Item) (rest : List Item) → Cutting level blocks starts used place (x ∷ rest) → size ≡ weight level x → used + size ≤ 8172 → Cutting level blocks starts (used + size) (place + 1) rest
  cut_more starts used place size x rest c e le =
      let w : weight_of (weight level) (c.part ++ x ∷ []) ≡ used + size = weight-append (weight level) 8172 c.part (x ∷ []) ∙ omega (arith, e, c.used_is) in
      record {
        done = c.done;
        part = c.part ++ x ∷ [];
        all = c.all ∙ ap (λ (bs : List (List Item)). c.done ++ bs) (laid_more (weight level) 8172 c.part x rest (omega (arith, w, le)));
        used_is = sym w;
        within = le;
        begun = c.begun ∙ (starts_last 0 c.done c.part ∙ sym (starts_last 0 c.done (c.part ++ x ∷ [])));
        at = omega (arith, c.at, length-append c.part (x ∷ []));
      }

  pub cut_turns : (starts : List ℕ) (used place size : ℕ) (x : Item) (rest : List Item) → Cutting level blocks starts used place (x ∷ rest) → size ≡ weight level x → size ≤ 2010 → 8172 < used + size →
      Cutting level blocks (starts ++ place ∷ []) size (place + 1) rest
  cut_turns starts used place size x rest c e small over =
      let w : weight_of (weight level) (c.part ++ x ∷ []) ≡ used + size = weight-append (weight level) 8172 c.part (x ∷ []) ∙ omega (arith, e, c.used_is) in
      let at : length (joined (c.done ++ c.part ∷ [])) ≡ place = omega (arith, c.at, ap length (joined_last c.done c.part), length-append (joined c.done) c.part) in
      record {
        done = c.done ++ c.part ∷ [];
        part = x ∷ [];
        all = c.all ∙ (ap (λ (bs : List (List Item)). c.done ++ bs) (laid_next (weight level) 8172 c.part x rest (omega (arith, w, over))) ∙ sym (append_assoc c.done (c.part ∷ []) (laid (weight level) 8172 (x ∷ []) rest)));
        used_is = omega (arith, e);
        within = omega (arith, small);
        begun = ap₂ (λ (xs : List ℕ) (k : ℕ). xs ++ k ∷ []) c.begun (sym at ∙ omega arith) ∙ sym (starts_last 0 (c.done ++ c.part ∷ []) (x ∷ []));
        at = omega (arith, at);
      }

  pub cut_ends : (starts : List ℕ) (used place : ℕ) → Cutting level blocks starts used place [] → starts ≡ starts_of 0 blocks
  cut_ends starts used place c = c.begun ∙ ap (starts_of 0) (sym (c.all ∙ ap (λ (bs : List (List Item)). c.done ++ bs) (laid_end (weight level) 8172 c.part)))

-- a first part with no item makes no difference
pub laid_none : (level : ℕ) (items : List Item) → 0 < length items → AllByRecursion IsSmall items → blocks_of (weight level) 8172 items ≡ laid (weight level) 8172 [] items
laid_none level [] lt small = absurd (omega arith)
laid_none level (x ∷ xs) lt small = sym (laid_more (weight level) 8172 [] x xs (omega (arith, (weight_bounds level x small.0).1)))

-- ---- the level above

starts_below : (s n : ℕ) (bs : List (List Item)) → AllByRecursion (λ b. 0 < length b) bs → s + length (joined bs) ≤ n → (k d : ℕ) → k < length (starts_of s bs) → get_or (starts_of s bs) k d < n
starts_below s n [] some le k d lt = absurd (omega arith)
starts_below s n (b ∷ bs) some le zero d lt = omega (arith, some.0, le, length-append b (joined bs))
starts_below s n (b ∷ bs) some le (suc k) d lt = starts_below (s + length b) n bs some.1 (omega (arith, le, length-append b (joined bs))) k d (omega arith)

pub length-starts : (s : ℕ) (bs : List (List Item)) → length (starts_of s bs) ≡ length bs
length-starts s [] = refl
length-starts s (b ∷ bs) = ap suc (length-starts (s + length b) bs)

some_of : (level : ℕ) (bs : List (List Item)) → AllByRecursion (λ b. (0 < length b) × (weight_of (weight level) b ≤ 8172)) bs → AllByRecursion (λ b. 0 < length b) bs
some_of level [] h = tt
some_of level (b ∷ bs) h = (h.0.0, some_of level bs h.1)

pub starts_inside : (level : ℕ) (items : List Item) (bs : List (List Item)) → AreBlocks (weight level) 8172 items bs → All (λ start. start < length items) (starts_of 0 bs)
starts_inside level items bs h k d lt = starts_below 0 (length items) bs (some_of level bs h.fit) (omega (arith, ap length h.same)) k d lt

place_of : (es : List KeyEntry) (nodes : List Node) (s : ℕ) (x : Item) (more : List Item) → drop s (node_items es nodes) ≡ x ∷ more → (key_at es (place_at nodes s) ≡ x.key) × (place_at nodes s ≡ x.left)
place_of es [] zero x more e = absurd cc
place_of es [] (suc s) x more e = absurd cc
place_of es (n ∷ nodes) zero x more e = let k : node_item es n ≡ x = cc in (ap (λ (y : Item). y.key) k, ap (λ (y : Item). y.left) k)
place_of es (n ∷ nodes) (suc s) x more e = place_of es nodes s x more e

pub drop_more : {X : Type 0} (s : ℕ) (xs ys zs : List X) → drop s xs ≡ ys ++ zs → drop (s + length ys) xs ≡ zs
drop_more zero xs ys zs e = let z : 0 + length ys ≡ length ys = omega arith in rw (z, e) (drop_at ys zs (length ys) refl)
drop_more (suc s) [] [] zs e = let k : suc s + 0 ≡ suc s = omega arith in rw k e
drop_more (suc s) [] (y ∷ ys) zs e = absurd cc
drop_more (suc s) (x ∷ xs) ys zs e = let k : suc s + length ys ≡ suc (s + length ys) = omega arith in rw k (drop_more s xs ys zs e)

over_items : (es : List KeyEntry) (nodes : List Node) (base s : ℕ) (bs : List (List Item)) → AllByRecursion (λ b. 0 < length b) bs → drop s (node_items es nodes) ≡ joined bs → node_items es (nodes_over base nodes (starts_of s bs)) ≡ firsts base bs
over_items es nodes base s [] some e = refl
over_items es nodes base s ([] ∷ bs) some e = absurd (omega (arith, some.0))
over_items es nodes base s ((x ∷ xs) ∷ bs) some e =
    let p = place_of es nodes s x (xs ++ joined bs) e in
    let rest = over_items es nodes (suc base) (s + length (x ∷ xs)) bs some.1 (drop_more s (node_items es nodes) (x ∷ xs) (joined bs) e) in
    let one : ◌≡◌ {A = Item} (record { key = key_at es (place_at nodes s); page = base; slot = 0; left = place_at nodes s }) (up base x) = rw (p.0, p.1) refl in
    ap₂ (λ (y : Item) (ys : List Item). y ∷ ys) one rest

pub over_are : (es : List KeyEntry) (nodes : List Node) (level base : ℕ) (bs : List (List Item)) → AreBlocks (weight level) 8172 (node_items es nodes) bs → node_items es (nodes_over base nodes (starts_of 0 bs)) ≡ firsts base bs
over_are es nodes level base bs h = over_items es nodes base 0 bs (some_of level bs h.fit) (sym h.same)

place_in : (n : ℕ) (nodes : List Node) (s : ℕ) → s < length nodes → All (λ (x : Node). (x.place < n) × (x.slot < 65536)) nodes → place_at nodes s < n
place_in n [] s lt h = absurd (omega arith)
place_in n (x ∷ nodes) zero lt h = (h 0 x (omega arith)).0
place_in n (x ∷ nodes) (suc s) lt h = place_in n nodes s (omega arith) (λ k d l. h (suc k) d (omega arith))

pub over_nodes : (es : List KeyEntry) (nodes : List Node) (base : ℕ) (starts : List ℕ) → All (IsNode es) nodes → All (λ start. start < length nodes) starts → All (IsNode es) (nodes_over base nodes starts)
over_nodes es nodes base [] h inside k d lt = absurd (omega arith)
over_nodes es nodes base (s ∷ starts) h inside zero d lt = (place_in (length es) nodes s (inside 0 s (omega arith)) h, omega arith)
over_nodes es nodes base (s ∷ starts) h inside (suc k) d lt = over_nodes es nodes (suc base) starts h (λ j x l. inside (suc j) x (omega arith)) k d (omega arith)

pub length-over : (base : ℕ) (nodes : List Node) (starts : List ℕ) → length (nodes_over base nodes starts) ≡ length starts
length-over base nodes [] = refl
length-over base nodes (s ∷ starts) = ap suc (length-over (suc base) nodes starts)

pub over_here : (base i : ℕ) (nodes : List Node) (starts : List ℕ) (s : ℕ) → i < length starts → s ≡ get_or starts i 0 →
    nodes_over (base + i) nodes (drop i starts) ≡ record { place = place_at nodes s; page = base + i; slot = 0 } ∷ nodes_over (base + (i + 1)) nodes (drop (i + 1) starts)
over_here base i nodes [] s lt e = absurd (omega arith)
over_here base zero nodes (x ∷ starts) s lt e =
    let a : suc (base + 0) ≡ base + 1 = omega arith in
    ap (λ (k : ℕ). record { place = place_at nodes x; page = base + 0; slot = 0 } ∷ nodes_over k nodes starts) a
    ∙ ap (λ (y : ℕ). record { place = place_at nodes y; page = base + 0; slot = 0 } ∷ nodes_over (base + 1) nodes starts) (sym e)
over_here base (suc i) nodes (x ∷ starts) s lt e =
    let a : base + suc i ≡ suc base + i = omega arith in
    let b : suc i + 1 ≡ suc (i + 1) = omega arith in
    let c : base + suc (i + 1) ≡ suc base + (i + 1) = omega arith in
    rw (a, b, c) (over_here (suc base) i nodes starts s (omega arith) e)

-- ---- single steps of the loops

pub sized : (es : List KeyEntry) (n : Node) (level size more : ℕ) (d : KeyEntry) → n.place < length es → size ≡ length (value_bytes (get_or es n.place d).key) → length (tail_bytes level (node_item es n)) ≡ more → size + more ≡ weight level (node_item es n)
sized es n level size more d lt size_is tail =
    let key : length (value_bytes (key_at es n.place)) ≡ length (value_bytes (get_or es n.place d).key) = ap (λ (v : Value). length (value_bytes v)) (key_got es n.place d lt) in
    omega (arith, weight_is level (node_item es n), key, size_is, tail)

pub items_at : (es : List KeyEntry) (nodes : List Node) (i : ℕ) (d : Node) → i < length nodes → drop i (node_items es nodes) ≡ node_item es (get_or nodes i d) ∷ drop (i + 1) (node_items es nodes)
items_at es [] i d lt = absurd (omega arith)
items_at es (x ∷ nodes) zero d lt = refl
items_at es (x ∷ nodes) (suc i) d lt = let k : suc i + 1 ≡ suc (i + 1) = omega arith in rw k (items_at es nodes i d (omega arith))

module _ (es : List KeyEntry) (nodes : List Node) (level : ℕ) (blocks : List (List Item)) (starts : List ℕ) (used place size : ℕ) (d : Node) (lt : place < length nodes)
    (c : Cutting level blocks starts used place (drop place (node_items es nodes))) (e : size ≡ weight level (node_item es (get_or nodes place d))) where
  at_node : Cutting level blocks starts used place (node_item es (get_or nodes place d) ∷ drop (place + 1) (node_items es nodes))
  at_node = subst (Cutting level blocks starts used place) (items_at es nodes place d lt) c

  pub step_more : used + size ≤ 8172 → Cutting level blocks starts (used + size) (place + 1) (drop (place + 1) (node_items es nodes))
  step_more le = cut_more level blocks starts used place size (node_item es (get_or nodes place d)) (drop (place + 1) (node_items es nodes)) at_node e le

  pub step_turns : size ≤ 2010 → 8172 < used + size → Cutting level blocks (starts ++ place ∷ []) size (place + 1) (drop (place + 1) (node_items es nodes))
  step_turns small over = cut_turns level blocks starts used place size (node_item es (get_or nodes place d)) (drop (place + 1) (node_items es nodes)) at_node e small over

pub step_ends : (es : List KeyEntry) (nodes : List Node) (level : ℕ) (blocks : List (List Item)) (starts : List ℕ) (used place : ℕ) → length nodes ≤ place → Cutting level blocks starts used place (drop place (node_items es nodes)) → starts ≡ starts_of 0 blocks
step_ends es nodes level blocks starts used place le c =
    cut_ends level blocks starts used place (subst (Cutting level blocks starts used place) (drop_all place (node_items es nodes) (omega (arith, le, length-map nodes (node_item es)))) c)

place_got : (nodes : List Node) (s : ℕ) (d : Node) → s < length nodes → place_at nodes s ≡ (get_or nodes s d).place
place_got [] s d lt = absurd (omega arith)
place_got (x ∷ nodes) zero d lt = refl
place_got (x ∷ nodes) (suc s) d lt = place_got nodes s d (omega arith)

pub over_step : (base i : ℕ) (nodes : List Node) (starts : List ℕ) (found new all : List Node) (d : Node) (k : ℕ) → i < length starts → All (λ start. start < length nodes) starts → found ++ nodes_over (base + i) nodes (drop i starts) ≡ all →
    new ≡ found ++ record { place = (get_or nodes (get_or starts i k) d).place; page = base + i; slot = 0 } ∷ [] → new ++ nodes_over (base + (i + 1)) nodes (drop (i + 1) starts) ≡ all
over_step base i nodes starts found new all d k lt inside h e =
    let same : get_or starts i k ≡ get_or starts i 0 = same_default starts i k 0 lt in
    let there : place_at nodes (get_or starts i k) ≡ (get_or nodes (get_or starts i k) d).place = place_got nodes (get_or starts i k) d (inside i k lt) in
    let one = over_here base i nodes starts (get_or starts i k) lt same in
    let rest = nodes_over (base + (i + 1)) nodes (drop (i + 1) starts) in
    ap (λ (xs : List Node). xs ++ rest) e
    ∙ (append_assoc found _ rest ∙ (ap (λ (p : ℕ). found ++ record { place = p; page = base + i; slot = 0 } ∷ rest) (sym there) ∙ (ap (λ (xs : List Node). found ++ xs) (sym one) ∙ h))) where
      same_default : (xs : List ℕ) (j a b : ℕ) → j < length xs → get_or xs j a ≡ get_or xs j b
      same_default [] j a b l = absurd (omega arith)
      same_default (x ∷ xs) zero a b l = refl
      same_default (x ∷ xs) (suc j) a b l = same_default xs j a b (omega arith)

-- ---- the levels

small_from : (n : ℕ) (es : List KeyEntry) → AreKeys es → AllByRecursion IsSmall (items_from n es)
small_from n [] h = tt
small_from n (e ∷ es) h = (storable_small e.key (h 0 e (omega arith)), small_from (suc n) es (λ k d lt. h (suc k) d (omega arith)))

length-items : (n : ℕ) (es : List KeyEntry) → length (items_from n es) ≡ length es
length-items n [] = refl
length-items n (e ∷ es) = ap suc (length-items (suc n) es)

module _ (es : List KeyEntry) (keys : AreKeys es) (some : 0 < length es) (few : length es ≤ 1000000) where
  made : AreLevels 0 0 (items_of es) (levels_of es)
  made = levels_made (length es) 0 0 (items_of es) (omega (arith, length-items 0 es, some)) (omega (arith, length-items 0 es)) (small_from 0 es keys)

  pub pages_bound : (file : ℕ) → length (index_pages file es) ≤ 2000000
  pages_bound file = omega (arith, length-pages file 0 0 (levels_of es), few_pages 0 0 (items_of es) (levels_of es) made (small_from 0 es keys), length-items 0 es, few)

  pub levels_bound : length (levels_of es) ≤ 20
  levels_bound = few_levels 19 0 0 (items_of es) (levels_of es) made (small_from 0 es keys) (omega (arith, length-items 0 es, few))

pub first_is : (es : List KeyEntry) (nodes : Vec Node) (starts : Vec ℕ) → 0 < length es → All (λ (e : KeyEntry). e.slot < 65536) es → nodes.items ≡ leaf_nodes 0 es → starts.items ≡ starts_of 0 (level_blocks es nodes.items 0) →
    IsLevel es (record { nodes = nodes; starts = starts; number = 0; base = 0 })
first_is es nodes starts lt slots e s =
    let items : node_items es nodes.items ≡ items_of es = ap (node_items es) e ∙ leaves_are es in
    let len : length nodes.items ≡ length es = ap length e ∙ length-leaves 0 es in
    record {
      most = length es;
      some = omega (arith, len, lt);
      enough = omega (arith, len);
      nodes = subst (λ (ns : List Node). All (IsNode es) ns) (sym e) (leaves_nodes es slots);
      starts = s;
      height = rw items (omega arith);
      count = λ file. rw items (omega arith);
      pages = λ file. rw items refl;
    }

module _ (es : List KeyEntry) (level : Level) (h : IsLevel es level) (keys : AreKeys es) where
  abbrev items : List Item
  items = node_items es level.nodes.items

  abbrev b : List (List Item)
  b = level_blocks es level.nodes.items level.number

  small : AllByRecursion IsSmall (node_items es level.nodes.items)
  small = small_items es level.nodes.items keys h.nodes

  pub blocks_are : AreBlocks (weight level.number) 8172 (node_items es level.nodes.items) (level_blocks es level.nodes.items level.number)
  blocks_are = cut level.number (node_items es level.nodes.items) small

  pub starts_count : length level.starts.items ≡ length (level_blocks es level.nodes.items level.number)
  starts_count = ap length h.starts ∙ length-starts 0 (level_blocks es level.nodes.items level.number)

  length-nodes : length (node_items es level.nodes.items) ≡ length level.nodes.items
  length-nodes = length-map level.nodes.items (node_item es)

  pub levels_here : (rest : List (List (List Item))) × (levels_from h.most level.number level.base (node_items es level.nodes.items) ≡ level_blocks es level.nodes.items level.number ∷ rest)
  unfolding levels_from
  levels_here = by h.most h.enough where
    by : (most : ℕ) → length level.nodes.items ≤ most → (rest : List (List (List Item))) × (levels_from most level.number level.base (node_items es level.nodes.items) ≡ level_blocks es level.nodes.items level.number ∷ rest)
    by zero le = absurd (omega (arith, h.some, le))
    by (suc m) le = (_, refl)

  pub levels_above : 1 < length level.starts.items → (m : ℕ) × (h.most ≡ suc m) × (levels_from h.most level.number level.base (node_items es level.nodes.items) ≡ level_blocks es level.nodes.items level.number
      ∷ levels_from m (suc level.number) (level.base + length (level_blocks es level.nodes.items level.number)) (firsts level.base (level_blocks es level.nodes.items level.number)))
  unfolding levels_from
  levels_above lt = by h.most h.enough where
    by : (most : ℕ) → length level.nodes.items ≤ most → (m : ℕ) × (most ≡ suc m) × (levels_from most level.number level.base (node_items es level.nodes.items) ≡ level_blocks es level.nodes.items level.number
        ∷ levels_from m (suc level.number) (level.base + length (level_blocks es level.nodes.items level.number)) (firsts level.base (level_blocks es level.nodes.items level.number)))
    by zero le = absurd (omega (arith, h.some, le))
    by (suc m) le = let more : ltb 1 (length (level_blocks es level.nodes.items level.number)) ≡ true = lt-ltb 1 (length (level_blocks es level.nodes.items level.number)) (omega (arith, lt, starts_count)) in (m, refl, rw more refl)

  pub levels_end : length level.starts.items ≤ 1 → levels_from h.most level.number level.base (node_items es level.nodes.items) ≡ level_blocks es level.nodes.items level.number ∷ []
  unfolding levels_from
  levels_end le1 = by h.most h.enough where
    by : (most : ℕ) → length level.nodes.items ≤ most → levels_from most level.number level.base (node_items es level.nodes.items) ≡ level_blocks es level.nodes.items level.number ∷ []
    by zero le = absurd (omega (arith, h.some, le))
    by (suc m) le = let more : ltb 1 (length (level_blocks es level.nodes.items level.number)) ≡ false = le-ltb 1 (length (level_blocks es level.nodes.items level.number)) (omega (arith, le1, starts_count)) in rw more refl

  pub inside : All (λ start. start < length level.nodes.items) level.starts.items
  inside = subst (λ (ss : List ℕ). All (λ start. start < length level.nodes.items) ss) (sym h.starts)
      (λ k d lt. omega (arith, length-nodes, starts_inside level.number (node_items es level.nodes.items) (level_blocks es level.nodes.items level.number) blocks_are k d lt))

  pub below_pages : (file : ℕ) → level.base + length level.starts.items ≤ length (index_pages file es)
  below_pages file =
      let l = levels_here in
      let c = h.count file in
      let p = ap (λ (ls : List (List (List Item))). length (pages_of_levels file level.number level.base ls)) l.1 in
      omega (
        arith,
        c,
        p,
        length-append (level_pages file level.number level.base (level_blocks es level.nodes.items level.number)) (pages_of_levels file (suc level.number) (level.base + length (level_blocks es level.nodes.items level.number)) l.0),
        length-level file level.number level.base (level_blocks es level.nodes.items level.number),
        starts_count,
      )

  pub below_height : level.number < length (levels_of es)
  below_height = omega (arith, h.height, ap length levels_here.1)

  pub shrinks : 1 < length level.starts.items → length level.starts.items < length level.nodes.items
  shrinks lt = omega (arith, lt, starts_count, length-nodes, fewer level.number (node_items es level.nodes.items) small)

  pub above_is : (nodes : Vec Node) (starts : Vec ℕ) (number base : ℕ) → 1 < length level.starts.items → number ≡ suc level.number → base ≡ level.base + length level.starts.items → nodes.items ≡ nodes_over level.base level.nodes.items level.starts.items →
      starts.items ≡ starts_of 0 (level_blocks es nodes.items number) → IsLevel es (record { nodes = nodes; starts = starts; number = number; base = base })
  above_is nodes starts number base lt n_is b_is nodes_are starts_are =
      let up_levels = levels_above lt in
      let rest = levels_from up_levels.0 (suc level.number) (level.base + length (level_blocks es level.nodes.items level.number)) (firsts level.base (level_blocks es level.nodes.items level.number)) in
      let items_are : node_items es nodes.items ≡ firsts level.base (level_blocks es level.nodes.items level.number) =
      ap (λ (ns : List Node). node_items es ns) nodes_are ∙ (ap (λ (ss : List ℕ). node_items es (nodes_over level.base level.nodes.items ss)) h.starts ∙ over_are es level.nodes.items level.number level.base (level_blocks es level.nodes.items level.number) blocks_are) in
      let base_is : base ≡ level.base + length (level_blocks es level.nodes.items level.number) = omega (arith, b_is, starts_count) in
      let len : length nodes.items ≡ length level.starts.items = ap length nodes_are ∙ length-over level.base level.nodes.items level.starts.items in
      let same : levels_from up_levels.0 number base (node_items es nodes.items) ≡ rest = rw (n_is, base_is, items_are) refl in
      let height : length (levels_of es) ≡ suc level.number + length rest = omega (arith, h.height, ap length up_levels.2) in
      let pages : (file : ℕ) → pages_of_levels file level.number level.base (levels_from h.most level.number level.base (node_items es level.nodes.items)) ≡ level_pages file level.number level.base (level_blocks es level.nodes.items level.number) ++ pages_of_levels file (suc level.number) (level.base + length (level_blocks es level.nodes.items level.number)) rest =
      λ file. ap (pages_of_levels file level.number level.base) up_levels.2 in
      let same_pages : (file : ℕ) → pages_of_levels file number base (levels_from up_levels.0 number base (node_items es nodes.items)) ≡ pages_of_levels file (suc level.number) (level.base + length (level_blocks es level.nodes.items level.number)) rest =
      λ file. rw (same, n_is, base_is) refl in
      let size : (file : ℕ) → length (level_pages file level.number level.base (level_blocks es level.nodes.items level.number)) ≡ length (level_blocks es level.nodes.items level.number) = λ file. length-level file level.number level.base (level_blocks es level.nodes.items level.number) in
      record {
        most = up_levels.0;
        some = omega (arith, len, lt);
        enough = omega (arith, len, lt, starts_count, length-nodes, fewer level.number (node_items es level.nodes.items) small, h.enough, up_levels.1);
        nodes = subst (λ (ns : List Node). All (IsNode es) ns) (sym nodes_are) (over_nodes es level.nodes.items level.base level.starts.items h.nodes inside);
        starts = starts_are;
        height = omega (arith, height, n_is, ap length same);
        count = λ file. omega (arith, h.count file, ap length (pages file), length-append (level_pages file level.number level.base (level_blocks es level.nodes.items level.number)) (pages_of_levels file (suc level.number) (level.base + length (level_blocks es level.nodes.items level.number)) rest), size file, ap length (same_pages file), base_is);
        pages = λ file. ap (λ (n : ℕ). drop n (index_pages file es)) (base_is ∙ ap (λ (n : ℕ). level.base + n) (sym (size file)))
            ∙ (drop_more level.base (index_pages file es) (level_pages file level.number level.base (level_blocks es level.nodes.items level.number)) (pages_of_levels file (suc level.number) (level.base + length (level_blocks es level.nodes.items level.number)) rest) (h.pages file ∙ pages file) ∙ sym (same_pages file));
      }

  pub some_entries : 0 < length es
  some_entries = omega (arith, (h.nodes 0 (record { place = 0; page = 0; slot = 0 }) h.some).0)

  pub base_small : length es ≤ 1000000 → level.base + length level.starts.items ≤ 2000000
  base_small few = omega (arith, below_pages 0, pages_bound es keys some_entries few 0)

  pub number_small : length es ≤ 1000000 → level.number < 20
  number_small few = omega (arith, below_height, levels_bound es keys some_entries few)

  pub nodes_few : length es ≤ 1000000 → length level.starts.items ≤ 2000000
  nodes_few few = omega (arith, base_small few)

  pub above_nodes : (nodes : List Node) → nodes ≡ nodes_over level.base level.nodes.items level.starts.items → All (IsNode es) nodes
  above_nodes nodes e = subst (λ (ns : List Node). All (IsNode es) ns) (sym e) (over_nodes es level.nodes.items level.base level.starts.items h.nodes inside)

  pub some_blocks : 0 < length (level_blocks es level.nodes.items level.number)
  some_blocks = by (level_blocks es level.nodes.items level.number) blocks_are where
    by : (bs : List (List Item)) → AreBlocks (weight level.number) 8172 (node_items es level.nodes.items) bs → 0 < length bs
    by [] a = absurd (omega (arith, ap length a.same, length-nodes, h.some))
    by (c ∷ bs) a = omega arith

  pub root_pages : length level.starts.items ≤ 1 → (file : ℕ) → length (index_pages file es) ≡ level.base + 1
  root_pages le file =
      let p = ap (λ (ls : List (List (List Item))). length (pages_of_levels file level.number level.base ls)) (levels_end le) in
      omega (arith, h.count file, p, length-append (level_pages file level.number level.base (level_blocks es level.nodes.items level.number)) [], length-level file level.number level.base (level_blocks es level.nodes.items level.number), starts_count, some_blocks, le)

  pub root_height : length level.starts.items ≤ 1 → length (levels_of es) ≡ level.number + 1
  root_height le = omega (arith, h.height, ap length (levels_end le))

-- ---- the entries of an index

pub type_storable : (t : ColType) (v : Value) → IsOfType t v → IsStorable v
type_storable col.Int4 Null h = elim h [ ]
type_storable col.Int4 (Number n) h = h
type_storable col.Int4 (Word w) h = elim h [ ]
type_storable col.Int4 (Truth b) h = elim h [ ]
type_storable col.Text Null h = elim h [ ]
type_storable col.Text (Number n) h = elim h [ ]
type_storable col.Text (Word w) h = h.1
type_storable col.Text (Truth b) h = elim h [ ]
type_storable col.Bool Null h = elim h [ ]
type_storable col.Bool (Number n) h = elim h [ ]
type_storable col.Bool (Word w) h = elim h [ ]
type_storable col.Bool (Truth b) h = tt

pub keys_of : (t : ColType) (heap : ℕ) (es : List KeyEntry) → AllByRecursion (IsEntry t heap) es → AreKeys es
keys_of t heap [] h k d lt = absurd (omega arith)
keys_of t heap (e ∷ es) h zero d lt = type_storable t e.key h.0.0
keys_of t heap (e ∷ es) h (suc k) d lt = keys_of t heap es h.1 k d (omega arith)

pub slots_of : (t : ColType) (heap : ℕ) (es : List KeyEntry) → AllByRecursion (IsEntry t heap) es → All (λ (e : KeyEntry). e.slot < 65536) es
slots_of t heap [] h k d lt = absurd (omega arith)
slots_of t heap (e ∷ es) h zero d lt = h.0.2
slots_of t heap (e ∷ es) h (suc k) d lt = slots_of t heap es h.1 k d (omega arith)

pub planned : (t : ColType) (file heap : ℕ) (es : List KeyEntry) (level : Level) (count pages height : ℕ) → IsLevel es level → AreEntries t heap es → length level.starts.items ≤ 1 → count ≡ length es → pages ≡ level.base + 1 → height ≡ level.number + 1 →
    ◌≡◌ {A = KeyIndex} (record { file = file; key_type = t; entries = count; pages = pages; height = height; heap_pages = heap }) (index_of file t heap es)
planned t file heap es level count pages height h a le c p n =
    let keys = keys_of t heap es a.each in
    rw (c, p, n, root_pages es level h keys le file, root_height es level h keys le) refl

pub planned_none : (t : ColType) (file heap count : ℕ) (es : List KeyEntry) → length es ≡ 0 → count ≡ length es →
    ◌≡◌ {A = KeyIndex} (record { file = file; key_type = t; entries = count; pages = 0; height = 0; heap_pages = heap }) (index_of file t heap es)
unfolding levels_from
planned_none t file heap count [] z c = rw c refl
planned_none t file heap count (e ∷ es) z c = absurd (omega (arith, z))
