-- The bytes of a page, part by part.
use Rattle.std.proofs.Common.{◌≡◌, ℕ, zero, suc, ◌+◌, ◌-◌, ◌<◌, ◌≤◌, List, [], ◌∷◌, ◌++◌, length, get_or, drop, flat_map, refl, sym, ap, ◌∙◌, arith, append_assoc, length-append}
use Rattle.std.specs.Int.{w16, w32, to_be_bytes}
use Rattle.heap_page.specs.Pages.{zeros}
use Rattle.rows.specs.declared.plain.KeyEntry.{KeyEntry}
use Rattle.rows.specs.RowBytes.{value_bytes}
use Rattle.key_index.specs.Bytes.{head_of, item_bytes, page_of, tail_bytes}
use Rattle.key_index.specs.Entries.{Item}
use Rattle.key_index.specs.declared.node.Node.{Node}
use Rattle.key_index.specs.Nodes.{key_at, node_item, node_items}
use Rattle.key_index.proofs.Nodes.{items_at, key_got}
use Rattle.key_index.proofs.Written.{length-head, length-page}

pub seven : (o a b c d e f g : List ℕ) → ((((((o ++ a) ++ b) ++ c) ++ d) ++ e) ++ f) ++ g ≡ o ++ (a ++ (b ++ (c ++ (d ++ (e ++ (f ++ g))))))
seven o a b c d e f g = simp append_assoc

tail_leaf : (level : ℕ) (e : Item) → level ≡ 0 → tail_bytes level e ≡ to_be_bytes w32 e.page ++ to_be_bytes w16 e.slot
tail_leaf zero e h = refl
tail_leaf (suc level) e h = absurd (omega (arith, h))

tail_above : (level : ℕ) (e : Item) → (level ≡ 0 → ⊥) → tail_bytes level e ≡ to_be_bytes w32 e.page ++ to_be_bytes w32 e.left
tail_above zero e h = absurd (h refl)
tail_above (suc level) e h = refl

item_put : (es : List KeyEntry) (n : Node) (level : ℕ) (d : KeyEntry) (old keyed new tail : List ℕ) → n.place < length es → keyed ≡ old ++ value_bytes (get_or es n.place d).key → tail_bytes level (node_item es n) ≡ tail → new ≡ keyed ++ tail →
    new ≡ old ++ item_bytes level (node_item es n)
item_put es n level d old keyed new tail lt k t e =
    let key : value_bytes (get_or es n.place d).key ≡ value_bytes (key_at es n.place) = ap value_bytes (sym (key_got es n.place d lt)) in
    e ∙ (ap (λ (xs : List ℕ). xs ++ tail) (k ∙ ap (λ (xs : List ℕ). old ++ xs) key) ∙ (append_assoc old (value_bytes (key_at es n.place)) tail ∙ ap (λ (xs : List ℕ). old ++ (value_bytes (key_at es n.place) ++ xs)) (sym t)))

pub leaf_put : (es : List KeyEntry) (n : Node) (level : ℕ) (d : KeyEntry) (old keyed new : List ℕ) → n.place < length es → keyed ≡ old ++ value_bytes (get_or es n.place d).key → level ≡ 0 →
    new ≡ keyed ++ (to_be_bytes w32 n.page ++ to_be_bytes w16 n.slot) → new ≡ old ++ item_bytes level (node_item es n)
leaf_put es n level d old keyed new lt k z e = item_put es n level d old keyed new (to_be_bytes w32 n.page ++ to_be_bytes w16 n.slot) lt k (tail_leaf level (node_item es n) z) e

pub above_put : (es : List KeyEntry) (n : Node) (level : ℕ) (d : KeyEntry) (old keyed new : List ℕ) → n.place < length es → keyed ≡ old ++ value_bytes (get_or es n.place d).key → (level ≡ 0 → ⊥) →
    new ≡ keyed ++ (to_be_bytes w32 n.page ++ to_be_bytes w32 n.place) → new ≡ old ++ item_bytes level (node_item es n)
above_put es n level d old keyed new lt k z e = item_put es n level d old keyed new (to_be_bytes w32 n.page ++ to_be_bytes w32 n.place) lt k (tail_above level (node_item es n) z) e

pub node_put : (es : List KeyEntry) (nodes : List Node) (level i : ℕ) (d : Node) (old new all : List ℕ) → i < length nodes → old ++ flat_map (item_bytes level) (drop i (node_items es nodes)) ≡ all →
    new ≡ old ++ item_bytes level (node_item es (get_or nodes i d)) → new ++ flat_map (item_bytes level) (drop (i + 1) (node_items es nodes)) ≡ all
node_put es nodes level i d old new all lt h e =
    let one = ap (flat_map (item_bytes level)) (items_at es nodes i d lt) in
    let rest = flat_map (item_bytes level) (drop (i + 1) (node_items es nodes)) in
    ap (λ (xs : List ℕ). xs ++ rest) e ∙ (append_assoc old (item_bytes level (node_item es (get_or nodes i d))) rest ∙ (ap (λ (xs : List ℕ). old ++ xs) (sym one) ∙ h))

pub zero_put : (count place : ℕ) (old new all : List ℕ) → place < count → old ++ zeros (count - place) ≡ all → new ≡ old ++ 0 ∷ [] → new ++ zeros (count - (place + 1)) ≡ all
zero_put count place old new all lt h e =
    let k : count - place ≡ suc (count - (place + 1)) = omega (arith, lt) in
    ap (λ (xs : List ℕ). xs ++ zeros (count - (place + 1))) e ∙ (append_assoc old (0 ∷ []) (zeros (count - (place + 1))) ∙ (ap (λ (n : ℕ). old ++ zeros n) (sym k) ∙ h))

module _ (file number level : ℕ) (items : List Item) (out headed filled whole : List ℕ) (len free : ℕ) (empty : out ≡ []) (head : headed ≡ out ++ head_of file number level (length items)) (body : filled ≡ headed ++ flat_map (item_bytes level) items)
    (fits : length (flat_map (item_bytes level) items) ≤ 8172) (len_is : len ≡ length filled) where
  begun : headed ≡ head_of file number level (length items)
  begun = head ∙ ap (λ (xs : List ℕ). xs ++ head_of file number level (length items)) empty

  sizes : len ≡ 20 + length (flat_map (item_bytes level) items)
  sizes = omega (arith, len_is, ap length body, length-append headed (flat_map (item_bytes level) items), ap length begun, length-head file number level items)

  pub room : len ≤ 8192
  room = omega (arith, sizes, fits)

  pub whole_page : free ≡ 8192 - len → whole ≡ filled ++ zeros free → whole ≡ page_of file number level items
  unfolding page_of
  whole_page f w =
      let left : free ≡ 8172 - length (flat_map (item_bytes level) items) = omega (arith, f, sizes, fits) in
      w ∙ (ap (λ (xs : List ℕ). xs ++ zeros free) (body ∙ ap (λ (xs : List ℕ). xs ++ flat_map (item_bytes level) items) begun)
      ∙ (append_assoc (head_of file number level (length items)) (flat_map (item_bytes level) items) (zeros free) ∙ ap (λ (n : ℕ). head_of file number level (length items) ++ (flat_map (item_bytes level) items ++ zeros n)) left))

  pub page_length : free ≡ 8192 - len → whole ≡ filled ++ zeros free → length whole ≡ 8192
  page_length f w = ap length (whole_page f w) ∙ length-page file number level items fits
