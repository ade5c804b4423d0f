-- What a table says of a set's chosen tree.
use Rattle.std.proofs.Common.{◌≡◌, ◌∙◌, sym, refl, ℕ, ◌-◌, ◌<◌, List, Some, length, get_or}
use Rattle.std.specs.List.{slice_get}
use Rattle.std.proofs.lemmas.Option.{slice_get_within, slice_get-get_or}
use Rattle.seq_optimizer.specs.declared.table.Entry.{Entry}
use Rattle.seq_optimizer.specs.declared.table.Choice.{Choice}
use Rattle.seq_optimizer.specs.declared.table.Choice.TheVariants as choice
use Rattle.plan_tree.specs.declared.tree.Way.{Way}
use Rattle.seq_optimizer.specs.Tables.{Outline, node, mask_of, leaf}
use Rattle.seq_optimizer.specs.Tables.{Says}

pub within : (table : List Entry) (m : ℕ) (t : Outline) → Says table m t → m < length table
unfolding Says
within table m (leaf v how) h = slice_get_within table m h.0 h.1
within table m (node a b) h = slice_get_within table m h.0 h.1

same_entry : (table : List Entry) (m : ℕ) (e f : Entry) (x : Choice) → slice_get table m ≡ Some e → slice_get table m ≡ Some f → e.choice ≡ x → f.choice ≡ x
same_entry table m e f x p q h = let same : e ≡ f = cc in rw (← same) h

pub scan_said : (table : List Entry) (m : ℕ) (e : Entry) (v : ℕ) (how : Way) (t : Outline) → slice_get table m ≡ Some e → e.choice ≡ choice.Scan v how → Says table m t → t ≡ leaf v how
unfolding Says
scan_said table m e v how (leaf u other) at is h = let here = same_entry table m e h.0 _ at h.1 is in let both : choice.Scan u other ≡ choice.Scan v how = sym h.2 ∙ here in cc
scan_said table m e v how (node a b) at is h = let here = same_entry table m e h.0 _ at h.1 is in let both : choice.Join (mask_of a) ≡ choice.Scan v how = sym h.2 ∙ here in cc

-- the two sides of a join that the table says
pub record Sides (table : List Entry) (m b : ℕ) (t : Outline) : Type 0 where
  pub left : Outline
  pub right : Outline
  pub is : t ≡ node left right
  pub left_set : mask_of left ≡ b
  pub some : 0 < b
  pub part : b < m
  pub says_left : Says table b left
  pub says_right : Says table (m - b) right

pub join_said : (table : List Entry) (m : ℕ) (e : Entry) (b : ℕ) (t : Outline) → slice_get table m ≡ Some e → e.choice ≡ choice.Join b → Says table m t → Sides table m b t
unfolding Says
join_said table m e b (leaf u other) at is h = let here = same_entry table m e h.0 _ at h.1 is in let both : choice.Scan u other ≡ choice.Join b = sym h.2 ∙ here in cc
join_said table m e b (node c d) at is h =
    let here = same_entry table m e h.0 _ at h.1 is in
    let both : choice.Join (mask_of c) ≡ choice.Join b = sym h.2 ∙ here in
    let set : mask_of c ≡ b = cc in
    record { left = c; right = d; is = refl; left_set = set; some = rw (← set) h.4; part = rw (← set) h.3; says_left = rw (← set) h.5; says_right = rw (← set) h.6 }

pub entry_at : (table : List Entry) (m : ℕ) (e : Entry) → m < length table → slice_get table m ≡ Some (get_or table m e)
entry_at table m e lt = slice_get-get_or table m e lt

-- the same, where the entry was read at its place
pub sides_at : (table : List Entry) (m b : ℕ) (d : Entry) (t : Outline) → (get_or table m d).choice ≡ choice.Join b → Says table m t → Sides table m b t
sides_at table m b d t is h = join_said table m (get_or table m d) b t (slice_get-get_or table m d (within table m t h)) is h

pub scan_at : (table : List Entry) (m v : ℕ) (how : Way) (d : Entry) (t : Outline) → (get_or table m d).choice ≡ choice.Scan v how → Says table m t → t ≡ leaf v how
scan_at table m v how d t is h = scan_said table m (get_or table m d) v how t (slice_get-get_or table m d (within table m t h)) is h
